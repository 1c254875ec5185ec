use denote.Exit.{no}
use denote.Param.Send.{param_send, param_sync, arg_send, arg_sync, shr_sync}
use Rattle.voice_model.proofs.tapes.Tapes.TheSendSync.{the_sync as tapes_sync}
use Rattle.voice_server.specs.Kept.{IsKept, history_of, origin_of}
use Rattle.voice_server.proofs.Moving.{pass_moves, hall_shared}
use Rattle.turn_measures.proofs.Sharing.{four_shared}
use Rattle.turn_measures.proofs.session.Session.TheSendSync.{the_sync as session_sync}
use Rattle.turn_measures.proofs.crowd.run_all.Goals as goal

pub for_each_mut-requires-send-T : goal.for_each_mut-requires-send-T
for_each_mut-requires-send-T g c κs within = param_send 1 _ (arg_send _ no _ (pass_moves _ g.D.Disk (record { origin = origin_of; history = history_of; stands = λ s. IsKept g.D.Disk.told s.store }) c.type_bounds.send-D))

pub for_each_mut-requires-sync-F : goal.for_each_mut-requires-sync-F
for_each_mut-requires-sync-F g c κs within =
    param_sync 2 _ (arg_sync _ no _ (four_shared _ _ _ _ _ (shr_sync _ _ _ c.type_bounds.sync-R) (shr_sync _ _ _ (hall_shared _ g.D.Disk _ c.type_bounds.send-D)) (shr_sync _ _ _ tapes_sync) (shr_sync _ _ _ session_sync)))
