-- A store may go to another thread.
use denote.RattleType.{RattleType}
use denote.Struct.Field.{row_field, bool-field}
use denote.Param.Send.{IsSend, plain_send, view_send}
use denote.Param.SendFields.{declared_send, as_row_send}
use Rattle.std.specs.contracts.snapshot.Snapshot.{the_row as snapshot_row}
use Rattle.voice_outside.specs.declared.disk.Disk.{Ghosts}
use Rattle.voice_store.specs.contracts.store.Store.TheInside.{the_type, the_row as inside_row}
use Rattle.voice_store.specs.contracts.store.Store.{the_row}
use Rattle.voice_store.proofs.inside.Inside.TheSendSync.{the_send}

-- a snapshot owns nothing
snapshot_send : (T : RattleType) → IsSend (snapshot_row T)
snapshot_send T = record { owned = λ d vs. ((λ vss. (tt, ((λ uss. (tt, tt)), tt))), tt); leaving = λ k f vs. tt }

pub store_send : (T : RattleType) (g : Ghosts T.Denot) → IsSend T → IsSend (the_row T g)
store_send T g s = view_send (inside_row T g) _ _ _ _ (declared_send (the_type T g) (as_row_send (row_field T) s, (snapshot_send T, (the_send, (as_row_send bool-field (plain_send _ _ _ _ _), tt)))))
