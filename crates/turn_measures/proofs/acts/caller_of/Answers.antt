use denote.Exit.{no}
use denote.Param.Send.{param_send, arg_send}
use Rattle.voice_server.proofs.Moving.{standing_send}
use Rattle.turn_measures.proofs.acts.caller_of.Goals as goal

pub caller-requires-send-T : goal.caller-requires-send-T
caller-requires-send-T g c κs within = param_send 0 _ (arg_send _ no _ (standing_send _ g.D.Disk c.type_bounds.send-D))
