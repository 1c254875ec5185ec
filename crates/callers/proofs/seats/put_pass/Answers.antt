use denote.Exit.{no}
use denote.Param.Send.{param_send, arg_send}
use Rattle.voice_server.proofs.Moving.{standing_send}
use Rattle.callers.proofs.seats.put_pass.Goals as goal

pub end-requires-send-T : goal.end-requires-send-T
end-requires-send-T g c κs within = param_send 0 _ (arg_send _ no _ (standing_send _ g.D.Disk c.type_bounds.send-D))
