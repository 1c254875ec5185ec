-- A store may go to another thread, and so may a pass; a server may be shared.
use denote.RattleType.{RattleType}
use denote.Param.Send.{IsSend, IsSync}
use denote.Param.SendFields.{declared_send}
use Rattle.voice_outside.specs.declared.disk.Disk.{Ghosts}
use Rattle.voice_store.proofs.Sending.{store_send}
use Rattle.voice_server.specs.contracts.standing.Standing.{the_type as standing_type, the_row as standing_row}
use Rattle.voice_server.specs.contracts.born.Born.{the_row as born_row}
use Rattle.voice_server.specs.contracts.hall.Hall.{the_row as hall_row}
use Rattle.voice_server.proofs.hall.Hall.TheSendSync.{the_sync as hall_sync}
use Rattle.turnstile.specs.declared.stands.Stands.{Ghosts as Stood}
use Rattle.turnstile.specs.contracts.parts.Pass.{the_row as pass_row}
use Rattle.turnstile.proofs.parts.Pass.TheSendSync.{the_send as pass_send}

pub standing_send : (T : RattleType) (g : Ghosts T.Denot) → IsSend T → IsSend (standing_row T g)
standing_send T g s = declared_send (standing_type T g) (store_send T g s, tt)

-- a pass may go to another thread
pub pass_moves : (T : RattleType) (g : Ghosts T.Denot) (h : Stood (standing_row T g).Denot (born_row T).Denot) → IsSend T → IsSend (pass_row (standing_row T g) (born_row T) h)
pass_moves T g h s = pass_send (standing_row T g) (born_row T) h (standing_send T g s)

-- a server may be shared
pub hall_shared : (T : RattleType) (g : Ghosts T.Denot) (h : Stood (standing_row T g).Denot (born_row T).Denot) → IsSend T → IsSync (hall_row (standing_row T g) (born_row T) h)
hall_shared T g h s = hall_sync (standing_row T g) (born_row T) h (standing_send T g s)
