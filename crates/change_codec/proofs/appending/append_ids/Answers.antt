use Rattle.disk_areas.specs.Numbers.{number_bytes}
use Rattle.voice_model.proofs.ChangesOfEffects.{number_length}
use Rattle.change_codec.proofs.Appended.{room_of_width}
use Rattle.change_codec.proofs.appending.append_ids.Goals as goal

pub append_id-requires : goal.append_id-requires
append_id-requires c = record { room = room_of_width (number_bytes 8) 8 (number_length 8) _ _ _ _ _ c.loop-id.invariant.appended c.loop-id-test.true }
