use Rattle.disk_areas.specs.Numbers.{number_bytes}
use Rattle.voice_model.proofs.ChangesOfEffects.{number_length}
use Rattle.change_codec.specs.Widths.{bytes_of}
use Rattle.change_codec.proofs.Appended.{room_of_width}
use Rattle.change_codec.proofs.appending.append_addresses.Goals as goal

pub append_address-requires-clause-room : goal.append_address-requires-clause-room
append_address-requires-clause-room c =
    room_of_width (number_bytes (bytes_of c.args.width)) (bytes_of c.args.width) (number_length (bytes_of c.args.width)) _ _ _ _ _ c.loop-address.invariant.appended c.loop-address-test.true
