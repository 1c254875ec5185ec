use Rattle.std.proofs.Common.{◌+◌, ◌≤◌, length, arith}
use Rattle.std.specs.Vec.{vec_capacity}
use Rattle.voice_model.specs.Spelling.{pair_bytes}
use Rattle.change_codec.specs.Widths.{bytes_of}
use Rattle.change_codec.proofs.Appended.{room_of_width}
use Rattle.change_codec.proofs.Sizes.{pair_length}
use Rattle.change_codec.proofs.appending.append_pairs.Goals as goal

pub append_pair-requires-clause-room : goal.append_pair-requires-clause-room
append_pair-requires-clause-room c =
    let w = bytes_of c.args.width in
    let room : length c.loop-pair.out.items + (4 + w) ≤ vec_capacity c.loop-pair.out =
    room_of_width (pair_bytes w) (4 + w) (pair_length w) _ _ _ _ _ c.loop-pair.invariant.appended c.loop-pair-test.true in
    omega (arith, room)
