use Rattle.std.proofs.Common.{length, ap, arith}
use Rattle.voice_model.specs.Spelling.{text_bytes}
use Rattle.change_codec.proofs.Appended.{room_next}
use Rattle.change_codec.proofs.appending.append_keys.Goals as goal

pub append_text-requires-clause-room : goal.append_text-requires-clause-room
append_text-requires-clause-room c =
    let room = room_next text_bytes _ _ _ _ _ c.key-item.result c.loop-key.invariant.appended c.loop-key-test.true c.key-item.is in
    let same = ap length c.bytes.ensures.value in
    omega (arith, room, same)
