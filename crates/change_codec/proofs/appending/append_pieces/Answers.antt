use Rattle.std.proofs.Common.{arith}
use Rattle.voice_model.specs.Spelling.{piece_bytes}
use Rattle.voice_model.proofs.ChangesOfEffects.{piece_length}
use Rattle.change_codec.proofs.Appended.{room_of_width, appended_more}
use Rattle.change_codec.proofs.appending.append_pieces.Goals as goal

pub append_piece-requires : goal.append_piece-requires
append_piece-requires c = record { room = room_of_width piece_bytes 16 piece_length _ _ _ _ _ c.loop-piece.invariant.appended c.loop-piece-test.true }

pub loop-piece-preserved : goal.loop-piece-preserved
loop-piece-preserved c = record {
  appended = appended_more piece_bytes _ _ _ _ _ _ _ _ c.loop-piece.invariant.appended c.loop-piece-test.true c.piece-item.is c.append_piece.ensures.capacity c.append_piece.ensures.items;
  capacity = omega (arith, c.loop-piece.invariant.capacity, c.append_piece.ensures.capacity);
}
