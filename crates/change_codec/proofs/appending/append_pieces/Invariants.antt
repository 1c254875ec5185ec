use Rattle.std.proofs.Common.{◌≤◌}
use Rattle.std.specs.Vec.{vec_capacity}
use Rattle.voice_model.specs.Spelling.{piece_bytes}
use Rattle.change_codec.proofs.Appended.{AreAppended}
use Rattle.change_codec.proofs.appending.append_pieces.Given as goal

abbrev pub invariant-loop-piece : goal.invariant-loop-piece
invariant-loop-piece l = record {
  appended : AreAppended piece_bytes l.fn.out.items l.out.items (vec_capacity l.out) l.piece-index l.pieces;
  capacity : vec_capacity l.fn.out ≤ vec_capacity l.out;
}
