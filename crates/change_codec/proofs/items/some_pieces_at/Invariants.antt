use Rattle.std.proofs.Common.{◌≤◌, ◌^◌, length}
use Rattle.change_codec.specs.Refused.{behind, next_piece, piece_place, piece_in}
use Rattle.change_codec.proofs.Reading.{IsRead}
use Rattle.change_codec.proofs.items.some_pieces_at.Given as goal

abbrev pub invariant-loop-index : goal.invariant-loop-index
invariant-loop-index l = record {
  read : IsRead (piece_place l.bytes) (piece_in l.bytes) (next_piece l.bytes) (λ r. behind r.at l.bytes) l.count (record { at = l.start; file = 0; last = 0; sum = 0 }) l._index l.run l.items.items;
  within : l.run.at ≤ length l.bytes;
  small : l.run.sum ≤ 2 ^ 30;
}
