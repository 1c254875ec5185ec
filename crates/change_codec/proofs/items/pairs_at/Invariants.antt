use Rattle.std.proofs.Common.{◌≤◌, length}
use Rattle.change_codec.specs.Widths.{bytes_of}
use Rattle.change_codec.specs.Refused.{behind, next_pair, pair_place}
use Rattle.change_codec.specs.Said.{pair_in}
use Rattle.change_codec.proofs.Reading.{IsRead}
use Rattle.change_codec.proofs.items.pairs_at.Given as goal

abbrev pub invariant-loop-index : goal.invariant-loop-index
invariant-loop-index l = record {
  read : IsRead (pair_place (bytes_of l.width) l.bytes) (pair_in (bytes_of l.width) l.bytes) (next_pair (bytes_of l.width) l.bytes) (λ r. behind r.at l.bytes) l.count (record { at = l.start; least = 0 }) l._index l.rising l.items.items;
  within : l.rising.at ≤ length l.bytes;
}
