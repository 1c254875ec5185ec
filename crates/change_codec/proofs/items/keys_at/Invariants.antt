use Rattle.std.proofs.Common.{◌≤◌, length}
use Rattle.change_codec.specs.Refused.{behind, next_key, key_place}
use Rattle.change_codec.specs.Said.{key_in}
use Rattle.change_codec.proofs.Reading.{IsRead}
use Rattle.change_codec.proofs.items.keys_at.Given as goal

abbrev pub invariant-loop-index : goal.invariant-loop-index
invariant-loop-index l = record {
  read : IsRead (key_place l.bytes) (key_in l.bytes) (next_key l.bytes) (λ at. behind at l.bytes) l.count l.start l._index l.at l.items.items;
  within : l.at ≤ length l.bytes;
}
