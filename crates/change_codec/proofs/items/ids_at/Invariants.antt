use Rattle.std.proofs.Common.{◌≤◌, ◌^◌, length}
use Rattle.disk_areas.specs.Numbers.{number_at}
use Rattle.change_codec.specs.Refused.{number, behind, next_id}
use Rattle.change_codec.proofs.Reading.{IsRead}
use Rattle.change_codec.proofs.items.ids_at.Given as goal

abbrev pub invariant-loop-index : goal.invariant-loop-index
invariant-loop-index l = record {
  read : IsRead (λ r. number r.at 8 r.least (2 ^ 48) l.bytes) (λ r. number_at 8 r.at l.bytes) (next_id l.bytes) (λ r. behind r.at l.bytes) l.count (record { at = l.start; least = 1 }) l._index l.rising l.items.items;
  within : l.rising.at ≤ length l.bytes;
}
