use Rattle.std.proofs.Common.{◌+◌, ◌≤◌, length}
use Rattle.disk_areas.specs.Numbers.{number_at}
use Rattle.change_codec.specs.Widths.{bytes_of}
use Rattle.change_codec.specs.Refused.{part, behind}
use Rattle.change_codec.proofs.Reading.{IsRead}
use Rattle.change_codec.proofs.items.addresses_at.Given as goal

abbrev pub invariant-loop-index : goal.invariant-loop-index
invariant-loop-index l =
    let w = bytes_of l.width in
    record {
      read : IsRead (λ at. part at w l.bytes) (λ at. number_at w at l.bytes) (λ at. at + w) (λ at. behind at l.bytes) l.count l.start l._index l.at l.items.items;
      within : l.at ≤ length l.bytes;
    }
