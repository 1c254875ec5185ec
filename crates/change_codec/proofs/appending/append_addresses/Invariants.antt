use Rattle.std.proofs.Common.{◌≤◌}
use Rattle.std.specs.Vec.{vec_capacity}
use Rattle.disk_areas.specs.Numbers.{number_bytes}
use Rattle.change_codec.specs.Widths.{bytes_of}
use Rattle.change_codec.proofs.Appended.{AreAppended}
use Rattle.change_codec.proofs.appending.append_addresses.Given as goal

abbrev pub invariant-loop-address : goal.invariant-loop-address
invariant-loop-address l = record {
  appended : AreAppended (number_bytes (bytes_of l.width)) l.fn.out.items l.out.items (vec_capacity l.out) l.address-index l.addresses;
  capacity : vec_capacity l.fn.out ≤ vec_capacity l.out;
}
