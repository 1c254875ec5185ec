use Rattle.std.proofs.Common.{◌≤◌}
use Rattle.std.specs.Vec.{vec_capacity}
use Rattle.disk_areas.specs.Numbers.{number_bytes}
use Rattle.change_codec.proofs.Appended.{AreAppended}
use Rattle.change_codec.proofs.appending.append_ids.Given as goal

abbrev pub invariant-loop-id : goal.invariant-loop-id
invariant-loop-id l = record {
  appended : AreAppended (number_bytes 8) l.fn.out.items l.out.items (vec_capacity l.out) l.id-index l.ids;
  capacity : vec_capacity l.fn.out ≤ vec_capacity l.out;
}
