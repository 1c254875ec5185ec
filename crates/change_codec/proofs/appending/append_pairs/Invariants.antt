use Rattle.std.proofs.Common.{◌≤◌}
use Rattle.std.specs.Vec.{vec_capacity}
use Rattle.voice_model.specs.Spelling.{pair_bytes}
use Rattle.change_codec.specs.Widths.{bytes_of}
use Rattle.change_codec.proofs.Appended.{AreAppended}
use Rattle.change_codec.proofs.appending.append_pairs.Given as goal

abbrev pub invariant-loop-pair : goal.invariant-loop-pair
invariant-loop-pair l = record {
  appended : AreAppended (pair_bytes (bytes_of l.width)) l.fn.out.items l.out.items (vec_capacity l.out) l.pair-index l.pairs;
  capacity : vec_capacity l.fn.out ≤ vec_capacity l.out;
}
