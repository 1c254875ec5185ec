use Rattle.std.proofs.Common.{◌≤◌}
use Rattle.std.specs.Vec.{vec_capacity}
use Rattle.voice_model.specs.Spelling.{text_bytes}
use Rattle.change_codec.proofs.Appended.{AreAppended}
use Rattle.change_codec.proofs.appending.append_keys.Given as goal

abbrev pub invariant-loop-key : goal.invariant-loop-key
invariant-loop-key l = record {
  appended : AreAppended text_bytes l.fn.out.items l.out.items (vec_capacity l.out) l.key-index l.keys;
  capacity : vec_capacity l.fn.out ≤ vec_capacity l.out;
}
