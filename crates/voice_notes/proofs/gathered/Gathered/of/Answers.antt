use Rattle.std.proofs.Common.{ℕ, List, ap, sym, ◌∙◌, arith}
use Rattle.std.proofs.lemmas.Grind.{common_steps}
use Rattle.voice_notes.specs.Anchors.{has_key}
use Rattle.voice_notes.proofs.Keys.{same_pushed}
use Rattle.voice_notes.proofs.gathered.Gathered.of.Goals as goal

pub loop-key-preserved : goal.loop-key-preserved
loop-key-preserved c = record {
  items = grind (arith, common_steps);
  same = λ k.
      ap (λ (keys : List (List ℕ)). has_key keys k) c.in_ok-insert.ensures.keys
      ∙ same_pushed c.loop-key.known.keys c.loop-key.copied.items _ c.loop-key.invariant.same k
      ∙ sym (ap (λ (keys : List (List ℕ)). has_key keys k) c.in_ok-push.ensures.items);
}
