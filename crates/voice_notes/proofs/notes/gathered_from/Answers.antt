use Rattle.std.proofs.Common.{◌+◌, sym, ◌∙◌, subst}
use Rattle.voice_notes.specs.Anchors.{anchored, bad_place, with_keys}
use Rattle.voice_notes.proofs.Fronts.{SoFar, past_other, past_anchor}
use Rattle.voice_notes.proofs.notes.gathered_from.Goals as goal
use Rattle.voice_notes.proofs.notes.gathered_from.Goals.{in-Other, in-Anchor+in_ok-gathered-in-Anchor}

pub loop-place-preserved : goal.loop-place-preserved
loop-place-preserved c =
    let note = c.args.note.now in
    let all = with_keys c.args.keys (anchored note) in
    elim c.match-front_at.branch [
      | in-Other w ↦ subst (λ gathered. SoFar note all (bad_place note) gathered (c.loop-place.place + 1)) (sym w.gathered-is)
          (past_other note all (bad_place note) c.loop-place.gathered c.loop-place.place c.loop-place-test.true (sym c.front_at.ensures ∙ w.in-Other.is) c.loop-place.invariant)
      | in-Anchor+in_ok-gathered-in-Anchor w ↦ subst (λ gathered. SoFar note all (bad_place note) gathered (c.loop-place.place + 1)) (sym (w.gathered-is ∙ w.in_ok-gathered-in-Anchor.ensures))
          (past_anchor note all (bad_place note) c.loop-place.gathered c.loop-place.place w.in-Anchor.key c.loop-place-test.true (sym c.front_at.ensures ∙ w.in-Anchor.is) c.loop-place.invariant)
    ]
