use Rattle.std.proofs.Common.{◌∙◌, ap, sym, subst, ◌+◌}
use Rattle.voice_model.specs.Changes.{with_rope}
use Rattle.rope_table.specs.Table as table
use Rattle.recovery.specs.Shown.{ShowsKept}
use Rattle.recovery.proofs.Showing.{rope_shown}
use Rattle.recovery.proofs.parts.Parts.add_rope.Goals as goal

pub returns-clause-shows : goal.returns-clause-shows
returns-clause-shows c = λ held form d samples h orderly later pieces waits.
    let old = c.args.self.now in
    subst (λ n. ShowsKept held c.add.new.self old.interests.rows old.moment (n + 1) (with_rope d c.args.id samples)) (sym c.number.ensures.value)
    (rope_shown held form d old.ropes c.add.new.self old.interests.rows old.moment old.next c.args.id samples c.args.wait h orderly later waits
    (c.add.ensures.ropes ∙ ap (λ ps. table.with_rope (table.made_rope c.args.id ps old.moment 0 c.args.wait) old.ropes.ropes) pieces)
    c.add.ensures.block (c.add.ensures.counts held h.uses))
