use Rattle.std.proofs.Common.{◌∙◌, ap, sym, subst, arith, ◌+◌}
use Rattle.voice_model.specs.Changes.{with_rope}
use Rattle.rope_table.specs.Table as table
use Rattle.recovery.specs.Shown.{ShowsKept}
use Rattle.recovery.proofs.Showing.{rope_shown, reserved_shown}
use Rattle.recovery.proofs.parts.Parts.add_used_rope.Goals as goal

pub returns-clause-shows : goal.returns-clause-shows
returns-clause-shows c = λ held form d samples h orderly later pieces waits done.
    let old = c.args.self.now in
    let added = c.if-not-add_used.ensures in
    subst (λ n. ShowsKept held c.add_used.new.self old.interests.rows old.moment (n + 1) (with_rope d c.args.id samples)) (sym c.number.ensures.value)
    (rope_shown held form d old.ropes c.add_used.new.self old.interests.rows old.moment old.next c.args.id samples c.args.wait h orderly later waits
    (added.ropes ∙ ap (λ ps. table.with_rope (table.made_rope c.args.id ps old.moment 0 c.args.wait) old.ropes.ropes) pieces)
    added.block (added.counts held h.uses))

pub returns-then-not-add_used-clause-same : goal.returns-then-not-add_used-clause-same
returns-then-not-add_used-clause-same c = λ held d h none.
    let old = c.args.self.now in
    let kept = c.if-not-add_used.ensures in
    reserved_shown held d old.ropes c.add_used.new.self old.interests.rows old.moment old.next h kept.ropes kept.block (λ pair. let same = kept.uses pair in omega (arith, same))
