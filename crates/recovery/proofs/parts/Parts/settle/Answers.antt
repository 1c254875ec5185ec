use Rattle.std.proofs.Common.{◌≡◌, ◌∙◌, ap, sym, cond, ◌==◌, eq-eqb}
use Rattle.voice_model.specs.State.{class_number}
use Rattle.recovery.proofs.Ropes.{not_equal}
use Rattle.recovery.proofs.Showing.{has_some, has_none}
use Rattle.recovery.proofs.RopesLeft.{left_as_it_is, left_once}
use Rattle.recovery.proofs.parts.Parts.settle.Goals as goal
use Rattle.recovery.proofs.parts.Parts.settle.Goals.{then-self-eq2, else-self-eq2}

pub returns-then-count-gt0-clause-ropes : goal.returns-then-count-gt0-clause-ropes
returns-then-count-gt0-clause-ropes c =
    let old = c.args.self.now in
    left_as_it_is old.form c.args.graces.now old.moment (class_number c.args.class) old.interests.rows c.args.rope
    (has_some c.count.result c.args.rope old.interests.rows c.count.ensures c.if-count-gt0.true) old.ropes.ropes

pub returns-clause-ropes : goal.returns-clause-ropes
returns-clause-ropes c =
    let old = c.args.self.now in
    let last : c.if-self-eq2.last ≡ cond (old.form == 2) (class_number c.args.class) 0 =
    elim c.if-self-eq2.branch [
      | then-self-eq2 w ↦ w.last-is ∙ w.number_of-last.ensures ∙ sym (ap (λ b. cond b (class_number c.args.class) 0) (eq-eqb old.form 2 w.if-self-eq2.true))
      | else-self-eq2 w ↦ w.last-is ∙ sym (ap (λ b. cond b (class_number c.args.class) 0) (not_equal old.form 2 w.if-self-eq2.false))
    ] in
    c.settle.ensures.ropes
    ∙ left_once old.form c.args.graces.now old.moment (class_number c.args.class) old.interests.rows c.args.rope c.if-self-eq2.last c.wait_after-wait.result
    (has_none c.count.result c.args.rope old.interests.rows c.count.ensures c.if-count-gt0.false) last c.wait_after-wait.ensures old.ropes.ropes

pub returns-clause-counts : goal.returns-clause-counts
returns-clause-counts c = c.settle.ensures.counts
