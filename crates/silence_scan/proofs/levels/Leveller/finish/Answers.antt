use Rattle.std.proofs.Common.{◌∙◌, ap, sym, arith, subst}
use Rattle.silence_scan.specs.Levels.{Levels, HasHeard, levels_of}
use Rattle.silence_scan.proofs.LevelsHeard.{finished_even, finished_part}
use Rattle.silence_scan.proofs.levels.Leveller.finish.Goals.{then-count-gt0+in_ok-push, else-count-gt0}
use Rattle.silence_scan.proofs.levels.Leveller.finish.Goals as goal

pub returns-clause-answer : goal.returns-clause-answer
returns-clause-answer c = λ all h.
    let was : Levels = levels_of c.self.inside.peaks.items c.self.inside.count c.self.inside.most c.self.inside.spent in
    let now : HasHeard all was = subst (HasHeard all) (sym c.self.view_is) h in
    elim c.if-count-gt0.branch [
      | then-count-gt0+in_ok-push w ↦ c.of.ensures ∙ (ap (λ v. v.items) w.peaks-is ∙ (w.in_ok-push.ensures.items ∙ finished_part all was w.if-count-gt0.true now))
      | else-count-gt0 w ↦ c.of.ensures ∙ (ap (λ v. v.items) w.peaks-is ∙ finished_even all was (omega (arith, w.if-count-gt0.false)) now)
    ]
