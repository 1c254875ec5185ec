use Rattle.std.proofs.Common.{◌≡◌, ◌∙◌, ap, sym, refl, arith, subst, ◌++◌, ◌∷◌, [], max, length, ◌+◌}
use Rattle.voice_model.specs.Talk.{peak}
use Rattle.silence_scan.specs.Levels.{Levels, HasHeard, levels_of}
use Rattle.silence_scan.proofs.LevelsHeard.{heard_more, heard_whole}
use Rattle.silence_scan.proofs.levels.Leveller.add.Goals as goal

pub returns-then-count-lt-WINDOW-clause-heard : goal.returns-then-count-lt-WINDOW-clause-heard
returns-then-count-lt-WINDOW-clause-heard c = λ before h.
    let was : Levels = levels_of c.self.inside.peaks.items c.self.inside.count c.self.inside.most c.self.inside.spent in
    let most : c.max-most.result ≡ max c.self.inside.most (peak c.args.part.now) = c.max-most.ensures ∙ ap (max c.self.inside.most) c.peak.ensures in
    heard_more before c.args.part.now was _ c.if-count-lt-WINDOW.true refl refl most (subst (HasHeard before) (sym c.self.view_is) h)

pub returns-clause-heard : goal.returns-clause-heard
returns-clause-heard c = λ before h.
    let was : Levels = levels_of c.self.inside.peaks.items c.self.inside.count c.self.inside.most c.self.inside.spent in
    let most : c.max-most.result ≡ max c.self.inside.most (peak c.args.part.now) = c.max-most.ensures ∙ ap (max c.self.inside.most) c.peak.ensures in
    let now : HasHeard before was = subst (HasHeard before) (sym c.self.view_is) h in
    let full : c.self.inside.count + length c.args.part.now ≡ 160 = omega (arith, c.if-count-lt-WINDOW.false, c.requires, ap (λ (l : Levels). l.count) c.self.view_is) in
    heard_whole before c.args.part.now was _ full (c.in-Ok.ensures.items ∙ ap (λ k. c.self.inside.peaks.items ++ k ∷ []) most) refl refl now
