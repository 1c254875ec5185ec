use Rattle.std.proofs.Common.{true, [], sym, refl, Ok, arith}
use Rattle.voice_model.specs.State.Effect.{Advanced}
use Rattle.recovery.proofs.Rebuilding.{plain_applied, is_below}
use Rattle.recovery.proofs.parts.Parts.try_advanced.Goals as goal

pub returns : goal.returns
returns c = λ shape.
    plain_applied shape c.args.self.now c.advance.new.self _ (Advanced c.args.moment) (Ok true) c.requires.grammar (λ r. refl)
    c.advance.ensures.blocks c.advance.ensures.form
    (λ r h s. let a = h.kept.moment in let b = c.number.ensures.value in let d = c.number-2.ensures.value in let e = c.if-number.false in sym (is_below r.kept.moment c.args.moment (omega (arith, a, b, d, e))))
    (λ r h s e. c.advance.ensures.shows [] r.form r.kept h.kept)
    (λ r h s e. absurd (e refl))
    (λ r pair h. h)
