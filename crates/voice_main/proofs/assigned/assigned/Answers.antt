use Rattle.std.proofs.Common.{◌≡◌, Option, refl, subst, sym}
use Rattle.std.specs.Prelude.{IfSome}
use Rattle.voice_main.specs.declared.options.FormatNumbers.{FormatNumbers}
use Rattle.voice_main.proofs.assigned.assigned.Goals as goal

pub returns : goal.returns
returns c = λ numbers asked.
    let P : Option FormatNumbers → Type 0 = λ r. IfSome r (λ n. n ≡ numbers) in
    subst P (sym (c.numbers_of.ensures numbers (c.in-Ok.ensures.ok numbers asked))) refl
