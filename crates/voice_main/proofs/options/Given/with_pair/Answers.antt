use Rattle.std.proofs.Common.{◌≡◌, ◌∙◌, ℕ, None, Option, false, sym, subst, rules}
use Rattle.std.specs.Prelude.{MatchOption, is_some}
use Rattle.voice_main.specs.declared.options.FormatOption.{FormatOption}
use Rattle.voice_main.specs.declared.options.Given.{Given}
use Rattle.voice_main.specs.Options.{value_given, with_value, IsPair}
use Rattle.voice_main.proofs.Pairing.{pair_is, unnumbered}
use Rattle.voice_main.proofs.options.Given.with_pair.Goals as goal

pub returns-in_err-n : goal.returns-in_err-n
returns-in_err-n c =
    let none : c.from_residual-in_err-n.result ≡ None = search rules in
    let refused : (option : FormatOption) (n : ℕ) → IsPair c.args.self c.args.word.now c.args.value.now option n → ⊥ = unnumbered c.args.self c.args.word.now c.args.value.now (sym c.number.ensures ∙ c.in_err-n.was) in
    let P : Option Given → Type 0 = λ r. MatchOption r ((option : FormatOption) (n : ℕ) → IsPair c.args.self c.args.word.now c.args.value.now option n → ⊥) (λ given. (option : FormatOption) × (n : ℕ) × IsPair c.args.self c.args.word.now c.args.value.now option n × (given ≡ with_value option n c.args.self)) in
    subst P (sym none) refused

pub returns : goal.returns
returns c =
    let fresh : is_some (value_given c.in_ok-option.option c.args.self) ≡ false = search rules in
    (c.in_ok-option.option, c.in_ok-n.n, pair_is c.args.self c.args.word.now c.args.value.now c.in_ok-option.option c.in_ok-n.n (sym c.named.ensures ∙ c.in_ok-option.was) (sym c.number.ensures ∙ c.in_ok-n.was) fresh, c.with.ensures)
