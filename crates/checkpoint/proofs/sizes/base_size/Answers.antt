use Rattle.std.proofs.Common.{◌≡◌, ◌-◌, ◌^◌, min, sym, ◌∙◌, ap, rules}
use Rattle.checkpoint.specs.Size.{size_by_numbers}
use Rattle.checkpoint.specs.declared.sizes.BaseNumbers.{BaseNumbers}
use Rattle.checkpoint.proofs.Numbers.{by_numbers}
use Rattle.checkpoint.proofs.sizes.base_size.Goals as goal

pub returns-in-Ok-clause-model : goal.returns-in-Ok-clause-model
returns-in-Ok-clause-model c =
    let size : c.in-Ok.size ≡ min (size_by_numbers c.args.form c.args.numbers.now) (2 ^ 64 - 1) = search rules in
    λ d e. size ∙ ap (λ (n : BaseNumbers). min (size_by_numbers c.args.form n) (2 ^ 64 - 1)) e ∙ ap (λ n. min n (2 ^ 64 - 1)) (sym (by_numbers c.args.form d))

pub returns-in-Err-clause-model : goal.returns-in-Err-clause-model
returns-in-Err-clause-model c =
    let size : 2 ^ 64 - 1 ≡ min (size_by_numbers c.args.form c.args.numbers.now) (2 ^ 64 - 1) = search rules in
    λ d e. size ∙ ap (λ (n : BaseNumbers). min (size_by_numbers c.args.form n) (2 ^ 64 - 1)) e ∙ ap (λ n. min n (2 ^ 64 - 1)) (sym (by_numbers c.args.form d))
