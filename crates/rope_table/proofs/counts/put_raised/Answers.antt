use Rattle.std.proofs.Common.{◌∙◌, ap, arith}
use Rattle.rope_table.specs.declared.counts.Count.{Count}
use Rattle.rope_table.specs.Table.{name_eq}
use Rattle.rope_table.specs.Inside.{used_again}
use Rattle.rope_table.proofs.Lives.{same_name}
use Rattle.rope_table.proofs.Sums.{sum_changed, sum_entered}
use Rattle.rope_table.proofs.counts.put_raised.Goals as goal

pub returns-in_default-clause-sums : goal.returns-in_default-clause-sums
returns-in_default-clause-sums c = λ weigh.
    let all = sum_entered name_eq same_name weigh c.args.name c.args.counts.now c.get_mut.follows.lender-at-none c.insert-entered.new.self c.raised-first.result c.insert-entered.result c.get_mut.follows.holds-at-none c.in_default.ensures.value c.requires.room c.insert-entered.ensures.succeeds
    c.insert-entered.ensures.old c.insert-entered.ensures.entries in
    let is = ap (λ (n : Count). weigh (c.args.name, n)) (c.raised-first.ensures ∙ ap (used_again c.args.live) c.no_uses.ensures) in
    omega (arith, all, is)

pub returns-clause-sums : goal.returns-clause-sums
returns-clause-sums c = λ weigh.
    let all = sum_changed name_eq same_name weigh c.args.name c.args.counts.now.entries (c.get_mut.follows.lender c.raised.result).entries c.in-Some.place.now c.raised.result (c.get_mut.follows.holds c.raised.result).0 c.in-Some.ensures.value in
    let is = ap (λ (n : Count). weigh (c.args.name, n)) c.raised.ensures in
    omega (arith, all, is)
