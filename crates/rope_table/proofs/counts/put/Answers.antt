use Rattle.std.proofs.Common.{arith}
use Rattle.rope_table.specs.Table.{name_eq}
use Rattle.rope_table.proofs.Lives.{same_name}
use Rattle.rope_table.proofs.Sums.{sum_changed, sum_entered}
use Rattle.rope_table.proofs.counts.put.Goals as goal

pub returns-in_default-clause-sums : goal.returns-in_default-clause-sums
returns-in_default-clause-sums c = λ weigh.
    let all = sum_entered name_eq same_name weigh c.args.name c.args.counts.now c.get_mut.follows.lender-at-none c.insert-entered.new.self c.args.count c.insert-entered.result c.get_mut.follows.holds-at-none c.in_default.ensures.value c.requires c.insert-entered.ensures.succeeds
    c.insert-entered.ensures.old c.insert-entered.ensures.entries in
    omega (arith, all)

pub returns-clause-sums : goal.returns-clause-sums
returns-clause-sums c = λ weigh.
    sum_changed name_eq same_name weigh c.args.name c.args.counts.now.entries (c.get_mut.follows.lender c.args.count).entries c.in-Some.place.now c.args.count (c.get_mut.follows.holds c.args.count).0 c.in-Some.ensures.value
