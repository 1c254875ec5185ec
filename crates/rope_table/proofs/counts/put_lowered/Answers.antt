use Rattle.std.proofs.Common.{ap, arith}
use Rattle.rope_table.specs.declared.counts.Count.{Count}
use Rattle.rope_table.specs.Table.{name_eq}
use Rattle.rope_table.proofs.Lives.{same_name}
use Rattle.rope_table.proofs.Sums.{sum_changed}
use Rattle.rope_table.proofs.counts.put_lowered.Goals as goal

pub returns-clause-sums : goal.returns-clause-sums
returns-clause-sums c = λ weigh.
    let all = sum_changed name_eq same_name weigh c.args.name.now c.args.counts.now.entries (c.get_mut.follows.lender c.lowered.result).entries c.in-Some.place.now c.lowered.result (c.get_mut.follows.holds c.lowered.result).0 c.in-Some.ensures.value in
    let is = ap (λ (n : Count). weigh (c.args.name.now, n)) c.lowered.ensures in
    omega (arith, all, is)
