use Rattle.std.proofs.Common.{◌∙◌, sym, ap, subst, refl, cond, Some, Option, ℕ}
use Rattle.std.specs.Prelude.{nat_eq, IsSome}
use Rattle.indexmap.specs.IndexMap.{get}
use Rattle.interest_table.proofs.Found.{one_row_less}
use Rattle.interest_table.proofs.tally.drop_one.Goals as goal

pub returns-clause-count : goal.returns-clause-count
returns-clause-count c other =
    let was = c.in-Some.ensures.value in
    let written = c.get_mut.follows.holds c.saturating_sub.result in
    one_row_less c.args.counts.now (c.get_mut.follows.lender c.saturating_sub.result) c.args.rope c.in-Some.count.now other (sym was)
    ((written.3 (subst (λ (o : Option ℕ). IsSome o) was refl)).0 other
    ∙ ap (λ n. cond (nat_eq c.args.rope other) (Some n) (get nat_eq c.args.counts.now other)) c.saturating_sub.ensures)
