-- What a selection by number leaves in front is lowest.
use Rattle.std.proofs.Common.{List, ℕ, sym, subst, rules}
use Rattle.collector.specs.Due.{AreLowest}
use Rattle.collector.proofs.Copies.{lowest_selected}
use Rattle.collector.proofs.sweeping.lowest.Goals as goal

pub returns-clause-lowest : goal.returns-clause-lowest
returns-clause-lowest c =
    let selected = c.select_nth_unstable_by_key-front in
    subst (λ (l : List ℕ). AreLowest l c.args.ropes.now) (sym c.in_ok-from_slice.ensures.items)
    (lowest_selected selected.result.0.now selected.result.2.now c.args.ropes.now selected.result.1.now selected.ensures.partitioned selected.ensures.permutation (λ a r q k. search rules))
