-- A sort by number only moves numbers.
use Rattle.std.proofs.Common.{ℕ, rules}
use Rattle.std.proofs.lemmas.List.Sorted.{IsNonDecreasingBy-from_sort_by_key}
use Rattle.collector.proofs.Copies.{rises_from, copies-permutation}
use Rattle.collector.proofs.sweeping.sort.Goals as goal

pub returns-clause-rises : goal.returns-clause-rises
returns-clause-rises c = rises_from c.sort_unstable_by_key.new.self (IsNonDecreasingBy-from_sort_by_key (λ (x : ℕ). x) c.sort_unstable_by_key.new.self c.sort_unstable_by_key.ensures.sorted (λ a r q k. search rules))

pub returns-clause-same : goal.returns-clause-same
returns-clause-same c id = copies-permutation id c.args.ropes.now c.sort_unstable_by_key.new.self c.sort_unstable_by_key.ensures.permutation
