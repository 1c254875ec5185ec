use Rattle.std.proofs.Common.{◌∙◌, ap, arith, ◌^◌}
use Rattle.std.proofs.lemmas.List.Sorted.{IsNonDecreasingBy-from_sort}
use Rattle.interest_table.proofs.Dated.{due_ahead}
use Rattle.interest_table.proofs.Due.{grows, times_moved}
use Rattle.interest_table.specs.Inside.{times, due_front}
use Rattle.interest_table.proofs.expiries.due_stamps.Goals as goal

pub returns-clause-stamps : goal.returns-clause-stamps
returns-clause-stamps c = record {
  rising = grows 0 c.sort_unstable.new.self.items (λ i d within. omega arith) (IsNonDecreasingBy-from_sort (λ x. x) c.sort_unstable.new.self.items c.sort_unstable.ensures.sorted);
  same = λ h t.
      times_moved t c.in_ok-stamps.stamps.items c.sort_unstable.new.self.items c.sort_unstable.ensures.permutation
      ∙ ap (λ l. times t l) (c.in_ok-stamps.ensures ∙ ap (λ n. due_front n c.args.expiries.now.items) c.number.ensures.value ∙ due_ahead c.args.now 0 (2 ^ 128) c.args.expiries.now.items h.rising h.fit);
}
