-- The lowest ones in rising number are the front of the list in rising number.
use Rattle.std.proofs.Common.{◌≡◌, ℕ, List, take, length, ap, sym, subst, ◌∙◌, arith}
use Rattle.collector.specs.Due.{AreLowest}
use Rattle.std.proofs.lemmas.List.{take_all}
use Rattle.collector.proofs.Copies.{same_rising, lowest_first}
use Rattle.collector.proofs.sweeping.first_of.Goals as goal

pub returns-then-len-count : goal.returns-then-len-count
returns-then-len-count c = λ rising up same.
    let all : c.in_order.result ≡ rising = same_rising c.in_order.result rising c.in_order.ensures.rises up (λ id. c.in_order.ensures.same id ∙ same id) in
    all ∙ sym (take_all c.args.limit rising (omega (arith, ap length all, c.in_order.ensures.count, c.if-len-count.true)))

pub returns : goal.returns
returns c = λ rising up same.
    lowest_first c.in_ok-low.low.items c.in_order-2.result c.args.ropes.items rising (subst (λ (l : List ℕ). AreLowest c.in_ok-low.low.items l) c.deref_mut.ensures.value c.in_ok-low.ensures.lowest) c.in_order-2.ensures.rises c.in_order-2.ensures.same up same
    ∙ ap (λ n. take n rising) (c.in_order-2.ensures.count ∙ c.in_ok-low.ensures.count ∙ c.from-count.ensures)
