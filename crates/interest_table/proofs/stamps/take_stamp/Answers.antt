use Rattle.std.proofs.Common.{◌≡◌, ◌∙◌, nat_lt, rules}
use Rattle.std.proofs.lemmas.Fn.{always_returns_same}
use Rattle.interest_table.proofs.Listed.{partitioned, taken_at}
use Rattle.interest_table.proofs.stamps.take_stamp.Goals as goal

pub returns-clause-items : goal.returns-clause-items
returns-clause-items c top rises in_it =
    let stamps = c.args.order.now.items in
    let stamp = c.args.stamp in
    c.remove_at_point.ensures.items (λ y. nat_lt y stamp) (always_returns_same _ (λ a r. r ≡ nat_lt a.0.now stamp) _ (λ a r f' called. search rules)) (partitioned stamp 0 top stamps rises)
    ∙ taken_at stamp 0 top stamps rises in_it
