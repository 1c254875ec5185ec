use Rattle.std.proofs.Common.{rules, ◌≡◌, ap, ◌∙◌}
use Rattle.std.specs.List.{insert}
use Rattle.std.specs.List.Sorted.{IsPartitionedBy}
use Rattle.counted_row.specs.Row.{passing}
use Rattle.rope_table.specs.Table.{is_lower}
use Rattle.rope_table.specs.Inside.{lies_below}
use Rattle.rope_table.proofs.InOrder.{by_clause, passing_place, partitioned}
use Rattle.rope_table.proofs.ById.{below_down}
use Rattle.rope_table.proofs.Edited.{ok_part}
use Rattle.rope_table.proofs.ropes.put.Goals as goal

pub returns-clause-items : goal.returns-clause-items
returns-clause-items c =
    let ropes = c.args.ropes.now.items in
    let test = lies_below c.args.id in
    by_clause test (λ q. IsPartitionedBy q ropes → c.insert_at_point-entered.new.self.items ≡ insert ropes (passing q ropes) c.args.rope)
    (ok_part c.insert_at_point-entered.result c.insert_at_point-entered.ensures.ok (c.insert_at_point-entered.ensures.room c.requires.room)) (λ a r f' called. search rules)
    (partitioned is_lower test (below_down c.args.id) ropes c.requires.order)
    ∙ ap (λ i. insert ropes i c.args.rope) (passing_place test ropes)
