use Rattle.std.proofs.Common.{rules, ◌≡◌, ap, ◌∙◌}
use Rattle.std.specs.Prelude.{slice_get}
use Rattle.std.specs.List.{remove}
use Rattle.std.specs.List.Sorted.{IsPartitionedBy}
use Rattle.counted_row.specs.Row.{passing}
use Rattle.rope_table.specs.Table.{is_lower}
use Rattle.rope_table.specs.Inside.{lies_below}
use Rattle.rope_table.proofs.InOrder.{by_clause, passing_place, partitioned}
use Rattle.rope_table.proofs.ById.{below_down}
use Rattle.rope_table.proofs.ropes.take.Goals as goal

pub returns-clause-value : goal.returns-clause-value
returns-clause-value c =
    let ropes = c.args.ropes.now.items in
    let test = lies_below c.args.id in
    by_clause test (λ q. IsPartitionedBy q ropes → c.remove_at_point.result ≡ slice_get ropes (passing q ropes)) c.remove_at_point.ensures.value (λ a r f' called. search rules)
    (partitioned is_lower test (below_down c.args.id) ropes c.requires)
    ∙ ap (slice_get ropes) (passing_place test ropes)

pub returns-clause-items : goal.returns-clause-items
returns-clause-items c =
    let ropes = c.args.ropes.now.items in
    let test = lies_below c.args.id in
    by_clause test (λ q. IsPartitionedBy q ropes → c.remove_at_point.new.self.items ≡ remove ropes (passing q ropes)) c.remove_at_point.ensures.items (λ a r f' called. search rules)
    (partitioned is_lower test (below_down c.args.id) ropes c.requires)
    ∙ ap (remove ropes) (passing_place test ropes)
