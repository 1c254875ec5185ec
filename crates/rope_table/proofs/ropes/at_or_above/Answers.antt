use Rattle.std.proofs.Common.{rules, ◌≡◌, ap, ◌∙◌}
use Rattle.std.specs.Prelude.{slice_get, option_copied}
use Rattle.std.specs.List.Sorted.{IsPartitionedBy}
use Rattle.counted_row.specs.Row.{passing}
use Rattle.rope_table.specs.Table.{is_lower}
use Rattle.rope_table.specs.Inside.{lies_below}
use Rattle.rope_table.proofs.InOrder.{by_clause, passing_place, partitioned}
use Rattle.rope_table.proofs.ById.{below_down}
use Rattle.rope_table.proofs.ropes.at_or_above.Goals as goal

pub returns : goal.returns
returns c =
    let ropes = c.args.ropes.now.items in
    let test = lies_below c.args.id in
    by_clause test (λ q. IsPartitionedBy q ropes → option_copied c.at_point.result ≡ slice_get ropes (passing q ropes)) c.at_point.ensures (λ a r f' called. search rules)
    (partitioned is_lower test (below_down c.args.id) ropes c.requires)
    ∙ ap (slice_get ropes) (passing_place test ropes)
