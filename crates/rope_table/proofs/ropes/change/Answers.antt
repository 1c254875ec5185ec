use Rattle.std.proofs.Common.{rules, arith, ◌≡◌, length, ap, sym, subst, ◌∙◌}
use Rattle.std.proofs.lemmas.Option.{IfSome_then, slice_get_past}
use Rattle.std.specs.Prelude.{slice_get}
use Rattle.std.specs.List.Sorted.{IsPartitionedBy}
use Rattle.counted_row.specs.Row.{passing, IsChanged}
use Rattle.rope_table.specs.Table.{is_lower}
use Rattle.rope_table.specs.Inside.{lies_below}
use Rattle.rope_table.proofs.InOrder.{by_clause, passing_place, partitioned}
use Rattle.rope_table.proofs.ById.{below_down}
use Rattle.counted_row.proofs.Points.{none_then}
use Rattle.rope_table.proofs.ropes.change.Goals as goal

pub returns-clause-some : goal.returns-clause-some
returns-clause-some g c =
    let ropes = c.args.ropes.now.items in
    let test = lies_below c.args.id in
    IfSome_then c.change_at_point.result c.change_at_point.ensures.some (λ r h.
    subst (λ k. IsChanged g.F.FnOnce c.args.change ropes c.change_at_point.new.self.items k r) (passing_place test ropes)
    (by_clause test (λ q. IsPartitionedBy q ropes → IsChanged g.F.FnOnce c.args.change ropes c.change_at_point.new.self.items (passing q ropes) r) h (λ a r f' called. search rules)
    (partitioned is_lower test (below_down c.args.id) ropes c.requires.order)))

pub returns-clause-none : goal.returns-clause-none
returns-clause-none g c =
    let ropes = c.args.ropes.now.items in
    let test = lies_below c.args.id in
    none_then c.change_at_point.result c.change_at_point.ensures.none (λ h.
    ap (slice_get ropes) (sym (passing_place test ropes)
    ∙ by_clause test (λ q. IsPartitionedBy q ropes → passing q ropes ≡ length ropes) h (λ a r f' called. search rules)
    (partitioned is_lower test (below_down c.args.id) ropes c.requires.order))
    ∙ slice_get_past ropes (length ropes) (omega arith))
