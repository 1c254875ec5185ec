use Rattle.std.proofs.Common.{◌≡◌, ◌+◌, ◌≤◌, length, ap, sym, ◌∙◌, subst, List, arith, rules}
use Rattle.std.specs.Prelude.{slice_get}
use Rattle.std.specs.List.{remove}
use Rattle.std.specs.List.Sorted.{IsPartitionedBy}
use Rattle.counted_row.specs.Row.{passing}
use Rattle.rope_table.specs.declared.dues.Due.{Due}
use Rattle.rope_table.specs.Table.{with_due, is_sooner, IsInOrder}
use Rattle.rope_table.specs.Inside.{Dues, place_of, is_due_before}
use Rattle.rope_table.proofs.InOrder.{remove_put, in_order-remove, by_clause, passing_place, partitioned}
use Rattle.rope_table.proofs.ById.{sooner_self, due_down}
use Rattle.rope_table.proofs.Edited.{room_left}
use Rattle.rope_table.proofs.dues.DueOrder.leave.Goals as goal

-- what goes
items : (c : goal.After-remove_at_point-left) → c.remove_at_point-left.new.self.items ≡ remove c.self.inside.dues.items (place_of (is_due_before c.args.due.at c.args.due.id) c.self.inside.dues.items)
items c =
    let dues = c.self.inside.dues.items in
    let test = is_due_before c.args.due.at c.args.due.id in
    by_clause test (λ q. IsPartitionedBy q dues → c.remove_at_point-left.new.self.items ≡ remove dues (passing q dues)) c.remove_at_point-left.ensures.items (λ a r f' called. search rules)
    (partitioned is_sooner test (due_down c.args.due.at c.args.due.id) dues c.self.invariant)
    ∙ ap (remove dues) (passing_place test dues)

value : (c : goal.After-remove_at_point-left) → c.remove_at_point-left.result ≡ slice_get c.self.inside.dues.items (place_of (is_due_before c.args.due.at c.args.due.id) c.self.inside.dues.items)
value c =
    let dues = c.self.inside.dues.items in
    let test = is_due_before c.args.due.at c.args.due.id in
    by_clause test (λ q. IsPartitionedBy q dues → c.remove_at_point-left.result ≡ slice_get dues (passing q dues)) c.remove_at_point-left.ensures.value (λ a r f' called. search rules)
    (partitioned is_sooner test (due_down c.args.due.at c.args.due.id) dues c.self.invariant)
    ∙ ap (slice_get dues) (passing_place test dues)

pub invariant_of-self : goal.invariant_of-self
invariant_of-self c =
    let dues = c.self.inside.dues.items in
    subst (λ (l : List Due). IsInOrder is_sooner l) (sym (items c)) (in_order-remove is_sooner dues (place_of (is_due_before c.args.due.at c.args.due.id) dues) c.self.invariant)

pub returns-clause-dues : goal.returns-clause-dues
returns-clause-dues c = λ rest apart is.
    let due = c.args.due in
    let test = is_due_before due.at due.id in
    let whole : c.self.inside.dues.items ≡ with_due due rest = ap (λ (v : Dues). v.dues) c.self.view_is ∙ is in
    items c
    ∙ ap (λ l. remove l (place_of test l)) whole
    ∙ remove_put is_sooner due rest (sooner_self due) apart

pub returns-clause-room : goal.returns-clause-room
returns-clause-room c =
    let dues = c.self.inside.dues.items in
    let left = room_left dues (place_of (is_due_before c.args.due.at c.args.due.id) dues) c.self.inside.dues.spare c.remove_at_point-left.new.self.spare c.remove_at_point-left.result (value c) c.remove_at_point-left.ensures.spare c.remove_at_point-left.ensures.gained in
    subst (λ (v : Dues). v.room ≤ length c.remove_at_point-left.new.self.items + c.remove_at_point-left.new.self.spare) c.self.view_is
    (omega (arith, left, ap length (items c)))
