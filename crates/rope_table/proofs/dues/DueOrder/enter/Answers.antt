use Rattle.std.proofs.Common.{◌≡◌, ◌<◌, ◌≤◌, ◌+◌, length, ap, sym, ◌∙◌, subst, List, arith, rules}
use Rattle.std.specs.List.{insert}
use Rattle.std.specs.List.Sorted.{IsPartitionedBy}
use Rattle.counted_row.specs.Row.{passing}
use Rattle.rope_table.specs.declared.dues.Due.{Due}
use Rattle.rope_table.specs.Table.{with_due, is_sooner, IsInOrder}
use Rattle.rope_table.specs.Inside.{Dues, is_due_before}
use Rattle.rope_table.proofs.InOrder.{put_at_place, in_order-put, length-put, Apart, by_clause, passing_place, partitioned}
use Rattle.rope_table.proofs.ById.{sooner_through, due_down}
use Rattle.rope_table.proofs.Edited.{ok_part}
use Rattle.rope_table.proofs.dues.DueOrder.enter.Goals as goal

entered : (c : goal.After-insert_at_point-entered) → c.insert_at_point-entered.new.self.items ≡ with_due c.args.due c.self.inside.dues.items
entered c =
    let dues = c.self.inside.dues.items in
    let due = c.args.due in
    let test = is_due_before due.at due.id in
    let apart : Apart is_sooner due dues = subst (λ (v : Dues). Apart is_sooner due v.dues) (sym c.self.view_is) c.requires.apart in
    let room = subst (λ (v : Dues). length v.dues < v.room) (sym c.self.view_is) c.requires.room in
    by_clause test (λ q. IsPartitionedBy q dues → c.insert_at_point-entered.new.self.items ≡ insert dues (passing q dues) due)
    (ok_part c.insert_at_point-entered.result c.insert_at_point-entered.ensures.ok (c.insert_at_point-entered.ensures.room (omega (arith, room)))) (λ a r f' called. search rules)
    (partitioned is_sooner test (due_down due.at due.id) dues c.self.invariant)
    ∙ ap (λ i. insert dues i due) (passing_place test dues)
    ∙ sym (put_at_place is_sooner due dues apart)

pub invariant_of-self : goal.invariant_of-self
invariant_of-self c =
    let dues = c.self.inside.dues.items in
    let apart : Apart is_sooner c.args.due dues = subst (λ (v : Dues). Apart is_sooner c.args.due v.dues) (sym c.self.view_is) c.requires.apart in
    subst (λ (l : List Due). IsInOrder is_sooner l) (sym (entered c)) (in_order-put is_sooner sooner_through c.args.due dues apart c.self.invariant)

pub returns-clause-dues : goal.returns-clause-dues
returns-clause-dues c = entered c ∙ ap (λ (v : Dues). with_due c.args.due v.dues) c.self.view_is

pub returns-clause-room : goal.returns-clause-room
returns-clause-room c =
    let dues = c.self.inside.dues.items in
    subst (λ (v : Dues). v.room ≤ length c.insert_at_point-entered.new.self.items + c.insert_at_point-entered.new.self.spare) c.self.view_is
    (omega (arith, c.insert_at_point-entered.ensures.spare, ap length (entered c), length-put is_sooner c.args.due dues))
