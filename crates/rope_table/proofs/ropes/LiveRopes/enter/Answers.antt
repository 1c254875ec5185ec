use Rattle.std.proofs.Common.{◌≡◌, ◌<◌, length, ap, sym, ◌∙◌, subst, None, arith}
use Rattle.rope_table.specs.Table.{rope_of, with_rope, is_lower}
use Rattle.std.specs.List.{insert}
use Rattle.rope_table.specs.Inside.{Ropes, place_of, lies_below}
use Rattle.rope_table.proofs.InOrder.{put_at_place}
use Rattle.rope_table.proofs.Totals.{few_pieces, live_added}
use Rattle.rope_table.proofs.Edited.{apart_from}
use Rattle.rope_table.proofs.ropes.LiveRopes.enter.Goals as goal

entered : (c : goal.After-put) → c.put.new.ropes.items ≡ with_rope c.args.rope c.self.inside.ropes.items
entered c =
    let ropes = c.self.inside.ropes.items in
    let none : rope_of ropes c.args.rope.id ≡ None = ap (λ (v : Ropes). rope_of v.ropes c.args.rope.id) c.self.view_is ∙ c.requires.unknown in
    c.put.ensures.items
    ∙ ap (λ n. insert ropes (place_of (lies_below n) ropes) c.args.rope) c.number.ensures.value
    ∙ sym (put_at_place is_lower c.args.rope ropes (apart_from c.args.rope ropes none))

pub overflow_add-self : goal.overflow_add-self
overflow_add-self c =
    let most = few_pieces c.self.inside.ropes.items c.self.invariant.short in
    omega (arith, most, c.self.invariant.few, c.self.invariant.total, c.from.ensures)

pub invariant_of-self : goal.invariant_of-self
invariant_of-self c =
    let ropes = c.self.inside.ropes.items in
    let none : rope_of ropes c.args.rope.id ≡ None = ap (λ (v : Ropes). rope_of v.ropes c.args.rope.id) c.self.view_is ∙ c.requires.unknown in
    let room = subst (λ (v : Ropes). length v.ropes < v.room) (sym c.self.view_is) c.requires.room in
    live_added c.args.rope ropes c.put.new.ropes.items c.self.inside.pieces _ c.self.invariant none (omega (arith, room)) (omega (arith, c.count.ensures)) (entered c) (omega (arith, c.count.ensures, c.from.ensures))

pub returns-clause-ropes : goal.returns-clause-ropes
returns-clause-ropes c = entered c ∙ ap (λ (v : Ropes). with_rope c.args.rope v.ropes) c.self.view_is
