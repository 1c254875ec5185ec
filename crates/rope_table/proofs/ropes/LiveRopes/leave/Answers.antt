use Rattle.std.proofs.Common.{◌≡◌, ◌+◌, min, length, Some, ap, sym, ◌∙◌, arith}
use Rattle.std.specs.Prelude.{slice_get}
use Rattle.std.specs.List.{remove}
use Rattle.std.proofs.lemmas.List.Edits.{length-remove}
use Rattle.rope_table.specs.Table.{rope_of, without_rope}
use Rattle.rope_table.specs.Inside.{Ropes, IsAt, place_of, lies_below}
use Rattle.rope_table.proofs.ById.{without_none}
use Rattle.rope_table.proofs.Edited.{remove_is_without, never_gone, stands_found}
use Rattle.rope_table.proofs.Totals.{live_without, pieces_within}
use Rattle.rope_table.proofs.ropes.LiveRopes.leave.Goals as goal

pub returns-in_default-clause-ropes : goal.returns-in_default-clause-ropes
returns-in_default-clause-ropes c = sym (without_none c.args.id c.args.self.now.ropes (sym c.in_default.ensures))

pub invariant_of-self : goal.invariant_of-self
invariant_of-self c = absurd (never_gone c.args.id c.number.result c.self.inside.ropes.items c.in-Some._live.now c.self.invariant.order c.number.ensures.value (c.in-Some.ensures ∙ ap (λ (v : Ropes). rope_of v.ropes c.args.id) (sym c.self.view_is)) c.in_default-take.ensures.value)

pub returns-in_default-take-clause-value : goal.returns-in_default-take-clause-value
returns-in_default-take-clause-value c = absurd (never_gone c.args.id c.number.result c.self.inside.ropes.items c.in-Some._live.now c.self.invariant.order c.number.ensures.value (c.in-Some.ensures ∙ ap (λ (v : Ropes). rope_of v.ropes c.args.id) (sym c.self.view_is)) c.in_default-take.ensures.value)

pub returns-in_default-take-clause-ropes : goal.returns-in_default-take-clause-ropes
returns-in_default-take-clause-ropes c = absurd (never_gone c.args.id c.number.result c.self.inside.ropes.items c.in-Some._live.now c.self.invariant.order c.number.ensures.value (c.in-Some.ensures ∙ ap (λ (v : Ropes). rope_of v.ropes c.args.id) (sym c.self.view_is)) c.in_default-take.ensures.value)

pub returns-in_default-take-clause-room : goal.returns-in_default-take-clause-room
returns-in_default-take-clause-room c = absurd (never_gone c.args.id c.number.result c.self.inside.ropes.items c.in-Some._live.now c.self.invariant.order c.number.ensures.value (c.in-Some.ensures ∙ ap (λ (v : Ropes). rope_of v.ropes c.args.id) (sym c.self.view_is)) c.in_default-take.ensures.value)

-- the rope of this number stands at its place
stands : (c : goal.After-from) → IsAt c.self.inside.ropes.items c.args.id (place_of (lies_below c.args.id) c.self.inside.ropes.items)
stands c = stands_found c.args.id c.self.inside.ropes.items c.in-Some._live.now c.self.invariant.order (c.in-Some.ensures ∙ ap (λ (v : Ropes). rope_of v.ropes c.args.id) (sym c.self.view_is))

found : (c : goal.After-from) → rope_of c.self.inside.ropes.items c.args.id ≡ Some c.in-Some-take.rope
found c =
    let ropes = c.self.inside.ropes.items in
    sym (stands c).found ∙ ap (λ n. slice_get ropes (place_of (lies_below n) ropes)) (sym c.number.ensures.value) ∙ sym c.in-Some-take.ensures.value

gone : (c : goal.After-from) → c.take.new.ropes.items ≡ remove c.self.inside.ropes.items (place_of (lies_below c.args.id) c.self.inside.ropes.items)
gone c = c.take.ensures.items ∙ ap (λ n. remove c.self.inside.ropes.items (place_of (lies_below n) c.self.inside.ropes.items)) c.number.ensures.value

left : (c : goal.After-from) → c.take.new.ropes.items ≡ without_rope c.args.id c.self.inside.ropes.items
left c =
    let ropes = c.self.inside.ropes.items in
    gone c
    ∙ remove_is_without c.args.id (place_of (lies_below c.args.id) ropes) ropes c.self.invariant.order (stands c)

pub overflow_sub-self : goal.overflow_sub-self
overflow_sub-self c =
    let most = pieces_within c.args.id c.in-Some-take.rope c.self.inside.ropes.items c.self.inside.pieces c.self.invariant (found c) in
    omega (arith, most, c.count.ensures, c.from.ensures)

pub invariant_of-self-2 : goal.invariant_of-self-2
invariant_of-self-2 c =
    let most = pieces_within c.args.id c.in-Some-take.rope c.self.inside.ropes.items c.self.inside.pieces c.self.invariant (found c.before) in
    live_without c.args.id c.in-Some-take.rope c.self.inside.ropes.items c.take.new.ropes.items c.self.inside.pieces _ c.self.invariant (found c.before) (left c.before) (omega (arith, most, c.count.ensures, c.from.ensures))

pub returns-clause-value : goal.returns-clause-value
returns-clause-value c = sym (found c.before) ∙ ap (λ (v : Ropes). rope_of v.ropes c.args.id) c.self.view_is

pub returns-clause-ropes : goal.returns-clause-ropes
returns-clause-ropes c = left c.before ∙ ap (λ (v : Ropes). without_rope c.args.id v.ropes) c.self.view_is

pub returns-clause-room : goal.returns-clause-room
returns-clause-room c =
    let ropes = c.self.inside.ropes.items in
    let one = length-remove ropes (place_of (lies_below c.args.id) ropes) (stands c.before).within in
    let room : length c.take.new.ropes.items + c.take.new.ropes.spare ≡ length ropes + c.self.inside.ropes.spare = omega (arith, one, ap length (gone c.before), c.in-Some-take.ensures.gained) in
    ap (λ n. min n 2147483648) room ∙ ap (λ (v : Ropes). v.room) c.self.view_is
