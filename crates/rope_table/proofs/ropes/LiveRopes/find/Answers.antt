use Rattle.std.proofs.Common.{◌≡◌, None, Some, ap, sym, ◌∙◌, refl}
use Rattle.std.specs.Prelude.{slice_get, Option}
use Rattle.rope_table.specs.declared.ropes.Rope.{Rope}
use Rattle.rope_table.specs.Table.{rope_of}
use Rattle.rope_table.specs.Inside.{Ropes, IsAt, place_of, lies_below}
use Rattle.rope_table.proofs.Edited.{not_live, live_at, beyond_all}
use Rattle.rope_table.proofs.ropes.LiveRopes.find.Goals as goal

pub returns-in_default : goal.returns-in_default
returns-in_default c =
    let ropes = c.self.inside.ropes.items in
    let none : ◌≡◌ {A = Option Rope} (slice_get ropes (place_of (lies_below c.args.id) ropes)) None =
    ap (λ n. slice_get ropes (place_of (lies_below n) ropes)) (sym c.number.ensures.value) ∙ sym c.in_default.ensures in
    sym (beyond_all c.args.id (place_of (lies_below c.args.id) ropes) ropes c.self.invariant.order refl none) ∙ ap (λ (v : Ropes). rope_of v.ropes c.args.id) c.self.view_is

pub returns-then-number : goal.returns-then-number
returns-then-number c =
    let ropes = c.self.inside.ropes.items in
    let at : ◌≡◌ {A = Option Rope} (slice_get ropes (place_of (lies_below c.args.id) ropes)) (Some c.in-Some.rope.now) =
    ap (λ n. slice_get ropes (place_of (lies_below n) ropes)) (sym c.number.ensures.value) ∙ sym c.in-Some.ensures in
    sym (not_live c.args.id ropes c.in-Some.rope.now c.self.invariant.order at (λ e. c.if-number.true (c.number-2.ensures.value ∙ e ∙ sym c.number-3.ensures.value))) ∙ ap (λ (v : Ropes). rope_of v.ropes c.args.id) c.self.view_is

pub returns : goal.returns
returns c =
    let ropes = c.self.inside.ropes.items in
    let at : ◌≡◌ {A = Option Rope} (slice_get ropes (place_of (lies_below c.args.id) ropes)) (Some c.in-Some.rope.now) =
    ap (λ n. slice_get ropes (place_of (lies_below n) ropes)) (sym c.number.ensures.value) ∙ sym c.in-Some.ensures in
    let stands : IsAt ropes c.args.id (place_of (lies_below c.args.id) ropes) = live_at c.args.id (place_of (lies_below c.args.id) ropes) ropes c.in-Some.rope.now c.self.invariant.order refl at (sym c.number-2.ensures.value ∙ c.if-number.false ∙ c.number-3.ensures.value) in
    sym at ∙ stands.found ∙ ap (λ (v : Ropes). rope_of v.ropes c.args.id) c.self.view_is
