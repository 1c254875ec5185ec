use Rattle.std.proofs.Common.{rules, ◌≡◌, map, None, ap, sym, refl, ◌∙◌}
use Rattle.std.specs.Prelude.{slice_get}
use Rattle.rope_table.specs.Inside.{Ropes, place_of, lies_below, standing_at, rested}
use Rattle.rope_table.proofs.Edited.{changed_there, told_there, map_beyond, standing_beyond}
use Rattle.rope_table.proofs.Totals.{live_changed}
use Rattle.rope_table.proofs.Standings.{idle_as}
use Rattle.rope_table.proofs.ropes.LiveRopes.rest.Goals as goal

beyond : (c : goal.After-from_residual) → slice_get c.self.inside.ropes.items (place_of (lies_below c.args.id) c.self.inside.ropes.items) ≡ None
beyond c = ap (λ n. slice_get c.self.inside.ropes.items (place_of (lies_below n) c.self.inside.ropes.items)) (sym c.number.ensures.value) ∙ c.in_err-change.ensures.none

pub returns-in_err-change-clause-was : goal.returns-in_err-change-clause-was
returns-in_err-change-clause-was c = c.from_residual.ensures ∙ standing_beyond c.args.id c.self.inside.ropes.items c.self.invariant.order (beyond c) ∙ ap (λ (v : Ropes). standing_at v.ropes c.args.id) c.self.view_is

pub returns-in_err-change-clause-ropes : goal.returns-in_err-change-clause-ropes
returns-in_err-change-clause-ropes c = c.in_err-change.ensures.same ∙ map_beyond c.args.id (idle_as c.args.idle c.args.last c.args.wait c.args.still) c.self.inside.ropes.items c.self.invariant.order (beyond c) ∙ ap (λ (v : Ropes). map (rested c.args.id c.args.idle c.args.last c.args.wait c.args.still) v.ropes) c.self.view_is

pub returns-clause-was : goal.returns-clause-was
returns-clause-was c =
    told_there _ _ c.args.id c.number.result (idle_as c.args.idle c.args.last c.args.wait c.args.still) c.self.inside.ropes.items _ _ c.self.invariant.order c.number.ensures.value (λ x y told called. search rules) c.in_ok-change.ensures.some
    ∙ ap (λ (v : Ropes). standing_at v.ropes c.args.id) c.self.view_is

changed_now : (c : goal.In_ok-change) → c.change.new.ropes.items ≡ map (rested c.args.id c.args.idle c.args.last c.args.wait c.args.still) c.self.inside.ropes.items
changed_now c = changed_there _ _ c.args.id c.number.result (idle_as c.args.idle c.args.last c.args.wait c.args.still) c.self.inside.ropes.items _ _ c.self.invariant.order c.number.ensures.value (λ x y told called. search rules) c.in_ok-change.ensures.some

pub invariant_of-self-2 : goal.invariant_of-self-2
invariant_of-self-2 c = live_changed c.args.id (idle_as c.args.idle c.args.last c.args.wait c.args.still) (λ r. refl) (λ r. refl) c.self.inside.ropes.items _ c.self.inside.pieces c.self.invariant (changed_now c)

pub returns-clause-ropes : goal.returns-clause-ropes
returns-clause-ropes c = changed_now c ∙ ap (λ (v : Ropes). map (rested c.args.id c.args.idle c.args.last c.args.wait c.args.still) v.ropes) c.self.view_is
