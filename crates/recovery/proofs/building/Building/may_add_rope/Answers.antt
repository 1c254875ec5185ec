use Rattle.std.proofs.Common.{◌≡◌, ℕ, ◌<◌, ◌≤◌, ◌-◌, Bool, true, false, not, refl, sym, ◌∙◌, ap, arith, nat_lt, nat_le}
use Rattle.std.specs.Prelude.{is_some}
use Rattle.std.specs.List.{list_all}
use Rattle.std.proofs.lemmas.Bool.{le-leb}
use Rattle.voice_units.specs.Spots.{spots_of}
use Rattle.voice_units.specs.Blocks.{pairs_at}
use Rattle.voice_model.specs.Replay.{Rebuilt, has_place, takes_ropes}
use Rattle.rope_table.specs.Table.{number_above}
use Rattle.recovery.specs.declared.building.Building.{Building}
use Rattle.recovery.specs.Building.{Builds}
use Rattle.recovery.proofs.Based.{above_shown, second_fails, all_true, is_less}
use Rattle.recovery.proofs.building.Building.may_add_rope.Goals as goal

-- whether no rope so far has this number or a greater one
below_all : (old : Building) (r : Rebuilt) (id number : ℕ) → 1 ≤ id → number ≡ id → Builds old r → is_some (number_above old.parts.ropes.ropes (number - 1)) ≡ not (list_all (λ rope. nat_lt rope.id id) r.ropes)
below_all old r id number some is h = ap (λ n. is_some (number_above old.parts.ropes.ropes (n - 1))) is ∙ ap (λ l. is_some (number_above l (id - 1))) h.kept.ropes ∙ above_shown r.shape.graces r.rows r.ropes id some

no_more : (b : Bool) → true ≡ not b → b ≡ false
no_more true e = cc
no_more false e = refl

all_pass : (b : Bool) → false ≡ not b → b ≡ true
all_pass true e = refl
all_pass false e = cc

pub returns-then-is_some : goal.returns-then-is_some
returns-then-is_some c = λ r h.
    second_fails (takes_ropes r.phase) (list_all (λ rope. nat_lt rope.id c.args.id) r.ropes) (nat_lt c.args.id r.next) (nat_le c.args.idle r.moment) (list_all (has_place r.places) (pairs_at r.shape.block (spots_of c.args.pieces.now)))
    (no_more _ (c.if-is_some.ensures ∙ ap is_some c.after.ensures ∙ below_all c.args.self.now r c.args.id c.number.result c.requires c.number.ensures.value h))

pub returns : goal.returns
returns c = λ r h.
    let old = c.args.self.now in
    let below : c.args.id < r.next = let a = c.if-number-self.false in let b = c.number-2.ensures.value in let n = h.kept.next in omega (arith, a, b, n) in
    let early : c.args.idle ≤ r.moment = let a = c.if-number.false in let b = c.number-3.ensures.value in let d = c.number-4.ensures.value in let n = h.kept.moment in omega (arith, a, b, d, n) in
    c.are_placed.ensures r.places (record { each = h.places.each; differ = h.placed.differ })
    ∙ ap (λ n. list_all (has_place r.places) (pairs_at n (spots_of c.args.pieces.now))) (c.block.ensures.value ∙ h.kept.block)
    ∙ all_true (takes_ropes r.phase) (list_all (λ rope. nat_lt rope.id c.args.id) r.ropes) (nat_lt c.args.id r.next) (nat_le c.args.idle r.moment) (list_all (has_place r.places) (pairs_at r.shape.block (spots_of c.args.pieces.now)))
    (ap takes_ropes (sym h.stage) ∙ sym c.if-not-is_for_ropes.ensures)
    (all_pass _ (c.if-is_some.ensures ∙ ap is_some c.after.ensures ∙ below_all old r c.args.id c.number.result c.requires c.number.ensures.value h))
    (is_less c.args.id r.next below) (le-leb c.args.idle r.moment early)
