use Rattle.std.proofs.Common.{◌≡◌, ◌∙◌, ◌<◌, ℕ, ap, sym, subst, cond, length, Some, None}
use Rattle.std.specs.Prelude.{nat_eq, slice_get, swap_remove, IsSome}
use Rattle.std.specs.Map.{lookup}
use Rattle.interest_table.specs.Inside.{same_name, stamp_of, row_of, row_under, stamp_in, is_that, ArePlaced}
use Rattle.interest_table.proofs.Placed.{eq_named, renamed, found_at, taken_out, moved_stands, rows_fewer}
use Rattle.interest_table.proofs.stamped.StampedRows.take.Goals as goal

pub place_anew-requires : goal.place_anew-requires
place_anew-requires c =
    let out = taken_out (eq_named c.sought.result) c.self.inside.rows.entries c.swap_remove_full.new.self.entries c.in-Some.index c.in-Some.named c.in-Some.stamp c.in-Some.ensures.index c.in-Some.ensures.key c.in-Some.ensures.value c.in-Some.ensures.entries in
    subst (λ l. (stamp : ℕ) → stamp_in l c.in-Some.index ≡ Some stamp → IsSome (lookup (nat_eq stamp) c.swap_remove.new.self.entries)) (sym out.2)
    (moved_stands c.self.inside.rows.entries c.self.inside.places.entries c.swap_remove.new.self.entries c.in-Some.named c.in-Some.stamp c.in-Some.index (c.in-Some.named, c.in-Some.stamp) c.self.invariant out.0 out.1 c.swap_remove.ensures.updates.0)

taken : (c : goal.After-place_anew) → (slice_get c.self.inside.rows.entries c.in-Some.index ≡ Some (c.in-Some.named, c.in-Some.stamp)) × (c.in-Some.index < length c.self.inside.rows.entries)
    × (c.swap_remove_full.new.self.entries ≡ swap_remove c.self.inside.rows.entries c.in-Some.index (c.in-Some.named, c.in-Some.stamp))
taken c = taken_out (eq_named c.sought.result) c.self.inside.rows.entries c.swap_remove_full.new.self.entries c.in-Some.index c.in-Some.named c.in-Some.stamp c.in-Some.ensures.index c.in-Some.ensures.key c.in-Some.ensures.value c.in-Some.ensures.entries

fewer : (c : goal.After-place_anew) → ArePlaced c.swap_remove_full.new.self.entries c.place_anew.new.places.entries
    × ((q : ℕ) → row_under c.swap_remove_full.new.self.entries c.place_anew.new.places.entries q ≡ cond (nat_eq c.in-Some.stamp q) None (row_under c.self.inside.rows.entries c.self.inside.places.entries q))
fewer c =
    let rows = c.self.inside.rows.entries in
    let places = c.self.inside.places.entries in
    subst (λ l. ArePlaced l c.place_anew.new.places.entries × ((q : ℕ) → row_under l c.place_anew.new.places.entries q ≡ cond (nat_eq c.in-Some.stamp q) None (row_under rows places q))) (sym (taken c).2)
    (rows_fewer rows places c.swap_remove.new.self.entries c.in-Some.named c.in-Some.stamp c.in-Some.index (c.in-Some.named, c.in-Some.stamp) c.self.invariant (taken c).0 (taken c).1 c.swap_remove.ensures.updates.0 c.place_anew.new.places.entries
    (subst (λ l. (q : ℕ) → lookup (nat_eq q) c.place_anew.new.places.entries ≡ cond (is_that q (stamp_in l c.in-Some.index)) (Some c.in-Some.index) (lookup (nat_eq q) c.swap_remove.new.self.entries)) (taken c).2 c.place_anew.ensures.places))

pub invariant_of-self-2 : goal.invariant_of-self-2
invariant_of-self-2 c = (fewer c).0

pub returns-clause-row : goal.returns-clause-row
returns-clause-row c =
    ap (λ s. row_of s c.in-Some.stamp) (sym c.self.view_is)
    ∙ found_at c.self.inside.rows.entries c.self.inside.places.entries c.in-Some.index c.in-Some.stamp c.in-Some.named c.self.invariant (taken c).0

pub returns-clause-names : goal.returns-clause-names
returns-clause-names c other text =
    renamed c.self.inside.rows.entries c.swap_remove_full.new.self.entries c.sought.result c.args.class c.args.key.now None c.sought.ensures.class c.sought.ensures.key c.in-Some.ensures.updates.0 other text
    ∙ ap (λ s. cond (same_name c.args.class c.args.key.now other text) None (stamp_of s other text)) c.self.view_is

pub returns-clause-at : goal.returns-clause-at
returns-clause-at c other = (fewer c).1 other ∙ ap (λ s. cond (nat_eq c.in-Some.stamp other) None (row_of s other)) c.self.view_is
