-- What becomes of the ropes, and of the order in which they are due, as one rope comes, goes or changes.
use Rattle.std.proofs.Common.{◌≡◌, ℕ, zero, suc, ◌+◌, ◌<◌, ◌≤◌, List, [], ◌∷◌, length, map, Bool, true, false, not, ◌==◌, cond, nat_lt, Option, Some, None, refl, sym, ◌∙◌, ap, subst, arith}
use Rattle.std.proofs.lemmas.Bool.{cond_both, false≢true, ltb-true, ltb-false, le-ltb, eqb-true, eqb-false, eq-eqb, ne_eqb}
use Rattle.std.proofs.lemmas.Option.{slice_get_within}
use Rattle.std.proofs.lemmas.List.Edits.{length-remove}
use Rattle.std.specs.List.{insert, remove}
use Rattle.std.specs.Prelude.{slice_get, slice_set, option_map, IsSome, OnSome, IsOk, Result, Ok, Err, OnOk}
use Rattle.std.specs.Borrow.{MutBor}
use Rattle.std.specs.Fn.{Once, FnOnceReturnsAtMut}
use Rattle.counted_row.specs.Row.{IsChanged}
use Rattle.voice_units.specs.Blocks.{BlockPair}
use Rattle.rope_table.specs.declared.ropes.Rope.{Rope}
use Rattle.rope_table.specs.declared.dues.Due.{Due}
use Rattle.rope_table.specs.Table.{is_sooner, is_lower, Every, IsInOrder, rope_of, with_rope, without_rope, with_due, due_of, index_of, uses_by, uses_in, pieces_in}
use Rattle.rope_table.specs.Inside.{lies_below, place_of, IsAt, standing_of, standing_if, standing_at}
use Rattle.rope_table.specs.declared.ropes.Standing.{Standing}
use Rattle.rope_table.proofs.InOrder.{split, place_gone, every_put, every_imp, put_swap, length-put, Apart}
use Rattle.rope_table.proofs.ById.{changed, below_down, map_none, without_none, none_behind, not_here, place_more, place_none, if_id, rope_at_place, lower_apart, sooner_apart, sooner_through}

-- ---- places

-- the rope of another number stands at the place of a number that is not live
pub not_live : (id : ℕ) (ropes : List Rope) (rope : Rope) → IsInOrder is_lower ropes → slice_get ropes (place_of (lies_below id) ropes) ≡ Some rope → (rope.id ≡ id → ⊥) → rope_of ropes id ≡ None
not_live id ropes rope order at other = rope_at_place id ropes order ∙ ap (if_id id) at ∙ ap (λ b. cond b (Some rope) None) (ne_eqb rope.id id other)

pub live_at : (id i : ℕ) (ropes : List Rope) (rope : Rope) → IsInOrder is_lower ropes → i ≡ place_of (lies_below id) ropes → slice_get ropes i ≡ Some rope → rope.id ≡ id → IsAt ropes id i
live_at id i ropes rope order place at same =
    let found : rope_of ropes id ≡ Some rope = rope_at_place id ropes order ∙ ap (λ k. if_id id (slice_get ropes k)) (sym place) ∙ ap (if_id id) at ∙ ap (λ b. cond b (Some rope) None) (eq-eqb rope.id id same) in
    record { within = slice_get_within ropes i rope at; place = place; found = at ∙ sym found; some = subst IsSome (sym found) refl }

-- no rope stands at the place of a number that is above all others
pub beyond_all : (id i : ℕ) (ropes : List Rope) → IsInOrder is_lower ropes → i ≡ place_of (lies_below id) ropes → slice_get ropes i ≡ None → rope_of ropes id ≡ None
beyond_all id i ropes order place none = rope_at_place id ropes order ∙ ap (λ k. if_id id (slice_get ropes k)) (sym place) ∙ ap (if_id id) none

-- the rope of a number that is live stands at the place of the number
pub stands_if : (id : ℕ) (ropes : List Rope) → IsInOrder is_lower ropes → IsSome (rope_of ropes id) → IsAt ropes id (place_of (lies_below id) ropes)
stands_if id ropes order some = by (slice_get ropes (place_of (lies_below id) ropes)) refl
  where
    by : (o : Option Rope) → slice_get ropes (place_of (lies_below id) ropes) ≡ o → IsAt ropes id (place_of (lies_below id) ropes)
    by None e = absurd (false≢true (subst IsSome (beyond_all id (place_of (lies_below id) ropes) ropes order refl e) some))
    by (Some rope) e = split (rope.id == id)
        (λ same. live_at id (place_of (lies_below id) ropes) ropes rope order refl e (eqb-true rope.id id same))
        (λ other. absurd (false≢true (subst IsSome (not_live id ropes rope order e (eqb-false rope.id id other)) some)))

pub stands_found : (id : ℕ) (ropes : List Rope) (rope : Rope) → IsInOrder is_lower ropes → Some rope ≡ rope_of ropes id → IsAt ropes id (place_of (lies_below id) ropes)
stands_found id ropes rope order live = stands_if id ropes order (subst IsSome live refl)

pub none_stands : (id i : ℕ) (ropes : List Rope) → IsAt ropes id i → ◌≡◌ {A = Option Rope} (slice_get ropes i) None → ⊥
none_stands id i ropes at none = false≢true (subst IsSome (sym at.found ∙ none) at.some)

-- ---- the rope of a number changes, or goes

here : (id : ℕ) (rope : Rope) (ropes : List Rope) → rope.id ≡ id → rope_of (rope ∷ ropes) id ≡ Some rope
here id rope ropes h = ap (λ b. cond b (Some rope) (rope_of ropes id)) (eq-eqb rope.id id h)

one_of : (x y : Rope) → ◌≡◌ {A = Option Rope} (Some x) (Some y) → x ≡ y
one_of x y e = cc

three : {P : Type 0} (a b : ℕ) → (a < b → P) → (a ≡ b → P) → (b < a → P) → P
three a b less same more = split (nat_lt a b) (λ e. less (ltb-true a b e)) (λ e. split (a == b) (λ f. same (eqb-true a b f)) (λ f. more (omega (arith, ltb-false a b e, eqb-false a b f))))

no_rope : {P : Type 0} (rope : Rope) (o : Option Rope) → o ≡ Some rope → o ≡ None → P
no_rope rope o e f = cc

pub map_at : (id : ℕ) (g : Rope → Rope) (ropes : List Rope) (rope : Rope) → IsInOrder is_lower ropes → rope_of ropes id ≡ Some rope → map (changed id g) ropes ≡ insert (remove ropes (place_of (lies_below id) ropes)) (place_of (lies_below id) ropes) (g rope)
map_at id g [] rope order found = cc
map_at id g (r ∷ ropes) rope order found =
    three r.id id
    (λ less.
    ap (λ b. cond b (g r) r ∷ map (changed id g) ropes) (ne_eqb r.id id (λ e. omega (arith, e, less)))
    ∙ ap (λ l. r ∷ l) (map_at id g ropes rope order.1 (sym (not_here id r ropes (λ e. omega (arith, e, less))) ∙ found))
    ∙ sym (ap (λ i. insert (remove (r ∷ ropes) i) i (g rope)) (place_more id r ropes less)))
    (λ same.
    ap (λ b. cond b (g r) r ∷ map (changed id g) ropes) (eq-eqb r.id id same)
    ∙ ap (λ l. g r ∷ l) (map_none id g ropes (none_behind id r ropes (omega (arith, same)) order.0))
    ∙ ap (λ q. g q ∷ ropes) (one_of r rope (sym (here id r ropes same) ∙ found))
    ∙ sym (ap (λ i. insert (remove (r ∷ ropes) i) i (g rope)) (place_none id r ropes (omega (arith, same)))))
    (λ more. no_rope rope (rope_of ropes id) (sym (not_here id r ropes (λ e. omega (arith, e, more))) ∙ found) (none_behind id r ropes (omega (arith, more)) order.0))

-- the first rope that is not below a number, changed where it stands
pub map_there : (id : ℕ) (g : Rope → Rope) (ropes : List Rope) (rope : Rope) → IsInOrder is_lower ropes → slice_get ropes (place_of (lies_below id) ropes) ≡ Some rope → slice_set ropes (place_of (lies_below id) ropes) (changed id g rope) ≡ map (changed id g) ropes
map_there id g [] rope order there = cc
map_there id g (r ∷ ropes) rope order there =
    split (nat_lt r.id id)
    (λ e. let less = ltb-true r.id id e in
    ap (λ i. slice_set (r ∷ ropes) i (changed id g rope)) (place_more id r ropes less)
    ∙ ap (λ l. r ∷ l) (map_there id g ropes rope order.1 (sym (ap (slice_get (r ∷ ropes)) (place_more id r ropes less)) ∙ there))
    ∙ sym (ap (λ b. cond b (g r) r ∷ map (changed id g) ropes) (ne_eqb r.id id (λ f. omega (arith, f, less)))))
    (λ e. let least : id ≤ r.id = ltb-false r.id id e in
    ap (λ i. slice_set (r ∷ ropes) i (changed id g rope)) (place_none id r ropes least)
    ∙ ap (λ q. changed id g q ∷ ropes) (sym (one_of r rope (sym (ap (slice_get (r ∷ ropes)) (place_none id r ropes least)) ∙ there)))
    ∙ ap (λ l. changed id g r ∷ l) (sym (map_none id g ropes (none_behind id r ropes least order.0))))

-- none is changed where no rope stands at the place of the number
pub map_beyond : (id : ℕ) (g : Rope → Rope) (ropes : List Rope) → IsInOrder is_lower ropes → slice_get ropes (place_of (lies_below id) ropes) ≡ None → ropes ≡ map (changed id g) ropes
map_beyond id g ropes order none = sym (map_none id g ropes (beyond_all id (place_of (lies_below id) ropes) ropes order refl none))

-- what the rope of a number is, told by the one at its place
pub standing_there : (id : ℕ) (ropes : List Rope) (rope : Rope) → IsInOrder is_lower ropes → slice_get ropes (place_of (lies_below id) ropes) ≡ Some rope → standing_if id rope ≡ standing_at ropes id
standing_there id ropes rope order there =
    cond_both (rope.id == id) (Some rope) None (λ o. cond (rope.id == id) (Some (standing_of rope)) None ≡ option_map standing_of o)
    (λ e. ap (λ b. cond b (Some (standing_of rope)) None) e) (λ e. ap (λ b. cond b (Some (standing_of rope)) None) e)
    ∙ sym (ap (option_map standing_of) (rope_at_place id ropes order ∙ ap (if_id id) there))

pub standing_beyond : (id : ℕ) (ropes : List Rope) → IsInOrder is_lower ropes → slice_get ropes (place_of (lies_below id) ropes) ≡ None → ◌≡◌ {A = Option Standing} None (standing_at ropes id)
standing_beyond id ropes order none = sym (ap (option_map standing_of) (beyond_all id (place_of (lies_below id) ropes) ropes order refl none))

-- the rope of a number, by what it is
pub standing_found : (ropes : List Rope) (id : ℕ) (was : Standing) → Some was ≡ standing_at ropes id → (rope : Rope) × (rope_of ropes id ≡ Some rope) × (was ≡ standing_of rope)
standing_found ropes id was e = by (rope_of ropes id) refl
  where
    by : (o : Option Rope) → rope_of ropes id ≡ o → (rope : Rope) × (rope_of ropes id ≡ Some rope) × (was ≡ standing_of rope)
    by None f = cc (e, ap (option_map standing_of) f)
    by (Some rope) f = (rope, f, cc (e, ap (option_map standing_of) f))

-- where there is no rope of a number none changes
pub standing_none : (id : ℕ) (g : Rope → Rope) (ropes : List Rope) → ◌≡◌ {A = Option Standing} None (standing_at ropes id) → map (changed id g) ropes ≡ ropes
standing_none id g ropes e = by (rope_of ropes id) refl
  where
    by : (o : Option Rope) → rope_of ropes id ≡ o → map (changed id g) ropes ≡ ropes
    by None f = map_none id g ropes f
    by (Some rope) f = cc (e, ap (option_map standing_of) f)

-- a call at the rope that stands at the place of a number, which changes the rope of the number alone and tells what it was
module _ {F : Type 0} (call : Once F (MutBor Rope × Unit {0}) (Option Standing × (MutBor Rope × Unit {0}))) (f : F) (id n : ℕ) (g : Rope → Rope) (ropes new : List Rope) (r : Option Standing) (order : IsInOrder is_lower ropes) (same : n ≡ id)
    (acts : (x y : Rope) (told : Option Standing) → FnOnceReturnsAtMut call f x told y → (told ≡ standing_if id x) × (y ≡ changed id g x)) (done : IsChanged call f ropes new (place_of (lies_below n) ropes) r) where
  there : slice_get ropes (place_of (lies_below id) ropes) ≡ Some done.before
  there = ap (λ m. slice_get ropes (place_of (lies_below m) ropes)) (sym same) ∙ done.there

  pub changed_there : new ≡ map (changed id g) ropes
  changed_there =
      done.others
      ∙ ap (λ m. slice_set ropes (place_of (lies_below m) ropes) done.after) same
      ∙ ap (slice_set ropes (place_of (lies_below id) ropes)) (acts done.before done.after r done.called).1
      ∙ map_there id g ropes done.before order there

  pub told_there : r ≡ standing_at ropes id
  told_there = (acts done.before done.after r done.called).0 ∙ standing_there id ropes done.before order there

abbrev kept_front : ℕ → Rope → List Rope → Bool → List Rope
kept_front id r ropes b = cond (not b) (r ∷ without_rope id ropes) (without_rope id ropes)

pub without_at : (id : ℕ) (ropes : List Rope) (rope : Rope) → IsInOrder is_lower ropes → rope_of ropes id ≡ Some rope → without_rope id ropes ≡ remove ropes (place_of (lies_below id) ropes)
without_at id [] rope order found = cc
without_at id (r ∷ ropes) rope order found =
    three r.id id
    (λ less.
    ap (kept_front id r ropes) (ne_eqb r.id id (λ e. omega (arith, e, less)))
    ∙ ap (λ l. r ∷ l) (without_at id ropes rope order.1 (sym (not_here id r ropes (λ e. omega (arith, e, less))) ∙ found))
    ∙ sym (ap (remove (r ∷ ropes)) (place_more id r ropes less)))
    (λ same.
    ap (kept_front id r ropes) (eq-eqb r.id id same)
    ∙ without_none id ropes (none_behind id r ropes (omega (arith, same)) order.0)
    ∙ sym (ap (remove (r ∷ ropes)) (place_none id r ropes (omega (arith, same)))))
    (λ more. no_rope rope (rope_of ropes id) (sym (not_here id r ropes (λ e. omega (arith, e, more))) ∙ found) (none_behind id r ropes (omega (arith, more)) order.0))

-- what goes from the place of a number and comes back changed changes its rope
pub put_back : (id i : ℕ) (g : Rope → Rope) (ropes : List Rope) (rope : Rope) → IsInOrder is_lower ropes → IsAt ropes id i → slice_get ropes i ≡ Some rope → insert (remove ropes i) i (g rope) ≡ map (changed id g) ropes
put_back id i g ropes rope order at e =
    ap (λ k. insert (remove ropes k) k (g rope)) at.place ∙ sym (map_at id g ropes rope order (sym at.found ∙ e))

-- a rope that is taken out and put back changed, by a number that was read
pub changed_back : (id n : ℕ) (g : Rope → Rope) (ropes mid new : List Rope) (live rope : Rope) → IsInOrder is_lower ropes → n ≡ id → Some live ≡ rope_of ropes id → Some rope ≡ slice_get ropes (place_of (lies_below n) ropes)
    → mid ≡ remove ropes (place_of (lies_below n) ropes) → new ≡ insert mid (place_of (lies_below n) mid) (g rope) → new ≡ map (changed id g) ropes
changed_back id n g ropes mid new live rope order same found value gone put =
    put
    ∙ ap (λ l. insert l (place_of (lies_below n) l) (g rope)) gone
    ∙ ap (λ k. insert (remove ropes (place_of (lies_below n) ropes)) k (g rope)) (place_gone is_lower (lies_below n) (below_down n) ropes order)
    ∙ ap (λ m. insert (remove ropes (place_of (lies_below m) ropes)) (place_of (lies_below m) ropes) (g rope)) same
    ∙ put_back id (place_of (lies_below id) ropes) g ropes rope order (stands_found id ropes live order found) (ap (λ m. slice_get ropes (place_of (lies_below m) ropes)) (sym same) ∙ sym value)

-- a rope that is live is taken out
pub never_gone : (id n : ℕ) (ropes : List Rope) (live : Rope) → IsInOrder is_lower ropes → n ≡ id → Some live ≡ rope_of ropes id → ◌≡◌ {A = Option Rope} None (slice_get ropes (place_of (lies_below n) ropes)) → ⊥
never_gone id n ropes live order same found none =
    none_stands id (place_of (lies_below id) ropes) ropes (stands_found id ropes live order found) (ap (λ m. slice_get ropes (place_of (lies_below m) ropes)) (sym same) ∙ sym none)

without_found : (id i : ℕ) (ropes : List Rope) (o : Option Rope) → IsInOrder is_lower ropes → IsAt ropes id i → rope_of ropes id ≡ o → IsSome o → remove ropes i ≡ without_rope id ropes
without_found id i ropes None order at e some = cc
without_found id i ropes (Some rope) order at e some = ap (remove ropes) at.place ∙ sym (without_at id ropes rope order e)

pub remove_is_without : (id i : ℕ) (ropes : List Rope) → IsInOrder is_lower ropes → IsAt ropes id i → remove ropes i ≡ without_rope id ropes
remove_is_without id i ropes order at = without_found id i ropes (rope_of ropes id) order at refl at.some

-- an insertion with room succeeds
pub ok_part : {T E P : Type 0} (r : Result T E) → OnOk r P → IsOk r → P
ok_part (Ok v) p ok = p
ok_part (Err e) p ok = absurd (false≢true ok)

none_goes : {A : Type 0} (xs : List A) (i : ℕ) → ◌≡◌ {A = Option A} (slice_get xs i) None → remove xs i ≡ xs
none_goes [] zero e = refl
none_goes [] (suc i) e = refl
none_goes (x ∷ xs) zero e = cc
none_goes (x ∷ xs) (suc i) e = ap (λ l. x ∷ l) (none_goes xs i e)

-- the room of what goes stays
pub room_left : {A : Type 0} (xs : List A) (i spare more : ℕ) (r : Option A) → r ≡ slice_get xs i → spare ≤ more → OnSome r (more ≡ spare + 1) → length xs + spare ≤ length (remove xs i) + more
room_left xs i spare more None at kept gained = let same = ap length (none_goes xs i (sym at)) in omega (arith, same)
room_left xs i spare more (Some x) at kept gained = let one = length-remove xs i (slice_get_within xs i x (sym at)) in omega (arith, one, gained)

put_front : (rope : Rope) (ropes : List Rope) → Every (λ other. is_lower rope other ≡ true) ropes → with_rope rope ropes ≡ rope ∷ ropes
put_front rope [] all = refl
put_front rope (r ∷ ropes) all = ap (λ b. cond b (rope ∷ r ∷ ropes) (r ∷ with_rope rope ropes)) all.0

behind_all : (id : ℕ) (r new : Rope) (ropes : List Rope) → r.id ≡ id → new.id ≡ id → Every (λ other. is_lower r other ≡ true) ropes → Every (λ other. is_lower new other ≡ true) ropes
behind_all id r new ropes e f all = every_imp (λ (other : Rope). is_lower r other ≡ true) (λ (other : Rope). is_lower new other ≡ true) (λ other h. ap (λ n. nat_lt n other.id) (f ∙ sym e) ∙ h) ropes all

-- a rope that changes goes and comes again
pub put_again : (id : ℕ) (g : Rope → Rope) (ropes : List Rope) (rope : Rope) → IsInOrder is_lower ropes → rope_of ropes id ≡ Some rope → (g rope).id ≡ id → map (changed id g) ropes ≡ with_rope (g rope) (without_rope id ropes)
put_again id g [] rope order found named = cc
put_again id g (r ∷ ropes) rope order found named =
    three r.id id
    (λ less.
    ap (λ b. cond b (g r) r ∷ map (changed id g) ropes) (ne_eqb r.id id (λ e. omega (arith, e, less)))
    ∙ ap (λ l. r ∷ l) (put_again id g ropes rope order.1 (sym (not_here id r ropes (λ e. omega (arith, e, less))) ∙ found) named)
    ∙ sym (ap (λ b. cond b (g rope ∷ r ∷ without_rope id ropes) (r ∷ with_rope (g rope) (without_rope id ropes))) (le-ltb (g rope).id r.id (omega (arith, named, less))))
    ∙ sym (ap (λ b. with_rope (g rope) (kept_front id r ropes b)) (ne_eqb r.id id (λ e. omega (arith, e, less)))))
    (λ same.
    let one = one_of r rope (sym (here id r ropes same) ∙ found) in
    let none = none_behind id r ropes (omega (arith, same)) order.0 in
    ap (λ b. cond b (g r) r ∷ map (changed id g) ropes) (eq-eqb r.id id same)
    ∙ ap (λ l. g r ∷ l) (map_none id g ropes none)
    ∙ ap (λ q. g q ∷ ropes) one
    ∙ sym (put_front (g rope) ropes (behind_all id r (g rope) ropes same named order.0))
    ∙ sym (ap (with_rope (g rope)) (ap (kept_front id r ropes) (eq-eqb r.id id same) ∙ without_none id ropes none)))
    (λ more. no_rope rope (rope_of ropes id) (sym (not_here id r ropes (λ e. omega (arith, e, more))) ∙ found) (none_behind id r ropes (omega (arith, more)) order.0))

abbrev pub itself : Rope → Rope
itself rope = rope

pub map_itself : (id : ℕ) (ropes : List Rope) → map (changed id itself) ropes ≡ ropes
map_itself id [] = refl
map_itself id (r ∷ ropes) = split (r.id == id)
    (λ e. ap (λ b. cond b r r ∷ map (changed id itself) ropes) e ∙ ap (λ l. r ∷ l) (map_itself id ropes))
    (λ e. ap (λ b. cond b r r ∷ map (changed id itself) ropes) e ∙ ap (λ l. r ∷ l) (map_itself id ropes))

rope_of-id : (id : ℕ) (ropes : List Rope) (rope : Rope) → rope_of ropes id ≡ Some rope → rope.id ≡ id
rope_of-id id [] rope found = cc
rope_of-id id (r ∷ ropes) rope found = three r.id id
    (λ less. rope_of-id id ropes rope (sym (not_here id r ropes (λ e. omega (arith, e, less))) ∙ found))
    (λ same. ap (λ (q : Rope). q.id) (sym (one_of r rope (sym (here id r ropes same) ∙ found))) ∙ same)
    (λ more. rope_of-id id ropes rope (sym (not_here id r ropes (λ e. omega (arith, e, more))) ∙ found))

pub id_of : (id : ℕ) (ropes : List Rope) (rope : Rope) → rope_of ropes id ≡ Some rope → rope.id ≡ id
id_of id ropes rope found = rope_of-id id ropes rope found

-- the ropes are one of them and the others
pub as_put : (id : ℕ) (ropes : List Rope) (rope : Rope) → IsInOrder is_lower ropes → rope_of ropes id ≡ Some rope → ropes ≡ with_rope rope (without_rope id ropes)
as_put id ropes rope order found = sym (map_itself id ropes) ∙ put_again id itself ropes rope order found (id_of id ropes rope found)

-- ---- order

every_map : (P Q : Rope → Type 0) (f : Rope → Rope) → ((x : Rope) → P x → Q (f x)) → (xs : List Rope) → Every P xs → Every Q (map f xs)
every_map P Q f h [] all = tt
every_map P Q f h (x ∷ xs) all = (h x all.0, every_map P Q f h xs all.1)

pub in_order-map : (f : Rope → Rope) → ((r : Rope) → (f r).id ≡ r.id) → (xs : List Rope) → IsInOrder is_lower xs → IsInOrder is_lower (map f xs)
in_order-map f same [] order = tt
in_order-map f same (x ∷ xs) order =
    (every_map (λ y. is_lower x y ≡ true) (λ y. is_lower (f x) y ≡ true) f (λ y h. ap (λ n. nat_lt n (f y).id) (same x) ∙ ap (λ n. nat_lt x.id n) (same y) ∙ h) xs order.0, in_order-map f same xs order.1)

pub every_changed : (P : Rope → Type 0) (id : ℕ) (g : Rope → Rope) → ((x : Rope) → P x → P (g x)) → (xs : List Rope) → Every P xs → Every P (map (changed id g) xs)
every_changed P id g h xs all = every_map P P (changed id g) (λ x p. cond_both (x.id == id) (g x) x P (λ e. h x p) (λ e. p)) xs all

pub every_without : (P : Rope → Type 0) (id : ℕ) (xs : List Rope) → Every P xs → Every P (without_rope id xs)
every_without P id [] all = tt
every_without P id (x ∷ xs) all = cond_both (not (x.id == id)) (x ∷ without_rope id xs) (without_rope id xs) (Every P) (λ e. (all.0, every_without P id xs all.1)) (λ e. every_without P id xs all.1)

pub in_order-without : (id : ℕ) (xs : List Rope) → IsInOrder is_lower xs → IsInOrder is_lower (without_rope id xs)
in_order-without id [] order = tt
in_order-without id (x ∷ xs) order = cond_both (not (x.id == id)) (x ∷ without_rope id xs) (without_rope id xs) (IsInOrder is_lower)
    (λ e. (every_without (λ y. is_lower x y ≡ true) id xs order.0, in_order-without id xs order.1)) (λ e. in_order-without id xs order.1)

elsewhere : (id : ℕ) (r : Rope) (ropes : List Rope) → rope_of (r ∷ ropes) id ≡ None → r.id ≡ id → ⊥
elsewhere id r ropes none same = no_rope r (rope_of (r ∷ ropes) id) (here id r ropes same) none

rest_none : (id : ℕ) (r : Rope) (ropes : List Rope) → rope_of (r ∷ ropes) id ≡ None → rope_of ropes id ≡ None
rest_none id r ropes none = sym (not_here id r ropes (elsewhere id r ropes none)) ∙ none

pub apart_from : (rope : Rope) (ropes : List Rope) → rope_of ropes rope.id ≡ None → Apart is_lower rope ropes
apart_from rope [] none = tt
apart_from rope (r ∷ ropes) none = (lower_apart rope r (λ e. elsewhere rope.id r ropes none (sym e)), apart_from rope ropes (rest_none rope.id r ropes none))

-- ---- when they are due

pub dues_apart : (due : Due) (ropes : List Rope) → rope_of ropes due.id ≡ None → Apart is_sooner due (index_of ropes)
dues_apart due [] none = tt
dues_apart due (r ∷ ropes) none =
    let rest = dues_apart due ropes (rest_none due.id r ropes none) in
    cond_both r.kept (index_of ropes) (with_due (due_of r) (index_of ropes)) (Apart is_sooner due) (λ e. rest)
    (λ e. every_put (λ other. is_sooner other due ≡ not (is_sooner due other)) is_sooner (due_of r) (index_of ropes) (sooner_apart due (due_of r) (λ same. elsewhere due.id r ropes none (sym same))) rest)

abbrev pub index_with : Rope → List Due → List Due
index_with rope dues = cond rope.kept dues (with_due (due_of rope) dues)

two_dues : (x y : Due) (b c : Bool) (dues : List Due) → (x.id ≡ y.id → ⊥) → cond b (cond c dues (with_due y dues)) (with_due x (cond c dues (with_due y dues))) ≡ cond c (cond b dues (with_due x dues)) (with_due y (cond b dues (with_due x dues)))
two_dues x y true true dues apart = refl
two_dues x y true false dues apart = refl
two_dues x y false true dues apart = refl
two_dues x y false false dues apart = put_swap is_sooner sooner_through x y (sooner_apart x y apart) dues

pub index_of-with : (rope : Rope) (ropes : List Rope) → rope_of ropes rope.id ≡ None → index_of (with_rope rope ropes) ≡ index_with rope (index_of ropes)
index_of-with rope [] none = refl
index_of-with rope (r ∷ ropes) none =
    cond_both (is_lower rope r) (rope ∷ r ∷ ropes) (r ∷ with_rope rope ropes) (λ l. index_of l ≡ index_with rope (index_of (r ∷ ropes)))
    (λ e. refl)
    (λ e. ap (index_with r) (index_of-with rope ropes (rest_none rope.id r ropes none))
    ∙ two_dues (due_of r) (due_of rope) r.kept rope.kept (index_of ropes) (λ same. elsewhere rope.id r ropes none same))

pub fewer_due : (ropes : List Rope) → length (index_of ropes) ≤ length ropes
fewer_due [] = omega arith
fewer_due (r ∷ ropes) =
    let rest = fewer_due ropes in
    cond_both r.kept (index_of ropes) (with_due (due_of r) (index_of ropes)) (λ l. length l ≤ length (r ∷ ropes)) (λ e. omega (arith, rest))
    (λ e. omega (arith, rest, length-put is_sooner (due_of r) (index_of ropes)))

-- ---- uses

pub uses_with : (block : ℕ) (pair : BlockPair) (rope : Rope) (ropes : List Rope) → uses_in block (pieces_in (with_rope rope ropes)) pair ≡ uses_by block rope.pieces pair + uses_in block (pieces_in ropes) pair
uses_with block pair rope [] = refl
uses_with block pair rope (r ∷ ropes) =
    let rest = uses_with block pair rope ropes in
    cond_both (is_lower rope r) (rope ∷ r ∷ ropes) (r ∷ with_rope rope ropes) (λ l. uses_in block (pieces_in l) pair ≡ uses_by block rope.pieces pair + uses_in block (pieces_in (r ∷ ropes)) pair)
    (λ e. refl) (λ e. omega (arith, rest))

pub length-with : (rope : Rope) (ropes : List Rope) → length (with_rope rope ropes) ≡ suc (length ropes)
length-with rope ropes = length-put is_lower rope ropes
