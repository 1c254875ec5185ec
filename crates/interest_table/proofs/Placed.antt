-- Rows with their stamps, and the index of each stamp's row.
use Rattle.std.proofs.Common.{◌≡◌, ℕ, ◌<◌, ◌≤◌, ◌-◌, suc, zero, List, [], ◌∷◌, ◌++◌, take, length, ap, ap₂, ◌∙◌, sym, refl, subst, cond, Bool, true, false, ◌==◌, ◌&&◌, Option, Some, None, eq-eqb, arith}
use Rattle.std.proofs.lemmas.Bool.{eqb-true, ltb-true}
use Rattle.std.specs.Prelude.{nat_lt, nat_eq, slice_get, slice_set, slice_index_or, position, swap_remove, unwrap_or, IsSome}
use Rattle.std.specs.Map.{lookup, lookup_key, keys_of}
use Rattle.std.specs.Option.{option_map, option_map_or}
use Rattle.std.proofs.lemmas.Option.{slice_get-map, slice_get-get_or, slice_get_within}
use Rattle.indexmap.specs.IndexMap.{swap_remove_entry}
use Rattle.indexmap.proofs.MapLemmas.{Found-position}
use Rattle.std.proofs.lemmas.Cmp.{nat_list_eq_equiv, nat_eq_equiv}
use Rattle.voice_model.specs.State.{class_number}
use Rattle.interest_table.specs.contracts.stamped.NamedRowPartialEq.TheImpl as eq_impl
use Rattle.voice_model.specs.declared.calls.Class.{Class}
use Rattle.interest_table.specs.declared.stamped.NamedRow.{NamedRow}
use Rattle.interest_table.proofs.Found.{both_ways}
use Rattle.interest_table.specs.Inside.{same_name, stamp_at, stamp_in, row_in_place, row_under, is_that, ArePlaced}

-- ---- lists

-- numbers that are compared
above_zero : (j : ℕ) → (suc j == 0) ≡ false
above_zero j = by (suc j == 0) refl
  where
    by : (b : Bool) → (suc j == 0) ≡ b → b ≡ false
    by true e = absurd (omega (arith, eqb-true (suc j) 0 e))
    by false e = refl

below_more : (j : ℕ) → (0 == suc j) ≡ false
below_more j = by (0 == suc j) refl
  where
    by : (b : Bool) → (0 == suc j) ≡ b → b ≡ false
    by true e = absurd (omega (arith, eqb-true 0 (suc j) e))
    by false e = refl

-- as their predecessors are
both_more : (i j : ℕ) → (suc j == suc i) ≡ (j == i)
both_more i j = both_ways _ _ (λ k. eq-eqb j i (omega (arith, eqb-true (suc j) (suc i) k))) (λ k. eq-eqb (suc j) (suc i) (ap suc (eqb-true j i k)))

-- an item in front of the place where a list is cut stays
pub take_get : {X : Type 0} (xs : List X) (n j : ℕ) → j < n → slice_get (take n xs) j ≡ slice_get xs j
take_get [] zero j h = absurd (omega (arith, h))
take_get [] (suc n) j h = refl
take_get (x ∷ xs) zero j h = absurd (omega (arith, h))
take_get (x ∷ xs) (suc n) zero h = refl
take_get (x ∷ xs) (suc n) (suc j) h = take_get xs n j (omega (arith, h))

-- and none lies behind it
pub take_past : {X : Type 0} (xs : List X) (n j : ℕ) → n ≤ j → slice_get (take n xs) j ≡ None
take_past [] zero j h = refl
take_past [] (suc n) j h = refl
take_past (x ∷ xs) zero j h = refl
take_past (x ∷ xs) (suc n) zero h = absurd (omega (arith, h))
take_past (x ∷ xs) (suc n) (suc j) h = take_past xs n j (omega (arith, h))

-- no item lies behind a list
pub get_past : {X : Type 0} (xs : List X) (j : ℕ) → length xs ≤ j → slice_get xs j ≡ None
get_past [] j h = refl
get_past (x ∷ xs) zero h = absurd (omega (arith, h))
get_past (x ∷ xs) (suc j) h = get_past xs j (omega (arith, h))

-- the items once one was written
pub get_set : {X : Type 0} (xs : List X) (i j : ℕ) (y : X) → i < length xs → slice_get (slice_set xs i y) j ≡ cond (j == i) (Some y) (slice_get xs j)
get_set [] i j y h = absurd (omega (arith, h))
get_set (x ∷ xs) zero zero y h = refl
get_set (x ∷ xs) zero (suc j) y h = sym (ap (λ b. cond b (Some y) (slice_get xs j)) (above_zero j))
get_set (x ∷ xs) (suc i) zero y h = sym (ap (λ b. cond b (Some y) (Some x)) (below_more i))
get_set (x ∷ xs) (suc i) (suc j) y h = get_set xs i j y (omega (arith, h)) ∙ sym (ap (λ b. cond b (Some y) (slice_get xs j)) (both_more i j))

-- the items once one was put last
pub get_push : {X : Type 0} (xs : List X) (y : X) (j : ℕ) → slice_get (xs ++ y ∷ []) j ≡ cond (j == length xs) (Some y) (slice_get xs j)
get_push [] y zero = refl
get_push [] y (suc j) = sym (ap (λ b. cond b (Some y) None) (above_zero j))
get_push (x ∷ xs) y zero = sym (ap (λ b. cond b (Some y) (Some x)) (below_more (length xs)))
get_push (x ∷ xs) y (suc j) = get_push xs y j ∙ sym (ap (λ b. cond b (Some y) (slice_get xs j)) (both_more (length xs) j))

not_less : (a b : ℕ) → nat_lt a b ≡ false → b ≤ a
not_less a b h = grind arith

-- the last item comes into the place of another
pub get_swap : {X : Type 0} (xs : List X) (i j : ℕ) (d : X) → i < length xs → slice_get (swap_remove xs i d) j ≡ cond (nat_lt j (length xs - 1)) (cond (j == i) (slice_get xs (length xs - 1)) (slice_get xs j)) None
get_swap xs i j d within = by (nat_lt j (length xs - 1)) refl
  where
    by : (b : Bool) → nat_lt j (length xs - 1) ≡ b → slice_get (swap_remove xs i d) j ≡ cond b (cond (j == i) (slice_get xs (length xs - 1)) (slice_get xs j)) None
    by true e =
        take_get (slice_set xs i (slice_index_or xs (length xs - 1) d)) (length xs - 1) j (ltb-true j (length xs - 1) e)
        ∙ get_set xs i j (slice_index_or xs (length xs - 1) d) within
        ∙ ap (λ o. cond (j == i) o (slice_get xs j)) (sym (slice_get-get_or xs (length xs - 1) d (omega (arith, within))))
    by false e = take_past (slice_set xs i (slice_index_or xs (length xs - 1) d)) (length xs - 1) j (not_less j (length xs - 1) e)

-- ---- what is found

either : (b : Bool) (P : Type 0) → (b ≡ true → P) → (b ≡ false → P) → P
either true P f g = f refl
either false P f g = g refl

-- what was found is one value
same_some : {X : Type 0} (a b : X) → Some a ≡ Some b → a ≡ b
same_some a b h = ap (λ o. unwrap_or o a) h

none_some : {X : Type 0} (a : X) (P : Type 0) → None ≡ Some a → P
none_some a P h = cc

-- a number that was found is the one that was found
that_one : (n : ℕ) (o : Option ℕ) → is_that n o ≡ true → o ≡ Some n
that_one n None h = cc
that_one n (Some m) h = ap Some (eqb-true m n h)

is_that_one : (n : ℕ) (o : Option ℕ) → o ≡ Some n → is_that n o ≡ true
is_that_one n o e = ap (is_that n) e ∙ eq-eqb n n refl

-- the comparison of rows by class and key
abbrev pub eq_named : NamedRow → NamedRow → Bool
eq_named = (eq_impl.ghosts).eq

-- it is that of the classes and keys
pub named_as : (q other : NamedRow) → eq_named q other ≡ same_name q.row.class q.row.key other.row.class other.row.key
named_as q other = λ i. nat_eq_equiv.symm (class_number q.row.class) (class_number other.row.class) i && nat_list_eq_equiv.symm q.row.key other.row.key i

-- what a row is looked up by finds the stamp of its class and key
pub stamp_found : (rows : List (NamedRow × ℕ)) (q : NamedRow) (class : Class) (key : List ℕ) → q.row.class ≡ class → q.row.key ≡ key → lookup (eq_named q) rows ≡ stamp_at rows class key
stamp_found rows q class key e f = (λ i. lookup (λ other. named_as q other i) rows) ∙ ap₂ (stamp_at rows) e f

-- what is written under a class and key, as contracts see it
pub renamed : (old new : List (NamedRow × ℕ)) (named : NamedRow) (class : Class) (key : List ℕ) (w : Option ℕ) → named.row.class ≡ class → named.row.key ≡ key
    → ((q : NamedRow) → lookup (eq_named q) new ≡ cond (eq_named named q) w (lookup (eq_named q) old)) → (other : Class) (text : List ℕ) → stamp_at new other text ≡ cond (same_name class key other text) w (stamp_at old other text)
renamed old new named class key w e f h other text =
    let q : NamedRow = record { row = record { class = other; key = text; rope = 0; note = [] } } in
    sym (stamp_found new q other text refl refl) ∙ h q ∙ ap₂ (λ b o. cond b w o) (named_as named q ∙ ap₂ (λ c k. same_name c k other text) e f) (stamp_found old q other text refl refl)

-- the row at an index is under its stamp
pub found_at : (rows : List (NamedRow × ℕ)) (places : List (ℕ × ℕ)) (i stamp : ℕ) (named : NamedRow) → ArePlaced rows places → slice_get rows i ≡ Some (named, stamp) → row_under rows places stamp ≡ Some named.row
found_at rows places i stamp named h at = ap (row_in_place rows) (h.placed i stamp (ap (option_map (λ e. e.1)) at)) ∙ ap (option_map (λ e. e.0.row)) at

-- ---- a row comes last

module _ (rows : List (NamedRow × ℕ)) (places more : List (ℕ × ℕ)) (named : NamedRow) (stamp : ℕ) (h : ArePlaced rows places) (unused : row_under rows places stamp ≡ None)
    (put : (q : ℕ) → lookup (nat_eq q) more ≡ cond (nat_eq stamp q) (Some (length rows)) (lookup (nat_eq q) places)) where
  unplaced : lookup (nat_eq stamp) places ≡ None
  unplaced = by (lookup (nat_eq stamp) places) refl
    where
      row_too : (o : Option (NamedRow × ℕ)) → option_map (λ e. e.1) o ≡ Some stamp → option_map (λ e. e.0.row) o ≡ None → ⊥
      row_too None e f = cc
      row_too (Some p) e f = cc

      by : (o : Option ℕ) → lookup (nat_eq stamp) places ≡ o → o ≡ None
      by None e = refl
      by (Some i) e = absurd (row_too (slice_get rows i) (h.stands stamp i e) (sym (ap (row_in_place rows) e) ∙ unused))

  here : (q : ℕ) → (stamp == q) ≡ true → lookup (nat_eq q) more ≡ Some (length rows)
  here q e = put q ∙ ap (λ b. cond b (Some (length rows)) (lookup (nat_eq q) places)) e

  there : (q : ℕ) → (stamp == q) ≡ false → lookup (nat_eq q) more ≡ lookup (nat_eq q) places
  there q e = put q ∙ ap (λ b. cond b (Some (length rows)) (lookup (nat_eq q) places)) e

  last : (i : ℕ) → (i == length rows) ≡ true → slice_get (rows ++ (named, stamp) ∷ []) i ≡ Some (named, stamp)
  last i e = get_push rows (named, stamp) i ∙ ap (λ b. cond b (Some (named, stamp)) (slice_get rows i)) e

  before : (i : ℕ) → (i == length rows) ≡ false → slice_get (rows ++ (named, stamp) ∷ []) i ≡ slice_get rows i
  before i e = get_push rows (named, stamp) i ∙ ap (λ b. cond b (Some (named, stamp)) (slice_get rows i)) e

  -- an index that a stamp has is below the length
  inside : (q i : ℕ) → lookup (nat_eq q) places ≡ Some i → (i == length rows) ≡ false
  inside q i e = either (i == length rows) ((i == length rows) ≡ false)
      (λ f. let same : i ≡ length rows = eqb-true i (length rows) f in
      none_some q _ (sym (ap (option_map (λ e. e.1)) (get_past rows i (omega (arith, same)))) ∙ h.stands q i e))
      (λ f. f)

  new_placed : (i q : ℕ) → stamp_in (rows ++ (named, stamp) ∷ []) i ≡ Some q → lookup (nat_eq q) more ≡ Some i
  new_placed i q e = either (i == length rows) _
      (λ f. let same : i ≡ length rows = eqb-true i (length rows) f in
      let own : stamp ≡ q = same_some stamp q (sym (ap (option_map (λ e. e.1)) (last i f)) ∙ e) in
      here q (eq-eqb stamp q own) ∙ ap Some (sym same))
      (λ f. let was : lookup (nat_eq q) places ≡ Some i = h.placed i q (sym (ap (option_map (λ e. e.1)) (before i f)) ∙ e) in
      either (stamp == q) _
      (λ g. let own : stamp ≡ q = eqb-true stamp q g in none_some i _ (sym unplaced ∙ ap (λ s. lookup (nat_eq s) places) own ∙ was))
      (λ g. there q g ∙ was))

  new_stands : (q i : ℕ) → lookup (nat_eq q) more ≡ Some i → stamp_in (rows ++ (named, stamp) ∷ []) i ≡ Some q
  new_stands q i e = either (stamp == q) _
      (λ g. let at : length rows ≡ i = same_some (length rows) i (sym (here q g) ∙ e) in
      ap (option_map (λ e. e.1)) (last i (eq-eqb i (length rows) (sym at))) ∙ ap Some (eqb-true stamp q g))
      (λ g. let was = sym (there q g) ∙ e in ap (option_map (λ e. e.1)) (before i (inside q i was)) ∙ h.stands q i was)

  new_row : (q : ℕ) → row_under (rows ++ (named, stamp) ∷ []) more q ≡ cond (nat_eq stamp q) (Some named.row) (row_under rows places q)
  new_row q = either (stamp == q) _
      (λ g. ap (row_in_place (rows ++ (named, stamp) ∷ [])) (here q g) ∙ ap (option_map (λ e. e.0.row)) (last (length rows) (eq-eqb (length rows) (length rows) refl)) ∙ sym (ap (λ b. cond b (Some named.row) (row_under rows places q)) g))
      (λ g. ap (row_in_place (rows ++ (named, stamp) ∷ [])) (there q g) ∙ by (lookup (nat_eq q) places) refl ∙ sym (ap (λ b. cond b (Some named.row) (row_under rows places q)) g))
    where
      by : (o : Option ℕ) → lookup (nat_eq q) places ≡ o → row_in_place (rows ++ (named, stamp) ∷ []) o ≡ row_in_place rows o
      by None e = refl
      by (Some i) e = ap (option_map (λ e. e.0.row)) (before i (inside q i e))

-- rows once one came last
pub rows_more : (rows new : List (NamedRow × ℕ)) (places more : List (ℕ × ℕ)) (named : NamedRow) (stamp index : ℕ) → ArePlaced rows places → row_under rows places stamp ≡ None → index ≡ length rows → new ≡ rows ++ (named, stamp) ∷ []
    → ((q : ℕ) → lookup (nat_eq q) more ≡ cond (nat_eq stamp q) (Some index) (lookup (nat_eq q) places))
    → ArePlaced new more × ((q : ℕ) → row_under new more q ≡ cond (nat_eq stamp q) (Some named.row) (row_under rows places q))
rows_more rows new places more named stamp index h unused at e put =
    let placed : (q : ℕ) → lookup (nat_eq q) more ≡ cond (nat_eq stamp q) (Some (length rows)) (lookup (nat_eq q) places) = λ q. put q ∙ ap (λ n. cond (nat_eq stamp q) (Some n) (lookup (nat_eq q) places)) at in (
      subst (λ l. ArePlaced l more) (sym e) (record { placed = new_placed rows places more named stamp h unused placed; stands = new_stands rows places more named stamp h unused placed }),
      λ q. ap (λ l. row_under l more q) e ∙ new_row rows places more named stamp h unused placed q,
    )

-- ---- a row goes

-- where the row at an index is found, the last comes into its place
pub swapped : (test : NamedRow → Bool) (rows : List (NamedRow × ℕ)) (i : ℕ) (d : NamedRow × ℕ) → position test (keys_of rows) ≡ Some i → slice_get rows i ≡ Some d → swap_remove_entry test rows ≡ swap_remove rows i d
swapped test [] i d p at = cc
swapped test (e ∷ es) i d p at = ap (λ o. option_map_or (λ n. swap_remove (e ∷ es) n e) o (e ∷ es)) p ∙ swap_default (e ∷ es) i e d (omega arith)
  where
    swap_default : (xs : List (NamedRow × ℕ)) (i : ℕ) (a b : NamedRow × ℕ) → 0 < length xs → swap_remove xs i a ≡ swap_remove xs i b
    swap_default xs i a b some = ap (λ x. take (length xs - 1) (slice_set xs i x)) (same_some _ _ (sym (slice_get-get_or xs (length xs - 1) a (omega (arith, some))) ∙ slice_get-get_or xs (length xs - 1) b (omega (arith, some))))

-- what was found and its place
pub found_there : (test : NamedRow → Bool) (rows : List (NamedRow × ℕ)) (i : ℕ) (named : NamedRow) (stamp : ℕ) → Some i ≡ position test (keys_of rows) → Some named ≡ lookup_key test rows → Some stamp ≡ lookup test rows → slice_get rows i ≡ Some (named, stamp)
found_there test rows i named stamp p k v =
    let f = Found-position test rows i (sym p) in
    pair_of (slice_get rows i) (sym (slice_get-map (λ e. e.0) rows i) ∙ sym f.key ∙ sym k) (sym (slice_get-map (λ e. e.1) rows i) ∙ sym f.value ∙ sym v)
  where
    pair_of : (o : Option (NamedRow × ℕ)) → option_map (λ e. e.0) o ≡ Some named → option_map (λ e. e.1) o ≡ Some stamp → o ≡ Some (named, stamp)
    pair_of None e f = cc
    pair_of (Some p) e f = ap₂ (λ a b. Some (a, b)) (same_some p.0 named e) (same_some p.1 stamp f)

-- the row that was taken out lay at its index, and the last came there
pub taken_out : (test : NamedRow → Bool) (rows left : List (NamedRow × ℕ)) (i : ℕ) (named : NamedRow) (stamp : ℕ) → Some i ≡ position test (keys_of rows) → Some named ≡ lookup_key test rows → Some stamp ≡ lookup test rows → left ≡ swap_remove_entry test rows
    → (slice_get rows i ≡ Some (named, stamp)) × (i < length rows) × (left ≡ swap_remove rows i (named, stamp))
taken_out test rows left i named stamp p k v is =
    let there = found_there test rows i named stamp p k v in
    (there, slice_get_within rows i (named, stamp) there, is ∙ swapped test rows i (named, stamp) (sym p) there)

module _ (rows : List (NamedRow × ℕ)) (places fewer : List (ℕ × ℕ)) (named : NamedRow) (stamp i : ℕ) (d : NamedRow × ℕ) (h : ArePlaced rows places) (at : slice_get rows i ≡ Some (named, stamp)) (within : i < length rows)
    (gone : (q : ℕ) → lookup (nat_eq q) fewer ≡ cond (nat_eq stamp q) None (lookup (nat_eq q) places)) where
  abbrev left : List (NamedRow × ℕ)
  left = swap_remove rows i d

  own_place : lookup (nat_eq stamp) places ≡ Some i
  own_place = h.placed i stamp (ap (option_map (λ e. e.1)) at)

  -- what lies at an index now
  at_left : (j : ℕ) → nat_lt j (length rows - 1) ≡ true → (j == i) ≡ false → slice_get left j ≡ slice_get rows j
  at_left j e f = get_swap rows i j d within ∙ ap₂ (λ b c. cond b (cond c (slice_get rows (length rows - 1)) (slice_get rows j)) None) e f

  moved_here : nat_lt i (length rows - 1) ≡ true → slice_get left i ≡ slice_get rows (length rows - 1)
  moved_here e = get_swap rows i i d within ∙ ap₂ (λ b c. cond b (cond c (slice_get rows (length rows - 1)) (slice_get rows i)) None) e (eq-eqb i i refl)

  none_beyond : (j : ℕ) → nat_lt j (length rows - 1) ≡ false → slice_get left j ≡ None
  none_beyond j e = get_swap rows i j d within ∙ ap (λ b. cond b (cond (j == i) (slice_get rows (length rows - 1)) (slice_get rows j)) None) e

  -- what moved was last, and is another stamp
  moved_last : (q : ℕ) → stamp_in left i ≡ Some q → (nat_lt i (length rows - 1) ≡ true) × (lookup (nat_eq q) places ≡ Some (length rows - 1)) × ((stamp == q) ≡ false)
  moved_last q e = either (nat_lt i (length rows - 1)) _
      (λ f.
      let last : lookup (nat_eq q) places ≡ Some (length rows - 1) = h.placed (length rows - 1) q (sym (ap (option_map (λ e. e.1)) (moved_here f)) ∙ e) in (
        f,
        last,
        either (stamp == q) ((stamp == q) ≡ false)
            (λ g. let own : stamp ≡ q = eqb-true stamp q g in
            let same : i ≡ length rows - 1 = same_some _ _ (sym own_place ∙ ap (λ s. lookup (nat_eq s) places) own ∙ last) in
            absurd (omega (arith, same, ltb-true i (length rows - 1) f)))
            (λ g. g),
      ))
      (λ f. none_some q _ (sym (ap (option_map (λ e. e.1)) (none_beyond i f)) ∙ e))

  -- what moved still has a place
  pub moved_stands : (q : ℕ) → stamp_in left i ≡ Some q → IsSome (lookup (nat_eq q) fewer)
  moved_stands q e =
      let m = moved_last q e in
      let there : lookup (nat_eq q) fewer ≡ Some (length rows - 1) = gone q ∙ ap (λ b. cond b None (lookup (nat_eq q) places)) m.2 ∙ m.1 in
      subst (λ (o : Option ℕ). IsSome o) (sym there) refl

  module _ (more : List (ℕ × ℕ)) (anew : (q : ℕ) → lookup (nat_eq q) more ≡ cond (is_that q (stamp_in left i)) (Some i) (lookup (nat_eq q) fewer)) where
    is_moved : (q : ℕ) → is_that q (stamp_in left i) ≡ true → lookup (nat_eq q) more ≡ Some i
    is_moved q e = anew q ∙ ap (λ b. cond b (Some i) (lookup (nat_eq q) fewer)) e

    not_moved : (q : ℕ) → is_that q (stamp_in left i) ≡ false → lookup (nat_eq q) more ≡ cond (nat_eq stamp q) None (lookup (nat_eq q) places)
    not_moved q e = anew q ∙ ap (λ b. cond b (Some i) (lookup (nat_eq q) fewer)) e ∙ gone q

    -- another row than the one that went and the one that moved stays
    row_stays : (q j : ℕ) → is_that q (stamp_in left i) ≡ false → (stamp == q) ≡ false → lookup (nat_eq q) places ≡ Some j → slice_get left j ≡ slice_get rows j
    row_stays q j e f p =
        let stands : stamp_in rows j ≡ Some q = h.stands q j p in
        let apart : (j == i) ≡ false = either (j == i) ((j == i) ≡ false)
        (λ g. let same : j ≡ i = eqb-true j i g in
        let own : stamp ≡ q = same_some stamp q (sym (ap (option_map (λ e. e.1)) at) ∙ ap (stamp_in rows) (sym same) ∙ stands) in g ∙ sym (eq-eqb stamp q own) ∙ f)
        (λ g. g) in
        either (nat_lt j (length rows - 1)) _
        (λ g. at_left j g apart)
        (λ g. either (j == length rows - 1) _
        (λ k.
        let same : j ≡ length rows - 1 = eqb-true j (length rows - 1) k in
        let less : nat_lt i (length rows - 1) ≡ true = either (nat_lt i (length rows - 1)) (nat_lt i (length rows - 1) ≡ true) (λ l. l) (λ l. let is : j ≡ i = omega (arith, same, not_less i (length rows - 1) l, within) in l ∙ sym apart ∙ eq-eqb j i is) in
        let moved : stamp_in left i ≡ Some q = ap (option_map (λ e. e.1)) (moved_here less) ∙ ap (stamp_in rows) (sym same) ∙ stands in
        absurd_false (sym e ∙ is_that_one q (stamp_in left i) moved))
        (λ k.
        let past : slice_get rows j ≡ None = get_past rows j (beyond j (length rows) g k) in
        none_some q _ (sym (ap (option_map (λ e. e.1)) past) ∙ stands)))
      where
        absurd_false : {P : Type 0} → false ≡ true → P
        absurd_false e = cc

        beyond : (j n : ℕ) → nat_lt j (n - 1) ≡ false → (j == n - 1) ≡ false → n ≤ j
        beyond j n g k = grind arith

    left_placed : (j q : ℕ) → stamp_in left j ≡ Some q → lookup (nat_eq q) more ≡ Some j
    left_placed j q e = either (j == i) _
        (λ f. let same : j ≡ i = eqb-true j i f in is_moved q (is_that_one q (stamp_in left i) (ap (stamp_in left) (sym same) ∙ e)) ∙ ap Some (sym same))
        (λ f. either (nat_lt j (length rows - 1)) _
        (λ g.
        let was : lookup (nat_eq q) places ≡ Some j = h.placed j q (sym (ap (option_map (λ e. e.1)) (at_left j g f)) ∙ e) in
        let other : is_that q (stamp_in left i) ≡ false = either (is_that q (stamp_in left i)) (is_that q (stamp_in left i) ≡ false)
        (λ k. let m = moved_last q (that_one q (stamp_in left i) k) in
        let same : j ≡ length rows - 1 = same_some _ _ (sym was ∙ m.1) in absurd (omega (arith, same, ltb-true j (length rows - 1) g)))
        (λ k. k) in
        let apart : (stamp == q) ≡ false = either (stamp == q) ((stamp == q) ≡ false)
        (λ k. let own : stamp ≡ q = eqb-true stamp q k in
        let same : j ≡ i = same_some _ _ (sym was ∙ ap (λ s. lookup (nat_eq s) places) (sym own) ∙ own_place) in k ∙ sym (eq-eqb j i same) ∙ f)
        (λ k. k) in
        not_moved q other ∙ ap (λ b. cond b None (lookup (nat_eq q) places)) apart ∙ was)
        (λ g. none_some q _ (sym (ap (option_map (λ e. e.1)) (none_beyond j g)) ∙ e)))

    left_stands : (q j : ℕ) → lookup (nat_eq q) more ≡ Some j → stamp_in left j ≡ Some q
    left_stands q j e = either (is_that q (stamp_in left i)) _
        (λ f. let same : i ≡ j = same_some i j (sym (is_moved q f) ∙ e) in ap (stamp_in left) (sym same) ∙ that_one q (stamp_in left i) f)
        (λ f. either (stamp == q) _
        (λ g. none_some j _ (sym (not_moved q f ∙ ap (λ b. cond b None (lookup (nat_eq q) places)) g) ∙ e))
        (λ g.
        let was : lookup (nat_eq q) places ≡ Some j = sym (not_moved q f ∙ ap (λ b. cond b None (lookup (nat_eq q) places)) g) ∙ e in
        ap (option_map (λ e. e.1)) (row_stays q j f g was) ∙ h.stands q j was))

    left_row : (q : ℕ) → row_under left more q ≡ cond (nat_eq stamp q) None (row_under rows places q)
    left_row q = either (is_that q (stamp_in left i)) _
        (λ f. let m = moved_last q (that_one q (stamp_in left i) f) in
        ap (row_in_place left) (is_moved q f) ∙ ap (option_map (λ e. e.0.row)) (moved_here m.0) ∙ sym (ap (row_in_place rows) m.1) ∙ sym (ap (λ b. cond b None (row_under rows places q)) m.2))
        (λ f. either (stamp == q) _
        (λ g. ap (row_in_place left) (not_moved q f ∙ ap (λ b. cond b None (lookup (nat_eq q) places)) g) ∙ sym (ap (λ b. cond b None (row_under rows places q)) g))
        (λ g. ap (row_in_place left) (not_moved q f ∙ ap (λ b. cond b None (lookup (nat_eq q) places)) g) ∙ by (lookup (nat_eq q) places) f g refl ∙ sym (ap (λ b. cond b None (row_under rows places q)) g)))
      where
        by : (o : Option ℕ) → is_that q (stamp_in left i) ≡ false → (stamp == q) ≡ false → lookup (nat_eq q) places ≡ o → row_in_place left o ≡ row_in_place rows o
        by None f g e = refl
        by (Some j) f g e = ap (option_map (λ e. e.0.row)) (row_stays q j f g e)

    -- rows once one went and the last came into its place
    pub rows_fewer : ArePlaced left more × ((q : ℕ) → row_under left more q ≡ cond (nat_eq stamp q) None (row_under rows places q))
    rows_fewer = (record { placed = left_placed; stands = left_stands }, left_row)
