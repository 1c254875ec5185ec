-- Rows under stamps that rise.
use Rattle.std.proofs.Common.{◌≡◌, ℕ, ◌<◌, ◌≤◌, ◌+◌, ◌^◌, suc, zero, List, [], ◌∷◌, ◌++◌, map, filter, length, not, ap, ap₂, ◌∙◌, sym, refl, subst, cond, Bool, true, false, ◌==◌, Option, Some, None, get_or, eq-eqb, arith}
use Rattle.std.proofs.lemmas.Bool.{eqb-true, ltb-true, lt-ltb}
use Rattle.std.specs.Prelude.{nat_lt, nat_eq, slice_get, remove, unwrap_or}
use Rattle.std.specs.List.Sorted.{IsPartitionedBy}
use Rattle.counted_row.specs.Row.{passing}
use Rattle.voice_model.specs.State.{is_row, row_at}
use Rattle.voice_model.specs.declared.calls.Row.{Row}
use Rattle.voice_model.specs.declared.calls.Class.{Class}
use Rattle.interest_table.specs.Inside.{no_row, kept, entry_of, row_in, same_name, Stamped, row_under, row_of, IsSame, row_found, among, without, Rises, IsListing}
use Rattle.interest_table.proofs.Found.{both_ways, is_that_row}
use Rattle.interest_table.proofs.Added.{own_row}

-- ---- stamps

pub or_true : (b c : Bool) → c ≡ true → cond b true c ≡ true
or_true true c k = refl
or_true false c k = k

-- the first stamp of a list is in it
pub own_among : (u : ℕ) (us : List ℕ) → among u (u ∷ us) ≡ true
own_among u us = ap (λ b. cond b true (among u us)) (eq-eqb u u refl)

pub low_absent : (s low top : ℕ) (ts : List ℕ) → s < low → Rises low ts top → among s ts ≡ false
low_absent s low top [] below h = refl
low_absent s low top (t ∷ ts) below h =
    let rest = low_absent s (t + 1) top ts (omega (arith, below, h.0)) h.1 in
    by (s == t) refl rest
  where
    by : (b : Bool) → (s == t) ≡ b → among s ts ≡ false → cond b true (among s ts) ≡ false
    by true e rest = let same : s ≡ t = eqb-true s t e in absurd (omega (arith, same, below, h.0))
    by false e rest = rest

pub least_top : (low top : ℕ) (ts : List ℕ) → Rises low ts top → low ≤ top
least_top low top [] h = h
least_top low top (t ∷ ts) h = let rest = least_top (t + 1) top ts h.1 in omega (arith, rest, h.0)

pub below_top : (s low top : ℕ) (ts : List ℕ) → Rises low ts top → among s ts ≡ true → s < top
below_top s low top [] h in_it = cc
below_top s low top (t ∷ ts) h in_it = by (s == t) refl in_it (below_top s (t + 1) top ts h.1)
  where
    by : (b : Bool) → (s == t) ≡ b → cond b true (among s ts) ≡ true → (among s ts ≡ true → s < top) → s < top
    by true e k rest = let same : s ≡ t = eqb-true s t e in let most = least_top (t + 1) top ts h.1 in omega (arith, same, most)
    by false e k rest = rest k

pub absent_stay : (s : ℕ) (ts : List ℕ) → among s ts ≡ false → without s ts ≡ ts
absent_stay s [] h = refl
absent_stay s (t ∷ ts) h = by (s == t) h (absent_stay s ts)
  where
    by : (b : Bool) → cond b true (among s ts) ≡ false → (among s ts ≡ false → without s ts ≡ ts) → cond b (without s ts) (t ∷ without s ts) ≡ t ∷ ts
    by true e rest = cc
    by false e rest = ap (λ l. t ∷ l) (rest e)

pub rises_lower : (low high top : ℕ) (ts : List ℕ) → low ≤ high → Rises high ts top → Rises low ts top
rises_lower low high top [] le h = omega (arith, le, h)
rises_lower low high top (t ∷ ts) le h = (omega (arith, le, h.0), h.1)

pub rises_without : (s low top : ℕ) (ts : List ℕ) → Rises low ts top → Rises low (without s ts) top
rises_without s low top [] h = h
rises_without s low top (t ∷ ts) h = by (s == t) (rises_without s low top ts (rises_lower low (t + 1) top ts (omega (arith, h.0)) h.1)) (rises_without s (t + 1) top ts h.1)
  where
    by : (b : Bool) → Rises low (without s ts) top → Rises (t + 1) (without s ts) top → Rises low (cond b (without s ts) (t ∷ without s ts)) top
    by true gone left = gone
    by false gone left = (h.0, left)

rises_push : (low top : ℕ) (ts : List ℕ) → Rises low ts top → Rises low (ts ++ top ∷ []) (top + 1)
rises_push low top [] h = (h, omega arith)
rises_push low top (t ∷ ts) h = (h.0, rises_push (t + 1) top ts h.1)

-- what is left of a list was in it, and is another stamp
pub was_among : (s t : ℕ) (ts : List ℕ) → among t (without s ts) ≡ true → (among t ts ≡ true) × ((s == t) ≡ false)
was_among s t [] h = cc
was_among s t (u ∷ us) h = by (s == u) (t == u) refl refl h (was_among s t us)
  where
    by : (b c : Bool) → (s == u) ≡ b → (t == u) ≡ c → among t (cond b (without s us) (u ∷ without s us)) ≡ true → (among t (without s us) ≡ true → (among t us ≡ true) × ((s == t) ≡ false)) → (cond c true (among t us) ≡ true) × ((s == t) ≡ false)
    by true true e f k rest = let r = rest k in (refl, r.1)
    by true false e f k rest = rest k
    by false true e f k rest = let same : t ≡ u = eqb-true t u f in (refl, ap (λ n. s == n) same ∙ e)
    by false false e f k rest = rest (ap (λ x. cond x true (among t (without s us))) (sym f) ∙ k)

-- another stamp stays
pub stays_among : (s t : ℕ) (ts : List ℕ) → among t ts ≡ true → (s == t) ≡ false → among t (without s ts) ≡ true
stays_among s t [] h apart = cc
stays_among s t (u ∷ us) h apart = by (s == u) (t == u) refl refl h (λ k. stays_among s t us k apart)
  where
    by : (b c : Bool) → (s == u) ≡ b → (t == u) ≡ c → cond c true (among t us) ≡ true → (among t us ≡ true → among t (without s us) ≡ true) → among t (cond b (without s us) (u ∷ without s us)) ≡ true
    by true true e f k rest = let same : t ≡ u = eqb-true t u f in let other : (s == u) ≡ false = ap (λ n. s == n) (sym same) ∙ apart in cc
    by true false e f k rest = rest k
    by false true e f k rest = ap (λ x. cond x true (among t (without s us))) f
    by false false e f k rest = ap (λ x. cond x true (among t (without s us))) f ∙ rest k

pub among_push : (s t : ℕ) (ts : List ℕ) → among t ts ≡ true → among t (ts ++ s ∷ []) ≡ true
among_push s t [] h = cc
among_push s t (u ∷ us) h = by (t == u) h (among_push s t us)
  where
    by : (b : Bool) → cond b true (among t us) ≡ true → (among t us ≡ true → among t (us ++ s ∷ []) ≡ true) → cond b true (among t (us ++ s ∷ [])) ≡ true
    by true k rest = refl
    by false k rest = rest k

pub last_among : (s : ℕ) (ts : List ℕ) → among s (ts ++ s ∷ []) ≡ true
last_among s [] = ap (λ b. cond b true false) (eq-eqb s s refl)
last_among s (u ∷ us) = or_true (s == u) (among s (us ++ s ∷ [])) (last_among s us)

-- what is in a list with one more is that one, or was in it
pub among_either : (s t : ℕ) (ts : List ℕ) → (s == t) ≡ false → among t (ts ++ s ∷ []) ≡ true → among t ts ≡ true
among_either s t [] apart h = by (t == s) refl h
  where
    by : (b : Bool) → (t == s) ≡ b → cond b true false ≡ true → false ≡ true
    by true e k = let same : t ≡ s = eqb-true t s e in sym apart ∙ eq-eqb s t (sym same)
    by false e k = k
among_either s t (u ∷ us) apart h = by (t == u) h (among_either s t us apart)
  where
    by : (b : Bool) → cond b true (among t (us ++ s ∷ [])) ≡ true → (among t (us ++ s ∷ []) ≡ true → among t us ≡ true) → cond b true (among t us) ≡ true
    by true k rest = refl
    by false k rest = rest k

-- ---- the place of a stamp

least_at : (low top : ℕ) (xs : List ℕ) (i d : ℕ) → Rises low xs top → i < length xs → low ≤ get_or xs i d
least_at low top [] i d h within = absurd (omega arith)
least_at low top (x ∷ xs) zero d h within = h.0
least_at low top (x ∷ xs) (suc i) d h within = let rest = least_at (x + 1) top xs i d h.1 (omega (arith, within)) in omega (arith, rest, h.0)

partitioned_at : (s low top x : ℕ) (xs : List ℕ) → Rises low (x ∷ xs) top → IsPartitionedBy (λ y. nat_lt y s) xs → IsPartitionedBy (λ y. nat_lt y s) (x ∷ xs)
partitioned_at s low top x xs h rest zero zero d le within e = e
partitioned_at s low top x xs h rest zero (suc j) d le within e =
    let least = least_at (x + 1) top xs j d h.1 (omega (arith, within)) in
    let less = ltb-true (get_or xs j d) s e in
    lt-ltb x s (omega (arith, least, less))
partitioned_at s low top x xs h rest (suc i) zero d le within e = absurd (omega (arith, le))
partitioned_at s low top x xs h rest (suc i) (suc j) d le within e = rest i j d (omega (arith, le)) (omega (arith, within)) e

pub partitioned : (s low top : ℕ) (xs : List ℕ) → Rises low xs top → IsPartitionedBy (λ y. nat_lt y s) xs
partitioned s low top [] h = λ i j d le within e. absurd (omega (arith, within))
partitioned s low top (x ∷ xs) h = partitioned_at s low top x xs h (partitioned s (x + 1) top xs h.1)

pub not_less : (a b : ℕ) → nat_lt a b ≡ false → b ≤ a
not_less a b h = grind arith

-- what goes from the place where smaller stamps end is the stamp
pub taken_at : (s low top : ℕ) (ts : List ℕ) → Rises low ts top → among s ts ≡ true → remove ts (passing (λ y. nat_lt y s) ts) ≡ without s ts
taken_at s low top [] h in_it = cc
taken_at s low top (t ∷ ts) h in_it = by (nat_lt t s) refl (s == t) refl in_it (λ k. taken_at s (t + 1) top ts h.1 k)
  where
    by : (less : Bool) → nat_lt t s ≡ less → (b : Bool) → (s == t) ≡ b → cond b true (among s ts) ≡ true → (among s ts ≡ true → remove ts (passing (λ y. nat_lt y s) ts) ≡ without s ts) → remove (t ∷ ts) (cond less (suc (passing (λ y. nat_lt y s) ts)) 0) ≡ cond b (without s ts) (t ∷ without s ts)
    by true less true e k rest = let same : s ≡ t = eqb-true s t e in absurd (omega (arith, same, ltb-true t s less))
    by true less false e k rest = ap (λ l. t ∷ l) (rest k)
    by false less true e k rest = let same : s ≡ t = eqb-true s t e in sym (absent_stay s ts (low_absent s (t + 1) top ts (omega (arith, same)) h.1))
    by false less false e k rest =
        let above : s ≤ t = not_less t s less in
        let none : among s ts ≡ false = low_absent s (t + 1) top ts (omega (arith, above)) h.1 in
        cc

-- ---- rows

some_same : (a b : ℕ) → Some a ≡ Some b → a ≡ b
some_same a b h = ap (λ o. unwrap_or o 0) h

-- two rows of one name have one stamp
module _ (names : Class → List ℕ → Option ℕ) (at : ℕ → Option Row) (ts : List ℕ) (next : ℕ) (h : IsListing names at ts next) where
  named_there : (class : Class) (key : List ℕ) (t : ℕ) → among t ts ≡ true → is_row class key (kept at t) ≡ true → names class key ≡ Some t
  named_there class key t in_it is = let that = is_that_row class key (kept at t) is in sym (ap₂ names that.0 that.1) ∙ (h.stands t in_it).1

  same_stamp : (class : Class) (key : List ℕ) (s t : ℕ) → names class key ≡ Some s → among t ts ≡ true → (s == t) ≡ is_row class key (kept at t)
  same_stamp class key s t found in_it = both_ways _ _
      (λ e. let same : s ≡ t = eqb-true s t e in subst (λ n. is_row class key (kept at n) ≡ true) same (h.known class key s found).1)
      (λ is. eq-eqb s t (some_same s t (sym found ∙ named_there class key t in_it is)))

  none_named : (class : Class) (key : List ℕ) → names class key ≡ None → (us : List ℕ) → ((t : ℕ) → among t us ≡ true → among t ts ≡ true) → row_at (map row_in (map (entry_of at) us)) class key ≡ None
  none_named class key none [] sub = refl
  none_named class key none (u ∷ us) sub = by (is_row class key (kept at u)) refl (none_named class key none us (λ t k. sub t (or_true (t == u) (among t us) k)))
    where
      by : (b : Bool) → is_row class key (kept at u) ≡ b → row_at (map row_in (map (entry_of at) us)) class key ≡ None → cond b (Some (kept at u)) (row_at (map row_in (map (entry_of at) us)) class key) ≡ None
      by true is rest = let there : names class key ≡ Some u = named_there class key u (sub u (own_among u us)) is in cc
      by false is rest = rest

  one_named : (class : Class) (key : List ℕ) (s : ℕ) → names class key ≡ Some s → (us : List ℕ) → among s us ≡ true → ((t : ℕ) → among t us ≡ true → among t ts ≡ true) → row_at (map row_in (map (entry_of at) us)) class key ≡ Some (kept at s)
  one_named class key s found [] in_it sub = cc
  one_named class key s found (u ∷ us) in_it sub = by (s == u) refl in_it (λ k. one_named class key s found us k (λ t k. sub t (or_true (t == u) (among t us) k)))
    where
      by : (b : Bool) → (s == u) ≡ b → cond b true (among s us) ≡ true → (among s us ≡ true → row_at (map row_in (map (entry_of at) us)) class key ≡ Some (kept at s)) → cond (is_row class key (kept at u)) (Some (kept at u)) (row_at (map row_in (map (entry_of at) us)) class key) ≡ Some (kept at s)
      by true e k rest =
          let same : s ≡ u = eqb-true s u e in
          ap (λ b. cond b (Some (kept at u)) (row_at (map row_in (map (entry_of at) us)) class key)) (sym (same_stamp class key s u found (sub u (own_among u us))) ∙ e) ∙ ap (λ n. Some (kept at n)) (sym same)
      by false e k rest =
          ap (λ b. cond b (Some (kept at u)) (row_at (map row_in (map (entry_of at) us)) class key)) (sym (same_stamp class key s u found (sub u (own_among u us))) ∙ e) ∙ rest k

  -- no row stands where no stamp is found
  pub not_found : (class : Class) (key : List ℕ) → names class key ≡ None → row_at (map row_in (map (entry_of at) ts)) class key ≡ None
  not_found class key none = none_named class key none ts (λ t k. k)

  -- and where one is, its row stands
  pub found_row : (class : Class) (key : List ℕ) (s : ℕ) → names class key ≡ Some s → at s ≡ row_at (map row_in (map (entry_of at) ts)) class key
  found_row class key s found =
      let in_it = (h.known class key s found).0 in
      (h.stands s in_it).0 ∙ sym (one_named class key s found ts in_it (λ t k. k))

  -- no stamp is found where no row stands
  pub no_stamp : (class : Class) (key : List ℕ) → row_at (map row_in (map (entry_of at) ts)) class key ≡ None → names class key ≡ None
  no_stamp class key none = by (names class key) refl
    where
      by : (o : Option ℕ) → names class key ≡ o → o ≡ None
      by None e = refl
      by (Some s) e = let stands = (h.stands s (h.known class key s e).0).0 in let found = found_row class key s e in cc

  -- the next stamp has no row
  pub next_unused : at next ≡ None
  next_unused = by (at next) refl
    where
      by : (o : Option Row) → at next ≡ o → o ≡ None
      by None e = refl
      by (Some row) e = absurd (omega (arith, below_top next 0 next ts h.rising (h.only next row e)))

  -- the row of a class and key, by its stamp
  pub row_named : (class : Class) (key : List ℕ) → row_found at (names class key) ≡ row_at (map row_in (map (entry_of at) ts)) class key
  row_named class key = by (names class key) refl
    where
      by : (o : Option ℕ) → names class key ≡ o → row_found at o ≡ row_at (map row_in (map (entry_of at) ts)) class key
      by None e = sym (not_found class key e)
      by (Some s) e = found_row class key s e

-- the k-th row is that of the k-th stamp
pub no_place : (at : ℕ → Option Row) (ts : List ℕ) (k : ℕ) → slice_get ts k ≡ None → slice_get (map row_in (map (entry_of at) ts)) k ≡ None
no_place at [] k h = refl
no_place at (t ∷ ts) zero h = cc
no_place at (t ∷ ts) (suc k) h = no_place at ts k h

pub placed : (at : ℕ → Option Row) (ts : List ℕ) (k s : ℕ) → slice_get ts k ≡ Some s → (among s ts ≡ true) × (slice_get (map row_in (map (entry_of at) ts)) k ≡ Some (kept at s))
placed at [] k s h = cc
placed at (t ∷ ts) zero s h =
    let same : t ≡ s = some_same t s h in
    (ap (λ b. cond b true (among s ts)) (eq-eqb s t (sym same)), ap (λ n. Some (kept at n)) same)
placed at (t ∷ ts) (suc k) s h = let rest = placed at ts k s h in (or_true (s == t) (among s ts) rest.0, rest.1)

-- ---- a row goes

entries_left : (at new : ℕ → Option Row) (class : Class) (key : List ℕ) (s : ℕ) (ts : List ℕ) → ((t : ℕ) → among t ts ≡ true → (s == t) ≡ is_row class key (kept at t)) → ((t : ℕ) → (s == t) ≡ false → new t ≡ at t) → map (entry_of new) (without s ts) ≡ filter (λ e. not (is_row class key e.1)) (map (entry_of at) ts)
entries_left at new class key s [] agree same = refl
entries_left at new class key s (u ∷ us) agree same = by (s == u) (is_row class key (kept at u)) refl (agree u (own_among u us)) (entries_left at new class key s us (λ t k. agree t (or_true (t == u) (among t us) k)) same)
  where
    by : (b c : Bool) → (s == u) ≡ b → b ≡ c → map (entry_of new) (without s us) ≡ filter (λ e. not (is_row class key e.1)) (map (entry_of at) us) → map (entry_of new) (cond b (without s us) (u ∷ without s us)) ≡ cond (not c) ((u, kept at u) ∷ filter (λ e. not (is_row class key e.1)) (map (entry_of at) us)) (filter (λ e. not (is_row class key e.1)) (map (entry_of at) us))
    by true true e f rest = rest
    by true false e f rest = cc
    by false true e f rest = cc
    by false false e f rest = ap₂ (λ (r : Option Row) l. (u, unwrap_or r no_row) ∷ l) (same u e) rest

-- two names that one row has are the same
same_by_row : (class : Class) (key : List ℕ) (other : Class) (text : List ℕ) (row : Row) → is_row class key row ≡ true → is_row other text row ≡ true → same_name class key other text ≡ true
same_by_row class key other text row is is_too =
    let this = is_that_row class key row is in
    let that = is_that_row other text row is_too in
    sym (ap₂ (λ x k. same_name x k other text) this.0 this.1) ∙ sym (ap₂ (λ x k. same_name row.class row.key x k) that.0 that.1) ∙ own_row row

none_left : (b : Bool) (o : Option ℕ) (t : ℕ) → cond b None o ≡ Some t → (b ≡ false) × (o ≡ Some t)
none_left true o t h = cc
none_left false o t h = (refl, h)

row_left : (b : Bool) (o : Option Row) (row : Row) → cond b None o ≡ Some row → (b ≡ false) × (o ≡ Some row)
row_left true o row h = cc
row_left false o row h = (refl, h)

-- the list after a row went
pub list_left : (names left : Class → List ℕ → Option ℕ) (at new : ℕ → Option Row) (class : Class) (key : List ℕ) (s : ℕ) (ts us : List ℕ) (next : ℕ) → IsListing names at ts next → names class key ≡ Some s
    → ((other : Class) (text : List ℕ) → left other text ≡ cond (same_name class key other text) None (names other text)) → ((t : ℕ) → new t ≡ cond (nat_eq s t) None (at t)) → us ≡ without s ts
    → IsListing left new us next × (map (entry_of new) us ≡ filter (λ e. not (is_row class key e.1)) (map (entry_of at) ts))
list_left names left at new class key s ts us next h found fewer gone is =
    let stay : (t : ℕ) → (s == t) ≡ false → new t ≡ at t = λ t apart. gone t ∙ ap (λ b. cond b None (at t)) apart in
    let keeps : (t : ℕ) → (s == t) ≡ false → kept new t ≡ kept at t = λ t apart. ap (λ (o : Option Row). unwrap_or o no_row) (stay t apart) in
    let agree : (t : ℕ) → among t ts ≡ true → (s == t) ≡ is_row class key (kept at t) = λ t k. same_stamp names at ts next h class key s t found k in
    let was : (t : ℕ) → among t us ≡ true → (among t ts ≡ true) × ((s == t) ≡ false) = λ t k. was_among s t ts (ap (among t) (sym is) ∙ k) in (
      record {
        rising = subst (λ l. Rises 0 l next) (sym is) (rises_without s 0 next ts h.rising);
        stands = λ t k.
            let there = was t k in
            let same = keeps t there.1 in (
              stay t there.1 ∙ (h.stands t there.0).0 ∙ ap Some (sym same),
              ap (λ (r : Row). left r.class r.key) same ∙ fewer (kept at t).class (kept at t).key
                  ∙ ap (λ b. cond b None (names (kept at t).class (kept at t).key)) (sym (agree t there.0) ∙ there.1) ∙ (h.stands t there.0).1,
            );
        known = λ other text t k.
            let parts = none_left (same_name class key other text) (names other text) t (sym (fewer other text) ∙ k) in
            let there = h.known other text t parts.1 in
            let apart : (s == t) ≡ false = either (s == t) (λ e. sym (same_by_row class key other text (kept at t) (sym (agree t there.0) ∙ e) there.1) ∙ parts.0) in
            (ap (among t) is ∙ stays_among s t ts there.0 apart, ap (is_row other text) (keeps t apart) ∙ there.1);
        only = λ t row k.
            let parts = row_left (s == t) (at t) row (sym (gone t) ∙ k) in
            ap (among t) is ∙ stays_among s t ts (h.only t row parts.1) parts.0;
        limit = h.limit;
      },
      ap (map (entry_of new)) is ∙ entries_left at new class key s ts agree stay,
    )
  where
    either : (b : Bool) → (b ≡ true → true ≡ false) → b ≡ false
    either true f = f refl
    either false f = refl

-- ---- a row comes last

pub below_apart : (s t : ℕ) → t < s → (s == t) ≡ false
below_apart s t h = by (s == t) refl
  where
    by : (b : Bool) → (s == t) ≡ b → b ≡ false
    by true e = let same : s ≡ t = eqb-true s t e in absurd (omega (arith, same, h))
    by false e = refl

entries_push : (at new : ℕ → Option Row) (s : ℕ) (row : Row) (ts : List ℕ) → new s ≡ Some row → ((t : ℕ) → among t ts ≡ true → new t ≡ at t) → map (entry_of new) (ts ++ s ∷ []) ≡ map (entry_of at) ts ++ (s, row) ∷ []
entries_push at new s row [] here same = ap (λ (o : Option Row). (s, unwrap_or o no_row) ∷ []) here
entries_push at new s row (t ∷ ts) here same = ap₂ (λ (o : Option Row) l. (t, unwrap_or o no_row) ∷ l) (same t (own_among t ts)) (entries_push at new s row ts here (λ u k. same u (or_true (u == t) (among u ts) k)))

some_either : (b : Bool) (o : Option ℕ) (s t : ℕ) (P : Type 0) → cond b (Some s) o ≡ Some t → (b ≡ true → s ≡ t → P) → (b ≡ false → o ≡ Some t → P) → P
some_either true o s t P h f g = f refl (some_same s t h)
some_either false o s t P h f g = g refl h

pub bool_either : (b : Bool) (P : Type 0) → (b ≡ true → P) → (b ≡ false → P) → P
bool_either true P f g = f refl
bool_either false P f g = g refl

-- the list after a row was put last
pub list_longer : (names more : Class → List ℕ → Option ℕ) (at new : ℕ → Option Row) (row : Row) (ts us : List ℕ) (s next : ℕ) → IsListing names at ts s → row_at (map row_in (map (entry_of at) ts)) row.class row.key ≡ None → s < 2 ^ 63
    → ((other : Class) (text : List ℕ) → more other text ≡ cond (same_name row.class row.key other text) (Some s) (names other text)) → ((t : ℕ) → new t ≡ cond (nat_eq s t) (Some row) (at t)) → us ≡ ts ++ s ∷ [] → next ≡ s + 1
    → IsListing more new us next × (map (entry_of new) us ≡ map (entry_of at) ts ++ (s, row) ∷ [])
list_longer names more at new row ts us s next h none few longer put is one =
    let stay : (t : ℕ) → (s == t) ≡ false → new t ≡ at t = λ t apart. put t ∙ ap (λ b. cond b (Some row) (at t)) apart in
    let keeps : (t : ℕ) → (s == t) ≡ false → kept new t ≡ kept at t = λ t apart. ap (λ (o : Option Row). unwrap_or o no_row) (stay t apart) in
    let here : new s ≡ Some row = put s ∙ ap (λ b. cond b (Some row) (at s)) (eq-eqb s s refl) in
    let own : kept new s ≡ row = ap (λ (o : Option Row). unwrap_or o no_row) here in
    let apart : (t : ℕ) → among t ts ≡ true → (s == t) ≡ false = λ t k. below_apart s t (below_top t 0 s ts h.rising k) in
    let unnamed : names row.class row.key ≡ None = no_stamp names at ts s h row.class row.key none in (
      record {
        rising = subst (λ n. Rises 0 us n) (sym one) (subst (λ l. Rises 0 l (s + 1)) (sym is) (rises_push 0 s ts h.rising));
        stands = λ t k. bool_either (s == t) _
            (λ e. let same : s ≡ t = eqb-true s t e in
            subst (λ n. (new n ≡ Some (kept new n)) × (more (kept new n).class (kept new n).key ≡ Some n)) same
            (here ∙ ap Some (sym own), ap (λ (r : Row). more r.class r.key) own ∙ longer row.class row.key ∙ ap (λ b. cond b (Some s) (names row.class row.key)) (own_row row)))
            (λ e.
            let there = among_either s t ts e (ap (among t) (sym is) ∙ k) in
            let same = keeps t e in
            let stands = h.stands t there in
            let other : same_name row.class row.key (kept at t).class (kept at t).key ≡ false = bool_either (is_row row.class row.key (kept at t)) _ (λ b. let that = named_there names at ts s h row.class row.key t there b in cc) (λ b. b) in (
              stay t e ∙ stands.0 ∙ ap Some (sym same),
              ap (λ (r : Row). more r.class r.key) same ∙ longer (kept at t).class (kept at t).key ∙ ap (λ b. cond b (Some s) (names (kept at t).class (kept at t).key)) other ∙ stands.1,
            ));
        known = λ other text t k. some_either (same_name row.class row.key other text) (names other text) s t _ (sym (longer other text) ∙ k)
            (λ b same. subst (λ n. (among n us ≡ true) × (is_row other text (kept new n) ≡ true)) same
            (ap (among s) is ∙ last_among s ts, ap (is_row other text) own ∙ turned_name row other text b))
            (λ b found.
            let there = h.known other text t found in
            (ap (among t) is ∙ among_push s t ts there.0, ap (is_row other text) (keeps t (apart t there.0)) ∙ there.1));
        only = λ t other k. bool_either (s == t) _
            (λ e. let same : s ≡ t = eqb-true s t e in ap (among t) is ∙ subst (λ n. among n (ts ++ s ∷ []) ≡ true) same (last_among s ts))
            (λ e. ap (among t) is ∙ among_push s t ts (h.only t other (sym (stay t e) ∙ k)));
        limit = omega (arith, few, one);
      },
      ap (map (entry_of new)) is ∙ entries_push at new s row ts here (λ t k. stay t (apart t k)),
    )
  where
    turned_name : (row : Row) (other : Class) (text : List ℕ) → same_name row.class row.key other text ≡ true → is_row other text row ≡ true
    turned_name row other text b =
        let that = is_that_row row.class row.key (record { class = other; key = text; rope = 0; note = [] }) b in
        ap₂ (λ x k. is_row x k row) that.0 that.1 ∙ own_row row

-- where no row has a name, all stay
pub all_listed_stay : (class : Class) (key : List ℕ) (es : List (ℕ × Row)) → row_at (map row_in es) class key ≡ None → filter (λ e. not (is_row class key e.1)) es ≡ es
all_listed_stay class key [] h = refl
all_listed_stay class key (e ∷ es) h = by (is_row class key e.1) h (all_listed_stay class key es)
  where
    by : (b : Bool) → cond b (Some e.1) (row_at (map row_in es) class key) ≡ None → (row_at (map row_in es) class key ≡ None → filter (λ e. not (is_row class key e.1)) es ≡ es) → cond (not b) (e ∷ filter (λ e. not (is_row class key e.1)) es) (filter (λ e. not (is_row class key e.1)) es) ≡ e ∷ es
    by true k rest = cc
    by false k rest = ap (λ l. e ∷ l) (rest k)

-- the entries of the same rows in the same order
pub still_entries : (old new : Stamped) (ts us : List ℕ) → IsSame old new → us ≡ ts → map (entry_of (row_of new)) us ≡ map (entry_of (row_of old)) ts
still_entries old new ts us same g = λ i. map (entry_of (row_under (same.0 i) (same.1 i))) (g i)
