-- Expiries rise by their places.
use Rattle.std.proofs.Common.{◌≡◌, ◌≢◌, ℕ, ◌<◌, ◌≤◌, ◌+◌, ◌^◌, suc, zero, ◌*◌, List, [], ◌∷◌, map, filter, length, ap, ◌∙◌, sym, refl, subst, cond, Bool, true, false, ◌==◌, get_or, arith}
use Rattle.std.proofs.lemmas.Bool.{eqb-true, eqb-false, ltb-true, lt-ltb, lt-leb, leb-false}
use Rattle.std.specs.Prelude.{nat_lt, nat_le, insert, remove}
use Rattle.std.specs.List.Sorted.{IsPartitionedBy}
use Rattle.counted_row.specs.Row.{passing}
use Rattle.interest_table.specs.declared.expiries.Expiry.{Expiry}
use Rattle.interest_table.specs.Inside.{place, place_of, among, without, Rises, AllFit, AreOrdered, IsEntered, IsTaken, stamps_due, due_front}
use Rattle.interest_table.proofs.Found.{both_ways}
use Rattle.interest_table.proofs.Listed.{absent_stay, low_absent, rises_without, not_less}

-- ---- places

pub by_stamp : (m n s t : ℕ) → m ≡ n → nat_lt s t ≡ nat_lt (place m s) (place n t)
by_stamp m n s t e = both_ways _ _
    (λ h. let less = ltb-true s t h in lt-ltb (place m s) (place n t) (omega (arith, e, less)))
    (λ h. let less = ltb-true (place m s) (place n t) h in lt-ltb s t (omega (arith, e, less)))

pub by_moment : (m n s t : ℕ) → m ≢ n → s < 2 ^ 64 → t < 2 ^ 64 → nat_lt m n ≡ nat_lt (place m s) (place n t)
by_moment m n s t apart a b = both_ways _ _
    (λ h. let less = ltb-true m n h in lt-ltb (place m s) (place n t) (omega (arith, a, less)))
    (λ h. let less = ltb-true (place m s) (place n t) h in lt-ltb m n (omega (arith, apart, a, b, less)))

pub one_place : (m n s t : ℕ) → s < 2 ^ 64 → t < 2 ^ 64 → place m s ≡ place n t → (m ≡ n) × (s ≡ t)
one_place m n s t a b e = let same : m ≡ n = omega (arith, a, b, e) in (same, omega (arith, same, e))

place_least : (low top : ℕ) (es : List Expiry) (i : ℕ) (d : Expiry) → Rises low (map place_of es) top → i < length es → low ≤ place_of (get_or es i d)
place_least low top [] i d h within = absurd (omega arith)
place_least low top (e ∷ es) zero d h within = h.0
place_least low top (e ∷ es) (suc i) d h within = let rest = place_least (place_of e + 1) top es i d h.1 (omega (arith, within)) in omega (arith, rest, h.0)

before_at : (c low top : ℕ) (x : Expiry) (xs : List Expiry) → Rises low (map place_of (x ∷ xs)) top → IsPartitionedBy (λ y. nat_lt (place_of y) c) xs → IsPartitionedBy (λ y. nat_lt (place_of y) c) (x ∷ xs)
before_at c low top x xs h rest zero zero d le within e = e
before_at c low top x xs h rest zero (suc j) d le within e =
    let least = place_least (place_of x + 1) top xs j d h.1 (omega (arith, within)) in
    let less = ltb-true (place_of (get_or xs j d)) c e in
    lt-ltb (place_of x) c (omega (arith, least, less))
before_at c low top x xs h rest (suc i) zero d le within e = absurd (omega (arith, le))
before_at c low top x xs h rest (suc i) (suc j) d le within e = rest i j d (omega (arith, le)) (omega (arith, within)) e

pub placed_before : (c low top : ℕ) (xs : List Expiry) → Rises low (map place_of xs) top → IsPartitionedBy (λ y. nat_lt (place_of y) c) xs
placed_before c low top [] h = λ i j d le within e. absurd (omega (arith, within))
placed_before c low top (x ∷ xs) h = before_at c low top x xs h (placed_before c (place_of x + 1) top xs h.1)

-- ---- the due ones in front

none_due : (now low top : ℕ) (xs : List Expiry) → (now + 1) * 2 ^ 64 ≤ low → Rises low (map place_of xs) top → AllFit xs → [] ≡ stamps_due now xs
none_due now low top [] above h fit = refl
none_due now low top (x ∷ xs) above h fit =
    none_due now (place_of x + 1) top xs (omega (arith, above, h.0)) h.1 fit.2
    ∙ ap (λ b. map (λ (e : Expiry). e.stamp) (cond b (x ∷ filter (λ (e : Expiry). nat_le e.moment now) xs) (filter (λ (e : Expiry). nat_le e.moment now) xs))) (sym (lt-leb x.moment now (omega (arith, above, h.0, fit.1))))

-- where expiries rise, none is due behind one that is not
pub due_ahead : (now low top : ℕ) (xs : List Expiry) → Rises low (map place_of xs) top → AllFit xs → due_front now xs ≡ stamps_due now xs
due_ahead now low top [] h fit = refl
due_ahead now low top (x ∷ xs) h fit = by (nat_le x.moment now) refl (due_ahead now (place_of x + 1) top xs h.1 fit.2)
  where
    by : (b : Bool) → nat_le x.moment now ≡ b → due_front now xs ≡ stamps_due now xs → cond b (x.stamp ∷ due_front now xs) [] ≡ map (λ (e : Expiry). e.stamp) (cond b (x ∷ filter (λ (e : Expiry). nat_le e.moment now) xs) (filter (λ (e : Expiry). nat_le e.moment now) xs))
    by true e rest = ap (λ l. x.stamp ∷ l) rest
    by false e rest = let above = leb-false x.moment now e in none_due now (place_of x + 1) top xs (omega (arith, above)) h.1 fit.2

-- ---- one goes

taken_place : (c low top : ℕ) (ts : List Expiry) → Rises low (map place_of ts) top → among c (map place_of ts) ≡ true → map place_of (remove ts (passing (λ y. nat_lt (place_of y) c) ts)) ≡ without c (map place_of ts)
taken_place c low top [] h in_it = cc
taken_place c low top (t ∷ ts) h in_it = by (nat_lt (place_of t) c) refl (c == place_of t) refl in_it (λ k. taken_place c (place_of t + 1) top ts h.1 k)
  where
    by : (less : Bool) → nat_lt (place_of t) c ≡ less → (b : Bool) → (c == place_of t) ≡ b → cond b true (among c (map place_of ts)) ≡ true
        → (among c (map place_of ts) ≡ true → map place_of (remove ts (passing (λ y. nat_lt (place_of y) c) ts)) ≡ without c (map place_of ts))
        → map place_of (remove (t ∷ ts) (cond less (suc (passing (λ y. nat_lt (place_of y) c) ts)) 0)) ≡ cond b (without c (map place_of ts)) (place_of t ∷ without c (map place_of ts))
    by true less true e k rest = let same : c ≡ place_of t = eqb-true c (place_of t) e in absurd (omega (arith, same, ltb-true (place_of t) c less))
    by true less false e k rest = ap (λ l. place_of t ∷ l) (rest k)
    by false less true e k rest = let same : c ≡ place_of t = eqb-true c (place_of t) e in sym (absent_stay c (map place_of ts) (low_absent c (place_of t + 1) top (map place_of ts) (omega (arith, same)) h.1))
    by false less false e k rest =
        let above : c ≤ place_of t = not_less (place_of t) c less in
        let none : among c (map place_of ts) ≡ false = low_absent c (place_of t + 1) top (map place_of ts) (omega (arith, above)) h.1 in
        cc

fit_taken : (es : List Expiry) (p : ℕ) → AllFit es → AllFit (remove es p)
fit_taken [] zero h = tt
fit_taken [] (suc p) h = tt
fit_taken (e ∷ es) zero h = h.2
fit_taken (e ∷ es) (suc p) h = (h.0, h.1, fit_taken es p h.2)

pub one_taken : (gone : Expiry) (old new : List Expiry) → (AreOrdered old → new ≡ remove old (passing (λ y. nat_lt (place_of y) (place_of gone)) old)) → IsTaken gone old new
one_taken gone old new taken h in_it =
    let is = taken h in
    let left : map place_of new ≡ without (place_of gone) (map place_of old) = ap (map place_of) is ∙ taken_place (place_of gone) 0 (2 ^ 128) old h.rising in_it in (
      record {
        rising = subst (λ l. Rises 0 l (2 ^ 128)) (sym left) (rises_without (place_of gone) 0 (2 ^ 128) (map place_of old) h.rising);
        fit = subst AllFit (sym is) (fit_taken old (passing (λ y. nat_lt (place_of y) (place_of gone)) old) h.fit);
      },
      left,
    )

-- ---- one comes

rises_entered : (x : Expiry) (low top : ℕ) (ts : List Expiry) → Rises low (map place_of ts) top → low ≤ place_of x → place_of x < top → among (place_of x) (map place_of ts) ≡ false → Rises low (map place_of (insert ts (passing (λ y. nat_lt (place_of y) (place_of x)) ts) x)) top
rises_entered x low top [] h above below new = (above, omega (arith, below))
rises_entered x low top (t ∷ ts) h above below new = by (nat_lt (place_of t) (place_of x)) refl (place_of x == place_of t) refl new (λ least k. rises_entered x (place_of t + 1) top ts h.1 least below k)
  where
    by : (less : Bool) → nat_lt (place_of t) (place_of x) ≡ less → (b : Bool) → (place_of x == place_of t) ≡ b → cond b true (among (place_of x) (map place_of ts)) ≡ false
        → (place_of t + 1 ≤ place_of x → among (place_of x) (map place_of ts) ≡ false → Rises (place_of t + 1) (map place_of (insert ts (passing (λ y. nat_lt (place_of y) (place_of x)) ts) x)) top)
        → Rises low (map place_of (insert (t ∷ ts) (cond less (suc (passing (λ y. nat_lt (place_of y) (place_of x)) ts)) 0) x)) top
    by true less true e k rest = cc
    by true less false e k rest = let lower = ltb-true (place_of t) (place_of x) less in (h.0, rest (omega (arith, lower)) k)
    by false less true e k rest = cc
    by false less false e k rest =
        let most : place_of x ≤ place_of t = not_less (place_of t) (place_of x) less in
        let apart : place_of x ≢ place_of t = eqb-false (place_of x) (place_of t) e in
        (above, (omega (arith, most, apart), h.1))

among_entered : (q : ℕ) (x : Expiry) (ts : List Expiry) (p : ℕ) → p ≤ length ts → among q (map place_of (insert ts p x)) ≡ cond (q == place_of x) true (among q (map place_of ts))
among_entered q x [] zero le = refl
among_entered q x [] (suc p) le = absurd (omega (arith, le))
among_entered q x (t ∷ ts) zero le = refl
among_entered q x (t ∷ ts) (suc p) le = ap (λ b. cond (q == place_of t) true b) (among_entered q x ts p (omega (arith, le))) ∙ swapped (q == place_of t) (q == place_of x) (among q (map place_of ts))
  where
    swapped : (a b c : Bool) → cond a true (cond b true c) ≡ cond b true (cond a true c)
    swapped true true c = refl
    swapped true false c = refl
    swapped false true c = refl
    swapped false false c = refl

fit_entered : (x : Expiry) (ts : List Expiry) (p : ℕ) → AllFit (x ∷ []) → AllFit ts → p ≤ length ts → AllFit (insert ts p x)
fit_entered x [] zero h fit le = h
fit_entered x [] (suc p) h fit le = absurd (omega (arith, le))
fit_entered x (t ∷ ts) zero h fit le = (h.0, h.1, fit)
fit_entered x (t ∷ ts) (suc p) h fit le = (fit.0, fit.1, fit_entered x ts p h fit.2 (omega (arith, le)))

passing_within : (p : Expiry → Bool) (xs : List Expiry) → passing p xs ≤ length xs
passing_within p [] = omega arith
passing_within p (x ∷ xs) = by (p x) (passing_within p xs)
  where
    by : (b : Bool) → passing p xs ≤ length xs → cond b (suc (passing p xs)) 0 ≤ length (x ∷ xs)
    by true rest = omega (arith, rest)
    by false rest = omega arith

pub one_entered : (x : Expiry) (old new : List Expiry) → (AreOrdered old → new ≡ insert old (passing (λ y. nat_lt (place_of y) (place_of x)) old) x) → IsEntered x old new
one_entered x old new entered h fits apart =
    let is = entered h in
    let le = passing_within (λ y. nat_lt (place_of y) (place_of x)) old in (
      record {
        rising = subst (λ l. Rises 0 (map place_of l) (2 ^ 128)) (sym is) (rises_entered x 0 (2 ^ 128) old h.rising (omega arith) (omega (arith, fits.0, fits.1)) apart);
        fit = subst AllFit (sym is) (fit_entered x old (passing (λ y. nat_lt (place_of y) (place_of x)) old) fits h.fit le);
      },
      λ q. ap (λ l. among q (map place_of l)) is ∙ among_entered q x old (passing (λ y. nat_lt (place_of y) (place_of x)) old) le,
    )
