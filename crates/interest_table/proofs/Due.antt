-- Expiries of the rows that are due.
use Rattle.std.proofs.Common.{◌≡◌, ℕ, ◌<◌, ◌≤◌, ◌+◌, ◌^◌, suc, zero, List, [], ◌∷◌, ◌++◌, map, filter, length, not, ap, ap₂, ◌∙◌, sym, refl, subst, cond, Bool, true, false, ◌==◌, ◌&&◌, Option, Some, None, get_or, eq-eqb, arith}
use Rattle.std.proofs.lemmas.Bool.{eqb-true, leb-true, le-leb}
use Rattle.std.proofs.lemmas.List.Sorted.{sum_by-IsPermutation}
use Rattle.std.proofs.lemmas.List.Recursion.{is_count_by}
use Rattle.std.specs.List.Sorted.{IsPermutation, IsNonDecreasingBy}
use Rattle.std.specs.Prelude.{nat_le, nat_eq, unwrap_or}
use Rattle.disk_areas.specs.Numbers.{spelled_number}
use Rattle.voice_model.specs.State.{class_number, row_at}
use Rattle.voice_model.specs.Changes.{is_expired}
use Rattle.voice_model.specs.declared.calls.Row.{Row}
use Rattle.voice_model.specs.declared.calls.Class.{Class}
use Rattle.interest_table.specs.declared.expiries.Expiry.{Expiry}
use Rattle.interest_table.specs.Inside.{Stamped, stamp_at, stamp_of, row_under, row_of, IsSame, IsTimed, no_row, kept, entry_of, row_in, AllKept, is_due, place, place_of, among, without, Rises, AllFit, AreOrdered, IsDated, IsEntered, IsTaken, IsGained, IsLost, Leads, NoneDue, stamps_due, Grows, times}
use Rattle.interest_table.proofs.Found.{both_ways}
use Rattle.interest_table.proofs.Listed.{low_absent, was_among, stays_among, last_among, among_push, among_either, own_among, or_true, bool_either, below_top, found_row}
use Rattle.interest_table.proofs.Dated.{one_place}

-- ---- stamps

-- among the stamps with one more
among_more : (s t : ℕ) (ts : List ℕ) → among t (ts ++ s ∷ []) ≡ cond (s == t) true (among t ts)
among_more s t ts = bool_either (s == t) _
    (λ e. let same : s ≡ t = eqb-true s t e in subst (λ n. among n (ts ++ s ∷ []) ≡ true) same (last_among s ts) ∙ ap (λ b. cond b true (among t ts)) (sym e))
    (λ e. both_ways _ _ (λ k. among_either s t ts e k) (λ k. among_push s t ts k) ∙ ap (λ b. cond b true (among t ts)) (sym e))

-- among the stamps but for one
among_fewer : (s t : ℕ) (ts : List ℕ) → among t (without s ts) ≡ cond (s == t) false (among t ts)
among_fewer s t ts = bool_either (s == t) _
    (λ e. bool_either (among t (without s ts)) _ (λ k. let was = (was_among s t ts k).1 in absurd (apart (s == t) e was)) (λ k. k) ∙ ap (λ b. cond b false (among t ts)) (sym e))
    (λ e. both_ways _ _ (λ k. (was_among s t ts k).0) (λ k. stays_among s t ts k e) ∙ ap (λ b. cond b false (among t ts)) (sym e))
  where
    apart : (b : Bool) → b ≡ true → b ≡ false → ⊥
    apart true e f = cc
    apart false e f = cc

-- ---- one row

pub row_kept : (at : ℕ → Option Row) (s : ℕ) (row : Row) → at s ≡ Some row → kept at s ≡ row
row_kept at s row e = ap (λ (o : Option Row). unwrap_or o no_row) e

pub same_kept : (at new : ℕ → Option Row) (s t : ℕ) → ((other : ℕ) → (s == other) ≡ false → new other ≡ at other) → (s == t) ≡ false → kept new t ≡ kept at t
same_kept at new s t same e = ap (λ (o : Option Row). unwrap_or o no_row) (same t e)

turned : (s t : ℕ) → (s == t) ≡ (t == s)
turned s t = both_ways _ _ (λ e. eq-eqb t s (sym (eqb-true s t e))) (λ e. eq-eqb s t (sym (eqb-true t s e)))

-- two places are the same where moment and stamp are
same_place : (m n s t : ℕ) → s < 2 ^ 64 → t < 2 ^ 64 → (place m s == place n t) ≡ ((s == t) && (n == m))
same_place m n s t a b = both_ways _ _
    (λ e. let same = one_place m n s t a b (eqb-true (place m s) (place n t) e) in ap₂ (λ x y. x && y) (eq-eqb s t same.1) (eq-eqb n m (sym same.0)))
    (λ e. let parts = and_parts (s == t) (n == m) e in let s_same : s ≡ t = eqb-true s t parts.0 in let m_same : n ≡ m = eqb-true n m parts.1 in eq-eqb (place m s) (place n t) (ap₂ place (sym m_same) s_same))
  where
    and_parts : (a b : Bool) → (a && b) ≡ true → (a ≡ true) × (b ≡ true)
    and_parts true b e = (refl, e)
    and_parts false b e = cc

pub and_false : (a b : Bool) → b ≡ false → (a && b) ≡ false
and_false true b e = e
and_false false b e = refl

-- ---- a row without a moment

pub gained_none : (row : Row) (stamp : ℕ) (es : List Expiry) → ((moment : ℕ) → moment < 2 ^ 64 → is_due moment row ≡ false) → IsGained row stamp es es
gained_none row s es none at more ts h new here same = record {
  ordered = h.ordered;
  exact = λ m t a b. h.exact m t a b ∙ bool_either (s == t) _
      (λ e.
      let one : s ≡ t = eqb-true s t e in
      let absent : among t ts ≡ false = ap (λ n. among n ts) (sym one) ∙ new in
      ap (λ b. b && is_due m (kept at t)) absent
      ∙ sym (and_false (among t (ts ++ s ∷ [])) (is_due m (kept more t)) (ap (is_due m) (ap (kept more) (sym one) ∙ row_kept more s row here) ∙ none m a)))
      (λ e. ap₂ (λ b r. b && is_due m r) (sym (among_more s t ts ∙ ap (λ b. cond b true (among t ts)) e)) (sym (same_kept at more s t same e)));
}

pub lost_none : (row : Row) (stamp : ℕ) (es : List Expiry) → ((moment : ℕ) → moment < 2 ^ 64 → is_due moment row ≡ false) → IsLost row stamp es es
lost_none row s es none at left ts h old here same = record {
  ordered = h.ordered;
  exact = λ m t a b. h.exact m t a b ∙ bool_either (s == t) _
      (λ e.
      let one : s ≡ t = eqb-true s t e in
      and_false (among t ts) (is_due m (kept at t)) (ap (is_due m) (ap (kept at) (sym one) ∙ row_kept at s row here) ∙ none m a)
      ∙ ap (λ b. b && is_due m (kept left t)) (sym (among_fewer s t ts ∙ ap (λ b. cond b false (among t ts)) e)))
      (λ e. ap₂ (λ b r. b && is_due m r) (sym (among_fewer s t ts ∙ ap (λ b. cond b false (among t ts)) e)) (sym (same_kept at left s t same e)));
}

-- ---- a row with one

pub gained_one : (row : Row) (moment stamp : ℕ) (old new : List Expiry) → moment < 2 ^ 64 → stamp < 2 ^ 64 → ((m : ℕ) → m < 2 ^ 64 → is_due m row ≡ (moment == m)) → IsEntered (record { moment = moment; stamp = stamp }) old new → IsGained row stamp old new
gained_one row n s old new n_fits s_fits due entered at more ts h absent here same =
    let after = entered h.ordered (n_fits, s_fits, tt) (h.exact n s n_fits s_fits ∙ ap (λ b. b && is_due n (kept at s)) absent) in
    record {
      ordered = after.0;
      exact = λ m t a b. after.1 (place m t) ∙ ap₂ (λ x y. cond x true y) (same_place m n t s b s_fits) (h.exact m t a b) ∙ bool_either (s == t) _
          (λ e.
          let one : s ≡ t = eqb-true s t e in
          let none : among t ts ≡ false = ap (λ k. among k ts) (sym one) ∙ absent in
          let own : is_due m (kept more t) ≡ (n == m) = ap (is_due m) (ap (kept more) (sym one) ∙ row_kept more s row here) ∙ due m a in
          ap₂ (λ x y. cond (x && (n == m)) true (y && is_due m (kept at t))) (sym (turned s t) ∙ e) none ∙ or_false (n == m)
          ∙ sym (ap₂ (λ x y. x && y) (among_more s t ts ∙ ap (λ b. cond b true (among t ts)) e) own))
          (λ e.
          ap (λ x. cond (x && (n == m)) true (among t ts && is_due m (kept at t))) (sym (turned s t) ∙ e)
          ∙ ap₂ (λ b r. b && is_due m r) (sym (among_more s t ts ∙ ap (λ b. cond b true (among t ts)) e)) (sym (same_kept at more s t same e)));
    }
  where
    or_false : (b : Bool) → cond b true false ≡ b
    or_false true = refl
    or_false false = refl

pub lost_one : (row : Row) (moment stamp : ℕ) (old new : List Expiry) → moment < 2 ^ 64 → stamp < 2 ^ 64 → ((m : ℕ) → m < 2 ^ 64 → is_due m row ≡ (moment == m)) → IsTaken (record { moment = moment; stamp = stamp }) old new → IsLost row stamp old new
lost_one row n s old new n_fits s_fits due taken at left ts h there here same =
    let own : (m : ℕ) → m < 2 ^ 64 → is_due m (kept at s) ≡ (n == m) = λ m a. ap (is_due m) (row_kept at s row here) ∙ due m a in
    let after = taken h.ordered (h.exact n s n_fits s_fits ∙ ap₂ (λ x y. x && y) there (own n n_fits ∙ eq-eqb n n refl)) in
    record {
      ordered = after.0;
      exact = λ m t a b. ap (among (place m t)) after.1 ∙ among_fewer (place n s) (place m t) (map place_of old)
          ∙ ap₂ (λ x y. cond x false y) (same_place n m s t s_fits b) (h.exact m t a b) ∙ bool_either (s == t) _
          (λ e.
          let one : s ≡ t = eqb-true s t e in
          let mine : is_due m (kept at t) ≡ (m == n) = ap (λ k. is_due m (kept at k)) (sym one) ∙ own m a ∙ turned n m in
          ap₂ (λ x y. cond (x && (m == n)) false (among t ts && y)) e mine ∙ none_of (m == n) (among t ts)
          ∙ ap (λ b. b && is_due m (kept left t)) (sym (among_fewer s t ts ∙ ap (λ b. cond b false (among t ts)) e)))
          (λ e.
          ap (λ x. cond (x && (m == n)) false (among t ts && is_due m (kept at t))) e
          ∙ ap₂ (λ b r. b && is_due m r) (sym (among_fewer s t ts ∙ ap (λ b. cond b false (among t ts)) e)) (sym (same_kept at left s t same e)));
    }
  where
    none_of : (b c : Bool) → cond b false (c && b) ≡ false
    none_of true c = refl
    none_of false true = refl
    none_of false false = refl

-- ---- how often a stamp is due

-- what its note spells
abbrev moment_at : (ℕ → Option Row) → ℕ → ℕ
moment_at at s = spelled_number (kept at s).note

-- whether a stamp's row is expired
abbrev pub expires : ℕ → (ℕ → Option Row) → ℕ → Bool
expires now at s = is_expired now (kept at s)

and_first : (a b : Bool) → (a && b) ≡ true → a ≡ true
and_first true b e = refl
and_first false b e = cc

and_second : (a b : Bool) → (a && b) ≡ true → b ≡ true
and_second true b e = e
and_second false b e = cc

-- an expiry that is there tells of its row
pub tells : (at : ℕ → Option Row) (ts : List ℕ) (all : List Expiry) → IsDated at ts all → (m s : ℕ) → m < 2 ^ 64 → s < 2 ^ 64 → among (place m s) (map place_of all) ≡ true → (among s ts ≡ true) × ((class_number (kept at s).class == 2) ≡ true) × (moment_at at s ≡ m)
tells at ts all h m s a b there =
    let both = sym (h.exact m s a b) ∙ there in
    let due = and_second (among s ts) (is_due m (kept at s)) both in
    (and_first (among s ts) (is_due m (kept at s)) both, and_first (class_number (kept at s).class == 2) (moment_at at s == m) due, eqb-true (moment_at at s) m (and_second (class_number (kept at s).class == 2) (moment_at at s == m) due))

module _ (now : ℕ) (at : ℕ → Option Row) (ts : List ℕ) (all : List Expiry) (h : IsDated at ts all) (t : ℕ) (fits : t < 2 ^ 64) where
  times_due : (low top : ℕ) (es : List Expiry) → Rises low (map place_of es) top → AllFit es → ((p : ℕ) → among p (map place_of es) ≡ true → among p (map place_of all) ≡ true) → times t (stamps_due now es) ≡ cond (among (place (moment_at at t) t) (map place_of es) && nat_le (moment_at at t) now) 1 0
  times_due low top [] rises fit sub = refl
  times_due low top (e ∷ es) rises fit sub =
      let rest = times_due (place_of e + 1) top es rises.1 fit.2 (λ p k. sub p (or_true (p == place_of e) (among p (map place_of es)) k)) in
      let told = tells at ts all h e.moment e.stamp fit.0 fit.1 (sub (place_of e) (own_among (place_of e) (map place_of es))) in
      bool_either (t == e.stamp) _ (λ same. mine (eqb-true t e.stamp same) same told.2 rest) (λ apart. others apart rest)
    where
      mine : t ≡ e.stamp → (t == e.stamp) ≡ true → moment_at at e.stamp ≡ e.moment → times t (stamps_due now es) ≡ cond (among (place (moment_at at t) t) (map place_of es) && nat_le (moment_at at t) now) 1 0 → times t (stamps_due now (e ∷ es)) ≡ cond (among (place (moment_at at t) t) (map place_of (e ∷ es)) && nat_le (moment_at at t) now) 1 0
      mine same is moment rest =
          let its : moment_at at t ≡ e.moment = ap (moment_at at) same ∙ moment in
          let there : place (moment_at at t) t ≡ place_of e = ap₂ place its same in
          let absent : among (place (moment_at at t) t) (map place_of es) ≡ false = low_absent (place (moment_at at t) t) (place_of e + 1) top (map place_of es) (omega (arith, there)) rises.1 in
          let none : times t (stamps_due now es) ≡ 0 = rest ∙ ap (λ b. cond (b && nat_le (moment_at at t) now) 1 0) absent in
          counted (nat_le e.moment now) none
          ∙ ap (λ m. cond (nat_le m now) 1 0) (sym its)
          ∙ ap (λ b. cond (cond b true (among (place (moment_at at t) t) (map place_of es)) && nat_le (moment_at at t) now) 1 0) (sym (eq-eqb (place (moment_at at t) t) (place_of e) there))
        where
          counted : (b : Bool) → times t (stamps_due now es) ≡ 0 → times t (map (λ (x : Expiry). x.stamp) (cond b (e ∷ filter (λ (x : Expiry). nat_le x.moment now) es) (filter (λ (x : Expiry). nat_le x.moment now) es))) ≡ cond b 1 0
          counted true none = ap₂ (λ b n. cond b (1 + n) n) is none
          counted false none = none

      others : (t == e.stamp) ≡ false → times t (stamps_due now es) ≡ cond (among (place (moment_at at t) t) (map place_of es) && nat_le (moment_at at t) now) 1 0 → times t (stamps_due now (e ∷ es)) ≡ cond (among (place (moment_at at t) t) (map place_of (e ∷ es)) && nat_le (moment_at at t) now) 1 0
      others apart rest =
          let away : (place (moment_at at t) t == place_of e) ≡ false = same_place (moment_at at t) e.moment t e.stamp fits fit.1 ∙ ap (λ b. b && (e.moment == moment_at at t)) apart in
          counted (nat_le e.moment now) ∙ rest ∙ ap (λ b. cond (cond b true (among (place (moment_at at t) t) (map place_of es)) && nat_le (moment_at at t) now) 1 0) (sym away)
        where
          counted : (b : Bool) → times t (map (λ (x : Expiry). x.stamp) (cond b (e ∷ filter (λ (x : Expiry). nat_le x.moment now) es) (filter (λ (x : Expiry). nat_le x.moment now) es))) ≡ times t (stamps_due now es)
          counted true = ap (λ b. cond b (1 + times t (stamps_due now es)) (times t (stamps_due now es))) apart
          counted false = refl

times_none : (now t : ℕ) (es : List Expiry) → 2 ^ 64 ≤ t → AllFit es → times t (stamps_due now es) ≡ 0
times_none now t [] above fit = refl
times_none now t (e ∷ es) above fit = counted (nat_le e.moment now) (times_none now t es above fit.2)
  where
    counted : (b : Bool) → times t (stamps_due now es) ≡ 0 → times t (map (λ (x : Expiry). x.stamp) (cond b (e ∷ filter (λ (x : Expiry). nat_le x.moment now) es) (filter (λ (x : Expiry). nat_le x.moment now) es))) ≡ 0
    counted true rest = bool_either (t == e.stamp) _
        (λ is. let same : t ≡ e.stamp = eqb-true t e.stamp is in absurd (omega (arith, same, above, fit.1)))
        (λ apart. ap (λ b. cond b (1 + times t (stamps_due now es)) (times t (stamps_due now es))) apart ∙ rest)
    counted false rest = rest

-- of stamps that rise
times_kept : (test : ℕ → Bool) (t low top : ℕ) (us : List ℕ) → Rises low us top → times t (filter test us) ≡ cond (among t us && test t) 1 0
times_kept test t low top [] h = refl
times_kept test t low top (u ∷ us) h = let rest = times_kept test t (u + 1) top us h.1 in bool_either (t == u) _ (mine rest) (others rest)
  where
    mine : times t (filter test us) ≡ cond (among t us && test t) 1 0 → (t == u) ≡ true → times t (cond (test u) (u ∷ filter test us) (filter test us)) ≡ cond (cond (t == u) true (among t us) && test t) 1 0
    mine rest is =
        let same : t ≡ u = eqb-true t u is in
        let absent : among t us ≡ false = low_absent t (u + 1) top us (omega (arith, same)) h.1 in
        counted (test u) (rest ∙ ap (λ b. cond (b && test t) 1 0) absent) ∙ ap (λ n. cond (test n) 1 0) (sym same) ∙ ap (λ b. cond (cond b true (among t us) && test t) 1 0) (sym is)
      where
        counted : (b : Bool) → times t (filter test us) ≡ 0 → times t (cond b (u ∷ filter test us) (filter test us)) ≡ cond b 1 0
        counted true none = ap₂ (λ b n. cond b (1 + n) n) is none
        counted false none = none

    others : times t (filter test us) ≡ cond (among t us && test t) 1 0 → (t == u) ≡ false → times t (cond (test u) (u ∷ filter test us) (filter test us)) ≡ cond (cond (t == u) true (among t us) && test t) 1 0
    others rest apart = counted (test u) ∙ rest ∙ ap (λ b. cond (cond b true (among t us) && test t) 1 0) (sym apart)
      where
        counted : (b : Bool) → times t (cond b (u ∷ filter test us) (filter test us)) ≡ times t (filter test us)
        counted true = ap (λ b. cond b (1 + times t (filter test us)) (times t (filter test us))) apart
        counted false = refl

same_times : (now : ℕ) (at : ℕ → Option Row) (ts : List ℕ) (all : List Expiry) (top t : ℕ) → now < 2 ^ 64 → top ≤ 2 ^ 63 → Rises 0 ts top → IsDated at ts all → times t (stamps_due now all) ≡ times t (filter (expires now at) ts)
same_times now at ts all top t least limit rises h = bool_either (nat_le t top) _
    (λ e.
    let most = leb-true t top e in
    let fits : t < 2 ^ 64 = omega (arith, most, limit) in
    times_due now at ts all h t fits 0 (2 ^ 128) all h.ordered.rising h.ordered.fit (λ p k. k) ∙ ap (λ b. cond b 1 0) (agree fits) ∙ sym (times_kept (expires now at) t 0 top ts rises))
    (λ e.
    let above = not_most t top e in
    let absent : among t ts ≡ false = bool_either (among t ts) _ (λ k. let below = below_top t 0 top ts rises k in absurd (omega (arith, below, above))) (λ k. k) in
    bool_either (nat_le (2 ^ 64) t) _
    (λ large. times_none now t all (leb-true (2 ^ 64) t large) h.ordered.fit)
    (λ small.
    let fits = not_most (2 ^ 64) t small in
    times_due now at ts all h t fits 0 (2 ^ 128) all h.ordered.rising h.ordered.fit (λ p k. k) ∙ ap (λ b. cond b 1 0) (agree fits) ∙ ap (λ b. cond (b && expires now at t) 1 0) absent)
    ∙ sym (times_kept (expires now at) t 0 top ts rises ∙ ap (λ b. cond (b && expires now at t) 1 0) absent))
  where
    not_most : (a b : ℕ) → nat_le a b ≡ false → b < a
    not_most a b e = grind arith

    twice : (a b c : Bool) → ((a && (b && c)) && c) ≡ (a && (b && c))
    twice true true true = refl
    twice true true false = refl
    twice true false c = refl
    twice false b c = refl

    agree : t < 2 ^ 64 → (among (place (moment_at at t) t) (map place_of all) && nat_le (moment_at at t) now) ≡ (among t ts && expires now at t)
    agree fits = bool_either (nat_le (moment_at at t) now) _
        (λ e.
        let most = leb-true (moment_at at t) now e in
        ap (λ b. b && nat_le (moment_at at t) now) (h.exact (moment_at at t) t (omega (arith, most, least)) fits)
        ∙ ap (λ b. (among t ts && ((class_number (kept at t).class == 2) && b)) && nat_le (moment_at at t) now) (eq-eqb (moment_at at t) (moment_at at t) refl ∙ sym e)
        ∙ twice (among t ts) (class_number (kept at t).class == 2) (nat_le (moment_at at t) now))
        (λ e. and_false (among (place (moment_at at t) t) (map place_of all)) (nat_le (moment_at at t) now) e ∙ sym (and_false (among t ts) (expires now at t) (and_false (class_number (kept at t).class == 2) (nat_le (moment_at at t) now) e)))

-- ---- sorted lists

below_none : (t low : ℕ) (xs : List ℕ) → t < low → Grows low xs → times t xs ≡ 0
below_none t low [] below h = refl
below_none t low (x ∷ xs) below h = bool_either (t == x) _
    (λ is. let same : t ≡ x = eqb-true t x is in absurd (omega (arith, same, below, h.0)))
    (λ apart. ap (λ b. cond b (1 + times t xs) (times t xs)) apart ∙ below_none t x xs (omega (arith, below, h.0)) h.1)

own_times : (x : ℕ) (xs : List ℕ) → times x (x ∷ xs) ≡ 1 + times x xs
own_times x xs = ap (λ b. cond b (1 + times x xs) (times x xs)) (eq-eqb x x refl)

-- lists that do not fall are the same where each number stands as often in both
pub sorted_same : (low : ℕ) (xs ys : List ℕ) → Grows low xs → Grows low ys → ((t : ℕ) → times t xs ≡ times t ys) → xs ≡ ys
sorted_same low [] [] g h same = refl
sorted_same low [] (y ∷ ys) g h same = let one = same y in let own = own_times y ys in absurd (omega (arith, one, own))
sorted_same low (x ∷ xs) [] g h same = let one = same x in let own = own_times x xs in absurd (omega (arith, one, own))
sorted_same low (x ∷ xs) (y ∷ ys) g h same = ap₂ (λ a l. a ∷ l) heads (sorted_same x xs ys g.1 (subst (λ n. Grows n ys) (sym heads) h.1) tails)
  where
    three : (a b : ℕ) → (a < b → ⊥) → (b < a → ⊥) → a ≡ b
    three a b f g = grind arith

    heads : x ≡ y
    heads =
        let mine = same x in let own = own_times x xs in
        let other = same y in let its = own_times y ys in
        let high : x < y → times x (y ∷ ys) ≡ 0 = λ less. below_none x y (y ∷ ys) less (omega arith, h.1) in
        let low_one : y < x → times y (x ∷ xs) ≡ 0 = λ less. below_none y x (x ∷ xs) less (omega arith, g.1) in
        three x y (λ less. let none = high less in absurd (omega (arith, none, mine, own))) (λ less. let none = low_one less in absurd (omega (arith, none, other, its)))

    tails : (t : ℕ) → times t xs ≡ times t ys
    tails t = less (t == x) (times t xs) (times t ys) (same t ∙ ap (λ n. cond (t == n) (1 + times t ys) (times t ys)) (sym heads))
      where
        less : (b : Bool) (m n : ℕ) → cond b (1 + m) m ≡ cond b (1 + n) n → m ≡ n
        less true m n e = omega (arith, e)
        less false m n e = e

grows_kept : (test : ℕ → Bool) (low top : ℕ) (us : List ℕ) → Rises low us top → Grows low (filter test us)
grows_kept test low top [] h = tt
grows_kept test low top (u ∷ us) h = either (test u) (grows_kept test (u + 1) top us h.1)
  where
    lower : (a b : ℕ) (l : List ℕ) → a ≤ b → Grows b l → Grows a l
    lower a b [] le g = tt
    lower a b (x ∷ l) le g = (omega (arith, le, g.0), g.1)

    either : (b : Bool) → Grows (u + 1) (filter test us) → Grows low (cond b (u ∷ filter test us) (filter test us))
    either true g = (h.0, lower u (u + 1) (filter test us) (omega arith) g)
    either false g = lower low (u + 1) (filter test us) (omega (arith, h.0)) g

pub grows : (low : ℕ) (xs : List ℕ) → ((i d : ℕ) → i < length xs → low ≤ get_or xs i d) → IsNonDecreasingBy (λ x. x) xs → Grows low xs
grows low [] least h = tt
grows low (x ∷ xs) least h = (least 0 x (omega arith), grows x xs (λ i d within. h 0 (suc i) d (omega arith) (omega (arith, within))) (λ i j d le within. h (suc i) (suc j) d (omega (arith, le)) (omega (arith, within))))

pub times_moved : (t : ℕ) (xs ys : List ℕ) → IsPermutation xs ys → times t ys ≡ times t xs
times_moved t xs ys h =
    is_count_by (times t) (λ m. t == m) refl (λ x l. refl) ys ∙ sum_by-IsPermutation (λ m. cond (t == m) 1 0) xs ys h
    ∙ sym (is_count_by (times t) (λ m. t == m) refl (λ x l. refl) xs)

-- ---- the stamps of the rows that are expired

pub expired_stamps : (now : ℕ) (at : ℕ → Option Row) (ts : List ℕ) (all : List Expiry) (top : ℕ) (found : List ℕ) → now < 2 ^ 64 → top ≤ 2 ^ 63 → Rises 0 ts top → IsDated at ts all → Grows 0 found → ((t : ℕ) → times t found ≡ times t (stamps_due now all)) → found ≡ filter (expires now at) ts
expired_stamps now at ts all top found least limit rises h grow same =
    sorted_same 0 found (filter (expires now at) ts) grow (grows_kept (expires now at) 0 top ts rises) (λ t. same t ∙ same_times now at ts all top t least limit rises h)

-- what stands beside a stamp
pub kept_stamps : (now : ℕ) (at : ℕ → Option Row) (ts : List ℕ) → map (λ (e : ℕ × Row). e.0) (filter (λ (e : ℕ × Row). is_expired now e.1) (map (entry_of at) ts)) ≡ filter (expires now at) ts
kept_stamps now at [] = refl
kept_stamps now at (t ∷ ts) = by (expires now at t) (kept_stamps now at ts)
  where
    by : (b : Bool) → map (λ (e : ℕ × Row). e.0) (filter (λ (e : ℕ × Row). is_expired now e.1) (map (entry_of at) ts)) ≡ filter (expires now at) ts
        → map (λ (e : ℕ × Row). e.0) (cond b (entry_of at t ∷ filter (λ (e : ℕ × Row). is_expired now e.1) (map (entry_of at) ts)) (filter (λ (e : ℕ × Row). is_expired now e.1) (map (entry_of at) ts))) ≡ cond b (t ∷ filter (expires now at) ts) (filter (expires now at) ts)
    by true rest = ap (λ l. t ∷ l) rest
    by false rest = rest

pub all_kept : (test : ℕ → Bool) (at : ℕ → Option Row) (ts : List ℕ) → ((s : ℕ) → among s ts ≡ true → at s ≡ Some (kept at s)) → AllKept at (filter test ts)
all_kept test at [] h = tt
all_kept test at (t ∷ ts) h = by (test t) (all_kept test at ts (λ s k. h s (or_true (s == t) (among s ts) k)))
  where
    by : (b : Bool) → AllKept at (filter test ts) → AllKept at (cond b (t ∷ filter test ts) (filter test ts))
    by true rest = (h t (own_among t ts), rest)
    by false rest = rest

-- what the expired rows have of one kind
pub fields_kept : {X : Type 0} (f : Row → X) (now : ℕ) (at : ℕ → Option Row) (ts : List ℕ) → map (λ s. f (kept at s)) (filter (expires now at) ts) ≡ map f (filter (is_expired now) (map row_in (map (entry_of at) ts)))
fields_kept f now at [] = refl
fields_kept {X} f now at (t ∷ ts) = by (expires now at t) (fields_kept f now at ts)
  where
    by : (b : Bool) → map (λ s. f (kept at s)) (filter (expires now at) ts) ≡ map f (filter (is_expired now) (map row_in (map (entry_of at) ts)))
        → map (λ s. f (kept at s)) (cond b (t ∷ filter (expires now at) ts) (filter (expires now at) ts)) ≡ map f (cond b (kept at t ∷ filter (is_expired now) (map row_in (map (entry_of at) ts))) (filter (is_expired now) (map row_in (map (entry_of at) ts))))
    by true rest = ap (λ l. f (kept at t) ∷ l) rest
    by false rest = rest

-- ---- the first one is expired, or none is

pub first_is : (now : ℕ) (at : ℕ → Option Row) (ts : List ℕ) (all : List Expiry) (s : ℕ) → IsDated at ts all → Leads now s all → (among s ts ≡ true) × (expires now at s ≡ true)
first_is now at ts [] s h lead = absurd lead
first_is now at ts (e ∷ es) s h lead =
    let fit = h.ordered.fit in
    let told = tells at ts (e ∷ es) h e.moment e.stamp fit.0 fit.1 (own_among (place_of e) (map place_of es)) in
    subst (λ n. (among n ts ≡ true) × (expires now at n ≡ true)) lead.0
    (told.0, ap₂ (λ a b. a && b) told.1 (le-leb (moment_at at e.stamp) now (omega (arith, told.2, lead.1))))

pub none_is : (now : ℕ) (at : ℕ → Option Row) (ts : List ℕ) (all : List Expiry) → now < 2 ^ 64 → IsDated at ts all → NoneDue now all → (s : ℕ) → s < 2 ^ 64 → among s ts ≡ true → expires now at s ≡ false
none_is now at ts all least h none s fits there = bool_either (expires now at s) _ (λ e. absurd (found e)) (λ e. e)
  where
    away : (all : List Expiry) → AreOrdered all → NoneDue now all → moment_at at s ≤ now → among (place (moment_at at s) s) (map place_of all) ≡ true → ⊥
    away [] o none most k = cc
    away (x ∷ xs) o none most k =
        let absent : among (place (moment_at at s) s) (map place_of (x ∷ xs)) ≡ false = low_absent (place (moment_at at s) s) (place_of x) (2 ^ 128) (map place_of (x ∷ xs)) (omega (arith, none, most, fits)) (omega arith, o.rising.1) in
        cc

    found : expires now at s ≡ true → ⊥
    found e =
        let most = leb-true (moment_at at s) now (and_second (class_number (kept at s).class == 2) (nat_le (moment_at at s) now) e) in
        away all h.ordered none most
        (h.exact (moment_at at s) s (omega (arith, most, least)) fits
        ∙ ap₂ (λ a b. a && b) there (ap₂ (λ a b. a && b) (and_first (class_number (kept at s).class == 2) (nat_le (moment_at at s) now) e) (eq-eqb (moment_at at s) (moment_at at s) refl)))

-- where none is, all stay
pub none_go : (now : ℕ) (at : ℕ → Option Row) (ts : List ℕ) → ((s : ℕ) → among s ts ≡ true → expires now at s ≡ false) → filter (λ (e : ℕ × Row). not (is_expired now e.1)) (map (entry_of at) ts) ≡ map (entry_of at) ts
none_go now at [] h = refl
none_go now at (t ∷ ts) h =
    ap (λ b. cond (not b) (entry_of at t ∷ filter (λ (e : ℕ × Row). not (is_expired now e.1)) (map (entry_of at) ts)) (filter (λ (e : ℕ × Row). not (is_expired now e.1)) (map (entry_of at) ts))) (h t (own_among t ts))
    ∙ ap (λ l. entry_of at t ∷ l) (none_go now at ts (λ s k. h s (or_true (s == t) (among s ts) k)))

-- ---- what a list keeps with its expiries

pub dated_longer : (at new : ℕ → Option Row) (row : Row) (s : ℕ) (ts us : List ℕ) (es all : List Expiry) → IsGained row s es all → Rises 0 ts s → IsDated at ts es → ((t : ℕ) → new t ≡ cond (nat_eq s t) (Some row) (at t)) → us ≡ ts ++ s ∷ [] → IsDated new us all
dated_longer at new row s ts us es all gained rises h put is =
    subst (λ l. IsDated new l all) (sym is)
    (gained at new ts h
    (bool_either (among s ts) _ (λ k. let below = below_top s 0 s ts rises k in absurd (omega (arith, below))) (λ k. k))
    (put s ∙ ap (λ b. cond b (Some row) (at s)) (eq-eqb s s refl))
    (λ t apart. put t ∙ ap (λ b. cond b (Some row) (at t)) apart))

pub dated_left : (at new : ℕ → Option Row) (row : Row) (s : ℕ) (ts us : List ℕ) (es all : List Expiry) → IsLost row s es all → IsDated at ts es → among s ts ≡ true → at s ≡ Some row → ((t : ℕ) → new t ≡ cond (nat_eq s t) None (at t)) → us ≡ without s ts → IsDated new us all
dated_left at new row s ts us es all lost h there here gone is =
    subst (λ l. IsDated new l all) (sym is)
    (lost at new ts h there here (λ t apart. gone t ∙ ap (λ b. cond b None (at t)) apart))

-- each of several stamps has a row
pub kept_at : (at : ℕ → Option Row) (ss : List ℕ) (i d : ℕ) → AllKept at ss → i < length ss → at (get_or ss i d) ≡ Some (kept at (get_or ss i d))
kept_at at [] i d h within = absurd (omega (arith, within))
kept_at at (s ∷ ss) zero d h within = h.0
kept_at at (s ∷ ss) (suc i) d h within = kept_at at ss i d h.1 (omega (arith, within))

-- the list of parts that are the same
pub still_timed : (old new : Stamped) (ts us : List ℕ) (es all : List Expiry) (ls ks : List ℕ) (next : ℕ) → IsSame old new → us ≡ ts → all ≡ es → ks ≡ ls → IsTimed (stamp_of old) (row_of old) ts es ls next → IsTimed (stamp_of new) (row_of new) us all ks next
still_timed old new ts us es all ls ks next same g d k h =
    subst (λ l. IsTimed (stamp_of new) (row_of new) us all l next) (sym k)
    (subst (λ l. IsTimed (stamp_of new) (row_of new) us l ls next) (sym d)
    (subst (λ l. IsTimed (stamp_of new) (row_of new) l es ls next) (sym g)
    (subst (λ l. IsTimed (stamp_at l) (row_under l new.places) ts es ls next) (sym same.0)
    (subst (λ l. IsTimed (stamp_at old.rows) (row_under old.rows l) ts es ls next) (sym same.1) h))))

-- the row that is expired first
pub first_row : (names : Class → List ℕ → Option ℕ) (at : ℕ → Option Row) (ts : List ℕ) (es : List Expiry) (ls : List ℕ) (next now s : ℕ) (row : Row) → IsTimed names at ts es ls next → Leads now s es → Some row ≡ at s → (is_expired now row ≡ true) × (row_at (map row_in (map (entry_of at) ts)) row.class row.key ≡ Some row)
first_row names at ts es ls next now s row h lead found =
    let first = first_is now at ts es s h.dated lead in
    let its : kept at s ≡ row = row_kept at s row (sym found) in
    subst (λ r. (is_expired now r ≡ true) × (row_at (map row_in (map (entry_of at) ts)) r.class r.key ≡ Some r)) its
    (first.1, sym (found_row names at ts next h.listing (kept at s).class (kept at s).key s (h.listing.stands s first.0).1) ∙ (h.listing.stands s first.0).0)

-- it is there
pub first_there : (names : Class → List ℕ → Option ℕ) (at : ℕ → Option Row) (ts : List ℕ) (es : List Expiry) (ls : List ℕ) (next now s : ℕ) (P : Type 0) → IsTimed names at ts es ls next → Leads now s es → None ≡ at s → P
first_there names at ts es ls next now s P h lead none = let stands = (h.listing.stands s (first_is now at ts es s h.dated lead).0).0 in cc

-- where none is expired, all stay
pub none_first_row : (names : Class → List ℕ → Option ℕ) (at : ℕ → Option Row) (ts : List ℕ) (es : List Expiry) (ls : List ℕ) (next now : ℕ) → now < 2 ^ 64 → IsTimed names at ts es ls next → NoneDue now es → filter (λ (e : ℕ × Row). not (is_expired now e.1)) (map (entry_of at) ts) ≡ map (entry_of at) ts
none_first_row names at ts es ls next now least h none = none_go now at ts (λ s k. let below = below_top s 0 next ts h.listing.rising k in none_is now at ts es least h.dated none s (omega (arith, below, h.listing.limit)) k)
