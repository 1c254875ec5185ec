-- The stamps of the rows of class Listed.
use Rattle.std.proofs.Common.{◌≡◌, ℕ, ◌+◌, List, [], ◌∷◌, ◌++◌, map, take, filter, not, ap, ◌∙◌, sym, refl, subst, cond, Bool, true, false, ◌==◌, ◌&&◌, Option, Some, None, eq-eqb, arith}
use Rattle.std.proofs.lemmas.Bool.{eqb-true}
use Rattle.std.specs.Prelude.{nat_eq, bytes_eq}
use Rattle.std.specs.List.{list_any}
use Rattle.voice_model.specs.Changes.{is_unlisted, unlisted_keys}
use Rattle.voice_model.specs.declared.calls.Row.{Row}
use Rattle.interest_table.specs.Inside.{kept, entry_of, row_in, among, without, Rises, AllKept, is_listed, listed_of, IsDelisted}
use Rattle.interest_table.proofs.Listed.{or_true, own_among, absent_stay, below_top, below_apart, rises_lower}
use Rattle.interest_table.proofs.Due.{row_kept, same_kept, and_false, all_kept}
use Rattle.interest_table.proofs.Keys.{rows_kept_all}

-- ---- stamps that pass a test

rises_kept : (test : ℕ → Bool) (low top : ℕ) (us : List ℕ) → Rises low us top → Rises low (filter test us) top
rises_kept test low top [] h = h
rises_kept test low top (u ∷ us) h = by (test u) (rises_kept test (u + 1) top us h.1)
  where
    by : (b : Bool) → Rises (u + 1) (filter test us) top → Rises low (cond b (u ∷ filter test us) (filter test us)) top
    by true g = (h.0, g)
    by false g = rises_lower low (u + 1) top (filter test us) (omega (arith, h.0)) g

among_kept : (test : ℕ → Bool) (s : ℕ) (us : List ℕ) → among s (filter test us) ≡ (among s us && test s)
among_kept test s [] = refl
among_kept test s (u ∷ us) = by (s == u) refl (test u) refl (among_kept test s us)
  where
    by : (b : Bool) → (s == u) ≡ b → (c : Bool) → test u ≡ c → among s (filter test us) ≡ (among s us && test s) → among s (cond c (u ∷ filter test us) (filter test us)) ≡ (cond b true (among s us) && test s)
    by true e true f rest = let same : s ≡ u = eqb-true s u e in ap (λ b. cond b true (among s (filter test us))) e ∙ sym (ap test same ∙ f)
    by true e false f rest = let same : s ≡ u = eqb-true s u e in let fails : test s ≡ false = ap test same ∙ f in rest ∙ and_false (among s us) (test s) fails ∙ sym fails
    by false e true f rest = ap (λ b. cond b true (among s (filter test us))) e ∙ rest
    by false e false f rest = rest

-- ---- a row comes

listed_push : (at new : ℕ → Option Row) (row : Row) (s : ℕ) (ts : List ℕ) → kept new s ≡ row → ((t : ℕ) → among t ts ≡ true → kept new t ≡ kept at t) → listed_of new (ts ++ s ∷ []) ≡ cond (is_listed row) (listed_of at ts ++ s ∷ []) (listed_of at ts)
listed_push at new row s [] here same = ap (λ r. cond (is_listed r) (s ∷ []) []) here
listed_push at new row s (t ∷ ts) here same =
    ap (λ r. cond (is_listed r) (t ∷ listed_of new (ts ++ s ∷ [])) (listed_of new (ts ++ s ∷ []))) (same t (own_among t ts))
    ∙ ap (λ l. cond (is_listed (kept at t)) (t ∷ l) l) (listed_push at new row s ts here (λ u k. same u (or_true (u == t) (among u ts) k)))
    ∙ by (is_listed (kept at t)) (is_listed row) (listed_of at ts)
  where
    by : (b c : Bool) (l : List ℕ) → cond b (t ∷ cond c (l ++ s ∷ []) l) (cond c (l ++ s ∷ []) l) ≡ cond c (cond b (t ∷ l) l ++ s ∷ []) (cond b (t ∷ l) l)
    by true true l = refl
    by true false l = refl
    by false true l = refl
    by false false l = refl

pub listed_longer : (at new : ℕ → Option Row) (row : Row) (s : ℕ) (ts us ls ks : List ℕ) → Rises 0 ts s → ls ≡ listed_of at ts → ((t : ℕ) → new t ≡ cond (nat_eq s t) (Some row) (at t)) → us ≡ ts ++ s ∷ [] → ks ≡ cond (is_listed row) (ls ++ s ∷ []) ls → ks ≡ listed_of new us
listed_longer at new row s ts us ls ks rises h put is gained =
    let here : new s ≡ Some row = put s ∙ ap (λ b. cond b (Some row) (at s)) (eq-eqb s s refl) in
    let stay : (t : ℕ) → (s == t) ≡ false → new t ≡ at t = λ t apart. put t ∙ ap (λ b. cond b (Some row) (at t)) apart in
    gained ∙ ap (λ l. cond (is_listed row) (l ++ s ∷ []) l) h
    ∙ sym (listed_push at new row s ts (row_kept new s row here) (λ t k. same_kept at new s t stay (below_apart s t (below_top t 0 s ts rises k))))
    ∙ sym (ap (listed_of new) is)

-- ---- a row goes

-- where it is of another class, the stamps stay
pub other_delisted : (row : Row) (s : ℕ) (ls : List ℕ) → is_listed row ≡ false → IsDelisted row s ls ls
other_delisted row s ls other top rises e = sym (absent_stay s ls (e ∙ other))

listed_without : (at new : ℕ → Option Row) (s : ℕ) (ts : List ℕ) → ((t : ℕ) → (s == t) ≡ false → kept new t ≡ kept at t) → without s (listed_of at ts) ≡ listed_of new (without s ts)
listed_without at new s [] same = refl
listed_without at new s (u ∷ us) same = by (s == u) refl (is_listed (kept at u)) refl (listed_without at new s us same)
  where
    by : (b : Bool) → (s == u) ≡ b → (c : Bool) → is_listed (kept at u) ≡ c → without s (listed_of at us) ≡ listed_of new (without s us) → without s (cond c (u ∷ listed_of at us) (listed_of at us)) ≡ listed_of new (cond b (without s us) (u ∷ without s us))
    by true e true f rest = ap (λ b. cond b (without s (listed_of at us)) (u ∷ without s (listed_of at us))) e ∙ rest
    by true e false f rest = rest
    by false e true f rest =
        ap (λ b. cond b (without s (listed_of at us)) (u ∷ without s (listed_of at us))) e ∙ ap (λ l. u ∷ l) rest
        ∙ ap (λ b. cond b (u ∷ listed_of new (without s us)) (listed_of new (without s us))) (sym (ap is_listed (same u e) ∙ f))
    by false e false f rest = rest ∙ ap (λ b. cond b (u ∷ listed_of new (without s us)) (listed_of new (without s us))) (sym (ap is_listed (same u e) ∙ f))

pub listed_left : (at new : ℕ → Option Row) (row : Row) (s next : ℕ) (ts us ls ks : List ℕ) → IsDelisted row s ls ks → Rises 0 ts next → ls ≡ listed_of at ts → among s ts ≡ true → at s ≡ Some row → ((t : ℕ) → new t ≡ cond (nat_eq s t) None (at t)) → us ≡ without s ts → ks ≡ listed_of new us
listed_left at new row s next ts us ls ks lost rises h there here gone is =
    let test : ℕ → Bool = λ t. is_listed (kept at t) in
    lost next (subst (λ l. Rises 0 l next) (sym h) (rises_kept test 0 next ts rises))
    (ap (among s) h ∙ among_kept test s ts ∙ ap (λ b. b && is_listed (kept at s)) there ∙ ap is_listed (row_kept at s row here))
    ∙ ap (without s) h
    ∙ listed_without at new s ts (λ t apart. same_kept at new s t (λ t apart. gone t ∙ ap (λ b. cond b None (at t)) apart) apart)
    ∙ sym (ap (listed_of new) is)

-- ---- a census

-- each of them has a row
pub listed_kept : (at : ℕ → Option Row) (ts ls : List ℕ) → ls ≡ listed_of at ts → ((s : ℕ) → among s ts ≡ true → at s ≡ Some (kept at s)) → AllKept at ls
listed_kept at ts ls h all = subst (AllKept at) (sym h) (all_kept (λ s. is_listed (kept at s)) at ts all)

-- a census drops no row of another class
unlisted_alone : (named : List (List ℕ)) (at : ℕ → Option Row) (ts : List ℕ) → filter (is_unlisted named) (map (kept at) (listed_of at ts)) ≡ filter (is_unlisted named) (map (kept at) ts)
unlisted_alone named at [] = refl
unlisted_alone named at (t ∷ ts) = by (is_listed (kept at t)) refl (unlisted_alone named at ts)
  where
    by : (b : Bool) → is_listed (kept at t) ≡ b → filter (is_unlisted named) (map (kept at) (listed_of at ts)) ≡ filter (is_unlisted named) (map (kept at) ts)
        → filter (is_unlisted named) (map (kept at) (cond b (t ∷ listed_of at ts) (listed_of at ts))) ≡ cond (is_unlisted named (kept at t)) (kept at t ∷ filter (is_unlisted named) (map (kept at) ts)) (filter (is_unlisted named) (map (kept at) ts))
    by true e rest = ap (λ l. cond (is_unlisted named (kept at t)) (kept at t ∷ l) l) rest
    by false e rest = rest ∙ ap (λ b. cond b (kept at t ∷ filter (is_unlisted named) (map (kept at) ts)) (filter (is_unlisted named) (map (kept at) ts))) (sym (ap (λ b. b && not_named) e))
      where
        not_named : Bool
        not_named = not (list_any (bytes_eq (kept at t).key) named)

pub listed_alone : (named : List (List ℕ)) (at : ℕ → Option Row) (ts ls : List ℕ) → ls ≡ listed_of at ts → unlisted_keys (map (kept at) ls) named ≡ unlisted_keys (map row_in (map (entry_of at) ts)) named
listed_alone named at ts ls h =
    ap (λ l. unlisted_keys (map (kept at) l) named) h
    ∙ ap (λ (l : List Row). map (λ row. row.key) (take 65535 l)) (unlisted_alone named at ts)
    ∙ ap (λ l. unlisted_keys l named) (sym (rows_kept_all at ts))
