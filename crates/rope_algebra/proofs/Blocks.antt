-- The stretches of runs of places.
use Rattle.std.proofs.Common.{◌≡◌, ℕ, zero, suc, ◌+◌, ◌-◌, ◌*◌, ◌/◌, ◌%◌, ◌<◌, ◌≤◌, Bool, true, false, ◌&&◌, not, cond, ◌==◌, min, List, [], ◌∷◌, ◌++◌, refl, sym, ◌∙◌, ap, ap₂, subst, arith, eq-eqb, add-zero}
use Rattle.std.proofs.lemmas.Bool.{ne_eqb}
use Rattle.std.proofs.lemmas.Nat.{mod-mul-add}
use Rattle.std.proofs.Math.Nat.{mod-add-div', add-mul-mod_self_right, mod_self, mod-lt}
use Rattle.voice_units.specs.declared.pieces.Piece.{Piece}
use Rattle.voice_units.specs.Spots.{Spot, spots_from, comes_before, lone, longer, in_front, runs, begins_block, stretches}
use Rattle.voice_units.proofs.PiecesOfRopes.{spots_from-add}

-- ---- runs of two lists, of which the second does not go on where the first one ends

module _ (cut : ℕ → Bool) where
  -- a place does not come before the first run
  abbrev pub IsApart : Spot → List Piece → Type 0
  IsApart s [] = Unit {0}
  IsApart s (p ∷ ps) = (comes_before s p && not (cut p.from)) ≡ false

  -- the last place does not come before the first run
  abbrev pub IsLastApart : List Spot → List Piece → Type 0
  IsLastApart [] rs = Unit {0}
  IsLastApart (s ∷ []) rs = IsApart s rs
  IsLastApart (s ∷ t ∷ ss) rs = IsLastApart (t ∷ ss) rs

  pub apart_in_front : (s : Spot) (rs : List Piece) → IsApart s rs → in_front cut s rs ≡ lone s ∷ rs
  apart_in_front s [] h = refl
  apart_in_front s (p ∷ ps) h = ap (λ b. cond b (longer s p ∷ ps) (lone s ∷ p ∷ ps)) h

  more_behind : (s : Spot) (p : Piece) (ps rs : List Piece) (b : Bool) → cond b (longer s p ∷ ps ++ rs) (lone s ∷ p ∷ ps ++ rs) ≡ cond b (longer s p ∷ ps) (lone s ∷ p ∷ ps) ++ rs
  more_behind s p ps rs true = refl
  more_behind s p ps rs false = refl

  in_front-append : (s t : Spot) (qs rs : List Piece) → in_front cut s (in_front cut t qs ++ rs) ≡ in_front cut s (in_front cut t qs) ++ rs
  in_front-append s t [] rs = more_behind s (lone t) [] rs (comes_before s (lone t) && not (cut (lone t).from))
  in_front-append s t (q ∷ qs) rs = either (comes_before t q && not (cut q.from))
    where
      either : (b : Bool) → in_front cut s (cond b (longer t q ∷ qs) (lone t ∷ q ∷ qs) ++ rs) ≡ in_front cut s (cond b (longer t q ∷ qs) (lone t ∷ q ∷ qs)) ++ rs
      either true = more_behind s (longer t q) qs rs (comes_before s (longer t q) && not (cut (longer t q).from))
      either false = more_behind s (lone t) (q ∷ qs) rs (comes_before s (lone t) && not (cut (lone t).from))

  pub runs-append : (ss ts : List Spot) → IsLastApart ss (runs cut ts) → runs cut (ss ++ ts) ≡ runs cut ss ++ runs cut ts
  runs-append [] ts h = refl
  runs-append (s ∷ []) ts h = apart_in_front s (runs cut ts) h
  runs-append (s ∷ t ∷ ss) ts h = ap (in_front cut s) (runs-append (t ∷ ss) ts h) ∙ in_front-append s t (runs cut ss) (runs cut ts)

  -- whether a run goes on at a place is told by its first place
  pub first_apart : (s t : Spot) (rs : List Piece) → ((s.file == t.file) && (s.place + 1 == t.place) && not (cut t.place)) ≡ false → IsApart s (in_front cut t rs)
  first_apart s t [] h = h
  first_apart s t (q ∷ qs) h = either (comes_before t q && not (cut q.from))
    where
      either : (b : Bool) → IsApart s (cond b (longer t q ∷ qs) (lone t ∷ q ∷ qs))
      either true = h
      either false = h

  -- the last place of a run
  pub last_of_run : (file from m : ℕ) (rs : List Piece) → IsApart (record { file = file; place = from + m }) rs → IsLastApart (spots_from file from (suc m)) rs
  last_of_run file from zero rs h = subst (λ place. IsApart (record { file = file; place = place }) rs) (add-zero from) h
  last_of_run file from (suc m) rs h = last_of_run file (from + 1) m rs (subst (λ place. IsApart (record { file = file; place = place }) rs) (let e : from + suc m ≡ from + 1 + m = omega arith in e) h)

  goes_on : (file from n : ℕ) → cut (from + 1) ≡ false → in_front cut (record { file = file; place = from }) (record { file = file; from = from + 1; len = suc n } ∷ []) ≡ record { file = file; from = from; len = suc (suc n) } ∷ []
  goes_on file from n free =
      let one : Spot = record { file = file; place = from } in
      let run : Piece = record { file = file; from = from + 1; len = suc n } in
      ap (λ c. cond ((c && (from + 1 == from + 1)) && not (cut (from + 1))) (longer one run ∷ []) (lone one ∷ run ∷ [])) (eq-eqb file file refl)
      ∙ ap (λ c. cond ((true && c) && not (cut (from + 1))) (longer one run ∷ []) (lone one ∷ run ∷ [])) (eq-eqb (from + 1) (from + 1) refl)
      ∙ ap (λ c. cond ((true && true) && not c) (longer one run ∷ []) (lone one ∷ run ∷ [])) free

  -- a run that is cut nowhere inside
  one_run : (file from m : ℕ) → ((k : ℕ) → from < k → k ≤ from + m → cut k ≡ false) → runs cut (spots_from file from (suc m)) ≡ record { file = file; from = from; len = suc m } ∷ []
  one_run file from zero free = refl
  one_run file from (suc m) free =
      ap (in_front cut (record { file = file; place = from })) (one_run file (from + 1) m (λ k above within. free k (omega arith) (omega arith))) ∙ goes_on file from m (free (from + 1) (omega arith) (omega arith))

  -- a run goes on behind a cut, or ends
  behind_cut : (file from m n : ℕ) → ((n ≡ 0 → ⊥) → cut (from + suc m) ≡ true) → IsApart (record { file = file; place = from + m }) (runs cut (spots_from file (from + suc m) n))
  behind_cut file from m zero h = tt
  behind_cut file from m (suc n) h =
      first_apart (record { file = file; place = from + m }) (record { file = file; place = from + suc m }) (runs cut (spots_from file (from + suc m + 1) n))
      (ap (λ b. (file == file) && (from + m + 1 == from + suc m) && not b) (h (λ e. cc)) ∙ never ((file == file) && (from + m + 1 == from + suc m)))
    where
      never : (b : Bool) → (b && false) ≡ false
      never true = refl
      never false = refl

  -- the first run, and those behind it
  pub first_run : (file from m n : ℕ) → ((k : ℕ) → from < k → k ≤ from + m → cut k ≡ false) → ((n ≡ 0 → ⊥) → cut (from + suc m) ≡ true) → runs cut (spots_from file from (suc m + n)) ≡ record { file = file; from = from; len = suc m } ∷ runs cut (spots_from file (from + suc m) n)
  first_run file from m n free ends =
      ap (runs cut) (spots_from-add file from (suc m) n)
      ∙ runs-append (spots_from file from (suc m)) (spots_from file (from + suc m) n) (last_of_run file from m _ (behind_cut file from m n ends))
      ∙ ap (λ rs. rs ++ runs cut (spots_from file (from + suc m) n)) (one_run file from m free)

-- ---- blocks

whole_blocks : (b f q r : ℕ) → f % b ≡ r → f / b * b ≡ q → r + q ≡ f
whole_blocks b f q r er eq = ap₂ (λ x y. x + y) (sym er) (sym eq) ∙ mod-add-div' f b

-- a place inside the block of an earlier one
in_block : (b f j : ℕ) → f % b + j < b → (f + j) % b ≡ f % b + j
in_block b f j h =
    ap (λ n. n % b) (let sum = whole_blocks b f (f / b * b) (f % b) refl refl in let e : f + j ≡ f / b * b + (f % b + j) = further f (f % b) (f / b * b) j sum in e) ∙ mod-mul-add (f / b) b (f % b + j) h
  where
    further : (f r q j : ℕ) → r + q ≡ f → f + j ≡ q + (r + j)
    further f r q j h = omega arith

-- the place where the next block begins
next_block : (b f j : ℕ) → f % b + j ≡ b → (f + j) % b ≡ 0
next_block b f j h =
    ap (λ n. n % b) (let sum = whole_blocks b f (f / b * b) (f % b) refl refl in let e : f + j ≡ b + f / b * b = further f (f % b) (f / b * b) j sum h in e) ∙ add-mul-mod_self_right b (f / b) b ∙ mod_self b
  where
    further : (f r q j : ℕ) → r + q ≡ f → r + j ≡ b → f + j ≡ b + q
    further f r q j h k = omega arith

not_begun : (b f k : ℕ) → f < k → f % b + (k - f) < b → begins_block b k ≡ false
not_begun b f k above within =
    ne_eqb (k % b) 0 (λ e. let at : k % b ≡ f % b + (k - f) = ap (λ n. n % b) (let same : k ≡ f + (k - f) = omega arith in same) ∙ in_block b f (k - f) within in omega (arith, at, e))

-- the first stretch of a run, and those behind it
pub first_stretch : (block file from n m : ℕ) → 0 < block → m ≡ min (block - from % block) (suc n) → stretches block (spots_from file from (suc n)) ≡ record { file = file; from = from; len = m } ∷ stretches block (spots_from file (from + m) (suc n - m))
first_stretch block file from n zero some e = let r = mod-lt from some in absurd (omega (arith, r, e))
first_stretch block file from n (suc m) some e =
    let r = mod-lt from some in
    let within : from % block + m < block = omega (arith, r, e) in
    let parts : suc n ≡ suc m + (suc n - suc m) = omega (arith, e) in
    ap (λ k. stretches block (spots_from file from k)) parts
    ∙ first_run (begins_block block) file from m (suc n - suc m)
    (λ k above below. not_begun block from k above (omega (arith, within, above, below)))
    (λ more. eq-eqb ((from + suc m) % block) 0 (next_block block from (suc m) (omega (arith, r, e, more))))
