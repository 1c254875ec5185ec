-- A window is the longest front of what is not heard yet that has at most four stretches.
use Rattle.std.proofs.Common.{◌≡◌, ℕ, zero, suc, ◌+◌, ◌<◌, ◌≤◌, ◌⊎◌, inl, inr, Bool, true, false, ◌&&◌, not, cond, ◌==◌, List, [], ◌∷◌, length, take, drop, refl, sym, ◌∙◌, ap, subst, arith}
use Rattle.std.proofs.lemmas.List.{length-take}
use Rattle.voice_units.specs.Spots.{Spot, comes_before, lone, longer, in_front, runs, samples_in, stretches, begins_block, window}
use Rattle.voice_units.specs.declared.pieces.Piece.{Piece}

take_none : {A : Type 0} (k : ℕ) → ◌≡◌ {A = List A} (take k []) []
take_none zero = refl
take_none (suc k) = refl

module _ (cut : ℕ → Bool) where
  -- whether a sample and a run behind it are one run
  abbrev joined : Spot → Piece → Bool
  joined s p = comes_before s p && not (cut p.from)

  -- the sample is a run of its own
  abbrev IsApart : Spot → List Piece → Type 0
  IsApart s [] = Unit {0}
  IsApart s (p ∷ ps) = joined s p ≡ false

  -- the first k + 1 runs, with one more sample in front, are made of the first j runs
  record Front (s : Spot) (rs : List Piece) (k : ℕ) : Type 0 where
    j : ℕ
    which : (j ≡ suc k) ⊎ ((j ≡ k) × IsApart s rs)
    samples : samples_in (take (suc k) (in_front cut s rs)) ≡ suc (samples_in (take j rs))
    same : take (suc k) (in_front cut s rs) ≡ in_front cut s (take j rs)

  front_apart : (s : Spot) (p : Piece) (ps : List Piece) (k : ℕ) → joined s p ≡ false → lone s ∷ take k (p ∷ ps) ≡ in_front cut s (take k (p ∷ ps))
  front_apart s p ps zero e = refl
  front_apart s p ps (suc k) e = sym (ap (λ b. cond b (longer s p ∷ take k ps) (lone s ∷ p ∷ take k ps)) e)

  front_by : (s : Spot) (p : Piece) (ps : List Piece) (k : ℕ) (b : Bool) → joined s p ≡ b → Front s (p ∷ ps) k
  front_by s p ps k true e = record {
    j = suc k;
    which = inl refl;
    samples = ap (λ c. samples_in (take (suc k) (cond c (longer s p ∷ ps) (lone s ∷ p ∷ ps)))) e ∙ omega arith;
    same = ap (λ c. take (suc k) (cond c (longer s p ∷ ps) (lone s ∷ p ∷ ps))) e ∙ sym (ap (λ c. cond c (longer s p ∷ take k ps) (lone s ∷ p ∷ take k ps)) e);
  }
  front_by s p ps k false e = record {
    j = k;
    which = inr (refl, e);
    samples = ap (λ c. samples_in (take (suc k) (cond c (longer s p ∷ ps) (lone s ∷ p ∷ ps)))) e ∙ omega arith;
    same = ap (λ c. take (suc k) (cond c (longer s p ∷ ps) (lone s ∷ p ∷ ps))) e ∙ front_apart s p ps k e;
  }

  front : (s : Spot) (rs : List Piece) (k : ℕ) → Front s rs k
  front s [] zero = record { j = 0; which = inr (refl, tt); samples = refl; same = refl }
  front s [] (suc k) = record { j = suc k; which = inr (refl, tt); samples = refl; same = refl }
  front s (p ∷ ps) k = front_by s p ps k (joined s p) refl

  -- the samples of the first k runs have these runs
  pub runs-front : (ss : List Spot) (k : ℕ) → runs cut (take (samples_in (take k (runs cut ss))) ss) ≡ take k (runs cut ss)
  runs-front ss zero = refl
  runs-front [] (suc k) = refl
  runs-front (s ∷ ss) (suc k) =
      let f = front s (runs cut ss) k in
      ap (λ n. runs cut (take n (s ∷ ss))) f.samples ∙ ap (in_front cut s) (runs-front ss f.j) ∙ sym f.same

  -- whether a run that begins at t is joined, which its first sample tells
  abbrev first_test : Spot → Spot → Bool
  first_test s t = ((s.file == t.file) && (s.place + 1 == t.place)) && not (cut t.place)

  told : (s t : Spot) (q : Piece) (qs : List Piece) (b : Bool) → IsApart s (cond b (longer t q ∷ qs) (lone t ∷ q ∷ qs)) → first_test s t ≡ false
  told s t q qs true h = h
  told s t q qs false h = h

  told_back : (s t : Spot) (q : Piece) (qs : List Piece) (b : Bool) → first_test s t ≡ false → IsApart s (cond b (longer t q ∷ qs) (lone t ∷ q ∷ qs))
  told_back s t q qs true h = h
  told_back s t q qs false h = h

  apart_told : (s t : Spot) (rs : List Piece) → IsApart s (in_front cut t rs) → first_test s t ≡ false
  apart_told s t [] h = h
  apart_told s t (q ∷ qs) h = told s t q qs (joined t q) h

  apart_by : (s t : Spot) (rs : List Piece) → first_test s t ≡ false → IsApart s (in_front cut t rs)
  apart_by s t [] h = h
  apart_by s t (q ∷ qs) h = told_back s t q qs (joined t q) h

  apart_again : (s : Spot) (ss : List Spot) (m : ℕ) → 0 < m → IsApart s (runs cut ss) → IsApart s (runs cut (take m ss))
  apart_again s ss zero some h = absurd (omega arith)
  apart_again s [] (suc m) some h = tt
  apart_again s (t ∷ ts) (suc m) some h = apart_by s t (runs cut (take m ts)) (apart_told s t (runs cut ts) h)

  one_more : (s : Spot) (rs : List Piece) → IsApart s rs → length (in_front cut s rs) ≡ suc (length rs)
  one_more s [] h = refl
  one_more s (p ∷ ps) h = ap (λ b. length (cond b (longer s p ∷ ps) (lone s ∷ p ∷ ps))) h

  no_less_by : (s : Spot) (p : Piece) (ps : List Piece) (b : Bool) → suc (length ps) ≤ length (cond b (longer s p ∷ ps) (lone s ∷ p ∷ ps))
  no_less_by s p ps true = omega arith
  no_less_by s p ps false = omega arith

  no_less : (s : Spot) (rs : List Piece) → length rs ≤ length (in_front cut s rs)
  no_less s [] = omega arith
  no_less s (p ∷ ps) = no_less_by s p ps (joined s p)

  some_run : (s : Spot) (rs : List Piece) → 0 < length (in_front cut s rs)
  some_run s [] = omega arith
  some_run s (p ∷ ps) = let more = no_less s (p ∷ ps) in omega arith

  beyond_by : (s : Spot) (rs xs : List Piece) (j k : ℕ) → ((j ≡ suc k) ⊎ ((j ≡ k) × IsApart s rs)) → (IsApart s rs → IsApart s xs) → j < length xs → suc k < length (in_front cut s xs)
  beyond_by s rs xs j k (inl e) again h = let more = no_less s xs in omega arith
  beyond_by s rs xs j k (inr e) again h = let more = one_more s xs (again e.1) in omega (arith, e.0)

  -- more samples than those of the first k runs have more runs
  pub runs-beyond : (ss : List Spot) (k n : ℕ) → samples_in (take k (runs cut ss)) < n → n ≤ length ss → k < length (runs cut (take n ss))
  runs-beyond [] k n h within = absurd (omega arith)
  runs-beyond (s ∷ ss) k zero h within = absurd (omega arith)
  runs-beyond (s ∷ ss) zero (suc m) h within = some_run s (runs cut (take m ss))
  runs-beyond (s ∷ ss) (suc k) (suc m) h within =
      let f = front s (runs cut ss) k in
      let fewer : samples_in (take f.j (runs cut ss)) < m = omega (arith, f.samples) in
      let some : 0 < m = omega arith in
      beyond_by s (runs cut ss) (runs cut (take m ss)) f.j k f.which (apart_again s ss m some) (runs-beyond ss f.j m fewer (omega arith))

-- the window has at most four stretches, and no longer front of the rest has
pub window_stretches : (block : ℕ) (ss : List Spot) (heard : ℕ) → length (stretches block (take (window block ss heard) (drop heard ss))) ≤ 4
window_stretches block ss heard =
    subst (λ (l : List Piece). length l ≤ 4) (sym (runs-front (begins_block block) (drop heard ss) 4)) (let most : length (take 4 (stretches block (drop heard ss))) ≤ 4 = omega (arith, length-take 4 (stretches block (drop heard ss))) in most)

pub window_longest : (block : ℕ) (ss : List Spot) (heard n : ℕ) → window block ss heard < n → n ≤ length (drop heard ss) → 4 < length (stretches block (take n (drop heard ss)))
window_longest block ss heard n h within = runs-beyond (begins_block block) (drop heard ss) 4 n h within
