-- How many runs a part of a rope has, and how many samples a window takes.
use Rattle.std.proofs.Common.{◌≡◌, ℕ, zero, suc, ◌+◌, ◌≤◌, Bool, true, false, ◌&&◌, not, cond, ◌==◌, List, [], ◌∷◌, ◌++◌, length, take, drop, refl, sym, ◌∙◌, ap, subst, arith}
use Rattle.std.proofs.lemmas.List.{length-drop}
use Rattle.voice_units.specs.Spots.{Spot, spots_from, comes_before, lone, longer, in_front, runs, pieces_of, stretches, begins_block, samples_in, window}
use Rattle.voice_units.proofs.PiecesOfRopes.{same_pieces}
use Rattle.voice_units.specs.declared.pieces.Piece.{Piece}

-- ---- a run in front

one_more : (b : Bool) (x y p : Piece) (ps : List Piece) → suc (length ps) ≤ length (cond b (x ∷ ps) (y ∷ p ∷ ps))
one_more true x y p ps = omega arith
one_more false x y p ps = omega arith

more_in_front : (cut : ℕ → Bool) (s : Spot) (ps : List Piece) → length ps ≤ length (in_front cut s ps)
more_in_front cut s [] = omega arith
more_in_front cut s (p ∷ ps) = one_more (comes_before s p && not (cut p.from)) (longer s p) (lone s) p ps

-- a part that begins later has no more runs
pub fewer_dropped : (cut : ℕ → Bool) (n : ℕ) (ss : List Spot) → length (runs cut (drop n ss)) ≤ length (runs cut ss)
fewer_dropped cut zero ss = omega arith
fewer_dropped cut (suc n) [] = omega arith
fewer_dropped cut (suc n) (s ∷ ss) =
    let first = fewer_dropped cut n ss in
    let second = more_in_front cut s (runs cut ss) in
    omega (arith, first, second)

-- ---- where the first run begins

record Begins (s : Spot) (ps : List Piece) : Type 0 where
  first : Piece
  rest : List Piece
  whole : ps ≡ first ∷ rest
  file : first.file ≡ s.file
  from : first.from ≡ s.place

begins_either : (b : Bool) (s : Spot) (p : Piece) (ps : List Piece) → Begins s (cond b (longer s p ∷ ps) (lone s ∷ p ∷ ps))
begins_either true s p ps = record { first = longer s p; rest = ps; whole = refl; file = refl; from = refl }
begins_either false s p ps = record { first = lone s; rest = p ∷ ps; whole = refl; file = refl; from = refl }

begins_in_front : (cut : ℕ → Bool) (s : Spot) (ps : List Piece) → Begins s (in_front cut s ps)
begins_in_front cut s [] = record { first = lone s; rest = []; whole = refl; file = refl; from = refl }
begins_in_front cut s (p ∷ ps) = begins_either (comes_before s p && not (cut p.from)) s p ps

abbrev is_joined : (ℕ → Bool) → Spot → Spot → Bool
is_joined cut x s = (x.file == s.file) && (x.place + 1 == s.place) && not (cut s.place)

count_either : (b : Bool) (x y p : Piece) (ps : List Piece) → length (cond b (x ∷ ps) (y ∷ p ∷ ps)) ≡ cond b 0 1 + suc (length ps)
count_either true x y p ps = omega arith
count_either false x y p ps = omega arith

same_join : (cut : ℕ → Bool) (x s : Spot) (p : Piece) → p.file ≡ s.file → p.from ≡ s.place → (comes_before x p && not (cut p.from)) ≡ is_joined cut x s
same_join cut x s p e f = ap (λ file. (x.file == file) && (x.place + 1 == p.from) && not (cut p.from)) e ∙ ap (λ from. (x.file == s.file) && (x.place + 1 == from) && not (cut from)) f

count_in_front : (cut : ℕ → Bool) (x s : Spot) (ps : List Piece) → Begins s ps → length (in_front cut x ps) ≡ cond (is_joined cut x s) 0 1 + length ps
count_in_front cut x s ps b =
    ap (λ l. length (in_front cut x l)) b.whole
    ∙ count_either (comes_before x b.first && not (cut b.first.from)) (longer x b.first) (lone x) b.first b.rest
    ∙ ap (λ j. cond j 0 1 + suc (length b.rest)) (same_join cut x s b.first b.file b.from)
    ∙ ap (λ l. cond (is_joined cut x s) 0 1 + length l) (sym b.whole)

count_two : (cut : ℕ → Bool) (x s : Spot) (ss : List Spot) → length (runs cut (x ∷ s ∷ ss)) ≡ cond (is_joined cut x s) 0 1 + length (runs cut (s ∷ ss))
count_two cut x s ss = count_in_front cut x s (runs cut (s ∷ ss)) (begins_in_front cut s (runs cut ss))

some_runs : (cut : ℕ → Bool) (s : Spot) (ss : List Spot) → 1 ≤ length (runs cut (s ∷ ss))
some_runs cut s ss = let b = begins_in_front cut s (runs cut ss) in subst (λ l. 1 ≤ length l) (sym b.whole) (omega arith)

add_both : (k a b m n : ℕ) → a ≡ k + m → b ≡ k + n → m ≤ n → a ≤ b
add_both k a b m n e f h = omega (arith, e, f, h)

-- a part that ends sooner has no more runs
pub fewer_taken : (cut : ℕ → Bool) (n : ℕ) (ss : List Spot) → length (runs cut (take n ss)) ≤ length (runs cut ss)
fewer_taken cut zero ss = omega arith
fewer_taken cut (suc n) [] = omega arith
fewer_taken cut (suc zero) (s ∷ ss) = some_runs cut s ss
fewer_taken cut (suc (suc n)) (s ∷ []) = omega arith
fewer_taken cut (suc (suc n)) (s ∷ t ∷ ss) =
    add_both (cond (is_joined cut s t) 0 1) _ _ _ _ (count_two cut s t (take n ss)) (count_two cut s t ss) (fewer_taken cut (suc n) (t ∷ ss))

-- ---- how many samples runs name

samples_either : (b : Bool) (s : Spot) (p : Piece) (ps : List Piece) → samples_in (cond b (longer s p ∷ ps) (lone s ∷ p ∷ ps)) ≡ suc (samples_in (p ∷ ps))
samples_either true s p ps = omega arith
samples_either false s p ps = omega arith

samples_in_front : (cut : ℕ → Bool) (s : Spot) (ps : List Piece) → samples_in (in_front cut s ps) ≡ suc (samples_in ps)
samples_in_front cut s [] = refl
samples_in_front cut s (p ∷ ps) = samples_either (comes_before s p && not (cut p.from)) s p ps

pub samples_in_runs : (cut : ℕ → Bool) (ss : List Spot) → samples_in (runs cut ss) ≡ length ss
samples_in_runs cut [] = refl
samples_in_runs cut (s ∷ ss) = samples_in_front cut s (runs cut ss) ∙ ap suc (samples_in_runs cut ss)

fewer_samples : (n : ℕ) (ps : List Piece) → samples_in (take n ps) ≤ samples_in ps
fewer_samples zero ps = omega arith
fewer_samples (suc n) [] = omega arith
fewer_samples (suc n) (p ∷ ps) = let rest = fewer_samples n ps in omega (arith, rest)

-- a window lies in the rest of the rope
pub window_within : (block : ℕ) (ss : List Spot) (heard : ℕ) → heard ≤ length ss → heard + window block ss heard ≤ length ss
window_within block ss heard h =
    let part = fewer_samples 4 (stretches block (drop heard ss)) in
    let whole = samples_in_runs (begins_block block) (drop heard ss) in
    let rest = length-drop heard ss in
    omega (arith, part, whole, rest, h)

-- ---- a recording has one piece at most

append_none : {A : Type 0} (xs : List A) → xs ++ [] ≡ xs
append_none [] = refl
append_none (x ∷ xs) = ap (λ l. x ∷ l) (append_none xs)

pub one_piece : (file from n : ℕ) → length (pieces_of (spots_from file from n)) ≤ 1
one_piece file from zero = omega arith
one_piece file from (suc n) =
    let piece : Piece = record { file = file; from = from; len = suc n } in
    subst (λ ps. length ps ≤ 1) (same_pieces (piece ∷ []) (spots_from file from (suc n)) (omega arith) (append_none (spots_from file from (suc n)))) (omega arith)
