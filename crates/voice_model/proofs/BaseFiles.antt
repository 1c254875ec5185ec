-- The files of a base: their blocks are the places in order, files rise, and so do the indices within each.
use Rattle.std.proofs.Common.{◌≡◌, ℕ, ◌≤◌, ◌<◌, inl, inr, ◌==◌, Bool, true, false, cond, ◌&&◌, nat_lt, List, [], ◌∷◌, map, length, flat_map, refl, sym, ◌∙◌, ap, subst, arith}
use Rattle.std.proofs.lemmas.Bool.{ltb-true, ltb-false, lt-ltb, eqb-true, eq-eqb}
use Rattle.voice_model.specs.Replay.{Placed, place_of}
use Rattle.voice_model.specs.Base.{FileBlocks, pair_of_place, block_in_front, by_file}
use Rattle.voice_model.specs.Spelling.{rise}
use Rattle.voice_model.specs.Valid.{Every}
use Rattle.voice_model.specs.Places.{Pairwise, ComesFirst}
use Rattle.voice_model.specs.declared.lists.Pair.{Pair}
use Rattle.voice_model.proofs.KeptByChanges.{every-imply}
use Rattle.voice_model.proofs.Order.{before}

-- the places that files name
abbrev pub places_in : FileBlocks → List Placed
places_in f = map (place_of f.file) f.pairs

abbrev pub flat : List FileBlocks → List Placed
flat fs = flat_map places_in fs

moved : (p : Placed) (file : ℕ) → p.pair.file ≡ file → place_of file (pair_of_place p) ≡ p
moved p file e = λ i. record { pair = record { file = sym e i; index = p.pair.index }; address = p.address }

abbrev front_by : Bool → Placed → FileBlocks → List FileBlocks → List FileBlocks
front_by b p f fs =
    cond b
    (record { file = f.file; pairs = pair_of_place p ∷ f.pairs } ∷ fs)
    (record { file = p.pair.file; pairs = pair_of_place p ∷ [] } ∷ f ∷ fs)

flat_by : (b : Bool) (p : Placed) (f : FileBlocks) (fs : List FileBlocks) → (p.pair.file == f.file) ≡ b → flat (front_by b p f fs) ≡ p ∷ flat (f ∷ fs)
flat_by true p f fs e = ap (λ q. q ∷ flat (f ∷ fs)) (moved p f.file (eqb-true p.pair.file f.file e))
flat_by false p f fs e = refl

flat_front : (p : Placed) (fs : List FileBlocks) → flat (block_in_front p fs) ≡ p ∷ flat fs
flat_front p [] = refl
flat_front p (f ∷ fs) = flat_by (p.pair.file == f.file) p f fs refl

pub flat_files : (ps : List Placed) → flat (by_file ps) ≡ ps
flat_files [] = refl
flat_files (p ∷ ps) = flat_front p (by_file ps) ∙ ap (λ l. p ∷ l) (flat_files ps)

-- ---- what holds of each file

file_by : (P : ℕ → Type 0) (b : Bool) (p : Placed) (f : FileBlocks) (fs : List FileBlocks) → P p.pair.file → Every (λ (g : FileBlocks). P g.file) (f ∷ fs) → Every (λ (g : FileBlocks). P g.file) (front_by b p f fs)
file_by P true p f fs h k = k
file_by P false p f fs h k = (h, k)

file_front : (P : ℕ → Type 0) (p : Placed) (fs : List FileBlocks) → P p.pair.file → Every (λ (g : FileBlocks). P g.file) fs → Every (λ (g : FileBlocks). P g.file) (block_in_front p fs)
file_front P p [] h k = (h, tt)
file_front P p (f ∷ fs) h k = file_by P (p.pair.file == f.file) p f fs h k

pub every_file : (P : ℕ → Type 0) (ps : List Placed) → Every (λ (p : Placed). P p.pair.file) ps → Every (λ (f : FileBlocks). P f.file) (by_file ps)
every_file P [] h = tt
every_file P (p ∷ ps) h = file_front P p (by_file ps) h.0 (every_file P ps h.1)

abbrev Has : (ℕ → Pair → Type 0) → FileBlocks → Type 0
Has P f = Every (P f.file) f.pairs

pair_by : (P : ℕ → Pair → Type 0) (b : Bool) (p : Placed) (f : FileBlocks) (fs : List FileBlocks) → (p.pair.file == f.file) ≡ b → P p.pair.file (pair_of_place p) → Every (Has P) (f ∷ fs) → Every (Has P) (front_by b p f fs)
pair_by P true p f fs e h k = ((subst (λ n. P n (pair_of_place p)) (eqb-true p.pair.file f.file e) h, k.0), k.1)
pair_by P false p f fs e h k = ((h, tt), k)

pair_front : (P : ℕ → Pair → Type 0) (p : Placed) (fs : List FileBlocks) → P p.pair.file (pair_of_place p) → Every (Has P) fs → Every (Has P) (block_in_front p fs)
pair_front P p [] h k = ((h, tt), tt)
pair_front P p (f ∷ fs) h k = pair_by P (p.pair.file == f.file) p f fs refl h k

pub every_pair : (P : ℕ → Pair → Type 0) (ps : List Placed) → Every (λ (p : Placed). P p.pair.file (pair_of_place p)) ps → Every (λ (f : FileBlocks). Every (P f.file) f.pairs) (by_file ps)
every_pair P [] h = tt
every_pair P (p ∷ ps) h = pair_front P p (by_file ps) h.0 (every_pair P ps h.1)

some_by : (b : Bool) (p : Placed) (f : FileBlocks) (fs : List FileBlocks) → Every (λ (g : FileBlocks). 1 ≤ length g.pairs) (f ∷ fs) → Every (λ (g : FileBlocks). 1 ≤ length g.pairs) (front_by b p f fs)
some_by true p f fs h = (omega arith, h.1)
some_by false p f fs h = (omega arith, h)

some_front : (p : Placed) (fs : List FileBlocks) → Every (λ (g : FileBlocks). 1 ≤ length g.pairs) fs → Every (λ (g : FileBlocks). 1 ≤ length g.pairs) (block_in_front p fs)
some_front p [] h = (omega arith, tt)
some_front p (f ∷ fs) h = some_by (p.pair.file == f.file) p f fs h

pub some_pairs : (ps : List Placed) → Every (λ (f : FileBlocks). 1 ≤ length f.pairs) (by_file ps)
some_pairs [] = tt
some_pairs (p ∷ ps) = some_front p (by_file ps) (some_pairs ps)

-- ---- files rise

abbrev pub Lower : FileBlocks → FileBlocks → Type 0
Lower f g = f.file < g.file

not_above : (p q : Placed) → ComesFirst p q → p.pair.file ≤ q.pair.file
not_above p q h = elim (before p.pair q.pair h) [ inl less ↦ omega (arith, less) | inr same ↦ let e = same.0 in omega (arith, e) ]

below_by : (b : Bool) (m n : ℕ) → nat_lt m n ≡ b → (m == n) ≡ false → m ≤ n → m < n
below_by true m n k e h = ltb-true m n k
below_by false m n k e h = let more = ltb-false m n k in let same : m ≡ n = omega (arith, h, more) in let yes = eq-eqb m n same in let bad : true ≡ false = sym yes ∙ e in cc

below : (m n : ℕ) → (m == n) ≡ false → m ≤ n → m < n
below m n e h = below_by (nat_lt m n) m n refl e h

lower_by : (b : Bool) (p : Placed) (f : FileBlocks) (fs : List FileBlocks) → (p.pair.file == f.file) ≡ b → Every (λ (g : FileBlocks). p.pair.file ≤ g.file) (f ∷ fs) → Pairwise Lower (f ∷ fs) → Pairwise Lower (front_by b p f fs)
lower_by true p f fs e h k = k
lower_by false p f fs e h k =
    let first = h.0 in
    let less : p.pair.file < f.file = below p.pair.file f.file e first in
    let one : FileBlocks = record { file = p.pair.file; pairs = pair_of_place p ∷ [] } in
    ((less, every-imply (Lower f) (Lower one) (λ g more. omega (arith, less, more)) fs k.0), k)

lower_front : (p : Placed) (fs : List FileBlocks) → Every (λ (g : FileBlocks). p.pair.file ≤ g.file) fs → Pairwise Lower fs → Pairwise Lower (block_in_front p fs)
lower_front p [] h k = (tt, tt)
lower_front p (f ∷ fs) h k = lower_by (p.pair.file == f.file) p f fs refl h k

pub files_rise : (ps : List Placed) → Pairwise ComesFirst ps → Pairwise Lower (by_file ps)
files_rise [] h = tt
files_rise (p ∷ ps) h =
    lower_front p (by_file ps)
    (every_file (λ n. p.pair.file ≤ n) ps (every-imply (ComesFirst p) (λ (q : Placed). p.pair.file ≤ q.pair.file) (λ q e. not_above p q e) ps h.0))
    (files_rise ps h.1)

-- ---- indices rise

abbrev Rises : FileBlocks → Type 0
Rises f = rise (map (λ pair. pair.index) f.pairs) ≡ true

abbrev Above : Placed → ℕ → Pair → Type 0
Above p n pair = n ≡ p.pair.file → p.pair.index < pair.index

rise_first : (a : ℕ) (pairs : List Pair) → Every (λ (pair : Pair). a < pair.index) pairs → rise (map (λ pair. pair.index) pairs) ≡ true → rise (a ∷ map (λ pair. pair.index) pairs) ≡ true
rise_first a [] h k = refl
rise_first a (pair ∷ pairs) h k = ap (λ b. b && rise (pair.index ∷ map (λ pair. pair.index) pairs)) (lt-ltb a pair.index h.0) ∙ k

rises_by : (b : Bool) (p : Placed) (f : FileBlocks) (fs : List FileBlocks) → (p.pair.file == f.file) ≡ b → Every (Has (Above p)) (f ∷ fs) → Every Rises (f ∷ fs) → Every Rises (front_by b p f fs)
rises_by true p f fs e h k =
    let same = sym (eqb-true p.pair.file f.file e) in
    (rise_first p.pair.index f.pairs (every-imply (Above p f.file) (λ (pair : Pair). p.pair.index < pair.index) (λ pair step. step same) f.pairs h.0) k.0, k.1)
rises_by false p f fs e h k = (refl, k)

rises_front : (p : Placed) (fs : List FileBlocks) → Every (Has (Above p)) fs → Every Rises fs → Every Rises (block_in_front p fs)
rises_front p [] h k = (refl, tt)
rises_front p (f ∷ fs) h k = rises_by (p.pair.file == f.file) p f fs refl h k

above : (p q : Placed) → ComesFirst p q → Above p q.pair.file (pair_of_place q)
above p q h e = elim (before p.pair q.pair h) [ inl less ↦ absurd (omega (arith, less, e)) | inr same ↦ same.1 ]

pub indices_rise : (ps : List Placed) → Pairwise ComesFirst ps → Every (λ (f : FileBlocks). rise (map (λ pair. pair.index) f.pairs) ≡ true) (by_file ps)
indices_rise [] h = tt
indices_rise (p ∷ ps) h =
    rises_front p (by_file ps)
    (every_pair (Above p) ps (every-imply (ComesFirst p) (λ (q : Placed). Above p q.pair.file (pair_of_place q)) (λ q e. above p q e) ps h.0))
    (indices_rise ps h.1)
