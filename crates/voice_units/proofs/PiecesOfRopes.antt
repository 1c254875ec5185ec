-- Pieces in normal form stand for the places that they name, and are determined by them.
use Rattle.std.proofs.Common.{◌≡◌, ℕ, zero, suc, ◌+◌, ◌≤◌, Bool, true, false, ◌&&◌, not, cond, ◌==◌, List, [], ◌∷◌, ◌++◌, length, take, drop, refl, sym, zero-add, add-zero, ◌∙◌, ap, arith, append_assoc, eq-eqb}
use Rattle.std.proofs.lemmas.Bool.{eqb-true}
use Rattle.std.proofs.Math.Seq.{take-append_seam, drop-append_seam}
use Rattle.voice_units.specs.Spots.{Spot, spots_from, spots_in, spots_of, comes_before, lone, longer, in_front, runs, nowhere, pieces_of, IsContinued, IsNormal}
use Rattle.voice_units.specs.declared.pieces.Piece.{Piece}

pub spots_of-append : (ps qs : List Piece) → spots_of (ps ++ qs) ≡ spots_of ps ++ spots_of qs
spots_of-append [] qs = refl
spots_of-append (p ∷ ps) qs = ap (λ l. spots_in p ++ l) (spots_of-append ps qs) ∙ sym (append_assoc (spots_in p) (spots_of ps) (spots_of qs))

pub both : (a b : Bool) → (a && b) ≡ true → (a ≡ true) × (b ≡ true)
both true b e = (refl, e)
both false b e = cc

-- what a passed test says
pub joins : (s : Spot) (p : Piece) → comes_before s p ≡ true → (s.file ≡ p.file) × (s.place + 1 ≡ p.from)
joins s p e =
    let parts = both (s.file == p.file) (s.place + 1 == p.from) e in
    (eqb-true _ _ parts.0, eqb-true _ _ parts.1)

-- a sample in front of runs, whichever way it goes
spots_of-choice : (s : Spot) (p : Piece) (ps : List Piece) (c : Bool) → (c ≡ true → (s.file ≡ p.file) × (s.place + 1 ≡ p.from)) → spots_of (cond c (longer s p ∷ ps) (lone s ∷ p ∷ ps)) ≡ s ∷ spots_of (p ∷ ps)
spots_of-choice s p ps true h =
    let joined = h refl in
    ap (λ file. s ∷ (spots_from file (s.place + 1) p.len ++ spots_of ps)) joined.0 ∙ ap (λ from. s ∷ (spots_from p.file from p.len ++ spots_of ps)) joined.1
spots_of-choice s p ps false h = refl

pub spots_of-in_front : (cut : ℕ → Bool) (s : Spot) (ps : List Piece) → spots_of (in_front cut s ps) ≡ s ∷ spots_of ps
spots_of-in_front cut s [] = refl
spots_of-in_front cut s (p ∷ ps) = spots_of-choice s p ps (comes_before s p && not (cut p.from)) (λ e. joins s p (both _ _ e).0)

-- the runs name the places again
pub spots_of-runs : (cut : ℕ → Bool) (ss : List Spot) → spots_of (runs cut ss) ≡ ss
spots_of-runs cut [] = refl
spots_of-runs cut (s ∷ ss) = spots_of-in_front cut s (runs cut ss) ∙ ap (λ l. s ∷ l) (spots_of-runs cut ss)

-- a sample does not come before a piece that it is not joined with
apart : (s : Spot) (p : Piece) → ¬ ((s.file ≡ p.file) × (s.place + 1 ≡ p.from)) → (c : Bool) → comes_before s p ≡ c → c ≡ false
apart s p h true e = absurd (h (joins s p e))
apart s p h false e = refl

-- what a run is in front of
IsFree : Piece → List Piece → Type 0
IsFree p [] = Unit {0}
IsFree p (q ∷ qs) = ¬ IsContinued p q

lone_in_front : (s : Spot) (qs : List Piece) → IsFree (lone s) qs → in_front nowhere s qs ≡ lone s ∷ qs
unfolding IsFree
lone_in_front s [] h = refl
lone_in_front s (q ∷ qs) h =
    ap (λ c. cond (c && true) (longer s q ∷ qs) (lone s ∷ q ∷ qs)) (apart s q h (comes_before s q) refl)

free_later : (file from n : ℕ) (qs : List Piece) → IsFree (record { file = file; from = from; len = suc (suc n) }) qs → IsFree (record { file = file; from = from + 1; len = suc n }) qs
unfolding IsFree
free_later file from n [] h = tt
free_later file from n (q ∷ qs) h = λ c. let same_end : from + suc (suc n) ≡ q.from = omega (arith, c.1) in h (c.0, same_end)

goes_on : (file from n : ℕ) (qs : List Piece) → in_front nowhere (record { file = file; place = from }) (record { file = file; from = from + 1; len = suc n } ∷ qs) ≡ record { file = file; from = from; len = suc (suc n) } ∷ qs
goes_on file from n qs =
    let one : Spot = record { file = file; place = from } in
    let run : Piece = record { file = file; from = from + 1; len = suc n } in
    ap (λ c. cond ((c && (from + 1 == from + 1)) && true) (longer one run ∷ qs) (lone one ∷ run ∷ qs)) (eq-eqb file file refl)
    ∙ ap (λ c. cond ((true && c) && true) (longer one run ∷ qs) (lone one ∷ run ∷ qs)) (eq-eqb (from + 1) (from + 1) refl)

-- a run of places before pieces, of which the first does not continue it
run_in_front : (file from n : ℕ) (qs : List Piece) → IsFree (record { file = file; from = from; len = suc n }) qs → pieces_of (spots_of qs) ≡ qs → pieces_of (spots_from file from (suc n) ++ spots_of qs) ≡ record { file = file; from = from; len = suc n } ∷ qs
run_in_front file from zero qs free rest = ap (in_front nowhere (record { file = file; place = from })) rest ∙ lone_in_front (record { file = file; place = from }) qs free
run_in_front file from (suc n) qs free rest =
    ap (in_front nowhere (record { file = file; place = from })) (run_in_front file (from + 1) n qs (free_later file from n qs free) rest) ∙ goes_on file from n qs

piece_in_front : (file from n : ℕ) (qs : List Piece) → 1 ≤ n → IsFree (record { file = file; from = from; len = n }) qs → pieces_of (spots_of qs) ≡ qs → pieces_of (spots_from file from n ++ spots_of qs) ≡ record { file = file; from = from; len = n } ∷ qs
piece_in_front file from zero qs some free rest = absurd (omega arith)
piece_in_front file from (suc n) qs some free rest = run_in_front file from n qs free rest

-- pieces in normal form are those of the places that they name
pub pieces_of-spots_of : (ps : List Piece) → IsNormal ps → pieces_of (spots_of ps) ≡ ps
unfolding IsFree
pieces_of-spots_of [] h = refl
pieces_of-spots_of (p ∷ []) h = piece_in_front p.file p.from p.len [] h tt refl
pieces_of-spots_of (p ∷ q ∷ ps) h = piece_in_front p.file p.from p.len (q ∷ ps) h.0 h.1 (pieces_of-spots_of (q ∷ ps) h.2)

-- ---- the pieces of places are in normal form

meets : (s : Spot) (p : Piece) → (s.file ≡ p.file) × (s.place + 1 ≡ p.from) → comes_before s p ≡ true
meets s p h = ap (λ b. b && (s.place + 1 == p.from)) (eq-eqb s.file p.file h.0) ∙ eq-eqb (s.place + 1) p.from h.1

front_normal : (s : Spot) (p : Piece) (ps : List Piece) (c : Bool) → comes_before s p ≡ c → IsNormal (p ∷ ps) → IsNormal (cond (c && true) (longer s p ∷ ps) (lone s ∷ p ∷ ps))
front_normal s p [] true e h = omega arith
front_normal s p (q ∷ ps) true e h =
    let j = joins s p e in
    (omega arith, (λ c. let same_end : p.from + p.len ≡ q.from = omega (arith, j.1, c.1) in h.1 (sym j.0 ∙ c.0, same_end)), h.2)
front_normal s p ps false e h = (omega arith, (λ c. let t : comes_before s p ≡ true = meets s p c in cc), h)

normal_in_front : (s : Spot) (ps : List Piece) → IsNormal ps → IsNormal (in_front nowhere s ps)
normal_in_front s [] h = omega arith
normal_in_front s (p ∷ ps) h = front_normal s p ps (comes_before s p) refl h

pub normal : (ss : List Spot) → IsNormal (pieces_of ss)
normal [] = tt
normal (s ∷ ss) = normal_in_front s (pieces_of ss) (normal ss)

-- pieces in normal form that name these places are their pieces
pub same_pieces : (qs : List Piece) (ss : List Spot) → IsNormal qs → spots_of qs ≡ ss → qs ≡ pieces_of ss
same_pieces qs ss h e = sym (pieces_of-spots_of qs h) ∙ ap pieces_of e

-- ---- slices of pieces

pub spots_from-add : (file from m n : ℕ) → spots_from file from (m + n) ≡ spots_from file from m ++ spots_from file (from + m) n
spots_from-add file from zero n = ap (spots_from file from) (zero-add n) ∙ ap (λ f. spots_from file f n) (sym (add-zero from))
spots_from-add file from (suc m) n =
    let one_more : suc m + n ≡ suc (m + n) = omega arith in
    let further : from + 1 + m ≡ from + suc m = omega arith in
    ap (spots_from file from) one_more
    ∙ ap (λ l. record { file = file; place = from } ∷ l) (spots_from-add file (from + 1) m n ∙ ap (λ f. spots_from file (from + 1) m ++ spots_from file f n) further)

pub length-spots_from : (file from n : ℕ) → length (spots_from file from n) ≡ n
length-spots_from file from zero = refl
length-spots_from file from (suc n) = ap suc (length-spots_from file (from + 1) n)

-- the first n samples of a run, and those from the n-th on
pub take-spots_from : (file from m n : ℕ) → take m (spots_from file from (m + n)) ≡ spots_from file from m
take-spots_from file from m n =
    ap (take m) (spots_from-add file from m n) ∙ ap (λ k. take k (spots_from file from m ++ spots_from file (from + m) n)) (sym (length-spots_from file from m)) ∙ take-append_seam (spots_from file from m) (spots_from file (from + m) n)

pub drop-spots_from : (file from m n : ℕ) → drop m (spots_from file from (m + n)) ≡ spots_from file (from + m) n
drop-spots_from file from m n =
    ap (drop m) (spots_from-add file from m n) ∙ ap (λ k. drop k (spots_from file from m ++ spots_from file (from + m) n)) (sym (length-spots_from file from m)) ∙ drop-append_seam (spots_from file from m) (spots_from file (from + m) n)
