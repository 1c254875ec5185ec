-- Pieces whose blocks rise: none of their blocks comes twice.
use Rattle.std.proofs.Common.{◌≡◌, ℕ, zero, suc, ◌+◌, ◌<◌, ◌≤◌, List, [], ◌∷◌, length, take, Bool, true, false, ◌&&◌, ◌||◌, ◌==◌, nat_lt, nat_le, Some, refl, sym, ◌∙◌, ap, subst, arith}
use Rattle.std.proofs.lemmas.Bool.{false≢true, ltb-true}
use Rattle.std.proofs.lemmas.Bool.Decides.{nat_tests}
use Rattle.std.specs.Prelude.{slice_get}
use Rattle.voice_units.specs.declared.Piece.{Piece}
use Rattle.voice_units.specs.Spots.{spots_of, spots_in}
use Rattle.voice_units.specs.Blocks.{BlockPair, pairs_at, has_pair, in_run}
use Rattle.rope_table.specs.Inside.{stands_behind, comes_below, AreApart}
use Rattle.rope_table.proofs.InOrder.{split}
use Rattle.rope_table.proofs.Blocks.{front_more, at_get, in_its_run}

-- what comes in front of an index comes in front of one behind it
carried : (last end file start stop : ℕ) (q : BlockPair) → stands_behind last end file start ≡ true → start ≤ stop → comes_below last end q ≡ true → comes_below file stop q ≡ true
carried last end file start stop q behind le below = grind (arith, nat_tests, behind, le, below)

-- a block of a run comes in front of the run's end
within_run : (file start stop : ℕ) (q : BlockPair) → in_run file start stop q ≡ true → comes_below file stop q ≡ true
within_run file start stop q e = grind (arith, nat_tests, e)

-- and not in front of an index at or in front of its start
not_below : (last end file start stop : ℕ) (q : BlockPair) → stands_behind last end file start ≡ true → in_run file start stop q ≡ true → comes_below last end q ≡ false
not_below last end file start stop q behind e = grind (arith, nat_tests, behind, e)

-- a block that is about to be met was not
not_yet : (f : Bool) (file first index : ℕ) → f ≡ false → (f || in_run file first index (record { file = file; index = index })) ≡ false
not_yet f file first index e = grind (arith, nat_tests, e)

-- where no piece has a block of one in front of it, a block that is about to be met was not
pub unmet : (block k : ℕ) (ps : List Piece) (piece : Piece) (start index end : ℕ) → AreApart block ps → slice_get ps k ≡ Some piece → ((q : BlockPair) → has_pair (pairs_at block (spots_in piece)) q ≡ in_run piece.file start end q) → start ≤ index → index < end
    → (has_pair (pairs_at block (spots_of (take k ps))) (record { file = piece.file; index = index }) || in_run piece.file start index (record { file = piece.file; index = index })) ≡ false
unmet block k ps piece start index end apart at run low high =
    let p : BlockPair = record { file = piece.file; index = index } in
    not_yet (has_pair (pairs_at block (spots_of (take k ps))) p) piece.file start index (apart k piece p at (run p ∙ in_its_run piece.file start index end low high))

or_either : (a b : Bool) {P : Type 0} → (a ≡ true → P) → (b ≡ true → P) → (a || b) ≡ true → P
or_either true b f g e = f refl
or_either false b f g e = g e

abbrev front : ℕ → ℕ → List Piece → BlockPair → Bool
front block k ps q = has_pair (pairs_at block (spots_of (take k ps))) q

pub within_length : (ps : List Piece) (k : ℕ) (piece : Piece) → slice_get ps k ≡ Some piece → k < length ps
within_length [] k piece at = cc
within_length (p ∷ ps) zero piece at = omega arith
within_length (p ∷ ps) (suc k) piece at = let rest = within_length ps k piece at in omega (arith, rest)

-- the first pieces rise up to an index of a file
pub record Rise (block k : ℕ) (ps : List Piece) (last end : ℕ) : Type 0 where
  pub below : (q : BlockPair) → front block k ps q ≡ true → comes_below last end q ≡ true
  pub apart : (j : ℕ) (piece : Piece) (q : BlockPair) → j < k → slice_get ps j ≡ Some piece → has_pair (pairs_at block (spots_in piece)) q ≡ true → front block j ps q ≡ false

pub none_rise : (block : ℕ) (ps : List Piece) → Rise block 0 ps 0 0
none_rise block ps = record { below = λ q e. cc; apart = λ j piece q less at has. absurd (omega (arith, less)) }

-- and with one more
pub rise_more : (block k : ℕ) (ps : List Piece) (piece : Piece) (last end start stop : ℕ) → Rise block k ps last end → k < length ps → slice_get ps k ≡ Some piece
    → ((q : BlockPair) → has_pair (pairs_at block (spots_in piece)) q ≡ in_run piece.file start stop q) → start ≤ stop → stands_behind last end piece.file start ≡ true → Rise block (k + 1) ps piece.file stop
rise_more block k ps piece last end start stop h within at run le behind = record {
  below = λ q e. or_either (front block k ps q) (has_pair (pairs_at block (spots_in piece)) q)
      (λ f. carried last end piece.file start stop q behind le (h.below q f))
      (λ f. within_run piece.file start stop q (sym (run q) ∙ f))
      (front_more block k ps piece q within (at_get ps k piece at) ∙ e);
  apart = λ j other q less found has. later j other q less found has;
}
  where
    fresh : (q : BlockPair) → has_pair (pairs_at block (spots_in piece)) q ≡ true → front block k ps q ≡ false
    fresh q has = split (front block k ps q) (λ f. absurd (false≢true (sym (not_below last end piece.file start stop q behind (sym (run q) ∙ has)) ∙ h.below q f))) (λ f. f)

    later : (i : ℕ) (other : Piece) (q : BlockPair) → i < k + 1 → slice_get ps i ≡ Some other → has_pair (pairs_at block (spots_in other)) q ≡ true → front block i ps q ≡ false
    later i other q less found has =
        split (nat_lt i k)
        (λ t. h.apart i other q (ltb-true i k t) found has)
        (λ f.
        let least : k ≤ i = grind (arith, f) in
        let same : i ≡ k = omega (arith, least, less) in
        let both : Some other ≡ Some piece = sym found ∙ ap (slice_get ps) same ∙ at in
        let one : other ≡ piece = cc in
        subst (λ n. front block n ps q ≡ false) (sym same) (fresh q (ap (λ (p : Piece). has_pair (pairs_at block (spots_in p)) q) (sym one) ∙ has)))
