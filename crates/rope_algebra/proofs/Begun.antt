-- Where pieces start.
use Rattle.std.proofs.Common.{◌≡◌, ℕ, zero, suc, ◌+◌, ◌-◌, ◌<◌, ◌≤◌, get_or, List, [], ◌∷◌, ◌++◌, length, drop, take, nat_le, true, false, refl, sym, ◌∙◌, ap, subst, arith, append_assoc}
use Rattle.std.proofs.lemmas.List.{drop_all, take_all, length-drop, append-nil}
use Rattle.std.proofs.lemmas.Bool.{leb-true, leb-false, le-leb}
use Rattle.std.specs.List.Sorted.{IsPartitionedBy, IsPartitionPoint}
use Rattle.voice_units.specs.declared.pieces.Piece.{Piece}
use Rattle.voice_units.specs.Spots.{spots_in, spots_of, samples_in, IsNormal}
use Rattle.voice_units.proofs.PiecesOfRopes.{length-spots_from}
use Rattle.rope_algebra.specs.Kept.{LieInFiles, IsRope, IsCounted, starts_from, first_len}
use Rattle.rope_algebra.proofs.Parts.{drop-append, at_item}

pub length-starts : (n : ℕ) (ps : List Piece) → length (starts_from n ps) ≡ length ps
length-starts n [] = refl
length-starts n (p ∷ ps) = ap suc (length-starts (n + p.len) ps)

-- no piece starts before what stands in front of all
pub start-ge : (i n : ℕ) (ps : List Piece) (d : ℕ) → i < length ps → n ≤ get_or (starts_from n ps) i d
start-ge i n [] d h = absurd (omega (arith, h))
start-ge zero n (p ∷ ps) d h = omega arith
start-ge (suc i) n (p ∷ ps) d h = let later = start-ge i (n + p.len) ps d (omega (arith, h)) in omega (arith, later)

-- pieces start in order
pub start-le : (i j n : ℕ) (ps : List Piece) (d : ℕ) → i ≤ j → j < length ps → get_or (starts_from n ps) i d ≤ get_or (starts_from n ps) j d
start-le i j n [] d low h = absurd (omega (arith, h))
start-le zero j n (p ∷ ps) d low h = start-ge j n (p ∷ ps) d h
start-le (suc i) zero n (p ∷ ps) d low h = absurd (omega (arith, low))
start-le (suc i) (suc j) n (p ∷ ps) d low h = start-le i j (n + p.len) ps d (omega (arith, low)) (omega (arith, h))

-- a start is not past the end
pub start-in : (i n : ℕ) (ps : List Piece) (d : ℕ) → i < length ps → get_or (starts_from n ps) i d + samples_in (drop i ps) ≡ n + samples_in ps
start-in i n [] d h = absurd (omega (arith, h))
start-in zero n (p ∷ ps) d h = refl
start-in (suc i) n (p ∷ ps) d h = let rest = start-in i (n + p.len) ps d (omega (arith, h)) in omega (arith, rest)

-- what lies behind a place, told from the start of a piece
pub spots_at_start : (i n at : ℕ) (ps : List Piece) (d : ℕ) → i < length ps → get_or (starts_from n ps) i d ≤ n + at → drop (n + at - get_or (starts_from n ps) i d) (spots_of (drop i ps)) ≡ drop at (spots_of ps)
spots_at_start i n at [] d h low = absurd (omega (arith, h))
spots_at_start zero n at (p ∷ ps) d h low = ap (λ k. drop k (spots_of (p ∷ ps))) (let e : n + at - n ≡ at = omega arith in e)
spots_at_start (suc i) n at (p ∷ ps) d h low =
    let own = length-spots_from p.file p.from p.len in
    let behind = start-ge i (n + p.len) ps d (omega (arith, h)) in
    let long : length (spots_in p) ≤ at = omega (arith, own, behind, low) in
    let same : n + p.len + (at - p.len) ≡ n + at = omega (arith, long, own) in
    ap (λ k. drop (k - get_or (starts_from (n + p.len) ps) i d) (spots_of (drop i ps))) (sym same)
    ∙ spots_at_start i (n + p.len) (at - p.len) ps d (omega (arith, h)) (omega (arith, low, same))
    ∙ ap (λ k. drop (at - k) (spots_of ps)) (sym own)
    ∙ ap (λ l. l ++ drop (at - length (spots_in p)) (spots_of ps)) (sym (drop_all at (spots_in p) long))
    ∙ sym (drop-append at (spots_in p) (spots_of ps))

-- a piece ends where the next one starts, or all end
pub first_ends : (i n at : ℕ) (ps : List Piece) (d : ℕ) → i < length ps → at < n + samples_in ps → (suc i < length ps → at < get_or (starts_from n ps) (suc i) d) → at < get_or (starts_from n ps) i d + first_len (drop i ps)
first_ends i n at [] d h within next = absurd (omega (arith, h))
first_ends zero n at (p ∷ []) d h within next = omega (arith, within)
first_ends zero n at (p ∷ r ∷ ps) d h within next = next (omega arith)
first_ends (suc i) n at (p ∷ ps) d h within next = first_ends i (n + p.len) at ps d (omega (arith, h)) (omega (arith, within)) (λ k. next (omega (arith, k)))

pub whole_rest : {A : Type 0} (k : ℕ) (xs : List A) → take (length xs - k) (drop k xs) ≡ drop k xs
whole_rest k xs = take_all (length xs - k) (drop k xs) (let e = length-drop k xs in omega (arith, e))

-- starts up to a place come first
pub begun_first : (at : ℕ) (ps : List Piece) → IsPartitionedBy (λ start. nat_le start at) (starts_from 0 ps)
begun_first at ps i j d low within holds =
    let many = length-starts 0 ps in
    le-leb _ _ (let rise = start-le i j 0 ps d (omega (arith, low)) (omega (arith, within, many)) in let last = leb-true _ _ holds in omega (arith, rise, last))

rest_of_normal : (p : Piece) (ps : List Piece) → IsNormal (p ∷ ps) → IsNormal ps
rest_of_normal p [] h = tt
rest_of_normal p (q ∷ ps) h = h.2

normal_rest : (i : ℕ) (ps : List Piece) → IsNormal ps → IsNormal (drop i ps)
normal_rest zero ps h = h
normal_rest (suc i) [] h = tt
normal_rest (suc i) (p ∷ ps) h = normal_rest i ps (rest_of_normal p ps h)

ends_rest : (i : ℕ) (ps : List Piece) → LieInFiles ps → LieInFiles (drop i ps)
ends_rest zero ps h = h
ends_rest (suc i) [] h = tt
ends_rest (suc i) (p ∷ ps) h = ends_rest i ps h.1

samples_rest : (i : ℕ) (ps : List Piece) → samples_in (drop i ps) ≤ samples_in ps
samples_rest zero ps = omega arith
samples_rest (suc i) [] = omega arith
samples_rest (suc i) (p ∷ ps) = let rest = samples_rest i ps in omega (arith, rest)

pub rope_rest : (i : ℕ) (ps : List Piece) → IsRope ps → IsRope (drop i ps)
rope_rest i ps h = record { normal = normal_rest i ps h.normal; ends = ends_rest i ps h.ends; total = let less = samples_rest i ps in omega (arith, less, h.total) }

-- the starts of the pieces so far, and those to come
pub record AreStarting (all rest : List Piece) (starts : List ℕ) (n : ℕ) : Type 0 where
  pub begin : starts ++ starts_from n rest ≡ starts_from 0 all
  pub total : n + samples_in rest ≡ samples_in all

pub one_start : (all : List Piece) (i : ℕ) (p : Piece) (starts more : List ℕ) (n : ℕ) → i < length all → p ≡ get_or all i p → more ≡ starts ++ n ∷ [] → AreStarting all (drop i all) starts n → AreStarting all (drop (i + 1) all) more (n + p.len)
one_start all i p starts more n within is pushed h =
    let here : AreStarting all (p ∷ drop (i + 1) all) starts n = subst (λ l. AreStarting all l starts n) (at_item all i p within is) h in
    record {
      begin = ap (λ l. l ++ starts_from (n + p.len) (drop (i + 1) all)) pushed ∙ append_assoc starts (n ∷ []) (starts_from (n + p.len) (drop (i + 1) all)) ∙ here.begin;
      total = omega (arith, here.total);
    }

pub all_starts : (all : List Piece) (i : ℕ) (starts : List ℕ) (n : ℕ) → length all ≤ i → AreStarting all (drop i all) starts n → starts ≡ starts_from 0 all
all_starts all i starts n none h =
    sym (append-nil starts) ∙ ap (λ l. starts ++ starts_from n l) (sym (drop_all i all none)) ∙ h.begin

-- so many samples have the pieces so far, and those to come have the others
pub record IsSummed (all rest : List Piece) (n : ℕ) : Type 0 where
  pub total : n + samples_in rest ≡ samples_in all

pub one_summed : (all : List Piece) (i : ℕ) (p : Piece) (n : ℕ) → i < length all → p ≡ get_or all i p → IsSummed all (drop i all) n → IsSummed all (drop (i + 1) all) (n + p.len)
one_summed all i p n within is h =
    let here : IsSummed all (p ∷ drop (i + 1) all) n = subst (λ l. IsSummed all l n) (at_item all i p within is) h in
    record { total = omega (arith, here.total) }

pub all_summed : (all : List Piece) (i : ℕ) (n : ℕ) → length all ≤ i → IsSummed all (drop i all) n → IsRope all → IsCounted all n
all_summed all i n none h rope =
    let end : n ≡ samples_in all = (let e : n ≡ n + samples_in [] = omega arith in e) ∙ ap (λ l. n + samples_in l) (sym (drop_all i all none)) ∙ h.total in
    record { normal = rope.normal; ends = rope.ends; total = end; fits = omega (arith, end, rope.total) }

-- the piece at a place
pub record IsFound (at k : ℕ) (ps : List Piece) (starts : List ℕ) : Type 0 where
  pub within : k < length ps
  pub begun : get_or starts k 0 ≤ at
  pub next : k + 1 < length ps → at < get_or starts (k + 1) 0

first-start : (ps : List Piece) → get_or (starts_from 0 ps) 0 0 ≡ 0
first-start [] = refl
first-start (p ∷ ps) = refl

pub found : (at begun k : ℕ) (ps : List Piece) (starts : List ℕ) → 0 < length ps → starts ≡ starts_from 0 ps → k ≡ begun - 1 → begun ≤ length starts → IsPartitionPoint (λ s. nat_le s at ≡ true) (λ s. nat_le s at ≡ false) starts begun → IsFound at k ps starts
found at zero k ps starts some are is bound parts =
    let many = ap (λ l. length l) are ∙ length-starts 0 ps in
    let zero_start : get_or starts 0 0 ≡ 0 = ap (λ l. get_or l 0 0) are ∙ first-start ps in
    absurd (omega (arith, zero_start, leb-false _ _ (parts.1 0 0 (omega arith) (omega (arith, many, some)))))
found at (suc b) k ps starts some are is bound parts =
    let many = ap (λ l. length l) are ∙ length-starts 0 ps in
    record {
      within = omega (arith, many, bound, is);
      begun = leb-true _ _ (parts.0 k 0 (omega arith) (omega (arith, is)));
      next = λ more. let above = leb-false _ _ (parts.1 (k + 1) 0 (omega (arith, is)) (omega (arith, many, more))) in omega (arith, above);
    }

pub begun_apart : (at : ℕ) (ps : List Piece) (starts : List ℕ) → starts ≡ starts_from 0 ps → IsPartitionedBy (λ s. nat_le s at) starts
begun_apart at ps starts are = subst (IsPartitionedBy (λ s. nat_le s at)) (sym are) (begun_first at ps)
