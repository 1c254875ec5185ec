-- What a write over a list of bytes leaves.
use Rattle.std.proofs.Common.{◌≡◌, ℕ, zero, suc, ◌+◌, ◌-◌, ◌<◌, ◌≤◌, min, List, [], ◌∷◌, ◌++◌, length, get_or, take, drop, refl, ap, sym, ◌∙◌, arith}
use Rattle.voice_outside.specs.Disk.{AgreesOutside, segment}
use Rattle.voice_disk.specs.Bytes.{over}

pub length-over : (xs : List ℕ) (at : ℕ) (new : List ℕ) → length (over xs at new) ≡ length xs
length-over [] at new = refl
length-over (x ∷ xs) zero [] = refl
length-over (x ∷ xs) zero (b ∷ new) = ap (λ (n : ℕ). suc n) (length-over xs zero new)
length-over (x ∷ xs) (suc at) new = ap (λ (n : ℕ). suc n) (length-over xs at new)

over_before : (xs : List ℕ) (at : ℕ) (new : List ℕ) (i : ℕ) → i < at → get_or (over xs at new) i 0 ≡ get_or xs i 0
over_before [] at new i lt = refl
over_before (x ∷ xs) zero new i lt = absurd (omega arith)
over_before (x ∷ xs) (suc at) new zero lt = refl
over_before (x ∷ xs) (suc at) new (suc i) lt = over_before xs at new i (omega arith)

over_after : (xs : List ℕ) (at : ℕ) (new : List ℕ) (i : ℕ) → at + length new ≤ i → get_or (over xs at new) i 0 ≡ get_or xs i 0
over_after [] at new i le = refl
over_after (x ∷ xs) zero [] i le = refl
over_after (x ∷ xs) zero (b ∷ new) zero le = absurd (omega arith)
over_after (x ∷ xs) zero (b ∷ new) (suc i) le = over_after xs zero new i (omega arith)
over_after (x ∷ xs) (suc at) new zero le = refl
over_after (x ∷ xs) (suc at) new (suc i) le = over_after xs at new i (omega arith)

pub over_outside : (xs : List ℕ) (at : ℕ) (new : List ℕ) → AgreesOutside at (length new) xs (over xs at new)
over_outside xs at new = record { same_length = length-over xs at new; before = over_before xs at new; after = over_after xs at new }

segment_shift : (x : ℕ) (xs : List ℕ) (from n : ℕ) → segment (x ∷ xs) (suc from) n ≡ segment xs from n
unfolding segment
segment_shift x xs from zero = refl
segment_shift x xs from (suc n) = ap (λ (l : List ℕ). get_or xs from 0 ∷ l) (segment_shift x xs (suc from) n)

pub segment-over : (xs : List ℕ) (at : ℕ) (new : List ℕ) → at + length new ≤ length xs → segment (over xs at new) at (length new) ≡ new
unfolding segment
segment-over [] zero [] le = refl
segment-over [] zero (b ∷ new) le = absurd (omega arith)
segment-over [] (suc at) new le = absurd (omega arith)
segment-over (x ∷ xs) zero [] le = refl
segment-over (x ∷ xs) zero (b ∷ new) le = ap (λ (l : List ℕ). b ∷ l) (segment_shift b (over xs zero new) 0 (length new) ∙ segment-over xs zero new (omega arith))
segment-over (x ∷ xs) (suc at) new le = segment_shift x (over xs at new) at (length new) ∙ segment-over xs at new (omega arith)

-- a range of a slice is a segment
pub segment_is : (xs : List ℕ) (from n : ℕ) → from + n ≤ length xs → take n (drop from xs) ≡ segment xs from n
unfolding segment
segment_is xs zero zero le = refl
segment_is [] zero (suc n) le = absurd (omega arith)
segment_is (x ∷ xs) zero (suc n) le = ap (λ (l : List ℕ). x ∷ l) (segment_is xs zero n (omega arith) ∙ sym (segment_shift x xs 0 n))
segment_is [] (suc from) zero le = refl
segment_is [] (suc from) (suc n) le = absurd (omega arith)
segment_is (x ∷ xs) (suc from) zero le = refl
segment_is (x ∷ xs) (suc from) (suc n) le = segment_is xs from (suc n) (omega arith) ∙ sym (segment_shift x xs from (suc n))

-- as far as the list goes, from its front on
over_front : (xs new : List ℕ) (n : ℕ) → n ≡ min (length xs) (length new) → take n new ++ drop n xs ≡ over xs zero new
over_front [] new zero is = refl
over_front [] new (suc n) is = absurd (omega arith)
over_front (x ∷ xs) [] zero is = refl
over_front (x ∷ xs) [] (suc n) is = absurd (omega arith)
over_front (x ∷ xs) (b ∷ new) zero is = absurd (omega arith)
over_front (x ∷ xs) (b ∷ new) (suc n) is = ap (λ (l : List ℕ). b ∷ l) (over_front xs new n (omega arith))

-- as far as the list goes
pub over_clipped : (xs : List ℕ) (at : ℕ) (new : List ℕ) (start n : ℕ) → start ≡ min (length xs) at → n ≡ min (length xs - start) (length new) → take start xs ++ (take n new ++ drop n (drop start xs)) ≡ over xs at new
over_clipped [] at new zero zero starts is = refl
over_clipped [] at new zero (suc n) starts is = absurd (omega arith)
over_clipped [] at new (suc start) n starts is = absurd (omega arith)
over_clipped (x ∷ xs) zero new zero n starts is = over_front (x ∷ xs) new n (omega arith)
over_clipped (x ∷ xs) zero new (suc start) n starts is = absurd (omega arith)
over_clipped (x ∷ xs) (suc at) new zero n starts is = absurd (omega arith)
over_clipped (x ∷ xs) (suc at) new (suc start) n starts is = ap (λ (l : List ℕ). x ∷ l) (over_clipped xs at new start n (omega arith) (omega arith))
