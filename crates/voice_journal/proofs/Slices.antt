-- Parts of lists, and the numbers in them.
use Rattle.std.proofs.Common.{◌≡◌, ℕ, zero, suc, ◌+◌, ◌<◌, ◌≤◌, List, [], ◌∷◌, length, get_or, refl, ap, sym, ◌∙◌, arith}
use Rattle.voice_units.specs.Spots.{slice}
use Rattle.voice_outside.specs.Disk.{segment}
use Rattle.disk_areas.specs.Numbers.{spelled_number, number_at}
use Rattle.voice_journal.proofs.Segments.{segment_same}

shift : (x : ℕ) (xs : List ℕ) (from n : ℕ) → segment (x ∷ xs) (suc from) n ≡ segment xs from n
unfolding segment
shift x xs from zero = refl
shift x xs from (suc n) = ap (λ (l : List ℕ). get_or xs from 0 ∷ l) (shift x xs (suc from) n)

-- a range of a slice is a segment
pub segment_is : (xs : List ℕ) (from n : ℕ) → from + n ≤ length xs → slice xs from n ≡ segment xs from n
unfolding segment
segment_is xs zero zero le = refl
segment_is [] zero (suc n) le = absurd (omega arith)
segment_is (x ∷ xs) zero (suc n) le = ap (λ (l : List ℕ). x ∷ l) (segment_is xs zero n (omega arith) ∙ sym (shift x xs 0 n))
segment_is [] (suc from) zero le = refl
segment_is [] (suc from) (suc n) le = absurd (omega arith)
segment_is (x ∷ xs) (suc from) zero le = refl
segment_is (x ∷ xs) (suc from) (suc n) le = segment_is xs from (suc n) (omega arith) ∙ sym (shift x xs from (suc n))

pub length-segment : (xs : List ℕ) (from n : ℕ) → length (segment xs from n) ≡ n
unfolding segment
length-segment xs from zero = refl
length-segment xs from (suc n) = ap (λ (m : ℕ). suc m) (length-segment xs (suc from) n)

pub slice_same : (b a : List ℕ) (at n : ℕ) → length b ≡ length a → at + n ≤ length a → ((i : ℕ) → at ≤ i → i < at + n → get_or b i 0 ≡ get_or a i 0) → slice b at n ≡ slice a at n
slice_same b a at n len fits same = segment_is b at n (omega (arith, len)) ∙ segment_same b a at n same ∙ sym (segment_is a at n fits)

pub number_same : (b a : List ℕ) (at w : ℕ) → length b ≡ length a → at + w ≤ length a → ((i : ℕ) → at ≤ i → i < at + w → get_or b i 0 ≡ get_or a i 0) → number_at w at b ≡ number_at w at a
number_same b a at w len fits same = ap spelled_number (slice_same b a at w len fits same)

-- the number that a known segment spells
pub number_segment : (a : List ℕ) (at w : ℕ) → at + w ≤ length a → number_at w at a ≡ spelled_number (segment a at w)
number_segment a at w fits = ap spelled_number (segment_is a at w fits)

single : (a : List ℕ) (at : ℕ) → spelled_number (segment a at 1) ≡ get_or a at 0
unfolding segment
single a at = omega arith

-- a number of one byte
pub number_byte : (a : List ℕ) (at : ℕ) → at + 1 ≤ length a → number_at 1 at a ≡ get_or a at 0
number_byte a at fits = number_segment a at 1 fits ∙ single a at
