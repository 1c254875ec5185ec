-- The numbers of byteorder are those of an image.
use Rattle.std.proofs.Common.{◌≡◌, ℕ, zero, suc, ◌+◌, ◌-◌, ◌≤◌, List, [], ◌∷◌, length, drop, take, refl, ap, ◌∙◌, arith, length-drop}
use Rattle.byteorder.specs.Endian.{big_number}
use Rattle.disk_areas.specs.Numbers.{spelled_number, number_at}

two : (xs : List ℕ) → 2 ≤ length xs → big_number 2 xs ≡ spelled_number (take 2 xs)
two [] h = absurd (omega arith)
two (a ∷ []) h = absurd (omega arith)
two (a ∷ b ∷ xs) h = omega arith

four : (xs : List ℕ) → 4 ≤ length xs → big_number 4 xs ≡ spelled_number (take 4 xs)
four [] h = absurd (omega arith)
four (a ∷ []) h = absurd (omega arith)
four (a ∷ b ∷ []) h = absurd (omega arith)
four (a ∷ b ∷ c ∷ []) h = absurd (omega arith)
four (a ∷ b ∷ c ∷ d ∷ xs) h = omega arith

eight : (xs : List ℕ) → 8 ≤ length xs → big_number 8 xs ≡ spelled_number (take 8 xs)
eight [] h = absurd (omega arith)
eight (a ∷ []) h = absurd (omega arith)
eight (a ∷ b ∷ []) h = absurd (omega arith)
eight (a ∷ b ∷ c ∷ []) h = absurd (omega arith)
eight (a ∷ b ∷ c ∷ d ∷ []) h = absurd (omega arith)
eight (a ∷ b ∷ c ∷ d ∷ e ∷ []) h = absurd (omega arith)
eight (a ∷ b ∷ c ∷ d ∷ e ∷ f ∷ []) h = absurd (omega arith)
eight (a ∷ b ∷ c ∷ d ∷ e ∷ f ∷ g ∷ []) h = absurd (omega arith)
eight (a ∷ b ∷ c ∷ d ∷ e ∷ f ∷ g ∷ i ∷ xs) h = omega arith

-- a list is its own front
pub take_all : (xs : List ℕ) (n : ℕ) → length xs ≡ n → take n xs ≡ xs
take_all [] zero h = refl
take_all [] (suc n) h = absurd (omega (arith, h))
take_all (x ∷ xs) zero h = absurd (omega (arith, h))
take_all (x ∷ xs) (suc n) h = ap (λ (l : List ℕ). x ∷ l) (take_all xs n (omega (arith, h)))

-- all that stands from a place on
pub rest_is : (at : ℕ) (xs : List ℕ) → take (length xs - at) (drop at xs) ≡ drop at xs
rest_is at xs = take_all (drop at xs) (length xs - at) (length-drop at xs)

pub big_2 : (at : ℕ) (xs : List ℕ) → at + 2 ≤ length xs → big_number 2 (take (length xs - at) (drop at xs)) ≡ number_at 2 at xs
big_2 at xs h = ap (λ (l : List ℕ). big_number 2 l) (rest_is at xs) ∙ two (drop at xs) (omega (arith, length-drop at xs))

pub big_4 : (at : ℕ) (xs : List ℕ) → at + 4 ≤ length xs → big_number 4 (take (length xs - at) (drop at xs)) ≡ number_at 4 at xs
big_4 at xs h = ap (λ (l : List ℕ). big_number 4 l) (rest_is at xs) ∙ four (drop at xs) (omega (arith, length-drop at xs))

pub big_8 : (at : ℕ) (xs : List ℕ) → at + 8 ≤ length xs → big_number 8 (take (length xs - at) (drop at xs)) ≡ number_at 8 at xs
big_8 at xs h = ap (λ (l : List ℕ). big_number 8 l) (rest_is at xs) ∙ eight (drop at xs) (omega (arith, length-drop at xs))
