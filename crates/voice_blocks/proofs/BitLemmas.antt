-- Bits of words after a write.
use Rattle.std.proofs.Common.{◌≡◌, ◌≢◌, ◌⊎◌, ⊎_elim, inl, inr, true, false, refl, nat_lt as ltb, ℕ, ◌+◌, ◌-◌, ◌*◌, ◌/◌, ◌%◌, ◌^◌, ◌<◌, ◌≤◌, List, length, get_or, ap, sym, ◌∙◌, arith}
use Rattle.std.proofs.Math.ListN.{set}
use Rattle.std.proofs.lemmas.List.{get_or-set_same, get_or-set_other, get_or_default}
use Rattle.std.proofs.lemmas.Bool.{cases_eq, ltb-true, ltb-false}
use Rattle.std.proofs.Math.Nat.{div-add-mod}
use Rattle.std.specs.Int.{bit_at, bit_not, trailing_ones}
use Rattle.std.specs.Prelude.{bit_and, bit_or}
use Rattle.std.specs.Int.{w64}
use Rattle.std.proofs.lemmas.Nat.Bits.{bit_at_set_same, bit_at_set_other, bit_at_clear_same, bit_at_clear_other, bit_at_ones, bit_at-trailing_ones}
use Rattle.voice_blocks.specs.Bits.{bit_of, AreFull}

low : (k : ℕ) → k % 64 < 64
low k = omega arith

-- another number of the same word has another bit
other_bit : (j k : ℕ) → j ≢ k → j / 64 ≡ k / 64 → j % 64 ≢ k % 64
other_bit j k apart same = λ e. apart (sym (div-add-mod j 64) ∙ ap (λ q. 64 * q + j % 64) same ∙ ap (λ r. 64 * (k / 64) + r) e ∙ div-add-mod k 64)

module _ (words : List ℕ) (k word : ℕ) (within : k / 64 < length words) where
  -- a word with a bit of its own after a write
  same_word : (v : ℕ) → bit_of (set words (k / 64) v) k ≡ bit_at v (k % 64)
  same_word v = ap (λ w. bit_at w (k % 64)) (get_or-set_same words (k / 64) v 0 within)

  other_word : (v j : ℕ) → j / 64 ≢ k / 64 → bit_of (set words (k / 64) v) j ≡ bit_of words j
  other_word v j apart = ap (λ w. bit_at w (j % 64)) (get_or-set_other words (k / 64) (j / 64) v 0 apart)

  beside : (v j : ℕ) → j / 64 ≡ k / 64 → bit_of (set words (k / 64) v) j ≡ bit_at v (j % 64)
  beside v j same = ap (λ q. bit_at (get_or (set words (k / 64) v) q 0) (j % 64)) same ∙ ap (λ w. bit_at w (j % 64)) (get_or-set_same words (k / 64) v 0 within)

  module _ (read : word ≡ get_or words (k / 64) word) where
    is : word ≡ get_or words (k / 64) 0
    is = read ∙ get_or_default words (k / 64) word 0 within

    there : (j : ℕ) → j / 64 ≡ k / 64 → bit_at word (j % 64) ≡ bit_of words j
    there j same = ap (λ w. bit_at w (j % 64)) (is ∙ ap (λ q. get_or words q 0) (sym same))

    pub bit_of-insert_same : bit_of (set words (k / 64) (bit_or word (1 * 2 ^ (k % 64) % 2 ^ 64))) k ≡ 1
    bit_of-insert_same = same_word (bit_or word (1 * 2 ^ (k % 64) % 2 ^ 64)) ∙ bit_at_set_same w64 word (k % 64) (low k)

    pub bit_of-insert_other : (j : ℕ) → j ≢ k → bit_of (set words (k / 64) (bit_or word (1 * 2 ^ (k % 64) % 2 ^ 64))) j ≡ bit_of words j
    bit_of-insert_other j apart =
        let v = bit_or word (1 * 2 ^ (k % 64) % 2 ^ 64) in
        ⊎_elim (λ same. beside v j same ∙ bit_at_set_other w64 word (k % 64) (low k) (j % 64) (other_bit j k apart same) ∙ there j same) (λ other. other_word v j other) (cases_eq (j / 64) (k / 64))

    pub bit_of-remove_same : bit_of (set words (k / 64) (bit_and word (bit_not w64 (1 * 2 ^ (k % 64) % 2 ^ 64)))) k ≡ 0
    bit_of-remove_same = same_word (bit_and word (bit_not w64 (1 * 2 ^ (k % 64) % 2 ^ 64))) ∙ bit_at_clear_same w64 word (k % 64) (low k)

    pub bit_of-remove_other : (j : ℕ) → j ≢ k → bit_of (set words (k / 64) (bit_and word (bit_not w64 (1 * 2 ^ (k % 64) % 2 ^ 64)))) j ≡ bit_of words j
    bit_of-remove_other j apart =
        let v = bit_and word (bit_not w64 (1 * 2 ^ (k % 64) % 2 ^ 64)) in
        ⊎_elim (λ same. beside v j same ∙ bit_at_clear_other w64 word (k % 64) (low k) (j % 64) (low j) (other_bit j k apart same) ∙ there j same) (λ other. other_word v j other) (cases_eq (j / 64) (k / 64))

-- a word below the hint isn't written
pub full_stays : (words : List ℕ) (hint k v : ℕ) → AreFull words hint → bit_of words k ≡ 0 → AreFull (set words (k / 64) v) hint
full_stays words hint k v full out w below =
    let apart : w ≢ k / 64 = λ e. absurd (let one : bit_of words k ≡ 1 = ap (λ x. bit_at x (k % 64)) (ap (λ q. get_or words q 0) (sym e) ∙ full w below) ∙ bit_at_ones 64 (k % 64) (low k) in omega (arith, one, out)) in
    get_or-set_other words (k / 64) w v 0 apart ∙ full w below

-- each number in a full word is in
pub full_bits : (words : List ℕ) (hint : ℕ) → AreFull words hint → (k : ℕ) → k < 64 * hint → bit_of words k ≡ 1
full_bits words hint full k below =
    let within : k / 64 < hint = omega arith in
    ap (λ x. bit_at x (k % 64)) (full (k / 64) within) ∙ bit_at_ones 64 (k % 64) (low k)

below_or : (k n : ℕ) → (k < n) ⊎ (n ≤ k)
below_or k n = elim (ltb k n) as (λ b. ltb k n ≡ b → (k < n) ⊎ (n ≤ k)) [ true ↦ λ e. inl (ltb-true k n e) | false ↦ λ e. inr (ltb-false k n e) ] refl

-- one full word more
pub full_more : (words : List ℕ) (hint : ℕ) → AreFull words hint → get_or words hint 0 ≡ 2 ^ 64 - 1 → AreFull words (hint + 1)
full_more words hint full this w below = ⊎_elim (λ e. ap (λ q. get_or words q 0) e ∙ this) (λ apart. full w (omega arith)) (cases_eq w hint)

-- the lowest number of the first word that isn't full
pub lowest_at : (words : List ℕ) (hint word a : ℕ) → AreFull words hint → hint < length words → word ≡ get_or words hint word → word < 2 ^ 64 → word ≢ 2 ^ 64 - 1 → a ≡ 64 * hint + trailing_ones w64 word
    → (a < 64 * length words) × (bit_of words a ≡ 0) × ((k : ℕ) → k < a → bit_of words k ≡ 1)
lowest_at words hint word a full within read fits unfull is =
    let out = bit_at-trailing_ones w64 word (omega arith) in
    let t : ℕ = trailing_ones w64 word in
    let few : t < 64 = out.0 in
    let at : word ≡ get_or words hint 0 = read ∙ get_or_default words hint word 0 within in
    let high : a / 64 ≡ hint = omega arith in
    let rest : a % 64 ≡ t = omega arith in (
      omega arith,
      ap (λ q. bit_at (get_or words q 0) (a % 64)) high ∙ ap (λ w. bit_at w (a % 64)) (sym at) ∙ ap (bit_at word) rest ∙ out.1,
      λ k below. ⊎_elim (λ under. full_bits words hint full k under)
          (λ over. let same : k / 64 ≡ hint = omega arith in let before : k % 64 < t = omega arith in
          ap (λ q. bit_at (get_or words q 0) (k % 64)) same ∙ ap (λ w. bit_at w (k % 64)) (sym at) ∙ out.2 (k % 64) before)
          (below_or k (64 * hint)),
    )
