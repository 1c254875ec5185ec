-- The words that ask for a generated script.
use Rattle.std.proofs.Common.{◌≡◌, ℕ, ◌≤◌, ◌<◌, ◌^◌, ◌⊎◌, inl, inr, List, [], ◌∷◌, Some, None, sym, ◌∙◌, ap, arith}
use Rattle.std.specs.Prelude.{codes}
use Rattle.std.specs.Fmt.{decimal}
use Rattle.script_lang.specs.Numbers.{number_at_most}
use Rattle.script_lang.proofs.Digits.{number-again, number-found}
use Rattle.voice_main.specs.Words.{IsMake}

third : (verb seed lines : List ℕ) (a b : ℕ) → IsMake (verb ∷ seed ∷ lines ∷ []) a b → lines ≡ decimal b
third verb seed lines a b h = let e : verb ∷ seed ∷ lines ∷ [] ≡ codes "make" ∷ decimal a ∷ decimal b ∷ [] = h.form in cc

-- how many lines there are, as the word is read
read_lines : (verb seed lines : List ℕ) (a b : ℕ) → IsMake (verb ∷ seed ∷ lines ∷ []) a b → number_at_most 4294967295 lines ≡ Some b
read_lines verb seed lines a b h = let most = h.most in ap (number_at_most 4294967295) (third verb seed lines a b h) ∙ number-again 4294967295 b (omega arith) (omega (arith, most))

pub no_number : (verb seed lines : List ℕ) → number_at_most 4294967295 lines ≡ None → (a b : ℕ) → IsMake (verb ∷ seed ∷ lines ∷ []) a b → ⊥
no_number verb seed lines none a b h = let e : None ≡ Some b = sym none ∙ read_lines verb seed lines a b h in cc

pub not_so_many : (verb seed lines : List ℕ) (n : ℕ) → number_at_most 4294967295 lines ≡ Some n → (n < 1) ⊎ ((1 ≤ n) × (65535 < n)) → (a b : ℕ) → IsMake (verb ∷ seed ∷ lines ∷ []) a b → ⊥
not_so_many verb seed lines n is out a b h = by out
  where
    same : n ≡ b
    same = let e : Some n ≡ Some b = sym is ∙ read_lines verb seed lines a b h in cc

    by : (n < 1) ⊎ ((1 ≤ n) × (65535 < n)) → ⊥
    by (inl few) = let least = h.least in absurd (omega (arith, few, least, same))
    by (inr many) = let most = h.most in absurd (omega (arith, many, most, same))

pub says_make : (verb seed lines : List ℕ) (a b : ℕ) → verb ≡ codes "make" → seed ≡ decimal a → a < 2 ^ 64 → number_at_most 4294967295 lines ≡ Some b → 1 ≤ b → b ≤ 65535 → IsMake (verb ∷ seed ∷ lines ∷ []) a b
says_make verb seed lines a b is_make is_seed fits is_lines least most = record {
  form = ap (λ v. v ∷ seed ∷ lines ∷ []) is_make ∙ ap (λ v. codes "make" ∷ v ∷ lines ∷ []) is_seed ∙ ap (λ v. codes "make" ∷ decimal a ∷ v ∷ []) (number-found 4294967295 b lines (omega arith) is_lines).0;
  seed_most = fits;
  least = least;
  most = most;
}
