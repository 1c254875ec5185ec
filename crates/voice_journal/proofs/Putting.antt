-- Bytes put one behind the other.
use Rattle.std.proofs.Common.{◌≡◌, ℕ, ◌+◌, List, ◌++◌, length, take, ap, sym, ◌∙◌, arith}

-- what is put first is the front
pub put_first : (new xs spelled : List ℕ) (n : ℕ) → take (0 + length xs) new ≡ xs → xs ≡ spelled → length spelled ≡ n → take n new ≡ spelled
put_first new xs spelled n put is size =
    let m : 0 + length xs ≡ n = omega (arith, ap length is, size) in
    ap (λ (k : ℕ). take k new) (sym m) ∙ put ∙ is

-- what is known of the front grows by what is put behind it
pub put_next : (old new xs front spelled : List ℕ) (at n : ℕ) → take (at + length xs) new ≡ take at old ++ xs → take at old ≡ front → xs ≡ spelled → at + length spelled ≡ n → take n new ≡ front ++ spelled
put_next old new xs front spelled at n put before is size =
    let m : at + length xs ≡ n = ap (λ (l : List ℕ). at + length l) is ∙ size in
    ap (λ (k : ℕ). take k new) (sym m) ∙ put ∙ ap (λ (l : List ℕ). l ++ xs) before ∙ ap (λ (l : List ℕ). front ++ l) is
