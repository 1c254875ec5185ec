-- Lists that were appended to one another.
use Rattle.std.proofs.Common.{◌≡◌, ℕ, List, ◌++◌, ap, ◌∙◌, append_assoc}

-- four lists appended are one
pub appended : (o a b d p q t s : List ℕ) (e : List ℕ) → a ≡ o ++ p → b ≡ a ++ q → d ≡ b ++ t → e ≡ d ++ s → e ≡ o ++ (p ++ (q ++ (t ++ s)))
appended o a b d p q t s e ha hb hd he =
    he ∙ ap (λ (l : List ℕ). l ++ s) (hd ∙ ap (λ (l : List ℕ). l ++ t) (hb ∙ ap (λ (l : List ℕ). l ++ q) ha))
    ∙ append_assoc ((o ++ p) ++ q) t s ∙ append_assoc (o ++ p) q (t ++ s) ∙ append_assoc o p (q ++ (t ++ s))
