-- Parts that are appended one after the other.
use Rattle.std.proofs.Common.{◌≡◌, ℕ, List, ◌++◌, ap, ◌∙◌, append_assoc}

pub joined2 : (o a b o1 o2 : List ℕ) → o1 ≡ o ++ a → o2 ≡ o1 ++ b → o2 ≡ o ++ (a ++ b)
joined2 o a b o1 o2 h1 h2 = h2 ∙ ap (λ (l : List ℕ). l ++ b) h1 ∙ append_assoc o a b

pub joined3 : (o a b c o1 o2 o3 : List ℕ) → o1 ≡ o ++ a → o2 ≡ o1 ++ b → o3 ≡ o2 ++ c → o3 ≡ o ++ (a ++ b ++ c)
joined3 o a b c o1 o2 o3 h1 h2 h3 = joined2 o (a ++ b) c o2 o3 (joined2 o a b o1 o2 h1 h2) h3

pub joined4 : (o a b c d o1 o2 o3 o4 : List ℕ) → o1 ≡ o ++ a → o2 ≡ o1 ++ b → o3 ≡ o2 ++ c → o4 ≡ o3 ++ d → o4 ≡ o ++ (a ++ b ++ c ++ d)
joined4 o a b c d o1 o2 o3 o4 h1 h2 h3 h4 = joined2 o (a ++ b ++ c) d o3 o4 (joined3 o a b c o1 o2 o3 h1 h2 h3) h4

pub joined5 : (o a b c d e o1 o2 o3 o4 o5 : List ℕ) → o1 ≡ o ++ a → o2 ≡ o1 ++ b → o3 ≡ o2 ++ c → o4 ≡ o3 ++ d → o5 ≡ o4 ++ e → o5 ≡ o ++ (a ++ b ++ c ++ d ++ e)
joined5 o a b c d e o1 o2 o3 o4 o5 h1 h2 h3 h4 h5 = joined2 o (a ++ b ++ c ++ d) e o4 o5 (joined4 o a b c d o1 o2 o3 o4 h1 h2 h3 h4) h5
