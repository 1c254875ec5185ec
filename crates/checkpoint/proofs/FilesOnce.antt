-- The files of blocks, each once.
use Rattle.std.proofs.Common.{◌≡◌, ℕ, ◌==◌, Bool, true, false, ◌||◌, cond, List, [], ◌∷◌, map, refl, sym, ◌∙◌, ap}
use Rattle.std.proofs.lemmas.Bool.{eqb-true, eq-eqb}
use Rattle.voice_units.specs.Blocks.{BlockPair, same_pair, has_pair, distinct}
use Rattle.voice_units.proofs.Distinct.{same_pair-true}
use Rattle.voice_model.specs.State.{among}
use Rattle.voice_model.specs.Changes.{each_once}
use Rattle.rope_table.specs.Table.{has_file, files_of}

-- the files of blocks, one by one
abbrev file_numbers : List BlockPair → List ℕ
file_numbers pairs = map (λ pair. pair.file) pairs

-- numbers each once are the same numbers
among_once : (ns : List ℕ) (n : ℕ) → among (each_once ns) n ≡ among ns n
among_once [] n = refl
among_once (m ∷ ns) n = by (among (each_once ns) m) refl (m == n) refl (among_once ns n)
  where
    by : (b : Bool) → among (each_once ns) m ≡ b → (c : Bool) → (m == n) ≡ c → among (each_once ns) n ≡ among ns n → among (cond (among (each_once ns) m) (each_once ns) (m ∷ each_once ns)) n ≡ ((m == n) || among ns n)
    by false e c f rest = ap (λ b. among (cond b (each_once ns) (m ∷ each_once ns)) n) e ∙ ap (λ b. (m == n) || b) rest
    by true e false f rest = ap (λ b. among (cond b (each_once ns) (m ∷ each_once ns)) n) e ∙ rest ∙ sym (ap (λ b. b || among ns n) f)
    by true e true f rest = ap (λ b. among (cond b (each_once ns) (m ∷ each_once ns)) n) e ∙ ap (among (each_once ns)) (sym (eqb-true m n f)) ∙ e ∙ sym (ap (λ b. b || among ns n) f)

has_file_is : (pairs : List BlockPair) (n : ℕ) → has_file pairs n ≡ among (file_numbers pairs) n
has_file_is [] n = refl
has_file_is (pair ∷ pairs) n = ap (λ b. (pair.file == n) || b) (has_file_is pairs n)

files_are : (pairs : List BlockPair) → files_of pairs ≡ each_once (file_numbers pairs)
files_are [] = refl
files_are (pair ∷ pairs) =
    ap (λ l. cond (has_file pairs pair.file) l (pair.file ∷ l)) (files_are pairs)
    ∙ ap (λ b. cond b (each_once (file_numbers pairs)) (pair.file ∷ each_once (file_numbers pairs))) (has_file_is pairs pair.file ∙ sym (among_once (file_numbers pairs) pair.file))

either : (a b : Bool) → b ≡ true → (a || b) ≡ true
either true b e = refl
either false b e = e

-- a block's file is one of the files
file_there : (pairs : List BlockPair) (p : BlockPair) → has_pair pairs p ≡ true → among (file_numbers pairs) p.file ≡ true
file_there [] p e = cc
file_there (q ∷ pairs) p e = by (same_pair p q) refl (file_there pairs p) e
  where
    by : (b : Bool) → same_pair p q ≡ b → (has_pair pairs p ≡ true → among (file_numbers pairs) p.file ≡ true) → (b || has_pair pairs p) ≡ true → ((q.file == p.file) || among (file_numbers pairs) p.file) ≡ true
    by true f rest k = ap (λ b. b || among (file_numbers pairs) p.file) (eq-eqb q.file p.file (ap (λ (r : BlockPair). r.file) (sym (same_pair-true p q f))))
    by false f rest k = either (q.file == p.file) (among (file_numbers pairs) p.file) (rest k)

once_more : (p : BlockPair) (pairs : List BlockPair) (b : Bool) → has_pair pairs p ≡ b → each_once (file_numbers (cond b pairs (p ∷ pairs))) ≡ cond (among (each_once (file_numbers pairs)) p.file) (each_once (file_numbers pairs)) (p.file ∷ each_once (file_numbers pairs))
once_more p pairs false e = refl
once_more p pairs true e = sym (ap (λ b. cond b (each_once (file_numbers pairs)) (p.file ∷ each_once (file_numbers pairs))) (among_once (file_numbers pairs) p.file ∙ file_there pairs p e))

each_distinct : (pairs : List BlockPair) → each_once (file_numbers (distinct pairs)) ≡ each_once (file_numbers pairs)
each_distinct [] = refl
each_distinct (p ∷ pairs) =
    once_more p (distinct pairs) (has_pair (distinct pairs) p) refl
    ∙ ap (λ l. cond (among l p.file) l (p.file ∷ l)) (each_distinct pairs)

-- the files of blocks are those of the blocks each once
pub files_once : (pairs : List BlockPair) → each_once (map (λ pair. pair.file) (distinct pairs)) ≡ files_of pairs
files_once pairs = each_distinct pairs ∙ sym (files_are pairs)
