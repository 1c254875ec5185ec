-- How many distinct blocks lists have that share none.
use Rattle.std.proofs.Common.{◌≡◌, ℕ, ◌+◌, ◌==◌, Bool, true, false, ◌&&◌, ◌||◌, cond, List, [], ◌∷◌, ◌++◌, length, refl, sym, ◌∙◌, ap, arith}
use Rattle.std.proofs.lemmas.Bool.{eq-eqb}
use Rattle.std.proofs.lemmas.List.Folds.{list_any-append}
use Rattle.voice_units.specs.Blocks.{BlockPair, same_pair, has_pair, distinct}
use Rattle.voice_units.proofs.Distinct.{has_pair-distinct}

-- ---- one of two tests

pub either_way : (a b : Bool) {P : Type 0} → (a ≡ true → P) → (b ≡ true → P) → (a || b) ≡ true → P
either_way true b f g e = f refl
either_way false b f g e = g e

pub or_left : (a b : Bool) → a ≡ true → (a || b) ≡ true
or_left a b e = ap (λ x. x || b) e

pub or_right : (a b : Bool) → b ≡ true → (a || b) ≡ true
or_right true b e = refl
or_right false b e = e

or_none : (a b : Bool) → b ≡ false → (a || b) ≡ a
or_none true b e = refl
or_none false b e = e

-- ---- blocks

same_itself : (p : BlockPair) → same_pair p p ≡ true
same_itself p = ap (λ b. b && (p.index == p.index)) (eq-eqb p.file p.file refl) ∙ eq-eqb p.index p.index refl

-- one more in front, unless it is there
pub length_once : {A : Type 0} (there : Bool) (x : A) (xs : List A) → length (cond there xs (x ∷ xs)) ≡ cond there 0 1 + length xs
length_once true x xs = omega arith
length_once false x xs = omega arith

-- lists one after another
pub has_append : (ps qs : List BlockPair) (q : BlockPair) → has_pair (ps ++ qs) q ≡ (has_pair ps q || has_pair qs q)
has_append ps qs q = list_any-append (same_pair q) ps qs

-- lists without a common block
pub apart_count : (ps qs : List BlockPair) → ((q : BlockPair) → has_pair ps q ≡ true → has_pair qs q ≡ false) → length (distinct (ps ++ qs)) ≡ length (distinct ps) + length (distinct qs)
apart_count [] qs apart = omega arith
apart_count (p ∷ ps) qs apart =
    let rest = apart_count ps qs (λ q h. apart q (or_right (same_pair q p) (has_pair ps q) h)) in
    let there : has_pair (distinct (ps ++ qs)) p ≡ has_pair (distinct ps) p =
    has_pair-distinct (ps ++ qs) p
    ∙ has_append ps qs p
    ∙ or_none (has_pair ps p) (has_pair qs p) (apart p (or_left (same_pair p p) (has_pair ps p) (same_itself p)))
    ∙ sym (has_pair-distinct ps p) in
    length_once (has_pair (distinct (ps ++ qs)) p) p (distinct (ps ++ qs))
    ∙ ap (λ b. cond b 0 1 + length (distinct (ps ++ qs))) there
    ∙ ap (λ n. cond (has_pair (distinct ps) p) 0 1 + n) rest
    ∙ add_front (cond (has_pair (distinct ps) p) 0 1) (length (distinct ps)) (length (distinct qs))
    ∙ ap (λ n. n + length (distinct qs)) (sym (length_once (has_pair (distinct ps) p) p (distinct ps)))
  where
    add_front : (a m n : ℕ) → a + (m + n) ≡ a + m + n
    add_front a m n = omega arith
