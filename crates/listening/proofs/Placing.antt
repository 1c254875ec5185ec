-- The blocks of one sample more have addresses.
use Rattle.std.proofs.Common.{◌≡◌, ℕ, zero, suc, ◌+◌, ◌/◌, ◌⊎◌, inl, inr, Bool, true, false, ◌&&◌, ◌||◌, ◌==◌, List, [], ◌∷◌, ◌++◌, take, drop, refl, sym, ◌∙◌, ap, ap₂, subst, arith}
use Rattle.std.proofs.lemmas.Bool.{eqb-true}
use Rattle.std.proofs.Math.Seq.{take-add}
use Rattle.voice_units.specs.declared.pieces.Piece.{Piece}
use Rattle.voice_units.specs.Spots.{Spot, spots_from, spots_of}
use Rattle.voice_units.specs.Blocks.{BlockPair, same_pair, pair_at, pairs_at, has_pair}
use Rattle.voice_blocks.specs.Holders.{Holders}
use Rattle.rope_algebra.specs.Kept.{IsFirstStretch}
use Rattle.listening.specs.Heard.{HasPlace, HavePlaces, pair_of}

pub none_placed : (block : ℕ) (holders : Holders) → HavePlaces block holders []
none_placed block holders pair h = cc

one_pair : (p q : BlockPair) (u v : Bool) → (p.file == q.file) ≡ u → (p.index == q.index) ≡ v → (u && v) ≡ true → p ≡ q
one_pair p q true true e f h = ap₂ (λ file index. record { file = file; index = index }) (eqb-true p.file q.file e) (eqb-true p.index q.index f)
one_pair p q true false e f h = cc
one_pair p q false v e f h = cc

among : (block : ℕ) (ss : List Spot) (s : Spot) (pair : BlockPair) → has_pair (pairs_at block (ss ++ s ∷ [])) pair ≡ true → (has_pair (pairs_at block ss) pair ≡ true) ⊎ (pair ≡ pair_at block s)
among block [] s pair h = by (same_pair pair (pair_at block s)) refl h
  where
    by : (b : Bool) → same_pair pair (pair_at block s) ≡ b → (b || false) ≡ true → (false ≡ true) ⊎ (pair ≡ pair_at block s)
    by true e h = inr (one_pair pair (pair_at block s) (pair.file == s.file) (pair.index == s.place / block) refl refl e)
    by false e h = inl h
among block (t ∷ ss) s pair h = by (same_pair pair (pair_at block t)) (among block ss s pair) h
  where
    by : (b : Bool) → (has_pair (pairs_at block (ss ++ s ∷ [])) pair ≡ true → (has_pair (pairs_at block ss) pair ≡ true) ⊎ (pair ≡ pair_at block s)) → (b || has_pair (pairs_at block (ss ++ s ∷ [])) pair) ≡ true → ((b || has_pair (pairs_at block ss) pair) ≡ true) ⊎ (pair ≡ pair_at block s)
    by true rest h = inl refl
    by false rest h = rest h

next_one : (ss rest : List Spot) (s : Spot) (n : ℕ) → take (suc n) ss ≡ s ∷ rest → take 1 ss ≡ s ∷ []
next_one [] rest s n e = cc
next_one (t ∷ ss) rest s n e = let one : t ≡ s = cc in ap (λ x. x ∷ []) one

pub one_more_placed : (block : ℕ) (holders : Holders) (ps : List Piece) (at : ℕ) (s : Piece) → HavePlaces block holders (take at (spots_of ps)) → IsFirstStretch block at ps s → HasPlace holders (pair_of block s) → HavePlaces block holders (take (at + 1) (spots_of ps))
one_more_placed block holders ps at s before first here = by s.len refl
  where
    here_too : (pair : BlockPair) → (has_pair (pairs_at block (take at (spots_of ps))) pair ≡ true) ⊎ (pair ≡ pair_of block s) → HasPlace holders pair
    here_too pair (inl h) = before pair h
    here_too pair (inr e) = subst (HasPlace holders) (sym e) here

    by : (n : ℕ) → s.len ≡ n → HavePlaces block holders (take (at + 1) (spots_of ps))
    by zero e = absurd (omega (arith, first.some))
    by (suc n) e =
        let spot : Spot = record { file = s.file; place = s.from } in
        let next = next_one (drop at (spots_of ps)) (spots_from s.file (s.from + 1) n) spot n (ap (λ k. take k (drop at (spots_of ps))) (sym e) ∙ first.spots ∙ ap (spots_from s.file s.from) e) in
        let all : take (at + 1) (spots_of ps) ≡ take at (spots_of ps) ++ spot ∷ [] = take-add at 1 (spots_of ps) ∙ ap (λ l. take at (spots_of ps) ++ l) next in
        λ pair h. here_too pair (among block (take at (spots_of ps)) spot pair (ap (λ l. has_pair (pairs_at block l) pair) (sym all) ∙ h))
