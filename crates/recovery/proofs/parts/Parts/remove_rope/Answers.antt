use Rattle.std.proofs.Common.{◌≡◌, ℕ, ◌+◌, Bool, true, false, cond, List, [], ◌∷◌, refl, ◌∙◌, ap, arith}
use Rattle.voice_units.specs.declared.pieces.Piece.{Piece}
use Rattle.voice_units.specs.Spots.{spots_of}
use Rattle.voice_units.specs.Blocks.{BlockPair, has_pair, pairs_at}
use Rattle.voice_blocks.specs.Holders.{holder_at}
use Rattle.rope_table.specs.Table.{uses_at, uses_in, pair_of}
use Rattle.recovery.proofs.Freed.{freed_all}
use Rattle.recovery.proofs.parts.Parts.remove_rope.Goals as goal

-- a block whose last use went is one of the rope's
is_of_rope : (block after before : ℕ) (pieces : List Piece) (pair : BlockPair) → after + uses_in block (pieces ∷ []) pair ≡ before → after ≡ 0 → ¬ (before ≡ 0) → has_pair (pairs_at block (spots_of pieces)) pair ≡ true
is_of_rope block after before pieces pair uses gone some = by_test (has_pair (pairs_at block (spots_of pieces)) pair) refl
  where
    by_test : (b : Bool) → has_pair (pairs_at block (spots_of pieces)) pair ≡ b → b ≡ true
    by_test true e = refl
    by_test false e =
        let none : uses_in block (pieces ∷ []) pair ≡ 0 = ap (λ b. cond b 1 0 + 0) e in
        absurd (some (omega (arith, uses, gone, none)))

pub returns-in_default-clause-holders : goal.returns-in_default-clause-holders
returns-in_default-clause-holders c = λ was a.
    freed_all c.args.self.now.ropes c.remove.new.self (holder_at c.args.self.now.blocks.holders a) (holder_at c.args.self.now.blocks.holders a) (was a) refl (λ h e. e)
    (λ file index zero some. let uses = c.in_default.ensures.uses (pair_of file index) in absurd (some (omega (arith, uses, zero))))

pub returns-clause-holders : goal.returns-clause-holders
returns-clause-holders c = λ was a.
    freed_all c.args.self.now.ropes c.remove.new.self (holder_at c.args.self.now.blocks.holders a) (holder_at c.free_unused.new.blocks.holders a) (was a) (c.free_unused.ensures.only a) (c.free_unused.ensures.held a)
    (λ file index zero some.
    let pair = pair_of file index in
    let has = is_of_rope c.args.self.now.ropes.block (uses_at c.remove.new.self pair) (uses_at c.args.self.now.ropes pair) c.in-Some.pieces pair (c.in-Some.ensures.uses pair) zero some in
    c.free_unused.ensures.gone a pair (ap (λ n. has_pair (pairs_at n (spots_of c.in-Some.pieces)) pair) c.remove.ensures.block ∙ has) zero)
