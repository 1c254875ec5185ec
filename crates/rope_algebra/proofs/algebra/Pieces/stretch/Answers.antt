use Rattle.std.proofs.Common.{ℕ, [], ◌∷◌, ◌<◌, ◌∙◌, sym, ap, subst, arith, drop, length, get_or, slice_get, List}
use Rattle.voice_units.specs.declared.pieces.Piece.{Piece}
use Rattle.voice_units.specs.Spots.{samples_in, spots_of}
use Rattle.rope_algebra.specs.Kept.{IsFirstStretch, IsRope, first_len}
use Rattle.std.proofs.lemmas.List.{drop_more}
use Rattle.rope_algebra.proofs.Firsts.{is_first, no_first}
use Rattle.rope_algebra.proofs.algebra.Pieces.stretch.Goals as goal
use Rattle.rope_algebra.proofs.algebra.Pieces.stretch.Goals.{After-stretch_of}

pub returns-then-at-self-clause-value : goal.returns-then-at-self-clause-value
returns-then-at-self-clause-value c = sym (ap (λ l. slice_get l 0) (no_first c.args.block c.args.at c.args.self.now (c.if-at-self.true ∙ c.self.invariant.total ∙ ap samples_in c.self.view_is)))

some : (ps : List Piece) (n : ℕ) → n < first_len ps → 0 < length ps
some [] n h = absurd (omega (arith, h))
some (p ∷ ps) n h = omega arith

first : (c : After-stretch_of) → IsFirstStretch c.args.block c.args.at c.args.self.now c.stretch_of.result
first c =
    let found = c.rest_at-rest in
    let own = c.deref.ensures.value ∙ c.self.view_is in
    let near : c.args.at < samples_in c.deref.result.now = let total = c.self.invariant.total ∙ ap samples_in (sym c.deref.ensures.value) in omega (arith, total, c.requires.at, ap samples_in own, c.if-at-self.false) in
    let skip = found.ensures.near near in
    let p = get_or found.result.pieces.now 0 c.index-rest-0.result in
    let split = drop_more found.result.pieces.now 0 c.index-rest-0.result (some found.result.pieces.now found.result.skip skip) in
    let rope = subst IsRope split found.ensures.rope in
    is_first c.args.block c.args.at c.args.self.now p (drop 1 found.result.pieces.now) found.result.skip c.stretch_of.result rope.normal rope.ends.0 c.requires.block c.requires.at
    (let more = ap first_len split in omega (arith, more, skip))
    (sym (ap (λ l. drop found.result.skip (spots_of l)) split) ∙ found.ensures.spots ∙ ap (λ l. drop c.args.at (spots_of l)) own) c.stretch_of.ensures.file c.stretch_of.ensures.from c.stretch_of.ensures.len

pub returns-clause-first : goal.returns-clause-first
returns-clause-first c = first (goal.at.returns-clause-first c).After-stretch_of

pub returns-clause-value : goal.returns-clause-value
returns-clause-value c = sym (ap (λ l. slice_get l 0) (first (goal.at.returns-clause-value c).After-stretch_of).rest)
