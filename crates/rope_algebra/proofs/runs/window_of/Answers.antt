use Rattle.std.proofs.Common.{◌+◌, ◌-◌, sym, subst, inl, inr, arith, drop, zero-add, ℕ}
use Rattle.std.proofs.lemmas.List.{drop_all}
use Rattle.voice_units.specs.Spots.{spots_of}
use Rattle.voice_units.specs.Spots as spots
use Rattle.rope_algebra.proofs.Stretched.{IsPartWindow, at_piece, one_further, window_of_none, window_fits}
use Rattle.rope_algebra.proofs.runs.window_of.Goals as goal
use Rattle.rope_algebra.proofs.runs.window_of.Goals.{After-first_stretches-first}

pub loop-piece-init : goal.loop-piece-init
loop-piece-init c = record {
  normal = c.requires.rope.normal;
  ends = c.requires.rope.ends;
  sum = zero-add (spots.window c.args.block (spots_of c.args.pieces.now) c.args.heard);
}

further : (c : After-first_stretches-first) → IsPartWindow c.args.block c.args.pieces.now (drop (c.loop-piece.piece-index + 1) c.args.pieces.now) c.args.heard (c.loop-piece.skip - c.piece-item.result.len) (c.loop-piece.most - c.first_stretches-first.result.count) (c.loop-piece.samples + c.first_stretches-first.result.samples)
further c =
    let part = c.part_of-part in
    let first = c.first_stretches-first in
    one_further c.args.block c.args.pieces.now (drop (c.loop-piece.piece-index + 1) c.args.pieces.now) c.piece-item.result part.result c.args.heard c.loop-piece.skip c.loop-piece.most c.loop-piece.samples first.result.count first.result.samples
    (at_piece c.args.block c.args.pieces.now c.args.pieces.now c.loop-piece.piece-index c.piece-item.result c.args.heard c.loop-piece.skip c.loop-piece.most c.loop-piece.samples c.loop-piece-test.true c.piece-item.is c.loop-piece.invariant)
    part.ensures.file part.ensures.from part.ensures.len part.ensures.spots (first.ensures.count part.result.file) (first.ensures.samples part.result.file)

pub loop-piece-preserved : goal.loop-piece-preserved
loop-piece-preserved c =
    subst (λ (skip : ℕ). IsPartWindow c.args.block c.args.pieces.now (drop (c.loop-piece.piece-index + 1) c.args.pieces.now) c.args.heard skip (c.loop-piece.most - c.first_stretches-first.result.count) (c.loop-piece.samples + c.first_stretches-first.result.samples))
    (sym c.saturating_sub-skip.ensures) (further (goal.at.loop-piece-preserved c).After-first_stretches-first)

pub overflow_add-samples : goal.overflow_add-samples
overflow_add-samples c =
    let all = (further (goal.at.overflow_add-samples c).After-first_stretches-first).sum in
    let fits = window_fits c.args.block c.args.pieces.now c.args.heard c.requires.heard in
    omega (arith, all, fits, c.requires.rope.total)

pub part_of-part-requires : goal.part_of-part-requires
part_of-part-requires c = (at_piece c.args.block c.args.pieces.now c.args.pieces.now c.loop-piece.piece-index c.piece-item.result c.args.heard c.loop-piece.skip c.loop-piece.most c.loop-piece.samples c.loop-piece-test.true c.piece-item.is c.loop-piece.invariant).ends.0

pub first_stretches-first-requires-clause-end : goal.first_stretches-first-requires-clause-end
first_stretches-first-requires-clause-end c =
    let ends = (at_piece c.args.block c.args.pieces.now c.args.pieces.now c.loop-piece.piece-index c.piece-item.result c.args.heard c.loop-piece.skip c.loop-piece.most c.loop-piece.samples c.loop-piece-test.true c.piece-item.is c.loop-piece.invariant).ends.0 in
    omega (arith, ends, c.part_of-part.ensures.end)

pub returns-then-most-eq0 : goal.returns-then-most-eq0
returns-then-most-eq0 c = window_of_none c.args.block c.args.pieces.now _ c.args.heard c.loop-piece.skip c.loop-piece.most c.loop-piece.samples (inl c.if-most-eq0.true) c.loop-piece.invariant

pub returns : goal.returns
returns c =
    window_of_none c.args.block c.args.pieces.now _ c.args.heard c.loop-piece.skip c.loop-piece.most c.loop-piece.samples (inr (drop_all c.loop-piece.piece-index c.args.pieces.now c.loop-piece-test.false)) c.loop-piece.invariant
