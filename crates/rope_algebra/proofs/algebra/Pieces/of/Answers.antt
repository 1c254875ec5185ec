use Rattle.std.proofs.Common.{subst, ◌≡◌, length, arith}
use Rattle.std.proofs.lemmas.List.{drop_all}
use Rattle.std.specs.Prelude.{IfOk}
use Rattle.voice_units.specs.Spots.{spots_of}
use Rattle.rope_algebra.proofs.Joins.{Names, gathered_all, are_pieces_of, are_counted}
use Rattle.rope_algebra.proofs.algebra.Pieces.of.Goals as goal
use Rattle.rope_algebra.proofs.algebra.Pieces.of.Goals.{After-loop-piece}

whole : (c : After-loop-piece) → Names c.loop-piece.pieces.items (spots_of c.args.list.now) × (c.loop-piece.length ≡ length (spots_of c.args.list.now))
whole c = gathered_all c.loop-piece.pieces.items c.args.list.now _ c.loop-piece.length (drop_all c.loop-piece.piece-index c.args.list.now c.loop-piece-test.false) c.loop-piece.invariant

pub placed-requires : goal.placed-requires
placed-requires c =
    let w = whole c in
    are_counted c.loop-piece.pieces.items (spots_of c.args.list.now) c.loop-piece.length w.0 w.1 (omega arith)

pub returns : goal.returns
returns c = subst (λ ps. IfOk c.placed.result (λ rope. rope ≡ ps)) (are_pieces_of c.loop-piece.pieces.items (spots_of c.args.list.now) ((whole (goal.at.returns c).After-loop-piece).0)) c.placed.ensures
