use Rattle.std.proofs.Common.{◌≡◌, subst, sym, arith}
use Rattle.std.specs.Prelude.{IfOk}
use Rattle.voice_units.specs.Spots.{spots_in}
use Rattle.voice_units.proofs.PiecesOfRopes.{length-spots_from}
use Rattle.rope_algebra.proofs.Joins.{from_nothing, are_pieces_of, are_counted}
use Rattle.rope_algebra.proofs.algebra.Pieces.one.Goals as goal

pub placed-requires : goal.placed-requires
placed-requires c =
    let p = c.args.piece in
    are_counted c.join.new.pieces.items (spots_in p) p.len (from_nothing c.in_ok-pieces.pieces.items c.join.new.pieces.items (spots_in p) c.in_ok-pieces.ensures c.in_ok-join.ensures) (sym (length-spots_from p.file p.from p.len)) (omega arith)

pub returns : goal.returns
returns c = subst (λ ps. IfOk c.placed.result (λ rope. rope ≡ ps)) (are_pieces_of c.join.new.pieces.items (spots_in c.args.piece) (from_nothing c.in_ok-pieces.pieces.items c.join.new.pieces.items (spots_in c.args.piece) c.in_ok-pieces.ensures c.in_ok-join.ensures)) c.placed.ensures
