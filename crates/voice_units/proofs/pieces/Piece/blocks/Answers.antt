use Rattle.std.proofs.Common.{◌≡◌, ◌+◌, ◌-◌, ◌/◌, ◌≤◌, sym, ◌∙◌, ap, arith}
use Rattle.voice_units.specs.Blocks.{pairs_at, has_pair, in_run}
use Rattle.voice_units.proofs.Runs.{run_of}
use Rattle.voice_units.proofs.pieces.Piece.blocks.Goals as goal

pub returns-clause-blocks : goal.returns-clause-blocks
returns-clause-blocks c = λ pair.
    let piece = c.args.self in
    let long : 1 ≤ piece.len = omega (arith, c.if-self-eq0.false) in
    run_of c.args.block piece pair c.requires.some long
    ∙ ap (λ n. in_run piece.file (piece.from / c.args.block) ((n - 1) / c.args.block + 1) pair) (sym c.end.ensures)
