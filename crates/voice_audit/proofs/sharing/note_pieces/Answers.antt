use Rattle.std.proofs.Common.{◌≡◌, ◌<◌, length, ◌&&◌, ◌||◌, take, Some, ap, sym, ◌∙◌, arith}
use Rattle.std.specs.Prelude.{slice_get}
use Rattle.voice_units.specs.Spots.{spots_of}
use Rattle.voice_units.specs.Blocks.{pairs_at, has_pair, in_run}
use Rattle.rope_table.proofs.Blocks.{front_more, ends_in_file, at_get}
use Rattle.voice_audit.specs.Sharing.{is_noted, is_shared}
use Rattle.voice_audit.proofs.sharing.note_pieces.Goals as goal

pub blocks-blocks-requires-clause-fits : goal.blocks-blocks-requires-clause-fits
blocks-blocks-requires-clause-fits c =
    let end = ends_in_file c.args.pieces.now c.loop-k.k c.in-Some.piece c.length-length.ensures.rope.ends (sym c.piece.ensures ∙ c.in-Some.is) in
    omega (arith, end, c.block-block.ensures.laws.least, c.block-block.ensures.value)

pub loop-k-preserved : goal.loop-k-preserved
loop-k-preserved c =
    let ps = c.args.pieces.now in
    let piece = c.in-Some.piece in
    let block = c.block-block.result in
    let run = c.blocks-blocks.result in
    let at : slice_get ps c.loop-k.k ≡ Some piece = sym c.piece.ensures ∙ c.in-Some.is in
    let end : c.loop-index.index ≡ run.end = omega (arith, c.blocks-blocks.ensures.ordered, c.loop-index-test.false, c.loop-index.auto) in
    let within : c.loop-k.k < length ps = omega (arith, c.loop-k-test.true, c.count-k-end.ensures) in
    λ q.
    let front = has_pair (pairs_at block (spots_of (take c.loop-k.k ps))) q in
    c.loop-index.invariant q
    ∙ ap (λ b. is_noted c.args.noted.now q || (is_shared c.args.table.now q && b))
    (ap (λ n. front || in_run piece.file run.start n q) end
    ∙ ap (λ b. front || b) (sym (c.blocks-blocks.ensures.blocks q))
    ∙ front_more block c.loop-k.k ps piece q within (at_get ps c.loop-k.k piece at))
