use Rattle.std.proofs.Common.{◌≡◌, ◌+◌, ◌||◌, false, length, Some, ap, sym, ◌∙◌, arith}
use Rattle.std.proofs.Math.Nat.{div-le_self}
use Rattle.std.proofs.lemmas.List.{take_all}
use Rattle.std.specs.Prelude.{slice_get}
use Rattle.voice_units.specs.Spots.{spots_of}
use Rattle.voice_units.specs.Blocks.{pairs_at, has_pair, same_pair, in_run}
use Rattle.rope_table.specs.Table.{pair_of}
use Rattle.rope_table.proofs.Blocks.{no_run, run_more, front_more, ends_in_file, blocks_fit, at_get}
use Rattle.rope_table.proofs.counts.only_block.Goals as goal

pub blocks-blocks-requires-clause-fits : goal.blocks-blocks-requires-clause-fits
blocks-blocks-requires-clause-fits c = blocks_fit c.args.block 0 c.args.pieces.now c.in-Some.piece c.requires c.length-length.ensures.rope.ends (sym c.piece.ensures ∙ c.in-Some.is)

pub overflow_add-index : goal.overflow_add-index
overflow_add-index c =
    let end = ends_in_file c.args.pieces.now 0 c.in-Some.piece c.length-length.ensures.rope.ends (sym c.piece.ensures ∙ c.in-Some.is) in
    let most = div-le_self c.in-Some.piece.from c.args.block in
    omega (arith, end, most, c.blocks-blocks.ensures.start)

pub returns : goal.returns
returns c = λ q.
    let ps = c.args.pieces.now in
    let piece = c.in-Some.piece in
    let at : slice_get ps 0 ≡ Some piece = sym c.piece.ensures ∙ c.in-Some.is in
    let first = c.blocks-blocks.result.start in
    let one : length ps ≡ 1 = omega (arith, c.count.ensures, c.if-count-ne1.false) in
    let last : c.blocks-blocks.result.end ≡ first + 1 = omega (arith, c.if-blocks-index.false) in
    sym (ap (λ l. has_pair (pairs_at c.args.block (spots_of l)) q) (take_all 1 ps (omega (arith, one))))
    ∙ sym (front_more c.args.block 0 ps piece q (omega (arith, one)) (at_get ps 0 piece at))
    ∙ c.blocks-blocks.ensures.blocks q
    ∙ ap (λ n. in_run piece.file first n q) last
    ∙ sym (run_more piece.file first first q false (omega arith))
    ∙ ap (λ b. b || same_pair (pair_of piece.file first) q) (no_run piece.file first q false)
