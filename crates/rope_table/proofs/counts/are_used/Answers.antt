use Rattle.std.proofs.Common.{◌≡◌, length, ◌<◌, ◌≤◌, nat_lt, ap, sym, ◌∙◌, arith}
use Rattle.std.proofs.lemmas.List.{take_all}
use Rattle.voice_units.specs.Spots.{spots_of}
use Rattle.voice_units.specs.Blocks.{pairs_at, has_pair}
use Rattle.rope_table.specs.Table.{pair_of}
use Rattle.rope_table.specs.Inside.{count_in}
use Rattle.rope_table.proofs.Blocks.{meets, blocks_fit, piece_met, all_pass, one_fails}
use Rattle.rope_table.proofs.counts.are_used.Goals as goal

pub blocks-blocks-requires-clause-fits : goal.blocks-blocks-requires-clause-fits
blocks-blocks-requires-clause-fits c = blocks_fit c.args.block c.loop-k.k c.args.pieces.now c.in-Some.piece c.requires c.length-length.ensures.rope.ends (sym c.piece.ensures ∙ c.in-Some.is)

pub returns-then-uses-eq0 : goal.returns-then-uses-eq0
returns-then-uses-eq0 c =
    let has = meets c.args.block c.loop-k.k c.loop-index.index c.blocks-blocks.result.start c.blocks-blocks.result.end c.args.pieces.now c.in-Some.piece (sym c.piece.ensures ∙ c.in-Some.is) c.blocks-blocks.ensures.blocks c.loop-index.auto.index c.loop-index-test.true in
    sym (one_fails (λ pair. nat_lt 0 (count_in c.args.tally.now pair).uses) (pairs_at c.args.block (spots_of c.args.pieces.now)) (pair_of c.in-Some.piece.file c.loop-index.index) has (ap (nat_lt 0) (sym c.uses.ensures ∙ c.if-uses-eq0.true)))

pub loop-k-preserved : goal.loop-k-preserved
loop-k-preserved c = λ q has.
    let ps = c.args.pieces.now in
    let last : c.loop-index.index ≡ c.blocks-blocks.result.end = omega (arith, c.blocks-blocks.ensures.ordered, c.loop-index-test.false, c.loop-index.auto) in
    let within : c.loop-k.k < length ps = omega (arith, c.loop-k-test.true, c.count-k-end.ensures) in
    c.loop-index.invariant q (piece_met c.args.block c.loop-k.k c.blocks-blocks.result.start c.loop-index.index c.blocks-blocks.result.end ps c.in-Some.piece q within (sym c.piece.ensures ∙ c.in-Some.is) c.blocks-blocks.ensures.blocks last ∙ has)

pub returns : goal.returns
returns c =
    let ps = c.args.pieces.now in
    let all : length ps ≤ c.loop-k.k = omega (arith, c.loop-k-test.false, c.count-k-end.ensures) in
    sym (all_pass (λ pair. nat_lt 0 (count_in c.args.tally.now pair).uses) (pairs_at c.args.block (spots_of ps)) (λ q has. c.loop-k.invariant q (ap (λ l. has_pair (pairs_at c.args.block (spots_of l)) q) (take_all c.loop-k.k ps all) ∙ has)))
