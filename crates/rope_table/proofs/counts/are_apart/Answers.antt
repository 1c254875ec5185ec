use Rattle.std.proofs.Common.{ℕ, true, length, ◌+◌, ◌<◌, ◌≤◌, ◌≡◌, sym, ◌∙◌, ap, subst, arith}
use Rattle.rope_table.specs.Inside.{stands_behind}
use Rattle.rope_table.proofs.Blocks.{blocks_fit}
use Rattle.rope_table.proofs.Apart.{Rise, within_length, none_rise, rise_more}
use Rattle.rope_table.proofs.counts.are_apart.Goals as goal

pub blocks-blocks-requires-clause-fits : goal.blocks-blocks-requires-clause-fits
blocks-blocks-requires-clause-fits c = blocks_fit c.args.block c.loop-k.k c.args.pieces.now c.in-Some.piece c.requires c.length-length.ensures.rope.ends (sym c.piece.ensures ∙ c.in-Some.is)

pub loop-k-init : goal.loop-k-init
loop-k-init c = none_rise c.args.block c.args.pieces.now

pub loop-k-preserved : goal.loop-k-preserved
loop-k-preserved c =
    let within : c.loop-k.k < length c.args.pieces.now = omega (arith, c.loop-k-test.true, c.count-k-end.ensures) in
    let behind : stands_behind c.loop-k.last c.loop-k.end c.in-Some.piece.file c.blocks-blocks.result.start ≡ true = ap (λ (f : ℕ). stands_behind c.loop-k.last c.loop-k.end f c.blocks-blocks.result.start) (sym c.number-file.ensures.value) ∙ sym c.if-not-stands_behind.ensures in
    subst (λ f. Rise c.args.block (c.loop-k.k + 1) c.args.pieces.now f c.blocks-blocks.result.end) (sym c.number-file.ensures.value)
    (rise_more c.args.block c.loop-k.k c.args.pieces.now c.in-Some.piece c.loop-k.last c.loop-k.end c.blocks-blocks.result.start c.blocks-blocks.result.end c.loop-k.invariant within (sym c.piece.ensures ∙ c.in-Some.is) c.blocks-blocks.ensures.blocks c.blocks-blocks.ensures.ordered behind)

pub returns : goal.returns
returns c = λ _ k piece q at has.
    let low = within_length c.args.pieces.now k piece at in
    c.loop-k.invariant.apart k piece q (omega (arith, low, c.loop-k-test.false, c.count-k-end.ensures)) at has
