use Rattle.std.proofs.Common.{◌∙◌, arith}
use Rattle.std.proofs.lemmas.List.{length-set}
use Rattle.playing.specs.Frames.{IsAddress, block_at}
use Rattle.playing.proofs.Bringing.{each_more, get_slice}
use Rattle.playing.proofs.frames.addresses_of.Goals as goal

pub loop-k-preserved : goal.loop-k-preserved
loop-k-preserved c = (
  length-set c.loop-k.addresses c.loop-k.k c.in-Some.address ∙ c.loop-k.invariant.0,
  each_more (λ s a. IsAddress c.args.blocks.now.holders (block_at c.args.block s) a) c.args.window.now c.loop-k.addresses c.loop-k.k c.in-Some.address c.index-window-k.result
      (omega (arith, c.loop-k.invariant.0, c.loop-k-test.true, c.requires.few)) (get_slice c.args.window.now c.loop-k.k c.index-window-k.result c.loop-k-test.true c.index-window-k.is) c.in-Some.ensures.found c.loop-k.invariant.1,
)
