use Rattle.std.proofs.Common.{◌∙◌, sym, subst, arith}
use Rattle.std.proofs.lemmas.List.{length-set}
use Rattle.playing.proofs.Bringing.{brought_more, failed_more, get_slice}
use Rattle.playing.proofs.Samples.{held_low}
use Rattle.playing.specs.Frames.{HoldsBytes}
use Rattle.playing.proofs.frames.Frames.bring_in.Goals as goal

pub ready-requires-clause-within : goal.ready-requires-clause-within
ready-requires-clause-within g c =
    let x = c.index-window-k.result in
    let at = get_slice c.args.window.now c.loop-k.k x c.loop-k-test.true c.index-window-k.is in
    let low = held_low c.args.blocks.now.holders _ _ (c.addresses_of-addresses.ensures c.loop-k.k x c.loop-k-test.true at) in
    omega (arith, low, c.requires.count)

pub returns-in_err-frame-clause-made : goal.returns-in_err-frame-clause-made
returns-in_err-frame-clause-made g c =
    failed_more c.args.shape.now c.args.blocks.now.holders c.args.window.now c.loop-k.found c.loop-k.k c.args.self.now c.loop-k.self _ _ _ c.index-window-k.result _ c.loop-k.invariant.1
    (get_slice c.args.window.now c.loop-k.k c.index-window-k.result c.loop-k-test.true c.index-window-k.is) c.in_err-frame.ensures.made c.in_err-frame.ensures.reads

pub returns-in_err-frame-clause-bytes : goal.returns-in_err-frame-clause-bytes
returns-in_err-frame-clause-bytes g c honest bytes there was = subst (HoldsBytes bytes) (sym c.in_err-frame.ensures.err) (c.loop-k.invariant.1.bytes honest bytes there was)

pub loop-k-preserved : goal.loop-k-preserved
loop-k-preserved g c =
    let x = c.index-window-k.result in
    let at = get_slice c.args.window.now c.loop-k.k x c.loop-k-test.true c.index-window-k.is in (
      length-set c.loop-k.found c.loop-k.k c.in_ok-frame.frame ∙ c.loop-k.invariant.0,
      brought_more c.args.shape.now c.args.blocks.now.holders c.args.window.now c.loop-k.found c.loop-k.k c.in_ok-frame.frame c.args.self.now c.loop-k.self c.ready.new.self _ _ _ x _ c.loop-k.invariant.1
          (omega (arith, c.loop-k.invariant.0, c.loop-k-test.true, c.requires.few)) at c.in_ok-frame.ensures.made c.in_ok-frame.ensures.reads c.in_ok-frame.ensures.frame.1 c.in_ok-frame.ensures.step
          (λ honest. c.in_ok-frame.ensures.bytes honest c.args.blocks.now.holders (c.addresses_of-addresses.ensures c.loop-k.k x c.loop-k-test.true at)),
    )
