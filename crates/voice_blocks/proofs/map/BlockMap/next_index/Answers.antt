use Rattle.std.proofs.Common.{◌∙◌, sym, arith}
use Rattle.voice_blocks.proofs.TakeLemmas.{found_at, next_is, next_index-le}
use Rattle.voice_blocks.proofs.map.BlockMap.next_index.Goals as goal

pub returns-then-is_some : goal.returns-then-is_some
returns-then-is_some c =
    let hs = c.args.self.now.holders in
    let found = found_at _ hs c.address_of.result (sym c.is_some.ensures ∙ c.if-is_some.true) c.address_of.ensures in
    next_is c.args.owner.now hs c.loop-end.end found.0 c.loop-end-test.true c.loop-end.invariant.bound found.1

pub returns : goal.returns
returns c = let most = next_index-le c.args.owner.now c.args.self.now.holders c.loop-end.end c.loop-end.invariant.bound in omega (arith, most, c.loop-end-test.false)
