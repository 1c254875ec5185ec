use Rattle.std.proofs.Common.{◌<◌, length, arith}
use Rattle.checkpoint.proofs.Lists.{next_place, no_place}
use Rattle.checkpoint.proofs.files.placed_blocks.Goals as goal

pub loop-name-preserved : goal.loop-name-preserved
loop-name-preserved c =
    let within : c.loop-name.name-index < length c.args.names.now = omega (arith, c.loop-name-test.true) in
    λ places held same.
    next_place c.args.blocks.now.holders places c.args.names.now c.name-item.result c.loop-name.name-index c.in-Some.address c.loop-name.placed.items c.push.new.self.items same held within c.name-item.is c.in-Some.ensures.only (c.loop-name.invariant places held same) c.in_ok-push.ensures.items

pub returns-in_default : goal.returns-in_default
returns-in_default c =
    let within : c.loop-name.name-index < length c.args.names.now = omega (arith, c.loop-name-test.true) in
    λ places held same. absurd (no_place c.args.blocks.now.holders places c.args.names.now c.name-item.result c.loop-name.name-index same held within c.name-item.is c.in_default.ensures.absent)
