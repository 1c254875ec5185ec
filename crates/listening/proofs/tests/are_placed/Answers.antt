use Rattle.std.proofs.Common.{subst, arith}
use Rattle.std.proofs.lemmas.List.{take_all}
use Rattle.voice_units.specs.Spots.{spots_of}
use Rattle.rope_algebra.proofs.Parts.{length-spots_of}
use Rattle.listening.specs.Heard.{HavePlaces}
use Rattle.listening.proofs.Placing.{none_placed, one_more_placed}
use Rattle.listening.proofs.tests.are_placed.Goals as goal

pub loop-at-init : goal.loop-at-init
loop-at-init c = none_placed c.args.block c.args.blocks.now.holders

pub loop-at-preserved : goal.loop-at-preserved
loop-at-preserved c = one_more_placed c.args.block c.args.blocks.now.holders c.args.pieces.now c.loop-at.at c.in-Some.sample c.loop-at.invariant c.in-Some.ensures.first (c.in-Some-address.address, c.in-Some-address.ensures.found)

pub returns : goal.returns
returns c t =
    let all = length-spots_of c.args.pieces.now in
    subst (HavePlaces c.args.block c.args.blocks.now.holders) (take_all c.loop-at.at (spots_of c.args.pieces.now) (omega (arith, all, c.loop-at-test.false, c.length-at-end.ensures.value))) c.loop-at.invariant
