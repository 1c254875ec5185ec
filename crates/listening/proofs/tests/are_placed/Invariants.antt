use Rattle.std.proofs.Common.{take}
use Rattle.voice_units.specs.Spots.{spots_of}
use Rattle.listening.specs.Heard.{HavePlaces}
use Rattle.listening.proofs.tests.are_placed.Given as goal

abbrev pub invariant-loop-at : goal.invariant-loop-at
invariant-loop-at l = HavePlaces l.block l.blocks.holders (take l.at (spots_of l.pieces))
