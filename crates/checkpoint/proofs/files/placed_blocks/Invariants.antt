use Rattle.std.proofs.Common.{◌≡◌, List, map, take}
use Rattle.voice_model.specs.Replay.{Placed}
use Rattle.voice_model.specs.Valid.{Every}
use Rattle.checkpoint.specs.Blocks.{IsHeld, names_of, place_of_block}
use Rattle.checkpoint.proofs.files.placed_blocks.Given as goal

abbrev pub invariant-loop-name : goal.invariant-loop-name
invariant-loop-name l = (places : List Placed) → Every (IsHeld l.blocks.holders) places → l.names ≡ names_of places → map place_of_block l.placed.items ≡ take l.name-index places
