use Rattle.std.proofs.Common.{◌≡◌, List, true}
use Rattle.voice_units.specs.Blocks.{BlockPair, in_run}
use Rattle.voice_model.specs.Replay.{Placed, has_place}
use Rattle.recovery.specs.Placing.{HoldsPlaces}
use Rattle.recovery.proofs.bases.is_piece_placed.Given as goal

abbrev pub invariant-loop-index : goal.invariant-loop-index
invariant-loop-index l = (places : List Placed) → HoldsPlaces l.blocks.holders places → (q : BlockPair) → in_run l.piece.file l.initial.index l.index q ≡ true → has_place places q ≡ true
