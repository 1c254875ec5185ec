use Rattle.std.proofs.Common.{◌≡◌, List, drop}
use Rattle.std.specs.List.{list_all}
use Rattle.voice_units.specs.Spots.{spots_of}
use Rattle.voice_units.specs.Blocks.{pairs_at}
use Rattle.voice_model.specs.Replay.{Placed, has_place}
use Rattle.recovery.specs.Placing.{HoldsPlaces}
use Rattle.recovery.proofs.bases.are_placed.Given as goal

abbrev pub invariant-loop-piece : goal.invariant-loop-piece
invariant-loop-piece l =
    (places : List Placed) → HoldsPlaces l.blocks.holders places
    → list_all (has_place places) (pairs_at l.block (spots_of l.pieces)) ≡ list_all (has_place places) (pairs_at l.block (spots_of (drop l.piece-index l.pieces)))
