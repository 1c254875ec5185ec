-- Laws of the passages that lanes hold.
--     PassagesHeld      how many passages of a state's jobs have each block, as the lanes of the program hold them
--     FewHeld      the lanes of a valid state hold few passages
use Rattle.std.specs.Prelude.{◌≡◌, ℕ, ◌≤◌, length}
use Rattle.voice_units.specs.Spots.{Spot}
use Rattle.voice_units.specs.Blocks.{BlockPair}
use Rattle.voice_model.specs.Samples.{Tagged}
use Rattle.voice_model.specs.State.{State}
use Rattle.voice_model.specs.Valid.{IsState}
use Rattle.rope_table.specs.Table.{uses_in}
use Rattle.next_ropes.specs.Ready.{most_held}
use Rattle.running_tables.specs.Running.{passages_of}
use Rattle.playing.specs.Held.{held_by}
use Rattle.playing.specs.Lanes.{LanesState}
use Rattle.lane_calls.specs.Lanes.{ShowsLanes}

-- as many passages of a state's unstopped jobs have each block as of those that the lanes hold
abbrev pub PassagesHeld : Type 0
PassagesHeld = (fill : Spot → Tagged) (lanes : LanesState) (made : ℕ) (s : State) → ShowsLanes fill lanes made s → (block : ℕ) (pair : BlockPair) → uses_in block (passages_of s.lanes) pair ≡ uses_in block (held_by lanes.queues) pair

-- the lanes of a valid state hold so few passages that one more may be held
abbrev pub FewHeld : Type 0
FewHeld = (fill : Spot → Tagged) (lanes : LanesState) (made : ℕ) (s : State) → ShowsLanes fill lanes made s → IsState s → length (held_by lanes.queues) ≤ most_held
