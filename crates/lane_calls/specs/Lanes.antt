-- What tables and lanes stand for.
--     ShowsLanes fill lanes made s      the lanes of the program show those of a state, where `fill` gives the sample at a place
--     Stands fill pledged takings parts lanes made b s      the tables show what was rebuilt, which filled in so is the state's durable part, while the lanes hold their passages
--     ArePledged b pledged      the blocks of pledged pieces are those of live ropes, or of files from the next number on
use Rattle.std.specs.Prelude.{◌≡◌, ◌⊎◌, ℕ, ◌≤◌, ◌<◌, true, List, length}
use Rattle.voice_units.specs.declared.pieces.Piece.{Piece}
use Rattle.voice_units.specs.Spots.{Spot}
use Rattle.voice_units.specs.Blocks.{BlockPair, has_pair}
use Rattle.voice_model.specs.Samples.{Tagged, spot_of}
use Rattle.voice_model.specs.State.{State, lane_at}
use Rattle.voice_model.specs.Replay.{Rebuilt, used_pairs, durable_by}
use Rattle.rope_table.specs.Table.{pairs_in}
use Rattle.recovery.specs.declared.parts.Parts.{Parts}
use Rattle.running_tables.specs.Running.{Runs}
use Rattle.frame_pool.specs.Pool.{block_of}
use Rattle.play_queue.specs.Queued.{lane_of}
use Rattle.playing.specs.Frames.{AreUsed, uses_of}
use Rattle.playing.specs.Held.{held_by}
use Rattle.playing.specs.Lanes.{LanesState}
use Rattle.playing.specs.Shown.{ShowsLane}

-- the lanes of the program show those of a state, where `fill` gives the sample at a place
pub record ShowsLanes (fill : Spot → Tagged) (lanes : LanesState) (made : ℕ) (s : State) : Type 0 where
  pub spots : (x : Spot) → spot_of (fill x) ≡ x
  pub many : length s.lanes ≡ length lanes.queues
  pub shape : s.shape.lanes ≡ length lanes.queues
  pub block : block_of lanes.frames.keeper ≡ s.shape.block
  pub jobs : (l : ℕ) → l < length s.lanes → ShowsLane fill (lane_of lanes.queues l) (lane_at s l)
  pub number : s.made ≡ made

-- the tables show what was rebuilt, which filled in so is the state's durable part, while the lanes hold their passages
pub record Stands (fill : Spot → Tagged) (pledged : List (List Piece)) (takings : List ℕ) (parts : Parts) (lanes : LanesState) (made : ℕ) (b : Rebuilt) (s : State) : Type 0 where
  pub shows : ShowsLanes fill lanes made s
  pub runs : Runs (held_by lanes.queues) pledged takings parts b
  pub kept : durable_by fill b.kept ≡ s.kept
  pub used : AreUsed (uses_of parts.ropes) lanes.frames

-- the blocks of pledged pieces are those of live ropes, or of files from the next number on, of which no passage is held
abbrev pub ArePledged : Rebuilt → List (List Piece) → Type 0
ArePledged b pledged = (pair : BlockPair) → has_pair (pairs_in b.shape.block pledged) pair ≡ true → (has_pair (used_pairs b.kept) pair ≡ true) ⊎ (b.next ≤ pair.file)
