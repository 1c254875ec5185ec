-- Which blocks are in use.
--     pairs_of block samples      the block of each sample: its file, and the index of the block there
--     used s, free s      how many blocks are in use;  how many are free
use Rattle.std.specs.Prelude.{ℕ, ◌+◌, ◌-◌, cond, List, [], ◌++◌, map, length, flat_map, sum_by, Option, None, Some}
use Rattle.voice_units.specs.Blocks.{BlockPair, pair_at, distinct, blocks_for}
use Rattle.voice_model.specs.Samples.{Tagged, spot_of}
use Rattle.voice_model.specs.State.{State, Job, LaneState, Effect, Pending}
use Rattle.voice_model.specs.State.Effect.{Recorded, Edited}

abbrev pub pair_of : ℕ → Tagged → BlockPair
pair_of block t = pair_at block (spot_of t)

abbrev pub pairs_of : ℕ → List Tagged → List BlockPair
pairs_of block samples = map (pair_of block) samples

-- the samples of a job's passage, none once it is stopped
abbrev pub held_by_job : Job → List Tagged
held_by_job job = cond job.stopped [] job.passage

abbrev pub held_by_lane : LaneState → List Tagged
held_by_lane lane = flat_map held_by_job lane.jobs

-- the blocks of an open recording
abbrev pub taking_blocks : ℕ → Option (List ℕ) → ℕ
taking_blocks block None = 0
taking_blocks block (Some bytes) = blocks_for block (length bytes)

-- the samples of a rope that a change brings
abbrev pub samples_brought : Effect Tagged → List Tagged
samples_brought (Recorded id samples) = samples
samples_brought (Edited id samples) = samples
samples_brought _ = []

abbrev pub held_by_doubt : Option Pending → List Tagged
held_by_doubt None = []
held_by_doubt (Some pending) = samples_brought pending.effect

-- the samples whose blocks are in use
abbrev pub samples_in_use : State → List Tagged
samples_in_use s = flat_map (λ rope. rope.samples) s.ropes ++ flat_map held_by_lane s.lanes ++ held_by_doubt s.doubt

abbrev pub used : State → ℕ
used s = length (distinct (pairs_of s.shape.block (samples_in_use s))) + sum_by (λ lane. taking_blocks s.shape.block lane.taking) s.lanes

abbrev pub free : State → ℕ
free s = s.shape.blocks - used s
