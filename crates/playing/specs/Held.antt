-- Passages that are held, and let go.
--     held_in jobs, held_by queues      the passages of jobs that are not stopped, of a lane and of all lanes
--     passages_have block passages pair      whether one of the passages has a block
--     stretch_count block passages      how many stretches they have
--     HeldPassages      how the lanes' jobs tell of them
--     LetsGo old new held left passages      what stays and what goes as these passages are let go
use Rattle.std.specs.Prelude.{◌≡◌, ℕ, ◌+◌, ◌/◌, ◌<◌, Bool, true, false, ◌||◌, cond, List, [], ◌∷◌, ◌++◌, length, map, drop, slice_set}
use Rattle.voice_units.specs.declared.pieces.Piece.{Piece}
use Rattle.voice_units.specs.Spots.{spots_of, stretches}
use Rattle.voice_units.specs.Blocks.{BlockPair, pairs_at, has_pair}
use Rattle.rope_table.specs.Table.{Every, Table, Counts, uses_at, uses_in}
use Rattle.voice_blocks.specs.Holders.{Holders, EachBecomes}
use Rattle.collector.specs.Freed.{freed}
use Rattle.play_queue.specs.declared.jobs.Job.{Job}
use Rattle.play_queue.specs.Queued.{lane_of, stopped_job}
use Rattle.playing.specs.Frames.{FramesState, AreUsed}
use Rattle.playing.specs.Lanes.{new_job, stopped_at, home_with, IsSentTo}
use Rattle.playing.specs.Lanes as lanes

-- the passage of a job that is not stopped
abbrev pub held_one : Job → List (List Piece)
held_one job = cond job.stopped [] (job.passage ∷ [])

-- those of the jobs of a lane
abbrev pub held_in : List Job → List (List Piece)
held_in [] = []
held_in (job ∷ jobs) = held_one job ++ held_in jobs

-- the passages that the lanes hold
abbrev pub held_by : List (List Job) → List (List Piece)
held_by [] = []
held_by (jobs ∷ queues) = held_in jobs ++ held_by queues

-- whether one of the passages has a block
abbrev pub passages_have : ℕ → List (List Piece) → BlockPair → Bool
passages_have block [] pair = false
passages_have block (ps ∷ passages) pair = has_pair (pairs_at block (spots_of ps)) pair || passages_have block passages pair

-- how many stretches passages have
abbrev pub stretch_count : ℕ → List (List Piece) → ℕ
stretch_count block [] = 0
stretch_count block (ps ∷ passages) = length (stretches block (spots_of ps)) + stretch_count block passages

-- what stays and what goes as these passages are let go: the blocks go that nothing uses any longer
pub record LetsGo (old new : Table) (held left : Holders) (passages : List (List Piece)) : Type 0 where
  pub ropes : new.ropes ≡ old.ropes
  pub block : new.block ≡ old.block
  pub uses : (pair : BlockPair) → uses_at new pair + uses_in old.block passages pair ≡ uses_at old pair
  pub counts : (rest : List (List Piece)) → Counts old (passages ++ rest) → Counts new rest
  pub holders : EachBecomes (freed (passages_have old.block passages) (uses_at new)) held left

-- how the lanes' jobs tell of the held passages, with others that are held besides
pub record HeldPassages : Type 0 where
  -- those of one lane, and the others
  pub split : (t : Table) (queues : List (List Job)) (lane : ℕ) (rest : List (List Piece)) → lane < length queues → Counts t (held_by queues ++ rest) → Counts t (held_in (lane_of queues lane) ++ (held_by (slice_set queues lane []) ++ rest))
  pub put : (t : Table) (queues : List (List Job)) (lane : ℕ) (jobs : List Job) (rest : List (List Piece)) → lane < length queues → Counts t (held_in jobs ++ (held_by (slice_set queues lane []) ++ rest)) → Counts t (held_by (slice_set queues lane jobs) ++ rest)
  -- stopped jobs hold none
  pub stopped : (jobs : List Job) → held_in (map stopped_job jobs) ≡ []
  -- a job that comes last
  pub pushed : (t : Table) (jobs : List Job) (id : ℕ) (passage : List Piece) (rest : List (List Piece)) → Counts t (passage ∷ (held_in jobs ++ rest)) → Counts t (held_in (jobs ++ new_job id passage ∷ []) ++ rest)
  -- the first job, as its window goes out or comes back
  pub sent : (jobs : List Job) (more n : ℕ) → held_in (lanes.sent more n jobs) ≡ held_in jobs
  pub home : (jobs : List Job) (more : ℕ) → held_in (home_with more jobs) ≡ held_in jobs
  -- as it leaves
  pub left_stopped : (jobs : List Job) → stopped_at jobs ≡ true → held_in (drop 1 jobs) ≡ held_in jobs
  pub left : (job : Job) (jobs : List Job) → job.stopped ≡ false → held_in (job ∷ jobs) ≡ job.passage ∷ held_in jobs
  -- blocks of frames stay used as a window goes out whose blocks are used
  pub used : (uses : ℕ → ℕ → ℕ) (block : ℕ) (window : List Piece) (lane : ℕ) (old new : FramesState) → IsSentTo block window lane old new → AreUsed uses old → Every (λ (s : Piece). 0 < uses s.file (s.from / block)) window → AreUsed uses new
