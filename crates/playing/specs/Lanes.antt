-- The jobs of the lanes, and the leases of their windows.
--     LanesState      the lanes' jobs, the frames, and whether the lease of a lane's window was taken back though its window is out
--     new_job id passage      a job that was just asked for
--     window_at, stopped_at jobs      how much of the first job is out;  whether it is stopped
--     LaneStands w stopped d taken      what is known of a lane of whose first job w samples are out
--     AreLanes      what lanes keep
--     sent, home_with more jobs      the jobs once more of the first one was heard, as its next window is out, or none
--     next_window, next_start, IsOver      where the next window lies and begins;  there is none
--     IsSentTo, IsSent      what a window does to the frames;  its lease
use Rattle.std.specs.Prelude.{◌≡◌, ◌⊎◌, ℕ, ◌+◌, ◌<◌, Bool, true, false, List, [], ◌∷◌, length, slice_index_or, take, drop, Some, ◌≢◌}
use Rattle.voice_units.specs.declared.pieces.Piece.{Piece}
use Rattle.std.specs.List.{list_any}
use Rattle.voice_units.specs.Spots.{spots_of, samples_in, stretches}
use Rattle.frame_pool.specs.declared.views.LaneState.{LaneState}
use Rattle.frame_pool.specs.declared.views.Stage.TheVariants.{Free}
use Rattle.frame_pool.specs.Steps.{lane_at}
use Rattle.frame_pool.specs.Pool.{LeaseState, lanes_of, stage_of, hint_of, word_of}
use Rattle.rope_table.specs.Table.{Every}
use Rattle.play_queue.specs.declared.jobs.Job.{Job}
use Rattle.play_queue.specs.Queued.{lane_of, heard_more, with_window}
use Rattle.playing.specs.declared.blocks.Block.{Block}
use Rattle.playing.specs.declared.turns.Turn.{Turn}
use Rattle.playing.specs.declared.turns.Turn.TheVariants.{Stopped, Ended, Plays}
use Rattle.playing.specs.Frames.{FramesState, resident_at, is_in}
use Rattle.playing.specs.Windows.{IsOut}

-- the lanes' jobs, the frames, and whether the lease of a lane's window was taken back though its window is out
pub record LanesState : Type 0 where
  pub queues : List (List Job)
  pub frames : FramesState
  pub taken : List Bool

-- a job that was just asked for
abbrev pub new_job : ℕ → List Piece → Job
new_job id passage = record { id = id; passage = passage; heard = 0; window = 0; stopped = false }

-- how much of the first job is out
abbrev pub window_at : List Job → ℕ
window_at [] = 0
window_at (job ∷ jobs) = job.window

-- whether the first job is stopped
abbrev pub stopped_at : List Job → Bool
stopped_at [] = false
stopped_at (job ∷ jobs) = job.stopped

-- of this job nothing is out or was heard
pub record IsWaiting (job : Job) : Type 0 where
  pub heard : job.heard ≡ 0
  pub window : job.window ≡ 0

-- only the first job has begun
abbrev pub HasBegun : List Job → Type 0
HasBegun [] = Unit {0}
HasBegun (job ∷ jobs) = Every IsWaiting jobs

-- what is known of a lane of whose first job w samples are out
pub record LaneStands (w : ℕ) (stopped : Bool) (d : LaneState) (taken : Bool) : Type 0 where
  pub home : w ≡ 0 → (d.stage ≡ Free) × (taken ≡ false)
  pub out : 0 < w → taken ≡ false → IsOut w d.stage
  pub back : taken ≡ true → d.stage ≡ Free
  pub hint : 0 < w → d.hint ≡ word_of stopped
  pub mark : 0 < w → d.mark ≡ stopped

-- whether the lease of a lane's window was taken back though the window is out
abbrev pub taken_at : List Bool → ℕ → Bool
taken_at taken l = slice_index_or taken l false

-- what lanes keep
pub record AreLanes (queues : List (List Job)) (frames : FramesState) (taken : List Bool) : Type 0 where
  pub lanes : length queues ≡ lanes_of frames.keeper
  pub takens : length taken ≡ lanes_of frames.keeper
  pub begun : (l : ℕ) → HasBegun (lane_of queues l)
  pub stands : (l : ℕ) → LaneStands (window_at (lane_of queues l)) (stopped_at (lane_of queues l)) (lane_at frames.keeper.view l) (taken_at taken l)

-- the hint of a lane on which a window is out is on exactly where its first job is stopped
abbrev pub HintsTell : LanesState → Type 0
HintsTell s = (l : ℕ) → 0 < window_at (lane_of s.queues l) → hint_of s.frames.keeper l ≡ word_of (stopped_at (lane_of s.queues l))

-- nothing is out on a lane, or its lease was taken back
abbrev pub IsBack : LanesState → ℕ → Type 0
IsBack s lane = stage_of s.frames.keeper lane ≡ Free

-- the first job, of which more was heard and that much is out
abbrev pub sent : ℕ → ℕ → List Job → List Job
sent more n [] = []
sent more n (job ∷ jobs) = with_window n (heard_more more job) ∷ jobs

-- the first job, of which more was heard, while nothing is out
abbrev pub home_with : ℕ → List Job → List Job
home_with more [] = []
home_with more (job ∷ jobs) = heard_more more job ∷ jobs

-- the stretches of the next window of the first job, once more of it was heard
abbrev pub next_window : ℕ → ℕ → List Job → List Piece
next_window block more [] = []
next_window block more (job ∷ jobs) = take 4 (stretches block (drop (job.heard + more) (spots_of job.passage)))

-- where it begins
abbrev pub next_start : ℕ → List Job → ℕ
next_start more [] = 0
next_start more (job ∷ jobs) = job.heard + more

-- how many samples the passage of the first job has
abbrev pub passage_length : List Job → ℕ
passage_length [] = 0
passage_length (job ∷ jobs) = samples_in job.passage

-- no window of the first job comes next, once more of it was heard: it was stopped, or heard to its end
abbrev pub IsOver : ℕ → List Job → Type 0
IsOver more jobs = (stopped_at jobs ≡ true) ⊎ (next_start more jobs ≡ passage_length jobs)

-- blocks of a window got into frames that no lane reads, and then a lane was granted parts of frames
pub record IsSentTo (block : ℕ) (window : List Piece) (lane : ℕ) (old new : FramesState) : Type 0 where
  pub pool : new.keeper.pool ≡ old.keeper.pool
  pub others : (l : ℕ) → l ≢ lane → lane_at new.keeper.view l ≡ lane_at old.keeper.view l
  pub came : (f : ℕ) (d : Block) → resident_at new.resident f ≡ Some d → (resident_at old.resident f ≡ Some d) ⊎ (list_any (is_in block d) window ≡ true)
  pub left : (f : ℕ) (d : Block) → resident_at old.resident f ≡ Some d → (resident_at new.resident f ≡ Some d) ⊎ ((e : Block) × (resident_at new.resident f ≡ Some e) × ((g : ℕ) → resident_at old.resident g ≢ Some e) × (list_any (is_in block d) window ≡ false))

-- a lease of a window that was just handed out on a lane
pub record IsSent (s : LanesState) (lane : ℕ) (window : List Piece) (lease : LeaseState) : Type 0 where
  pub pool : lease.pool ≡ s.frames.keeper.pool
  pub on : lease.lane ≡ lane
  pub len : lease.len ≡ samples_in window
  pub live : lease.live ≡ true
  pub fresh : lease.taken ≡ false
  pub unhinted : lease.hinted ≡ false

-- how a lane's first job goes on, once more of it was heard
abbrev pub IsTurn : Turn → ℕ → List Job → Type 0
IsTurn Stopped more jobs = stopped_at jobs ≡ true
IsTurn Ended more jobs = (stopped_at jobs ≡ false) × (next_start more jobs ≡ passage_length jobs)
IsTurn Plays more jobs = (stopped_at jobs ≡ false) × (next_start more jobs < passage_length jobs)
