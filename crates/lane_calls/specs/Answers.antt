-- What calls of lanes come to.
--     IsAnswered fill pledged takings b s tapes call reply made parts lanes      nothing refuses the call, it is answered so, and the tables and the lanes stand for the state that it leaves
--     MayPlay ropes queues lane id start len      a job may come
--     IsPlayed fill pledged takings b s tapes call made parts lanes played      what a Play comes to
--     IsJob played      a job came
--     StaysRefused old lanes new after played      a Play that is refused changes nothing
--     IsServed fill pledged takings b s tapes call made parts lanes fed      what a Feed comes to
--     StaysUnfed old lanes new after fed, MayFeed queues lane back      a Feed that is refused changes nothing;  a lane may be fed
--     MayEnd turn t      the passage of a job that was heard to its end is held
--     HaveForgotten t lanes after, IsLetGo passage old new      frames forget the blocks that nothing uses;  a passage is let go
--     IsTold turn old lanes new after told      what is done with what became of a lane's first job
--     HasBytes bytes block more jobs fed      the lease has the bytes of the window
--     HoldsWindow block window resident fed      frames hold the blocks of the window that is handed out
--     IsHandedOut pool lane fed      the lease of a window was just handed out
--     BringsBack lanes lane len fed, HasStopped fed, KeepsLease old one new fed      the window that came back was out;  the first job was stopped;  a lease that came back is spent
--     IsStopped fill pledged takings b s tapes call made old lanes new after result      what a Stop comes to
use Rattle.std.specs.Prelude.{◌≡◌, ℕ, ◌+◌, ◌/◌, ◌<◌, ◌≤◌, Bool, true, false, List, [], ◌∷◌, length, map, Option, Some, None, is_some, Result, Ok, Err}
use Rattle.voice_units.specs.declared.pieces.Piece.{Piece}
use Rattle.voice_units.specs.Spots.{Spot, spots_of, samples_in}
use Rattle.voice_model.specs.Samples.{Tagged}
use Rattle.voice_model.specs.State.{State}
use Rattle.voice_model.specs.Step.{Outcome, refusal, reply_of, on_lanes, reaches_device, state_by}
use Rattle.voice_model.specs.Replay.{Rebuilt}
use Rattle.voice_model.specs.declared.calls.Call.{Call}
use Rattle.voice_model.specs.declared.calls.Reply.{Reply}
use Rattle.voice_model.specs.declared.calls.Reply.TheVariants as replies
use Rattle.voice_model.specs.declared.calls.Why.{Why}
use Rattle.rope_table.specs.declared.ropes.Rope.{Rope}
use Rattle.rope_table.specs.Table.{Table, Counts, pieces_at}
use Rattle.recovery.specs.declared.parts.Parts.{Parts}
use Rattle.edits.specs.Tables.{pieces_here}
use Rattle.frame_pool.specs.Pool.{Identity, LeaseState}
use Rattle.play_queue.specs.declared.jobs.Job as queue
use Rattle.play_queue.specs.Queued.{lane_of}
use Rattle.voice_model.specs.Valid.{Every}
use Rattle.playing.specs.declared.blocks.Block.{Block}
use Rattle.playing.specs.Frames.{AreUsed, uses_of, Forgets, is_resident}
use Rattle.playing.specs.Held.{LetsGo}
use Rattle.playing.specs.Lanes.{LanesState, window_at, next_window}
use Rattle.playing.specs.Windows.{byte_in}
use Rattle.playing.specs.declared.turns.Fed as fed
use Rattle.playing.specs.declared.turns.Fed.TheVariants as turns
use Rattle.lane_calls.specs.Lanes.{Stands}
use Rattle.lane_calls.specs.declared.outcomes.Fed.{Fed}
use Rattle.lane_calls.specs.declared.outcomes.Fed.TheVariants as feds
use Rattle.lane_calls.specs.declared.outcomes.Played.{Played}
use Rattle.lane_calls.specs.declared.outcomes.Played.TheVariants.{Refused, Job}

-- nothing refuses the call, it is answered so, and the tables and the lanes stand for the state that it leaves
pub record IsAnswered (fill : Spot → Tagged) (pledged : List (List Piece)) (takings : List ℕ) (b : Rebuilt) (s : State) (tapes : List (List ℕ)) (call : Call) (reply : Reply) (made : ℕ) (parts : Parts) (lanes : LanesState) : Type 0 where
  pub unrefused : refusal s tapes call ≡ None
  pub replied : reply_of s tapes call ≡ reply
  pub stands : Stands fill pledged takings parts lanes made b (on_lanes s tapes call)

-- a job may come: its lane is known and has fewer than 8 jobs, and its rope is live and long enough
pub record MayPlay (ropes : List Rope) (queues : List (List queue.Job)) (lane id start len : ℕ) : Type 0 where
  pub known : lane < length queues
  pub live : is_some (pieces_at ropes id) ≡ true
  pub room : length (lane_of queues lane) < 8
  pub inside : start + len ≤ samples_in (pieces_here ropes id)

-- what a Play comes to: a refusal, or a job of the next number
abbrev pub IsPlayed : (Spot → Tagged) → List (List Piece) → List ℕ → Rebuilt → State → List (List ℕ) → Call → ℕ → Parts → LanesState → Played → Type 0
IsPlayed fill pledged takings b s tapes call made parts lanes (Refused why) = refusal s tapes call ≡ Some why
IsPlayed fill pledged takings b s tapes call made parts lanes (Job id) = (id ≡ made + 1) × IsAnswered fill pledged takings b s tapes call (replies.Job id) (made + 1) parts lanes

-- a job came
abbrev pub IsJob : Played → Type 0
IsJob (Refused why) = ⊥
IsJob (Job id) = Unit {0}

-- a Play that is refused changes nothing
abbrev pub StaysRefused : Parts → LanesState → Parts → LanesState → Played → Type 0
StaysRefused old lanes new after (Refused why) = (new ≡ old) × (after ≡ lanes)
StaysRefused old lanes new after (Job id) = Unit {0}

-- what a Stop comes to: how many jobs were not stopped, or a refusal, which changes nothing
abbrev pub IsStopped : (Spot → Tagged) → List (List Piece) → List ℕ → Rebuilt → State → List (List ℕ) → Call → ℕ → Parts → LanesState → Parts → LanesState → Result ℕ Why → Type 0
IsStopped fill pledged takings b s tapes call made old lanes new after (Ok n) = IsAnswered fill pledged takings b s tapes call (replies.Number n) made new after
IsStopped fill pledged takings b s tapes call made old lanes new after (Err why) = (refusal s tapes call ≡ Some why) × (new ≡ old) × (after ≡ lanes)

-- what a Feed comes to: a refusal, an answer, or a fault
abbrev pub IsServed : (Spot → Tagged) → List (List Piece) → List ℕ → Rebuilt → State → List (List ℕ) → Call → ℕ → Parts → LanesState → Fed → Type 0
IsServed fill pledged takings b s tapes call made parts lanes (feds.Refused why) = refusal s tapes call ≡ Some why
IsServed fill pledged takings b s tapes call made parts lanes (feds.Stopped id heard) = IsAnswered fill pledged takings b s tapes call (replies.Stopped id heard) made parts lanes
IsServed fill pledged takings b s tapes call made parts lanes (feds.Ended id heard) = IsAnswered fill pledged takings b s tapes call (replies.Ended id heard) made parts lanes
IsServed fill pledged takings b s tapes call made parts lanes (feds.Window at lease) = IsAnswered fill pledged takings b s tapes call (replies.Window at lease.len) made parts lanes
IsServed fill pledged takings b s tapes call made parts lanes feds.Fault = (refusal s tapes call ≡ None) × (reaches_device s tapes call ≡ true) × Stands fill pledged takings parts lanes made b (state_by Outcome.Faulted s tapes call)

-- a Feed that is refused changes nothing
abbrev pub StaysUnfed : Parts → LanesState → Parts → LanesState → Fed → Type 0
StaysUnfed old lanes new after (feds.Refused why) = (new ≡ old) × (after ≡ lanes)
StaysUnfed old lanes new after _ = Unit {0}

-- a lane may be fed: it is known and has a job, and where no window comes back none is out
pub record MayFeed (queues : List (List queue.Job)) (lane : ℕ) (back : Bool) : Type 0 where
  pub known : lane < length queues
  pub some : 0 < length (lane_of queues lane)
  pub home : back ≡ false → window_at (lane_of queues lane) ≡ 0

-- the passage of a job that was heard to its end is held
abbrev pub MayEnd : fed.Fed → Table → Type 0
MayEnd (turns.Ended job) t = (rest : List (List Piece)) × Counts t (job.passage ∷ rest)
MayEnd _ t = Unit {0}

-- frames forget the blocks that nothing uses
pub record HaveForgotten (t : Table) (lanes after : LanesState) : Type 0 where
  pub queues : after.queues ≡ lanes.queues
  pub forgets : Forgets (uses_of t) lanes.frames after.frames
  pub used : AreUsed (uses_of t) after.frames

-- a passage is let go, and nothing else of the tables changes
pub record IsLetGo (passage : List Piece) (old new : Parts) : Type 0 where
  pub gone : LetsGo old.ropes new.ropes old.blocks.holders new.blocks.holders (passage ∷ [])
  pub rows : new.interests.rows ≡ old.interests.rows
  pub spare : new.interests.spare ≡ old.interests.spare
  pub moment : new.moment ≡ old.moment
  pub next : new.next ≡ old.next
  pub form : new.form ≡ old.form

-- what is done with what became of a lane's first job: the passage of one that was heard to its end is let go, with the blocks that nothing uses then
abbrev pub IsTold : fed.Fed → Parts → LanesState → Parts → LanesState → Fed → Type 0
IsTold (turns.Stopped job) old lanes new after told = (told ≡ feds.Stopped job.id job.heard) × (new ≡ old) × HaveForgotten new.ropes lanes after
IsTold (turns.Ended job) old lanes new after told = (told ≡ feds.Ended job.id job.heard) × IsLetGo job.passage old new × HaveForgotten new.ropes lanes after
IsTold (turns.Window at lease) old lanes new after told = (told ≡ feds.Window at lease) × (new ≡ old) × (after ≡ lanes)
IsTold turns.Fault old lanes new after told = (told ≡ feds.Fault) × (new ≡ old) × (after ≡ lanes)

-- the lease of a window, if there is one, has the bytes at the next places of the first job's passage
abbrev pub HasBytes : (ℕ → ℕ → List ℕ) → ℕ → ℕ → List queue.Job → Fed → Type 0
HasBytes bytes block more jobs (feds.Window at lease) = lease.samples ≡ map (byte_in bytes block) (spots_of (next_window block more jobs))
HasBytes bytes block more jobs _ = Unit {0}

-- frames hold the blocks of all places of the window, if one is handed out
abbrev pub HoldsWindow : ℕ → List Piece → List (Option Block) → Fed → Type 0
HoldsWindow block window resident (feds.Window at lease) = Every (λ (x : Spot). is_resident resident x.file (x.place / block) ≡ true) (spots_of window)
HoldsWindow block window resident _ = Unit {0}

-- the lease of a window, if there is one, was just handed out on a lane: it is of this pool, live and not taken back, and its player saw no hint
abbrev pub IsHandedOut : Identity → ℕ → Fed → Type 0
IsHandedOut pool lane (feds.Window at lease) = (lease.pool ≡ pool) × (lease.lane ≡ lane) × (lease.live ≡ true) × (lease.taken ≡ false) × (lease.hinted ≡ false)
IsHandedOut pool lane _ = Unit {0}

-- the window that came back was out, unless the Feed is refused
abbrev pub BringsBack : LanesState → ℕ → ℕ → Fed → Type 0
BringsBack lanes lane len (feds.Refused why) = Unit {0}
BringsBack lanes lane len _ = (0 < window_at (lane_of lanes.queues lane)) × (window_at (lane_of lanes.queues lane) ≡ len)

-- the first job was stopped, unless the Feed is refused
abbrev pub HasStopped : Fed → Type 0
HasStopped (feds.Refused why) = Unit {0}
HasStopped (feds.Stopped id heard) = Unit {0}
HasStopped _ = ⊥

-- a lease that came back is spent, unless the Feed is refused
abbrev pub KeepsLease : LeaseState → LeaseState → LeaseState → Fed → Type 0
KeepsLease old one new (feds.Refused why) = new ≡ old
KeepsLease old one new _ = new ≡ one
