-- How many device calls lie between the moments of entries that follow one another.
--     next_pairs block job      the block of each sample that comes next in a job's passage
--     blocks_of_next block job, unread_of_next block resident job      how many blocks the next window of a job has, none where there is no job;  how many of them no frame holds
--     window_blocks s lane back, unread_blocks s lane back resident      how many blocks the window has that a Feed asks for;  how many of them no frame holds
--     calls_beside s tapes call      the device calls of a call that makes no change
--     entry_calls s tapes call      how many device calls lie, at most, between the entry before that of a call and that one
--     ShortTurns s tapes low history high      each entry's moment lies at most so many device calls behind the one before it, that of the first one behind low; and none were made after the last one
--     AddsLandingAt ack old new      no entry came, or that of a landing at this moment
--     AddsShortly s tapes low caller call reply ack old new      the entry of a call came last, perhaps behind that of a landing, and each within the device calls that it may take
use Rattle.std.specs.Prelude.{◌≡◌, ◌⊎◌, ℕ, ◌+◌, ◌≤◌, cond, not, filter, is_some, List, [], ◌∷◌, ◌++◌, length, Option, Some, None}
use Rattle.voice_units.specs.Blocks.{BlockPair, distinct}
use Rattle.voice_units.specs.Spots.{slice, window}
use Rattle.voice_model.specs.Samples.{spots_in_rope}
use Rattle.voice_model.specs.State.{State, Job, lane_at}
use Rattle.voice_model.specs.Room.{pairs_of}
use Rattle.voice_model.specs.Changes.{is_changing}
use Rattle.voice_model.specs.Step.{brought_back, first_job, landed, state_after}
use Rattle.voice_model.specs.declared.calls.Call.{Call}
use Rattle.voice_model.specs.declared.calls.Call.TheVariants as calls
use Rattle.voice_model.specs.declared.calls.Reply.{Reply}
use Rattle.voice_model.specs.declared.calls.Entry.{Entry}
use Rattle.playing.specs.declared.blocks.Block.{Block}
use Rattle.playing.specs.Frames.{is_resident}
use Rattle.voice_store.specs.Facts.{entry_of, landing_at}
use Rattle.voice_store.specs.DeviceCalls.{change_calls, other_calls}

-- the block of each sample that comes next in a job's passage
abbrev pub next_pairs : ℕ → Job → List BlockPair
next_pairs block job = pairs_of block (slice job.passage job.heard (window block (spots_in_rope job.passage) job.heard))

-- the blocks of the samples that come next; none of a job that was stopped, or heard to its end
abbrev pub blocks_of_next : ℕ → Option Job → ℕ
blocks_of_next block None = 0
blocks_of_next block (Some job) = cond job.stopped 0 (length (distinct (next_pairs block job)))

-- those of them that no frame holds
abbrev pub unread_of_next : ℕ → List (Option Block) → Option Job → ℕ
unread_of_next block resident None = 0
unread_of_next block resident (Some job) = cond job.stopped 0 (length (distinct (filter (λ q. not (is_resident resident q.file q.index)) (next_pairs block job))))

-- the blocks of the next window of a lane's first job, after what came back was counted
unfoldable pub window_blocks : State → ℕ → Option ℕ → ℕ
window_blocks s lane back = blocks_of_next s.shape.block (first_job (lane_at (brought_back s lane back) lane).jobs)

-- those of them that no frame holds
unfoldable pub unread_blocks : State → ℕ → Option ℕ → List (Option Block) → ℕ
unread_blocks s lane back resident = unread_of_next s.shape.block resident (first_job (lane_at (brought_back s lane back) lane).jobs)

-- a landing takes two, and a Feed one for each block of its window
abbrev pub calls_beside : State → List (List ℕ) → Call → ℕ
calls_beside s tapes calls.Landed = 2
calls_beside s tapes (calls.Feed lane back) = window_blocks s lane back
calls_beside s tapes call = other_calls s tapes call

-- where a change is in doubt still, its landing failed
unfoldable pub entry_calls : State → List (List ℕ) → Call → ℕ
entry_calls s tapes call = cond (is_changing call) (cond (is_some s.doubt) 2 (change_calls s tapes call)) (calls_beside s tapes call)

-- each entry's moment lies at most so many device calls behind the one before it, and none were made after the last one
abbrev pub ShortTurns : State → List (List ℕ) → ℕ → List Entry → ℕ → Type 0
ShortTurns s tapes low [] high = high ≤ low
ShortTurns s tapes low (e ∷ es) high = (e.ack ≤ low + entry_calls s tapes e.call) × ShortTurns (state_after s tapes e) tapes e.ack es high

-- no entry came, or that of a landing at this moment
abbrev pub AddsLandingAt : ℕ → List Entry → List Entry → Type 0
AddsLandingAt ack old new = (new ≡ old) ⊎ (new ≡ old ++ landing_at ack ∷ [])

-- the entry of a call came last, perhaps behind that of a landing, and each within the device calls that it may take
abbrev pub AddsShortly : State → List (List ℕ) → ℕ → ℕ → Call → Reply → ℕ → List Entry → List Entry → Type 0
AddsShortly s tapes low caller call reply ack old new =
    ((new ≡ old ++ entry_of caller call reply ack ∷ []) × (ack ≤ low + entry_calls s tapes call))
    ⊎ ((a : ℕ) × (new ≡ old ++ landing_at a ∷ entry_of caller call reply ack ∷ []) × (a ≤ low + 2) × (ack ≤ a + entry_calls (landed s) tapes call))
