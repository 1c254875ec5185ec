-- One call of the voice manager, and whole histories.
--     refusal s tapes call      the first condition, in the call's order, by which it is refused, with what the refusal carries
--     reply_of s tapes call, after_answer s tapes call      what an answered call replies;  the state that it leaves
--     outcome_of reply      whether a reply tells of a device fault
--     state_after s tapes entry      the state after an entry; it is determined by the entry's call and by the kind of its reply
--     IsAnswer s tapes entry      the entry's reply may be given
--     Step s tapes entry t      the entry leads from s to t
--     Legal s tapes entries, after s tapes entries      each entry may follow the ones before it;  the state that they leave
use Rattle.std.specs.Prelude.{◌≡◌, ℕ, ◌+◌, ◌-◌, ◌/◌, ◌^◌, ◌≤◌, ◌<◌, ◌⊎◌, Bool, true, false, ◌&&◌, ◌||◌, not, cond, ◌==◌, nat_lt, nat_le, List, [], ◌∷◌, ◌++◌, map, length, count_by, Option, Some, None, is_some, is_none, IsTrue}
use Rattle.voice_units.specs.Spots.{slice, replaced, window}
use Rattle.voice_model.specs.Samples.{Tagged, bytes_of, spots_in_rope, pieces_in}
use Rattle.disk_areas.specs.Numbers.{spelled_number}
use Rattle.voice_model.specs.State.{State, Job, LaneState, Effect, Pending, samples_of, joined, first_unknown, row_at, lane_at, with_lane, class_number}
use Rattle.voice_units.specs.Blocks.{blocks_for}
use Rattle.voice_model.specs.Room.{free}
use Rattle.voice_model.specs.Talk.{talk, peaks}
use Rattle.voice_model.specs.Tapes.{taken}
use Rattle.voice_model.specs.Changes.{effect_of, is_changing, changed, committed, frame_size, base_size, last_epoch, unlisted_keys, expired_rows, swept_ropes, taking_of}
use Rattle.voice_model.specs.declared.calls.Call.{Call}
use Rattle.voice_model.specs.declared.calls.Call.TheVariants as calls
use Rattle.voice_model.specs.declared.calls.Reply.{Reply}
use Rattle.voice_model.specs.declared.calls.Reply.TheVariants as replies
use Rattle.voice_model.specs.declared.calls.Why.{Why}
use Rattle.voice_model.specs.declared.calls.Why.TheVariants as why
use Rattle.voice_model.specs.declared.calls.Entry.{Entry}
use Rattle.voice_model.specs.declared.calls.Row.{Row}
use Rattle.voice_model.specs.declared.calls.Class.{Class}

-- ---- conditions of refusals: the refusal where the condition holds, and else none

abbrev pub when : Bool → Why → Option Why
when test reason = cond test (Some reason) None

-- a rope of the call is not live
abbrev pub if_unknown : Option ℕ → Option Why
if_unknown None = None
if_unknown (Some id) = Some (why.UnknownRope id)

abbrev pub if_taken : Option Row → Option Why
if_taken None = None
if_taken (Some row) = Some (why.KeyTaken row.rope)

abbrev pub if_missing : Option Row → Option Why
if_missing None = Some why.NoInterest
if_missing (Some row) = None

abbrev pub most_samples : ℕ
most_samples = 2 ^ 30

abbrev pub most_pieces : ℕ
most_pieces = 4096

abbrev pub last_rope : ℕ
last_rope = 2 ^ 48

abbrev pub last_moment : ℕ
last_moment = 2 ^ 40

abbrev pub if_long : ℕ → Option Why
if_long n = when (nat_lt most_samples n) (why.TooLong n)

abbrev pub if_many : ℕ → Option Why
if_many n = when (nat_lt most_pieces n) (why.TooManyPieces n)

abbrev pub if_spent : State → Option Why
if_spent s = when (nat_lt last_rope s.next) why.IdsSpent

abbrev pub if_outside : ℕ → ℕ → ℕ → Option Why
if_outside start len n = when (nat_lt n (start + len)) (why.BadInterval n)

abbrev pub if_crowded : State → ℕ → Option Why
if_crowded s need = when (nat_lt (free s) need) (why.NoRoom need (free s))

abbrev pub if_no_lane : State → ℕ → Option Why
if_no_lane s lane = when (nat_le s.shape.lanes lane) (why.UnknownLane s.shape.lanes)

abbrev pub if_recording : LaneState → Option Why
if_recording lane = when (is_some lane.taking) why.LaneRecording

abbrev pub if_not_recording : LaneState → Option Why
if_not_recording lane = when (is_none lane.taking) why.NoRecording

-- whether a note is no moment of 8 bytes, where the class wants one
abbrev pub is_bad_note : Class → List ℕ → Bool
is_bad_note class note = (class_number class == 2) && not ((length note == 8) && nat_le (spelled_number note) last_moment)

-- At the last epoch a change has to fit the rest of the area. Before it, the base after the change has to fit an area,
-- but a change whose frame fits the rest and that makes the base no longer is never refused.
abbrev pub is_journal_full : State → Effect Tagged → Bool
is_journal_full s effect =
    let frame = frame_size s.form s.shape.block effect in
    let need = base_size s.form (changed s.form s.kept effect) in
    cond (s.epoch == last_epoch)
    (nat_lt s.left frame)
    (nat_lt (s.shape.area - 17) need && not (nat_le frame s.left && nat_le need (base_size s.form s.kept)))

abbrev pub journal_full : State → Effect Tagged → Why
journal_full s effect =
    cond (s.epoch == last_epoch)
    (why.JournalFull (frame_size s.form s.shape.block effect) s.left)
    (why.JournalFull (base_size s.form (changed s.form s.kept effect)) (s.shape.area - 17))

-- the journal's condition, the last of each call that makes a change
abbrev pub if_full : State → Option (Effect Tagged) → Option Why
if_full s None = None
if_full s (Some effect) = when (is_journal_full s effect) (journal_full s effect)

-- ---- the head of a lane

abbrev pub first_job : List Job → Option Job
first_job [] = None
first_job (job ∷ jobs) = Some job

abbrev pub window_of : Option Job → ℕ
window_of None = 0
window_of (Some job) = job.window

-- the samples that are out with the player of a lane
abbrev pub window_out : State → ℕ → ℕ
window_out s lane = window_of (first_job (lane_at s lane).jobs)

-- the first job with m more samples heard, and no window out
abbrev pub heard_more : ℕ → List Job → List Job
heard_more m [] = []
heard_more m (job ∷ jobs) = record job { heard = job.heard + m; window = 0 } ∷ jobs

abbrev pub with_jobs : LaneState → List Job → LaneState
with_jobs lane jobs = record lane { jobs = jobs }

abbrev pub brought_back : State → ℕ → Option ℕ → State
brought_back s lane None = s
brought_back s lane (Some m) = with_lane s lane (with_jobs (lane_at s lane) (heard_more m (lane_at s lane).jobs))

-- a window that a call brings back comes home whatever the reply is
abbrev pub windows_home : State → Call → State
windows_home s (calls.Feed lane back) = brought_back s lane back
windows_home s _ = s

-- ---- the conditions of each call, in its order

abbrev pub conditions : State → List (List ℕ) → Call → List (Option Why)
conditions s tapes (calls.Record take) =
    let n = length (taken tapes take) in
    if_long n ∷ if_spent s ∷ if_crowded s (blocks_for s.shape.block n) ∷ if_full s (effect_of s tapes (calls.Record take)) ∷ []
conditions s tapes (calls.Concat ids) =
    let made = joined s.ropes ids in
    if_unknown (first_unknown s.ropes ids) ∷ if_long (length made) ∷ if_many (length (pieces_in made)) ∷ if_spent s ∷ if_full s (effect_of s tapes (calls.Concat ids)) ∷ []
conditions s tapes (calls.Sub id start len) =
    if_unknown (first_unknown s.ropes (id ∷ [])) ∷ if_outside start len (length (samples_of s.ropes id)) ∷ if_spent s ∷ if_full s (effect_of s tapes (calls.Sub id start len)) ∷ []
conditions s tapes (calls.Replace id start len with) =
    let made = replaced (samples_of s.ropes id) start len (samples_of s.ropes with) in
    if_unknown (first_unknown s.ropes (id ∷ with ∷ []))
    ∷ if_outside start len (length (samples_of s.ropes id))
    ∷ if_long (length made) ∷ if_many (length (pieces_in made)) ∷ if_spent s
    ∷ if_full s (effect_of s tapes (calls.Replace id start len with)) ∷ []
conditions s tapes (calls.Length id) = if_unknown (first_unknown s.ropes (id ∷ [])) ∷ []
conditions s tapes (calls.Describe id) = if_unknown (first_unknown s.ropes (id ∷ [])) ∷ []
conditions s tapes (calls.Levels id) = if_unknown (first_unknown s.ropes (id ∷ [])) ∷ []
conditions s tapes (calls.Play lane id start len) =
    if_no_lane s lane ∷ if_unknown (first_unknown s.ropes (id ∷ [])) ∷ if_recording (lane_at s lane)
    ∷ when (nat_le 8 (length (lane_at s lane).jobs)) why.QueueFull ∷ if_outside start len (length (samples_of s.ropes id)) ∷ []
conditions s tapes (calls.Feed lane back) =
    if_no_lane s lane ∷ when (is_none (first_job (lane_at s lane).jobs)) why.NoJob ∷ when (nat_lt 0 (window_out s lane) && is_none back) why.WindowOut ∷ []
conditions s tapes (calls.Stop lane) = if_no_lane s lane ∷ []
conditions s tapes (calls.Retain class key id note) =
    if_unknown (first_unknown s.ropes (id ∷ [])) ∷ when (is_bad_note class note) why.BadData ∷ if_taken (row_at s.rows class key)
    ∷ if_full s (effect_of s tapes (calls.Retain class key id note)) ∷ []
conditions s tapes (calls.Forget class key) = if_missing (row_at s.rows class key) ∷ if_full s (effect_of s tapes (calls.Forget class key)) ∷ []
conditions s tapes (calls.Lookup class key) = if_missing (row_at s.rows class key) ∷ []
conditions s tapes (calls.Census keys) = if_full s (effect_of s tapes (calls.Census keys)) ∷ []
conditions s tapes (calls.Advance moment) = if_full s (effect_of s tapes (calls.Advance moment)) ∷ []
conditions s tapes (calls.Sweep limit) = if_full s (effect_of s tapes (calls.Sweep limit)) ∷ []
conditions s tapes calls.Landed = []
conditions s tapes (calls.Begin lane) =
    if_no_lane s lane ∷ if_recording (lane_at s lane) ∷ when (nat_lt 0 (length (lane_at s lane).jobs)) (why.LaneBusy (length (lane_at s lane).jobs)) ∷ []
conditions s tapes (calls.Add lane take) =
    let before = length (taking_of s lane) in
    let after = before + length (taken tapes take) in
    if_no_lane s lane ∷ if_not_recording (lane_at s lane) ∷ if_long after
    ∷ if_crowded s (blocks_for s.shape.block after - blocks_for s.shape.block before) ∷ []
conditions s tapes (calls.End lane) =
    if_no_lane s lane ∷ if_not_recording (lane_at s lane) ∷ if_spent s ∷ if_full s (effect_of s tapes (calls.End lane)) ∷ []

-- the first condition that holds
abbrev pub first_of : List (Option Why) → Option Why
first_of [] = None
first_of (None ∷ later) = first_of later
first_of (Some reason ∷ later) = Some reason

abbrev pub refusal : State → List (List ℕ) → Call → Option Why
refusal s tapes call = first_of (conditions s tapes call)

-- ---- what an answered call replies, and the state that it leaves

abbrev pub found : Option Row → Reply
found None = replies.No why.NoInterest
found (Some row) = replies.Found row.rope row.note

abbrev pub samples_made : Option (Effect Tagged) → State → ℕ
samples_made None s = 0
samples_made (Some (Effect.Recorded id samples)) s = length samples
samples_made (Some (Effect.Edited id samples)) s = length samples
samples_made (Some _) s = 0

abbrev pub played_on : Job → ℕ → Reply
played_on job block =
    cond job.stopped (replies.Stopped job.number job.heard)
    (cond (job.heard == length job.passage) (replies.Ended job.number job.heard)
    (replies.Window job.heard (window block (spots_in_rope job.passage) job.heard)))

-- the first job leaves where it is stopped or heard to its end, and else has a window out
abbrev pub served : ℕ → List Job → List Job
served block [] = []
served block (job ∷ jobs) =
    cond (job.stopped || (job.heard == length job.passage)) jobs
    (record job { window = window block (spots_in_rope job.passage) job.heard } ∷ jobs)

abbrev pub reply_of_feed : ℕ → Option Job → Reply
reply_of_feed block None = replies.No why.NoJob
reply_of_feed block (Some job) = played_on job block

abbrev pub reply_of : State → List (List ℕ) → Call → Reply
reply_of s tapes (calls.Length id) = replies.Number (length (samples_of s.ropes id))
reply_of s tapes (calls.Describe id) = replies.Talk (talk (bytes_of (samples_of s.ropes id)))
reply_of s tapes (calls.Levels id) = replies.Peaks (peaks (bytes_of (samples_of s.ropes id)))
reply_of s tapes (calls.Play lane id start len) = replies.Job (s.made + 1)
reply_of s tapes (calls.Feed lane back) = reply_of_feed s.shape.block (first_job (lane_at (brought_back s lane back) lane).jobs)
reply_of s tapes (calls.Stop lane) = replies.Number (count_by (λ job. not job.stopped) (lane_at s lane).jobs)
reply_of s tapes (calls.Retain class key id note) = replies.Done
reply_of s tapes (calls.Forget class key) = replies.Done
reply_of s tapes (calls.Lookup class key) = found (row_at s.rows class key)
reply_of s tapes (calls.Census keys) = replies.Number (length (unlisted_keys s.rows keys))
reply_of s tapes (calls.Advance moment) = replies.Done
reply_of s tapes (calls.Sweep limit) = replies.Swept (length (expired_rows s.kept)) (swept_ropes s.form s.kept limit)
reply_of s tapes calls.Landed = replies.Done
reply_of s tapes (calls.Begin lane) = replies.Done
reply_of s tapes (calls.Add lane take) = replies.Number (length (taking_of s lane) + length (taken tapes take))
reply_of s tapes (calls.Record take) = replies.Rope s.next (samples_made (effect_of s tapes (calls.Record take)) s)
reply_of s tapes (calls.Concat ids) = replies.Rope s.next (samples_made (effect_of s tapes (calls.Concat ids)) s)
reply_of s tapes (calls.Sub id start len) = replies.Rope s.next (samples_made (effect_of s tapes (calls.Sub id start len)) s)
reply_of s tapes (calls.Replace id start len with) = replies.Rope s.next (samples_made (effect_of s tapes (calls.Replace id start len with)) s)
reply_of s tapes (calls.End lane) = replies.Rope s.next (samples_made (effect_of s tapes (calls.End lane)) s)

-- the lane has no open recording any more
abbrev pub closed : State → ℕ → State
closed s lane = with_lane s lane (record (lane_at s lane) { taking = None })

-- an End closes its recording, whatever becomes of the change
abbrev pub recording_closed : State → Call → State
recording_closed s (calls.End lane) = closed s lane
recording_closed s _ = s

abbrev pub stopped_job : Job → Job
stopped_job job = record job { stopped = true }

-- what a call does besides its change
abbrev pub on_lanes : State → List (List ℕ) → Call → State
on_lanes s tapes (calls.Play lane id start len) =
    let job : Job = record { number = s.made + 1; passage = slice (samples_of s.ropes id) start len; heard = 0; window = 0; stopped = false } in
    record (with_lane s lane (with_jobs (lane_at s lane) ((lane_at s lane).jobs ++ job ∷ []))) { made = s.made + 1 }
on_lanes s tapes (calls.Feed lane back) =
    let home = brought_back s lane back in
    with_lane home lane (with_jobs (lane_at home lane) (served s.shape.block (lane_at home lane).jobs))
on_lanes s tapes (calls.Stop lane) = with_lane s lane (with_jobs (lane_at s lane) (map stopped_job (lane_at s lane).jobs))
on_lanes s tapes (calls.Begin lane) = with_lane s lane (record (lane_at s lane) { taking = Some [] })
on_lanes s tapes (calls.Add lane take) = with_lane s lane (record (lane_at s lane) { taking = Some (taking_of s lane ++ taken tapes take) })
on_lanes s tapes (calls.End lane) = closed s lane
on_lanes s tapes _ = s

abbrev pub with_change : State → ℕ → Option (Effect Tagged) → State
with_change s form None = s
with_change s form (Some effect) = committed s form effect

abbrev pub after_answer : State → List (List ℕ) → Call → State
after_answer s tapes call = with_change (on_lanes s tapes call) s.form (effect_of s tapes call)

-- whether a caller may ask the call of the store by itself
abbrev pub is_asked_of : Call → Bool
is_asked_of (calls.Feed lane back) = false
is_asked_of calls.Landed = false
is_asked_of _ = true

-- ---- faults and doubt

-- how a call went: it was answered or refused; a device call failed; a device call failed at or after the write that commits
pub data Outcome : Type 0 where
  Answered : Outcome
  Faulted : Outcome
  Doubted : Outcome

abbrev pub outcome_of_why : Why → Outcome
outcome_of_why why.DiskFault = Outcome.Faulted
outcome_of_why why.InDoubt = Outcome.Doubted
outcome_of_why _ = Outcome.Answered

abbrev pub outcome_of : Reply → Outcome
outcome_of (replies.No reason) = outcome_of_why reason
outcome_of _ = Outcome.Answered

-- the pending change stands, and nothing is in doubt
abbrev pub after_landing : State → Option Pending → State
after_landing s None = s
after_landing s (Some pending) = committed s pending.form pending.effect

abbrev pub landed : State → State
landed s = after_landing (record s { doubt = None }) s.doubt

-- a change in doubt, with the form in which it is asked
abbrev pub asked_in : ℕ → Option (Effect Tagged) → Option Pending
asked_in form None = None
asked_in form (Some effect) = Some (record { effect = effect; form = form })

-- a job that has samples to play
abbrev pub has_more : Option Job → Bool
has_more None = false
has_more (Some job) = not job.stopped && nat_lt job.heard (length job.passage)

-- whether the call, where nothing refuses it, makes a device call
abbrev pub reaches_device : State → List (List ℕ) → Call → Bool
reaches_device s tapes (calls.Describe id) = nat_lt 0 (length (samples_of s.ropes id))
reaches_device s tapes (calls.Levels id) = nat_lt 0 (length (samples_of s.ropes id))
reaches_device s tapes (calls.Feed lane back) = has_more (first_job (lane_at (brought_back s lane back) lane).jobs)
reaches_device s tapes (calls.Add lane take) =
    let before = length (taking_of s lane) in
    nat_lt (before / s.shape.block) ((before + length (taken tapes take)) / s.shape.block)
reaches_device s tapes call = is_some (effect_of s tapes call)

-- ---- steps

abbrev pub after_reply : State → List (List ℕ) → Call → Option Why → State
after_reply s tapes call None = after_answer s tapes call
after_reply s tapes call (Some reason) = windows_home s call

abbrev pub answered : State → List (List ℕ) → Call → State
answered s tapes calls.Landed = landed s
answered s tapes call = after_reply s tapes call (refusal s tapes call)

abbrev pub state_by : Outcome → State → List (List ℕ) → Call → State
state_by Outcome.Answered s tapes call = answered s tapes call
state_by Outcome.Faulted s tapes call = windows_home s call
state_by Outcome.Doubted s tapes call = record (recording_closed s call) { doubt = asked_in s.form (effect_of s tapes call) }

abbrev pub state_after : State → List (List ℕ) → Entry → State
state_after s tapes e = state_by (outcome_of e.reply) s tapes e.call

abbrev pub reply_by : State → List (List ℕ) → Call → Option Why → Reply
reply_by s tapes call None = reply_of s tapes call
reply_by s tapes call (Some reason) = replies.No reason

-- a window that is brought back is out on the lane, and no more of it was heard than it has
abbrev pub BringsItsWindow : State → Call → Type 0
BringsItsWindow s (calls.Feed lane (Some m)) = (0 < window_out s lane) × (m ≤ window_out s lane)
BringsItsWindow s _ = Unit {0}

-- a call of a changing kind waits for a change in doubt to land
abbrev pub nothing_to_land : State → Call → Bool
nothing_to_land s call = not (is_changing call) || is_none s.doubt

-- the landing of a pending change failed
abbrev pub landing_failed : State → Call → Bool
landing_failed s call = is_changing call && is_some s.doubt

-- the call is asked and not refused, and makes a device call that may fail
abbrev pub IsAtDevice : State → List (List ℕ) → Call → Type 0
IsAtDevice s tapes call = (refusal s tapes call ≡ None) × IsTrue (reaches_device s tapes call)

abbrev pub MayReply : Outcome → State → List (List ℕ) → Call → Reply → Type 0
MayReply Outcome.Answered s tapes call reply = IsTrue (nothing_to_land s call) × (reply ≡ reply_by s tapes call (refusal s tapes call))
MayReply Outcome.Faulted s tapes call reply = IsTrue (landing_failed s call) ⊎ IsAtDevice s tapes call
MayReply Outcome.Doubted s tapes call reply = IsTrue (is_changing call) × IsTrue (nothing_to_land s call) × (refusal s tapes call ≡ None) × IsTrue (is_some (effect_of s tapes call))

-- The landing of a change is an entry of caller 0; every other entry is a call that was asked.
abbrev pub IsReply : State → List (List ℕ) → ℕ → Call → Reply → Type 0
IsReply s tapes caller calls.Landed reply = (caller ≡ 0) × (reply ≡ replies.Done) × IsTrue (is_some s.doubt)
IsReply s tapes caller call reply = BringsItsWindow s call × MayReply (outcome_of reply) s tapes call reply

abbrev pub IsAnswer : State → List (List ℕ) → Entry → Type 0
IsAnswer s tapes e = IsReply s tapes e.caller e.call e.reply

pub record Step (s : State) (tapes : List (List ℕ)) (e : Entry) (t : State) : Type 0 where
  pub answer : IsAnswer s tapes e
  pub state : t ≡ state_after s tapes e

-- the state after entries
abbrev pub after : State → List (List ℕ) → List Entry → State
after s tapes [] = s
after s tapes (e ∷ es) = after (state_after s tapes e) tapes es

-- each entry may follow the ones before it
abbrev pub Legal : State → List (List ℕ) → List Entry → Type 0
Legal s tapes [] = Unit {0}
Legal s tapes (e ∷ es) = IsAnswer s tapes e × Legal (state_after s tapes e) tapes es
