-- What a Feed leaves.
use Rattle.std.proofs.Common.{◌≡◌, ℕ, ◌+◌, ◌<◌, ◌≤◌, Bool, true, false, ◌&&◌, nat_lt, List, [], ◌∷◌, ◌++◌, map, length, drop, set, Option, Some, None, refl, sym, ◌∙◌, ap, ap₂, subst, arith}
use Rattle.std.specs.Prelude.{not, slice_get, is_none, is_some, Result, Ok, Err, OnErr}
use Rattle.std.proofs.lemmas.Bool.{lt-ltb}
use Rattle.voice_units.specs.declared.pieces.Piece.{Piece}
use Rattle.voice_units.specs.Spots.{Spot, samples_in}
use Rattle.voice_units.specs.Blocks.{BlockPair}
use Rattle.voice_model.specs.Samples.{Tagged}
use Rattle.voice_model.specs.State.{State, Durable, lane_at}
use Rattle.voice_model.specs.State as model
use Rattle.voice_model.specs.Step.{Outcome, first_of, first_job, window_of, when, refusal, reaches_device, state_by}
use Rattle.voice_model.specs.Replay.{Rebuilt}
use Rattle.voice_model.specs.declared.calls.Call.TheVariants as calls
use Rattle.voice_model.specs.declared.calls.Why.{Why}
use Rattle.voice_model.specs.declared.calls.Why.TheVariants as why
use Rattle.edits.proofs.Refusals.{stops, goes_on}
use Rattle.recovery.proofs.Ropes.{cons_same}
use Rattle.voice_model.specs.declared.calls.Reply.TheVariants as replies
use Rattle.rope_table.specs.Table.{Table, Counts, uses_in}
use Rattle.recovery.specs.declared.parts.Parts.{Parts}
use Rattle.frame_pool.specs.Pool.{Identity, block_of}
use Rattle.running_tables.specs.Running.{Runs}
use Rattle.running_tables.proofs.Recounted.{recounted}
use Rattle.play_queue.specs.declared.jobs.Job.{Job}
use Rattle.play_queue.specs.Queued.{lane_of}
use Rattle.playing.specs.Frames.{FramesState, AreUsed, Forgets, HasRead, uses_of}
use Rattle.playing.specs.Held.{held_in, held_by}
use Rattle.playing.specs.Lanes.{LanesState, window_at, stopped_at, home_with, sent, next_window, next_start, passage_length, IsSentTo}
use Rattle.playing.specs.Shown.{IsFed, shown_job, more_of, state_with, number_at}
use Rattle.playing.specs.Fed.{FedTo, HasSamples, IsStop}
use Rattle.playing.proofs.Bringing.{none_read}
use Rattle.voice_outside.specs.Disk.{Told}
use Rattle.playing.specs.declared.turns.Fed as turn
use Rattle.playing.specs.declared.turns.Fed.TheVariants as turns
use Rattle.playing.proofs.Served as served
use Rattle.playing.proofs.Holding.{sent_same, home_same, stopped_left, first_left, still_used}
use Rattle.lane_calls.specs.Lanes.{ShowsLanes, Stands, ArePledged}
use Rattle.lane_calls.specs.Answers.{IsAnswered, IsServed, IsTold, IsLetGo, HaveForgotten, MayFeed, MayEnd, HasBytes, IsHandedOut, BringsBack, HasStopped}
use Rattle.lane_calls.specs.declared.outcomes.Fed.{Fed}
use Rattle.lane_calls.specs.declared.outcomes.Fed.TheVariants as feds
use Rattle.lane_calls.proofs.Asked.{lane_known, not_le, last_one, split_off, turned, gone_runs}
use Rattle.lane_calls.proofs.Counting.{uses_set}
use Rattle.lane_calls.proofs.Addressed.{next_used}

-- ---- what is known of a lane that is fed

pub is_fed : (fill : Spot → Tagged) (lanes : LanesState) (made : ℕ) (s : State) (lane : ℕ) (back : Option ℕ) → ShowsLanes fill lanes made s → MayFeed lanes.queues lane (is_some back) → IsFed fill s lane back (lane_of lanes.queues lane)
is_fed fill lanes made s lane back h may = record {
  spots = h.spots;
  low = low;
  shows = h.jobs lane low;
  some = may.some;
  home = λ e. may.home (ap is_some e);
}
  where
    low : lane < length s.lanes
    low = subst (λ n. lane < n) (sym h.many) may.known

-- ---- the frames

-- frames that got the blocks of a window of a job that goes on hold used blocks
pub sent_used : (t : Table) (block more lane : ℕ) (lanes : LanesState) (after : FramesState) → Counts t (held_by lanes.queues) → t.block ≡ block → 0 < block → stopped_at (lane_of lanes.queues lane) ≡ false
    → IsSentTo block (next_window block more (lane_of lanes.queues lane)) lane lanes.frames after → AreUsed (uses_of t) lanes.frames → AreUsed (uses_of t) after
sent_used t block more lane lanes after counts same some goes to used =
    still_used (uses_of t) block (next_window block more (lane_of lanes.queues lane)) lane lanes.frames after to used (next_used t block more lanes.queues lane counts same some goes)

pub sent_block : (block lane : ℕ) (w : List Piece) (old new : FramesState) → IsSentTo block w lane old new → block_of new.keeper ≡ block_of old.keeper
sent_block block lane w old new to = ap (λ (p : Identity). p.sizes.block) to.pool

-- ---- the jobs of a lane that hold the same passages

-- the tables run on where a lane's new jobs hold what the old ones did
pub same_runs : (pledged : List (List Piece)) (takings : List ℕ) (parts : Parts) (b : Rebuilt) (queues : List (List Job)) (lane : ℕ) (jobs : List Job) → Runs (held_by queues) pledged takings parts b → lane < length queues → held_in jobs ≡ held_in (lane_of queues lane) → Runs (held_by (set queues lane jobs)) pledged takings parts b
same_runs pledged takings parts b queues lane jobs runs low same =
    recounted (held_by queues) (held_by (set queues lane jobs)) pledged takings parts b
    (λ q.
    let a = uses_set b.shape.block queues lane jobs q low in
    let e = ap (λ l. uses_in b.shape.block l q) same in
    omega (arith, a, e))
    runs

-- the first job once more of it was heard
first_home : (jobs : List Job) (more : ℕ) (job : Job) → Some job ≡ slice_get (home_with more jobs) 0 → (job.id ≡ number_at jobs) × (job.heard ≡ next_start more jobs)
first_home [] more job e = cc
first_home (x ∷ jobs) more job e = let same : job ≡ record x { heard = x.heard + more; window = 0 } = cc in (ap (λ (j : Job). j.id) same, ap (λ (j : Job). j.heard) same)

-- the passage of a first job that leaves is held no longer
ended_uses : (block : ℕ) (jobs : List Job) (more : ℕ) (job : Job) (q : BlockPair) → Some job ≡ slice_get (home_with more jobs) 0 → stopped_at jobs ≡ false → uses_in block (held_in jobs) q ≡ uses_in block (job.passage ∷ []) q + uses_in block (held_in (drop 1 jobs)) q
ended_uses block [] more job q e goes = cc
ended_uses block (x ∷ jobs) more job q e goes =
    let same : job ≡ record x { heard = x.heard + more; window = 0 } = cc in
    let first = ap (λ l. uses_in block l q) (first_left x jobs goes) in
    let passage = ap (λ (j : Job). uses_in block (j.passage ∷ []) q) same in
    omega (arith, first, passage)

-- ---- what became of the first job

module _ (fill : Spot → Tagged) (pledged : List (List Piece)) (takings : List ℕ) (parts : Parts) (lanes mid : LanesState) (made : ℕ) (b : Rebuilt) (s : State) (tapes : List (List ℕ)) (lane : ℕ) (back : Option ℕ) (block : ℕ)
    (st : Stands fill pledged takings parts lanes made b s) (may : MayFeed lanes.queues lane (is_some back)) (free : refusal s tapes (calls.Feed lane back) ≡ None)
    (same : block ≡ s.shape.block) (some : 0 < block) (to : IsSentTo block (next_window block (more_of back) (lane_of lanes.queues lane)) lane lanes.frames mid.frames) where
  abbrev jobs : List Job
  jobs = lane_of lanes.queues lane

  abbrev much : ℕ
  much = more_of back

  known : IsFed fill s lane back jobs
  known = is_fed fill lanes made s lane back st.shows may

  whole : block_of mid.frames.keeper ≡ block_of lanes.frames.keeper
  whole = sent_block block lane (next_window block much jobs) lanes.frames mid.frames to

  table_block : parts.ropes.block ≡ block
  table_block = st.runs.kept.block ∙ ap (λ (d : Durable Tagged). d.shape.block) st.kept ∙ sym same

  used_after : stopped_at jobs ≡ false → AreUsed (uses_of parts.ropes) mid.frames
  used_after goes = sent_used parts.ropes block much lane lanes mid.frames st.runs.kept.uses table_block some goes to st.used

  -- the first job was stopped
  stopped_served : (job : Job) (after : LanesState) → stopped_at jobs ≡ true → Some job ≡ slice_get (home_with much jobs) 0 → mid.queues ≡ set lanes.queues lane (drop 1 jobs) → HaveForgotten parts.ropes mid after
      → IsAnswered fill pledged takings b s tapes (calls.Feed lane back) (replies.Stopped job.id job.heard) made parts after
  stopped_served job after stop is queues forgot =
      let says = served.fed_stopped fill s tapes lane back jobs known stop in
      let named = first_home jobs much job is in
      record {
        unrefused = free;
        replied = says.replies ∙ ap₂ (λ i h. replies.Stopped i h) (sym named.0) (sym named.1);
        stands = subst (Stands fill pledged takings parts after made b) (sym says.leaves)
            (turned fill pledged takings parts parts lanes after made lane b s (drop 1 jobs) st may.known (forgot.queues ∙ queues) (ap block_of forgot.forgets.keeper ∙ whole)
            (same_runs pledged takings parts b lanes.queues lane (drop 1 jobs) st.runs may.known (stopped_left jobs stop)) forgot.used);
      }

  -- it was heard to its end
  ended_served : (job : Job) (new : Parts) (after : LanesState) → ArePledged b pledged → stopped_at jobs ≡ false → next_start much jobs ≡ passage_length jobs → Some job ≡ slice_get (home_with much jobs) 0 → mid.queues ≡ set lanes.queues lane (drop 1 jobs)
      → IsLetGo job.passage parts new → HaveForgotten new.ropes mid after → IsAnswered fill pledged takings b s tapes (calls.Feed lane back) (replies.Ended job.id job.heard) made new after
  ended_served job new after are goes end is queues gone forgot =
      let says = served.fed_ended fill s tapes lane back jobs known goes end in
      let named = first_home jobs much job is in
      record {
        unrefused = free;
        replied = says.replies ∙ ap₂ (λ i h. replies.Ended i h) (sym named.0) (sym named.1);
        stands = subst (Stands fill pledged takings new after made b) (sym says.leaves)
            (turned fill pledged takings parts new lanes after made lane b s (drop 1 jobs) st may.known (forgot.queues ∙ queues) (ap block_of forgot.forgets.keeper ∙ whole)
            (gone_runs (job.passage ∷ []) pledged takings parts new b lanes.queues lane (drop 1 jobs) st.runs may.known (λ q. ended_uses b.shape.block jobs much job q is goes) gone.gone gone.rows gone.moment gone.next gone.form are)
            forgot.used);
      }

  -- its next window is out
  window_served : (at len : ℕ) → stopped_at jobs ≡ false → next_start much jobs < passage_length jobs → at ≡ next_start much jobs → len ≡ samples_in (next_window block much jobs) → mid.queues ≡ set lanes.queues lane (sent much (samples_in (next_window block much jobs)) jobs)
      → IsAnswered fill pledged takings b s tapes (calls.Feed lane back) (replies.Window at len) made parts mid
  window_served at len goes left begins long queues =
      let says = served.fed_window fill s tapes lane back jobs known goes left in
      let n = samples_in (next_window block much jobs) in
      let m : samples_in (next_window s.shape.block much jobs) ≡ n = ap (λ k. samples_in (next_window k much jobs)) (sym same) in
      record {
        unrefused = free;
        replied = says.replies ∙ ap₂ (λ i h. replies.Window i h) (sym begins) (m ∙ sym long);
        stands = subst (Stands fill pledged takings parts mid made b) (sym (says.leaves ∙ ap (λ k. state_with fill s lane (sent much k jobs)) m))
            (turned fill pledged takings parts parts lanes mid made lane b s (sent much n jobs) st may.known queues whole
            (same_runs pledged takings parts b lanes.queues lane (sent much n jobs) st.runs may.known (sent_same jobs much n)) (used_after goes));
      }

  -- a read failed
  fault_served : stopped_at jobs ≡ false → next_start much jobs < passage_length jobs → mid.queues ≡ set lanes.queues lane (home_with much jobs)
      → (refusal s tapes (calls.Feed lane back) ≡ None) × (reaches_device s tapes (calls.Feed lane back) ≡ true) × Stands fill pledged takings parts mid made b (state_by Outcome.Faulted s tapes (calls.Feed lane back))
  fault_served goes left queues = (
    free,
    served.fed_reaches fill s tapes lane back jobs known ∙ ap₂ (λ x y. not x && y) goes (lt-ltb (next_start much jobs) (passage_length jobs) left),
    subst (Stands fill pledged takings parts mid made b) (sym (served.fed_faulted fill s tapes lane back jobs known))
        (turned fill pledged takings parts parts lanes mid made lane b s (home_with much jobs) st may.known queues whole
        (same_runs pledged takings parts b lanes.queues lane (home_with much jobs) st.runs may.known (home_same jobs much)) (used_after goes)),
  )

  pub feed_served : (new : Parts) (after : LanesState) (fed : turn.Fed) (told : Fed) → ArePledged b pledged → FedTo block much lane fed lanes mid → IsTold fed parts mid new after told → IsServed fill pledged takings b s tapes (calls.Feed lane back) made new after told
  feed_served new after (turns.Stopped job) told are to_fed is =
      subst (IsServed fill pledged takings b s tapes (calls.Feed lane back) made new after) (sym is.0)
      (subst (λ (p : Parts). IsAnswered fill pledged takings b s tapes (calls.Feed lane back) (replies.Stopped job.id job.heard) made p after) (sym is.1)
      (stopped_served job after to_fed.0 to_fed.1 to_fed.2 (subst (λ (p : Parts). HaveForgotten p.ropes mid after) is.1 is.2)))
  feed_served new after (turns.Ended job) told are to_fed is =
      subst (IsServed fill pledged takings b s tapes (calls.Feed lane back) made new after) (sym is.0)
      (ended_served job new after are to_fed.0 to_fed.1 to_fed.2 to_fed.3 is.1 is.2)
  feed_served new after (turns.Window at lease) told are to_fed is =
      subst (IsServed fill pledged takings b s tapes (calls.Feed lane back) made new after) (sym is.0)
      (subst (λ (p : Parts). IsAnswered fill pledged takings b s tapes (calls.Feed lane back) (replies.Window at lease.len) made p after) (sym is.1)
      (subst (λ (l : LanesState). IsAnswered fill pledged takings b s tapes (calls.Feed lane back) (replies.Window at lease.len) made parts l) (sym is.2)
      (window_served at lease.len to_fed.0 to_fed.1 to_fed.2 to_fed.3.len to_fed.4)))
  feed_served new after turns.Fault told are to_fed is =
      subst (IsServed fill pledged takings b s tapes (calls.Feed lane back) made new after) (sym is.0)
      (subst (λ (p : Parts). IsServed fill pledged takings b s tapes (calls.Feed lane back) made p after feds.Fault) (sym is.1)
      (subst (λ (l : LanesState). IsServed fill pledged takings b s tapes (calls.Feed lane back) made parts l feds.Fault) (sym is.2)
      (fault_served to_fed.0 to_fed.1 to_fed.2)))

-- ---- why a lane is not fed

first_none : (fill : Spot → Tagged) (js : List Job) → is_none (first_job (map (shown_job fill) js)) ≡ is_none (slice_get js 0)
first_none fill [] = refl
first_none fill (j ∷ js) = refl

first_out : (fill : Spot → Tagged) (js : List Job) → window_of (first_job (map (shown_job fill) js)) ≡ window_at js
first_out fill [] = refl
first_out fill (j ∷ js) = refl

-- the conditions of a Feed on a known lane, as the lanes give them
pub feed_conditions : (fill : Spot → Tagged) (lanes : LanesState) (made : ℕ) (s : State) (tapes : List (List ℕ)) (back : Option ℕ) (lane n : ℕ) → ShowsLanes fill lanes made s → length lanes.queues ≡ n → lane < n
    → refusal s tapes (calls.Feed lane back) ≡ first_of (when (is_none (slice_get (lane_of lanes.queues lane) 0)) why.NoJob ∷ when (nat_lt 0 (window_at (lane_of lanes.queues lane)) && is_none back) why.WindowOut ∷ [])
feed_conditions fill lanes made s tapes back lane n h many low =
    let js = lane_of lanes.queues lane in
    let here = h.jobs lane (subst (λ m. lane < m) (sym (h.many ∙ many)) low) in
    goes_on _ _ _ (lane_known s lane n (h.shape ∙ many) (not_le n lane low))
    (ap (λ (xs : List model.Job). first_of (when (is_none (first_job xs)) why.NoJob ∷ when (nat_lt 0 (window_of (first_job xs)) && is_none back) why.WindowOut ∷ [])) here
    ∙ ap first_of (cons_same (ap (λ t. when t why.NoJob) (first_none fill js)) (cons_same (ap (λ m. when (nat_lt 0 m && is_none back) why.WindowOut) (first_out fill js)) refl)))

window_first : (js : List Job) (job : Job) → Some job ≡ slice_get js 0 → window_at js ≡ job.window
window_first [] job e = cc
window_first (x ∷ js) job e = let same : job ≡ x = cc in ap (λ (j : Job). j.window) (sym same)

some_first : (js : List Job) (job : Job) → Some job ≡ slice_get js 0 → 0 < length js
some_first [] job e = cc
some_first (x ∷ js) job e = omega arith

module _ (fill : Spot → Tagged) (lanes : LanesState) (made : ℕ) (s : State) (tapes : List (List ℕ)) (back : Option ℕ) (qs : List (List Job)) (lane n : ℕ) (h : ShowsLanes fill lanes made s) (many : length lanes.queues ≡ n) (low : lane < n) (same : qs ≡ lanes.queues) where
  pub no_job : None ≡ slice_get (lane_of qs lane) 0 → refusal s tapes (calls.Feed lane back) ≡ Some why.NoJob
  no_job e =
      feed_conditions fill lanes made s tapes back lane n h many low
      ∙ stops _ _ _ (ap (λ (l : List (List Job)). when (is_none (slice_get (lane_of l lane) 0)) why.NoJob) (sym same) ∙ ap (λ (o : Option Job). when (is_none o) why.NoJob) (sym e))

  pub a_job : (job : Job) (r : Option Why) → Some job ≡ slice_get (lane_of qs lane) 0 → when (nat_lt 0 job.window && is_none back) why.WindowOut ≡ r → refusal s tapes (calls.Feed lane back) ≡ r
  a_job job r e is =
      feed_conditions fill lanes made s tapes back lane n h many low
      ∙ goes_on _ _ _ (ap (λ (l : List (List Job)). when (is_none (slice_get (lane_of l lane) 0)) why.NoJob) (sym same) ∙ ap (λ (o : Option Job). when (is_none o) why.NoJob) (sym e))
      (last_one _
      ∙ ap (λ (l : List (List Job)). when (nat_lt 0 (window_at (lane_of l lane)) && is_none back) why.WindowOut) (sym same)
      ∙ ap (λ m. when (nat_lt 0 m && is_none back) why.WindowOut) (window_first (lane_of qs lane) job e)
      ∙ is)

-- a window comes back
pub it_comes : (back : Option ℕ) (n : ℕ) → is_some back ≡ true → when (nat_lt 0 n && is_none back) why.WindowOut ≡ None
it_comes None n e = cc
it_comes (Some m) n e = by (nat_lt 0 n)
  where
    by : (t : Bool) → when (t && false) why.WindowOut ≡ None
    by true = refl
    by false = refl

-- none comes back, and one is out, or none
pub is_out : (back : Option ℕ) (n : ℕ) → is_some back ≡ false → 0 < n → when (nat_lt 0 n && is_none back) why.WindowOut ≡ Some why.WindowOut
is_out None n e out = ap (λ t. when (t && true) why.WindowOut) (lt-ltb 0 n out)
is_out (Some m) n e out = cc

pub is_home : (back : Option ℕ) (n : ℕ) → n ≤ 0 → when (nat_lt 0 n && is_none back) why.WindowOut ≡ None
is_home back n home = let none : n ≡ 0 = omega (arith, home) in ap (λ m. when (nat_lt 0 m && is_none back) why.WindowOut) none

pub may_feed : (queues qs : List (List Job)) (lane n : ℕ) (back : Bool) (job : Job) → length queues ≡ n → lane < n → qs ≡ queues → Some job ≡ slice_get (lane_of qs lane) 0 → (back ≡ false → job.window ≤ 0) → MayFeed queues lane back
may_feed queues qs lane n back job many low same e home =
    let there = e ∙ ap (λ (l : List (List Job)). slice_get (lane_of l lane) 0) same in
    record {
      known = subst (λ m. lane < m) (sym many) low;
      some = some_first (lane_of queues lane) job there;
      home = λ b. let none = home b in let is = window_first (lane_of queues lane) job there in omega (arith, none, is);
    }

-- ---- the passage of a job that ends

-- it is held
pub may_end : (t : Table) (lanes mid : LanesState) (block more lane : ℕ) (fed : turn.Fed) → Counts t (held_by lanes.queues) → lane < length lanes.queues → FedTo block more lane fed lanes mid → MayEnd fed t
may_end t lanes mid block more lane (turns.Stopped job) counts low is = tt
may_end t lanes mid block more lane (turns.Window at lease) counts low is = tt
may_end t lanes mid block more lane turns.Fault counts low is = tt
may_end t lanes mid block more lane (turns.Ended job) counts low is =
    let off = split_off t lanes.queues lanes.queues lane (length lanes.queues) refl low refl counts in
    by (lane_of lanes.queues lane) is.2 is.0 off.0 off.1
  where
    by : (js : List Job) → Some job ≡ slice_get (home_with more js) 0 → stopped_at js ≡ false → (rest : List (List Piece)) → Counts t (held_in js ++ rest) → (others : List (List Piece)) × Counts t (job.passage ∷ others)
    by [] e goes rest c = cc
    by (x ∷ js) e goes rest c =
        let same : job ≡ record x { heard = x.heard + more; window = 0 } = cc in
        (held_in js ++ rest, subst (Counts t) (ap (λ l. l ++ rest) (first_left x js goes) ∙ ap (λ (j : Job). j.passage ∷ (held_in js ++ rest)) (sym same)) c)

-- ---- samples, and want of memory

pub told_bytes : (bytes : ℕ → ℕ → List ℕ) (block more : ℕ) (js : List Job) (fed : turn.Fed) (old new : Parts) (lanes after : LanesState) (told : Fed) → IsTold fed old lanes new after told → HasSamples bytes block (next_window block more js) fed → HasBytes bytes block more js told
told_bytes bytes block more js (turns.Stopped job) old new lanes after told is h = subst (HasBytes bytes block more js) (sym is.0) tt
told_bytes bytes block more js (turns.Ended job) old new lanes after told is h = subst (HasBytes bytes block more js) (sym is.0) tt
told_bytes bytes block more js (turns.Window at lease) old new lanes after told is h = subst (HasBytes bytes block more js) (sym is.0) h
told_bytes bytes block more js turns.Fault old new lanes after told is h = subst (HasBytes bytes block more js) (sym is.0) tt

-- the tables and the lanes stand for the same state after want of memory
pub err_stays : (fill : Spot → Tagged) (pledged : List (List Piece)) (takings : List ℕ) (parts : Parts) (lanes mid : LanesState) (made : ℕ) (b : Rebuilt) (s : State) (block more lane : ℕ) → Stands fill pledged takings parts lanes made b s → block_of lanes.frames.keeper ≡ block → 0 < block
    → (stopped_at (lane_of lanes.queues lane) ≡ true → ⊥) → mid.queues ≡ lanes.queues → IsSentTo block (next_window block more (lane_of lanes.queues lane)) lane lanes.frames mid.frames → Stands fill pledged takings parts mid made b s
err_stays fill pledged takings parts lanes mid made b s block more lane st same some not_stopped queues to = record {
  shows = record {
    spots = st.shows.spots;
    many = st.shows.many ∙ ap (λ (l : List (List Job)). length l) (sym queues);
    shape = st.shows.shape ∙ ap (λ (l : List (List Job)). length l) (sym queues);
    block = sent_block block lane (next_window block more (lane_of lanes.queues lane)) lanes.frames mid.frames to ∙ st.shows.block;
    jobs = λ l lt. st.shows.jobs l lt ∙ ap (λ (qs : List (List Job)). map (shown_job fill) (lane_of qs l)) (sym queues);
    number = st.shows.number;
  };
  runs = subst (λ (l : List (List Job)). Runs (held_by l) pledged takings parts b) (sym queues) st.runs;
  kept = st.kept;
  used = by (stopped_at (lane_of lanes.queues lane)) refl;
}
  where
    by : (t : Bool) → stopped_at (lane_of lanes.queues lane) ≡ t → AreUsed (uses_of parts.ropes) mid.frames
    by true e = absurd (not_stopped e)
    by false e =
        let whole = st.runs.kept.block ∙ ap (λ (d : Durable Tagged). d.shape.block) st.kept ∙ sym st.shows.block ∙ same in
        sent_used parts.ropes block more lane lanes mid.frames st.runs.kept.uses whole some e to st.used

pub err_forgot : (fill : Spot → Tagged) (pledged : List (List Piece)) (takings : List ℕ) (parts : Parts) (lanes mid after : LanesState) (made : ℕ) (b : Rebuilt) (s : State) (block lane : ℕ) (w : List Piece) → Stands fill pledged takings parts lanes made b s
    → mid.queues ≡ lanes.queues → IsSentTo block w lane lanes.frames mid.frames → after.queues ≡ mid.queues → Forgets (uses_of parts.ropes) mid.frames after.frames → AreUsed (uses_of parts.ropes) after.frames → Stands fill pledged takings parts after made b s
err_forgot fill pledged takings parts lanes mid after made b s block lane w st queues to same forgets used =
    let all = same ∙ queues in
    record {
      shows = record {
        spots = st.shows.spots;
        many = st.shows.many ∙ ap (λ (l : List (List Job)). length l) (sym all);
        shape = st.shows.shape ∙ ap (λ (l : List (List Job)). length l) (sym all);
        block = ap block_of forgets.keeper ∙ sent_block block lane w lanes.frames mid.frames to ∙ st.shows.block;
        jobs = λ l lt. st.shows.jobs l lt ∙ ap (λ (qs : List (List Job)). map (shown_job fill) (lane_of qs l)) (sym all);
        number = st.shows.number;
      };
      runs = subst (λ (l : List (List Job)). Runs (held_by l) pledged takings parts b) (sym all) st.runs;
      kept = st.kept;
      used = used;
    }

-- ---- what tells of a fault, of the window that came back, and of a stop

pub told_fault : (fed : turn.Fed) (old new : Parts) (lanes after : LanesState) (told : Fed) → IsTold fed old lanes new after told → told ≡ feds.Fault → fed ≡ turns.Fault
told_fault (turns.Stopped job) old new lanes after told is e = let none = sym is.0 ∙ e in cc
told_fault (turns.Ended job) old new lanes after told is e = let none = sym is.0 ∙ e in cc
told_fault (turns.Window at lease) old new lanes after told is e = let none = sym is.0 ∙ e in cc
told_fault turns.Fault old new lanes after told is e = refl

pub told_back : (len : ℕ) (fed : turn.Fed) (old new : Parts) (lanes mid after : LanesState) (lane : ℕ) (told : Fed) → IsTold fed old mid new after told → (0 < window_at (lane_of lanes.queues lane)) × (window_at (lane_of lanes.queues lane) ≡ len) → BringsBack lanes lane len told
told_back len fed old new lanes mid after lane (feds.Refused why) is h = tt
told_back len fed old new lanes mid after lane (feds.Stopped id heard) is h = h
told_back len fed old new lanes mid after lane (feds.Ended id heard) is h = h
told_back len fed old new lanes mid after lane (feds.Window at lease) is h = h
told_back len fed old new lanes mid after lane feds.Fault is h = h

pub told_stop : (fed : turn.Fed) (old new : Parts) (lanes after : LanesState) (told : Fed) → IsTold fed old lanes new after told → IsStop fed → HasStopped told
told_stop (turns.Stopped job) old new lanes after told is h = subst HasStopped (sym is.0) tt
told_stop (turns.Ended job) old new lanes after told is h = absurd h
told_stop (turns.Window at lease) old new lanes after told is h = absurd h
told_stop turns.Fault old new lanes after told is h = absurd h

pub told_fresh : (block more lane : ℕ) (fed : turn.Fed) (old new : Parts) (first lanes after : LanesState) (told : Fed) → IsTold fed old lanes new after told → FedTo block more lane fed first lanes → IsHandedOut first.frames.keeper.pool lane told
told_fresh block more lane (turns.Stopped job) old new first lanes after told is h = subst (IsHandedOut first.frames.keeper.pool lane) (sym is.0) tt
told_fresh block more lane (turns.Ended job) old new first lanes after told is h = subst (IsHandedOut first.frames.keeper.pool lane) (sym is.0) tt
told_fresh block more lane (turns.Window at lease) old new first lanes after told is h = subst (IsHandedOut first.frames.keeper.pool lane) (sym is.0) (let sent = h.3 in (sent.pool, sent.on, sent.live, sent.fresh, sent.unhinted))
told_fresh block more lane turns.Fault old new first lanes after told is h = subst (IsHandedOut first.frames.keeper.pool lane) (sym is.0) tt

-- nothing was read
pub nothing_read : (most : ℕ) (t : Told) → HasRead most t t
nothing_read most t = record { size = refl; honest = refl; later = omega arith; calls = omega arith; faults = omega arith; reads = (none_read t).reads }

-- ---- results

pub apart : false ≡ true → ⊥
apart e = cc

pub on_err : {T E P : Type 0} (r : Result T E) → P → OnErr r P
on_err (Ok x) p = tt
on_err (Err e) p = p
