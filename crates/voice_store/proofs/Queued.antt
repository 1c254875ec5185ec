-- A call of lanes that nothing refuses: a Play and a Stop in the store.
use Rattle.std.proofs.Common.{◌≡◌, inl, inr, ℕ, zero, suc, ◌+◌, ◌<◌, ◌≤◌, ◌^◌, false, not, ◌||◌, List, [], ◌∷◌, ◌++◌, map, length, Option, None, IsTrue, refl, sym, ◌∙◌, ap, subst, arith}
use Rattle.std.specs.Prelude.{is_none, slice_set, slice_index_or, unwrap_or}
use Rattle.voice_units.specs.declared.pieces.Piece.{Piece}
use Rattle.voice_units.specs.Blocks.{BlockPair}
use Rattle.voice_outside.specs.Disk.{Told}
use Rattle.voice_model.specs.Samples.{Tagged}
use Rattle.voice_units.specs.declared.shapes.Shape.{Shape}
use Rattle.voice_units.specs.Spots.{slice}
use Rattle.voice_model.specs.State.{State, LaneState, Job, Effect, quiet_lane, lane_at, with_lane, samples_of}
use Rattle.voice_model.specs.Room.{taking_blocks}
use Rattle.voice_model.specs.Changes.{effect_of, is_changing}
use Rattle.voice_model.specs.Step.{on_lanes, with_jobs, with_change, stopped_job, state_after, nothing_to_land, IsReply}
use Rattle.voice_model.specs.Valid.{Every, InRange, IsState}
use Rattle.voice_model.specs.declared.calls.Call.{Call}
use Rattle.voice_model.specs.declared.calls.Call.TheVariants as calls
use Rattle.voice_model.specs.declared.calls.Reply.{Reply}
use Rattle.voice_model.specs.declared.calls.Entry.{Entry}
use Rattle.voice_model.proofs.Heard.{answer_on}
use Rattle.voice_model.proofs.StatesKept.{state_kept}
use Rattle.voice_model.proofs.KeptByChanges.{every-append}
use Rattle.voice_model.proofs.FitsOfCalls.{every_at}
use Rattle.voice_blocks.specs.Holders.{BlocksView}
use Rattle.rope_table.specs.declared.ropes.Rope.{Rope}
use Rattle.rope_table.specs.Table.{uses_at}
use Rattle.interest_table.specs.Table as rows
use Rattle.recovery.specs.declared.parts.Parts.{Parts}
use Rattle.running_tables.specs.Running.{Runs, takings_of}
use Rattle.record_job.specs.Recording.{Recording}
use Rattle.recording_calls.specs.Shown.{ShowsRecordings}
use Rattle.playing.specs.Frames.{FramesState, HoldsBytes}
use Rattle.playing.specs.Held.{held_by}
use Rattle.playing.specs.Lanes.{LanesState}
use Rattle.lane_calls.specs.Lanes.{Stands, ArePledged}
use Rattle.lane_calls.specs.Answers.{IsAnswered}
use Rattle.lane_calls.proofs.HeldAgain as again
use Rattle.next_ropes.specs.Addresses.{KeepsAddresses}
use Rattle.next_ropes.specs.Ready.{most_held}
use Rattle.next_ropes.proofs.Readied.{uses_fit}
use Rattle.crash_laws.specs.Standing.{IsHonest}
use Rattle.crash_laws.specs.Laws.{EntriesCount}
use Rattle.built_calls.specs.Built.{is_built}
use Rattle.voice_store.specs.declared.inside.Inside.{Inside}
use Rattle.voice_store.specs.Facts.{entry_of}
use Rattle.voice_store.specs.Playing.{bytes_by, PassagesBelow, KeepsTakings}
use Rattle.voice_store.specs.Stood.{tapes_of, last_of, Stood}
use Rattle.voice_store.proofs.Again.{of_slice}
use Rattle.voice_store.proofs.Filled.{same_addresses}
use Rattle.voice_store.proofs.Refused.{may_answer, after_answered}
use Rattle.voice_store.proofs.Played.{recorded_as, recorded_still}
use Rattle.voice_store.proofs.Taking.{below_next}
use Rattle.voice_store.proofs.Turned.{Turns, stood_stands, stood_turned}

-- ---- lanes with other jobs

pub every_set : {A : Type 0} (P : A → Type 0) (xs : List A) (n : ℕ) (x : A) → Every P xs → P x → Every P (slice_set xs n x)
every_set P [] n x h k = tt
every_set P (y ∷ xs) zero x h k = (k, h.1)
every_set P (y ∷ xs) (suc n) x h k = (h.0, every_set P xs n x h.1 k)

abbrev pub JobsBelow : ℕ → List Job → Type 0
JobsBelow next jobs = Every (λ job. Every (λ sample. sample.file < next) job.passage) jobs

pub below_at : (next : ℕ) (s : State) (lane : ℕ) → PassagesBelow next s.lanes → JobsBelow next (lane_at s lane).jobs
below_at next s lane below = every_at (λ (l : LaneState). JobsBelow next l.jobs) s.lanes lane quiet_lane tt below

pub below_set : (next : ℕ) (s : State) (lane : ℕ) (jobs : List Job) → PassagesBelow next s.lanes → JobsBelow next jobs → PassagesBelow next (with_lane s lane (with_jobs (lane_at s lane) jobs)).lanes
below_set next s lane jobs below mine = every_set (λ (l : LaneState). JobsBelow next l.jobs) s.lanes lane (with_jobs (lane_at s lane) jobs) below mine

-- what is told of each lane, where one is replaced of which it tells the same
pub told_set : {A : Type 0} (told : LaneState → A) (lanes : List LaneState) (lane : ℕ) (value : LaneState) → told value ≡ told (slice_index_or lanes lane quiet_lane) → map told (slice_set lanes lane value) ≡ map told lanes
told_set told [] lane value same = refl
told_set told (l ∷ lanes) zero value same = ap (λ x. x ∷ map told lanes) same
told_set told (l ∷ lanes) (suc lane) value same = ap (λ xs. told l ∷ xs) (told_set told lanes lane value same)

pub told_at : {A : Type 0} (told : LaneState → A) (lanes : List LaneState) (lane : ℕ) (value : LaneState) → told value ≡ told (slice_index_or lanes lane quiet_lane) → (l : ℕ) → told (slice_index_or (slice_set lanes lane value) l quiet_lane) ≡ told (slice_index_or lanes l quiet_lane)
told_at told [] lane value same l = refl
told_at told (x ∷ lanes) zero value same zero = same
told_at told (x ∷ lanes) zero value same (suc l) = refl
told_at told (x ∷ lanes) (suc lane) value same zero = refl
told_at told (x ∷ lanes) (suc lane) value same (suc l) = told_at told lanes lane value same l

pub many_set : (lanes : List LaneState) (lane : ℕ) (value : LaneState) → length (slice_set lanes lane value) ≡ length lanes
many_set [] lane value = refl
many_set (l ∷ lanes) zero value = refl
many_set (l ∷ lanes) (suc lane) value = ap suc (many_set lanes lane value)

-- a state whose lane has other jobs has the same open recordings
pub record SameTakings (s t : State) : Type 0 where
  pub blocks : (block : ℕ) → takings_of block t.lanes ≡ takings_of block s.lanes
  pub each : (l : ℕ) → (lane_at t l).taking ≡ (lane_at s l).taking
  pub many : length t.lanes ≡ length s.lanes
  pub shape : t.shape ≡ s.shape

pub takings_same : (s : State) → SameTakings s s
takings_same s = record { blocks = λ block. refl; each = λ l. refl; many = refl; shape = refl }

-- a lane's jobs are others, and the number of jobs made may be
pub takings_set : (s : State) (lane : ℕ) (jobs : List Job) (made : ℕ) → SameTakings s (record (with_lane s lane (with_jobs (lane_at s lane) jobs)) { made = made })
takings_set s lane jobs made = record {
  blocks = λ block. told_set (λ (l : LaneState). taking_blocks block l.taking) s.lanes lane (with_jobs (lane_at s lane) jobs) refl;
  each = told_at (λ (l : LaneState). l.taking) s.lanes lane (with_jobs (lane_at s lane) jobs) refl;
  many = many_set s.lanes lane (with_jobs (lane_at s lane) jobs);
  shape = refl;
}

pub takings_then : (s t u : State) → SameTakings s t → SameTakings t u → SameTakings s u
takings_then s t u one two = record { blocks = λ block. two.blocks block ∙ one.blocks block; each = λ l. two.each l ∙ one.each l; many = two.many ∙ one.many; shape = two.shape ∙ one.shape }

-- so they keep them, and are shown by the same
pub same_takes : (s t : State) → SameTakings s t → KeepsTakings s t
same_takes s t same = λ l. inl (ap (λ (o : Option (List ℕ)). unwrap_or o []) (same.each l))

pub same_recorded : (recordings : List (Option Recording)) (s t : State) → SameTakings s t → ShowsRecordings recordings s → ShowsRecordings recordings t
same_recorded recordings s t same = recorded_as recordings s t (ap (λ (x : Shape). x.block) same.shape) same.many same.each

stopped_below : (next : ℕ) (jobs : List Job) → JobsBelow next jobs → JobsBelow next (map stopped_job jobs)
stopped_below next [] below = tt
stopped_below next (job ∷ jobs) below = (below.0, stopped_below next jobs below.1)

-- ---- a call that is refused

pub stood_unmoved : (first : State) (t0 : ℕ) (disk : Told) (s : Inside) (parts : Parts) (lanes : LanesState) → parts ≡ s.parts → lanes ≡ s.lanes → Stood first t0 disk s → Stood first t0 disk (record s { parts = parts; lanes = lanes })
stood_unmoved first t0 disk s parts lanes same still stood =
    subst (λ (p : Parts). Stood first t0 disk (record s { parts = p; lanes = lanes })) (sym same) (subst (λ (l : LanesState). Stood first t0 disk (record s { parts = s.parts; lanes = l })) (sym still) stood)

-- ---- a call that is answered

module _ (first : State) (t0 : ℕ) (disk : Told) (s s' : Inside) (stood : Stood first t0 disk s) (caller : ℕ) (call : Call) (reply : Reply) where
  abbrev last : State
  last = last_of first s

  abbrev now : State
  now = on_lanes last (tapes_of s) call

  -- the tables and the lanes stand for the state that it leaves, and it replies so
  abbrev pub Answers : Type 0
  Answers = (pledged : List (List Piece)) (takings : List ℕ) → Stands stood.fill pledged takings s.parts s.lanes s.made stood.b last → ArePledged stood.b pledged
      → IsAnswered stood.fill pledged takings stood.b last (tapes_of s) call reply s'.made s'.parts s'.lanes

  module _ (answered : Answers) where
    abbrev standing : (pledged : List (List Piece)) × Stands stood.fill pledged stood.takings s.parts s.lanes s.made stood.b last × ArePledged stood.b pledged
    standing = stood_stands first t0 disk s stood

    is : IsAnswered stood.fill standing.0 stood.takings stood.b last (tapes_of s) call reply s'.made s'.parts s'.lanes
    is = answered standing.0 stood.takings standing.1 standing.2

    module _ (built : IsTrue (is_built call)) (calm : is_changing call ≡ false) (none : effect_of last (tapes_of s) call ≡ None) (range : InRange call) where
      lands : IsTrue (nothing_to_land last call)
      lands = ap (λ b. not b || is_none last.doubt) calm

      abbrev entry : Entry
      entry = entry_of caller call reply disk.calls

      replies_so : IsReply last (tapes_of s) caller call reply
      replies_so = subst (λ (r : Reply). IsReply last (tapes_of s) caller call r) is.replied (may_answer last (tapes_of s) caller call built lands None is.unrefused)

      leaves : state_after last (tapes_of s) entry ≡ now
      leaves =
          subst (λ (r : Reply). state_after last (tapes_of s) (entry_of caller call r disk.calls) ≡ now) is.replied
          (after_answered last (tapes_of s) caller call built lands None is.unrefused disk.calls ∙ ap (λ (o : Option (Effect Tagged)). with_change now last.form o) none)

      valid : IsState now
      valid = subst (λ (t : State). IsState t) leaves (state_kept last (tapes_of s) entry stood.upright.valid range replies_so)

      pub stood_answered : Turns disk.honest stood.fill stood.b s s' last now → s'.history.items ≡ s.history.items ++ entry ∷ [] → (IsTrue disk.honest → IsHonest disk) → EntriesCount disk → Stood first t0 disk s'
      stood_answered turns items honest counts = stood_turned first t0 disk s stood s' entry now valid turns items refl (answer_on disk.honest last (tapes_of s) entry replies_so) leaves honest counts

-- ---- a Play

module _ (first : State) (t0 : ℕ) (disk : Told) (s s' : Inside) (stood : Stood first t0 disk s) (caller lane id start len : ℕ) (reply : Reply) where
  abbrev playing : Call
  playing = calls.Play lane id start len

  -- what was rebuilt is placed
  runs_on : Runs (held_by s.lanes.queues) (stood_stands first t0 disk s stood).0 stood.takings s.parts stood.b
  runs_on = (stood_stands first t0 disk s stood).1.runs

  -- the lanes record what they did
  queued_takings : (state : State) → SameTakings state (on_lanes state (tapes_of s) playing)
  queued_takings state = takings_set state lane ((lane_at state lane).jobs ++ record { number = state.made + 1; passage = slice (samples_of state.ropes id) start len; heard = 0; window = 0; stopped = false } ∷ []) (state.made + 1)

  pub stood_queued : Answers first t0 disk s s' stood caller playing reply → s' ≡ record s { parts = s'.parts; lanes = s'.lanes; made = s'.made; history = s'.history } → s'.history.items ≡ s.history.items ++ entry_of caller playing reply disk.calls ∷ []
      → length s.parts.ropes.ropes + most_held + 3 ≤ 2 ^ 32 → s'.lanes.frames ≡ s.lanes.frames → s'.parts.blocks ≡ s.parts.blocks → s'.parts.interests ≡ s.parts.interests
      → s'.parts.ropes.spare_ropes ≡ s.parts.ropes.spare_ropes → s.parts.ropes.spare_pairs ≤ s'.parts.ropes.spare_pairs
      → (IsTrue disk.honest → IsHonest disk) → EntriesCount disk → Stood first t0 disk s'
  stood_queued answered rest items few frames blocks interests spare_ropes spare_pairs honest counts =
      let state = last_of first s in
      let there = is first t0 disk s s' stood caller playing reply answered in
      let kept = there.stands.runs.kept in
      let same : s'.parts.ropes.ropes ≡ s.parts.ropes.ropes = kept.ropes ∙ sym runs_on.kept.ropes in
      let count = ap (λ (l : List Rope). length l) same in
      let held = again.few_held stood.fill s'.lanes s'.made (on_lanes state (tapes_of s) playing) there.stands.shows (valid first t0 disk s s' stood caller playing reply answered refl refl refl tt) in
      stood_answered first t0 disk s s' stood caller playing reply answered refl refl refl tt
      (record {
        tapes = ap (λ (x : Inside). x.tapes) rest;
        journal = ap (λ (x : Inside). x.journal) rest;
        doubt = ap (λ (x : Inside). x.doubt) rest;
        moves = refl;
        stands = λ pledged takings st are. (answered pledged takings st are).stands;
        addresses = same_addresses s.parts.blocks.holders s'.parts.blocks.holders (ap (λ (v : BlocksView). v.holders) blocks);
        spare_ropes = spare_ropes;
        spare_pairs = spare_pairs;
        uses = λ q. inl (uses_fit (held_by s'.lanes.queues) s'.parts stood.b.kept kept held (omega (arith, few, count)) q);
        interests = ap (λ (v : rows.Table). v.spare) interests;
        bytes = λ h was. subst (λ (f : FramesState). HoldsBytes (bytes_by stood.fill s.journal.shape.block) f) (sym frames) was;
        below = below_set state.next state lane _ stood.playing.below
            (every-append (λ (job : Job). Every (λ sample. sample.file < state.next) job.passage) (lane_at state lane).jobs _ (below_at state.next state lane stood.playing.below)
            (of_slice (λ (t : Tagged). t.file < state.next) state.ropes (below_next stood.fill stood.upright.fills.spots stood.b state.kept runs_on.placed stood.upright.fills.kept) id start len, tt));
        blocks = (queued_takings state).blocks;
        takes = same_takes state (on_lanes state (tapes_of s) playing) (queued_takings state);
        recorded = recorded_still s s' (on_lanes state (tapes_of s) playing) (ap (λ (x : Inside). x.recordings) rest) (same_recorded s.recordings state (on_lanes state (tapes_of s) playing) (queued_takings state) stood.playing.recorded);
      })
      items honest counts

-- ---- a Stop

module _ (first : State) (t0 : ℕ) (disk : Told) (s s' : Inside) (stood : Stood first t0 disk s) (caller lane : ℕ) (reply : Reply) where
  pub stood_stopped : Answers first t0 disk s s' stood caller (calls.Stop lane) reply → s' ≡ record s { parts = s'.parts; lanes = s'.lanes; made = s'.made; history = s'.history } → s'.history.items ≡ s.history.items ++ entry_of caller (calls.Stop lane) reply disk.calls ∷ []
      → ((bytes : ℕ → ℕ → List ℕ) → HoldsBytes bytes s.lanes.frames → HoldsBytes bytes s'.lanes.frames) → KeepsAddresses s.parts.blocks.holders s'.parts.blocks.holders → ((q : BlockPair) → uses_at s'.parts.ropes q ≤ uses_at s.parts.ropes q)
      → s'.parts.interests ≡ s.parts.interests → s'.parts.ropes.spare_ropes ≡ s.parts.ropes.spare_ropes → s.parts.ropes.spare_pairs ≤ s'.parts.ropes.spare_pairs
      → (IsTrue disk.honest → IsHonest disk) → EntriesCount disk → Stood first t0 disk s'
  stood_stopped answered rest items bytes addresses uses interests spare_ropes spare_pairs honest counts =
      let state = last_of first s in
      stood_answered first t0 disk s s' stood caller (calls.Stop lane) reply answered refl refl refl tt
      (record {
        tapes = ap (λ (x : Inside). x.tapes) rest;
        journal = ap (λ (x : Inside). x.journal) rest;
        doubt = ap (λ (x : Inside). x.doubt) rest;
        moves = refl;
        stands = λ pledged takings st are. (answered pledged takings st are).stands;
        addresses = addresses;
        spare_ropes = spare_ropes;
        spare_pairs = spare_pairs;
        uses = λ q. inr (uses q);
        interests = ap (λ (v : rows.Table). v.spare) interests;
        bytes = λ h was. bytes (bytes_by stood.fill s.journal.shape.block) was;
        below = below_set state.next state lane _ stood.playing.below (stopped_below state.next (lane_at state lane).jobs (below_at state.next state lane stood.playing.below));
        blocks = (takings_set state lane (map stopped_job (lane_at state lane).jobs) state.made).blocks;
        takes = same_takes state (on_lanes state (tapes_of s) (calls.Stop lane)) (takings_set state lane (map stopped_job (lane_at state lane).jobs) state.made);
        recorded = recorded_still s s' (on_lanes state (tapes_of s) (calls.Stop lane)) (ap (λ (x : Inside). x.recordings) rest)
            (same_recorded s.recordings state (on_lanes state (tapes_of s) (calls.Stop lane)) (takings_set state lane (map stopped_job (lane_at state lane).jobs) state.made) stood.playing.recorded);
      })
      items honest counts
