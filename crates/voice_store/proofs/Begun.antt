-- A recording that is opened: a Begin in the store; and a lane whose open recording alone changes.
use Rattle.std.proofs.Common.{◌≡◌, inl, inr, ℕ, zero, suc, ◌+◌, ◌-◌, ◌*◌, ◌/◌, ◌<◌, ◌≤◌, not, List, [], ◌∷◌, ◌++◌, map, filter, length, Option, Some, None, IsTrue, refl, sym, ◌∙◌, ap, subst, arith}
use Rattle.std.specs.Prelude.{Vec, flat_map, slice_set, slice_index_or, unwrap_or}
use Rattle.std.specs.declared.alloc.Global.{Global}
use Rattle.std.proofs.lemmas.List.{get_or_past, length-map}
use Rattle.std.proofs.lemmas.Nat.{div-mul-add}
use Rattle.std.proofs.Math.Nat.{zero-div}
use Rattle.voice_units.specs.declared.pieces.Piece.{Piece}
use Rattle.voice_units.specs.Spots.{Spot, pieces_of}
use Rattle.voice_units.specs.Blocks.{blocks_for}
use Rattle.voice_outside.specs.Disk.{Told}
use Rattle.voice_model.specs.Samples.{Tagged, spot_of}
use Rattle.voice_model.specs.State.{State, LaneState, Job, quiet_lane, lane_at, with_lane}
use Rattle.voice_model.specs.Room.{taking_blocks}
use Rattle.voice_model.specs.Step.{conditions, if_recording, on_lanes, refusal}
use Rattle.voice_model.specs.declared.calls.Call.TheVariants as calls
use Rattle.voice_model.specs.declared.calls.Entry.{Entry}
use Rattle.voice_model.specs.declared.calls.Reply.TheVariants as replies
use Rattle.voice_model.proofs.FitsOfCalls.{all_none}
use Rattle.running_tables.specs.Running.{passages_of, taken, takings_of}
use Rattle.record_job.specs.Recording.{Recording}
use Rattle.recording_calls.specs.Shown.{ShowsRecordings}
use Rattle.play_queue.specs.Queued.{lane_of}
use Rattle.playing.specs.Lanes.{LanesState}
use Rattle.playing.specs.Shown.{shown_job}
use Rattle.lane_calls.specs.Lanes.{ShowsLanes, Stands}
use Rattle.crash_laws.specs.Standing.{IsHonest}
use Rattle.crash_laws.specs.Laws.{EntriesCount}
use Rattle.voice_store.specs.declared.inside.Inside.{Inside}
use Rattle.voice_store.specs.Facts.{entry_of}
use Rattle.voice_store.specs.Playing.{PassagesBelow}
use Rattle.voice_store.specs.Stood.{tapes_of, last_of, Stood}
use Rattle.voice_store.proofs.Queued.{Answers, JobsBelow, below_at, every_set, many_set, stood_answered, told_at, told_set}

-- ---- the jobs of a lane

-- a lane has as many jobs as the program keeps of it
pub jobs_many : (fill : Spot → Tagged) (lanes : LanesState) (made : ℕ) (s : State) (lane : ℕ) → ShowsLanes fill lanes made s → lane < length lanes.queues → length (lane_of lanes.queues lane) ≡ length (lane_at s lane).jobs
jobs_many fill lanes made s lane h low =
    let many = h.many in
    sym (ap (λ (l : List Job). length l) (h.jobs lane (omega (arith, low, many))) ∙ length-map (lane_of lanes.queues lane) (shown_job fill))

-- one that is not there has none
pub jobs_none : (fill : Spot → Tagged) (lanes : LanesState) (made : ℕ) (s : State) (lane : ℕ) → ShowsLanes fill lanes made s → length lanes.queues ≤ lane → 0 ≡ length (lane_at s lane).jobs
jobs_none fill lanes made s lane h past =
    let many = h.many in
    sym (ap (λ (l : LaneState). length l.jobs) (get_or_past s.lanes lane quiet_lane (omega (arith, past, many))))

-- ---- blocks of recordings

-- no bytes take no block
pub none_blocks : (block : ℕ) → blocks_for block 0 ≡ 0
none_blocks zero = zero-div 0
none_blocks (suc n) = ap (λ k. k / suc n) (let e : 0 + (suc n - 1) ≡ 0 * suc n + n = omega arith in e) ∙ div-mul-add 0 (suc n) n (omega arith)

-- an open recording has the blocks of its bytes, and one that is not there has none
pub blocks_of_taking : (block : ℕ) (taking : Option (List ℕ)) → taking_blocks block taking ≡ blocks_for block (length (unwrap_or taking []))
blocks_of_taking block None = sym (none_blocks block)
blocks_of_taking block (Some bytes) = refl

-- how many blocks the open recording of a lane has taken
pub taken_at : (block : ℕ) (lanes : List LaneState) (lane : ℕ) → taken (takings_of block lanes) lane ≡ taking_blocks block (slice_index_or lanes lane quiet_lane).taking
taken_at block [] lane = refl
taken_at block (l ∷ lanes) zero = refl
taken_at block (l ∷ lanes) (suc lane) = taken_at block lanes lane

-- ---- a lane whose jobs stay

flat_set : {A : Type 0} (f : LaneState → List A) (lanes : List LaneState) (lane : ℕ) (value : LaneState) → f value ≡ f (slice_index_or lanes lane quiet_lane) → flat_map f (slice_set lanes lane value) ≡ flat_map f lanes
flat_set f [] lane value same = refl
flat_set f (l ∷ lanes) zero value same = ap (λ xs. xs ++ flat_map f lanes) same
flat_set f (l ∷ lanes) (suc lane) value same = ap (λ xs. f l ++ xs) (flat_set f lanes lane value same)

abbrev passages_in : List Job → List (List Piece)
passages_in jobs = map (λ (job : Job). pieces_of (map spot_of job.passage)) (filter (λ (job : Job). not job.stopped) jobs)

abbrev passages_on : LaneState → List (List Piece)
passages_on lane = passages_in lane.jobs

module _ (state : State) (lane : ℕ) (value : LaneState) (jobs : value.jobs ≡ (lane_at state lane).jobs) where
  abbrev now : State
  now = with_lane state lane value

  -- the lanes of the program show it
  pub shows_taking : (fill : Spot → Tagged) (lanes : LanesState) (made : ℕ) → ShowsLanes fill lanes made state → ShowsLanes fill lanes made now
  shows_taking fill lanes made h = record {
    spots = h.spots;
    many = many_set state.lanes lane value ∙ h.many;
    shape = h.shape;
    block = h.block;
    jobs = λ l low. told_at (λ (x : LaneState). x.jobs) state.lanes lane value jobs l ∙ h.jobs l (subst (λ n. l < n) (many_set state.lanes lane value) low);
    number = h.number;
  }

  -- all passages are of the same files
  pub below_taking : PassagesBelow state.next state.lanes → PassagesBelow state.next now.lanes
  below_taking below =
      every_set (λ (l : LaneState). JobsBelow state.next l.jobs) state.lanes lane value below (subst (λ (js : List Job). JobsBelow state.next js) (sym jobs) (below_at state.next state lane below))

  -- the same passages are held
  pub held_taking : passages_of now.lanes ≡ passages_of state.lanes
  held_taking = flat_set passages_on state.lanes lane value (ap passages_in jobs)

-- ---- a Begin

if_none : (lane : LaneState) → if_recording lane ≡ None → lane.taking ≡ None
if_none lane h = by lane.taking h
  where
    by : (o : Option (List ℕ)) → if_recording (record lane { taking = o }) ≡ None → o ≡ None
    by None h = refl
    by (Some bytes) h = cc

module _ (first : State) (t0 : ℕ) (disk : Told) (s : Inside) (stood : Stood first t0 disk s) (caller lane : ℕ) (recordings : List (Option Recording)) (history : Vec Entry Global) where
  abbrev state : State
  state = last_of first s

  abbrev opened : LaneState
  opened = record (lane_at state lane) { taking = Some [] }

  abbrev then : State
  then = on_lanes state (tapes_of s) (calls.Begin lane)

  abbrev s' : Inside
  s' = record s { recordings = recordings; history = history }

  -- where nothing refuses it, the recording is open and has no bytes
  pub stood_begun : refusal state (tapes_of s) (calls.Begin lane) ≡ None → ShowsRecordings recordings then → history.items ≡ s.history.items ++ entry_of caller (calls.Begin lane) replies.Done disk.calls ∷ []
      → (IsTrue disk.honest → IsHonest disk) → EntriesCount disk → Stood first t0 disk s'
  stood_begun unrefused recorded items honest counts =
      let none : (lane_at state lane).taking ≡ None = if_none (lane_at state lane) (all_none (conditions state (tapes_of s) (calls.Begin lane)) unrefused).1.0 in
      let stands : (pledged : List (List Piece)) (takings : List ℕ) → Stands stood.fill pledged takings s.parts s.lanes s.made stood.b state → Stands stood.fill pledged takings s.parts s.lanes s.made stood.b then =
      λ pledged takings st. record { shows = shows_taking state lane opened refl stood.fill s.lanes s.made st.shows; runs = st.runs; kept = st.kept; used = st.used } in
      let answered : Answers first t0 disk s s' stood caller (calls.Begin lane) replies.Done = λ pledged takings st are. record { unrefused = unrefused; replied = refl; stands = stands pledged takings st } in
      stood_answered first t0 disk s s' stood caller (calls.Begin lane) replies.Done answered refl refl refl tt
      (record {
        tapes = refl;
        journal = refl;
        doubt = refl;
        moves = refl;
        stands = λ pledged takings st are. stands pledged takings st;
        addresses = λ a holder held. held;
        spare_ropes = refl;
        spare_pairs = omega arith;
        uses = λ q. inr (omega arith);
        interests = refl;
        bytes = λ h was. was;
        below = below_taking state lane opened refl stood.playing.below;
        blocks = λ block. told_set (λ (l : LaneState). taking_blocks block l.taking) state.lanes lane opened (none_blocks block ∙ ap (taking_blocks block) (sym none));
        takes = λ l. inl (told_at (λ (x : LaneState). unwrap_or x.taking []) state.lanes lane opened (ap (λ (o : Option (List ℕ)). unwrap_or o []) (sym none)) l);
        recorded = recorded;
      })
      items honest counts
