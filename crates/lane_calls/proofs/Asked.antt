-- What calls of lanes are refused by, and what they leave where nothing refuses them.
use Rattle.std.proofs.Common.{◌≡◌, ℕ, ◌+◌, ◌<◌, ◌≤◌, Bool, true, false, nat_le, List, [], ◌∷◌, ◌++◌, map, length, set, Option, Some, None, refl, sym, ◌∙◌, ap, subst, arith}
use Rattle.std.specs.Prelude.{is_some, not, count_by}
use Rattle.std.proofs.lemmas.Bool.{leb-true, le-leb}
use Rattle.std.proofs.lemmas.List.{length-map, append-nil}
use Rattle.voice_units.specs.declared.pieces.Piece.{Piece}
use Rattle.voice_units.specs.Spots.{Spot, spots_of, pieces_of, samples_in, slice, nowhere}
use Rattle.voice_units.specs.Blocks.{BlockPair, pairs_at, has_pair}
use Rattle.voice_units.proofs.PiecesOfRopes.{spots_of-runs}
use Rattle.voice_model.specs.Samples.{Tagged}
use Rattle.voice_model.specs.State.{State, Durable, lane_at}
use Rattle.voice_model.specs.Step.{refusal, first_of, on_lanes, when, if_no_lane, if_unknown, if_outside}
use Rattle.voice_model.specs.Replay.{Rebuilt, used_pairs}
use Rattle.voice_model.specs.declared.calls.Call.TheVariants as calls
use Rattle.voice_model.specs.declared.calls.Reply.TheVariants as replies
use Rattle.voice_model.specs.declared.calls.Why.{Why}
use Rattle.voice_model.specs.declared.calls.Why.TheVariants as why
use Rattle.rope_table.specs.Table.{Table, Counts, uses_at, uses_by, uses_in, pair_of}
use Rattle.recovery.specs.declared.parts.Parts.{Parts}
use Rattle.recovery.specs.Shown.{Shows}
use Rattle.recovery.proofs.Ropes.{cons_same}
use Rattle.voice_blocks.specs.Holders.{BlocksView}
use Rattle.edits.specs.Tables.{pieces_here, first_missing}
use Rattle.edits.proofs.Seen.{rope_length, missing_shown}
use Rattle.edits.proofs.Refusals.{stops, goes_on}
use Rattle.frame_pool.specs.Pool.{Identity, block_of}
use Rattle.running_tables.specs.Running.{Runs}
use Rattle.running_tables.proofs.Recounted.{recounted}
use Rattle.running_tables.proofs.Steps as steps
use Rattle.play_queue.specs.declared.jobs.Job.{Job}
use Rattle.play_queue.specs.Queued.{lane_of, stopped_job}
use Rattle.playing.specs.Frames.{FramesState, AreUsed, uses_of, resident_at, Forgets, ChangesLaneAlone}
use Rattle.playing.specs.Held.{LetsGo, held_in, held_by}
use Rattle.playing.specs.Lanes.{LanesState, new_job}
use Rattle.playing.specs.Shown.{shown_job, state_with}
use Rattle.playing.proofs.Served as served
use Rattle.playing.proofs.Holding.{stopped_none, split_lane}
use Rattle.playing.proofs.Letting.{uses_in-append, held-append}
use Rattle.lane_calls.specs.Lanes.{Stands, ArePledged}
use Rattle.lane_calls.specs.Answers.{IsAnswered, MayPlay}
use Rattle.lane_calls.proofs.Showing.{spots_here, state_shown, passage_filled, shows_set, shows_made}
use Rattle.lane_calls.proofs.Counting.{part_used, uses_set, uses_left}
use Rattle.lane_calls.proofs.LetGo.{runs_without, shows_left}

-- ---- whether a lane is known

pub lane_unknown : (s : State) (lane n : ℕ) → s.shape.lanes ≡ n → nat_le n lane ≡ true → if_no_lane s lane ≡ Some (why.UnknownLane n)
lane_unknown s lane n e h = ap (λ m. when (nat_le m lane) (why.UnknownLane m)) e ∙ ap (λ t. when t (why.UnknownLane n)) h

pub lane_known : (s : State) (lane n : ℕ) → s.shape.lanes ≡ n → nat_le n lane ≡ false → if_no_lane s lane ≡ None
lane_known s lane n e h = ap (λ m. when (nat_le m lane) (why.UnknownLane m)) e ∙ ap (λ t. when t (why.UnknownLane n)) h

pub not_le : (n lane : ℕ) → lane < n → nat_le n lane ≡ false
not_le n lane low = by (nat_le n lane) refl
  where
    by : (t : Bool) → nat_le n lane ≡ t → t ≡ false
    by true e = let most = leb-true n lane e in absurd (omega (arith, most, low))
    by false e = refl

-- ---- why a Play is refused

module _ (fill : Spot → Tagged) (pledged : List (List Piece)) (takings : List ℕ) (parts : Parts) (lanes : LanesState) (made : ℕ) (b : Rebuilt) (s : State) (tapes : List (List ℕ)) (st : Stands fill pledged takings parts lanes made b s) where
  pub lanes_are : (n : ℕ) → length lanes.queues ≡ n → s.shape.lanes ≡ n
  lanes_are n e = st.shows.shape ∙ e

  pub low_here : (lane n : ℕ) → length lanes.queues ≡ n → lane < n → lane < length s.lanes
  low_here lane n e low =
      let many = st.shows.many in
      omega (arith, low, e, many)

  pub jobs_are : (lane n : ℕ) → length lanes.queues ≡ n → lane < n → length (lane_at s lane).jobs ≡ length (lane_of lanes.queues lane)
  jobs_are lane n e h = ap (λ l. length l) (st.shows.jobs lane (low_here lane n e h)) ∙ length-map (lane_of lanes.queues lane) (shown_job fill)

  pub play_no_lane : (lane id start len n : ℕ) → length lanes.queues ≡ n → n ≤ lane → refusal s tapes (calls.Play lane id start len) ≡ Some (why.UnknownLane n)
  play_no_lane lane id start len n many h = stops _ _ _ (lane_unknown s lane n (lanes_are n many) (le-leb n lane h))

  -- the conditions of a Play on a known lane, as the tables and the lanes give them
  pub play_conditions : (lane id start len n : ℕ) (records : Bool) → length lanes.queues ≡ n → lane < n → is_some (lane_at s lane).taking ≡ records
      → refusal s tapes (calls.Play lane id start len)
      ≡ first_of (if_unknown (first_missing parts.ropes.ropes (id ∷ [])) ∷ when records why.LaneRecording ∷ when (nat_le 8 (length (lane_of lanes.queues lane))) why.QueueFull ∷ if_outside start len (samples_in (pieces_here parts.ropes.ropes id)) ∷ [])
  play_conditions lane id start len n records many known open_is =
      let shown = state_shown fill pledged takings parts lanes made b s st in
      goes_on _ _ _ (lane_known s lane n (lanes_are n many) (not_le n lane known))
      (ap first_of
      (cons_same (ap if_unknown (sym (missing_shown (held_by lanes.queues) parts s shown (id ∷ []))))
      (cons_same (ap (λ t. when t why.LaneRecording) open_is)
      (cons_same (ap (λ m. when (nat_le 8 m) why.QueueFull) (jobs_are lane n many known))
      (cons_same (ap (if_outside start len) (sym (rope_length (held_by lanes.queues) parts s shown id))) refl)))))

-- the last condition
pub last_one : (o : Option Why) → first_of (o ∷ []) ≡ o
last_one None = refl
last_one (Some reason) = refl

-- whether a lane has 8 jobs
pub is_full : (queues qs : List (List Job)) (lane n : ℕ) → n ≡ length (lane_of qs lane) → qs ≡ queues → 8 ≤ n → when (nat_le 8 (length (lane_of queues lane))) why.QueueFull ≡ Some why.QueueFull
is_full queues qs lane n is same full = ap (λ t. when t why.QueueFull) (le-leb 8 (length (lane_of queues lane)) (subst (λ m. 8 ≤ m) (is ∙ ap (λ (l : List (List Job)). length (lane_of l lane)) same) full))

pub not_full : (queues qs : List (List Job)) (lane n : ℕ) → n ≡ length (lane_of qs lane) → qs ≡ queues → n < 8 → when (nat_le 8 (length (lane_of queues lane))) why.QueueFull ≡ None
not_full queues qs lane n is same room = ap (λ t. when t why.QueueFull) (not_le 8 (length (lane_of queues lane)) (subst (λ m. m < 8) (is ∙ ap (λ (l : List (List Job)). length (lane_of l lane)) same) room))

-- ---- the jobs of a lane change

-- blocks that are used no less are used
pub used_more : (old new : Table) (s t : FramesState) → ((q : BlockPair) → uses_at old q ≤ uses_at new q) → t.resident ≡ s.resident → AreUsed (uses_of old) s → AreUsed (uses_of new) t
used_more old new s t more same h f b at =
    let some = h f b (sym (ap (λ r. resident_at r f) same) ∙ at) in
    let bound = more (pair_of b.file b.index) in
    omega (arith, some, bound)

-- the tables and the lanes stand for the state in which a lane has other jobs
pub turned : (fill : Spot → Tagged) (pledged : List (List Piece)) (takings : List ℕ) (parts new : Parts) (lanes after : LanesState) (made lane : ℕ) (b : Rebuilt) (s : State) (jobs : List Job) → Stands fill pledged takings parts lanes made b s
    → lane < length lanes.queues → after.queues ≡ set lanes.queues lane jobs → block_of after.frames.keeper ≡ block_of lanes.frames.keeper
    → Runs (held_by (set lanes.queues lane jobs)) pledged takings new b → AreUsed (uses_of new.ropes) after.frames → Stands fill pledged takings new after made b (state_with fill s lane jobs)
turned fill pledged takings parts new lanes after made lane b s jobs st low is same runs used = record {
  shows = shows_set fill lanes after made s lane jobs st.shows low is same;
  runs = subst (λ qs. Runs (held_by qs) pledged takings new b) (sym is) runs;
  kept = st.kept;
  used = used;
}

-- ---- a job comes

-- a passage is held besides
pub record IsHeldBy (passage : List Piece) (old new : Table) : Type 0 where
  pub ropes : new.ropes ≡ old.ropes
  pub block : new.block ≡ old.block
  pub uses : (q : BlockPair) → uses_at new q ≡ uses_at old q + uses_by old.block passage q
  pub counts : (held : List (List Piece)) → Counts old held → Counts new (passage ∷ held)

pub shows_held : (passage : List Piece) (held : List (List Piece)) (old new : Parts) (d : Durable Spot) → Shows held old d → IsHeldBy passage old.ropes new.ropes → new.interests.rows ≡ old.interests.rows → new.moment ≡ old.moment → new.next ≡ old.next → Shows (passage ∷ held) new d
shows_held passage held old new d h holds rows moment next = record {
  block = holds.block ∙ h.block;
  ropes = holds.ropes ∙ h.ropes;
  uses = holds.counts held h.uses;
  rows = rows ∙ h.rows;
  moment = moment ∙ h.moment;
  next = next ∙ h.next;
}

-- the blocks of a passage of a live rope are in use
pub passage_used : (held : List (List Piece)) (parts : Parts) (d : Durable Spot) (id start len : ℕ) (passage : List Piece) → Shows held parts d → passage ≡ pieces_of (slice (spots_of (pieces_here parts.ropes.ropes id)) start len)
    → (q : BlockPair) → has_pair (pairs_at d.shape.block (spots_of passage)) q ≡ true → has_pair (used_pairs d) q ≡ true
passage_used held parts d id start len passage shows is q e =
    part_used d id start len q
    (subst (λ ss. has_pair (pairs_at d.shape.block ss) q ≡ true)
    (ap spots_of is ∙ spots_of-runs nowhere (slice (spots_of (pieces_here parts.ropes.ropes id)) start len) ∙ ap (λ ss. slice ss start len) (spots_here held parts d shows id)) e)

-- the passages that the lanes hold, with one more
pub uses_pushed : (block : ℕ) (queues : List (List Job)) (lane id : ℕ) (passage : List Piece) (q : BlockPair) → lane < length queues
    → uses_in block (held_by (set queues lane (lane_of queues lane ++ new_job id passage ∷ []))) q ≡ uses_in block (passage ∷ held_by queues) q
uses_pushed block queues lane id passage q low =
    let jobs = lane_of queues lane in
    let a = uses_set block queues lane (jobs ++ new_job id passage ∷ []) q low in
    let e = ap (λ l. uses_in block l q) (held-append jobs (new_job id passage ∷ [])) in
    let c = uses_in-append block (held_in jobs) (passage ∷ []) q in
    omega (arith, a, e, c)

pub play_stands : (fill : Spot → Tagged) (pledged : List (List Piece)) (takings : List ℕ) (parts new : Parts) (lanes after : LanesState) (made : ℕ) (b : Rebuilt) (s : State) (tapes : List (List ℕ)) (lane id start len : ℕ) (passage : List Piece)
    → Stands fill pledged takings parts lanes made b s → lane < length lanes.queues
    → passage ≡ pieces_of (slice (spots_of (pieces_here parts.ropes.ropes id)) start len) → IsHeldBy passage parts.ropes new.ropes
    → new.interests.rows ≡ parts.interests.rows → new.moment ≡ parts.moment → new.next ≡ parts.next → new.form ≡ parts.form → new.blocks ≡ parts.blocks
    → after.queues ≡ set lanes.queues lane (lane_of lanes.queues lane ++ new_job (made + 1) passage ∷ []) → after.frames ≡ lanes.frames
    → Stands fill pledged takings new after (made + 1) b (on_lanes s tapes (calls.Play lane id start len))
play_stands fill pledged takings parts new lanes after made b s tapes lane id start len passage st low is holds rows moment next form blocks queues frames =
    let held = held_by lanes.queues in
    let jobs = lane_of lanes.queues lane in
    let more = jobs ++ new_job (made + 1) passage ∷ [] in
    let shown = shows_held passage held parts new b.kept st.runs.kept holds rows moment next in
    let here = st.shows.jobs lane (let many = st.shows.many in omega (arith, low, many)) in
    let leaves = served.plays fill s tapes lane id start len jobs passage here (passage_filled fill held parts b s id start len passage st.runs.kept st.kept is)
    ∙ ap (λ n. played n jobs) st.shows.number in
    let runs = steps.played held pledged takings parts new b passage st.runs (passage_used held parts b.kept id start len passage st.runs.kept is) shown form (ap (λ (v : BlocksView). v.holders) blocks) in
    let mine = recounted (passage ∷ held) (held_by (set lanes.queues lane more)) pledged takings new b (λ q. uses_pushed b.shape.block lanes.queues lane (made + 1) passage q low) runs in
    let used = used_more parts.ropes new.ropes lanes.frames after.frames (λ q. let u = holds.uses q in omega (arith, u)) (ap (λ (f : FramesState). f.resident) frames) st.used in
    let turn = turned fill pledged takings parts new lanes after made lane b s more st low queues (ap (λ (f : FramesState). block_of f.keeper) frames) mine used in
    subst (Stands fill pledged takings new after (made + 1) b) (sym leaves) (record { shows = shows_made fill after made (made + 1) (state_with fill s lane more) turn.shows; runs = turn.runs; kept = turn.kept; used = turn.used })
  where
    played : ℕ → List Job → State
    played n js = record (state_with fill s lane (js ++ new_job (n + 1) passage ∷ [])) { made = n + 1 }

pub play_answered : (fill : Spot → Tagged) (pledged : List (List Piece)) (takings : List ℕ) (parts new : Parts) (lanes after : LanesState) (made : ℕ) (b : Rebuilt) (s : State) (tapes : List (List ℕ)) (lane id start len : ℕ) (passage : List Piece)
    → Stands fill pledged takings parts lanes made b s → MayPlay parts.ropes.ropes lanes.queues lane id start len → None ≡ refusal s tapes (calls.Play lane id start len)
    → passage ≡ pieces_of (slice (spots_of (pieces_here parts.ropes.ropes id)) start len) → IsHeldBy passage parts.ropes new.ropes
    → new.interests.rows ≡ parts.interests.rows → new.moment ≡ parts.moment → new.next ≡ parts.next → new.form ≡ parts.form → new.blocks ≡ parts.blocks
    → after.queues ≡ set lanes.queues lane (lane_of lanes.queues lane ++ new_job (made + 1) passage ∷ []) → after.frames ≡ lanes.frames
    → IsAnswered fill pledged takings b s tapes (calls.Play lane id start len) (replies.Job (made + 1)) (made + 1) new after
play_answered fill pledged takings parts new lanes after made b s tapes lane id start len passage st may free is holds rows moment next form blocks queues frames = record {
  unrefused = sym free;
  replied = ap (λ n. replies.Job (n + 1)) st.shows.number;
  stands = play_stands fill pledged takings parts new lanes after made b s tapes lane id start len passage st may.known is holds rows moment next form blocks queues frames;
}

-- ---- the jobs of a lane are stopped

-- passages of a lane's jobs are let go that its new jobs do not hold
pub gone_runs : (gone : List (List Piece)) (pledged : List (List Piece)) (takings : List ℕ) (old new : Parts) (b : Rebuilt) (queues : List (List Job)) (lane : ℕ) (jobs : List Job) → Runs (held_by queues) pledged takings old b → lane < length queues
    → ((q : BlockPair) → uses_in b.shape.block (held_in (lane_of queues lane)) q ≡ uses_in b.shape.block gone q + uses_in b.shape.block (held_in jobs) q)
    → LetsGo old.ropes new.ropes old.blocks.holders new.blocks.holders gone → new.interests.rows ≡ old.interests.rows → new.moment ≡ old.moment → new.next ≡ old.next → new.form ≡ old.form → ArePledged b pledged
    → Runs (held_by (set queues lane jobs)) pledged takings new b
gone_runs gone pledged takings old new b queues lane jobs runs low split lets rows moment next form are =
    let held = held_by (set queues lane jobs) in
    let first = recounted (held_by queues) (gone ++ held) pledged takings old b (uses_left b.shape.block queues lane jobs gone low split) runs in
    runs_without gone held pledged takings old new b first lets (shows_left gone held old new b.kept first.kept lets rows moment next) form are

pub stop_stands : (fill : Spot → Tagged) (pledged : List (List Piece)) (takings : List ℕ) (parts new : Parts) (lanes after : LanesState) (made : ℕ) (b : Rebuilt) (s : State) (tapes : List (List ℕ)) (lane : ℕ)
    → Stands fill pledged takings parts lanes made b s → ArePledged b pledged → lane < length lanes.queues
    → LetsGo parts.ropes new.ropes parts.blocks.holders new.blocks.holders (held_in (lane_of lanes.queues lane))
    → new.interests.rows ≡ parts.interests.rows → new.moment ≡ parts.moment → new.next ≡ parts.next → new.form ≡ parts.form
    → after.queues ≡ set lanes.queues lane (map stopped_job (lane_of lanes.queues lane)) → block_of after.frames.keeper ≡ block_of lanes.frames.keeper → AreUsed (uses_of new.ropes) after.frames
    → Stands fill pledged takings new after made b (on_lanes s tapes (calls.Stop lane))
stop_stands fill pledged takings parts new lanes after made b s tapes lane st are low lets rows moment next form queues same used =
    let jobs = lane_of lanes.queues lane in
    let here = st.shows.jobs lane (let many = st.shows.many in omega (arith, low, many)) in
    let none : (q : BlockPair) → uses_in b.shape.block (held_in jobs) q ≡ uses_in b.shape.block (held_in jobs) q + uses_in b.shape.block (held_in (map stopped_job jobs)) q =
    λ q. let e = ap (λ l. uses_in b.shape.block l q) (stopped_none jobs) in omega (arith, e) in
    let runs = gone_runs (held_in jobs) pledged takings parts new b lanes.queues lane (map stopped_job jobs) st.runs low none lets rows moment next form are in
    subst (Stands fill pledged takings new after made b) (sym (served.stops fill s tapes lane jobs here))
    (turned fill pledged takings parts new lanes after made lane b s (map stopped_job jobs) st low queues same runs used)

pub stop_free : (s : State) (tapes : List (List ℕ)) (lane n : ℕ) → s.shape.lanes ≡ n → lane < n → refusal s tapes (calls.Stop lane) ≡ None
stop_free s tapes lane n e low = goes_on _ _ _ (lane_known s lane n e (not_le n lane low)) refl

-- the passages of a lane's jobs, and the others
pub split_off : (t : Table) (queues qs : List (List Job)) (lane n : ℕ) → length queues ≡ n → lane < n → qs ≡ queues → Counts t (held_by queues) → (rest : List (List Piece)) × Counts t (held_in (lane_of qs lane) ++ rest)
split_off t queues qs lane n many low same counts = (
  held_by (set queues lane []) ++ [],
  subst (λ (l : List (List Job)). Counts t (held_in (lane_of l lane) ++ (held_by (set queues lane []) ++ []))) (sym same)
      (split_lane t queues lane [] (subst (λ m. lane < m) (sym many) low) (subst (Counts t) (sym (append-nil (held_by queues))) counts)),
)

pub stop_answered : (fill : Spot → Tagged) (pledged : List (List Piece)) (takings : List ℕ) (parts new : Parts) (lanes mid after : LanesState) (qs : List (List Job)) (made : ℕ) (b : Rebuilt) (s : State) (tapes : List (List ℕ)) (lane n count : ℕ)
    → Stands fill pledged takings parts lanes made b s → ArePledged b pledged → length lanes.queues ≡ n → lane < n → qs ≡ lanes.queues
    → LetsGo parts.ropes new.ropes parts.blocks.holders new.blocks.holders (held_in (lane_of qs lane))
    → new.interests.rows ≡ parts.interests.rows → new.moment ≡ parts.moment → new.next ≡ parts.next → new.form ≡ parts.form
    → mid.queues ≡ lanes.queues → Forgets (uses_of new.ropes) lanes.frames mid.frames → AreUsed (uses_of new.ropes) mid.frames
    → count ≡ count_by (λ (job : Job). not job.stopped) (lane_of mid.queues lane) → after.queues ≡ set mid.queues lane (map stopped_job (lane_of mid.queues lane)) → ChangesLaneAlone mid.frames after.frames lane
    → IsAnswered fill pledged takings b s tapes (calls.Stop lane) (replies.Number count) made new after
stop_answered fill pledged takings parts new lanes mid after qs made b s tapes lane n count st are many low seen lets rows moment next form same forgets used newly stopped alone =
    let known = subst (λ m. lane < m) (sym many) low in
    let here = st.shows.jobs lane (subst (λ m. lane < m) (sym st.shows.many) known) in
    record {
      unrefused = stop_free s tapes lane n (st.shows.shape ∙ many) low;
      replied = served.newly fill s tapes lane (lane_of lanes.queues lane) here
          ∙ ap (λ (l : List (List Job)). replies.Number (count_by (λ (job : Job). not job.stopped) (lane_of l lane))) (sym same) ∙ ap replies.Number (sym newly);
      stands = stop_stands fill pledged takings parts new lanes after made b s tapes lane st are known
          (subst (λ (l : List (List Job)). LetsGo parts.ropes new.ropes parts.blocks.holders new.blocks.holders (held_in (lane_of l lane))) seen lets) rows moment next form
          (stopped ∙ ap (λ (l : List (List Job)). set l lane (map stopped_job (lane_of l lane))) same)
          (ap (λ (p : Identity). p.sizes.block) alone.keeper.pool ∙ ap block_of forgets.keeper)
          (λ f block at. used f block (sym (ap (λ r. resident_at r f) alone.resident) ∙ at));
    }
