-- A Feed in the store.
use Rattle.std.proofs.Common.{◌≡◌, ◌⊎◌, inl, inr, ℕ, ◌+◌, ◌/◌, ◌<◌, ◌≤◌, ◌==◌, Bool, true, false, cond, ◌||◌, List, [], ◌∷◌, ◌++◌, map, length, Option, Some, None, IsTrue, refl, sym, ◌∙◌, ap, subst, arith}
use Rattle.std.specs.Prelude.{nat_lt, is_none, ◌&&◌, Result, Ok, Err, IfOk, OnErr}
use Rattle.std.proofs.lemmas.Bool.{le-leb}
use Rattle.std.proofs.lemmas.List.{get_or-set_same}
use Rattle.voice_units.specs.declared.pieces.Piece.{Piece}
use Rattle.voice_units.specs.declared.shapes.Shape.{Shape}
use Rattle.voice_units.specs.Spots.{Spot, spots_of, slice, window}
use Rattle.voice_units.specs.Blocks.{BlockPair}
use Rattle.voice_outside.specs.Disk.{Told}
use Rattle.voice_model.specs.Samples.{Tagged, spots_in_rope, spot_of}
use Rattle.voice_model.specs.State.{State, LaneState, Job, quiet_lane, lane_at, with_lane}
use Rattle.voice_model.specs.Step.{Outcome, outcome_of, refusal, reply_of, reply_by, on_lanes, with_jobs, after_reply, windows_home, brought_back, heard_more, served, reply_of_feed, first_job, first_of, when, window_out, window_of, state_by, state_after, BringsItsWindow, MayReply, IsReply}
use Rattle.voice_model.specs.Valid.{IsState, Every}
use Rattle.voice_model.specs.Replay.{Rebuilt}
use Rattle.voice_model.specs.declared.calls.Call.{Call}
use Rattle.voice_model.specs.declared.calls.Call.TheVariants as calls
use Rattle.voice_model.specs.declared.calls.Reply.{Reply}
use Rattle.voice_model.specs.declared.calls.Reply.TheVariants as replies
use Rattle.voice_model.specs.declared.calls.Why.{Why}
use Rattle.voice_model.specs.declared.calls.Why.TheVariants as why
use Rattle.voice_model.specs.declared.calls.Entry.{Entry}
use Rattle.voice_model.proofs.Answers.{answered_outcome}
use Rattle.voice_model.proofs.Heard.{answer_on}
use Rattle.voice_model.proofs.StatesKept.{state_kept}
use Rattle.edits.proofs.Refusals.{stops, goes_on}
use Rattle.recovery.specs.declared.parts.Parts.{Parts}
use Rattle.rope_table.specs.Table.{uses_at}
use Rattle.interest_table.specs.Table as rows
use Rattle.frame_pool.specs.Pool.{LeaseState}
use Rattle.play_queue.specs.declared.jobs.Job as queue
use Rattle.play_queue.specs.Queued.{lane_of}
use Rattle.playing.specs.declared.blocks.Block.{Block}
use Rattle.playing.specs.Frames.{HasRead, HoldsBytes, AreOnDisk, is_resident}
use Rattle.playing.specs.Lanes.{LanesState, next_window, window_at}
use Rattle.playing.specs.Shown.{shown_job, more_of}
use Rattle.playing.specs.Windows.{byte_in}
use Rattle.lane_calls.specs.Lanes.{ShowsLanes, Stands, ArePledged}
use Rattle.lane_calls.specs.Answers as answers
use Rattle.lane_calls.specs.Answers.{IsAnswered, IsServed, StaysUnfed, HasBytes, KeepsLease}
use Rattle.lane_calls.proofs.Asked.{lane_unknown, lane_known, not_le}
use Rattle.lane_calls.specs.declared.outcomes.Fed.{Fed}
use Rattle.lane_calls.specs.declared.outcomes.Fed.TheVariants as feds
use Rattle.next_ropes.specs.Addresses.{KeepsAddresses}
use Rattle.crash_laws.specs.Standing.{IsHonest}
use Rattle.crash_laws.specs.Laws.{EntriesCount}
use Rattle.voice_store.specs.declared.inside.Inside.{Inside}
use Rattle.voice_outside.specs.Counters.{HasRisen}
use Rattle.voice_units.specs.declared.errors.NoMemory.{NoMemory}
use Rattle.voice_store.specs.Facts.{IsFault, entry_of}
use Rattle.voice_store.specs.Shown.{FaultsCover}
use Rattle.voice_store.proofs.Faults.{covers_answer}
use Rattle.voice_store.specs.Feeding.{told, first_passage, passage_at, HasSamples}
use Rattle.voice_store.specs.Residing.{HoldsWindow}
use Rattle.voice_store.specs.Playing.{bytes_by, PassagesBelow, MovesLanes}
use Rattle.voice_store.specs.Stood.{tapes_of, last_of, IsSure, IsUnsure, Stood}
use Rattle.voice_store.proofs.Refused.{spots_again, refused_plain, wrong}
use Rattle.voice_store.proofs.Entries.{stood_noted}
use Rattle.voice_store.proofs.Windowed.{on_disk, heard_of, window_told, window_filled, bytes_of_spots}
use Rattle.voice_store.proofs.Played.{recorded_still}
use Rattle.voice_store.proofs.Queued.{JobsBelow, SameTakings, below_at, below_set, takings_same, takings_set, takings_then, same_takes, same_recorded, stood_unmoved}
use Rattle.voice_store.proofs.Turned.{stood_stands, stood_turned}

-- ---- the state after it

heard_below : (next m : ℕ) (jobs : List Job) → JobsBelow next jobs → JobsBelow next (heard_more m jobs)
heard_below next m [] below = tt
heard_below next m (job ∷ jobs) below = (below.0, below.1)

served_below : (next block : ℕ) (jobs : List Job) → JobsBelow next jobs → JobsBelow next (served block jobs)
served_below next block [] below = tt
served_below next block (job ∷ jobs) below = by (job.stopped || (job.heard == length job.passage))
  where
    by : (over : Bool) → JobsBelow next (cond over jobs (record job { window = window block (spots_in_rope job.passage) job.heard } ∷ jobs))
    by true = below.1
    by false = (below.0, below.1)

brought_below : (next : ℕ) (s : State) (lane : ℕ) (back : Option ℕ) → PassagesBelow next s.lanes → PassagesBelow next (brought_back s lane back).lanes
brought_below next s lane None below = below
brought_below next s lane (Some m) below = below_set next s lane (heard_more m (lane_at s lane).jobs) below (heard_below next m (lane_at s lane).jobs (below_at next s lane below))

brought_takings : (s : State) (lane : ℕ) (back : Option ℕ) → SameTakings s (brought_back s lane back)
brought_takings s lane None = takings_same s
brought_takings s lane (Some m) = takings_set s lane (heard_more m (lane_at s lane).jobs) s.made

-- what is left of a state that a Feed leaves
pub record Leaves (s now : State) : Type 0 where
  pub moves : MovesLanes s now
  pub below : PassagesBelow s.next s.lanes → PassagesBelow now.next now.lanes
  pub takings : SameTakings s now

pub leaves_home : (s : State) (lane : ℕ) (back : Option ℕ) → Leaves s (windows_home s (calls.Feed lane back))
leaves_home s lane None = record { moves = refl; below = λ h. h; takings = takings_same s }
leaves_home s lane (Some m) = record { moves = refl; below = brought_below s.next s lane (Some m); takings = brought_takings s lane (Some m) }

pub leaves_served : (s : State) (tapes : List (List ℕ)) (lane : ℕ) (back : Option ℕ) → Leaves s (on_lanes s tapes (calls.Feed lane back))
leaves_served s tapes lane None = record {
  moves = refl;
  below = λ h. below_set s.next s lane (served s.shape.block (lane_at s lane).jobs) h (served_below s.next s.shape.block (lane_at s lane).jobs (below_at s.next s lane h));
  takings = takings_set s lane (served s.shape.block (lane_at s lane).jobs) s.made;
}
leaves_served s tapes lane (Some m) =
    let home = brought_back s lane (Some m) in
    record {
      moves = refl;
      below = λ h. below_set s.next home lane (served s.shape.block (lane_at home lane).jobs) (brought_below s.next s lane (Some m) h)
          (served_below s.next s.shape.block (lane_at home lane).jobs (below_at s.next home lane (brought_below s.next s lane (Some m) h)));
      takings = takings_then s home (with_lane home lane (with_jobs (lane_at home lane) (served s.shape.block (lane_at home lane).jobs))) (brought_takings s lane (Some m)) (takings_set home lane (served s.shape.block (lane_at home lane).jobs) home.made);
    }

-- ---- its reply

module _ (s : State) (tapes : List (List ℕ)) (caller lane : ℕ) (back : Option ℕ) (brings : BringsItsWindow s (calls.Feed lane back)) (o : Option Why) (is : refusal s tapes (calls.Feed lane back) ≡ o) where
  feeding : Call
  feeding = calls.Feed lane back

  outcome : outcome_of (reply_by s tapes (calls.Feed lane back) o) ≡ Outcome.Answered
  outcome = subst (λ x. outcome_of (reply_by s tapes (calls.Feed lane back) x) ≡ Outcome.Answered) is (answered_outcome s tapes (calls.Feed lane back))

  pub may_be_fed : IsReply s tapes caller (calls.Feed lane back) (reply_by s tapes (calls.Feed lane back) o)
  may_be_fed = (brings, subst (λ x. MayReply x s tapes (calls.Feed lane back) (reply_by s tapes (calls.Feed lane back) o)) (sym outcome) (refl, ap (λ x. reply_by s tapes (calls.Feed lane back) x) (sym is)))

  pub after_fed : (ack : ℕ) → state_after s tapes (entry_of caller (calls.Feed lane back) (reply_by s tapes (calls.Feed lane back) o) ack) ≡ after_reply s tapes (calls.Feed lane back) o
  after_fed ack = ap (λ x. state_by x s tapes (calls.Feed lane back)) outcome ∙ ap (λ x. after_reply s tapes (calls.Feed lane back) x) is

-- ---- the store

module _ (first : State) (t0 : ℕ) (disk : Told) (s s' : Inside) (stood : Stood first t0 disk s) (caller lane : ℕ) (back : Option ℕ) (reply : Reply) (now : State) where
  abbrev last : State
  last = last_of first s

  abbrev entry : Entry
  entry = entry_of caller (calls.Feed lane back) reply disk.calls

  -- what a Feed does to the tables and the lanes
  pub record Feeds : Type 0 where
    pub stands : (pledged : List (List Piece)) (takings : List ℕ) → Stands stood.fill pledged takings s.parts s.lanes s.made stood.b last → ArePledged stood.b pledged → Stands stood.fill pledged takings s'.parts s'.lanes s'.made stood.b now
    pub rest : s' ≡ record s { parts = s'.parts; lanes = s'.lanes; history = s'.history }
    pub addresses : KeepsAddresses s.parts.blocks.holders s'.parts.blocks.holders
    pub spare_ropes : s'.parts.ropes.spare_ropes ≡ s.parts.ropes.spare_ropes
    pub spare_pairs : s.parts.ropes.spare_pairs ≤ s'.parts.ropes.spare_pairs
    pub uses : (q : BlockPair) → uses_at s'.parts.ropes q ≤ uses_at s.parts.ropes q
    pub interests : s'.parts.interests ≡ s.parts.interests
    pub bytes : IsTrue disk.honest → HoldsBytes (bytes_by stood.fill s.journal.shape.block) s.lanes.frames → HoldsBytes (bytes_by stood.fill s.journal.shape.block) s'.lanes.frames
    pub items : s'.history.items ≡ s.history.items ++ entry ∷ []

  pub stood_fed : IsReply last (tapes_of s) caller (calls.Feed lane back) reply → state_after last (tapes_of s) entry ≡ now → Leaves last now → Feeds → (IsTrue disk.honest → IsHonest disk) → EntriesCount disk → Stood first t0 disk s'
  stood_fed answers leaves left feeds honest counts =
      stood_turned first t0 disk s stood s' entry now (subst (λ (t : State). IsState t) leaves (state_kept last (tapes_of s) entry stood.upright.valid tt answers))
      (record {
        tapes = ap (λ (x : Inside). x.tapes) feeds.rest;
        journal = ap (λ (x : Inside). x.journal) feeds.rest;
        doubt = ap (λ (x : Inside). x.doubt) feeds.rest;
        moves = left.moves;
        stands = feeds.stands;
        addresses = feeds.addresses;
        spare_ropes = feeds.spare_ropes;
        spare_pairs = feeds.spare_pairs;
        uses = λ q. inr (feeds.uses q);
        interests = ap (λ (v : rows.Table). v.spare) feeds.interests;
        bytes = feeds.bytes;
        below = left.below stood.playing.below;
        blocks = left.takings.blocks;
        takes = same_takes last now left.takings;
        recorded = recorded_still s s' now (ap (λ (x : Inside). x.recordings) feeds.rest) (same_recorded s.recordings last now left.takings stood.playing.recorded);
      })
      feeds.items refl (answer_on disk.honest last (tapes_of s) entry answers) leaves honest counts

-- what is said of a Feed, whatever the tables and the lanes stand for
abbrev pub ServedAs : Inside → Inside → ℕ → Option ℕ → Fed → Type 0
ServedAs s s' lane back fed =
    (fill : Spot → Tagged) (pledged : List (List Piece)) (takings : List ℕ) (made : ℕ) (b : Rebuilt) (t : State) (tapes : List (List ℕ)) → Stands fill pledged takings s.parts s.lanes made b t → ArePledged b pledged
    → IsServed fill pledged takings b t tapes (calls.Feed lane back) made s'.parts s'.lanes fed

-- what a Feed does besides
pub record Steps (s s' : Inside) : Type 0 where
  pub rest : s' ≡ record s { parts = s'.parts; lanes = s'.lanes; history = s'.history }
  pub addresses : KeepsAddresses s.parts.blocks.holders s'.parts.blocks.holders
  pub spare_ropes : s'.parts.ropes.spare_ropes ≡ s.parts.ropes.spare_ropes
  pub spare_pairs : s.parts.ropes.spare_pairs ≤ s'.parts.ropes.spare_pairs
  pub uses : (q : BlockPair) → uses_at s'.parts.ropes q ≤ uses_at s.parts.ropes q
  pub interests : s'.parts.interests ≡ s.parts.interests

-- frames hold what they held, and what was read
abbrev pub HoldsRead : Told → Inside → Inside → Type 0
HoldsRead disk s s' = IsTrue disk.honest → (bytes : ℕ → ℕ → List ℕ) → AreOnDisk bytes s.journal.shape disk.bytes s.parts.blocks.holders → HoldsBytes bytes s.lanes.frames → HoldsBytes bytes s'.lanes.frames

module _ (first : State) (t0 : ℕ) (disk : Told) (s s' : Inside) (stood : Stood first t0 disk s) (caller lane : ℕ) (back : Option ℕ) (brings : BringsItsWindow (last_of first s) (calls.Feed lane back)) (fed : Fed)
    (as_served : ServedAs s s' lane back fed) (refused : StaysUnfed s.parts s.lanes s'.parts s'.lanes fed) (steps : Steps s s') (holds : HoldsRead disk s s')
    (items : s'.history.items ≡ s.history.items ++ entry_of caller (calls.Feed lane back) (told fed) disk.calls ∷ [])
    (home : (reason : Why) → refusal (last_of first s) (tapes_of s) (calls.Feed lane back) ≡ Some reason → windows_home (last_of first s) (calls.Feed lane back) ≡ last_of first s)
    (honest : IsTrue disk.honest → IsHonest disk) (counts : EntriesCount disk) where
  abbrev state : State
  state = last_of first s

  abbrev call : Call
  call = calls.Feed lane back

  abbrev standing : (pledged : List (List Piece)) × Stands stood.fill pledged stood.takings s.parts s.lanes s.made stood.b state × ArePledged stood.b pledged
  standing = stood_stands first t0 disk s stood

  is : IsServed stood.fill standing.0 stood.takings stood.b state (tapes_of s) call s.made s'.parts s'.lanes fed
  is = as_served stood.fill standing.0 stood.takings s.made stood.b state (tapes_of s) standing.1 standing.2

  same_made : s'.made ≡ s.made
  same_made = ap (λ (x : Inside). x.made) steps.rest

  -- a Feed of this reply and state
  feeds : (reply : Reply) (now : State) → reply ≡ told fed
      → ((pledged : List (List Piece)) (takings : List ℕ) → Stands stood.fill pledged takings s.parts s.lanes s.made stood.b state → ArePledged stood.b pledged → Stands stood.fill pledged takings s'.parts s'.lanes s.made stood.b now)
      → Feeds first t0 disk s s' stood caller lane back reply now
  feeds reply now same stands = record {
    stands = λ pledged takings st are. subst (λ n. Stands stood.fill pledged takings s'.parts s'.lanes n stood.b now) (sym same_made) (stands pledged takings st are);
    rest = steps.rest;
    addresses = steps.addresses;
    spare_ropes = steps.spare_ropes;
    spare_pairs = steps.spare_pairs;
    uses = steps.uses;
    interests = steps.interests;
    bytes = λ h was. holds h (bytes_by stood.fill s.journal.shape.block) (on_disk stood.fill s.journal.shape disk.bytes s.parts.blocks.holders (stood.upright.bytes h).filled) was;
    items = items ∙ ap (λ (r : Reply). s.history.items ++ entry_of caller call r disk.calls ∷ []) (sym same);
  }

  -- it is answered, and leaves what the definitions say
  answered : (reply : Reply) → reply ≡ told fed
      → ((pledged : List (List Piece)) (takings : List ℕ) → Stands stood.fill pledged takings s.parts s.lanes s.made stood.b state → ArePledged stood.b pledged → IsAnswered stood.fill pledged takings stood.b state (tapes_of s) call reply s.made s'.parts s'.lanes)
      → Stood first t0 disk s'
  answered reply same so =
      let one = so standing.0 stood.takings standing.1 standing.2 in
      stood_fed first t0 disk s s' stood caller lane back reply (on_lanes state (tapes_of s) call)
      (subst (λ (r : Reply). IsReply state (tapes_of s) caller call r) one.replied (may_be_fed state (tapes_of s) caller lane back brings None one.unrefused))
      (subst (λ (r : Reply). state_after state (tapes_of s) (entry_of caller call r disk.calls) ≡ on_lanes state (tapes_of s) call) one.replied (after_fed state (tapes_of s) caller lane back brings None one.unrefused disk.calls))
      (leaves_served state (tapes_of s) lane back)
      (feeds reply (on_lanes state (tapes_of s) call) same (λ pledged takings st are. (so pledged takings st are).stands)) honest counts

  abbrev SaysOf : Fed → Type 0
  SaysOf x = (pledged : List (List Piece)) (takings : List ℕ) → Stands stood.fill pledged takings s.parts s.lanes s.made stood.b state → ArePledged stood.b pledged → IsServed stood.fill pledged takings stood.b state (tapes_of s) call s.made s'.parts s'.lanes x

  says : SaysOf fed
  says pledged takings st are = as_served stood.fill pledged takings s.made stood.b state (tapes_of s) st are

  pub stood_after_feed : Stood first t0 disk s'
  stood_after_feed = by fed refl says refused
    where
      by : (x : Fed) → told x ≡ told fed → SaysOf x → StaysUnfed s.parts s.lanes s'.parts s'.lanes x → Stood first t0 disk s'
      by (feds.Refused reason) same so stays =
          let why_not : refusal state (tapes_of s) call ≡ Some reason = so standing.0 stood.takings standing.1 standing.2 in
          let e = entry_of caller call (replies.No reason) disk.calls in
          subst (λ (x : Inside). Stood first t0 disk x) (sym steps.rest)
          (stood_noted first t0 disk (record s { parts = s'.parts; lanes = s'.lanes }) s'.history e (items ∙ ap (λ (r : Reply). s.history.items ++ entry_of caller call r disk.calls ∷ []) (sym same)) refl
          (answer_on disk.honest state (tapes_of s) e (may_be_fed state (tapes_of s) caller lane back brings (Some reason) why_not))
          (after_fed state (tapes_of s) caller lane back brings (Some reason) why_not disk.calls ∙ home reason why_not)
          honest counts (stood_unmoved first t0 disk s s'.parts s'.lanes stays.0 stays.1 stood))
      by (feds.Stopped id heard) same so stays = answered (replies.Stopped id heard) same so
      by (feds.Ended id heard) same so stays = answered (replies.Ended id heard) same so
      by (feds.Window at lease) same so stays = answered (replies.Window at lease.len) same so
      by feds.Fault same so stays =
          let one = so standing.0 stood.takings standing.1 standing.2 in
          stood_fed first t0 disk s s' stood caller lane back (replies.No why.DiskFault) (windows_home state call) (brings, inr (one.0, one.1)) refl (leaves_home state lane back)
          (feeds (replies.No why.DiskFault) (windows_home state call) same (λ pledged takings st are. (so pledged takings st are).2)) honest counts

-- ---- want of memory

-- frames hold other blocks in use, and nothing else changed
pub stood_refilled : (first : State) (t0 : ℕ) (disk : Told) (s : Inside) (lanes : LanesState) → Stood first t0 disk s
    → ((fill : Spot → Tagged) (pledged : List (List Piece)) (takings : List ℕ) (made : ℕ) (b : Rebuilt) (t : State) → Stands fill pledged takings s.parts s.lanes made b t → Stands fill pledged takings s.parts lanes made b t)
    → HoldsRead disk s (record s { lanes = lanes }) → Stood first t0 disk (record s { lanes = lanes })
stood_refilled first t0 disk s lanes stood stays holds =
    let standing = stood_stands first t0 disk s stood in
    let now = stays stood.fill standing.0 stood.takings s.made stood.b (last_of first s) standing.1 in
    let up = stood.upright in
    record {
      fill = stood.fill;
      b = stood.b;
      after = stood.after;
      held = stood.held;
      takings = stood.takings;
      holding = stood.holding;
      upright = record { legal = up.legal; valid = up.valid; fills = up.fills; seated = up.seated; acks = up.acks; held = up.held; bytes = up.bytes };
      tables = by stood.tables;
      playing = record {
        shows = now.shows;
        used = now.used;
        bytes = λ h. holds h (bytes_by stood.fill s.journal.shape.block) (on_disk stood.fill s.journal.shape disk.bytes s.parts.blocks.holders (up.bytes h).filled) (stood.playing.bytes h);
        below = stood.playing.below;
        recorded = stood.playing.recorded;
      };
      size = stood.size;
    }
  where
    by : IsSure stood.held stood.takings s stood.b stood.after (last_of first s) ⊎ IsUnsure stood.fill stood.held stood.takings s stood.b stood.after (last_of first s)
        → IsSure stood.held stood.takings (record s { lanes = lanes }) stood.b stood.after (last_of first s) ⊎ IsUnsure stood.fill stood.held stood.takings (record s { lanes = lanes }) stood.b stood.after (last_of first s)
    by (inl sure) = inl (record { sure = sure.sure; in_journal = sure.in_journal; in_state = sure.in_state; tables = sure.tables; same = sure.same })
    by (inr unsure) = inr (record {
      doubted = unsure.doubted;
      unsure = unsure.unsure;
      pending = unsure.pending;
      in_state = unsure.in_state;
      doubt = unsure.doubt;
      in_journal = unsure.in_journal;
      change = unsure.change;
      ready = unsure.ready;
      addresses = unsure.addresses;
      spelled = unsure.spelled;
      brings_it = unsure.brings_it;
      lands = unsure.lands;
    })

-- what is read keeps what frames hold
pub holds_after : (most : ℕ) (old new : Told) (s s' : Inside) (shape : Shape) → HasRead most old new → shape ≡ s.journal.shape
    → (IsTrue old.honest → (bytes : ℕ → ℕ → List ℕ) → AreOnDisk bytes shape old.bytes s.parts.blocks.holders → HoldsBytes bytes s.lanes.frames → HoldsBytes bytes s'.lanes.frames) → HoldsRead new s s'
holds_after most old new s s' shape made same holds h bytes there was =
    let was_honest = subst (λ (x : Bool). IsTrue x) made.honest h in
    holds was_honest bytes
    (subst (λ (x : Shape). AreOnDisk bytes x old.bytes s.parts.blocks.holders) (sym same) (subst (λ (image : List ℕ). AreOnDisk bytes s.journal.shape image s.parts.blocks.holders) (made.reads was_honest).bytes there)) was

-- ---- the samples of a window

-- a Feed that is not refused names a known lane
known_lane : (s : State) (tapes : List (List ℕ)) (lane : ℕ) (back : Option ℕ) → refusal s tapes (calls.Feed lane back) ≡ None → lane < s.shape.lanes
known_lane s tapes lane back free = by (split lane s.shape.lanes)
  where
    split : (m n : ℕ) → (m < n) ⊎ (n ≤ m)
    split m n = grind arith

    by : (lane < s.shape.lanes) ⊎ (s.shape.lanes ≤ lane) → lane < s.shape.lanes
    by (inl low) = low
    by (inr high) =
        let refused = stops _ _ _ (lane_unknown s lane s.shape.lanes refl (le-leb s.shape.lanes lane high)) in
        absurd (no_some (why.UnknownLane s.shape.lanes) (sym refused ∙ free))
      where
        no_some : {A : Type 0} (x : A) → ¬ (Some x ≡ None)
        no_some x e = cc

-- the jobs of a lane once a window is home
pub home_jobs : (s : State) (lane : ℕ) (back : Option ℕ) → lane < length s.lanes → (lane_at (brought_back s lane back) lane).jobs ≡ heard_of back (lane_at s lane).jobs
home_jobs s lane None low = refl
home_jobs s lane (Some m) low = ap (λ (l : LaneState). l.jobs) (get_or-set_same s.lanes lane (with_jobs (lane_at s lane) (heard_more m (lane_at s lane).jobs)) quiet_lane low)

-- a frame holds the block of a sample
abbrev IsHeldAt : ℕ → List (Option Block) → Tagged → Type 0
IsHeldAt block resident t = is_resident resident t.file (t.place / block) ≡ true

places_filled : (fill : Spot → Tagged) → ((x : Spot) → spot_of (fill x) ≡ x) → (block : ℕ) (resident : List (Option Block)) (ss : List Spot) → Every (λ (x : Spot). is_resident resident x.file (x.place / block) ≡ true) ss → Every (IsHeldAt block resident) (map fill ss)
places_filled fill spots block resident [] holds = tt
places_filled fill spots block resident (x ∷ ss) holds =
    (ap (λ (y : Spot). is_resident resident y.file (y.place / block)) (spots x) ∙ holds.0, places_filled fill spots block resident ss holds.1)

module _ (fill : Spot → Tagged) (lanes : LanesState) (made : ℕ) (s : State) (tapes : List (List ℕ)) (lane block : ℕ) (back : Option ℕ) (shows : ShowsLanes fill lanes made s) (same : block ≡ s.shape.block) (some : 0 < block) where
  -- the places of the next window, filled in, are those of the first job's passage from where it begins
  window_places : (at n : ℕ) → refusal s tapes (calls.Feed lane back) ≡ None → reply_of s tapes (calls.Feed lane back) ≡ replies.Window at n
      → map fill (spots_of (next_window block (more_of back) (lane_of lanes.queues lane))) ≡ slice (passage_at s lane) at n
  window_places at n free replied = by (lane_of lanes.queues lane) (shows.jobs lane low)
    where
      low : lane < length s.lanes
      low = let known = known_lane s tapes lane back free in let shape = shows.shape in let many = shows.many in omega (arith, known, shape, many)

      answer : reply_of_feed s.shape.block (first_job (heard_of back (lane_at s lane).jobs)) ≡ replies.Window at n
      answer = feed_reply back low replied
        where
          feed_reply : (o : Option ℕ) → lane < length s.lanes → reply_of s tapes (calls.Feed lane o) ≡ replies.Window at n → reply_of_feed s.shape.block (first_job (heard_of o (lane_at s lane).jobs)) ≡ replies.Window at n
          feed_reply o there e = ap (λ (js : List Job). reply_of_feed s.shape.block (first_job js)) (sym (home_jobs s lane o there)) ∙ e

      by : (jobs : List queue.Job) → (lane_at s lane).jobs ≡ map (shown_job fill) jobs → map fill (spots_of (next_window block (more_of back) jobs)) ≡ slice (passage_at s lane) at n
      by [] are = absurd (none back (ap (λ (js : List Job). reply_of_feed s.shape.block (first_job (heard_of back js))) (sym are) ∙ answer))
        where
          none : (o : Option ℕ) → ¬ (reply_of_feed s.shape.block (first_job (heard_of o [])) ≡ replies.Window at n)
          none None e = cc
          none (Some m) e = cc
      by (j ∷ js) are =
          let now = one back (ap (λ (l : List Job). reply_of_feed s.shape.block (first_job (heard_of back l))) (sym are) ∙ answer) in
          window_filled fill block (more_of back) j js at n now.0 (now.1 ∙ ap (λ k. window k (spots_of j.passage) (j.heard + more_of back)) (sym same))
          ∙ ap (λ (l : List Job). slice (first_passage l) at n) (sym are)
        where
          one : (o : Option ℕ) → reply_of_feed s.shape.block (first_job (heard_of o (map (shown_job fill) (j ∷ js)))) ≡ replies.Window at n
              → (at ≡ j.heard + more_of o) × (n ≡ window s.shape.block (spots_of j.passage) (j.heard + more_of o))
          one None e =
              let both = window_told (shown_job fill j) s.shape.block at n e in
              let zero_more : j.heard ≡ j.heard + 0 = omega arith in
              (both.0 ∙ zero_more, both.1 ∙ ap (λ ss. window s.shape.block ss j.heard) (spots_again fill shows.spots (spots_of j.passage)) ∙ ap (λ m. window s.shape.block (spots_of j.passage) m) zero_more)
          one (Some m) e =
              let both = window_told (record (shown_job fill j) { heard = j.heard + m; window = 0 }) s.shape.block at n e in
              (both.0, both.1 ∙ ap (λ ss. window s.shape.block ss (j.heard + m)) (spots_again fill shows.spots (spots_of j.passage)))

  -- so its bytes are those of the passage
  window_of_job : (at : ℕ) (lease : LeaseState) → refusal s tapes (calls.Feed lane back) ≡ None → reply_of s tapes (calls.Feed lane back) ≡ replies.Window at lease.len
      → lease.samples ≡ map (byte_in (bytes_by fill block) block) (spots_of (next_window block (more_of back) (lane_of lanes.queues lane))) → lease.samples ≡ map (λ (t : Tagged). t.byte) (slice (passage_at s lane) at lease.len)
  window_of_job at lease free replied samples =
      samples ∙ bytes_of_spots fill block some (spots_of (next_window block (more_of back) (lane_of lanes.queues lane))) ∙ ap (map (λ (t : Tagged). t.byte)) (window_places at lease.len free replied)

  -- frames hold the blocks of the window at the places of the first job's passage
  pub fed_holds : (pledged : List (List Piece)) (takings : List ℕ) (b : Rebuilt) (parts : Parts) (after : LanesState) (resident : List (Option Block)) (fed : Fed) → IsServed fill pledged takings b s tapes (calls.Feed lane back) made parts after fed
      → answers.HoldsWindow block (next_window block (more_of back) (lane_of lanes.queues lane)) resident fed → HoldsWindow s lane resident fed
  fed_holds pledged takings b parts after resident (feds.Refused reason) is holds = tt
  fed_holds pledged takings b parts after resident (feds.Stopped id heard) is holds = tt
  fed_holds pledged takings b parts after resident (feds.Ended id heard) is holds = tt
  fed_holds pledged takings b parts after resident (feds.Window at lease) is holds =
      subst (Every (IsHeldAt s.shape.block resident)) (window_places at lease.len is.unrefused is.replied)
      (subst (λ n. Every (IsHeldAt n resident) (map fill (spots_of (next_window block (more_of back) (lane_of lanes.queues lane))))) same
      (places_filled fill shows.spots block resident (spots_of (next_window block (more_of back) (lane_of lanes.queues lane))) holds))
  fed_holds pledged takings b parts after resident feds.Fault is holds = tt

  -- the lease of a window has the samples of the first job's passage
  pub fed_samples : (pledged : List (List Piece)) (takings : List ℕ) (b : Rebuilt) (parts : Parts) (after : LanesState) (fed : Fed) → IsServed fill pledged takings b s tapes (calls.Feed lane back) made parts after fed
      → HasBytes (bytes_by fill block) block (more_of back) (lane_of lanes.queues lane) fed → HasSamples s lane fed
  fed_samples pledged takings b parts after (feds.Refused reason) is has = tt
  fed_samples pledged takings b parts after (feds.Stopped id heard) is has = tt
  fed_samples pledged takings b parts after (feds.Ended id heard) is has = tt
  fed_samples pledged takings b parts after (feds.Window at lease) is has = window_of_job at lease is.unrefused is.replied has
  fed_samples pledged takings b parts after feds.Fault is has = tt

-- ---- a window that comes back

-- a window is out on a lane of the state where one is out on the lane of the program
out_is : (fill : Spot → Tagged) (s : State) (lane : ℕ) (jobs : List queue.Job) → (lane_at s lane).jobs ≡ map (shown_job fill) jobs → window_out s lane ≡ window_at jobs
out_is fill s lane [] are = ap (λ (l : List Job). window_of (first_job l)) are
out_is fill s lane (j ∷ js) are = ap (λ (l : List Job). window_of (first_job l)) are

module _ (fill : Spot → Tagged) (lanes : LanesState) (made : ℕ) (s : State) (tapes : List (List ℕ)) (lane heard len : ℕ) (shows : ShowsLanes fill lanes made s) (known : lane < s.shape.lanes)
    (out : 0 < window_at (lane_of lanes.queues lane)) (is_len : window_at (lane_of lanes.queues lane) ≡ len) (most : heard ≤ len) where
  there : (lane_at s lane).jobs ≡ map (shown_job fill) (lane_of lanes.queues lane)
  there = shows.jobs lane (let shape = shows.shape in let many = shows.many in omega (arith, known, shape, many))

  pub brings_it : BringsItsWindow s (calls.Feed lane (Some heard))
  brings_it = let same = out_is fill s lane (lane_of lanes.queues lane) there in (omega (arith, out, same), omega (arith, is_len, most, same))

  -- such a Feed is not refused
  pub serves_free : refusal s tapes (calls.Feed lane (Some heard)) ≡ None
  serves_free = goes_on _ _ _ (lane_known s lane s.shape.lanes refl (not_le s.shape.lanes lane known)) (goes_on _ _ _ (some_job (lane_of lanes.queues lane) there out) (last_one_of (nat_lt 0 (window_out s lane))))
    where
      some_job : (jobs : List queue.Job) → (lane_at s lane).jobs ≡ map (shown_job fill) jobs → 0 < window_at jobs → when (is_none (first_job (lane_at s lane).jobs)) why.NoJob ≡ None
      some_job [] are more = absurd (omega (arith, more))
      some_job (j ∷ js) are more = ap (λ (l : List Job). when (is_none (first_job l)) why.NoJob) are

      last_one_of : (b : Bool) → first_of (when (b && is_none (Some heard)) why.WindowOut ∷ []) ≡ None
      last_one_of true = refl
      last_one_of false = refl

-- a lease that came back is spent, since the Feed is not refused
pub spent_back : (old one new : LeaseState) (fed : Fed) → ((reason : Why) → ¬ (fed ≡ feds.Refused reason)) → KeepsLease old one new fed → new ≡ one
spent_back old one new (feds.Refused reason) never keeps = absurd (never reason refl)
spent_back old one new (feds.Stopped id heard) never keeps = keeps
spent_back old one new (feds.Ended id heard) never keeps = keeps
spent_back old one new (feds.Window at lease) never keeps = keeps
spent_back old one new feds.Fault never keeps = keeps

pub no_reason : (reason : Why) (o : Option Why) → o ≡ None → o ≡ Some reason → ⊥
no_reason reason o none some = let e : None ≡ Some reason = sym none ∙ some in cc

-- a lane below the lanes of the disk is known
pub known_at : (first : State) (t0 : ℕ) (disk : Told) (s : Inside) (stood : Stood first t0 disk s) (shape : Shape) (lane : ℕ) → shape ≡ s.journal.shape → lane < shape.lanes → lane < (last_of first s).shape.lanes
known_at first t0 disk s stood shape lane same low = subst (λ (x : Shape). lane < x.lanes) (same ∙ sym stood.upright.seated.shape) low

-- ---- faults

-- only a failed read is answered as a fault
pub fed_cause : (fill : Spot → Tagged) (pledged : List (List Piece)) (takings : List ℕ) (b : Rebuilt) (s : State) (tapes : List (List ℕ)) (lane : ℕ) (back : Option ℕ) (made : ℕ) (parts : Parts) (lanes : LanesState) (fed : Fed) (low high : ℕ)
    → IsServed fill pledged takings b s tapes (calls.Feed lane back) made parts lanes fed → (fed ≡ feds.Fault → HasRisen low high) → IsFault (told fed) → HasRisen low high
fed_cause fill pledged takings b s tapes lane back made parts lanes (feds.Refused reason) low high is risen fault = absurd (refused_plain s tapes (calls.Feed lane back) reason is fault)
fed_cause fill pledged takings b s tapes lane back made parts lanes (feds.Stopped id heard) low high is risen fault = absurd (wrong fault)
fed_cause fill pledged takings b s tapes lane back made parts lanes (feds.Ended id heard) low high is risen fault = absurd (wrong fault)
fed_cause fill pledged takings b s tapes lane back made parts lanes (feds.Window at lease) low high is risen fault = absurd (wrong fault)
fed_cause fill pledged takings b s tapes lane back made parts lanes feds.Fault low high is risen fault = risen refl

-- the faults cover the entries still
pub covers_fed : (origin old new caller : ℕ) (lane : ℕ) (back : Option ℕ) (ack : ℕ) (was items : List Entry) (result : Result Fed NoMemory) → IfOk result (λ fed. items ≡ was ++ entry_of caller (calls.Feed lane back) (told fed) ack ∷ []) → OnErr result (items ≡ was)
    → IfOk result (λ fed. IsFault (told fed) → HasRisen old new) → FaultsCover origin was old → old ≤ new → FaultsCover origin items new
covers_fed origin old new caller lane back ack was items (Ok fed) is same cause covers later = let one : Result Reply NoMemory = Ok (told fed) in covers_answer origin old new caller (calls.Feed lane back) ack was items one (inl is) tt cause covers later
covers_fed origin old new caller lane back ack was items (Err e) is same cause covers later = let one : Result Reply NoMemory = Err e in covers_answer origin old new caller (calls.Feed lane back) ack was items one tt (inl same) tt covers later

-- what frames hold of a window, in a state that is the same
pub same_holds : (s t : State) (lane : ℕ) (resident : List (Option Block)) (result : Result Fed NoMemory) → t ≡ s → IfOk result (HoldsWindow t lane resident) → IfOk result (HoldsWindow s lane resident)
same_holds s t lane resident result same has = subst (λ (x : State). IfOk result (HoldsWindow x lane resident)) same has

-- what a lease has, in a state that is the same
pub same_samples : (s t : State) (lane : ℕ) (result : Result Fed NoMemory) → t ≡ s → IfOk result (HasSamples t lane) → IfOk result (HasSamples s lane)
same_samples s t lane result same has = subst (λ (x : State). IfOk result (HasSamples x lane)) same has
