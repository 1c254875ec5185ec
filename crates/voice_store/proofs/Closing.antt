-- A lane whose open recording is closed, and an End that nothing refuses.
use Rattle.std.proofs.Common.{◌≡◌, ◌⊎◌, inl, inr, ⊎_elim, ℕ, zero, suc, false, List, [], ◌∷◌, ◌++◌, length, Option, Some, None, refl, sym, ◌∙◌, ap}
use Rattle.std.specs.Prelude.{is_none, slice_index_or, slice_set, unwrap_or}
use Rattle.std.proofs.lemmas.List.{get_or-set_other}
use Rattle.voice_units.specs.Blocks.{blocks_for}
use Rattle.voice_units.specs.declared.pieces.Piece.{Piece}
use Rattle.voice_model.specs.State.{State, LaneState, quiet_lane, lane_at}
use Rattle.voice_model.specs.Room.{taking_blocks}
use Rattle.voice_model.specs.Changes.{taking_of}
use Rattle.voice_model.specs.Step.{closed, refusal}
use Rattle.voice_model.specs.declared.calls.Call.TheVariants as calls
use Rattle.voice_model.specs.declared.calls.Reply.TheVariants as replies
use Rattle.voice_model.specs.declared.calls.Why.TheVariants as why
use Rattle.running_tables.specs.Running.{taken, passages_of, takings_of}
use Rattle.running_tables.specs.Laws.{HasEnded}
use Rattle.record_job.specs.Recording.{Recording}
use Rattle.recording_calls.specs.Shown.{ShowsRecordings, kept_of, recording_at, total_in}
use Rattle.recording_calls.proofs.Seen.{at_lane, shows_set}
use Rattle.voice_store.specs.Playing.{jobs_of, KeepsTakings}
use Rattle.voice_store.specs.Stood.{IsHolding}
use Rattle.voice_store.specs.Facts.{MayCommit}
use Rattle.voice_store.specs.Ends.{ended_by}
use Rattle.voice_store.proofs.Refused.{is_reply, stays_home, may_answer, after_answered}
use Rattle.voice_store.proofs.Making.{nothing_lands}
use Rattle.voice_store.proofs.Holding.{of_jobs}

-- ---- lists of lanes, of which one is replaced

-- by one with the same jobs, the jobs of all are the same
jobs_set : (lanes : List LaneState) (lane : ℕ) (value : LaneState) → value.jobs ≡ (slice_index_or lanes lane quiet_lane).jobs → jobs_of (slice_set lanes lane value) ≡ jobs_of lanes
jobs_set [] lane value same = refl
jobs_set (l ∷ lanes) zero value same = ap (λ x. x ∷ jobs_of lanes) same
jobs_set (l ∷ lanes) (suc lane) value same = ap (λ xs. l.jobs ∷ xs) (jobs_set lanes lane value same)

-- and so are their passages
passages_set : (lanes : List LaneState) (lane : ℕ) (value : LaneState) → value.jobs ≡ (slice_index_or lanes lane quiet_lane).jobs → passages_of (slice_set lanes lane value) ≡ passages_of lanes
passages_set [] lane value same = refl
passages_set (l ∷ lanes) zero value same = ap (λ jobs. of_jobs jobs ++ passages_of lanes) same
passages_set (l ∷ lanes) (suc lane) value same = ap (λ (xs : List (List Piece)). of_jobs l.jobs ++ xs) (passages_set lanes lane value same)

-- by one that does not record, it does not record
closed_here : (lanes : List LaneState) (lane : ℕ) (value : LaneState) → value.taking ≡ None → (slice_index_or (slice_set lanes lane value) lane quiet_lane).taking ≡ None
closed_here [] lane value none = refl
closed_here (l ∷ lanes) zero value none = none
closed_here (l ∷ lanes) (suc lane) value none = closed_here lanes lane value none

-- and the others record what they did
closed_there : (lanes : List LaneState) (lane l : ℕ) (value : LaneState) → value.taking ≡ None
    → ((slice_index_or (slice_set lanes lane value) l quiet_lane).taking ≡ None) ⊎ ((slice_index_or (slice_set lanes lane value) l quiet_lane).taking ≡ (slice_index_or lanes l quiet_lane).taking)
closed_there [] lane l value none = inr refl
closed_there (x ∷ lanes) zero zero value none = inl none
closed_there (x ∷ lanes) zero (suc l) value none = inr refl
closed_there (x ∷ lanes) (suc lane) zero value none = inr refl
closed_there (x ∷ lanes) (suc lane) (suc l) value none = closed_there lanes lane l value none

-- how many blocks the recording of a lane has taken
pub taken_at : (block : ℕ) (lanes : List LaneState) (lane : ℕ) → taken (takings_of block lanes) lane ≡ taking_blocks block (slice_index_or lanes lane quiet_lane).taking
taken_at block [] lane = refl
taken_at block (l ∷ lanes) zero = refl
taken_at block (l ∷ lanes) (suc lane) = taken_at block lanes lane

-- a recording that is open has taken those of its bytes
pub open_blocks : (block : ℕ) (taking : Option (List ℕ)) → is_none taking ≡ false → taking_blocks block taking ≡ blocks_for block (length (unwrap_or taking []))
open_blocks block None some = cc
open_blocks block (Some bytes) some = refl

-- the program counts its bytes
total_kept : (block lane : ℕ) (taking : Option (List ℕ)) → total_in (kept_of block lane taking) ≡ length (unwrap_or taking [])
total_kept block lane None = refl
total_kept block lane (Some bytes) = refl

pub total_shown : (recordings : List (Option Recording)) (s : State) (lane : ℕ) → ShowsRecordings recordings s → total_in (recording_at recordings lane) ≡ length (taking_of s lane)
total_shown recordings s lane shows = ap total_in (at_lane recordings s lane shows) ∙ total_kept s.shape.block lane (lane_at s lane).taking

-- ---- a state whose lane is closed

module _ (s : State) (lane : ℕ) where
  abbrev quiet : LaneState
  quiet = record (lane_at s lane) { taking = None }

  abbrev pub lanes_closed : List LaneState
  lanes_closed = (closed s lane).lanes

  pub closed_jobs : jobs_of lanes_closed ≡ jobs_of s.lanes
  closed_jobs = jobs_set s.lanes lane quiet refl

  pub closed_takes : KeepsTakings s (record s { lanes = lanes_closed })
  closed_takes l =
      ⊎_elim (λ none. inr (ap (λ (o : Option (List ℕ)). unwrap_or o []) none)) (λ same. inl (ap (λ (o : Option (List ℕ)). unwrap_or o []) same)) (closed_there s.lanes lane l quiet refl)

  pub closed_recorded : (recordings : List (Option Recording)) → ShowsRecordings recordings s → ShowsRecordings (slice_set recordings lane None) (record s { lanes = lanes_closed })
  closed_recorded recordings shows = shows_set recordings s lane None quiet shows refl

  -- its blocks are those of no recording
  pub closed_ended : (block : ℕ) (takings : List ℕ) → takings ≡ takings_of block s.lanes → HasEnded lane takings (takings_of block lanes_closed)
  closed_ended block takings are = record {
    here = taken_at block lanes_closed lane ∙ ap (λ (o : Option (List ℕ)). taking_blocks block o) (closed_here s.lanes lane quiet refl);
    elsewhere = λ other apart.
        taken_at block lanes_closed other
        ∙ ap (λ (l : LaneState). taking_blocks block l.taking) (get_or-set_other s.lanes lane other quiet quiet_lane apart)
        ∙ sym (taken_at block s.lanes other)
        ∙ ap (λ (ts : List ℕ). taken ts other) (sym are);
  }

  -- the lanes hold the same passages
  pub closed_holding : (held : List (List Piece)) (takings : List ℕ) (block : ℕ) → IsHolding held takings block s.lanes → IsHolding held (takings_of block lanes_closed) block lanes_closed
  closed_holding held takings block holding = record { passages = holding.passages ∙ sym (passages_set s.lanes lane quiet refl); recordings = refl }

-- ---- an End that nothing refuses

-- it makes its change, closes its recording, and does nothing else, or faults before, or in doubt
pub ending_may : (s : State) (tapes : List (List ℕ)) (caller lane : ℕ) → s.doubt ≡ None → refusal s tapes (calls.End lane) ≡ None → MayCommit s tapes caller (calls.End lane) (ended_by s lane) (lanes_closed s lane)
ending_may s tapes caller lane none free = record {
  sure = none;
  answers = may_answer s tapes caller (calls.End lane) refl (nothing_lands s (calls.End lane) none) None free;
  commits = λ ack. after_answered s tapes caller (calls.End lane) refl (nothing_lands s (calls.End lane) none) None free ack;
  faults = record {
    answers = is_reply s tapes caller (calls.End lane) (replies.No why.DiskFault) refl (inr (free, refl));
    stays = λ ack. stays_home s (calls.End lane) refl;
  };
  doubts = is_reply s tapes caller (calls.End lane) (replies.No why.InDoubt) refl (refl, nothing_lands s (calls.End lane) none, free, refl);
  waits = λ ack. refl;
}
