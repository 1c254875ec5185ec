-- What lanes have added, and what becomes of it.
use Rattle.std.proofs.Common.{◌≡◌, ℕ, zero, suc, ◌+◌, ◌<◌, ◌≤◌, ◌==◌, Bool, true, false, cond, List, [], ◌∷◌, ◌++◌, map, length, Option, Some, None, refl, sym, ◌∙◌, ap, ap₂, subst, arith, append_assoc}
use Rattle.std.specs.Prelude.{flat_map, slice_set, slice_index_or, unwrap_or, is_some}
use Rattle.std.proofs.lemmas.Bool.{eqb-true, eq-eqb, eqb-false}
use Rattle.std.proofs.lemmas.List.{append-nil}
use Rattle.voice_units.specs.declared.pieces.Take.{Take}
use Rattle.voice_model.specs.State.{State, LaneState, lane_at, with_lane, quiet_lane}
use Rattle.voice_model.specs.Changes.{taking_of}
use Rattle.voice_model.specs.Tapes.{HasTake, taken}
use Rattle.voice_model.specs.Valid.{Every}
use Rattle.voice_model.proofs.KeptByChanges.{every-append}
use Rattle.recovery.proofs.Ropes.{not_equal}
use Rattle.mirror_sender.specs.declared.recordings.Added.{Added}
use Rattle.mirror_sender.specs.Coming.{HasTakes, bytes_taken}
use Rattle.mirror_sender.specs.Abreast.{takes_on, others_than, AreAdded}

-- ---- lists of what was added

-- an added take belongs to the lane, or does not
front_either : (t : Bool) (a : Take) (takes more : List Take) → cond t (a ∷ takes) takes ++ more ≡ cond t (a ∷ (takes ++ more)) (takes ++ more)
front_either true a takes more = refl
front_either false a takes more = refl

pub takes_append : (adds : List Added) (a : Added) (lane : ℕ) → takes_on (adds ++ a ∷ []) lane ≡ takes_on adds lane ++ takes_on (a ∷ []) lane
takes_append [] a lane = refl
takes_append (x ∷ adds) a lane =
    ap (λ l. cond (x.lane == lane) (x.take ∷ l) l) (takes_append adds a lane) ∙ sym (front_either (x.lane == lane) x.take (takes_on adds lane) (takes_on (a ∷ []) lane))

pub bytes_append : (tapes : List (List ℕ)) (xs ys : List Take) → bytes_taken tapes (xs ++ ys) ≡ bytes_taken tapes xs ++ bytes_taken tapes ys
bytes_append tapes [] ys = refl
bytes_append tapes (x ∷ xs) ys = ap (λ l. taken tapes x ++ l) (bytes_append tapes xs ys) ∙ sym (append_assoc (taken tapes x) (bytes_taken tapes xs) (bytes_taken tapes ys))

-- of the lane itself nothing is left, and of another all
left_here : (a : Added) (adds : List Added) (lane : ℕ) (t : Bool) → (a.lane == lane) ≡ t → takes_on (others_than adds lane) lane ≡ [] → takes_on (cond t (others_than adds lane) (a ∷ others_than adds lane)) lane ≡ []
left_here a adds lane true e rest = rest
left_here a adds lane false e rest = ap (λ t. cond t (a.take ∷ takes_on (others_than adds lane) lane) (takes_on (others_than adds lane) lane)) e ∙ rest

pub takes_left : (adds : List Added) (lane : ℕ) → takes_on (others_than adds lane) lane ≡ []
takes_left [] lane = refl
takes_left (a ∷ adds) lane = left_here a adds lane (a.lane == lane) refl (takes_left adds lane)

left_there : (a : Added) (adds : List Added) (lane other : ℕ) → ¬ (other ≡ lane) → (t u : Bool) → (a.lane == lane) ≡ t → (a.lane == other) ≡ u → takes_on (others_than adds lane) other ≡ takes_on adds other
    → takes_on (cond t (others_than adds lane) (a ∷ others_than adds lane)) other ≡ cond u (a.take ∷ takes_on adds other) (takes_on adds other)
left_there a adds lane other apart true true e f rest = absurd (apart (sym (eqb-true a.lane other f) ∙ eqb-true a.lane lane e))
left_there a adds lane other apart true false e f rest = rest
left_there a adds lane other apart false u e f rest = ap (λ t. cond t (a.take ∷ takes_on (others_than adds lane) other) (takes_on (others_than adds lane) other)) f ∙ ap (λ l. cond u (a.take ∷ l) l) rest

pub takes_elsewhere : (adds : List Added) (lane other : ℕ) → ¬ (other ≡ lane) → takes_on (others_than adds lane) other ≡ takes_on adds other
takes_elsewhere [] lane other apart = refl
takes_elsewhere (a ∷ adds) lane other apart = left_there a adds lane other apart (a.lane == lane) (a.lane == other) refl refl (takes_elsewhere adds lane other apart)

added_either : (tapes : List (List ℕ)) (a : Added) (rest : List Added) (t : Bool) → HasTake tapes a.take → AreAdded tapes rest → AreAdded tapes (cond t rest (a ∷ rest))
added_either tapes a rest true h k = k
added_either tapes a rest false h k = (h, k)

pub added_left : (tapes : List (List ℕ)) (adds : List Added) (lane : ℕ) → AreAdded tapes adds → AreAdded tapes (others_than adds lane)
added_left tapes [] lane h = tt
added_left tapes (a ∷ adds) lane h = added_either tapes a (others_than adds lane) (a.lane == lane) h.0 (added_left tapes adds lane h.1)

within_either : (tapes : List (List ℕ)) (take : Take) (rest : List Take) (t : Bool) → HasTake tapes take → HasTakes tapes rest → HasTakes tapes (cond t (take ∷ rest) rest)
within_either tapes take rest true h k = (h, k)
within_either tapes take rest false h k = k

pub takes_within : (tapes : List (List ℕ)) (adds : List Added) (lane : ℕ) → AreAdded tapes adds → HasTakes tapes (takes_on adds lane)
takes_within tapes [] lane h = tt
takes_within tapes (a ∷ adds) lane h = within_either tapes a.take (takes_on adds lane) (a.lane == lane) h.0 (takes_within tapes adds lane h.1)

-- ---- one lane with another recording

abbrev bytes_open : LaneState → List ℕ
bytes_open lane = unwrap_or lane.taking []

set_elsewhere : (lanes : List LaneState) (lane other : ℕ) (value : LaneState) → ¬ (other ≡ lane) → slice_index_or (slice_set lanes lane value) other quiet_lane ≡ slice_index_or lanes other quiet_lane
set_elsewhere [] lane other value apart = refl
set_elsewhere (l ∷ lanes) zero zero value apart = absurd (apart refl)
set_elsewhere (l ∷ lanes) zero (suc other) value apart = refl
set_elsewhere (l ∷ lanes) (suc lane) zero value apart = refl
set_elsewhere (l ∷ lanes) (suc lane) (suc other) value apart = set_elsewhere lanes lane other value (λ e. apart (ap suc e))

set_here : (lanes : List LaneState) (lane : ℕ) (value : LaneState) → lane < length lanes → slice_index_or (slice_set lanes lane value) lane quiet_lane ≡ value
set_here [] lane value lt = absurd (omega arith)
set_here (l ∷ lanes) zero value lt = refl
set_here (l ∷ lanes) (suc lane) value lt = set_here lanes lane value (omega arith)

-- the bytes of a lane's recording, where one lane gets another one
pub taking_elsewhere : (s : State) (lane other : ℕ) (value : LaneState) → ¬ (other ≡ lane) → taking_of (with_lane s lane value) other ≡ taking_of s other
taking_elsewhere s lane other value apart = ap bytes_open (set_elsewhere s.lanes lane other value apart)

pub taking_here : (s : State) (lane : ℕ) (value : LaneState) → lane < length s.lanes → taking_of (with_lane s lane value) lane ≡ bytes_open value
taking_here s lane value lt = ap bytes_open (set_here s.lanes lane value lt)

-- where it gets one with the same bytes, nothing is added
pub taking_still : (lanes : List LaneState) (lane : ℕ) (value : LaneState) → bytes_open value ≡ bytes_open (slice_index_or lanes lane quiet_lane) → (other : ℕ) → bytes_open (slice_index_or (slice_set lanes lane value) other quiet_lane) ≡ bytes_open (slice_index_or lanes other quiet_lane)
taking_still [] lane value same other = refl
taking_still (l ∷ lanes) zero value same zero = same
taking_still (l ∷ lanes) zero value same (suc other) = refl
taking_still (l ∷ lanes) (suc lane) value same zero = refl
taking_still (l ∷ lanes) (suc lane) value same (suc other) = taking_still lanes lane value same other

-- a lane that is not there has no recording
pub taking_beyond : (lanes : List LaneState) (lane : ℕ) (value : LaneState) → bytes_open value ≡ [] → (other : ℕ) → other ≡ lane → bytes_open (slice_index_or (slice_set lanes lane value) other quiet_lane) ≡ []
taking_beyond [] lane value none other e = refl
taking_beyond (l ∷ lanes) zero value none zero e = none
taking_beyond (l ∷ lanes) zero value none (suc other) e = absurd (omega (arith, e))
taking_beyond (l ∷ lanes) (suc lane) value none zero e = absurd (omega (arith, e))
taking_beyond (l ∷ lanes) (suc lane) value none (suc other) e = taking_beyond lanes lane value none other (omega (arith, e))

-- ---- what was added is what is open

module _ (tapes : List (List ℕ)) (adds : List Added) (s : State) (lane : ℕ) (same : (l : ℕ) → taking_of s l ≡ bytes_taken tapes (takes_on adds l)) where
  abbrev pub added_lane : Take → LaneState
  added_lane take = record (lane_at s lane) { taking = Some (taking_of s lane ++ taken tapes take) }

  abbrev pub added_take : Take → Added
  added_take take = record { lane = lane; take = take }

  pub takings_added : (take : Take) → lane < length s.lanes → (other : ℕ) → taking_of (with_lane s lane (added_lane take)) other ≡ bytes_taken tapes (takes_on (adds ++ added_take take ∷ []) other)
  takings_added take lt other = each (other == lane) refl
    where
      bytes : (l : ℕ) → bytes_taken tapes (takes_on (adds ++ added_take take ∷ []) l) ≡ bytes_taken tapes (takes_on adds l) ++ bytes_taken tapes (takes_on (added_take take ∷ []) l)
      bytes l = ap (bytes_taken tapes) (takes_append adds (added_take take) l) ∙ bytes_append tapes (takes_on adds l) (takes_on (added_take take ∷ []) l)

      one : (l : ℕ) (t : Bool) → (lane == l) ≡ t → bytes_taken tapes (takes_on (added_take take ∷ []) l) ≡ bytes_taken tapes (cond t (take ∷ []) [])
      one l t e = ap (λ t. bytes_taken tapes (cond t (take ∷ []) [])) e

      each : (t : Bool) → (other == lane) ≡ t → taking_of (with_lane s lane (added_lane take)) other ≡ bytes_taken tapes (takes_on (adds ++ added_take take ∷ []) other)
      each true e =
          let is = eqb-true other lane e in
          subst (λ l. taking_of (with_lane s lane (added_lane take)) l ≡ bytes_taken tapes (takes_on (adds ++ added_take take ∷ []) l)) (sym is)
          (taking_here s lane (added_lane take) lt ∙ ap₂ (λ xs ys. xs ++ ys) (same lane) (sym (append-nil (taken tapes take)) ∙ sym (one lane true (eq-eqb lane lane refl))) ∙ sym (bytes lane))
      each false e =
          let apart = eqb-false other lane e in
          taking_elsewhere s lane other (added_lane take) apart ∙ same other
          ∙ sym (append-nil (bytes_taken tapes (takes_on adds other)))
          ∙ ap (λ l. bytes_taken tapes (takes_on adds other) ++ l) (sym (one other false (not_equal lane other (λ k. apart (sym k)))))
          ∙ sym (bytes other)

  abbrev pub closed_lane : LaneState
  closed_lane = record (lane_at s lane) { taking = None }

  pub takings_closed : (other : ℕ) → taking_of (with_lane s lane closed_lane) other ≡ bytes_taken tapes (takes_on (others_than adds lane) other)
  takings_closed other = each (other == lane) refl
    where
      each : (t : Bool) → (other == lane) ≡ t → taking_of (with_lane s lane closed_lane) other ≡ bytes_taken tapes (takes_on (others_than adds lane) other)
      each true e =
          let is = eqb-true other lane e in
          taking_beyond s.lanes lane closed_lane refl other is
          ∙ sym (ap (λ l. bytes_taken tapes (takes_on (others_than adds lane) l)) is ∙ ap (bytes_taken tapes) (takes_left adds lane))
      each false e =
          let apart = eqb-false other lane e in
          taking_elsewhere s lane other closed_lane apart ∙ same other ∙ ap (bytes_taken tapes) (sym (takes_elsewhere adds lane other apart))

-- one more take lies in the tapes
pub added_within : (tapes : List (List ℕ)) (adds : List Added) (a : Added) → AreAdded tapes adds → HasTake tapes a.take → AreAdded tapes (adds ++ a ∷ [])
added_within tapes adds a h within = every-append (λ (added : Added). HasTake tapes added.take) adds (a ∷ []) h (within, tt)
