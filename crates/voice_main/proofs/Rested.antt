-- A disk that was just opened has no job in any lane.
use Rattle.std.proofs.Common.{◌≡◌, ℕ, zero, suc, List, Some, replicate, sym, refl, subst}
use Rattle.std.specs.Prelude.{slice_index_or}
use Rattle.voice_model.specs.State.{State, LaneState, quiet_lane}
use Rattle.voice_model.specs.Image.{Reading, reading, opened_by, opened_from}
use Rattle.voice_model.specs.Step.{first_job}
use Rattle.serving_laws.specs.Lanes.{IsAtRest, HasNotBegun}

one_of : {X : Type 0} (n i : ℕ) (x : X) → slice_index_or (replicate n x) i x ≡ x
one_of zero i x = refl
one_of (suc n) zero x = refl
one_of (suc n) (suc i) x = one_of n i x

state_same : (s t : State) → Some s ≡ Some t → s ≡ t
state_same s t e = cc

none_by : (image : List ℕ) (read : Reading) (s : State) (lane : ℕ) → opened_by image read ≡ Some s → IsAtRest s lane
none_by image (Reading.Reads journal r) s lane h =
    let quiet : HasNotBegun (first_job (slice_index_or (replicate r.shape.lanes quiet_lane) lane quiet_lane).jobs) = subst (λ (l : LaneState). HasNotBegun (first_job l.jobs)) (sym (one_of r.shape.lanes lane quiet_lane)) tt in
    subst (λ t. IsAtRest t lane) (state_same _ s h) quiet
none_by image (Reading.Bad place) s lane h = cc

-- no lane of an opened state has a job
pub opened_rests : (image : List ℕ) (s : State) → opened_from image ≡ Some s → (lane : ℕ) → IsAtRest s lane
opened_rests image s h lane = none_by image (reading image) s lane h
