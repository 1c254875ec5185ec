-- The jobs of a lane, where one of the lanes is set.
use Rattle.std.proofs.Common.{◌≡◌, ℕ, zero, suc, ◌<◌, List, [], ◌∷◌, length, refl, ap, arith}
use Rattle.std.specs.Prelude.{slice_index_or, slice_set}
use Rattle.voice_model.specs.State.{Job, LaneState, quiet_lane}

-- the jobs of a lane among lanes
abbrev pub jobs_at : List LaneState → ℕ → List Job
jobs_at lanes lane = (slice_index_or lanes lane quiet_lane).jobs

-- what holds of the jobs of a lane holds of them where one of the lanes is set, if it holds of what that one is set to
pub set_at : (P : List Job → Type 0) (lanes : List LaneState) (other : ℕ) (value : LaneState) (lane : ℕ) → P (jobs_at lanes lane) → (other ≡ lane → P value.jobs) → P (jobs_at (slice_set lanes other value) lane)
set_at P [] other value lane h k = h
set_at P (x ∷ lanes) zero value zero h k = k refl
set_at P (x ∷ lanes) zero value (suc lane) h k = h
set_at P (x ∷ lanes) (suc other) value zero h k = h
set_at P (x ∷ lanes) (suc other) value (suc lane) h k = set_at P lanes other value lane h (λ e. k (ap suc e))

-- a lane that is there has the jobs that it is set to
pub set_here : (lanes : List LaneState) (lane : ℕ) (value : LaneState) → lane < length lanes → jobs_at (slice_set lanes lane value) lane ≡ value.jobs
set_here [] lane value h = absurd (omega (arith, h))
set_here (x ∷ lanes) zero value h = refl
set_here (x ∷ lanes) (suc lane) value h = set_here lanes lane value (omega (arith, h))

pub set_length : (lanes : List LaneState) (lane : ℕ) (value : LaneState) → length (slice_set lanes lane value) ≡ length lanes
set_length [] lane value = refl
set_length (x ∷ lanes) zero value = refl
set_length (x ∷ lanes) (suc lane) value = ap suc (set_length lanes lane value)

-- a lane with a job is there
pub is_there : (lanes : List LaneState) (lane : ℕ) (job : Job) (jobs : List Job) → jobs_at lanes lane ≡ job ∷ jobs → lane < length lanes
is_there [] lane job jobs e = cc
is_there (x ∷ lanes) zero job jobs e = omega arith
is_there (x ∷ lanes) (suc lane) job jobs e = let below = is_there lanes lane job jobs e in omega (arith, below)
