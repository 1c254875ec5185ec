-- What the lanes of a store keep.
--     bytes_by fill block file index      the bytes of a block, filled in so
--     PassagesBelow next lanes      all passages are of files below a number
--     jobs_of lanes      the jobs of each lane
--     KeepsJobs old new      two states have the same jobs on the same lanes, and the next number did not fall
--     KeepsTakings old new      each lane's open recording has the bytes that it had, or none
--     MovesLanes old new      two states differ by what their lanes hold, and by the number of jobs made
--     IsPlaying fill honest block ropes lanes made recordings last      the lanes and the open recordings show those of the state; the frames hold blocks in use, on an honest disk with their bytes
use Rattle.std.specs.Prelude.{◌≡◌, ◌⊎◌, ℕ, ◌*◌, ◌≤◌, ◌<◌, Bool, List, [], map, Option, IsTrue}
use Rattle.voice_units.specs.Spots.{Spot, spots_from}
use Rattle.voice_model.specs.Samples.{Tagged}
use Rattle.voice_model.specs.State.{State, Job, LaneState}
use Rattle.voice_model.specs.Changes.{taking_of}
use Rattle.voice_model.specs.Valid.{Every}
use Rattle.rope_table.specs.Table.{Table}
use Rattle.playing.specs.Frames.{AreUsed, HoldsBytes, uses_of}
use Rattle.playing.specs.Lanes.{LanesState}
use Rattle.lane_calls.specs.Lanes.{ShowsLanes}
use Rattle.record_job.specs.Recording.{Recording}
use Rattle.recording_calls.specs.Shown.{ShowsRecordings}

-- the bytes of a block, filled in so
abbrev pub bytes_by : (Spot → Tagged) → ℕ → ℕ → ℕ → List ℕ
bytes_by fill block file index = map (λ x. (fill x).byte) (spots_from file (index * block) block)

-- all passages of the lanes are of files below this number, those of stopped jobs too
abbrev pub PassagesBelow : ℕ → List LaneState → Type 0
PassagesBelow next lanes = Every (λ lane. Every (λ job. Every (λ sample. sample.file < next) job.passage) lane.jobs) lanes

-- the jobs of each lane
abbrev pub jobs_of : List LaneState → List (List Job)
jobs_of lanes = map (λ lane. lane.jobs) lanes

-- the jobs of the lanes stay, and the next number does not fall
pub record KeepsJobs (old new : State) : Type 0 where
  pub jobs : jobs_of new.lanes ≡ jobs_of old.lanes
  pub made : new.made ≡ old.made
  pub shape : new.shape ≡ old.shape
  pub next : old.next ≤ new.next

-- each lane's open recording has the bytes that it had, or none
abbrev pub KeepsTakings : State → State → Type 0
KeepsTakings old new = (lane : ℕ) → (taking_of new lane ≡ taking_of old lane) ⊎ (taking_of new lane ≡ [])

-- all but the lanes and the number of jobs made stays
abbrev pub MovesLanes : State → State → Type 0
MovesLanes old new = new ≡ record old { lanes = new.lanes; made = new.made }

-- the lanes and the open recordings show those of the state; their frames hold blocks in use, on an honest disk with their bytes
pub record IsPlaying (fill : Spot → Tagged) (honest : Bool) (block : ℕ) (ropes : Table) (lanes : LanesState) (made : ℕ) (recordings : List (Option Recording)) (last : State) : Type 0 where
  pub shows : ShowsLanes fill lanes made last
  pub used : AreUsed (uses_of ropes) lanes.frames
  pub bytes : IsTrue honest → HoldsBytes (bytes_by fill block) lanes.frames
  pub below : PassagesBelow last.next last.lanes
  pub recorded : ShowsRecordings recordings last
