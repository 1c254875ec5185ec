-- The open recordings of lanes, as the program keeps them.
--     kept_of block lane taking      the open recording of a lane, of its bytes in a state
--     recording_at recordings lane      the open recording of a lane, none where the lane is not there
--     total_in recording      how many bytes it has, 0 where there is none
--     more_of recording bytes      it with more bytes
--     between block before bytes      the whole blocks among the bytes that were not complete when there were so many
--     MayAdd recordings lane n      a lane has an open recording, and with n more bytes it is not too long
--     ShowsRecordings recordings s      the recordings of the program are those of a state
use Rattle.std.specs.Prelude.{◌≡◌, ℕ, ◌+◌, ◌-◌, ◌^◌, ◌≤◌, ◌<◌, true, List, length, slice_index_or, Option, Some, None, is_some, option_map}
use Rattle.voice_units.specs.Spots.{slice}
use Rattle.voice_model.specs.State.{State, lane_at}
use Rattle.record_job.specs.Recording.{Recording, seen, added, rest_of, whole_length}

-- the open recording of a lane, of its bytes in a state
abbrev pub kept_of : ℕ → ℕ → Option (List ℕ) → Option Recording
kept_of block lane None = None
kept_of block lane (Some bytes) = Some (seen lane block (length bytes) (rest_of block bytes))

-- the open recording of a lane, none where the lane is not there
abbrev pub recording_at : List (Option Recording) → ℕ → Option Recording
recording_at recordings lane = slice_index_or recordings lane None

-- how many bytes it has, 0 where there is none
abbrev pub total_in : Option Recording → ℕ
total_in None = 0
total_in (Some r) = r.total

-- it with more bytes
abbrev pub more_of : Option Recording → List ℕ → Option Recording
more_of recording bytes = option_map (λ (r : Recording). added r bytes) recording

-- the whole blocks among the bytes that were not complete when there were so many
abbrev pub between : ℕ → ℕ → List ℕ → List ℕ
between block before bytes = slice bytes (whole_length block before) (whole_length block (length bytes) - whole_length block before)

-- a lane has an open recording, and with n more bytes it is not too long
pub record MayAdd (recordings : List (Option Recording)) (lane n : ℕ) : Type 0 where
  pub is_open : is_some (recording_at recordings lane) ≡ true
  pub fits : total_in (recording_at recordings lane) + n ≤ 2 ^ 30

-- the recordings of the program are those of a state
pub record ShowsRecordings (recordings : List (Option Recording)) (s : State) : Type 0 where
  pub many : length recordings ≡ length s.lanes
  pub each : (l : ℕ) → l < length s.lanes → recording_at recordings l ≡ kept_of s.shape.block l (lane_at s l).taking
