-- Laws of the recordings that lanes have open.
--     ShownByTakings      whether recordings are those of a state depends on its block's length and on its lanes' open recordings alone
use Rattle.std.specs.Prelude.{◌≡◌, ℕ, ◌<◌, List, length, Option}
use Rattle.voice_model.specs.State.{State, lane_at}
use Rattle.record_job.specs.Recording.{Recording}
use Rattle.recording_calls.specs.Shown.{ShowsRecordings}

-- a state whose lanes have the same open recordings, whatever their jobs are, is shown by the same recordings
abbrev pub ShownByTakings : Type 0
ShownByTakings =
    (recordings : List (Option Recording)) (s t : State) → ShowsRecordings recordings s → t.shape.block ≡ s.shape.block → length t.lanes ≡ length s.lanes
    → ((l : ℕ) → l < length s.lanes → (lane_at t l).taking ≡ (lane_at s l).taking) → ShowsRecordings recordings t
