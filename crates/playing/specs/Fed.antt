-- What became of a Feed.
--     FedTo block more lane fed old new      the lanes after it
--     HasSamples bytes block window fed      the lease, if there is one, has the samples of the window
--     IsStop fed      the first job was stopped
use Rattle.std.specs.Prelude.{◌≡◌, ℕ, ◌<◌, true, false, List, drop, length, map, slice_get, slice_set, Some}
use Rattle.voice_units.specs.declared.pieces.Piece.{Piece}
use Rattle.voice_units.specs.Spots.{spots_of, samples_in}
use Rattle.play_queue.specs.Queued.{lane_of}
use Rattle.playing.specs.Frames.{AreReady}
use Rattle.playing.specs.Windows.{byte_in}
use Rattle.playing.specs.Lanes.{LanesState, stopped_at, home_with, sent, next_window, next_start, passage_length, IsSent}
use Rattle.playing.specs.declared.turns.Fed.{Fed}
use Rattle.playing.specs.declared.turns.Fed.TheVariants.{Stopped, Ended, Window, Fault}

-- what was fed, and the jobs after it: the first job leaves where it was stopped or heard to its end, else its next window is out, or after a fault none
abbrev pub FedTo : ℕ → ℕ → ℕ → Fed → LanesState → LanesState → Type 0
FedTo block more lane (Stopped job) old new =
    (stopped_at (lane_of old.queues lane) ≡ true) × (Some job ≡ slice_get (home_with more (lane_of old.queues lane)) 0) × (new.queues ≡ slice_set old.queues lane (drop 1 (lane_of old.queues lane)))
FedTo block more lane (Ended job) old new =
    (stopped_at (lane_of old.queues lane) ≡ false) × (next_start more (lane_of old.queues lane) ≡ passage_length (lane_of old.queues lane)) × (Some job ≡ slice_get (home_with more (lane_of old.queues lane)) 0)
    × (new.queues ≡ slice_set old.queues lane (drop 1 (lane_of old.queues lane)))
FedTo block more lane (Window at lease) old new =
    (stopped_at (lane_of old.queues lane) ≡ false) × (next_start more (lane_of old.queues lane) < passage_length (lane_of old.queues lane)) × (at ≡ next_start more (lane_of old.queues lane))
    × IsSent old lane (next_window block more (lane_of old.queues lane)) lease
    × (new.queues ≡ slice_set old.queues lane (sent more (samples_in (next_window block more (lane_of old.queues lane))) (lane_of old.queues lane)))
    × AreReady block new.frames.resident (next_window block more (lane_of old.queues lane)) (length (next_window block more (lane_of old.queues lane)))
FedTo block more lane Fault old new =
    (stopped_at (lane_of old.queues lane) ≡ false) × (next_start more (lane_of old.queues lane) < passage_length (lane_of old.queues lane)) × (new.queues ≡ slice_set old.queues lane (home_with more (lane_of old.queues lane)))

-- the lease, if there is one, has the bytes at the places of the window
abbrev pub HasSamples : (ℕ → ℕ → List ℕ) → ℕ → List Piece → Fed → Type 0
HasSamples bytes block window (Window at lease) = lease.samples ≡ map (byte_in bytes block) (spots_of window)
HasSamples bytes block window _ = Unit {0}

-- the first job was stopped
abbrev pub IsStop : Fed → Type 0
IsStop (Stopped job) = Unit {0}
IsStop _ = ⊥
