-- An End on its way to the journal.
--     ended_by s lane      the change that the End of a lane's open recording makes
--     last_bytes s lane      its last block, filled up with zero bytes; nothing where its bytes end with a block
--     whole_in s lane      how many whole blocks it has, as the program counts its bytes
--     last_addresses s lane rope      the addresses of a rope behind those of the whole blocks
--     EndsRecording first t0 disk s lane      nothing is in doubt, and nothing refuses the End, but perhaps the journal
--     EndsSo first t0 disk s lane way      the journal does not refuse it either; so it gets there
--     HoldsEnding first t0 disk s lane rope      its rope is ready, and its blocks are still those of the recording; the journal does not refuse it
--     GoesEnding first t0 disk s lane last plan rope      so it is, these bytes are its last block, and it gets into the journal by a plan
use Rattle.std.specs.Prelude.{◌≡◌, ℕ, ◌/◌, true, false, List, drop, length, None}
use Rattle.voice_units.specs.Spots.{spots_from, pieces_of}
use Rattle.voice_outside.specs.Disk.{Told}
use Rattle.voice_model.specs.Samples.{Tagged}
use Rattle.voice_model.specs.State.{State, Effect}
use Rattle.voice_model.specs.Changes.{taking_of}
use Rattle.voice_model.specs.Replay.{all_differ, acted}
use Rattle.voice_model.specs.Step.{first_of, is_journal_full}
use Rattle.voice_model.specs.declared.calls.Call.TheVariants as calls
use Rattle.record_job.specs.Recording.{filled_up, rest_of}
use Rattle.recording_calls.specs.Shown.{recording_at, total_in}
use Rattle.edits.specs.Shown.{before_journal}
use Rattle.next_ropes.specs.Ready.{next_change}
use Rattle.next_ropes.specs.declared.NextRope.{NextRope}
use Rattle.open_recordings.specs.Ending.{IsEnding}
use Rattle.voice_store.specs.declared.inside.Inside.{Inside}
use Rattle.voice_store.specs.declared.ways.Way.{Way}
use Rattle.voice_store.specs.declared.committing.Plan.{Plan}
use Rattle.voice_store.specs.Stood.{Stood, last_of, tapes_of}
use Rattle.voice_store.specs.Trying.{IsPlan}
use Rattle.voice_store.specs.Keeping.{recording_of}
use Rattle.voice_store.specs.Ways.{IsWay}

-- the change that the End of a lane's open recording makes
abbrev pub ended_by : State → ℕ → Effect Tagged
ended_by s lane = recording_of s (taking_of s lane)

-- its last block, filled up with zero bytes; nothing where its bytes end with a block
abbrev pub last_bytes : State → ℕ → List ℕ
last_bytes s lane = filled_up s.shape.block (rest_of s.shape.block (taking_of s lane))

-- how many whole blocks it has, as the program counts its bytes
abbrev pub whole_in : Inside → ℕ → ℕ
whole_in s lane = total_in (recording_at s.recordings lane) / s.journal.shape.block

-- the addresses of a rope behind those of the whole blocks
abbrev pub last_addresses : Inside → ℕ → NextRope → List ℕ
last_addresses s lane rope = drop (whole_in s lane) rope.addresses.items

-- nothing is in doubt, and nothing refuses the End, but perhaps the journal
pub record EndsRecording (first : State) (t0 : ℕ) (disk : Told) (s : Inside) (lane : ℕ) : Type 0 where
  pub stood : Stood first t0 disk s
  pub sure : s.doubt ≡ None
  pub unrefused : first_of (before_journal (last_of first s) (tapes_of s) (calls.End lane)) ≡ None

-- the journal does not refuse it either; so it gets there
pub record EndsSo (first : State) (t0 : ℕ) (disk : Told) (s : Inside) (lane : ℕ) (way : Way) : Type 0 where
  pub ends : EndsRecording first t0 disk s lane
  pub goes : IsWay (last_of first s) (ended_by (last_of first s) lane) way
  pub free : is_journal_full (last_of first s) (ended_by (last_of first s) lane) ≡ false

-- its rope is ready, and its blocks are still those of the recording; the journal does not refuse it
pub record HoldsEnding (first : State) (t0 : ℕ) (disk : Told) (s : Inside) (lane : ℕ) (rope : NextRope) : Type 0 where
  pub ends : EndsRecording first t0 disk s lane
  pub free : is_journal_full (last_of first s) (ended_by (last_of first s) lane) ≡ false
  pub ready : IsEnding ends.stood.held ends.stood.takings lane s.parts ends.stood.b rope (next_change ends.stood.b.form rope)
  pub differ : all_differ rope.addresses.items ≡ true
  pub pieces : rope.pieces ≡ pieces_of (spots_from rope.id 0 (length (taking_of (last_of first s) lane)))

-- so it is, these bytes are its last block, and it gets into the journal by a plan
pub record GoesEnding (first : State) (t0 : ℕ) (disk : Told) (s : Inside) (lane : ℕ) (last : List ℕ) (plan : Plan) (rope : NextRope) : Type 0 where
  pub holds : HoldsEnding first t0 disk s lane rope
  pub is_last : last ≡ last_bytes (last_of first s) lane
  pub planned : IsPlan s.journal (last_of first s) (ended_by (last_of first s) lane) (acted holds.ends.stood.b (next_change holds.ends.stood.b.form rope)) plan
