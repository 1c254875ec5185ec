-- An edit, or a recording, on its way to the journal.
--     MakesRope first t0 disk s call pieces      nothing is in doubt, and nothing refuses the call that makes a rope of these pieces, but perhaps the journal
--     HasWay first t0 disk s call pieces way      the journal does not refuse it either; so the rope gets there
--     refused_by next block spare n      why a recording of n samples is refused, but for the journal's room
--     MakesRecording first t0 disk s take      nothing is in doubt, and nothing refuses a recording, but perhaps the journal
--     recording_of s bytes, recorded_by s tapes take      the change that a recording of these bytes makes;  that of a take
--     HasRoom first t0 disk s take way      the journal does not refuse it either; so it gets there
--     HoldsRecording first t0 disk s take next      its rope is ready in the tables, at addresses that were free
use Rattle.std.specs.Prelude.{◌≡◌, ℕ, nat_lt, true, false, List, [], ◌∷◌, length, Option, None, IsTrue}
use Rattle.std.specs.List.{list_all}
use Rattle.voice_units.specs.Blocks.{blocks_for}
use Rattle.voice_units.specs.declared.pieces.Take.{Take}
use Rattle.voice_units.specs.declared.pieces.Piece.{Piece}
use Rattle.voice_units.specs.Spots.{spots_from, pieces_of}
use Rattle.voice_outside.specs.Disk.{Told}
use Rattle.voice_model.specs.Samples.{Tagged, recording}
use Rattle.voice_model.specs.State.{State, Effect}
use Rattle.voice_model.specs.State.Effect.{Recorded, Edited}
use Rattle.voice_model.specs.Replay.{all_differ, is_free_address}
use Rattle.voice_model.specs.Step.{first_of, if_long, when, last_rope, is_journal_full}
use Rattle.voice_model.specs.Tapes.{HasTake, taken}
use Rattle.voice_model.specs.declared.calls.Call.TheVariants as calls
use Rattle.voice_model.specs.declared.calls.Why.{Why}
use Rattle.voice_model.specs.declared.calls.Why.TheVariants as why
use Rattle.voice_model.specs.declared.calls.Call.{Call}
use Rattle.edits.specs.Shown.{IsRopeOf, before_journal}
use Rattle.recovery.specs.declared.parts.Parts.{Parts}
use Rattle.next_ropes.specs.Addresses.{HandsOut}
use Rattle.next_ropes.specs.Ready.{IsReady, next_change}
use Rattle.next_ropes.specs.declared.NextRope.{NextRope}
use Rattle.voice_store.specs.declared.inside.Inside.{Inside}
use Rattle.voice_store.specs.declared.ways.Way.{Way}
use Rattle.voice_store.specs.Stood.{Stood, last_of, tapes_of}
use Rattle.voice_store.specs.Facts.{is_edit}
use Rattle.voice_store.specs.Ways.{IsWay}

-- nothing is in doubt, and nothing refuses the call that makes a rope of these pieces, but perhaps the journal
pub record MakesRope (first : State) (t0 : ℕ) (disk : Told) (s : Inside) (call : Call) (pieces : List Piece) : Type 0 where
  pub stood : Stood first t0 disk s
  pub sure : s.doubt ≡ None
  pub edits : IsTrue (is_edit call)
  pub rope : IsRopeOf (last_of first s) (tapes_of s) call pieces

-- the journal does not refuse it either; so the rope gets there
pub record HasWay (first : State) (t0 : ℕ) (disk : Told) (s : Inside) (call : Call) (pieces : List Piece) (way : Way) : Type 0 where
  pub makes : MakesRope first t0 disk s call pieces
  pub goes : IsWay (last_of first s) (Edited (last_of first s).next makes.rope.samples) way
  pub free : is_journal_full (last_of first s) (Edited (last_of first s).next makes.rope.samples) ≡ false

-- why a recording of n samples is refused, but for the journal's room, by the next number, the length of a block and the free addresses
abbrev pub refused_by : ℕ → ℕ → ℕ → ℕ → Option Why
refused_by next block spare n = first_of (if_long n ∷ when (nat_lt last_rope next) why.IdsSpent ∷ when (nat_lt spare (blocks_for block n)) (why.NoRoom (blocks_for block n) spare) ∷ [])

-- nothing is in doubt, and nothing refuses a recording, but perhaps the journal
pub record MakesRecording (first : State) (t0 : ℕ) (disk : Told) (s : Inside) (take : Take) : Type 0 where
  pub stood : Stood first t0 disk s
  pub sure : s.doubt ≡ None
  pub has : HasTake (tapes_of s) take
  pub unrefused : first_of (before_journal (last_of first s) (tapes_of s) (calls.Record take)) ≡ None

-- the change that a recording of these bytes makes
abbrev pub recording_of : State → List ℕ → Effect Tagged
recording_of s bytes = Recorded s.next (recording s.next bytes)

-- the change that a recording of a take makes
abbrev pub recorded_by : State → List (List ℕ) → Take → Effect Tagged
recorded_by s tapes take = recording_of s (taken tapes take)

-- the journal does not refuse it either; so it gets there
pub record HasRoom (first : State) (t0 : ℕ) (disk : Told) (s : Inside) (take : Take) (way : Way) : Type 0 where
  pub makes : MakesRecording first t0 disk s take
  pub goes : IsWay (last_of first s) (recorded_by (last_of first s) (tapes_of s) take) way
  pub free : is_journal_full (last_of first s) (recorded_by (last_of first s) (tapes_of s) take) ≡ false

-- its rope is ready in the tables, which were others before, at addresses that were free there; the journal does not refuse it
pub record HoldsRecording (first : State) (t0 : ℕ) (disk : Told) (s : Inside) (take : Take) (next : NextRope) : Type 0 where
  pub before : Parts
  pub makes : MakesRecording first t0 disk (record s { parts = before }) take
  pub free : is_journal_full (last_of first s) (recorded_by (last_of first s) (tapes_of s) take) ≡ false
  pub ready : IsReady makes.stood.held makes.stood.takings s.parts makes.stood.b next (next_change makes.stood.b.form next)
  pub recorded : next.recorded ≡ true
  pub many : length next.addresses.items ≡ blocks_for s.journal.shape.block take.len
  pub differ : all_differ next.addresses.items ≡ true
  pub spare : list_all (is_free_address makes.stood.b) next.addresses.items ≡ true
  pub pieces : next.pieces ≡ pieces_of (spots_from next.id 0 take.len)
  pub handed : HandsOut makes.stood.b.next before.blocks.holders s.parts.blocks.holders
