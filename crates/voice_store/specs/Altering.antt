-- A change of rows, of the moment or a sweep, on its way to the journal.
--     Weighs s b next c state effect      a change is ready in the tables of a store, and is this effect on the state
--     Alters first t0 disk s call ready reply growth      nothing is in doubt, and nothing refuses the call that makes a change ready, but perhaps the journal
use Rattle.std.specs.Prelude.{◌≡◌, ℕ, ◌+◌, List, length, None, IsTrue}
use Rattle.voice_units.specs.Spots.{Spot}
use Rattle.voice_units.specs.declared.pieces.Piece.{Piece}
use Rattle.voice_outside.specs.Disk.{Told}
use Rattle.voice_model.specs.Samples.{Tagged}
use Rattle.voice_model.specs.State.{State, Effect}
use Rattle.voice_model.specs.Changes.{frame_size}
use Rattle.voice_model.specs.Replay.{Rebuilt}
use Rattle.voice_model.specs.Valid.{InRange}
use Rattle.voice_model.specs.declared.calls.Call.{Call}
use Rattle.voice_model.specs.declared.calls.Reply.{Reply}
use Rattle.voice_model.specs.declared.changes.Change.{Change}
use Rattle.next_changes.specs.Next.{IsNext, payload_of}
use Rattle.next_changes.specs.declared.NextChange.{NextChange}
use Rattle.ready_changes.specs.declared.ReadyChange.{ReadyChange}
use Rattle.row_calls.specs.Asked.{is_row_call, IsChange}
use Rattle.row_calls.specs.declared.outcomes.Growth.{Growth}
use Rattle.voice_store.specs.declared.inside.Inside.{Inside}
use Rattle.voice_store.specs.Stood.{Stood, last_of, tapes_of, Fills, Brings, IsSeated}

-- a change is ready in the tables of a store, and is this effect on the state; what is rebuilt gives the state, before it and after it
pub record Weighs (s : Inside) (b : Rebuilt) (next : NextChange) (c : Change) (state : State) (effect : Effect Tagged) : Type 0 where
  pub held : List (List Piece)
  pub takings : List ℕ
  pub is_next : IsNext held takings s.parts b next c
  pub in_shape : b.shape ≡ s.journal.shape
  pub fill : Spot → Tagged
  pub fills : Fills fill b state
  pub seated : IsSeated s.journal state
  pub frame : frame_size state.form state.kept.shape.block effect ≡ 5 + length (payload_of next)
  pub brings_it : Brings fill b c state effect

-- nothing is in doubt, and nothing refuses the call that makes a change ready, but perhaps the journal
pub record Alters (first : State) (t0 : ℕ) (disk : Told) (s : Inside) (call : Call) (ready : ReadyChange) (reply : Reply) (growth : Growth) : Type 0 where
  pub stood : Stood first t0 disk s
  pub sure : s.doubt ≡ None
  pub alters : IsTrue (is_row_call call)
  pub range : InRange call
  pub makes : IsChange s.parts stood.b (last_of first s) (tapes_of s) call ready reply growth
