-- A change that is about to be made.
--     IsBaseOf shape r base      a base of what is rebuilt, in the form that a switch takes
--     Trying      all that is known as a change goes to the journal
--     IsReadyIn s next      a change that counts is ready in the tables of a store
--     IsPlan journal s effect r plan      the change gets into the journal so; r is what is rebuilt after it
--     CanGo journal going plan      the plan's bytes fit where they go
--     place_of going plan, records_after going plan, form_after plan      what is in doubt as they go there;  the records once it has landed;  the form of their area
use Rattle.std.specs.Prelude.{◌≡◌, ℕ, ◌+◌, ◌-◌, ◌≤◌, ◌<◌, ◌^◌, ◌||◌, ◌==◌, nat_le, cond, List, map, length, None, IsTrue}
use Rattle.voice_units.specs.declared.shapes.Shape.{Shape}
use Rattle.voice_units.specs.Spots.{Spot}
use Rattle.voice_units.specs.declared.pieces.Piece.{Piece}
use Rattle.voice_outside.specs.Disk.{Told}
use Rattle.disk_areas.specs.Areas.{Journal}
use Rattle.voice_journal.specs.Readings.{extent, framed_size, with_payload, switched}
use Rattle.voice_model.specs.Samples.{Tagged}
use Rattle.voice_model.specs.State.{State, Effect, LaneState}
use Rattle.voice_model.specs.Changes.{changed, frame_size}
use Rattle.voice_journal.specs.Places.{JournalValue}
use Rattle.voice_journal.specs.declared.seats.Doubt.{Doubt}
use Rattle.voice_journal.specs.declared.seats.Doubt.TheVariants.{Record, Area}
use Rattle.voice_model.specs.Spelling.{spelling}
use Rattle.voice_model.specs.Step.{reply_of}
use Rattle.voice_model.specs.Replay.{Rebuilt, acted, recovered}
use Rattle.voice_model.specs.Base.{base_of, change_of}
use Rattle.voice_model.specs.Base as changes
use Rattle.voice_model.specs.Valid.{InRange, IsRebuilt}
use Rattle.recovery.specs.Shown.{plain_sample}
use Rattle.voice_model.specs.Places.{IsPlaced, AllUsed, CanBeSpelled}
use Rattle.voice_model.specs.declared.calls.Call.{Call}
use Rattle.voice_model.specs.declared.calls.Reply.{Reply}
use Rattle.voice_model.specs.declared.changes.Change.{Change}
use Rattle.next_changes.specs.Next.{IsNext}
use Rattle.recording_calls.specs.Shown.{ShowsRecordings}
use Rattle.next_changes.specs.declared.NextChange.{NextChange}
use Rattle.voice_store.specs.declared.committing.Base.{Base}
use Rattle.voice_store.specs.declared.committing.Plan.{Plan}
use Rattle.voice_store.specs.declared.committing.Plan.TheVariants as plans
use Rattle.voice_store.specs.Ways.{FitsBehind, FitsOther}
use Rattle.voice_store.specs.declared.inside.Inside.{Inside}
use Rattle.voice_store.specs.declared.going.Going.{Going}
use Rattle.voice_store.specs.Going.{payload_in, IsGoing, closed_in, WillHave}
use Rattle.voice_store.specs.Playing.{jobs_of, KeepsTakings}
use Rattle.voice_store.specs.Stood.{tapes_of, last_of, IsHolding, Plays, Upright, Brings}
use Rattle.voice_store.specs.Facts.{MayCommit}

-- the form that a switch takes: 2, but 1 from form 1 where a base of form 2 does not fit an area
abbrev pub form_taken : Shape → Rebuilt → ℕ
form_taken shape r = cond ((r.form == 2) || nat_le (changes.framed_size (base_of 2 r)) (shape.area - 17)) 2 1

-- a base of what is rebuilt, in the form that a switch takes
pub record IsBaseOf (shape : Shape) (r : Rebuilt) (base : Base) : Type 0 where
  pub form : base.form ≡ form_taken shape r
  pub spelled : base.payloads ≡ map spelling (base_of base.form r)
  pub size : framed_size base.payloads ≡ changes.framed_size (base_of base.form r)
  pub can : CanBeSpelled base.form r
  pub valid : IsRebuilt plain_sample r
  pub placed : IsPlaced r
  pub used : AllUsed r

-- all that is known as a change goes to the journal
pub record Trying (first : State) (t0 : ℕ) (disk : Told) (s : Inside) (b : Rebuilt) (going : Going) (c : Change) (effect : Effect Tagged) (caller : ℕ) (call : Call) (reply : Reply) : Type 0 where
  pub fill : Spot → Tagged
  pub upright : Upright first t0 disk s fill b b
  pub sure : s.doubt ≡ None
  pub in_journal : s.journal.doubt ≡ None
  pub held : List (List Piece)
  pub takings : List ℕ
  pub more : List ℕ
  pub holding : IsHolding held takings s.journal.shape.block (last_of first s).lanes
  pub ready : IsGoing held takings more s.parts b going c
  pub playing : Plays fill disk.honest s (last_of first s)
  pub addresses : List ℕ
  pub change : c ≡ change_of b.form addresses effect
  pub lanes : List LaneState
  pub may : MayCommit (last_of first s) (tapes_of s) caller call effect lanes
  -- what stands once it counts: an End has closed its recording, and the blocks are filled in
  pub holding_then : IsHolding held more s.journal.shape.block lanes
  pub jobs : jobs_of lanes ≡ jobs_of (last_of first s).lanes
  pub takes : KeepsTakings (last_of first s) (record (last_of first s) { lanes = lanes })
  pub recorded : ShowsRecordings (closed_in going s.recordings) (record (last_of first s) { lanes = lanes })
  pub will_have : IsTrue disk.honest → WillHave fill s.journal.shape disk.bytes s.parts.blocks.holders going
  pub replies : reply_of (last_of first s) (tapes_of s) call ≡ reply
  pub in_range : InRange call
  pub brings_it : Brings fill b c (last_of first s) effect
  pub does : IsTrue disk.honest → recovered disk.bytes (acted b c) ≡ changed (last_of first s).form (last_of first s).kept effect
  pub frame : frame_size (last_of first s).form (last_of first s).kept.shape.block effect ≡ 5 + length (payload_in going)
  pub size : extent s.journal.shape ≤ disk.size

-- a change that counts is ready in the tables of a store
pub record IsReadyIn (s : Inside) (next : NextChange) : Type 0 where
  pub held : List (List Piece)
  pub takings : List ℕ
  pub b : Rebuilt
  pub c : Change
  pub ready : IsNext held takings s.parts b next c
  pub in_shape : b.shape ≡ s.journal.shape

-- the change gets into the journal so; r is what is rebuilt after it
abbrev pub IsPlan : JournalValue → State → Effect Tagged → Rebuilt → Plan → Type 0
IsPlan journal s effect r plans.Append = FitsBehind s effect
IsPlan journal s effect r (plans.Switch base) = FitsOther s effect × IsBaseOf journal.shape r base

-- the plan's bytes fit where they go
abbrev pub CanGo : JournalValue → Going → Plan → Type 0
CanGo journal going plans.Append = journal.seat.gate + 5 + length (payload_in going) < journal.shape.area
CanGo journal going (plans.Switch base) = (framed_size base.payloads + 17 ≤ journal.shape.area) × (journal.seat.epoch < 2 ^ 48)

-- what is in doubt as they go there
abbrev pub place_of : Going → Plan → Doubt
place_of going plans.Append = Record (length (payload_in going))
place_of going (plans.Switch base) = Area (16 + framed_size base.payloads)

-- the records of the journal once it has landed
abbrev pub records_after : Going → Plan → Journal → Journal
records_after going plans.Append r = with_payload r (payload_in going)
records_after going (plans.Switch base) r = switched r base.payloads

-- the form of their area, from the one before
abbrev pub form_after : Plan → ℕ → ℕ
form_after plans.Append form = form
form_after (plans.Switch base) form = base.form
