-- What a store keeps, between its calls.
--     last_state first tapes history      the state after the history
--     Fills fill b s      what is rebuilt, filled in so, is what outlives a crash of the state
--     Brings fill b c s effect      the change, filled in so, is the effect
--     IsHolding held takings block lanes      lanes hold these passages, and open recordings have taken so many blocks
--     ShowsState parts s      the tables show what outlives a crash of the state, while its lanes hold what they hold
--     IsSeated journal s      the journal's place is that of the state
--     AcksRise low history high      the moments of the entries never fall, and lie between these
--     Upright      the history is legal (on a disk that isn't honest but for what was read off it), the disk holds it, and its blocks have their bytes, whatever ropes the tables show
--     IsSure, IsUnsure      the tables show the state: nothing is in doubt, or a change is ready to be done
--     Plays fill honest s last      the lanes and the open recordings of the program show those of a state
--     Stood      all of it, but for the count of faults
use Rattle.std.specs.Prelude.{◌≡◌, ◌⊎◌, ℕ, ◌+◌, ◌≤◌, Bool, true, false, List, [], ◌∷◌, Some, None, IsTrue}
use Rattle.std.specs.Arc.{arc_value}
use Rattle.voice_units.specs.Spots.{Spot}
use Rattle.voice_units.specs.declared.pieces.Piece.{Piece}
use Rattle.voice_outside.specs.Disk.{Told}
use Rattle.voice_journal.specs.Places.{JournalValue, landed as landed_seat}
use Rattle.voice_journal.specs.Readings.{extent}
use Rattle.voice_journal.specs.declared.seats.Doubt.{Doubt}
use Rattle.voice_model.specs.Samples.{Tagged, spot_of}
use Rattle.voice_model.specs.State.{State, Effect, LaneState, Pending}
use Rattle.voice_model.specs.Changes.{changed}
use Rattle.voice_model.specs.Step.{Outcome, outcome_of, landed}
use Rattle.voice_model.specs.Step as step
use Rattle.voice_model.specs.Heard.{LegalOn}
use Rattle.voice_model.specs.Replay.{Rebuilt, durable_by, acted}
use Rattle.voice_model.specs.Base.{change_of}
use Rattle.voice_model.specs.Valid.{Every, IsState}
use Rattle.voice_model.specs.declared.changes.Change.{Change}
use Rattle.voice_model.specs.declared.calls.Entry.{Entry}
use Rattle.voice_blocks.specs.Holders.{Holders}
use Rattle.checkpoint.specs.Blocks.{IsHeld as IsHeldAt}
use Rattle.running_tables.specs.Running.{Runs, passages_of, takings_of}
use Rattle.recovery.specs.declared.parts.Parts.{Parts}
use Rattle.next_changes.specs.Next.{IsNext}
use Rattle.crash_laws.specs.Standing.{IsHeld}
use Rattle.voice_store.specs.Filled.{HaveBytes}
use Rattle.voice_store.specs.Playing.{IsPlaying}
use Rattle.voice_store.specs.declared.inside.Doubted.{Doubted}
use Rattle.voice_store.specs.declared.inside.Inside.{Inside}

-- the state after the history
abbrev pub last_state : State → List (List ℕ) → List Entry → State
last_state first tapes history = step.after first tapes history

abbrev pub tapes_of : Inside → List (List ℕ)
tapes_of s = arc_value s.tapes

abbrev pub last_of : State → Inside → State
last_of first s = last_state first (tapes_of s) s.history.items

-- what is rebuilt, filled in so, is what outlives a crash of the state
pub record Fills (fill : Spot → Tagged) (b : Rebuilt) (s : State) : Type 0 where
  pub spots : (x : Spot) → spot_of (fill x) ≡ x
  pub kept : durable_by fill b.kept ≡ s.kept
  pub form : b.form ≡ s.form

-- what a change rebuilds, filled in so, is the state with its effect
pub record Brings (fill : Spot → Tagged) (b : Rebuilt) (c : Change) (s : State) (effect : Effect Tagged) : Type 0 where
  pub spots : (x : Spot) → spot_of (fill x) ≡ x
  pub kept : durable_by fill (acted b c).kept ≡ changed s.form s.kept effect

-- lanes hold these passages, and open recordings have taken so many blocks
pub record IsHolding (held : List (List Piece)) (takings : List ℕ) (block : ℕ) (lanes : List LaneState) : Type 0 where
  pub passages : held ≡ passages_of lanes
  pub recordings : takings ≡ takings_of block lanes

-- the tables show what outlives a crash of the state, but for the bytes of the samples, while its lanes hold what they hold
pub record ShowsState (parts : Parts) (s : State) : Type 0 where
  pub held : List (List Piece)
  pub takings : List ℕ
  pub holding : IsHolding held takings s.shape.block s.lanes
  pub rebuilt : Rebuilt
  pub tables : Runs held [] takings parts rebuilt
  pub fill : Spot → Tagged
  pub fills : Fills fill rebuilt s

-- the journal's place is that of the state
pub record IsSeated (journal : JournalValue) (s : State) : Type 0 where
  pub shape : s.kept.shape ≡ journal.shape
  pub left : s.left + journal.seat.gate + 1 ≡ journal.shape.area
  pub epoch : s.epoch ≡ journal.seat.epoch

-- the moments of the entries never fall, and lie between these
abbrev pub AcksRise : ℕ → List Entry → ℕ → Type 0
AcksRise low [] high = low ≤ high
AcksRise low (e ∷ es) high = (low ≤ e.ack) × AcksRise e.ack es high

-- whether a reply tells of a device fault
abbrev pub is_fault_of : Outcome → Bool
is_fault_of Outcome.Answered = false
is_fault_of _ = true

abbrev pub is_fault : Entry → Bool
is_fault e = is_fault_of (outcome_of e.reply)

-- the history is legal, on a disk that isn't honest but for the talk and peaks that were read off it, the disk holds it, and its blocks have their bytes, whatever ropes the tables show
pub record Upright (first : State) (t0 : ℕ) (disk : Told) (s : Inside) (fill : Spot → Tagged) (b after : Rebuilt) : Type 0 where
  pub legal : LegalOn disk.honest first (tapes_of s) s.history.items
  pub valid : IsState (last_of first s)
  pub fills : Fills fill b (last_of first s)
  pub seated : IsSeated s.journal (last_of first s)
  pub acks : AcksRise t0 s.history.items disk.calls
  pub held : IsTrue disk.honest → IsHeld first (tapes_of s) t0 s.journal disk b after s.history.items
  -- and each block that has an address has its bytes there, whoever uses it: a live rope, a held passage, a change in doubt, or an open recording
  pub bytes : IsTrue disk.honest → HaveBytes fill s.journal.shape disk.bytes s.parts.blocks.holders (last_of first s)

-- nothing is in doubt, and the tables show the state
pub record IsSure (held : List (List Piece)) (takings : List ℕ) (s : Inside) (b after : Rebuilt) (last : State) : Type 0 where
  pub sure : s.doubt ≡ None
  pub in_journal : s.journal.doubt ≡ None
  pub in_state : last.doubt ≡ None
  pub tables : Runs held [] takings s.parts b
  pub same : after ≡ b

abbrev pub in_form : ℕ → Parts → Parts
in_form form parts = record parts { form = form }

-- once what is in doubt has landed, and is done, the tables show the state, whatever passages are held then, and what has an address has it then already
pub record Lands (fill : Spot → Tagged) (journal : JournalValue) (doubted : Doubted) (b after : Rebuilt) (last : State) (c : Change) (doubt : Doubt) : Type 0 where
  pub tables : (held : List (List Piece)) (takings : List ℕ) (parts : Parts) → Runs held [] takings parts (acted b c) → Runs held [] takings (in_form doubted.form parts) after
  pub places : (holders : Holders) → Every (IsHeldAt holders) (acted b c).places → Every (IsHeldAt holders) after.places
  pub fills : Fills fill after (landed last)
  pub seated : IsSeated (record journal { seat = landed_seat journal.seat doubt }) (landed last)
  pub valid : IsState (landed last)

-- a change is in doubt, and ready to be done; its samples are filled in already
pub record IsUnsure (fill : Spot → Tagged) (held : List (List Piece)) (takings : List ℕ) (s : Inside) (b after : Rebuilt) (last : State) : Type 0 where
  pub doubted : Doubted
  pub unsure : s.doubt ≡ Some doubted
  pub pending : Pending
  pub in_state : last.doubt ≡ Some pending
  pub doubt : Doubt
  pub in_journal : s.journal.doubt ≡ Some doubt
  pub change : Change
  pub ready : IsNext held takings s.parts b doubted.next change
  pub addresses : List ℕ
  pub spelled : change ≡ change_of b.form addresses pending.effect
  pub brings_it : Brings fill b change last pending.effect
  pub lands : Lands fill s.journal doubted b after last change doubt

-- the lanes and the open recordings of the program show those of a state
abbrev pub Plays : (Spot → Tagged) → Bool → Inside → State → Type 0
Plays fill honest s last = IsPlaying fill honest s.journal.shape.block s.parts.ropes s.lanes s.made s.recordings last

-- what a store keeps, between its calls, that was opened at moment t0
pub record Stood (first : State) (t0 : ℕ) (disk : Told) (s : Inside) : Type 0 where
  pub fill : Spot → Tagged
  pub b : Rebuilt
  pub after : Rebuilt
  pub held : List (List Piece)
  pub takings : List ℕ
  pub holding : IsHolding held takings s.journal.shape.block (last_of first s).lanes
  pub upright : Upright first t0 disk s fill b after
  pub tables : IsSure held takings s b after (last_of first s) ⊎ IsUnsure fill held takings s b after (last_of first s)
  pub playing : Plays fill disk.honest s (last_of first s)
  pub size : extent s.journal.shape ≤ disk.size
