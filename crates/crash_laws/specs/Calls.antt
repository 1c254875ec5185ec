-- What a call does to the disk and to the state, as its clauses tell the caller.
--     Does, Undoes, Doubts, StaysWithin      a change of the journal that was done, that failed before it counted, that is in doubt;  what a crash within it leaves
--     Lands, StaysInDoubt, LandsWithin      a landing that was done, that failed;  what a crash within it leaves
--     WritesWithin      a write of so many bytes
--     Spares, SparesWithin      an image with the bytes of another but in data blocks that have no place;  writes into such blocks
--     IsChange, IsBase      what is appended, or put into the other area, is the effect
--     KeepsDurable, IsCommitted, IsInDoubt      the state afterwards: keeps what outlives a crash, has the effect, or has it in doubt
use Rattle.std.specs.Prelude.{◌≡◌, ℕ, true, false, ◌+◌, ◌*◌, ◌<◌, List, map, Some, None, is_some}
use Rattle.voice_units.specs.declared.shapes.Shape.{Shape}
use Rattle.voice_outside.specs.Disk.{Told, Now, Leaves, IsTorn, AgreesOutside}
use Rattle.disk_areas.specs.Areas.{Journal}
use Rattle.voice_journal.specs.Readings.{data_start, SameElsewhere, Without, Within, WithinLand}
use Rattle.voice_journal.specs.Places.{JournalValue}
use Rattle.voice_journal.specs.Stands.{Stands, StandsInDoubt}
use Rattle.voice_model.specs.Samples.{Tagged}
use Rattle.voice_model.specs.State.{State, Effect}
use Rattle.voice_model.specs.Changes.{changed}
use Rattle.voice_model.specs.Spelling.{spelling, change_in}
use Rattle.voice_model.specs.Replay.{Rebuilt, brings, is_legal, acted, recovered, has_address}
use Rattle.voice_model.specs.Base.{base_of}
use Rattle.voice_model.specs.Valid.{IsRebuilt}
use Rattle.voice_model.specs.Places.{IsPlaced, AllUsed, CanBeSpelled}
use Rattle.voice_model.specs.declared.changes.Change.{Change}
use Rattle.recovery.specs.Shown.{plain_sample}
use Rattle.fillings.specs.Laws.{SameInPlaces}

-- ---- the disk, after a call of the journal

-- the change was done: the journal stands with it, and nothing is unsettled behind the areas
abbrev pub Does : (Journal → Journal) → JournalValue → JournalValue → Told → Told → Type 0
Does change journal journal' old new = (r : Journal) → Stands journal old r → Stands journal' new (change r) × Now new (SameElsewhere r.shape old.bytes)

-- the change failed before it counted
abbrev pub Undoes : JournalValue → JournalValue → Told → Told → Type 0
Undoes journal journal' old new = (r : Journal) → Stands journal old r → Stands journal' new r × Leaves old new (Without r old)

-- the change is in doubt
abbrev pub Doubts : (Journal → Journal) → JournalValue → JournalValue → Told → Told → Type 0
Doubts change journal journal' old new = (r : Journal) → Stands journal old r → StandsInDoubt journal' new r (change r) × Now new (SameElsewhere r.shape old.bytes)

-- a crash within the change
abbrev pub StaysWithin : (Journal → Journal) → JournalValue → Told → Told → Type 0
StaysWithin change journal old new = (r : Journal) → Stands journal old r → Leaves old new (Within r (change r) old)

-- the landing was done
abbrev pub Lands : JournalValue → JournalValue → Told → Told → Type 0
Lands journal journal' old new = (r s : Journal) → StandsInDoubt journal old r s → Stands journal' new s

-- the landing failed
abbrev pub StaysInDoubt : JournalValue → JournalValue → Told → Told → Type 0
StaysInDoubt journal journal' old new = (r s : Journal) → StandsInDoubt journal old r s → StandsInDoubt journal' new r s

-- a crash within the landing
abbrev pub LandsWithin : JournalValue → Told → Told → Type 0
LandsWithin journal old new = (r s : Journal) → StandsInDoubt journal old r s → Leaves old new (WithinLand r s old)

-- a write of n bytes from an offset on, done or not
pub record WritesWithin (at n : ℕ) (old new : Told) : Type 0 where
  pub now : Now new (IsTorn at n old)
  pub crash : Leaves old new (IsTorn at n old)

-- an image with the bytes of another, but in data blocks that have no place
pub record Spares (shape : Shape) (b : Rebuilt) (old new : List ℕ) : Type 0 where
  pub apart : AgreesOutside (data_start shape) (shape.block * shape.blocks) old new
  pub places : SameInPlaces b old new

-- such an image of what a crash could leave
abbrev pub IsSpared : Shape → Rebuilt → Told → List ℕ → Type 0
IsSpared shape b old image = (from : List ℕ) × old.may_leave old.calls from × Spares shape b from image

-- writes into blocks that have no place, done or not
pub record SparesWithin (shape : Shape) (b : Rebuilt) (old new : Told) : Type 0 where
  pub now : Now new (IsSpared shape b old)
  pub crash : Leaves old new (IsSpared shape b old)

-- none of these consecutive blocks has a place
abbrev pub AreFree : ℕ → ℕ → Rebuilt → Type 0
AreFree address count b = (k : ℕ) → k < count → has_address b.places (address + k) ≡ false

-- ---- what is written

-- the payload spells a change that may follow b, and there does the effect, by the bytes that the disk has
pub record IsChange (bytes : List ℕ) (s : State) (effect : Effect Tagged) (b : Rebuilt) (payload : List ℕ) (c : Change) : Type 0 where
  pub spelled : change_in payload ≡ Some c
  pub brings_it : is_some (brings c) ≡ true
  pub legal : is_legal b c ≡ true
  pub does : recovered bytes (acted b c) ≡ changed s.form s.kept effect

-- the payloads spell a base of form `to` of what x is, and x has the effect, by the bytes that the disk has
pub record IsBase (bytes : List ℕ) (s : State) (effect : Effect Tagged) (b : Rebuilt) (to : ℕ) (payloads : List (List ℕ)) (x : Rebuilt) : Type 0 where
  pub spelled : payloads ≡ map spelling (base_of to x)
  pub valid : IsRebuilt plain_sample x
  pub placed : IsPlaced x
  pub used : AllUsed x
  pub can : CanBeSpelled to x
  pub in_shape : x.shape ≡ b.shape
  pub does : recovered bytes x ≡ changed s.form s.kept effect

-- ---- the state afterwards

-- what outlives a crash, and what a landing leaves of it, stays
pub record KeepsDurable (s t : State) : Type 0 where
  pub kept : t.kept ≡ s.kept
  pub doubt : t.doubt ≡ s.doubt
  pub form : t.form ≡ s.form
  pub left : t.left ≡ s.left

-- the effect is done, and nothing is in doubt; the current area is of form `to`
pub record IsCommitted (s : State) (effect : Effect Tagged) (to : ℕ) (t : State) : Type 0 where
  pub kept : t.kept ≡ changed s.form s.kept effect
  pub doubt : t.doubt ≡ None
  pub form : t.form ≡ to

-- the effect is in doubt, and all else that outlives a crash stays
pub record IsInDoubt (s : State) (effect : Effect Tagged) (t : State) : Type 0 where
  pub kept : t.kept ≡ s.kept
  pub doubt : t.doubt ≡ Some (record { effect = effect; form = s.form })
  pub form : t.form ≡ s.form
  pub left : t.left ≡ s.left
