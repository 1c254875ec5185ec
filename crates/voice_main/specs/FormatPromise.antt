-- What `format` answers and leaves.
--     graces_by numbers      the common grace and one for each class
--     HasNumbers numbers shape      the shape has these numbers
--     HasRoom numbers size      a disk of that size can have it
--     Formats numbers bytes image      the image is the empty disk of that shape, made of these bytes
--     IsLeft old new      the disk is as it was
--     FormatStatus numbers old new status      when each status comes
--     FormatPromise numbers old new status history      all of it
use Rattle.std.specs.Prelude.{ℕ, List, [], Some, ◌≡◌, ◌≤◌, ◌+◌, IsTrue}
use Rattle.voice_units.specs.Layout.{IsShape, bytes_needed}
use Rattle.voice_units.specs.declared.shapes.Shape.{Shape}
use Rattle.voice_units.specs.declared.shapes.Graces.{Graces}
use Rattle.voice_outside.specs.Counters.{HasRisen}
use Rattle.voice_outside.specs.Disk.{Told, Now}
use Rattle.voice_journal.specs.Formatted.{IsFormatted}
use Rattle.voice_model.specs.declared.calls.Entry.{Entry}
use Rattle.voice_model.specs.State as states
use Rattle.voice_model.specs.Image.{opened_from}
use Rattle.voice_main.specs.declared.options.FormatNumbers.{FormatNumbers}
use Rattle.voice_main.specs.declared.status.Status.{Status}
use Rattle.voice_main.specs.declared.status.Status.TheVariants.{Done, BadShape, DiskFault, NoMemory}
use Rattle.voice_main.specs.Outside.{Outside}

-- the common grace and one for each class
abbrev pub graces_by : FormatNumbers → Graces
graces_by numbers = record { common = numbers.grace; held = numbers.held; until = numbers.until; listed = numbers.listed }

-- a disk of that size can have the shape
pub record HasRoom (numbers : FormatNumbers) (size : ℕ) : Type 0 where
  pub shape : IsShape 2 numbers.block numbers.blocks numbers.area (graces_by numbers) numbers.lanes
  pub room : bytes_needed numbers.block numbers.blocks numbers.area ≤ size

-- the shape has these numbers
pub record HasNumbers (numbers : FormatNumbers) (shape : Shape) : Type 0 where
  pub version : shape.version ≡ 2
  pub block : shape.block ≡ numbers.block
  pub blocks : shape.blocks ≡ numbers.blocks
  pub area : shape.area ≡ numbers.area
  pub graces : shape.graces ≡ graces_by numbers
  pub lanes : shape.lanes ≡ numbers.lanes

-- the image is the empty disk of the shape of these numbers, made of these bytes
pub record Formats (numbers : FormatNumbers) (bytes image : List ℕ) : Type 0 where
  pub shape : Shape
  pub has : HasNumbers numbers shape
  pub formatted : IsFormatted shape bytes image
  -- it opens as the empty state
  pub empty : opened_from image ≡ Some (states.formatted shape)

-- the disk is as it was, and no call of it was made
pub record IsLeft (old new : Told) : Type 0 where
  pub bytes : new.bytes ≡ old.bytes
  pub calls : new.calls ≡ old.calls
  pub faults : new.faults ≡ old.faults

-- when each status of a `format` comes; want of memory leaves the disk as it was
abbrev pub FormatStatus : FormatNumbers → Told → Told → Status → Type 0
FormatStatus numbers old new Done = HasRoom numbers old.size
FormatStatus numbers old new BadShape = HasRoom numbers old.size → ⊥
FormatStatus numbers old new DiskFault = HasRisen old.faults new.faults × HasRoom numbers old.size
FormatStatus numbers old new NoMemory = IsLeft old new
FormatStatus numbers old new _ = ⊥

pub record FormatPromise (numbers : FormatNumbers) (old new : Outside) (status : Status) (history : List Entry) : Type 0 where
  pub comes : FormatStatus numbers old.disk new.disk status
  pub formatted : status ≡ Done → IsTrue old.disk.honest → Now new.disk (Formats numbers old.disk.bytes)
  -- it makes at most 3 device calls
  pub calls : new.disk.calls ≤ old.disk.calls + 3
  -- it makes no call, and prints nothing
  pub silent : history ≡ []
  pub quiet : new.contents ≡ old.contents
