-- How a mirror's disk becomes a plain voice disk: its journal is switched to the base of what the mirror has, without numbers.
--     IsMirror had image      the image is that of a mirror that has this, at this position
--     IsPlain kept image      it is that of a voice disk with this durable part
--     IsEither had image      the one, or the other with the same
--     PromotionsTurn old new      such a switch
use Rattle.std.specs.Prelude.{◌≡◌, ◌⊎◌, ℕ, List, map, Some}
use Rattle.voice_outside.specs.Disk.{Told, Now, Leaves}
use Rattle.voice_journal.specs.Readings.{switched}
use Rattle.voice_journal.specs.Places.{JournalValue}
use Rattle.voice_model.specs.Samples.{Tagged}
use Rattle.voice_model.specs.State.{State, Durable}
use Rattle.voice_model.specs.Spelling.{spelling}
use Rattle.voice_model.specs.Replay.{Rebuilt}
use Rattle.voice_model.specs.Base.{base_of}
use Rattle.voice_model.specs.Image.{opened_from, recovered_from}
use Rattle.mirror_readings.specs.Readings.{Mirrored, mirrored_from}
use Rattle.crash_laws.specs.Standing.{IsLater}
use Rattle.crash_laws.specs.Calls.{Does, Undoes, Doubts, StaysWithin}
use Rattle.mirror_laws.specs.Standing.{StandsSure}

-- the image is that of a mirror that has this, at this position
abbrev pub IsMirror : Mirrored → List ℕ → Type 0
IsMirror had image = mirrored_from image ≡ Some had

-- the image is that of a voice disk with this durable part
abbrev pub IsPlain : Durable Tagged → List ℕ → Type 0
IsPlain kept image = recovered_from image ≡ Some kept

-- the image is that of the mirror, or of a voice disk with what the mirror has
abbrev pub IsEither : Mirrored → List ℕ → Type 0
IsEither had image = IsMirror had image ⊎ IsPlain had.kept image

-- a switch to the base of form 2 of what the mirror has, whose payloads have no numbers
pub record PromotionsTurn (old new : Told) : Type 0 where
  -- a crash at any moment within it leaves the mirror, or a voice disk
  pub within :
      (journal : JournalValue) (b : Rebuilt) (had : Mirrored) (payloads : List (List ℕ))
      → IsLater old new → StandsSure journal old b had.position had.kept → payloads ≡ map spelling (base_of 2 b)
      → StaysWithin (λ r. switched r payloads) journal old new → Leaves old new (IsEither had)
  -- it is done: a crash leaves a voice disk
  pub ok :
      (journal journal' : JournalValue) (b : Rebuilt) (had : Mirrored) (payloads : List (List ℕ))
      → IsLater old new → StandsSure journal old b had.position had.kept → payloads ≡ map spelling (base_of 2 b)
      → Does (λ r. switched r payloads) journal journal' old new → Now new (IsPlain had.kept)
  -- which opens
  pub opens :
      (journal journal' : JournalValue) (b : Rebuilt) (had : Mirrored) (payloads : List (List ℕ))
      → IsLater old new → StandsSure journal old b had.position had.kept → payloads ≡ map spelling (base_of 2 b)
      → Does (λ r. switched r payloads) journal journal' old new → Now new (λ image. (s : State) × (opened_from image ≡ Some s) × (s.kept ≡ had.kept) × (s.form ≡ 2))
  -- it is in doubt
  pub doubt :
      (journal journal' : JournalValue) (b : Rebuilt) (had : Mirrored) (payloads : List (List ℕ))
      → IsLater old new → StandsSure journal old b had.position had.kept → payloads ≡ map spelling (base_of 2 b)
      → Doubts (λ r. switched r payloads) journal journal' old new → Now new (IsEither had)
  -- it failed before it counted
  pub before :
      (journal journal' : JournalValue) (b : Rebuilt) (had : Mirrored)
      → IsLater old new → StandsSure journal old b had.position had.kept
      → Undoes journal journal' old new → Now new (IsMirror had)
