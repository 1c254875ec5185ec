-- A change on its way to the journal, also one that ends an open recording.
--     payload_in going, counted_as going      its payload;  the change that it is once it counts
--     IsGoing held takings more parts b going c      it is ready in the tables; once it counts open recordings have taken `more`
--     IsGoingIn shape parts going      it is ready in the tables of a store of this shape
--     IsCounted going old new      what becomes of addresses as it counts
--     closed_in going recordings      what becomes of open recordings as it counts
--     WillHave fill shape image holders going      the blocks of a recording that ends have their bytes, as they are filled in for the new file
use Rattle.std.specs.Prelude.{◌≡◌, ℕ, ◌+◌, ◌*◌, ◌<◌, List, slice_index, slice_set, Option, Some, None}
use Rattle.voice_units.specs.Spots.{Spot}
use Rattle.voice_units.specs.declared.pieces.Piece.{Piece}
use Rattle.voice_units.specs.declared.shapes.Shape.{Shape}
use Rattle.voice_blocks.specs.Holders.{Holders, EachBecomes, holder_at, block_of, renamed}
use Rattle.voice_blocks.specs.Place.{block_place}
use Rattle.voice_blocks.specs.declared.owner.Owner.TheVariants.{Taking}
use Rattle.voice_model.specs.Samples.{Tagged}
use Rattle.voice_model.specs.Replay.{Rebuilt}
use Rattle.voice_model.specs.declared.changes.Change.{Change}
use Rattle.recovery.specs.declared.parts.Parts.{Parts}
use Rattle.record_job.specs.Recording.{Recording}
use Rattle.running_tables.specs.Laws.{HasEnded}
use Rattle.open_recordings.specs.Ending.{IsEnding}
use Rattle.next_changes.specs.Next.{IsNext, payload_of}
use Rattle.next_changes.specs.declared.NextChange.{NextChange}
use Rattle.next_changes.specs.declared.NextChange.TheVariants as changes
use Rattle.voice_store.specs.declared.going.Going.{Going}
use Rattle.voice_store.specs.declared.going.Going.TheVariants as goings

-- its payload
abbrev pub payload_in : Going → List ℕ
payload_in (goings.Change next) = payload_of next
payload_in (goings.Ending lane rope) = rope.payload.items

-- the change that it is once it counts
abbrev pub counted_as : Going → NextChange
counted_as (goings.Change next) = next
counted_as (goings.Ending lane rope) = changes.Rope rope

-- it is ready in the tables; once it counts open recordings have taken `more`
abbrev pub IsGoing : List (List Piece) → List ℕ → List ℕ → Parts → Rebuilt → Going → Change → Type 0
IsGoing held takings more parts b (goings.Change next) c = (more ≡ takings) × IsNext held takings parts b next c
IsGoing held takings more parts b (goings.Ending lane rope) c = HasEnded lane takings more × IsEnding held takings lane parts b rope c

-- it is ready in the tables of a store of this shape
pub record IsGoingIn (shape : Shape) (parts : Parts) (going : Going) : Type 0 where
  pub held : List (List Piece)
  pub takings : List ℕ
  pub more : List ℕ
  pub b : Rebuilt
  pub c : Change
  pub ready : IsGoing held takings more parts b going c
  pub in_shape : b.shape ≡ shape

-- as it counts, the blocks of a recording that ends become those of the new file
abbrev pub IsCounted : Going → Holders → Holders → Type 0
IsCounted (goings.Change next) old new = new ≡ old
IsCounted (goings.Ending lane rope) old new = EachBecomes (renamed lane rope.id) old new

-- as it counts, a recording that ends is closed
abbrev pub closed_in : Going → List (Option Recording) → List (Option Recording)
closed_in (goings.Change next) recordings = recordings
closed_in (goings.Ending lane rope) recordings = slice_set recordings lane None

-- the blocks of a recording that ends have their bytes, as they are filled in for the new file
abbrev pub WillHave : (Spot → Tagged) → Shape → List ℕ → Holders → Going → Type 0
WillHave fill shape image holders (goings.Change next) = Unit {0}
WillHave fill shape image holders (goings.Ending lane rope) =
    (a index k : ℕ) → holder_at holders a ≡ Some (block_of (Taking lane) index) → k < shape.block → slice_index image (block_place shape a + k) ≡ (fill (record { file = rope.id; place = index * shape.block + k })).byte
