-- How the bytes of an image fill in what is rebuilt, and how large changes make its base: the laws, as statements.
--     SameInPlaces b old new      two images have the same bytes in each block that has a place
--     HasBytes image shape addresses bytes      an image has these bytes at these addresses, block after block
--     HasRecording image shape addresses effect      it has those of a recording
--     IsNoRecording effect      a change that brings no block
--     AreBelow id ropes      ropes with samples of voice files of lower numbers alone
--     new_rope d id samples      the rope that comes with a change
--     blocks_size form shape n      what the blocks of a new voice file of n samples add to a base
--     FillsAlike      images that differ only in the journal's areas, or only where no place is, fill alike
--     Brings      a change that is replayed does, filled in, what it did in the server
--     Alters      so does the change of a call that nothing refuses, and it may be replayed
--     SizesOfChanges      the size of the base after an edit and after a recording
use Rattle.std.specs.Prelude.{◌≡◌, ℕ, ◌+◌, ◌*◌, ◌/◌, ◌%◌, ◌≤◌, ◌<◌, ◌==◌, true, false, cond, List, map, length, slice_index, Some, None}
use Rattle.voice_units.specs.declared.shapes.Shape.{Shape}
use Rattle.voice_units.specs.Spots.{slice, replaced}
use Rattle.voice_units.specs.Blocks.{blocks_for}
use Rattle.voice_outside.specs.Disk.{AgreesOutside}
use Rattle.voice_blocks.specs.Place.{block_place}
use Rattle.voice_model.specs.Samples.{Tagged, spot_of, bytes_of, recording}
use Rattle.voice_model.specs.State.{State, Durable, Live, Effect, samples_of, joined}
use Rattle.voice_model.specs.State.Effect.{Recorded, Edited}
use Rattle.voice_model.specs.Changes.{effect_of, changed, address_size, rope_size, base_size}
use Rattle.voice_model.specs.Step.{refusal}
use Rattle.voice_model.specs.Replay.{Rebuilt, has_address, is_legal, acted, filled, effect_by, recovered}
use Rattle.voice_model.specs.Base.{change_of}
use Rattle.voice_model.specs.Valid.{Every, IsState, InRange, IsTimely, TakesFree}
use Rattle.voice_model.specs.Places.{IsPlaced, AllUsed}
use Rattle.voice_model.specs.declared.calls.Call.{Call}

-- two images have the same bytes in each block that has a place
pub record SameInPlaces (b : Rebuilt) (old new : List ℕ) : Type 0 where
  pub each : (address i : ℕ) → has_address b.places address ≡ true → block_place b.shape address ≤ i → i < block_place b.shape address + b.shape.block → slice_index new i ≡ slice_index old i

-- an image has bytes at addresses, block after block
pub record HasBytes (image : List ℕ) (shape : Shape) (addresses bytes : List ℕ) : Type 0 where
  pub each : (k : ℕ) → k < length bytes → slice_index image (block_place shape (slice_index addresses (k / shape.block)) + k % shape.block) ≡ slice_index bytes k

-- an image has the bytes of a recording at its addresses
abbrev pub HasRecording : List ℕ → Shape → List ℕ → Effect Tagged → Type 0
HasRecording image shape addresses (Recorded id samples) = HasBytes image shape addresses (bytes_of samples)
HasRecording image shape addresses _ = Unit {0}

-- a change that brings no block
abbrev pub IsNoRecording : Effect Tagged → Type 0
IsNoRecording (Recorded id samples) = ⊥
IsNoRecording _ = Unit {0}

-- all samples are of voice files below a number
abbrev pub AreBelow : ℕ → List (Live Tagged) → Type 0
AreBelow id ropes = Every (λ rope. Every (λ t. t.file < id) rope.samples) ropes

-- the rope that comes with a change, idle since now
abbrev pub new_rope : Durable Tagged → ℕ → List Tagged → Live Tagged
new_rope d id samples = record { id = id; samples = samples; idle = d.moment; last = 0 }

-- what the blocks of a new voice file of n samples add to a base
abbrev pub blocks_size : ℕ → Shape → ℕ → ℕ
blocks_size form shape n = cond (n == 0) 0 (18 + (4 + address_size form) * blocks_for shape.block n)

pub record FillsAlike : Type 0 where
  -- images that agree outside the two areas
  pub areas : (b : Rebuilt) (old new : List ℕ) → AgreesOutside 64 (2 * b.shape.area) old new → recovered new b ≡ recovered old b
  -- images with the same bytes in all blocks that have a place
  pub blocks : (b : Rebuilt) (old new : List ℕ) → IsPlaced b → SameInPlaces b old new → recovered new b ≡ recovered old b
  -- such are those that agree outside consecutive blocks without a place, or outside bytes before all blocks
  pub free : (b : Rebuilt) (old new : List ℕ) (address count n : ℕ) → ((k : ℕ) → k < count → has_address b.places (address + k) ≡ false) → n ≤ count * b.shape.block → AgreesOutside (block_place b.shape address) n old new → SameInPlaces b old new
  pub before : (b : Rebuilt) (old new : List ℕ) (at n : ℕ) → at + n ≤ block_place b.shape 0 → AgreesOutside at n old new → SameInPlaces b old new
  -- and one after another
  pub next : (b : Rebuilt) (old mid new : List ℕ) → SameInPlaces b old mid → SameInPlaces b mid new → SameInPlaces b old new

pub record Brings : Type 0 where
  -- a change that names no samples but those that the image gives
  pub plain : (image : List ℕ) (b : Rebuilt) (addresses : List ℕ) (effect : Effect Tagged) → IsNoRecording effect → effect_by (filled image b) (effect_by spot_of effect) ≡ effect → recovered image (acted b (change_of b.form addresses effect)) ≡ changed b.form (recovered image b) effect
  -- the samples of edits are such
  pub joined : (image : List ℕ) (b : Rebuilt) (ids : List ℕ) → let made = joined (recovered image b).ropes ids in map (filled image b) (map spot_of made) ≡ made
  pub sliced : (image : List ℕ) (b : Rebuilt) (id start len : ℕ) → let made = slice (samples_of (recovered image b).ropes id) start len in map (filled image b) (map spot_of made) ≡ made
  pub replaced_by : (image : List ℕ) (b : Rebuilt) (id start len other : ℕ) → let made = replaced (samples_of (recovered image b).ropes id) start len (samples_of (recovered image b).ropes other) in map (filled image b) (map spot_of made) ≡ made
  -- and so is all that the change of a call names, but for recordings
  pub of_call : (image : List ℕ) (b : Rebuilt) (s : State) (tapes : List (List ℕ)) (call : Call) (effect : Effect Tagged) → recovered image b ≡ s.kept → effect_of s tapes call ≡ Some effect → IsNoRecording effect → effect_by (filled image b) (effect_by spot_of effect) ≡ effect
  -- a recording whose bytes the image has at its addresses
  pub recorded : (image : List ℕ) (b : Rebuilt) (id : ℕ) (bytes addresses : List ℕ) → IsPlaced b → b.next ≤ id → length addresses ≡ blocks_for b.shape.block (length bytes) → HasBytes image b.shape addresses bytes → recovered image (acted b (change_of b.form addresses (Recorded id (recording id bytes)))) ≡ changed b.form (recovered image b) (Recorded id (recording id bytes))

pub record Alters : Type 0 where
  -- the change of a call that nothing refuses may be replayed
  pub legal : (image : List ℕ) (b : Rebuilt) (s : State) (tapes : List (List ℕ)) (call : Call) (addresses : List ℕ) (effect : Effect Tagged) → recovered image b ≡ s.kept → b.form ≡ s.form → IsState s → InRange call → refusal s tapes call ≡ None → effect_of s tapes call ≡ Some effect → TakesFree b addresses effect → is_legal b (change_of b.form addresses effect) ≡ true
  -- and does, filled in, what it did in the server
  pub does : (image : List ℕ) (b : Rebuilt) (s : State) (tapes : List (List ℕ)) (call : Call) (addresses : List ℕ) (effect : Effect Tagged) → recovered image b ≡ s.kept → b.form ≡ s.form → IsPlaced b → effect_of s tapes call ≡ Some effect → TakesFree b addresses effect → HasRecording image b.shape addresses effect → recovered image (acted b (change_of b.form addresses effect)) ≡ changed s.form s.kept effect
  -- each place after it is that of a used block
  pub all_used : (b : Rebuilt) (form : ℕ) (addresses : List ℕ) (effect : Effect Tagged) → AllUsed (acted b (change_of form addresses effect))
  -- the shape and the form of the area stay
  pub stays : (b : Rebuilt) (form : ℕ) (addresses : List ℕ) (effect : Effect Tagged) → ((acted b (change_of form addresses effect)).shape ≡ b.shape) × ((acted b (change_of form addresses effect)).form ≡ b.form)

pub record SizesOfChanges : Type 0 where
  -- an edit adds its rope alone
  pub edited : (form : ℕ) (d : Durable Tagged) (id : ℕ) (samples : List Tagged) → IsTimely form d (Edited id samples) → base_size form (changed form d (Edited id samples)) ≡ base_size form d + rope_size form (new_rope d id samples)
  -- a recording under a new number adds its rope, and a voice file with its blocks where it has samples
  pub recorded : (form : ℕ) (d : Durable Tagged) (id : ℕ) (bytes : List ℕ) → AreBelow id d.ropes → base_size form (changed form d (Recorded id (recording id bytes))) ≡ base_size form d + rope_size form (new_rope d id (recording id bytes)) + blocks_size form d.shape (length bytes)
  -- the next number of what is rebuilt is new
  pub below : (image : List ℕ) (b : Rebuilt) (id : ℕ) → IsPlaced b → b.next ≤ id → AreBelow id (recovered image b).ropes
