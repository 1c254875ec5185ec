-- A change that a sender has made ready.
--     HasTakes tapes takes, bytes_taken tapes takes      takes lie in the tapes;  their bytes, one after another
--     IsEdit, IsVoice, IsNextOf      what is ready does an effect on the tables that show a durable part
--     MayBeNextOf      it does, or there is none
--     body_size next      how many bytes the body of its packet takes
--     HasRoom parts next      the tables have the room that it takes
--     IsSomeNext, IsMaybeNext      what is ready does some effect, which may be done;  the same, or there is none
--     CanBeDone own tapes shape parts next effect      what is ready may be done on these tables, where it does an effect
--     is_edit call      a call that makes a rope of others
use Rattle.std.specs.Prelude.{◌≡◌, ℕ, ◌+◌, ◌*◌, ◌<◌, ◌≤◌, ◌^◌, Bool, true, false, List, [], ◌∷◌, ◌++◌, length, Option, Some, None, flat_map}
use Rattle.std.specs.List.{list_all}
use Rattle.voice_units.specs.declared.pieces.Piece.{Piece}
use Rattle.voice_units.specs.declared.pieces.Take.{Take}
use Rattle.voice_units.specs.Spots.{spots_of, spots_from, pieces_of, samples_in}
use Rattle.voice_units.specs.Blocks.{has_pair, pairs_at, blocks_for}
use Rattle.voice_model.specs.Samples.{Tagged, spot_of, recording, pieces_in}
use Rattle.voice_model.specs.State.{Durable, Effect}
use Rattle.voice_model.specs.State.Effect.{Recorded, Edited}
use Rattle.voice_model.specs.Tapes.{HasTake, taken}
use Rattle.voice_model.specs.Replay.{durable_by, used_pairs}
use Rattle.voice_model.specs.Base.{change_of}
use Rattle.voice_model.specs.Valid.{Every, IsFit}
use Rattle.voice_model.specs.declared.calls.Call.{Call}
use Rattle.voice_model.specs.declared.calls.Call.TheVariants as calls
use Rattle.voice_units.specs.declared.shapes.Shape.{Shape}
use Rattle.recovery.specs.declared.parts.Parts.{Parts}
use Rattle.ready_changes.specs.Ready.{IsReady}
use Rattle.ready_changes.specs.declared.ReadyChange.{ReadyChange}
use Rattle.next_ropes.specs.Ready.{most_held}
use Rattle.mirror_sender.specs.Told.{IsTold}
use Rattle.mirror_sender.specs.declared.coming.Next.{Next}
use Rattle.mirror_sender.specs.declared.coming.Next.TheVariants as nexts

-- takes lie in the tapes
abbrev pub HasTakes : List (List ℕ) → List Take → Type 0
HasTakes tapes takes = Every (HasTake tapes) takes

-- the bytes of takes, one after another
abbrev pub bytes_taken : List (List ℕ) → List Take → List ℕ
bytes_taken tapes takes = flat_map (taken tapes) takes

-- a rope of these pieces, whose blocks live ropes use
pub record IsEdit (own : Durable Tagged) (pieces : List Piece) (effect : Effect Tagged) : Type 0 where
  pub samples : List Tagged
  pub is : effect ≡ Edited own.next samples
  pub same : pieces ≡ pieces_in samples
  pub number : own.next ≤ 2 ^ 48
  pub few : length pieces ≤ 4096
  pub used : list_all (has_pair (used_pairs (durable_by spot_of own))) (pairs_at own.shape.block (spots_of pieces)) ≡ true

-- a recording of these takes
pub record IsVoice (own : Durable Tagged) (tapes : List (List ℕ)) (pieces : List Piece) (takes : List Take) (effect : Effect Tagged) : Type 0 where
  pub is : effect ≡ Recorded own.next (recording own.next (bytes_taken tapes takes))
  pub same : pieces ≡ pieces_of (spots_from own.next 0 (length (bytes_taken tapes takes)))
  pub number : own.next ≤ 2 ^ 48
  pub within : HasTakes tapes takes
  pub long : length (bytes_taken tapes takes) ≤ 2 ^ 30

-- what is ready does the effect on tables that show a durable part, and have room for so many rows
abbrev pub IsNextOf : Durable Tagged → List (List ℕ) → ℕ → Next → Effect Tagged → Type 0
IsNextOf own tapes spare (nexts.Edit pieces) effect = IsEdit own pieces effect
IsNextOf own tapes spare (nexts.Voice pieces takes) effect = IsVoice own tapes pieces takes.items effect
IsNextOf own tapes spare (nexts.Other ready) effect = IsReady spare (durable_by spot_of own) ready (change_of 2 [] effect)

-- a recording of these takes, which have so many samples
abbrev pub IsVoiceOf : ℕ → ℕ → List Take → Next → Type 0
IsVoiceOf id len takes (nexts.Voice pieces these) = (pieces ≡ pieces_of (spots_from id 0 len)) × (these.items ≡ takes)
IsVoiceOf id len takes (nexts.Edit pieces) = ⊥
IsVoiceOf id len takes (nexts.Other ready) = ⊥

-- it does, or there is neither
abbrev pub MayBeNextOf : Durable Tagged → List (List ℕ) → ℕ → Option Next → Option (Effect Tagged) → Type 0
MayBeNextOf own tapes spare None None = Unit {0}
MayBeNextOf own tapes spare (Some next) (Some effect) = IsNextOf own tapes spare next effect
MayBeNextOf own tapes spare None (Some effect) = ⊥
MayBeNextOf own tapes spare (Some next) None = ⊥

-- how many bytes the body of its packet takes
abbrev pub body_size : Next → ℕ
body_size (nexts.Edit pieces) = 11 + 16 * length pieces
body_size (nexts.Voice pieces takes) = 9 + samples_in pieces
body_size (nexts.Other ready) = length ready.payload.items

-- one more rope fits, with so many blocks that nothing uses yet
pub record FitsRope (parts : Parts) (blocks : ℕ) : Type 0 where
  pub ropes : 1 ≤ parts.ropes.spare_ropes
  pub pairs : blocks ≤ parts.ropes.spare_pairs
  pub few : length parts.ropes.ropes + most_held + 1 < 2 ^ 32

-- the tables have the room that a change takes
abbrev pub HasRoom : Parts → Next → Type 0
HasRoom parts (nexts.Edit pieces) = FitsRope parts 0
HasRoom parts (nexts.Voice pieces takes) = FitsRope parts (blocks_for parts.ropes.block (samples_in pieces))
HasRoom parts (nexts.Other ready) = Unit {0}

-- what is ready does some effect, which may be done
pub record IsSomeNext (own : Durable Tagged) (tapes : List (List ℕ)) (form spare : ℕ) (next : Next) : Type 0 where
  pub effect : Effect Tagged
  pub is : IsNextOf own tapes spare next effect
  pub fit : IsFit form own effect

-- it does, or there is none
abbrev pub IsMaybeNext : Durable Tagged → List (List ℕ) → ℕ → ℕ → Option Next → Type 0
IsMaybeNext own tapes form spare None = Unit {0}
IsMaybeNext own tapes form spare (Some next) = IsSomeNext own tapes form spare next

-- what is ready may be done on these tables, where it does an effect
pub record CanBeDone (own : Durable Tagged) (tapes : List (List ℕ)) (shape : Shape) (parts : Parts) (next : Next) (effect : Effect Tagged) : Type 0 where
  pub told : IsTold own parts
  pub is : IsNextOf own tapes parts.interests.spare next effect
  pub fit : IsFit parts.form own effect
  pub in_shape : own.shape ≡ shape

-- a call that makes a rope of others
abbrev pub is_edit : Call → Bool
is_edit (calls.Concat ids) = true
is_edit (calls.Sub id start len) = true
is_edit (calls.Replace id start len with) = true
is_edit _ = false
