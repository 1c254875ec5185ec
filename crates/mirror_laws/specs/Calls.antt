-- What a mirror writes into its journal.
--     IsChange      what is appended is the effect
--     IsBase      what is put into the other area is what is kept after the effect, under one number
use Rattle.std.specs.Prelude.{◌≡◌, ℕ, true, List, map, Some, is_some}
use Rattle.voice_model.specs.Samples.{Tagged}
use Rattle.voice_model.specs.State.{Durable, Effect}
use Rattle.voice_model.specs.Changes.{changed}
use Rattle.voice_model.specs.Spelling.{spelling, change_in}
use Rattle.voice_model.specs.Replay.{Rebuilt, brings, is_legal, acted, recovered}
use Rattle.voice_model.specs.Base.{base_of}
use Rattle.voice_model.specs.Valid.{IsRebuilt}
use Rattle.voice_model.specs.Places.{IsPlaced, AllUsed, CanBeSpelled}
use Rattle.voice_model.specs.declared.changes.Change.{Change}
use Rattle.recovery.specs.Shown.{plain_sample}
use Rattle.mirror_readings.specs.Laws.{numbered_payload}

-- the payload spells a change that may follow b, and there does the effect, by the bytes that the disk has
pub record IsChange (bytes : List ℕ) (kept : Durable Tagged) (effect : Effect Tagged) (b : Rebuilt) (payload : List ℕ) (c : Change) : Type 0 where
  pub spelled : change_in payload ≡ Some c
  pub brings_it : is_some (brings c) ≡ true
  pub legal : is_legal b c ≡ true
  pub does : recovered bytes (acted b c) ≡ changed 2 kept effect

-- the payloads spell a base of form 2 of what x is, all under the number n, and x has the effect, by the bytes that the disk has
pub record IsBase (bytes : List ℕ) (kept : Durable Tagged) (effect : Effect Tagged) (b : Rebuilt) (n : ℕ) (payloads : List (List ℕ)) (x : Rebuilt) : Type 0 where
  pub spelled : payloads ≡ map (numbered_payload n) (map spelling (base_of 2 x))
  pub valid : IsRebuilt plain_sample x
  pub placed : IsPlaced x
  pub used : AllUsed x
  pub can : CanBeSpelled 2 x
  pub in_shape : x.shape ≡ b.shape
  pub does : recovered bytes x ≡ changed 2 kept effect
