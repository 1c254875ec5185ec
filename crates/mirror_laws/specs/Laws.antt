-- How a call carries that a mirror's disk stands for the changes that were taken, and that what a crash leaves has them: the laws, as statements over the moments of a disk.
--     OpeningHolds disk      a disk that was opened stands for what its bytes mean
--     StandingGives disk      what is rebuilt, where the disk stands
--     LooksCarry old new      calls that change nothing
--     WritesCarry old new      a write into blocks that have no place
--     AppendsCarry old new      an append
--     IsReadBack n x end      what a base reads back as
--     SwitchesCarry old new      a switch
--     FailuresCarry old new      an append or a switch that failed before it counted
--     LandingsCarry old new      a landing
use Rattle.std.specs.Prelude.{◌≡◌, ℕ, ◌+◌, ◌*◌, ◌^◌, ◌≤◌, ◌<◌, List, [], ◌∷◌, ◌++◌, map, length, Option, Some, None, is_some, true}
use Rattle.voice_outside.specs.Disk.{Told}
use Rattle.disk_areas.specs.Areas.{Journal}
use Rattle.voice_journal.specs.Readings.{with_payload, switched, formatted}
use Rattle.voice_journal.specs.Places.{JournalValue}
use Rattle.voice_journal.specs.Looks.{Still, Since}
use Rattle.voice_journal.specs.Opens.{IsOpened}
use Rattle.voice_journal.specs.declared.opening.Opened.{Opened}
use Rattle.voice_blocks.specs.Place.{block_place}
use Rattle.voice_model.specs.Samples.{Tagged}
use Rattle.voice_model.specs.State.{Durable, Effect}
use Rattle.voice_model.specs.Changes.{changed}
use Rattle.voice_model.specs.Replay.{Rebuilt, acted, recovered}
use Rattle.voice_model.specs.Spelling.{spelling}
use Rattle.voice_model.specs.Base.{base_of, in_order}
use Rattle.voice_model.specs.declared.changes.Change.{Change}
use Rattle.mirror_readings.specs.Readings.{NumberedRebuild, mirrored_from}
use Rattle.mirror_readings.specs.Laws.{numbered_payload}
use Rattle.crash_laws.specs.Standing.{IsHonest, IsLater}
use Rattle.crash_laws.specs.Calls.{Does, Undoes, Doubts, StaysWithin, Lands, StaysInDoubt, LandsWithin, WritesWithin, SparesWithin, AreFree}
use Rattle.mirror_laws.specs.Standing.{Took, taken_at, kept_after, effects_of, IsSound, IsHeld}
use Rattle.mirror_laws.specs.Calls.{IsChange, IsBase}

-- a disk of version 2 that was opened, of which a crash since t0 leaves the bytes that were read, stands for what they mean
pub record OpeningHolds (disk : Told) : Type 0 where
  pub opened :
      (t0 : ℕ) (bytes : List ℕ) (opening : Opened) (r : Journal) (b : Rebuilt) (n : ℕ)
      → IsHonest disk → t0 ≤ disk.calls → Since t0 disk (λ image. image ≡ bytes) → IsOpened bytes disk opening r → r.shape.version ≡ 2 → NumberedRebuild r b n
      → (mirrored_from bytes ≡ Some (record { kept = recovered bytes b; position = n })) × IsHeld (recovered bytes b) n t0 opening.journal disk b b [] None

-- where the disk stands for the changes, what is rebuilt is sound and filled by the disk's bytes
pub record StandingGives (disk : Told) : Type 0 where
  pub now :
      (first : Durable Tagged) (from t0 : ℕ) (journal : JournalValue) (b after : Rebuilt) (taken : List Took) (doubt : Option (Effect Tagged))
      → IsHonest disk → IsHeld first from t0 journal disk b after taken doubt
      → IsSound journal disk.bytes b (kept_after first (effects_of taken))
  -- so is what it will be, once what is in doubt has landed
  pub landing :
      (first : Durable Tagged) (from t0 : ℕ) (journal : JournalValue) (b after : Rebuilt) (taken : List Took) (effect : Effect Tagged)
      → IsHonest disk → IsHeld first from t0 journal disk b after taken (Some effect)
      → IsSound journal disk.bytes after (changed 2 (kept_after first (effects_of taken)) effect)

-- calls of the disk that change nothing, as reads and syncs
pub record LooksCarry (old new : Told) : Type 0 where
  pub looked :
      (first : Durable Tagged) (from t0 : ℕ) (journal : JournalValue) (b after : Rebuilt) (taken : List Took) (doubt : Option (Effect Tagged))
      → IsLater old new → IsHeld first from t0 journal old b after taken doubt → Still old new
      → IsHeld first from t0 journal new b after taken doubt

-- writes into blocks that have no place
pub record WritesCarry (old new : Told) : Type 0 where
  -- into consecutive blocks, which have none once what is in doubt has landed either
  pub wrote :
      (first : Durable Tagged) (from t0 : ℕ) (journal : JournalValue) (b after : Rebuilt) (taken : List Took) (doubt : Option (Effect Tagged)) (address count n : ℕ)
      → IsLater old new → IsHeld first from t0 journal old b after taken doubt
      → n ≤ count * journal.shape.block → WritesWithin (block_place journal.shape address) n old new
      → AreFree address count b → (is_some doubt ≡ true → AreFree address count after)
      → IsHeld first from t0 journal new b after taken doubt
  -- writes into any blocks that have no place, nor one once what is in doubt has landed
  pub spared :
      (first : Durable Tagged) (from t0 : ℕ) (journal : JournalValue) (b after : Rebuilt) (taken : List Took) (doubt : Option (Effect Tagged))
      → IsLater old new → IsHeld first from t0 journal old b after taken doubt
      → SparesWithin journal.shape b old new → (is_some doubt ≡ true → SparesWithin journal.shape after old new)
      → IsHeld first from t0 journal new b after taken doubt

-- an append of a change under the next number
pub record AppendsCarry (old new : Told) : Type 0 where
  -- the change is done
  pub ok :
      (first : Durable Tagged) (from t0 : ℕ) (journal journal' : JournalValue) (b after : Rebuilt) (taken : List Took) (effect : Effect Tagged) (payload : List ℕ) (c : Change)
      → IsLater old new → IsHeld first from t0 journal old b after taken None → from + length taken < 2 ^ 48
      → IsChange old.bytes (kept_after first (effects_of taken)) effect b payload c
      → Does (λ r. with_payload r (numbered_payload (from + length taken + 1) payload)) journal journal' old new → StaysWithin (λ r. with_payload r (numbered_payload (from + length taken + 1) payload)) journal old new
      → IsHeld first from t0 journal' new (acted b c) (acted b c) (taken ++ taken_at effect new.calls ∷ []) None
  -- the change is in doubt
  pub doubt :
      (first : Durable Tagged) (from t0 : ℕ) (journal journal' : JournalValue) (b after : Rebuilt) (taken : List Took) (effect : Effect Tagged) (payload : List ℕ) (c : Change)
      → IsLater old new → IsHeld first from t0 journal old b after taken None → from + length taken < 2 ^ 48
      → IsChange old.bytes (kept_after first (effects_of taken)) effect b payload c
      → Doubts (λ r. with_payload r (numbered_payload (from + length taken + 1) payload)) journal journal' old new → StaysWithin (λ r. with_payload r (numbered_payload (from + length taken + 1) payload)) journal old new
      → IsHeld first from t0 journal' new b (acted b c) taken (Some effect)

-- what a base of form 2 under one number reads back as, in whatever area: the same in all that counts, with its places in order
pub record IsReadBack (n : ℕ) (x end : Rebuilt) : Type 0 where
  pub rebuilds : NumberedRebuild (switched (formatted x.shape) (map (numbered_payload n) (map spelling (base_of 2 x)))) end n
  pub kept : end.kept ≡ x.kept
  pub places : end.places ≡ in_order x.places
  pub form : end.form ≡ 2

-- a switch to a base that has a change, under the change's number
pub record SwitchesCarry (old new : Told) : Type 0 where
  -- the base is current
  pub ok :
      (first : Durable Tagged) (from t0 : ℕ) (journal journal' : JournalValue) (b after : Rebuilt) (taken : List Took) (effect : Effect Tagged) (payloads : List (List ℕ)) (x : Rebuilt)
      → IsLater old new → IsHeld first from t0 journal old b after taken None → from + length taken < 2 ^ 48
      → IsBase old.bytes (kept_after first (effects_of taken)) effect b (from + length taken + 1) payloads x
      → Does (λ r. switched r payloads) journal journal' old new → StaysWithin (λ r. switched r payloads) journal old new
      → (end : Rebuilt) × IsReadBack (from + length taken + 1) x end × IsHeld first from t0 journal' new end end (taken ++ taken_at effect new.calls ∷ []) None
  -- the base is in doubt
  pub doubt :
      (first : Durable Tagged) (from t0 : ℕ) (journal journal' : JournalValue) (b after : Rebuilt) (taken : List Took) (effect : Effect Tagged) (payloads : List (List ℕ)) (x : Rebuilt)
      → IsLater old new → IsHeld first from t0 journal old b after taken None → from + length taken < 2 ^ 48
      → IsBase old.bytes (kept_after first (effects_of taken)) effect b (from + length taken + 1) payloads x
      → Doubts (λ r. switched r payloads) journal journal' old new → StaysWithin (λ r. switched r payloads) journal old new
      → (end : Rebuilt) × IsReadBack (from + length taken + 1) x end × IsHeld first from t0 journal' new b end taken (Some effect)

-- an append or a switch that failed before it counted: nothing is taken
pub record FailuresCarry (old new : Told) : Type 0 where
  pub before :
      (first : Durable Tagged) (from t0 : ℕ) (journal journal' : JournalValue) (b after : Rebuilt) (taken : List Took)
      → IsLater old new → IsHeld first from t0 journal old b after taken None
      → Undoes journal journal' old new
      → IsHeld first from t0 journal' new b b taken None

-- a landing
pub record LandingsCarry (old new : Told) : Type 0 where
  -- what was in doubt is taken
  pub ok :
      (first : Durable Tagged) (from t0 : ℕ) (journal journal' : JournalValue) (b after : Rebuilt) (taken : List Took) (effect : Effect Tagged)
      → IsLater old new → IsHeld first from t0 journal old b after taken (Some effect)
      → Lands journal journal' old new → LandsWithin journal old new
      → IsHeld first from t0 journal' new after after (taken ++ taken_at effect new.calls ∷ []) None
  -- it is in doubt as before
  pub failed :
      (first : Durable Tagged) (from t0 : ℕ) (journal journal' : JournalValue) (b after : Rebuilt) (taken : List Took) (effect : Effect Tagged)
      → IsLater old new → IsHeld first from t0 journal old b after taken (Some effect)
      → StaysInDoubt journal journal' old new → LandsWithin journal old new
      → IsHeld first from t0 journal' new b after taken (Some effect)
