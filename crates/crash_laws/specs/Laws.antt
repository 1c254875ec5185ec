-- How a call carries that the disk stands for the state and that what a crash leaves was held: the laws, as statements over the moments of a disk.
--     DisksAreHonest disk      an honest disk keeps what the model says
--     landing_at calls      the entry of a landing
--     OpeningHolds disk      a disk that was opened stands for its first state
--     StandingGives disk      what is rebuilt, where the disk stands for the state
--     EntriesCount disk      an entry that makes no call of the disk
--     LooksCarry old new      calls that change nothing
--     WritesCarry old new      a write into blocks that have no place
--     AppendsCarry old new      an append
--     IsReadBack to x end      what a base reads back as
--     SwitchesCarry old new      a switch
--     FailuresCarry old new      an append or a switch that failed before it counted
--     LandingsCarry old new      a landing
use Rattle.std.specs.Prelude.{◌≡◌, ℕ, ◌*◌, ◌≤◌, ◌<◌, List, [], ◌∷◌, ◌++◌, map, Some, None, is_some, true, IsTrue}
use Rattle.voice_outside.specs.Disk.{Told}
use Rattle.disk_areas.specs.Areas.{Journal}
use Rattle.voice_journal.specs.Readings.{with_payload, switched, formatted}
use Rattle.voice_journal.specs.Places.{JournalValue}
use Rattle.voice_journal.specs.Looks.{Still, Since}
use Rattle.voice_journal.specs.Opens.{IsOpened}
use Rattle.voice_journal.specs.declared.opening.Opened.{Opened}
use Rattle.voice_blocks.specs.Place.{block_place}
use Rattle.voice_model.specs.Samples.{Tagged}
use Rattle.voice_model.specs.State.{State, Effect, Pending}
use Rattle.voice_model.specs.Changes.{changed, frame_size, form_after_switch}
use Rattle.voice_model.specs.Step as step
use Rattle.voice_model.specs.Replay.{Rebuilt, acted}
use Rattle.voice_model.specs.Spelling.{spelling}
use Rattle.voice_model.specs.Base.{base_of, in_order}
use Rattle.voice_model.specs.Image.{opened_from}
use Rattle.voice_model.specs.Crash.{landing}
use Rattle.voice_model.specs.declared.calls.Entry.{Entry}
use Rattle.voice_model.specs.declared.changes.Change.{Change}
use Rattle.journal_readings.specs.Readings.{Rebuild}
use Rattle.crash_laws.specs.Standing.{IsSound, IsHonest, IsLater, IsHeld, first_state}
use Rattle.crash_laws.specs.Calls.{Does, Undoes, Doubts, StaysWithin, Lands, StaysInDoubt, LandsWithin, WritesWithin, SparesWithin, AreFree, IsChange, IsBase, KeepsDurable, IsCommitted, IsInDoubt}

-- an honest disk keeps what the model says
abbrev pub DisksAreHonest : Told → Type 0
DisksAreHonest disk = IsTrue disk.honest → IsHonest disk

-- the entry of a landing that was answered after so many calls of the disk
abbrev pub landing_at : ℕ → Entry
landing_at calls = record landing { ack = calls }

-- a disk that was opened, of which a crash since t0 leaves the bytes that were read, stands for the state that they open as
pub record OpeningHolds (disk : Told) : Type 0 where
  pub opened :
      (tapes : List (List ℕ)) (t0 : ℕ) (bytes : List ℕ) (opening : Opened) (r : Journal) (b : Rebuilt)
      → IsHonest disk → t0 ≤ disk.calls → Since t0 disk (λ image. image ≡ bytes) → IsOpened bytes disk opening r → Rebuild r b
      → (opened_from bytes ≡ Some (first_state bytes r b)) × IsHeld (first_state bytes r b) tapes t0 opening.journal disk b b []

-- where the disk stands for the state, what is rebuilt is sound and filled by the disk's bytes
pub record StandingGives (disk : Told) : Type 0 where
  pub now :
      (first : State) (tapes : List (List ℕ)) (t0 : ℕ) (journal : JournalValue) (b after : Rebuilt) (history : List Entry)
      → IsHonest disk → IsHeld first tapes t0 journal disk b after history
      → IsSound journal disk.bytes b (step.after first tapes history)
  -- so is what it will be, once what is in doubt has landed
  pub landing :
      (first : State) (tapes : List (List ℕ)) (t0 : ℕ) (journal : JournalValue) (b after : Rebuilt) (history : List Entry) (pending : Pending)
      → IsHonest disk → IsHeld first tapes t0 journal disk b after history → (step.after first tapes history).doubt ≡ Some pending
      → IsSound journal disk.bytes after (step.landed (step.after first tapes history))

-- an entry that keeps what outlives a crash, answered now
pub record EntriesCount (disk : Told) : Type 0 where
  pub noted :
      (first : State) (tapes : List (List ℕ)) (t0 : ℕ) (journal : JournalValue) (b after : Rebuilt) (history : List Entry) (e : Entry)
      → IsHonest disk → IsHeld first tapes t0 journal disk b after history → e.ack ≡ disk.calls
      → (let last = step.after first tapes history in KeepsDurable last (step.state_after last tapes e))
      → IsHeld first tapes t0 journal disk b after (history ++ e ∷ [])

-- calls of the disk that change nothing, as reads and syncs
pub record LooksCarry (old new : Told) : Type 0 where
  pub looked :
      (first : State) (tapes : List (List ℕ)) (t0 : ℕ) (journal : JournalValue) (b after : Rebuilt) (history : List Entry)
      → IsLater old new → IsHeld first tapes t0 journal old b after history → Still old new
      → IsHeld first tapes t0 journal new b after history

-- writes into blocks that have no place
pub record WritesCarry (old new : Told) : Type 0 where
  -- into consecutive blocks, which have none once what is in doubt has landed either
  pub wrote :
      (first : State) (tapes : List (List ℕ)) (t0 : ℕ) (journal : JournalValue) (b after : Rebuilt) (history : List Entry) (address count n : ℕ)
      → IsLater old new → IsHeld first tapes t0 journal old b after history
      → n ≤ count * journal.shape.block → WritesWithin (block_place journal.shape address) n old new
      → AreFree address count b → (is_some (step.after first tapes history).doubt ≡ true → AreFree address count after)
      → IsHeld first tapes t0 journal new b after history
  -- writes into any blocks that have no place, nor one once what is in doubt has landed
  pub spared :
      (first : State) (tapes : List (List ℕ)) (t0 : ℕ) (journal : JournalValue) (b after : Rebuilt) (history : List Entry)
      → IsLater old new → IsHeld first tapes t0 journal old b after history
      → SparesWithin journal.shape b old new → (is_some (step.after first tapes history).doubt ≡ true → SparesWithin journal.shape after old new)
      → IsHeld first tapes t0 journal new b after history

-- an append, with the entry of the call that asked for it
pub record AppendsCarry (old new : Told) : Type 0 where
  -- the payload's change is done
  pub ok :
      (first : State) (tapes : List (List ℕ)) (t0 : ℕ) (journal journal' : JournalValue) (b after : Rebuilt) (history : List Entry) (effect : Effect Tagged) (payload : List ℕ) (c : Change) (e : Entry)
      → IsLater old new → IsHeld first tapes t0 journal old b after history → (step.after first tapes history).doubt ≡ None
      → IsChange old.bytes (step.after first tapes history) effect b payload c
      → Does (λ r. with_payload r payload) journal journal' old new → StaysWithin (λ r. with_payload r payload) journal old new
      → e.ack ≡ new.calls
      → (let last = step.after first tapes history in IsCommitted last effect last.form (step.state_after last tapes e))
      → IsHeld first tapes t0 journal' new (acted b c) (acted b c) (history ++ e ∷ [])
  -- the payload's change is in doubt; its frame fits the rest of the area
  pub doubt :
      (first : State) (tapes : List (List ℕ)) (t0 : ℕ) (journal journal' : JournalValue) (b after : Rebuilt) (history : List Entry) (effect : Effect Tagged) (payload : List ℕ) (c : Change) (e : Entry)
      → IsLater old new → IsHeld first tapes t0 journal old b after history → (step.after first tapes history).doubt ≡ None
      → IsChange old.bytes (step.after first tapes history) effect b payload c
      → Doubts (λ r. with_payload r payload) journal journal' old new → StaysWithin (λ r. with_payload r payload) journal old new
      → e.ack ≡ new.calls
      → (let last = step.after first tapes history in (frame_size last.form last.shape.block effect ≤ last.left) × IsInDoubt last effect (step.state_after last tapes e))
      → IsHeld first tapes t0 journal' new b (acted b c) (history ++ e ∷ [])

-- what a base reads back as, in whatever area: the same in all that counts, with its places in order
pub record IsReadBack (to : ℕ) (x end : Rebuilt) : Type 0 where
  pub rebuilds : Rebuild (switched (formatted x.shape) (map spelling (base_of to x))) end
  pub kept : end.kept ≡ x.kept
  pub places : end.places ≡ in_order x.places
  pub form : end.form ≡ to

-- a switch, with the entry of the call that asked for it
pub record SwitchesCarry (old new : Told) : Type 0 where
  -- the base is current
  pub ok :
      (first : State) (tapes : List (List ℕ)) (t0 : ℕ) (journal journal' : JournalValue) (b after : Rebuilt) (history : List Entry) (effect : Effect Tagged) (to : ℕ) (payloads : List (List ℕ)) (x : Rebuilt) (e : Entry)
      → IsLater old new → IsHeld first tapes t0 journal old b after history → (step.after first tapes history).doubt ≡ None
      → IsBase old.bytes (step.after first tapes history) effect b to payloads x
      → Does (λ r. switched r payloads) journal journal' old new → StaysWithin (λ r. switched r payloads) journal old new
      → e.ack ≡ new.calls
      → (let last = step.after first tapes history in IsCommitted last effect to (step.state_after last tapes e))
      → (end : Rebuilt) × IsReadBack to x end × IsHeld first tapes t0 journal' new end end (history ++ e ∷ [])
  -- the base is in doubt; the change's frame doesn't fit the rest of the area
  pub doubt :
      (first : State) (tapes : List (List ℕ)) (t0 : ℕ) (journal journal' : JournalValue) (b after : Rebuilt) (history : List Entry) (effect : Effect Tagged) (to : ℕ) (payloads : List (List ℕ)) (x : Rebuilt) (e : Entry)
      → IsLater old new → IsHeld first tapes t0 journal old b after history → (step.after first tapes history).doubt ≡ None
      → IsBase old.bytes (step.after first tapes history) effect b to payloads x
      → Doubts (λ r. switched r payloads) journal journal' old new → StaysWithin (λ r. switched r payloads) journal old new
      → e.ack ≡ new.calls
      → (let last = step.after first tapes history in
      (last.left < frame_size last.form last.shape.block effect) × (to ≡ form_after_switch last.form (changed last.form last.kept effect)) × IsInDoubt last effect (step.state_after last tapes e))
      → (end : Rebuilt) × IsReadBack to x end × IsHeld first tapes t0 journal' new b end (history ++ e ∷ [])

-- an append or a switch that failed before it counted, with the entry of the call that asked for it
pub record FailuresCarry (old new : Told) : Type 0 where
  pub before :
      (first : State) (tapes : List (List ℕ)) (t0 : ℕ) (journal journal' : JournalValue) (b after : Rebuilt) (history : List Entry) (e : Entry)
      → IsLater old new → IsHeld first tapes t0 journal old b after history → (step.after first tapes history).doubt ≡ None
      → Undoes journal journal' old new
      → e.ack ≡ new.calls
      → (let last = step.after first tapes history in KeepsDurable last (step.state_after last tapes e))
      → IsHeld first tapes t0 journal' new b b (history ++ e ∷ [])

-- a landing
pub record LandingsCarry (old new : Told) : Type 0 where
  -- what was in doubt is done
  pub ok :
      (first : State) (tapes : List (List ℕ)) (t0 : ℕ) (journal journal' : JournalValue) (b after : Rebuilt) (history : List Entry) (pending : Pending)
      → IsLater old new → IsHeld first tapes t0 journal old b after history → (step.after first tapes history).doubt ≡ Some pending
      → Lands journal journal' old new → LandsWithin journal old new
      → IsHeld first tapes t0 journal' new after after (history ++ landing_at new.calls ∷ [])
  -- it is in doubt as before
  pub failed :
      (first : State) (tapes : List (List ℕ)) (t0 : ℕ) (journal journal' : JournalValue) (b after : Rebuilt) (history : List Entry) (pending : Pending)
      → IsLater old new → IsHeld first tapes t0 journal old b after history → (step.after first tapes history).doubt ≡ Some pending
      → StaysInDoubt journal journal' old new → LandsWithin journal old new
      → IsHeld first tapes t0 journal' new b after history
