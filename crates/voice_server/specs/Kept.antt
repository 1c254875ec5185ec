-- What holds of a store between turns.
--     IsKept told s      all that a store keeps, from the disk that it was opened on
use Rattle.std.specs.Prelude.{◌≡◌, List, Some, IsTrue}
use Rattle.voice_outside.specs.Disk.{Told}
use Rattle.voice_model.specs.State.{State}
use Rattle.voice_model.specs.Image.{opened_from}
use Rattle.voice_model.specs.declared.calls.Entry.{Entry}
use Rattle.voice_store.specs.Facts.{GoesOn}
use Rattle.voice_store.specs.Shown.{Shown, Keeps, tapes_in, pool_of}
use Rattle.voice_store.specs.Shown as shown
use Rattle.voice_server.specs.declared.born.Born.{Born}
use Rattle.voice_server.specs.declared.standing.Standing.{Standing}

-- all that a store keeps, from the disk that it was opened on: an honest disk was opened as what its bytes recover; the history is legal from there, on a disk that isn't honest but for the talk and peaks that were read off it, and held
pub record IsKept {D : Type 0} (told : D → Told) (s : Shown D) : Type 0 where
  pub first : State
  pub keeps : Keeps told first s
  pub opened : IsTrue (told s.origin).honest → opened_from (told s.origin).bytes ≡ Some first
  pub goes : GoesOn (told s.origin) (told s.disk)

module _ {D : Type 0} where
  abbrev pub history_of : Standing D → List Entry
  history_of s = shown.history_of s.store

  abbrev pub origin_of : Standing D → Born D
  origin_of s = record { disk = s.store.origin; tapes = tapes_in s.store; pool = pool_of s.store }
