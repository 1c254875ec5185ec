-- What a command sees outside, and leaves there.
--     Outside      the shelf, the sink and the disk at one moment
--     ShelfFaulted, SinkFaulted, DiskFaulted      a fault rose between two moments
--     IsUnchanged old new      an honest disk was only looked at, or not touched
use Rattle.std.specs.Prelude.{ℕ, List, Option, ◌⊎◌, IsTrue}
use Rattle.voice_outside.specs.Counters.{HasRisen}
use Rattle.voice_outside.specs.Disk.{Told}
use Rattle.voice_outside.specs.Files.{Files}
use Rattle.listening.specs.Looks.{OnlyLooked}

-- the shelf's files and faults, the sink's contents, faults and empty takes, and what the disk tells
pub record Outside : Type 1 where
  pub files : Option Files
  pub shelf_faults : ℕ
  pub contents : Option (List ℕ)
  pub sink_faults : ℕ
  pub empty_takes : ℕ
  pub disk : Told

abbrev pub outside : Option Files → ℕ → Option (List ℕ) → ℕ → ℕ → Told → Outside
outside files shelf_faults contents sink_faults empty_takes disk =
    record { files = files; shelf_faults = shelf_faults; contents = contents; sink_faults = sink_faults; empty_takes = empty_takes; disk = disk }

abbrev pub ShelfFaulted : Outside → Outside → Type 0
ShelfFaulted old new = HasRisen old.shelf_faults new.shelf_faults

abbrev pub SinkFaulted : Outside → Outside → Type 0
SinkFaulted old new = HasRisen old.sink_faults new.sink_faults ⊎ HasRisen old.empty_takes new.empty_takes

abbrev pub DiskFaulted : Outside → Outside → Type 0
DiskFaulted old new = HasRisen old.disk.faults new.disk.faults

-- an honest disk was only looked at, or not touched
abbrev pub IsUnchanged : Told → Told → Type 0
IsUnchanged old new = IsTrue old.honest → OnlyLooked old new
