-- What `mirror FILE` answers and leaves.
--     HasPackets, HaveSome, HasBadPackets      what the file says
--     Gains, GainsPart      the sink gained a text;  or a front of it
--     FedStatus, FedText      when each status comes once the packets are read;  what stands of the text then
--     Fed packets old new status      what came of packets that were read
--     MirrorTold, MirrorKeeps, MirrorCalls      the file's packets were all taken, and what the sink gained of the text;  what a crash leaves;  the most device calls
--     MirrorComes      when each status comes
--     MirrorExact      what the file and the disk's bytes decide comes, but for faults and want of memory
--     MirrorComplete      where all is there and no count rose, all is told, or memory was wanted
--     MirrorPromise file old new status history      all of it
use Rattle.std.specs.Prelude.{ℕ, List, [], ◌++◌, ◌≡◌, ◌⊎◌, Option, Some, None, IfSome, IsTrue, take}
use Rattle.std.specs.FinMap.{get}
use Rattle.voice_outside.specs.Disk.{Told}
use Rattle.voice_outside.specs.Files.{Files}
use Rattle.listening.specs.Looks.{OnlyLooked}
use Rattle.voice_model.specs.declared.calls.Entry.{Entry}
use Rattle.mirror_packets.specs.Packets as packing
use Rattle.mirror_packets.specs.Packets.{Packet, AreSpelled, reading_of}
use Rattle.mirror_readings.specs.Readings.{MirrorReading, mirror_reading}
use Rattle.mirror_commands.specs.Feeding.{IsNoMirrorAt, IsOfMirror, KeepsFronts, Tells, IsBounded}
use Rattle.voice_main.specs.declared.status.Status.{Status}
use Rattle.voice_main.specs.declared.status.Status.TheVariants.{Done, NoFile, ShelfFault, SinkFault, BadDisk, DiskFault, NoMemory, BadPackets}
use Rattle.voice_main.specs.Outside.{Outside, ShelfFaulted, SinkFaulted, DiskFaulted}
use Rattle.voice_main.specs.RunPromise.{IsOr}

-- ---- the file

-- it is there and spells these packets
pub record HasPackets (files : Files) (file : List ℕ) (packets : List Packet) : Type 0 where
  pub bytes : List ℕ
  pub found : get files file ≡ Some bytes
  pub spelled : AreSpelled bytes packets
  pub read : reading_of bytes ≡ packing.Reading.Packets packets

-- it spells some
pub record HaveSome (files : Files) (file : List ℕ) : Type 0 where
  pub packets : List Packet
  pub there : HasPackets files file packets

-- it is there, and at that byte the first packet begins that is not good
pub record HasBadPackets (files : Files) (file : List ℕ) (place : ℕ) : Type 0 where
  pub bytes : List ℕ
  pub found : get files file ≡ Some bytes
  pub bad : reading_of bytes ≡ packing.Reading.Bad place

-- ---- the text

-- the sink gained a text
abbrev pub Gains : Option (List ℕ) → Option (List ℕ) → List ℕ → Type 0
Gains had now text = IfSome had (λ before. now ≡ Some (before ++ text))

-- or a front of it
abbrev pub GainsPart : Option (List ℕ) → Option (List ℕ) → List ℕ → Type 0
GainsPart had now text = IfSome had (λ before. (n : ℕ) × (now ≡ Some (before ++ take n text)))

-- ---- packets that were read

-- when each status comes
abbrev pub FedStatus : Outside → Outside → Status → Type 0
FedStatus old new Done = Unit {0}
FedStatus old new SinkFault = SinkFaulted old new
FedStatus old new (BadDisk place) = IsNoMirrorAt old.disk place
FedStatus old new DiskFault = DiskFaulted old new
FedStatus old new NoMemory = Unit {0}
FedStatus old new _ = ⊥

-- a text tells what became of them, and this the sink gained of it
pub record TellsSo (packets : List Packet) (gained : List ℕ → Type 0) (old new : Told) : Type 0 where
  pub text : List ℕ
  pub tells : Tells packets text old new
  pub gains : gained text

-- what stands of the text, by the status: the whole, a front of it, or nothing
abbrev pub FedText : List Packet → Outside → Outside → Status → Type 0
FedText packets old new Done = TellsSo packets (Gains old.contents new.contents) old.disk new.disk
FedText packets old new SinkFault = TellsSo packets (GainsPart old.contents new.contents) old.disk new.disk
FedText packets old new NoMemory = (new.contents ≡ old.contents) ⊎ TellsSo packets (GainsPart old.contents new.contents) old.disk new.disk
FedText packets old new status = new.contents ≡ old.contents

-- what came of packets that were read
pub record Fed (packets : List Packet) (old new : Outside) (status : Status) : Type 0 where
  pub which : FedStatus old new status
  pub text : FedText packets old new status
  -- whatever the status is: an honest disk was only looked at, or a crash leaves fronts of a list that the packets are out of
  pub keeps : IsTrue old.disk.honest → OnlyLooked old.disk new.disk ⊎ KeepsFronts packets old.disk new.disk
  pub damaged : IsTrue old.disk.honest → (place : ℕ) → mirror_reading old.disk.bytes ≡ MirrorReading.Bad place → (status ≡ DiskFault) ⊎ IsOr (BadDisk place) status

-- ---- the promise

-- the file's packets were all taken, and this the sink gained of the text
pub record MirrorTold (files : Files) (file : List ℕ) (gained : List ℕ → Type 0) (old new : Told) : Type 0 where
  pub packets : List Packet
  pub there : HasPackets files file packets
  pub told : TellsSo packets gained old new

-- what a crash leaves of a list that they are out of
pub record MirrorKeeps (files : Files) (file : List ℕ) (old new : Told) : Type 0 where
  pub packets : List Packet
  pub there : HasPackets files file packets
  pub fronts : KeepsFronts packets old new

-- the most device calls that they take
pub record MirrorCalls (files : Files) (file : List ℕ) (old new : Told) : Type 0 where
  pub packets : List Packet
  pub there : HasPackets files file packets
  pub bounded : IsBounded packets old new

-- when each status comes
abbrev pub MirrorComes : List ℕ → Outside → Outside → Status → Type 0
MirrorComes file old new Done = IfSome old.files (λ files. MirrorTold files file (Gains old.contents new.contents) old.disk new.disk)
MirrorComes file old new SinkFault = SinkFaulted old new × IfSome old.files (λ files. MirrorTold files file (GainsPart old.contents new.contents) old.disk new.disk)
MirrorComes file old new (NoFile missing) = IfSome old.files (λ files. (missing ≡ file) × (get files file ≡ None))
MirrorComes file old new (BadPackets place) = IfSome old.files (λ files. HasBadPackets files file place)
MirrorComes file old new ShelfFault = ShelfFaulted old new
MirrorComes file old new (BadDisk place) = IsNoMirrorAt old.disk place × IfSome old.files (λ files. HaveSome files file)
MirrorComes file old new DiskFault = DiskFaulted old new × IfSome old.files (λ files. HaveSome files file)
MirrorComes file old new NoMemory = Unit {0}
MirrorComes file old new _ = ⊥

-- what the file and the disk's bytes decide comes, but for faults and want of memory
pub record MirrorExact (files : Files) (file : List ℕ) (disk : Told) (status : Status) : Type 0 where
  pub no_file : get files file ≡ None → IsOr (NoFile file) status
  pub bad_packets : (place : ℕ) → HasBadPackets files file place → IsOr (BadPackets place) status
  pub bad_disk : (place : ℕ) → HaveSome files file → IsTrue disk.honest → mirror_reading disk.bytes ≡ MirrorReading.Bad place → (status ≡ DiskFault) ⊎ IsOr (BadDisk place) status
  pub good_disk : HaveSome files file → IsTrue disk.honest → IsOfMirror disk → (status ≡ SinkFault) ⊎ (status ≡ DiskFault) ⊎ IsOr Done status

-- where the packets are read, an honest disk is a mirror's and no count rose, all is told, or memory was wanted
abbrev pub MirrorComplete : Files → List ℕ → Outside → Outside → Status → Type 0
MirrorComplete files file old new status =
    HaveSome files file → IsTrue old.disk.honest → IsOfMirror old.disk → (ShelfFaulted old new → ⊥) → (SinkFaulted old new → ⊥) → (DiskFaulted old new → ⊥) → (status ≡ Done) ⊎ (status ≡ NoMemory)

pub record MirrorPromise (file : List ℕ) (old new : Outside) (status : Status) (history : List Entry) : Type 0 where
  pub comes : MirrorComes file old new status
  -- whatever the status is: an honest disk was only looked at, or a crash leaves fronts of a list that the packets are out of
  pub so_far : IsTrue old.disk.honest → OnlyLooked old.disk new.disk ⊎ IfSome old.files (λ files. MirrorKeeps files file old.disk new.disk)
  -- and the sink gained nothing, or a front of the text of one serve of all packets
  pub gained : (new.contents ≡ old.contents) ⊎ IfSome old.files (λ files. MirrorTold files file (GainsPart old.contents new.contents) old.disk new.disk)
  -- no device call was made, or at most those that open the disk and those of each packet of the file
  pub calls : (new.disk.calls ≡ old.disk.calls) ⊎ IfSome old.files (λ files. MirrorCalls files file old.disk new.disk)
  pub exact : IfSome old.files (λ files. MirrorExact files file old.disk status)
  pub complete : IfSome old.files (λ files. MirrorComplete files file old new status)
  -- it makes no call, and sets no file
  pub silent : history ≡ []
  pub files : new.files ≡ old.files
