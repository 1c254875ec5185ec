-- What packets bring to the disk of a mirror that is opened for them.
--     IsNoMirrorAt disk place      an honest disk's bytes are no mirror's, and that is the place of the damage
--     IsOfMirror disk      the disk's bytes are a mirror's
--     AreOfList packets bytes start effects j      packets out of a legal list, of whose changes the mirror had the first j
--     KeepsFronts packets old new      what a crash leaves then, at every moment since the opening
--     EndsWith packets position old new      what it leaves at the end
--     IsServed packets answers position old new      one answer for each packet
--     Tells packets text old new      the text that tells them
--     Stays packets old new      what becomes of the disk, whatever the end is
--     GoesOn old new      the counts of the disk behind it
--     block_of reading      the samples of a block of a mirror
--     IsBounded packets old new      the most device calls on an honest disk
--     ServesFronts, IsTold      what serving keeps of a list, and what a text tells of it, between two moments of an open mirror
use Rattle.std.specs.Prelude.{◌≡◌, ◌⊎◌, ℕ, ◌+◌, ◌≤◌, List, length, Some, IsTrue}
use Rattle.voice_outside.specs.Disk.{Told, Now}
use Rattle.voice_journal.specs.Looks.{Looks, Since}
use Rattle.voice_model.specs.Samples.{Tagged}
use Rattle.voice_model.specs.State.{Durable, Effect}
use Rattle.mirror_packets.specs.Packets.{Packet}
use Rattle.mirror_readings.specs.Readings.{MirrorReading, mirror_reading, Mirrored, mirrored_from}
use Rattle.mirror_laws.specs.Standing.{mirrored_after}
use Rattle.mirror_effects.specs.Fronts.{AreLegal, AreOutOf}
use Rattle.voice_mirror.specs.declared.answers.Taken.{Taken}
use Rattle.voice_mirror.specs.Shown.{MirrorState, IsRead}
use Rattle.voice_mirror.specs.Serving.{Serves, AreHeld, HaveRisen, HasFront, IsFrontOf, packets_calls}
use Rattle.mirror_commands.specs.Texts.{mirror_text}

-- ---- the disk

-- the bytes of an honest disk are no mirror's, and that is the place of the damage
abbrev pub IsNoMirrorAt : Told → ℕ → Type 0
IsNoMirrorAt disk place = IsTrue disk.honest → mirror_reading disk.bytes ≡ MirrorReading.Bad place

-- the disk's bytes are a mirror's
pub record IsOfMirror (disk : Told) : Type 0 where
  pub had : Mirrored
  pub mirrored : mirrored_from disk.bytes ≡ Some had

-- ---- packets out of a legal list

-- the packets are out of a legal list, in any order, any of them more than once or not at all, and the mirror had its first j changes
pub record AreOfList (packets : List Packet) (bytes : List ℕ) (start : Durable Tagged) (effects : List (Effect Tagged)) (j : ℕ) : Type 0 where
  pub legal : AreLegal start effects
  pub out_of : AreOutOf effects packets
  pub within : j ≤ length effects
  pub had : mirrored_from bytes ≡ Some (mirrored_after start 0 effects j)

-- then each image that a crash leaves, at every moment since the opening, is a front of the list that holds what the mirror had, byte for byte
abbrev pub KeepsFronts : List Packet → Told → Told → Type 0
KeepsFronts packets old new =
    (start : Durable Tagged) (effects : List (Effect Tagged)) (j : ℕ) → AreOfList packets old.bytes start effects j → Since (old.calls + 2) new (IsFrontOf start effects j)

-- and at the end one that has the position
abbrev pub EndsWith : List Packet → ℕ → Told → Told → Type 0
EndsWith packets position old new =
    (start : Durable Tagged) (effects : List (Effect Tagged)) (j : ℕ) → AreOfList packets old.bytes start effects j → Now new (IsFrontOf start effects position)

-- ---- what became of them

-- the packets were taken in order by a mirror that is what the bytes mean, with one answer for each; that is the position behind them
pub record IsServed (packets : List Packet) (answers : List Taken) (position : ℕ) (old new : Told) : Type 0 where
  pub first : MirrorState
  pub last : MirrorState
  pub read : IsTrue old.honest → IsRead old.bytes first
  pub serves : Serves first packets answers last
  pub position_is : position ≡ last.position
  -- what was taken, now or before, the position has
  pub held : AreHeld packets answers position
  pub faults : HaveRisen answers old.faults new.faults
  pub fronts : IsTrue old.honest → KeepsFronts packets old new
  pub ended : IsTrue old.honest → EndsWith packets position old new

-- and a text tells them
pub record Tells (packets : List Packet) (text : List ℕ) (old new : Told) : Type 0 where
  pub answers : List Taken
  pub position : ℕ
  pub served : IsServed packets answers position old new
  pub text_is : text ≡ mirror_text packets answers position

-- whatever the end is: an honest disk was only looked at, or a crash leaves fronts of a list that the packets are out of
abbrev pub Stays : List Packet → Told → Told → Type 0
Stays packets old new = IsTrue old.honest → Looks 6 old new ⊎ KeepsFronts packets old new

-- the counts of the disk behind it
pub record GoesOn (old new : Told) : Type 0 where
  pub size : new.size ≡ old.size
  pub honest : new.honest ≡ old.honest
  pub later : old.calls ≤ new.calls
  pub faults : old.faults ≤ new.faults

-- the samples of a block of the mirror that the bytes are, 0 where they are none's
abbrev pub block_of : MirrorReading → ℕ
block_of (MirrorReading.Bad place) = 0
block_of (MirrorReading.Reads journal b position) = journal.shape.block

-- at most six device calls that open an honest disk, and those of each packet
abbrev pub IsBounded : List Packet → Told → Told → Type 0
IsBounded packets old new = IsTrue old.honest → new.calls ≤ old.calls + (6 + packets_calls (block_of (mirror_reading old.bytes)) packets)

-- ---- an open mirror

-- packets out of a legal list leave a front of it
abbrev pub ServesFronts : List Packet → Told → Told → MirrorState → MirrorState → Type 0
ServesFronts packets old new s t =
    IsTrue old.honest → (start : Durable Tagged) (effects : List (Effect Tagged)) (first : Durable Tagged) (from t0 : ℕ) → AreLegal start effects → AreOutOf effects packets → HasFront start effects first from t0 old s → HasFront start effects first from t0 new t

-- a text tells what became of packets
pub record IsTold (packets : List Packet) (text : List ℕ) (old new : Told) (s t : MirrorState) : Type 0 where
  pub answers : List Taken
  pub serves : Serves s packets answers t
  pub held : AreHeld packets answers t.position
  pub faults : HaveRisen answers old.faults new.faults
  pub text_is : text ≡ mirror_text packets answers t.position
