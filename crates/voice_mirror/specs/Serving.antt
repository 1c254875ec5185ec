-- What becomes of packets, one after another.
--     IsShown s      the tables show what there is once what is in doubt has landed
--     Serves s packets answers t      one answer for each, by the state that those before it left
--     IsTaken answer, AreHeld packets answers position      a packet was taken;  the position has all that were
--     device_answers answers, HaveRisen answers old new      how many are faults of the device;  the count of faults rose by as many at least, or stands at its last value
--     packets_calls block packets      the most device calls of packets
--     StopsWithin s packets t      memory was wanted behind some of the packets
--     HasFront start effects first from t0 disk s      the mirror has a front of a list of changes
--     IsFrontOf start effects least image      the image is that of a mirror with a front of at least so many changes
use Rattle.std.specs.Prelude.{◌≡◌, ◌⊎◌, ℕ, ◌+◌, ◌-◌, ◌^◌, ◌<◌, ◌≤◌, List, [], ◌∷◌, length, take, Option, Some}
use Rattle.voice_outside.specs.Disk.{Told}
use Rattle.voice_model.specs.Samples.{Tagged}
use Rattle.voice_model.specs.State.{Durable, Effect}
use Rattle.recovery.specs.Shown.{IsParts}
use Rattle.mirror_packets.specs.Packets.{Packet}
use Rattle.mirror_readings.specs.Readings.{mirrored_from}
use Rattle.mirror_laws.specs.Standing.{Took, with_doubt, mirrored_after}
use Rattle.mirror_effects.specs.Fronts.{IsFront}
use Rattle.voice_mirror.specs.declared.answers.Taken.{Taken}
use Rattle.voice_mirror.specs.declared.answers.Taken.TheVariants.{Done, Again, Early, Strange, NoRoom, JournalFull, DiskFault, InDoubt}
use Rattle.voice_mirror.specs.Shown.{MirrorState, Keeps}
use Rattle.voice_mirror.specs.Taking.{settled, packet_calls, Judges}

-- the tables show what there is once what is in doubt has landed, of the journal's shape
abbrev pub IsShown : MirrorState → Type 0
IsShown s = IsParts (settled s).journal.shape (settled s).parts

-- one answer for each packet, each by the state that the packets before it left
abbrev pub Serves : MirrorState → List Packet → List Taken → MirrorState → Type 0
Serves s [] [] t = t ≡ s
Serves s [] (answer ∷ answers) t = ⊥
Serves s (packet ∷ packets) [] t = ⊥
Serves s (packet ∷ packets) (answer ∷ answers) t = (m : MirrorState) × IsShown m × Judges s packet answer m × Serves m packets answers t

-- a packet was taken, now or before
abbrev pub IsTaken : Taken → Type 0
IsTaken answer = (answer ≡ Done) ⊎ (answer ≡ Again)

-- the numbers of all packets that were taken are at most the position
abbrev pub AreHeld : List Packet → List Taken → ℕ → Type 0
AreHeld [] answers position = Unit {0}
AreHeld (packet ∷ packets) [] position = Unit {0}
AreHeld (packet ∷ packets) (answer ∷ answers) position = (IsTaken answer → packet.number ≤ position) × AreHeld packets answers position

-- how many answers are faults of the device
abbrev pub of_device : Taken → ℕ
of_device Done = 0
of_device Again = 0
of_device (Early position) = 0
of_device Strange = 0
of_device (NoRoom need free) = 0
of_device (JournalFull need left) = 0
of_device DiskFault = 1
of_device InDoubt = 1

abbrev pub device_answers : List Taken → ℕ
device_answers [] = 0
device_answers (answer ∷ answers) = of_device answer + device_answers answers

-- the count of faults rose by as many at least, or stands at its last value
abbrev pub HaveRisen : List Taken → ℕ → ℕ → Type 0
HaveRisen answers old new = new < 2 ^ 64 - 1 → old + device_answers answers ≤ new

-- the most device calls of packets
abbrev pub packets_calls : ℕ → List Packet → ℕ
packets_calls block [] = 0
packets_calls block (packet ∷ packets) = packet_calls block packet + packets_calls block packets

-- memory was wanted behind some of the packets: those were taken, and besides at most what was in doubt has landed
pub record StopsWithin (s : MirrorState) (packets : List Packet) (t : MirrorState) : Type 0 where
  pub count : ℕ
  pub answers : List Taken
  pub last : MirrorState
  pub serves : Serves s (take count packets) answers last
  pub stands : (t ≡ last) ⊎ (t ≡ settled last)

-- what the mirror has is what the first changes of a list make of `start`, and the change in doubt is the next one; of these it had those up to a position at t0, which made `first`
pub record HasFront (start : Durable Tagged) (effects : List (Effect Tagged)) (first : Durable Tagged) (from t0 : ℕ) (disk : Told) (s : MirrorState) : Type 0 where
  pub taken : List Took
  pub doubt : Option (Effect Tagged)
  pub keeps : Keeps first from t0 taken doubt disk s
  pub front : IsFront start effects first from (with_doubt doubt taken)

-- the image is that of a mirror that has just the first changes of the list, at least so many, byte for byte
pub record IsFrontOf (start : Durable Tagged) (effects : List (Effect Tagged)) (least : ℕ) (image : List ℕ) : Type 0 where
  pub count : ℕ
  pub least_of : least ≤ count
  pub most : count ≤ length effects
  pub is : mirrored_from image ≡ Some (mirrored_after start 0 effects count)
