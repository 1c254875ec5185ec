-- What becomes of the disk of a mirror that is opened and promoted.
--     base_size b      the bytes of the plain base as records
--     verdict_of reading      what the disk's bytes decide
--     IsDecided verdict result      it comes, but for faults and want of memory
--     IsOfDevice e      the device failed
--     HasTurned had old new result      what the disk is then, and within it
--     Promotes old new result      all of it
--     unopened_of e, refused_of e      why a mirror was not opened, or not promoted
use Rattle.std.specs.Prelude.{◌≡◌, ◌⊎◌, ℕ, ◌+◌, ◌^◌, ◌==◌, cond, nat_lt, map, Option, Some, None, Result, IsTrue, IsErrOf, IsOk, IfErr, OnOk}
use Rattle.voice_outside.specs.Counters.{HasRisen}
use Rattle.voice_outside.specs.Disk.{Told, Now}
use Rattle.voice_journal.specs.Looks.{Looks, Since}
use Rattle.voice_journal.specs.Readings.{framed_size}
use Rattle.voice_model.specs.Spelling.{spelling}
use Rattle.voice_model.specs.Base.{base_of}
use Rattle.voice_model.specs.Replay.{Rebuilt}
use Rattle.mirror_readings.specs.Readings.{MirrorReading, mirror_reading, Mirrored, mirrored_from}
use Rattle.mirror_laws.specs.Promotion.{IsMirror, IsPlain, IsEither}
use Rattle.voice_mirror.specs.Promoting.{room}
use Rattle.voice_mirror.specs.declared.promoting.PromoteError.{PromoteError}
use Rattle.voice_mirror.specs.declared.promoting.PromoteError.TheVariants as mirrors
use Rattle.voice_journal.specs.declared.errors.OpenError.{OpenError}
use Rattle.voice_journal.specs.declared.errors.OpenError.TheVariants as opening
use Rattle.mirror_commands.specs.declared.promoting.Refusal.{Refusal}
use Rattle.mirror_commands.specs.declared.promoting.Refusal.TheVariants.{BadDisk, EpochSpent, JournalFull, DiskFault, InDoubt, NoMemory}

-- the bytes of the base without numbers as records
abbrev pub base_size : Rebuilt → ℕ
base_size b = framed_size (map spelling (base_of 2 b))

-- what the disk's bytes decide: it is no mirror's, no epoch is left, an area has no room for the base, or nothing hinders
abbrev pub verdict_of : MirrorReading → Option Refusal
verdict_of (MirrorReading.Bad place) = Some (BadDisk place)
verdict_of (MirrorReading.Reads journal b position) =
    cond (journal.epoch == 2 ^ 48) (Some EpochSpent) (cond (nat_lt (room journal.shape) (base_size b)) (Some (JournalFull (base_size b) (room journal.shape))) None)

-- the device failed
abbrev pub IsOfDevice : Refusal → Type 0
IsOfDevice e = (e ≡ DiskFault) ⊎ (e ≡ InDoubt)

-- what is decided comes, but for faults and want of memory
abbrev pub IsDecided : {T : Type 0} → Option Refusal → Result T Refusal → Type 0
IsDecided (Some e) result = IsErrOf result e ⊎ (IsErrOf result DiskFault ⊎ IsErrOf result NoMemory)
IsDecided None result = IsOk result ⊎ (IsErrOf result DiskFault ⊎ (IsErrOf result InDoubt ⊎ IsErrOf result NoMemory))

-- what a mirror's disk is then, and what a crash since the opening leaves
pub record HasTurned {T : Type 0} (had : Mirrored) (old new : Told) (result : Result T Refusal) : Type 0 where
  -- a voice disk with what the mirror had
  pub ok : OnOk result (Now new (IsPlain had.kept))
  -- the mirror
  pub refused : IfErr result (λ e. ¬ (e ≡ InDoubt) → Now new (IsMirror had))
  -- the one or the other
  pub unsure : IsErrOf result InDoubt → Now new (IsEither had)
  pub crash : Since (old.calls + 2) new (IsEither had)

-- the disk was not opened as a mirror's, and was only looked at; or it was
abbrev pub Turns : {T : Type 0} → Mirrored → Told → Told → Result T Refusal → Type 0
Turns had old new result = ((IsErrOf result DiskFault ⊎ IsErrOf result NoMemory) × Looks 6 old new) ⊎ HasTurned had old new result

-- all of it
pub record Promotes {T : Type 0} (old new : Told) (result : Result T Refusal) : Type 0 where
  pub decided : IsTrue old.honest → IsDecided (verdict_of (mirror_reading old.bytes)) result
  pub turns : IsTrue old.honest → (had : Mirrored) → mirrored_from old.bytes ≡ Some had → Turns had old new result
  -- where it is refused and the device did not fail, the disk was only looked at
  pub looked : IsTrue old.honest → IfErr result (λ e. ¬ IsOfDevice e → Looks 6 old new)
  pub fault : IfErr result (λ e. IsOfDevice e → HasRisen old.faults new.faults)

-- why a mirror was not opened
abbrev pub unopened_of : OpenError → Refusal
unopened_of (opening.BadDisk place) = BadDisk place
unopened_of opening.DiskFault = DiskFault
unopened_of opening.NoMemory = NoMemory

-- why it was not promoted
abbrev pub refused_of : PromoteError → Refusal
refused_of mirrors.EpochSpent = EpochSpent
refused_of (mirrors.JournalFull need left) = JournalFull need left
refused_of mirrors.DiskFault = DiskFault
refused_of mirrors.InDoubt = InDoubt
refused_of mirrors.NoMemory = NoMemory
