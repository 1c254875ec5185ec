-- What a promotion does, as its clauses tell the caller.
--     Goes most old new      the counts of a disk after at most so many calls
--     room shape      the bytes that records may take in an area
--     IsFull journal parts need left      an area has no room for the base
--     IsOfDevice e      the device failed in the switch
--     Refuses s result, JudgesPromotion s result      when each refusal comes
--     has_all first from taken doubt, MayBeMirror, WasMirror      what the mirror has with what is in doubt;  it is the mirror with it or without;  it is a mirror with at least so many changes
--     PromotesAs first from t0 taken doubt disk result      what the disk is after a promotion, and within it
--     IsTurned had old new result      what the disk is after a switch to the base, and within it
use Rattle.std.specs.Prelude.{◌≡◌, ◌⊎◌, ◌↔◌, ℕ, ◌+◌, ◌-◌, ◌^◌, ◌<◌, ◌≤◌, List, length, Option, IsSome, Result, Err, OnOk, IfErr, IsErrOf}
use Rattle.voice_model.specs.Samples.{Tagged}
use Rattle.voice_model.specs.State.{Durable, Effect}
use Rattle.voice_units.specs.declared.shapes.Shape.{Shape}
use Rattle.voice_outside.specs.Disk.{Told, Now, Leaves}
use Rattle.voice_journal.specs.Places.{JournalValue}
use Rattle.recovery.specs.declared.parts.Parts.{Parts}
use Rattle.mirror_tables.specs.Numbered.{plain_size}
use Rattle.mirror_readings.specs.Readings.{Mirrored}
use Rattle.mirror_laws.specs.Standing.{Took, kept_after, with_doubt, moment_of, mirrored_after}
use Rattle.mirror_laws.specs.Promotion.{IsMirror, IsPlain, IsEither}
use Rattle.voice_mirror.specs.declared.promoting.PromoteError.{PromoteError}
use Rattle.voice_mirror.specs.declared.promoting.PromoteError.TheVariants.{EpochSpent, JournalFull, DiskFault, InDoubt}
use Rattle.voice_mirror.specs.Shown.{MirrorState}
use Rattle.voice_mirror.specs.Taking.{settled}

-- the counts of a disk after at most so many calls
pub record Goes (most : ℕ) (old new : Told) : Type 0 where
  pub size : new.size ≡ old.size
  pub honest : new.honest ≡ old.honest
  pub later : old.calls ≤ new.calls
  pub calls : new.calls ≤ old.calls + most
  pub faults : old.faults ≤ new.faults

-- the bytes that records may take in an area, behind its head and before the gate of the next one
abbrev pub room : Shape → ℕ
room shape = shape.area - 17

-- there is a further epoch, and an area has no room for the base
pub record IsFull (journal : JournalValue) (parts : Parts) (need left : ℕ) : Type 0 where
  pub epoch : journal.seat.epoch < 2 ^ 48
  pub long : left < need
  pub need_is : need ≡ plain_size parts
  pub left_is : left ≡ room journal.shape

-- the device failed in the switch
abbrev pub IsOfDevice : PromoteError → Type 0
IsOfDevice e = (e ≡ DiskFault) ⊎ (e ≡ InDoubt)

-- what the disk is after a switch to the plain base of what a mirror has, and what a crash within it leaves
pub record IsTurned {T : Type 0} (had : Mirrored) (old new : Told) (result : Result T PromoteError) : Type 0 where
  pub ok : OnOk result (Now new (IsPlain had.kept))
  pub before : IsErrOf result DiskFault → Now new (IsMirror had)
  pub doubt : IsErrOf result InDoubt → Now new (IsEither had)
  pub crash : Leaves old new (IsEither had)

-- when a switch is refused, by what the mirror keeps
pub record Refuses {T : Type 0} (s : MirrorState) (result : Result T PromoteError) : Type 0 where
  pub spent : IsErrOf result EpochSpent ↔ (s.journal.seat.epoch ≡ 2 ^ 48)
  pub full : (need left : ℕ) → (result ≡ Err (JournalFull need left)) ↔ IsFull s.journal s.parts need left

-- a landing failed; or it was done, or nothing was in doubt, and then the switch is refused or not
abbrev pub JudgesPromotion : {T : Type 0} → MirrorState → Result T PromoteError → Type 0
JudgesPromotion s result = (IsSome s.pending × IsErrOf result DiskFault) ⊎ Refuses (settled s) result

-- what the mirror has once what is in doubt has landed
abbrev pub has_all : Durable Tagged → ℕ → List Took → Option (Effect Tagged) → Mirrored
has_all first from taken doubt = record { kept = kept_after first (with_doubt doubt taken); position = from + length (with_doubt doubt taken) }

-- the image is that of the mirror, with what is in doubt or without it
abbrev pub MayBeMirror : Durable Tagged → ℕ → List Took → Option (Effect Tagged) → List ℕ → Type 0
MayBeMirror first from taken doubt image = (j : ℕ) × (length taken ≤ j) × (j ≤ length (with_doubt doubt taken)) × IsMirror (mirrored_after first from (with_doubt doubt taken) j) image

-- it is a mirror that has at least the first k changes
abbrev pub WasMirror : Durable Tagged → ℕ → List Took → Option (Effect Tagged) → ℕ → List ℕ → Type 0
WasMirror first from taken doubt k image = (j : ℕ) × (k ≤ j) × (j ≤ length (with_doubt doubt taken)) × IsMirror (mirrored_after first from (with_doubt doubt taken) j) image

-- what the disk of a mirror is after a promotion, and what a crash leaves of it
pub record PromotesAs {T : Type 0} (first : Durable Tagged) (from t0 : ℕ) (taken : List Took) (doubt : Option (Effect Tagged)) (disk : Told) (result : Result T PromoteError) : Type 0 where
  -- a voice disk with what the mirror had
  pub ok : OnOk result (Now disk (IsPlain (has_all first from taken doubt).kept))
  -- the mirror
  pub refused : IfErr result (λ e. ¬ (e ≡ InDoubt) → Now disk (MayBeMirror first from taken doubt))
  -- the one or the other
  pub unsure : IsErrOf result InDoubt → Now disk (IsEither (has_all first from taken doubt))
  -- since a change was taken each crash left a mirror that has it, or the voice disk
  pub crash : (k : ℕ) (image : List ℕ) → k ≤ length taken → disk.may_leave (moment_of t0 taken k) image → WasMirror first from taken doubt k image ⊎ IsPlain (has_all first from taken doubt).kept image
