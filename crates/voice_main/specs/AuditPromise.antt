-- What `audit` answers and leaves.
--     AuditComes      when each status comes
--     AuditExact      what the disk's bytes decide comes, but for faults and want of memory
--     AuditComplete      where the bytes are read and no count rose, the audit is printed, or memory was wanted
--     audit_text bytes      the text of an image, nothing where it has damage
--     AuditPromise old new status history      all of it
use Rattle.std.specs.Prelude.{ℕ, List, [], ◌++◌, ◌≡◌, ◌⊎◌, Some, IfSome, IsTrue, take, unwrap_or}
use Rattle.voice_outside.specs.Disk.{Told}
use Rattle.voice_model.specs.declared.calls.Entry.{Entry}
use Rattle.voice_model.specs.Image as image
use Rattle.listening.specs.Looks.{Looked}
use Rattle.voice_audit.specs.Audit.{audit_of}
use Rattle.voice_main.specs.declared.status.Status.{Status}
use Rattle.voice_main.specs.declared.status.Status.TheVariants.{Done, SinkFault, BadDisk, DiskFault, NoMemory}
use Rattle.voice_main.specs.Outside.{Outside, SinkFaulted, DiskFaulted}
use Rattle.voice_main.specs.RunPromise.{IsDamaged, IsRead, IsOr}

-- when each status comes
abbrev pub AuditComes : Outside → Outside → Status → Type 0
AuditComes old new Done = Unit {0}
AuditComes old new SinkFault = SinkFaulted old new
AuditComes old new (BadDisk place) = IsDamaged old.disk place
AuditComes old new DiskFault = DiskFaulted old new
AuditComes old new NoMemory = Unit {0}
AuditComes old new _ = ⊥

-- what the disk's bytes decide comes, but for faults and want of memory
pub record AuditExact (disk : Told) (status : Status) : Type 0 where
  pub bad_disk : (place : ℕ) → IsTrue disk.honest → image.reading disk.bytes ≡ image.Reading.Bad place → (status ≡ DiskFault) ⊎ IsOr (BadDisk place) status
  pub good_disk : IsTrue disk.honest → IsRead disk → (status ≡ SinkFault) ⊎ (status ≡ DiskFault) ⊎ IsOr Done status

-- where the disk's bytes are read, no count of faults rose and the sink took a byte of each piece, the audit is printed, or memory was wanted
abbrev pub AuditComplete : Outside → Outside → Status → Type 0
AuditComplete old new status = IsTrue old.disk.honest → IsRead old.disk → (SinkFaulted old new → ⊥) → (DiskFaulted old new → ⊥) → (status ≡ Done) ⊎ (status ≡ NoMemory)

-- the text of an image, nothing where it has damage
abbrev pub audit_text : List ℕ → List ℕ
audit_text bytes = unwrap_or (audit_of bytes) []

pub record AuditPromise (old new : Outside) (status : Status) (history : List Entry) : Type 0 where
  pub comes : AuditComes old new status
  pub exact : AuditExact old.disk status
  pub complete : AuditComplete old new status
  -- an audit that is done printed the text of the bytes that the disk read as, and nothing else
  pub done : status ≡ Done → IsTrue old.disk.honest → IfSome old.contents (λ had. (text : List ℕ) × (audit_of old.disk.bytes ≡ Some text) × (new.contents ≡ Some (had ++ text)))
  -- whatever the status is, the sink took a front of a text, which is that one where the disk is honest
  pub prefix : IfSome old.contents (λ had. (text : List ℕ) × (n : ℕ) × (IsTrue old.disk.honest → text ≡ audit_text old.disk.bytes) × (new.contents ≡ Some (had ++ take n text)))
  -- it makes no call, sets no file, and only looks at the disk, by at most 5 device calls
  pub silent : history ≡ []
  pub files : new.files ≡ old.files
  pub disk : Looked 5 old.disk new.disk
