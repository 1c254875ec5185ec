-- An audit keeps its promise.
use Rattle.std.proofs.Common.{◌≡◌, ℕ, ◌⊎◌, inl, inr, List, [], ◌++◌, take, Option, Some, None, refl, sym, ap, ◌∙◌, append-nil}
use Rattle.std.specs.Prelude.{IfSome, IsTrue, unwrap_or, option_map}
use Rattle.voice_outside.specs.Counters.{HasRisen}
use Rattle.voice_outside.specs.Disk.{Told}
use Rattle.voice_outside.specs.Files.{Files}
use Rattle.voice_journal.specs.Looks.{Looks}
use Rattle.voice_journal.specs.declared.errors.OpenError.{OpenError}
use Rattle.voice_journal.specs.declared.errors.OpenError.TheVariants as opening
use Rattle.voice_model.specs.Image as image
use Rattle.listening.specs.Looks.{Looked}
use Rattle.voice_audit.specs.Audit.{audit_of}
use Rattle.voice_audit.specs.Audit as audit
use Rattle.voice_main.specs.declared.status.Status.{Status}
use Rattle.voice_main.specs.declared.status.Status.TheVariants.{Done, Usage, BadShape, BadScript, NoFile, ShelfFault, SinkFault, BadDisk, DiskFault, NoMemory, BadAu, BadIndex, BadNote, TooManyKeys, BadPackets, JournalFull, InDoubt, EpochSpent}
use Rattle.voice_main.specs.Outside.{Outside, outside, SinkFaulted}
use Rattle.voice_main.specs.RunPromise.{IsOr}
use Rattle.voice_main.specs.Statuses.{Prints, open_status_of, IsEarly}
use Rattle.voice_main.specs.AuditPromise.{AuditComes, audit_text, AuditPromise}
use Rattle.voice_main.proofs.Exact.{one_place, read_not_bad}

-- ---- what was looked at

looked : (old new : Told) → Looks 5 old new → Looked 5 old new
looked old new looks = record {
  size = looks.size;
  honest = looks.honest;
  later = looks.later;
  calls = looks.calls;
  faults = looks.faults;
  looks = λ honest. let still = looks.still honest in record { bytes = still.bytes; now = still.now; crash = still.crash };
}

-- an image that has a text has no damage
told_not_bad : (bytes text : List ℕ) (place : ℕ) → audit_of bytes ≡ Some text → image.reading bytes ≡ image.Reading.Bad place → ⊥
told_not_bad bytes text place told bad = let e : Some text ≡ None = sym told ∙ ap (λ r. option_map audit.text_of (image.opened_by bytes r)) bad in cc

-- ---- a text that was printed

module _ (files : Option Files) (shelf : ℕ) (contents gained : Option (List ℕ)) (f e g h : ℕ) (disk new : Told) (text : List ℕ) (looks : Looks 5 disk new) (told : IsTrue disk.honest → audit_of disk.bytes ≡ Some text) where
  abbrev was : Outside
  was = outside files shelf contents f e disk

  abbrev is : Outside
  is = outside files shelf gained g h new

  printed_comes : (status : Status) → Prints (SinkFaulted was is) status → AuditComes was is status
  printed_comes Done p = tt
  printed_comes SinkFault p = p
  printed_comes NoMemory p = tt
  printed_comes Usage p = absurd p
  printed_comes BadShape p = absurd p
  printed_comes (BadScript n cause) p = absurd p
  printed_comes (NoFile name) p = absurd p
  printed_comes ShelfFault p = absurd p
  printed_comes (BadDisk place) p = absurd p
  printed_comes DiskFault p = absurd p
  printed_comes (BadAu name cause) p = absurd p
  printed_comes (BadIndex line) p = absurd p
  printed_comes (BadNote note place) p = absurd p
  printed_comes (TooManyKeys count) p = absurd p
  printed_comes (BadPackets place) p = absurd p
  printed_comes (JournalFull need left) p = absurd p
  printed_comes InDoubt p = absurd p
  printed_comes EpochSpent p = absurd p

  printed_good : (status : Status) → Prints (SinkFaulted was is) status → (status ≡ SinkFault) ⊎ (status ≡ DiskFault) ⊎ IsOr Done status
  printed_good Done p = inr (inr (inl refl))
  printed_good SinkFault p = inl refl
  printed_good NoMemory p = inr (inr (inr tt))
  printed_good Usage p = absurd p
  printed_good BadShape p = absurd p
  printed_good (BadScript n cause) p = absurd p
  printed_good (NoFile name) p = absurd p
  printed_good ShelfFault p = absurd p
  printed_good (BadDisk place) p = absurd p
  printed_good DiskFault p = absurd p
  printed_good (BadAu name cause) p = absurd p
  printed_good (BadIndex line) p = absurd p
  printed_good (BadNote note place) p = absurd p
  printed_good (TooManyKeys count) p = absurd p
  printed_good (BadPackets place) p = absurd p
  printed_good (JournalFull need left) p = absurd p
  printed_good InDoubt p = absurd p
  printed_good EpochSpent p = absurd p

  printed_calm : (status : Status) → Prints (SinkFaulted was is) status → (SinkFaulted was is → ⊥) → (status ≡ Done) ⊎ (status ≡ NoMemory)
  printed_calm Done p calm = inl refl
  printed_calm SinkFault p calm = absurd (calm p)
  printed_calm NoMemory p calm = inr refl
  printed_calm Usage p calm = absurd p
  printed_calm BadShape p calm = absurd p
  printed_calm (BadScript n cause) p calm = absurd p
  printed_calm (NoFile name) p calm = absurd p
  printed_calm ShelfFault p calm = absurd p
  printed_calm (BadDisk place) p calm = absurd p
  printed_calm DiskFault p calm = absurd p
  printed_calm (BadAu name cause) p calm = absurd p
  printed_calm (BadIndex line) p calm = absurd p
  printed_calm (BadNote note place) p calm = absurd p
  printed_calm (TooManyKeys count) p calm = absurd p
  printed_calm (BadPackets place) p calm = absurd p
  printed_calm (JournalFull need left) p calm = absurd p
  printed_calm InDoubt p calm = absurd p
  printed_calm EpochSpent p calm = absurd p

  printed_done : (o : Option (List ℕ)) → IsTrue disk.honest → IfSome o (λ had. gained ≡ Some (had ++ text)) → IfSome o (λ had. (t : List ℕ) × (audit_of disk.bytes ≡ Some t) × (gained ≡ Some (had ++ t)))
  printed_done None honest p = tt
  printed_done (Some had) honest p = (text, told honest, p)

  printed_front : (o : Option (List ℕ)) → IfSome o (λ had. (n : ℕ) × (gained ≡ Some (had ++ take n text))) → IfSome o (λ had. (t : List ℕ) × (n : ℕ) × (IsTrue disk.honest → t ≡ audit_text disk.bytes) × (gained ≡ Some (had ++ take n t)))
  printed_front None p = tt
  printed_front (Some had) p = (text, p.0, (λ honest. sym (ap (λ t. unwrap_or t []) (told honest))), p.1)

  pub printed_promise : (status : Status) → Prints (SinkFaulted was is) status → (status ≡ Done → IfSome contents (λ had. gained ≡ Some (had ++ text))) → IfSome contents (λ had. (n : ℕ) × (gained ≡ Some (had ++ take n text))) → AuditPromise was is status []
  printed_promise status which done front = record {
    comes = printed_comes status which;
    exact = record {
      bad_disk = λ place honest bad. absurd (told_not_bad disk.bytes text place (told honest) bad);
      good_disk = λ honest read. printed_good status which;
    };
    complete = λ honest read calm still. printed_calm status which calm;
    done = λ same honest. printed_done contents honest (done same);
    prefix = printed_front contents front;
    silent = refl;
    files = refl;
    disk = looked disk new looks;
  }

-- ---- a disk that was not read

module _ (files : Option Files) (shelf : ℕ) (contents gained : Option (List ℕ)) (f e g h : ℕ) (disk new : Told) (looks : Looks 5 disk new) (same : gained ≡ contents) where
  abbrev before : Outside
  before = outside files shelf contents f e disk

  abbrev behind : Outside
  behind = outside files shelf gained g h new

  nothing_front : (o : Option (List ℕ)) → gained ≡ o → IfSome o (λ had. (t : List ℕ) × (n : ℕ) × (IsTrue disk.honest → t ≡ audit_text disk.bytes) × (gained ≡ Some (had ++ take n t)))
  nothing_front None p = tt
  nothing_front (Some had) p = (audit_text disk.bytes, 0, (λ honest. refl), p ∙ ap (λ l. Some l) (sym (append-nil had)))

  abbrev Bad : OpenError → Type 0
  Bad error = (place : ℕ) → error ≡ opening.BadDisk place → IsTrue disk.honest → image.reading disk.bytes ≡ image.Reading.Bad place

  abbrev Fault : OpenError → Type 0
  Fault error = error ≡ opening.DiskFault → HasRisen disk.faults new.faults

  pub refused_promise : (error : OpenError) → Bad error → Fault error → AuditPromise before behind (open_status_of error) []
  refused_promise (opening.BadDisk place) bad fault = record {
    comes = bad place refl;
    exact = record {
      bad_disk = λ other honest damage. inr (inl (ap (λ n. BadDisk n) (one_place disk.bytes place other (bad place refl honest) damage)));
      good_disk = λ honest read. absurd (read_not_bad disk place read (bad place refl honest));
    };
    complete = λ honest read calm still. absurd (read_not_bad disk place read (bad place refl honest));
    done = λ is. absurd (let e : BadDisk place ≡ Done = is in cc);
    prefix = nothing_front contents same;
    silent = refl;
    files = refl;
    disk = looked disk new looks;
  }
  refused_promise opening.DiskFault bad fault = record {
    comes = fault refl;
    exact = record {
      bad_disk = λ other honest damage. inl refl;
      good_disk = λ honest read. inr (inl refl);
    };
    complete = λ honest read calm still. absurd (still (fault refl));
    done = λ is. absurd (let e : DiskFault ≡ Done = is in cc);
    prefix = nothing_front contents same;
    silent = refl;
    files = refl;
    disk = looked disk new looks;
  }
  refused_promise opening.NoMemory bad fault = record {
    comes = tt;
    exact = record {
      bad_disk = λ other honest damage. inr (inr tt);
      good_disk = λ honest read. inr (inr (inr tt));
    };
    complete = λ honest read calm still. inr refl;
    done = λ is. absurd (let e : NoMemory ≡ Done = is in cc);
    prefix = nothing_front contents same;
    silent = refl;
    files = refl;
    disk = looked disk new looks;
  }

-- no error of opening is decided before the disk is touched
pub opening_late : (error : OpenError) → IsEarly (open_status_of error) → ⊥
opening_late (opening.BadDisk place) early = early
opening_late opening.DiskFault early = early
opening_late opening.NoMemory early = early
