-- The promise of `mirror FILE`, out of what was read, fed and printed.
use Rattle.std.proofs.Common.{◌≡◌, ◌∙◌, ℕ, ◌⊎◌, inl, inr, List, [], ◌++◌, length, Option, Some, None, refl, sym, ap, subst, arith}
use Rattle.std.specs.Prelude.{IfSome, IsTrue}
use Rattle.std.specs.FinMap.{get}
use Rattle.std.proofs.lemmas.List.{take_all}
use Rattle.voice_outside.specs.Disk.{Told}
use Rattle.voice_outside.specs.Files.{Files}
use Rattle.voice_journal.specs.Looks.{Looks}
use Rattle.voice_journal.specs.Opens.{IsBadAt}
use Rattle.voice_journal.specs.declared.errors.OpenError.{OpenError}
use Rattle.voice_journal.specs.declared.errors.OpenError.TheVariants as opening
use Rattle.listening.specs.Looks.{OnlyLooked}
use Rattle.mirror_packets.specs.Packets as packing
use Rattle.mirror_packets.specs.Packets.{Packet, AreSpelled, reading_of}
use Rattle.mirror_packets.specs.Shown.{IsBad}
use Rattle.mirror_packets.specs.declared.errors.PacketError.{PacketError}
use Rattle.mirror_packets.specs.declared.errors.PacketError.TheVariants as refused
use Rattle.mirror_readings.specs.Readings.{MirrorReading, mirror_reading, mirrored_by}
use Rattle.mirror_commands.specs.Feeding.{IsNoMirrorAt, IsOfMirror, KeepsFronts, Tells, Stays, IsBounded}
use Rattle.voice_main.specs.declared.load.LoadError.{LoadError}
use Rattle.voice_main.specs.declared.load.LoadError.TheVariants as load
use Rattle.voice_main.specs.declared.status.Status.{Status}
use Rattle.voice_main.specs.declared.status.Status.TheVariants.{Done, Usage, BadShape, BadScript, NoFile, ShelfFault, SinkFault, BadDisk, DiskFault, NoMemory, BadAu, BadIndex, BadNote, TooManyKeys, BadPackets, JournalFull, InDoubt, EpochSpent}
use Rattle.voice_main.specs.Load.{LoadIs}
use Rattle.voice_main.specs.Outside.{Outside, ShelfFaulted, SinkFaulted, DiskFaulted}
use Rattle.voice_main.specs.RunPromise.{IsOr}
use Rattle.voice_main.specs.Statuses.{Prints, IsEarly, IsSilent, load_status_of, packets_status_of, open_status_of}
use Rattle.voice_main.specs.MirrorPromise.{HasPackets, HaveSome, HasBadPackets, Gains, GainsPart, FedStatus, TellsSo, FedText, Fed, MirrorTold, MirrorKeeps, MirrorCalls, MirrorComes, MirrorExact, MirrorComplete, MirrorPromise}

-- ---- small facts

some_bytes : (a b : List ℕ) → Some a ≡ Some b → a ≡ b
some_bytes a b e = cc

no_bytes : (o : Option (List ℕ)) (a : List ℕ) → o ≡ None → o ≡ Some a → ⊥
no_bytes o a none some = let e : None ≡ Some a = sym none ∙ some in cc

bad_places : (m n : ℕ) → packing.Reading.Bad m ≡ packing.Reading.Bad n → m ≡ n
bad_places m n e = cc

bad_not_good : (r : packing.Reading) (m : ℕ) (packets : List Packet) → r ≡ packing.Reading.Bad m → r ≡ packing.Reading.Packets packets → ⊥
bad_not_good r m packets bad good = let e : packing.Reading.Bad m ≡ packing.Reading.Packets packets = sym bad ∙ good in cc

no_mirror : (disk : Told) (place : ℕ) → IsOfMirror disk → mirror_reading disk.bytes ≡ MirrorReading.Bad place → ⊥
no_mirror disk place is bad = let e : Some is.had ≡ None = sym is.mirrored ∙ ap (mirrored_by disk.bytes) bad in cc

-- what holds of the shelf's files, where it tells them
each : (told : Option Files) (P : Files → Type 0) → ((files : Files) → told ≡ Some files → P files) → IfSome told P
each None P h = tt
each (Some files) P h = h files refl

at : (told : Option Files) (P : Files → Type 0) (files : Files) → told ≡ Some files → IfSome told P → P files
at told P files is h = subst (λ (t : Option Files). IfSome t P) is h

-- the whole of a text is a front of it
whole_front : (had now : Option (List ℕ)) (text : List ℕ) → Gains had now text → GainsPart had now text
whole_front None now text h = tt
whole_front (Some before) now text h = (length text, h ∙ ap (λ (l : List ℕ). Some (before ++ l)) (sym (take_all (length text) text (omega arith))))

-- a disk that was not touched was only looked at
pub untouched : (disk : Told) → OnlyLooked disk disk
untouched disk = record { bytes = refl; now = λ image left. left; crash = λ t image le left. inl left }

only_looked : (old new : Told) → IsTrue old.honest → Looks 6 old new → OnlyLooked old new
only_looked old new honest looks = let still = looks.still honest in record { bytes = still.bytes; now = still.now; crash = still.crash }

-- ---- packets that were read

keeps_by : (packets : List Packet) (old new : Told) → Stays packets old new → IsTrue old.honest → OnlyLooked old new ⊎ KeepsFronts packets old new
keeps_by packets old new stays honest = by (stays honest)
  where
    by : Looks 6 old new ⊎ KeepsFronts packets old new → OnlyLooked old new ⊎ KeepsFronts packets old new
    by (inl looks) = inl (only_looked old new honest looks)
    by (inr fronts) = inr fronts

-- a text was printed
module _ (old new : Outside) (packets : List Packet) (text : List ℕ) (tells : Tells packets text old.disk new.disk) (stays : Stays packets old.disk new.disk)
    (sound : IsTrue old.disk.honest → (place : ℕ) → mirror_reading old.disk.bytes ≡ MirrorReading.Bad place → ⊥) (part : GainsPart old.contents new.contents text) where
  printed : (status : Status) → FedStatus old new status → FedText packets old new status → Fed packets old new status
  printed status which so = record {
    which = which;
    text = so;
    keeps = keeps_by packets old.disk new.disk stays;
    damaged = λ honest place bad. absurd (sound honest place bad);
  }

  pub fed_told : (status : Status) → Prints (SinkFaulted old new) status → (status ≡ Done → Gains old.contents new.contents text) → Fed packets old new status
  fed_told Done prints done = printed Done tt (record { text = text; tells = tells; gains = done refl })
  fed_told SinkFault prints done = printed SinkFault prints (record { text = text; tells = tells; gains = part })
  fed_told NoMemory prints done = printed NoMemory tt (inr (record { text = text; tells = tells; gains = part }))
  fed_told Usage prints done = absurd prints
  fed_told BadShape prints done = absurd prints
  fed_told (BadScript n cause) prints done = absurd prints
  fed_told (NoFile name) prints done = absurd prints
  fed_told ShelfFault prints done = absurd prints
  fed_told (BadDisk place) prints done = absurd prints
  fed_told DiskFault prints done = absurd prints
  fed_told (BadAu name cause) prints done = absurd prints
  fed_told (BadIndex n) prints done = absurd prints
  fed_told (BadNote name place) prints done = absurd prints
  fed_told (TooManyKeys count) prints done = absurd prints
  fed_told (BadPackets place) prints done = absurd prints
  fed_told (JournalFull need left) prints done = absurd prints
  fed_told InDoubt prints done = absurd prints
  fed_told EpochSpent prints done = absurd prints

-- the mirror was not opened, or memory wanted
pub fed_refused :
    (old new : Outside) (packets : List Packet) (e : OpenError) → new.contents ≡ old.contents → Stays packets old.disk new.disk → ((place : ℕ) → e ≡ opening.BadDisk place → IsNoMirrorAt old.disk place) → (e ≡ opening.DiskFault → DiskFaulted old new)
    → (IsTrue old.disk.honest → (place : ℕ) → mirror_reading old.disk.bytes ≡ MirrorReading.Bad place → IsBadAt place e) → Fed packets old new (open_status_of e)
fed_refused old new packets (opening.BadDisk other) quiet stays bad fault damaged = record {
  which = bad other refl;
  text = quiet;
  keeps = keeps_by packets old.disk new.disk stays;
  damaged = λ honest place is. inr (inl (ap BadDisk (damaged honest place is)));
}
fed_refused old new packets opening.DiskFault quiet stays bad fault damaged = record {
  which = fault refl;
  text = quiet;
  keeps = keeps_by packets old.disk new.disk stays;
  damaged = λ honest place is. inl refl;
}
fed_refused old new packets opening.NoMemory quiet stays bad fault damaged = record {
  which = tt;
  text = inl quiet;
  keeps = keeps_by packets old.disk new.disk stays;
  damaged = λ honest place is. inr (inr tt);
}

-- each status that comes once packets are read
fed_cases : (old new : Outside) (P : Status → Type 0) → P Done → (SinkFaulted old new → P SinkFault) → ((place : ℕ) → IsNoMirrorAt old.disk place → P (BadDisk place)) → (DiskFaulted old new → P DiskFault) → P NoMemory → (status : Status) → FedStatus old new status → P status
fed_cases old new P done sink bad disk memory Done which = done
fed_cases old new P done sink bad disk memory SinkFault which = sink which
fed_cases old new P done sink bad disk memory (BadDisk place) which = bad place which
fed_cases old new P done sink bad disk memory DiskFault which = disk which
fed_cases old new P done sink bad disk memory NoMemory which = memory
fed_cases old new P done sink bad disk memory Usage which = absurd which
fed_cases old new P done sink bad disk memory BadShape which = absurd which
fed_cases old new P done sink bad disk memory (BadScript n cause) which = absurd which
fed_cases old new P done sink bad disk memory (NoFile name) which = absurd which
fed_cases old new P done sink bad disk memory ShelfFault which = absurd which
fed_cases old new P done sink bad disk memory (BadAu name cause) which = absurd which
fed_cases old new P done sink bad disk memory (BadIndex n) which = absurd which
fed_cases old new P done sink bad disk memory (BadNote name place) which = absurd which
fed_cases old new P done sink bad disk memory (TooManyKeys count) which = absurd which
fed_cases old new P done sink bad disk memory (BadPackets place) which = absurd which
fed_cases old new P done sink bad disk memory (JournalFull need left) which = absurd which
fed_cases old new P done sink bad disk memory InDoubt which = absurd which
fed_cases old new P done sink bad disk memory EpochSpent which = absurd which

-- a status that is decided before the first call prints nothing
pub fed_silent : (packets : List Packet) (old new : Outside) (status : Status) → Fed packets old new status → IsSilent status → new.contents ≡ old.contents
fed_silent packets old new status fed =
    fed_cases old new (λ s. FedText packets old new s → IsSilent s → new.contents ≡ old.contents)
    (λ text silent. absurd silent) (λ sink text silent. absurd silent) (λ place no text silent. text) (λ risen text silent. text) (λ text silent. absurd silent) status fed.which fed.text

-- none is decided before the disk is touched
pub fed_late : (packets : List Packet) (old new : Outside) (status : Status) → Fed packets old new status → IsEarly status → ⊥
fed_late packets old new status fed = fed_cases old new (λ s. IsEarly s → ⊥) (λ early. early) (λ sink early. early) (λ place no early. early) (λ risen early. early) (λ early. early) status fed.which

-- and none is one of the shelf
pub fed_no_shelf : (packets : List Packet) (old new : Outside) (status : Status) → Fed packets old new status → status ≡ ShelfFault → ⊥
fed_no_shelf packets old new status fed = fed_cases old new (λ s. s ≡ ShelfFault → ⊥) (λ e. cc) (λ sink e. cc) (λ place no e. cc) (λ risen e. cc) (λ e. cc) status fed.which

-- ---- the promise

module _ (file : List ℕ) (old new : Outside) (kept : new.files ≡ old.files) where
  -- the packets were fed
  module _ (bytes : List ℕ) (packets : List Packet) (found : IfSome old.files (λ files. get files file ≡ Some bytes)) (spelled : AreSpelled bytes packets) (read : reading_of bytes ≡ packing.Reading.Packets packets) (bounded : IsBounded packets old.disk new.disk) where
    bytes_at : (files : Files) → old.files ≡ Some files → get files file ≡ Some bytes
    bytes_at files is = at old.files (λ f. get f file ≡ Some bytes) files is found

    there : (files : Files) → old.files ≡ Some files → HasPackets files file packets
    there files is = record { bytes = bytes; found = bytes_at files is; spelled = spelled; read = read }

    some : IfSome old.files (λ files. HaveSome files file)
    some = each old.files (λ files. HaveSome files file) (λ files is. record { packets = packets; there = there files is })

    told : (gained : List ℕ → Type 0) → TellsSo packets gained old.disk new.disk → IfSome old.files (λ files. MirrorTold files file gained old.disk new.disk)
    told gained so = each old.files (λ files. MirrorTold files file gained old.disk new.disk) (λ files is. record { packets = packets; there = there files is; told = so })

    front : TellsSo packets (Gains old.contents new.contents) old.disk new.disk → TellsSo packets (GainsPart old.contents new.contents) old.disk new.disk
    front so = record { text = so.text; tells = so.tells; gains = whole_front old.contents new.contents so.text so.gains }

    keeps : (IsTrue old.disk.honest → OnlyLooked old.disk new.disk ⊎ KeepsFronts packets old.disk new.disk) → IsTrue old.disk.honest → OnlyLooked old.disk new.disk ⊎ IfSome old.files (λ files. MirrorKeeps files file old.disk new.disk)
    keeps h honest = by (h honest)
      where
        by : OnlyLooked old.disk new.disk ⊎ KeepsFronts packets old.disk new.disk → OnlyLooked old.disk new.disk ⊎ IfSome old.files (λ files. MirrorKeeps files file old.disk new.disk)
        by (inl looked) = inl looked
        by (inr fronts) = inr (each old.files (λ files. MirrorKeeps files file old.disk new.disk) (λ files is. record { packets = packets; there = there files is; fronts = fronts }))

    -- what a status promises besides
    abbrev Good : Status → Type 0
    Good status = IsTrue old.disk.honest → IsOfMirror old.disk → (status ≡ SinkFault) ⊎ (status ≡ DiskFault) ⊎ IsOr Done status

    abbrev Complete : Status → Type 0
    Complete status = IsTrue old.disk.honest → IsOfMirror old.disk → (SinkFaulted old new → ⊥) → (DiskFaulted old new → ⊥) → (status ≡ Done) ⊎ (status ≡ NoMemory)

    abbrev Damaged : Status → Type 0
    Damaged status = IsTrue old.disk.honest → (place : ℕ) → mirror_reading old.disk.bytes ≡ MirrorReading.Bad place → (status ≡ DiskFault) ⊎ IsOr (BadDisk place) status

    joined : (status : Status) → MirrorComes file old new status → (IsTrue old.disk.honest → OnlyLooked old.disk new.disk ⊎ KeepsFronts packets old.disk new.disk)
        → (new.contents ≡ old.contents) ⊎ TellsSo packets (GainsPart old.contents new.contents) old.disk new.disk → Damaged status → Good status → Complete status → MirrorPromise file old new status []
    joined status comes so_far gained damaged good complete = record {
      comes = comes;
      so_far = keeps so_far;
      gained = by gained;
      calls = inr (each old.files (λ files. MirrorCalls files file old.disk new.disk) (λ files is. record { packets = packets; there = there files is; bounded = bounded }));
      exact = each old.files (λ files. MirrorExact files file old.disk status) (λ files is. record {
        no_file = λ none. absurd (no_bytes (get files file) bytes none (bytes_at files is));
        bad_packets = λ place h. absurd (bad_not_good (reading_of bytes) place packets (ap reading_of (some_bytes bytes h.bytes (sym (bytes_at files is) ∙ h.found)) ∙ h.bad) read);
        bad_disk = λ place have honest bad. damaged honest place bad;
        good_disk = λ have honest mirror. good honest mirror;
      });
      complete = each old.files (λ files. MirrorComplete files file old new status) (λ files is have honest mirror calm dry still. complete honest mirror dry still);
      silent = refl;
      files = kept;
    }
      where
        by : (new.contents ≡ old.contents) ⊎ TellsSo packets (GainsPart old.contents new.contents) old.disk new.disk → (new.contents ≡ old.contents) ⊎ IfSome old.files (λ files. MirrorTold files file (GainsPart old.contents new.contents) old.disk new.disk)
        by (inl quiet) = inl quiet
        by (inr so) = inr (told (GainsPart old.contents new.contents) so)

    pub fed_promise : (status : Status) → Fed packets old new status → MirrorPromise file old new status []
    fed_promise status fed =
        fed_cases old new (λ s. FedText packets old new s → Damaged s → MirrorPromise file old new s [])
        (λ so damaged. joined Done (told (Gains old.contents new.contents) so) fed.keeps (inr (front so)) damaged (λ _ _. inr (inr (inl refl))) (λ _ _ _ _. inl refl))
        (λ sink so damaged. joined SinkFault (sink, told (GainsPart old.contents new.contents) so) fed.keeps (inr so) damaged (λ _ _. inl refl) (λ _ _ dry _. absurd (dry sink)))
        (λ place no so damaged. joined (BadDisk place) (no, some) fed.keeps (inl so) damaged (λ honest mirror. absurd (no_mirror old.disk place mirror (no honest))) (λ honest mirror _ _. absurd (no_mirror old.disk place mirror (no honest))))
        (λ risen so damaged. joined DiskFault (risen, some) fed.keeps (inl so) damaged (λ _ _. inr (inl refl)) (λ _ _ _ still. absurd (still risen)))
        (λ so damaged. joined NoMemory tt fed.keeps so damaged (λ _ _. inr (inr (inr tt))) (λ _ _ _ _. inr refl))
        status fed.which fed.text fed.damaged

  -- nothing was printed, and the disk was not touched
  module _ (quiet : new.contents ≡ old.contents) (looked : OnlyLooked old.disk new.disk) (still : new.disk.calls ≡ old.disk.calls) where
    stopped : (status : Status) → MirrorComes file old new status → IfSome old.files (λ files. MirrorExact files file old.disk status) → IfSome old.files (λ files. MirrorComplete files file old new status) → MirrorPromise file old new status []
    stopped status comes exact complete = record { comes = comes; so_far = λ honest. inl looked; gained = inl quiet; calls = inl still; exact = exact; complete = complete; silent = refl; files = kept }

    -- one of the two statuses that may come at any time
    excused_exact : (status : Status) → ((wanted : Status) → IsOr wanted status) → IfSome old.files (λ files. MirrorExact files file old.disk status)
    excused_exact status excused = each old.files (λ files. MirrorExact files file old.disk status) (λ files is. record {
      no_file = λ none. excused (NoFile file);
      bad_packets = λ place h. excused (BadPackets place);
      bad_disk = λ place have honest bad. inr (excused (BadDisk place));
      good_disk = λ have honest mirror. inr (inr (excused Done));
    })

    stopped_memory : MirrorPromise file old new NoMemory []
    stopped_memory = stopped NoMemory tt (excused_exact NoMemory (λ wanted. inr tt)) (each old.files (λ files. MirrorComplete files file old new NoMemory) (λ files is have honest mirror calm dry still. inr refl))

    -- the file was not read
    pub unread : (e : LoadError) → LoadIs (λ missing. (missing ≡ file) × IfSome old.files (λ files. get files file ≡ None)) (ShelfFaulted old new) e → MirrorPromise file old new (load_status_of e) []
    unread (load.NoFile missing) h =
        let none : (files : Files) → old.files ≡ Some files → get files file ≡ None = λ files is. at old.files (λ f. get f file ≡ None) files is h.1 in
        stopped (NoFile missing) (each old.files (λ files. (missing ≡ file) × (get files file ≡ None)) (λ files is. (h.0, none files is)))
        (each old.files (λ files. MirrorExact files file old.disk (NoFile missing)) (λ files is. record {
          no_file = λ _. inl (ap NoFile h.0);
          bad_packets = λ place bad. absurd (no_bytes (get files file) bad.bytes (none files is) bad.found);
          bad_disk = λ place have honest bad. absurd (no_bytes (get files file) have.there.bytes (none files is) have.there.found);
          good_disk = λ have honest mirror. absurd (no_bytes (get files file) have.there.bytes (none files is) have.there.found);
        }))
        (each old.files (λ files. MirrorComplete files file old new (NoFile missing)) (λ files is have honest mirror calm dry still. absurd (no_bytes (get files file) have.there.bytes (none files is) have.there.found)))
    unread load.ShelfFault h = stopped ShelfFault h (excused_exact ShelfFault (λ wanted. inr tt)) (each old.files (λ files. MirrorComplete files file old new ShelfFault) (λ files is have honest mirror calm dry still. absurd (calm h)))
    unread load.NoMemory h = stopped_memory

    -- its packets were refused
    pub unspelled : (bytes : List ℕ) → IfSome old.files (λ files. get files file ≡ Some bytes) → (e : PacketError) → IsBad bytes e → MirrorPromise file old new (packets_status_of e) []
    unspelled bytes found (refused.BadPackets place) bad =
        let bytes_are : (files : Files) → old.files ≡ Some files → get files file ≡ Some bytes = λ files is. at old.files (λ f. get f file ≡ Some bytes) files is found in
        let same : (files : Files) → old.files ≡ Some files → (other : List ℕ) → get files file ≡ Some other → bytes ≡ other = λ files is other e. some_bytes bytes other (sym (bytes_are files is) ∙ e) in
        let not_good : (files : Files) → old.files ≡ Some files → HaveSome files file → ⊥ = λ files is have. bad_not_good (reading_of bytes) place have.packets bad (ap reading_of (same files is have.there.bytes have.there.found) ∙ have.there.read) in
        stopped (BadPackets place) (each old.files (λ files. HasBadPackets files file place) (λ files is. record { bytes = bytes; found = bytes_are files is; bad = bad }))
        (each old.files (λ files. MirrorExact files file old.disk (BadPackets place)) (λ files is. record {
          no_file = λ none. absurd (no_bytes (get files file) bytes none (bytes_are files is));
          bad_packets = λ other h. inl (ap BadPackets (bad_places place other (sym bad ∙ ap reading_of (same files is h.bytes h.found) ∙ h.bad)));
          bad_disk = λ other have honest is_bad. absurd (not_good files is have);
          good_disk = λ have honest mirror. absurd (not_good files is have);
        }))
        (each old.files (λ files. MirrorComplete files file old new (BadPackets place)) (λ files is have honest mirror calm dry still. absurd (not_good files is have)))
    unspelled bytes found refused.NoMemory bad = stopped_memory
