-- What the files decide of notes, as one verdict: so that the causes exclude one another.
use Rattle.std.proofs.Common.{◌≡◌, ℕ, ◌⊎◌, ◌<◌, ◌≤◌, inl, inr, true, false, cond, List, [], ◌∷◌, ◌++◌, length, map, Option, Some, None, refl, sym, ap, subst, ◌∙◌, arith}
use Rattle.std.specs.Prelude.{IfSome, IsTrue, nat_lt, unwrap_or, count_by}
use Rattle.std.specs.FinMap.{get}
use Rattle.std.proofs.lemmas.Bool.Decides.{nat_tests}
use Rattle.voice_outside.specs.Counters.{HasRisen}
use Rattle.voice_outside.specs.Disk.{Told}
use Rattle.voice_outside.specs.Files.{Files}
use Rattle.voice_model.specs.Text.{text_of}
use Rattle.voice_model.specs.Valid.{Every}
use Rattle.voice_model.specs.Image as image
use Rattle.voice_model.specs.declared.calls.Entry.{Entry}
use Rattle.voice_store.specs.Stood.{is_fault}
use Rattle.voice_notes.specs.Anchors.{bad_place}
use Rattle.voice_notes.specs.Index.{names_in, bad_line}
use Rattle.voice_main.specs.declared.status.Status.{Status}
use Rattle.voice_main.specs.declared.status.Status.TheVariants.{Done, Usage, BadShape, BadScript, NoFile, ShelfFault, SinkFault, BadDisk, DiskFault, NoMemory, BadAu, BadIndex, BadNote, TooManyKeys, BadPackets, JournalFull, InDoubt, EpochSpent}
use Rattle.voice_main.specs.Load.{AreFiles}
use Rattle.voice_main.specs.Outside.{Outside, outside, SinkFaulted, IsUnchanged}
use Rattle.voice_main.specs.Ran.{Performed}
use Rattle.voice_main.specs.Statuses.{Performs}
use Rattle.voice_main.specs.RunPromise.{IsRead, IsOr, NoFaults}
use Rattle.voice_main.specs.Notes.{keys_of, IsGood, IsIndex, IsBadIndex, IsNoNote, IsBadNote, AreTooMany, AreNamed, HaveKeys, AreNotes, NotesStop, IsOneCensus, IsCensusSoFar}
use Rattle.voice_main.specs.NotesPromise.{CensusRan, CensusBegan, NotesComes, NotesSoFar, NotesExact, NotesComplete, NotesPromise}
use Rattle.voice_main.proofs.Exact.{one_place, read_not_bad, opened_not_bad, no_faults_at}

-- ---- the verdict

-- why the notes name no keys, or that they do
data Verdict : Type 0 where
  Absent : List ℕ → Verdict
  Line : ℕ → Verdict
  Anchor : List ℕ → ℕ → Verdict
  Many : ℕ → Verdict
  Fine : Verdict

abbrev or_absent : Option (List ℕ) → List ℕ → Option (List ℕ) → Option (List ℕ)
or_absent None name later = Some name
or_absent (Some bytes) name later = later

-- the first of the names that is absent
abbrev absent_in : Files → List (List ℕ) → Option (List ℕ)
absent_in files [] = None
absent_in files (name ∷ names) = or_absent (get files name) name (absent_in files names)

abbrev or_bad : List ℕ → Option ℕ → Option Verdict → Option Verdict
or_bad name (Some place) later = Some (Verdict.Anchor name place)
or_bad name None later = later

-- the first of the notes that has a bad anchor
abbrev bad_in : List (List ℕ) → List (List ℕ) → Option Verdict
bad_in (name ∷ names) (note ∷ notes) = or_bad name (bad_place note) (bad_in names notes)
bad_in (name ∷ names) [] = None
bad_in [] notes = None

abbrev notes_at : Files → List (List ℕ) → List (List ℕ)
notes_at files names = map (λ name. unwrap_or (get files name) []) names

abbrev by_count : ℕ → Verdict
by_count n = cond (nat_lt 1024 n) (Verdict.Many n) Verdict.Fine

abbrev by_bad : Option Verdict → ℕ → Verdict
by_bad (Some verdict) n = verdict
by_bad None n = by_count n

abbrev by_names : Option (List ℕ) → List (List ℕ) → List (List ℕ) → Verdict
by_names (Some missing) names notes = Verdict.Absent missing
by_names None names notes = by_bad (bad_in names notes) (length (keys_of notes))

abbrev by_line : Files → Option ℕ → List (List ℕ) → Verdict
by_line files (Some n) names = Verdict.Line n
by_line files None names = by_names (absent_in files names) names (notes_at files names)

abbrev by_index : Files → List ℕ → Option (List ℕ) → Verdict
by_index files index None = Verdict.Absent index
by_index files index (Some bytes) = by_line files (bad_line bytes) (names_in bytes)

abbrev judge : Files → List ℕ → Verdict
judge files index = by_index files index (get files index)

-- ---- each cause gives its verdict

by_listed : (files : Files) (index : List ℕ) (names : List (List ℕ)) → IsIndex files index names → judge files index ≡ by_names (absent_in files names) names (notes_at files names)
by_listed files index names h =
    ap (by_index files index) h.found ∙ ap (λ bad. by_line files bad (names_in h.bytes)) h.good ∙ ap (λ (all : List (List ℕ)). by_names (absent_in files all) all (notes_at files all)) (sym h.listed)

-- the names of some notes: none is absent, and these are the notes
none_absent : (files : Files) (names notes : List (List ℕ)) → AreFiles files names notes → (absent_in files names ≡ None) × (notes_at files names ≡ notes)
none_absent files [] [] h = (refl, refl)
none_absent files [] (note ∷ notes) h = cc
none_absent files (name ∷ names) [] h = cc
none_absent files (name ∷ names) (note ∷ notes) h =
    let here : get files name ≡ Some note = cc in
    let tail : map (get files) names ≡ map Some notes = cc in
    let rest = none_absent files names notes tail in (
      ap (λ o. or_absent o name (absent_in files names)) here ∙ rest.0,
      ap (λ o. unwrap_or o [] ∷ notes_at files names) here ∙ ap (λ l. note ∷ l) rest.1,
    )

absent_from : (files : Files) (front rest tapes : List (List ℕ)) (x : List ℕ) → AreFiles files front tapes → get files x ≡ None → absent_in files (front ++ x ∷ rest) ≡ Some x
absent_from files [] rest tapes x there gone = ap (λ o. or_absent o x (absent_in files rest)) gone
absent_from files (f ∷ front) rest [] x there gone = cc
absent_from files (f ∷ front) rest (t ∷ tapes) x there gone =
    let here : get files f ≡ Some t = cc in
    let tail : map (get files) front ≡ map Some tapes = cc in
    ap (λ o. or_absent o f (absent_in files (front ++ x ∷ rest))) here ∙ absent_from files front rest tapes x tail gone

none_bad : (names notes : List (List ℕ)) → Every IsGood notes → bad_in names notes ≡ None
none_bad [] notes good = refl
none_bad (name ∷ names) [] good = refl
none_bad (name ∷ names) (note ∷ notes) good = ap (λ o. or_bad name o (bad_in names notes)) good.0 ∙ none_bad names notes good.1

bad_from : (front rest before behind : List (List ℕ)) (name note : List ℕ) (place : ℕ) → length before ≡ length front → Every IsGood before → bad_place note ≡ Some place → bad_in (front ++ name ∷ rest) (before ++ note ∷ behind) ≡ Some (Verdict.Anchor name place)
bad_from [] rest [] behind name note place same good bad = ap (λ o. or_bad name o (bad_in rest behind)) bad
bad_from [] rest (b ∷ before) behind name note place same good bad = absurd (omega (arith, same))
bad_from (f ∷ front) rest [] behind name note place same good bad = absurd (omega (arith, same))
bad_from (f ∷ front) rest (b ∷ before) behind name note place same good bad =
    ap (λ o. or_bad f o (bad_in (front ++ name ∷ rest) (before ++ note ∷ behind))) good.0 ∙ bad_from front rest before behind name note place (omega (arith, same)) good.1 bad

judged_line : (files : Files) (index : List ℕ) (n : ℕ) → IsBadIndex files index n → judge files index ≡ Verdict.Line n
judged_line files index n h = ap (by_index files index) h.found ∙ ap (λ bad. by_line files bad (names_in h.bytes)) h.bad

judged_absent : (files : Files) (index missing : List ℕ) → IsNoNote files index missing → judge files index ≡ Verdict.Absent missing
judged_absent files index missing (inl h) = ap (by_index files index) h.1 ∙ ap Verdict.Absent (sym h.0)
judged_absent files index missing (inr h) =
    let gone : absent_in files h.names ≡ Some missing = ap (absent_in files) h.absent.whole ∙ absent_from files h.absent.front h.absent.rest h.absent.tapes missing h.absent.there h.absent.absent in
    by_listed files index h.names h.listed ∙ ap (λ o. by_names o h.names (notes_at files h.names)) gone

-- with all notes there
by_notes : (files : Files) (index : List ℕ) (names notes : List (List ℕ)) → IsIndex files index names → AreFiles files names notes → judge files index ≡ by_bad (bad_in names notes) (length (keys_of notes))
by_notes files index names notes listed there =
    let all = none_absent files names notes there in
    by_listed files index names listed ∙ ap (λ o. by_names o names (notes_at files names)) all.0 ∙ ap (λ (ns : List (List ℕ)). by_bad (bad_in names ns) (length (keys_of ns))) all.1

judged_anchor : (files : Files) (index name : List ℕ) (place : ℕ) → IsBadNote files index name place → judge files index ≡ Verdict.Anchor name place
judged_anchor files index name place h =
    let b = h.bad in
    let found : bad_in h.names h.notes ≡ Some (Verdict.Anchor name place) =
    ap (λ ns. bad_in ns h.notes) b.names_are ∙ ap (bad_in (b.front ++ name ∷ b.rest)) b.notes_are ∙ bad_from b.front b.rest b.before b.behind name b.note place b.beside b.first b.bad in
    by_notes files index h.names h.notes h.listed h.there ∙ ap (λ o. by_bad o (length (keys_of h.notes))) found

by_good : (files : Files) (index : List ℕ) (notes : List (List ℕ)) → AreNotes files index notes → Every IsGood notes → judge files index ≡ by_count (length (keys_of notes))
by_good files index notes h good = by_notes files index h.names notes h.listed h.there ∙ ap (λ o. by_bad o (length (keys_of notes))) (none_bad h.names notes good)

is_more : (n : ℕ) → 1024 < n → nat_lt 1024 n ≡ true
is_more n h = grind (arith, nat_tests)

is_few : (n : ℕ) → n ≤ 1024 → nat_lt 1024 n ≡ false
is_few n h = grind (arith, nat_tests)

judged_many : (files : Files) (index : List ℕ) (count : ℕ) → AreTooMany files index count → judge files index ≡ Verdict.Many count
judged_many files index count h =
    by_good files index h.notes h.there h.good ∙ ap by_count h.counted ∙ ap (λ b. cond b (Verdict.Many count) Verdict.Fine) (is_more count h.many)

judged_fine : (files : Files) (index : List ℕ) → HaveKeys files index → judge files index ≡ Verdict.Fine
judged_fine files index h =
    let n = length h.keys in
    by_good files index h.named.notes h.named.there h.named.good ∙ ap by_count (ap length (sym h.named.named)) ∙ ap (λ b. cond b (Verdict.Many n) Verdict.Fine) (is_few n h.named.few)

-- ---- what each verdict leaves of the statuses

exact_line : (files : Files) (index : List ℕ) (disk : Told) (m : ℕ) → IsBadIndex files index m → NotesExact files index disk (BadIndex m)
exact_line files index disk m h =
    let is = judged_line files index m h in record {
      bad_index = λ n bad. (let e : Verdict.Line m ≡ Verdict.Line n = sym is ∙ judged_line files index n bad in let same : m ≡ n = cc in inl (ap BadIndex same));
      no_file = λ x gone. (let e : Verdict.Line m ≡ Verdict.Absent x = sym is ∙ judged_absent files index x gone in cc);
      bad_note = λ name place bad. (let e : Verdict.Line m ≡ Verdict.Anchor name place = sym is ∙ judged_anchor files index name place bad in cc);
      too_many = λ count many. (let e : Verdict.Line m ≡ Verdict.Many count = sym is ∙ judged_many files index count many in cc);
      bad_disk = λ place named honest bad. (let e : Verdict.Line m ≡ Verdict.Fine = sym is ∙ judged_fine files index named in cc);
      good_disk = λ named honest read. (let e : Verdict.Line m ≡ Verdict.Fine = sym is ∙ judged_fine files index named in cc);
    }

exact_absent : (files : Files) (index : List ℕ) (disk : Told) (y : List ℕ) → IsNoNote files index y → NotesExact files index disk (NoFile y)
exact_absent files index disk y h =
    let is = judged_absent files index y h in record {
      bad_index = λ n bad. (let e : Verdict.Absent y ≡ Verdict.Line n = sym is ∙ judged_line files index n bad in cc);
      no_file = λ x gone. (let e : Verdict.Absent y ≡ Verdict.Absent x = sym is ∙ judged_absent files index x gone in let same : y ≡ x = cc in inl (ap NoFile same));
      bad_note = λ name place bad. (let e : Verdict.Absent y ≡ Verdict.Anchor name place = sym is ∙ judged_anchor files index name place bad in cc);
      too_many = λ count many. (let e : Verdict.Absent y ≡ Verdict.Many count = sym is ∙ judged_many files index count many in cc);
      bad_disk = λ place named honest bad. (let e : Verdict.Absent y ≡ Verdict.Fine = sym is ∙ judged_fine files index named in cc);
      good_disk = λ named honest read. (let e : Verdict.Absent y ≡ Verdict.Fine = sym is ∙ judged_fine files index named in cc);
    }

exact_anchor : (files : Files) (index : List ℕ) (disk : Told) (other : List ℕ) (at : ℕ) → IsBadNote files index other at → NotesExact files index disk (BadNote other at)
exact_anchor files index disk other at h =
    let is = judged_anchor files index other at h in record {
      bad_index = λ n bad. (let e : Verdict.Anchor other at ≡ Verdict.Line n = sym is ∙ judged_line files index n bad in cc);
      no_file = λ x gone. (let e : Verdict.Anchor other at ≡ Verdict.Absent x = sym is ∙ judged_absent files index x gone in cc);
      bad_note = λ name place bad. (let e : Verdict.Anchor other at ≡ Verdict.Anchor name place = sym is ∙ judged_anchor files index name place bad in let one : other ≡ name = cc in let two : at ≡ place = cc in inl (ap (λ n. BadNote n at) one ∙ ap (BadNote name) two));
      too_many = λ count many. (let e : Verdict.Anchor other at ≡ Verdict.Many count = sym is ∙ judged_many files index count many in cc);
      bad_disk = λ place named honest bad. (let e : Verdict.Anchor other at ≡ Verdict.Fine = sym is ∙ judged_fine files index named in cc);
      good_disk = λ named honest read. (let e : Verdict.Anchor other at ≡ Verdict.Fine = sym is ∙ judged_fine files index named in cc);
    }

exact_many : (files : Files) (index : List ℕ) (disk : Told) (m : ℕ) → AreTooMany files index m → NotesExact files index disk (TooManyKeys m)
exact_many files index disk m h =
    let is = judged_many files index m h in record {
      bad_index = λ n bad. (let e : Verdict.Many m ≡ Verdict.Line n = sym is ∙ judged_line files index n bad in cc);
      no_file = λ x gone. (let e : Verdict.Many m ≡ Verdict.Absent x = sym is ∙ judged_absent files index x gone in cc);
      bad_note = λ name place bad. (let e : Verdict.Many m ≡ Verdict.Anchor name place = sym is ∙ judged_anchor files index name place bad in cc);
      too_many = λ count many. (let e : Verdict.Many m ≡ Verdict.Many count = sym is ∙ judged_many files index count many in let same : m ≡ count = cc in inl (ap TooManyKeys same));
      bad_disk = λ place named honest bad. (let e : Verdict.Many m ≡ Verdict.Fine = sym is ∙ judged_fine files index named in cc);
      good_disk = λ named honest read. (let e : Verdict.Many m ≡ Verdict.Fine = sym is ∙ judged_fine files index named in cc);
    }

-- where the notes name keys, the disk decides
exact_fine : (files : Files) (index : List ℕ) (disk : Told) (status : Status) → HaveKeys files index
    → ((place : ℕ) → IsTrue disk.honest → image.reading disk.bytes ≡ image.Reading.Bad place → (status ≡ DiskFault) ⊎ IsOr (BadDisk place) status)
    → (IsTrue disk.honest → IsRead disk → (status ≡ SinkFault) ⊎ (status ≡ DiskFault) ⊎ IsOr Done status) → NotesExact files index disk status
exact_fine files index disk status h bad_disk good_disk =
    let is = judged_fine files index h in record {
      bad_index = λ n bad. (let e : Verdict.Fine ≡ Verdict.Line n = sym is ∙ judged_line files index n bad in cc);
      no_file = λ x gone. (let e : Verdict.Fine ≡ Verdict.Absent x = sym is ∙ judged_absent files index x gone in cc);
      bad_note = λ name place bad. (let e : Verdict.Fine ≡ Verdict.Anchor name place = sym is ∙ judged_anchor files index name place bad in cc);
      too_many = λ count many. (let e : Verdict.Fine ≡ Verdict.Many count = sym is ∙ judged_many files index count many in cc);
      bad_disk = λ place named honest bad. bad_disk place honest bad;
      good_disk = λ named honest read. good_disk honest read;
    }

exact : (index : List ℕ) (files : Files) (a : ℕ) (b : Option (List ℕ)) (c d : ℕ) (disk : Told) (new : Outside) (history : List Entry) (status : Status) → NotesComes index (outside (Some files) a b c d disk) new history status → NotesExact files index disk status
exact index files a b c d disk new history Done h =
    exact_fine files index disk Done (record { keys = h.keys; named = h.named }) (λ place honest bad. absurd (opened_not_bad disk.bytes h.performed.first place (h.performed.disk.opened honest) bad)) (λ honest read. inr (inr (inl refl)))
exact index files a b c d disk new history SinkFault h =
    exact_fine files index disk SinkFault (record { keys = h.1.keys; named = h.1.named }) (λ place honest bad. absurd (opened_not_bad disk.bytes h.1.performed.first place (h.1.performed.disk.opened honest) bad)) (λ honest read. inl refl)
exact index files a b c d disk new history (BadDisk p) h =
    exact_fine files index disk (BadDisk p) h.1 (λ place honest bad. inr (inl (ap BadDisk (one_place disk.bytes p place (h.0 honest) bad)))) (λ honest read. absurd (read_not_bad disk p read (h.0 honest)))
exact index files a b c d disk new history DiskFault h = exact_fine files index disk DiskFault h.1 (λ _ _ _. inl refl) (λ _ _. inr (inl refl))
exact index files a b c d disk new history (BadIndex m) h = exact_line files index disk m h
exact index files a b c d disk new history (NoFile y) h = exact_absent files index disk y h
exact index files a b c d disk new history (BadNote other at) h = exact_anchor files index disk other at h
exact index files a b c d disk new history (TooManyKeys m) h = exact_many files index disk m h
exact index files a b c d disk new history ShelfFault h = record {
  bad_index = λ _ _. inr tt;
  no_file = λ _ _. inr tt;
  bad_note = λ _ _ _. inr tt;
  too_many = λ _ _. inr tt;
  bad_disk = λ _ _ _ _. inr (inr tt);
  good_disk = λ _ _ _. inr (inr (inr tt));
}
exact index files a b c d disk new history NoMemory h = record {
  bad_index = λ _ _. inr tt;
  no_file = λ _ _. inr tt;
  bad_note = λ _ _ _. inr tt;
  too_many = λ _ _. inr tt;
  bad_disk = λ _ _ _ _. inr (inr tt);
  good_disk = λ _ _ _. inr (inr (inr tt));
}
exact index files a b c d disk new history Usage h = absurd h
exact index files a b c d disk new history BadShape h = absurd h
exact index files a b c d disk new history (BadScript n cause) h = absurd h
exact index files a b c d disk new history (BadAu other cause) h = absurd h
exact index files a b c d disk new history (BadPackets place) h = absurd h
exact index files a b c d disk new history (JournalFull need left) h = absurd h
exact index files a b c d disk new history InDoubt h = absurd h
exact index files a b c d disk new history EpochSpent h = absurd h

no_faults : (index : List ℕ) (files : Files) (a : ℕ) (b : Option (List ℕ)) (c d : ℕ) (disk : Told) (new : Outside) (history : List Entry) → (HasRisen disk.faults new.disk.faults → ⊥) → NotesSoFar index (outside (Some files) a b c d disk) new history → NoFaults history
no_faults index files a b c d disk new history calm (inl none) = ap (count_by is_fault) none.silent
no_faults index files a b c d disk new history calm (inr ran) = no_faults_at disk.faults (count_by is_fault history) new.disk.faults calm ran.performed.disk.faults

complete : (index : List ℕ) (files : Files) (a : ℕ) (b : Option (List ℕ)) (c d : ℕ) (disk : Told) (new : Outside) (history : List Entry) (status : Status) → NotesComes index (outside (Some files) a b c d disk) new history status → NotesSoFar index (outside (Some files) a b c d disk) new history → NotesComplete files index (outside (Some files) a b c d disk) new history status
complete index files a b c d disk new history status h so_far = λ named honest read calm dry still. (by status h named honest read calm dry still, no_faults index files a b c d disk new history still so_far)
  where
    by : (status : Status) → NotesComes index (outside (Some files) a b c d disk) new history status → HaveKeys files index → IsTrue disk.honest → IsRead disk → (HasRisen a new.shelf_faults → ⊥) → (HasRisen c new.sink_faults ⊎ HasRisen d new.empty_takes → ⊥) → (HasRisen disk.faults new.disk.faults → ⊥) → (status ≡ Done) ⊎ (status ≡ NoMemory)
    by Done h named honest read calm dry still = inl refl
    by NoMemory h named honest read calm dry still = inr refl
    by SinkFault h named honest read calm dry still = absurd (dry h.0)
    by ShelfFault h named honest read calm dry still = absurd (calm h)
    by BadShape h named honest read calm dry still = absurd h
    by Usage h named honest read calm dry still = absurd h
    by (BadAu other cause) h named honest read calm dry still = absurd h
    by (BadPackets place) h named honest read calm dry still = absurd h
    by (JournalFull need left) h named honest read calm dry still = absurd h
    by InDoubt h named honest read calm dry still = absurd h
    by EpochSpent h named honest read calm dry still = absurd h
    by (BadScript n cause) h named honest read calm dry still = absurd h
    by (NoFile x) h named honest read calm dry still = let e : Verdict.Absent x ≡ Verdict.Fine = sym (judged_absent files index x h) ∙ judged_fine files index named in cc
    by (BadIndex m) h named honest read calm dry still = let e : Verdict.Line m ≡ Verdict.Fine = sym (judged_line files index m h) ∙ judged_fine files index named in cc
    by (BadNote other at) h named honest read calm dry still = let e : Verdict.Anchor other at ≡ Verdict.Fine = sym (judged_anchor files index other at h) ∙ judged_fine files index named in cc
    by (TooManyKeys m) h named honest read calm dry still = let e : Verdict.Many m ≡ Verdict.Fine = sym (judged_many files index m h) ∙ judged_fine files index named in cc
    by (BadDisk place) h named honest read calm dry still = absurd (read_not_bad disk place read (h.0 honest))
    by DiskFault h named honest read calm dry still = absurd (still h.0)

-- ---- the promise

promised : (index : List ℕ) (told : Option Files) (a : ℕ) (b : Option (List ℕ)) (c d : ℕ) (disk : Told) (new : Outside) (history : List Entry) (status : Status) → NotesComes index (outside told a b c d disk) new history status → NotesSoFar index (outside told a b c d disk) new history
    → (status ≡ Done → IfSome b (λ had. new.contents ≡ Some (had ++ text_of history))) → NotesPromise index (outside told a b c d disk) new status history
promised index None a b c d disk new history status comes so_far done = record { comes = comes; so_far = so_far; exact = tt; complete = tt; done = done }
promised index (Some files) a b c d disk new history status comes so_far done =
    record { comes = comes; so_far = so_far; exact = exact index files a b c d disk new history status comes; complete = complete index files a b c d disk new history status comes so_far; done = done }

ran_of : (told : Option Files) (index : List ℕ) (keys : List (List ℕ)) (old new : Told) (history : List Entry) → IfSome told (λ files. AreNamed files index keys) → Performed [] (λ honest first. IsOneCensus keys honest first history) old new history
    → IfSome told (λ files. CensusRan files index old new history)
ran_of None index keys old new history named performed = tt
ran_of (Some files) index keys old new history named performed = record { keys = keys; named = named; performed = performed }

have_of : (told : Option Files) (index : List ℕ) (keys : List (List ℕ)) → IfSome told (λ files. AreNamed files index keys) → IfSome told (λ files. HaveKeys files index)
have_of None index keys named = tt
have_of (Some files) index keys named = record { keys = keys; named = named }

began_of : (told : Option Files) (index : List ℕ) (keys : List (List ℕ)) (old new : Told) (history : List Entry) → IfSome told (λ files. AreNamed files index keys) → Performed [] (λ honest first. IsCensusSoFar keys honest first history) old new history
    → IfSome told (λ files. CensusBegan files index old new history)
began_of None index keys old new history named performed = tt
began_of (Some files) index keys old new history named performed = record { keys = keys; named = named; performed = performed }

comes_named : (index : List ℕ) (told : Option Files) (a : ℕ) (b : Option (List ℕ)) (c d : ℕ) (disk : Told) (new : Outside) (keys : List (List ℕ)) (history : List Entry) (status : Status) → IfSome told (λ files. AreNamed files index keys)
    → Performs ⊥ (SinkFaulted (outside told a b c d disk) new) disk new.disk status → (status ≡ Done → Performed [] (λ honest first. IsOneCensus keys honest first history) disk new.disk history)
    → (status ≡ SinkFault → Performed [] (λ honest first. IsOneCensus keys honest first history) disk new.disk history) → NotesComes index (outside told a b c d disk) new history status
comes_named index told a b c d disk new keys history Done named which done fault = ran_of told index keys disk new.disk history named (done refl)
comes_named index told a b c d disk new keys history SinkFault named which done fault = (which, ran_of told index keys disk new.disk history named (fault refl))
comes_named index told a b c d disk new keys history NoMemory named which done fault = tt
comes_named index told a b c d disk new keys history (BadDisk place) named which done fault = (which, have_of told index keys named)
comes_named index told a b c d disk new keys history DiskFault named which done fault = (which, have_of told index keys named)
comes_named index told a b c d disk new keys history Usage named which done fault = absurd which
comes_named index told a b c d disk new keys history BadShape named which done fault = absurd which
comes_named index told a b c d disk new keys history (BadScript n cause) named which done fault = absurd which
comes_named index told a b c d disk new keys history (NoFile missing) named which done fault = absurd which
comes_named index told a b c d disk new keys history ShelfFault named which done fault = absurd which
comes_named index told a b c d disk new keys history (BadAu other cause) named which done fault = absurd which
comes_named index told a b c d disk new keys history (BadPackets place) named which done fault = absurd which
comes_named index told a b c d disk new keys history (JournalFull need left) named which done fault = absurd which
comes_named index told a b c d disk new keys history InDoubt named which done fault = absurd which
comes_named index told a b c d disk new keys history EpochSpent named which done fault = absurd which
comes_named index told a b c d disk new keys history (BadIndex n) named which done fault = absurd which
comes_named index told a b c d disk new keys history (BadNote note place) named which done fault = absurd which
comes_named index told a b c d disk new keys history (TooManyKeys count) named which done fault = absurd which

-- a census whose keys are named meets no fault of the shelf
pub named_well : (sink : Type 0) (old new : Told) (status : Status) → Performs ⊥ sink old new status → status ≡ ShelfFault → ⊥
named_well sink old new status which is = subst (λ (s : Status). Performs ⊥ sink old new s) is which

-- a census of keys that are named
pub promised_census : (index : List ℕ) (told : Option Files) (a : ℕ) (b : Option (List ℕ)) (c d : ℕ) (disk : Told) (new : Outside) (keys : List (List ℕ)) (history : List Entry) (status : Status) → IfSome told (λ files. AreNamed files index keys)
    → Performs ⊥ (SinkFaulted (outside told a b c d disk) new) disk new.disk status → (status ≡ Done → Performed [] (λ honest first. IsOneCensus keys honest first history) disk new.disk history)
    → (status ≡ SinkFault → Performed [] (λ honest first. IsOneCensus keys honest first history) disk new.disk history)
    → ((history ≡ []) × IsUnchanged disk new.disk) ⊎ Performed [] (λ honest first. IsCensusSoFar keys honest first history) disk new.disk history
    → (status ≡ Done → IfSome b (λ had. new.contents ≡ Some (had ++ text_of history))) → NotesPromise index (outside told a b c d disk) new status history
promised_census index told a b c d disk new keys history status named which whole fault so_far done =
    promised index told a b c d disk new history status (comes_named index told a b c d disk new keys history status named which whole fault) (by so_far) done
  where
    by : ((history ≡ []) × IsUnchanged disk new.disk) ⊎ Performed [] (λ honest first. IsCensusSoFar keys honest first history) disk new.disk history → NotesSoFar index (outside told a b c d disk) new history
    by (inl none) = inl (record { silent = none.0; disk = none.1 })
    by (inr ran) = inr (began_of told index keys disk new.disk history named ran)

stopped : (index : List ℕ) (told : Option Files) (a : ℕ) (b : Option (List ℕ)) (c d : ℕ) (disk : Told) (new : Outside) (history : List Entry) (status : Status) → NotesStop index told (HasRisen a new.shelf_faults) status → NotesComes index (outside told a b c d disk) new history status
stopped index told a b c d disk new history Done h = absurd h
stopped index told a b c d disk new history SinkFault h = absurd h
stopped index told a b c d disk new history (BadDisk place) h = absurd h
stopped index told a b c d disk new history DiskFault h = absurd h
stopped index told a b c d disk new history Usage h = h
stopped index told a b c d disk new history BadShape h = h
stopped index told a b c d disk new history (BadScript n cause) h = h
stopped index told a b c d disk new history (NoFile x) h = h
stopped index told a b c d disk new history ShelfFault h = h
stopped index told a b c d disk new history NoMemory h = h
stopped index told a b c d disk new history (BadAu other cause) h = h
stopped index told a b c d disk new history (BadPackets place) h = h
stopped index told a b c d disk new history (JournalFull need left) h = h
stopped index told a b c d disk new history InDoubt h = h
stopped index told a b c d disk new history EpochSpent h = h
stopped index told a b c d disk new history (BadIndex n) h = h
stopped index told a b c d disk new history (BadNote note place) h = h
stopped index told a b c d disk new history (TooManyKeys count) h = h

-- what the files decide before the disk is touched
pub promised_notes_stop : (index : List ℕ) (told : Option Files) (a : ℕ) (b : Option (List ℕ)) (c d : ℕ) (disk : Told) (later : Option Files) (e : ℕ) (f : Option (List ℕ)) (g h : ℕ) (history : List Entry) (status : Status) → NotesStop index told (HasRisen a e) status → history ≡ []
    → NotesPromise index (outside told a b c d disk) (outside later e f g h disk) status history
promised_notes_stop index told a b c d disk later e f g h history status stops none =
    promised index told a b c d disk (outside later e f g h disk) history status (stopped index told a b c d disk (outside later e f g h disk) history status stops)
    (inl (record { silent = none; disk = λ honest. record { bytes = refl; now = λ image left. left; crash = λ t image within left. inl left } }))
    (λ is. absurd (subst (NotesStop index told (HasRisen a e)) is stops))
