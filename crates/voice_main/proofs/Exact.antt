-- The statuses that the files decide exclude one another.
use Rattle.std.proofs.Common.{◌≡◌, ℕ, zero, suc, ◌⊎◌, ◌<◌, ◌≤◌, ◌-◌, ◌^◌, ◌+◌, inl, inr, List, [], ◌∷◌, ◌++◌, map, Some, None, Option, Bool, sym, refl, ap, subst, ◌∙◌, arith}
use Rattle.std.specs.Prelude.{IfSome, IsTrue, count_by}
use Rattle.std.specs.FinMap.{get}
use Rattle.voice_model.specs.declared.calls.Entry.{Entry}
use Rattle.voice_model.specs.Text.{text_of}
use Rattle.voice_outside.specs.Counters.{HasRisen}
use Rattle.voice_outside.specs.Disk.{Told}
use Rattle.voice_outside.specs.Files.{Files}
use Rattle.voice_model.specs.Image as image
use Rattle.voice_model.specs.State.{State}
use Rattle.voice_store.specs.Stood.{is_fault}
use Rattle.voice_main.specs.declared.status.Status.{Status}
use Rattle.voice_main.specs.declared.status.Status.TheVariants.{Done, Usage, BadShape, BadScript, NoFile, ShelfFault, SinkFault, BadDisk, DiskFault, NoMemory, BadAu, BadIndex, BadNote, TooManyKeys, BadPackets, JournalFull, InDoubt, EpochSpent}
use Rattle.script_lang.specs.declared.scripts.Cause.{Cause}
use Rattle.script_lang.specs.Shown.{Reading}
use Rattle.script_lang.specs.Words.{lines_of}
use Rattle.script_lang.specs.Verbs.{is_built_verb}
use Rattle.script_lang.specs.Grammar.{IsScript}
use Rattle.script_lang.specs.Causes.{FirstBad}
use Rattle.voice_main.specs.Load.{AreFiles, FirstAbsent}
use Rattle.voice_main.specs.Outside.{Outside, outside}
use Rattle.voice_main.specs.Ran.{IsReady, IsThere}
use Rattle.voice_main.specs.RunPromise.{IsBadScript, IsNoFile, IsRead, IsExact, IsComplete, NoFaults, FilesAreLeft, RunComes, RunSoFar, RunPromise}
use Rattle.voice_main.specs.Statuses.{Stops}
use Rattle.script_lang.proofs.Again.{bad_again, stopped_is}
use Rattle.script_lang.proofs.Once.{one_script, script_not_bad}

same_bytes : (files : Files) (name x y : List ℕ) → get files name ≡ Some x → get files name ≡ Some y → x ≡ y
same_bytes files name x y p q = let e : Some x ≡ Some y = sym p ∙ q in cc

there_all : (files : Files) (front rest tapes : List (List ℕ)) (x : List ℕ) → map (get files) (front ++ x ∷ rest) ≡ map Some tapes → get files x ≡ None → ⊥
there_all files [] rest [] x e gone = cc
there_all files [] rest (t ∷ tapes) x e gone = let here : get files x ≡ Some t = cc in cc
there_all files (f ∷ front) rest [] x e gone = cc
there_all files (f ∷ front) rest (t ∷ tapes) x e gone = let tail : map (get files) (front ++ x ∷ rest) ≡ map Some tapes = cc in there_all files front rest tapes x tail gone

all_not_absent : (files : Files) (names tapes : List (List ℕ)) (x : List ℕ) → AreFiles files names tapes → FirstAbsent files names x → ⊥
all_not_absent files names tapes x there absent =
    there_all files absent.front absent.rest tapes x (ap (map (get files)) (sym absent.whole) ∙ there) absent.absent

one_absent_from : (files : Files) (front other rest more tapes texts : List (List ℕ)) (x y : List ℕ) → front ++ x ∷ rest ≡ other ++ y ∷ more → map (get files) front ≡ map Some tapes →
    map (get files) other ≡ map Some texts → get files x ≡ None → get files y ≡ None → x ≡ y
one_absent_from files [] [] rest more tapes texts x y e p q gone lost = cc
one_absent_from files [] (o ∷ other) rest more tapes [] x y e p q gone lost = cc
one_absent_from files [] (o ∷ other) rest more tapes (t ∷ texts) x y e p q gone lost =
    let same : x ≡ o = cc in let here : get files o ≡ Some t = cc in let no_other : Some t ≡ None = sym here ∙ ap (get files) (sym same) ∙ gone in cc
one_absent_from files (f ∷ front) [] rest more [] texts x y e p q gone lost = cc
one_absent_from files (f ∷ front) [] rest more (t ∷ tapes) texts x y e p q gone lost =
    let same : f ≡ y = cc in let here : get files f ≡ Some t = cc in let no_other : Some t ≡ None = sym here ∙ ap (get files) same ∙ lost in cc
one_absent_from files (f ∷ front) (o ∷ other) rest more [] texts x y e p q gone lost = cc
one_absent_from files (f ∷ front) (o ∷ other) rest more (t ∷ tapes) [] x y e p q gone lost = cc
one_absent_from files (f ∷ front) (o ∷ other) rest more (t ∷ tapes) (u ∷ texts) x y e p q gone lost =
    let tail : front ++ x ∷ rest ≡ other ++ y ∷ more = cc in
    let first : map (get files) front ≡ map Some tapes = cc in
    let second : map (get files) other ≡ map Some texts = cc in
    one_absent_from files front other rest more tapes texts x y tail first second gone lost

one_absent : (files : Files) (names : List (List ℕ)) (x y : List ℕ) → FirstAbsent files names x → FirstAbsent files names y → x ≡ y
one_absent files names x y a b = one_absent_from files a.front b.front a.rest b.rest a.tapes b.tapes x y (sym a.whole ∙ b.whole) a.there b.there a.absent b.absent

none_some : (files : Files) (name x : List ℕ) → get files name ≡ None → get files name ≡ Some x → ⊥
none_some files name x p q = let e : None ≡ Some x = sym p ∙ q in cc

-- a script that is ready has no bad line, and no file of it is absent
ready_not_bad : (files : Files) (name : List ℕ) (script : Reading) (tapes : List (List ℕ)) (n : ℕ) (cause : Cause) → IsReady files name script tapes → IsBadScript files name n cause → ⊥
ready_not_bad files name script tapes n cause r b =
    script_not_bad is_built_verb b.bytes script n cause (subst (λ bytes. IsScript is_built_verb bytes script) (same_bytes files name r.bytes b.bytes r.found b.found) r.spelled) b.bad

ready_not_absent : (files : Files) (name : List ℕ) (script : Reading) (tapes : List (List ℕ)) (x : List ℕ) → IsReady files name script tapes → IsNoFile files name x → ⊥
ready_not_absent files name script tapes x r (inl w) = none_some files name r.bytes w.1 r.found
ready_not_absent files name script tapes x r (inr w) =
    let same = same_bytes files name r.bytes w.bytes r.found w.found in
    let scripts = one_script is_built_verb w.bytes script w.script (subst (λ bytes. IsScript is_built_verb bytes script) same r.spelled) w.spelled in
    all_not_absent files w.script.samples tapes x (subst (λ (s : Reading). AreFiles files s.samples tapes) scripts r.samples) w.absent

bad_not_absent : (files : Files) (name : List ℕ) (n : ℕ) (cause : Cause) (x : List ℕ) → IsBadScript files name n cause → IsNoFile files name x → ⊥
bad_not_absent files name n cause x b (inl w) = none_some files name b.bytes w.1 b.found
bad_not_absent files name n cause x b (inr w) =
    script_not_bad is_built_verb b.bytes w.script n cause (subst (λ bytes. IsScript is_built_verb bytes w.script) (same_bytes files name w.bytes b.bytes w.found b.found) w.spelled) b.bad

-- bytes have one first bad line, and that has one first cause
one_bad : (bytes : List ℕ) (n m : ℕ) (c d : Cause) → FirstBad is_built_verb bytes n c → FirstBad is_built_verb bytes m d → BadScript n c ≡ BadScript m d
one_bad bytes n m c d p q =
    let same = stopped_is n m c d (sym (bad_again is_built_verb (lines_of bytes) n c p) ∙ bad_again is_built_verb (lines_of bytes) m d q) in
    ap (λ line. BadScript line c) same.0 ∙ ap (BadScript m) same.1

one_bad_script : (files : Files) (name : List ℕ) (n m : ℕ) (c d : Cause) → IsBadScript files name n c → IsBadScript files name m d → BadScript n c ≡ BadScript m d
one_bad_script files name n m c d a b = one_bad b.bytes n m c d (subst (λ bytes. FirstBad is_built_verb bytes n c) (same_bytes files name a.bytes b.bytes a.found b.found) a.bad) b.bad

one_no_file : (files : Files) (name x y : List ℕ) → IsNoFile files name x → IsNoFile files name y → x ≡ y
one_no_file files name x y (inl v) (inl w) = v.0 ∙ sym w.0
one_no_file files name x y (inl v) (inr w) = absurd (none_some files name w.bytes v.1 w.found)
one_no_file files name x y (inr v) (inl w) = absurd (none_some files name v.bytes w.1 v.found)
one_no_file files name x y (inr v) (inr w) =
    let same = same_bytes files name v.bytes w.bytes v.found w.found in
    let scripts = one_script is_built_verb w.bytes v.script w.script (subst (λ bytes. IsScript is_built_verb bytes v.script) same v.spelled) w.spelled in
    one_absent files w.script.samples x y (subst (λ (s : Reading). FirstAbsent files s.samples x) scripts v.absent) w.absent

-- ---- the disk

pub one_place : (bytes : List ℕ) (a b : ℕ) → image.reading bytes ≡ image.Reading.Bad a → image.reading bytes ≡ image.Reading.Bad b → a ≡ b
one_place bytes a b p q = let e : image.Reading.Bad a ≡ image.Reading.Bad b = sym p ∙ q in cc

pub read_not_bad : (disk : Told) (place : ℕ) → IsRead disk → image.reading disk.bytes ≡ image.Reading.Bad place → ⊥
read_not_bad disk place r bad = let e : image.Reading.Reads r.journal r.rebuilt ≡ image.Reading.Bad place = sym r.reads ∙ bad in cc

pub opened_not_bad : (bytes : List ℕ) (first : State) (place : ℕ) → image.opened_from bytes ≡ Some first → image.reading bytes ≡ image.Reading.Bad place → ⊥
opened_not_bad bytes first place opened bad = let e : Some first ≡ None = sym opened ∙ ap (image.opened_by bytes) bad in cc

pub exact : (threads : Bool) (name : List ℕ) (files : Files) (a : ℕ) (b : Option (List ℕ)) (c d : ℕ) (disk : Told) (new : Outside) (history : List Entry) (status : Status) → RunComes threads name (outside (Some files) a b c d disk) new history status → IsExact files name disk status
exact threads name files a b c d disk new history Done h = record {
  bad_script = λ n cause bad. absurd (ready_not_bad files name h.script h.tapes n cause h.ready bad);
  no_file = λ x gone. absurd (ready_not_absent files name h.script h.tapes x h.ready gone);
  bad_disk = λ place there honest bad. absurd (opened_not_bad disk.bytes h.performed.first place (h.performed.disk.opened honest) bad);
  good_disk = λ there honest read. inr (inr (inl refl));
}
exact threads name files a b c d disk new history SinkFault h = record {
  bad_script = λ n cause bad. absurd (ready_not_bad files name h.1.script h.1.tapes n cause h.1.ready bad);
  no_file = λ x gone. absurd (ready_not_absent files name h.1.script h.1.tapes x h.1.ready gone);
  bad_disk = λ place there honest bad. absurd (opened_not_bad disk.bytes h.1.performed.first place (h.1.performed.disk.opened honest) bad);
  good_disk = λ there honest read. inl refl;
}
exact threads name files a b c d disk new history (BadDisk p) h = record {
  bad_script = λ n cause bad. absurd (ready_not_bad files name h.1.script h.1.tapes n cause h.1.ready bad);
  no_file = λ x gone. absurd (ready_not_absent files name h.1.script h.1.tapes x h.1.ready gone);
  bad_disk = λ place there honest bad. inr (inl (ap BadDisk (one_place disk.bytes p place (h.0 honest) bad)));
  good_disk = λ there honest read. absurd (read_not_bad disk p read (h.0 honest));
}
exact threads name files a b c d disk new history DiskFault h = record {
  bad_script = λ n cause bad. absurd (ready_not_bad files name h.1.script h.1.tapes n cause h.1.ready bad);
  no_file = λ x gone. absurd (ready_not_absent files name h.1.script h.1.tapes x h.1.ready gone);
  bad_disk = λ _ _ _ _. inl refl;
  good_disk = λ _ _ _. inr (inl refl);
}
exact threads name files a b c d disk new history Usage h = absurd h
exact threads name files a b c d disk new history (BadAu other cause) h = absurd h
exact threads name files a b c d disk new history (BadIndex line) h = absurd h
exact threads name files a b c d disk new history (BadNote note place) h = absurd h
exact threads name files a b c d disk new history (TooManyKeys count) h = absurd h
exact threads name files a b c d disk new history (BadPackets place) h = absurd h
exact threads name files a b c d disk new history (JournalFull need left) h = absurd h
exact threads name files a b c d disk new history InDoubt h = absurd h
exact threads name files a b c d disk new history EpochSpent h = absurd h
exact threads name files a b c d disk new history BadShape h = absurd h
exact threads name files a b c d disk new history (BadScript m why) h = record {
  bad_script = λ n cause bad. inl (one_bad_script files name m n why cause h bad);
  no_file = λ x gone. absurd (bad_not_absent files name m why x h gone);
  bad_disk = λ place there honest bad. absurd (ready_not_bad files name there.script there.tapes m why there.ready h);
  good_disk = λ there honest read. absurd (ready_not_bad files name there.script there.tapes m why there.ready h);
}
exact threads name files a b c d disk new history (NoFile y) h = record {
  bad_script = λ n cause bad. absurd (bad_not_absent files name n cause y bad h);
  no_file = λ x gone. inl (ap NoFile (one_no_file files name y x h gone));
  bad_disk = λ place there honest bad. absurd (ready_not_absent files name there.script there.tapes y there.ready h);
  good_disk = λ there honest read. absurd (ready_not_absent files name there.script there.tapes y there.ready h);
}
exact threads name files a b c d disk new history ShelfFault h = record {
  bad_script = λ _ _ _. inr tt;
  no_file = λ _ _. inr tt;
  bad_disk = λ _ _ _ _. inr (inr tt);
  good_disk = λ _ _ _. inr (inr (inr tt));
}
exact threads name files a b c d disk new history NoMemory h = record {
  bad_script = λ _ _ _. inr tt;
  no_file = λ _ _. inr tt;
  bad_disk = λ _ _ _ _. inr (inr tt);
  good_disk = λ _ _ _. inr (inr (inr tt));
}

-- ---- where no count rose

pub no_faults_at : (low n high : ℕ) → (HasRisen low high → ⊥) → (high < 2 ^ 64 - 1 → low + n ≤ high) → n ≡ 0
no_faults_at low zero high calm covers = refl
no_faults_at low (suc n) high calm covers = absurd (calm (λ below. let most = covers below in omega (arith, most)))

no_faults : (threads : Bool) (name : List ℕ) (files : Files) (a : ℕ) (b : Option (List ℕ)) (c d : ℕ) (disk : Told) (new : Outside) (history : List Entry) → disk.faults ≤ new.disk.faults → (HasRisen disk.faults new.disk.faults → ⊥) → RunSoFar threads name (outside (Some files) a b c d disk) new history → NoFaults history
no_faults threads name files a b c d disk new history later calm (inl none) = ap (count_by is_fault) none.silent
no_faults threads name files a b c d disk new history later calm (inr ran) = no_faults_at disk.faults (count_by is_fault history) new.disk.faults calm ran.1.performed.disk.faults

pub complete : (threads : Bool) (name : List ℕ) (files : Files) (a : ℕ) (b : Option (List ℕ)) (c d : ℕ) (disk : Told) (new : Outside) (history : List Entry) (status : Status) → RunComes threads name (outside (Some files) a b c d disk) new history status → RunSoFar threads name (outside (Some files) a b c d disk) new history → disk.faults ≤ new.disk.faults → IsComplete files name (outside (Some files) a b c d disk) new history status
complete threads name files a b c d disk new history status h so_far later = λ there honest read calm dry still. (by status h there honest read calm dry still, no_faults threads name files a b c d disk new history later still so_far)
  where
    by : (status : Status) → RunComes threads name (outside (Some files) a b c d disk) new history status → IsThere files name → IsTrue disk.honest → IsRead disk → (HasRisen a new.shelf_faults → ⊥) → (HasRisen c new.sink_faults ⊎ HasRisen d new.empty_takes → ⊥) → (HasRisen disk.faults new.disk.faults → ⊥) → (status ≡ Done) ⊎ (status ≡ NoMemory)
    by Done h there honest read calm dry still = inl refl
    by NoMemory h there honest read calm dry still = inr refl
    by SinkFault h there honest read calm dry still = absurd (dry h.0)
    by ShelfFault h there honest read calm dry still = absurd (calm h)
    by BadShape h there honest read calm dry still = absurd h
    by Usage h there honest read calm dry still = absurd h
    by (BadAu other cause) h there honest read calm dry still = absurd h
    by (BadIndex line) h there honest read calm dry still = absurd h
    by (BadNote note place) h there honest read calm dry still = absurd h
    by (TooManyKeys count) h there honest read calm dry still = absurd h
    by (BadPackets place) h there honest read calm dry still = absurd h
    by (JournalFull need left) h there honest read calm dry still = absurd h
    by InDoubt h there honest read calm dry still = absurd h
    by EpochSpent h there honest read calm dry still = absurd h
    by (BadScript n cause) h there honest read calm dry still = absurd (ready_not_bad files name there.script there.tapes n cause there.ready h)
    by (NoFile x) h there honest read calm dry still = absurd (ready_not_absent files name there.script there.tapes x there.ready h)
    by (BadDisk place) h there honest read calm dry still = absurd (read_not_bad disk place read (h.0 honest))
    by DiskFault h there honest read calm dry still = absurd (still h.0)

-- ---- the promise of a run

pub promised : (threads : Bool) (name : List ℕ) (told : Option Files) (a : ℕ) (b : Option (List ℕ)) (c d : ℕ) (disk : Told) (new : Outside) (history : List Entry) (status : Status) → RunComes threads name (outside told a b c d disk) new history status → RunSoFar threads name (outside told a b c d disk) new history
    → disk.faults ≤ new.disk.faults → IfSome told (λ files. FilesAreLeft threads files name (outside told a b c d disk) new history status) → (status ≡ Done → IfSome b (λ had. new.contents ≡ Some (had ++ text_of history))) → RunPromise threads name (outside told a b c d disk) new status history
promised threads name None a b c d disk new history status comes so_far later left done = record { comes = comes; so_far = so_far; exact = tt; complete = tt; left = tt; done = done }
promised threads name (Some files) a b c d disk new history status comes so_far later left done =
    record { comes = comes; so_far = so_far; exact = exact threads name files a b c d disk new history status comes; complete = complete threads name files a b c d disk new history status comes so_far later; left = left; done = done }

pub stopped : (threads : Bool) (name : List ℕ) (told : Option Files) (a : ℕ) (b : Option (List ℕ)) (c d : ℕ) (disk : Told) (new : Outside) (history : List Entry) (status : Status) → Stops name told (HasRisen a new.shelf_faults) status → RunComes threads name (outside told a b c d disk) new history status
stopped threads name told a b c d disk new history Done h = absurd h
stopped threads name told a b c d disk new history Usage h = h
stopped threads name told a b c d disk new history BadShape h = h
stopped threads name told a b c d disk new history (BadScript n cause) h = h
stopped threads name told a b c d disk new history (NoFile x) h = h
stopped threads name told a b c d disk new history ShelfFault h = h
stopped threads name told a b c d disk new history SinkFault h = absurd h
stopped threads name told a b c d disk new history (BadDisk place) h = absurd h
stopped threads name told a b c d disk new history DiskFault h = absurd h
stopped threads name told a b c d disk new history (BadAu other cause) h = absurd h
stopped threads name told a b c d disk new history (BadIndex line) h = absurd h
stopped threads name told a b c d disk new history (BadNote note place) h = absurd h
stopped threads name told a b c d disk new history (TooManyKeys count) h = absurd h
stopped threads name told a b c d disk new history (BadPackets place) h = absurd h
stopped threads name told a b c d disk new history (JournalFull need left) h = absurd h
stopped threads name told a b c d disk new history InDoubt h = absurd h
stopped threads name told a b c d disk new history EpochSpent h = absurd h
stopped threads name told a b c d disk new history NoMemory h = tt

-- it leaves the files
stopped_left : (threads : Bool) (name : List ℕ) (told later : Option Files) (a e : ℕ) (b : Option (List ℕ)) (c d : ℕ) (disk : Told) (history : List Entry) (status : Status) → later ≡ told → history ≡ []
    → IfSome told (λ files. FilesAreLeft threads files name (outside told a b c d disk) (outside later e b c d disk) history status)
stopped_left threads name None later a e b c d disk history status same none = tt
stopped_left threads name (Some files) later a e b c d disk history Done same none = tt
stopped_left threads name (Some files) later a e b c d disk history SinkFault same none = tt
stopped_left threads name (Some files) later a e b c d disk history NoMemory same none = inl same
stopped_left threads name (Some files) later a e b c d disk history ShelfFault same none = inl (record { silent = none; files = same; disk = record { bytes = refl; calls = refl; faults = refl }; crash = λ moment image left. left; contents = refl })
stopped_left threads name (Some files) later a e b c d disk history status same none = same

-- a run that ended before it touched the disk
pub promised_stop : (threads : Bool) (name : List ℕ) (told later : Option Files) (a e : ℕ) (b : Option (List ℕ)) (c d : ℕ) (disk : Told) (history : List Entry) (status : Status) → Stops name told (HasRisen a e) status → later ≡ told → history ≡ []
    → RunPromise threads name (outside told a b c d disk) (outside later e b c d disk) status history
promised_stop threads name told later a e b c d disk history status stops same none =
    promised threads name told a b c d disk (outside later e b c d disk) history status (stopped threads name told a b c d disk (outside later e b c d disk) history status stops)
    (inl (record { silent = none; disk = λ honest. record { bytes = refl; now = λ image left. left; crash = λ t image within left. inl left } })) (omega arith)
    (stopped_left threads name told later a e b c d disk history status same none) (λ is. absurd (subst (Stops name told (HasRisen a e)) is stops))
