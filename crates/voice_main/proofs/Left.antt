-- What a run that got as far as its calls leaves, and why it ended.
use Rattle.std.proofs.Common.{◌≡◌, ◌⊎◌, ◌≤◌, ℕ, inl, inr, List, [], ◌++◌, Some, None, Option, Bool, refl, subst, arith}
use Rattle.std.specs.Prelude.{IfSome, Vec}
use Rattle.std.specs.declared.alloc.Global.{Global}
use Rattle.voice_model.specs.declared.calls.Entry.{Entry}
use Rattle.voice_model.specs.Text.{text_of}
use Rattle.voice_outside.specs.Counters.{HasRisen}
use Rattle.voice_outside.specs.Disk.{Told}
use Rattle.voice_outside.specs.Files.{Files}
use Rattle.served_files.specs.declared.heard.Heard.{Heard}
use Rattle.served_files.specs.Files.{Queues, queues_of, files_set, SetInto}
use Rattle.script_lang.specs.Shown.{Reading}
use Rattle.voice_main.specs.declared.status.Status.{Status}
use Rattle.voice_main.specs.declared.status.Status.TheVariants.{Done, ShelfFault, SinkFault, BadDisk, DiskFault, NoMemory}
use Rattle.voice_main.specs.Ran.{IsReady, IsThere, Performed, Begun, MadeGiving, RanSoFar, RanWhole}
use Rattle.voice_main.specs.Played.{FilesStand, SetsAll, SetsFirst, Leaves}
use Rattle.voice_main.specs.Statuses.{Prints, Finishes, Performs, Opens}
use Rattle.voice_main.specs.Outside.{Outside, outside, SinkFaulted, IsUnchanged}
use Rattle.voice_main.specs.RunPromise.{RunComes, RunSoFar, RunPromise, FilesAreLeft}
use Rattle.voice_main.proofs.Exact.{promised}

-- ---- the files are set, and the history is printed

pub printed : (shelf sink : Type 0) (status : Status) → Prints sink status → Finishes shelf sink status
printed shelf sink ShelfFault h = absurd h
printed shelf sink status h = h

pub no_shelf_fault : (sink : Type 0) (status : Status) → Prints sink status → status ≡ ShelfFault → ⊥
no_shelf_fault sink status h is = subst (Prints sink) is h

pub stood : (told after : Option Files) (history : List Entry) (queues : Queues) (sink : Type 0) (status : Status) → Prints sink status → IfSome told (λ files. after ≡ Some (files_set history queues files))
    → IfSome told (λ files. FilesStand history queues files after status)
stood None after history queues sink status prints set = tt
stood (Some files) after history queues sink Done prints set = set
stood (Some files) after history queues sink SinkFault prints set = set
stood (Some files) after history queues sink NoMemory prints set = inl set
stood (Some files) after history queues sink status prints set = absurd prints

-- ---- the calls were made

-- the shelf's faults rose since it was read, and so since before
pub performs_since : (a e f : ℕ) (sink : Type 0) (old new : Told) (status : Status) → a ≤ e → Performs (HasRisen e f) sink old new status → Performs (HasRisen a f) sink old new status
performs_since a e f sink old new ShelfFault early h = λ below. let risen = h below in omega (arith, early, risen)
performs_since a e f sink old new Done early h = tt
performs_since a e f sink old new SinkFault early h = h
performs_since a e f sink old new status early h = h

-- a run whose files were not set leaves them
pub left_unset : (threads : Bool) (tapes : List (List ℕ)) (script : Reading) (told : Option Files) (old new : Told) (history : List Entry) (status : Status) → Opens old new status
    → IfSome told (λ files. Leaves threads tapes script files told old new history status)
left_unset threads tapes script None old new history status opens = tt
left_unset threads tapes script (Some files) old new history Done opens = absurd opens
left_unset threads tapes script (Some files) old new history SinkFault opens = absurd opens
left_unset threads tapes script (Some files) old new history ShelfFault opens = absurd opens
left_unset threads tapes script (Some files) old new history NoMemory opens = inl refl
left_unset threads tapes script (Some files) old new history status opens = refl

sets_all : (threads : Bool) (tapes : List (List ℕ)) (script : Reading) (files : Files) (after : Option Files) (old new : Told) (history : List Entry) (queues : Queues) → Performed tapes (MadeGiving threads tapes script old new history queues) old new history
    → after ≡ Some (files_set history queues files) → SetsAll threads tapes script files after old new history
sets_all threads tapes script files after old new history queues made set = record { first = made.first; made_so = (queues, made.made_so, set); disk = made.disk }

sets_first : (threads : Bool) (tapes : List (List ℕ)) (script : Reading) (files : Files) (after : Option Files) (old new : Told) (history : List Entry) (queues : Queues) → Performed tapes (MadeGiving threads tapes script old new history queues) old new history
    → IfSome after (SetInto history queues files) → SetsFirst threads tapes script files after old new history
sets_first threads tapes script files after old new history queues made set = record { first = made.first; made_so = (queues, made.made_so, set); disk = made.disk }

-- a run whose files were set, or the first of them
left_by : (threads : Bool) (tapes : List (List ℕ)) (script : Reading) (told after : Option Files) (old new : Told) (history : List Entry) (queues : Queues) (shelf sink : Type 0) (status : Status) → Performed tapes (MadeGiving threads tapes script old new history queues) old new history
    → Finishes shelf sink status → IfSome told (λ files. FilesStand history queues files after status) → IfSome told (λ files. Leaves threads tapes script files after old new history status)
left_by threads tapes script None after old new history queues shelf sink status made finishes stand = tt
left_by threads tapes script (Some files) after old new history queues shelf sink Done made finishes stand = sets_all threads tapes script files after old new history queues made stand
left_by threads tapes script (Some files) after old new history queues shelf sink SinkFault made finishes stand = sets_all threads tapes script files after old new history queues made stand
left_by threads tapes script (Some files) after old new history queues shelf sink ShelfFault made finishes stand = sets_first threads tapes script files after old new history queues made stand
left_by threads tapes script (Some files) after old new history queues shelf sink NoMemory made finishes (inl all) = inr (inl (sets_all threads tapes script files after old new history queues made all))
left_by threads tapes script (Some files) after old new history queues shelf sink NoMemory made finishes (inr first) = inr (inr (sets_first threads tapes script files after old new history queues made first))
left_by threads tapes script (Some files) after old new history queues shelf sink status made finishes stand = absurd finishes

-- the same, of what was lent to set the files
pub left_lent : (threads : Bool) (tapes : List (List ℕ)) (script : Reading) (told after : Option Files) (old new : Told) (history lent : List Entry) (heard heard_lent : List (Vec Heard Global)) (shelf sink : Type 0) (status : Status) → lent ≡ history → heard_lent ≡ heard
    → Performed tapes (MadeGiving threads tapes script old new history (queues_of heard)) old new history → Finishes shelf sink status → IfSome told (λ files. FilesStand lent (queues_of heard_lent) files after status)
    → IfSome told (λ files. Leaves threads tapes script files after old new history status)
left_lent threads tapes script told after old new history lent heard heard_lent shelf sink status same same_heard made finishes stand =
    left_by threads tapes script told after old new history (queues_of heard) shelf sink status made finishes
    (subst (λ (h : List Entry). IfSome told (λ files. FilesStand h (queues_of heard) files after status)) same (subst (λ (lists : List (Vec Heard Global)). IfSome told (λ files. FilesStand lent (queues_of lists) files after status)) same_heard stand))

-- ---- the promise of a run whose script is ready

pub there_of : (told : Option Files) (name : List ℕ) (script : Reading) (tapes : List (List ℕ)) → IfSome told (λ files. IsReady files name script tapes) → IfSome told (λ files. IsThere files name)
there_of None name script tapes ready = tt
there_of (Some files) name script tapes ready = record { script = script; tapes = tapes; ready = ready }

whole_of : (threads : Bool) (told : Option Files) (name : List ℕ) (a : ℕ) (b : Option (List ℕ)) (c d : ℕ) (disk : Told) (new : Outside) (script : Reading) (tapes : List (List ℕ)) (history : List Entry) → IfSome told (λ files. IsReady files name script tapes)
    → IfSome told (λ files. SetsAll threads tapes script files new.files disk new.disk history) → IfSome told (λ files. RanWhole threads files name (outside told a b c d disk) new history)
whole_of threads None name a b c d disk new script tapes history ready sets = tt
whole_of threads (Some files) name a b c d disk new script tapes history ready sets = record { script = script; tapes = tapes; ready = ready; performed = sets }

comes_ready : (threads : Bool) (told : Option Files) (name : List ℕ) (a : ℕ) (b : Option (List ℕ)) (c d : ℕ) (disk : Told) (new : Outside) (script : Reading) (tapes : List (List ℕ)) (history : List Entry) (status : Status) → IfSome told (λ files. IsReady files name script tapes)
    → Performs (HasRisen a new.shelf_faults) (SinkFaulted (outside told a b c d disk) new) disk new.disk status → IfSome told (λ files. Leaves threads tapes script files new.files disk new.disk history status)
    → RunComes threads name (outside told a b c d disk) new history status
comes_ready threads told name a b c d disk new script tapes history Done ready which left = whole_of threads told name a b c d disk new script tapes history ready left
comes_ready threads told name a b c d disk new script tapes history SinkFault ready which left = (which, whole_of threads told name a b c d disk new script tapes history ready left)
comes_ready threads told name a b c d disk new script tapes history NoMemory ready which left = tt
comes_ready threads told name a b c d disk new script tapes history ShelfFault ready which left = which
comes_ready threads told name a b c d disk new script tapes history (BadDisk place) ready which left = (which, there_of told name script tapes ready)
comes_ready threads told name a b c d disk new script tapes history DiskFault ready which left = (which, there_of told name script tapes ready)
comes_ready threads told name a b c d disk new script tapes history status ready which left = absurd which

so_far_from : (threads : Bool) (told : Option Files) (name : List ℕ) (script : Reading) (tapes : List (List ℕ)) (old new : Told) (history : List Entry) → IfSome told (λ files. IsReady files name script tapes)
    → (k : ℕ) × Performed tapes (Begun threads tapes script k history) old new history → IfSome told (λ files. RanSoFar threads files name old new history)
so_far_from threads None name script tapes old new history ready performed = tt
so_far_from threads (Some files) name script tapes old new history ready performed = (performed.0, record { script = script; tapes = tapes; ready = ready; performed = performed.1 })

pub so_far_ready : (threads : Bool) (told : Option Files) (name : List ℕ) (a : ℕ) (b : Option (List ℕ)) (c d : ℕ) (disk : Told) (new : Outside) (script : Reading) (tapes : List (List ℕ)) (history : List Entry) → IfSome told (λ files. IsReady files name script tapes)
    → ((history ≡ []) × IsUnchanged disk new.disk) ⊎ ((k : ℕ) × Performed tapes (Begun threads tapes script k history) disk new.disk history) → RunSoFar threads name (outside told a b c d disk) new history
so_far_ready threads told name a b c d disk new script tapes history ready (inl none) = inl (record { silent = none.0; disk = none.1 })
so_far_ready threads told name a b c d disk new script tapes history ready (inr performed) = inr (so_far_from threads told name script tapes disk new.disk history ready performed)

left_ready : (threads : Bool) (told : Option Files) (name : List ℕ) (a : ℕ) (b : Option (List ℕ)) (c d : ℕ) (disk : Told) (new : Outside) (script : Reading) (tapes : List (List ℕ)) (history : List Entry) (status : Status) → IfSome told (λ files. IsReady files name script tapes)
    → IfSome told (λ files. Leaves threads tapes script files new.files disk new.disk history status) → IfSome told (λ files. FilesAreLeft threads files name (outside told a b c d disk) new history status)
left_ready threads None name a b c d disk new script tapes history status ready left = tt
left_ready threads (Some files) name a b c d disk new script tapes history Done ready left = tt
left_ready threads (Some files) name a b c d disk new script tapes history SinkFault ready left = tt
left_ready threads (Some files) name a b c d disk new script tapes history NoMemory ready (inl same) = inl same
left_ready threads (Some files) name a b c d disk new script tapes history NoMemory ready (inr (inl all)) = inr (inl (record { script = script; tapes = tapes; ready = ready; performed = all }))
left_ready threads (Some files) name a b c d disk new script tapes history NoMemory ready (inr (inr first)) = inr (inr (record { script = script; tapes = tapes; ready = ready; performed = first }))
left_ready threads (Some files) name a b c d disk new script tapes history ShelfFault ready left = inr (record { script = script; tapes = tapes; ready = ready; performed = left })
left_ready threads (Some files) name a b c d disk new script tapes history status ready left = left

-- what the calls, the files and the print left, where the script was ready once the shelf's faults were e
pub promised_ran : (threads : Bool) (name : List ℕ) (told mid : Option Files) (a : ℕ) (b : Option (List ℕ)) (c d e : ℕ) (disk : Told) (new : Outside) (script : Reading) (tapes : List (List ℕ)) (history : List Entry) (status : Status) → mid ≡ told → a ≤ e → IfSome told (λ files. IsReady files name script tapes)
    → Performs (HasRisen e new.shelf_faults) (SinkFaulted (outside told a b c d disk) new) disk new.disk status → IfSome mid (λ files. Leaves threads tapes script files new.files disk new.disk history status)
    → ((history ≡ []) × IsUnchanged disk new.disk) ⊎ ((k : ℕ) × Performed tapes (Begun threads tapes script k history) disk new.disk history) → disk.faults ≤ new.disk.faults
    → (status ≡ Done → IfSome b (λ had. new.contents ≡ Some (had ++ text_of history))) → RunPromise threads name (outside told a b c d disk) new status history
promised_ran threads name told mid a b c d e disk new script tapes history status same early ready which left so_far later done =
    let left_told : IfSome told (λ files. Leaves threads tapes script files new.files disk new.disk history status) = subst (λ (t : Option Files). IfSome t (λ files. Leaves threads tapes script files new.files disk new.disk history status)) same left in
    promised threads name told a b c d disk new history status
    (comes_ready threads told name a b c d disk new script tapes history status ready (performs_since a e new.shelf_faults (SinkFaulted (outside told a b c d disk) new) disk new.disk status early which) left_told)
    (so_far_ready threads told name a b c d disk new script tapes history ready so_far) later
    (left_ready threads told name a b c d disk new script tapes history status ready left_told) done
