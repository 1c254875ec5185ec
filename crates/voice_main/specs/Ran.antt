-- What a run of a script leaves.
--     OnDisk first tapes old new history      what the disk was opened as, and what a crash may leave of the history
--     Serial honest first tapes lines k history      the history of the first k lines: legal on a disk of this honesty, in order, each caller's entries following its lines
--     SerialInto honest first tapes lines k history      the same, and perhaps the first entries of the next line
--     Shared honest first tapes script history      the history of callers on threads: legal on a disk of this honesty, and each caller's entries following the first of its lines, the last of them perhaps in part
--     Performed tapes made old new history      a disk that was opened, and a history over it that was made so
--     IsReady files name script tapes      the script of that name is there, and so are its sample files
--     MadeGiving, MadeSetting, MadeSettingInto      the history of the whole script, in short turns, and what its callers heard; the files that it set;  the first of them
--     RanSoFar      the history of the first lines of the script
--     RanWhole, RanInto      the history of all, and all its files set, or the first of them
use Rattle.std.specs.Prelude.{ℕ, List, ◌≡◌, ◌≤◌, ◌+◌, Bool, true, false, Option, Some, IfSome, IsTrue, length, take}
use Rattle.std.specs.FinMap.{get}
use Rattle.voice_outside.specs.Disk.{Told}
use Rattle.voice_outside.specs.Files.{Files}
use Rattle.voice_model.specs.declared.calls.Entry.{Entry}
use Rattle.voice_model.specs.State.{State}
use Rattle.voice_model.specs.Heard.{LegalOn}
use Rattle.voice_model.specs.Image.{opened_from, recovered_from}
use Rattle.voice_model.specs.Crash.{Held}
use Rattle.turnstile.specs.Turns.{Every, IsOfPasses}
use Rattle.voice_store.specs.Stood.{AcksRise}
use Rattle.voice_store.specs.Shown.{FaultsCover}
use Rattle.voice_store.specs.Turns.{ShortTurns}
use Rattle.script_lang.specs.declared.scripts.Line.{Line}
use Rattle.script_lang.specs.Shown.{Reading}
use Rattle.script_lang.specs.Verbs.{is_built_verb}
use Rattle.script_lang.specs.Grammar.{IsScript}
use Rattle.voice_main.specs.Load.{AreFiles}
use Rattle.servings.specs.Asked.{asked_entries}
use Rattle.served_files.specs.Lines.{entries_of_caller, BeginsLines}
use Rattle.served_files.specs.Files.{Queues, IsHeard, files_set, SetInto}
use Rattle.voice_main.specs.Ordered.{InOrder, BeginsInOrder, EachFollows, unset}
use Rattle.voice_main.specs.Outside.{Outside}

-- an honest disk was opened as what its bytes recover, and a crash since an entry leaves that entry's state or a later one; the moments of the entries never fall, and at most so many entries tell of faults as faults rose
pub record OnDisk (first : State) (tapes : List (List ℕ)) (old new : Told) (history : List Entry) : Type 0 where
  pub opened : IsTrue old.honest → opened_from old.bytes ≡ Some first
  pub held : IsTrue old.honest → Held recovered_from new.may_leave first tapes (old.calls + 1) history
  pub acks : AcksRise (old.calls + 1) history new.calls
  pub faults : FaultsCover old.faults history new.faults

-- the history of the first k lines of a script: on an honest disk it is legal, and on every other it is but for the talk and peaks that were read off the disk
pub record Serial (honest : Bool) (first : State) (tapes : List (List ℕ)) (lines : List Line) (k : ℕ) (history : List Entry) : Type 0 where
  pub legal : LegalOn honest first tapes history
  pub order : InOrder tapes unset (take k lines) (asked_entries history)
  pub each : EachFollows tapes (take k lines) history

-- the entries of each caller follow the first of its lines, the last of them perhaps in part
abbrev pub EachBegins : List (List ℕ) → List Line → List Entry → Type 0
EachBegins tapes lines history = (caller : ℕ) → 1 ≤ caller → (k : ℕ) × BeginsLines tapes lines caller k (entries_of_caller caller history)

-- the history of the first k lines of a script, and perhaps the first entries of the next one
pub record SerialInto (honest : Bool) (first : State) (tapes : List (List ℕ)) (lines : List Line) (k : ℕ) (history : List Entry) : Type 0 where
  pub legal : LegalOn honest first tapes history
  pub order : BeginsInOrder tapes lines k (asked_entries history)
  pub each : EachBegins tapes lines history

-- the history of callers on threads of their own: legal on an honest disk, and on every other but for the talk and peaks that were read off the disk, each entry a landing or one of a caller of the script, and each caller's entries following the first of its lines
pub record Shared (honest : Bool) (first : State) (tapes : List (List ℕ)) (script : Reading) (history : List Entry) : Type 0 where
  pub legal : LegalOn honest first tapes history
  pub of : Every (IsOfPasses script.callers) history
  pub each : EachBegins tapes script.lines history

-- all their lines
pub record SharedWhole (honest : Bool) (first : State) (tapes : List (List ℕ)) (script : Reading) (history : List Entry) : Type 0 where
  pub legal : LegalOn honest first tapes history
  pub of : Every (IsOfPasses script.callers) history
  pub each : EachFollows tapes script.lines history

-- the history of the first lines of a script, the last of them perhaps in part: of k and some of the next in the script's order, or of callers on threads; on a disk of this honesty, from this state
abbrev pub Begun : Bool → List (List ℕ) → Reading → ℕ → List Entry → Bool → State → Type 0
Begun false tapes script k history honest first = SerialInto honest first tapes script.lines k history
Begun true tapes script k history honest first = Shared honest first tapes script history

-- the history of the whole script
abbrev pub Made : Bool → List (List ℕ) → Reading → List Entry → Bool → State → Type 0
Made false tapes script history honest first = Serial honest first tapes script.lines (length script.lines) history
Made true tapes script history honest first = SharedWhole honest first tapes script history

-- the history of the whole script, what its callers heard, and each entry within the device calls that it may take, of which opening made five at most
abbrev pub MadeGiving : Bool → List (List ℕ) → Reading → Told → Told → List Entry → Queues → Bool → State → Type 0
MadeGiving threads tapes script old new history queues honest first =
    Made threads tapes script history honest first × IsHeard honest first tapes script.lines history queues × ShortTurns first tapes (old.calls + 5) history new.calls

-- the history of the whole script, and the files once those of its servings are set
abbrev pub MadeSetting : Bool → List (List ℕ) → Reading → Told → Told → List Entry → Files → Option Files → Bool → State → Type 0
MadeSetting threads tapes script old new history files after honest first = (queues : Queues) × MadeGiving threads tapes script old new history queues honest first × (after ≡ Some (files_set history queues files))

-- the same where one of them couldn't be set: those before it are, and what it holds is open
abbrev pub MadeSettingInto : Bool → List (List ℕ) → Reading → Told → Told → List Entry → Files → Option Files → Bool → State → Type 0
MadeSettingInto threads tapes script old new history files after honest first = (queues : Queues) × MadeGiving threads tapes script old new history queues honest first × IfSome after (SetInto history queues files)

-- a disk that was opened, and a history over it that was made so, as the disk is honest or not
pub record Performed (tapes : List (List ℕ)) (made : Bool → State → Type 0) (old new : Told) (history : List Entry) : Type 0 where
  pub first : State
  pub made_so : made old.honest first
  pub disk : OnDisk first tapes old new history

-- the script of that name is there, and so are its sample files
pub record IsReady (files : Files) (name : List ℕ) (script : Reading) (tapes : List (List ℕ)) : Type 0 where
  pub bytes : List ℕ
  pub found : get files name ≡ Some bytes
  pub spelled : IsScript is_built_verb bytes script
  pub samples : AreFiles files script.samples tapes

-- all that a run wants is there
pub record IsThere (files : Files) (name : List ℕ) : Type 0 where
  pub script : Reading
  pub tapes : List (List ℕ)
  pub ready : IsReady files name script tapes

-- a script over its sample files, and a history that was made so
pub record Ran (files : Files) (name : List ℕ) (made : List (List ℕ) → Reading → Bool → State → Type 0) (old new : Told) (history : List Entry) : Type 0 where
  pub script : Reading
  pub tapes : List (List ℕ)
  pub ready : IsReady files name script tapes
  pub performed : Performed tapes (made tapes script) old new history

-- the history of the first k lines
abbrev pub RanSoFar : Bool → Files → List ℕ → Told → Told → List Entry → Type 0
RanSoFar threads files name old new history = (k : ℕ) × Ran files name (λ tapes script honest first. Begun threads tapes script k history honest first) old new history

-- the history of the whole script, and its files set
abbrev pub RanWhole : Bool → Files → List ℕ → Outside → Outside → List Entry → Type 0
RanWhole threads files name old new history = Ran files name (λ tapes script honest first. MadeSetting threads tapes script old.disk new.disk history files new.files honest first) old.disk new.disk history

-- the history of the whole script, and the first of its files set
abbrev pub RanInto : Bool → Files → List ℕ → Outside → Outside → List Entry → Type 0
RanInto threads files name old new history = Ran files name (λ tapes script honest first. MadeSettingInto threads tapes script old.disk new.disk history files new.files honest first) old.disk new.disk history
