-- The files that a history sets.
--     GivenFile      a file that a serving gives: its name and its bytes
--     Queues      the files of each caller, from its first serving on
--     queues_of heard      what each caller heard, the first list that of caller 1
--     files_set entries queues files      the files, once those of the entries that end servings are set, in the entries' order, for each the next one of its caller
--     queues_after entries queues      the files of each caller that come then
--     SetInto history queues old new      those of the first entries are set, and what the next one holds is open
--     AreEnough history lists      there is a file for each entry that ends a serving
--     IsHeard honest first tapes lines history queues      the files of a finished script: the names that its lines give, and on an honest disk the bytes that its servings give
use Rattle.std.specs.Prelude.{ℕ, zero, suc, ◌≡◌, ◌≤◌, ◌==◌, Bool, true, IsTrue, cond, List, [], ◌∷◌, ◌++◌, map, drop, length, count_by, Vec}
use Rattle.voice_model.specs.Valid.{Every}
use Rattle.std.specs.declared.alloc.Global.{Global}
use Rattle.std.specs.FinMap as map_of
use Rattle.voice_outside.specs.Files.{Files, SameElsewhere}
use Rattle.voice_model.specs.declared.calls.Entry.{Entry}
use Rattle.voice_model.specs.State.{State}
use Rattle.script_lang.specs.declared.scripts.Line.{Line}
use Rattle.served_files.specs.declared.heard.Heard.{Heard}
use Rattle.served_files.specs.Lines.{lines_of_caller, entries_of_caller}
use Rattle.served_files.specs.Given.{ends_serving, gives_to, GivesFiles, GivesTo}

-- a file that a serving gives
pub record GivenFile : Type 0 where
  pub name : List ℕ
  pub bytes : List ℕ

-- the files of each caller, from its first serving on
abbrev pub Queues : Type 0
Queues = ℕ → List GivenFile

abbrev pub given_of : Heard → GivenFile
given_of h = record { name = h.file; bytes = h.bytes.items }

-- what a caller heard, where the first list is that of caller 1
abbrev pub heard_of : List (Vec Heard Global) → ℕ → List Heard
heard_of lists zero = []
heard_of [] (suc i) = []
heard_of (v ∷ vs) (suc zero) = v.items
heard_of (v ∷ vs) (suc (suc i)) = heard_of vs (suc i)

abbrev pub queues_of : List (Vec Heard Global) → Queues
queues_of lists = λ caller. map given_of (heard_of lists caller)

-- the first file of a queue is set
abbrev pub first_set : List GivenFile → Files → Files
first_set [] files = files
first_set (f ∷ fs) files = map_of.insert files f.name f.bytes

-- the first file of the caller is done
abbrev pub one_done : ℕ → Queues → Queues
one_done caller queues = λ other. cond (caller == other) (drop 1 (queues other)) (queues other)

-- the files of each caller that come behind these entries
abbrev pub queues_after : List Entry → Queues → Queues
queues_after [] queues = queues
queues_after (e ∷ es) queues = cond (ends_serving e) (queues_after es (one_done e.caller queues)) (queues_after es queues)

-- the files, once those of the entries that end servings are set, in the entries' order, for each the next one of its caller
abbrev pub files_set : List Entry → Queues → Files → Files
files_set [] queues files = files
files_set (e ∷ es) queues files = cond (ends_serving e) (files_set es (one_done e.caller queues) (first_set (queues e.caller) files)) (files_set es queues files)

-- the files of the first entries are set, and no other file changed but the next one to be set
pub record SetInto (history : List Entry) (queues : Queues) (old new : Files) : Type 0 where
  pub front : List Entry
  pub entry : Entry
  pub rest : List Entry
  pub split : history ≡ front ++ entry ∷ rest
  pub ends : ends_serving entry ≡ true
  pub file : GivenFile
  pub more : List GivenFile
  pub next : queues_after front queues entry.caller ≡ file ∷ more
  pub elsewhere : SameElsewhere file.name (files_set front queues old) new

-- there is a file for each entry that ends a serving: it is of a caller with a list, which has as many files as there are such entries
pub record AreEnough (history : List Entry) (lists : List (Vec Heard Global)) : Type 0 where
  pub callers : Every (λ e. ends_serving e ≡ true → (1 ≤ e.caller) × (e.caller ≤ length lists)) history
  pub files : (caller : ℕ) → 1 ≤ caller → count_by (gives_to caller) history ≤ length (heard_of lists caller)

-- the files of a finished script: of each caller the names that its lines give, and on an honest disk the bytes that its servings give, as the state first and the history tell them
pub record IsHeard (honest : Bool) (first : State) (tapes : List (List ℕ)) (lines : List Line) (history : List Entry) (queues : Queues) : Type 0 where
  pub names : (caller : ℕ) → 1 ≤ caller → GivesFiles tapes [] (lines_of_caller caller lines) (entries_of_caller caller history) (map (λ f. f.name) (queues caller))
  pub bytes : IsTrue honest → (caller : ℕ) → 1 ≤ caller → GivesTo caller first tapes history (map (λ f. f.bytes) (queues caller))
