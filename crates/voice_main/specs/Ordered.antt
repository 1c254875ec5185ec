-- Entries that are those of a script's lines.
--     InOrder tapes variables lines entries      the entries are those of the lines, in order, each once, from these variables of each caller on
--     BeginsInOrder tapes lines k entries      the entries are those of the first k lines, in order, each once, and perhaps the first ones of the next line
--     EachFollows tapes lines history      the entries of each caller follow its lines
--     LineRan, LineBound      what one line adds, and what it sets
--     LineBegan      a line added the first of its entries
use Rattle.std.specs.Prelude.{ℕ, ◌+◌, List, [], ◌∷◌, ◌++◌, ◌≡◌, ◌≤◌, ◌⊎◌, cond, ◌==◌, map, take}
use Rattle.voice_model.specs.declared.calls.Entry.{Entry}
use Rattle.voice_model.specs.Follows.{Binding, Follows, variables_after}
use Rattle.script_lang.specs.declared.scripts.Line.{Line}
use Rattle.script_lang.specs.Errands.{errand_of, SameValues}
use Rattle.servings.specs.Asked.{asked_entries, AreBy}
use Rattle.served_files.specs.Lines.{lines_of_caller, entries_of_caller, DoesLine}

-- the variables of each caller
abbrev pub Variables : Type 0
Variables = ℕ → List Binding

-- no caller has set a variable
abbrev pub unset : Variables
unset = λ caller. []

-- those of one caller are set, those of the others stay
abbrev pub with_those_of : ℕ → List Binding → Variables → Variables
with_those_of caller own variables = λ other. cond (caller == other) own (variables other)

-- the entries are those of the lines, in order, each once, from these variables of each caller on
abbrev pub InOrder : List (List ℕ) → Variables → List Line → List Entry → Type 0
InOrder tapes variables [] entries = entries ≡ []
InOrder tapes variables (line ∷ lines) entries =
    (own : List Entry) × (rest : List Entry) × (entries ≡ own ++ rest) × AreBy line.caller own × DoesLine tapes (variables line.caller) line own
    × InOrder tapes (with_those_of line.caller (variables_after line.bind own (variables line.caller)) variables) lines rest

-- the entries are those of the first k lines, in order, each once, and perhaps the first ones of the next line
pub record BeginsInOrder (tapes : List (List ℕ)) (lines : List Line) (k : ℕ) (entries : List Entry) : Type 0 where
  pub front : List Entry
  pub part : List Entry
  pub more : List Entry
  pub split : entries ≡ front ++ part
  pub order : InOrder tapes unset (take k lines) front
  pub into : (part ≡ []) ⊎ InOrder tapes unset (take (k + 1) lines) (entries ++ more)

-- the entries of each caller follow its lines
abbrev pub EachFollows : List (List ℕ) → List Line → List Entry → Type 0
EachFollows tapes lines history = (caller : ℕ) → 1 ≤ caller → Follows [] (map (errand_of tapes) (lines_of_caller caller lines)) (entries_of_caller caller history)

-- a line added its entries, each once, perhaps behind a landing
pub record LineRan (tapes : List (List ℕ)) (line : Line) (variables : List Binding) (old new : List Entry) : Type 0 where
  pub own : List Entry
  pub added : asked_entries new ≡ asked_entries old ++ own
  pub by : AreBy line.caller own
  pub does : DoesLine tapes variables line own

-- and its caller's variables stand as its reply sets them
abbrev pub LineBound : List (List ℕ) → Line → List Binding → List Binding → List Entry → List Entry → Type 0
LineBound tapes line variables new_variables old new = (ran : LineRan tapes line variables old new) × SameValues new_variables (variables_after line.bind ran.own variables)

-- a line added the first of its entries, or all of them: more may be missing
pub record LineBegan (tapes : List (List ℕ)) (line : Line) (variables : List Binding) (old new : List Entry) : Type 0 where
  pub own : List Entry
  pub more : List Entry
  pub added : asked_entries new ≡ asked_entries old ++ own
  pub by : AreBy line.caller (own ++ more)
  pub does : DoesLine tapes variables line (own ++ more)
