-- The lines of one caller.
--     lines_of_caller caller lines      those of the lines that are the caller's
--     entries_of_caller caller history      those of the entries that are the caller's
--     DoesLine tapes variables line own      the entries of one line, as its caller's variables stand
--     BeginsLines tapes lines caller k entries      the entries are those of the caller's lines among the first k, and perhaps the first ones of the next line
use Rattle.std.specs.Prelude.{ℕ, ◌+◌, List, [], ◌++◌, ◌≡◌, ◌⊎◌, ◌==◌, map, filter, take}
use Rattle.voice_model.specs.declared.calls.Entry.{Entry}
use Rattle.voice_model.specs.Follows.{Binding, Does, Follows}
use Rattle.script_lang.specs.declared.scripts.Line.{Line}
use Rattle.script_lang.specs.Errands.{errand_of}

abbrev pub lines_of_caller : ℕ → List Line → List Line
lines_of_caller caller lines = filter (λ line. line.caller == caller) lines

abbrev pub entries_of_caller : ℕ → List Entry → List Entry
entries_of_caller caller entries = filter (λ e. e.caller == caller) entries

-- the entries of one line, as its caller's variables stand
abbrev pub DoesLine : List (List ℕ) → List Binding → Line → List Entry → Type 0
DoesLine tapes variables line own = Does ((errand_of tapes line).asks variables) (errand_of tapes line).serves own

-- the entries are those of the caller's lines among the first k, in order, each once, and perhaps the first ones of the next line
pub record BeginsLines (tapes : List (List ℕ)) (lines : List Line) (caller k : ℕ) (entries : List Entry) : Type 0 where
  pub front : List Entry
  pub part : List Entry
  pub more : List Entry
  pub split : entries ≡ front ++ part
  pub follows : Follows [] (map (errand_of tapes) (lines_of_caller caller (take k lines))) front
  pub into : (part ≡ []) ⊎ Follows [] (map (errand_of tapes) (lines_of_caller caller (take (k + 1) lines))) (entries ++ more)
