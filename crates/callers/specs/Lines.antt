-- What one caller's lines add to its entries.
--     IsRunnable samples line      what running a line relies on
--     LineBegan      a line added the first of its entries
--     Followed tapes lines k caller old new      the caller gained the entries of its lines among the first k
--     FollowedInto tapes lines k caller old new      the same, and perhaps the first entries of the next line
--     Stopped tapes lines caller old new      the caller stopped at a line of its own
use Rattle.std.specs.Prelude.{ℕ, List, [], ◌++◌, ◌≡◌, Some, IsTrue, map, take, slice_get}
use Rattle.voice_model.specs.declared.calls.Entry.{Entry}
use Rattle.voice_model.specs.Follows.{Binding, Follows}
use Rattle.script_lang.specs.declared.scripts.Line.{Line}
use Rattle.script_lang.specs.Errands.{errand_of, HasTape, HasFile, HasItsRopes, IsInItsRange}
use Rattle.script_lang.specs.Grammar.{verb_name, IsBound}
use Rattle.script_lang.specs.Verbs.{is_built_verb}
use Rattle.served_files.specs.Lines.{lines_of_caller, DoesLine, BeginsLines}

-- what running a line relies on, over so many tapes: its verb is one that callers run, its tape, its file and its ropes are there where it needs them, it binds a variable only where it may, and its numbers are in their ranges
pub record IsRunnable (samples : ℕ) (line : Line) : Type 0 where
  pub verb : IsTrue (is_built_verb (verb_name line.verb))
  pub tape : HasTape samples line.verb
  pub file : HasFile line.verb line.file
  pub bind : IsBound line.verb line.bind
  pub ropes : HasItsRopes line.verb
  pub range : IsInItsRange line.verb

-- a line added the first of its entries, or all of them: more may be missing
pub record LineBegan (tapes : List (List ℕ)) (line : Line) (variables : List Binding) (old new : List Entry) : Type 0 where
  pub own : List Entry
  pub more : List Entry
  pub added : new ≡ old ++ own
  pub does : DoesLine tapes variables line (own ++ more)

-- the caller gained the entries of its lines among the first k, in order, each once
pub record Followed (tapes : List (List ℕ)) (lines : List Line) (k caller : ℕ) (old new : List Entry) : Type 0 where
  pub own : List Entry
  pub gained : new ≡ old ++ own
  pub follows : Follows [] (map (errand_of tapes) (lines_of_caller caller (take k lines))) own

-- the same, and perhaps the first entries of the next line
pub record FollowedInto (tapes : List (List ℕ)) (lines : List Line) (k caller : ℕ) (old new : List Entry) : Type 0 where
  pub own : List Entry
  pub gained : new ≡ old ++ own
  pub begins : BeginsLines tapes lines caller k own

-- the caller stopped at a line of its own: it gained the entries of its lines before that one, and perhaps some of that one's, or all
pub record Stopped (tapes : List (List ℕ)) (lines : List Line) (caller : ℕ) (old new : List Entry) : Type 0 where
  pub number : ℕ
  pub line : Line
  pub there : slice_get lines number ≡ Some line
  pub is_own : line.caller ≡ caller
  pub ran : FollowedInto tapes lines number caller old new
