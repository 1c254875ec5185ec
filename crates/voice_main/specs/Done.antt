-- What one line of a serial run makes, and what it gives its caller.
--     to_serve lane made      the lane that is served behind the call that a line made, if it is
--     CallMade tapes line stand after made old new      the call of a line was made, or it has none, and its caller's variables stand as its reply sets them
--     LaneServed, LaneServedInto      a lane was served for a caller, which gave a file of this name, if it gave one;  or in part
--     LineDone tapes line stand after old new was now      a line was done: its entries, its caller's variables, and the name of the file that it gave, if it gave one
--     LaneGave first tapes caller lane old new was now      what was heard of the lane is what its serving gives, and the lane is at rest behind it
--     LineGave first tapes caller old new was now      the same of a line, and all lanes are
--     AreGiven first tapes history lists      each caller heard what its servings give, and all lanes are at rest
use Rattle.std.specs.Prelude.{ℕ, List, [], ◌++◌, ◌≡◌, ◌≤◌, Option, Some, None, Vec}
use Rattle.std.specs.declared.alloc.Global.{Global}
use Rattle.voice_model.specs.declared.calls.Call.{Call}
use Rattle.voice_model.specs.declared.calls.Reply.{Reply}
use Rattle.voice_model.specs.declared.calls.Reply.TheVariants as replies
use Rattle.voice_model.specs.declared.calls.Entry.{Entry}
use Rattle.voice_model.specs.State.{State}
use Rattle.voice_model.specs.Step.{after}
use Rattle.voice_model.specs.Follows.{Binding, Awaited, Serving, bound, bound_rope, variables_after}
use Rattle.voice_store.specs.Facts.{Adds}
use Rattle.serving_laws.specs.Lanes.{FeedsNot, IsAtRest}
use Rattle.script_lang.specs.declared.scripts.Line.{Line}
use Rattle.script_lang.specs.Errands.{asked, SameValues}
use Rattle.servings.specs.Asked.{asked_entries, AreBy}
use Rattle.served_files.specs.declared.heard.Heard.{Heard}
use Rattle.served_files.specs.Given.{gives_file, given_name, names_in, bytes_in, GivesTo}
use Rattle.served_files.specs.Files.{heard_of}
use Rattle.served_files.specs.Lines.{DoesLine}

-- the lane that is served behind the call that a line made: none where the call made no job; a line that made no call serves its own
abbrev pub to_serve : Option ℕ → Option Reply → Option ℕ
to_serve lane None = lane
to_serve lane (Some (replies.Job job)) = lane
to_serve lane (Some _) = None

-- the call of a line was made, and its caller's variables stand as its reply sets them; a line that only serves a lane has none
abbrev pub CallMade : List (List ℕ) → Line → List Binding → List Binding → Option Reply → List Entry → List Entry → Type 0
CallMade tapes line stand after None old new = (asked tapes line.verb stand ≡ None) × (new ≡ old) × SameValues after stand
CallMade tapes line stand after (Some reply) old new =
    (call : Call) × (ack : ℕ) × (Some call ≡ asked tapes line.verb stand) × Adds line.caller call reply ack old new × SameValues after (bound line.bind (bound_rope reply) stand)

-- a lane was served for a caller, the file that the serving gives, if it gives one, is named behind the others, and the history only grew
pub record LaneServed (caller lane : ℕ) (file : Option (List ℕ)) (old new : List Entry) (was now : List Heard) : Type 0 where
  pub own : List Entry
  pub added : asked_entries new ≡ asked_entries old ++ own
  pub by : AreBy caller own
  pub serves : Serving lane Awaited.First own
  pub names : names_in now ≡ names_in was ++ given_name (gives_file own) file
  pub grown : (more : List Entry) × (new ≡ old ++ more)

-- or in part: more entries of the caller would serve it
pub record LaneServedInto (caller lane : ℕ) (old new : List Entry) : Type 0 where
  pub own : List Entry
  pub more : List Entry
  pub added : asked_entries new ≡ asked_entries old ++ own
  pub by : AreBy caller (own ++ more)
  pub serves : Serving lane Awaited.First (own ++ more)

-- a line added its entries, each once; its caller's variables stand as its reply sets them; and the file that it gives, if it gives one, is named behind the others
pub record LineDone (tapes : List (List ℕ)) (line : Line) (stand after : List Binding) (old new : List Entry) (was now : List Heard) : Type 0 where
  pub own : List Entry
  pub added : asked_entries new ≡ asked_entries old ++ own
  pub by : AreBy line.caller own
  pub does : DoesLine tapes stand line own
  pub sets : SameValues after (variables_after line.bind own stand)
  pub names : names_in now ≡ names_in was ++ given_name (gives_file own) line.file

-- what was heard more is what the entries that came give the caller, and nobody else anything; they feed this lane alone, which is at rest behind them
pub record LaneGave (first : State) (tapes : List (List ℕ)) (caller lane : ℕ) (old new : List Entry) (was now : List Heard) : Type 0 where
  pub more : List Entry
  pub grown : new ≡ old ++ more
  pub given : List (List ℕ)
  pub heard : bytes_in now ≡ bytes_in was ++ given
  pub gives : GivesTo caller (after first tapes old) tapes more given
  pub others : (other : ℕ) → ¬ (other ≡ caller) → (s : State) → GivesTo other s tapes more []
  pub feeds : (other : ℕ) → ¬ (other ≡ lane) → FeedsNot other more
  pub rests : IsAtRest (after first tapes new) lane

-- the same of a line, and all lanes are at rest behind it
pub record LineGave (first : State) (tapes : List (List ℕ)) (caller : ℕ) (old new : List Entry) (was now : List Heard) : Type 0 where
  pub more : List Entry
  pub grown : new ≡ old ++ more
  pub given : List (List ℕ)
  pub heard : bytes_in now ≡ bytes_in was ++ given
  pub gives : GivesTo caller (after first tapes old) tapes more given
  pub others : (other : ℕ) → ¬ (other ≡ caller) → GivesTo other (after first tapes old) tapes more []
  pub rests : (lane : ℕ) → IsAtRest (after first tapes new) lane

-- each caller heard what its servings give, and all lanes are at rest
pub record AreGiven (first : State) (tapes : List (List ℕ)) (history : List Entry) (lists : List (Vec Heard Global)) : Type 0 where
  pub gives : (caller : ℕ) → 1 ≤ caller → GivesTo caller first tapes history (bytes_in (heard_of lists caller))
  pub rests : (lane : ℕ) → IsAtRest (after first tapes history) lane
