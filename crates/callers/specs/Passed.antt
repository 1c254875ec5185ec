-- What one line of a script comes to for a caller.
--     Plays verb reply entries      what comes behind a line's call that has this reply: a play line serves its lane where it is a job
--     LaneServed lane file old new was now      a serving was added, and its file, where it gives one, is named behind the others
--     LineServed verb file old new was now      the same, of the lane that a line serves
--     CallFollowed, CallFollowedInto      what was added behind a line's call; the first of it
--     LineDone, LinePassed      a line was done;  or it is another caller's
--     HearsMore first tapes caller old new was now      what the caller saw more gives it what it heard more, and lanes that nobody else feeds stay at rest
--     LaneIsHeard, IsMoreHeard, IsHeardIfOwn      so it is on an honest disk, where the lane that is served is fed by the caller alone and at rest
use Rattle.std.specs.Prelude.{ℕ, List, [], ◌++◌, ◌≡◌, ◌⊎◌, Option, Some, IsTrue}
use Rattle.voice_outside.specs.Disk.{Told}
use Rattle.voice_model.specs.State.{State}
use Rattle.voice_model.specs.Step.{after}
use Rattle.voice_model.specs.Image.{opened_from}
use Rattle.voice_model.specs.declared.calls.Reply.{Reply}
use Rattle.voice_model.specs.declared.calls.Entry.{Entry}
use Rattle.voice_model.specs.Follows.{Binding, Awaited, Serving, AfterPlay, variables_after}
use Rattle.serving_laws.specs.Lanes.{FedBy, IsAtRest}
use Rattle.script_lang.specs.declared.scripts.Line.{Line}
use Rattle.script_lang.specs.declared.scripts.Verb.{Verb}
use Rattle.script_lang.specs.declared.scripts.Verb.TheVariants as verbs
use Rattle.script_lang.specs.Parts.{served}
use Rattle.script_lang.specs.Errands.{SameValues}
use Rattle.turnstile.specs.declared.parts.Pass.{Pass}
use Rattle.turnstile.specs.Passes.{seen}
use Rattle.voice_server.specs.declared.born.Born.{Born}
use Rattle.voice_server.specs.declared.hall.Hall.{Hall}
use Rattle.voice_server.specs.declared.standing.Standing.{Standing}
use Rattle.voice_server.specs.Served.{store_of, tapes_of}
use Rattle.served_files.specs.Lines.{DoesLine}
use Rattle.served_files.specs.Given.{gives_file, given_name, GivesTo}

-- a play line serves its lane where the reply of its call is a job; behind the call of every other line comes nothing
abbrev pub Plays : Verb → Reply → List Entry → Type 0
Plays (verbs.Play lane rope start len) reply entries = AfterPlay lane reply entries
Plays _ reply entries = entries ≡ []

-- a serving of the lane was added, and the file that it gives, if it gives one, is named behind the others
pub record LaneServed (lane : ℕ) (file : Option (List ℕ)) (old new : List Entry) (was now : List (List ℕ)) : Type 0 where
  pub own : List Entry
  pub added : new ≡ old ++ own
  pub serves : Serving lane Awaited.First own
  pub names : now ≡ was ++ given_name (gives_file own) file

-- the same, of the lane that the verb serves
pub record LineServed (verb : Verb) (file : Option (List ℕ)) (old new : List Entry) (was now : List (List ℕ)) : Type 0 where
  pub lane : ℕ
  pub is : verb ≡ verbs.Serve lane
  pub ran : LaneServed lane file old new was now

-- the first entries of such a serving were added
pub record LineServedInto (verb : Verb) (old new : List Entry) : Type 0 where
  pub lane : ℕ
  pub is : verb ≡ verbs.Serve lane
  pub own : List Entry
  pub more : List Entry
  pub added : new ≡ old ++ own
  pub serves : Serving lane Awaited.First (own ++ more)

-- what was added behind a line's call
pub record CallFollowed (verb : Verb) (reply : Reply) (file : Option (List ℕ)) (old new : List Entry) (was now : List (List ℕ)) : Type 0 where
  pub own : List Entry
  pub added : new ≡ old ++ own
  pub plays : Plays verb reply own
  pub names : now ≡ was ++ given_name (gives_file own) file

-- the first of it
pub record CallFollowedInto (verb : Verb) (reply : Reply) (old new : List Entry) : Type 0 where
  pub own : List Entry
  pub more : List Entry
  pub added : new ≡ old ++ own
  pub plays : Plays verb reply (own ++ more)

-- a line added its entries, each once; its caller's variables stand as its reply sets them; the file that it gives, if it gives one, is named behind the others
pub record LineDone (tapes : List (List ℕ)) (line : Line) (variables new_variables : List Binding) (old new : List Entry) (was now : List (List ℕ)) : Type 0 where
  pub own : List Entry
  pub added : new ≡ old ++ own
  pub does : DoesLine tapes variables line own
  pub sets : SameValues new_variables (variables_after line.bind own variables)
  pub names : now ≡ was ++ given_name (gives_file own) line.file

-- a line of another caller, which nothing came of
pub record IsOthers (caller : ℕ) (line : Line) (old_variables new_variables : List Binding) (old new : List Entry) (was now : List (List ℕ)) : Type 0 where
  pub other : line.caller ≡ caller → ⊥
  pub variables : new_variables ≡ old_variables
  pub entries : new ≡ old
  pub names : now ≡ was

-- a line of this caller that was done, or one of another caller
abbrev pub LinePassed : ℕ → List (List ℕ) → Line → List Binding → List Binding → List Binding → List Entry → List Entry → List (List ℕ) → List (List ℕ) → Type 0
LinePassed caller tapes line variables old_variables new_variables old new was now =
    IsOthers caller line old_variables new_variables old new was now ⊎ ((line.caller ≡ caller) × LineDone tapes line variables new_variables old new was now)

-- what the caller saw more gives it what it heard more; a lane that nobody else feeds stays at rest
pub record HearsMore (first : State) (tapes : List (List ℕ)) (caller : ℕ) (old new : List Entry) (was now : List (List ℕ)) : Type 0 where
  pub more : List Entry
  pub grown : new ≡ old ++ more
  pub given : List (List ℕ)
  pub heard : now ≡ was ++ given
  pub gives : GivesTo caller (after first tapes old) tapes more given
  pub rests : (lane : ℕ) → FedBy caller lane new → IsAtRest (after first tapes old) lane → IsAtRest (after first tapes new) lane

-- the lane is fed by the caller alone, and it is at rest at first
abbrev pub IsServable : State → List (List ℕ) → ℕ → ℕ → List Entry → List Entry → Type 0
IsServable first tapes caller lane old new = FedBy caller lane new × IsAtRest (after first tapes old) lane

-- so is the lane that the verb serves, if it serves one
abbrev pub AreServable : State → List (List ℕ) → ℕ → Verb → List Entry → List Entry → Type 0
AreServable first tapes caller verb old new = (lane : ℕ) → served verb ≡ Some lane → IsServable first tapes caller lane old new

module _ {D : Type 0} where
  -- what was heard of a lane, on an honest disk
  abbrev pub LaneIsHeard : (D → Told) → Hall (Standing D) (Born D) → ℕ → Pass (Standing D) (Born D) → Pass (Standing D) (Born D) → List (List ℕ) → List (List ℕ) → Type 0
  LaneIsHeard told s lane p q was now =
      IsTrue (told (store_of s).origin).honest → (first : State) → opened_from (told (store_of s).origin).bytes ≡ Some first → IsServable first (tapes_of s) p.caller lane (seen p) (seen q)
      → HearsMore first (tapes_of s) p.caller (seen p) (seen q) was now

  -- what was heard by a line of the caller
  abbrev pub IsMoreHeard : (D → Told) → List (List ℕ) → Hall (Standing D) (Born D) → Verb → Pass (Standing D) (Born D) → Pass (Standing D) (Born D) → List (List ℕ) → List (List ℕ) → Type 0
  IsMoreHeard told tapes s verb p q was now =
      IsTrue (told (store_of s).origin).honest → (first : State) → opened_from (told (store_of s).origin).bytes ≡ Some first → AreServable first tapes p.caller verb (seen p) (seen q)
      → HearsMore first tapes p.caller (seen p) (seen q) was now

  -- the same of a line that may be another caller's
  abbrev pub IsHeardIfOwn : (D → Told) → List (List ℕ) → Hall (Standing D) (Born D) → Line → Pass (Standing D) (Born D) → Pass (Standing D) (Born D) → List (List ℕ) → List (List ℕ) → Type 0
  IsHeardIfOwn told tapes s line p q was now =
      IsTrue (told (store_of s).origin).honest → (first : State) → opened_from (told (store_of s).origin).bytes ≡ Some first → (line.caller ≡ p.caller → AreServable first tapes p.caller line.verb (seen p) (seen q))
      → HearsMore first tapes p.caller (seen p) (seen q) was now
