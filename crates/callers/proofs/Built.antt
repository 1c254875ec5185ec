-- What a line with a verb that callers run asks for.
use Rattle.std.proofs.Common.{◌≡◌, ℕ, ◌<◌, List, length, map, Some, None, refl, arith, subst}
use Rattle.std.specs.Prelude.{IsTrue}
use Rattle.std.proofs.lemmas.List.{length-map}
use Rattle.voice_model.specs.declared.calls.Call.{Call}
use Rattle.voice_model.specs.declared.calls.Call.TheVariants as calls
use Rattle.voice_model.specs.Tapes.{whole_of, HasTake}
use Rattle.voice_model.specs.Valid.{InRange}
use Rattle.voice_model.specs.Follows.{Binding}
use Rattle.voice_store.specs.Facts.{TakesAreIn, HasRopes}
use Rattle.built_calls.specs.Built.{is_built}
use Rattle.script_lang.specs.declared.scripts.Line.{Line}
use Rattle.script_lang.specs.declared.scripts.Verb.{Verb}
use Rattle.script_lang.specs.declared.scripts.Verb.TheVariants as verbs
use Rattle.script_lang.specs.Errands.{asked, meant, HasTape, HasItsRopes, IsInItsRange}
use Rattle.script_lang.specs.Verbs.{is_built_verb}
use Rattle.script_lang.specs.Grammar.{verb_name}
use Rattle.script_lang.specs.Whole.{IsLineOf}
use Rattle.callers.specs.Lines.{IsRunnable}

-- a call that a line asks, of a verb that callers run
pub record IsAsked (tapes : List (List ℕ)) (verb : Verb) (b : List Binding) (call : Call) : Type 0 where
  pub built : IsTrue (is_built call)
  pub takes : HasTape (length tapes) verb → TakesAreIn tapes call
  pub ropes : HasItsRopes verb → HasRopes call
  pub range : IsInItsRange verb → InRange call

is_asked_by : (tapes : List (List ℕ)) (verb : Verb) (b : List Binding) (call made : Call) → Some call ≡ Some made → IsAsked tapes verb b made → IsAsked tapes verb b call
is_asked_by tapes verb b call made same h = let e : made ≡ call = cc in subst (IsAsked tapes verb b) e h

-- a whole tape lies in the tapes
has_whole : (tapes : List (List ℕ)) (tape : ℕ) → tape < length tapes → HasTake tapes (whole_of tapes tape)
has_whole tapes tape there = record { exists = there; within = omega arith }

pub asked_well : (tapes : List (List ℕ)) (verb : Verb) (b : List Binding) (call : Call) → IsTrue (is_built_verb (verb_name verb)) → Some call ≡ asked tapes verb b → IsAsked tapes verb b call
asked_well tapes (verbs.Record tape) b call h same = is_asked_by tapes (verbs.Record tape) b call (calls.Record (whole_of tapes tape)) same (record { built = refl; takes = has_whole tapes tape; ropes = λ _. tt; range = λ _. tt })
asked_well tapes (verbs.Concat args) b call h same = is_asked_by tapes (verbs.Concat args) b call (calls.Concat (map (meant b) args)) same (record { built = refl; takes = λ _. tt; ropes = λ h. (omega (arith, h.0, length-map args (meant b)), omega (arith, h.1, length-map args (meant b))); range = λ _. tt })
asked_well tapes (verbs.Sub rope start len) b call h same = is_asked_by tapes (verbs.Sub rope start len) b call (calls.Sub (meant b rope) start len) same (record { built = refl; takes = λ _. tt; ropes = λ _. tt; range = λ _. tt })
asked_well tapes (verbs.Replace rope start len with) b call h same = is_asked_by tapes (verbs.Replace rope start len with) b call (calls.Replace (meant b rope) start len (meant b with)) same (record { built = refl; takes = λ _. tt; ropes = λ _. tt; range = λ _. tt })
asked_well tapes (verbs.Length rope) b call h same = is_asked_by tapes (verbs.Length rope) b call (calls.Length (meant b rope)) same (record { built = refl; takes = λ _. tt; ropes = λ _. tt; range = λ _. tt })
asked_well tapes (verbs.Retain class key rope note) b call h same = is_asked_by tapes (verbs.Retain class key rope note) b call (calls.Retain class key (meant b rope) note) same (record { built = refl; takes = λ _. tt; ropes = λ _. tt; range = λ h. h })
asked_well tapes (verbs.Forget class key) b call h same = is_asked_by tapes (verbs.Forget class key) b call (calls.Forget class key) same (record { built = refl; takes = λ _. tt; ropes = λ _. tt; range = λ _. tt })
asked_well tapes (verbs.Lookup class key) b call h same = is_asked_by tapes (verbs.Lookup class key) b call (calls.Lookup class key) same (record { built = refl; takes = λ _. tt; ropes = λ _. tt; range = λ _. tt })
asked_well tapes (verbs.Census keys) b call h same = is_asked_by tapes (verbs.Census keys) b call (calls.Census keys) same (record { built = refl; takes = λ _. tt; ropes = λ _. tt; range = λ _. tt })
asked_well tapes (verbs.Advance moment) b call h same = is_asked_by tapes (verbs.Advance moment) b call (calls.Advance moment) same (record { built = refl; takes = λ _. tt; ropes = λ _. tt; range = λ h. h })
asked_well tapes (verbs.Sweep limit) b call h same = is_asked_by tapes (verbs.Sweep limit) b call (calls.Sweep limit) same (record { built = refl; takes = λ _. tt; ropes = λ _. tt; range = λ _. tt })
asked_well tapes (verbs.Describe rope) b call h same = is_asked_by tapes (verbs.Describe rope) b call (calls.Describe (meant b rope)) same (record { built = refl; takes = λ _. tt; ropes = λ _. tt; range = λ _. tt })
asked_well tapes (verbs.Queue lane rope start len) b call h same = is_asked_by tapes (verbs.Queue lane rope start len) b call (calls.Play lane (meant b rope) start len) same (record { built = refl; takes = λ _. tt; ropes = λ _. tt; range = λ _. tt })
asked_well tapes (verbs.Play lane rope start len) b call h same = is_asked_by tapes (verbs.Play lane rope start len) b call (calls.Play lane (meant b rope) start len) same (record { built = refl; takes = λ _. tt; ropes = λ _. tt; range = λ _. tt })
asked_well tapes (verbs.Serve lane) b call h same = cc
asked_well tapes (verbs.Stop lane) b call h same = is_asked_by tapes (verbs.Stop lane) b call (calls.Stop lane) same (record { built = refl; takes = λ _. tt; ropes = λ _. tt; range = λ _. tt })
asked_well tapes (verbs.Begin lane) b call h same = is_asked_by tapes (verbs.Begin lane) b call (calls.Begin lane) same (record { built = refl; takes = λ _. tt; ropes = λ _. tt; range = λ _. tt })
asked_well tapes (verbs.Add lane tape) b call h same = is_asked_by tapes (verbs.Add lane tape) b call (calls.Add lane (whole_of tapes tape)) same (record { built = refl; takes = has_whole tapes tape; ropes = λ _. tt; range = λ _. tt })
asked_well tapes (verbs.End lane) b call h same = is_asked_by tapes (verbs.End lane) b call (calls.End lane) same (record { built = refl; takes = λ _. tt; ropes = λ _. tt; range = λ _. tt })
asked_well tapes (verbs.Levels rope) b call h same = is_asked_by tapes (verbs.Levels rope) b call (calls.Levels (meant b rope)) same (record { built = refl; takes = λ _. tt; ropes = λ _. tt; range = λ _. tt })

-- a line of a script that was read can be run
pub runnable : (samples callers : ℕ) (line : Line) → IsLineOf is_built_verb samples callers line → IsRunnable samples line
runnable samples callers line h = record { verb = h.verb; tape = h.tape; file = h.file; bind = h.bind; ropes = h.ropes; range = h.range }

-- a line that asks for no call serves a lane alone
pub serves_alone : (tapes : List (List ℕ)) (verb : Verb) (b : List Binding) → asked tapes verb b ≡ None → (lane : ℕ) × (verb ≡ verbs.Serve lane)
serves_alone tapes (verbs.Serve lane) b none = (lane, refl)
serves_alone tapes _ b none = cc
