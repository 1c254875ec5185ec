-- What the lines so far gave a caller.
--     GivesSoFar first tapes lines caller entries given      the entries give the caller these bytes, and the lanes that its lines serve are at rest behind them
--     starts, goes_on, servable      at first; one line further; what a line's own serving may rely on
use Rattle.std.proofs.Common.{◌≡◌, ℕ, List, [], ◌++◌, Some, refl, sym, subst}
use Rattle.std.specs.Prelude.{slice_get}
use Rattle.voice_model.specs.State.{State}
use Rattle.voice_model.specs.Step.{after}
use Rattle.voice_model.specs.declared.calls.Entry.{Entry}
use Rattle.turnstile.specs.Turns.{Begins}
use Rattle.serving_laws.specs.Lanes.{FedBy, IsAtRest}
use Rattle.servings.proofs.Between.{fed_front}
use Rattle.script_lang.specs.declared.scripts.Line.{Line}
use Rattle.script_lang.specs.Parts.{served}
use Rattle.served_files.specs.Given.{GivesTo, FeedsAlone}
use Rattle.served_files.proofs.Bytes.{gives_append}
use Rattle.callers.specs.Passed.{HearsMore, AreServable}
use Rattle.callers.proofs.Hearing.{hears_on}

-- the entries give the caller these bytes, and the lanes that its lines serve are at rest behind them
pub record GivesSoFar (first : State) (tapes : List (List ℕ)) (lines : List Line) (caller : ℕ) (entries : List Entry) (given : List (List ℕ)) : Type 0 where
  pub gives : GivesTo caller first tapes entries given
  pub rests : (number : ℕ) (line : Line) (lane : ℕ) → slice_get lines number ≡ Some line → line.caller ≡ caller → served line.verb ≡ Some lane → IsAtRest (after first tapes entries) lane

starts_with : (first : State) (tapes : List (List ℕ)) (lines : List Line) (caller : ℕ) → ((lane : ℕ) → IsAtRest first lane) → GivesSoFar first tapes lines caller [] []
starts_with first tapes lines caller rest = record { gives = refl; rests = λ number line lane there own serves. rest lane }

pub starts : (first : State) (tapes : List (List ℕ)) (lines : List Line) (caller : ℕ) (entries : List Entry) (given : List (List ℕ)) → entries ≡ [] → given ≡ [] → ((lane : ℕ) → IsAtRest first lane) → GivesSoFar first tapes lines caller entries given
starts first tapes lines caller entries given none nothing rest =
    subst (GivesSoFar first tapes lines caller entries) (sym nothing) (subst (λ es. GivesSoFar first tapes lines caller es []) (sym none) (starts_with first tapes lines caller rest))

pub goes_on : (first : State) (tapes : List (List ℕ)) (lines : List Line) (caller : ℕ) (old new : List Entry) (was now : List (List ℕ)) → GivesSoFar first tapes lines caller old was → HearsMore first tapes caller old new was now → FeedsAlone lines caller new → GivesSoFar first tapes lines caller new now
goes_on first tapes lines caller old new was now h k alone = record {
  gives = subst (GivesTo caller first tapes new) (sym k.heard) (subst (λ es. GivesTo caller first tapes es (was ++ k.given)) (sym k.grown) (gives_append caller first tapes old k.more was k.given h.gives k.gives));
  rests = λ number line lane there own serves. k.rests lane (alone number line lane there own serves) (h.rests number line lane there own serves);
}

pub servable : (first : State) (tapes : List (List ℕ)) (lines : List Line) (caller : ℕ) (old new : List Entry) (given : List (List ℕ)) (number : ℕ) (line : Line) → GivesSoFar first tapes lines caller old given → FeedsAlone lines caller new → slice_get lines number ≡ Some line → line.caller ≡ caller
    → AreServable first tapes caller line.verb old new
servable first tapes lines caller old new given number line h alone there own = λ lane serves. (alone number line lane there own serves, h.rests number line lane there own serves)

-- a line's call gave nothing, and then what follows it does
pub then_heard :
    (first : State) (tapes : List (List ℕ)) (caller : ℕ) (line : Line) (a b c : List Entry) (was now : List (List ℕ)) → HearsMore first tapes caller a b was was → Begins b c → (AreServable first tapes caller line.verb b c → HearsMore first tapes caller b c was now)
    → AreServable first tapes caller line.verb a c → HearsMore first tapes caller a c was now
then_heard first tapes caller line a b c was now h begins f able =
    hears_on first tapes caller a b c was was now h (f (λ lane serves. let its = able lane serves in (its.0, h.rests lane (fed_front caller lane b begins.0 (subst (FedBy caller lane) begins.1 its.0)) its.1)))
