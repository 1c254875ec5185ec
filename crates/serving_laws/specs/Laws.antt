-- The laws of this crate, as statements.
--     OthersLeaveTheFirstJob      calls that do not feed a lane leave its first job as far as it was heard, with the window that is out
--     OthersLeaveALaneAtRest      they leave a lane at rest
--     AWindowThatComesBack      a feed that brings back m samples of a window goes on m samples later
--     AFeedThatBringsNothing      a feed that brings nothing back goes on where the first job was heard to
--     AJobThatIsOverLeavesALaneAtRest      behind a job that is over comes one that has not begun, or none
--     AFeedIsToldWhole      a feed's answer has nothing in it that is read off the disk, and so holds on disks of either honesty
--     WhatIsTakenInGoesOn      what is taken in of windows, one after another, is the passage from its beginning
--     AWindowLiesInItsPassage      a window that is out lies in its job's passage
use Rattle.std.specs.Prelude.{◌≡◌, ℕ, ◌+◌, ◌≤◌, Bool, List, ◌++◌, map, length, take, Some, None}
use Rattle.voice_units.specs.Spots.{slice}
use Rattle.voice_model.specs.Samples.{Tagged, bytes_of}
use Rattle.voice_model.specs.State.{State}
use Rattle.voice_model.specs.Step.{state_after, IsAnswer, after}
use Rattle.voice_model.specs.Heard.{IsAnswerOn}
use Rattle.voice_model.specs.Valid.{Every, IsState}
use Rattle.voice_model.specs.declared.calls.Call.TheVariants as calls
use Rattle.voice_model.specs.declared.calls.Entry.{Entry}
use Rattle.serving_laws.specs.Lanes.{Feeds, FeedsNot, FedBy, Hears, IsAtRest, IsOver, GoesOn, Begins}

-- calls that do not feed a lane leave its first job
pub record OthersLeaveTheFirstJob : Type 0 where
  pub entry : (s : State) (tapes : List (List ℕ)) (e : Entry) (lane number : ℕ) (passage : List Tagged) (heard window : ℕ) → ¬ Feeds lane e.call → Hears s lane number passage heard window → Hears (state_after s tapes e) lane number passage heard window
  pub history : (s : State) (tapes : List (List ℕ)) (es : List Entry) (lane number : ℕ) (passage : List Tagged) (heard window : ℕ) → FeedsNot lane es → Hears s lane number passage heard window → Hears (after s tapes es) lane number passage heard window
  -- where a lane is fed by one caller, entries of others do not feed it
  pub of_others : (caller lane : ℕ) (es : List Entry) → FedBy caller lane es → Every (λ e. ¬ (e.caller ≡ caller)) es → FeedsNot lane es

-- they leave a lane at rest
pub record OthersLeaveALaneAtRest : Type 0 where
  pub entry : (s : State) (tapes : List (List ℕ)) (e : Entry) (lane : ℕ) → ¬ Feeds lane e.call → IsAtRest s lane → IsAtRest (state_after s tapes e) lane
  pub history : (s : State) (tapes : List (List ℕ)) (es : List Entry) (lane : ℕ) → FeedsNot lane es → IsAtRest s lane → IsAtRest (after s tapes es) lane

-- a feed that brings back m samples of a window goes on m samples later
pub record AWindowThatComesBack : Type 0 where
  pub goes_on :
      (s : State) (tapes : List (List ℕ)) (e : Entry) (lane number : ℕ) (passage : List Tagged) (heard window m : ℕ) → IsState s
      → Hears s lane number passage heard window → IsAnswer s tapes e → e.call ≡ calls.Feed lane (Some m)
      → GoesOn (state_after s tapes e) lane number passage (heard + m) e.reply

-- a feed that brings nothing back
pub record AFeedThatBringsNothing : Type 0 where
  -- goes on where the first job was heard to
  pub begins : (s : State) (tapes : List (List ℕ)) (e : Entry) (lane : ℕ) → IsAnswer s tapes e → e.call ≡ calls.Feed lane None → Begins s (state_after s tapes e) lane e.reply
  -- and so with a job that is known, and has no window out
  pub goes_on :
      (s : State) (tapes : List (List ℕ)) (e : Entry) (lane number : ℕ) (passage : List Tagged) (heard : ℕ) → IsState s
      → Hears s lane number passage heard 0 → IsAnswer s tapes e → e.call ≡ calls.Feed lane None
      → GoesOn (state_after s tapes e) lane number passage heard e.reply

-- behind a job that is over comes one that has not begun, or none
pub record AJobThatIsOverLeavesALaneAtRest : Type 0 where
  pub at_rest : (s : State) (tapes : List (List ℕ)) (e : Entry) (lane : ℕ) → IsState s → IsAnswer s tapes e → Feeds lane e.call → IsOver e.reply → IsAtRest (state_after s tapes e) lane

-- a feed's answer has nothing in it that is read off the disk
pub record AFeedIsToldWhole : Type 0 where
  pub told : (honest : Bool) (s : State) (tapes : List (List ℕ)) (e : Entry) (lane : ℕ) → Feeds lane e.call → IsAnswerOn honest s tapes e → IsAnswer s tapes e

-- of a window of n samples m are taken in, behind the bytes before it
pub record WhatIsTakenInGoesOn : Type 0 where
  pub taken_in :
      (passage : List Tagged) (bytes more : List ℕ) (at n m : ℕ) → bytes ≡ take at (bytes_of passage)
      → more ≡ take m (map (λ t. t.byte) (slice passage at n)) → m ≤ n → bytes ++ more ≡ take (at + m) (bytes_of passage)

-- a window that is out lies in its job's passage
pub record AWindowLiesInItsPassage : Type 0 where
  pub within : (s : State) (lane number : ℕ) (passage : List Tagged) (heard window : ℕ) → IsState s → Hears s lane number passage heard window → heard + window ≤ length passage
