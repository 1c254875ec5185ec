-- A job that was served, as a pass and those who hear it know it.
--     HasServed lane reply p q      what the pass gained serves one job of the lane, to the end that the reply tells
--     HasServedInto lane p q      what the pass gained is a front of such a serving
--     HasHeard first tapes entries lane reply heard      what was heard is the front of the job's passage that the reply tells of
use Rattle.std.specs.Prelude.{◌≡◌, ℕ, List, [], ◌∷◌, ◌++◌, Option, Some, None}
use Rattle.voice_model.specs.State.{State}
use Rattle.voice_model.specs.Step.{after}
use Rattle.voice_model.specs.Follows.{Awaited, Serving, passage_bytes, heard_bytes}
use Rattle.voice_model.specs.declared.calls.Reply.{Reply}
use Rattle.voice_model.specs.declared.calls.Entry.{Entry}
use Rattle.turnstile.specs.Shown.{ShownPass}
use Rattle.turnstile.specs.Passes.{seen, mine}
use Rattle.serving_laws.specs.Lanes.{IsAtRest, first_of_lane}

module _ {T : Type 0} where
  -- a job was served: what the pass gained serves one job of the lane, and its last entry, which has this reply, is the last one that the pass has seen
  pub record HasServed (lane : ℕ) (reply : Reply) (p q : ShownPass T) : Type 0 where
    pub own : List Entry
    pub gained : mine q ≡ mine p ++ own
    pub serves : Serving lane Awaited.First own
    pub front : List Entry
    pub final : Entry
    pub ends : own ≡ front ++ final ∷ []
    pub reply_is : final.reply ≡ reply
    pub before : List Entry
    pub told : seen q ≡ before ++ final ∷ []

  -- a job was served in part: what the pass gained, and more behind it, would serve one job of the lane
  pub record HasServedInto (lane : ℕ) (p q : ShownPass T) : Type 0 where
    pub own : List Entry
    pub gained : mine q ≡ mine p ++ own
    pub more : List Entry
    pub serves : Serving lane Awaited.First (own ++ more)

-- what was heard of a job that is over; of none, nothing
abbrev pub IsWhatWasHeard : Option (List ℕ) → List ℕ → Type 0
IsWhatWasHeard None heard = heard ≡ []
IsWhatWasHeard (Some bytes) heard = heard ≡ bytes

-- The reply is the last of the entries. What was heard is as much of the passage of the lane's first job, as it stood before, as the reply says, and nothing
-- where it says that there was no job to serve. Nothing of the lane's next job was heard or is out.
pub record HasHeard (first : State) (tapes : List (List ℕ)) (entries : List Entry) (lane : ℕ) (reply : Reply) (heard : List ℕ) : Type 0 where
  pub before : List Entry
  pub final : Entry
  pub ends : entries ≡ before ++ final ∷ []
  pub reply_is : final.reply ≡ reply
  pub bytes : IsWhatWasHeard (heard_bytes reply (passage_bytes (first_of_lane (after first tapes before) lane))) heard
  pub rests : IsAtRest (after first tapes entries) lane
