-- A job that was served on a store by one caller, with no turns of others between.
--     HasServedAlone caller lane reply old new      what the history gained serves one job of the lane, to the end that the reply tells, perhaps with a landing
--     HasServedAloneInto caller lane old new      what it gained is a front of such a serving
use Rattle.std.specs.Prelude.{◌≡◌, ℕ, List, [], ◌∷◌, ◌++◌}
use Rattle.voice_model.specs.Follows.{Awaited, Serving}
use Rattle.voice_model.specs.declared.calls.Reply.{Reply}
use Rattle.voice_model.specs.declared.calls.Entry.{Entry}
use Rattle.servings.specs.Asked.{asked_entries, AreBy}

-- a job was served: what the history gained, but for landings, is the caller's, and serves one job of the lane; its last entry, which has this reply, is the last one of the history
pub record HasServedAlone (caller lane : ℕ) (reply : Reply) (old new : List Entry) : Type 0 where
  pub gained : List Entry
  pub own : List Entry
  pub grown : new ≡ old ++ gained
  pub asked : asked_entries gained ≡ own
  pub by : AreBy caller own
  pub serves : Serving lane Awaited.First own
  pub front : List Entry
  pub final : Entry
  pub ends : own ≡ front ++ final ∷ []
  pub reply_is : final.reply ≡ reply
  pub before : List Entry
  pub told : new ≡ before ++ final ∷ []

-- a job was served in part: what the history gained, but for landings, is the caller's, and more behind it would serve one job of the lane
pub record HasServedAloneInto (caller lane : ℕ) (old new : List Entry) : Type 0 where
  pub gained : List Entry
  pub own : List Entry
  pub more : List Entry
  pub grown : new ≡ old ++ gained
  pub asked : asked_entries gained ≡ own
  pub by : AreBy caller own
  pub serves : Serving lane Awaited.First (own ++ more)
