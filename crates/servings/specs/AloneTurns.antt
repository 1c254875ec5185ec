-- What follows a feed's reply, on a store by one caller. `was` and `now` are the store's history before and after it.
--     HasHaltedAlone caller was now old new before after      the lane was stopped, and nothing was heard
--     StaysAlone was now old new before after      nothing was done
--     TookInAlone was now old new before after      the window was copied
--     WentOnAlone reply on caller was now old new before after      a window was copied, a fault followed by a stop of the lane; behind every other reply comes nothing
use Rattle.std.specs.Prelude.{◌≡◌, ℕ, Bool, true, false, List}
use Rattle.voice_model.specs.declared.calls.Call.TheVariants as calls
use Rattle.voice_model.specs.declared.calls.Reply.{Reply}
use Rattle.voice_model.specs.declared.calls.Reply.TheVariants as replies
use Rattle.voice_model.specs.declared.calls.Why.{Why}
use Rattle.voice_model.specs.declared.calls.Why.TheVariants as why
use Rattle.voice_model.specs.declared.calls.Entry.{Entry}
use Rattle.players.specs.Players.{PlayerState}
use Rattle.voice_store.specs.Facts.{Adds}
use Rattle.servings.specs.Copied.{HasCopied}

-- the lane was stopped, and nothing was heard
pub record HasHaltedAlone (caller : ℕ) (was now : List Entry) (old new : PlayerState) (before after : List ℕ) : Type 0 where
  pub reply : Reply
  pub ack : ℕ
  pub adds : Adds caller (calls.Stop old.lane) reply ack was now
  pub same_player : new ≡ old
  pub same_heard : after ≡ before

-- nothing was done
pub record StaysAlone (was now : List Entry) (old new : PlayerState) (before after : List ℕ) : Type 0 where
  pub same_history : now ≡ was
  pub same_player : new ≡ old
  pub same_heard : after ≡ before

-- a window was copied
pub record TookInAlone (was now : List Entry) (old new : PlayerState) (before after : List ℕ) : Type 0 where
  pub same_history : now ≡ was
  pub copied : HasCopied old new before after

-- behind a fault comes a stop, and then another feed; behind another refusal nothing
abbrev pub WentOnRefusedAlone : Why → Bool → ℕ → List Entry → List Entry → PlayerState → PlayerState → List ℕ → List ℕ → Type 0
WentOnRefusedAlone why.DiskFault on caller was now old new before after = (on ≡ true) × HasHaltedAlone caller was now old new before after
WentOnRefusedAlone _ on caller was now old new before after = (on ≡ false) × StaysAlone was now old new before after

-- behind a window comes another feed; behind every other reply nothing
abbrev pub WentOnAlone : Reply → Bool → ℕ → List Entry → List Entry → PlayerState → PlayerState → List ℕ → List ℕ → Type 0
WentOnAlone (replies.Window at n) on caller was now old new before after = (on ≡ true) × TookInAlone was now old new before after
WentOnAlone (replies.No reason) on caller was now old new before after = WentOnRefusedAlone reason on caller was now old new before after
WentOnAlone _ on caller was now old new before after = (on ≡ false) × StaysAlone was now old new before after
