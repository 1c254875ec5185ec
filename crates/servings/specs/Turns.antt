-- What follows a feed's reply.
--     HasHalted p q old new before after      the lane was stopped, and nothing was heard
--     Stays p q old new before after      nothing was done
--     TookIn p q old new before after      the window was copied
--     WentOn reply on p q old new before after      a window was copied, a fault followed by a stop of the lane; behind every other reply comes nothing
use Rattle.std.specs.Prelude.{◌≡◌, ℕ, Bool, true, false, List}
use Rattle.voice_model.specs.declared.calls.Call.TheVariants as calls
use Rattle.voice_model.specs.declared.calls.Reply.{Reply}
use Rattle.voice_model.specs.declared.calls.Reply.TheVariants as replies
use Rattle.voice_model.specs.declared.calls.Why.{Why}
use Rattle.voice_model.specs.declared.calls.Why.TheVariants as why
use Rattle.players.specs.Players.{PlayerState}
use Rattle.turnstile.specs.declared.parts.Pass.{Pass}
use Rattle.voice_server.specs.declared.born.Born.{Born}
use Rattle.voice_server.specs.declared.standing.Standing.{Standing}
use Rattle.voice_server.specs.Served.{AddsEntry}
use Rattle.servings.specs.Copied.{HasCopied}

module _ {D : Type 0} where
  -- the lane was stopped, and nothing was heard
  pub record HasHalted (p q : Pass (Standing D) (Born D)) (old new : PlayerState) (before after : List ℕ) : Type 0 where
    pub reply : Reply
    pub adds : AddsEntry (calls.Stop old.lane) reply p q
    pub same_player : new ≡ old
    pub same_heard : after ≡ before

  -- nothing was done
  pub record Stays (p q : Pass (Standing D) (Born D)) (old new : PlayerState) (before after : List ℕ) : Type 0 where
    pub same_pass : q ≡ p
    pub same_player : new ≡ old
    pub same_heard : after ≡ before

  -- a window was copied
  pub record TookIn (p q : Pass (Standing D) (Born D)) (old new : PlayerState) (before after : List ℕ) : Type 0 where
    pub same_pass : q ≡ p
    pub copied : HasCopied old new before after

  -- behind a fault comes a stop, and then another feed; behind another refusal nothing
  abbrev pub WentOnRefused : Why → Bool → Pass (Standing D) (Born D) → Pass (Standing D) (Born D) → PlayerState → PlayerState → List ℕ → List ℕ → Type 0
  WentOnRefused why.DiskFault on p q old new before after = (on ≡ true) × HasHalted p q old new before after
  WentOnRefused _ on p q old new before after = (on ≡ false) × Stays p q old new before after

  -- behind a window comes another feed; behind every other reply nothing
  abbrev pub WentOn : Reply → Bool → Pass (Standing D) (Born D) → Pass (Standing D) (Born D) → PlayerState → PlayerState → List ℕ → List ℕ → Type 0
  WentOn (replies.Window at n) on p q old new before after = (on ≡ true) × TookIn p q old new before after
  WentOn (replies.No reason) on p q old new before after = WentOnRefused reason on p q old new before after
  WentOn _ on p q old new before after = (on ≡ false) × Stays p q old new before after
