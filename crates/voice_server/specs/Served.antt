-- What contracts see of a server.
--     store_of s, tapes_of s      the store that the server was made with, and its tapes
--     IsPassOf s p      a pass of this server that is outside
--     AddsEntry call reply p q      one turn that was answered
--     IsPlayerOf s player      its window, if it has one, is of this server's pool
--     feed_of player      the Feed that brings its window back, if it has one
--     HasWindow reply player      it has the window that the reply tells of, of which nothing was copied
--     AddsFeed told s player reply p q after      one turn with a Feed of the player that was answered
--     IsSpared player after      what it has after want of memory
--     IsLegalFrom told s history      the history is legal from what the server's disk was opened as, on a disk that isn't honest but for the talk and peaks that were read off it
--     IsClosed s passes history      the history that the server is closed with
use Rattle.std.specs.Prelude.{◌≡◌, ◌⊎◌, ℕ, List, [], ◌∷◌, ◌++◌, length, drop, map, true, false, Option, Some, None, IsTrue}
use Rattle.voice_units.specs.Spots.{slice}
use Rattle.voice_outside.specs.Disk.{Told}
use Rattle.voice_model.specs.State.{State}
use Rattle.voice_model.specs.Heard.{LegalOn}
use Rattle.voice_model.specs.Image.{opened_from}
use Rattle.voice_model.specs.declared.calls.Call.{Call}
use Rattle.voice_model.specs.declared.calls.Reply.{Reply}
use Rattle.voice_model.specs.declared.calls.Entry.{Entry}
use Rattle.voice_model.specs.Step.{after}
use Rattle.voice_model.specs.Valid.{IsState}
use Rattle.voice_model.specs.declared.calls.Call.TheVariants as calls
use Rattle.voice_model.specs.declared.calls.Reply.TheVariants as replies
use Rattle.frame_pool.specs.Pool.{LeaseState, spent}
use Rattle.players.specs.Players.{PlayerState, IsOfPool, samples_of}
use Rattle.voice_store.specs.Feeding.{passage_at}
use Rattle.voice_store.specs.Shown.{Shown, history_of, tapes_in, pool_of}
use Rattle.turnstile.specs.declared.parts.Pass.{Pass}
use Rattle.turnstile.specs.Turns.{Begins, Every, StandsIn, IsOfPasses}
use Rattle.turnstile.specs.Passes.{IsOf, IsOutside, seen, mine, made_with, callers_of}
use Rattle.voice_server.specs.declared.born.Born.{Born}
use Rattle.voice_server.specs.declared.standing.Standing.{Standing}
use Rattle.voice_server.specs.declared.hall.Hall.{Hall}

-- how much of a window comes back: none where there is no window
abbrev pub heard_of : ℕ → Option LeaseState → Option ℕ
heard_of at None = None
heard_of at (Some lease) = Some at

-- the Feed that brings a player's window back, if it has one, with as much of it as was copied
abbrev pub feed_of : PlayerState → Call
feed_of player = calls.Feed player.lane (heard_of player.at player.lease)

-- a window of so many samples that was just handed out
abbrev pub IsNewWindow : ℕ → Option LeaseState → Type 0
IsNewWindow n None = ⊥
IsNewWindow n (Some lease) = (lease.len ≡ n) × (lease.live ≡ true) × (lease.taken ≡ false) × (lease.hinted ≡ false)

-- the player has the window that the reply tells of, of which nothing was copied; or none, where it tells of none
abbrev pub HasWindow : Reply → PlayerState → Type 0
HasWindow (replies.Window at n) player = (player.at ≡ 0) × IsNewWindow n player.lease
HasWindow _ player = player.lease ≡ None

-- its samples are those of the lane's first job's passage from where it begins
abbrev pub HearsPassage : State → Reply → PlayerState → Type 0
HearsPassage s (replies.Window at n) player = samples_of player ≡ map (λ t. t.byte) (slice (passage_at s player.lane) at n)
HearsPassage s _ player = Unit {0}

-- a player's window was hinted, and not brought back before
abbrev pub IsHinted : Option LeaseState → Type 0
IsHinted None = ⊥
IsHinted (Some lease) = (lease.taken ≡ false) × (lease.hinted ≡ true)

-- the job was stopped
abbrev pub TellsStop : Reply → Type 0
TellsStop (replies.Stopped job n) = Unit {0}
TellsStop _ = ⊥

-- the lease is as before, but that it may have been brought back
abbrev pub IsLeaseSpared : Option LeaseState → Option LeaseState → Type 0
IsLeaseSpared None new = new ≡ None
IsLeaseSpared (Some lease) new = (new ≡ Some lease) ⊎ (new ≡ Some (spent lease))

-- what a player has after want of memory: its numbers, and its window, which may be brought back already and can be brought back again
pub record IsSpared (old new : PlayerState) : Type 0 where
  pub lane : new.lane ≡ old.lane
  pub at : new.at ≡ old.at
  pub lease : IsLeaseSpared old.lease new.lease

module _ {D : Type 0} where
  -- the store that the server was made with
  abbrev pub store_of : Hall (Standing D) (Born D) → Shown D
  store_of s = (made_with s.turnstile).store

  abbrev pub tapes_of : Hall (Standing D) (Born D) → List (List ℕ)
  tapes_of s = tapes_in (store_of s)

  -- a pass of this server that is outside
  abbrev pub IsPassOf : Hall (Standing D) (Born D) → Pass (Standing D) (Born D) → Type 0
  IsPassOf s p = IsOf s.turnstile p × IsOutside p

  -- one turn that was answered: what the pass has seen ends with its caller's entry of this call and reply, which is the one that it gained
  pub record AddsEntry (call : Call) (reply : Reply) (p q : Pass (Standing D) (Born D)) : Type 0 where
    pub entry : Entry
    pub caller : entry.caller ≡ p.caller
    pub call_is : entry.call ≡ call
    pub reply_is : entry.reply ≡ reply
    pub gained : mine q ≡ mine p ++ entry ∷ []
    pub before : List Entry
    pub last : seen q ≡ before ++ entry ∷ []
    pub grown : Begins (seen p) before

  -- a player's window, if it has one, is of the pool of this server's store
  abbrev pub IsPlayerOf : Hall (Standing D) (Born D) → PlayerState → Type 0
  IsPlayerOf s player = IsOfPool (pool_of (store_of s)) player.lease

  -- one turn with a Feed that was answered: the pass gained its entry; the player has the window that the reply tells of, whose samples are, on an honest disk, those of the passage that what was seen before gives
  pub record AddsFeed (told : D → Told) (s : Hall (Standing D) (Born D)) (player : PlayerState) (reply : Reply) (p q : Pass (Standing D) (Born D)) (new : PlayerState) : Type 0 where
    pub adds : AddsEntry (feed_of player) reply p q
    pub lane : new.lane ≡ player.lane
    pub window : HasWindow reply new
    pub hinted : IsHinted player.lease → TellsStop reply
    pub samples : IsTrue (told (store_of s).origin).honest → (first : State) → opened_from (told (store_of s).origin).bytes ≡ Some first → HearsPassage (after first (tapes_of s) adds.before) reply new
    pub valid : IsTrue (told (store_of s).origin).honest → (first : State) → opened_from (told (store_of s).origin).bytes ≡ Some first → IsState (after first (tapes_of s) adds.before)

  -- what the server's disk was opened as
  pub record IsOpenedAs (told : D → Told) (s : Hall (Standing D) (Born D)) (first : State) : Type 0 where
    pub opened : IsTrue (told (store_of s).origin).honest → opened_from (told (store_of s).origin).bytes ≡ Some first

  -- the history is legal from what the server's disk was opened as: on an honest disk all of it, on every other but for the talk and peaks that were read off the disk
  abbrev pub IsLegalFrom : (D → Told) → Hall (Standing D) (Born D) → List Entry → Type 0
  IsLegalFrom told s history = (first : State) × IsOpenedAs told s first × LegalOn (told (store_of s).origin).honest first (tapes_of s) history

  -- the history that the server is closed with: what each pass has seen begins it, what each caller did is all that it has of the caller since the server was made, and all else are landings
  pub record IsClosed (s : Hall (Standing D) (Born D)) (passes : List (Pass (Standing D) (Born D))) (history : List Entry) : Type 0 where
    pub begins : Begins (history_of (store_of s)) history
    pub passes_stand : Every (λ p. StandsIn (history_of (store_of s)) history p.caller (seen p) (mine p)) passes
    pub others : Every (IsOfPasses (callers_of s.turnstile)) (drop (length (history_of (store_of s))) history)
