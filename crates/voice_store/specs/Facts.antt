-- What calls of the store are, for its proofs.
--     entry_of caller call reply ack, landing_at ack      an entry; that of a landing
--     Stays honest s tapes caller call reply      the call may be answered so on a disk of this honesty, which leaves the state
--     MayCommit s tapes caller call effect lanes      nothing refuses the call, which makes this change, leaves these lanes, and does nothing else
--     Adds caller call reply ack old new      the entry of a call came last, after a landing where one was made
--     AddsLanding old new      no entry came, or that of a landing
--     Goes most old new      the counts of a disk after at most so many calls
--     GoesOn old new      the same after any number of calls
--     IsFault reply      a reply that tells of a device fault
--     TakesAreIn, HasRopes      what the store wants of the words of a call
--     is_edit call      a call that makes a rope of others
--     hears call      a call that hears a rope
--     only_tells call      a call that is answered by the tables and the lanes, without memory
--     stretches_of s id      how many stretches a rope has
--     most_reads s call      how many blocks it reads, at most
use Rattle.std.specs.Prelude.{◌≡◌, ◌⊎◌, ℕ, ◌+◌, ◌≤◌, Bool, true, false, List, [], ◌∷◌, ◌++◌, length, Some, None}
use Rattle.voice_outside.specs.Disk.{Told}
use Rattle.voice_units.specs.Spots.{stretches}
use Rattle.voice_model.specs.Samples.{Tagged, spots_in_rope}
use Rattle.voice_model.specs.State.{State, Effect, LaneState, samples_of}
use Rattle.voice_model.specs.Changes.{committed}
use Rattle.voice_model.specs.Tapes.{HasTake}
use Rattle.voice_model.specs.Step.{IsReply, state_after, reply_of, outcome_of}
use Rattle.voice_model.specs.Heard.{IsReplyOn}
use Rattle.voice_model.specs.declared.calls.Call.{Call}
use Rattle.voice_model.specs.declared.calls.Call.TheVariants as calls
use Rattle.voice_model.specs.declared.calls.Reply.{Reply}
use Rattle.voice_model.specs.declared.calls.Reply.TheVariants as replies
use Rattle.voice_model.specs.declared.calls.Why.TheVariants as why
use Rattle.voice_model.specs.declared.calls.Entry.{Entry}
use Rattle.voice_store.specs.Stood.{is_fault_of}

abbrev pub entry_of : ℕ → Call → Reply → ℕ → Entry
entry_of caller call reply ack = record { caller = caller; call = call; reply = reply; ack = ack }

-- the entry of a landing
abbrev pub landing_at : ℕ → Entry
landing_at ack = entry_of 0 calls.Landed replies.Done ack

-- a call that may be answered so, on a disk of this honesty, and then leaves the state as it was
pub record Stays (honest : Bool) (s : State) (tapes : List (List ℕ)) (caller : ℕ) (call : Call) (reply : Reply) : Type 0 where
  pub answers : IsReplyOn honest s tapes caller call reply
  pub stays : (ack : ℕ) → state_after s tapes (entry_of caller call reply ack) ≡ s

-- a call that nothing refuses; it makes this change, leaves these lanes, since an End closes its recording, and does nothing else, or faults before, or in doubt
pub record MayCommit (s : State) (tapes : List (List ℕ)) (caller : ℕ) (call : Call) (effect : Effect Tagged) (lanes : List LaneState) : Type 0 where
  pub sure : s.doubt ≡ None
  pub answers : IsReply s tapes caller call (reply_of s tapes call)
  pub commits : (ack : ℕ) → state_after s tapes (entry_of caller call (reply_of s tapes call) ack) ≡ committed (record s { lanes = lanes }) s.form effect
  pub faults : Stays true s tapes caller call (replies.No why.DiskFault)
  pub doubts : IsReply s tapes caller call (replies.No why.InDoubt)
  pub waits : (ack : ℕ) → state_after s tapes (entry_of caller call (replies.No why.InDoubt) ack) ≡ record s { lanes = lanes; doubt = Some (record { effect = effect; form = s.form }) }

-- the entry of a call came last, after a landing where one was made
abbrev pub Adds : ℕ → Call → Reply → ℕ → List Entry → List Entry → Type 0
Adds caller call reply ack old new =
    (new ≡ old ++ entry_of caller call reply ack ∷ []) ⊎ ((a : ℕ) × (new ≡ old ++ landing_at a ∷ entry_of caller call reply ack ∷ []))

-- no entry came, or that of a landing
abbrev pub AddsLanding : List Entry → List Entry → Type 0
AddsLanding old new = (new ≡ old) ⊎ ((a : ℕ) × (new ≡ old ++ landing_at a ∷ []))

-- the counts of a disk after at most so many calls
pub record Goes (most : ℕ) (old new : Told) : Type 0 where
  pub size : new.size ≡ old.size
  pub honest : new.honest ≡ old.honest
  pub later : old.calls ≤ new.calls
  pub calls : new.calls ≤ old.calls + most
  pub faults : old.faults ≤ new.faults

-- the counts of a disk after calls
pub record GoesOn (old new : Told) : Type 0 where
  pub size : new.size ≡ old.size
  pub honest : new.honest ≡ old.honest
  pub later : old.calls ≤ new.calls
  pub faults : old.faults ≤ new.faults

-- a reply that tells of a device fault
abbrev pub IsFault : Reply → Type 0
IsFault reply = is_fault_of (outcome_of reply) ≡ true

-- the takes of a call lie in the tapes
abbrev pub TakesAreIn : List (List ℕ) → Call → Type 0
TakesAreIn tapes (calls.Record take) = HasTake tapes take
TakesAreIn tapes (calls.Add lane take) = HasTake tapes take
TakesAreIn tapes _ = Unit {0}

-- a Concatenate has 1 to 16 ropes
abbrev pub HasRopes : Call → Type 0
HasRopes (calls.Concat ids) = (1 ≤ length ids) × (length ids ≤ 16)
HasRopes _ = Unit {0}

-- a call that makes a rope of others
abbrev pub is_edit : Call → Bool
is_edit (calls.Concat ids) = true
is_edit (calls.Sub id start len) = true
is_edit (calls.Replace id start len with) = true
is_edit _ = false

-- a call that hears a rope: it reads the disk, and leaves the state
abbrev pub hears : Call → Bool
hears (calls.Describe id) = true
hears (calls.Levels id) = true
hears _ = false

-- a call that is answered by the tables and the lanes, without memory
abbrev pub only_tells : Call → Bool
only_tells (calls.Length id) = true
only_tells (calls.Lookup class key) = true
only_tells (calls.Stop lane) = true
only_tells _ = false

-- how many stretches a rope has, none where it is not live
abbrev pub stretches_of : State → ℕ → ℕ
stretches_of s id = length (stretches s.shape.block (spots_in_rope (samples_of s.ropes id)))

-- how many blocks a call reads at most: one for each stretch of a rope that it hears
abbrev pub most_reads : State → Call → ℕ
most_reads s (calls.Describe id) = stretches_of s id
most_reads s (calls.Levels id) = stretches_of s id
most_reads s _ = 0
