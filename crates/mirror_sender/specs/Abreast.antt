-- How far a sender has followed a history.
--     takes_on adds lane, others_than adds lane      the takes that were added on a lane;  what was added on others
--     IsSoundBy own tapes sender, IsSound tapes sender      what a sender keeps
--     Asks own parts tapes s call      nothing refuses the call in a state that the tables are like
--     IsAbreastBy own tapes sender s, IsAbreast tapes sender s      the sender follows a state, whatever jobs its lanes have
--     Starts shape parts s      the parts show a state without open recordings and with nothing in doubt
--     MayChange own tapes sender s call      the sender follows the state, and nothing refuses the call there, which can make a change
--     MayAnswer tapes sender s call      the sender follows the state, and the call may be answered there
--     MayHold tapes sender s call      the sender follows the state, and the change of the call may be in doubt
--     MayNote tapes sender s e      the sender follows the state, and the entry may come next
--     Follows tapes old new s before after made      after this effect the sender follows a later state, and its packet was appended
--     AreWithin tapes es      the numbers, lists and takes of each call lie in their ranges
--     FollowsAll tapes old new s before after made      after these effects the sender follows a later state, and their packets were appended
--     FollowsSome tapes old new s es before after      the sender follows the state after the first of these entries, and the packets of their changes were appended
--     HasChanged own old new before after made      an effect was done on the tables, and its packet was appended
--     course_of reply      how a call went, by its reply
--     only_changes call, is_quiet call      a call that can make a change, and does nothing else;  one of which nothing is followed
--     IsLeft adds call left      what is left of what was added once the change of a call is in doubt
use Rattle.std.specs.Prelude.{◌≡◌, ℕ, ◌+◌, ◌==◌, ◌≤◌, Bool, true, false, not, cond, List, [], ◌∷◌, ◌++◌, length, take, Option, Some, None, Vec, is_some}
use Rattle.std.specs.declared.alloc.Global.{Global}
use Rattle.voice_units.specs.declared.pieces.Take.{Take}
use Rattle.voice_units.specs.declared.shapes.Shape.{Shape}
use Rattle.voice_model.specs.Samples.{Tagged, spot_of}
use Rattle.voice_model.specs.State.{State, Durable, Effect, LaneState, Pending}
use Rattle.voice_model.specs.Changes.{taking_of, effect_of, is_changing}
use Rattle.voice_model.specs.Step.{Outcome, refusal, nothing_to_land, answered, state_by, after, IsAnswer}
use Rattle.voice_model.specs.Tapes.{HasTake}
use Rattle.voice_model.specs.Valid.{Every, IsState, InRange}
use Rattle.voice_model.specs.declared.calls.Call.{Call}
use Rattle.voice_model.specs.declared.calls.Call.TheVariants as calls
use Rattle.voice_model.specs.declared.calls.Entry.{Entry}
use Rattle.voice_model.specs.declared.calls.Reply.{Reply}
use Rattle.voice_model.specs.declared.calls.Reply.TheVariants as replies
use Rattle.voice_model.specs.declared.calls.Why.TheVariants as why
use Rattle.mirror_packets.specs.Packets.{packets_spelling}
use Rattle.recovery.specs.declared.parts.Parts.{Parts}
use Rattle.edits.specs.Shown.{ShowsState}
use Rattle.mirror_sender.specs.declared.coming.Next.{Next}
use Rattle.mirror_sender.specs.declared.recordings.Added.{Added}
use Rattle.mirror_sender.specs.declared.noting.Course.{Course}
use Rattle.mirror_sender.specs.declared.noting.Course.TheVariants as courses
use Rattle.mirror_sender.specs.declared.sender.Sender.{Sender}
use Rattle.mirror_packets.specs.Effects.{packets_from}
use Rattle.mirror_sender.specs.Sent.{packets_of, changes_of}
use Rattle.mirror_sender.specs.Told.{IsLike, IsTold, changed_by}
use Rattle.mirror_sender.specs.Coming.{bytes_taken, IsNextOf, IsMaybeNext}

-- the takes that were added on a lane
abbrev pub takes_on : List Added → ℕ → List Take
takes_on [] lane = []
takes_on (added ∷ adds) lane = cond (added.lane == lane) (added.take ∷ takes_on adds lane) (takes_on adds lane)

-- what was added on other lanes
abbrev pub others_than : List Added → ℕ → List Added
others_than [] lane = []
others_than (added ∷ adds) lane = cond (added.lane == lane) (others_than adds lane) (added ∷ others_than adds lane)

-- each take lies in the tapes
abbrev pub AreAdded : List (List ℕ) → List Added → Type 0
AreAdded tapes adds = Every (λ added. HasTake tapes added.take) adds

-- what is kept of a change in doubt does its effect
abbrev pub IsDoubt : Durable Tagged → List (List ℕ) → ℕ → Option Next → Option Pending → Type 0
IsDoubt own tapes spare None None = Unit {0}
IsDoubt own tapes spare (Some next) (Some pending) = IsNextOf own tapes spare next pending.effect
IsDoubt own tapes spare None (Some pending) = ⊥
IsDoubt own tapes spare (Some next) None = ⊥

-- the lengths of lists, and the takes, lie in their ranges
abbrev pub IsWithin : List (List ℕ) → Call → Type 0
IsWithin tapes (calls.Record take) = HasTake tapes take
IsWithin tapes (calls.Add lane take) = HasTake tapes take
IsWithin tapes (calls.Concat ids) = length ids ≤ 16
IsWithin tapes _ = Unit {0}

-- what a sender keeps: its tables show this durable part, takes lie in the tapes, and what is in doubt may be done
pub record IsSoundBy (own : Durable Tagged) (tapes : List (List ℕ)) (sender : Sender) : Type 0 where
  pub told : IsTold own sender.parts
  pub in_shape : own.shape ≡ sender.shape
  pub within : AreAdded tapes sender.adds.items
  pub doubt : IsMaybeNext own tapes sender.parts.form sender.parts.interests.spare sender.doubt

-- what a sender keeps
abbrev pub IsSound : List (List ℕ) → Sender → Type 0
IsSound tapes sender = (own : Durable Tagged) × IsSoundBy own tapes sender

-- the sender follows a state, by tables that show this durable part
pub record IsAbreastBy (own : Durable Tagged) (tapes : List (List ℕ)) (sender : Sender) (s : State) : Type 0 where
  pub sound : IsSoundBy own tapes sender
  pub valid : IsState s
  pub like : IsLike sender.parts.form own s.form s.kept
  pub taking : (lane : ℕ) → taking_of s lane ≡ bytes_taken tapes (takes_on sender.adds.items lane)
  pub doubt : IsDoubt own tapes sender.parts.interests.spare sender.doubt s.doubt

-- the sender follows a state
abbrev pub IsAbreast : List (List ℕ) → Sender → State → Type 0
IsAbreast tapes sender s = (own : Durable Tagged) × IsAbreastBy own tapes sender s

-- the tables are like a valid state, in which nothing is in doubt and nothing refuses the call
pub record Asks (own : Durable Tagged) (parts : Parts) (tapes : List (List ℕ)) (s : State) (call : Call) : Type 0 where
  pub like : IsLike parts.form own s.form s.kept
  pub valid : IsState s
  pub free : refusal s tapes call ≡ None
  pub sure : s.doubt ≡ None

-- the parts show a state without open recordings and with nothing in doubt
pub record Starts (shape : Shape) (parts : Parts) (s : State) : Type 0 where
  pub valid : IsState s
  pub in_shape : s.shape ≡ shape
  pub shows : ShowsState [] parts s
  pub form : parts.form ≡ s.form
  pub quiet : Every (λ (lane : LaneState). lane.taking ≡ None) s.lanes
  pub sure : s.doubt ≡ None

-- the sender follows the state, nothing is in doubt, and nothing refuses the call
pub record MayChange (own : Durable Tagged) (tapes : List (List ℕ)) (sender : Sender) (s : State) (call : Call) : Type 0 where
  pub abreast : IsAbreastBy own tapes sender s
  pub free : refusal s tapes call ≡ None
  pub sure : s.doubt ≡ None

-- a landing needs a change in doubt; nothing refuses any other call, and one that can make a change waits for a landing
abbrev pub MayBeAnswered : State → List (List ℕ) → Call → Type 0
MayBeAnswered s tapes calls.Landed = is_some s.doubt ≡ true
MayBeAnswered s tapes call = (refusal s tapes call ≡ None) × (nothing_to_land s call ≡ true)

-- the sender follows the state, and the call may be answered there
pub record MayAnswer (tapes : List (List ℕ)) (sender : Sender) (s : State) (call : Call) : Type 0 where
  pub abreast : IsAbreast tapes sender s
  pub may : MayBeAnswered s tapes call
  pub later : IsState (answered s tapes call)

-- the state in which the change of a call is in doubt
abbrev pub doubted : State → List (List ℕ) → Call → State
doubted s tapes call = state_by Outcome.Doubted s tapes call

-- the sender follows the state, and the change of the call may be in doubt
pub record MayHold (tapes : List (List ℕ)) (sender : Sender) (s : State) (call : Call) : Type 0 where
  pub abreast : IsAbreast tapes sender s
  pub free : refusal s tapes call ≡ None
  pub sure : s.doubt ≡ None
  pub some : is_some (effect_of s tapes call) ≡ true
  pub later : IsState (doubted s tapes call)

-- the sender follows the state, and the entry may come next
pub record MayNote (tapes : List (List ℕ)) (sender : Sender) (s : State) (e : Entry) : Type 0 where
  pub abreast : IsAbreast tapes sender s
  pub range : InRange e.call
  pub answer : IsAnswer s tapes e

-- the sender follows a later state, and the packet of the effect was appended, if there is one
pub record Follows (tapes : List (List ℕ)) (old new : Sender) (s : State) (before after : List ℕ) (made : Option (Effect Tagged)) : Type 0 where
  pub abreast : IsAbreast tapes new s
  pub bytes : after ≡ before ++ packets_spelling (packets_of old.next made)
  pub next : new.next ≡ old.next + length (packets_of old.next made)

-- each call's fields lie in their ranges, its lists are short enough, and its takes lie in the tapes
abbrev pub AreWithin : List (List ℕ) → List Entry → Type 0
AreWithin tapes es = Every (λ (e : Entry). InRange e.call × IsWithin tapes e.call) es

-- the sender follows a later state, and the packets of these effects were appended
pub record FollowsAll (tapes : List (List ℕ)) (old new : Sender) (s : State) (before after : List ℕ) (made : List (Effect Tagged)) : Type 0 where
  pub abreast : IsAbreast tapes new s
  pub bytes : after ≡ before ++ packets_spelling (packets_from old.next made)
  pub next : new.next ≡ old.next + length made

-- the sender follows the state after the first entries, however many they are, and the packets of their changes were appended
pub record FollowsSome (tapes : List (List ℕ)) (old new : Sender) (s : State) (es : List Entry) (before bytes : List ℕ) : Type 0 where
  pub count : ℕ
  pub first : FollowsAll tapes old new (after s tapes (take count es)) before bytes (changes_of s tapes (take count es))

-- an effect was done on the tables, and its packet was appended, if there is one
pub record HasChanged (own : Durable Tagged) (old new : Sender) (before after : List ℕ) (made : Option (Effect Tagged)) : Type 0 where
  pub told : IsTold (changed_by old.parts.form own made) new.parts
  pub form : new.parts.form ≡ old.parts.form
  pub bytes : after ≡ before ++ packets_spelling (packets_of old.next made)
  pub next : new.next ≡ old.next + length (packets_of old.next made)

-- how a call went, by its reply: refused or failed, a change in doubt, or answered
abbrev pub course_of : Reply → Course
course_of (replies.No why.InDoubt) = courses.Doubted
course_of (replies.No reason) = courses.Without
course_of _ = courses.Answered

-- a call that can make a change, and does nothing else
abbrev pub only_changes : Call → Bool
only_changes (calls.End lane) = false
only_changes call = is_changing call

-- a call of which nothing is followed
abbrev pub is_quiet : Call → Bool
is_quiet (calls.Add lane take) = false
is_quiet calls.Landed = false
is_quiet call = not (is_changing call)

-- what is left of what was added once the change of a call is in doubt
abbrev pub IsLeft : List Added → Call → Option (Vec Added Global) → Type 0
IsLeft adds (calls.End lane) (Some left) = left.items ≡ others_than adds lane
IsLeft adds (calls.End lane) None = ⊥
IsLeft adds call (Some left) = ⊥
IsLeft adds call None = Unit {0}
