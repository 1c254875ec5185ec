-- Calls that hear a rope: where there is talk in it, and how loud it is.
--     call_for sound id      the call that asks it of a rope
--     sounding sound bytes      its reply, of the bytes of the rope
--     IsHeard honest s tapes call reply      the call is not refused, and this is its reply, on a disk that isn't honest but for the talk and peaks
--     IsHeardOf honest s tapes sound id o      the reply of the call of a live rope, and none where the rope is not live
use Rattle.std.specs.Prelude.{◌≡◌, ℕ, Bool, List, Option, Some, None, IsTrue}
use Rattle.voice_model.specs.Heard.{unheard}
use Rattle.voice_model.specs.State.{State}
use Rattle.voice_model.specs.Step.{refusal, reply_of}
use Rattle.voice_model.specs.Talk.{talk, peaks}
use Rattle.voice_model.specs.declared.calls.Call.{Call}
use Rattle.voice_model.specs.declared.calls.Call.TheVariants as calls
use Rattle.voice_model.specs.declared.calls.Reply.{Reply}
use Rattle.voice_model.specs.declared.calls.Reply.TheVariants as replies
use Rattle.voice_model.specs.declared.calls.Why.TheVariants as why
use Rattle.voice_store.specs.declared.hearing.Sound.{Sound}
use Rattle.voice_store.specs.declared.hearing.Sound.TheVariants as sounds

-- the call that asks it of a rope
abbrev pub call_for : Sound → ℕ → Call
call_for sounds.Talk id = calls.Describe id
call_for sounds.Peaks id = calls.Levels id

-- its reply, of the bytes of the rope
abbrev pub sounding : Sound → List ℕ → Reply
sounding sounds.Talk bytes = replies.Talk (talk bytes)
sounding sounds.Peaks bytes = replies.Peaks (peaks bytes)

-- the call is not refused, and this is its reply, on a disk that isn't honest but for the talk and peaks
pub record IsHeard (honest : Bool) (s : State) (tapes : List (List ℕ)) (call : Call) (reply : Reply) : Type 0 where
  pub unrefused : refusal s tapes call ≡ None
  pub alike : unheard (reply_of s tapes call) ≡ unheard reply
  pub right : IsTrue honest → reply_of s tapes call ≡ reply

-- the reply of the call of a live rope, and none where the rope is not live
abbrev pub IsHeardOf : Bool → State → List (List ℕ) → Sound → ℕ → Option Reply → Type 0
IsHeardOf honest s tapes sound id None = refusal s tapes (call_for sound id) ≡ Some (why.UnknownRope id)
IsHeardOf honest s tapes sound id (Some reply) = IsHeard honest s tapes (call_for sound id) reply
