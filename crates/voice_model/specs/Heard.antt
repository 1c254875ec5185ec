-- What of a history holds on a disk that isn't honest: talk and peaks are read off the disk, and all else is told without it.
--     unheard reply      a reply without what was read off the disk
--     IsReplyButHeard s tapes caller call reply, LegalButHeard s tapes entries      the reply may be given, each entry may follow the ones before it, but for talk and peaks
--     IsReplyOn honest s tapes caller call reply, IsAnswerOn honest s tapes e, LegalOn honest s tapes entries      on an honest disk all of it, on every other all but talk and peaks
use Rattle.std.specs.Prelude.{◌≡◌, ℕ, Bool, true, false, List, [], ◌∷◌}
use Rattle.voice_model.specs.State.{State}
use Rattle.voice_model.specs.Step.{IsReply, Legal, state_after}
use Rattle.voice_model.specs.declared.calls.Call.{Call}
use Rattle.voice_model.specs.declared.calls.Reply.{Reply}
use Rattle.voice_model.specs.declared.calls.Reply.TheVariants as replies
use Rattle.voice_model.specs.declared.calls.Entry.{Entry}

-- a reply without what was read off the disk
abbrev pub unheard : Reply → Reply
unheard (replies.Talk spans) = replies.Talk []
unheard (replies.Peaks most) = replies.Peaks []
unheard reply = reply

-- the reply may be given, but for talk and peaks
pub record IsReplyButHeard (s : State) (tapes : List (List ℕ)) (caller : ℕ) (call : Call) (reply : Reply) : Type 0 where
  pub right : Reply
  pub answer : IsReply s tapes caller call right
  pub alike : unheard right ≡ unheard reply

abbrev pub IsReplyOn : Bool → State → List (List ℕ) → ℕ → Call → Reply → Type 0
IsReplyOn true s tapes caller call reply = IsReply s tapes caller call reply
IsReplyOn false s tapes caller call reply = IsReplyButHeard s tapes caller call reply

-- the entry's reply may be given: on an honest disk whole, on every other but for talk and peaks
abbrev pub IsAnswerOn : Bool → State → List (List ℕ) → Entry → Type 0
IsAnswerOn honest s tapes e = IsReplyOn honest s tapes e.caller e.call e.reply

-- each entry may follow the ones before it, but for talk and peaks
abbrev pub LegalButHeard : State → List (List ℕ) → List Entry → Type 0
LegalButHeard s tapes [] = Unit {0}
LegalButHeard s tapes (e ∷ es) = IsAnswerOn false s tapes e × LegalButHeard (state_after s tapes e) tapes es

-- a history is legal on an honest disk, and on every other but for talk and peaks
abbrev pub LegalOn : Bool → State → List (List ℕ) → List Entry → Type 0
LegalOn true s tapes entries = Legal s tapes entries
LegalOn false s tapes entries = LegalButHeard s tapes entries
