-- Calls that make a rope: what they reply and leave where nothing refuses them.
use Rattle.std.proofs.Common.{◌≡◌, inr, ℕ, Bool, true, false, ◌||◌, not, List, Option, Some, None, IsTrue, is_some, refl, ◌∙◌, ap}
use Rattle.std.specs.Prelude.{is_none}
use Rattle.voice_model.specs.Samples.{Tagged}
use Rattle.voice_model.specs.State.{State, Effect, Pending}
use Rattle.voice_model.specs.Changes.{effect_of, is_changing, committed}
use Rattle.voice_model.specs.Step.{refusal, reply_of, after_answer, with_change, on_lanes, recording_closed, asked_in, reaches_device, nothing_to_land, samples_made}
use Rattle.voice_model.specs.Valid.{InRange}
use Rattle.voice_model.specs.declared.calls.Call.{Call}
use Rattle.voice_model.specs.declared.calls.Call.TheVariants as calls
use Rattle.voice_model.specs.declared.calls.Reply.TheVariants as replies
use Rattle.voice_model.specs.declared.calls.Why.TheVariants as why
use Rattle.row_calls.specs.Asked.{is_row_call}
use Rattle.voice_store.specs.Facts.{MayCommit, IsFault, is_edit}
use Rattle.built_calls.specs.Built.{is_built}
use Rattle.voice_store.proofs.Refused.{wrong, is_reply, stays_home, may_answer, after_answered}

-- a call that makes a change does nothing else
pub record IsMaking (s : State) (tapes : List (List ℕ)) (call : Call) : Type 0 where
  pub built : IsTrue (is_built call)
  pub changing : IsTrue (is_changing call)
  pub lanes : on_lanes s tapes call ≡ s
  pub closes : recording_closed s call ≡ s
  pub reaches : reaches_device s tapes call ≡ is_some (effect_of s tapes call)
  pub range : InRange call

pub edit_makes : (s : State) (tapes : List (List ℕ)) (call : Call) → IsTrue (is_edit call) → IsMaking s tapes call
edit_makes s tapes (calls.Concat ids) edits = record { built = refl; changing = refl; lanes = refl; closes = refl; reaches = refl; range = tt }
edit_makes s tapes (calls.Sub id start len) edits = record { built = refl; changing = refl; lanes = refl; closes = refl; reaches = refl; range = tt }
edit_makes s tapes (calls.Replace id start len with) edits = record { built = refl; changing = refl; lanes = refl; closes = refl; reaches = refl; range = tt }
edit_makes s tapes _ edits = absurd (wrong edits)

pub edit_reply : (s : State) (tapes : List (List ℕ)) (call : Call) → IsTrue (is_edit call) → reply_of s tapes call ≡ replies.Rope s.next (samples_made (effect_of s tapes call) s)
edit_reply s tapes (calls.Concat ids) edits = refl
edit_reply s tapes (calls.Sub id start len) edits = refl
edit_reply s tapes (calls.Replace id start len with) edits = refl
edit_reply s tapes _ edits = absurd (wrong edits)

pub row_makes : (s : State) (tapes : List (List ℕ)) (call : Call) → IsTrue (is_row_call call) → InRange call → IsMaking s tapes call
row_makes s tapes (calls.Retain class key id note) row range = record { built = refl; changing = refl; lanes = refl; closes = refl; reaches = refl; range = range }
row_makes s tapes (calls.Forget class key) row range = record { built = refl; changing = refl; lanes = refl; closes = refl; reaches = refl; range = tt }
row_makes s tapes (calls.Census keys) row range = record { built = refl; changing = refl; lanes = refl; closes = refl; reaches = refl; range = tt }
row_makes s tapes (calls.Advance moment) row range = record { built = refl; changing = refl; lanes = refl; closes = refl; reaches = refl; range = range }
row_makes s tapes (calls.Sweep limit) row range = record { built = refl; changing = refl; lanes = refl; closes = refl; reaches = refl; range = tt }
row_makes s tapes _ row range = absurd (wrong row)

-- what it replies tells of no device fault
pub row_plain : (s : State) (tapes : List (List ℕ)) (call : Call) → IsTrue (is_row_call call) → ¬ IsFault (reply_of s tapes call)
row_plain s tapes (calls.Retain class key id note) row = λ fault. wrong fault
row_plain s tapes (calls.Forget class key) row = λ fault. wrong fault
row_plain s tapes (calls.Census keys) row = λ fault. wrong fault
row_plain s tapes (calls.Advance moment) row = λ fault. wrong fault
row_plain s tapes (calls.Sweep limit) row = λ fault. wrong fault
row_plain s tapes _ row = absurd (wrong row)

or_true : (b : Bool) → (b || true) ≡ true
or_true true = refl
or_true false = refl

-- where nothing is in doubt nothing has to land
pub nothing_lands : (s : State) (call : Call) → s.doubt ≡ None → IsTrue (nothing_to_land s call)
nothing_lands s call none = ap (λ (o : Option Pending). not (is_changing call) || is_none o) none ∙ or_true (not (is_changing call))

module _ (s : State) (tapes : List (List ℕ)) (caller : ℕ) (call : Call) (effect : Effect Tagged) (making : IsMaking s tapes call) (none : s.doubt ≡ None) (free : refusal s tapes call ≡ None) (is : effect_of s tapes call ≡ Some effect) where
  some : IsTrue (is_some (effect_of s tapes call))
  some = ap is_some is

  after_none : after_answer s tapes call ≡ committed s s.form effect
  after_none = ap (λ t. with_change t s.form (effect_of s tapes call)) making.lanes ∙ ap (with_change s s.form) is

  in_doubt : record (recording_closed s call) { doubt = asked_in s.form (effect_of s tapes call) } ≡ record s { doubt = Some (record { effect = effect; form = s.form }) }
  in_doubt = ap (λ (t : State). record t { doubt = asked_in s.form (effect_of s tapes call) }) making.closes ∙ ap (λ o. record s { doubt = asked_in s.form o }) is

  pub may_commit : MayCommit s tapes caller call effect s.lanes
  may_commit = record {
    sure = none;
    answers = may_answer s tapes caller call making.built (nothing_lands s call none) None free;
    commits = λ ack. after_answered s tapes caller call making.built (nothing_lands s call none) None free ack ∙ after_none;
    faults = record {
      answers = is_reply s tapes caller call (replies.No why.DiskFault) making.built (inr (free, making.reaches ∙ some));
      stays = λ ack. stays_home s call making.built;
    };
    doubts = is_reply s tapes caller call (replies.No why.InDoubt) making.built (making.changing, nothing_lands s call none, free, some);
    waits = λ ack. in_doubt;
  }
