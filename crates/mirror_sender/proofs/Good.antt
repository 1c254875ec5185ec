-- The packets of a legal history are good.
use Rattle.std.proofs.Common.{◌≡◌, ℕ, ◌+◌, ◌≤◌, ◌^◌, ◌==◌, Bool, true, false, cond, not, ◌&&◌, List, [], ◌∷◌, map, length, Option, Some, None, refl, sym, subst, arith}
use Rattle.voice_model.specs.Samples.{Tagged}
use Rattle.voice_model.specs.State.{State, Durable, Live, Effect, Pending, has_row, settled, among}
use Rattle.voice_model.specs.State.Effect.{Recorded, Edited, Retained, Forgotten, Counted, Swept, Advanced}
use Rattle.voice_model.specs.Changes.{effect_of, changed}
use Rattle.voice_model.specs.Step.{Outcome, outcome_of, refusal, brought_back, windows_home, on_lanes, with_change, after_reply, after_landing, landed, answered, recording_closed, asked_in, state_by, state_after, MayReply, IsReply, IsAnswer, Legal, after}
use Rattle.voice_model.specs.Valid.{IsState, InRange}
use Rattle.voice_model.specs.declared.calls.Call.{Call}
use Rattle.voice_model.specs.declared.calls.Call.TheVariants as calls
use Rattle.voice_model.specs.declared.calls.Reply.{Reply}
use Rattle.voice_model.specs.declared.calls.Why.{Why}
use Rattle.voice_model.specs.declared.calls.Entry.{Entry}
use Rattle.voice_model.specs.declared.calls.Row.{Row}
use Rattle.voice_model.proofs.KeptByChanges.{every-append, every-map, every-filter}
use Rattle.voice_model.proofs.StatesKept.{state_kept}
use Rattle.mirror_packets.specs.Packets.{AreGood}
use Rattle.mirror_packets.specs.Effects.{packets_from}
use Rattle.mirror_sender.specs.Sent.{sent, sent_by, answered_effect, effect_in_doubt, unless_refused, with_effect, changes_of}
use Rattle.mirror_sender.specs.Abreast.{AreWithin}
use Rattle.mirror_sender.specs.Laws.{AreInFiles, HaveFiles, HasFiles, IsGoodEffect, IsGoodDoubt, MayBeGood, IsSmall, AreSmall}
use Rattle.mirror_sender.proofs.Grammar.{id_test, made_good}

-- ---- the samples of ropes, behind a change

settled_files : (form now class : ℕ) (before after : List Row) (rope : Live Tagged) → AreInFiles rope.samples → AreInFiles (settled form now class before after rope).samples
settled_files form now class before after rope h = by (has_row before rope.id && not (has_row after rope.id))
  where
    by : (b : Bool) → AreInFiles (cond b (record rope { idle = now; last = cond (form == 2) class rope.last }) rope).samples
    by true = h
    by false = h

all_settled : (form now class : ℕ) (before after : List Row) (ropes : List (Live Tagged)) → HaveFiles ropes → HaveFiles (map (settled form now class before after) ropes)
all_settled form now class before after ropes h =
    every-map (λ (rope : Live Tagged). AreInFiles rope.samples) (λ (rope : Live Tagged). AreInFiles rope.samples) (settled form now class before after) (settled_files form now class before after) ropes h

files_changed : (form : ℕ) (d : Durable Tagged) (effect : Effect Tagged) → HaveFiles d.ropes → IsGoodEffect effect → HaveFiles (changed form d effect).ropes
files_changed form d (Recorded id samples) h k = every-append (λ (rope : Live Tagged). AreInFiles rope.samples) d.ropes _ h (k.files, tt)
files_changed form d (Edited id samples) h k = every-append (λ (rope : Live Tagged). AreInFiles rope.samples) d.ropes _ h (k.files, tt)
files_changed form d (Retained row) h k = h
files_changed form d (Forgotten class key) h k = all_settled form d.moment _ d.rows _ d.ropes h
files_changed form d (Counted keys) h k = all_settled form d.moment 3 d.rows _ d.ropes h
files_changed form d (Swept ids) h k = every-filter (λ (rope : Live Tagged). AreInFiles rope.samples) (λ rope. not (among ids rope.id)) _ (all_settled form d.moment 2 d.rows _ d.ropes h)
files_changed form d (Advanced moment) h k = h

-- ---- an entry

-- the state that an entry leaves, and the effect that is sent
record IsGood (t : State) (made : Option (Effect Tagged)) : Type 0 where
  files : HasFiles t
  effect : MayBeGood made

-- the lanes do not matter
same_files : (s t : State) → t.kept ≡ s.kept → t.doubt ≡ s.doubt → HasFiles s → HasFiles t
same_files s t e f h = record { ropes = subst (λ (d : Durable Tagged). HaveFiles d.ropes) (sym e) h.ropes; doubt = subst IsGoodDoubt (sym f) h.doubt }

brought_files : (s : State) (lane : ℕ) (back : Option ℕ) → HasFiles s → HasFiles (brought_back s lane back)
brought_files s lane None h = h
brought_files s lane (Some m) h = same_files s (brought_back s lane (Some m)) refl refl h

home_files : (s : State) (call : Call) → HasFiles s → HasFiles (windows_home s call)
home_files s (calls.Feed lane back) h = brought_files s lane back h
home_files s call h = h

lane_files : (s : State) (tapes : List (List ℕ)) (call : Call) → HasFiles s → HasFiles (on_lanes s tapes call)
lane_files s tapes (calls.Play lane id start len) h = same_files s (on_lanes s tapes (calls.Play lane id start len)) refl refl h
lane_files s tapes (calls.Feed lane back) h = same_files (brought_back s lane back) (on_lanes s tapes (calls.Feed lane back)) refl refl (brought_files s lane back h)
lane_files s tapes (calls.Stop lane) h = same_files s (on_lanes s tapes (calls.Stop lane)) refl refl h
lane_files s tapes (calls.Begin lane) h = same_files s (on_lanes s tapes (calls.Begin lane)) refl refl h
lane_files s tapes (calls.Add lane take) h = same_files s (on_lanes s tapes (calls.Add lane take)) refl refl h
lane_files s tapes (calls.End lane) h = same_files s (on_lanes s tapes (calls.End lane)) refl refl h
lane_files s tapes call h = h

change_files : (s : State) (form : ℕ) (made : Option (Effect Tagged)) → HasFiles s → MayBeGood made → HasFiles (with_change s form made)
change_files s form None h k = h
change_files s form (Some effect) h k = record { ropes = files_changed form s.kept effect h.ropes k; doubt = h.doubt }

closed_ropes : (s : State) (call : Call) → HaveFiles s.ropes → HaveFiles (recording_closed s call).ropes
closed_ropes s (calls.End lane) h = h
closed_ropes s call h = h

doubt_good : (form : ℕ) (made : Option (Effect Tagged)) → MayBeGood made → IsGoodDoubt (asked_in form made)
doubt_good form None k = tt
doubt_good form (Some effect) k = k

-- a change in doubt lands
landing_good : (s : State) (pending : Option Pending) → HaveFiles s.ropes → s.doubt ≡ None → IsGoodDoubt pending → IsGood (after_landing s pending) (effect_in_doubt pending)
landing_good s None h none k = record { files = record { ropes = h; doubt = subst IsGoodDoubt (sym none) tt }; effect = tt }
landing_good s (Some pending) h none k = record { files = record { ropes = files_changed pending.form s.kept pending.effect h k; doubt = subst IsGoodDoubt (sym none) tt }; effect = k }

landed_good : (s : State) → HasFiles s → IsGood (landed s) (effect_in_doubt s.doubt)
landed_good s h = landing_good (record s { doubt = None }) s.doubt h.ropes refl h.doubt

-- what holds where a call is asked
record IsAsked (s : State) (call : Call) : Type 0 where
  valid : IsState s
  files : HasFiles s
  range : InRange call
  small : IsSmall call

refusal_good : (s : State) (tapes : List (List ℕ)) (call : Call) (o : Option Why) → refusal s tapes call ≡ o → IsAsked s call → IsGood (after_reply s tapes call o) (unless_refused o (effect_of s tapes call))
refusal_good s tapes call None e h =
    let made = made_good s tapes call h.valid h.files.ropes h.range h.small e in
    record { files = change_files (on_lanes s tapes call) s.form (effect_of s tapes call) (lane_files s tapes call h.files) made; effect = made }
refusal_good s tapes call (Some reason) e h = record { files = home_files s call h.files; effect = tt }

answer_good : (s : State) (tapes : List (List ℕ)) (call : Call) → IsAsked s call → IsGood (answered s tapes call) (answered_effect s tapes call)
answer_good s tapes calls.Landed h = landed_good s h.files
answer_good s tapes call h = refusal_good s tapes call (refusal s tapes call) refl h

outcome_good : (o : Outcome) (s : State) (tapes : List (List ℕ)) (call : Call) (reply : Reply) → MayReply o s tapes call reply → IsAsked s call → IsGood (state_by o s tapes call) (sent_by o s tapes call)
outcome_good Outcome.Answered s tapes call reply k h = answer_good s tapes call h
outcome_good Outcome.Faulted s tapes call reply k h = record { files = home_files s call h.files; effect = tt }
outcome_good Outcome.Doubted s tapes call reply k h = record {
  files = record {
    ropes = closed_ropes s call h.files.ropes;
    doubt = doubt_good s.form (effect_of s tapes call) (made_good s tapes call h.valid h.files.ropes h.range h.small k.2);
  };
  effect = tt;
}

reply_good : (s : State) (tapes : List (List ℕ)) (caller : ℕ) (call : Call) (reply : Reply) → IsReply s tapes caller call reply → IsAsked s call → IsGood (state_by (outcome_of reply) s tapes call) (sent_by (outcome_of reply) s tapes call)
reply_good s tapes caller calls.Landed reply k h = subst (λ r. IsGood (state_by (outcome_of r) s tapes calls.Landed) (sent_by (outcome_of r) s tapes calls.Landed)) (sym k.1) (landed_good s h.files)
reply_good s tapes caller call reply k h = outcome_good (outcome_of reply) s tapes call reply k.1 h

entry_good : (s : State) (tapes : List (List ℕ)) (e : Entry) → IsState s → HasFiles s → IsAnswer s tapes e → InRange e.call → IsSmall e.call → IsGood (state_after s tapes e) (sent s tapes e)
entry_good s tapes e valid files answer range small = reply_good s tapes e.caller e.call e.reply answer (record { valid = valid; files = files; range = range; small = small })

-- ---- histories

pub files_history : (s : State) (tapes : List (List ℕ)) (es : List Entry) → IsState s → HasFiles s → Legal s tapes es → AreWithin tapes es → AreSmall es → HasFiles (after s tapes es)
files_history s tapes [] valid files legal within small = files
files_history s tapes (e ∷ es) valid files legal within small =
    files_history (state_after s tapes e) tapes es (state_kept s tapes e valid within.0.0 legal.0) (entry_good s tapes e valid files legal.0 within.0.0 small.0).files legal.1 within.1 small.1

-- one packet more in front
more_good : (first : ℕ) (made : Option (Effect Tagged)) (rest : List (Effect Tagged)) → MayBeGood made → 1 ≤ first → first + length (with_effect made rest) ≤ 2 ^ 48 + 1
    → ((n : ℕ) → 1 ≤ n → n + length rest ≤ 2 ^ 48 + 1 → AreGood (packets_from n rest)) → AreGood (packets_from first (with_effect made rest))
more_good first None rest k low high later = later first low high
more_good first (Some effect) rest k low high later =
    (record { number = id_test first low (omega (arith, high)); body = k.body }, later (first + 1) (omega (arith, low)) (omega (arith, high)))

pub good_history : (s : State) (tapes : List (List ℕ)) (es : List Entry) (first : ℕ) → IsState s → HasFiles s → Legal s tapes es → AreWithin tapes es → AreSmall es → 1 ≤ first → first + length (changes_of s tapes es) ≤ 2 ^ 48 + 1
    → AreGood (packets_from first (changes_of s tapes es))
good_history s tapes [] first valid files legal within small low high = tt
good_history s tapes (e ∷ es) first valid files legal within small low high =
    let one = entry_good s tapes e valid files legal.0 within.0.0 small.0 in
    let next = state_kept s tapes e valid within.0.0 legal.0 in
    more_good first (sent s tapes e) (changes_of (state_after s tapes e) tapes es) one.effect low high
    (λ n low high. good_history (state_after s tapes e) tapes es n next one.files legal.1 within.1 small.1 low high)
