-- Calls that leave the state as it was.
use Rattle.std.proofs.Common.{◌≡◌, ◌⊎◌, inl, inr, ℕ, List, [], ◌∷◌, map, Bool, true, false, Option, Some, None, IsTrue, refl, sym, ◌∙◌, ap, subst}
use Rattle.voice_units.specs.declared.pieces.Piece.{Piece}
use Rattle.voice_units.specs.Spots.{Spot}
use Rattle.voice_model.specs.Samples.{Tagged, spot_of}
use Rattle.voice_model.specs.State.{State, Live, Durable, row_at}
use Rattle.voice_model.specs.Changes.{effect_of}
use Rattle.voice_model.specs.Step.{Outcome, outcome_of, refusal, reply_of, found, first_of, if_missing, on_lanes, with_change, reply_by, windows_home, answered, after_reply, state_by, state_after, nothing_to_land, landing_failed, MayReply, IsReply}
use Rattle.voice_model.specs.Replay.{Rebuilt, live_by, durable_by}
use Rattle.voice_model.specs.declared.calls.Call.{Call}
use Rattle.voice_model.specs.declared.calls.Call.TheVariants as calls
use Rattle.voice_model.specs.declared.calls.Class.{Class}
use Rattle.voice_model.specs.declared.calls.Reply.{Reply}
use Rattle.voice_model.specs.declared.calls.Reply.TheVariants as replies
use Rattle.voice_model.specs.declared.calls.Why.{Why}
use Rattle.voice_model.specs.declared.calls.Why.TheVariants as why
use Rattle.voice_model.proofs.Answers.{answered_outcome}
use Rattle.voice_model.proofs.Heard.{reply_on}
use Rattle.recovery.specs.Shown.{Shows}
use Rattle.recovery.specs.declared.parts.Parts.{Parts}
use Rattle.edits.specs.Shown.{ShowsState, IsLength}
use Rattle.voice_outside.specs.Disk.{Told}
use Rattle.next_changes.proofs.Given.{given}
use Rattle.voice_store.specs.declared.inside.Inside.{Inside}
use Rattle.voice_store.specs.Stood.{is_fault_of, Fills, IsSure, IsUnsure, Stood, last_of}
use Rattle.voice_store.specs.Facts.{Stays, IsFault, entry_of}
use Rattle.voice_store.specs.Asking.{HasInterest}
use Rattle.built_calls.specs.Built.{is_built}

-- ---- a call that the store can do

pub wrong : false ≡ true → ⊥
wrong e = cc

pub is_reply : (s : State) (tapes : List (List ℕ)) (caller : ℕ) (call : Call) (reply : Reply) → IsTrue (is_built call) → MayReply (outcome_of reply) s tapes call reply → IsReply s tapes caller call reply
is_reply s tapes caller (calls.Record take) reply built may = (tt, may)
is_reply s tapes caller (calls.Concat ids) reply built may = (tt, may)
is_reply s tapes caller (calls.Sub id start len) reply built may = (tt, may)
is_reply s tapes caller (calls.Replace id start len with) reply built may = (tt, may)
is_reply s tapes caller (calls.Length id) reply built may = (tt, may)
is_reply s tapes caller (calls.Describe id) reply built may = (tt, may)
is_reply s tapes caller (calls.Levels id) reply built may = (tt, may)
is_reply s tapes caller (calls.Play lane id start len) reply built may = (tt, may)
is_reply s tapes caller (calls.Stop lane) reply built may = (tt, may)
is_reply s tapes caller (calls.Begin lane) reply built may = (tt, may)
is_reply s tapes caller (calls.Add lane take) reply built may = (tt, may)
is_reply s tapes caller (calls.End lane) reply built may = (tt, may)
is_reply s tapes caller (calls.Retain class key id note) reply built may = (tt, may)
is_reply s tapes caller (calls.Forget class key) reply built may = (tt, may)
is_reply s tapes caller (calls.Lookup class key) reply built may = (tt, may)
is_reply s tapes caller (calls.Census keys) reply built may = (tt, may)
is_reply s tapes caller (calls.Advance moment) reply built may = (tt, may)
is_reply s tapes caller (calls.Sweep limit) reply built may = (tt, may)
is_reply s tapes caller _ reply built may = absurd (wrong built)

pub stays_home : (s : State) (call : Call) → IsTrue (is_built call) → windows_home s call ≡ s
stays_home s (calls.Record take) built = refl
stays_home s (calls.Concat ids) built = refl
stays_home s (calls.Sub id start len) built = refl
stays_home s (calls.Replace id start len with) built = refl
stays_home s (calls.Length id) built = refl
stays_home s (calls.Describe id) built = refl
stays_home s (calls.Levels id) built = refl
stays_home s (calls.Play lane id start len) built = refl
stays_home s (calls.Stop lane) built = refl
stays_home s (calls.Begin lane) built = refl
stays_home s (calls.Add lane take) built = refl
stays_home s (calls.End lane) built = refl
stays_home s (calls.Retain class key id note) built = refl
stays_home s (calls.Forget class key) built = refl
stays_home s (calls.Lookup class key) built = refl
stays_home s (calls.Census keys) built = refl
stays_home s (calls.Advance moment) built = refl
stays_home s (calls.Sweep limit) built = refl
stays_home s _ built = absurd (wrong built)

pub answered_so : (s : State) (tapes : List (List ℕ)) (call : Call) → IsTrue (is_built call) → answered s tapes call ≡ after_reply s tapes call (refusal s tapes call)
answered_so s tapes (calls.Record take) built = refl
answered_so s tapes (calls.Concat ids) built = refl
answered_so s tapes (calls.Sub id start len) built = refl
answered_so s tapes (calls.Replace id start len with) built = refl
answered_so s tapes (calls.Length id) built = refl
answered_so s tapes (calls.Describe id) built = refl
answered_so s tapes (calls.Levels id) built = refl
answered_so s tapes (calls.Play lane id start len) built = refl
answered_so s tapes (calls.Stop lane) built = refl
answered_so s tapes (calls.Begin lane) built = refl
answered_so s tapes (calls.Add lane take) built = refl
answered_so s tapes (calls.End lane) built = refl
answered_so s tapes (calls.Retain class key id note) built = refl
answered_so s tapes (calls.Forget class key) built = refl
answered_so s tapes (calls.Lookup class key) built = refl
answered_so s tapes (calls.Census keys) built = refl
answered_so s tapes (calls.Advance moment) built = refl
answered_so s tapes (calls.Sweep limit) built = refl
answered_so s tapes _ built = absurd (wrong built)

-- ---- a refusal

module _ (s : State) (tapes : List (List ℕ)) (caller : ℕ) (call : Call) (built : IsTrue (is_built call)) (free : IsTrue (nothing_to_land s call)) (o : Option Why) (is : refusal s tapes call ≡ o) where
  outcome : outcome_of (reply_by s tapes call o) ≡ Outcome.Answered
  outcome = subst (λ x. outcome_of (reply_by s tapes call x) ≡ Outcome.Answered) is (answered_outcome s tapes call)

  pub may_answer : IsReply s tapes caller call (reply_by s tapes call o)
  may_answer = is_reply s tapes caller call (reply_by s tapes call o) built
      (subst (λ x. MayReply x s tapes call (reply_by s tapes call o)) (sym outcome) (free, ap (λ x. reply_by s tapes call x) (sym is)))

  pub after_answered : (ack : ℕ) → state_after s tapes (entry_of caller call (reply_by s tapes call o) ack) ≡ after_reply s tapes call o
  after_answered ack = ap (λ x. state_by x s tapes call) outcome ∙ answered_so s tapes call built ∙ ap (λ x. after_reply s tapes call x) is

pub refused_stays : (honest : Bool) (s : State) (tapes : List (List ℕ)) (caller : ℕ) (call : Call) (reason : Why) → IsTrue (is_built call) → IsTrue (nothing_to_land s call) → refusal s tapes call ≡ Some reason → Stays honest s tapes caller call (replies.No reason)
refused_stays honest s tapes caller call reason built free is = record {
  answers = reply_on honest s tapes caller call (replies.No reason) (may_answer s tapes caller call built free (Some reason) is);
  stays = λ ack. after_answered s tapes caller call built free (Some reason) is ack ∙ stays_home s call built;
}

-- a refusal tells of no device fault
pub refused_plain : (s : State) (tapes : List (List ℕ)) (call : Call) (reason : Why) → refusal s tapes call ≡ Some reason → ¬ IsFault (replies.No reason)
refused_plain s tapes call reason is = λ fault.
    wrong (sym (ap is_fault_of (subst (λ x. outcome_of (reply_by s tapes call x) ≡ Outcome.Answered) is (answered_outcome s tapes call))) ∙ fault)

-- ---- a landing that failed

pub unlanded_stays : (honest : Bool) (s : State) (tapes : List (List ℕ)) (caller : ℕ) (call : Call) → IsTrue (is_built call) → IsTrue (landing_failed s call) → Stays honest s tapes caller call (replies.No why.DiskFault)
unlanded_stays honest s tapes caller call built failed = record {
  answers = reply_on honest s tapes caller call (replies.No why.DiskFault) (is_reply s tapes caller call (replies.No why.DiskFault) built (inl failed));
  stays = λ ack. stays_home s call built;
}

-- ---- a length

pub length_stays : (honest : Bool) (s : State) (tapes : List (List ℕ)) (caller id n : ℕ) → IsLength (Some n) s tapes id → Stays honest s tapes caller (calls.Length id) (replies.Number n)
length_stays honest s tapes caller id n is =
    subst (λ r. Stays honest s tapes caller (calls.Length id) r) is.1 (record {
      answers = reply_on honest s tapes caller (calls.Length id) (reply_of s tapes (calls.Length id)) (may_answer s tapes caller (calls.Length id) refl refl None is.0);
      stays = λ ack. after_answered s tapes caller (calls.Length id) refl refl None is.0 ack;
    })

-- ---- an interest

pub found_stays : (honest : Bool) (s : State) (tapes : List (List ℕ)) (caller : ℕ) (class : Class) (key : List ℕ) (rope : ℕ) (note : List ℕ) → HasInterest s class key rope note → Stays honest s tapes caller (calls.Lookup class key) (replies.Found rope note)
found_stays honest s tapes caller class key rope note has =
    let free : refusal s tapes (calls.Lookup class key) ≡ None = ap (λ o. first_of (if_missing o ∷ [])) has.1 in
    subst (λ r. Stays honest s tapes caller (calls.Lookup class key) r) (ap found has.1 ∙ ap (λ n. replies.Found n has.0.note) has.2 ∙ ap (replies.Found rope) has.3) (record {
      answers = reply_on honest s tapes caller (calls.Lookup class key) (reply_of s tapes (calls.Lookup class key)) (may_answer s tapes caller (calls.Lookup class key) refl refl None free);
      stays = λ ack. after_answered s tapes caller (calls.Lookup class key) refl refl None free ack;
    })

pub missing_refused : (s : State) (tapes : List (List ℕ)) (class : Class) (key : List ℕ) → row_at s.rows class key ≡ None → refusal s tapes (calls.Lookup class key) ≡ Some why.NoInterest
missing_refused s tapes class key none = ap (λ o. first_of (if_missing o ∷ [])) none

-- ---- a call that alters nothing

pub nothing_stays : (honest : Bool) (s : State) (tapes : List (List ℕ)) (caller : ℕ) (call : Call) (reply : Reply) → IsTrue (is_built call) → IsTrue (nothing_to_land s call) → on_lanes s tapes call ≡ s → refusal s tapes call ≡ None → effect_of s tapes call ≡ None → reply_of s tapes call ≡ reply
    → Stays honest s tapes caller call reply
nothing_stays honest s tapes caller call reply built free lanes unrefused none is =
    subst (λ r. Stays honest s tapes caller call r) is (record {
      answers = reply_on honest s tapes caller call (reply_of s tapes call) (may_answer s tapes caller call built free None unrefused);
      stays = λ ack. after_answered s tapes caller call built free None unrefused ack ∙ ap (λ t. with_change t s.form (effect_of s tapes call)) lanes ∙ ap (with_change s s.form) none;
    })

-- ---- what the tables show of the state

pub spots_again : (fill : Spot → Tagged) → ((x : Spot) → spot_of (fill x) ≡ x) → (ss : List Spot) → map spot_of (map fill ss) ≡ ss
spots_again fill same [] = refl
spots_again fill same (s ∷ ss) = ap (λ x. x ∷ map spot_of (map fill ss)) (same s) ∙ ap (λ l. s ∷ l) (spots_again fill same ss)

ropes_again : (fill : Spot → Tagged) → ((x : Spot) → spot_of (fill x) ≡ x) → (ropes : List (Live Spot)) → map (live_by spot_of) (map (live_by fill) ropes) ≡ ropes
ropes_again fill same [] = refl
ropes_again fill same (r ∷ rs) =
    ap (λ (l : List Spot). record r { samples = l } ∷ map (live_by spot_of) (map (live_by fill) rs)) (spots_again fill same r.samples) ∙ ap (λ l. r ∷ l) (ropes_again fill same rs)

pub kept_again : (fill : Spot → Tagged) → ((x : Spot) → spot_of (fill x) ≡ x) → (d : Durable Spot) → durable_by spot_of (durable_by fill d) ≡ d
kept_again fill same d = ap (λ (l : List (Live Spot)). record d { ropes = l }) (ropes_again fill same d.ropes)

pub shows_state : (held : List (List Piece)) (fill : Spot → Tagged) (b : Rebuilt) (s : State) (parts : Parts) → Fills fill b s → Shows held parts b.kept → ShowsState held parts s
shows_state held fill b s parts fills shows = subst (λ d. Shows held parts d) (sym (kept_again fill fills.spots b.kept) ∙ ap (durable_by spot_of) fills.kept) shows

module _ (first : State) (t0 : ℕ) (disk : Told) (s : Inside) (stood : Stood first t0 disk s) where
  shown : IsSure stood.held stood.takings s stood.b stood.after (last_of first s) ⊎ IsUnsure stood.fill stood.held stood.takings s stood.b stood.after (last_of first s) → Shows stood.held s.parts stood.b.kept
  shown (inl sure) = sure.tables.kept
  shown (inr unsure) = (given stood.held stood.takings s.parts stood.b unsure.doubted.next unsure.change unsure.ready).runs.kept

  pub stood_shows : ShowsState stood.held s.parts (last_of first s)
  stood_shows = shows_state stood.held stood.fill stood.b (last_of first s) s.parts stood.upright.fills (shown stood.tables)
