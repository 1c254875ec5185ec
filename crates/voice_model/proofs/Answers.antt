-- A call that meets no device fault is never answered as if it had: so the reply tells the outcome.
use Rattle.std.proofs.Common.{◌≡◌, ℕ, Bool, true, false, cond, List, [], ◌∷◌, ◌++◌, Option, Some, None, refl, ◌==◌, ◌-◌, ◌+◌, length, nat_lt}
use Rattle.std.specs.Prelude.{nat_le, is_some, is_none}
use Rattle.voice_model.specs.Room.{free}
use Rattle.voice_units.specs.Spots.{window}
use Rattle.voice_model.specs.Samples.{Tagged, spots_in_rope}
use Rattle.voice_model.specs.Changes.{last_epoch, frame_size, base_size, changed, effect_of}
use Rattle.voice_model.specs.State.{State, Effect, Job, LaneState, lane_at, row_at}
use Rattle.voice_model.specs.Step.{Outcome, outcome_of, outcome_of_why, refusal, conditions, first_of, when, if_unknown, if_taken, if_missing, if_long, if_many, if_spent, if_outside, if_crowded, if_no_lane, if_recording, if_not_recording, most_samples, most_pieces, last_rope, first_job, brought_back, if_full, is_journal_full, journal_full, reply_by, reply_of, reply_of_feed, found, state_after, IsAnswer, Legal, after}
use Rattle.voice_model.specs.declared.calls.Call.{Call}
use Rattle.voice_model.specs.declared.calls.Call.TheVariants as calls
use Rattle.voice_model.specs.declared.calls.Reply.{Reply}
use Rattle.voice_model.specs.declared.calls.Reply.TheVariants as replies
use Rattle.voice_model.specs.declared.calls.Why.{Why}
use Rattle.voice_model.specs.declared.calls.Why.TheVariants as why
use Rattle.voice_model.specs.declared.calls.Row.{Row}
use Rattle.voice_model.specs.declared.calls.Entry.{Entry}
use Rattle.voice_model.proofs.Determined.{after-append, legal-append}

abbrev IsNoFault : Option Why → Type 0
IsNoFault None = Unit {0}
IsNoFault (Some reason) = outcome_of_why reason ≡ Outcome.Answered

-- as a record, so that the arguments of what follows are found
pub record NoFault (o : Option Why) : Type 0 where
  pub none : IsNoFault o

AllNoFault : List (Option Why) → Type 0
AllNoFault [] = Unit {0}
AllNoFault (o ∷ os) = NoFault o × AllNoFault os

by_first : (os : List (Option Why)) → AllNoFault os → NoFault (first_of os)
unfolding AllNoFault
by_first [] h = record { none = tt }
by_first (None ∷ os) h = by_first os h.1
by_first (Some reason ∷ os) h = h.0

by_test : (b : Bool) (reason : Why) → outcome_of_why reason ≡ Outcome.Answered → NoFault (when b reason)
by_test true reason h = record { none = h }
by_test false reason h = record { none = tt }

by_unknown : (o : Option ℕ) → NoFault (if_unknown o)
by_unknown None = record { none = tt }
by_unknown (Some id) = record { none = refl }

by_taken : (o : Option Row) → NoFault (if_taken o)
by_taken None = record { none = tt }
by_taken (Some row) = record { none = refl }

by_missing : (o : Option Row) → NoFault (if_missing o)
by_missing None = record { none = refl }
by_missing (Some row) = record { none = tt }

full_by : (b : Bool) (x y : Why) → outcome_of_why x ≡ Outcome.Answered → outcome_of_why y ≡ Outcome.Answered → outcome_of_why (cond b x y) ≡ Outcome.Answered
full_by true x y h k = h
full_by false x y h k = k

by_journal : (s : State) (effect : Option (Effect Tagged)) → NoFault (if_full s effect)
by_journal s None = record { none = tt }
by_journal s (Some effect) =
    by_test (is_journal_full s effect) (journal_full s effect)
    (full_by (s.epoch == last_epoch) (why.JournalFull (frame_size s.form s.shape.block effect) s.left) (why.JournalFull (base_size s.form (changed s.form s.kept effect)) (s.shape.area - 17)) refl refl)

long_ok : (n : ℕ) → NoFault (if_long n)
long_ok n = by_test (nat_lt most_samples n) (why.TooLong n) refl

many_ok : (n : ℕ) → NoFault (if_many n)
many_ok n = by_test (nat_lt most_pieces n) (why.TooManyPieces n) refl

spent_ok : (s : State) → NoFault (if_spent s)
spent_ok s = by_test (nat_lt last_rope s.next) why.IdsSpent refl

outside_ok : (start len n : ℕ) → NoFault (if_outside start len n)
outside_ok start len n = by_test (nat_lt n (start + len)) (why.BadInterval n) refl

crowded_ok : (s : State) (need : ℕ) → NoFault (if_crowded s need)
crowded_ok s need = by_test (nat_lt (free s) need) (why.NoRoom need (free s)) refl

lane_ok : (s : State) (lane : ℕ) → NoFault (if_no_lane s lane)
lane_ok s lane = by_test (nat_le s.shape.lanes lane) (why.UnknownLane s.shape.lanes) refl

recording_ok : (lane : LaneState) → NoFault (if_recording lane)
recording_ok lane = by_test (is_some lane.taking) why.LaneRecording refl

not_recording_ok : (lane : LaneState) → NoFault (if_not_recording lane)
not_recording_ok lane = by_test (is_none lane.taking) why.NoRecording refl

each_condition : (s : State) (tapes : List (List ℕ)) (call : Call) → AllNoFault (conditions s tapes call)
unfolding AllNoFault
each_condition s tapes calls.Landed = tt
each_condition s tapes (calls.Record take) = (long_ok _, (spent_ok s, (crowded_ok s _, (by_journal s (effect_of s tapes (calls.Record take)), tt))))
each_condition s tapes (calls.Concat ids) = (by_unknown _, (long_ok _, (many_ok _, (spent_ok s, (by_journal s (effect_of s tapes (calls.Concat ids)), tt)))))
each_condition s tapes (calls.Sub id start len) = (by_unknown _, (outside_ok start len _, (spent_ok s, (by_journal s (effect_of s tapes (calls.Sub id start len)), tt))))
each_condition s tapes (calls.Replace id start len with) = (by_unknown _, (outside_ok start len _, (long_ok _, (many_ok _, (spent_ok s, (by_journal s (effect_of s tapes (calls.Replace id start len with)), tt))))))
each_condition s tapes (calls.Length id) = (by_unknown _, tt)
each_condition s tapes (calls.Describe id) = (by_unknown _, tt)
each_condition s tapes (calls.Levels id) = (by_unknown _, tt)
each_condition s tapes (calls.Play lane id start len) = (lane_ok s lane, (by_unknown _, (recording_ok (lane_at s lane), (by_test _ _ refl, (outside_ok start len _, tt)))))
each_condition s tapes (calls.Feed lane back) = (lane_ok s lane, (by_test _ _ refl, (by_test _ _ refl, tt)))
each_condition s tapes (calls.Stop lane) = (lane_ok s lane, tt)
each_condition s tapes (calls.Retain class key id note) = (by_unknown _, (by_test _ _ refl, (by_taken _, (by_journal s (effect_of s tapes (calls.Retain class key id note)), tt))))
each_condition s tapes (calls.Forget class key) = (by_missing _, (by_journal s (effect_of s tapes (calls.Forget class key)), tt))
each_condition s tapes (calls.Lookup class key) = (by_missing _, tt)
each_condition s tapes (calls.Census keys) = (by_journal s (effect_of s tapes (calls.Census keys)), tt)
each_condition s tapes (calls.Advance moment) = (by_journal s (effect_of s tapes (calls.Advance moment)), tt)
each_condition s tapes (calls.Sweep limit) = (by_journal s (effect_of s tapes (calls.Sweep limit)), tt)
each_condition s tapes (calls.Begin lane) = (lane_ok s lane, (recording_ok (lane_at s lane), (by_test _ _ refl, tt)))
each_condition s tapes (calls.Add lane take) = (lane_ok s lane, (not_recording_ok (lane_at s lane), (long_ok _, (crowded_ok s _, tt))))
each_condition s tapes (calls.End lane) = (lane_ok s lane, (not_recording_ok (lane_at s lane), (spent_ok s, (by_journal s (effect_of s tapes (calls.End lane)), tt))))

pub refused_no_fault : (s : State) (tapes : List (List ℕ)) (call : Call) → NoFault (refusal s tapes call)
refused_no_fault s tapes call = by_first (conditions s tapes call) (each_condition s tapes call)

found_outcome : (o : Option Row) → outcome_of (found o) ≡ Outcome.Answered
found_outcome None = refl
found_outcome (Some row) = refl

either : (b : Bool) (x y : Reply) → outcome_of x ≡ Outcome.Answered → outcome_of y ≡ Outcome.Answered → outcome_of (cond b x y) ≡ Outcome.Answered
either true x y h k = h
either false x y h k = k

feed_outcome : (block : ℕ) (o : Option Job) → outcome_of (reply_of_feed block o) ≡ Outcome.Answered
feed_outcome block None = refl
feed_outcome block (Some job) = either job.stopped _ _ refl (either (job.heard == length job.passage) (replies.Ended job.number job.heard) (replies.Window job.heard (window block (spots_in_rope job.passage) job.heard)) refl refl)

pub reply_outcome : (s : State) (tapes : List (List ℕ)) (call : Call) → outcome_of (reply_of s tapes call) ≡ Outcome.Answered
reply_outcome s tapes (calls.Feed lane back) = feed_outcome s.shape.block (first_job (lane_at (brought_back s lane back) lane).jobs)
reply_outcome s tapes (calls.Lookup class key) = found_outcome (row_at s.rows class key)
reply_outcome s tapes _ = refl

by_refusal : (s : State) (tapes : List (List ℕ)) (call : Call) (o : Option Why) → NoFault o → outcome_of (reply_by s tapes call o) ≡ Outcome.Answered
by_refusal s tapes call None h = reply_outcome s tapes call
by_refusal s tapes call (Some reason) h = h.none

pub answered_outcome : (s : State) (tapes : List (List ℕ)) (call : Call) → outcome_of (reply_by s tapes call (refusal s tapes call)) ≡ Outcome.Answered
answered_outcome s tapes call = by_refusal s tapes call (refusal s tapes call) (refused_no_fault s tapes call)

-- one more entry
pub record OneMore (s : State) (tapes : List (List ℕ)) (es : List Entry) (e : Entry) : Type 0 where
  pub legal : Legal s tapes (es ++ e ∷ [])
  pub state : after s tapes (es ++ e ∷ []) ≡ state_after (after s tapes es) tapes e

pub one_more : (s : State) (tapes : List (List ℕ)) (es : List Entry) (e : Entry) → Legal s tapes es → IsAnswer (after s tapes es) tapes e → OneMore s tapes es e
one_more s tapes es e h k = record { legal = legal-append s tapes es (e ∷ []) h (k, tt); state = after-append s tapes es (e ∷ []) }
