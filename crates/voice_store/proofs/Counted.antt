-- How many device calls the answer to a call takes.
use Rattle.std.proofs.Common.{◌≡◌, ℕ, ◌+◌, ◌≤◌, ◌<◌, Bool, true, false, cond, List, [], ◌∷◌, ◌++◌, length, Option, Some, None, IsTrue, is_some, refl, sym, ◌∙◌, ap, subst, arith}
use Rattle.std.specs.Prelude.{nat_le}
use Rattle.std.proofs.lemmas.Bool.{leb-true}
use Rattle.voice_units.specs.Blocks.{blocks_for}
use Rattle.voice_units.specs.declared.pieces.Take.{Take}
use Rattle.voice_units.specs.declared.pieces.Piece.{Piece}
use Rattle.voice_outside.specs.Disk.{Told}
use Rattle.voice_journal.specs.Places.{JournalValue}
use Rattle.voice_units.specs.Spots.{Spot}
use Rattle.voice_model.specs.Samples.{Tagged}
use Rattle.voice_model.specs.State.{State, Effect, Pending}
use Rattle.voice_model.specs.State.Effect.{Edited}
use Rattle.voice_model.specs.Changes.{effect_of, is_changing}
use Rattle.voice_model.specs.Step.{refusal, landed, after_landing}
use Rattle.voice_model.specs.Step as step
use Rattle.voice_model.specs.declared.calls.Entry.{Entry}
use Rattle.voice_model.specs.Replay.{Rebuilt}
use Rattle.voice_model.specs.Tapes.{taken}
use Rattle.voice_model.specs.declared.calls.Call.{Call}
use Rattle.voice_model.specs.declared.calls.Call.TheVariants as calls
use Rattle.voice_model.proofs.FitsOfCalls.{recorded_length}
use Rattle.ready_changes.specs.declared.ReadyChange.{ReadyChange}
use Rattle.next_ropes.specs.declared.NextRope.{NextRope}
use Rattle.voice_model.specs.declared.calls.Reply.{Reply}
use Rattle.row_calls.specs.declared.outcomes.Growth.{Growth}
use Rattle.voice_store.specs.declared.inside.Inside.{Inside}
use Rattle.voice_store.specs.declared.ways.Way.{Way}
use Rattle.voice_store.specs.declared.committing.Plan.{Plan}
use Rattle.voice_store.specs.declared.committing.Plan.TheVariants as plans
use Rattle.voice_store.specs.Stood.{Stood, IsUnsure, last_of, tapes_of}
use Rattle.voice_store.specs.Trying.{IsPlan}
use Rattle.voice_store.specs.Ways.{FitsOther}
use Rattle.voice_store.specs.Facts.{landing_at}
use Rattle.voice_store.specs.Keeping.{HasWay, HoldsRecording, recorded_by}
use Rattle.voice_store.specs.Altering.{Alters}
use Rattle.voice_store.specs.DeviceCalls.{journal_calls, plan_calls, blocks_written, effect_calls, calls_by, change_calls, landing_calls, add_calls, other_calls, most_calls}
use Rattle.voice_store.proofs.Entries.{after_one}
use Rattle.voice_store.proofs.Kept.{refused_not, is_sure}
use Rattle.voice_store.proofs.Altered as altered
use Rattle.voice_store.proofs.Recordable.{many, block_same, recording_free}

-- ---- of the journal

most_by : (b : Bool) → 4 ≤ cond b 4 6
most_by true = omega arith
most_by false = omega arith

not_within : (a b : ℕ) → b < a → nat_le a b ≡ false
not_within a b less = by (nat_le a b) refl
  where
    by : (v : Bool) → nat_le a b ≡ v → nat_le a b ≡ false
    by true e = let le = leb-true a b e in absurd (omega (arith, le, less))
    by false e = e

switch_most : (s : State) (effect : Effect Tagged) → FitsOther s effect → 6 ≤ journal_calls s effect
unfolding journal_calls
switch_most s effect other = subst (λ b. 6 ≤ cond b 4 6) (sym (not_within _ _ other.behind)) (omega arith)

append_most : (s : State) (effect : Effect Tagged) → 4 ≤ journal_calls s effect
unfolding journal_calls
append_most s effect = most_by _

-- a plan takes no more than its change may
pub plan_within : (journal : JournalValue) (s : State) (effect : Effect Tagged) (r : Rebuilt) (plan : Plan) → IsPlan journal s effect r plan → plan_calls plan ≤ journal_calls s effect
plan_within journal s effect r plans.Append is = append_most s effect
plan_within journal s effect r (plans.Switch base) is = switch_most s effect is.0

-- ---- of a change

-- a change that nothing refuses
pub change_made : (s : State) (tapes : List (List ℕ)) (call : Call) (effect : Effect Tagged) → refusal s tapes call ≡ None → effect_of s tapes call ≡ Some effect → effect_calls s call effect ≡ change_calls s tapes call
unfolding change_calls
change_made s tapes call effect free is = sym (ap (λ w. calls_by s call w (effect_of s tapes call)) free ∙ ap (calls_by s call None) is)

sum_within : (old new plan journal blocks most : ℕ) → new ≤ old + plan → plan ≤ journal → blocks + journal ≡ most → new ≤ old + most
sum_within old new plan journal blocks most le few is = omega (arith, le, few, is)

-- of a change that goes to the journal by a plan
pub committed_within : (old new : ℕ) (journal : JournalValue) (s : State) (tapes : List (List ℕ)) (call : Call) (effect : Effect Tagged) (r : Rebuilt) (plan : Plan)
    → refusal s tapes call ≡ None → effect_of s tapes call ≡ Some effect → IsPlan journal s effect r plan → new ≤ old + plan_calls plan → new ≤ old + change_calls s tapes call
committed_within old new journal s tapes call effect r plan free is goes le =
    sum_within old new (plan_calls plan) (journal_calls s effect) (blocks_written s call effect) (change_calls s tapes call) le (plan_within journal s effect r plan goes) (change_made s tapes call effect free is)

-- of an edit
pub edited_within : (first : State) (t0 : ℕ) (disk : Told) (s : Inside) (call : Call) (pieces : List Piece) (way : Way) (h : HasWay first t0 disk s call pieces way) (r : Rebuilt) (plan : Plan) (new : ℕ)
    → IsPlan s.journal (last_of first s) (Edited (last_of first s).next h.makes.rope.samples) r plan → new ≤ disk.calls + plan_calls plan → new ≤ disk.calls + change_calls (last_of first s) (tapes_of s) call
edited_within first t0 disk s call pieces way h r plan new goes le =
    committed_within disk.calls new s.journal (last_of first s) (tapes_of s) call (Edited (last_of first s).next h.makes.rope.samples) r plan
    (refused_not first t0 disk s call pieces h.makes h.free) h.makes.rope.effect goes le

-- of a change of rows, of the moment or of a sweep
pub altered_within : (first : State) (t0 : ℕ) (disk : Told) (s : Inside) (call : Call) (ready : ReadyChange) (reply : Reply) (growth : Growth) (h : Alters first t0 disk s call ready reply growth) (r : Rebuilt) (plan : Plan) (new : ℕ)
    → IsPlan s.journal (last_of first s) (altered.effect first t0 disk s call ready reply growth h) r plan
    → refusal (last_of first s) (tapes_of s) call ≡ None
    → new ≤ disk.calls + plan_calls plan → new ≤ disk.calls + change_calls (last_of first s) (tapes_of s) call
altered_within first t0 disk s call ready reply growth h r plan new goes free le =
    committed_within disk.calls new s.journal (last_of first s) (tapes_of s) call (altered.effect first t0 disk s call ready reply growth h) r plan
    free (altered.keeps first t0 disk s call ready reply growth h).is goes le

-- of a recording
blocks_recorded : (s : State) (tapes : List (List ℕ)) (take : Take) → blocks_written s (calls.Record take) (recorded_by s tapes take) ≡ blocks_for s.kept.shape.block (length (taken tapes take))
unfolding blocks_written
blocks_recorded s tapes take = ap (blocks_for s.kept.shape.block) (recorded_length s.next 0 (taken tapes take))

module _ (first : State) (t0 : ℕ) (disk : Told) (s : Inside) (take : Take) (next : NextRope) (h : HoldsRecording first t0 disk s take next) where
  abbrev last : State
  last = last_of first s

  free : refusal last (tapes_of s) (calls.Record take) ≡ None
  free = recording_free first t0 disk (record s { parts = h.before }) take h.makes h.free

  made : effect_calls last (calls.Record take) (recorded_by last (tapes_of s) take) ≡ change_calls last (tapes_of s) (calls.Record take)
  made = change_made last (tapes_of s) (calls.Record take) (recorded_by last (tapes_of s) take) free refl

  blocks : blocks_written last (calls.Record take) (recorded_by last (tapes_of s) take) ≡ blocks_for s.journal.shape.block take.len
  blocks =
      blocks_recorded last (tapes_of s) take
      ∙ ap (blocks_for last.kept.shape.block) (many first t0 disk (record s { parts = h.before }) take h.makes)
      ∙ ap (λ n. blocks_for n take.len) (block_same first t0 disk (record s { parts = h.before }) take h.makes)

  -- of which the writes of blocks failed
  pub unwritten_within : (new : ℕ) → new ≤ disk.calls + blocks_for s.journal.shape.block take.len → new ≤ disk.calls + change_calls last (tapes_of s) (calls.Record take)
  unwritten_within new le = omega (arith, le, blocks, made)

  -- of which all blocks are written
  pub recorded_within : (journal : JournalValue) (r : Rebuilt) (plan : Plan) (mid new : ℕ) → IsPlan journal last (recorded_by last (tapes_of s) take) r plan
      → mid ≤ disk.calls + blocks_for s.journal.shape.block take.len → new ≤ mid + plan_calls plan → new ≤ disk.calls + change_calls last (tapes_of s) (calls.Record take)
  recorded_within journal r plan mid new goes le more =
      let few = plan_within journal last (recorded_by last (tapes_of s) take) r plan goes in
      omega (arith, le, more, few, blocks, made)

-- ---- of a landing, and of any call

-- where nothing is in doubt nothing lands
pub landed_none : (s : State) → s.doubt ≡ None → s ≡ landed s
landed_none s none = sym (ap (after_landing (record s { doubt = None })) none ∙ ap (λ (o : Option Pending). record s { doubt = o }) (sym none))

pub landed_still : (first : State) (t0 : ℕ) (disk : Told) (s : Inside) → Stood first t0 disk s → s.doubt ≡ None → last_of first s ≡ landed (last_of first s)
landed_still first t0 disk s stood none = landed_none (last_of first s) (is_sure first t0 disk s stood none).in_state

-- what is in doubt takes two
pub landing_two : (fill : Spot → Tagged) (held : List (List Piece)) (takings : List ℕ) (s : Inside) (b after : Rebuilt) (now : State) → IsUnsure fill held takings s b after now → 2 ≡ landing_calls now
landing_two fill held takings s b after now unsure = sym (ap (λ (o : Option Pending). cond (is_some o) 2 0) unsure.in_state)

-- the state behind a landing
pub last_landed : (first : State) (s s' : Inside) (ack : ℕ) → s'.tapes ≡ s.tapes → s'.history.items ≡ s.history.items ++ landing_at ack ∷ [] → last_of first s' ≡ landed (last_of first s)
last_landed first s s' ack tapes items =
    ap (λ t. step.after first (tapes_of (record s { tapes = t })) s'.history.items) tapes ∙ ap (λ (l : List Entry). step.after first (tapes_of s) l) items
    ∙ after_one first (tapes_of s) s.history.items (landing_at ack)

pub most_change : (s : State) (tapes : List (List ℕ)) (call : Call) → IsTrue (is_changing call) → landing_calls s + change_calls (landed s) tapes call ≡ most_calls s tapes call
unfolding most_calls
most_change s tapes call changing = sym (ap (λ b. cond b (landing_calls s + change_calls (landed s) tapes call) (other_calls s tapes call)) changing)

pub most_other : (s : State) (tapes : List (List ℕ)) (call : Call) → is_changing call ≡ false → other_calls s tapes call ≡ most_calls s tapes call
unfolding most_calls
most_other s tapes call not = sym (ap (λ b. cond b (landing_calls s + change_calls (landed s) tapes call) (other_calls s tapes call)) not)

-- of an Add
pub added_within : (s t : State) (tapes : List (List ℕ)) (call : Call) (lane : ℕ) (take : Take) (old new : ℕ) → call ≡ calls.Add lane take → t ≡ s → new ≤ old + add_calls t tapes lane take → new ≤ old + most_calls s tapes call
added_within s t tapes call lane take old new is same le =
    let most : add_calls s tapes lane take ≡ most_calls s tapes call = most_other s tapes (calls.Add lane take) refl ∙ ap (most_calls s tapes) (sym is) in
    let here = ap (λ (x : State). add_calls x tapes lane take) same in
    omega (arith, le, here, most)

-- of a call whose landing failed, and of one that was made
pub unlanded_within : (s : State) (tapes : List (List ℕ)) (call : Call) (old new : ℕ) → IsTrue (is_changing call) → new ≤ old + landing_calls s → new ≤ old + most_calls s tapes call
unlanded_within s tapes call old new changing le = let most = most_change s tapes call changing in omega (arith, le, most)

pub landed_within : (s t : State) (tapes now : List (List ℕ)) (call : Call) (old mid new : ℕ) → IsTrue (is_changing call) → t ≡ landed s → now ≡ tapes → mid ≤ old + landing_calls s → new ≤ mid + change_calls t now call → new ≤ old + most_calls s tapes call
landed_within s t tapes now call old mid new changing same tape le more =
    let most = most_change s tapes call changing in
    let here = ap (λ (x : State). change_calls x now call) same ∙ ap (λ x. change_calls (landed s) x call) tape in
    omega (arith, le, more, here, most)
