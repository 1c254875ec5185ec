-- What calls that nothing refuses make ready.
use Rattle.std.proofs.Common.{◌≡◌, ◌⊎◌, inl, inr, ℕ, ◌+◌, ◌≤◌, ◌^◌, ◌==◌, Bool, true, false, cond, not, ◌&&◌, ◌||◌, List, [], ◌∷◌, ◌++◌, map, length, Option, Some, None, refl, sym, ◌∙◌, ap, ap₂, subst, arith}
use Rattle.std.specs.Prelude.{IsTrue, filter, take, nat_le, is_some}
use Rattle.std.proofs.lemmas.List.{length-map}
use Rattle.voice_units.specs.declared.pieces.Piece.{Piece}
use Rattle.voice_units.specs.declared.shapes.Shape.{Shape}
use Rattle.voice_units.specs.Spots.{Spot, spots_from, pieces_of}
use Rattle.voice_model.specs.Samples.{Tagged, spot_of, recording, pieces_in, spots_in_rope}
use Rattle.voice_units.specs.declared.pieces.Take.{Take}
use Rattle.voice_model.specs.State.{State, opened, Durable, Live, Effect, Pending, settled, has_row, rope_at, is_live, first_unknown}
use Rattle.voice_model.specs.State.Effect.{Recorded, Edited}
use Rattle.voice_model.specs.Changes.{effect_of, is_changing, is_expired, wait_of, expired_rows, swept_ropes, if_any}
use Rattle.voice_model.specs.Step.{refusal, conditions, first_of, if_unknown}
use Rattle.voice_model.specs.Early.{all_but_last}
use Rattle.voice_model.specs.Replay.{Rebuilt, live_by, durable_by}
use Rattle.voice_model.specs.Valid.{Every, Rising, IsRope, IsRow, IsKept, IsState, InRange, IsFit, MayFit, IsPending, IsRebuilt}
use Rattle.voice_model.specs.declared.calls.Row.{Row}
use Rattle.voice_model.specs.declared.calls.Why.{Why}
use Rattle.voice_model.specs.declared.calls.Call.{Call}
use Rattle.voice_model.specs.declared.calls.Call.TheVariants as calls
use Rattle.voice_model.proofs.KeptByChanges.{every-imply, every-map}
use Rattle.voice_units.proofs.Counts.{one_piece}
use Rattle.voice_model.proofs.FitsOfCalls.{fit_early, recorded_length, recorded_spots}
use Rattle.voice_model.proofs.StatesKept.{quiet_lanes, quiet_count}
use Rattle.recovery.specs.declared.parts.Parts.{Parts}
use Rattle.recovery.specs.Shown.{Shows, plain_sample}
use Rattle.recovery.proofs.Ropes.{cons_same}
use Rattle.edits.specs.Shown.{before_journal, IsRopeOf, IsMade}
use Rattle.edits.specs.declared.made.Made.{Made}
use Rattle.edits.specs.declared.made.Made.TheVariants.{Rope, Refused}
use Rattle.edits.proofs.Refusals.{journal_last}
use Rattle.edits.proofs.UsedBlocks.{of_live_ropes}
use Rattle.ready_changes.specs.Ready.{MayBeReady, change_for}
use Rattle.row_calls.specs.Asked.{is_row_call, IsAsked, Tells}
use Rattle.row_calls.specs.declared.outcomes.Asked.{Asked}
use Rattle.row_calls.specs.declared.outcomes.Asked.TheVariants as answers
use Rattle.mirror_sender.specs.Told.{IsTold, rebuilt_by}
use Rattle.mirror_sender.specs.Coming.{is_edit, IsEdit, IsVoice, IsVoiceOf, IsNextOf, IsSomeNext, IsMaybeNext, MayBeNextOf, HasTakes, bytes_taken}
use Rattle.mirror_sender.specs.Abreast.{Asks}
use Rattle.mirror_sender.specs.declared.coming.Next.{Next}
use Rattle.mirror_sender.specs.declared.coming.Next.TheVariants as nexts
use Rattle.mirror_sender.proofs.Likeness.{own_state, effect_like, early_like, own_valid}

-- ---- the state that tables tell

-- a state of this durable part, with nothing on its lanes
abbrev pub told_state : ℕ → Durable Tagged → State
told_state form own = opened own 0 1 form

pub told_valid : (own : Durable Tagged) (parts : Parts) → IsTold own parts → IsState (told_state parts.form own)
told_valid own parts h = record {
  kept = h.valid;
  forms = h.forms;
  doubt = tt;
  lanes = quiet_lanes own.shape.lanes;
  lane_count = quiet_count own.shape.lanes;
  rest = omega arith;
  newest = h.newest;
}

-- ---- nothing refuses it

-- an early refusal is none of a call that nothing refuses
not_refused : (own : Durable Tagged) (parts : Parts) (tapes : List (List ℕ)) (s : State) (call : Call) (reason : Why) → IsTrue (is_edit call || is_row_call call) → Asks own parts tapes s call → ¬ (first_of (before_journal (own_state s parts.form own) tapes call) ≡ Some reason)
not_refused own parts tapes s call reason kind a e =
    let refused = journal_last.early s tapes call reason (sym (ap first_of (early_like s tapes call parts.form own kind a.like)) ∙ e) in
    let free = a.free in
    cc

pub edit_kind : (call : Call) → IsTrue (is_edit call) → IsTrue (is_edit call || is_row_call call)
edit_kind call e = ap (λ b. b || is_row_call call) e

pub row_kind : (call : Call) → IsTrue (is_row_call call) → IsTrue (is_edit call || is_row_call call)
row_kind call e = by (is_edit call) (is_row_call call) e
  where
    by : (a b : Bool) → b ≡ true → (a || b) ≡ true
    by true b h = refl
    by false b h = h

-- such calls can make a change
changing : (call : Call) → IsTrue (is_edit call || is_row_call call) → is_changing call ≡ true
changing (calls.Concat ids) e = refl
changing (calls.Sub id start len) e = refl
changing (calls.Replace id start len with) e = refl
changing (calls.Retain class key id note) e = refl
changing (calls.Forget class key) e = refl
changing (calls.Census keys) e = refl
changing (calls.Advance moment) e = refl
changing (calls.Sweep limit) e = refl
changing call e = cc

-- what is not refused early may be done
early_fits : (s : State) (tapes : List (List ℕ)) (call : Call) (e : Effect Tagged) → IsTrue (is_edit call || is_row_call call) → IsState s → InRange call → first_of (before_journal s tapes call) ≡ None → effect_of s tapes call ≡ Some e → IsFit s.form s.kept e
early_fits s tapes call e kind valid range free is =
    subst (MayFit s.form s.kept) is
    (fit_early s tapes call valid range (sym (ap (λ b. first_of (cond b (all_but_last (conditions s tapes call)) (conditions s tapes call))) (changing call kind)) ∙ free))

-- ---- edits

-- a rope of these pieces may be made of what the tables tell
rope_made : (own : Durable Tagged) (form : ℕ) (s : State) (tapes : List (List ℕ)) (call : Call) (pieces : List Piece) → IsTrue (is_edit call) → InRange call → IsState (own_state s form own) → (h : IsRopeOf (own_state s form own) tapes call pieces) → IsEdit own pieces (Edited own.next h.samples) × IsFit form own (Edited own.next h.samples)
rope_made own form s tapes call pieces kind range valid h =
    let fit = early_fits (own_state s form own) tapes call (Edited own.next h.samples) (edit_kind call kind) valid range h.unrefused h.effect in (
      record {
        samples = h.samples;
        is = refl;
        same = h.same;
        number = fit.number;
        few = subst (λ (l : List Piece). length l ≤ 4096) (sym h.same) fit.many;
        used = of_live_ropes.blocks (own_state s form own) tapes call pieces h;
      },
      fit,
    )

-- what an edit makes is ready
abbrev pub next_made : Made → Option Next
next_made (Refused reason) = None
next_made (Rope pieces) = Some (nexts.Edit pieces)

pub edit_sound : (own : Durable Tagged) (parts : Parts) (tapes : List (List ℕ)) (call : Call) (made : Made) (spare : ℕ) → IsTrue (is_edit call) → InRange call → IsTold own parts → IsMade made (told_state parts.form own) tapes call → IsMaybeNext own tapes parts.form spare (next_made made)
edit_sound own parts tapes call (Refused reason) spare kind range told h = tt
edit_sound own parts tapes call (Rope pieces) spare kind range told h =
    let made = rope_made own parts.form (told_state parts.form own) tapes call pieces kind range (told_valid own parts told) h in
    record { effect = Edited own.next h.samples; is = made.0; fit = made.1 }

pub edit_next : (own : Durable Tagged) (parts : Parts) (tapes : List (List ℕ)) (s : State) (call : Call) (made : Made) (spare : ℕ) → IsTrue (is_edit call) → InRange call → IsTold own parts → Asks own parts tapes s call → IsMade made (own_state s parts.form own) tapes call → MayBeNextOf own tapes spare (next_made made) (effect_of s tapes call)
edit_next own parts tapes s call (Refused reason) spare kind range told a h = absurd (not_refused own parts tapes s call reason (edit_kind call kind) a h)
edit_next own parts tapes s call (Rope pieces) spare kind range told a h =
    let e : effect_of s tapes call ≡ Some (Edited own.next h.samples) = sym (effect_like s tapes call parts.form own a.like) ∙ h.effect in
    let made = rope_made own parts.form s tapes call pieces kind range (own_valid own parts s told a.like a.sure a.valid) h in
    subst (MayBeNextOf own tapes spare (Some (nexts.Edit pieces))) (sym e) made.0

-- ---- what was rebuilt, with plain samples

spots_again : (ss : List Spot) → map spot_of (map plain_sample ss) ≡ ss
spots_again [] = refl
spots_again (s ∷ ss) = ap (λ l. s ∷ l) (spots_again ss)

abbrev plain_live : Live Tagged → Live Tagged
plain_live rope = live_by plain_sample (live_by spot_of rope)

abbrev plain_ropes : List (Live Tagged) → List (Live Tagged)
plain_ropes ropes = map (live_by plain_sample) (map (live_by spot_of) ropes)

abbrev pub plain_kept : Durable Tagged → Durable Tagged
plain_kept d = durable_by plain_sample (durable_by spot_of d)

rising_plain : (low : ℕ) (ropes : List (Live Tagged)) (next : ℕ) → Rising low ropes next → Rising low (plain_ropes ropes) next
rising_plain low [] next h = h
rising_plain low (rope ∷ ropes) next h = (h.0, rising_plain (rope.id + 1) ropes next h.1)

rope_plain : (form now : ℕ) (rope : Live Tagged) → IsRope form now rope → IsRope form now (plain_live rope)
rope_plain form now rope h = record {
  long = let far = length-map (map spot_of rope.samples) plain_sample in let near = length-map rope.samples spot_of in let long = h.long in omega (arith, far, near, long);
  many = subst (λ (ss : List Spot). length (pieces_of ss) ≤ 4096) (sym (spots_again (map spot_of rope.samples))) h.many;
  idle = h.idle;
  last = h.last;
  plain = h.plain;
}

ropes_plain : (form now : ℕ) (ropes : List (Live Tagged)) → Every (IsRope form now) ropes → Every (IsRope form now) (plain_ropes ropes)
ropes_plain form now [] h = tt
ropes_plain form now (rope ∷ ropes) h = (rope_plain form now rope h.0, ropes_plain form now ropes h.1)

some_either : {A B : Type 0} (b : Bool) (x : A) (y : B) (o : Option A) (q : Option B) → is_some o ≡ is_some q → is_some (cond b (Some x) o) ≡ is_some (cond b (Some y) q)
some_either true x y o q e = refl
some_either false x y o q e = e

live_plain : (ropes : List (Live Tagged)) (id : ℕ) → is_live (plain_ropes ropes) id ≡ is_live ropes id
live_plain [] id = refl
live_plain (rope ∷ ropes) id = some_either (rope.id == id) (plain_live rope) rope (rope_at (plain_ropes ropes) id) (rope_at ropes id) (live_plain ropes id)

pub kept_plain : (form : ℕ) (d : Durable Tagged) → IsKept form d → IsKept form (plain_kept d)
kept_plain form d h = record {
  rising = rising_plain 1 d.ropes d.next h.rising;
  next_limit = h.next_limit;
  moment_limit = h.moment_limit;
  each_rope = ropes_plain form d.moment d.ropes h.each_rope;
  each_row = every-imply (IsRow d.ropes) (IsRow (plain_ropes d.ropes)) (λ row k. record { key = k.key; note = k.note; live = live_plain d.ropes row.rope ∙ k.live }) d.rows h.each_row;
  once = h.once;
}

pub tells : (own : Durable Tagged) (parts : Parts) → IsTold own parts → Tells [] parts (rebuilt_by own parts.form)
tells own parts h = record { kept = h.shows; in_form = refl; valid = record { kept = kept_plain parts.form own h.valid; forms = h.forms; newest = h.newest; fresh = tt } }

-- ---- calls on rows, on the moment and of sweeps

abbrev pub plain_state : State → ℕ → Durable Tagged → State
plain_state s form own = own_state s form (plain_kept own)

pub plain_valid : (s : State) (form : ℕ) (own : Durable Tagged) → s.doubt ≡ None → IsState (own_state s form own) → IsState (plain_state s form own)
plain_valid s form own sure h = record {
  kept = kept_plain form own h.kept;
  forms = h.forms;
  doubt = subst (λ (o : Option Pending). IsPending (plain_state s form own) o) (sym sure) tt;
  lanes = h.lanes;
  lane_count = h.lane_count;
  rest = h.rest;
  newest = h.newest;
}

abbrev left_rows : ℕ → List Row → List Row
left_rows now rows = filter (λ row. not (is_expired now row)) rows

module _ (form : ℕ) (d : Durable Tagged) where
  abbrev due : Live Tagged → Bool
  due rope = not (has_row (left_rows d.moment d.rows) rope.id) && nat_le (rope.idle + wait_of d.shape.graces rope.last) d.moment

  abbrev bare : Bool → Live Tagged → Live Tagged
  bare b rope = cond b (record rope { idle = d.moment; last = cond (form == 2) 2 rope.last }) rope

  abbrev step : Live Tagged → Live Tagged
  step rope = settled form d.moment 2 d.rows (left_rows d.moment d.rows) rope

  abbrev number : Live Tagged → ℕ
  number rope = rope.id

  numbered : (b : Bool) (x y : Live Tagged) (xs ys : List (Live Tagged)) → x.id ≡ y.id → map number xs ≡ map number ys → map number (cond b (x ∷ xs) xs) ≡ map number (cond b (y ∷ ys) ys)
  numbered true x y xs ys same rest = cons_same same rest
  numbered false x y xs ys same rest = rest

  one_due : (rope : Live Tagged) (ropes : List (Live Tagged)) (b : Bool) → map number (filter due (map step (plain_ropes ropes))) ≡ map number (filter due (map step ropes))
      → map number (cond (due (bare b (plain_live rope))) (bare b (plain_live rope) ∷ filter due (map step (plain_ropes ropes))) (filter due (map step (plain_ropes ropes)))) ≡ map number (cond (due (bare b rope)) (bare b rope ∷ filter due (map step ropes)) (filter due (map step ropes)))
  one_due rope ropes true rest = numbered (due (bare true rope)) (bare true (plain_live rope)) (bare true rope) (filter due (map step (plain_ropes ropes))) (filter due (map step ropes)) refl rest
  one_due rope ropes false rest = numbered (due rope) (plain_live rope) rope (filter due (map step (plain_ropes ropes))) (filter due (map step ropes)) refl rest

  same_dues : (ropes : List (Live Tagged)) → map number (filter due (map step (plain_ropes ropes))) ≡ map number (filter due (map step ropes))
  same_dues [] = refl
  same_dues (rope ∷ ropes) = one_due rope ropes (has_row d.rows rope.id && not (has_row (left_rows d.moment d.rows) rope.id)) (same_dues ropes)

  swept_plain : (limit : ℕ) → swept_ropes form (plain_kept d) limit ≡ swept_ropes form d limit
  swept_plain limit = ap (take limit) (same_dues d.ropes)

row_effect : (s : State) (tapes : List (List ℕ)) (call : Call) (form : ℕ) (own : Durable Tagged) → IsTrue (is_row_call call) → effect_of (plain_state s form own) tapes call ≡ effect_of (own_state s form own) tapes call
row_effect s tapes (calls.Retain class key id note) form own kind = refl
row_effect s tapes (calls.Forget class key) form own kind = refl
row_effect s tapes (calls.Census keys) form own kind = refl
row_effect s tapes (calls.Advance moment) form own kind = refl
row_effect s tapes (calls.Sweep limit) form own kind = ap (λ ids. if_any (expired_rows own) ids) (swept_plain form own limit)
row_effect s tapes (calls.Record take) form own kind = cc
row_effect s tapes (calls.Concat ids) form own kind = cc
row_effect s tapes (calls.Sub id start len) form own kind = cc
row_effect s tapes (calls.Replace id start len with) form own kind = cc
row_effect s tapes (calls.End lane) form own kind = cc
row_effect s tapes (calls.Length id) form own kind = cc
row_effect s tapes (calls.Describe id) form own kind = cc
row_effect s tapes (calls.Levels id) form own kind = cc
row_effect s tapes (calls.Play lane id start len) form own kind = cc
row_effect s tapes (calls.Feed lane back) form own kind = cc
row_effect s tapes (calls.Stop lane) form own kind = cc
row_effect s tapes (calls.Lookup class key) form own kind = cc
row_effect s tapes calls.Landed form own kind = cc
row_effect s tapes (calls.Begin lane) form own kind = cc
row_effect s tapes (calls.Add lane take) form own kind = cc

unknown_plain : (ropes : List (Live Tagged)) (ids : List ℕ) → first_unknown (plain_ropes ropes) ids ≡ first_unknown ropes ids
unknown_plain ropes [] = refl
unknown_plain ropes (id ∷ ids) = ap₂ (λ b o. cond b o (Some id)) (live_plain ropes id) (unknown_plain ropes ids)

row_early : (s : State) (tapes : List (List ℕ)) (call : Call) (form : ℕ) (own : Durable Tagged) → IsTrue (is_row_call call) → before_journal (plain_state s form own) tapes call ≡ before_journal (own_state s form own) tapes call
row_early s tapes (calls.Retain class key id note) form own kind = cons_same (ap if_unknown (unknown_plain own.ropes (id ∷ []))) refl
row_early s tapes (calls.Forget class key) form own kind = refl
row_early s tapes (calls.Census keys) form own kind = refl
row_early s tapes (calls.Advance moment) form own kind = refl
row_early s tapes (calls.Sweep limit) form own kind = refl
row_early s tapes (calls.Record take) form own kind = cc
row_early s tapes (calls.Concat ids) form own kind = cc
row_early s tapes (calls.Sub id start len) form own kind = cc
row_early s tapes (calls.Replace id start len with) form own kind = cc
row_early s tapes (calls.End lane) form own kind = cc
row_early s tapes (calls.Length id) form own kind = cc
row_early s tapes (calls.Describe id) form own kind = cc
row_early s tapes (calls.Levels id) form own kind = cc
row_early s tapes (calls.Play lane id start len) form own kind = cc
row_early s tapes (calls.Feed lane back) form own kind = cc
row_early s tapes (calls.Stop lane) form own kind = cc
row_early s tapes (calls.Lookup class key) form own kind = cc
row_early s tapes calls.Landed form own kind = cc
row_early s tapes (calls.Begin lane) form own kind = cc
row_early s tapes (calls.Add lane take) form own kind = cc

-- what is made ready of what the tables answer
abbrev pub next_of : Asked → Option Next
next_of (answers.Refused reason) = None
next_of (answers.Answered reply) = None
next_of (answers.Changes ready reply growth) = Some (nexts.Other ready)

pub row_sound : (own : Durable Tagged) (old parts : Parts) (tapes : List (List ℕ)) (call : Call) (asked : Asked) → IsTrue (is_row_call call) → InRange call → IsTold own old → IsAsked parts (rebuilt_by own old.form) (plain_state (told_state old.form own) old.form own) tapes call asked → IsMaybeNext own tapes old.form parts.interests.spare (next_of asked)
row_sound own old parts tapes call (answers.Refused reason) kind range told h = tt
row_sound own old parts tapes call (answers.Answered reply) kind range told h = tt
row_sound own old parts tapes call (answers.Changes ready reply growth) kind range told h =
    by (effect_of (told_state old.form own) tapes call) refl (subst (λ (o : Option (Effect Tagged)). MayBeReady parts.interests.spare (durable_by spot_of own) (Some ready) (change_for o)) (row_effect (told_state old.form own) tapes call old.form own kind) h.is_ready)
  where
    free : first_of (before_journal (told_state old.form own) tapes call) ≡ None
    free = sym (ap first_of (row_early (told_state old.form own) tapes call old.form own kind)) ∙ h.unrefused

    by : (o : Option (Effect Tagged)) → effect_of (told_state old.form own) tapes call ≡ o → MayBeReady parts.interests.spare (durable_by spot_of own) (Some ready) (change_for o) → IsSomeNext own tapes old.form parts.interests.spare (nexts.Other ready)
    by None e k = absurd k
    by (Some effect) e k = record { effect = effect; is = k; fit = early_fits (told_state old.form own) tapes call effect (row_kind call kind) (told_valid own old told) range free e }

pub row_next : (own : Durable Tagged) (old parts : Parts) (tapes : List (List ℕ)) (s : State) (call : Call) (asked : Asked) → IsTrue (is_row_call call) → Asks own old tapes s call → IsAsked parts (rebuilt_by own old.form) (plain_state s old.form own) tapes call asked → MayBeNextOf own tapes parts.interests.spare (next_of asked) (effect_of s tapes call)
row_next own old parts tapes s call (answers.Refused reason) kind a h =
    absurd (not_refused own old tapes s call reason (row_kind call kind) a (sym (ap first_of (row_early s tapes call old.form own kind)) ∙ h))
row_next own old parts tapes s call (answers.Answered reply) kind a h = subst (MayBeNextOf own tapes parts.interests.spare None) (sym h.1 ∙ row_effect s tapes call old.form own kind ∙ effect_like s tapes call old.form own a.like) tt
row_next own old parts tapes s call (answers.Changes ready reply growth) kind a h =
    by (effect_of s tapes call) (subst (λ (o : Option (Effect Tagged)). MayBeReady parts.interests.spare (durable_by spot_of own) (Some ready) (change_for o)) (row_effect s tapes call old.form own kind ∙ effect_like s tapes call old.form own a.like) h.is_ready)
  where
    by : (o : Option (Effect Tagged)) → MayBeReady parts.interests.spare (durable_by spot_of own) (Some ready) (change_for o) → MayBeNextOf own tapes parts.interests.spare (Some (nexts.Other ready)) o
    by None k = k
    by (Some effect) k = k

-- ---- recordings

pub voice_fits : (form : ℕ) (own : Durable Tagged) (bytes : List ℕ) → own.next ≤ 2 ^ 48 → length bytes ≤ 2 ^ 30 → IsFit form own (Recorded own.next (recording own.next bytes))
voice_fits form own bytes number long = record {
  next = omega arith;
  number = number;
  long = subst (λ n. n ≤ 2 ^ 30) (sym (recorded_length own.next 0 bytes)) long;
  many = let one = one_piece own.next 0 (length bytes) in subst (λ ss. length (pieces_of ss) ≤ 4096) (sym (recorded_spots own.next 0 bytes)) (omega (arith, one));
}

pub voice_next : (own : Durable Tagged) (tapes : List (List ℕ)) (spare id len : ℕ) (takes : List Take) (next : Next) → IsVoiceOf id len takes next → id ≡ own.next → len ≡ length (bytes_taken tapes takes) → own.next ≤ 2 ^ 48 → HasTakes tapes takes → len ≤ 2 ^ 30 → IsNextOf own tapes spare next (Recorded own.next (recording own.next (bytes_taken tapes takes)))
voice_next own tapes spare id len takes (nexts.Voice pieces these) h same total number within long = record {
  is = ap (λ l. Recorded own.next (recording own.next (bytes_taken tapes l))) (sym h.1);
  same = h.0 ∙ ap₂ (λ n m. pieces_of (spots_from n 0 m)) same (total ∙ ap (λ l. length (bytes_taken tapes l)) (sym h.1));
  number = number;
  within = subst (HasTakes tapes) (sym h.1) within;
  long = let most : length (bytes_taken tapes takes) ≤ 2 ^ 30 = omega (arith, total, long) in subst (λ l. length (bytes_taken tapes l) ≤ 2 ^ 30) (sym h.1) most;
}
voice_next own tapes spare id len takes (nexts.Edit pieces) h same total number within long = absurd h
voice_next own tapes spare id len takes (nexts.Other ready) h same total number within long = absurd h

-- ---- tables that got room

pub told_still : (own : Durable Tagged) (old new : Parts) → IsTold own old → Shows [] new (durable_by spot_of own) → new.form ≡ old.form → IsTold own new
told_still own old new h shows form = record {
  shows = shows;
  valid = subst (λ f. IsKept f own) (sym form) h.valid;
  forms = subst (λ (f : ℕ). (f ≡ 1) ⊎ (f ≡ 2)) (sym form) h.forms;
  newest = λ two. form ∙ h.newest two;
}

-- a recording that is short enough is ready for its effect
pub voice_sound : (own : Durable Tagged) (parts : Parts) (tapes : List (List ℕ)) (spare id len : ℕ) (takes : List Take) (next : Next) → IsTold own parts → IsVoiceOf id len takes next → id ≡ parts.next → parts.next ≤ 2 ^ 48 → len ≡ length (bytes_taken tapes takes) → len ≤ 2 ^ 30 → HasTakes tapes takes → IsSomeNext own tapes parts.form spare next
voice_sound own parts tapes spare id len takes next told is number most total long within =
    let same = told.shows.next in
    let high : own.next ≤ 2 ^ 48 = omega (arith, same, most) in
    record {
      effect = Recorded own.next (recording own.next (bytes_taken tapes takes));
      is = voice_next own tapes spare id len takes next is (number ∙ same) total high within long;
      fit = voice_fits parts.form own (bytes_taken tapes takes) high (omega (arith, total, long));
    }
