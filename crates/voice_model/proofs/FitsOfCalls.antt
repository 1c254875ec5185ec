-- The change of a call that nothing refuses may be done.
use Rattle.std.proofs.Common.{◌≡◌, ℕ, zero, suc, ◌+◌, ◌≤◌, ◌^◌, ◌==◌, Bool, true, false, cond, not, ◌&&◌, ◌||◌, List, [], ◌∷◌, map, length, take, drop, Option, Some, None, refl, sym, ap, subst, arith}
use Rattle.std.proofs.lemmas.Bool.{ltb-false, ltb-true, le-leb}
use Rattle.std.proofs.lemmas.List.{length-drop, length-take}
use Rattle.std.specs.Prelude.{filter, nat_lt, nat_le, slice_index_or, unwrap_or}
use Rattle.voice_units.specs.Spots.{slice, replaced, spots_from, pieces_of, nowhere}
use Rattle.voice_units.proofs.Counts.{fewer_dropped, fewer_taken, one_piece}
use Rattle.voice_model.specs.Samples.{Tagged, recording, recorded_from, pieces_in, spots_in_rope}
use Rattle.disk_areas.specs.Numbers.{spelled_number}
use Rattle.voice_model.specs.State.{State, Durable, Live, LaneState, rope_at, is_live, samples_of, samples_or_none, joined, first_unknown, row_at, has_row, lane_at, quiet_lane, class_number}
use Rattle.voice_model.specs.State.Effect.{Counted, Swept, Advanced}
use Rattle.voice_model.specs.Changes.{effect_of, if_any, unless_empty, unlisted_keys, expired_rows, swept_ropes, is_due, without_expired, taking_of}
use Rattle.voice_model.specs.Early.{all_but_last}
use Rattle.voice_model.specs.Step.{refusal, conditions, first_of, when, if_unknown, if_taken, if_spent, if_long, if_many, is_bad_note, last_rope, most_samples, most_pieces}
use Rattle.voice_model.specs.Tapes.{taken}
use Rattle.voice_model.specs.Spelling.{is_note, is_moment}
use Rattle.voice_model.specs.Valid.{Every, IsRope, IsKept, IsNextRope, IsFit, IsLane, IsState, IsTaking, InRange, MayFit}
use Rattle.voice_model.proofs.Tagged.{spots-slice}
use Rattle.voice_model.specs.declared.calls.Call.{Call}
use Rattle.voice_model.specs.declared.calls.Call.TheVariants as calls
use Rattle.voice_model.specs.declared.calls.Why.{Why}
use Rattle.voice_model.specs.declared.calls.Why.TheVariants as why
use Rattle.voice_model.specs.declared.calls.Row.{Row}
use Rattle.voice_model.specs.declared.calls.Class.{Class}

-- ---- what no refusal says

abbrev pub AllNone : List (Option Why) → Type 0
AllNone [] = Unit {0}
AllNone (o ∷ os) = (o ≡ None) × AllNone os

pub all_none : (os : List (Option Why)) → first_of os ≡ None → AllNone os
all_none [] h = tt
all_none (None ∷ os) h = (refl, all_none os h)
all_none (Some reason ∷ os) h = cc

-- so no condition before the last holds either
pub early_none : (os : List (Option Why)) → first_of os ≡ None → first_of (all_but_last os) ≡ None
early_none [] h = refl
early_none (o ∷ []) h = refl
early_none (None ∷ p ∷ os) h = early_none (p ∷ os) h
early_none (Some reason ∷ p ∷ os) h = cc

pub not_when : (b : Bool) (reason : Why) → when b reason ≡ None → b ≡ false
not_when true reason h = cc
not_when false reason h = refl

number_left : (s : State) → if_spent s ≡ None → s.next ≤ 2 ^ 48
number_left s h = ltb-false last_rope s.next (not_when (nat_lt last_rope s.next) why.IdsSpent h)

pub not_long : (n : ℕ) → if_long n ≡ None → n ≤ 2 ^ 30
not_long n h = ltb-false most_samples n (not_when (nat_lt most_samples n) (why.TooLong n) h)

not_many : (n : ℕ) → if_many n ≡ None → n ≤ 4096
not_many n h = ltb-false most_pieces n (not_when (nat_lt most_pieces n) (why.TooManyPieces n) h)

known : (o : Option ℕ) → if_unknown o ≡ None → o ≡ None
known None h = refl
known (Some id) h = cc

untaken : (o : Option Row) → if_taken o ≡ None → o ≡ None
untaken None h = refl
untaken (Some row) h = cc

live_first : (b : Bool) (id : ℕ) → cond b None (Some id) ≡ None → b ≡ true
live_first true id h = refl
live_first false id h = cc

-- ---- the samples of a live rope

samples_or : (P : List Tagged → Type 0) → P [] → (ropes : List (Live Tagged)) → Every (λ rope. P rope.samples) ropes → (id : ℕ) → P (samples_of ropes id)
samples_or P none [] h id = none
samples_or P none (rope ∷ ropes) h id = here (rope.id == id) (samples_or P none ropes h.1 id)
  where
    here : (b : Bool) → P (samples_of ropes id) → P (samples_or_none (cond b (Some rope) (rope_at ropes id)))
    here true later = h.0
    here false later = later

limits : (form now : ℕ) (ropes : List (Live Tagged)) → Every (IsRope form now) ropes → Every (λ rope. (length rope.samples ≤ 2 ^ 30) × (length (pieces_in rope.samples) ≤ 4096)) ropes
limits form now [] h = tt
limits form now (rope ∷ ropes) h = ((h.0.long, h.0.many), limits form now ropes h.1)

pub rope_limits : (form : ℕ) (d : Durable Tagged) (id : ℕ) → IsKept form d → (length (samples_of d.ropes id) ≤ 2 ^ 30) × (length (pieces_in (samples_of d.ropes id)) ≤ 4096)
rope_limits form d id h = samples_or (λ xs. (length xs ≤ 2 ^ 30) × (length (pieces_in xs) ≤ 4096)) (omega arith, omega arith) d.ropes (limits form d.moment d.ropes h.each_rope) id

shorter_slice : (xs : List Tagged) (s n : ℕ) → length (slice xs s n) ≤ length xs
shorter_slice xs s n =
    let front = length-take n (drop s xs) in
    let back = length-drop s xs in
    omega (arith, front, back)

fewer_pieces : (xs : List Tagged) (s n : ℕ) → length (pieces_in (slice xs s n)) ≤ length (pieces_in xs)
fewer_pieces xs s n =
    let first = fewer_taken nowhere n (drop s (spots_in_rope xs)) in
    let second = fewer_dropped nowhere s (spots_in_rope xs) in
    subst (λ ss. length (pieces_of ss) ≤ length (pieces_in xs)) (sym (spots-slice xs s n)) (omega (arith, first, second))

-- ---- a recording

pub recorded_length : (file place : ℕ) (bytes : List ℕ) → length (recorded_from file place bytes) ≡ length bytes
recorded_length file place [] = refl
recorded_length file place (b ∷ bytes) = ap suc (recorded_length file (place + 1) bytes)

pub recorded_spots : (file place : ℕ) (bytes : List ℕ) → spots_in_rope (recorded_from file place bytes) ≡ spots_from file place (length bytes)
recorded_spots file place [] = refl
recorded_spots file place (b ∷ bytes) = ap (λ l. record { file = file; place = place } ∷ l) (recorded_spots file (place + 1) bytes)

next_recording : (d : Durable Tagged) (bytes : List ℕ) → d.next ≤ 2 ^ 48 → length bytes ≤ 2 ^ 30 → IsNextRope d d.next (recording d.next bytes)
next_recording d bytes number long = record {
  next = omega arith;
  number = number;
  long = subst (λ n. n ≤ 2 ^ 30) (sym (recorded_length d.next 0 bytes)) long;
  many = let one = one_piece d.next 0 (length bytes) in subst (λ ss. length (pieces_of ss) ≤ 4096) (sym (recorded_spots d.next 0 bytes)) (omega (arith, one));
}

next_edit : (d : Durable Tagged) (samples : List Tagged) → d.next ≤ 2 ^ 48 → length samples ≤ 2 ^ 30 → length (pieces_in samples) ≤ 4096 → IsNextRope d d.next samples
next_edit d samples number long many = record { next = omega arith; number = number; long = long; many = many }

-- ---- a note

note_fits : (class : Class) (note : List ℕ) → length note ≤ 128 → is_bad_note class note ≡ false → is_note class note ≡ true
note_fits class note short good = by (nat_le (length note) 128) (class_number class == 2) ((length note == 8) && is_moment (spelled_number note)) (le-leb (length note) 128 short) good
  where
    by : (fits until moment : Bool) → fits ≡ true → (until && not moment) ≡ false → (fits && (not until || moment)) ≡ true
    by true true true e h = refl
    by true true false e h = cc
    by true false moment e h = refl
    by false until moment e h = cc

-- ---- a sweep

pub every_take : {A : Type 0} (P : A → Type 0) (n : ℕ) (xs : List A) → Every P xs → Every P (take n xs)
every_take P zero xs h = tt
every_take P (suc n) [] h = tt
every_take P (suc n) (x ∷ xs) h = (h.0, every_take P n xs h.1)

pub every_passed : {A : Type 0} (p : A → Bool) (xs : List A) → Every (λ x. p x ≡ true) (filter p xs)
every_passed p [] = tt
every_passed p (x ∷ xs) = here (p x) refl (every_passed p xs)
  where
    here : (b : Bool) → p x ≡ b → Every (λ x. p x ≡ true) (filter p xs) → Every (λ x. p x ≡ true) (cond b (x ∷ filter p xs) (filter p xs))
    here true e h = (e, h)
    here false e h = h

due_free : (d : Durable Tagged) (rope : Live Tagged) → is_due d rope ≡ true → has_row d.rows rope.id ≡ false
due_free d rope e = by (has_row d.rows rope.id) _ e
  where
    by : (b c : Bool) → (not b && c) ≡ true → b ≡ false
    by true c e = cc
    by false c e = refl

numbers_free : (d : Durable Tagged) (ropes : List (Live Tagged)) → Every (λ rope. is_due d rope ≡ true) ropes → Every (λ id. has_row d.rows id ≡ false) (map (λ rope. rope.id) ropes)
numbers_free d [] h = tt
numbers_free d (rope ∷ ropes) h = (due_free d rope h.0, numbers_free d ropes h.1)

swept_free : (form : ℕ) (d : Durable Tagged) (limit : ℕ) → Every (λ id. has_row (without_expired form d).rows id ≡ false) (swept_ropes form d limit)
swept_free form d limit =
    let left = without_expired form d in
    every_take (λ id. has_row left.rows id ≡ false) limit _ (numbers_free left (filter (is_due left) left.ropes) (every_passed (is_due left) left.ropes))

any_fits : (form : ℕ) (d : Durable Tagged) (rows : List Row) (ids : List ℕ) → IsFit form d (Swept ids) → MayFit form d (if_any rows ids)
any_fits form d [] [] h = tt
any_fits form d [] (id ∷ ids) h = h
any_fits form d (row ∷ rows) ids h = h

later_fits : (form : ℕ) (d : Durable Tagged) (moment : ℕ) (b : Bool) → moment ≤ 2 ^ 40 → (b ≡ true → d.moment ≤ moment) → MayFit form d (cond b (Some (Advanced moment)) None)
later_fits form d moment true limit h = (h refl, limit)
later_fits form d moment false limit h = tt

counted_fits : (form : ℕ) (d : Durable Tagged) (keys all : List (List ℕ)) → MayFit form d (unless_empty keys (Counted all))
counted_fits form d [] all = tt
counted_fits form d (key ∷ keys) all = tt

-- ---- lanes

pub every_at : {A : Type 0} (P : A → Type 0) (xs : List A) (n : ℕ) (default : A) → P default → Every P xs → P (slice_index_or xs n default)
every_at P [] n default none h = none
every_at P (x ∷ xs) zero default none h = h.0
every_at P (x ∷ xs) (suc n) default none h = every_at P xs n default none h.1

pub quiet : IsLane quiet_lane
quiet = record { few = omega arith; begun = tt; taking = tt }

taking_short : (lane : LaneState) → IsLane lane → (o : Option (List ℕ)) → lane.taking ≡ o → IsTaking o lane.jobs → length (unwrap_or o []) ≤ 2 ^ 30
taking_short lane h None e k = omega arith
taking_short lane h (Some bytes) e k = k.0

-- ---- each call

-- what is refused by the last condition alone may be done as well
pub fit_early : (s : State) (tapes : List (List ℕ)) (call : Call) → IsState s → InRange call → first_of (all_but_last (conditions s tapes call)) ≡ None → MayFit s.form s.kept (effect_of s tapes call)
fit_early s tapes (calls.Record take) h range free =
    let c = all_none (all_but_last (conditions s tapes (calls.Record take))) free in
    next_recording s.kept (taken tapes take) (number_left s c.1.0) (not_long _ c.0)
fit_early s tapes (calls.Concat ids) h range free =
    let c = all_none (all_but_last (conditions s tapes (calls.Concat ids))) free in
    let made = joined s.ropes ids in
    next_edit s.kept made (number_left s c.1.1.1.0) (not_long (length made) c.1.0) (not_many (length (pieces_in made)) c.1.1.0)
fit_early s tapes (calls.Sub id start len) h range free =
    let c = all_none (all_but_last (conditions s tapes (calls.Sub id start len))) free in
    let whole = rope_limits s.form s.kept id h.kept in
    let most = whole.0 in
    let pieces = whole.1 in
    let shorter = shorter_slice (samples_of s.ropes id) start len in
    let fewer = fewer_pieces (samples_of s.ropes id) start len in
    next_edit s.kept (slice (samples_of s.ropes id) start len) (number_left s c.1.1.0) (omega (arith, most, shorter)) (omega (arith, pieces, fewer))
fit_early s tapes (calls.Replace id start len with) h range free =
    let c = all_none (all_but_last (conditions s tapes (calls.Replace id start len with))) free in
    let made = replaced (samples_of s.ropes id) start len (samples_of s.ropes with) in
    next_edit s.kept made (number_left s c.1.1.1.1.0) (not_long (length made) c.1.1.0) (not_many (length (pieces_in made)) c.1.1.1.0)
fit_early s tapes (calls.End lane) h range free =
    let c = all_none (all_but_last (conditions s tapes (calls.End lane))) free in
    let here = every_at IsLane s.lanes lane quiet_lane quiet h.lanes in
    next_recording s.kept (taking_of s lane) (number_left s c.1.1.0) (taking_short (lane_at s lane) here (lane_at s lane).taking refl here.taking)
fit_early s tapes (calls.Retain class key id note) h range free =
    let c = all_none (all_but_last (conditions s tapes (calls.Retain class key id note))) free in (
      record {
        key = range.0;
        note = note_fits class note range.1 (not_when (is_bad_note class note) why.BadData c.1.0);
        live = live_first (is_live s.ropes id) id (known (first_unknown s.ropes (id ∷ [])) c.0);
      },
      untaken (row_at s.rows class key) c.1.1.0,
    )
fit_early s tapes (calls.Forget class key) h range free = tt
fit_early s tapes (calls.Census keys) h range free = counted_fits s.form s.kept (unlisted_keys s.rows keys) (unlisted_keys s.rows keys)
fit_early s tapes (calls.Advance moment) h range free = later_fits s.form s.kept moment (nat_lt s.moment moment) range (λ e. let later = ltb-true s.moment moment e in omega (arith, later))
fit_early s tapes (calls.Sweep limit) h range free = any_fits s.form s.kept (expired_rows s.kept) (swept_ropes s.form s.kept limit) (swept_free s.form s.kept limit)
fit_early s tapes (calls.Length id) h range free = tt
fit_early s tapes (calls.Describe id) h range free = tt
fit_early s tapes (calls.Levels id) h range free = tt
fit_early s tapes (calls.Play lane id start len) h range free = tt
fit_early s tapes (calls.Feed lane back) h range free = tt
fit_early s tapes (calls.Stop lane) h range free = tt
fit_early s tapes (calls.Lookup class key) h range free = tt
fit_early s tapes calls.Landed h range free = tt
fit_early s tapes (calls.Begin lane) h range free = tt
fit_early s tapes (calls.Add lane take) h range free = tt

pub fit_call : (s : State) (tapes : List (List ℕ)) (call : Call) → IsState s → InRange call → refusal s tapes call ≡ None → MayFit s.form s.kept (effect_of s tapes call)
fit_call s tapes call h range free = fit_early s tapes call h range (early_none (conditions s tapes call) free)
