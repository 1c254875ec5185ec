-- The samples of an edit are samples of what an image gives, so it gives them again.
use Rattle.std.proofs.Common.{◌≡◌, ℕ, zero, suc, ◌+◌, ◌==◌, nat_lt, Bool, true, false, cond, List, [], ◌∷◌, ◌++◌, map, take, drop, Option, Some, None, refl, ◌∙◌, ap, subst}
use Rattle.voice_units.specs.Spots.{Spot, slice, replaced}
use Rattle.voice_model.specs.Samples.{Tagged, spot_of}
use Rattle.voice_model.specs.State.{State, Durable, Live, Effect, rope_at, samples_of, samples_or_none, joined}
use Rattle.voice_model.specs.State.Effect.{Edited, Counted, Advanced}
use Rattle.voice_model.specs.Changes.{effect_of, unless_empty, if_any, unlisted_keys, expired_rows, swept_ropes}
use Rattle.voice_model.specs.Replay.{Rebuilt, filled, live_by, effect_by, recovered}
use Rattle.voice_model.specs.Valid.{Every}
use Rattle.voice_model.specs.declared.calls.Row.{Row}
use Rattle.voice_model.specs.declared.calls.Call.{Call}
use Rattle.voice_model.specs.declared.calls.Call.TheVariants as calls
use Rattle.voice_model.proofs.KeptByChanges.{every-append}
use Rattle.voice_model.proofs.FitsOfCalls.{every_take}
use Rattle.fillings.specs.Laws.{IsNoRecording}

-- ---- samples of ropes

abbrev pub EachTagged : (Tagged → Type 0) → List (Live Tagged) → Type 0
EachTagged P ropes = Every (λ rope. Every P rope.samples) ropes

pub every_drop : {A : Type 0} (P : A → Type 0) (n : ℕ) (xs : List A) → Every P xs → Every P (drop n xs)
every_drop P zero xs h = h
every_drop P (suc n) [] h = tt
every_drop P (suc n) (x ∷ xs) h = every_drop P n xs h.1

module _ (P : Tagged → Type 0) (ropes : List (Live Tagged)) (each : EachTagged P ropes) where
  every_of : (id : ℕ) → Every P (samples_of ropes id)
  every_of id = by ropes each
    where
      here : (found : Bool) (rope : Live Tagged) (o : Option (Live Tagged)) → Every P rope.samples → Every P (samples_or_none o) → Every P (samples_or_none (cond found (Some rope) o))
      here true rope o h k = h
      here false rope o h k = k

      by : (ropes : List (Live Tagged)) → EachTagged P ropes → Every P (samples_of ropes id)
      by [] h = tt
      by (rope ∷ ropes) h = here (rope.id == id) rope (rope_at ropes id) h.0 (by ropes h.1)

  every_joined : (ids : List ℕ) → Every P (joined ropes ids)
  every_joined [] = tt
  every_joined (id ∷ ids) = every-append P (samples_of ropes id) (joined ropes ids) (every_of id) (every_joined ids)

  every_slice : (id start len : ℕ) → Every P (slice (samples_of ropes id) start len)
  every_slice id start len = every_take P len (drop start (samples_of ropes id)) (every_drop P start (samples_of ropes id) (every_of id))

  every_replaced : (id start len other : ℕ) → Every P (replaced (samples_of ropes id) start len (samples_of ropes other))
  every_replaced id start len other =
      every-append P (slice (samples_of ropes id) 0 start ++ samples_of ropes other) (drop (start + len) (samples_of ropes id))
      (every-append P (slice (samples_of ropes id) 0 start) (samples_of ropes other) (every_slice id 0 start) (every_of other))
      (every_drop P (start + len) (samples_of ropes id) (every_of id))

-- ---- they are filled in as themselves

abbrev pub IsGiven : List ℕ → Rebuilt → Tagged → Type 0
IsGiven image b t = filled image b (spot_of t) ≡ t

module _ (image : List ℕ) (b : Rebuilt) where
  given_samples : (ss : List Spot) → Every (IsGiven image b) (map (filled image b) ss)
  given_samples [] = tt
  given_samples (s ∷ ss) = (refl, given_samples ss)

  given_ropes : (ropes : List (Live Spot)) → EachTagged (IsGiven image b) (map (live_by (filled image b)) ropes)
  given_ropes [] = tt
  given_ropes (rope ∷ ropes) = (given_samples rope.samples, given_ropes ropes)

  pub given_again : (made : List Tagged) → Every (IsGiven image b) made → map (filled image b) (map spot_of made) ≡ made
  given_again [] h = refl
  given_again (t ∷ made) h = ap (λ x. x ∷ map (filled image b) (map spot_of made)) h.0 ∙ ap (λ l. t ∷ l) (given_again made h.1)

  pub joined_again : (ids : List ℕ) → map (filled image b) (map spot_of (joined (recovered image b).ropes ids)) ≡ joined (recovered image b).ropes ids
  joined_again ids = given_again _ (every_joined (IsGiven image b) (recovered image b).ropes (given_ropes b.ropes) ids)

  pub sliced_again : (id start len : ℕ) → map (filled image b) (map spot_of (slice (samples_of (recovered image b).ropes id) start len)) ≡ slice (samples_of (recovered image b).ropes id) start len
  sliced_again id start len = given_again _ (every_slice (IsGiven image b) (recovered image b).ropes (given_ropes b.ropes) id start len)

  pub replaced_again : (id start len other : ℕ) → map (filled image b) (map spot_of (replaced (samples_of (recovered image b).ropes id) start len (samples_of (recovered image b).ropes other))) ≡ replaced (samples_of (recovered image b).ropes id) start len (samples_of (recovered image b).ropes other)
  replaced_again id start len other = given_again _ (every_replaced (IsGiven image b) (recovered image b).ropes (given_ropes b.ropes) id start len other)

  -- ---- the changes of calls

  abbrev AgainIf : Option (Effect Tagged) → Type 0
  AgainIf None = Unit {0}
  AgainIf (Some e) = IsNoRecording e → effect_by (filled image b) (effect_by spot_of e) ≡ e

  edited_again : (id : ℕ) (made : List Tagged) → Every (IsGiven image b) made → AgainIf (Some (Edited id made))
  edited_again id made h none = ap (λ l. Edited id l) (given_again made h)

  counted_again : (keys all : List (List ℕ)) → AgainIf (unless_empty keys (Counted all))
  counted_again [] all = tt
  counted_again (key ∷ keys) all = λ none. refl

  later_again : (is_later : Bool) (moment : ℕ) → AgainIf (cond is_later (Some (Advanced moment)) None)
  later_again true moment = λ none. refl
  later_again false moment = tt

  swept_again : (rows : List Row) (ids : List ℕ) → AgainIf (if_any rows ids)
  swept_again [] [] = tt
  swept_again [] (id ∷ ids) = λ none. refl
  swept_again (row ∷ rows) ids = λ none. refl

  again_by : (s : State) (tapes : List (List ℕ)) (call : Call) → EachTagged (IsGiven image b) s.ropes → AgainIf (effect_of s tapes call)
  again_by s tapes (calls.Record take) given = λ none. absurd none
  again_by s tapes (calls.Concat ids) given = edited_again s.next (joined s.ropes ids) (every_joined (IsGiven image b) s.ropes given ids)
  again_by s tapes (calls.Sub id start len) given = edited_again s.next (slice (samples_of s.ropes id) start len) (every_slice (IsGiven image b) s.ropes given id start len)
  again_by s tapes (calls.Replace id start len other) given =
      edited_again s.next (replaced (samples_of s.ropes id) start len (samples_of s.ropes other)) (every_replaced (IsGiven image b) s.ropes given id start len other)
  again_by s tapes (calls.End lane) given = λ none. absurd none
  again_by s tapes (calls.Retain class key id note) given = λ none. refl
  again_by s tapes (calls.Forget class key) given = λ none. refl
  again_by s tapes (calls.Census keys) given = counted_again (unlisted_keys s.rows keys) (unlisted_keys s.rows keys)
  again_by s tapes (calls.Advance moment) given = later_again (nat_lt s.moment moment) moment
  again_by s tapes (calls.Sweep limit) given = swept_again (expired_rows s.kept) (swept_ropes s.form s.kept limit)
  again_by s tapes _ given = tt

  pub call_again : (s : State) (tapes : List (List ℕ)) (call : Call) (effect : Effect Tagged) → recovered image b ≡ s.kept → effect_of s tapes call ≡ Some effect → IsNoRecording effect → effect_by (filled image b) (effect_by spot_of effect) ≡ effect
  call_again s tapes call effect same e =
      subst AgainIf e (again_by s tapes call (subst (λ (d : Durable Tagged). EachTagged (IsGiven image b) d.ropes) same (given_ropes b.ropes)))
