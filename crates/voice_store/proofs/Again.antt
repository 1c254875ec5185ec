-- The samples of an edit are samples of live ropes: so they are filled in as themselves, and lie in blocks of live ropes.
use Rattle.std.proofs.Common.{◌≡◌, ℕ, ◌+◌, ◌==◌, Bool, true, false, ◌&&◌, ◌||◌, cond, List, [], ◌∷◌, ◌++◌, map, drop, Option, Some, IsTrue, refl, ◌∙◌, ap, subst}
use Rattle.std.specs.List.{list_all}
use Rattle.voice_units.specs.Spots.{Spot, slice, replaced}
use Rattle.voice_units.specs.Blocks.{BlockPair, same_pair, has_pair}
use Rattle.voice_model.specs.Samples.{Tagged, spot_of}
use Rattle.voice_model.specs.State.{State, Durable, Live, Effect, rope_at, samples_of, samples_or_none, joined}
use Rattle.voice_model.specs.State.Effect.{Edited}
use Rattle.voice_model.specs.Room.{pairs_of}
use Rattle.voice_model.specs.Changes.{effect_of}
use Rattle.voice_model.specs.Replay.{live_by, durable_by, effect_by}
use Rattle.voice_model.specs.Valid.{Every, IsTimely, MayBeTimely}
use Rattle.voice_model.specs.declared.calls.Call.{Call}
use Rattle.voice_model.specs.declared.calls.Call.TheVariants as calls
use Rattle.voice_model.proofs.KeptByChanges.{every-append}
use Rattle.voice_model.proofs.FitsOfCalls.{every_take}
use Rattle.voice_model.proofs.PlacesKept.{same_itself}
use Rattle.voice_model.proofs.UsedByEdits.{Within, live_samples, within_trans, within_slice, within_live, within_joined, within_replaced}
use Rattle.fillings.proofs.Edits.{every_drop}
use Rattle.voice_store.specs.Facts.{is_edit}
use Rattle.voice_store.proofs.Refused.{wrong}

-- ---- filled in as themselves

abbrev pub EachOf : (Tagged → Type 0) → List (Live Tagged) → Type 0
EachOf P ropes = Every (λ rope. Every P rope.samples) ropes

module _ (P : Tagged → Type 0) (ropes : List (Live Tagged)) (each : EachOf P ropes) where
  of_rope : (id : ℕ) → Every P (samples_of ropes id)
  of_rope id = by ropes each
    where
      here : (found : Bool) (rope : Live Tagged) (o : Option (Live Tagged)) → Every P rope.samples → Every P (samples_or_none o) → Every P (samples_or_none (cond found (Some rope) o))
      here true rope o h k = h
      here false rope o h k = k

      by : (ropes : List (Live Tagged)) → EachOf P ropes → Every P (samples_of ropes id)
      by [] h = tt
      by (rope ∷ ropes) h = here (rope.id == id) rope (rope_at ropes id) h.0 (by ropes h.1)

  of_joined : (ids : List ℕ) → Every P (joined ropes ids)
  of_joined [] = tt
  of_joined (id ∷ ids) = every-append P (samples_of ropes id) (joined ropes ids) (of_rope id) (of_joined ids)

  pub of_slice : (id start len : ℕ) → Every P (slice (samples_of ropes id) start len)
  of_slice id start len = every_take P len (drop start (samples_of ropes id)) (every_drop P start (samples_of ropes id) (of_rope id))

  of_replaced : (id start len other : ℕ) → Every P (replaced (samples_of ropes id) start len (samples_of ropes other))
  of_replaced id start len other =
      every-append P (slice (samples_of ropes id) 0 start ++ samples_of ropes other) (drop (start + len) (samples_of ropes id))
      (every-append P (slice (samples_of ropes id) 0 start) (samples_of ropes other) (of_slice id 0 start) (of_rope other))
      (every_drop P (start + len) (samples_of ropes id) (of_rope id))

module _ (fill : Spot → Tagged) (same : (x : Spot) → spot_of (fill x) ≡ x) where
  abbrev IsGiven : Tagged → Type 0
  IsGiven t = fill (spot_of t) ≡ t

  given_samples : (ss : List Spot) → Every IsGiven (map fill ss)
  given_samples [] = tt
  given_samples (x ∷ ss) = (ap fill (same x), given_samples ss)

  given_ropes : (ropes : List (Live Spot)) → EachOf IsGiven (map (live_by fill) ropes)
  given_ropes [] = tt
  given_ropes (rope ∷ ropes) = (given_samples rope.samples, given_ropes ropes)

  given_again : (made : List Tagged) → Every IsGiven made → map fill (map spot_of made) ≡ made
  given_again [] h = refl
  given_again (t ∷ made) h = ap (λ x. x ∷ map fill (map spot_of made)) h.0 ∙ ap (λ l. t ∷ l) (given_again made h.1)

  abbrev GivenIf : Option (Effect Tagged) → Type 0
  GivenIf (Some (Edited id samples)) = Every IsGiven samples
  GivenIf _ = Unit {0}

  given_by : (s : State) (tapes : List (List ℕ)) (call : Call) → EachOf IsGiven s.ropes → IsTrue (is_edit call) → GivenIf (effect_of s tapes call)
  given_by s tapes (calls.Concat ids) each edits = of_joined IsGiven s.ropes each ids
  given_by s tapes (calls.Sub id start len) each edits = of_slice IsGiven s.ropes each id start len
  given_by s tapes (calls.Replace id start len other) each edits = of_replaced IsGiven s.ropes each id start len other
  given_by s tapes _ each edits = absurd (wrong edits)

  -- the samples of an edit are filled in as themselves
  pub filled_again : (d : Durable Spot) (s : State) (tapes : List (List ℕ)) (call : Call) (id : ℕ) (samples : List Tagged) → durable_by fill d ≡ s.kept → IsTrue (is_edit call) → effect_of s tapes call ≡ Some (Edited id samples)
      → effect_by fill (effect_by spot_of (Edited id samples)) ≡ Edited id samples
  filled_again d s tapes call id samples kept edits is =
      ap (Edited id) (given_again samples (subst GivenIf is (given_by s tapes call (subst (λ (k : Durable Tagged). EachOf IsGiven k.ropes) kept (given_ropes d.ropes)) edits)))

-- ---- in blocks of live ropes

or_left : (a b : Bool) → a ≡ true → (a || b) ≡ true
or_left a b e = ap (λ x. x || b) e

or_right : (a b : Bool) → b ≡ true → (a || b) ≡ true
or_right true b e = refl
or_right false b e = e

all_had : (others pairs : List BlockPair) → ((q : BlockPair) → has_pair pairs q ≡ true → has_pair others q ≡ true) → list_all (has_pair others) pairs ≡ true
all_had others [] within = refl
all_had others (p ∷ pairs) within =
    ap (λ b. b && list_all (has_pair others) pairs) (within p (or_left (same_pair p p) (has_pair pairs p) (same_itself p)))
    ∙ all_had others pairs (λ q e. within q (or_right (same_pair q p) (has_pair pairs q) e))

all_within : (s : State) (samples : List Tagged) → Within s.shape.block samples (live_samples s.ropes) → list_all (has_pair (pairs_of s.shape.block (live_samples s.ropes))) (pairs_of s.shape.block samples) ≡ true
all_within s samples within = all_had (pairs_of s.shape.block (live_samples s.ropes)) (pairs_of s.shape.block samples) within.each

timely_by : (s : State) (tapes : List (List ℕ)) (call : Call) → IsTrue (is_edit call) → MayBeTimely s.form s.kept (effect_of s tapes call)
timely_by s tapes (calls.Concat ids) edits = all_within s (joined s.ropes ids) (within_joined s.shape.block s.ropes ids)
timely_by s tapes (calls.Sub id start len) edits = all_within s (slice (samples_of s.ropes id) start len) (within_trans s.shape.block _ _ _ (within_slice s.shape.block (samples_of s.ropes id) start len) (within_live s.shape.block s.ropes id))
timely_by s tapes (calls.Replace id start len other) edits = all_within s (replaced (samples_of s.ropes id) start len (samples_of s.ropes other)) (within_replaced s.shape.block s.ropes id start len other)
timely_by s tapes _ edits = absurd (wrong edits)

-- an edit names only blocks of live ropes, also where it is refused
pub timely_edit : (s : State) (tapes : List (List ℕ)) (call : Call) (id : ℕ) (samples : List Tagged) → IsTrue (is_edit call) → effect_of s tapes call ≡ Some (Edited id samples) → IsTimely s.form s.kept (Edited id samples)
timely_edit s tapes call id samples edits is = subst (MayBeTimely s.form s.kept) is (timely_by s tapes call edits)
