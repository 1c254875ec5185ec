-- What a recording brings, filled in, and what it adds to a base.
use Rattle.std.proofs.Common.{◌≡◌, ℕ, suc, ◌+◌, ◌<◌, ◌≤◌, ◌==◌, Bool, true, cond, List, [], ◌∷◌, map, length, refl, sym, ◌∙◌, ap, subst, arith, eq-eqb}
use Rattle.std.specs.Prelude.{slice_index}
use Rattle.voice_units.specs.Spots.{Spot}
use Rattle.voice_units.specs.Blocks.{BlockPair, same_pair, pair_at}
use Rattle.voice_units.proofs.Distinct.{same_pair-true}
use Rattle.voice_model.specs.Samples.{Tagged, spot_of, recording, recorded_from}
use Rattle.voice_model.specs.State.{Durable, Live}
use Rattle.voice_model.specs.State.Effect.{Recorded}
use Rattle.voice_model.specs.Changes.{changed}
use Rattle.voice_model.specs.Replay.{Placed, Rebuilt, has_place, acted, live_by, durable_by, effect_by}
use Rattle.voice_model.specs.Base.{change_of}
use Rattle.voice_model.specs.Valid.{Every}
use Rattle.voice_model.specs.Places.{IsPlace, IsInRange, IsPlaced}
use Rattle.voice_model.proofs.LegalInReplay.{acted_again}
use Rattle.recovery.proofs.Ropes.{not_equal}
use Rattle.fillings.specs.Laws.{AreBelow}
use Rattle.voice_blocks.proofs.Apart.{either_way}
use Rattle.fillings.proofs.Filling.{each_imply, same_filling}
use Rattle.voice_store.proofs.Refused.{wrong}

-- ---- files of lower numbers

file_below : (next blocks : ℕ) (places : List Placed) (q : BlockPair) → Every (IsInRange next blocks) places → has_place places q ≡ true → q.file < next
file_below next blocks [] q h e = absurd (wrong e)
file_below next blocks (place ∷ places) q h e =
    either_way (same_pair place.pair q) (has_place places q)
    (λ k. subst (λ (p : BlockPair). p.file < next) (same_pair-true place.pair q k) h.0.known)
    (λ k. file_below next blocks places q h.1 k) e

place_below : (b : Rebuilt) → IsPlaced b → (s : Spot) → IsPlace b.shape.block b.places s → s.file < b.next
place_below b placed s place = file_below b.next b.shape.blocks b.places (pair_at b.shape.block s) placed.ranges place.held

module _ (fill : Spot → Tagged) (same : (x : Spot) → spot_of (fill x) ≡ x) where
  file_of : (x : Spot) → (fill x).file ≡ x.file
  file_of x = ap (λ (y : Spot). y.file) (same x)

  place_of : (x : Spot) → (fill x).place ≡ x.place
  place_of x = ap (λ (y : Spot). y.place) (same x)

  samples_below : (b : Rebuilt) → IsPlaced b → (ss : List Spot) → Every (IsPlace b.shape.block b.places) ss → Every (λ (t : Tagged). t.file < b.next) (map fill ss)
  samples_below b placed [] h = tt
  samples_below b placed (s ∷ ss) h = (subst (λ n. n < b.next) (sym (file_of s)) (place_below b placed s h.0), samples_below b placed ss h.1)

  ropes_below : (b : Rebuilt) → IsPlaced b → (ropes : List (Live Spot)) → Every (λ (rope : Live Spot). Every (IsPlace b.shape.block b.places) rope.samples) ropes → AreBelow b.next (map (live_by fill) ropes)
  ropes_below b placed [] h = tt
  ropes_below b placed (rope ∷ ropes) h = (samples_below b placed rope.samples h.0, ropes_below b placed ropes h.1)

  -- the next number is above all files, whatever the bytes are
  pub below_next : (b : Rebuilt) (d : Durable Tagged) → IsPlaced b → durable_by fill b.kept ≡ d → AreBelow d.next d.ropes
  below_next b d placed kept = subst (λ (x : Durable Tagged). AreBelow x.next x.ropes) kept (ropes_below b placed b.ropes placed.placed)

-- ---- the fill after a recording

-- the recording's bytes in its file, and what was there in all others
pub later_fill : (Spot → Tagged) → ℕ → List ℕ → Spot → Tagged
later_fill fill id bytes x = record { byte = cond (x.file == id) (slice_index bytes x.place) (fill x).byte; file = x.file; place = x.place }

module _ (fill : Spot → Tagged) (same : (x : Spot) → spot_of (fill x) ≡ x) (id : ℕ) (bytes : List ℕ) where
  abbrev later : Spot → Tagged
  later = later_fill fill id bytes

  pub later_spots : (x : Spot) → spot_of (later x) ≡ x
  unfolding later_fill
  later_spots x = refl

  pub as_before : (x : Spot) → x.file < id → later x ≡ fill x
  unfolding later_fill
  as_before x less =
      ap (λ (v : Bool). let t : Tagged = record { byte = cond v (slice_index bytes x.place) (fill x).byte; file = x.file; place = x.place } in t) (not_equal x.file id (λ e. absurd (omega (arith, less, e))))
      ∙ ap (λ (y : Spot). let t : Tagged = record { byte = (fill x).byte; file = y.file; place = y.place } in t) (sym (same x))

  here : (place : ℕ) → later (record { file = id; place = place }) ≡ record { byte = slice_index bytes place; file = id; place = place }
  unfolding later_fill
  here place = ap (λ (v : Bool). let t : Tagged = record { byte = cond v (slice_index bytes place) (fill (record { file = id; place = place })).byte; file = id; place = place } in t) (eq-eqb id id refl)

  pub later_here : (place : ℕ) → (later (record { file = id; place = place })).byte ≡ slice_index bytes place
  later_here place = ap (λ (t : Tagged). t.byte) (here place)

  pub later_other : (x : Spot) → ¬ (x.file ≡ id) → (later x).byte ≡ (fill x).byte
  unfolding later_fill
  later_other x other = ap (λ (v : Bool). cond v (slice_index bytes x.place) (fill x).byte) (not_equal x.file id other)

  recorded_again : (from : ℕ) (rest : List ℕ) → ((k : ℕ) → k < length rest → slice_index bytes (from + k) ≡ slice_index rest k) → map later (map spot_of (recorded_from id from rest)) ≡ recorded_from id from rest
  recorded_again from [] each = refl
  recorded_again from (byte ∷ rest) each =
      let first : slice_index bytes from ≡ byte = ap (slice_index bytes) (omega arith) ∙ each 0 (omega arith) in
      ap (λ t. t ∷ map later (map spot_of (recorded_from id (from + 1) rest))) (here from ∙ ap (λ (v : ℕ). let t : Tagged = record { byte = v; file = id; place = from } in t) first)
      ∙ ap (λ l. record { byte = byte; file = id; place = from } ∷ l)
      (recorded_again (from + 1) rest (λ k less. ap (slice_index bytes) (omega arith) ∙ each (suc k) (omega (arith, less))))

  filled_again : effect_by later (effect_by spot_of (Recorded id (recording id bytes))) ≡ Recorded id (recording id bytes)
  filled_again = ap (Recorded id) (recorded_again 0 bytes (λ k less. ap (slice_index bytes) (omega arith)))

  -- what was rebuilt before is filled in as it was
  pub kept_before : (b : Rebuilt) → IsPlaced b → b.next ≤ id → durable_by later b.kept ≡ durable_by fill b.kept
  kept_before b placed new =
      same_filling later fill b.kept
      (each_imply (IsPlace b.shape.block b.places) (λ s. later s ≡ fill s) (λ s place. let less = place_below b placed s place in as_before s (omega (arith, less, new))) b.ropes placed.placed)

  -- the change of a recording brings it, so filled in
  pub brings_recording : (b : Rebuilt) (addresses : List ℕ) → IsPlaced b → b.next ≤ id
      → durable_by later (acted b (change_of b.form addresses (Recorded id (recording id bytes)))).kept ≡ changed b.form (durable_by fill b.kept) (Recorded id (recording id bytes))
  brings_recording b addresses placed new =
      acted_again later later_spots b addresses (Recorded id (recording id bytes)) (bytes, refl) filled_again
      ∙ ap (λ (d : Durable Tagged). changed b.form d (Recorded id (recording id bytes))) (kept_before b placed new)
