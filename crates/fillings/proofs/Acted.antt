-- A change that is replayed does, filled in by the places of before and of its own, what it did.
use Rattle.std.proofs.Common.{◌≡◌, ℕ, ◌+◌, ◌*◌, ◌%◌, ◌==◌, Bool, true, false, cond, List, [], ◌++◌, length, Some, refl, ◌∙◌, ap}
use Rattle.std.proofs.lemmas.List.{append-nil}
use Rattle.std.specs.Prelude.{slice_index}
use Rattle.voice_units.specs.declared.shapes.Shape.{Shape}
use Rattle.voice_units.specs.Spots.{Spot, spots_from, spots_of}
use Rattle.voice_units.specs.Blocks.{has_pair, pair_at}
use Rattle.voice_model.specs.Samples.{Tagged, spot_of, pieces_in}
use Rattle.voice_model.specs.State.{Durable, Effect}
use Rattle.voice_model.specs.State.Effect.{Recorded, Edited, Retained, Forgotten, Counted, Swept, Advanced}
use Rattle.voice_model.specs.Changes.{changed}
use Rattle.voice_model.specs.Replay.{Placed, Rebuilt, used_pairs, after_effect, acted, placed_from, address_of, filled, durable_by, effect_by, recovered}
use Rattle.voice_model.specs.Base.{change_of}
use Rattle.voice_model.specs.Places.{AllUsed}
use Rattle.voice_model.specs.declared.changes.Change.TheVariants as changes
use Rattle.voice_model.proofs.Alike.{changed-by}
use Rattle.voice_model.proofs.ChangesOfEffects.{brings_again}
use Rattle.voice_model.proofs.FitsOfCalls.{every_passed}
use Rattle.fillings.specs.Laws.{IsNoRecording}
use Rattle.fillings.proofs.Filling.{each_imply, each_used, same_filling, address-filter}

shape_changed : {A : Type 0} (form : ℕ) (d : Durable A) (e : Effect A) → (changed form d e).shape ≡ d.shape
shape_changed form d (Recorded id samples) = refl
shape_changed form d (Edited id samples) = refl
shape_changed form d (Retained row) = refl
shape_changed form d (Forgotten class key) = refl
shape_changed form d (Counted keys) = refl
shape_changed form d (Swept ids) = refl
shape_changed form d (Advanced moment) = refl

-- a sample, by the shape and the address of its block
abbrev pub byte_at : List ℕ → Spot → Shape → ℕ → Tagged
byte_at image s shape address = record { byte = slice_index image (64 + 2 * shape.area + address * shape.block + s.place % shape.block); file = s.file; place = s.place }

-- a sample, by the shape and all places
abbrev pub sample_by : List ℕ → Shape → List Placed → Spot → Tagged
sample_by image shape places s = byte_at image s shape (address_of places (pair_at shape.block s))

-- only the places of used blocks matter
used_only : (image : List ℕ) (b : Rebuilt) (places : List Placed) (e : Effect Spot) (s : Spot) → has_pair (used_pairs (changed b.form b.kept e)) (pair_at (changed b.form b.kept e).shape.block s) ≡ true → filled image (after_effect b places (Some e)) s ≡ sample_by image b.shape (b.places ++ places) s
used_only image b places e s used =
    let d = changed b.form b.kept e in
    ap (byte_at image s d.shape) (address-filter (used_pairs d) (b.places ++ places) (pair_at d.shape.block s) used)
    ∙ ap (λ (shape : Shape). sample_by image shape (b.places ++ places) s) (shape_changed b.form b.kept e)

-- what is rebuilt after an effect that came with these places
pub after_filled : (image : List ℕ) (b : Rebuilt) (places : List Placed) (e : Effect Spot) → recovered image (after_effect b places (Some e)) ≡ changed b.form (durable_by (sample_by image b.shape (b.places ++ places)) b.kept) (effect_by (sample_by image b.shape (b.places ++ places)) e)
after_filled image b places e =
    let d = changed b.form b.kept e in
    let by_all : Spot → Tagged = sample_by image b.shape (b.places ++ places) in
    same_filling (filled image (after_effect b places (Some e))) by_all d
    (each_imply (λ s. has_pair (used_pairs d) (pair_at d.shape.block s) ≡ true) (λ s. filled image (after_effect b places (Some e)) s ≡ by_all s) (used_only image b places e) d.ropes (each_used d.shape.block d.ropes))
    ∙ changed-by by_all b.form b.kept e

-- ---- changes that bring no block

plain_acted : (b : Rebuilt) (form : ℕ) (addresses : List ℕ) (effect : Effect Tagged) → IsNoRecording effect → acted b (change_of form addresses effect) ≡ after_effect b [] (Some (effect_by spot_of effect))
plain_acted b form addresses (Recorded id samples) none = absurd none
plain_acted b form addresses (Edited id samples) none = ap (after_effect b []) (brings_again form addresses (Edited id samples) tt)
plain_acted b form addresses (Retained row) none = refl
plain_acted b form addresses (Forgotten class key) none = refl
plain_acted b form addresses (Counted keys) none = refl
plain_acted b form addresses (Swept ids) none = refl
plain_acted b form addresses (Advanced moment) none = refl

pub plain_filled : (image : List ℕ) (b : Rebuilt) (addresses : List ℕ) (effect : Effect Tagged) → IsNoRecording effect → effect_by (filled image b) (effect_by spot_of effect) ≡ effect → recovered image (acted b (change_of b.form addresses effect)) ≡ changed b.form (recovered image b) effect
plain_filled image b addresses effect none again =
    ap (recovered image) (plain_acted b b.form addresses effect none)
    ∙ after_filled image b [] (effect_by spot_of effect)
    ∙ ap (λ (places : List Placed). changed b.form (durable_by (sample_by image b.shape places) b.kept) (effect_by (sample_by image b.shape places) (effect_by spot_of effect))) (append-nil b.places)
    ∙ ap (changed b.form (recovered image b)) again

-- ---- the places after a change

used_after : (b : Rebuilt) (places : List Placed) (e : Effect Spot) → AllUsed (after_effect b places (Some e))
used_after b places e = let d = changed b.form b.kept e in every_passed (λ (place : Placed). has_pair (used_pairs d) place.pair) (b.places ++ places)

pub used_acted : (b : Rebuilt) (form : ℕ) (addresses : List ℕ) (effect : Effect Tagged) → AllUsed (acted b (change_of form addresses effect))
used_acted b form addresses (Recorded id samples) = by (form == 2)
  where
    by : (wide : Bool) → AllUsed (acted b (cond wide (changes.Wide id (length samples) addresses) (changes.Recorded id (length samples) addresses)))
    by true = used_after b (placed_from id 0 addresses) (Recorded id (spots_from id 0 (length samples)))
    by false = used_after b (placed_from id 0 addresses) (Recorded id (spots_from id 0 (length samples)))
used_acted b form addresses (Edited id samples) = used_after b [] (Edited id (spots_of (pieces_in samples)))
used_acted b form addresses (Retained row) = used_after b [] (Retained row)
used_acted b form addresses (Forgotten class key) = used_after b [] (Forgotten class key)
used_acted b form addresses (Counted keys) = used_after b [] (Counted keys)
used_acted b form addresses (Swept ids) = used_after b [] (Swept ids)
used_acted b form addresses (Advanced moment) = used_after b [] (Advanced moment)

-- ---- what stays

abbrev AreAlike : Rebuilt → Rebuilt → Type 0
AreAlike b r = (r.shape ≡ b.shape) × (r.form ≡ b.form)

pub alike_acted : (b : Rebuilt) (form : ℕ) (addresses : List ℕ) (effect : Effect Tagged) → AreAlike b (acted b (change_of form addresses effect))
alike_acted b form addresses (Recorded id samples) = by (form == 2)
  where
    by : (wide : Bool) → AreAlike b (acted b (cond wide (changes.Wide id (length samples) addresses) (changes.Recorded id (length samples) addresses)))
    by true = (refl, refl)
    by false = (refl, refl)
alike_acted b form addresses (Edited id samples) = (refl, refl)
alike_acted b form addresses (Retained row) = (refl, refl)
alike_acted b form addresses (Forgotten class key) = (refl, refl)
alike_acted b form addresses (Counted keys) = (refl, refl)
alike_acted b form addresses (Swept ids) = (refl, refl)
alike_acted b form addresses (Advanced moment) = (refl, refl)
