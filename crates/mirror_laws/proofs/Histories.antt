-- Lists of changes with one more, and what an image may have of them.
--     IsMirrored      an image is that of a mirror with this durable part at this position
--     HasFrom      it is that of the first j changes, for some j from k on
use Rattle.std.proofs.Common.{◌≡◌, ℕ, zero, suc, ◌+◌, ◌≤◌, List, [], ◌∷◌, ◌++◌, length, take, Some, refl, sym, ◌∙◌, ap, arith, length-append}
use Rattle.voice_model.specs.Samples.{Tagged}
use Rattle.voice_model.specs.State.{Durable, Effect}
use Rattle.voice_model.specs.Changes.{changed}
use Rattle.mirror_readings.specs.Readings.{Mirrored, mirrored_from}
use Rattle.mirror_laws.specs.Standing.{Took, taken_at, kept_after, effects_of, with_doubt, moment_of, mirrored_after}

pub length_push : {A : Type 0} (xs : List A) (x : A) → length (xs ++ x ∷ []) ≡ suc (length xs)
length_push xs x = omega (arith, length-append xs (x ∷ []))

take_front : {A : Type 0} (xs more : List A) (k : ℕ) → k ≤ length xs → take k (xs ++ more) ≡ take k xs
take_front [] more zero le = refl
take_front [] more (suc k) le = absurd (omega arith)
take_front (x ∷ xs) more zero le = refl
take_front {A} (x ∷ xs) more (suc k) le = ap (λ (rest : List A). x ∷ rest) (take_front xs more k (omega arith))

take_all : {A : Type 0} (xs : List A) → take (length xs) xs ≡ xs
take_all [] = refl
take_all {A} (x ∷ xs) = ap (λ (rest : List A). x ∷ rest) (take_all xs)

-- ---- changes

pub effects_push : (taken : List Took) (one : Took) → effects_of (taken ++ one ∷ []) ≡ effects_of taken ++ one.effect ∷ []
effects_push [] one = refl
effects_push (x ∷ taken) one = ap (λ (rest : List (Effect Tagged)). x.effect ∷ rest) (effects_push taken one)

pub length_effects : (taken : List Took) → length (effects_of taken) ≡ length taken
length_effects [] = refl
length_effects (x ∷ taken) = ap suc (length_effects taken)

pub kept_push : (d : Durable Tagged) (effects : List (Effect Tagged)) (effect : Effect Tagged) → kept_after d (effects ++ effect ∷ []) ≡ changed 2 (kept_after d effects) effect
kept_push d [] effect = refl
kept_push d (x ∷ effects) effect = kept_push (changed 2 d x) effects effect

-- ---- moments

pub moment_push : (t0 : ℕ) (taken : List Took) (one : Took) (k : ℕ) → k ≤ length taken → moment_of t0 (taken ++ one ∷ []) k ≡ moment_of t0 taken k
moment_push t0 [] one zero le = refl
moment_push t0 [] one (suc k) le = absurd (omega arith)
moment_push t0 (x ∷ taken) one zero le = refl
moment_push t0 (x ∷ taken) one (suc k) le = moment_push x.ack taken one k (omega arith)

pub moment_last : (t0 : ℕ) (taken : List Took) (one : Took) → moment_of t0 (taken ++ one ∷ []) (suc (length taken)) ≡ one.ack
moment_last t0 [] one = refl
moment_last t0 (x ∷ taken) one = moment_last x.ack taken one

-- ---- images

abbrev pub mirrored : Durable Tagged → ℕ → Mirrored
mirrored d n = record { kept = d; position = n }

-- an image is that of a mirror with this durable part at this position
abbrev pub IsMirrored : List ℕ → Durable Tagged → ℕ → Type 0
IsMirrored image d n = mirrored_from image ≡ Some (mirrored d n)

-- it is that of the first j changes, for some j from k on
abbrev pub HasFrom : Durable Tagged → ℕ → List (Effect Tagged) → ℕ → List ℕ → Type 0
HasFrom first from effects k image = (j : ℕ) × (k ≤ j) × (j ≤ length effects) × (mirrored_from image ≡ Some (mirrored_after first from effects j))

module _ (first : Durable Tagged) (from : ℕ) (effects : List (Effect Tagged)) (image : List ℕ) where
  -- that of all of them
  pub has_all :
      (d : Durable Tagged) (n k : ℕ) → d ≡ kept_after first effects → n ≡ from + length effects → k ≤ length effects → IsMirrored image d n → HasFrom first from effects k image
  has_all d n k kept number le is = (
    length effects,
    le,
    omega arith,
    is ∙ (λ i. Some (mirrored (kept i) (number i))) ∙ ap (λ (es : List (Effect Tagged)). Some (mirrored (kept_after first es) (from + length effects))) (sym (take_all effects)),
  )

  -- and with one more behind them
  pub has_before : (effect : Effect Tagged) (k : ℕ) → HasFrom first from effects k image → HasFrom first from (effects ++ effect ∷ []) k image
  has_before effect k at = (
    at.0,
    at.1,
    omega (arith, at.2, length_push effects effect),
    at.3 ∙ ap (λ (es : List (Effect Tagged)). Some (mirrored (kept_after first es) (from + at.0))) (sym (take_front effects (effect ∷ []) at.0 at.2)),
  )

module _ (first : Durable Tagged) (from : ℕ) (taken : List Took) where
  abbrev kept : Durable Tagged
  kept = kept_after first (effects_of taken)

  -- what was kept after the last change that was taken
  pub has_last : (k : ℕ) (image : List ℕ) → k ≤ length taken → IsMirrored image kept (from + length taken) → HasFrom first from (effects_of taken) k image
  has_last k image le is = has_all first from (effects_of taken) image kept (from + length taken) k refl (omega (arith, length_effects taken)) (omega (arith, le, length_effects taken)) is

  module _ (effect : Effect Tagged) where
    abbrev more : List (Effect Tagged)
    more = with_doubt (Some effect) taken

    length_more : length more ≡ suc (length taken)
    length_more = length_push (effects_of taken) effect ∙ ap suc (length_effects taken)

    pub has_old : (k : ℕ) (image : List ℕ) → k ≤ length taken → IsMirrored image kept (from + length taken) → HasFrom first from more k image
    has_old k image le is = has_before first from (effects_of taken) image effect k (has_last k image le is)

    -- what is kept after one more
    pub has_new : (k : ℕ) (image : List ℕ) → k ≤ suc (length taken) → IsMirrored image (changed 2 kept effect) (from + length taken + 1) → HasFrom first from more k image
    has_new k image le is =
        has_all first from more image (changed 2 kept effect) (from + length taken + 1) k (sym (kept_push first (effects_of taken) effect)) (omega (arith, length_more)) (omega (arith, le, length_more)) is

    -- once it is taken too
    module _ (ack : ℕ) where
      abbrev longer : List Took
      longer = taken ++ taken_at effect ack ∷ []

      pub effects_more : more ≡ effects_of longer
      effects_more = sym (effects_push taken (taken_at effect ack))

      pub kept_more : changed 2 kept effect ≡ kept_after first (effects_of longer)
      kept_more = sym (kept_push first (effects_of taken) effect) ∙ ap (λ (es : List (Effect Tagged)). kept_after first es) effects_more

      pub number_more : from + length taken + 1 ≡ from + length longer
      number_more = omega (arith, length_push taken (taken_at effect ack))
