-- What packets bring: the laws, as statements.
--     BodiesDo      the change of a body that is not strange may follow, and does the one effect that the body brings
--     MayBeTaken      the body of a change that may follow is not strange, and brings that change
--     FrontsGrow      the packet of the next number makes a front of a legal list longer by the next change
use Rattle.std.specs.Prelude.{◌≡◌, ℕ, ◌+◌, ◌≤◌, true, false, List, [], ◌∷◌, ◌++◌, length, take, is_some}
use Rattle.voice_model.specs.Samples.{Tagged}
use Rattle.voice_model.specs.State.{Durable, Effect}
use Rattle.voice_model.specs.Changes.{changed}
use Rattle.voice_model.specs.Replay.{Rebuilt, brings, is_legal, acted, recovered}
use Rattle.voice_model.specs.Places.{IsPlaced}
use Rattle.fillings.specs.Laws.{SameInPlaces}
use Rattle.mirror_packets.specs.Packets.{Body, Packet, IsGoodBody}
use Rattle.mirror_packets.specs.Effects.{body_of_effect}
use Rattle.mirror_laws.specs.Standing.{kept_after, mirrored_after}
use Rattle.mirror_effects.specs.Effects.{MayFollow, IsBrought, change_for, is_strange, GetsFree, HasSamples}
use Rattle.mirror_effects.specs.Fronts.{AreLegal, IsPacketOf, IsFront}

pub record BodiesDo : Type 0 where
  -- the change of a body that is not strange is legal at free addresses
  pub legal : (b : Rebuilt) (addresses : List ℕ) (body : Body) → b.form ≡ 2 → is_strange b body ≡ false → GetsFree b addresses body → is_legal b (change_for addresses body) ≡ true
  -- and a legal one is not strange, at whatever addresses
  pub not_strange : (b : Rebuilt) (addresses : List ℕ) (body : Body) → is_legal b (change_for addresses body) ≡ true → is_strange b body ≡ false
  -- there is just one effect that a good body brings
  pub brought : (image : List ℕ) (b : Rebuilt) (body : Body) → IsGoodBody body → (effect : Effect Tagged) × IsBrought image b body effect
  pub once : (image : List ℕ) (b : Rebuilt) (body : Body) (e f : Effect Tagged) → IsBrought image b body e → IsBrought image b body f → e ≡ f
  -- once the samples stand at the addresses, the change does the effect
  pub does :
      (image : List ℕ) (b : Rebuilt) (addresses : List ℕ) (body : Body) (effect : Effect Tagged)
      → IsPlaced b → b.form ≡ 2 → IsGoodBody body → is_strange b body ≡ false → GetsFree b addresses body → HasSamples image b addresses body → IsBrought image b body effect
      → recovered image (acted b (change_for addresses body)) ≡ changed 2 (recovered image b) effect
  -- two fillings alike bring the same
  pub alike : (old new : List ℕ) (b : Rebuilt) (body : Body) (effect : Effect Tagged) → IsPlaced b → IsGoodBody body → is_strange b body ≡ false → SameInPlaces b old new → IsBrought old b body effect → IsBrought new b body effect
  -- the change has an effect, and keeps the shape and the form
  pub kind : (addresses : List ℕ) (body : Body) → IsGoodBody body → is_some (brings (change_for addresses body)) ≡ true
  pub stays : (b : Rebuilt) (addresses : List ℕ) (body : Body) → IsGoodBody body → ((acted b (change_for addresses body)).shape ≡ b.shape) × ((acted b (change_for addresses body)).form ≡ b.form)

pub record MayBeTaken : Type 0 where
  -- what may follow is not strange, and its body brings it
  pub taken : (image : List ℕ) (b : Rebuilt) (effect : Effect Tagged) → b.form ≡ 2 → MayFollow (recovered image b) effect → (is_strange b (body_of_effect effect) ≡ false) × IsBrought image b (body_of_effect effect) effect

pub record FrontsGrow : Type 0 where
  -- what a mirror has after changes of a front is what it has after the list's
  pub same :
      (start : Durable Tagged) (effects : List (Effect Tagged)) (first : Durable Tagged) (from : ℕ) (xs : List (Effect Tagged)) (j : ℕ)
      → IsFront start effects first from xs → j ≤ length xs → mirrored_after first from xs j ≡ mirrored_after start 0 effects (from + j)
  pub kept :
      (start : Durable Tagged) (effects : List (Effect Tagged)) (first : Durable Tagged) (from : ℕ) (xs : List (Effect Tagged))
      → IsFront start effects first from xs → kept_after first xs ≡ kept_after start (take (from + length xs) effects)
  -- a front's front
  pub shorter :
      (start : Durable Tagged) (effects : List (Effect Tagged)) (first : Durable Tagged) (from : ℕ) (xs ys : List (Effect Tagged))
      → IsFront start effects first from (xs ++ ys) → IsFront start effects first from xs
  -- the packet of the next number brings the next change, which may follow, and the front grows by it
  pub next :
      (start : Durable Tagged) (effects : List (Effect Tagged)) (first : Durable Tagged) (from : ℕ) (xs : List (Effect Tagged)) (p : Packet)
      → AreLegal start effects → IsFront start effects first from xs → IsPacketOf effects p → p.number ≡ from + length xs + 1
      → (e : Effect Tagged) × MayFollow (kept_after first xs) e × (p.body ≡ body_of_effect e) × IsFront start effects first from (xs ++ e ∷ [])
  -- at the start
  pub begin : (start : Durable Tagged) (effects : List (Effect Tagged)) → IsFront start effects start 0 []
