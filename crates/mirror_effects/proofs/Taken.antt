-- The body of a change that may follow is not strange, and brings that change.
use Rattle.std.proofs.Common.{◌≡◌, ℕ, ◌+◌, inl, inr, true, false, not, List, [], ◌∷◌, map, refl, sym, ◌∙◌, ap, subst}
use Rattle.std.proofs.lemmas.Bool.{le-leb}
use Rattle.std.specs.Prelude.{flat_map}
use Rattle.voice_units.specs.Spots.{Spot}
use Rattle.voice_model.specs.Samples.{Tagged, spot_of, bytes_of, recording, recorded_from}
use Rattle.voice_model.specs.State.{Live, Effect}
use Rattle.voice_model.specs.State.Effect.{Recorded, Edited, Retained, Forgotten, Counted, Swept, Advanced}
use Rattle.voice_model.specs.Replay.{Rebuilt, is_legal, filled, live_by, effect_by, recovered}
use Rattle.voice_model.specs.Base.{change_of}
use Rattle.voice_model.specs.Valid.{Every, IsFit, IsTimely, TakesFree}
use Rattle.voice_model.proofs.KeptByChanges.{every-append}
use Rattle.voice_model.proofs.ChangesOfEffects.{brings_again}
use Rattle.voice_model.proofs.LegalInReplay.{legal_again}
use Rattle.fillings.specs.Laws.{IsNoRecording}
use Rattle.fillings.proofs.Edits.{IsGiven, given_again}
use Rattle.mirror_packets.specs.Packets.{Body}
use Rattle.mirror_packets.specs.Effects.{body_of_effect}
use Rattle.mirror_effects.specs.Effects.{IsAmong, IsIn, live_samples, samples_edited, MayFollow, IsBrought, is_strange}

-- ---- samples of live ropes are filled in as themselves

among_all : (P : Tagged → Type 0) (all : List Tagged) (t : Tagged) → Every P all → IsAmong all t → P t
among_all P [] t h k = absurd k
among_all P (first ∷ rest) t h (inl e) = subst P e h.0
among_all P (first ∷ rest) t h (inr k) = among_all P rest t h.1 k

in_all : (P : Tagged → Type 0) (samples all : List Tagged) → Every P all → IsIn samples all → Every P samples
in_all P [] all h k = tt
in_all P (t ∷ samples) all h k = (among_all P all t h k.0, in_all P samples all h k.1)

module _ (image : List ℕ) (b : Rebuilt) where
  given_samples : (ss : List Spot) → Every (IsGiven image b) (map (filled image b) ss)
  given_samples [] = tt
  given_samples (s ∷ ss) = (refl, given_samples ss)

  given_ropes : (ropes : List (Live Spot)) → Every (IsGiven image b) (flat_map (λ rope. rope.samples) (map (live_by (filled image b)) ropes))
  given_ropes [] = tt
  given_ropes (rope ∷ ropes) = every-append (IsGiven image b) (map (filled image b) rope.samples) (flat_map (λ rope. rope.samples) (map (live_by (filled image b)) ropes)) (given_samples rope.samples) (given_ropes ropes)

  given_edit : (samples : List Tagged) → IsIn samples (live_samples (recovered image b)) → map (filled image b) (map spot_of samples) ≡ samples
  given_edit samples inside = given_again image b samples (in_all (IsGiven image b) samples (live_samples (recovered image b)) (given_ropes b.ropes) inside)

  given_effect : (effect : Effect Tagged) → IsNoRecording effect → IsIn (samples_edited effect) (live_samples (recovered image b)) → effect ≡ effect_by (filled image b) (effect_by spot_of effect)
  given_effect (Recorded id samples) none inside = absurd none
  given_effect (Edited id samples) none inside = ap (λ l. Edited id l) (sym (given_edit samples inside))
  given_effect (Retained row) none inside = refl
  given_effect (Forgotten class key) none inside = refl
  given_effect (Counted keys) none inside = refl
  given_effect (Swept ids) none inside = refl
  given_effect (Advanced moment) none inside = refl

-- ---- changes

takes_none : (b : Rebuilt) (effect : Effect Tagged) → IsNoRecording effect → TakesFree b [] effect
takes_none b (Recorded id samples) none = absurd none
takes_none b (Edited id samples) none = tt
takes_none b (Retained row) none = tt
takes_none b (Forgotten class key) none = tt
takes_none b (Counted keys) none = tt
takes_none b (Swept ids) none = tt
takes_none b (Advanced moment) none = tt

module _ (image : List ℕ) (b : Rebuilt) (effect : Effect Tagged) (form : b.form ≡ 2) (follows : MayFollow (recovered image b) effect) where
  legal_two : TakesFree b [] effect → is_legal b (change_of 2 [] effect) ≡ true
  legal_two takes =
      subst (λ (n : ℕ). is_legal b (change_of n [] effect) ≡ true) form
      (legal_again (filled image b) (λ s. refl) b [] effect (inr form)
      (subst (λ (n : ℕ). IsFit n (recovered image b) effect) (sym form) follows.fit)
      (subst (λ (n : ℕ). IsTimely n (recovered image b) effect) (sym form) follows.timely) takes)

  other_taken : IsNoRecording effect → (is_strange b (Body.Other (change_of 2 [] effect)) ≡ false) × IsBrought image b (Body.Other (change_of 2 [] effect)) effect
  other_taken none = (ap not (legal_two (takes_none b effect none)), (effect_by spot_of effect, brings_again 2 [] effect follows.made, given_effect image b effect none follows.inside))

-- ---- recordings

bytes_recorded : (id place : ℕ) (bytes : List ℕ) → bytes_of (recorded_from id place bytes) ≡ bytes
bytes_recorded id place [] = refl
bytes_recorded id place (byte ∷ bytes) = ap (λ l. byte ∷ l) (bytes_recorded id (place + 1) bytes)

recorded_again : (id : ℕ) (samples : List Tagged) (bytes : List ℕ) → samples ≡ recording id bytes → samples ≡ recording id (bytes_of samples)
recorded_again id samples bytes e = e ∙ ap (recording id) (sym (ap bytes_of e ∙ bytes_recorded id 0 bytes))

pub body_taken : (image : List ℕ) (b : Rebuilt) (effect : Effect Tagged) → b.form ≡ 2 → MayFollow (recovered image b) effect → (is_strange b (body_of_effect effect) ≡ false) × IsBrought image b (body_of_effect effect) effect
body_taken image b (Recorded id samples) form follows = (ap not (le-leb b.next id follows.fit.next), ap (λ l. Recorded id l) (recorded_again id samples follows.made.0 follows.made.1))
body_taken image b (Edited id samples) form follows = other_taken image b (Edited id samples) form follows tt
body_taken image b (Retained row) form follows = other_taken image b (Retained row) form follows tt
body_taken image b (Forgotten class key) form follows = other_taken image b (Forgotten class key) form follows tt
body_taken image b (Counted keys) form follows = other_taken image b (Counted keys) form follows tt
body_taken image b (Swept ids) form follows = other_taken image b (Swept ids) form follows tt
body_taken image b (Advanced moment) form follows = other_taken image b (Advanced moment) form follows tt
