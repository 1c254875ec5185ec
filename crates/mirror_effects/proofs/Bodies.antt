-- The change of a body: when it may follow, and what it does.
use Rattle.std.proofs.Common.{◌≡◌, ℕ, ◌≤◌, ◌==◌, Bool, true, false, ◌&&◌, not, List, [], length, Some, refl, sym, ◌∙◌, ap, subst}
use Rattle.std.proofs.lemmas.Bool.{eq-eqb, leb-true}
use Rattle.std.proofs.lemmas.List.{append-nil}
use Rattle.std.specs.Prelude.{nat_le, is_some}
use Rattle.std.specs.List.{list_all}
use Rattle.voice_units.specs.Spots.{Spot}
use Rattle.voice_units.specs.Blocks.{blocks_for}
use Rattle.voice_units.proofs.PiecesOfRopes.{both}
use Rattle.voice_model.specs.Samples.{Tagged, recording}
use Rattle.voice_model.specs.State.{Effect}
use Rattle.voice_model.specs.State.Effect.{Recorded}
use Rattle.voice_model.specs.Changes.{changed}
use Rattle.voice_model.specs.Replay.{Placed, Rebuilt, brings, is_legal, may_be_recorded, all_differ, is_free_address, acted, filled, durable_by, effect_by, recovered}
use Rattle.voice_model.specs.Base.{change_of}
use Rattle.voice_model.specs.Places.{IsPlaced}
use Rattle.voice_model.specs.declared.changes.Change.{Change}
use Rattle.voice_model.specs.declared.changes.Change.TheVariants as changes
use Rattle.voice_model.proofs.FitsOfCalls.{recorded_length}
use Rattle.fillings.specs.Laws.{SameInPlaces, HasBytes}
use Rattle.fillings.proofs.Acted.{sample_by, after_filled}
use Rattle.fillings.proofs.Recordings.{recorded_filled}
use Rattle.mirror_packets.specs.Packets.{Body, IsGoodBody}
use Rattle.mirror_effects.specs.Effects.{IsBrought, change_for, is_strange, GetsFree, HasSamples}
use Rattle.mirror_effects.proofs.Followed.{Followed, followed}

-- ---- tests

join : (a b : Bool) → a ≡ true → b ≡ true → (a && b) ≡ true
join a b h k = ap (λ x. x && b) h ∙ k

shown : (a : Bool) → not a ≡ false → a ≡ true
shown true h = refl
shown false h = cc

-- ---- when it may follow

pub body_legal : (b : Rebuilt) (addresses : List ℕ) (body : Body) → b.form ≡ 2 → is_strange b body ≡ false → GetsFree b addresses body → is_legal b (change_for addresses body) ≡ true
body_legal b addresses (Body.Voice id samples) form known free =
    join (b.form == 2) (may_be_recorded b id (length samples) addresses) (eq-eqb b.form 2 form)
    (join _ _ (join _ _ (join _ _ (shown (nat_le b.next id) known) (eq-eqb _ _ free.0)) free.1) free.2)
body_legal b addresses (Body.Other change) form known free = shown (is_legal b change) known

pub body_known : (b : Rebuilt) (addresses : List ℕ) (body : Body) → is_legal b (change_for addresses body) ≡ true → is_strange b body ≡ false
body_known b addresses (Body.Voice id samples) h =
    let number = nat_le b.next id in
    let count = length addresses == blocks_for b.shape.block (length samples) in
    let by_form = both (b.form == 2) (may_be_recorded b id (length samples) addresses) h in
    let free = both (number && count && all_differ addresses) (list_all (is_free_address b) addresses) by_form.1 in
    let once = both (number && count) (all_differ addresses) free.0 in
    ap not (both number count once.0).0
body_known b addresses (Body.Other change) h = ap not h

-- ---- what it brings

one_made : (change : Change) (e f : Effect Spot) → brings change ≡ Some e → brings change ≡ Some f → e ≡ f
one_made change e f h k = let same : Some e ≡ Some f = sym h ∙ k in cc

pub one_effect : (image : List ℕ) (b : Rebuilt) (body : Body) (e f : Effect Tagged) → IsBrought image b body e → IsBrought image b body f → e ≡ f
one_effect image b (Body.Voice id samples) e f h k = h ∙ sym k
one_effect image b (Body.Other change) e f h k = h.2 ∙ ap (effect_by (filled image b)) (one_made change h.0 k.0 h.1 k.1) ∙ sym k.2

pub body_brings : (image : List ℕ) (b : Rebuilt) (body : Body) → IsGoodBody body → (effect : Effect Tagged) × IsBrought image b body effect
body_brings image b (Body.Voice id samples) good = (Recorded id (recording id samples), refl)
body_brings image b (Body.Other change) good = let kind = followed change good.0 in (effect_by (filled image b) kind.made, (kind.made, kind.is, refl))

pub body_kind : (addresses : List ℕ) (body : Body) → IsGoodBody body → is_some (brings (change_for addresses body)) ≡ true
body_kind addresses (Body.Voice id samples) good = refl
body_kind addresses (Body.Other change) good = ap (λ o. is_some o) (followed change good.0).is

pub body_stays : (b : Rebuilt) (addresses : List ℕ) (body : Body) → IsGoodBody body → ((acted b (change_for addresses body)).shape ≡ b.shape) × ((acted b (change_for addresses body)).form ≡ b.form)
body_stays b addresses (Body.Voice id samples) good = (refl, refl)
body_stays b addresses (Body.Other change) good = (followed change good.0).stays b

pub body_alike : (old new : List ℕ) (b : Rebuilt) (body : Body) (effect : Effect Tagged) → IsPlaced b → IsGoodBody body → is_strange b body ≡ false → SameInPlaces b old new → IsBrought old b body effect → IsBrought new b body effect
body_alike old new b (Body.Voice id samples) effect placed good known same h = h
body_alike old new b (Body.Other change) effect placed good known same h =
    let kind = followed change good.0 in
    let made : h.0 ≡ kind.made = one_made change h.0 kind.made h.1 kind.is in
    (kind.made, kind.is, h.2 ∙ ap (effect_by (filled old b)) made ∙ kind.alike b old new placed same (shown (is_legal b change) known))

-- ---- what it does

voice_does : (image : List ℕ) (b : Rebuilt) (id : ℕ) (samples addresses : List ℕ) → IsPlaced b → b.form ≡ 2 → b.next ≤ id → length addresses ≡ blocks_for b.shape.block (length samples) → HasBytes image b.shape addresses samples → recovered image (acted b (changes.Wide id (length samples) addresses)) ≡ changed 2 (recovered image b) (Recorded id (recording id samples))
voice_does image b id samples addresses placed form new count holds =
    ap (λ n. recovered image (acted b (changes.Wide id n addresses))) (sym (recorded_length id 0 samples))
    ∙ subst (λ (n : ℕ). recovered image (acted b (change_of n addresses (Recorded id (recording id samples)))) ≡ changed n (recovered image b) (Recorded id (recording id samples))) form (recorded_filled image b id samples addresses placed new count holds)

other_does : (image : List ℕ) (b : Rebuilt) (change : Change) → b.form ≡ 2 → (kind : Followed change) → recovered image (acted b change) ≡ changed 2 (recovered image b) (effect_by (filled image b) kind.made)
other_does image b change form kind =
    ap (recovered image) (kind.acts b)
    ∙ after_filled image b [] kind.made
    ∙ ap (λ (places : List Placed). changed b.form (durable_by (sample_by image b.shape places) b.kept) (effect_by (sample_by image b.shape places) kind.made)) (append-nil b.places)
    ∙ ap (λ (n : ℕ). changed n (recovered image b) (effect_by (filled image b) kind.made)) form

pub body_does : (image : List ℕ) (b : Rebuilt) (addresses : List ℕ) (body : Body) (effect : Effect Tagged) → IsPlaced b → b.form ≡ 2 → IsGoodBody body → is_strange b body ≡ false → GetsFree b addresses body → HasSamples image b addresses body → IsBrought image b body effect → recovered image (acted b (change_for addresses body)) ≡ changed 2 (recovered image b) effect
body_does image b addresses (Body.Voice id samples) effect placed form good known free has h =
    voice_does image b id samples addresses placed form (leb-true b.next id (shown (nat_le b.next id) known)) free.0 has ∙ ap (changed 2 (recovered image b)) (sym h)
body_does image b addresses (Body.Other change) effect placed form good known free has h =
    let kind = followed change good.0 in
    let made : kind.made ≡ h.0 = one_made change kind.made h.0 kind.is h.1 in
    other_does image b change form kind ∙ ap (λ e. changed 2 (recovered image b) (effect_by (filled image b) e)) made ∙ ap (changed 2 (recovered image b)) (sym h.2)
