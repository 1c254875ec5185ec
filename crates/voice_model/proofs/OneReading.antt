-- An image reads in one way.
use Rattle.std.proofs.Common.{◌≡◌, ℕ, ◌-◌, List, Some, None, sym, ◌∙◌, ap}
use Rattle.voice_model.specs.State.{State, opened}
use Rattle.voice_model.specs.Replay.{Rebuilt, recovered}
use Rattle.disk_areas.specs.Areas.{Journal}
use Rattle.voice_model.specs.Image.{Reading, reading, opened_by, opened_from, recovered_by, recovered_from}

some_same : (s t : State) → Some s ≡ Some t → s ≡ t
some_same s t e = cc

pub one_opened : (image : List ℕ) (s t : State) → opened_from image ≡ Some s → opened_from image ≡ Some t → s ≡ t
one_opened image s t h k = some_same s t (sym h ∙ k)

pub opens_as : (image : List ℕ) (journal : Journal) (r : Rebuilt) → reading image ≡ Reading.Reads journal r → opened_from image ≡ Some (opened (recovered image r) (journal.shape.area - 1 - journal.gate) journal.epoch r.form)
opens_as image journal r h = ap (opened_by image) h

pub recovers_as : (image : List ℕ) (journal : Journal) (r : Rebuilt) → reading image ≡ Reading.Reads journal r → recovered_from image ≡ Some (recovered image r)
recovers_as image journal r h = ap (recovered_by image) h

not_both : (journal : Journal) (r : Rebuilt) (place : ℕ) → Reading.Reads journal r ≡ Reading.Bad place → ⊥
not_both journal r place e = cc

pub no_damage : (image : List ℕ) (journal : Journal) (r : Rebuilt) (place : ℕ) → reading image ≡ Reading.Reads journal r → ¬ (reading image ≡ Reading.Bad place)
no_damage image journal r place h = λ k. not_both journal r place (sym h ∙ k)

place_same : (p q : ℕ) → Reading.Bad p ≡ Reading.Bad q → p ≡ q
place_same p q e = cc

pub one_place : (image : List ℕ) (p q : ℕ) → reading image ≡ Reading.Bad p → reading image ≡ Reading.Bad q → p ≡ q
one_place image p q h k = place_same p q (sym h ∙ k)

pub opens_not : (image : List ℕ) (place : ℕ) → reading image ≡ Reading.Bad place → opened_from image ≡ None
opens_not image place h = ap (opened_by image) h
