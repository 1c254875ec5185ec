-- How images of one moment fill as those of an earlier one.
use Rattle.std.proofs.Common.{◌≡◌, ◌⊎◌, inl, inr, ⊎_elim, ℕ, ◌*◌, List, Some, sym, ◌∙◌, ap, subst, arith}
use Rattle.voice_units.specs.declared.shapes.Shape.{Shape}
use Rattle.voice_outside.specs.Disk.{Told, Now, Leaves, AgreesOutside}
use Rattle.disk_areas.specs.Areas.{Journal}
use Rattle.voice_journal.specs.Readings.{Reads, SameElsewhere, NearOld, Within}
use Rattle.voice_model.specs.Samples.{Tagged}
use Rattle.voice_model.specs.State.{State, Durable}
use Rattle.voice_model.specs.Replay.{Rebuilt, recovered}
use Rattle.journal_readings.specs.Readings.{Rebuild}
use Rattle.crash_laws.specs.Standing.{IsLater, Gives}
use Rattle.crash_laws.specs.Foundations.{Foundations}
use Rattle.crash_laws.proofs.Histories.{Recovers}

-- the same records give another state that keeps the same
pub gives_as : (disk : Told) (r : Journal) (b : Rebuilt) (s t : State) → t.kept ≡ s.kept → t.form ≡ s.form → Gives disk r b s → Gives disk r b t
gives_as disk r b s t kept form gives = record { rebuilds = gives.rebuilds; form = gives.form ∙ sym form; fills = λ image left. gives.fills image left ∙ sym kept }

module _ (laws : Foundations) where
  -- an image that agrees with another behind the areas is filled as that one
  pub near : (shape : Shape) (b : Rebuilt) (from image : List ℕ) → b.shape ≡ shape → SameElsewhere shape from image → recovered image b ≡ recovered from b
  near shape b from image in_shape same = laws.alike.areas b from image (subst (λ (x : Shape). AgreesOutside 64 (2 * x.area) from image) (sym in_shape) same)

  pub shape_is : (r : Journal) (b : Rebuilt) → Rebuild r b → b.shape ≡ r.shape
  shape_is r b rebuilds = (laws.valid.valid r b rebuilds).3

  -- an image that reads so is recovered as it is filled
  pub recovers : (image : List ℕ) (r : Journal) (b : Rebuilt) (d : Durable Tagged) → Reads image r → Rebuild r b → recovered image b ≡ d → Recovers image d
  recovers image r b d reads rebuilds fills = laws.opens.recovers image r b reads rebuilds ∙ ap Some fills

  module _ (old new : Told) (is : IsLater old new) where
    -- what may be left now might have been left before, or is gained
    pub now_gained : (P : List ℕ → Type 0) → Leaves old new P → (image : List ℕ) → new.may_leave new.calls image → old.may_leave old.calls image ⊎ P image
    now_gained P leaves image left = leaves old.calls image (omega arith) (is.is.since old.calls new.calls image is.later left)

    module _ (shape : Shape) (b : Rebuilt) (d : Durable Tagged) (in_shape : b.shape ≡ shape) where
      pub fills_near : Now old (λ image. recovered image b ≡ d) → (image : List ℕ) → NearOld shape old image → recovered image b ≡ d
      fills_near fills image torn = near shape b torn.0 image in_shape torn.2 ∙ fills torn.0 torn.1

      pub fills_moved : (P : List ℕ → Type 0) → Leaves old new P → ((image : List ℕ) → P image → NearOld shape old image) → Now old (λ image. recovered image b ≡ d) → Now new (λ image. recovered image b ≡ d)
      fills_moved P leaves torn fills image left = ⊎_elim (λ was. fills image was) (λ gained. fills_near fills image (torn image gained)) (now_gained P leaves image left)

      pub fills_same : recovered old.bytes b ≡ d → (image : List ℕ) → SameElsewhere shape old.bytes image → recovered image b ≡ d
      fills_same fills image same = near shape b old.bytes image in_shape same ∙ fills

    pub gives_moved : (r : Journal) (b : Rebuilt) (s : State) → Gives old r b s → (P : List ℕ → Type 0) → Leaves old new P → ((image : List ℕ) → P image → NearOld r.shape old image) → Gives new r b s
    gives_moved r b s gives P leaves torn = record {
      rebuilds = gives.rebuilds;
      form = gives.form;
      fills = fills_moved r.shape b s.kept (shape_is r b gives.rebuilds) P leaves torn gives.fills;
    }

    pub recovers_near : (r : Journal) (b : Rebuilt) (s : State) → Gives old r b s → (image : List ℕ) → Reads image r → NearOld r.shape old image → Recovers image s.kept
    recovers_near r b s gives image reads torn = recovers image r b s.kept reads gives.rebuilds (fills_near r.shape b s.kept (shape_is r b gives.rebuilds) gives.fills image torn)

    -- an image within a change agrees behind the areas with one that might have been left before
    pub within_near : (r s : Journal) (image : List ℕ) → Within r s old image → NearOld r.shape old image
    within_near r s image (inl without) = without.1
    within_near r s image (inr landed) = (old.bytes, is.was.present, landed.1)
