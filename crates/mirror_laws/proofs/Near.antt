-- How images of one moment fill as those of an earlier one.
use Rattle.std.proofs.Common.{◌≡◌, ℕ, List, Some, ◌∙◌, ap, subst}
use Rattle.voice_outside.specs.Disk.{Told, Leaves}
use Rattle.disk_areas.specs.Areas.{Journal}
use Rattle.voice_journal.specs.Readings.{Reads, NearOld}
use Rattle.voice_model.specs.Samples.{Tagged}
use Rattle.voice_model.specs.State.{Durable}
use Rattle.voice_model.specs.Replay.{Rebuilt, recovered}
use Rattle.mirror_readings.specs.Readings.{NumberedRebuild}
use Rattle.crash_laws.specs.Standing.{IsLater}
use Rattle.crash_laws.proofs.Near.{fills_near, fills_moved}
use Rattle.mirror_laws.specs.Standing.{Gives}
use Rattle.mirror_laws.specs.Foundations.{MirrorFoundations}
use Rattle.mirror_laws.proofs.Histories.{mirrored, IsMirrored}

-- the same, by another count of the changes
pub gives_at : (disk : Told) (r : Journal) (b : Rebuilt) (m n : ℕ) (c d : Durable Tagged) → m ≡ n → c ≡ d → Gives disk r b m c → Gives disk r b n d
gives_at disk r b m n c d number kept gives = subst (λ (k : ℕ). Gives disk r b k d) number (subst (λ (x : Durable Tagged). Gives disk r b m x) kept gives)

module _ (laws : MirrorFoundations) where
  pub shape_is : (r : Journal) (b : Rebuilt) (n : ℕ) → NumberedRebuild r b n → b.shape ≡ r.shape
  shape_is r b n rebuilds = (laws.valid.valid r b n rebuilds).3

  -- an image that reads so is what it fills
  pub means : (image : List ℕ) (r : Journal) (b : Rebuilt) (n : ℕ) (d : Durable Tagged) → Reads image r → r.shape.version ≡ 2 → NumberedRebuild r b n → recovered image b ≡ d → IsMirrored image d n
  means image r b n d reads version rebuilds fills = laws.opens.opened image r b n reads version rebuilds ∙ ap (λ (x : Durable Tagged). Some (mirrored x n)) fills

  module _ (old new : Told) (is : IsLater old new) (r : Journal) (b : Rebuilt) (n : ℕ) (d : Durable Tagged) (gives : Gives old r b n d) where
    pub gives_moved : (P : List ℕ → Type 0) → Leaves old new P → ((image : List ℕ) → P image → NearOld r.shape old image) → Gives new r b n d
    gives_moved P leaves torn = record {
      rebuilds = gives.rebuilds;
      version = gives.version;
      form = gives.form;
      fills = fills_moved laws.below old new is r.shape b d (shape_is r b n gives.rebuilds) P leaves torn gives.fills;
    }

    pub means_near : (image : List ℕ) → Reads image r → NearOld r.shape old image → IsMirrored image d n
    means_near image reads torn = means image r b n d reads gives.version gives.rebuilds (fills_near laws.below old new is r.shape b d (shape_is r b n gives.rebuilds) gives.fills image torn)
