-- An image in doubt.
use Rattle.std.proofs.Common.{◌⊎◌, inl, inr, ℕ, List, get_or, Bool}
use Rattle.std.proofs.lemmas.Bool.{cases_eq}
use Rattle.disk_areas.specs.Areas.{Journal}
use Rattle.voice_journal.specs.Readings.{Reads, IsPending}
use Rattle.voice_journal.proofs.Segments.{agrees_refl}

pub pending_reads : (place : ℕ) (old new : Journal) (is_closed : Bool) (image : List ℕ) → IsPending place old new is_closed image → Reads image old ⊎ Reads image new
pending_reads place old new is_closed image is =
    elim (cases_eq (get_or image place 0) 1) [
      | inl one ↦ inr (is.landed image (agrees_refl place 1 image) one).0
      | inr shut ↦ inl (is.shut image (agrees_refl place 1 image) shut)
    ]
