-- The laws of the crates below, which the laws of this crate rest on.
--     MirrorFoundations      all of them
use Rattle.mirror_readings.specs.Laws.{MirrorOpens, MirrorRebuildsValid, MirrorRebuildsMore, MirrorRebuildsBase}
use Rattle.crash_laws.specs.Foundations.{Foundations}

-- what readings of a mirror's disk mean; and how images fill, and what is known of a journal's images
pub record MirrorFoundations : Type 0 where
  pub opens : MirrorOpens
  pub valid : MirrorRebuildsValid
  pub more : MirrorRebuildsMore
  pub base : MirrorRebuildsBase
  pub below : Foundations
