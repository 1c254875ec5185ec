-- The laws of the crates below, which the laws of this crate rest on.
--     Foundations      all of them
use Rattle.voice_journal.specs.Laws.{BlocksLieApart, DoubtReads}
use Rattle.journal_readings.specs.Laws.{Opens, RebuildsValid, RebuildsMore, RebuildsBase}
use Rattle.fillings.specs.Laws.{FillsAlike}

-- what readings mean, how images fill, and what is known of a journal's images
pub record Foundations : Type 0 where
  pub opens : Opens
  pub valid : RebuildsValid
  pub more : RebuildsMore
  pub base : RebuildsBase
  pub alike : FillsAlike
  pub apart : BlocksLieApart
  pub either : DoubtReads
