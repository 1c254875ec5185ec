-- How a change gets into the journal.
--     IsWay s effect way      it is refused, appended or written as a base just as the definitions say
use Rattle.std.specs.Prelude.{◌≡◌, ◌≢◌, ◌-◌, ◌≤◌, ◌<◌, ◌^◌, true, false}
use Rattle.voice_model.specs.Samples.{Tagged}
use Rattle.voice_model.specs.State.{State, Effect}
use Rattle.voice_model.specs.Changes.{frame_size, base_size, changed}
use Rattle.voice_model.specs.Step.{is_journal_full, journal_full}
use Rattle.voice_model.specs.declared.calls.Why.TheVariants.{JournalFull}
use Rattle.voice_store.specs.declared.ways.Way.{Way}
use Rattle.voice_store.specs.declared.ways.Way.TheVariants as ways

-- its record fits behind the others
pub record FitsBehind (s : State) (effect : Effect Tagged) : Type 0 where
  pub free : is_journal_full s effect ≡ false
  pub fits : frame_size s.form s.kept.shape.block effect ≤ s.left

-- it does not, but a base of the state after it fits an area
pub record FitsOther (s : State) (effect : Effect Tagged) : Type 0 where
  pub free : is_journal_full s effect ≡ false
  pub behind : s.left < frame_size s.form s.kept.shape.block effect
  pub epoch : s.epoch ≢ 2 ^ 48
  pub base : base_size s.form (changed s.form s.kept effect) ≤ s.kept.shape.area - 17

abbrev pub IsWay : State → Effect Tagged → Way → Type 0
IsWay s effect (ways.Full need left) = (is_journal_full s effect ≡ true) × (journal_full s effect ≡ JournalFull need left)
IsWay s effect ways.Append = FitsBehind s effect
IsWay s effect ways.Switch = FitsOther s effect
