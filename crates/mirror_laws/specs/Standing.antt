-- When a mirror's disk stands for the changes that the mirror took.
--     Took, taken_at effect ack      a change that was taken, and when
--     kept_after d effects      the durable part after changes, one after another
--     effects_of taken, with_doubt doubt taken      the changes that were taken;  and behind them the one in doubt
--     moment_of t0 taken k      the moment at which change k was answered, and t0 for k = 0
--     mirrored_after first from effects j      what a mirror has after the first j changes
--     HeldBy      each image that may be left after change k is that of the first j changes, for some j of at least k
--     Gives disk r b n kept      the numbered records of r rebuild b, which each image of now fills to what is kept
--     StandsSure, StandsUnsure      nothing is in doubt;  a crash leaves what was before a change, or what is after it
--     StandsBy doubt      the one or the other, by what is in doubt
--     ArePast t0 taken disk      the moments of the changes lie in the disk's past
--     IsHeld first from t0 journal disk b after taken doubt      the disk stands for the changes, and what a crash leaves was held
--     IsSound journal bytes b kept      b keeps what replay keeps, and these bytes fill it to what is kept
use Rattle.std.specs.Prelude.{◌≡◌, ℕ, zero, suc, ◌+◌, ◌≤◌, List, [], ◌∷◌, ◌++◌, map, length, take, Option, Some, None}
use Rattle.voice_outside.specs.Disk.{Told, Now}
use Rattle.disk_areas.specs.Areas.{Journal}
use Rattle.voice_journal.specs.Places.{JournalValue}
use Rattle.voice_journal.specs.Stands.{Stands, StandsInDoubt}
use Rattle.voice_model.specs.Samples.{Tagged}
use Rattle.voice_model.specs.State.{Durable, Effect}
use Rattle.voice_model.specs.Changes.{changed}
use Rattle.voice_model.specs.Replay.{Rebuilt, recovered}
use Rattle.voice_model.specs.Valid.{IsRebuilt}
use Rattle.voice_model.specs.Places.{IsPlaced, AllUsed}
use Rattle.recovery.specs.Shown.{plain_sample}
use Rattle.mirror_readings.specs.Readings.{NumberedRebuild, Mirrored, mirrored_from}

-- ---- what a mirror took

-- a change that was taken, and how many calls of the disk had been made when that was answered
pub record Took : Type 0 where
  pub effect : Effect Tagged
  pub ack : ℕ

abbrev pub taken_at : Effect Tagged → ℕ → Took
taken_at effect ack = record { effect = effect; ack = ack }

-- the durable part after changes, one after another, in areas of form 2
abbrev pub kept_after : Durable Tagged → List (Effect Tagged) → Durable Tagged
kept_after d [] = d
kept_after d (effect ∷ effects) = kept_after (changed 2 d effect) effects

-- the changes that were taken
abbrev pub effects_of : List Took → List (Effect Tagged)
effects_of taken = map (λ (one : Took). one.effect) taken

-- and behind them the one in doubt, if there is one
abbrev pub with_doubt : Option (Effect Tagged) → List Took → List (Effect Tagged)
with_doubt None taken = effects_of taken
with_doubt (Some effect) taken = effects_of taken ++ effect ∷ []

-- the moment at which change k was answered
abbrev pub moment_of : ℕ → List Took → ℕ → ℕ
moment_of t0 taken zero = t0
moment_of t0 [] (suc k) = t0
moment_of t0 (one ∷ taken) (suc k) = moment_of one.ack taken k

-- what a mirror that began with `first` at position `from` has after the first j changes
abbrev pub mirrored_after : Durable Tagged → ℕ → List (Effect Tagged) → ℕ → Mirrored
mirrored_after first from effects j = record { kept = kept_after first (take j effects); position = from + j }

-- each image that may be left after change k was taken is that of the first j changes, for some j of at least k: byte for byte, and its position tells j
pub record HeldBy (may_leave : ℕ → List ℕ → Type 0) (first : Durable Tagged) (from t0 : ℕ) (taken : List Took) (doubt : Option (Effect Tagged)) : Type 0 where
  pub each :
      (k : ℕ) (image : List ℕ) → k ≤ length taken → may_leave (moment_of t0 taken k) image
      → (j : ℕ) × (k ≤ j) × (j ≤ length (with_doubt doubt taken)) × (mirrored_from image ≡ Some (mirrored_after first from (with_doubt doubt taken) j))

-- ---- the disk

-- the numbered records of r rebuild b at position n, and each image that a crash may leave now fills b to what is kept
pub record Gives (disk : Told) (r : Journal) (b : Rebuilt) (n : ℕ) (kept : Durable Tagged) : Type 0 where
  pub rebuilds : NumberedRebuild r b n
  pub version : r.shape.version ≡ 2
  pub form : b.form ≡ 2
  pub fills : Now disk (λ image. recovered image b ≡ kept)

-- nothing is in doubt
pub record StandsSure (journal : JournalValue) (disk : Told) (b : Rebuilt) (n : ℕ) (kept : Durable Tagged) : Type 0 where
  pub reading : Journal
  pub stands : Stands journal disk reading
  pub gives : Gives disk reading b n kept

-- a change is in doubt: a crash leaves what was before it, or what is after it under the next number
pub record StandsUnsure (journal : JournalValue) (disk : Told) (b after : Rebuilt) (n : ℕ) (kept : Durable Tagged) (effect : Effect Tagged) : Type 0 where
  pub old : Journal
  pub new : Journal
  pub stands : StandsInDoubt journal disk old new
  pub before : Gives disk old b n kept
  pub landing : Gives disk new after (n + 1) (changed 2 kept effect)

-- b is what the current records rebuild, `after` what they rebuild once what is in doubt has landed
abbrev pub StandsBy : Option (Effect Tagged) → JournalValue → Told → Rebuilt → Rebuilt → ℕ → Durable Tagged → Type 0
StandsBy None journal disk b after n kept = StandsSure journal disk b n kept
StandsBy (Some effect) journal disk b after n kept = StandsUnsure journal disk b after n kept effect

-- the moments of the changes lie in the disk's past
abbrev pub ArePast : ℕ → List Took → Told → Type 0
ArePast t0 taken disk = (k : ℕ) → k ≤ length taken → moment_of t0 taken k ≤ disk.calls

-- what holds on an honest disk after each call: the disk stands for what is kept after the changes that were taken, and what a crash may have left since a change was taken has it
pub record IsHeld (first : Durable Tagged) (from t0 : ℕ) (journal : JournalValue) (disk : Told) (b after : Rebuilt) (taken : List Took) (doubt : Option (Effect Tagged)) : Type 0 where
  pub stands : StandsBy doubt journal disk b after (from + length taken) (kept_after first (effects_of taken))
  pub held : HeldBy disk.may_leave first from t0 taken doubt
  pub past : ArePast t0 taken disk

-- b keeps what replay keeps, in the shape of the journal and in form 2, and these bytes fill it to what is kept
pub record IsSound (journal : JournalValue) (bytes : List ℕ) (b : Rebuilt) (kept : Durable Tagged) : Type 0 where
  pub valid : IsRebuilt plain_sample b
  pub placed : IsPlaced b
  pub used : AllUsed b
  pub in_shape : b.shape ≡ journal.shape
  pub form : b.form ≡ 2
  pub fills : recovered bytes b ≡ kept
