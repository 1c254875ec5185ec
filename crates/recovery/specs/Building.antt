-- What the tables show while a list of changes is replayed.
--     phase_of stage      the stage of the program, as a phase
--     block_in file pair      a block of a file, as the program notes it
--     is_noted noted pair      whether a block is one of those that a base's files brought
--     is_known noted d pair      whether a block is one of those, or in use
--     Builds building r      the tables show what was rebuilt so far; blocks that nothing uses are noted
--     IsBuilding shape building      the tables are as replay by this shape leaves them
--     IsBuilt building      the tables are as some replay leaves them
--     is_allowed r change      whether there is a change, and it may follow
--     IsTaken new r bytes      bytes spell a change that may follow, and it has acted
use Rattle.std.specs.Prelude.{◌≡◌, ℕ, ◌≤◌, true, Bool, false, ◌||◌, nat_lt, List, [], Option, Some, None}
use Rattle.std.specs.List.{list_any, list_all}
use Rattle.voice_units.specs.declared.shapes.Shape.{Shape}
use Rattle.voice_units.specs.Spots.{Spot}
use Rattle.voice_units.specs.Blocks.{BlockPair, has_pair, same_pair}
use Rattle.voice_model.specs.State.{Durable}
use Rattle.voice_model.specs.Replay.{Rebuilt, Phase, used_pairs, takes_files, is_legal, acted}
use Rattle.voice_model.specs.Spelling.{change_in}
use Rattle.voice_model.specs.declared.changes.Change.{Change}
use Rattle.voice_model.specs.declared.lists.Pair.{Pair}
use Rattle.voice_model.specs.Places.{IsPlaced}
use Rattle.voice_model.specs.Valid.{Every, IsRebuilt}
use Rattle.rope_table.specs.Table.{pair_of}
use Rattle.recovery.specs.declared.building.Stage.{Stage}
use Rattle.recovery.specs.declared.building.Stage.TheVariants as stages
use Rattle.recovery.specs.declared.building.Block.{Block}
use Rattle.recovery.specs.declared.building.Building.{Building}
use Rattle.recovery.specs.Shown.{Shows, ShowsPlaces, plain_sample}

-- the stage of the program, as a phase
abbrev pub phase_of : Stage → Phase
phase_of stages.Begun = Phase.Begun
phase_of stages.Files = Phase.Files
phase_of stages.Ropes = Phase.Ropes
phase_of stages.Later = Phase.Later

-- a block of a file, as the program notes it
abbrev pub block_in : ℕ → Pair → Block
block_in file pair = record { file = file; index = pair.index }

-- whether a block is one of those that a base's files brought
abbrev pub is_noted : List Block → BlockPair → Bool
is_noted noted pair = list_any (λ block. same_pair (pair_of block.file block.index) pair) noted

-- whether a block is one of those, or in use
abbrev pub is_known : List Block → Durable Spot → BlockPair → Bool
is_known noted d pair = has_pair (used_pairs d) pair || is_noted noted pair

-- the tables show what was rebuilt so far; blocks that nothing uses are noted
pub record Builds (building : Building) (r : Rebuilt) : Type 0 where
  pub kept : Shows [] building.parts r.kept
  pub places : ShowsPlaces building.parts.blocks.holders r.shape.blocks r.places
  pub in_form : building.parts.form ≡ r.form
  pub valid : IsRebuilt plain_sample r
  pub placed : IsPlaced r
  pub stage : phase_of building.stage ≡ r.phase
  pub files : takes_files r.phase ≡ true → (file : ℕ) → 1 ≤ file → list_all (λ place. nat_lt place.pair.file file) r.places ≡ nat_lt building.last_file file
  pub known : Every (λ place. is_known building.noted.items r.kept place.pair ≡ true) r.places

-- the tables are as replay by this shape leaves them
pub record IsBuilding (shape : Shape) (building : Building) : Type 0 where
  pub what : Rebuilt
  pub builds : Builds building what
  pub in_shape : what.shape ≡ shape

-- the tables are as some replay leaves them
abbrev pub IsBuilt : Building → Type 0
IsBuilt building = (r : Rebuilt) × Builds building r

-- whether there is a change, and it may follow
abbrev pub is_allowed : Rebuilt → Option Change → Bool
is_allowed r None = false
is_allowed r (Some change) = is_legal r change

-- bytes spell a change that may follow, and it has acted
pub record IsTaken (new : Building) (r : Rebuilt) (bytes : List ℕ) : Type 0 where
  pub change : Change
  pub spelled : change_in bytes ≡ Some change
  pub legal : is_legal r change ≡ true
  pub builds : Builds new (acted r change)
