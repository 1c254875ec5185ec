-- What stands beside the tables of a mirror, and addresses that are free.
--     IsSame parts tables      the tables show what the parts show
--     IsBehind shape parts tables change      the tables show what the parts showed before this change
--     IsBeside shape parts beside      what stands beside the parts
--     AreFree b n addresses      so many addresses, each once, that no block in use has
use Rattle.std.specs.Prelude.{◌≡◌, ℕ, true, List, length, is_some}
use Rattle.std.specs.List.{list_all}
use Rattle.voice_units.specs.declared.shapes.Shape.{Shape}
use Rattle.voice_model.specs.Spelling.{keeps_grammar}
use Rattle.voice_model.specs.Replay.{Rebuilt, is_legal, acted, brings, all_differ, is_free_address}
use Rattle.voice_model.specs.declared.changes.Change.{Change}
use Rattle.recovery.specs.Shown.{Rebuilds}
use Rattle.recovery.specs.declared.parts.Parts.{Parts}
use Rattle.mirror_tables.specs.declared.beside.Beside.{Beside}
use Rattle.mirror_tables.specs.declared.beside.Beside.TheVariants.{Nothing, Same, Behind}

-- the tables show what the parts show
abbrev pub IsSame : Parts → Parts → Type 0
IsSame parts tables = (b : Rebuilt) → Rebuilds parts b → Rebuilds tables b

-- the tables show what the parts showed before this change
pub record IsBehind (shape : Shape) (parts tables : Parts) (change : Change) : Type 0 where
  pub was : Rebuilt
  pub shows : Rebuilds tables was
  pub in_shape : was.shape ≡ shape
  pub grammar : keeps_grammar change ≡ true
  pub kind : is_some (brings change) ≡ true
  pub legal : is_legal was change ≡ true
  pub acted : Rebuilds parts (acted was change)

-- what stands beside the parts
abbrev pub IsBeside : Shape → Parts → Beside → Type 0
IsBeside shape parts Nothing = Unit {0}
IsBeside shape parts (Same tables) = IsSame parts tables
IsBeside shape parts (Behind tables change) = IsBehind shape parts tables change

-- so many addresses, each once, that no block in use has
pub record AreFree (b : Rebuilt) (n : ℕ) (addresses : List ℕ) : Type 0 where
  pub count : length addresses ≡ n
  pub differ : all_differ addresses ≡ true
  pub free : list_all (is_free_address b) addresses ≡ true
