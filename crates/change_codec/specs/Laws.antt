-- The laws of refused places, as statements.
--     PlacesAreExact      a place is refused exactly where no change is spelled
use Rattle.std.specs.Prelude.{◌≡◌, ℕ, true, List, Some, None}
use Rattle.std.specs.List.{list_all}
use Rattle.voice_model.specs.Spelling.{change_in, fits}
use Rattle.voice_model.specs.declared.changes.Change.{Change}
use Rattle.change_codec.specs.Refused.{refused}

pub record PlacesAreExact : Type 0 where
  -- where a change is spelled, nothing is refused
  pub taken : (bytes : List ℕ) (c : Change) → change_in bytes ≡ Some c → refused bytes ≡ None
  -- where something is refused, no change is spelled
  pub none : (bytes : List ℕ) (place : ℕ) → refused bytes ≡ Some place → change_in bytes ≡ None
  -- where bytes spell no change, there is a refused place
  pub found : (bytes : List ℕ) → list_all (fits 1) bytes ≡ true → change_in bytes ≡ None → (place : ℕ) × (refused bytes ≡ Some place)
