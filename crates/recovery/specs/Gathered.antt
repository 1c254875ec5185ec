-- Rows that were gathered, and are to go.
--     rows_noted counts id      how many rows of a rope were counted
--     Gone      the ropes and the keys of gathered rows
--     AreGoing class keys rows going      just the ropes and the keys of the rows of a class with these keys were gathered
use Rattle.std.specs.Prelude.{◌≡◌, ℕ, List, filter, bytes_eq, nat_eq, unwrap_or}
use Rattle.std.specs.HashMap.{HashMap, get}
use Rattle.std.specs.List.{list_any}
use Rattle.voice_model.specs.State.{has_row, among}
use Rattle.voice_model.specs.declared.calls.Row.{Row}
use Rattle.voice_model.specs.declared.calls.Class.{Class}
use Rattle.interest_table.specs.Table.{is_named}

-- how many rows of a rope were counted
abbrev pub rows_noted : {H : Type 0} → HashMap ℕ ℕ H → ℕ → ℕ
rows_noted counts id = unwrap_or (get nat_eq counts id) 0

-- the ropes and the keys of gathered rows
pub record Gone : Type 0 where
  pub ropes : List ℕ
  pub keys : List (List ℕ)

-- just the ropes and the keys of the rows of a class with these keys were gathered
pub record AreGoing (class : Class) (keys : List (List ℕ)) (rows : List Row) (going : Gone) : Type 0 where
  pub ropes : (id : ℕ) → among going.ropes id ≡ has_row (filter (is_named class keys) rows) id
  pub keys_are : (key : List ℕ) → list_any (bytes_eq key) going.keys ≡ list_any (bytes_eq key) keys
