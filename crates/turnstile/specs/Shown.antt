-- What contracts see of a turnstile and of a pass.
use Rattle.std.specs.Prelude.{ℕ, List, Bool, Option}
use Rattle.std.specs.declared.snapshot.Snapshot.{Snapshot}
use Rattle.atomic_table.specs.Seated.{TableId}
use Rattle.voice_model.specs.declared.calls.Entry.{Entry}

-- which turnstile: its table, and the value as it was made with it
pub record Identity (T : Type 0) : Type 0 where
  pub table : TableId
  pub start : Option (Snapshot T)

-- contracts have from the value that it was made with the origin of all its values, and the history at the start
pub record ShownTurnstile (T : Type 0) : Type 0 where
  pub identity : Identity T
  pub made_with : T
  pub callers : ℕ

-- of is its turnstile, seen the history that it has seen, mine its caller's entries since the start, and entered whether its caller has the value
pub record ShownPass (T : Type 0) : Type 0 where
  pub of : Identity T
  pub caller : ℕ
  pub seen : List Entry
  pub mine : List Entry
  pub entered : Bool
