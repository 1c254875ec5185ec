-- A script as contracts see it.
use Rattle.std.specs.Prelude.{ℕ, List}
use Rattle.script_lang.specs.declared.scripts.Line.{Line}

-- a script, or the front of one
pub record Reading : Type 0 where
  pub lines : List Line
  pub samples : List (List ℕ)
  pub callers : ℕ
