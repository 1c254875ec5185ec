-- The bytes that spell a change, wherever they stand.
--     Bytes      the bytes, as a list
--     bytes_kept kept      the bytes that are kept in memory or in place
use Rattle.std.specs.Prelude.{ℕ, List}
use Rattle.ready_changes.specs.declared.payloads.Kept.{Kept}
use Rattle.ready_changes.specs.declared.payloads.Kept.TheVariants.{Long, Short}

-- the bytes, as a list
pub record Bytes : Type 0 where
  pub items : List ℕ

-- the bytes that are kept in memory or in place
abbrev pub bytes_kept : Kept → List ℕ
bytes_kept (Long bytes) = bytes.items
bytes_kept (Short bytes) = bytes.items
