-- What a copy of the tables keeps.
--     IsAlike old new      the same ropes, uses of blocks, rows, addresses of blocks, moment, next number and form
use Rattle.std.specs.Prelude.{◌≡◌}
use Rattle.voice_units.specs.Blocks.{BlockPair}
use Rattle.rope_table.specs.Table.{uses_at}
use Rattle.recovery.specs.declared.parts.Parts.{Parts}

-- the same ropes, uses of blocks, rows, addresses of blocks, moment, next number and form
pub record IsAlike (old new : Parts) : Type 0 where
  pub ropes : new.ropes.ropes ≡ old.ropes.ropes
  pub block : new.ropes.block ≡ old.ropes.block
  pub uses : (pair : BlockPair) → uses_at new.ropes pair ≡ uses_at old.ropes pair
  pub rows : new.interests.rows ≡ old.interests.rows
  pub holders : new.blocks.holders ≡ old.blocks.holders
  pub moment : new.moment ≡ old.moment
  pub next : new.next ≡ old.next
  pub form : new.form ≡ old.form
