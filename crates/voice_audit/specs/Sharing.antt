-- The blocks that more than one live rope uses, as the program goes over them.
--     name_of pair, pair_named name, name_eq      a block as the program names it, and back;  the program's own test
--     is_noted names pair      whether a block is noted
--     is_shared table pair      whether more than one use is counted of a block
--     shared_in table      how many blocks of live ropes that are
use Rattle.std.specs.Prelude.{ℕ, Bool, nat_le, filter, length}
use Rattle.std.specs.HashSet.{HashSet, contains}
use Rattle.voice_units.specs.Blocks.{BlockPair, pairs_at, distinct}
use Rattle.rope_table.specs.Table.{Table, uses_at}
use Rattle.checkpoint.specs.Blocks.{spots_in_ropes}
use Rattle.voice_audit.specs.declared.sharing.BlockName.{BlockName}
use Rattle.voice_audit.specs.contracts.sharing.BlockNamePartialEq.TheImpl as name_impl

-- a block as the program names it
abbrev pub name_of : BlockPair → BlockName
name_of pair = record { file = pair.file; index = pair.index }

-- and back
abbrev pub pair_named : BlockName → BlockPair
pair_named name = record { file = name.file; index = name.index }

-- the program's own test of blocks
abbrev pub name_eq : BlockName → BlockName → Bool
name_eq = (name_impl.ghosts).eq

-- whether a block is noted
abbrev pub is_noted : {S : Type 0} → HashSet BlockName S → BlockPair → Bool
is_noted names pair = contains name_eq names (name_of pair)

-- whether more than one use is counted of a block
abbrev pub is_shared : Table → BlockPair → Bool
is_shared table pair = nat_le 2 (uses_at table pair)

-- how many blocks of live ropes that are
abbrev pub shared_in : Table → ℕ
shared_in table = length (distinct (filter (is_shared table) (pairs_at table.block (spots_in_ropes table.ropes))))
