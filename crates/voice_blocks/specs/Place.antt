-- Where the blocks of a disk stand.
use Rattle.std.specs.Prelude.{ℕ, ◌+◌, ◌*◌}
use Rattle.voice_units.specs.declared.shapes.Shape.{Shape}

-- the byte of the disk at which a block begins: behind the superblock and the journal's two areas
abbrev pub block_place : Shape → ℕ → ℕ
block_place shape address = 64 + 2 * shape.area + address * shape.block
