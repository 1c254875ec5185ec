-- Which blocks go with ropes.
--     has_at block pieces pair      whether a rope that is live, or not, has a block
--     gone_has block ropes ids pair      whether one of the live ropes with these numbers has a block
--     freed has uses holder      what becomes of an address as ropes go that have these blocks
--     stretches_at block pieces      how many stretches a rope has that is live, or not
--     stretches_of block ropes ids      how many the live ropes with these numbers have
--     IsReleased old new held left ids      what stays and what goes as the ropes with these numbers go
--     without_all ids ropes      the ropes without those with these numbers
use Rattle.std.specs.Prelude.{◌≡◌, ◌≤◌, ℕ, ◌+◌, Bool, false, ◌&&◌, ◌||◌, cond, ◌==◌, List, [], ◌∷◌, length, Option, Some, None}
use Rattle.voice_units.specs.declared.Piece.{Piece}
use Rattle.voice_units.specs.Spots.{spots_of, stretches}
use Rattle.voice_units.specs.Blocks.{BlockPair, pairs_at, has_pair}
use Rattle.rope_table.specs.declared.Rope.{Rope}
use Rattle.rope_table.specs.Table.{Table, Counts, uses_at, pieces_at, pair_of, without_rope}
use Rattle.voice_blocks.specs.declared.Owner.{Owner}
use Rattle.voice_blocks.specs.declared.owner.Owner.TheVariants.{File, Taking}
use Rattle.voice_blocks.specs.declared.owner.Holder.{Holder}
use Rattle.voice_blocks.specs.Holders.{Holders, EachBecomes}

-- whether a rope that is live, or not, has a block
abbrev pub has_at : ℕ → Option (List Piece) → BlockPair → Bool
has_at block None pair = false
has_at block (Some ps) pair = has_pair (pairs_at block (spots_of ps)) pair

-- whether one of the live ropes with these numbers has a block
abbrev pub gone_has : ℕ → List Rope → List ℕ → BlockPair → Bool
gone_has block ropes [] pair = false
gone_has block ropes (id ∷ ids) pair = has_at block (pieces_at ropes id) pair || gone_has block (without_rope id ropes) ids pair

-- whether a block of an owner is one of a voice file that has gone, and has no use
abbrev pub goes : (BlockPair → Bool) → (BlockPair → ℕ) → Owner → ℕ → Bool
goes has uses (File file) index = has (pair_of file index) && (uses (pair_of file index) == 0)
goes has uses (Taking lane) index = false

-- what becomes of an address as ropes go that have these blocks: one that nothing uses any longer goes
abbrev pub freed : (BlockPair → Bool) → (BlockPair → ℕ) → Option Holder → Option Holder
freed has uses None = None
freed has uses (Some h) = cond (goes has uses h.owner h.index) None (Some h)

-- how many stretches a rope has that is live, or not
abbrev pub stretches_at : ℕ → Option (List Piece) → ℕ
stretches_at block None = 0
stretches_at block (Some ps) = length (stretches block (spots_of ps))

-- how many the live ropes with these numbers have
abbrev pub stretches_of : ℕ → List Rope → List ℕ → ℕ
stretches_of block ropes [] = 0
stretches_of block ropes (id ∷ ids) = stretches_at block (pieces_at ropes id) + stretches_of block (without_rope id ropes) ids

-- the ropes without those with these numbers
abbrev pub without_all : List ℕ → List Rope → List Rope
without_all [] ropes = ropes
without_all (id ∷ ids) ropes = without_all ids (without_rope id ropes)

-- what stays and what goes as the ropes with these numbers go
pub record IsReleased (old new : Table) (held left : Holders) (ids : List ℕ) : Type 0 where
  pub ropes : new.ropes ≡ without_all ids old.ropes
  pub block : new.block ≡ old.block
  pub fewer : (pair : BlockPair) → uses_at new pair ≤ uses_at old pair
  pub others : (pair : BlockPair) → gone_has old.block old.ropes ids pair ≡ false → uses_at new pair ≡ uses_at old pair
  pub counts : (passages : List (List Piece)) → Counts old passages → Counts new passages
  pub holders : EachBecomes (freed (gone_has old.block old.ropes ids) (uses_at new)) held left
