-- What becomes of the blocks that frames hold.
--     IsReplaced old new f      a block came into this frame that no frame held before
--     Left uses old new f d      a block that a frame held is there still, or another came in its place that no frame held, or nothing uses it
--     MovesBlocks uses block window old new      blocks of a window came, and those went in whose place one came, or that nothing uses
use Rattle.std.specs.Prelude.{◌≡◌, ◌⊎◌, ℕ, true, false, List, Option, Some}
use Rattle.std.specs.List.{list_any}
use Rattle.voice_units.specs.declared.pieces.Piece.{Piece}
use Rattle.playing.specs.declared.blocks.Block.{Block}
use Rattle.playing.specs.Frames.{resident_at, is_resident, is_in}

-- a block came into this frame that no frame held before
abbrev pub IsReplaced : List (Option Block) → List (Option Block) → ℕ → Type 0
IsReplaced old new f = (e : Block) × (resident_at new f ≡ Some e) × (is_resident old e.file e.index ≡ false)

-- a block that a frame held is there still, or another came in its place that no frame held, or nothing uses it
abbrev pub Left : (ℕ → ℕ → ℕ) → List (Option Block) → List (Option Block) → ℕ → Block → Type 0
Left uses old new f d = (resident_at new f ≡ Some d) ⊎ (IsReplaced old new f ⊎ (uses d.file d.index ≡ 0))

-- blocks of a window came, and those went in whose place one came, or that nothing uses
pub record MovesBlocks (uses : ℕ → ℕ → ℕ) (block : ℕ) (window : List Piece) (old new : List (Option Block)) : Type 0 where
  pub came : (f : ℕ) (d : Block) → resident_at new f ≡ Some d → (resident_at old f ≡ Some d) ⊎ (list_any (is_in block d) window ≡ true)
  pub left : (f : ℕ) (d : Block) → resident_at old f ≡ Some d → Left uses old new f d
