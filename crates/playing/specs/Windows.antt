-- The windows of passages, as stretches and as parts of frames.
--     byte_in bytes block s      the byte at a place, by the bytes of its block
--     IsStretch block s      a stretch: it has samples, in one block
--     IsPartOf block resident s p      a part of a frame that has the samples of a stretch
use Rattle.std.specs.Prelude.{◌≡◌, ◌⊎◌, ℕ, ◌+◌, ◌/◌, ◌%◌, ◌≤◌, ◌<◌, true, false, List, [], ◌∷◌, map, slice_index, Option, Some}
use Rattle.voice_units.specs.declared.pieces.Piece.{Piece}
use Rattle.voice_units.specs.Spots.{Spot, spots_of, samples_in}
use Rattle.frame_pool.specs.declared.views.Part.{Part}
use Rattle.frame_pool.specs.declared.views.Stage.{Stage}
use Rattle.frame_pool.specs.declared.views.Stage.TheVariants.{Handed, Ended}
use Rattle.frame_pool.specs.Words.{total}
use Rattle.frame_pool.specs.Pool.{LeaseState, block_of}
use Rattle.playing.specs.declared.blocks.Block.{Block}
use Rattle.playing.specs.Frames.{FramesState, HoldsBytes, resident_at, block_at}

-- the byte at a place, by the bytes of its block
abbrev pub byte_in : (ℕ → ℕ → List ℕ) → ℕ → Spot → ℕ
byte_in bytes block s = slice_index (bytes s.file (s.place / block)) (s.place % block)

-- a stretch: it has samples, in one block
pub record IsStretch (block : ℕ) (s : Piece) : Type 0 where
  pub some : 0 < s.len
  pub inside : s.from % block + s.len ≤ block

-- each is a stretch
abbrev pub AreStretches : ℕ → List Piece → Type 0
AreStretches block [] = Unit {0}
AreStretches block (s ∷ ss) = IsStretch block s × AreStretches block ss

-- a part of a frame that has the samples of a stretch
pub record IsPartOf (block : ℕ) (resident : List (Option Block)) (s : Piece) (p : Part) : Type 0 where
  pub held : resident_at resident p.frame ≡ Some (block_at block s)
  pub from : p.from ≡ s.from % block
  pub len : p.len ≡ s.len

-- the parts have the samples of the stretches, one for each
abbrev pub ArePartsOf : ℕ → List (Option Block) → List Piece → List Part → Type 0
ArePartsOf block resident [] [] = Unit {0}
ArePartsOf block resident (s ∷ ss) (p ∷ ps) = IsPartOf block resident s p × ArePartsOf block resident ss ps
ArePartsOf block resident [] (p ∷ ps) = ⊥
ArePartsOf block resident (s ∷ ss) [] = ⊥

-- a lease was handed out that has so many samples
abbrev pub IsOut : ℕ → Stage → Type 0
IsOut n stage = ((ps : List Part) × (stage ≡ Handed ps) × (total ps ≡ n)) ⊎ (stage ≡ Ended n)

-- a live lease of the samples of a window, which was not hinted yet
pub record IsLeaseOf (s : FramesState) (lane : ℕ) (window : List Piece) (lease : LeaseState) : Type 0 where
  pub pool : lease.pool ≡ s.keeper.pool
  pub on : lease.lane ≡ lane
  pub len : lease.len ≡ samples_in window
  pub live : lease.live ≡ true
  pub fresh : lease.taken ≡ false
  pub unhinted : lease.hinted ≡ false
  pub samples : (bytes : ℕ → ℕ → List ℕ) → HoldsBytes bytes s → lease.samples ≡ map (byte_in bytes (block_of s.keeper)) (spots_of window)
