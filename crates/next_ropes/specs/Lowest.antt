-- The addresses that a recording takes.
--     lowest_from at n holders      the n lowest free addresses of holders, where the first one stands at `at`
--     lowest_open n holders      the n lowest free addresses, rising
--     AreAt holders file index addresses      the blocks of a file from an index on have these addresses
--     AreAddresses holders file count addresses      so many blocks of a file have these addresses
use Rattle.std.specs.Prelude.{◌≡◌, ℕ, zero, suc, ◌+◌, List, [], ◌∷◌, length, Some, None}
use Rattle.voice_blocks.specs.Holders.{Holders, holder_at, block_of}
use Rattle.voice_blocks.specs.declared.owner.Owner.TheVariants.{File}

-- the n lowest free addresses of holders, where the first one stands at `at`
abbrev pub lowest_from : ℕ → ℕ → Holders → List ℕ
lowest_from at zero hs = []
lowest_from at (suc n) [] = []
lowest_from at (suc n) (None ∷ hs) = at ∷ lowest_from (suc at) n hs
lowest_from at (suc n) (Some h ∷ hs) = lowest_from (suc at) (suc n) hs

-- the n lowest free addresses, rising
abbrev pub lowest_open : ℕ → Holders → List ℕ
lowest_open n hs = lowest_from 0 n hs

-- the blocks of a file from an index on have these addresses
abbrev pub AreAt : Holders → ℕ → ℕ → List ℕ → Type 0
AreAt holders file index [] = Unit {0}
AreAt holders file index (a ∷ rest) = (holder_at holders a ≡ Some (block_of (File file) index)) × AreAt holders file (index + 1) rest

-- so many blocks of a file have these addresses
pub record AreAddresses (holders : Holders) (file count : ℕ) (addresses : List ℕ) : Type 0 where
  pub many : length addresses ≡ count
  pub each : AreAt holders file 0 addresses
