-- What a disk's shape keeps.
--     IsShape      the conditions on a shape that speak of its fields alone
--     is_shape      the same as a test
--     bytes_needed block blocks area      the bytes that a disk of this shape takes
use Rattle.std.specs.Prelude.{◌≡◌, ℕ, ◌+◌, ◌*◌, ◌%◌, ◌^◌, ◌≤◌, Bool, ◌&&◌, ◌||◌, not, cond, ◌==◌, nat_le}
use Rattle.voice_units.specs.declared.shapes.Graces.{Graces}

-- an address takes 2 bytes in version 1
abbrev pub most_blocks : ℕ → ℕ
most_blocks version = cond (version == 1) 65535 1048576

-- one grace for all classes
pub record IsOneGrace (graces : Graces) : Type 0 where
  pub held : graces.held ≡ graces.common
  pub until : graces.until ≡ graces.common
  pub listed : graces.listed ≡ graces.common

-- the conditions on a shape that speak of its fields alone
pub record IsShape (version block blocks area : ℕ) (graces : Graces) (lanes : ℕ) : Type 0 where
  pub some_version : 1 ≤ version
  pub version_limit : version ≤ 2
  pub whole_words : block % 8 ≡ 0
  pub some_block : 8 ≤ block
  pub block_limit : block ≤ 8192
  pub some_blocks : 1 ≤ blocks
  pub blocks_limit : blocks ≤ most_blocks version
  pub area_least : 512 ≤ area
  pub area_limit : area ≤ 2 ^ 24
  pub some_lane : 1 ≤ lanes
  pub lanes_limit : lanes ≤ 16
  pub one_grace : version ≡ 1 → IsOneGrace graces

abbrev pub is_one_grace : Graces → Bool
is_one_grace graces = (graces.held == graces.common) && (graces.until == graces.common) && (graces.listed == graces.common)

-- the same as a test
abbrev pub is_shape : ℕ → ℕ → ℕ → ℕ → Graces → ℕ → Bool
is_shape version block blocks area graces lanes =
    nat_le 1 version && nat_le version 2 && (block % 8 == 0) && nat_le 8 block && nat_le block 8192 && nat_le 1 blocks && nat_le blocks (most_blocks version)
    && nat_le 512 area && nat_le area (2 ^ 24) && nat_le 1 lanes && nat_le lanes 16 && (not (version == 1) || is_one_grace graces)

-- the bytes that a disk of this shape takes
abbrev pub bytes_needed : ℕ → ℕ → ℕ → ℕ
bytes_needed block blocks area = 64 + 2 * area + block * blocks
