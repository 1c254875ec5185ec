-- An open recording, of which whole blocks are given out.
--     whole_length block n      the greatest multiple of a block's length that is at most n
--     whole_blocks block bytes, rest_of block bytes      the whole blocks in front;  what is behind them
--     filled_up block bytes      a part of a block, filled up with zero bytes; nothing stays nothing
--     empty, added r bytes      a recording without bytes;  one that has got more
use Rattle.std.specs.Prelude.{◌≡◌, ℕ, ◌+◌, ◌-◌, ◌%◌, ◌^◌, ◌<◌, ◌≤◌, List, [], ◌∷◌, ◌++◌, length, take, drop, replicate}

-- its lane and block, how many bytes were added, and those of them that are not given out
pub record Recording : Type 0 where
  pub lane : ℕ
  pub block : ℕ
  pub total : ℕ
  pub rest : List ℕ

abbrev pub seen : ℕ → ℕ → ℕ → List ℕ → Recording
seen lane block total rest = record { lane = lane; block = block; total = total; rest = rest }

-- the rest is shorter than a block, and there is room for a block
pub record IsRecording (block total : ℕ) (rest : List ℕ) (room : ℕ) : Type 0 where
  pub least : 8 ≤ block
  pub most : block ≤ 8192
  pub words : block % 8 ≡ 0
  pub few : length rest < block
  pub behind : length rest ≡ total % block
  pub long : total ≤ 2 ^ 30
  pub enough : block ≤ room

-- the greatest multiple of a block's length that is at most n
abbrev pub whole_length : ℕ → ℕ → ℕ
whole_length block n = n - n % block

-- the whole blocks in front
abbrev pub whole_blocks : ℕ → List ℕ → List ℕ
whole_blocks block bytes = take (whole_length block (length bytes)) bytes

-- what is behind the whole blocks
abbrev pub rest_of : ℕ → List ℕ → List ℕ
rest_of block bytes = drop (whole_length block (length bytes)) bytes

-- a part of a block, filled up with zero bytes; nothing stays nothing
abbrev pub filled_up : ℕ → List ℕ → List ℕ
filled_up block [] = []
filled_up block (b ∷ bytes) = b ∷ bytes ++ replicate (block - length (b ∷ bytes)) 0

-- a recording without bytes
abbrev pub empty : ℕ → ℕ → Recording
empty lane block = seen lane block 0 []

-- a recording that has got more bytes; its whole blocks are given out
abbrev pub added : Recording → List ℕ → Recording
added r bytes = seen r.lane r.block (r.total + length bytes) (rest_of r.block (r.rest ++ bytes))
