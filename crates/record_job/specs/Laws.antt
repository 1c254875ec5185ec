-- What calls of `add` give out of their inputs, as statements.
--     given_out r inputs, after_all r inputs      what a recording gives out as it gets one input after another;  the recording after them
--     GivesWhole      the whole blocks of all bytes are given out, and what is behind them is the rest
--     GivesAll      what is given out and the rest, one behind the other, are all bytes
--     IsFilled block bytes blocks      whole blocks that are the bytes and, behind them, zero bytes, fewer than a block
--     FillsUp      with the last block filled up, what is given out are whole blocks of all bytes
use Rattle.std.specs.Prelude.{◌≡◌, ℕ, ◌%◌, ◌<◌, List, [], ◌∷◌, ◌++◌, length, replicate}
use Rattle.std.specs.List.{concat}
use Rattle.record_job.specs.Recording.{Recording, added, whole_blocks, rest_of, filled_up}

-- what a recording gives out as it gets one input after another
abbrev pub given_out : Recording → List (List ℕ) → List ℕ
given_out r [] = []
given_out r (bytes ∷ inputs) = whole_blocks r.block (r.rest ++ bytes) ++ given_out (added r bytes) inputs

-- the recording after them
abbrev pub after_all : Recording → List (List ℕ) → Recording
after_all r [] = r
after_all r (bytes ∷ inputs) = after_all (added r bytes) inputs

-- the whole blocks of all bytes are given out, and what is behind them is the rest
abbrev pub GivesWhole : Type 0
GivesWhole = (r : Recording) (inputs : List (List ℕ)) → length r.rest < r.block
    → (given_out r inputs ≡ whole_blocks r.block (r.rest ++ concat inputs)) × ((after_all r inputs).rest ≡ rest_of r.block (r.rest ++ concat inputs))

-- what is given out and the rest, one behind the other, are all bytes
abbrev pub GivesAll : Type 0
GivesAll = (r : Recording) (inputs : List (List ℕ)) → given_out r inputs ++ (after_all r inputs).rest ≡ r.rest ++ concat inputs

-- whole blocks that are the bytes and, behind them, zero bytes, fewer than a block
pub record IsFilled (block : ℕ) (bytes blocks : List ℕ) : Type 0 where
  pub zeros : ℕ
  pub few : zeros < block
  pub are : blocks ≡ bytes ++ replicate zeros 0
  pub whole : length blocks % block ≡ 0

-- with the last block filled up, what is given out are whole blocks of all bytes
abbrev pub FillsUp : Type 0
FillsUp = (r : Recording) (inputs : List (List ℕ)) → length r.rest < r.block → IsFilled r.block (r.rest ++ concat inputs) (given_out r inputs ++ filled_up r.block (after_all r inputs).rest)

-- all of them
pub record AddLaws : Type 0 where
  pub whole : GivesWhole
  pub all : GivesAll
  pub filled : FillsUp
