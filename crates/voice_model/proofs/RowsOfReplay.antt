-- Worked lists of changes.
use Rattle.std.proofs.Common.{◌≡◌, ℕ, List, [], ◌∷◌, ◌++◌, refl, Some, None, replicate}
use Rattle.std.specs.Prelude.{option_map}
use Rattle.voice_model.specs.Replay.{rebuilt, nothing_rebuilt, recovered}
use Rattle.voice_model.specs.State.{formatted}
use Rattle.voice_model.proofs.Small.{small, state_of, f20}
use Rattle.voice_model.specs.declared.changes.Change.{Change}
use Rattle.voice_model.specs.declared.changes.Change.TheVariants.{Wide, Edited, Advanced, Swept}
use Rattle.voice_model.specs.declared.calls.Call.TheVariants as calls

pub moment_twice : option_map (λ r. r.kept.moment) (rebuilt (nothing_rebuilt small) (Advanced 1 ∷ Advanced 1 ∷ [])) ≡ None
moment_twice = refl

-- the blocks lie at 5, 3 and 0, and the image has zeros and the letters there
abbrev pub image : List ℕ
image =
    replicate 1088 0
    ++ (81 ∷ 82 ∷ 83 ∷ 84 ∷ 0 ∷ 0 ∷ 0 ∷ 0 ∷ [])
    ++ replicate 16 0
    ++ (73 ∷ 74 ∷ 75 ∷ 76 ∷ 77 ∷ 78 ∷ 79 ∷ 80 ∷ [])
    ++ replicate 8 0
    ++ (65 ∷ 66 ∷ 67 ∷ 68 ∷ 69 ∷ 70 ∷ 71 ∷ 72 ∷ [])
    ++ replicate 2960 0

abbrev pub done : List Change
done =
    Wide 1 20 (5 ∷ 3 ∷ 0 ∷ []) ∷ Edited 2 [] ∷ Edited 3 (record { file = 1; from = 0; len = 5 } ∷ record { file = 1; from = 15; len = 5 } ∷ [])
    ∷ Advanced 60 ∷ Swept (1 ∷ 2 ∷ []) ∷ []

-- what is recovered is what the calls left
pub recovered_edit :
    option_map (recovered image) (rebuilt (nothing_rebuilt small) done)
    ≡ Some (state_of (formatted small) (calls.Record f20 ∷ calls.Sub 1 0 0 ∷ calls.Replace 1 5 10 2 ∷ calls.Advance 60 ∷ calls.Sweep 2 ∷ [])).kept
recovered_edit = refl

-- the edit uses all three blocks
pub places_left : option_map (λ r. r.places) (rebuilt (nothing_rebuilt small) done) ≡ Some (record { pair = record { file = 1; index = 0 }; address = 5 } ∷ record { pair = record { file = 1; index = 1 }; address = 3 } ∷ record { pair = record { file = 1; index = 2 }; address = 0 } ∷ [])
places_left = refl
