-- Worked spellings of changes.
use Rattle.std.proofs.Common.{◌≡◌, ℕ, List, [], ◌∷◌, ◌++◌, refl, Some, None, replicate, map, length, ◌^◌, ◌+◌}
use Rattle.voice_units.specs.declared.pieces.Piece.{Piece}
use Rattle.voice_model.specs.Spelling.{spelling, change_in}
use Rattle.voice_model.specs.declared.lists.Pair.{Pair}
use Rattle.voice_model.specs.declared.changes.Change.{Change}
use Rattle.voice_model.specs.declared.changes.Change.TheVariants.{Recorded, Edited, Retained, Forgotten, Census, Swept, Advanced, Base, File, Rope, Wide, Base2, File2, Rope2}
use Rattle.voice_model.specs.declared.calls.Class.TheVariants.{Held, Until}

abbrev pub piece : ℕ → ℕ → ℕ → Piece
piece file from len = record { file = file; from = from; len = len }

abbrev pub block_at : ℕ → ℕ → Pair
block_at index address = record { index = index; address = address }

abbrev pub samples : List Change
samples =
    Recorded 1 20 (0 ∷ 1 ∷ 2 ∷ [])
    ∷ Edited 3 (piece 1 0 5 ∷ piece 1 15 5 ∷ [])
    ∷ Retained Held (109 ∷ 97 ∷ 105 ∷ 108 ∷ 46 ∷ 49 ∷ []) 5 (104 ∷ 105 ∷ [])
    ∷ Forgotten Held (109 ∷ 97 ∷ 105 ∷ 108 ∷ 46 ∷ 49 ∷ [])
    ∷ Census ((109 ∷ []) ∷ [])
    ∷ Swept (1 ∷ 3 ∷ [])
    ∷ Advanced 60
    ∷ Recorded (2 ^ 48) 0 []
    ∷ []

abbrev pub other_samples : List Change
other_samples =
    Base 60 4
    ∷ File 1 (block_at 0 7 ∷ block_at 2 65535 ∷ [])
    ∷ Rope 3 60 (piece 1 0 5 ∷ [])
    ∷ Wide 1 20 (0 ∷ 1 ∷ 1048575 ∷ [])
    ∷ Base2 (2 ^ 40) (2 ^ 48 + 1)
    ∷ File2 1 (block_at 0 7 ∷ block_at 2 65536 ∷ [])
    ∷ Rope2 3 60 2 []
    ∷ Census ((109 ∷ []) ∷ (110 ∷ 111 ∷ []) ∷ [])
    ∷ Retained Until (117 ∷ []) 1 (0 ∷ 0 ∷ 0 ∷ 0 ∷ 0 ∷ 0 ∷ 0 ∷ 5 ∷ [])
    ∷ []

pub lengths : map (λ c. length (spelling c)) samples ≡ 23 ∷ 43 ∷ 20 ∷ 9 ∷ 5 ∷ 19 ∷ 9 ∷ 17 ∷ []
lengths = refl

pub recorded_spelling : spelling (Recorded 1 20 (0 ∷ 1 ∷ 2 ∷ [])) ≡ 1 ∷ 0 ∷ 0 ∷ 0 ∷ 0 ∷ 0 ∷ 0 ∷ 0 ∷ 1 ∷ 0 ∷ 0 ∷ 0 ∷ 20 ∷ 0 ∷ 0 ∷ 0 ∷ 3 ∷ 0 ∷ 0 ∷ 0 ∷ 1 ∷ 0 ∷ 2 ∷ []
recorded_spelling = refl

pub retained_spelling :
    spelling (Retained Held (109 ∷ 97 ∷ 105 ∷ 108 ∷ 46 ∷ 49 ∷ []) 5 (104 ∷ 105 ∷ []))
    ≡ 3 ∷ 1 ∷ 6 ∷ 109 ∷ 97 ∷ 105 ∷ 108 ∷ 46 ∷ 49 ∷ 0 ∷ 0 ∷ 0 ∷ 0 ∷ 0 ∷ 0 ∷ 0 ∷ 5 ∷ 2 ∷ 104 ∷ 105 ∷ []
retained_spelling = refl

pub swept_spelling : spelling (Swept (1 ∷ 3 ∷ [])) ≡ 6 ∷ 0 ∷ 2 ∷ 0 ∷ 0 ∷ 0 ∷ 0 ∷ 0 ∷ 0 ∷ 0 ∷ 1 ∷ 0 ∷ 0 ∷ 0 ∷ 0 ∷ 0 ∷ 0 ∷ 0 ∷ 3 ∷ []
swept_spelling = refl

pub wide_spelling : spelling (Wide 1 8 (65536 ∷ [])) ≡ 11 ∷ 0 ∷ 0 ∷ 0 ∷ 0 ∷ 0 ∷ 0 ∷ 0 ∷ 1 ∷ 0 ∷ 0 ∷ 0 ∷ 8 ∷ 0 ∷ 0 ∷ 0 ∷ 1 ∷ 0 ∷ 1 ∷ 0 ∷ 0 ∷ []
wide_spelling = refl

-- a spelling is read again
pub read_again : map (λ c. change_in (spelling c)) samples ≡ map (λ c. Some c) samples
read_again = refl

pub others_read_again : map (λ c. change_in (spelling c)) other_samples ≡ map (λ c. Some c) other_samples
others_read_again = refl

-- nothing is read of a spelling without its last byte, or with one more
pub too_short : change_in (7 ∷ 0 ∷ 0 ∷ 0 ∷ 0 ∷ 0 ∷ 0 ∷ 0 ∷ []) ≡ None
too_short = refl

pub too_long : change_in (spelling (Advanced 60) ++ 0 ∷ []) ≡ None
too_long = refl

pub unknown_kinds : change_in [] ∷ change_in (0 ∷ []) ∷ change_in (15 ∷ []) ∷ [] ≡ None ∷ None ∷ None ∷ []
unknown_kinds = refl

-- what breaks the grammar is not read
pub broken :
    map (λ c. change_in (spelling c)) (
    Advanced 0 ∷ Swept (3 ∷ 1 ∷ []) ∷ Census [] ∷ Edited 3 (piece 1 0 5 ∷ piece 1 5 5 ∷ []) ∷ Retained Until (117 ∷ []) 1 (0 ∷ []) ∷ Rope2 3 60 4 [] ∷ Recorded 0 0 [] ∷ [])
    ≡ replicate 7 None
broken = refl
