-- AU files of one profile: mu-law of 8 bits, 8,000 samples a second, one channel.
--     cause_number cause      the number of a cause
--     word k bytes      the k-th word of a header
--     refusal bytes      why a file is refused: the first cause that holds
--     sample_count size rest      how many samples there are, by the size that the header says, where so many bytes follow
--     samples bytes      the samples of a file
--     size_word n      the size that a header says of n samples
--     file_of xs      the file of samples
--     ReadsBack      it is not refused, and has these samples
use Rattle.std.specs.Prelude.{◌≡◌, ℕ, ◌*◌, ◌-◌, ◌^◌, not, ◌||◌, ◌==◌, nat_lt, cond, List, [], ◌∷◌, ◌++◌, length, Option, Some, None}
use Rattle.voice_units.specs.Spots.{slice}
use Rattle.disk_areas.specs.Numbers.{number_at, number_bytes}
use Rattle.au_files.specs.declared.causes.AuError.{AuError}
use Rattle.au_files.specs.declared.causes.AuError.TheVariants.{Short, Magic, Offset, Encoding, Rate, Channels}

-- the number of a cause
abbrev pub cause_number : AuError → ℕ
cause_number Short = 1
cause_number Magic = 2
cause_number Offset = 3
cause_number Encoding = 4
cause_number Rate = 5
cause_number Channels = 6

-- the k-th word of a header
abbrev pub word : ℕ → List ℕ → ℕ
word k bytes = number_at 4 (4 * k) bytes

-- why a file is refused: the first cause that holds; ".snd" is 779316836
abbrev pub refusal : List ℕ → Option AuError
refusal bytes =
    cond (nat_lt (length bytes) 24) (Some Short)
    (cond (not (word 0 bytes == 779316836)) (Some Magic)
    (cond (nat_lt (word 1 bytes) 24 || nat_lt (length bytes) (word 1 bytes)) (Some Offset)
    (cond (not (word 3 bytes == 1)) (Some Encoding)
    (cond (not (word 4 bytes == 8000)) (Some Rate)
    (cond (not (word 5 bytes == 1)) (Some Channels)
    None)))))

-- how many samples there are, by the size that the header says, where so many bytes follow: all of them where it is unknown or greater
abbrev pub sample_count : ℕ → ℕ → ℕ
sample_count size rest = cond ((size == 2 ^ 32 - 1) || nat_lt rest size) rest size

-- the samples of a file
abbrev pub samples : List ℕ → List ℕ
samples bytes = slice bytes (word 1 bytes) (sample_count (word 2 bytes) (length bytes - word 1 bytes))

-- the size that a header says of n samples
abbrev pub size_word : ℕ → ℕ
size_word n = cond (nat_lt n (2 ^ 32 - 1)) n (2 ^ 32 - 1)

-- the file of samples: magic, offset 24, size, encoding 1, rate 8,000, one channel, and the samples
abbrev pub file_of : List ℕ → List ℕ
file_of xs = number_bytes 4 779316836 ++ number_bytes 4 24 ++ number_bytes 4 (size_word (length xs)) ++ number_bytes 4 1 ++ number_bytes 4 8000 ++ number_bytes 4 1 ++ xs

-- a file of samples is not refused, and has these samples
pub record ReadsBack : Type 0 where
  pub taken : (xs : List ℕ) → refusal (file_of xs) ≡ None
  pub same : (xs : List ℕ) → samples (file_of xs) ≡ xs
