-- A short list of bytes in an array of a fixed size.
--     filled size bytes      the array that begins with these bytes, zero behind them
--     InPlace least size array len      the first len places of the array hold a list of least to size bytes, and the rest is zero
--     filled_again, filled_length      the array and the number are given back by the list
use Rattle.std.specs.Prelude.{◌≡◌, ℕ, ◌-◌, ◌≤◌, List, ◌++◌, length, take, drop, replicate}
use Rattle.std.proofs.Common.{ap, ◌∙◌, sym, arith}
use Rattle.std.proofs.lemmas.List.{take-append-drop, length-take-le}
use Rattle.std.proofs.Math.Seq.{drop-append_seam, take-append_seam}
use Rattle.std.proofs.Common.{length-append}
use Rattle.std.proofs.lemmas.List.{length-replicate}

-- the array that begins with these bytes, zero behind them
abbrev pub filled : ℕ → List ℕ → List ℕ
filled size bytes = bytes ++ replicate (size - length bytes) 0

-- the first len places of the array hold a list of least to size bytes, and the rest is zero
pub record InPlace (least size : ℕ) (array : List ℕ) (len : ℕ) : Type 0 where
  pub enough : least ≤ len
  pub fits : len ≤ size
  pub whole : length array ≡ size
  pub rest : drop len array ≡ replicate (size - len) 0

pub filled_length : (least size : ℕ) (array : List ℕ) (len : ℕ) → InPlace least size array len → length (take len array) ≡ len
filled_length least size array len h =
    let within : len ≤ length array = omega arith in
    length-take-le len array within

pub filled_again : (least size : ℕ) (array : List ℕ) (len : ℕ) → InPlace least size array len → filled size (take len array) ≡ array
filled_again least size array len h =
    ap (λ n. take len array ++ replicate (size - n) 0) (filled_length least size array len h)
    ∙ ap (λ rest. take len array ++ rest) (sym h.rest)
    ∙ take-append-drop len array

-- the array that is filled is in place, and its front is the list
pub filled_in_place : (least size : ℕ) (bytes : List ℕ) → least ≤ length bytes → length bytes ≤ size → InPlace least size (filled size bytes) (length bytes)
filled_in_place least size bytes enough fits = record {
  enough = enough;
  fits = fits;
  whole = simp (length-append, length-replicate) (omega arith);
  rest = drop-append_seam bytes (replicate (size - length bytes) 0);
}

pub filled_front : (size : ℕ) (bytes : List ℕ) → take (length bytes) (filled size bytes) ≡ bytes
filled_front size bytes = take-append_seam bytes (replicate (size - length bytes) 0)
