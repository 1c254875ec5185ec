-- Bytes that are fed in pieces.
use Rattle.std.proofs.Common.{◌≡◌, ℕ, ◌+◌, List, ◌++◌, sym, ◌∙◌, ap, arith, take, drop, slice_range, append_assoc}
use Rattle.std.proofs.Math.Seq.{take-add}

pub fed_more : (before bs : List ℕ) (at n : ℕ) → before ++ take (at + n) bs ≡ (before ++ take at bs) ++ slice_range bs at (at + n)
fed_more before bs at n =
    let same : slice_range bs at (at + n) ≡ take n (drop at bs) = grind arith in
    ap (λ k. before ++ k) (take-add at n bs ∙ ap (λ k. take at bs ++ k) (sym same)) ∙ sym (append_assoc before (take at bs) (slice_range bs at (at + n)))
