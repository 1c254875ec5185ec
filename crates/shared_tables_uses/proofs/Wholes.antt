-- A whole frame is heard.
use Rattle.std.proofs.Common.{◌≡◌, ℕ, List, [], ◌∷◌, length, get_or, take, ap, ◌∙◌, arith, append-nil}
use Rattle.std.specs.List.{flat_map}
use Rattle.std.proofs.lemmas.List.{take_all}
use Rattle.frame_pool.specs.Pool.{stretch_in}

-- the samples of a part that is a frame of 8 bytes
pub whole_frame : (frames : List (List ℕ)) (block : List ℕ) → get_or frames 0 [] ≡ block → length block ≡ 8 → flat_map (stretch_in frames) (record { frame = 0; from = 0; len = 8 } ∷ []) ≡ block
whole_frame frames block is long = append-nil (stretch_in frames (record { frame = 0; from = 0; len = 8 })) ∙ ap (λ (l : List ℕ). take 8 l) is ∙ take_all 8 block (omega (arith, long))
