-- A disk that tells its counts alone.
use Rattle.std.specs.Prelude.{ℕ, [], false, Bool, IsTrue}
use Rattle.voice_outside.specs.Disk.{Told}

-- its size, its calls and its faults, and no byte
abbrev pub counts_alone : Bool → ℕ → ℕ → ℕ → Told
counts_alone honest size calls faults = record { size = size; calls = calls; faults = faults; honest = honest; bytes = []; may_leave = λ t image. ⊥ }

-- it isn't honest
pub untold : IsTrue false → ⊥
untold honest = cc
