-- A disk of no byte, of which a crash leaves no byte.
use Rattle.std.specs.Prelude.{◌≡◌, ℕ, true, []}
use Rattle.voice_outside.specs.Disk.{Told}

-- what a disk of size 0 tells after so many calls and faults
abbrev pub empty_disk : ℕ → ℕ → Told
empty_disk calls faults = record { size = 0; calls = calls; faults = faults; honest = true; bytes = []; may_leave = λ t image. image ≡ [] }
