-- Counts that stop at the greatest number of 64 bits.
--     next_count n      one more, but no more than 64 bits hold
--     HasRisen old new      the count rose, or stands at its last value
--     faults_after failed n      a count of faults after a call that failed, or did not
use Rattle.std.specs.Prelude.{ℕ, ◌+◌, ◌-◌, ◌^◌, ◌<◌, min, Bool, true, false}

-- one more; at 2^64 - 1 the number stays
abbrev pub next_count : ℕ → ℕ
next_count n = min (n + 1) (2 ^ 64 - 1)

-- the count rose, or stands at its last value, where it can't show that it did
abbrev pub HasRisen : ℕ → ℕ → Type 0
HasRisen old new = new < 2 ^ 64 - 1 → old < new

-- one more exactly where the call failed
abbrev pub faults_after : Bool → ℕ → ℕ
faults_after true n = next_count n
faults_after false n = n
