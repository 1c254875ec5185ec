-- The numbers that a script is drawn from.
use Rattle.std.specs.Prelude.{ℕ, zero, suc, ◌+◌, ◌*◌, ◌/◌, ◌%◌, ◌^◌}

-- the state after a state
unfoldable pub next : ℕ → ℕ
next x = (x * 6364136223846793005 + 1442695040888963407) % 2 ^ 64

-- the state after so many draws
abbrev pub state : ℕ → ℕ → ℕ
state x zero = x
state x (suc i) = next (state x i)

-- draw i from a state, counted from 0: a number below n
abbrev pub draw : ℕ → ℕ → ℕ → ℕ
draw x i n = next (state x i) / 2 ^ 33 % n
