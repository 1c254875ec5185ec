-- A caller's turns at its places.
--     next_turn turns      the number of its next turn, after so many at a place
--     turns_after mine turns      the same where the line is its own
use Rattle.std.specs.Prelude.{ℕ, ◌+◌, ◌==◌, Bool, cond}

-- the number of a turn, after so many at the place: behind the 64th comes the first at another place
abbrev pub next_turn : ℕ → ℕ
next_turn turns = cond (turns == 64) 1 (turns + 1)

-- how many turns a caller has begun at its place once it came to a line, which is its own or another's
abbrev pub turns_after : Bool → ℕ → ℕ
turns_after own turns = cond own (next_turn turns) turns
