-- Calls that make no change.
--     IsAsking call asks      what a call asks of the tables, or that it is of a kind that makes changes
--     HasInterest s class key rope note      an interest stands, of this rope and with this note
use Rattle.std.specs.Prelude.{◌≡◌, ℕ, List, Some, IsTrue}
use Rattle.voice_model.specs.State.{State, row_at}
use Rattle.voice_model.specs.Changes.{is_changing}
use Rattle.voice_model.specs.declared.calls.Call.{Call}
use Rattle.voice_model.specs.declared.calls.Call.TheVariants as calls
use Rattle.voice_model.specs.declared.calls.Class.{Class}
use Rattle.voice_model.specs.declared.calls.Row.{Row}
use Rattle.voice_store.specs.Hearing.{call_for}
use Rattle.voice_store.specs.declared.applying.Asks.{Asks}
use Rattle.voice_store.specs.declared.applying.Asks.TheVariants as asks

-- what a call asks of the tables, or that it is of a kind that makes changes
abbrev pub IsAsking : Call → Asks → Type 0
IsAsking call (asks.Length rope) = call ≡ calls.Length rope
IsAsking call (asks.Interest class key) = call ≡ calls.Lookup class key
IsAsking call (asks.Sound sound rope) = call ≡ call_for sound rope
IsAsking call (asks.Job lane rope start len) = call ≡ calls.Play lane rope start len
IsAsking call (asks.Stop lane) = call ≡ calls.Stop lane
IsAsking call (asks.Begin lane) = call ≡ calls.Begin lane
IsAsking call (asks.Add lane take) = call ≡ calls.Add lane take
IsAsking call asks.Change = IsTrue (is_changing call)

-- an interest stands, of this rope and with this note
abbrev pub HasInterest : State → Class → List ℕ → ℕ → List ℕ → Type 0
HasInterest s class key rope note = (row : Row) × (row_at s.rows class key ≡ Some row) × (row.rope ≡ rope) × (row.note ≡ note)
