-- What turns of callers at a tally do.
use Rattle.std.specs.Prelude.{ℕ, ◌≡◌, ◌+◌, List, length, drop}
use Rattle.voice_model.specs.declared.calls.Entry.{Entry}
use Rattle.turnstile.specs.Histories.{entries_of}
use Rattle.turnstile.specs.Passes.{IsOf, IsOutside, HasStood, AddsOneTurn}
use Rattle.turnstile.specs.declared.parts.Pass.{Pass}
use Rattle.shared_tables_uses.specs.declared.hall.Hall.{Hall}
use Rattle.shared_tables_uses.specs.declared.tally.Tally.{Tally}

-- a turn of a caller with n entries, all of which are the caller's
abbrev pub Counts : ℕ → List Entry → List Entry → ℕ → Type 0
Counts by before after n = AddsOneTurn by before after n × (length (entries_of by (drop (length before) after)) ≡ n)

-- a pass of this hall that is outside
abbrev pub IsReady : Hall Tally ℕ → Pass Tally ℕ → Type 0
IsReady h p = IsOf h.turnstile p × IsOutside p

-- the total is the start and one for each entry that the pass has seen
abbrev pub HasSeenAll : Hall Tally ℕ → Pass Tally ℕ → Type 0
HasSeenAll h p = HasStood (λ t. t.start) (λ t. t.history.items) (λ t. t.total ≡ t.start + length t.history.items) h.turnstile p
