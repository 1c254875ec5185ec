-- The table behind a turnstile.
use Rattle.std.specs.Prelude.{ℕ, ◌≡◌, List, [], Option, Some}
use Rattle.voice_model.specs.declared.calls.Entry.{Entry}
use Rattle.atomic_table.specs.declared.shared.Seat.{Seat}
use Rattle.turnstile.specs.declared.view.View.{View}
use Rattle.turnstile.specs.declared.table.Gate.{Gate}
use Rattle.turnstile.specs.Shown.{ShownTurnstile}
use Rattle.turnstile.specs.Seats.{StandsOutside}

module _ {T O : Type 0} where
  -- the value that the table was made with
  abbrev pub start_of : Gate T O → T
  start_of g = g.table.shared.key.base.value

  -- how many callers it was made for
  abbrev pub callers_at : Gate T O → ℕ
  callers_at g = g.table.shared.key.callers

  -- what contracts see of a turnstile with this table
  abbrev pub shown_turnstile : Gate T O → ShownTurnstile T
  shown_turnstile g = record {
    identity = record { table = g.table.shared.table_id; start = Some g.table.shared.key.base };
    made_with = start_of g;
    callers = callers_at g;
  }

  -- a seat at this table, which knows the value at the start
  pub record IsSeatOf (g : Gate T O) (s : Seat (Option T) (View T)) : Type 0 where
    pub table : s.table_id ≡ g.table.shared.table_id
    pub start : s.me.0.base ≡ Some g.table.shared.key.base

  -- the first pass's seat, where so many were made
  pub record IsLead (history : T → List Entry) (g : Gate T O) (made : ℕ) (s : Seat (Option T) (View T)) : Type 0 where
    pub of : IsSeatOf g s
    pub outside : StandsOutside s
    pub caller : s.me.0.caller ≡ 1
    pub seen : s.me.0.seen ≡ history (start_of g)
    pub mine : s.me.0.mine ≡ []
    pub made_is : s.me.0.made ≡ made
    pub olds : s.me.0.olds ≡ []
