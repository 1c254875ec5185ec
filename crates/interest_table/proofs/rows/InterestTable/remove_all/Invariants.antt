use Rattle.std.proofs.Common.{◌≡◌, ◌≤◌, filter, not}
use Rattle.interest_table.specs.Table.{is_named}
use Rattle.interest_table.proofs.rows.InterestTable.remove_all.Given as goal

-- the rows that are left once those of the keys to come go too
abbrev pub invariant-loop-key : goal.invariant-loop-key
invariant-loop-key l =
    (filter (λ row. not (is_named l.class l.key-iterator row)) l.self.rows ≡ filter (λ row. not (is_named l.class l.keys.keys row)) l.fn.self.rows) × (l.fn.self.spare ≤ l.self.spare)
