use Rattle.std.proofs.Common.{◌≡◌, ◌≤◌, filter, length, not}
use Rattle.voice_model.specs.Changes.{is_expired}
use Rattle.interest_table.proofs.rows.InterestTable.drop_expired.Given as goal

-- the same rows are not expired
abbrev pub invariant-loop-row : goal.invariant-loop-row
invariant-loop-row l = record {
  stay : filter (λ row. not (is_expired l.now row)) l.self.rows ≡ filter (λ row. not (is_expired l.now row)) l.fn.self.rows;
  spare : l.fn.self.spare ≤ l.self.spare;
}

abbrev pub decreases-loop-row : goal.decreases-loop-row
decreases-loop-row l = length l.self.rows
