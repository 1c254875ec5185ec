use Rattle.std.proofs.Common.{◌≡◌, ◌+◌, ℕ, drop, filter}
use Rattle.voice_model.specs.Changes.{is_expired}
use Rattle.interest_table.specs.Table.{rows_of}
use Rattle.recovery.specs.Gathered.{rows_noted}
use Rattle.recovery.proofs.sweeps.expired_counts.Given as goal

abbrev pub invariant-loop-rope : goal.invariant-loop-rope
invariant-loop-rope l = (id : ℕ) → rows_noted l.counts id + rows_of id (drop l.rope-index (filter (is_expired l.fn.now) l.interests.rows)) ≡ rows_of id (filter (is_expired l.fn.now) l.interests.rows)
