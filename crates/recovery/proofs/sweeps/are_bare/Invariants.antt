use Rattle.std.proofs.Common.{◌≡◌, ◌&&◌, drop, nat_le}
use Rattle.std.specs.Prelude.{is_some}
use Rattle.std.specs.List.{list_all}
use Rattle.rope_table.specs.Table.{rope_of}
use Rattle.interest_table.specs.Table.{rows_of}
use Rattle.recovery.specs.Gathered.{rows_noted}
use Rattle.recovery.proofs.sweeps.are_bare.Given as goal

abbrev pub invariant-loop-id : goal.invariant-loop-id
invariant-loop-id l =
    list_all (λ id. is_some (rope_of l.ropes.ropes id) && nat_le (rows_of id l.interests.rows) (rows_noted l.counts id)) l.ids ≡ list_all (λ id. is_some (rope_of l.ropes.ropes id) && nat_le (rows_of id l.interests.rows) (rows_noted l.counts id)) (drop l.id-index l.ids)
