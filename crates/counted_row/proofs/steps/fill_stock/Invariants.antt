use Rattle.std.proofs.Common.{◌+◌, ◌-◌, ◌≤◌, length}
use Rattle.std.specs.Vec.{vec_capacity}
use Rattle.counted_row.specs.Row.{AreEmpty}
use Rattle.counted_row.proofs.steps.fill_stock.Given as goal

abbrev pub invariant-loop-stock : goal.invariant-loop-stock
invariant-loop-stock g l =
    AreEmpty l.stock.items
    × (length l.fn.stock.items ≤ length l.stock.items)
    × (length l.chunks.items + length l.stock.items ≤ vec_capacity l.chunks)
    × (length l.chunks.items + length l.stock.items ≤ vec_capacity l.stock)

abbrev pub decreases-loop-stock : goal.decreases-loop-stock
decreases-loop-stock g l = l.wanted - length l.stock.items
