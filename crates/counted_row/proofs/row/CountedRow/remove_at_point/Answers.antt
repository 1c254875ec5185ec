use Rattle.std.proofs.Common.{arith, ◌≡◌, sym, subst}
use Rattle.std.specs.List.{remove}
use Rattle.std.specs.List.Sorted.{IsPartitionedBy}
use Rattle.counted_row.specs.Row.{Row, flat, passing}
use Rattle.counted_row.proofs.Flat.{remove-behind}
use Rattle.counted_row.proofs.row.CountedRow.remove_at_point.Goals as goal

pub returns-in_default-clause-items : goal.returns-in_default-clause-items
returns-in_default-clause-items g c p computes =
    let xs = flat c.self.inside.chunks.items in
    subst (λ (r : Row _). IsPartitionedBy p r.items → r.items ≡ remove r.items (passing p r.items)) c.self.view_is
    (λ parts. sym (remove-behind xs (passing p xs) (omega (arith, c.in_default.ensures.none p computes parts))))
