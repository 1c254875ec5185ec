use Rattle.std.proofs.Common.{[], arith}
use Rattle.rope_table.proofs.Checked.{few_new, same_counts}
use Rattle.rope_uses.proofs.tables.put.Goals as goal

pub add-requires-clause-pairs : goal.add-requires-clause-pairs
add-requires-clause-pairs c =
    let few = few_new c.reserve.new.self c.args.pieces in
    omega (arith, few, c.length.ensures.value, c.in_ok-reserve.ensures.spare_pairs)

pub returns-clause-counts : goal.returns-clause-counts
returns-clause-counts c = λ counted.
    c.add.ensures.counts [] (same_counts c.args.table.now c.reserve.new.self [] c.in_ok-reserve.ensures.ropes c.in_ok-reserve.ensures.block c.in_ok-reserve.ensures.uses counted)
