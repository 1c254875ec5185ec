use Rattle.std.proofs.Common.{◌≡◌, sym, ◌∙◌, arith}
use Rattle.rope_table.specs.Table.{uses_at}
use Rattle.rope_table.proofs.Checked.{few_new}
use Rattle.table_measures.proofs.Single.{fits_once, free_added}
use Rattle.table_measures.proofs.ropes.put.Goals as goal

pub add-requires-clause-pairs : goal.add-requires-clause-pairs
add-requires-clause-pairs c =
    let few = few_new c.reserve.new.self c.in_ok-pieces.pieces in
    omega (arith, few, c.length.ensures.value, c.in_ok-reserve.ensures.spare_pairs)

pub add-requires-clause-fits : goal.add-requires-clause-fits
add-requires-clause-fits c = λ q has.
    let none : c.uses.result ≡ 0 = omega (arith, c.if-uses-gt0.false) in
    fits_once c.reserve.new.self.block c.from.result c.in_ok-pieces.pieces (uses_at c.reserve.new.self) q c.in_ok-pieces.ensures (sym c.uses.ensures ∙ none) has

pub returns : goal.returns
returns c =
    free_added c.from.result c.in_ok-pieces.pieces c.from-2.result 0 60 c.args.table.now.ropes c.reserve.new.self.ropes c.add.new.self.ropes
    c.in_ok-reserve.ensures.ropes c.add.ensures.ropes c.requires
