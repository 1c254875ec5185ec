use Rattle.std.proofs.Common.{◌≡◌, sym, subst, refl, arith}
use Rattle.rope_table.specs.Table.{made_rope}
use Rattle.rope_table.proofs.Checked.{few_new}
use Rattle.interest_table.specs.Table.{rows_of}
use Rattle.collector.specs.Due.{AreKept}
use Rattle.collector.proofs.Tried.{rope_comes}
use Rattle.rope_uses.proofs.collections.add.Goals as goal

pub add-requires-clause-pairs : goal.add-requires-clause-pairs
add-requires-clause-pairs c =
    let few = few_new c.reserve.new.self c.args.pieces in
    omega (arith, few, c.length.ensures.value, c.in_ok-reserve.ensures.spare_pairs)

pub returns-clause-kept : goal.returns-clause-kept
returns-clause-kept c = λ all.
    let none : rows_of c.args.id c.args.interests.now.rows ≡ 0 = omega (arith, c.count.ensures, c.if-count-gt0.false) in
    subst (AreKept c.args.interests.now.rows) (sym c.add.ensures.ropes)
    (rope_comes c.args.interests.now.rows (made_rope c.args.id c.args.pieces c.args.idle 0 60) c.reserve.new.self.ropes refl none (subst (AreKept c.args.interests.now.rows) (sym c.in_ok-reserve.ensures.ropes) all))
