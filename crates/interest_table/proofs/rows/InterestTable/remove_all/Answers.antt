use Rattle.std.proofs.Common.{◌∙◌, ap, sym, arith}
use Rattle.std.proofs.lemmas.Map.Iter.{rest_more, rest_all}
use Rattle.std.specs.Map.Iter.{deref}
use Rattle.interest_table.proofs.Goes.{unnamed, all_unnamed, key_first}
use Rattle.interest_table.proofs.rows.InterestTable.remove_all.Goals as goal

pub loop-key-preserved : goal.loop-key-preserved
loop-key-preserved c =
    let rest = rest_more deref _ _ _ c.in-Some.key c.in-Some.is c.next.ensures.steps in (
      ap (unnamed c.args.class c.next.new.self) c.remove.ensures.rows ∙ key_first c.args.class c.in-Some.key.now c.next.new.self c.loop-key.self.rows
          ∙ ap (λ keys. unnamed c.args.class keys c.loop-key.self.rows) (sym rest) ∙ c.loop-key.invariant.0,
      omega (arith, c.loop-key.invariant.1, c.remove.ensures.spare),
    )

pub returns-clause-rows : goal.returns-clause-rows
returns-clause-rows c =
    let none = rest_all deref _ _ _ c.in-None.is c.next.ensures.steps in
    sym (all_unnamed c.args.class c.loop-key.self.rows) ∙ ap (λ keys. unnamed c.args.class keys c.loop-key.self.rows) (sym none) ∙ c.loop-key.invariant.0
