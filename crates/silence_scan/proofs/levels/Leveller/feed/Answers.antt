use Rattle.std.proofs.Common.{◌∙◌, sym, arith, subst, ◌++◌, take}
use Rattle.silence_scan.specs.Levels.{HasHeard}
use Rattle.silence_scan.proofs.Pieces.{fed_more}
use Rattle.silence_scan.proofs.levels.Leveller.feed.Goals as goal

pub parts-preserved : goal.parts-preserved
parts-preserved c = record {
  within = omega (arith, c.min-n.ensures, c.parts-test.true, c.parts.invariant.within);
  fresh = c.in_ok-add.ensures.fresh ∙ c.parts.invariant.fresh;
  heard = λ before h. subst (λ k. HasHeard k c.add.new.self) (sym (fed_more before c.args.bytes.now c.parts.at c.min-n.result)) (c.in_ok-add.ensures.heard (before ++ take c.parts.at c.args.bytes.now) (c.parts.invariant.heard before h));
}
