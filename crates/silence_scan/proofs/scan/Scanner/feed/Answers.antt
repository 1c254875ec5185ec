use Rattle.std.proofs.Common.{◌∙◌, sym, arith, subst, ◌++◌, take}
use Rattle.silence_scan.specs.Scan.{HasScanned}
use Rattle.silence_scan.proofs.Pieces.{fed_more}
use Rattle.silence_scan.proofs.scan.Scanner.feed.Goals as goal

pub parts-preserved : goal.parts-preserved
parts-preserved c = record {
  within = omega (arith, c.min-n.ensures, c.parts-test.true, c.parts.invariant.within);
  fresh = c.in_ok-add.ensures.fresh ∙ c.parts.invariant.fresh;
  fed = omega (arith, c.in_ok-add.ensures.fed, c.parts.invariant.fed, c.min-n.ensures);
  scanned = λ before h. subst (λ k. HasScanned k c.add.new.self) (sym (fed_more before c.args.bytes.now c.parts.at c.min-n.result)) (c.in_ok-add.ensures.scanned (before ++ take c.parts.at c.args.bytes.now) (c.parts.invariant.scanned before h));
}
