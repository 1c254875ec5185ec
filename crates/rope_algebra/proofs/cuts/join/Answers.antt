use Rattle.std.proofs.Common.{◌∷◌, [], ◌++◌, ◌∙◌, ap, arith}
use Rattle.rope_algebra.proofs.Joins.{longer_last, one_more}
use Rattle.rope_algebra.proofs.cuts.join.Goals as goal

pub returns-then-is_continued : goal.returns-then-is_continued
returns-then-is_continued c =
    longer_last c.args.pieces.now.items c.pop.new.self.items c.push-then-is_continued.new.self.items c.in-Some.last c.args.next c.requires.kept c.in-Some.ensures.items
    (c.is_continued.ensures.0 c.if-is_continued.true) (omega arith) c.requires.end c.in_ok-push-2.ensures.items

pub returns : goal.returns
returns c =
    one_more c.args.pieces.now.items c.pop.new.self.items c.push-3.new.self.items c.in-Some.last c.args.next c.requires.kept c.in-Some.ensures.items
    (λ goes. let so = c.is_continued.ensures.1 goes in let no = c.if-is_continued.false in cc) (omega arith) c.requires.end
    (c.in_ok-push-4.ensures.items ∙ ap (λ l. l ++ c.args.next ∷ []) c.in_ok-push-3.ensures.items)
