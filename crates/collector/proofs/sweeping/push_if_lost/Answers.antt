-- The rope comes last, or has a row left, or is not kept.
use Rattle.std.proofs.Common.{◌≡◌, false, true, arith}
use Rattle.collector.specs.Due.{is_kept}
use Rattle.collector.proofs.Lost.{none_pushed, not_pushed, one_pushed}
use Rattle.collector.proofs.sweeping.push_if_lost.Goals as goal

pub returns-then-left-gt0 : goal.returns-then-left-gt0
returns-then-left-gt0 c id = none_pushed id c.args.rope c.args.left (is_kept c.args.table.now.ropes c.args.rope) c.args.gone.now.items (omega (arith, c.if-left-gt0.true))

pub returns-then-not-unwrap_or : goal.returns-then-not-unwrap_or
returns-then-not-unwrap_or c id =
    let was = c.kept.ensures in
    let value = c.unwrap_or.ensures in
    let test = c.if-not-unwrap_or.true in
    let kept : is_kept c.args.table.now.ropes c.args.rope ≡ false = first_of (cc, grind arith) in
    not_pushed id c.args.rope c.args.left (is_kept c.args.table.now.ropes c.args.rope) c.args.gone.now.items kept

pub returns : goal.returns
returns c id =
    let was = c.kept.ensures in
    let value = c.unwrap_or.ensures in
    let test = c.if-not-unwrap_or.false in
    let kept : is_kept c.args.table.now.ropes c.args.rope ≡ true = first_of (cc, grind arith) in
    one_pushed id c.args.rope c.args.left (is_kept c.args.table.now.ropes c.args.rope) c.args.gone.now.items c.push.new.self.items (omega (arith, c.if-left-gt0.false)) kept c.in_ok-push.ensures.items
