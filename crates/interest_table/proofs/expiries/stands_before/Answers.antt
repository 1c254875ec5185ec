use Rattle.std.proofs.Common.{rules}
use Rattle.interest_table.proofs.Dated.{by_stamp, by_moment}
use Rattle.interest_table.proofs.expiries.stands_before.Goals as goal

pub returns-then-one-other : goal.returns-then-one-other
returns-then-one-other c = by_stamp c.args.one.now.moment c.args.other.now.moment c.args.one.now.stamp c.args.other.now.stamp c.if-one-other.true

pub returns : goal.returns
returns c = by_moment c.args.one.now.moment c.args.other.now.moment c.args.one.now.stamp c.args.other.now.stamp c.if-one-other.false (search rules) (search rules)
