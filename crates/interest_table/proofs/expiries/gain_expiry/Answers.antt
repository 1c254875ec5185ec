use Rattle.std.proofs.Common.{rules}
use Rattle.interest_table.proofs.Due.{gained_none, gained_one}
use Rattle.interest_table.proofs.expiries.gain_expiry.Goals as goal

pub returns-in_default-clause-items : goal.returns-in_default-clause-items
returns-in_default-clause-items c = gained_none c.args.row.now c.args.stamp c.args.expiries.now.items c.in_default.ensures

pub returns-clause-items : goal.returns-clause-items
returns-clause-items c = gained_one c.args.row.now c.in-Some.moment c.args.stamp c.args.expiries.now.items c.put_expiry.new.expiries.items (search rules) (search rules) c.in-Some.ensures c.put_expiry.ensures.items
