use Rattle.interest_table.proofs.Keys.{too_long}
use Rattle.interest_table.proofs.expiries.spelled.Goals as goal

pub returns-then-number-clause-none : goal.returns-then-number-clause-none
returns-then-number-clause-none c = too_long c.args.bytes.now c.loop-byte.byte-index c.loop-byte.number c.loop-byte-test.true c.loop-byte.invariant c.if-number.true
