use Rattle.std.proofs.Common.{nat_le, ap, ◌∙◌, fold}
use Rattle.interest_table.proofs.Keys.{too_large, and_byte}
use Rattle.row_calls.proofs.retaining.spells_at_most.Goals as goal

pub returns-then-number-most : goal.returns-then-number-most
returns-then-number-most c =
    too_large c.args.bytes.now c.loop-byte.byte-index c.loop-byte.number c.from.result c.number-most.result c.loop-byte-test.true c.loop-byte.invariant.0 c.from.ensures c.if-number-most.true
    ∙ ap (nat_le (fold and_byte 0 c.args.bytes.now)) c.number-most.ensures.value
