use Rattle.mirror_packets.proofs.Ranges.{head_short, head_low, head_high, head_long, head_right}
use Rattle.mirror_packets.proofs.reading.end_in.Goals as goal

pub returns-then-rest-lt12 : goal.returns-then-rest-lt12
returns-then-rest-lt12 c = head_short c.args.rest.now c.if-rest-lt12.true

pub returns-then-number-lt1 : goal.returns-then-number-lt1
returns-then-number-lt1 c = head_low c.args.rest.now c.read_8-number.result c.read_8-number.ensures c.if-number-lt1.true

pub returns-then-number : goal.returns-then-number
returns-then-number c = head_high c.args.rest.now c.read_8-number.result c.read_8-number.ensures c.if-number.true

pub returns-then-end-rest : goal.returns-then-end-rest
returns-then-end-rest c = head_long c.args.rest.now c.read_4.result c.read_4.ensures c.if-end-rest.true

pub returns : goal.returns
returns c = head_right c.args.rest.now c.read_8-number.result c.read_4.result c.read_8-number.ensures c.read_4.ensures c.if-rest-lt12.false c.if-number-lt1.false c.if-number.false c.if-end-rest.false
