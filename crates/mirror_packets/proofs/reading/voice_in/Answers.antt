use Rattle.std.proofs.Common.{sym}
use Rattle.mirror_packets.proofs.Ranges.{voice_short, voice_low, voice_high, voice_long, voice_right}
use Rattle.mirror_packets.proofs.reading.voice_in.Goals as goal

pub returns-then-body-lt9 : goal.returns-then-body-lt9
returns-then-body-lt9 c = sym (voice_short c.args.body.now c.if-body-lt9.true)

pub returns-then-id-lt1 : goal.returns-then-id-lt1
returns-then-id-lt1 c = sym (voice_low c.args.body.now c.read_8-id.result c.read_8-id.ensures c.if-id-lt1.true)

pub returns-then-id : goal.returns-then-id
returns-then-id c = sym (voice_high c.args.body.now c.read_8-id.result c.read_8-id.ensures c.if-id.true)

pub returns-then-body : goal.returns-then-body
returns-then-body c = sym (voice_long c.args.body.now c.if-body.true)

pub returns : goal.returns
returns c = sym (voice_right c.args.body.now c.read_8-id.result c.read_8-id.ensures c.if-body-lt9.false c.if-id-lt1.false c.if-id.false c.if-body.false)
