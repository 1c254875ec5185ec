use Rattle.std.proofs.Common.{rules, ◌≡◌, ◌+◌, ℕ, length, sym, ap, subst, arith}
use Rattle.voice_journal.proofs.Writing.{IsPut, put_start, put_more, put_end, size_next}
use Rattle.voice_journal.proofs.spelling.put_records.Goals as goal

pub loop-payload-init : goal.loop-payload-init
loop-payload-init c = put_start c.args.room.now c.args.from c.args.payloads.now

pub put_record-requires-clause-room : goal.put_record-requires-clause-room
put_record-requires-clause-room c =
    let next = size_next c.args.payloads.now c.loop-payload.payload-index c.payload-item.result c.loop-payload-test.true c.payload-item.is in
    let at = c.loop-payload.invariant.at_is in
    let same = ap length c.deref.ensures.value in
    omega (arith, next, at, same, c.requires.room, c.loop-payload.auto.room)

pub put_record-requires-clause-small : goal.put_record-requires-clause-small
put_record-requires-clause-small c =
    let next = size_next c.args.payloads.now c.loop-payload.payload-index c.payload-item.result c.loop-payload-test.true c.payload-item.is in
    let same = ap length c.deref.ensures.value in
    omega (arith, next, same, c.requires.room, c.requires.small)

pub loop-payload-preserved : goal.loop-payload-preserved
loop-payload-preserved c =
    let len : c.len.result ≡ length c.deref.result.now = search (rules, c.len.ensures, c.deref.ensures) in
    subst (λ (n : ℕ). IsPut c.args.room.now c.put_record.new.room c.args.from (c.loop-payload.at + (5 + n)) (c.loop-payload.payload-index + 1) c.args.payloads.now) (sym len)
    (put_more _ _ _ _ _ _ _ _ _ c.loop-payload.invariant c.loop-payload-test.true c.payload-item.is c.deref.ensures.value c.put_record.ensures)

pub returns-clause-value : goal.returns-clause-value
returns-clause-value c = (put_end _ _ _ _ _ _ c.loop-payload.invariant c.loop-payload-test.false).0

pub returns-clause-written : goal.returns-clause-written
returns-clause-written c = (put_end _ _ _ _ _ _ c.loop-payload.invariant c.loop-payload-test.false).1
