use Rattle.std.proofs.Common.{true, false}
use Rattle.std.specs.Arc.{arc_value}
use Rattle.voice_main.proofs.Shares.{begun_from, made_from}
use Rattle.voice_main.proofs.calling.call_all.Goals as goal

pub returns-then-threads-clause-so_far : goal.returns-then-threads-clause-so_far
returns-then-threads-clause-so_far g c =
    let so_far = c.share.ensures.so_far in
    (so_far.0, begun_from g.D.Disk.told c.args.threads true c.in_ok-store.store.origin c.args.disk c.share.result.disk c.deref.result.now (arc_value c.args.scripted.now.tapes) c.args.scripted.now.script so_far.0 c.share.result.history.items c.if-threads.true c.in_ok-store.ensures.fresh.0 c.deref.ensures so_far.1)

pub returns-then-threads-clause-finished : goal.returns-then-threads-clause-finished
returns-then-threads-clause-finished g c = λ done.
    made_from g.D.Disk.told c.args.threads true c.in_ok-store.store.origin c.args.disk c.share.result.disk c.deref.result.now (arc_value c.args.scripted.now.tapes) c.args.scripted.now.script c.share.result.heard.items c.share.result.history.items c.if-threads.true c.in_ok-store.ensures.fresh.0 c.deref.ensures (c.share.ensures.finished done)

pub returns-clause-so_far : goal.returns-clause-so_far
returns-clause-so_far g c =
    let so_far = c.call_in_order.ensures.so_far in
    (so_far.0, begun_from g.D.Disk.told c.args.threads false c.in_ok-store.store.origin c.args.disk c.call_in_order.result.disk c.deref-2.result.now (arc_value c.args.scripted.now.tapes) c.args.scripted.now.script so_far.0 c.call_in_order.result.history.items c.if-threads.false c.in_ok-store.ensures.fresh.0 c.deref-2.ensures so_far.1)

pub returns-clause-finished : goal.returns-clause-finished
returns-clause-finished g c = λ done.
    made_from g.D.Disk.told c.args.threads false c.in_ok-store.store.origin c.args.disk c.call_in_order.result.disk c.deref-2.result.now (arc_value c.args.scripted.now.tapes) c.args.scripted.now.script c.call_in_order.result.heard.items c.call_in_order.result.history.items c.if-threads.false c.in_ok-store.ensures.fresh.0 c.deref-2.ensures (c.call_in_order.ensures.finished done)
