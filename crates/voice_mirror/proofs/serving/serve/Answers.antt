use Rattle.std.proofs.Common.{◌+◌, ◌++◌, ◌∷◌, [], List, take, inl, inr, refl, sym, subst}
use Rattle.mirror_packets.specs.Packets.{Packet}
use Rattle.mirror_packets.specs.Shown.{packet_of, packets_of}
use Rattle.mirror_effects.specs.Fronts.{AreOutOf}
use Rattle.voice_mirror.specs.declared.answers.Taken.{Taken}
use Rattle.voice_mirror.specs.Promoting.{Goes}
use Rattle.voice_mirror.specs.Shown.{state_of}
use Rattle.voice_mirror.specs.Serving.{Serves, packets_calls}
use Rattle.voice_mirror.proofs.Put.{on_err}
use Rattle.voice_mirror.proofs.Served.{Serving, none_served, served_more, goes_then, some_then, fronts_then, one_more, good_at, front_out_of, goes_within, stops_behind}
use Rattle.voice_mirror.proofs.serving.serve.Goals as goal

pub take-requires-clause-good : goal.take-requires-clause-good
take-requires-clause-good g c = λ κs lives. good_at c.args.packets.now c.loop-packet.packet-index c.packet-item.result c.loop-packet-test.true c.packet-item.is c.requires.good

pub returns-in_err-answers-clause-memory : goal.returns-in_err-answers-clause-memory
returns-in_err-answers-clause-memory g c = let s = state_of c.args.inside.now in on_err c.from_residual.result (stops_behind s s s c.args.packets.now 0 [] refl (inl refl))

pub returns-in_err-answer-clause-goes : goal.returns-in_err-answer-clause-goes
returns-in_err-answer-clause-goes g c =
    let old = g.D.Disk.told c.args.disk.now in
    let new = g.D.Disk.told c.take.new.disk in
    let k = c.loop-packet.packet-index in
    let block = c.args.inside.now.journal.shape.block in
    let more = one_more c.args.packets.now k c.packet-item.result c.loop-packet-test.true c.packet-item.is in
    goes_within block c.args.packets.now (k + 1) old new
    (subst (λ (ps : List Packet). Goes (packets_calls block ps) old new) (sym more)
    (goes_then c.bodies_do.ensures c.may_be_taken.ensures c.fronts_grow.ensures old (g.D.Disk.told c.loop-packet.disk) new c.args.inside.now c.loop-packet.inside c.take.new.inside
    (packets_of (take k c.args.packets.now)) c.loop-packet.answers.items (packet_of c.packet-item.result) c.loop-packet.invariant c.take.ensures.goes c.take.ensures.standing c.take.result c.take.ensures.takes))

pub returns-in_err-answer-clause-memory : goal.returns-in_err-answer-clause-memory
returns-in_err-answer-clause-memory g c =
    on_err c.from_residual-in_err-answer.result
    (stops_behind (state_of c.args.inside.now) (state_of c.loop-packet.inside) (state_of c.take.new.inside) c.args.packets.now c.loop-packet.packet-index c.loop-packet.answers.items c.loop-packet.invariant.served (inr c.in_err-answer.ensures.memory))

pub returns-in_err-answer-clause-some : goal.returns-in_err-answer-clause-some
returns-in_err-answer-clause-some g c =
    some_then c.bodies_do.ensures c.may_be_taken.ensures c.fronts_grow.ensures (g.D.Disk.told c.args.disk.now) (g.D.Disk.told c.loop-packet.disk) (g.D.Disk.told c.take.new.disk) c.args.inside.now c.loop-packet.inside c.take.new.inside
    (packets_of (take c.loop-packet.packet-index c.args.packets.now)) c.loop-packet.answers.items (packet_of c.packet-item.result) c.loop-packet.invariant c.take.ensures.goes c.take.ensures.standing c.take.result c.take.ensures.takes

pub returns-in_err-answer-clause-fronts : goal.returns-in_err-answer-clause-fronts
returns-in_err-answer-clause-fronts g c =
    λ honest start effects first from t0 legal of has.
    let k = c.loop-packet.packet-index in
    let more = one_more c.args.packets.now k c.packet-item.result c.loop-packet-test.true c.packet-item.is in
    fronts_then c.bodies_do.ensures c.may_be_taken.ensures c.fronts_grow.ensures (g.D.Disk.told c.args.disk.now) (g.D.Disk.told c.loop-packet.disk) (g.D.Disk.told c.take.new.disk) c.args.inside.now c.loop-packet.inside c.take.new.inside
    (packets_of (take k c.args.packets.now)) c.loop-packet.answers.items (packet_of c.packet-item.result) c.loop-packet.invariant c.take.ensures.goes c.take.ensures.standing c.take.result c.take.ensures.takes
    honest start effects first from t0 legal (subst (λ (ps : List Packet). AreOutOf effects ps) more (front_out_of effects c.args.packets.now (k + 1) of)) has

pub returns-in_err-push-clause-goes : goal.returns-in_err-push-clause-goes
returns-in_err-push-clause-goes g c =
    let old = g.D.Disk.told c.args.disk.now in
    let new = g.D.Disk.told c.take.new.disk in
    let k = c.loop-packet.packet-index in
    let block = c.args.inside.now.journal.shape.block in
    let more = one_more c.args.packets.now k c.packet-item.result c.loop-packet-test.true c.packet-item.is in
    goes_within block c.args.packets.now (k + 1) old new
    (subst (λ (ps : List Packet). Goes (packets_calls block ps) old new) (sym more)
    (goes_then c.bodies_do.ensures c.may_be_taken.ensures c.fronts_grow.ensures old (g.D.Disk.told c.loop-packet.disk) new c.args.inside.now c.loop-packet.inside c.take.new.inside
    (packets_of (take k c.args.packets.now)) c.loop-packet.answers.items (packet_of c.packet-item.result) c.loop-packet.invariant c.take.ensures.goes c.take.ensures.standing c.take.result c.take.ensures.takes))

pub returns-in_err-push-clause-memory : goal.returns-in_err-push-clause-memory
returns-in_err-push-clause-memory g c =
    let packets = c.args.packets.now in
    let k = c.loop-packet.packet-index in
    let t = c.take.new.inside in
    let more = one_more packets k c.packet-item.result c.loop-packet-test.true c.packet-item.is in
    let then = served_more c.bodies_do.ensures c.may_be_taken.ensures c.fronts_grow.ensures (g.D.Disk.told c.args.disk.now) (g.D.Disk.told c.loop-packet.disk) (g.D.Disk.told c.take.new.disk) c.args.inside.now c.loop-packet.inside t (packets_of (take k packets))
    c.loop-packet.answers.items (packet_of c.packet-item.result) c.loop-packet.invariant c.take.ensures.goes c.take.ensures.standing c.take.result c.take.ensures.takes c.in_ok-answer.answer c.take.ensures.shape c.in_ok-answer.ensures.judges c.in_ok-answer.ensures.fault in
    on_err c.from_residual-in_err-push.result
    (stops_behind (state_of c.args.inside.now) (state_of t) (state_of t) packets (k + 1) (c.loop-packet.answers.items ++ c.in_ok-answer.answer ∷ [])
    (subst (λ (ps : List Packet). Serves (state_of c.args.inside.now) ps (c.loop-packet.answers.items ++ c.in_ok-answer.answer ∷ []) (state_of t)) (sym more) then.served) (inl refl))

pub returns-in_err-push-clause-some : goal.returns-in_err-push-clause-some
returns-in_err-push-clause-some g c =
    some_then c.bodies_do.ensures c.may_be_taken.ensures c.fronts_grow.ensures (g.D.Disk.told c.args.disk.now) (g.D.Disk.told c.loop-packet.disk) (g.D.Disk.told c.take.new.disk) c.args.inside.now c.loop-packet.inside c.take.new.inside
    (packets_of (take c.loop-packet.packet-index c.args.packets.now)) c.loop-packet.answers.items (packet_of c.packet-item.result) c.loop-packet.invariant c.take.ensures.goes c.take.ensures.standing c.take.result c.take.ensures.takes

pub returns-in_err-push-clause-fronts : goal.returns-in_err-push-clause-fronts
returns-in_err-push-clause-fronts g c =
    λ honest start effects first from t0 legal of has.
    let k = c.loop-packet.packet-index in
    let more = one_more c.args.packets.now k c.packet-item.result c.loop-packet-test.true c.packet-item.is in
    fronts_then c.bodies_do.ensures c.may_be_taken.ensures c.fronts_grow.ensures (g.D.Disk.told c.args.disk.now) (g.D.Disk.told c.loop-packet.disk) (g.D.Disk.told c.take.new.disk) c.args.inside.now c.loop-packet.inside c.take.new.inside
    (packets_of (take k c.args.packets.now)) c.loop-packet.answers.items (packet_of c.packet-item.result) c.loop-packet.invariant c.take.ensures.goes c.take.ensures.standing c.take.result c.take.ensures.takes
    honest start effects first from t0 legal (subst (λ (ps : List Packet). AreOutOf effects ps) more (front_out_of effects c.args.packets.now (k + 1) of)) has

pub loop-packet-preserved : goal.loop-packet-preserved
loop-packet-preserved g c =
    let old = g.D.Disk.told c.args.disk.now in
    let mid = g.D.Disk.told c.loop-packet.disk in
    let new = g.D.Disk.told c.take.new.disk in
    let k = c.loop-packet.packet-index in
    let packets = packets_of (take k c.args.packets.now) in
    let packet = packet_of c.packet-item.result in
    let more = one_more c.args.packets.now k c.packet-item.result c.loop-packet-test.true c.packet-item.is in
    subst (λ (ps : List Packet). Serving old new c.args.inside.now c.take.new.inside ps c.push.new.self.items) (sym more)
    (subst (λ (answers : List Taken). Serving old new c.args.inside.now c.take.new.inside (packets ++ packet ∷ []) answers) (sym c.in_ok-push.ensures.items)
    (served_more c.bodies_do.ensures c.may_be_taken.ensures c.fronts_grow.ensures old mid new c.args.inside.now c.loop-packet.inside c.take.new.inside packets c.loop-packet.answers.items packet c.loop-packet.invariant c.take.ensures.goes c.take.ensures.standing
    c.take.result c.take.ensures.takes c.in_ok-answer.answer c.take.ensures.shape c.in_ok-answer.ensures.judges c.in_ok-answer.ensures.fault))

pub loop-packet-init : goal.loop-packet-init
loop-packet-init g c =
    let old = g.D.Disk.told c.args.disk.now in
    let s = c.args.inside.now in
    subst (λ (answers : List Taken). Serving old old s s [] answers) (sym c.in_ok-answers.ensures.items) (none_served old s c.requires.standing)
