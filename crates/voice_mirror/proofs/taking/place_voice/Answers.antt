use Rattle.std.proofs.Common.{None, sym, ap, subst}
use Rattle.std.specs.Prelude.{is_some}
use Rattle.voice_model.specs.Replay.{brings}
use Rattle.voice_model.specs.declared.changes.Change.{Change}
use Rattle.mirror_packets.specs.Packets as spec
use Rattle.voice_mirror.specs.declared.answers.Taken.TheVariants.{JournalFull}
use Rattle.voice_mirror.specs.Shown.{MirrorState, Keeps, state_of}
use Rattle.voice_mirror.specs.Taking.{Becomes, AnswersBody}
use Rattle.voice_mirror.specs.Ready.{EachReadied}
use Rattle.voice_mirror.proofs.Answering.{answers_put, answers_full, may_commit, gets_free}
use Rattle.voice_mirror.proofs.taking.place_voice.Goals as goal

pub write_and_commit-requires-clause-standing : goal.write_and_commit-requires-clause-standing
write_and_commit-requires-clause-standing g c = λ κs lives. c.in_ok-ready.ensures.standing (g.D.Disk.told c.args.disk.now).size c.requires.standing

pub write_and_commit-requires-clause-may : goal.write_and_commit-requires-clause-may
write_and_commit-requires-clause-may g c =
    λ κs lives.
    let s = state_of c.args.inside.now in
    may_commit (g.D.Disk.told c.args.disk.now).size s (state_of c.make_ready.new.inside) c.args.number c.args.change c.in_ok-ready.field-0 c.in-Goes.ready (ap state_of c.make_ready.ensures.rest) c.requires.standing.upright
    c.in_ok-ready.ensures.readied c.in-Goes.is c.requires.grammar (ap (λ (x : Change). is_some (brings x)) c.requires.change) c.requires.sure c.requires.next c.requires.low

pub returns-in-Goes-clause-answers : goal.returns-in-Goes-clause-answers
returns-in-Goes-clause-answers g c =
    let s = state_of c.args.inside.now in
    let voice = c.args.voice in
    let body = spec.Body.Voice voice.id voice.samples.now in
    let what = c.requires.standing.upright.tables in
    let each = subst (λ (x : Change). EachReadied s c.args.number x c.in_ok-ready.field-0) c.requires.change c.in_ok-ready.ensures.readied in
    answers_put c.bodies_do.ensures (g.D.Disk.told c.args.disk.now).size s c.requires.standing.upright c.args.number voice.addresses.items body c.requires.good (gets_free s voice.id voice.samples.now voice.addresses.items c.requires.free)
    (c.requires.free what.what what.shows).count c.requires.enough c.in_ok-ready.field-0 each c.in-Goes.ready c.in-Goes.is
    c.write_and_commit.result (state_of c.write_and_commit.new.inside) c.write_and_commit.ensures.put
    (subst (λ (m : MirrorState). Becomes m c.write_and_commit.result (state_of c.write_and_commit.new.inside)) (ap state_of c.make_ready.ensures.rest) c.write_and_commit.ensures.becomes)

pub returns-in-Goes-clause-takes : goal.returns-in-Goes-clause-takes
returns-in-Goes-clause-takes g c =
    λ honest first from t0 taken keeps.
    c.write_and_commit.ensures.takes honest first from t0 taken (subst (λ (x : MirrorState). Keeps first from t0 taken None (g.D.Disk.told c.args.disk.now) x) (sym (ap state_of c.make_ready.ensures.rest)) keeps)

pub returns-in-Full-clause-standing : goal.returns-in-Full-clause-standing
returns-in-Full-clause-standing g c = c.in_ok-ready.ensures.standing (g.D.Disk.told c.args.disk.now).size c.requires.standing

pub returns-in-Full-clause-answers : goal.returns-in-Full-clause-answers
returns-in-Full-clause-answers g c =
    let s = state_of c.args.inside.now in
    let voice = c.args.voice in
    let body = spec.Body.Voice voice.id voice.samples.now in
    let what = c.requires.standing.upright.tables in
    let each = subst (λ (x : Change). EachReadied s c.args.number x c.in_ok-ready.field-0) c.requires.change c.in_ok-ready.ensures.readied in
    subst (λ (m : MirrorState). AnswersBody s body (JournalFull c.in-Full.need c.in-Full.left) m) (sym (ap state_of c.make_ready.ensures.rest))
    (answers_full c.bodies_do.ensures (g.D.Disk.told c.args.disk.now).size s c.requires.standing.upright c.args.number voice.addresses.items body c.requires.good (gets_free s voice.id voice.samples.now voice.addresses.items c.requires.free)
    (c.requires.free what.what what.shows).count c.requires.enough c.in_ok-ready.field-0 each c.in-Full.need c.in-Full.left c.in-Full.is)
