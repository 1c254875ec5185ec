use Rattle.std.proofs.Common.{◌≡◌, ◌+◌, [], None, sym, ap, subst, ◌∙◌}
use Rattle.voice_model.specs.declared.changes.Change.{Change}
use Rattle.recovery.specs.Shown.{Rebuilds}
use Rattle.mirror_packets.specs.Packets as spec
use Rattle.crash_laws.specs.Standing.{IsHonest}
use Rattle.voice_mirror.specs.Shown.{MirrorState, Keeps, state_of}
use Rattle.voice_mirror.specs.declared.answers.Taken.TheVariants.{JournalFull}
use Rattle.voice_mirror.specs.Taking.{Becomes, AnswersBody}
use Rattle.voice_mirror.specs.Ready.{EachReadied}
use Rattle.voice_mirror.proofs.Answering.{answers_put, answers_full, shown_ready}
use Rattle.voice_mirror.proofs.Bodies.{body_takes}
use Rattle.voice_mirror.proofs.Committed.{shape_of}
use Rattle.voice_mirror.proofs.taking.take_other.Goals as goal

pub commit-requires-clause-standing : goal.commit-requires-clause-standing
commit-requires-clause-standing g c = λ κs lives. c.in_ok-ready.ensures.standing (g.D.Disk.told c.args.disk.now).size c.requires.standing

pub returns-in-Goes-clause-answers : goal.returns-in-Goes-clause-answers
returns-in-Goes-clause-answers g c =
    let s = state_of c.args.inside.now in
    let body = spec.Body.Other c.args.change.now in
    let each = subst (λ (x : Change). EachReadied s c.args.number x c.in_ok-ready.field-0) c.in_ok-copy.ensures c.in_ok-ready.ensures.readied in
    answers_put c.bodies_do.ensures (g.D.Disk.told c.args.disk.now).size s c.requires.standing.upright c.args.number [] body c.requires.good (λ b shows here. tt) tt tt c.in_ok-ready.field-0 each c.in-Goes.ready c.in-Goes.is
    c.commit.result (state_of c.commit.new.inside) c.commit.ensures.put
    (subst (λ (m : MirrorState). Becomes m c.commit.result (state_of c.commit.new.inside)) (ap state_of c.make_ready.ensures.rest) c.commit.ensures.becomes)

pub returns-in-Goes-clause-takes : goal.returns-in-Goes-clause-takes
returns-in-Goes-clause-takes g c =
    λ honest first from t0 taken keeps.
    let s = state_of c.args.inside.now in
    let m = state_of c.make_ready.new.inside in
    let same : m ≡ s = ap state_of c.make_ready.ensures.rest in
    let old = g.D.Disk.told c.args.disk.now in
    let new = g.D.Disk.told c.commit.new.disk in
    let laws = g.met.D.Disk g.world.𝓛 g.world.𝓜 g.world.𝓡 ((λ s x. x), (λ x. x), (λ x. x), λ x. x) in
    let is : IsHonest old = record { since = laws.since c.args.disk.now; present = laws.present c.args.disk.now honest } in
    let k : Keeps first from t0 taken None old m = subst (λ (x : MirrorState). Keeps first from t0 taken None old x) (sym same) keeps in
    let shows = subst (λ (x : MirrorState). Rebuilds x.parts k.now) same k.shows in
    let here = shape_of c.foundations.ensures old is first from t0 taken m k ∙ ap (λ (x : MirrorState). x.journal.shape) same in
    let got = shown_ready s c.args.number c.in_ok-copy.copy c.in_ok-ready.field-0 c.in_ok-ready.ensures.readied c.in-Goes.ready c.in-Goes.is k.now shows here in
    body_takes c.foundations.ensures old is first from t0 taken m k c.bodies_do.ensures c.args.number (c.requires.next ∙ ap (λ (x : MirrorState). x.position + 1) (sym same)) [] (spec.Body.Other c.args.change.now) c.requires.good c.in-Goes.ready.change
    (got.same ∙ c.in_ok-copy.ensures) got.legal_ready tt tt new (state_of c.commit.new.inside) c.commit.result (λ effect does. c.commit.ensures.commits honest first from t0 taken effect k does)

pub returns-in-Full-clause-answers : goal.returns-in-Full-clause-answers
returns-in-Full-clause-answers g c =
    let s = state_of c.args.inside.now in
    let body = spec.Body.Other c.args.change.now in
    let each = subst (λ (x : Change). EachReadied s c.args.number x c.in_ok-ready.field-0) c.in_ok-copy.ensures c.in_ok-ready.ensures.readied in
    subst (λ (m : MirrorState). AnswersBody s body (JournalFull c.in-Full.need c.in-Full.left) m) (sym (ap state_of c.make_ready.ensures.rest))
    (answers_full c.bodies_do.ensures (g.D.Disk.told c.args.disk.now).size s c.requires.standing.upright c.args.number [] body c.requires.good (λ b shows here. tt) tt tt c.in_ok-ready.field-0 each c.in-Full.need c.in-Full.left c.in-Full.is)
