use Rattle.std.proofs.Common.{◌≡◌, ℕ, List, Option, None, IsTrue, refl}
use Rattle.std.specs.Prelude.{IfOk, OnErr}
use Rattle.voice_outside.specs.Counters.{HasRisen}
use Rattle.voice_model.specs.Samples.{Tagged}
use Rattle.voice_model.specs.State.{Durable, Effect}
use Rattle.mirror_laws.specs.Standing.{Took}
use Rattle.mirror_packets.specs.Shown.{packet_of}
use Rattle.voice_mirror.specs.Shown.{Keeps, state_of}
use Rattle.voice_mirror.specs.Taking.{settled, packet_calls, Judges, TakesOr}
use Rattle.voice_mirror.specs.Ready.{IsPut, IsOfDevice}
use Rattle.voice_mirror.specs.Promoting.{Goes}
use Rattle.voice_mirror.proofs.Growing.{some_more}
use Rattle.voice_mirror.proofs.Opened.{whole_then}
use Rattle.voice_mirror.proofs.Planning.{size_then_is}
use Rattle.voice_mirror.proofs.Promoted.{by_view}
use Rattle.voice_mirror.proofs.mirror.Mirror.take.Goals as goal

pub invariant_of-self : goal.invariant_of-self
invariant_of-self g c =
    let s = c.self.inside.inside in
    let t = c.take.new.inside in
    let old = g.D.Disk.told c.self.inside.disk in
    let new = g.D.Disk.told c.take.new.disk in
    let goes = c.take.ensures.goes in
    whole_then (g.D.Disk.told c.self.inside.origin.value) old new s t c.self.invariant goes.size goes.honest goes.later goes.faults c.take.ensures.standing
    (λ honest some. some_more old new (state_of s) (state_of t) (packet_of c.args.packet.now) c.take.result (c.take.ensures.takes honest) some)

pub returns-clause-goes : goal.returns-clause-goes
returns-clause-goes g c =
    by_view c.self.view_is (λ v. Goes (packet_calls v.state.journal.shape.block (packet_of c.args.packet.now)) (g.D.Disk.told v.disk) (g.D.Disk.told c.take.new.disk)) c.take.ensures.goes

pub returns-clause-origin : goal.returns-clause-origin
returns-clause-origin g c = by_view c.self.view_is (λ v. c.self.inside.origin.value ≡ v.origin) refl

pub returns-clause-shape : goal.returns-clause-shape
returns-clause-shape g c = by_view c.self.view_is (λ v. c.take.new.inside.journal.shape ≡ v.state.journal.shape) c.take.ensures.shape

pub returns-clause-judges : goal.returns-clause-judges
returns-clause-judges g c = by_view c.self.view_is (λ v. IfOk c.take.result (λ answer. Judges v.state (packet_of c.args.packet.now) answer (state_of c.take.new.inside))) c.take.ensures.judges

pub returns-clause-need : goal.returns-clause-need
returns-clause-need g c = λ b x parts n shows same. size_then_is b x parts n (packet_of c.args.packet.now).body shows same

pub returns-clause-fault : goal.returns-clause-fault
returns-clause-fault g c =
    by_view c.self.view_is (λ v. IfOk c.take.result (λ answer. IsOfDevice answer → HasRisen (g.D.Disk.told v.disk).faults (g.D.Disk.told c.take.new.disk).faults)) c.take.ensures.fault

pub returns-clause-refused : goal.returns-clause-refused
returns-clause-refused g c = by_view c.self.view_is (λ v. IfOk c.take.result (λ answer. ¬ IsPut answer → v.state.pending ≡ None → c.take.new.disk ≡ v.disk)) c.take.ensures.refused

pub returns-clause-memory : goal.returns-clause-memory
returns-clause-memory g c = by_view c.self.view_is (λ v. OnErr c.take.result (state_of c.take.new.inside ≡ settled v.state)) c.take.ensures.memory

pub returns-clause-unwritten : goal.returns-clause-unwritten
returns-clause-unwritten g c = by_view c.self.view_is (λ v. OnErr c.take.result (v.state.pending ≡ None → c.take.new.disk ≡ v.disk)) c.take.ensures.unwritten

pub returns-clause-takes : goal.returns-clause-takes
returns-clause-takes g c =
    by_view c.self.view_is (λ v.
    IsTrue (g.D.Disk.told v.disk).honest → (first : Durable Tagged) (from t0 : ℕ) (taken : List Took) (doubt : Option (Effect Tagged)) → Keeps first from t0 taken doubt (g.D.Disk.told v.disk) v.state
    → TakesOr first from t0 taken doubt (g.D.Disk.told c.take.new.disk) (state_of c.take.new.inside) (packet_of c.args.packet.now) c.take.result) c.take.ensures.takes
