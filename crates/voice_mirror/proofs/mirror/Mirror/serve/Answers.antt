use Rattle.std.proofs.Common.{◌≡◌, ℕ, List, IsTrue, refl}
use Rattle.std.specs.Prelude.{IfOk, OnErr}
use Rattle.voice_model.specs.Samples.{Tagged}
use Rattle.voice_model.specs.State.{Durable, Effect}
use Rattle.mirror_packets.specs.Shown.{packets_of}
use Rattle.mirror_effects.specs.Fronts.{AreLegal, AreOutOf}
use Rattle.voice_mirror.specs.Shown.{KeepsSome, state_of}
use Rattle.voice_mirror.specs.Promoting.{Goes}
use Rattle.voice_mirror.specs.Serving.{Serves, HaveRisen, HasFront, StopsWithin, packets_calls}
use Rattle.voice_mirror.proofs.Opened.{whole_then}
use Rattle.voice_mirror.proofs.Promoted.{by_view}
use Rattle.voice_mirror.proofs.mirror.Mirror.serve.Goals as goal

pub invariant_of-self : goal.invariant_of-self
invariant_of-self g c =
    let goes = c.serve.ensures.goes in
    whole_then (g.D.Disk.told c.self.inside.origin.value) (g.D.Disk.told c.self.inside.disk) (g.D.Disk.told c.serve.new.disk) c.self.inside.inside c.serve.new.inside c.self.invariant goes.size goes.honest goes.later goes.faults c.serve.ensures.standing c.serve.ensures.some

pub returns-clause-some : goal.returns-clause-some
returns-clause-some g c =
    by_view c.self.view_is (λ v. IsTrue (g.D.Disk.told v.disk).honest → KeepsSome (g.D.Disk.told v.disk) v.state → KeepsSome (g.D.Disk.told c.serve.new.disk) (state_of c.serve.new.inside)) c.serve.ensures.some

pub returns-clause-fronts : goal.returns-clause-fronts
returns-clause-fronts g c =
    by_view c.self.view_is (λ v.
    IsTrue (g.D.Disk.told v.disk).honest → (start : Durable Tagged) (effects : List (Effect Tagged)) (first : Durable Tagged) (from t0 : ℕ) → AreLegal start effects → AreOutOf effects (packets_of c.args.packets.now)
    → HasFront start effects first from t0 (g.D.Disk.told v.disk) v.state → HasFront start effects first from t0 (g.D.Disk.told c.serve.new.disk) (state_of c.serve.new.inside)) c.serve.ensures.fronts

pub returns-clause-goes : goal.returns-clause-goes
returns-clause-goes g c = by_view c.self.view_is (λ v. Goes (packets_calls v.state.journal.shape.block (packets_of c.args.packets.now)) (g.D.Disk.told v.disk) (g.D.Disk.told c.serve.new.disk)) c.serve.ensures.goes

pub returns-clause-shape : goal.returns-clause-shape
returns-clause-shape g c = by_view c.self.view_is (λ v. c.serve.new.inside.journal.shape ≡ v.state.journal.shape) c.serve.ensures.shape

pub returns-clause-origin : goal.returns-clause-origin
returns-clause-origin g c = by_view c.self.view_is (λ v. c.self.inside.origin.value ≡ v.origin) refl

pub returns-clause-served : goal.returns-clause-served
returns-clause-served g c = by_view c.self.view_is (λ v. IfOk c.serve.result (λ answers. Serves v.state (packets_of c.args.packets.now) answers.items (state_of c.serve.new.inside))) c.serve.ensures.served

pub returns-clause-memory : goal.returns-clause-memory
returns-clause-memory g c = by_view c.self.view_is (λ v. OnErr c.serve.result (StopsWithin v.state (packets_of c.args.packets.now) (state_of c.serve.new.inside))) c.serve.ensures.memory

pub returns-clause-faults : goal.returns-clause-faults
returns-clause-faults g c = by_view c.self.view_is (λ v. IfOk c.serve.result (λ answers. HaveRisen answers.items (g.D.Disk.told v.disk).faults (g.D.Disk.told c.serve.new.disk).faults)) c.serve.ensures.faults

pub returns-clause-held : goal.returns-clause-held
returns-clause-held g c = c.serve.ensures.held
