use Rattle.std.proofs.Common.{◌≡◌, ℕ, List, Option, None, IsTrue}
use Rattle.std.specs.Prelude.{map, IfErr}
use Rattle.voice_outside.specs.Counters.{HasRisen}
use Rattle.voice_model.specs.Samples.{Tagged}
use Rattle.voice_model.specs.State.{Durable, Effect}
use Rattle.voice_journal.specs.Readings.{framed_size}
use Rattle.voice_model.specs.Spelling.{spelling}
use Rattle.voice_model.specs.Base.{base_of}
use Rattle.voice_model.specs.Replay.{Rebuilt}
use Rattle.recovery.specs.Shown.{Rebuilds}
use Rattle.mirror_laws.specs.Standing.{Took}
use Rattle.mirror_tables.specs.Numbered.{plain_size}
use Rattle.mirror_tables.proofs.Sized.{plain_is}
use Rattle.voice_mirror.specs.Shown.{Keeps, KeepsSome, state_of}
use Rattle.voice_mirror.specs.Taking.{settled}
use Rattle.voice_mirror.specs.Promoting.{Goes, IsOfDevice, JudgesPromotion, PromotesAs}
use Rattle.voice_mirror.proofs.Promoted.{by_view}
use Rattle.voice_mirror.proofs.mirror.Mirror.promote.Goals as goal

pub returns-clause-had : goal.returns-clause-had
returns-clause-had g c = by_view c.self.view_is (λ v. IsTrue (g.D.Disk.told v.disk).honest → KeepsSome (g.D.Disk.told v.disk) v.state) c.self.invariant.keeps

pub returns-clause-judges : goal.returns-clause-judges
returns-clause-judges g c = by_view c.self.view_is (λ v. JudgesPromotion v.state c.promote-result.result) c.promote-result.ensures.judges

pub returns-clause-need : goal.returns-clause-need
returns-clause-need g c =
    by_view c.self.view_is (λ v. (b : Rebuilt) → Rebuilds (settled v.state).parts b → plain_size (settled v.state).parts ≡ framed_size (map spelling (base_of 2 b)))
    (λ b shows. plain_is (settled (state_of c.self.inside.inside)).parts b shows)

pub returns-clause-promotes : goal.returns-clause-promotes
returns-clause-promotes g c =
    by_view c.self.view_is (λ v.
    IsTrue (g.D.Disk.told v.disk).honest → (first : Durable Tagged) (from t0 : ℕ) (taken : List Took) (doubt : Option (Effect Tagged)) → Keeps first from t0 taken doubt (g.D.Disk.told v.disk) v.state
    → PromotesAs first from t0 taken doubt (g.D.Disk.told c.promote-result.new.disk) c.promote-result.result) c.promote-result.ensures.promotes

pub returns-clause-goes : goal.returns-clause-goes
returns-clause-goes g c = by_view c.self.view_is (λ v. Goes 8 (g.D.Disk.told v.disk) (g.D.Disk.told c.promote-result.new.disk)) c.promote-result.ensures.goes

pub returns-clause-unchanged : goal.returns-clause-unchanged
returns-clause-unchanged g c = by_view c.self.view_is (λ v. IfErr c.promote-result.result (λ e. ¬ IsOfDevice e → v.state.pending ≡ None → c.promote-result.new.disk ≡ v.disk)) c.promote-result.ensures.unchanged

pub returns-clause-fault : goal.returns-clause-fault
returns-clause-fault g c =
    by_view c.self.view_is (λ v. IfErr c.promote-result.result (λ e. IsOfDevice e → HasRisen (g.D.Disk.told v.disk).faults (g.D.Disk.told c.promote-result.new.disk).faults)) c.promote-result.ensures.fault
