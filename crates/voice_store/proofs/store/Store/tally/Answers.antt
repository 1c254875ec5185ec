use Rattle.std.proofs.Common.{◌≡◌, ◌+◌, List, length, sym, ◌∙◌, ap, subst, arith}
use Rattle.std.proofs.lemmas.List.{length-map}
use Rattle.voice_units.specs.declared.shapes.Shape.{Shape}
use Rattle.voice_model.specs.Samples.{Tagged}
use Rattle.voice_model.specs.State.{Live}
use Rattle.voice_model.specs.Room.{used}
use Rattle.voice_model.specs.Replay.{live_by}
use Rattle.running_tables.specs.Running.{held_in, pledged_in, takings_in}
use Rattle.tallies.specs.Tallies.{samples_of}
use Rattle.tallies.proofs.Held.{mapped_samples}
use Rattle.voice_store.specs.Stood.{last_of}
use Rattle.voice_store.specs.Shown.{Stands, state_of}
use Rattle.voice_store.proofs.Spare.{runs_now, used_or_open, filled_ropes, shape_now}
use Rattle.voice_store.proofs.store.Store.tally.Goals as goal

pub tallied-requires : goal.tallied-requires
tallied-requires g c =
    let was = c.self.invariant in
    let t0 = (g.D.Disk.told c.self.inside.origin.value).calls + 1 in
    let disk = g.D.Disk.told c.self.inside.disk in
    let s = c.self.inside.inside in
    let stood = was.stands.stood in
    let last = last_of was.first s in (
      held_in last,
      pledged_in last,
      takings_in last,
      stood.b,
      runs_now was.first t0 disk s stood,
      shape_now was.first t0 disk s stood ∙ sym c.shape.ensures,
    )

pub returns-clause-ropes : goal.returns-clause-ropes
returns-clause-ropes g c = λ first stands.
    let was = subst (λ v. Stands first (g.D.Disk.told v.origin) (g.D.Disk.told v.disk) v.inside v.wanted) (sym c.self.view_is) stands in
    let t0 = (g.D.Disk.told c.self.inside.origin.value).calls + 1 in
    let disk = g.D.Disk.told c.self.inside.disk in
    let s = c.self.inside.inside in
    let last = last_of first s in
    subst (λ v. c.tallied.result.ropes ≡ length (state_of first v).kept.ropes) c.self.view_is
    (c.tallied.ensures.ropes (held_in last) (pledged_in last) (takings_in last) was.stood.b (runs_now first t0 disk s was.stood)
    ∙ sym (ap (λ (l : List (Live Tagged)). length l) (filled_ropes first t0 disk s was.stood) ∙ length-map was.stood.b.kept.ropes (live_by was.stood.fill)))

pub returns-clause-samples : goal.returns-clause-samples
returns-clause-samples g c = λ first stands.
    let was = subst (λ v. Stands first (g.D.Disk.told v.origin) (g.D.Disk.told v.disk) v.inside v.wanted) (sym c.self.view_is) stands in
    let t0 = (g.D.Disk.told c.self.inside.origin.value).calls + 1 in
    let disk = g.D.Disk.told c.self.inside.disk in
    let s = c.self.inside.inside in
    let last = last_of first s in
    subst (λ v. c.tallied.result.samples ≡ samples_of (state_of first v).kept.ropes) c.self.view_is
    (c.tallied.ensures.samples (held_in last) (pledged_in last) (takings_in last) was.stood.b (runs_now first t0 disk s was.stood)
    ∙ sym (ap (λ (l : List (Live Tagged)). samples_of l) (filled_ropes first t0 disk s was.stood) ∙ mapped_samples was.stood.fill was.stood.b.kept.ropes))

pub returns-clause-blocks : goal.returns-clause-blocks
returns-clause-blocks g c = λ first stands.
    let was = subst (λ v. Stands first (g.D.Disk.told v.origin) (g.D.Disk.told v.disk) v.inside v.wanted) (sym c.self.view_is) stands in
    let t0 = (g.D.Disk.told c.self.inside.origin.value).calls + 1 in
    let disk = g.D.Disk.told c.self.inside.disk in
    let s = c.self.inside.inside in
    let all = used_or_open first t0 disk s was.stood in
    let counted = c.tallied.ensures.blocks in
    let same = ap (λ (x : Shape). x.blocks) (was.stood.upright.seated.shape ∙ sym c.shape.ensures) in
    subst (λ v. c.tallied.result.blocks ≡ used (state_of first v)) c.self.view_is (omega (arith, all, counted, same))
