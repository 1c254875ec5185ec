use Rattle.std.proofs.Common.{◌≡◌, ◌≤◌, ◌^◌, refl, subst}
use Rattle.std.specs.Prelude.{Ok, Err}
use Rattle.next_changes.specs.declared.NextChange.TheVariants.{Other}
use Rattle.voice_store.specs.declared.going.Going.TheVariants as goings
use Rattle.voice_store.specs.declared.ways.Way.{Way}
use Rattle.voice_store.specs.declared.ways.Way.TheVariants.{Append}
use Rattle.voice_store.specs.Ways.{IsWay}
use Rattle.voice_store.specs.Stood.{last_of}
use Rattle.voice_store.proofs.CanGo.{can_go}
use Rattle.voice_store.proofs.Kept.{is_sure, not_full}
use Rattle.voice_store.proofs.Making.{nothing_lands}
use Rattle.voice_model.specs.Replay.{acted}
use Rattle.voice_store.proofs.Altered.{effect, change, ready_in, going_in, weighs, grows, altering_full, altering_free, trying_change}
use Rattle.voice_store.proofs.Counted.{altered_within}
use Rattle.voice_store.proofs.inside.Inside.send.Goals as goal

pub way_of-requires : goal.way_of-requires
way_of-requires g c =
    let h = c.requires.alters in
    ready_in h.0 h.1 (g.D.Disk.told c.args.disk.now) c.args.self.now c.args.call c.args.ready c.args.replies.0 c.args.growth h.2

pub returns-in-Full-clause-stood : goal.returns-in-Full-clause-stood
returns-in-Full-clause-stood g c = λ first t0 h.
    let s = c.args.self.now in
    let disk = g.D.Disk.told c.args.disk.now in
    let last = last_of first s in
    let made = effect first t0 disk s c.args.call c.args.ready c.args.replies.0 c.args.growth h in
    let then = change first t0 disk s c.args.call c.args.ready c.args.replies.0 c.args.growth h in
    let full = subst (λ (w : Way). IsWay last made w) c.in-Full.is
    (c.in_ok-way.ensures.way h.stood.b then last made (weighs first t0 disk s c.args.call c.args.ready c.args.replies.0 c.args.growth h) (grows first t0 disk s c.args.call c.args.ready c.args.replies.0 c.args.growth h)) in
    c.refuse.ensures.stood first t0 h.stood (nothing_lands last c.args.call (is_sure first t0 disk s h.stood h.sure).in_state)
    (altering_full first t0 disk s c.args.call c.args.ready c.args.replies.0 c.args.growth h c.in-Full.most c.in-Full.left full)

pub plan-requires : goal.plan-requires
plan-requires g c =
    let h = c.requires.alters in
    going_in h.0 h.1 (g.D.Disk.told c.args.disk.now) c.args.self.now c.args.call c.args.ready c.args.replies.0 c.args.growth h.2

pub commit-requires-clause-can : goal.commit-requires-clause-can
commit-requires-clause-can g c κs within =
    let s = c.args.self.now in
    let disk = g.D.Disk.told c.args.disk.now in
    let first = c.requires.alters.0 in
    let t0 = c.requires.alters.1 in
    let h = c.requires.alters.2 in
    let last = last_of first s in
    let made = effect first t0 disk s c.args.call c.args.ready c.args.replies.0 c.args.growth h in
    let then = change first t0 disk s c.args.call c.args.ready c.args.replies.0 c.args.growth h in
    let w = weighs first t0 disk s c.args.call c.args.ready c.args.replies.0 c.args.growth h in
    let goes = c.in_ok-way.ensures.way h.stood.b then last made w (grows first t0 disk s c.args.call c.args.ready c.args.replies.0 c.args.growth h) in
    let free = not_full last made _ goes c.in_default.not-Full in
    can_go first t0 disk s h.stood.b (goings.Change (Other c.args.ready)) then made c.args.caller c.args.call c.args.replies.0
    (trying_change first t0 disk s c.args.call c.args.ready c.args.replies.0 c.args.growth h c.foundations.ensures c.disks_are_honest.ensures c.args.caller free)
    (subst (λ n. n ≤ 2 ^ 48) c.epoch-most.ensures.value c.epoch-most.ensures.most)
    c.in_ok-plan-in_default.plan (c.in_ok-plan-in_default.ensures.planned w.held w.takings w.takings h.stood.b then last made (refl, w.is_next) w.in_shape goes free)

pub commit-requires-clause-ready : goal.commit-requires-clause-ready
commit-requires-clause-ready g c κs within =
    let h = c.requires.alters in
    going_in h.0 h.1 (g.D.Disk.told c.args.disk.now) c.args.self.now c.args.call c.args.ready c.args.replies.0 c.args.growth h.2

pub returns-in_ok-plan-in_default-clause-stood : goal.returns-in_ok-plan-in_default-clause-stood
returns-in_ok-plan-in_default-clause-stood g c = λ first t0 h.
    let s = c.args.self.now in
    let disk = g.D.Disk.told c.args.disk.now in
    let last = last_of first s in
    let made = effect first t0 disk s c.args.call c.args.ready c.args.replies.0 c.args.growth h in
    let then = change first t0 disk s c.args.call c.args.ready c.args.replies.0 c.args.growth h in
    let w = weighs first t0 disk s c.args.call c.args.ready c.args.replies.0 c.args.growth h in
    let goes = c.in_ok-way.ensures.way h.stood.b then last made w (grows first t0 disk s c.args.call c.args.ready c.args.replies.0 c.args.growth h) in
    let free = not_full last made _ goes c.in_default.not-Full in
    c.commit.ensures.stood first t0 h.stood.b then made
    (trying_change first t0 disk s c.args.call c.args.ready c.args.replies.0 c.args.growth h c.foundations.ensures c.disks_are_honest.ensures c.args.caller free)
    (c.in_ok-plan-in_default.ensures.planned w.held w.takings w.takings h.stood.b then last made (refl, w.is_next) w.in_shape goes free)

pub returns-in_ok-plan-in_default-clause-calls : goal.returns-in_ok-plan-in_default-clause-calls
returns-in_ok-plan-in_default-clause-calls g c = λ first t0 h.
    let s = c.args.self.now in
    let disk = g.D.Disk.told c.args.disk.now in
    let last = last_of first s in
    let made = effect first t0 disk s c.args.call c.args.ready c.args.replies.0 c.args.growth h in
    let then = change first t0 disk s c.args.call c.args.ready c.args.replies.0 c.args.growth h in
    let w = weighs first t0 disk s c.args.call c.args.ready c.args.replies.0 c.args.growth h in
    let goes = c.in_ok-way.ensures.way h.stood.b then last made w (grows first t0 disk s c.args.call c.args.ready c.args.replies.0 c.args.growth h) in
    let free = not_full last made _ goes c.in_default.not-Full in
    altered_within first t0 disk s c.args.call c.args.ready c.args.replies.0 c.args.growth h (acted h.stood.b then) c.in_ok-plan-in_default.plan (g.D.Disk.told c.commit.new.disk).calls
    (c.in_ok-plan-in_default.ensures.planned w.held w.takings w.takings h.stood.b then last made (refl, w.is_next) w.in_shape goes free)
    (altering_free first t0 disk s c.args.call c.args.ready c.args.replies.0 c.args.growth h free) c.commit.ensures.calls

pub returns-in_err-plan-in_default-clause-spare : goal.returns-in_err-plan-in_default-clause-spare
returns-in_err-plan-in_default-clause-spare g c long fits =
    let behind : c.in_ok-way.way ≡ Append = let e = c.in_ok-way.ensures.behind long fits in cc in
    let planned = c.in_err-plan-in_default.ensures.behind behind in
    absurd (none planned)
  where
    none : {T E : Type 0} {e : E} {x : T} → Err e ≡ Ok x → ⊥
    none p = cc
