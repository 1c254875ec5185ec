use Rattle.std.proofs.Common.{ℕ, ◌≤◌, ◌^◌, refl, subst}
use Rattle.voice_model.specs.State.{State}
use Rattle.voice_model.specs.State.Effect.{Edited}
use Rattle.voice_model.specs.declared.changes.Change.TheVariants as kinds
use Rattle.next_ropes.specs.Ready.{IsReady}
use Rattle.next_changes.specs.declared.NextChange.TheVariants as changes
use Rattle.voice_store.specs.declared.going.Going.TheVariants as goings
use Rattle.voice_store.specs.Stood.{last_of}
use Rattle.voice_store.specs.Keeping.{HasWay}
use Rattle.voice_store.proofs.Kept.{same_parts, same_shape, tables, many, long, used, held_few, edit_going, trying}
use Rattle.voice_model.specs.Replay.{acted}
use Rattle.voice_store.proofs.Counted.{edited_within}
use Rattle.voice_store.proofs.Filled.{same_addresses}
use Rattle.voice_store.proofs.CanGo.{can_go}
use Rattle.voice_store.proofs.inside.Inside.keep_by.Given as given
use Rattle.voice_store.proofs.inside.Inside.keep_by.Goals as goal
use Rattle.voice_store.proofs.inside.Inside.keep_by.Goals.{In_ok-rope}

-- its rope is ready
ready : (g : given.Over) (c : In_ok-rope g) (first : State) (t0 : ℕ) (way : HasWay first t0 (g.D.Disk.told c.args.disk.now) c.args.self.now c.args.call c.args.pieces c.args.way)
    → IsReady way.makes.stood.held way.makes.stood.takings c.ready_edit.new.parts way.makes.stood.b c.in_ok-rope.rope (kinds.Edited way.makes.stood.b.next c.args.pieces)
ready g c first t0 way =
    let s = c.args.self.now in
    let disk = g.D.Disk.told c.args.disk.now in
    c.in_ok-rope.ensures.ready way.makes.stood.held way.makes.stood.takings way.makes.stood.b (tables first t0 disk s c.args.call c.args.pieces c.args.way way) (held_few first t0 disk s c.args.call c.args.pieces c.args.way way)

pub ready_edit-requires-clause-parts : goal.ready_edit-requires-clause-parts
ready_edit-requires-clause-parts g c =
    let way = c.requires.way in
    (way.2.makes.stood.held, way.2.makes.stood.takings, way.2.makes.stood.b, tables way.0 way.1 (g.D.Disk.told c.args.disk.now) c.args.self.now c.args.call c.args.pieces c.args.way way.2)

pub ready_edit-requires-clause-many : goal.ready_edit-requires-clause-many
ready_edit-requires-clause-many g c =
    let way = c.requires.way in
    many way.0 way.1 (g.D.Disk.told c.args.disk.now) c.args.self.now c.args.call c.args.pieces c.args.way way.2

pub ready_edit-requires-clause-long : goal.ready_edit-requires-clause-long
ready_edit-requires-clause-long g c =
    let way = c.requires.way in
    long way.0 way.1 (g.D.Disk.told c.args.disk.now) c.args.self.now c.args.call c.args.pieces c.args.way way.2

pub ready_edit-requires-clause-used : goal.ready_edit-requires-clause-used
ready_edit-requires-clause-used g c =
    let way = c.requires.way in
    used way.0 way.1 (g.D.Disk.told c.args.disk.now) c.args.self.now c.args.call c.args.pieces c.args.way way.2

pub returns-in_err-rope-clause-stood : goal.returns-in_err-rope-clause-stood
returns-in_err-rope-clause-stood g c = λ first t0 way.
    let s = c.args.self.now in
    let disk = g.D.Disk.told c.args.disk.now in
    same_parts first t0 disk s way.makes.stood way.makes.sure c.ready_edit.new.parts
    (c.ready_edit.ensures.same way.makes.stood.held way.makes.stood.takings way.makes.stood.b (tables first t0 disk s c.args.call c.args.pieces c.args.way way)) (same_addresses s.parts.blocks.holders c.ready_edit.new.parts.blocks.holders c.ready_edit.ensures.holders)

pub plan-requires : goal.plan-requires
plan-requires g c =
    let way = c.requires.way in
    edit_going _ _ _ _ _ _ _ way.2 _ _ (ready g (goal.at.plan-requires g c).In_ok-rope way.0 way.1 way.2)

pub give_up-requires : goal.give_up-requires
give_up-requires g c =
    let way = c.requires.way in
    (c.args.self.now.journal.shape, edit_going _ _ _ _ _ _ _ way.2 _ _ (ready g (goal.at.give_up-requires g c).In_ok-rope way.0 way.1 way.2))

pub returns-in_default-clause-stood : goal.returns-in_default-clause-stood
returns-in_default-clause-stood g c = λ first t0 way.
    let s = c.args.self.now in
    let stood = way.makes.stood in
    same_parts first t0 (g.D.Disk.told c.args.disk.now) s stood way.makes.sure c.give_up.new.parts
    (c.give_up.ensures.tables stood.held stood.takings stood.takings stood.b (kinds.Edited stood.b.next c.args.pieces) (refl, ready g (goal.at.returns-in_default-clause-stood g c).In_ok-rope first t0 way))
    (λ a holder had. same_addresses s.parts.blocks.holders c.ready_edit.new.parts.blocks.holders c.ready_edit.ensures.holders a holder (c.give_up.ensures.kept a holder had))

pub commit-requires-clause-can : goal.commit-requires-clause-can
commit-requires-clause-can g c κs within =
    let s = c.args.self.now in
    let disk = g.D.Disk.told c.args.disk.now in
    let first = c.requires.way.0 in
    let t0 = c.requires.way.1 in
    let way = c.requires.way.2 in
    let b = way.makes.stood.b in
    let is = ready g (goal.at.commit-requires-clause-can g c).In_ok-rope first t0 way in
    let made = Edited (last_of first s).next way.makes.rope.samples in
    can_go first t0 disk (record s { parts = c.ready_edit.new.parts }) b (goings.Change (changes.Rope c.in_ok-rope.rope)) (kinds.Edited b.next c.args.pieces) made c.args.caller c.args.call c.replies_of-replies.result.0
    (trying first t0 disk s c.args.call c.args.pieces c.args.way way c.foundations.ensures c.disks_are_honest.ensures c.args.caller c.ready_edit.new.parts (same_addresses s.parts.blocks.holders c.ready_edit.new.parts.blocks.holders c.ready_edit.ensures.holders) c.in_ok-rope.rope is c.replies_of-replies.result.0 c.replies_of-replies.ensures.first)
    (subst (λ n. n ≤ 2 ^ 48) c.epoch-most.ensures.value c.epoch-most.ensures.most)
    c.in-Ok.plan (c.in-Ok.ensures.planned way.makes.stood.held way.makes.stood.takings way.makes.stood.takings b (kinds.Edited b.next c.args.pieces) (last_of first s) made (refl, is) (same_shape first t0 disk s way.makes.stood way.makes.sure) way.goes way.free)

pub commit-requires-clause-ready : goal.commit-requires-clause-ready
commit-requires-clause-ready g c κs within =
    let way = c.requires.way in
    edit_going _ _ _ _ _ _ _ way.2 _ _ (ready g (goal.at.commit-requires-clause-ready g c).In_ok-rope way.0 way.1 way.2)

pub returns-clause-stood : goal.returns-clause-stood
returns-clause-stood g c = λ first t0 way.
    let s = c.args.self.now in
    let disk = g.D.Disk.told c.args.disk.now in
    let b = way.makes.stood.b in
    let is = ready g (goal.at.returns-clause-stood g c).In_ok-rope first t0 way in
    let made = Edited (last_of first s).next way.makes.rope.samples in
    c.commit.ensures.stood first t0 b (kinds.Edited b.next c.args.pieces) made
    (trying first t0 disk s c.args.call c.args.pieces c.args.way way c.foundations.ensures c.disks_are_honest.ensures c.args.caller c.ready_edit.new.parts (same_addresses s.parts.blocks.holders c.ready_edit.new.parts.blocks.holders c.ready_edit.ensures.holders) c.in_ok-rope.rope is c.replies_of-replies.result.0 c.replies_of-replies.ensures.first)
    (c.in-Ok.ensures.planned way.makes.stood.held way.makes.stood.takings way.makes.stood.takings b (kinds.Edited b.next c.args.pieces) (last_of first s) made (refl, is) (same_shape first t0 disk s way.makes.stood way.makes.sure) way.goes way.free)

pub returns-clause-calls : goal.returns-clause-calls
returns-clause-calls g c = λ first t0 way.
    let s = c.args.self.now in
    let disk = g.D.Disk.told c.args.disk.now in
    let b = way.makes.stood.b in
    let made = Edited (last_of first s).next way.makes.rope.samples in
    edited_within first t0 disk s c.args.call c.args.pieces c.args.way way (acted b (kinds.Edited b.next c.args.pieces)) c.in-Ok.plan (g.D.Disk.told c.commit.new.disk).calls
    (c.in-Ok.ensures.planned way.makes.stood.held way.makes.stood.takings way.makes.stood.takings b (kinds.Edited b.next c.args.pieces) (last_of first s) made (refl, ready g (goal.at.returns-clause-calls g c).In_ok-rope first t0 way) (same_shape first t0 disk s way.makes.stood way.makes.sure) way.goes way.free)
    c.commit.ensures.calls
