use Rattle.std.proofs.Common.{ℕ, ◌≤◌, ◌∙◌, refl, sym, ap, subst}
use Rattle.voice_units.specs.declared.shapes.Shape.{Shape}
use Rattle.voice_units.specs.Blocks.{blocks_for}
use Rattle.voice_model.specs.State.{State}
use Rattle.voice_blocks.specs.Holders.{open_in}
use Rattle.voice_store.specs.Stood.{last_of, tapes_of}
use Rattle.voice_store.specs.Keeping.{HasRoom, HoldsRecording, recorded_by}
use Rattle.voice_store.proofs.Kept.{is_sure, same_parts, same_shape, stood_few as held_few}
use Rattle.voice_store.proofs.Fewer.{long, enough}
use Rattle.voice_store.proofs.Filled.{never_handed}
use Rattle.voice_store.proofs.Written.{change_in, holding, handed_on, in_shape, recording_going}
use Rattle.voice_store.proofs.inside.Inside.record_by.Given as given
use Rattle.voice_store.proofs.inside.Inside.record_by.Goals as goal
use Rattle.voice_store.proofs.inside.Inside.record_by.Goals.{In_ok-rope}

-- its rope is ready
abbrev holds : (g : given.Over) (c : In_ok-rope g) (first : State) (t0 : ℕ) → HasRoom first t0 (g.D.Disk.told c.args.disk.now) c.args.self.now c.args.take c.args.way
    → HoldsRecording first t0 (g.D.Disk.told c.args.disk.now) (record c.args.self.now { parts = c.ready_recording.new.parts }) c.args.take c.in_ok-rope.rope
holds g c first t0 way =
    let s = c.args.self.now in
    let disk = g.D.Disk.told c.args.disk.now in
    let stood = way.makes.stood in
    let ready = c.in_ok-rope.ensures.ready stood.held stood.takings stood.b (is_sure first t0 disk s stood way.makes.sure).tables (held_few first t0 disk s stood) (same_shape first t0 disk s stood way.makes.sure ∙ sym c.shape-shape.ensures) in
    holding first t0 disk s c.args.take c.args.way way c.ready_recording.new.parts c.in_ok-rope.rope ready.0 c.in_ok-rope.ensures.recorded
    (ready.1 ∙ ap (λ (x : Shape). blocks_for x.block c.args.take.len) c.shape-shape.ensures) ready.2 ready.3 ready.4 (handed_on first t0 disk s c.args.take c.args.way way c.ready_recording.new.parts c.in_ok-rope.ensures.own)

pub ready_recording-requires-clause-parts : goal.ready_recording-requires-clause-parts
ready_recording-requires-clause-parts g c =
    let way = c.requires.way in
    let s = c.args.self.now in
    let disk = g.D.Disk.told c.args.disk.now in
    record {
      held = way.2.makes.stood.held;
      takings = way.2.makes.stood.takings;
      what = way.2.makes.stood.b;
      runs = (is_sure way.0 way.1 disk s way.2.makes.stood way.2.makes.sure).tables;
      in_shape = same_shape way.0 way.1 disk s way.2.makes.stood way.2.makes.sure ∙ sym c.shape-shape.ensures;
    }

pub ready_recording-requires-clause-most : goal.ready_recording-requires-clause-most
ready_recording-requires-clause-most g c =
    let way = c.requires.way in
    long way.0 way.1 (g.D.Disk.told c.args.disk.now) c.args.self.now c.args.take way.2.makes

pub ready_recording-requires-clause-free : goal.ready_recording-requires-clause-free
ready_recording-requires-clause-free g c =
    let way = c.requires.way in
    let s = c.args.self.now in
    subst (λ (x : Shape). blocks_for x.block c.args.take.len ≤ open_in s.parts.blocks.holders) (sym c.shape-shape.ensures)
    (enough way.0 way.1 (g.D.Disk.told c.args.disk.now) s c.args.take way.2.makes)

pub returns-in_err-rope-clause-stood : goal.returns-in_err-rope-clause-stood
returns-in_err-rope-clause-stood g c = λ first t0 way.
    let s = c.args.self.now in
    let disk = g.D.Disk.told c.args.disk.now in
    same_parts first t0 disk s way.makes.stood way.makes.sure c.ready_recording.new.parts
    (c.in_err-rope.ensures.err way.makes.stood.held way.makes.stood.takings way.makes.stood.b (is_sure first t0 disk s way.makes.stood way.makes.sure).tables) c.in_err-rope.ensures.none

pub plan-requires : goal.plan-requires
plan-requires g c = let way = c.requires.way in recording_going _ _ _ _ _ _ (holds g (goal.at.plan-requires g c).In_ok-rope way.0 way.1 way.2)

pub give_up-requires : goal.give_up-requires
give_up-requires g c =
    let way = c.requires.way in
    (c.args.self.now.journal.shape, recording_going _ _ _ _ _ _ (holds g (goal.at.give_up-requires g c).In_ok-rope way.0 way.1 way.2))

pub returns-in_default-clause-stood : goal.returns-in_default-clause-stood
returns-in_default-clause-stood g c = λ first t0 way.
    let s = c.args.self.now in
    let stood = way.makes.stood in
    let h = holds g (goal.at.returns-in_default-clause-stood g c).In_ok-rope first t0 way in
    let shows = c.give_up.ensures.tables stood.held stood.takings stood.takings stood.b (change_in stood.b c.in_ok-rope.rope) (refl, h.ready) in
    same_parts first t0 (g.D.Disk.told c.args.disk.now) s stood way.makes.sure c.give_up.new.parts shows
    (never_handed stood.held stood.takings stood.b s.parts.blocks.holders c.ready_recording.new.parts.blocks.holders c.give_up.new.parts h.handed c.give_up.ensures.kept shows)

pub write_and_commit-requires-clause-holds : goal.write_and_commit-requires-clause-holds
write_and_commit-requires-clause-holds g c κs within =
    let first = c.requires.way.0 in
    let t0 = c.requires.way.1 in
    let way = c.requires.way.2 in
    let s = c.args.self.now in
    let stood = way.makes.stood in
    let rope = c.in_ok-rope.rope in
    let h = holds g (goal.at.write_and_commit-requires-clause-holds g c).In_ok-rope first t0 way in
    (rope, refl, first, t0, h, c.in-Ok.ensures.planned stood.held stood.takings stood.takings stood.b (change_in stood.b rope) (last_of first s) (recorded_by (last_of first s) (tapes_of s) c.args.take) (refl, h.ready) (in_shape _ _ _ _ _ _ h) way.goes way.free)

pub returns-clause-stood : goal.returns-clause-stood
returns-clause-stood g c = λ first t0 way.
    let s = c.args.self.now in
    let stood = way.makes.stood in
    let rope = c.in_ok-rope.rope in
    let h = holds g (goal.at.returns-clause-stood g c).In_ok-rope first t0 way in
    c.write_and_commit.ensures.stood rope refl first t0 h
    (c.in-Ok.ensures.planned stood.held stood.takings stood.takings stood.b (change_in stood.b rope) (last_of first s) (recorded_by (last_of first s) (tapes_of s) c.args.take) (refl, h.ready) (in_shape _ _ _ _ _ _ h) way.goes way.free)

pub returns-clause-calls : goal.returns-clause-calls
returns-clause-calls g c = λ first t0 way.
    let s = c.args.self.now in
    let stood = way.makes.stood in
    let rope = c.in_ok-rope.rope in
    let h = holds g (goal.at.returns-clause-calls g c).In_ok-rope first t0 way in
    c.write_and_commit.ensures.calls rope refl first t0 h
    (c.in-Ok.ensures.planned stood.held stood.takings stood.takings stood.b (change_in stood.b rope) (last_of first s) (recorded_by (last_of first s) (tapes_of s) c.args.take) (refl, h.ready) (in_shape _ _ _ _ _ _ h) way.goes way.free)
