use Rattle.std.proofs.Common.{◌≤◌, ◌^◌, refl, sym, ◌∙◌, ap, subst}
use Rattle.voice_model.specs.declared.calls.Call.TheVariants as calls
use Rattle.next_changes.specs.declared.NextChange.TheVariants as changes
use Rattle.voice_store.specs.declared.going.Going.TheVariants as goings
use Rattle.voice_store.specs.declared.inside.Inside.{Inside}
use Rattle.voice_store.specs.Stood.{last_of, tapes_of, Stood}
use Rattle.voice_store.specs.Keeping.{recorded_by}
use Rattle.voice_model.specs.Replay.{acted}
use Rattle.voice_store.proofs.Counted.{unwritten_within, recorded_within}
use Rattle.voice_store.proofs.CanGo.{can_go}
use Rattle.voice_store.proofs.Written.{Goes, change_in, recording_going, same_rope, trying_recording, stood_unwritten}
use Rattle.voice_store.proofs.inside.Inside.write_and_commit.Goals as goal

pub write_recording-written-requires-clause-holds : goal.write_recording-written-requires-clause-holds
write_recording-written-requires-clause-holds g c κs within =
    let h = c.requires.holds in
    let goes = subst (Goes h.2 h.3 (g.D.Disk.told c.args.disk.now) c.args.self.now c.args.take c.args.plan) (same_rope c.args.going h.0 c.in-Change-Rope.rope h.1 (c.in-Change-Rope.is ∙ ap goings.Change c.in-Change-Rope.field-0-is)) (h.4, h.5) in
    (h.2, h.3, goes.0)

pub failed-requires-clause-ready : goal.failed-requires-clause-ready
failed-requires-clause-ready g c κs within =
    let h = c.requires.holds in
    let rope = c.in-Change-Rope.rope in
    let goes = subst (Goes h.2 h.3 (g.D.Disk.told c.args.disk.now) c.args.self.now c.args.take c.args.plan) (same_rope c.args.going h.0 rope h.1 (c.in-Change-Rope.is ∙ ap goings.Change c.in-Change-Rope.field-0-is)) (h.4, h.5) in
    recording_going h.2 h.3 (g.D.Disk.told c.args.disk.now) c.args.self.now c.args.take rope goes.0

pub returns-in_default-written-clause-stood : goal.returns-in_default-written-clause-stood
returns-in_default-written-clause-stood g c = λ other is first t0 held plan.
    let s = c.args.self.now in
    let s' = c.failed.new.self in
    let old = g.D.Disk.told c.args.disk.now in
    let new = g.D.Disk.told c.write_recording-written.new.disk in
    let made = c.write_recording-written.ensures.made in
    let rope = c.in-Change-Rope.rope in
    let h = (subst (Goes first t0 old s c.args.take c.args.plan) (same_rope c.args.going other rope is (c.in-Change-Rope.is ∙ ap goings.Change c.in-Change-Rope.field-0-is)) (held, plan)).0 in
    subst (λ (x : Inside). Stood first t0 new x) (sym c.failed.ensures.rest)
    (stood_unwritten first t0 old s c.args.take rope h new c.foundations.ensures made.later made.size made.honest
    c.write_recording-written.ensures.moments c.write_recording-written.ensures.content c.args.caller s'.parts s'.history
    (c.failed.ensures.tables h.makes.stood.held h.makes.stood.takings h.makes.stood.takings h.makes.stood.b (change_in h.makes.stood.b rope) (refl, h.ready)) c.failed.ensures.kept c.failed.ensures.items)

pub commit-requires-clause-can : goal.commit-requires-clause-can
commit-requires-clause-can g c κs within =
    let s = c.args.self.now in
    let holds = c.requires.holds in
    let first = holds.2 in
    let t0 = holds.3 in
    let old = g.D.Disk.told c.args.disk.now in
    let new = g.D.Disk.told c.write_recording-written.new.disk in
    let made = c.write_recording-written.ensures.made in
    let rope = c.in-Change-Rope.rope in
    let goes = subst (Goes first t0 old s c.args.take c.args.plan) (same_rope c.args.going holds.0 rope holds.1 (c.in-Change-Rope.is ∙ ap goings.Change c.in-Change-Rope.field-0-is)) (holds.4, holds.5) in
    let b = goes.0.makes.stood.b in
    can_go first t0 new s b (goings.Change (changes.Rope rope)) (change_in b rope) (recorded_by (last_of first s) (tapes_of s) c.args.take) c.args.caller (calls.Record c.args.take) c.replies_of-replies.result.0
    (trying_recording first t0 old s c.args.take rope goes.0 new c.foundations.ensures made.later made.size made.honest
    c.write_recording-written.ensures.moments c.write_recording-written.ensures.content c.args.caller c.in-Ok.ensures.written c.in-Ok.ensures.padded c.replies_of-replies.result.0 c.replies_of-replies.ensures.first)
    (subst (λ n. n ≤ 2 ^ 48) c.epoch-most.ensures.value c.epoch-most.ensures.most)
    c.args.plan goes.1

pub commit-requires-clause-ready : goal.commit-requires-clause-ready
commit-requires-clause-ready g c κs within =
    let h = c.requires.holds in
    let rope = c.in-Change-Rope.rope in
    let goes = subst (Goes h.2 h.3 (g.D.Disk.told c.args.disk.now) c.args.self.now c.args.take c.args.plan) (same_rope c.args.going h.0 rope h.1 (c.in-Change-Rope.is ∙ ap goings.Change c.in-Change-Rope.field-0-is)) (h.4, h.5) in
    recording_going h.2 h.3 (g.D.Disk.told c.args.disk.now) c.args.self.now c.args.take rope goes.0

pub returns-clause-stood : goal.returns-clause-stood
returns-clause-stood g c = λ other is first t0 held plan.
    let s = c.args.self.now in
    let old = g.D.Disk.told c.args.disk.now in
    let new = g.D.Disk.told c.write_recording-written.new.disk in
    let made = c.write_recording-written.ensures.made in
    let rope = c.in-Change-Rope.rope in
    let goes = subst (Goes first t0 old s c.args.take c.args.plan) (same_rope c.args.going other rope is (c.in-Change-Rope.is ∙ ap goings.Change c.in-Change-Rope.field-0-is)) (held, plan) in
    let b = goes.0.makes.stood.b in
    c.commit.ensures.stood first t0 b (change_in b rope) (recorded_by (last_of first s) (tapes_of s) c.args.take)
    (trying_recording first t0 old s c.args.take rope goes.0 new c.foundations.ensures made.later made.size made.honest
    c.write_recording-written.ensures.moments c.write_recording-written.ensures.content c.args.caller c.in-Ok.ensures.written c.in-Ok.ensures.padded c.replies_of-replies.result.0 c.replies_of-replies.ensures.first)
    goes.1

pub returns-in_default-written-clause-calls : goal.returns-in_default-written-clause-calls
returns-in_default-written-clause-calls g c = λ other is first t0 held plan.
    let s = c.args.self.now in
    let old = g.D.Disk.told c.args.disk.now in
    let rope = c.in-Change-Rope.rope in
    let goes = subst (Goes first t0 old s c.args.take c.args.plan) (same_rope c.args.going other rope is (c.in-Change-Rope.is ∙ ap goings.Change c.in-Change-Rope.field-0-is)) (held, plan) in
    unwritten_within first t0 old s c.args.take rope goes.0 (g.D.Disk.told c.write_recording-written.new.disk).calls c.write_recording-written.ensures.made.calls

pub returns-clause-calls : goal.returns-clause-calls
returns-clause-calls g c = λ other is first t0 held plan.
    let s = c.args.self.now in
    let old = g.D.Disk.told c.args.disk.now in
    let rope = c.in-Change-Rope.rope in
    let goes = subst (Goes first t0 old s c.args.take c.args.plan) (same_rope c.args.going other rope is (c.in-Change-Rope.is ∙ ap goings.Change c.in-Change-Rope.field-0-is)) (held, plan) in
    let b = goes.0.makes.stood.b in
    recorded_within first t0 old s c.args.take rope goes.0 s.journal (acted b (change_in b rope)) c.args.plan (g.D.Disk.told c.write_recording-written.new.disk).calls (g.D.Disk.told c.commit.new.disk).calls
    goes.1 c.write_recording-written.ensures.made.calls c.commit.ensures.calls
