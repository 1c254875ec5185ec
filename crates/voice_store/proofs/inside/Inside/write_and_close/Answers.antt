use Rattle.std.proofs.Common.{◌≤◌, ◌^◌, sym, subst}
use Rattle.voice_model.specs.Replay.{acted}
use Rattle.voice_model.specs.declared.calls.Call.TheVariants as calls
use Rattle.voice_store.specs.declared.inside.Inside.{Inside}
use Rattle.voice_store.specs.declared.going.Going.TheVariants as goings
use Rattle.voice_store.specs.Stood.{last_of, Stood}
use Rattle.voice_store.specs.Ends.{GoesEnding, ended_by}
use Rattle.voice_store.proofs.CanGo.{can_go}
use Rattle.voice_store.proofs.Closed.{unended_within, ended_within}
use Rattle.voice_store.proofs.Ended.{change, same_ending, ending_more, ending_ready, ending_going, has_last}
use Rattle.voice_store.proofs.LastWritten.{trying_ending, stood_unended}
use Rattle.voice_store.proofs.inside.Inside.write_and_close.Goals as goal

pub write_last-written-requires-clause-holds : goal.write_last-written-requires-clause-holds
write_last-written-requires-clause-holds g c κs within =
    let h = c.requires.holds in
    let goes = subst (GoesEnding h.2 h.3 (g.D.Disk.told c.args.disk.now) c.args.self.now c.args.lane c.args.last.now c.args.plan) (same_ending c.args.going c.args.lane c.in-Ending.field-0 h.0 c.in-Ending.rope h.1 c.in-Ending.is) h.4 in
    (h.2, h.3, goes.holds, goes.is_last)

pub failed-requires-clause-ready : goal.failed-requires-clause-ready
failed-requires-clause-ready g c κs within =
    let h = c.requires.holds in
    let goes = subst (GoesEnding h.2 h.3 (g.D.Disk.told c.args.disk.now) c.args.self.now c.args.lane c.args.last.now c.args.plan) (same_ending c.args.going c.args.lane c.in-Ending.field-0 h.0 c.in-Ending.rope h.1 c.in-Ending.is) h.4 in
    ending_going h.2 h.3 (g.D.Disk.told c.args.disk.now) c.args.self.now c.args.lane c.in-Ending.rope goes.holds

pub returns-in_default-written-clause-stood : goal.returns-in_default-written-clause-stood
returns-in_default-written-clause-stood g c = λ other is first t0 held.
    let s = c.args.self.now in
    let s' = c.failed.new.self in
    let lane = c.args.lane in
    let old = g.D.Disk.told c.args.disk.now in
    let new = g.D.Disk.told c.write_last-written.new.disk in
    let made = c.write_last-written.ensures.made in
    let rope = c.in-Ending.rope in
    let h = (subst (GoesEnding first t0 old s lane c.args.last.now c.args.plan) (same_ending c.args.going lane c.in-Ending.field-0 other rope is c.in-Ending.is) held).holds in
    subst (λ (x : Inside). Stood first t0 new x) (sym c.failed.ensures.rest)
    (stood_unended first t0 old s lane rope h new c.foundations.ensures made.later made.size made.honest
    c.write_last-written.ensures.moments c.write_last-written.ensures.content c.args.caller s'.parts s'.history
    (c.failed.ensures.tables h.ends.stood.held h.ends.stood.takings (ending_more first t0 old s lane rope h) h.ends.stood.b (change first t0 old s lane rope h) (ending_ready first t0 old s lane rope h)) c.failed.ensures.kept c.failed.ensures.items)

pub commit-requires-clause-can : goal.commit-requires-clause-can
commit-requires-clause-can g c κs within =
    let s = c.args.self.now in
    let lane = c.args.lane in
    let holds = c.requires.holds in
    let first = holds.2 in
    let t0 = holds.3 in
    let old = g.D.Disk.told c.args.disk.now in
    let new = g.D.Disk.told c.write_last-written.new.disk in
    let made = c.write_last-written.ensures.made in
    let rope = c.in-Ending.rope in
    let goes = subst (GoesEnding first t0 old s lane c.args.last.now c.args.plan) (same_ending c.args.going lane c.in-Ending.field-0 holds.0 rope holds.1 c.in-Ending.is) holds.4 in
    can_go first t0 new s goes.holds.ends.stood.b (goings.Ending lane rope) (change first t0 old s lane rope goes.holds) (ended_by (last_of first s) lane) c.args.caller (calls.End lane) c.replies_of-replies.result.0
    (trying_ending first t0 old s lane rope goes.holds new c.foundations.ensures made.later made.size made.honest
    c.write_last-written.ensures.moments c.write_last-written.ensures.content (has_last first t0 old s lane rope goes.holds new c.args.last.now goes.is_last c.in-Ok.ensures.written) c.args.caller c.replies_of-replies.result.0 c.replies_of-replies.ensures.first)
    (subst (λ n. n ≤ 2 ^ 48) c.epoch-most.ensures.value c.epoch-most.ensures.most)
    c.args.plan goes.planned

pub commit-requires-clause-ready : goal.commit-requires-clause-ready
commit-requires-clause-ready g c κs within =
    let h = c.requires.holds in
    let goes = subst (GoesEnding h.2 h.3 (g.D.Disk.told c.args.disk.now) c.args.self.now c.args.lane c.args.last.now c.args.plan) (same_ending c.args.going c.args.lane c.in-Ending.field-0 h.0 c.in-Ending.rope h.1 c.in-Ending.is) h.4 in
    ending_going h.2 h.3 (g.D.Disk.told c.args.disk.now) c.args.self.now c.args.lane c.in-Ending.rope goes.holds

pub returns-clause-stood : goal.returns-clause-stood
returns-clause-stood g c = λ other is first t0 held.
    let s = c.args.self.now in
    let lane = c.args.lane in
    let old = g.D.Disk.told c.args.disk.now in
    let new = g.D.Disk.told c.write_last-written.new.disk in
    let made = c.write_last-written.ensures.made in
    let rope = c.in-Ending.rope in
    let goes = subst (GoesEnding first t0 old s lane c.args.last.now c.args.plan) (same_ending c.args.going lane c.in-Ending.field-0 other rope is c.in-Ending.is) held in
    c.commit.ensures.stood first t0 goes.holds.ends.stood.b (change first t0 old s lane rope goes.holds) (ended_by (last_of first s) lane)
    (trying_ending first t0 old s lane rope goes.holds new c.foundations.ensures made.later made.size made.honest
    c.write_last-written.ensures.moments c.write_last-written.ensures.content (has_last first t0 old s lane rope goes.holds new c.args.last.now goes.is_last c.in-Ok.ensures.written) c.args.caller c.replies_of-replies.result.0 c.replies_of-replies.ensures.first)
    goes.planned

pub returns-in_default-written-clause-calls : goal.returns-in_default-written-clause-calls
returns-in_default-written-clause-calls g c = λ other is first t0 held.
    let s = c.args.self.now in
    let lane = c.args.lane in
    let old = g.D.Disk.told c.args.disk.now in
    let rope = c.in-Ending.rope in
    let goes = subst (GoesEnding first t0 old s lane c.args.last.now c.args.plan) (same_ending c.args.going lane c.in-Ending.field-0 other rope is c.in-Ending.is) held in
    unended_within first t0 old s lane rope goes.holds (g.D.Disk.told c.write_last-written.new.disk).calls c.write_last-written.ensures.made.calls

pub returns-clause-calls : goal.returns-clause-calls
returns-clause-calls g c = λ other is first t0 held.
    let s = c.args.self.now in
    let lane = c.args.lane in
    let old = g.D.Disk.told c.args.disk.now in
    let rope = c.in-Ending.rope in
    let goes = subst (GoesEnding first t0 old s lane c.args.last.now c.args.plan) (same_ending c.args.going lane c.in-Ending.field-0 other rope is c.in-Ending.is) held in
    ended_within first t0 old s lane rope goes.holds s.journal (acted goes.holds.ends.stood.b (change first t0 old s lane rope goes.holds)) c.args.plan (g.D.Disk.told c.write_last-written.new.disk).calls (g.D.Disk.told c.commit.new.disk).calls
    goes.planned c.write_last-written.ensures.made.calls c.commit.ensures.calls
