use Rattle.voice_model.specs.Step.{after}
use Rattle.std.proofs.Common.{take, arith}
use Rattle.mirror_sender.specs.Abreast.{FollowsSome}
use Rattle.mirror_sender.proofs.Lists.{on_err}
use Rattle.mirror_sender.proofs.Whole.{follows_more, follows_some, follows_whole, may_follow}
use Rattle.mirror_sender.proofs.sender.Sender.follow.Goals as goal

pub returns-in_err-note-clause-err : goal.returns-in_err-note-clause-err
returns-in_err-note-clause-err c = λ s abreast legal.
    let tapes = c.args.tapes.now in
    let es = c.args.history.now in
    let k = c.loop-entry.entry-index in
    let before = c.loop-entry.invariant.1 s abreast legal in
    on_err c.from_residual.result (FollowsSome tapes c.args.self.now c.note.new.self s es c.args.out.now.items c.note.new.out.items)
    (follows_some tapes c.args.self.now c.loop-entry.self c.note.new.self s es k c.args.out.now.items c.loop-entry.out.items c.note.new.out.items
    before (c.in_err-note.ensures.err (after s tapes (take k es)) before.abreast) c.in_err-note.ensures.unsent c.in_err-note.ensures.unmoved)

pub loop-entry-preserved : goal.loop-entry-preserved
loop-entry-preserved c = (
  c.note.ensures.sound,
  λ s abreast legal.
      let tapes = c.args.tapes.now in
      let es = c.args.history.now in
      let k = c.loop-entry.entry-index in
      let within = c.loop-entry-test.true in
      let before = c.loop-entry.invariant.1 s abreast legal in
      follows_more tapes c.args.self.now c.loop-entry.self c.note.new.self s es k c.entry-item.result c.args.out.now.items c.loop-entry.out.items c.note.new.out.items within c.entry-item.is before
      (c.in_ok-note.ensures.ok (after s tapes (take k es)) (may_follow tapes c.loop-entry.self s es k c.entry-item.result within c.entry-item.is before.abreast c.requires.within legal)),
)

pub returns-clause-ok : goal.returns-clause-ok
returns-clause-ok c = λ s abreast legal.
    let over = c.loop-entry-test.false in
    follows_whole c.args.tapes.now c.args.self.now c.loop-entry.self s c.args.history.now c.loop-entry.entry-index c.args.out.now.items c.loop-entry.out.items (omega (arith, over)) (c.loop-entry.invariant.1 s abreast legal)
