use Rattle.std.proofs.Common.{◌+◌, ◌++◌, length, sym, ◌∙◌, ap, subst}
use Rattle.std.proofs.lemmas.List.{length-append}
use Rattle.voice_model.specs.Changes.{taking_of}
use Rattle.running_tables.specs.Laws.{HasGrown}
use Rattle.recording_calls.specs.Shown.{recording_at, more_of}
use Rattle.recording_adds.specs.Adds.{HasWhole, blocks_more}
use Rattle.recording_adds.proofs.Numbers.{some_block}
use Rattle.recording_adds.proofs.Whole.{on_none}
use Rattle.recording_adds.proofs.Between.{shown_many, shown_at, shown_front, when_added, when_none}
use Rattle.recording_adds.proofs.adding.add.Goals as goal

pub take_and_write-requires-clause-whole : goal.take_and_write-requires-clause-whole
take_and_write-requires-clause-whole g c κs within =
    let s = c.requires.shown.0 in
    let h = c.requires.shown.1 in
    let value = c.deref.ensures.value in
    let is = c.in_ok-taking.blocks-is in
    let given = c.in_ok-taking.ensures.blocks s h in
    shown_many c.args.shape.now.block c.total-total.result c.args.lane s c.args.bytes.now c.deref.result.now (some_block c.args.shape.now) c.requires.shown.2 (c.total-total.ensures.shown s h) cc

pub returns-in_err-done-clause-stands : goal.returns-in_err-done-clause-stands
returns-in_err-done-clause-stands g c = λ honest s h same has.
    on_none c.from_residual-in_err-done.result (HasWhole c.args.shape.now (g.D.Disk.told c.take_and_write.new.disk).bytes c.take_and_write.new.parts.blocks.holders c.args.lane (taking_of s c.args.lane))
    (c.in_err-done.ensures.stands honest (taking_of s c.args.lane) (sym (c.total-total.ensures.shown s h)) has)

pub returns-then-not-done-clause-back : goal.returns-then-not-done-clause-back
returns-then-not-done-clause-back g c = λ held pledged takings b runs. when_none c.in_ok-done.done _ c.if-not-done.true (c.in_ok-done.ensures.back held pledged takings b runs)

pub returns-then-not-done-clause-stands : goal.returns-then-not-done-clause-stands
returns-then-not-done-clause-stands g c = λ honest s h same has.
    when_none c.in_ok-done.done _ c.if-not-done.true (c.in_ok-done.ensures.stands honest (taking_of s c.args.lane) (sym (c.total-total.ensures.shown s h)) has)

pub returns-clause-grown : goal.returns-clause-grown
returns-clause-grown g c = λ held pledged takings more b runs grows.
    when_added c.in_ok-done.done _ c.if-not-done.false
    (c.in_ok-done.ensures.grown held pledged takings more b runs
    (subst (λ t. HasGrown c.args.lane (blocks_more c.args.shape.now.block t (length c.args.bytes.now)) takings more) (sym c.total-total.ensures.own) grows))

pub returns-clause-shows : goal.returns-clause-shows
returns-clause-shows g c = λ s tapes take h e.
    let own = c.in_ok-taking.ensures.taking in
    c.put.ensures.shows s tapes take h (own ∙ ap (more_of (recording_at c.args.recordings.now c.args.lane)) e)

pub returns-clause-whole : goal.returns-clause-whole
returns-clause-whole g c = λ honest s h same has.
    let shape = c.args.shape.now in
    let bytes = c.args.bytes.now in
    let total = c.total-total.result in
    let some = some_block shape in
    let all_is = c.total-total.ensures.shown s h in
    let value = c.deref.ensures.value in
    let is = c.in_ok-taking.blocks-is in
    let given = c.in_ok-taking.ensures.blocks s h in
    when_added c.in_ok-done.done (HasWhole shape (g.D.Disk.told c.take_and_write.new.disk).bytes c.take_and_write.new.parts.blocks.holders c.args.lane (taking_of s c.args.lane ++ bytes)) c.if-not-done.false
    (c.in_ok-done.ensures.whole honest (taking_of s c.args.lane) (taking_of s c.args.lane ++ bytes) (sym all_is) (length-append (taking_of s c.args.lane) bytes ∙ ap (λ k. k + length bytes) (sym all_is))
    (shown_front shape.block total c.args.lane s bytes c.deref.result.now some same all_is cc)
    (shown_at shape.block total c.args.lane s bytes c.deref.result.now some same all_is cc) has)
