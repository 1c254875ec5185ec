-- Rope by rope, one more row is counted.
use Rattle.std.proofs.Common.{◌<◌, length, filter, ◌∙◌}
use Rattle.voice_model.specs.Changes.{is_expired}
use Rattle.interest_table.specs.Table.{rows_of}
use Rattle.recovery.specs.Gathered.{rows_noted}
use Rattle.recovery.proofs.Spent.{noted_more, noted_all}
use Rattle.recovery.proofs.sweeps.expired_counts.Goals as goal

pub loop-rope-preserved : goal.loop-rope-preserved
loop-rope-preserved c id =
    let rows = filter (is_expired c.args.now) c.args.interests.now.rows in
    let xs = c.deref-rope-items.result.now in
    let within : c.loop-rope.rope-index < length xs = c.loop-rope-test.true in
    noted_more id c.loop-rope.rope-index c.rope-item.result (rows_noted c.loop-rope.counts id) (rows_noted c.note_row.new.counts id) (rows_of id rows) rows xs
    within c.rope-item.is (c.deref-rope-items.ensures.value ∙ c.in_ok-expired.ensures) (c.loop-rope.invariant id) (c.in_ok-note_row.ensures id)

pub returns : goal.returns
returns c id =
    let rows = filter (is_expired c.args.now) c.args.interests.now.rows in
    noted_all id c.loop-rope.rope-index (rows_noted c.loop-rope.counts id) (rows_of id rows) rows c.deref-rope-items.result.now
    c.loop-rope-test.false (c.deref-rope-items.ensures.value ∙ c.in_ok-expired.ensures) (c.loop-rope.invariant id)
