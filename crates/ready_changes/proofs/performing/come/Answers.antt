use Rattle.std.proofs.Common.{ap₂, ◌&&◌, not}
use Rattle.std.specs.Prelude.{is_some}
use Rattle.voice_model.specs.State.{is_live, row_at}
use Rattle.ready_changes.proofs.Uses.{is_done}
use Rattle.ready_changes.proofs.performing.come.Goals as goal

pub returns-clause-shows : goal.returns-clause-shows
returns-clause-shows c held form d h live fresh room =
    let row = c.args.row in
    let done = is_done (is_live d.ropes row.rope && not (is_some (row_at d.rows row.class row.key))) c.retain-done.result (c.retain-done.ensures.room room) (c.retain-done.ensures.legal held d h)
    (ap₂ (λ a b. a && not (is_some b)) live fresh) in
    c.retain-done.ensures.done held form d h done
