use Rattle.std.proofs.Common.{◌≡◌, ◌∙◌, ap, sym, ◌&&◌, not, is_some, true, Some, None, Ok}
use Rattle.voice_model.specs.State.{row_at}
use Rattle.recovery.proofs.Showing.{live_shown, row_shown}
use Rattle.recovery.proofs.parts.Parts.retain.Goals as goal

pub returns-in_default-clause-legal : goal.returns-in_default-clause-legal
returns-in_default-clause-legal c = λ held d h.
    let old = c.args.self.now in
    let live = live_shown held d old.ropes old.interests.rows old.moment old.next c.args.row.rope None h c.in_default.ensures in
    sym (ap (λ b. b && not (is_some (row_at d.rows c.args.row.class c.args.row.key))) live)

pub returns-clause-legal : goal.returns-clause-legal
returns-clause-legal c = λ held d h.
    let old = c.args.self.now in
    let live = live_shown held d old.ropes old.interests.rows old.moment old.next c.args.row.rope (Some c.in-Some.field-0) h c.in-Some.ensures in
    let put : c.in_ok-put_row.field-0 ≡ true = c.if-not-branch.false in
    sym (ap (λ b. b && not (is_some (row_at d.rows c.args.row.class c.args.row.key))) live
    ∙ ap (λ l. not (is_some (row_at l c.args.row.class c.args.row.key))) (sym h.rows) ∙ sym c.in_ok-put_row.ensures.exact ∙ put)

pub returns-clause-done : goal.returns-clause-done
returns-clause-done c = λ held form d h e.
    let old = c.args.self.now in
    row_shown held form d old.ropes c.keep.new.self old.interests.rows c.put_row.new.interests.rows old.moment old.next c.args.row h c.keep.ensures.ropes c.keep.ensures.block (c.keep.ensures.counts held h.uses)
    (c.in_ok-put_row.ensures.done (ap Ok c.if-not-branch.false))
