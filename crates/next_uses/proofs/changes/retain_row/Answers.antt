use Rattle.std.proofs.Common.{◌≡◌, Bool, true, [], Some, None, not, ◌&&◌, sym, ◌∙◌, ap}
use Rattle.std.specs.Prelude.{is_some}
use Rattle.voice_model.specs.State.{is_live, row_at}
use Rattle.voice_model.specs.declared.changes.Change.TheVariants as changes
use Rattle.running_tables.proofs.Taken.{reshown}
use Rattle.recovery.proofs.Showing.{live_shown}
use Rattle.next_changes.proofs.Given.{other_next}
use Rattle.next_uses.proofs.changes.retain_row.Goals as goal

pub returns-in_default-ready_retain : goal.returns-in_default-ready_retain
returns-in_default-ready_retain c =
    let r = c.requires.shown.what in
    let h = c.requires.shown.runs in
    record {
      what = r;
      runs = reshown [] [] [] c.args.parts.now c.ready_retain.new.parts r h (c.ready_retain.ensures.same [] r.kept h.kept) c.ready_retain.ensures.form (ap (λ blocks. blocks.holders) c.ready_retain.ensures.blocks);
      in_shape = c.requires.shown.in_shape;
    }

pub returns : goal.returns
returns c =
    let row = c.args.row in
    let old = c.args.parts.now in
    let new = c.ready_retain.new.parts in
    let r = c.requires.shown.what in
    let h = c.requires.shown.runs in
    let live = live_shown [] r.kept old.ropes old.interests.rows old.moment old.next row.rope (Some c.in-Some.field-0) h.kept c.in-Some.ensures in
    let fresh : row_at r.rows row.class row.key ≡ None = ap (λ rows. row_at rows row.class row.key) (sym h.kept.rows) ∙ sym c.in-None.ensures in
    let runs = reshown [] [] [] old new r h (c.ready_retain.ensures.same [] r.kept h.kept) c.ready_retain.ensures.form (ap (λ blocks. blocks.holders) c.ready_retain.ensures.blocks) in
    let legal : (is_live r.ropes row.rope && not (is_some (row_at r.rows row.class row.key))) ≡ true = ap (λ (x : Bool). x && not (is_some (row_at r.rows row.class row.key))) live ∙ ap (λ o. not (is_some o)) fresh in
    record {
      b = r;
      c = changes.Retained row.class row.key row.rope row.note;
      next = other_next [] [] new r c.in-Ok.ready (changes.Retained row.class row.key row.rope row.note) runs legal (c.in-Ok.ensures.ready [] r.kept h.kept live fresh);
      in_shape = c.requires.shown.in_shape;
    }
