use Rattle.std.proofs.Common.{[], Some, sym, ◌∙◌, ap, subst}
use Rattle.voice_model.specs.State.{row_at}
use Rattle.voice_model.specs.declared.changes.Change.TheVariants as changes
use Rattle.voice_blocks.specs.Holders.{BlocksView}
use Rattle.recovery.specs.Shown.{ShowsPlaces}
use Rattle.recovery.proofs.Rebuilding.{rebuilds_still}
use Rattle.recovery.proofs.Showing.{live_shown}
use Rattle.change_uses.proofs.rows.retain_row.Goals as goal

pub done-requires : goal.done-requires
done-requires c =
    let row = c.args.row in
    let old = c.args.parts.now in
    let r = c.requires.shown.what in
    let h = c.requires.shown.shows in
    let live = live_shown [] r.kept old.ropes old.interests.rows old.moment old.next row.rope (Some c.in-Some.field-0) h.kept c.in-Some.ensures in
    let fresh = ap (λ rows. row_at rows row.class row.key) (sym h.kept.rows) ∙ sym c.in-None.ensures in (
      r,
      Some (changes.Retained row.class row.key row.rope row.note),
      rebuilds_still old c.ready_retain.new.parts r h (c.ready_retain.ensures.same [] r.kept h.kept) c.ready_retain.ensures.form (subst (λ (b : BlocksView). ShowsPlaces b.holders r.shape.blocks r.places) (sym c.ready_retain.ensures.blocks) h.places),
      c.in-Ok.ensures.ready [] r.kept h.kept live fresh,
    )
