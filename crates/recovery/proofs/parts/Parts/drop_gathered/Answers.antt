use Rattle.std.proofs.Common.{◌≡◌, filter, not, sym, ◌∙◌, ap, subst, refl}
use Rattle.voice_model.specs.State.{class_number, with_rows}
use Rattle.voice_model.specs.declared.calls.Row.{Row}
use Rattle.interest_table.specs.Table.{is_named}
use Rattle.recovery.specs.Gathered.{AreGoing, Gone}
use Rattle.recovery.specs.Shown.{ShowsKept, RowsGone, rows_without}
use Rattle.recovery.proofs.RopesLeft.{named_gone, same_named}
use Rattle.recovery.proofs.parts.Parts.drop_gathered.Goals as goal

pub returns-clause-shows : goal.returns-clause-shows
returns-clause-shows c held d keys h ordered graces going =
    let g = c.going.inside in
    let set = g.keys.keys in
    let gone = subst (λ (x : Gone). AreGoing c.args.class keys d.rows x) (sym c.going.view_is) going in
    let is : c.remove_all.new.self.rows ≡ rows_without c.args.class keys d.rows =
    c.remove_all.ensures.rows ∙ ap (filter (λ (row : Row). not (is_named c.args.class set row))) h.rows ∙ same_named c.args.class keys set gone.keys_are d.rows in
    let after = c.settle_all.ensures.shows held d (record { block = h.block; ropes = h.ropes; uses = h.uses; rows = refl; moment = h.moment; next = h.next }) (subst (λ ids. RowsGone ids d.rows c.remove_all.new.self.rows) (sym c.deref.ensures.value) (subst (RowsGone g.ropes.items d.rows) (sym is) (named_gone c.args.class keys d.rows g.ropes.items gone.ropes))) ordered graces in
    subst (λ rows. ShowsKept held c.settle_all.new.self.ropes c.settle_all.new.self.interests.rows c.settle_all.new.self.moment c.settle_all.new.self.next (with_rows c.args.self.now.form (class_number c.args.class) d rows)) is after
