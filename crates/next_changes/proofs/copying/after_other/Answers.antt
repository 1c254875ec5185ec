use Rattle.std.proofs.Common.{[], ◌∙◌, sym, ap, subst}
use Rattle.voice_units.specs.declared.shapes.Shape.{Shape}
use Rattle.recovery.specs.Shown.{IsOrderly}
use Rattle.recovery.proofs.Rebuilding.{orderly_rebuilt}
use Rattle.next_ropes.proofs.Performed.{alike_shows}
use Rattle.running_tables.proofs.Taken.{reshown}
use Rattle.next_changes.proofs.Copied.{with_room, with_rows, other_done}
use Rattle.next_changes.proofs.copying.after_other.Goals as goal

pub perform-requires : goal.perform-requires
perform-requires c =
    let held = c.requires.0 in
    let b = c.requires.2 in
    let h = c.requires.4 in
    let parts = c.args.parts.now in
    let copy = c.in_ok-after.after in (
      held,
      b.kept,
      c.requires.3,
      with_rows held copy c.reserve.new.self b.kept c.in_ok-reserve.ensures.rows (alike_shows held b.kept parts copy c.in_ok-after.ensures.alike h.runs.kept),
      with_room parts.interests.spare c.reserve.new.self.spare b.kept c.args.ready.now c.requires.3 c.in_ok-reserve.ensures.room h.ready,
    )

pub returns : goal.returns
returns c = λ held takings b change h same.
    let parts = c.args.parts.now in
    let alike = c.in_ok-after.ensures.alike in
    let copy = record c.in_ok-after.after { interests = c.reserve.new.self } in
    let shows = with_rows held c.in_ok-after.after c.reserve.new.self b.kept c.in_ok-reserve.ensures.rows (alike_shows held b.kept parts c.in_ok-after.after alike h.runs.kept) in
    let runs = reshown held [] takings parts copy b h.runs shows alike.form alike.holders in
    let ready = with_room parts.interests.spare c.reserve.new.self.spare b.kept c.args.ready.now change c.in_ok-reserve.ensures.room h.ready in
    let ordered = subst (λ form. IsOrderly form b.kept) (sym (alike.form ∙ h.runs.in_form)) (orderly_rebuilt b h.runs.valid) in
    let graces = ap (λ (s : Shape). s.graces) same in
    let done = c.perform.ensures in
    other_done held takings c.reserve.new.self.spare copy c.perform.new.parts b change c.args.ready.now runs h.legal ready
    (done.shows held b.kept change shows ordered graces ready) done.stay (done.blocks held b.kept change shows ordered graces ready) done.size done.form
