use Rattle.std.proofs.Common.{◌≡◌, ◌∙◌, ap, sym, refl, map, [], ◌∷◌, Some}
use Rattle.voice_model.specs.State.{row_at, with_rows, class_number}
use Rattle.interest_table.proofs.Found.{others, all_stay}
use Rattle.recovery.specs.Shown.{ShowsKept, left_idle}
use Rattle.recovery.proofs.PlacesFreed.{moved_shown}
use Rattle.recovery.proofs.RopesLeft.{one_gone}
use Rattle.recovery.proofs.Showing.{none_gone, rows_shown}
use Rattle.recovery.proofs.parts.Parts.forget.Goals as goal

pub returns-in_default-clause-shows : goal.returns-in_default-clause-shows
returns-in_default-clause-shows c = λ held d h orderly g.
    let old = c.args.self.now in
    none_gone held old.form d old.ropes old.interests.rows c.remove.new.self.rows old.moment old.next c.args.class c.args.key.now h (sym c.in_default.ensures.value) c.remove.ensures.rows

pub returns-clause-shows : goal.returns-clause-shows
returns-clause-shows c = λ held d h orderly g.
    let old = c.args.self.now in
    let new = c.settle.new.self in
    let class = class_number c.args.class in
    let left = others c.args.class c.args.key.now d.rows in
    let rows : c.remove.new.self.rows ≡ left = c.remove.ensures.rows ∙ ap (others c.args.class c.args.key.now) h.rows in
    let there : row_at d.rows c.args.class c.args.key.now ≡ Some c.in-Some.row = ap (λ l. row_at l c.args.class c.args.key.now) (sym h.rows) ∙ sym c.in-Some.ensures.value in
    let shown : ShowsKept held old.ropes d.rows old.moment old.next d = record { block = h.block; ropes = h.ropes; uses = h.uses; rows = refl; moment = h.moment; next = h.next } in
    moved_shown held new.ropes left new.interests.rows old.moment new.moment old.next new.next (with_rows old.form class d left)
    (rows_shown held old.form class (c.in-Some.row.rope ∷ []) c.args.graces.now d old.ropes new.ropes left old.moment old.next shown
    (one_gone c.args.class c.args.key.now c.in-Some.row d.rows there orderly.once) orderly g
    (c.settle.ensures.ropes ∙ ap (λ l. map (left_idle old.form c.args.graces.now old.moment class l (c.in-Some.row.rope ∷ [])) old.ropes.ropes) rows)
    c.settle.ensures.block (c.settle.ensures.counts held h.uses))
    (ap (λ t. t.rows) c.settle.ensures.interests ∙ rows) c.settle.ensures.moment c.settle.ensures.next

pub returns-in_default-clause-same : goal.returns-in_default-clause-same
returns-in_default-clause-same c = λ held d h e. record {
  block = h.block;
  ropes = h.ropes;
  uses = h.uses;
  rows = c.remove.ensures.rows ∙ all_stay c.args.class c.args.key.now c.args.self.now.interests.rows (sym c.in_default.ensures.value) ∙ h.rows;
  moment = h.moment;
  next = h.next;
}
