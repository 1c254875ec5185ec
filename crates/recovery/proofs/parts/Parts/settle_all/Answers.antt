use Rattle.std.proofs.Common.{◌≡◌, ◌+◌, ◌≤◌, [], ◌∷◌, length, map, drop, sym, ◌∙◌, ap, arith}
use Rattle.std.proofs.Math.ListN.{drop_of_length-le}
use Rattle.voice_model.specs.State.{class_number, with_rows}
use Rattle.recovery.specs.Shown.{left_idle}
use Rattle.recovery.proofs.RowsGone.{drop_next}
use Rattle.recovery.proofs.RopesLeft.{left_step, left_none}
use Rattle.recovery.proofs.Showing.{rows_shown}
use Rattle.recovery.proofs.PlacesFreed.{moved_shown}
use Rattle.recovery.proofs.parts.Parts.settle_all.Goals as goal

pub loop-rope-preserved : goal.loop-rope-preserved
loop-rope-preserved c =
    let old = c.args.self.now in
    let g = c.args.graces.now in
    let class = class_number c.args.class in
    let ids = c.args.ropes.now in
    let k = c.loop-rope.rope-index in
    let id = c.rope-item.result in
    let test = c.loop-rope-test.true in
    let step = c.loop-rope.invariant in
    let one = c.settle.ensures in
    let before = c.loop-rope.self in
    record {
      ropes =
          step.ropes ∙ ap (λ l. map (left_idle old.form g old.moment class old.interests.rows l) before.ropes.ropes) (drop_next ids k id (omega arith) c.rope-item.is)
          ∙ left_step old.form g old.moment class old.interests.rows id (drop (k + 1) ids) before.ropes.ropes
          ∙ ap (map (left_idle old.form g old.moment class old.interests.rows (drop (k + 1) ids)))
          (ap (λ n. map (left_idle n g old.moment class old.interests.rows (id ∷ [])) before.ropes.ropes) (sym step.form)
          ∙ ap (λ m. map (left_idle before.form g m class old.interests.rows (id ∷ [])) before.ropes.ropes) (sym step.moment)
          ∙ ap (λ t. map (left_idle before.form g before.moment class t.rows (id ∷ [])) before.ropes.ropes) (sym step.interests)
          ∙ sym one.ropes);
      block = one.block ∙ step.block;
      counts = λ held h. one.counts held (step.counts held h);
      interests = one.interests ∙ step.interests;
      blocks = one.blocks ∙ step.blocks;
      moment = one.moment ∙ step.moment;
      next = one.next ∙ step.next;
      form = one.form ∙ step.form;
    }

pub returns-clause-shows : goal.returns-clause-shows
returns-clause-shows c = λ held d h gone orderly same.
    let old = c.args.self.now in
    let new = c.loop-rope.self in
    let g = c.args.graces.now in
    let class = class_number c.args.class in
    let ids = c.args.ropes.now in
    let step = c.loop-rope.invariant in
    let test = c.loop-rope-test.false in
    let none : drop c.loop-rope.rope-index ids ≡ [] = drop_of_length-le ids (let over : length ids ≤ c.loop-rope.rope-index = omega arith in over) in
    let ropes : new.ropes.ropes ≡ map (left_idle old.form g old.moment class old.interests.rows ids) old.ropes.ropes =
    sym (step.ropes ∙ ap (λ l. map (left_idle old.form g old.moment class old.interests.rows l) new.ropes.ropes) none ∙ left_none old.form g old.moment class old.interests.rows new.ropes.ropes) in
    let d2 = with_rows old.form class d old.interests.rows in
    moved_shown held new.ropes old.interests.rows new.interests.rows old.moment new.moment old.next new.next d2
    (rows_shown held old.form class ids g d old.ropes new.ropes old.interests.rows old.moment old.next h gone orderly same ropes step.block (step.counts held h.uses))
    (ap (λ t. t.rows) step.interests) step.moment step.next
