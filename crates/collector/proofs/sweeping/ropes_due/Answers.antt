-- How far the ropes were looked through.
use Rattle.std.proofs.Common.{◌≡◌, ◌∙◌, sym, arith, Some}
use Rattle.std.specs.Prelude.{slice_get}
use Rattle.rope_table.specs.Table.{index_of}
use Rattle.collector.proofs.Looked.{told, told_none, looked_end, looked_past, looked_more, pushed_more, index_in_order}
use Rattle.collector.proofs.sweeping.ropes_due.Goals as goal

pub returns-in_default-clause-ropes : goal.returns-in_default-clause-ropes
returns-in_default-clause-ropes g c = let h = c.in_default.ensures.value in
    c.loop-k.invariant.ropes ∙ sym (looked_end c.args.now (index_of c.args.table.now.ropes) c.loop-k.k c.loop-k.invariant.looked (told_none (slice_get (index_of c.args.table.now.ropes) c.loop-k.k) (sym h)))

pub returns-then-at-number-clause-ropes : goal.returns-then-at-number-clause-ropes
returns-then-at-number-clause-ropes g c =
    let order = index_in_order c.args.table.now.ropes (c.block-laws.ensures.laws).rising in
    c.loop-k.invariant.ropes
    ∙ sym (looked_past c.args.now (index_of c.args.table.now.ropes) c.loop-k.k (record { at = c.in-Some.at; id = c.in-Some.id }) order c.loop-k.invariant.looked
    (told (slice_get (index_of c.args.table.now.ropes) c.loop-k.k) c.in-Some.at c.in-Some.id (sym c.in-Some.ensures.value)) (omega (arith, c.if-at-number.true, c.number.ensures.value)))

pub loop-k-preserved : goal.loop-k-preserved
loop-k-preserved g c =
    let at : slice_get (index_of c.args.table.now.ropes) c.loop-k.k ≡ Some (record { at = c.in-Some.at; id = c.in-Some.id }) = told (slice_get (index_of c.args.table.now.ropes) c.loop-k.k) c.in-Some.at c.in-Some.id (sym c.in-Some.ensures.value) in
    record {
      looked = looked_more c.args.now (index_of c.args.table.now.ropes) c.loop-k.k (record { at = c.in-Some.at; id = c.in-Some.id }) c.loop-k.invariant.looked at (omega (arith, c.if-at-number.false, c.number.ensures.value));
      ropes = pushed_more (index_of c.args.table.now.ropes) c.loop-k.k _ (record { at = c.in-Some.at; id = c.in-Some.id }) c.loop-k.due.items c.push.new.self.items at c.loop-k.invariant.ropes c.in_ok-push.ensures.items (let same = c.in-Some.id-is in cc);
      steps = omega (arith, c.loop-k.invariant.steps, c.due.ensures.steps);
    }
