-- Row by row, the ropes of which none is left.
use Rattle.std.proofs.Common.{ℕ, ◌<◌, nat_eq, length, ap, ◌∙◌}
use Rattle.std.specs.Prelude.{unwrap_or}
use Rattle.std.specs.Map.{lookup}
use Rattle.interest_table.specs.Table.{rows_of}
use Rattle.collector.specs.Due.{copies, is_kept, rows_left, rows_kept}
use Rattle.collector.proofs.Lost.{left_start, gone_start, left_more, gone_more, gone_all}
use Rattle.collector.proofs.sweeping.push_lost.Goals as goal

pub loop-rope-init : goal.loop-rope-init
loop-rope-init c =
    let rows = c.args.interests.now.rows in
    let none = λ (id : ℕ). ap (λ es. unwrap_or (lookup (nat_eq id) es) (rows_of id rows)) c.new-left.ensures.empty in
    record {
      left = λ id. left_start c.args.now id (rows_left c.new-left.result rows id) rows c.deref-rope-items.result.now (none id) (c.deref-rope-items.ensures.value ∙ c.in_ok-expired.ensures);
      gone = λ id. gone_start (is_kept c.args.table.now.ropes id) (rows_left c.new-left.result rows id) (rows_of id rows) (copies id c.args.gone.now.items) (none id);
    }

pub loop-rope-preserved : goal.loop-rope-preserved
loop-rope-preserved c =
    let rows = c.args.interests.now.rows in
    let xs = c.deref-rope-items.result.now in
    let k = c.loop-rope.rope-index in
    let x = c.rope-item.result in
    let within : k < length xs = c.loop-rope-test.true in
    let all = c.deref-rope-items.ensures.value ∙ c.in_ok-expired.ensures in
    let was = c.loop-rope.invariant in
    let is = c.in_ok-take_expired.ensures in
    record {
      left = λ id. left_more id k x (rows_of id (rows_kept c.args.now rows)) (rows_left c.loop-rope.left rows id) (rows_left c.take_expired.new.left rows id) xs within c.rope-item.is (was.left id) (is.left id);
      gone = λ id. gone_more c.args.now id k x (rows_left c.loop-rope.left rows id) (rows_left c.take_expired.new.left rows id) (copies id c.args.gone.now.items) (copies id c.loop-rope.gone.items) (copies id c.take_expired.new.gone.items) (is_kept c.args.table.now.ropes id) rows xs
          within c.rope-item.is all (was.left id) (is.left id) (was.gone id) (is.gone id);
    }

pub returns : goal.returns
returns c id =
    let rows = c.args.interests.now.rows in
    gone_all c.args.now id c.loop-rope.rope-index (rows_left c.loop-rope.left rows id) (copies id c.args.gone.now.items) (copies id c.loop-rope.gone.items) (is_kept c.args.table.now.ropes id) rows c.deref-rope-items.result.now
    c.loop-rope-test.false (c.loop-rope.invariant.left id) (c.loop-rope.invariant.gone id)
