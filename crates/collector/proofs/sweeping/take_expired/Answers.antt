-- A row is taken, and its rope comes last if that was its last row.
use Rattle.std.proofs.Common.{◌+◌, ap, ◌∙◌}
use Rattle.collector.specs.Due.{copies, is_kept, rows_left}
use Rattle.collector.proofs.Lost.{same_rope}
use Rattle.collector.proofs.sweeping.take_expired.Goals as goal

pub returns-clause-gone : goal.returns-clause-gone
returns-clause-gone c id =
    c.in_ok-push_if_lost.ensures id
    ∙ ap (λ n. copies id c.args.gone.now.items + n) (same_rope c.args.rope id c.in_ok-rest.rest (is_kept c.args.table.now.ropes) (rows_left c.take_row.new.left c.args.interests.now.rows) c.in_ok-rest.ensures.result)
