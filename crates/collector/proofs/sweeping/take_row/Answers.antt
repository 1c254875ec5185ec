-- How many rows are left as one is taken.
use Rattle.std.proofs.Common.{◌≡◌, ◌-◌, cond, Some, nat_eq, eqb-true, eq-eqb, ap, sym, refl, ◌∙◌}
use Rattle.std.specs.Prelude.{unwrap_or}
use Rattle.std.specs.HashMap.{get}
use Rattle.interest_table.specs.Table.{rows_of}
use Rattle.collector.proofs.Lost.{put_left}
use Rattle.collector.proofs.sweeping.take_row.Goals as goal

one_less : (c : goal.In_ok-insert) → c.saturating_sub-after.result ≡ unwrap_or (get nat_eq c.args.left.now c.args.rope) (rows_of c.args.rope c.args.interests.now.rows) - 1
one_less c =
    c.saturating_sub-after.ensures
    ∙ ap (λ n. n - 1) (c.unwrap_or-before.ensures ∙ ap (λ o. unwrap_or o c.count.result) (c.copied.ensures ∙ c.get.ensures.value) ∙ ap (unwrap_or (get nat_eq c.args.left.now c.args.rope)) c.count.ensures)

pub returns-clause-left : goal.returns-clause-left
returns-clause-left c id =
    ap (λ o. unwrap_or o (rows_of id c.args.interests.now.rows)) (c.in_ok-insert.ensures.updates.0 id)
    ∙ put_left (nat_eq c.args.rope id) c.saturating_sub-after.result (rows_of id c.args.interests.now.rows) (get nat_eq c.args.left.now id)
    (λ e. one_less c ∙ ap (λ n. unwrap_or (get nat_eq c.args.left.now n) (rows_of n c.args.interests.now.rows) - 1) (eqb-true c.args.rope id e))

pub returns-clause-result : goal.returns-clause-result
returns-clause-result c =
    sym (ap (λ o. unwrap_or o (rows_of c.args.rope c.args.interests.now.rows)) (c.in_ok-insert.ensures.updates.0 c.args.rope
    ∙ ap (λ b. cond b (Some c.saturating_sub-after.result) (get nat_eq c.args.left.now c.args.rope)) (eq-eqb c.args.rope c.args.rope refl)))
