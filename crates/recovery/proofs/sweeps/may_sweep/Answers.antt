-- A rope that has no more rows than are expired has none once those are gone.
use Rattle.std.proofs.Common.{◌&&◌, not, nat_le, filter, ap, ◌∙◌}
use Rattle.std.specs.Prelude.{is_some}
use Rattle.voice_model.specs.State.{has_row}
use Rattle.voice_model.specs.Changes.{is_expired}
use Rattle.rope_table.specs.Table.{rope_of}
use Rattle.interest_table.specs.Table.{rows_of}
use Rattle.recovery.specs.Gathered.{rows_noted}
use Rattle.recovery.proofs.BlocksUsed.{same_all}
use Rattle.recovery.proofs.Spent.{all_spent}
use Rattle.recovery.proofs.sweeps.may_sweep.Goals as goal

pub returns : goal.returns
returns c =
    let ropes = c.args.ropes.now.ropes in
    let rows = c.args.interests.now.rows in
    c.are_bare.ensures
    ∙ same_all (λ id. is_some (rope_of ropes id) && nat_le (rows_of id rows) (rows_noted c.in_ok-counts.counts id))
    (λ id. is_some (rope_of ropes id) && not (has_row (filter (λ row. not (is_expired c.args.now row)) rows) id))
    (λ id. ap (λ b. is_some (rope_of ropes id) && b) (all_spent c.args.now id (rows_noted c.in_ok-counts.counts id) rows (c.in_ok-counts.ensures id))) c.args.ids.now
