use Rattle.std.proofs.Common.{◌∙◌, sym, subst}
use Rattle.frame_pool.specs.Pool.{Identity, KeeperIs}
use Rattle.frame_pool.proofs.Keepers.{keeper_new}
use Rattle.frame_pool.proofs.pool.Pool.new.Goals as goal

pub of-keeper-requires-clause-seat : goal.of-keeper-requires-clause-seat
of-keeper-requires-clause-seat c =
    let p = c.in_ok-table.ensures.place in
    let w : Identity = record { id = c.in_ok-table.table.shared.table_id; sizes = record { lanes = c.args.lanes; block = c.args.block } } in
    subst (λ (x : Identity). KeeperIs x c.in_ok-table.seat) (sym (c.in_ok-try_clone.ensures ∙ c.in-Ok.ensures.ok)) (keeper_new w c.in_ok-table.seat p.0 p.1 p.2)
