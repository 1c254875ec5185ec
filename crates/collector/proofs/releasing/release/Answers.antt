use Rattle.std.proofs.Common.{ℕ, List, subst, arith}
use Rattle.rope_table.specs.Table.{uses_at}
use Rattle.collector.specs.Freed.{gone_has, IsReleased}
use Rattle.collector.proofs.Released.{more_open}
use Rattle.collector.proofs.releasing.release.Goals as goal

pub returns-clause-freed : goal.returns-clause-freed
returns-clause-freed g c =
    let released = subst (λ (l : List ℕ). IsReleased c.args.table.now c.release_all.new.table c.args.blocks.now.holders c.release_all.new.blocks.holders l) c.items.ensures c.release_all.ensures.released in
    let more = more_open (gone_has c.args.table.now.block c.args.table.now.ropes c.args.ropes.now) (uses_at c.release_all.new.table) c.args.blocks.now.holders c.release_all.new.blocks.holders released.holders in
    omega (arith, more, c.free-before.ensures, c.free.ensures, c.saturating_sub.ensures)
