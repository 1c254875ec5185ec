use Rattle.std.proofs.Common.{◌∙◌, ap}
use Rattle.rope_table.specs.Table.{Table, pairs_in, pieces_in, block_count}
use Rattle.rope_table.proofs.Wholes.{live_where}
use Rattle.rope_table.proofs.table.RopeTable.live_blocks.Goals as goal

pub returns : goal.returns
returns c =
    c.live.ensures (pairs_in c.self.inside.counts.block (pieces_in c.self.inside.ropes.ropes)) (λ q. live_where c.self.inside.ropes c.self.inside.dues c.self.inside.counts q c.self.invariant)
    ∙ ap (λ (t : Table). block_count t.block t.ropes) c.self.view_is
