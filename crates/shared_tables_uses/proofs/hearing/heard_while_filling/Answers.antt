use Rattle.std.proofs.Common.{ap, ◌∙◌}
use Rattle.frame_pool.specs.Pool.{LeaseState}
use Rattle.shared_tables_uses.proofs.Wholes.{whole_frame}
use Rattle.shared_tables_uses.proofs.hearing.heard_while_filling.Goals as goal

pub returns : goal.returns
returns g c = record { heard = c.join-heard.ensures.first.1 ∙ ap (λ (x : LeaseState). x.samples) c.in_ok-lease.ensures.lease ∙ whole_frame c.fill.new.self.frames c.args.block.items c.fill.ensures.filled c.requires.blocks.0 }
