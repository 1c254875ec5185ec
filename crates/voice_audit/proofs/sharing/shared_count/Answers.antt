use Rattle.std.proofs.Common.{◌∙◌}
use Rattle.voice_units.specs.Blocks.{pairs_at}
use Rattle.checkpoint.specs.Blocks.{spots_in_ropes}
use Rattle.voice_audit.specs.Sharing.{is_shared}
use Rattle.voice_audit.proofs.Counted.{set_counts}
use Rattle.voice_audit.proofs.sharing.shared_count.Goals as goal

pub returns : goal.returns
returns c = c.len.ensures.len ∙ set_counts c.in_ok-noted.noted (is_shared c.args.table.now) (pairs_at c.args.table.now.block (spots_in_ropes c.args.table.now.ropes)) c.len.ensures.unique c.in_ok-noted.ensures
