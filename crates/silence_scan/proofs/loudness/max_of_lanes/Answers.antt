use Rattle.std.proofs.Common.{arith}
use Rattle.std.proofs.lemmas.Grind.{common_steps}
use Rattle.silence_scan.proofs.Greatest.{greatest_push}
use Rattle.silence_scan.proofs.loudness.max_of_lanes.Goals as goal

pub loop-x-preserved : goal.loop-x-preserved
loop-x-preserved c = grind (arith, common_steps, greatest_push)
