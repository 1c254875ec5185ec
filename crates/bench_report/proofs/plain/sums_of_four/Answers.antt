use Rattle.std.proofs.Common.{replicate}
use Rattle.std.proofs.lemmas.Simd.{dot4_Fits}
use Rattle.bench_report.proofs.plain.sums_of_four.Goals as goal

pub dot4 : goal.dot4
dot4 c = (dot4_Fits c.args.v (replicate 32 1) c.fits-v.1 tt, tt)
