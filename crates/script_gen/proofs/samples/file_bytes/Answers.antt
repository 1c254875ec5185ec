use Rattle.std.proofs.Common.{arith}
use Rattle.std.proofs.lemmas.Grind.{common_steps}
use Rattle.std.proofs.lemmas.List.FromFn.{map-range_with_len_more}
use Rattle.script_gen.specs.Samples.{file_byte}
use Rattle.script_gen.proofs.samples.file_bytes.Goals as goal

pub loop-k-preserved : goal.loop-k-preserved
loop-k-preserved c = grind (arith, common_steps, map-range_with_len_more (file_byte c.from-number.result) 0 c.loop-k.k c.loop-k.k (omega arith))
