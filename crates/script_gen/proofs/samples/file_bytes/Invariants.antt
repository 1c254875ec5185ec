use Rattle.std.proofs.Common.{◌≡◌}
use Rattle.std.specs.Prelude.{map}
use Rattle.std.specs.List.{range_with_len}
use Rattle.script_gen.specs.Samples.{file_byte}
use Rattle.script_gen.proofs.samples.file_bytes.Given as goal

abbrev pub invariant-loop-k : goal.invariant-loop-k
invariant-loop-k l = l.bytes.items ≡ map (file_byte l.number) (range_with_len 0 l.k)
