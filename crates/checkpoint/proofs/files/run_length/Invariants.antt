use Rattle.std.proofs.Common.{◌≡◌, ◌+◌, drop}
use Rattle.checkpoint.specs.Blocks.{run_in}
use Rattle.checkpoint.proofs.files.run_length.Given as goal

abbrev pub invariant-loop-count : goal.invariant-loop-count
invariant-loop-count l = run_in l.file l.placed ≡ l.count + run_in l.file (drop l.count l.placed)
