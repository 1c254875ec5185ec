use Rattle.std.proofs.Common.{◌≡◌, ◌%◌, ◌^◌, take}
use Rattle.voice_main.specs.MadeRuns.{byte_total}
use Rattle.voice_main.proofs.make.byte_sum.Given as goal

abbrev pub invariant-loop-b : goal.invariant-loop-b
invariant-loop-b l = l.sum ≡ byte_total (take l.b-index l.bytes) % 2 ^ 32
