use Rattle.std.proofs.Common.{◌≡◌, ◌+◌, ◌≤◌, ◌^◌, length, drop}
use Rattle.mirror_sender.specs.Coming.{bytes_taken}
use Rattle.mirror_sender.proofs.making.samples_taken.Given as goal

abbrev pub invariant-loop-take : goal.invariant-loop-take
invariant-loop-take l = (l.total + length (bytes_taken l.tapes (drop l.take-index l.takes)) ≡ length (bytes_taken l.tapes l.takes)) × (l.total ≤ 2 ^ 30)
