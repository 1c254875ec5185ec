use Rattle.std.proofs.Common.{◌≡◌, ◌≤◌, length}
use Rattle.silence_scan.specs.Scan.{fed_to}
use Rattle.silence_scan.proofs.tests.scan.Given as goal

abbrev pub invariant-loop-turn : goal.invariant-loop-turn
invariant-loop-turn l = (l.at ≤ length l.bytes) × (fed_to l.scanner ≡ l.at)
