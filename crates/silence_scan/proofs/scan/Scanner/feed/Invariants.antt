use Rattle.std.proofs.Common.{◌≡◌, ℕ, ◌-◌, ◌+◌, ◌≤◌, List, ◌++◌, length, take, false}
use Rattle.silence_scan.specs.Scan.{HasScanned, fed_to}
use Rattle.silence_scan.proofs.scan.Scanner.feed.Given as goal

abbrev pub invariant-parts : goal.invariant-parts
invariant-parts l = record {
  within : l.at ≤ length l.bytes;
  fresh : l.self.spent ≡ false;
  fed : fed_to l.self ≡ fed_to l.fn.self + l.at;
  scanned : (before : List ℕ) → HasScanned before l.fn.self → HasScanned (before ++ take l.at l.bytes) l.self;
}

abbrev pub decreases-parts : goal.decreases-parts
decreases-parts l = length l.bytes - l.at
