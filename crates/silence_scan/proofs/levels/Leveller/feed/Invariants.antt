use Rattle.std.proofs.Common.{◌≡◌, ℕ, ◌-◌, ◌≤◌, List, ◌++◌, length, take, false}
use Rattle.silence_scan.specs.Levels.{HasHeard}
use Rattle.silence_scan.proofs.levels.Leveller.feed.Given as goal

abbrev pub invariant-parts : goal.invariant-parts
invariant-parts l = record {
  within : l.at ≤ length l.bytes;
  fresh : l.self.spent ≡ false;
  heard : (before : List ℕ) → HasHeard before l.fn.self → HasHeard (before ++ take l.at l.bytes) l.self;
}

abbrev pub decreases-parts : goal.decreases-parts
decreases-parts l = length l.bytes - l.at
