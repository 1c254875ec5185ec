use Rattle.std.proofs.Common.{◌≤◌, ◌-◌, length, map}
use Rattle.std.specs.Prelude.{string_bytes}
use Rattle.voice_main.specs.Options.{none_given}
use Rattle.voice_main.proofs.Pairing.{Alike}
use Rattle.voice_main.proofs.options.given_by.Given as goal

abbrev pub invariant-loop-at : goal.invariant-loop-at
invariant-loop-at l = record {
  within : l.at ≤ length l.words;
  alike : Alike (map string_bytes l.words) none_given l.given l.at;
}

abbrev pub decreases-loop-at : goal.decreases-loop-at
decreases-loop-at l = length l.words - l.at
