use Rattle.std.proofs.Common.{◌≡◌, ◌≤◌, ◌-◌, ◌++◌, take, length, Some}
use Rattle.std.specs.Prelude.{IfSome}
use Rattle.voice_main.proofs.output.write_all.Given as goal

abbrev pub invariant-pieces : goal.invariant-pieces
invariant-pieces g l = record {
  within : l.at ≤ length l.bytes;
  told : IfSome (g.O.Sink.contents l.fn.out) (λ had. g.O.Sink.contents l.out ≡ Some (had ++ take l.at l.bytes));
  later : g.O.Sink.faults l.fn.out ≤ g.O.Sink.faults l.out;
  empty_later : g.O.Sink.empty_takes l.fn.out ≤ g.O.Sink.empty_takes l.out;
}

abbrev pub decreases-pieces : goal.decreases-pieces
decreases-pieces g l = length l.bytes - l.at
