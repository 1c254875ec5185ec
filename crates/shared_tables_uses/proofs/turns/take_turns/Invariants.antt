use Rattle.std.proofs.Common.{◌≡◌}
use Rattle.shared_tables_uses.specs.Turns.{IsReady}
use Rattle.shared_tables_uses.proofs.turns.take_turns.Given as goal

abbrev pub invariant-loop : goal.invariant-loop
invariant-loop g l = record {
  ready : IsReady l.hall l.pass;
  caller : l.pass.caller ≡ l.initial.pass.caller;
}
