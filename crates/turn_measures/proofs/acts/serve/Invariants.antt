use Rattle.voice_server.specs.Served.{IsPassOf, IsPlayerOf}
use Rattle.turn_measures.proofs.acts.serve.Given as goal

abbrev pub invariant-loop : goal.invariant-loop
invariant-loop g l = record {
  pass : IsPassOf l.fn.server l.pass;
  player : IsPlayerOf l.fn.server l.player;
}
