use Rattle.voice_server.specs.Served.{IsPassOf}
use Rattle.turn_measures.proofs.acts.take_part.Given as goal

abbrev pub invariant-loop : goal.invariant-loop
invariant-loop g l = IsPassOf l.fn.server l.pass
