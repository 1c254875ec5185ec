use Rattle.std.proofs.Common.{◌≡◌}
use Rattle.turnstile.specs.Turns.{Begins}
use Rattle.turnstile.specs.Passes.{mine, seen, IsAllOf}
use Rattle.voice_store.specs.Shown.{history_of}
use Rattle.voice_server.specs.Served.{store_of, tapes_of, IsPassOf, IsPlayerOf}
use Rattle.servings.proofs.Turned.{Goes}
use Rattle.servings.proofs.Steps.{opened_as}
use Rattle.servings.proofs.serving.serve_job.Given as goal

abbrev pub invariant-loop : goal.invariant-loop
invariant-loop g l = record {
  pass : IsPassOf l.fn.server l.pass;
  caller : l.pass.caller ≡ l.fn.pass.caller;
  player : IsPlayerOf l.fn.server l.player;
  lane : l.player.lane ≡ l.fn.player.lane;
  all : IsAllOf (history_of (store_of l.fn.server)) (seen l.pass) l.pass.caller (mine l.pass);
  grown : Begins (seen l.fn.pass) (seen l.pass);
  goes : Goes (opened_as (g.D.Disk.told (store_of l.fn.server).origin)) (tapes_of l.fn.server) l.fn.pass.caller l.fn.player.lane (seen l.fn.pass) (mine l.fn.pass) l.fn.heard.items (seen l.pass) (mine l.pass) l.player.at l.player.lease l.heard.items;
}
