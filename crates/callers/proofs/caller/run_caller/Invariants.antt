use Rattle.std.proofs.Common.{◌≡◌}
use Rattle.turnstile.specs.Passes.{mine, seen, IsAllOf}
use Rattle.voice_store.specs.Shown.{history_of}
use Rattle.voice_server.specs.Served.{IsPassOf, store_of}
use Rattle.served_files.specs.Given.{names_in}
use Rattle.callers.proofs.Following.{IsAt}
use Rattle.callers.proofs.Telling.{KnowsHeard}
use Rattle.callers.proofs.caller.run_caller.Given as goal

abbrev pub invariant-loop-line : goal.invariant-loop-line
invariant-loop-line g l = record {
  pass : IsPassOf l.server l.pass;
  caller : l.pass.caller ≡ l.fn.pass.caller;
  all : IsAllOf (history_of (store_of l.server)) (seen l.pass) l.pass.caller (mine l.pass);
  reaches : IsAt l.tapes l.script.lines l.line-index l.fn.pass.caller (mine l.fn.pass) (mine l.pass) l.variables (names_in l.heard.items);
  knows : KnowsHeard g.D.Disk.told l.tapes l.server l.script.lines l.fn.pass l.pass l.heard.items;
}
