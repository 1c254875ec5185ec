use Rattle.std.proofs.Common.{◌≡◌}
use Rattle.players.specs.Players.{IsOfPool}
use Rattle.voice_store.specs.Shown.{history_of, tapes_in, pool_of}
use Rattle.servings.proofs.ByOne.{GoesAlone}
use Rattle.servings.proofs.OneSteps.{Lasts, kept_as}
use Rattle.servings.proofs.alone.serve_alone.Given as goal

abbrev pub invariant-loop : goal.invariant-loop
invariant-loop g l = record {
  lane : l.player.lane ≡ l.fn.lane;
  pool : IsOfPool (pool_of l.store) l.player.lease;
  lasts : Lasts g.D.Disk.told l.fn.store l.store;
  goes : GoesAlone (kept_as g.D.Disk.told l.fn.store) (tapes_in l.fn.store) l.fn.caller l.fn.lane (history_of l.fn.store) l.fn.heard.items (history_of l.store) l.player.at l.player.lease l.heard.items;
}
