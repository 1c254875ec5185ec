use Rattle.std.proofs.Common.{◌≡◌, length}
use Rattle.frame_pool.specs.Pool.{Identity}
use Rattle.players.specs.Players.{IsOfPool}
use Rattle.turn_measures.proofs.acts.hear.Given as goal

abbrev pub invariant-loop : goal.invariant-loop
invariant-loop l = record {
  pool : (pool : Identity) → IsOfPool pool l.fn.player.lease → IsOfPool pool l.player.lease;
  room : length l.room ≡ 4096;
}
