use Rattle.std.proofs.Common.{◌≡◌, length}
use Rattle.frame_pool.specs.Pool.{Identity}
use Rattle.players.specs.Players.{IsOfPool, rest_of}
use Rattle.servings.proofs.Pieces.{IsIn}
use Rattle.servings.proofs.copying.hear_window.Given as goal

abbrev pub invariant-loop-n : goal.invariant-loop-n
invariant-loop-n l = record {
  lane : l.player.lane ≡ l.fn.player.lane;
  pool : (pool : Identity) → IsOfPool pool l.fn.player.lease → IsOfPool pool l.player.lease;
  room : length l.piece ≡ 2048;
  is_in : IsIn l.fn.player l.player l.fn.heard.items l.heard.items;
}

abbrev pub decreases-loop-n : goal.decreases-loop-n
decreases-loop-n l = rest_of l.player
