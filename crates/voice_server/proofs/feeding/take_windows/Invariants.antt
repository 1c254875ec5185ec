use Rattle.std.proofs.Common.{◌≡◌}
use Rattle.voice_model.specs.State.{State}
use Rattle.turnstile.specs.Turns.{Every}
use Rattle.players.specs.Players.{IsOfPool}
use Rattle.voice_store.specs.Shown.{Keeps, history_of, tapes_in, pool_of}
use Rattle.voice_server.proofs.feeding.take_windows.Given as goal

abbrev pub invariant-loop-player : goal.invariant-loop-player
invariant-loop-player g l = record {
  pool : Every (λ player. IsOfPool (pool_of l.store) player.lease) l.players.items;
  history : history_of l.store ≡ history_of l.fn.store;
  state : (first : State) → Keeps g.D.Disk.told first l.fn.store → Keeps g.D.Disk.told first l.store;
  same : (l.store.disk ≡ l.fn.store.disk) × (l.store.origin ≡ l.fn.store.origin) × (tapes_in l.store ≡ tapes_in l.fn.store) × (pool_of l.store ≡ pool_of l.fn.store);
}

abbrev pub decreases-loop-player : goal.decreases-loop-player
decreases-loop-player g l = goal.left-loop-player g l
