use Rattle.voice_store.specs.Shown.{pool_of}
use Rattle.voice_server.specs.Served.{store_of}
use Rattle.servings.proofs.serving.go_on.Goals as goal

pub returns-in_err-hear_window-clause-player : goal.returns-in_err-hear_window-clause-player
returns-in_err-hear_window-clause-player g c = c.in_err-hear_window.ensures.pool (pool_of (store_of c.args.server.now)) c.requires.player

pub returns-in-Window-clause-player : goal.returns-in-Window-clause-player
returns-in-Window-clause-player g c = c.in_ok-hear_window.ensures.pool (pool_of (store_of c.args.server.now)) c.requires.player
