use Rattle.voice_store.specs.Shown.{pool_of}
use Rattle.servings.proofs.alone.go_on_alone.Goals as goal

pub returns-in_err-hear_window-clause-pool : goal.returns-in_err-hear_window-clause-pool
returns-in_err-hear_window-clause-pool g c = c.in_err-hear_window.ensures.pool (pool_of c.args.store.now) c.requires.pool

pub returns-in-Window-clause-pool : goal.returns-in-Window-clause-pool
returns-in-Window-clause-pool g c = c.in_ok-hear_window.ensures.pool (pool_of c.args.store.now) c.requires.pool
