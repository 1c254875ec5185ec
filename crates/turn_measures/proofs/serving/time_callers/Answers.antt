use Rattle.callers.proofs.Ready.{new_ready}
use Rattle.turn_measures.proofs.serving.time_callers.Goals as goal

pub run_threads-passes-requires-clause-ready : goal.run_threads-passes-requires-clause-ready
run_threads-passes-requires-clause-ready g c κs within = new_ready c.in-Ok.made.0 1 c.in-Ok.made.1.items c.in-Ok.ensures.ok.3
