use Rattle.playing.proofs.Windowing.{IsWindowing}
use Rattle.playing.proofs.windows.window_of.Given as goal

abbrev pub invariant-loop-k : goal.invariant-loop-k
invariant-loop-k l = IsWindowing l.block l.passage l.heard l.k l.at l.window.items
