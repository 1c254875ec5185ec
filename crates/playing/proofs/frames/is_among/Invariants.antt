use Rattle.std.proofs.Common.{◌≡◌, false, take}
use Rattle.std.specs.List.{list_any}
use Rattle.playing.specs.Frames.{is_in}
use Rattle.playing.proofs.frames.is_among.Given as goal

abbrev pub invariant-loop-stretch : goal.invariant-loop-stretch
invariant-loop-stretch l = list_any (is_in l.block l.b) (take l.stretch-index l.window) ≡ false
