use Rattle.std.proofs.Common.{◌≡◌, take, map}
use Rattle.script_lang.specs.Errands.{meant}
use Rattle.script_lang.proofs.variables.Env.all_meant.Given as goal

abbrev pub invariant-loop-rope : goal.invariant-loop-rope
invariant-loop-rope l = l.ids.items ≡ map (meant l.self) (take l.rope-index l.ropes)
