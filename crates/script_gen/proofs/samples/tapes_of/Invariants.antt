use Rattle.std.proofs.Common.{◌≡◌, take}
use Rattle.std.specs.Prelude.{map}
use Rattle.script_gen.specs.Scripts.{tapes_of}
use Rattle.script_gen.proofs.samples.tapes_of.Given as goal

abbrev pub invariant-loop-file : goal.invariant-loop-file
invariant-loop-file l = map (λ tape. tape.items) l.tapes.items ≡ tapes_of (take l.file-index l.files)
