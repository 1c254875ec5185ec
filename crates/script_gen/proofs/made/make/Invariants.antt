use Rattle.std.specs.String.{string_bytes}
use Rattle.script_gen.proofs.Making.{IsMade}
use Rattle.script_gen.proofs.made.make.Given as goal

abbrev pub invariant-loop-k : goal.invariant-loop-k
invariant-loop-k l = IsMade l.seed l.k l.draws.state (string_bytes l.script) l.files.items
