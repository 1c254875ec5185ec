use Rattle.std.proofs.Common.{Result, Ok, Err, refl}
use Rattle.std.specs.Prelude.{IfOk}
use Rattle.voice_units.specs.declared.shapes.Shape.{Shape}
use Rattle.voice_units.specs.declared.errors.NoMemory.{NoMemory}
use Rattle.voice_model.specs.Replay.{nothing_rebuilt}
use Rattle.recovery.specs.declared.parts.Parts.{Parts}
use Rattle.recovery.specs.Shown.{Rebuilds}
use Rattle.running_tables.specs.Running.{AtRest}
use Rattle.running_tables.proofs.Begins.{begins}
use Rattle.next_uses.proofs.ropes.empty_parts.Goals as goal

at_rest : (shape : Shape) (result : Result Parts NoMemory) → IfOk result (λ parts. Rebuilds parts (nothing_rebuilt shape)) → IfOk result (λ parts. AtRest shape parts)
at_rest shape (Ok parts) h = record { what = nothing_rebuilt shape; runs = begins parts (nothing_rebuilt shape) h; in_shape = refl }
at_rest shape (Err none) h = tt

pub returns : goal.returns
returns c = at_rest c.args.shape.now c.empty.result c.empty.ensures
