use Rattle.std.proofs.Common.{Result, Ok, Err, refl}
use Rattle.std.specs.Prelude.{IfOk}
use Rattle.voice_units.specs.declared.shapes.Shape.{Shape}
use Rattle.voice_units.specs.declared.errors.NoMemory.{NoMemory}
use Rattle.voice_model.specs.Replay.{nothing_rebuilt}
use Rattle.recovery.specs.declared.parts.Parts.{Parts}
use Rattle.recovery.specs.Shown.{Rebuilds, IsParts}
use Rattle.mirror_tables.proofs.tests.empty_tables.Goals as goal

are_parts : (shape : Shape) (result : Result Parts NoMemory) → IfOk result (λ parts. Rebuilds parts (nothing_rebuilt shape)) → IfOk result (λ parts. IsParts shape parts)
are_parts shape (Ok parts) h = record { what = nothing_rebuilt shape; shows = h; in_shape = refl }
are_parts shape (Err none) h = tt

pub returns : goal.returns
returns c = are_parts c.args.shape.now c.empty.result c.empty.ensures
