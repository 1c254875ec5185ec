use Rattle.checkpoint.proofs.Held.{used_alone}
use Rattle.table_measures.proofs.compacting.spell_once.Goals as goal

pub time_parts-requires : goal.time_parts-requires
time_parts-requires g c = record { shown = (c.in-Ok.ensures.ok.0, used_alone c.in-Ok.parts c.in-Ok.ensures.ok.0 c.in-Ok.ensures.ok.2) }
