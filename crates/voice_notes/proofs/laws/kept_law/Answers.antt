use Rattle.voice_notes.proofs.Listed.{rope_kept}
use Rattle.voice_notes.proofs.laws.kept_law.Goals as goal

pub returns : goal.returns
returns c = record { kept = rope_kept }
