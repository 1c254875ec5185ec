use Rattle.voice_notes.proofs.AnchorLaws.{places_are_first}
use Rattle.voice_notes.proofs.laws.places_are_first.Goals as goal

pub returns : goal.returns
returns c = places_are_first
