use Rattle.voice_notes.proofs.LineLaws.{lines_are_first}
use Rattle.voice_notes.proofs.laws.lines_are_first.Goals as goal

pub returns : goal.returns
returns c = lines_are_first
