use Rattle.voice_notes.proofs.AnchorLaws.{anchors_stand}
use Rattle.voice_notes.proofs.laws.anchors_stand.Goals as goal

pub returns : goal.returns
returns c = anchors_stand
