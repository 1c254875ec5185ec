use Rattle.voice_notes.proofs.KeyLaws.{keys_come_once}
use Rattle.voice_notes.proofs.laws.keys_come_once.Goals as goal

pub returns : goal.returns
returns c = keys_come_once
