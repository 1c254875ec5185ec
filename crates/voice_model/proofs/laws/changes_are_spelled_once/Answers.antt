use Rattle.voice_model.proofs.ReadAgain.{one_change, spelled_is_read, read_is_spelled}
use Rattle.voice_model.proofs.laws.changes_are_spelled_once.Goals as goal

pub returns : goal.returns
returns c = record { same = one_change; read = spelled_is_read; spelled = read_is_spelled }
