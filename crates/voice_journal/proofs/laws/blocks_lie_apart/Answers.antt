use Rattle.voice_journal.proofs.Beyond.{sure_beyond, unsure_beyond}
use Rattle.voice_journal.proofs.laws.blocks_lie_apart.Goals as goal

pub returns : goal.returns
returns c = record { sure = sure_beyond; unsure = unsure_beyond }
