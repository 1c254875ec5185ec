use Rattle.voice_journal.proofs.Doubts.{pending_reads}
use Rattle.voice_journal.proofs.laws.doubt_reads.Goals as goal

pub returns : goal.returns
returns c = pending_reads
