use Rattle.voice_journal.proofs.Writing.{IsPut}
use Rattle.voice_journal.proofs.spelling.put_records.Given as goal

abbrev pub invariant-loop-payload : goal.invariant-loop-payload
invariant-loop-payload l = IsPut l.fn.room l.room l.from l.at l.payload-index l.payloads
