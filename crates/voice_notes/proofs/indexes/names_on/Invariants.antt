use Rattle.voice_notes.proofs.Lines.{ReadSoFar}
use Rattle.voice_notes.proofs.indexes.names_on.Given as goal

abbrev pub invariant-loop-line : goal.invariant-loop-line
invariant-loop-line l = record {
  next : (goal.iterator-loop-line).can_next l.line-iterator;
  ends : (goal.iterator-loop-line).is_finite l.line-iterator;
  read : ReadSoFar l.yielded l.number l.names.items;
}
