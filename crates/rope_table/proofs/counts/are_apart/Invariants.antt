use Rattle.rope_table.proofs.Apart.{Rise}
use Rattle.rope_table.proofs.counts.are_apart.Given as goal

abbrev pub invariant-loop-k : goal.invariant-loop-k
invariant-loop-k l = Rise l.block l.k l.pieces l.last l.end
