use Rattle.std.proofs.Common.{◌≡◌, ◌++◌, flat_map, take}
use Rattle.voice_audit.specs.Audit.{row_text}
use Rattle.voice_audit.proofs.telling.put_rows.Given as goal

abbrev pub invariant-loop-k : goal.invariant-loop-k
invariant-loop-k l = l.out.items ≡ l.fn.out.items ++ flat_map row_text (take l.k l.interests.rows)
