use Rattle.std.proofs.Common.{◌≡◌, ◌++◌, map, take}
use Rattle.voice_model.specs.Spelling.{spelling}
use Rattle.voice_model.specs.Base.{row_change}
use Rattle.checkpoint.proofs.ropes.put_rows.Given as goal

abbrev pub invariant-loop-k : goal.invariant-loop-k
invariant-loop-k l = l.payloads ≡ l.fn.payloads ++ map spelling (map row_change (take l.k l.interests.rows))
