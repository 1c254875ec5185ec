use Rattle.std.proofs.Common.{◌≡◌, ◌≤◌, ◌*◌, ◌+◌, ◌^◌, fold, take}
use Rattle.row_calls.proofs.retaining.spells_at_most.Given as goal

abbrev pub invariant-loop-byte : goal.invariant-loop-byte
invariant-loop-byte l = (l.number ≡ fold (λ n b. n * 256 + b) 0 (take l.byte-index l.bytes)) × (l.number ≤ l.most) × (l.most ≤ 2 ^ 40)
