use Rattle.std.proofs.Common.{◌≡◌, ◌*◌, ◌+◌, fold, take}
use Rattle.interest_table.proofs.expiries.spelled.Given as goal

abbrev pub invariant-loop-byte : goal.invariant-loop-byte
invariant-loop-byte l = l.number ≡ fold (λ n b. n * 256 + b) 0 (take l.byte-index l.bytes)
