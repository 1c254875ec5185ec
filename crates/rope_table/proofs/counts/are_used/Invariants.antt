use Rattle.std.proofs.Common.{◌≡◌, take, ◌||◌, true, nat_lt}
use Rattle.voice_units.specs.Spots.{spots_of}
use Rattle.voice_units.specs.Blocks.{BlockPair, pairs_at, has_pair, in_run}
use Rattle.rope_table.specs.Inside.{count_in}
use Rattle.rope_table.proofs.counts.are_used.Given as goal

abbrev pub invariant-loop-k : goal.invariant-loop-k
invariant-loop-k l = (q : BlockPair) → has_pair (pairs_at l.block (spots_of (take l.k l.pieces))) q ≡ true → nat_lt 0 (count_in l.tally q).uses ≡ true

abbrev pub invariant-loop-index : goal.invariant-loop-index
invariant-loop-index l = (q : BlockPair) → (has_pair (pairs_at l.block (spots_of (take l.k l.pieces))) q || in_run l.file l.initial.index l.index q) ≡ true → nat_lt 0 (count_in l.tally q).uses ≡ true
