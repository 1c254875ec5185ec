use Rattle.std.proofs.Common.{take, ◌||◌}
use Rattle.voice_units.specs.Spots.{spots_of}
use Rattle.voice_units.specs.Blocks.{pairs_at, has_pair, in_run}
use Rattle.rope_table.proofs.Passes.{IsPassed}
use Rattle.rope_table.proofs.counts.touch_all.Given as goal

abbrev pub invariant-loop-k : goal.invariant-loop-k
invariant-loop-k l = IsPassed l.live l.pass l.fn.tally l.tally (pairs_at l.block (spots_of l.pieces)) (has_pair (pairs_at l.block (spots_of (take l.k l.pieces))))

abbrev pub invariant-loop-index : goal.invariant-loop-index
invariant-loop-index l = IsPassed l.live l.pass l.fn.tally l.tally (pairs_at l.block (spots_of l.pieces)) (λ q. has_pair (pairs_at l.block (spots_of (take l.k l.pieces))) q || in_run l.file l.initial.index l.index q)
