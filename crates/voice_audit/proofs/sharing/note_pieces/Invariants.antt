use Rattle.std.proofs.Common.{◌≡◌, ◌&&◌, ◌||◌, take}
use Rattle.voice_units.specs.Spots.{spots_of}
use Rattle.voice_units.specs.Blocks.{BlockPair, pairs_at, has_pair, in_run}
use Rattle.voice_audit.specs.Sharing.{is_noted, is_shared}
use Rattle.voice_audit.proofs.sharing.note_pieces.Given as goal

abbrev pub invariant-loop-k : goal.invariant-loop-k
invariant-loop-k l = (q : BlockPair) → is_noted l.noted q ≡ (is_noted l.fn.noted q || (is_shared l.table q && has_pair (pairs_at l.block (spots_of (take l.k l.pieces))) q))

abbrev pub invariant-loop-index : goal.invariant-loop-index
invariant-loop-index l = (q : BlockPair) → is_noted l.noted q ≡ (is_noted l.fn.noted q || (is_shared l.table q && (has_pair (pairs_at l.block (spots_of (take l.k l.pieces))) q || in_run l.file l.initial.index l.index q)))
