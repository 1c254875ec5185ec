use Rattle.std.proofs.Common.{◌≡◌, ℕ, ◌<◌, Some}
use Rattle.std.specs.Prelude.{slice_get}
use Rattle.voice_units.specs.declared.pieces.Piece.{Piece}
use Rattle.playing.specs.Frames.{HasAddress, block_at}
use Rattle.playing.proofs.tests.are_placed.Given as goal

abbrev pub invariant-loop-stretch : goal.invariant-loop-stretch
invariant-loop-stretch l = (j : ℕ) (s : Piece) → j < l.stretch-index → slice_get l.window j ≡ Some s → HasAddress l.blocks.holders (block_at l.block s)
