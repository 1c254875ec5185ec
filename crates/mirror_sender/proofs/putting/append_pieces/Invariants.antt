use Rattle.std.proofs.Common.{◌+◌, length, ◌++◌, ◌≤◌, ◌≡◌}
use Rattle.std.specs.Vec.{vec_capacity}
use Rattle.disk_areas.specs.Numbers.{number_bytes}
use Rattle.voice_model.specs.Spelling.{piece_bytes}
use Rattle.change_codec.proofs.Appended.{AreAppended}
use Rattle.mirror_sender.proofs.putting.append_pieces.Given as goal

abbrev pub invariant-loop-k : goal.invariant-loop-k
invariant-loop-k l = AreAppended piece_bytes (l.fn.out.items ++ number_bytes 2 (length l.pieces)) l.out.items (vec_capacity l.out) l.k l.pieces
