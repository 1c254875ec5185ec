use Rattle.std.proofs.Common.{length, ◌+◌, ◌++◌, sym, ◌∙◌, ap, arith, append_assoc}
use Rattle.std.specs.Vec.{vec_capacity}
use Rattle.std.proofs.lemmas.Option.{slice_get_within}
use Rattle.disk_areas.specs.Numbers.{number_bytes}
use Rattle.voice_model.specs.Spelling.{piece_bytes}
use Rattle.voice_model.proofs.ChangesOfEffects.{piece_length}
use Rattle.change_codec.proofs.Appended.{room_of_width, appended_more, appended_all}
use Rattle.mirror_sender.proofs.Lists.{found_get}
use Rattle.mirror_sender.proofs.putting.append_pieces.Goals as goal

pub append_piece-requires : goal.append_piece-requires
append_piece-requires c = record {
  room = room_of_width piece_bytes 16 piece_length _ _ _ _ _ c.loop-k.invariant (slice_get_within c.args.pieces.now c.loop-k.k c.in-Some.piece (sym c.in-Some.ensures));
}

pub loop-k-preserved : goal.loop-k-preserved
loop-k-preserved c =
    appended_more piece_bytes _ _ _ _ _ _ _ _ c.loop-k.invariant (slice_get_within c.args.pieces.now c.loop-k.k c.in-Some.piece (sym c.in-Some.ensures)) (found_get c.args.pieces.now c.loop-k.k c.in-Some.piece (sym c.in-Some.ensures))
    c.append_piece.ensures.capacity c.append_piece.ensures.items
