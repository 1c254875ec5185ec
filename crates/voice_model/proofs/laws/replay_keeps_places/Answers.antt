use Rattle.voice_model.specs.Replay.{nothing_rebuilt}
use Rattle.voice_model.proofs.PlacesKept.{placed_first, placed_next, placed_end, used_end, placed_all}
use Rattle.voice_model.proofs.laws.replay_keeps_places.Goals as goal

pub returns : goal.returns
returns c = record {
  first = placed_first;
  next = placed_next;
  last = placed_end;
  used_only = used_end;
  placed = λ shape cs end g e. (placed_all (nothing_rebuilt shape) cs end (placed_first shape) g e).placed;
  used_all = λ shape cs end g e. (placed_all (nothing_rebuilt shape) cs end (placed_first shape) g e).used;
}
