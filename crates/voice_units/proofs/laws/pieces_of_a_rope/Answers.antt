use Rattle.voice_units.proofs.PiecesOfRopes.{normal, spots_of-runs, same_pieces, spots_of-append, take-spots_from, drop-spots_from}
use Rattle.voice_units.specs.Spots.{nowhere}
use Rattle.voice_units.proofs.laws.pieces_of_a_rope.Goals as goal

pub returns : goal.returns
returns c = record { normal = normal; places = spots_of-runs nowhere; same = same_pieces; joined = spots_of-append; front = take-spots_from; rest = drop-spots_from }
