use Rattle.std.proofs.Common.{◌≡◌, ℕ, List, Some, refl, true}
use Rattle.voice_units.specs.Spots.{Spot}
use Rattle.voice_units.specs.declared.shapes.Shape.{Shape}
use Rattle.voice_model.specs.Samples.{Tagged, spot_of}
use Rattle.voice_model.specs.Spelling.{keeps_grammar}
use Rattle.voice_model.specs.Replay.{Rebuilt, nothing_rebuilt, rebuilt}
use Rattle.voice_model.specs.Valid.{Every}
use Rattle.voice_model.specs.Places.{CanBeSpelled, ReadsBack}
use Rattle.voice_model.specs.declared.changes.Change.{Change}
use Rattle.voice_model.proofs.Order.{ordered}
use Rattle.voice_model.proofs.PlacesKept.{placed_first, placed_all}
use Rattle.voice_model.proofs.StatesOfReplay.{nothing_kept, rebuilt_kept}
use Rattle.voice_model.proofs.BaseSpelled.{reads_back}
use Rattle.voice_model.proofs.laws.base_reads_back.Goals as goal

-- any sample at its place
some_sample : Spot → Tagged
some_sample s = record { byte = 0; file = s.file; place = s.place }

at_its_place : (s : Spot) → spot_of (some_sample s) ≡ s
unfolding some_sample
at_its_place s = refl

of_replay : (shape : Shape) (cs : List Change) (r : Rebuilt) (form : ℕ) → Every (λ c. keeps_grammar c ≡ true) cs → rebuilt (nothing_rebuilt shape) cs ≡ Some r → CanBeSpelled form r → ReadsBack form r
of_replay shape cs r form grammar e can =
    let settled = placed_all (nothing_rebuilt shape) cs r (placed_first shape) grammar e in
    reads_back some_sample at_its_place form r (rebuilt_kept some_sample at_its_place (nothing_rebuilt shape) cs r (nothing_kept some_sample at_its_place shape) grammar e) settled.placed settled.used can

pub returns : goal.returns
returns c = record { of_replay = of_replay; of_kept = reads_back; order = ordered }
