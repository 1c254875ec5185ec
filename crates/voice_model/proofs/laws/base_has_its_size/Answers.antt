use Rattle.std.proofs.Common.{◌≡◌, ℕ, List, Some, refl, true}
use Rattle.voice_units.specs.Spots.{Spot}
use Rattle.voice_units.specs.declared.shapes.Shape.{Shape}
use Rattle.voice_model.specs.Samples.{spot_of}
use Rattle.voice_model.specs.Spelling.{keeps_grammar}
use Rattle.voice_model.specs.Changes.{base_size}
use Rattle.voice_model.specs.Base.{base_of, framed_size}
use Rattle.voice_model.specs.Replay.{Rebuilt, nothing_rebuilt, rebuilt, filled, recovered}
use Rattle.voice_model.specs.Valid.{Every}
use Rattle.voice_model.specs.declared.changes.Change.{Change}
use Rattle.voice_model.proofs.PlacesKept.{placed_first, placed_all}
use Rattle.voice_model.proofs.BaseSize.{base_sized}
use Rattle.voice_model.proofs.laws.base_has_its_size.Goals as goal

of_replay : (shape : Shape) (cs : List Change) (r : Rebuilt) (form : ℕ) (image : List ℕ) → Every (λ c. keeps_grammar c ≡ true) cs → rebuilt (nothing_rebuilt shape) cs ≡ Some r → framed_size (base_of form r) ≡ base_size form (recovered image r)
of_replay shape cs r form image grammar e =
    let same : (s : Spot) → spot_of (filled image r s) ≡ s = λ s. refl in
    let settled = placed_all (nothing_rebuilt shape) cs r (placed_first shape) grammar e in
    base_sized (filled image r) same form r settled.placed settled.used

pub returns : goal.returns
returns c = record { of_replay = of_replay; of_kept = base_sized }
