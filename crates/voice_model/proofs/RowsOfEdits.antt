-- Worked rows on recordings and edits.
use Rattle.std.proofs.Common.{◌≡◌, [], ◌∷◌, refl, Some, None}
use Rattle.voice_model.proofs.Small.{on_small, f20}
use Rattle.voice_model.specs.declared.calls.Call.TheVariants.{Record, Sub, Replace, Length, Play, Feed}
use Rattle.voice_model.specs.declared.calls.Reply.TheVariants.{Rope, Number, Job, Window, Ended, No}
use Rattle.voice_model.specs.declared.calls.Why.TheVariants.{BadInterval}

pub recorded_and_measured : on_small (Record f20 ∷ Length 1 ∷ []) ≡ Rope 1 20 ∷ Number 20 ∷ []
recorded_and_measured = refl

pub parts : on_small (Record f20 ∷ Sub 1 12 8 ∷ Sub 1 13 8 ∷ Sub 1 20 0 ∷ []) ≡ Rope 1 20 ∷ Rope 2 8 ∷ No (BadInterval 20) ∷ Rope 3 0 ∷ []
parts = refl

pub replaced_and_played :
    on_small (Record f20 ∷ Sub 1 0 0 ∷ Replace 1 5 10 2 ∷ Replace 1 20 0 1 ∷ Play 0 3 0 10 ∷ Feed 0 None ∷ Feed 0 (Some 10) ∷ [])
    ≡ Rope 1 20 ∷ Rope 2 0 ∷ Rope 3 10 ∷ Rope 4 40 ∷ Job 1 ∷ Window 0 10 ∷ Ended 1 10 ∷ []
replaced_and_played = refl
