-- What a base reads back as.
--     ReplaysAs form r payloads      payloads replay to what was rebuilt, at the same addresses, and that has the same base again
use Rattle.std.specs.Prelude.{◌≡◌, ℕ, List}
use Rattle.voice_model.specs.Replay.{Rebuilt, nothing_rebuilt, recovered}
use Rattle.voice_model.specs.Image.{Replayed, replayed}
use Rattle.voice_model.specs.Base.{base_of, in_order}
use Rattle.recovery.specs.Shown.{numbered}

-- payloads replay to what was rebuilt, at the same addresses, and that has the same base again
pub record ReplaysAs (form : ℕ) (r : Rebuilt) (payloads : List (List ℕ)) : Type 0 where
  pub end : Rebuilt
  pub replays : replayed (nothing_rebuilt r.shape) (numbered 0 payloads) ≡ Replayed.All end
  pub kept : end.kept ≡ r.kept
  pub in_form : end.form ≡ form
  pub places : end.places ≡ in_order r.places
  pub recovers : (image : List ℕ) → recovered image end ≡ recovered image r
  pub again : base_of form end ≡ base_of form r
