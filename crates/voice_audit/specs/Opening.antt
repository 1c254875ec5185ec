-- What stands on a disk, and the state as which the disk opens.
--     OpensAs bytes standing b      the bytes open as what was rebuilt, filled from them
use Rattle.std.specs.Prelude.{◌≡◌, ℕ, List, Some}
use Rattle.voice_model.specs.State.{opened}
use Rattle.voice_model.specs.Replay.{Rebuilt, recovered}
use Rattle.voice_model.specs.Image.{opened_from}
use Rattle.recovery.specs.Shown.{Rebuilds}
use Rattle.voice_audit.specs.declared.opening.Standing.{Standing}

-- the bytes open as what was rebuilt, filled from them
pub record OpensAs (bytes : List ℕ) (standing : Standing) (b : Rebuilt) : Type 0 where
  pub rebuilds : Rebuilds standing.parts b
  pub in_shape : b.shape ≡ standing.shape
  pub opens : opened_from bytes ≡ Some (opened (recovered bytes b) standing.left standing.epoch b.form)
