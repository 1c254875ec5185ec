-- What is ready, for some change.
use Rattle.std.proofs.Common.{◌≡◌, ℕ, Some, None}
use Rattle.std.specs.Prelude.{Option}
use Rattle.voice_units.specs.Spots.{Spot}
use Rattle.voice_model.specs.State.{Durable}
use Rattle.voice_model.specs.declared.changes.Change.{Change}
use Rattle.ready_changes.specs.Ready.{IsReady, MayBeReady}
use Rattle.ready_changes.specs.declared.ReadyChange.{ReadyChange}

-- what is ready is ready for some change
pub some_ready : (spare : ℕ) (d : Durable Spot) (ready : ReadyChange) (o : Option Change) → MayBeReady spare d (Some ready) o → (c : Change) × IsReady spare d ready c
some_ready spare d ready (Some c) h = (c, h)
some_ready spare d ready None h = absurd h
