-- What the history of a store is.
use Rattle.std.proofs.Common.{Bool, subst}
use Rattle.voice_outside.specs.Disk.{Told}
use Rattle.voice_model.specs.State.{State}
use Rattle.voice_model.specs.Heard.{LegalOn}
use Rattle.voice_store.specs.Shown.{Shown, Keeps, history_of, tapes_in}

module _ {D : Type 0} (told : D → Told) where
  -- it is legal, if the disk that the store was opened on is honest, and else but for what was read off it
  pub keeps_legal : (first : State) (s : Shown D) → Keeps told first s → LegalOn (told s.origin).honest first (tapes_in s) (history_of s)
  keeps_legal first s keeps = subst (λ (h : Bool). LegalOn h first (tapes_in s) (history_of s)) keeps.honest keeps.stood.upright.legal
