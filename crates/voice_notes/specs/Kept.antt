-- What a `listed` row keeps.
--     Drops key call      the call lets go of what a `listed` row of that key keeps: a Forget of it, or a Census without the key
--     KeptLaw      in a history without such a call the rope of the row stays live
use Rattle.std.specs.Prelude.{◌≡◌, ℕ, true, false, List, take, Some, None, bytes_eq}
use Rattle.std.specs.List.{list_any}
use Rattle.voice_model.specs.State.{State, row_at, is_live}
use Rattle.voice_model.specs.Step.{after}
use Rattle.voice_model.specs.Valid.{Every}
use Rattle.voice_model.specs.declared.calls.Row.{Row}
use Rattle.voice_model.specs.declared.calls.Class.TheVariants.{Listed}
use Rattle.voice_model.specs.declared.calls.Call.{Call}
use Rattle.voice_model.specs.declared.calls.Call.TheVariants as calls
use Rattle.voice_model.specs.declared.calls.Entry.{Entry}

-- a Forget of the `listed` row of that key, or a Census without the key
abbrev pub Drops : List ℕ → Call → Type 0
Drops key (calls.Forget class other) = (class ≡ Listed) × (other ≡ key)
Drops key (calls.Census keys) = list_any (bytes_eq key) keys ≡ false
Drops key _ = ⊥

-- a `listed` row of a live rope stands, and no change is in doubt
pub record IsListed (s : State) (key : List ℕ) (rope : ℕ) : Type 0 where
  pub row : Row
  pub stands : row_at s.rows Listed key ≡ Some row
  pub of : row.rope ≡ rope
  pub live : is_live s.ropes rope ≡ true
  pub sure : s.doubt ≡ None

-- In every history without such a call the rope is live after every entry. That it is legal is not asked: a call and how it went decide the state after it.
pub record KeptLaw : Type 0 where
  pub kept : (s : State) (tapes : List (List ℕ)) (es : List Entry) (key : List ℕ) (rope : ℕ) → IsListed s key rope → Every (λ e. ¬ Drops key e.call) es
      → (k : ℕ) → is_live (after s tapes (take k es)).ropes rope ≡ true
