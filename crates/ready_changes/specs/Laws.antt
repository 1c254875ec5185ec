-- What changes of interests, of the moment and of sweeps are, and what they do to the size of the base and to addresses.
--     ChangesOfCalls      each call of these kinds makes just the change that is made ready for it
--     BaseGrowsByRows      a new row adds its record, and no other of these changes adds anything; the base may be in either form
--     AllStayInUse      what a change of these kinds frees leaves each address in use
use Rattle.std.specs.Prelude.{◌≡◌, ◌≤◌, ◌+◌, ℕ, List, length, Some}
use Rattle.voice_units.specs.Spots.{Spot}
use Rattle.voice_model.specs.Samples.{Tagged}
use Rattle.voice_model.specs.State.{State, Durable}
use Rattle.voice_model.specs.State.Effect.{Retained, Forgotten, Counted, Swept, Advanced}
use Rattle.voice_model.specs.Changes.{effect_of, changed, base_size}
use Rattle.voice_model.specs.Replay.{durable_by}
use Rattle.voice_model.specs.declared.calls.Call.TheVariants as calls
use Rattle.voice_model.specs.declared.changes.Change.TheVariants as changes
use Rattle.voice_model.specs.declared.calls.Row.{Row}
use Rattle.voice_model.specs.declared.calls.Class.{Class}
use Rattle.recovery.specs.declared.parts.Parts.{Parts}
use Rattle.ready_changes.specs.Ready.{change_for, later_change, census_change, sweep_change, AllInUse, FreesUnused}

-- each call of these kinds makes just the change that is made ready for it, whatever the bytes of samples
pub record ChangesOfCalls : Type 0 where
  pub retain : (s : State) (tapes : List (List ℕ)) (class : Class) (key : List ℕ) (id : ℕ) (note : List ℕ) → change_for (effect_of s tapes (calls.Retain class key id note)) ≡ Some (changes.Retained class key id note)
  pub forget : (s : State) (tapes : List (List ℕ)) (class : Class) (key : List ℕ) → change_for (effect_of s tapes (calls.Forget class key)) ≡ Some (changes.Forgotten class key)
  pub census : (s : State) (tapes keys : List (List ℕ)) → change_for (effect_of s tapes (calls.Census keys)) ≡ census_change s.rows keys
  pub advance : (s : State) (tapes : List (List ℕ)) (moment : ℕ) → change_for (effect_of s tapes (calls.Advance moment)) ≡ later_change s.moment moment
  pub sweep : (s : State) (tapes : List (List ℕ)) (limit : ℕ) (fill : Spot → Tagged) (d : Durable Spot) → durable_by fill d ≡ s.kept → change_for (effect_of s tapes (calls.Sweep limit)) ≡ sweep_change s.form d limit

-- a new row adds its record to the base, and no other of these changes adds anything
pub record BaseGrowsByRows : Type 0 where
  pub retained : (to form : ℕ) (d : Durable Tagged) (row : Row) → base_size to (changed form d (Retained row)) ≡ base_size to d + (17 + length row.key + length row.note)
  pub forgotten : (to form : ℕ) (d : Durable Tagged) (class : Class) (key : List ℕ) → base_size to (changed form d (Forgotten class key)) ≤ base_size to d
  pub counted : (to form : ℕ) (d : Durable Tagged) (keys : List (List ℕ)) → base_size to (changed form d (Counted keys)) ≤ base_size to d
  pub swept : (to form : ℕ) (d : Durable Tagged) (ids : List ℕ) → base_size to (changed form d (Swept ids)) ≤ base_size to d
  pub advanced : (to form : ℕ) (d : Durable Tagged) (moment : ℕ) → base_size to (changed form d (Advanced moment)) ≡ base_size to d

-- what frees just the blocks that nothing uses leaves each address that is held in use
pub record AllStayInUse : Type 0 where
  pub after : (old new : Parts) → FreesUnused old new → AllInUse new
