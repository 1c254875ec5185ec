-- Calls whose change goes to the journal without memory.
--     FitsBehindOthers s tapes call      what the call changes, if anything, has a record that fits behind the others
use Rattle.std.specs.Prelude.{ℕ, ◌≤◌, List, IfSome}
use Rattle.voice_model.specs.State.{State}
use Rattle.voice_model.specs.Changes.{effect_of, frame_size}
use Rattle.voice_model.specs.declared.calls.Call.{Call}

-- what the call changes, if anything, has a record that fits behind the others
abbrev pub FitsBehindOthers : State → List (List ℕ) → Call → Type 0
FitsBehindOthers s tapes call = IfSome (effect_of s tapes call) (λ effect. frame_size s.form s.kept.shape.block effect ≤ s.left)
