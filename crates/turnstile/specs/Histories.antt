-- Whose entries a history has.
use Rattle.std.specs.Prelude.{ℕ, ◌≡◌, ◌==◌, List, [], ◌∷◌, cond}
use Rattle.voice_model.specs.declared.calls.Entry.{Entry}
use Rattle.voice_model.specs.declared.calls.Call.TheVariants.{Landed}

-- the entries of one caller, in order
abbrev pub entries_of : ℕ → List Entry → List Entry
entries_of by [] = []
entries_of by (e ∷ es) = cond (e.caller == by) (e ∷ entries_of by es) (entries_of by es)

-- no caller's entry: a change in doubt was landed
abbrev pub IsLanded : Entry → Type 0
IsLanded e = (e.caller ≡ 0) × (e.call ≡ Landed)
