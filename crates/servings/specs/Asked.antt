-- The entries that callers asked for.
--     is_landing call, was_asked e      the call lands a change in doubt;  a caller asked for the entry
--     asked_entries history      the entries that callers asked for; landings are left out
--     AreBy caller entries      all are of one caller
use Rattle.std.specs.Prelude.{◌≡◌, ℕ, Bool, true, false, not, List, [], ◌∷◌, filter}
use Rattle.voice_model.specs.declared.calls.Call.{Call}
use Rattle.voice_model.specs.declared.calls.Call.TheVariants as calls
use Rattle.voice_model.specs.declared.calls.Entry.{Entry}

-- the call lands a change in doubt; no caller asks for it
abbrev pub is_landing : Call → Bool
is_landing calls.Landed = true
is_landing _ = false

-- a caller asked for the entry
abbrev pub was_asked : Entry → Bool
was_asked e = not (is_landing e.call)

-- the entries that callers asked for; landings are left out
abbrev pub asked_entries : List Entry → List Entry
asked_entries history = filter was_asked history

-- all are of one caller
abbrev pub AreBy : ℕ → List Entry → Type 0
AreBy caller [] = Unit {0}
AreBy caller (e ∷ es) = (e.caller ≡ caller) × AreBy caller es
