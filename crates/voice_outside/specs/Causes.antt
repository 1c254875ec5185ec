-- An answer that names a fault comes only where the count of faults rose.
use Rattle.std.specs.Prelude.{ℕ, ◌≤◌, Bool, true, false, Result, Ok, Err, IsErrOf}
use Rattle.voice_outside.specs.declared.errors.OutsideError.{OutsideError}
use Rattle.voice_outside.specs.declared.errors.OutsideError.TheVariants.{Failed, NoMemory}
use Rattle.voice_outside.specs.Counters.{HasRisen}

-- the count of faults never falls, and Failed comes only where it rose
pub record HasCause {T : Type 0} (old new : ℕ) (result : Result T OutsideError) : Type 0 where
  pub later : old ≤ new
  pub failed : IsErrOf result Failed → HasRisen old new

-- whether the answer names a fault
abbrev pub is_failed : {T : Type 0} → Result T OutsideError → Bool
is_failed (Err Failed) = true
is_failed (Err NoMemory) = false
is_failed (Ok value) = false
