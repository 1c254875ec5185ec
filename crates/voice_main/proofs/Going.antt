-- The counts of a disk, over several calls.
use Rattle.std.proofs.Common.{◌≡◌, ◌∙◌, refl, arith}
use Rattle.std.specs.Prelude.{Result, Ok, Err, false, OnOk, OnErr}
use Rattle.std.specs.Result.{is_err}
use Rattle.voice_outside.specs.Disk.{Told}
use Rattle.voice_store.specs.Facts.{GoesOn}

pub rests : (disk : Told) → GoesOn disk disk
rests disk = record { size = refl; honest = refl; later = omega arith; faults = omega arith }

pub goes_further : (a b c : Told) → GoesOn a b → GoesOn b c → GoesOn a c
goes_further a b c h k = record { size = k.size ∙ h.size; honest = k.honest ∙ h.honest; later = omega (arith, h.later, k.later); faults = omega (arith, h.faults, k.faults) }

-- what stands once a call was done
pub at_done : {T E P : Type 0} (r : Result T E) → is_err r ≡ false → OnOk r P → P
at_done (Ok x) fine h = h
at_done (Err e) fine h = cc

-- what stands where it was not done
pub in_error : {T E P : Type 0} (r : Result T E) → P → OnErr r P
in_error (Ok x) p = tt
in_error (Err e) p = p

-- what follows once it was done
pub once_done : {T E P Q : Type 0} (r : Result T E) → (P → Q) → OnOk r P → OnOk r Q
once_done (Ok x) f p = f p
once_done (Err e) f p = tt
