-- What the calls of a disk of size 0 do.
use Rattle.std.proofs.Common.{ℕ, ◌+◌, ◌≤◌, inl, List, [], ◌∷◌, length, refl, sym, subst, arith, Ok, Err}
use Rattle.std.specs.Prelude.{Result, OnOk}
use Rattle.voice_outside.specs.Disk.{ReadsAt, WritesAt, AgreesOutside, segment}
use Rattle.voice_outside.specs.EmptyDisk.{empty_disk}

-- what holds at all holds where a result is Ok
anyway : {T E : Type 0} (P : Type 0) (r : Result T E) → P → OnOk r P
anyway P (Ok v) p = p
anyway P (Err e) p = tt

same : (at n : ℕ) → AgreesOutside at n [] []
same at n = record { same_length = refl; before = λ i h. refl; after = λ i h. refl }

pub nothing_read : {T E : Type 0} (c d f g at : ℕ) (into : List ℕ) (r : Result T E) → at + length into ≤ 0 → ReadsAt at (length into) (empty_disk c f) (empty_disk d g) into r
unfolding segment
nothing_read c d f g at [] r h = record { filled = anyway _ r refl; bytes = refl; now = λ image m. m; time = record { since = λ t image past m. inl m; keeps = λ t image past m. m } }
nothing_read c d f g at (b ∷ into) r h = absurd (omega arith)

pub nothing_written : {T E : Type 0} (c d f g at : ℕ) (bytes : List ℕ) (r : Result T E) → at + length bytes ≤ 0 → WritesAt at bytes (empty_disk c f) (empty_disk d g) r
unfolding segment
nothing_written c d f g at [] r h = record {
  outside = same at 0;
  written = anyway _ r refl;
  now = λ image m. ([], refl, let P : List ℕ → Type 0 = λ left. AgreesOutside at 0 [] left in subst P (sym m) (same at 0));
  time = record { since = λ t image past m. inl m; keeps = λ t image past m. m };
}
nothing_written c d f g at (b ∷ bytes) r h = absurd (omega arith)
