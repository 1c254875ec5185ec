-- Reads one after another.
use Rattle.std.proofs.Common.{ℕ, ◌+◌, ◌≤◌, ◌⊎◌, inl, inr, List, refl, sym, ◌∙◌, subst, arith}
use Rattle.std.specs.Prelude.{Result, IsTrue}
use Rattle.voice_outside.specs.Disk.{Told, MakesAtMost, ReadsAt}
use Rattle.listening.specs.Looks.{OnlyLooked, Looked}

no_looks : (t : Told) → OnlyLooked t t
no_looks t = record { bytes = refl; now = λ image h. h; crash = λ u image le h. inl h }

more_looks : (old mid new : Told) → old.calls ≤ mid.calls → OnlyLooked old mid → OnlyLooked mid new → OnlyLooked old new
more_looks old mid new later h k = record {
  bytes = k.bytes ∙ h.bytes;
  now = λ image l. h.now image (k.now image l);
  crash = λ u image le l. elim (k.crash u image (omega arith) l) as (λ x. old.may_leave u image ⊎ old.may_leave old.calls image) [ inl was ↦ h.crash u image le was | inr is ↦ inr (h.now image is) ];
}

pub look : {T E : Type 0} (at n : ℕ) (old new : Told) (into : List ℕ) (r : Result T E) → ReadsAt at n old new into r → OnlyLooked old new
look at n old new into r h = record { bytes = h.bytes; now = h.now; crash = h.time.since }

pub none_looked : (t : Told) → Looked 0 t t
none_looked t = record { size = refl; honest = refl; later = omega arith; calls = omega arith; faults = omega arith; looks = λ h. no_looks t }

pub one_looked : {T E : Type 0} (m : ℕ) (old mid new : Told) (r : Result T E) → Looked m old mid → MakesAtMost 1 mid new r → (IsTrue mid.honest → OnlyLooked mid new) → Looked (m + 1) old new
one_looked m old mid new r h made looks = record {
  size = made.size ∙ h.size;
  honest = made.honest ∙ h.honest;
  later = omega (arith, h.later, made.later);
  calls = omega (arith, h.calls, made.calls);
  faults = omega (arith, h.faults, made.faults);
  looks = λ is. more_looks old mid new h.later (h.looks is) (looks (subst IsTrue (sym h.honest) is));
}

pub at_most : (m n : ℕ) (old new : Told) → m ≤ n → Looked m old new → Looked n old new
at_most m n old new few h = record {
  size = h.size;
  honest = h.honest;
  later = h.later;
  calls = omega (arith, h.calls);
  faults = h.faults;
  looks = h.looks;
}
