-- What stands when the blocks in front are written.
use Rattle.std.proofs.Common.{◌≡◌, ℕ, suc, ◌+◌, ◌-◌, ◌*◌, ◌^◌, ◌<◌, ◌≤◌, List, length, get_or, drop, Bool, refl, sym, ap, ⊎_elim, ◌∙◌, subst, arith, Ok}
use Rattle.std.specs.Prelude.{Result, IsTrue, IsErr}
use Rattle.std.proofs.lemmas.Bool.{cases_lt}
use Rattle.voice_units.specs.declared.shapes.Shape.{Shape}
use Rattle.voice_outside.specs.Disk.{Told, Counts, WritesAt, MakesAtMost, AgreesOutside}
use Rattle.voice_blocks.specs.Place.{block_place}
use Rattle.recording_writer.specs.Runs.{IsRun, runs}
use Rattle.recording_writer.specs.Wrote.{WroteAt, Holds, AreDistinct}
use Rattle.recording_writer.proofs.Counted.{no_runs}
use Rattle.recording_writer.proofs.Writes.{wrote_nothing, wrote_more, holds_still, holds_run}

-- so many blocks are written
pub record Stage (shape : Shape) (addresses bytes : List ℕ) (at : ℕ) (old now : Told) : Type 0 where
  pub within : at ≤ length addresses
  pub size : now.size ≡ old.size
  pub honest : now.honest ≡ old.honest
  pub later : old.calls ≤ now.calls
  pub calls : now.calls + runs (drop at addresses) ≡ old.calls + runs addresses
  pub faults : old.faults ≤ now.faults
  pub content : IsTrue old.honest → WroteAt shape addresses old now
  pub written : IsTrue old.honest → Holds shape addresses bytes (at * shape.block) now.bytes

pub none_written : (shape : Shape) (addresses bytes : List ℕ) (old : Told) → Stage shape addresses bytes 0 old old
none_written shape addresses bytes old = record {
  within = omega arith;
  size = refl;
  honest = refl;
  later = omega arith;
  calls = refl;
  faults = omega arith;
  content = λ honest. wrote_nothing shape addresses old;
  written = λ honest k below. absurd (omega arith);
}

not_err : (T E : Type 0) (v : T) → IsErr {T = T} {E = E} (Ok v) → ⊥
not_err T E v h = cc

-- a call that succeeds is counted
pub counted : {T E : Type 0} (old new : Told) (v : T) → Counts {T = T} {E = E} old new (Ok v) → new.calls ≡ old.calls + 1
counted {T} {E} old new v c =
    ⊎_elim (λ (lt : old.calls < 2 ^ 64 - 1). omega (arith, c.calls)) (λ (le : 2 ^ 64 - 1 ≤ old.calls). absurd (not_err T E v (c.spent le))) (cases_lt old.calls (2 ^ 64 - 1))

pub still_honest : (old mid : Told) → mid.honest ≡ old.honest → IsTrue old.honest → IsTrue mid.honest
still_honest old mid same honest = subst (λ (b : Bool). IsTrue b) (sym same) honest

-- a run more
pub run_written : {T E : Type 0} (shape : Shape) (addresses bytes : List ℕ) (at n : ℕ) (run : List ℕ) (old mid new : Told) (v : T) →
    Stage shape addresses bytes at old mid → at + n ≤ length addresses → IsRun addresses at n → runs (drop at addresses) ≡ suc (runs (drop (at + n) addresses)) → AreDistinct addresses →
    length run ≡ n * shape.block → ((k : ℕ) → k < n * shape.block → get_or run k 0 ≡ get_or bytes (at * shape.block + k) 0) →
    Counts {T = T} {E = E} mid new (Ok v) → (IsTrue mid.honest → WritesAt {T = T} {E = E} (block_place shape (get_or addresses at 0)) run mid new (Ok v)) → Stage shape addresses bytes (at + n) old new
run_written {T} {E} shape addresses bytes at n run old mid new v stage within is_run longest differ whole same counts content =
    let one : new.calls ≡ mid.calls + 1 = counted {E = E} mid new v counts in
    let done : Result T E = Ok v in
    record {
      within = within;
      size = counts.size ∙ stage.size;
      honest = counts.honest ∙ stage.honest;
      later = omega (arith, stage.later, counts.later);
      calls = omega (arith, one, longest, stage.calls);
      faults = omega (arith, stage.faults, counts.faults);
      content = λ honest. wrote_more shape addresses at n run old mid new done within is_run whole stage.later (stage.content honest) (content (still_honest old mid stage.honest honest));
      written = λ honest.
          let writes = content (still_honest old mid stage.honest honest) in
          holds_run shape addresses bytes at n run new.bytes is_run whole same writes.written
          (holds_still shape addresses bytes at n mid.bytes new.bytes within is_run differ (subst (λ (m : ℕ). AgreesOutside (block_place shape (get_or addresses at 0)) m mid.bytes new.bytes) whole writes.outside) (stage.written honest));
    }

-- a run whose write fails
pub run_failed : {T E U F : Type 0} (shape : Shape) (addresses bytes : List ℕ) (at n : ℕ) (old mid new : Told) (r : Result T E) (s : Result U F) →
    Stage shape addresses bytes at old mid → runs (drop at addresses) ≡ suc (runs (drop (at + n) addresses)) → Counts mid new r → IsErr r → MakesAtMost (runs addresses) old new s
run_failed shape addresses bytes at n old mid new r s stage longest counts fails = record {
  size = counts.size ∙ stage.size;
  honest = counts.honest ∙ stage.honest;
  later = omega (arith, stage.later, counts.later);
  calls = omega (arith, stage.calls, longest, counts.calls);
  faults = omega (arith, stage.faults, counts.faults);
  cause = λ h below. omega (arith, counts.cause fails below, stage.faults);
}

pub run_torn : {T E : Type 0} (shape : Shape) (addresses bytes : List ℕ) (at n : ℕ) (run : List ℕ) (old mid new : Told) (r : Result T E) →
    Stage shape addresses bytes at old mid → at + n ≤ length addresses → IsRun addresses at n → length run ≡ n * shape.block →
    (IsTrue mid.honest → WritesAt (block_place shape (get_or addresses at 0)) run mid new r) → IsTrue old.honest → WroteAt shape addresses old new
run_torn shape addresses bytes at n run old mid new r stage within is_run whole content honest =
    wrote_more shape addresses at n run old mid new r within is_run whole stage.later (stage.content honest) (content (still_honest old mid stage.honest honest))

-- all are written
pub all_counted : (shape : Shape) (addresses bytes : List ℕ) (at : ℕ) (old now : Told) → Stage shape addresses bytes at old now → length addresses ≤ at → now.calls ≡ old.calls + runs addresses
all_counted shape addresses bytes at old now stage behind = omega (arith, no_runs addresses at behind, stage.calls)

pub all_made : {T E : Type 0} (shape : Shape) (addresses bytes : List ℕ) (at : ℕ) (old now : Told) (v : T) → Stage shape addresses bytes at old now → length addresses ≤ at → MakesAtMost {T = T} {E = E} (runs addresses) old now (Ok v)
all_made {T} {E} shape addresses bytes at old now v stage behind =
    let count = all_counted shape addresses bytes at old now stage behind in
    record { size = stage.size; honest = stage.honest; later = stage.later; calls = omega arith; faults = stage.faults; cause = λ h. absurd (not_err T E v h) }

pub all_written : (shape : Shape) (addresses bytes : List ℕ) (at : ℕ) (old now : Told) → Stage shape addresses bytes at old now → length addresses ≤ at → length bytes ≡ length addresses * shape.block → IsTrue old.honest →
    Holds shape addresses bytes (length bytes) now.bytes
all_written shape addresses bytes at old now stage behind whole honest k below =
    let same : at ≡ length addresses = omega (arith, stage.within) in
    let size : at * shape.block ≡ length bytes = ap (λ (m : ℕ). m * shape.block) same ∙ sym whole in
    stage.written honest k (omega arith)
