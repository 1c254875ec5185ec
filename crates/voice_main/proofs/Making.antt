-- A run of a generated script keeps its promise.
use Rattle.std.proofs.Common.{◌≡◌, ℕ, ◌⊎◌, inl, inr, false, List, [], length, Option, refl, ap, subst, ◌∙◌}
use Rattle.std.specs.Prelude.{IsTrue, count_by}
use Rattle.voice_outside.specs.Disk.{Told}
use Rattle.voice_outside.specs.Files.{Files}
use Rattle.voice_model.specs.declared.calls.Entry.{Entry}
use Rattle.voice_model.specs.State.{State}
use Rattle.voice_model.specs.Room.{used}
use Rattle.voice_model.specs.Step.{after}
use Rattle.tallies.specs.Tallies.{samples_of}
use Rattle.voice_store.specs.Stood.{is_fault}
use Rattle.script_lang.specs.Shown.{Reading}
use Rattle.made_scripts.specs.Laws.{IsMade}
use Rattle.voice_main.specs.declared.status.Status.{Status}
use Rattle.voice_main.specs.declared.status.Status.TheVariants.{Done, ShelfFault, SinkFault, BadDisk, DiskFault, NoMemory}
use Rattle.voice_main.specs.Outside.{Outside, outside, IsUnchanged, SinkFaulted, DiskFaulted}
use Rattle.voice_main.specs.Ran.{Performed, Begun}
use Rattle.voice_main.specs.RunPromise.{IsUnopened, NoFaults, IsRead}
use Rattle.voice_main.specs.AuditPromise.{AuditExact}
use Rattle.voice_main.specs.Statuses.{Opens, Prints, Performs, IsEarly}
use Rattle.voice_main.specs.MadeRuns.{counted_line, made_line, IsCounted, Gains, GainsPart, ToldSo, IsTold}
use Rattle.voice_main.specs.MakePromise.{made_tapes, MakeTold, MakeBegan, MakeComes, MakePromise}
use Rattle.voice_main.proofs.Exact.{one_place, read_not_bad, opened_not_bad, no_faults_at}

-- ---- the line

-- the line of what was counted is that of the state after the history
pub same_line : (history : List Entry) (ropes samples blocks : ℕ) (s : State) → ropes ≡ length s.kept.ropes → samples ≡ samples_of s.kept.ropes → blocks ≡ used s → counted_line history ropes samples blocks ≡ made_line history s
same_line history ropes samples blocks s p q r =
    ap (λ n. counted_line history n samples blocks) p ∙ ap (λ n. counted_line history (length s.kept.ropes) n blocks) q ∙ ap (λ n. counted_line history (length s.kept.ropes) (samples_of s.kept.ropes) n) r

-- what was counted, and what was printed of its line
pub told_so : (tapes : List (List ℕ)) (script : Reading) (gained : List ℕ → Type 0) (old new : Told) (history : List Entry) (ropes samples blocks : ℕ) → Performed tapes (IsCounted tapes script old new history ropes samples blocks) old new history
    → gained (counted_line history ropes samples blocks) → ToldSo tapes script gained old new history
told_so tapes script gained old new history ropes samples blocks p printed =
    let counts = p.made_so.1 in
    record {
      first = p.first;
      made_so = (p.made_so.0, subst gained (same_line history ropes samples blocks (after p.first tapes history) counts.0 counts.1 counts.2) printed);
      disk = p.disk;
    }

-- where the store was not opened, nothing was printed
pub told_unopened : (tapes : List (List ℕ)) (script : Reading) (had : Option (List ℕ)) (old new : Told) (history : List Entry) (status : Status) → Opens old new status → IsTold tapes script had had old new history status
told_unopened tapes script had old new history Done opens = absurd opens
told_unopened tapes script had old new history SinkFault opens = absurd opens
told_unopened tapes script had old new history NoMemory opens = inl refl
told_unopened tapes script had old new history (BadDisk place) opens = refl
told_unopened tapes script had old new history DiskFault opens = refl
told_unopened tapes script had old new history status opens = absurd opens

-- once all calls were made, the line was printed, or a front of it
pub told_printed : (tapes : List (List ℕ)) (script : Reading) (had now : Option (List ℕ)) (old new : Told) (history : List Entry) (ropes samples blocks : ℕ) (line : List ℕ) (sink : Type 0) (status : Status)
    → Performed tapes (IsCounted tapes script old new history ropes samples blocks) old new history → line ≡ counted_line history ropes samples blocks → Prints sink status → (status ≡ Done → Gains had now line) → GainsPart had now line
    → IsTold tapes script had now old new history status
told_printed tapes script had now old new history ropes samples blocks line sink Done p same prints done part = told_so tapes script (Gains had now) old new history ropes samples blocks p (subst (Gains had now) same (done refl))
told_printed tapes script had now old new history ropes samples blocks line sink SinkFault p same prints done part = told_so tapes script (GainsPart had now) old new history ropes samples blocks p (subst (GainsPart had now) same part)
told_printed tapes script had now old new history ropes samples blocks line sink NoMemory p same prints done part = inr (told_so tapes script (GainsPart had now) old new history ropes samples blocks p (subst (GainsPart had now) same part))
told_printed tapes script had now old new history ropes samples blocks line sink status p same prints done part = absurd prints

-- the statuses of printing are statuses of such a run
pub performs_printed : (sink : Type 0) (old new : Told) (status : Status) → Prints sink status → Performs ⊥ sink old new status
performs_printed sink old new Done prints = tt
performs_printed sink old new SinkFault prints = prints
performs_printed sink old new NoMemory prints = tt
performs_printed sink old new status prints = absurd prints

-- ---- the statuses

module _ (seed lines : ℕ) (files : Option Files) (shelf : ℕ) (contents gained : Option (List ℕ)) (f e g h : ℕ) (disk new : Told) (history : List Entry) (script : Reading) (made : IsMade seed lines script) where
  abbrev was : Outside
  was = outside files shelf contents f e disk

  abbrev is : Outside
  is = outside files shelf gained g h new

  abbrev tapes : List (List ℕ)
  tapes = made_tapes seed lines

  told_made : (printed : List ℕ → Type 0) → ToldSo tapes script printed disk new history → MakeTold seed lines printed disk new history
  told_made printed told = record { script = script; made = made; told = told }

  part_made : (gained ≡ contents) ⊎ ToldSo tapes script (GainsPart contents gained) disk new history → (gained ≡ contents) ⊎ MakeTold seed lines (GainsPart contents gained) disk new history
  part_made (inl same) = inl same
  part_made (inr told) = inr (told_made (GainsPart contents gained) told)

  comes_made : (status : Status) → Performs ⊥ (SinkFaulted was is) disk new status → IsTold tapes script contents gained disk new history status → MakeComes seed lines was is history status
  comes_made Done which told = told_made (Gains contents gained) told
  comes_made SinkFault which told = (which, told_made (GainsPart contents gained) told)
  comes_made (BadDisk place) which told = which
  comes_made DiskFault which told = which
  comes_made NoMemory which told = part_made told
  comes_made ShelfFault which told = absurd which
  comes_made status which told = absurd which

  -- what the disk's bytes decide
  exact_made : (status : Status) → Performs ⊥ (SinkFaulted was is) disk new status → IsTold tapes script contents gained disk new history status → AuditExact disk status
  exact_made Done which told = record { bad_disk = λ place honest bad. absurd (opened_not_bad disk.bytes told.first place (told.disk.opened honest) bad); good_disk = λ honest read. inr (inr (inl refl)) }
  exact_made SinkFault which told = record { bad_disk = λ place honest bad. absurd (opened_not_bad disk.bytes told.first place (told.disk.opened honest) bad); good_disk = λ honest read. inl refl }
  exact_made (BadDisk p) which told = record { bad_disk = λ place honest bad. inr (inl (ap (λ n. BadDisk n) (one_place disk.bytes p place (which honest) bad))); good_disk = λ honest read. absurd (read_not_bad disk p read (which honest)) }
  exact_made DiskFault which told = record { bad_disk = λ place honest bad. inl refl; good_disk = λ honest read. inr (inl refl) }
  exact_made NoMemory which told = record { bad_disk = λ place honest bad. inr (inr tt); good_disk = λ honest read. inr (inr (inr tt)) }
  exact_made ShelfFault which told = absurd which
  exact_made status which told = absurd which

  -- no entry tells of a fault where none rose
  calm_made : ((history ≡ []) × IsUnchanged disk new) ⊎ ((k : ℕ) × Performed tapes (Begun false tapes script k history) disk new history) → (DiskFaulted was is → ⊥) → NoFaults history
  calm_made (inl none) calm = ap (λ l. count_by is_fault l) none.0
  calm_made (inr ran) calm = no_faults_at disk.faults (count_by is_fault history) new.faults calm ran.1.disk.faults

  complete_made : (status : Status) → Performs ⊥ (SinkFaulted was is) disk new status → NoFaults history → IsTrue disk.honest → IsRead disk → (SinkFaulted was is → ⊥) → (DiskFaulted was is → ⊥) → ((status ≡ Done) ⊎ (status ≡ NoMemory)) × NoFaults history
  complete_made Done which none honest read calm still = (inl refl, none)
  complete_made SinkFault which none honest read calm still = absurd (calm which)
  complete_made (BadDisk p) which none honest read calm still = absurd (read_not_bad disk p read (which honest))
  complete_made DiskFault which none honest read calm still = absurd (still which)
  complete_made NoMemory which none honest read calm still = (inr refl, none)
  complete_made ShelfFault which none honest read calm still = absurd which
  complete_made status which none honest read calm still = absurd which

  so_far_made : ((history ≡ []) × IsUnchanged disk new) ⊎ ((k : ℕ) × Performed tapes (Begun false tapes script k history) disk new history) → IsUnopened was is history ⊎ MakeBegan seed lines disk new history
  so_far_made (inl none) = inl (record { silent = none.0; disk = none.1 })
  so_far_made (inr ran) = inr (record { script = script; made = made; k = ran.0; performed = ran.1 })

  pub promise_made : (status : Status) → Performs ⊥ (SinkFaulted was is) disk new status → IsTold tapes script contents gained disk new history status
      → ((history ≡ []) × IsUnchanged disk new) ⊎ ((k : ℕ) × Performed tapes (Begun false tapes script k history) disk new history) → MakePromise seed lines was is status history
  promise_made status which told so_far = record {
    comes = comes_made status which told;
    so_far = so_far_made so_far;
    exact = exact_made status which told;
    complete = λ honest read calm still. complete_made status which (calm_made so_far still) honest read calm still;
    files = refl;
  }

-- where no store was opened for want of memory
pub promise_unopened : (seed lines : ℕ) (files : Option Files) (shelf : ℕ) (contents : Option (List ℕ)) (f e : ℕ) (disk : Told) (history : List Entry) → history ≡ [] → IsUnchanged disk disk → MakePromise seed lines (outside files shelf contents f e disk) (outside files shelf contents f e disk) NoMemory history
promise_unopened seed lines files shelf contents f e disk history none same = record {
  comes = inl refl;
  so_far = inl (record { silent = none; disk = same });
  exact = record { bad_disk = λ place honest bad. inr (inr tt); good_disk = λ honest read. inr (inr (inr tt)) };
  complete = λ honest read calm still. (inr refl, ap (λ l. count_by is_fault l) none);
  files = refl;
}

-- no status is decided before the disk is touched
pub late_made : (sink : Type 0) (old new : Told) (status : Status) → Performs ⊥ sink old new status → IsEarly status → ⊥
late_made sink old new Done which early = early
late_made sink old new SinkFault which early = early
late_made sink old new ShelfFault which early = early
late_made sink old new (BadDisk place) which early = early
late_made sink old new DiskFault which early = early
late_made sink old new NoMemory which early = early
late_made sink old new status which early = which

-- the same of tapes that are the same
pub so_far_by : (old new : Told) (history : List Entry) (script : Reading) (tapes other : List (List ℕ)) → tapes ≡ other → ((history ≡ []) × IsUnchanged old new) ⊎ ((k : ℕ) × Performed tapes (Begun false tapes script k history) old new history)
    → ((history ≡ []) × IsUnchanged old new) ⊎ ((k : ℕ) × Performed other (Begun false other script k history) old new history)
so_far_by old new history script _ other same so_far =
    subst (λ (t : List (List ℕ)). ((history ≡ []) × IsUnchanged old new) ⊎ ((k : ℕ) × Performed t (Begun false t script k history) old new history)) same so_far
