-- A disk that was opened, and what holds where a disk stands for a state.
use Rattle.std.proofs.Common.{◌≡◌, inl, ℕ, zero, suc, ◌≤◌, List, [], Option, Some, None, refl, sym, ◌∙◌, subst, arith}
use Rattle.voice_outside.specs.Disk.{Told}
use Rattle.disk_areas.specs.Areas.{Journal}
use Rattle.voice_journal.specs.Places.{JournalValue}
use Rattle.voice_journal.specs.Looks.{Since}
use Rattle.voice_journal.specs.Opens.{IsOpened}
use Rattle.voice_journal.specs.declared.opening.Opened.{Opened}
use Rattle.voice_model.specs.State.{State, Pending}
use Rattle.voice_model.specs.Step as step
use Rattle.voice_model.specs.Replay.{Rebuilt, recovered}
use Rattle.voice_model.specs.Image.{recovered_from}
use Rattle.voice_model.specs.Crash.{moment_of}
use Rattle.journal_readings.specs.Readings.{Rebuild}
use Rattle.crash_laws.specs.Standing.{Gives, StandsSure, StandsUnsure, StandsBy, IsHonest, IsHeld, IsSound, first_state}
use Rattle.crash_laws.specs.Foundations.{Foundations}
use Rattle.crash_laws.specs.Laws.{OpeningHolds, StandingGives}
use Rattle.crash_laws.proofs.Histories.{Recovers, joined}

-- what stands where nothing is in doubt
pub sure_of : (journal : JournalValue) (disk : Told) (b after : Rebuilt) (s : State) (o : Option Pending) → o ≡ None → StandsBy o journal disk b after s → StandsSure journal disk b s
sure_of journal disk b after s o none stands = subst (λ (x : Option Pending). StandsBy x journal disk b after s) none stands

-- what stands where a change is
pub unsure_of : (journal : JournalValue) (disk : Told) (b after : Rebuilt) (s : State) (o : Option Pending) (pending : Pending) → o ≡ Some pending → StandsBy o journal disk b after s → StandsUnsure journal disk b after s
unsure_of journal disk b after s o pending some stands = subst (λ (x : Option Pending). StandsBy x journal disk b after s) some stands

module _ (laws : Foundations) where
  -- ---- a disk that was opened

  module _ (disk : Told) (tapes : List (List ℕ)) (t0 : ℕ) (bytes : List ℕ) (opening : Opened) (r : Journal) (b : Rebuilt)
      (honest : IsHonest disk) (past : t0 ≤ disk.calls) (since : Since t0 disk (λ image. image ≡ bytes)) (is : IsOpened bytes disk opening r) (rebuilds : Rebuild r b) where
    abbrev first : State
    first = first_state bytes r b

    first_recovers : Recovers bytes first.kept
    first_recovers = laws.opens.recovers bytes r b is.reads rebuilds

    stands_first : StandsSure opening.journal disk b first
    stands_first = record {
      reading = r;
      stands = is.stands;
      gives = record {
        rebuilds = rebuilds;
        form = refl;
        fills = λ image left. let same : image ≡ bytes = since image (honest.since t0 disk.calls image past left) in λ i. recovered (same i) b;
      };
    }

    held_first : (k : ℕ) (image : List ℕ) → k ≤ 0 → disk.may_leave (moment_of t0 [] k) image
        → (j : ℕ) × (k ≤ j) × (recovered_from image ≡ Some first.kept)
    held_first zero image le left = (0, omega arith, subst (λ (i : List ℕ). Recovers i first.kept) (sym (since image left)) first_recovers)
    held_first (suc k) image le left = absurd (omega arith)

    past_first : (k : ℕ) → k ≤ 0 → moment_of t0 [] k ≤ disk.calls
    past_first zero le = past
    past_first (suc k) le = absurd (omega arith)

    opened_held : IsHeld first tapes t0 opening.journal disk b b []
    opened_held = record {
      stands = stands_first;
      held = record { each = λ k image le left. joined first tapes [] k image le (let at = held_first k image le left in inl (0, omega (arith, le), omega arith, at.2)) };
      past = past_first;
    }

  pub opening_holds : (disk : Told) → OpeningHolds disk
  opening_holds disk = record {
    opened = λ tapes t0 bytes opening r b honest past since is rebuilds.
        (laws.opens.opened bytes r b is.reads rebuilds, opened_held disk tapes t0 bytes opening r b honest past since is rebuilds);
  }

  -- ---- what holds where a disk stands for a state

  sound_of : (journal : JournalValue) (disk : Told) (r : Journal) (b : Rebuilt) (s : State) → IsHonest disk → journal.shape ≡ r.shape → Gives disk r b s → IsSound journal disk.bytes b s
  sound_of journal disk r b s honest shape gives =
      let v = laws.valid.valid r b gives.rebuilds in
      record { valid = v.0; placed = v.1; used = v.2; in_shape = v.3 ∙ sym shape; form = gives.form; fills = gives.fills disk.bytes honest.present }

  now_by : (journal : JournalValue) (disk : Told) (b after : Rebuilt) (s : State) (o : Option Pending) → IsHonest disk → StandsBy o journal disk b after s → IsSound journal disk.bytes b s
  now_by journal disk b after s None honest stands = sound_of journal disk stands.reading b s honest stands.stands.at.shape_is stands.gives
  now_by journal disk b after s (Some pending) honest stands = sound_of journal disk stands.old b s honest stands.stands.ready.at.shape_is stands.before

  landing_by : (journal : JournalValue) (disk : Told) (b after : Rebuilt) (s : State) → IsHonest disk → StandsUnsure journal disk b after s → IsSound journal disk.bytes after (step.landed s)
  landing_by journal disk b after s honest stands = sound_of journal disk stands.new after (step.landed s) honest stands.stands.ready.next.shape_is stands.landing

  pub standing_gives : (disk : Told) → StandingGives disk
  standing_gives disk = record {
    now = λ first tapes t0 journal b after history honest held. now_by journal disk b after (step.after first tapes history) (step.after first tapes history).doubt honest held.stands;
    landing = λ first tapes t0 journal b after history pending honest held doubt.
        landing_by journal disk b after (step.after first tapes history) honest (unsure_of journal disk b after (step.after first tapes history) (step.after first tapes history).doubt pending doubt held.stands);
  }
