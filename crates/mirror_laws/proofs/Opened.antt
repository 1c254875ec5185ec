-- A disk that was opened, and what holds where a disk stands for the changes.
use Rattle.std.proofs.Common.{◌≡◌, ℕ, zero, suc, ◌+◌, ◌≤◌, List, [], Option, Some, None, refl, sym, ◌∙◌, ap, subst, arith}
use Rattle.voice_units.specs.declared.shapes.Shape.{Shape}
use Rattle.voice_outside.specs.Disk.{Told}
use Rattle.disk_areas.specs.Areas.{Journal}
use Rattle.voice_journal.specs.Places.{JournalValue}
use Rattle.voice_journal.specs.Looks.{Since}
use Rattle.voice_journal.specs.Opens.{IsOpened}
use Rattle.voice_journal.specs.declared.opening.Opened.{Opened}
use Rattle.voice_model.specs.Samples.{Tagged}
use Rattle.voice_model.specs.State.{Durable, Effect}
use Rattle.voice_model.specs.Changes.{changed}
use Rattle.voice_model.specs.Replay.{Rebuilt, recovered}
use Rattle.mirror_readings.specs.Readings.{NumberedRebuild}
use Rattle.crash_laws.specs.Standing.{IsHonest}
use Rattle.mirror_laws.specs.Standing.{moment_of, Gives, StandsSure, StandsUnsure, StandsBy, IsHeld, IsSound}
use Rattle.mirror_laws.specs.Foundations.{MirrorFoundations}
use Rattle.mirror_laws.specs.Laws.{OpeningHolds, StandingGives}
use Rattle.mirror_laws.proofs.Histories.{mirrored, IsMirrored, HasFrom}
use Rattle.mirror_laws.proofs.Near.{gives_at}

module _ (laws : MirrorFoundations) where
  -- ---- a disk that was opened

  module _ (disk : Told) (t0 : ℕ) (bytes : List ℕ) (opening : Opened) (r : Journal) (b : Rebuilt) (n : ℕ)
      (honest : IsHonest disk) (past : t0 ≤ disk.calls) (since : Since t0 disk (λ image. image ≡ bytes)) (is : IsOpened bytes disk opening r) (version : r.shape.version ≡ 2) (rebuilds : NumberedRebuild r b n) where
    abbrev first : Durable Tagged
    first = recovered bytes b

    opens_as : IsMirrored bytes first n
    opens_as = laws.opens.opened bytes r b n is.reads version rebuilds

    -- the disk's version says the form
    form_is : b.form ≡ 2
    form_is = let v = laws.valid.valid r b n rebuilds in v.0.newest (ap (λ (x : Shape). x.version) v.3 ∙ version)

    none_more : n ≡ n + 0
    none_more = omega arith

    stands_first : StandsSure opening.journal disk b (n + 0) first
    stands_first = record {
      reading = r;
      stands = is.stands;
      gives = gives_at disk r b n (n + 0) first first none_more refl
          (record { rebuilds = rebuilds; version = version; form = form_is; fills = λ image left. ap (λ (i : List ℕ). recovered i b) (since image (honest.since t0 disk.calls image past left)) });
    }

    held_first : (k : ℕ) (image : List ℕ) → k ≤ 0 → disk.may_leave (moment_of t0 [] k) image → HasFrom first n [] k image
    held_first zero image le left = (0, omega arith, omega arith, subst (λ (i : List ℕ). IsMirrored i first n) (sym (since image left)) opens_as ∙ ap (λ (m : ℕ). Some (mirrored first m)) none_more)
    held_first (suc k) image le left = absurd (omega arith)

    past_first : (k : ℕ) → k ≤ 0 → moment_of t0 [] k ≤ disk.calls
    past_first zero le = past
    past_first (suc k) le = absurd (omega arith)

    opened_held : IsHeld first n t0 opening.journal disk b b [] None
    opened_held = record { stands = stands_first; held = record { each = held_first }; past = past_first }

  pub opening_holds : (disk : Told) → OpeningHolds disk
  opening_holds disk = record {
    opened = λ t0 bytes opening r b n honest past since is version rebuilds.
        (opens_as disk t0 bytes opening r b n honest past since is version rebuilds, opened_held disk t0 bytes opening r b n honest past since is version rebuilds);
  }

  -- ---- what holds where a disk stands for the changes

  sound_of : (journal : JournalValue) (disk : Told) (r : Journal) (b : Rebuilt) (n : ℕ) (kept : Durable Tagged) → IsHonest disk → journal.shape ≡ r.shape → Gives disk r b n kept → IsSound journal disk.bytes b kept
  sound_of journal disk r b n kept honest shape gives =
      let v = laws.valid.valid r b n gives.rebuilds in
      record { valid = v.0; placed = v.1; used = v.2; in_shape = v.3 ∙ sym shape; form = gives.form; fills = gives.fills disk.bytes honest.present }

  now_by : (journal : JournalValue) (disk : Told) (b after : Rebuilt) (n : ℕ) (kept : Durable Tagged) (doubt : Option (Effect Tagged)) → IsHonest disk → StandsBy doubt journal disk b after n kept → IsSound journal disk.bytes b kept
  now_by journal disk b after n kept None honest stands = sound_of journal disk stands.reading b n kept honest stands.stands.at.shape_is stands.gives
  now_by journal disk b after n kept (Some effect) honest stands = sound_of journal disk stands.old b n kept honest stands.stands.ready.at.shape_is stands.before

  landing_of : (journal : JournalValue) (disk : Told) (b after : Rebuilt) (n : ℕ) (kept : Durable Tagged) (effect : Effect Tagged) → IsHonest disk → StandsUnsure journal disk b after n kept effect → IsSound journal disk.bytes after (changed 2 kept effect)
  landing_of journal disk b after n kept effect honest stands = sound_of journal disk stands.new after (n + 1) (changed 2 kept effect) honest stands.stands.ready.next.shape_is stands.landing

  pub standing_gives : (disk : Told) → StandingGives disk
  standing_gives disk = record {
    now = λ first from t0 journal b after taken doubt honest held. now_by journal disk b after _ _ doubt honest held.stands;
    landing = λ first from t0 journal b after taken effect honest held. landing_of journal disk b after _ _ effect honest held.stands;
  }
