-- Landings.
use Rattle.std.proofs.Common.{◌≡◌, ◌⊎◌, inl, inr, ⊎_elim, ℕ, ◌≤◌, List, [], ◌∷◌, ◌++◌, length, true, Option, Some, is_some, refl, sym, ap, subst, ◌∙◌}
use Rattle.voice_units.specs.declared.shapes.Shape.{Shape}
use Rattle.voice_outside.specs.Disk.{Told, Now, Leaves}
use Rattle.disk_areas.specs.Areas.{Journal}
use Rattle.voice_journal.specs.Readings.{Reads, WithinLand, NearOld}
use Rattle.voice_journal.specs.Places.{JournalValue}
use Rattle.voice_model.specs.State.{State, Pending}
use Rattle.voice_model.specs.Step.{after, landed}
use Rattle.voice_model.specs.Replay.{Rebuilt}
use Rattle.voice_model.specs.declared.calls.Entry.{Entry}
use Rattle.crash_laws.specs.Standing.{Gives, StandsUnsure, StandsBy, IsLater, IsHeld}
use Rattle.crash_laws.specs.Calls.{Lands, StaysInDoubt, LandsWithin}
use Rattle.crash_laws.specs.Foundations.{Foundations}
use Rattle.crash_laws.specs.Laws.{LandingsCarry, landing_at}
use Rattle.crash_laws.proofs.Histories.{Recovers, RecoversDoubt, RecoversFrom}
use Rattle.crash_laws.proofs.Landed.{landed_sure}
use Rattle.crash_laws.proofs.Near.{recovers, gives_moved, recovers_near}
use Rattle.crash_laws.proofs.Pushing.{at_last, moved, pushed}
use Rattle.crash_laws.proofs.Opened.{unsure_of}

module _ (laws : Foundations) (old new : Told) (first : State) (tapes : List (List ℕ)) (t0 : ℕ) (journal journal' : JournalValue) (b after' : Rebuilt) (history : List Entry) (pending : Pending)
    (is : IsLater old new) (held : IsHeld first tapes t0 journal old b after' history) (doubt : (after first tapes history).doubt ≡ Some pending) (stays : LandsWithin journal old new) where
  abbrev last : State
  last = after first tapes history

  u : StandsUnsure journal old b after' last
  u = unsure_of journal old b after' last last.doubt pending doubt held.stands

  abbrev r : Journal
  r = (u).old

  abbrev s : Journal
  s = (u).new

  abbrev P : List ℕ → Type 0
  P = WithinLand r s old

  leaves : Leaves old new P
  leaves = stays r s (u).stands

  -- both readings have the journal's shape
  one_shape : r.shape ≡ s.shape
  one_shape = sym (u).stands.ready.at.shape_is ∙ (u).stands.ready.next.shape_is

  as_new : (image : List ℕ) → NearOld r.shape old image → NearOld s.shape old image
  as_new image torn = subst (λ (shape : Shape). NearOld shape old image) one_shape torn

  some : is_some last.doubt ≡ true
  some = ap (λ (o : Option Pending). is_some o) doubt

  recovers_old : (image : List ℕ) → Reads image r → NearOld r.shape old image → Recovers image last.kept
  recovers_old image reads torn = recovers_near laws old new is r b last (u).before image reads torn

  recovers_landed : (image : List ℕ) → Reads image s → NearOld r.shape old image → Recovers image (landed last).kept
  recovers_landed image reads torn = recovers_near laws old new is s after' (landed last) (u).landing image reads (as_new image torn)

  gives_landed : Gives new s after' (landed last)
  gives_landed = gives_moved laws old new is s after' (landed last) (u).landing P leaves (λ image w. as_new image w.1)

  -- that was done
  module _ (lands : Lands journal journal' old new) where
    abbrev IsNext : List ℕ → Type 0
    IsNext image = Recovers image (landed last).kept ⊎ RecoversDoubt image (landed last)

    within : (image : List ℕ) → P image → Recovers image last.kept ⊎ IsNext image
    within image w = let goal : Recovers image last.kept ⊎ IsNext image = ⊎_elim (λ reads. inl (recovers_old image reads w.1)) (λ reads. inr (inl (recovers_landed image reads w.1))) w.0 in goal

    now_next : Now new IsNext
    now_next image left = inl (recovers laws image s after' (landed last).kept ((lands r s (u).stands).each image left).0 (gives_landed).rebuilds ((gives_landed).fills image left))

    landing_done : IsHeld first tapes t0 journal' new after' after' (history ++ landing_at new.calls ∷ [])
    landing_done =
        pushed first tapes t0 journal journal' old new b after' after' after' history is held P leaves (landing_at new.calls) refl
        (λ image doubted. inl doubted.1)
        within
        now_next
        (subst (λ (o : Option Pending). StandsBy o journal' new after' after' (landed last)) (sym (landed_sure last)) (record { reading = s; stands = lands r s (u).stands; gives = gives_landed }))

  -- that failed
  module _ (in_doubt : StaysInDoubt journal journal' old new) where
    within_from : (k : ℕ) (image : List ℕ) → k ≤ length history → P image → RecoversFrom first tapes history k image
    within_from k image le w =
        let goal : RecoversFrom first tapes history k image =
        ⊎_elim (λ reads. at_last first tapes t0 journal journal' old new b after' b after' history is held P leaves k image le (recovers_old image reads w.1))
        (λ reads. inr (some, recovers_landed image reads w.1)) w.0
        in goal

    unsure : StandsUnsure journal' new b after' last
    unsure = record {
      old = r;
      new = s;
      stands = in_doubt r s (u).stands;
      before = gives_moved laws old new is r b last (u).before P leaves (λ image w. w.1);
      landing = gives_landed;
    }

    landing_failed : IsHeld first tapes t0 journal' new b after' history
    landing_failed =
        moved first tapes t0 journal journal' old new b after' b after' history is held P leaves within_from
        (subst (λ (o : Option Pending). StandsBy o journal' new b after' last) (sym doubt) unsure)

pub landings_carry : Foundations → (old new : Told) → LandingsCarry old new
landings_carry laws old new = record {
  ok = λ first tapes t0 journal journal' b after' history pending is held doubt lands stays. landing_done laws old new first tapes t0 journal journal' b after' history pending is held doubt stays lands;
  failed = λ first tapes t0 journal journal' b after' history pending is held doubt in_doubt stays. landing_failed laws old new first tapes t0 journal journal' b after' history pending is held doubt stays in_doubt;
}
