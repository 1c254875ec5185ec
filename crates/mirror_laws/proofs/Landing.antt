-- Landings.
use Rattle.std.proofs.Common.{⊎_elim, ℕ, suc, ◌+◌, ◌≤◌, List, [], ◌∷◌, ◌++◌, length, Some, None, refl, sym, ◌∙◌, subst, arith}
use Rattle.voice_units.specs.declared.shapes.Shape.{Shape}
use Rattle.voice_outside.specs.Disk.{Told, Now, Leaves}
use Rattle.disk_areas.specs.Areas.{Journal}
use Rattle.voice_journal.specs.Readings.{WithinLand, NearOld}
use Rattle.voice_journal.specs.Places.{JournalValue}
use Rattle.voice_model.specs.Samples.{Tagged}
use Rattle.voice_model.specs.State.{Durable, Effect}
use Rattle.voice_model.specs.Changes.{changed}
use Rattle.voice_model.specs.Replay.{Rebuilt}
use Rattle.crash_laws.specs.Standing.{IsLater}
use Rattle.crash_laws.specs.Calls.{Lands, StaysInDoubt, LandsWithin}
use Rattle.mirror_laws.specs.Standing.{Took, taken_at, kept_after, effects_of, with_doubt, Gives, StandsUnsure, IsHeld}
use Rattle.mirror_laws.specs.Foundations.{MirrorFoundations}
use Rattle.mirror_laws.specs.Laws.{LandingsCarry}
use Rattle.mirror_laws.proofs.Histories.{HasFrom, has_old, has_new}
use Rattle.mirror_laws.proofs.Carry.{past_moved, left_moved, past_pushed, left_pushed}
use Rattle.mirror_laws.proofs.Near.{means, gives_moved, means_near}
use Rattle.mirror_laws.proofs.Changing.{took}

module _ (laws : MirrorFoundations) (old new : Told) (first : Durable Tagged) (from t0 : ℕ) (journal journal' : JournalValue) (b after' : Rebuilt) (taken : List Took) (effect : Effect Tagged)
    (is : IsLater old new) (held : IsHeld first from t0 journal old b after' taken (Some effect)) (stays : LandsWithin journal old new) where
  abbrev n : ℕ
  n = from + length taken

  abbrev d : Durable Tagged
  d = kept_after first (effects_of taken)

  abbrev e : Durable Tagged
  e = changed 2 d effect

  abbrev both : List (Effect Tagged)
  both = with_doubt (Some effect) taken

  u : StandsUnsure journal old b after' n d effect
  u = held.stands

  abbrev r : Journal
  r = (u).old

  abbrev s : Journal
  s = (u).new

  abbrev P : List ℕ → Type 0
  P = WithinLand r s old

  leaves : Leaves old new P
  leaves = stays r s (u).stands

  -- both readings have the journal's shape
  as_new : (image : List ℕ) → NearOld r.shape old image → NearOld s.shape old image
  as_new image torn = subst (λ (shape : Shape). NearOld shape old image) (sym (u).stands.ready.at.shape_is ∙ (u).stands.ready.next.shape_is) torn

  gives_landed : Gives new s after' (n + 1) e
  gives_landed = gives_moved laws old new is s after' (n + 1) e (u).landing P leaves (λ image w. as_new image w.1)

  within : (k : ℕ) (image : List ℕ) → k ≤ length taken → P image → HasFrom first from both k image
  within k image le w =
      let goal : HasFrom first from both k image =
      ⊎_elim (λ reads. has_old first from taken effect k image le (means_near laws old new is r b n d (u).before image reads w.1))
      (λ reads. has_new first from taken effect k image (omega (arith, le)) (means_near laws old new is s after' (n + 1) e (u).landing image reads (as_new image w.1))) w.0
      in goal

  -- that was done
  module _ (lands : Lands journal journal' old new) where
    now_next : Now new (HasFrom first from both (suc (length taken)))
    now_next image left =
        has_new first from taken effect (suc (length taken)) image (omega arith)
        (means laws image s after' (n + 1) e ((lands r s (u).stands).each image left).0 (gives_landed).version (gives_landed).rebuilds ((gives_landed).fills image left))

    landing_done : IsHeld first from t0 journal' new after' after' (taken ++ taken_at effect new.calls ∷ []) None
    landing_done =
        took first from t0 journal' new taken effect new.calls s after' (lands r s (u).stands) gives_landed
        (left_pushed first from t0 taken both both old new P held.past is.later leaves held.held.each (λ k image at. at) within (taken_at effect new.calls) refl now_next)
        (past_pushed first from t0 taken both both old new P held.past is.later leaves held.held.each (λ k image at. at) within (taken_at effect new.calls) refl now_next)

  -- that failed
  landing_failed : StaysInDoubt journal journal' old new → IsHeld first from t0 journal' new b after' taken (Some effect)
  landing_failed in_doubt = record {
    stands = record {
      old = r;
      new = s;
      stands = in_doubt r s (u).stands;
      before = gives_moved laws old new is r b n d (u).before P leaves (λ image w. w.1);
      landing = gives_landed;
    };
    held = record { each = left_moved first from t0 taken both both old new P held.past is.later leaves held.held.each (λ k image at. at) within };
    past = past_moved first from t0 taken both both old new P held.past is.later leaves;
  }

pub landings_carry : MirrorFoundations → (old new : Told) → LandingsCarry old new
landings_carry laws old new = record {
  ok = λ first from t0 journal journal' b after' taken effect is held lands stays. landing_done laws old new first from t0 journal journal' b after' taken effect is held stays lands;
  failed = λ first from t0 journal journal' b after' taken effect is held in_doubt stays. landing_failed laws old new first from t0 journal journal' b after' taken effect is held stays in_doubt;
}
