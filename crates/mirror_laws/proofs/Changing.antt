-- A change of the journal, whether it appends or switches: done, in doubt, or failed before it counted.
use Rattle.std.proofs.Common.{◌≡◌, inl, inr, ℕ, suc, ◌+◌, ◌≤◌, List, [], ◌∷◌, ◌++◌, length, Some, None, refl, ◌∙◌, ap, subst, arith}
use Rattle.voice_units.specs.declared.shapes.Shape.{Shape}
use Rattle.voice_outside.specs.Disk.{Told, Now, Leaves}
use Rattle.disk_areas.specs.Areas.{Journal}
use Rattle.voice_journal.specs.Readings.{Reads, SameElsewhere, Without, Within}
use Rattle.voice_journal.specs.Places.{JournalValue}
use Rattle.voice_journal.specs.Stands.{Stands, StandsInDoubt}
use Rattle.voice_model.specs.Samples.{Tagged}
use Rattle.voice_model.specs.State.{Durable, Effect}
use Rattle.voice_model.specs.Changes.{changed}
use Rattle.voice_model.specs.Replay.{Rebuilt, recovered}
use Rattle.mirror_readings.specs.Readings.{NumberedRebuild}
use Rattle.crash_laws.specs.Standing.{IsLater}
use Rattle.crash_laws.specs.Calls.{Undoes}
use Rattle.crash_laws.proofs.Near.{fills_same, within_near}
use Rattle.mirror_laws.specs.Standing.{Took, taken_at, kept_after, effects_of, with_doubt, ArePast, Gives, StandsSure, IsHeld}
use Rattle.mirror_laws.specs.Foundations.{MirrorFoundations}
use Rattle.mirror_laws.specs.Laws.{FailuresCarry}
use Rattle.mirror_laws.proofs.Histories.{IsMirrored, HasFrom, has_before, has_last, has_old, has_new, effects_more, kept_more, number_more}
use Rattle.mirror_laws.proofs.Carry.{AreLeft, past_moved, left_moved, past_pushed, left_pushed}
use Rattle.mirror_laws.proofs.Near.{gives_at, shape_is, means, gives_moved, means_near}

-- one change more was taken
pub took : (first : Durable Tagged) (from t0 : ℕ) (journal : JournalValue) (disk : Told) (taken : List Took) (effect : Effect Tagged) (ack : ℕ) (s : Journal) (x : Rebuilt)
    → Stands journal disk s → Gives disk s x (from + length taken + 1) (changed 2 (kept_after first (effects_of taken)) effect)
    → AreLeft first from t0 disk.may_leave (taken ++ taken_at effect ack ∷ []) (with_doubt (Some effect) taken) → ArePast t0 (taken ++ taken_at effect ack ∷ []) disk
    → IsHeld first from t0 journal disk x x (taken ++ taken_at effect ack ∷ []) None
took first from t0 journal disk taken effect ack s x stands gives left past =
    let longer = taken ++ taken_at effect ack ∷ [] in
    record {
      stands = record {
        reading = s;
        stands = stands;
        gives = gives_at disk s x (from + length taken + 1) (from + length longer) (changed 2 (kept_after first (effects_of taken)) effect) (kept_after first (effects_of longer)) (number_more first from taken effect ack)
            (kept_more first from taken effect ack) gives;
      };
      held = record { each = subst (λ (es : List (Effect Tagged)). AreLeft first from t0 disk.may_leave longer es) (effects_more first from taken effect ack) left };
      past = past;
    }

module _ (laws : MirrorFoundations) (first : Durable Tagged) (from t0 : ℕ) (journal journal' : JournalValue) (old new : Told) (b after' : Rebuilt) (taken : List Took)
    (is : IsLater old new) (held : IsHeld first from t0 journal old b after' taken None) where
  abbrev n : ℕ
  n = from + length taken

  abbrev d : Durable Tagged
  d = kept_after first (effects_of taken)

  pub sure : StandsSure journal old b n d
  sure = held.stands

  -- ---- a change that failed before it counted

  module _ (undoes : Undoes journal journal' old new) where
    abbrev before : Journal
    before = (sure).reading

    abbrev leaves : Leaves old new (Without before old)
    leaves = (undoes before (sure).stands).1

    pub failed : IsHeld first from t0 journal' new b b taken None
    failed = record {
      stands = record { reading = before; stands = (undoes before (sure).stands).0; gives = gives_moved laws old new is before b n d (sure).gives (Without before old) leaves (λ image w. w.1) };
      held = record {
        each = left_moved first from t0 taken (effects_of taken) (effects_of taken) old new (Without before old) held.past is.later leaves held.held.each (λ k image at. at)
            (λ k image le w. has_last first from taken k image le (means_near laws old new is before b n d (sure).gives image w.0 w.1));
      };
      past = past_moved first from t0 taken (effects_of taken) (effects_of taken) old new (Without before old) held.past is.later leaves;
    }

  -- ---- a change that makes the journal read as s, which rebuilds x

  module _ (effect : Effect Tagged) (s : Journal) (x : Rebuilt) (form : x.form ≡ 2) (rebuilds : NumberedRebuild s x (n + 1)) (shape : s.shape ≡ (sure).reading.shape) (fills : recovered old.bytes x ≡ changed 2 d effect)
      (leaves : Leaves old new (Within (sure).reading s old)) (settled : Now new (SameElsewhere (sure).reading.shape old.bytes)) where
    abbrev r : Journal
    r = (sure).reading

    abbrev e : Durable Tagged
    e = changed 2 d effect

    abbrev both : List (Effect Tagged)
    both = with_doubt (Some effect) taken

    in_shape : x.shape ≡ r.shape
    in_shape = shape_is laws s x (n + 1) rebuilds ∙ shape

    version : s.shape.version ≡ 2
    version = ap (λ (y : Shape). y.version) shape ∙ (sure).gives.version

    fills_new : (image : List ℕ) → SameElsewhere r.shape old.bytes image → recovered image x ≡ e
    fills_new image same = fills_same laws.below old new is r.shape x e in_shape fills image same

    -- an image that reads as s is filled to what is kept then
    means_new : (image : List ℕ) → Reads image s → SameElsewhere r.shape old.bytes image → IsMirrored image e (n + 1)
    means_new image reads same = means laws image s x (n + 1) e reads version rebuilds (fills_new image same)

    gives_new : Gives new s x (n + 1) e
    gives_new = record { rebuilds = rebuilds; version = version; form = form; fills = λ image left. fills_new image (settled image left) }

    carries : (k : ℕ) (image : List ℕ) → HasFrom first from (effects_of taken) k image → HasFrom first from both k image
    carries k image at = has_before first from (effects_of taken) image effect k at

    within : (k : ℕ) (image : List ℕ) → k ≤ length taken → Within r s old image → HasFrom first from both k image
    within k image le (inl w) = has_old first from taken effect k image le (means_near laws old new is r b n d (sure).gives image w.0 w.1)
    within k image le (inr w) = has_new first from taken effect k image (omega (arith, le)) (means_new image w.0 w.1)

    -- that was done
    module _ (stands : Stands journal' new s) where
      now_new : Now new (HasFrom first from both (suc (length taken)))
      now_new image left = has_new first from taken effect (suc (length taken)) image (omega arith) (means_new image (stands.each image left).0 (settled image left))

      pub done : IsHeld first from t0 journal' new x x (taken ++ taken_at effect new.calls ∷ []) None
      done =
          took first from t0 journal' new taken effect new.calls s x stands gives_new
          (left_pushed first from t0 taken (effects_of taken) both old new (Within r s old) held.past is.later leaves held.held.each carries within (taken_at effect new.calls) refl now_new)
          (past_pushed first from t0 taken (effects_of taken) both old new (Within r s old) held.past is.later leaves held.held.each carries within (taken_at effect new.calls) refl now_new)

    -- that is in doubt
    pub doubted : StandsInDoubt journal' new r s → IsHeld first from t0 journal' new b x taken (Some effect)
    doubted stands = record {
      stands = record {
        old = r;
        new = s;
        stands = stands;
        before = gives_moved laws old new is r b n d (sure).gives (Within r s old) leaves (within_near laws.below old new is r s);
        landing = gives_new;
      };
      held = record { each = left_moved first from t0 taken (effects_of taken) both old new (Within r s old) held.past is.later leaves held.held.each carries within };
      past = past_moved first from t0 taken (effects_of taken) both old new (Within r s old) held.past is.later leaves;
    }

pub failures_carry : MirrorFoundations → (old new : Told) → FailuresCarry old new
failures_carry laws old new = record { before = λ first from t0 journal journal' b after' taken is held undoes. failed laws first from t0 journal journal' old new b after' taken is held undoes }
