-- How what a crash leaves of changes is carried through calls of the disk.
use Rattle.std.proofs.Common.{◌≡◌, ◌⊎◌, inl, inr, ℕ, suc, ◌<◌, ◌≤◌, List, [], ◌∷◌, ◌++◌, length, sym, ◌∙◌, ap, subst, arith}
use Rattle.voice_outside.specs.Disk.{Told, Now, Leaves}
use Rattle.voice_model.specs.Samples.{Tagged}
use Rattle.voice_model.specs.State.{Durable, Effect}
use Rattle.crash_laws.proofs.Histories.{le_or}
use Rattle.mirror_laws.specs.Standing.{Took, moment_of, ArePast}
use Rattle.mirror_laws.proofs.Histories.{length_push, moment_push, moment_last, HasFrom}

-- what a crash since a change leaves is that of the first j of these, for some j from there on
abbrev pub AreLeft : Durable Tagged → ℕ → ℕ → (ℕ → List ℕ → Type 0) → List Took → List (Effect Tagged) → Type 0
AreLeft first from t0 may_leave taken effects = (k : ℕ) (image : List ℕ) → k ≤ length taken → may_leave (moment_of t0 taken k) image → HasFrom first from effects k image

-- calls of the disk by which `before` became `after`
module _ (first : Durable Tagged) (from t0 : ℕ) (taken : List Took) (before after : List (Effect Tagged)) (old new : Told) (P : List ℕ → Type 0)
    (past : ArePast t0 taken old) (later : old.calls ≤ new.calls) (leaves : Leaves old new P) where
  pub past_moved : ArePast t0 taken new
  past_moved k le = omega (arith, past k le, later)

  module _ (held : AreLeft first from t0 old.may_leave taken before) (carries : (k : ℕ) (image : List ℕ) → HasFrom first from before k image → HasFrom first from after k image)
      (each : (k : ℕ) (image : List ℕ) → k ≤ length taken → P image → HasFrom first from after k image) where
    left_by : (k : ℕ) (image : List ℕ) → k ≤ length taken → old.may_leave (moment_of t0 taken k) image ⊎ P image → HasFrom first from after k image
    left_by k image le (inl was) = carries k image (held k image le was)
    left_by k image le (inr is) = each k image le is

    pub left_moved : AreLeft first from t0 new.may_leave taken after
    left_moved k image le left = left_by k image le (leaves (moment_of t0 taken k) image (past k le) left)

    -- and one of them was answered
    module _ (one : Took) (ack : one.ack ≡ new.calls) (now : Now new (HasFrom first from after (suc (length taken)))) where
      last_one : (k : ℕ) → k ≤ length (taken ++ one ∷ []) → length taken < k → k ≡ suc (length taken)
      last_one k le lt = omega (arith, le, lt, length_push taken one)

      moment_now : (k : ℕ) → k ≤ length (taken ++ one ∷ []) → length taken < k → moment_of t0 (taken ++ one ∷ []) k ≡ new.calls
      moment_now k le lt = ap (λ (n : ℕ). moment_of t0 (taken ++ one ∷ []) n) (last_one k le lt) ∙ moment_last t0 taken one ∙ ack

      pub left_pushed : AreLeft first from t0 new.may_leave (taken ++ one ∷ []) after
      left_pushed k image le left = elim (le_or k (length taken)) [
        | inl early ↦ left_moved k image early (subst (λ (t : ℕ). new.may_leave t image) (moment_push t0 taken one k early) left)
        | inr late ↦ subst (λ (n : ℕ). HasFrom first from after n image) (sym (last_one k le late)) (now image (subst (λ (t : ℕ). new.may_leave t image) (moment_now k le late) left))
      ]

      pub past_pushed : ArePast t0 (taken ++ one ∷ []) new
      past_pushed k le = elim (le_or k (length taken)) [
        | inl early ↦ omega (arith, moment_push t0 taken one k early, past k early, later)
        | inr late ↦ omega (arith, moment_now k le late)
      ]
