-- How what a crash leaves of a history is carried through calls of the disk.
use Rattle.std.proofs.Common.{◌≡◌, ◌⊎◌, inl, inr, ⊎_elim, ℕ, suc, ◌<◌, ◌≤◌, List, [], ◌∷◌, ◌++◌, length, Some, sym, ◌∙◌, ap, subst, arith}
use Rattle.voice_outside.specs.Disk.{Told, Now, Leaves}
use Rattle.voice_model.specs.State.{State}
use Rattle.voice_model.specs.Step.{state_after, after}
use Rattle.voice_model.specs.Image.{recovered_from}
use Rattle.voice_model.specs.Crash.{moment_of, durable_after, Held}
use Rattle.voice_model.specs.declared.calls.Entry.{Entry}
use Rattle.crash_laws.specs.Standing.{ArePast}
use Rattle.crash_laws.proofs.Histories.{le_or, length_push, after_push, moment_push, moment_last, Recovers, RecoversDoubt, RecoversFrom, parted, joined, kept_push, kept_next}

module _ (first : State) (tapes : List (List ℕ)) (t0 : ℕ) (history : List Entry) (old new : Told) (P : List ℕ → Type 0)
    (held : Held recovered_from old.may_leave first tapes t0 history) (past : ArePast t0 history old) (later : old.calls ≤ new.calls) (leaves : Leaves old new P) where
  abbrev last : State
  last = after first tapes history

  was_from : (k : ℕ) (image : List ℕ) → k ≤ length history → old.may_leave (moment_of t0 history k) image → RecoversFrom first tapes history k image
  was_from k image le left = parted first tapes history k image le (held.each k image le left)

  -- calls of the disk without an entry
  pub held_moved : ((k : ℕ) (image : List ℕ) → k ≤ length history → P image → RecoversFrom first tapes history k image) → Held recovered_from new.may_leave first tapes t0 history
  held_moved each = record {
    each = λ k image le left. joined first tapes history k image le
        (⊎_elim (λ was. was_from k image le was) (λ is. each k image le is) (leaves (moment_of t0 history k) image (past k le) left));
  }

  pub past_moved : ArePast t0 history new
  past_moved k le = omega (arith, past k le, later)

  -- one entry more
  module _ (e : Entry) (ack : e.ack ≡ new.calls) where
    abbrev next : State
    next = state_after last tapes e

    abbrev IsNext : List ℕ → Type 0
    IsNext image = Recovers image next.kept ⊎ RecoversDoubt image next

    abbrev longer : List Entry
    longer = history ++ e ∷ []

    from_next : (k : ℕ) (image : List ℕ) → k ≤ suc (length history) → IsNext image → RecoversFrom first tapes longer k image
    from_next k image le (inl rec) = inl (suc (length history), le, omega (arith, length_push history e), rec ∙ ap Some (sym (kept_next first tapes history e)))
    from_next k image le (inr doubt) = inr (subst (λ (s : State). RecoversDoubt image s) (sym (after_push first tapes history e)) doubt)

    from_last : (k : ℕ) (image : List ℕ) (j : ℕ) → k ≤ j → j ≤ length history → Recovers image (durable_after first tapes history j) → RecoversFrom first tapes longer k image
    from_last k image j low high rec = inl (j, low, omega (arith, high, length_push history e), rec ∙ ap Some (sym (kept_push first tapes history e j high)))

    module _ (carries : (image : List ℕ) → RecoversDoubt image last → IsNext image)
        (each : (k : ℕ) (image : List ℕ) → k ≤ length history → P image → RecoversFrom first tapes history k image ⊎ IsNext image) (now : Now new IsNext) where
      was : (k : ℕ) (image : List ℕ) → k ≤ length history → RecoversFrom first tapes history k image → RecoversFrom first tapes longer k image
      was k image le (inl at) = from_last k image at.0 at.1 at.2 at.3
      was k image le (inr doubt) = from_next k image (omega arith) (carries image doubt)

      within : (k : ℕ) (image : List ℕ) → k ≤ length history → RecoversFrom first tapes history k image ⊎ IsNext image → RecoversFrom first tapes longer k image
      within k image le (inl from) = was k image le from
      within k image le (inr is) = from_next k image (omega arith) is

      early : (k : ℕ) (image : List ℕ) → k ≤ length history → new.may_leave (moment_of t0 longer k) image → RecoversFrom first tapes longer k image
      early k image le left =
          ⊎_elim (λ before. was k image le (was_from k image le before)) (λ is. within k image le (each k image le is))
          (leaves (moment_of t0 history k) image (past k le) (subst (λ (t : ℕ). new.may_leave t image) (moment_push t0 history e k le) left))

      moment_now : (k : ℕ) → k ≤ length longer → length history < k → moment_of t0 longer k ≡ new.calls
      moment_now k le lt =
          let last_one : k ≡ suc (length history) = omega (arith, le, lt, length_push history e) in
          ap (λ (n : ℕ). moment_of t0 longer n) last_one ∙ moment_last t0 history e ∙ ack

      reached : (k : ℕ) (image : List ℕ) → k ≤ length longer → new.may_leave (moment_of t0 longer k) image → RecoversFrom first tapes longer k image
      reached k image le left = elim (le_or k (length history)) [
        | inl before ↦ early k image before left
        | inr beyond ↦ from_next k image (omega (arith, le, length_push history e)) (now image (subst (λ (t : ℕ). new.may_leave t image) (moment_now k le beyond) left))
      ]

      pub held_push : Held recovered_from new.may_leave first tapes t0 (history ++ e ∷ [])
      held_push = record { each = λ k image le left. joined first tapes longer k image le (reached k image le left) }

      pub past_push : ArePast t0 (history ++ e ∷ []) new
      past_push k le = elim (le_or k (length history)) [
        | inl before ↦ omega (arith, moment_push t0 history e k before, past k before, later)
        | inr beyond ↦ omega (arith, moment_now k le beyond)
      ]
