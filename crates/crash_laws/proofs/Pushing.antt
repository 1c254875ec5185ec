-- A held history with one entry more, or after calls of the disk without an entry.
use Rattle.std.proofs.Common.{◌≡◌, ◌⊎◌, inl, inr, ⊎_elim, ℕ, ◌≤◌, List, [], ◌∷◌, ◌++◌, length, Some, sym, ◌∙◌, ap, subst, arith}
use Rattle.voice_outside.specs.Disk.{Told, Now, Leaves}
use Rattle.voice_journal.specs.Places.{JournalValue}
use Rattle.voice_model.specs.State.{State}
use Rattle.voice_model.specs.Step.{state_after, after}
use Rattle.voice_model.specs.Replay.{Rebuilt}
use Rattle.voice_model.specs.declared.calls.Entry.{Entry}
use Rattle.crash_laws.specs.Standing.{IsLater, IsHeld, StandsAt}
use Rattle.crash_laws.proofs.Histories.{after_push, kept_end, Recovers, RecoversDoubt, RecoversFrom}
use Rattle.crash_laws.proofs.Carry.{held_moved, past_moved, held_push, past_push}

module _ (first : State) (tapes : List (List ℕ)) (t0 : ℕ) (journal journal' : JournalValue) (old new : Told) (b after' b' after'' : Rebuilt) (history : List Entry)
    (is : IsLater old new) (held : IsHeld first tapes t0 journal old b after' history) (P : List ℕ → Type 0) (leaves : Leaves old new P) where
  abbrev last : State
  last = after first tapes history

  -- what the last state keeps was held
  pub at_last : (k : ℕ) (image : List ℕ) → k ≤ length history → Recovers image last.kept → RecoversFrom first tapes history k image
  at_last k image le rec = inl (length history, le, omega arith, rec ∙ ap Some (sym (kept_end first tapes history)))

  pub moved : ((k : ℕ) (image : List ℕ) → k ≤ length history → P image → RecoversFrom first tapes history k image) → StandsAt journal' new b' after'' last
      → IsHeld first tapes t0 journal' new b' after'' history
  moved each stands = record {
    stands = stands;
    held = held_moved first tapes t0 history old new P held.held held.past is.later leaves each;
    past = past_moved first tapes t0 history old new P held.held held.past is.later leaves;
  }

  module _ (e : Entry) (ack : e.ack ≡ new.calls) where
    abbrev next : State
    next = state_after last tapes e

    abbrev IsNext : List ℕ → Type 0
    IsNext image = Recovers image next.kept ⊎ RecoversDoubt image next

    pub pushed : ((image : List ℕ) → RecoversDoubt image last → IsNext image) → ((image : List ℕ) → P image → Recovers image last.kept ⊎ IsNext image) → Now new IsNext
        → StandsAt journal' new b' after'' next → IsHeld first tapes t0 journal' new b' after'' (history ++ e ∷ [])
    pushed carries each now stands =
        let within = λ (k : ℕ) (image : List ℕ) (le : k ≤ length history) (p : P image). let goal : RecoversFrom first tapes history k image ⊎ IsNext image = ⊎_elim (λ rec. inl (at_last k image le rec)) (λ next_one. inr next_one) (each image p) in goal in
        record {
          stands = subst (λ (s : State). StandsAt journal' new b' after'' s) (sym (after_push first tapes history e)) stands;
          held = held_push first tapes t0 history old new P held.held held.past is.later leaves e ack carries within now;
          past = past_push first tapes t0 history old new P held.held held.past is.later leaves e ack carries within now;
        }
