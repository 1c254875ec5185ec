-- What is ready of a call that nothing refuses, but perhaps the journal, may follow, and does where the journal is read again what the call did.
use Rattle.std.proofs.Common.{◌≡◌, ℕ, ◌+◌, false, List, [], length, Option, Some, None, refl, sym, ◌∙◌, ap, subst}
use Rattle.voice_units.specs.declared.pieces.Piece.{Piece}
use Rattle.voice_units.specs.Spots.{Spot}
use Rattle.voice_model.specs.Samples.{Tagged, spot_of}
use Rattle.voice_model.specs.State.{State, Durable, Effect}
use Rattle.voice_model.specs.State.Effect.{Recorded, Edited, Retained, Forgotten, Counted, Swept, Advanced}
use Rattle.voice_model.specs.Changes.{effect_of, changed}
use Rattle.voice_model.specs.Early.{all_but_last}
use Rattle.voice_model.specs.Step.{conditions, first_of}
use Rattle.voice_model.specs.Spelling.{spelling}
use Rattle.voice_model.specs.Replay.{Rebuilt, durable_by, effect_by}
use Rattle.voice_model.specs.Base.{change_of, HasAddresses}
use Rattle.voice_model.specs.Valid.{IsState, InRange, TakesFree}
use Rattle.voice_model.specs.declared.calls.Call.{Call}
use Rattle.voice_model.specs.declared.changes.Change.{Change}
use Rattle.voice_model.proofs.LegalOfCalls.{made_of_call, legal_early}
use Rattle.voice_model.proofs.LegalInReplay.{acted_again}
use Rattle.voice_model.proofs.ChangesOfEffects.{size_again}
use Rattle.recovery.specs.declared.parts.Parts.{Parts}
use Rattle.running_tables.specs.Running.{Runs}
use Rattle.ready_changes.specs.Ready.{IsReady, MayBeReady, change_for}
use Rattle.ready_changes.specs.declared.ReadyChange.{ReadyChange}
use Rattle.next_changes.specs.Laws.{Keeps}
use Rattle.next_changes.proofs.Given.{brings_rope, plain, other_next}

-- an effect that brings no rope names no addresses, takes none, and has no samples
pub record NamesNone (effect : Effect Tagged) : Type 0 where
  pub change : (form : ℕ) → change_of 2 [] effect ≡ change_of form [] effect
  pub free : (b : Rebuilt) → TakesFree b [] effect
  pub addresses : (block : ℕ) → HasAddresses block [] effect
  pub again : (fill : Spot → Tagged) → effect_by fill (effect_by spot_of effect) ≡ effect

names_none : (effect : Effect Tagged) → brings_rope (change_of 2 [] effect) ≡ false → NamesNone effect
names_none (Recorded id samples) e = cc
names_none (Edited id samples) e = cc
names_none (Retained row) e = record { change = λ form. refl; free = λ b. tt; addresses = λ block. tt; again = λ fill. refl }
names_none (Forgotten class key) e = record { change = λ form. refl; free = λ b. tt; addresses = λ block. tt; again = λ fill. refl }
names_none (Counted keys) e = record { change = λ form. refl; free = λ b. tt; addresses = λ block. tt; again = λ fill. refl }
names_none (Swept ids) e = record { change = λ form. refl; free = λ b. tt; addresses = λ block. tt; again = λ fill. refl }
names_none (Advanced moment) e = record { change = λ form. refl; free = λ b. tt; addresses = λ block. tt; again = λ fill. refl }

pub of_call : (held : List (List Piece)) (takings : List ℕ) (fill : Spot → Tagged) → ((x : Spot) → spot_of (fill x) ≡ x) → (parts : Parts) (b : Rebuilt) (s : State) (tapes : List (List ℕ)) (call : Call) (ready : ReadyChange)
    → Runs held [] takings parts b → durable_by fill b.kept ≡ s.kept → b.form ≡ s.form → IsState s → InRange call → first_of (all_but_last (conditions s tapes call)) ≡ None
    → MayBeReady parts.interests.spare b.kept (Some ready) (change_for (effect_of s tapes call))
    → Keeps held takings fill parts b s ready (effect_of s tapes call)
of_call held takings fill same parts b s tapes call ready runs kept form valid range free may = by (effect_of s tapes call) refl may
  where
    by : (o : Option (Effect Tagged)) → effect_of s tapes call ≡ o → MayBeReady parts.interests.spare b.kept (Some ready) (change_for o) → Keeps held takings fill parts b s ready o
    by None e h = absurd h
    by (Some effect) e h =
        let none = names_none effect (plain parts.interests.spare b.kept ready.act (change_of 2 [] effect) h.does).no_rope in
        let legal = legal_early fill same b s tapes call [] effect kept form valid range free e (none.free b) in
        record {
          effect = effect;
          is = refl;
          next = other_next held takings parts b ready (change_of b.form [] effect) runs legal (subst (λ (c : Change). IsReady parts.interests.spare b.kept ready c) (none.change b.form) h);
          does =
              acted_again fill same b [] effect (made_of_call s tapes call effect e) (none.again fill)
              ∙ ap (λ (n : ℕ). changed n (durable_by fill b.kept) effect) form
              ∙ ap (λ (d : Durable Tagged). changed s.form d effect) kept;
          frame =
              ap (λ (n : ℕ). 5 + n)
              (sym (ap length h.payload ∙ ap (λ (c : Change). length (spelling c)) (none.change s.form) ∙ size_again s.form s.kept.shape.block [] effect (none.addresses s.kept.shape.block)));
        }

pub nothing : (spare : ℕ) (b : Rebuilt) (s : State) (tapes : List (List ℕ)) (call : Call) → MayBeReady spare b.kept None (change_for (effect_of s tapes call)) → effect_of s tapes call ≡ None
nothing spare b s tapes call may = by (effect_of s tapes call) may
  where
    by : (o : Option (Effect Tagged)) → MayBeReady spare b.kept None (change_for o) → o ≡ None
    by None h = refl
    by (Some effect) h = absurd h
