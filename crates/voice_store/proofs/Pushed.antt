-- A store with one entry more, and one whose disk went on.
use Rattle.std.proofs.Common.{◌≡◌, ◌⊎◌, ℕ, ◌≤◌, Bool, List, [], ◌∷◌, ◌++◌, IsTrue, refl, sym, ◌∙◌, ap, subst, arith}
use Rattle.voice_units.specs.declared.pieces.Piece.{Piece}
use Rattle.voice_outside.specs.Disk.{Told}
use Rattle.voice_units.specs.Spots.{Spot}
use Rattle.voice_journal.specs.Readings.{extent}
use Rattle.voice_model.specs.Samples.{Tagged}
use Rattle.voice_model.specs.State.{State}
use Rattle.voice_model.specs.Step.{state_after, after}
use Rattle.voice_model.specs.Heard.{IsAnswerOn, LegalOn}
use Rattle.voice_model.specs.Replay.{Rebuilt}
use Rattle.voice_model.specs.Valid.{IsState}
use Rattle.voice_model.specs.declared.calls.Entry.{Entry}
use Rattle.crash_laws.specs.Standing.{IsHeld}
use Rattle.voice_store.specs.declared.inside.Inside.{Inside}
use Rattle.voice_store.specs.Stood.{tapes_of, last_of, Fills, IsSeated, AcksRise, IsHolding, Upright, IsSure, IsUnsure, Plays, Stood}
use Rattle.voice_store.specs.Filled.{HaveBytes}
use Rattle.voice_store.proofs.Filled.{StaysBehind, still_has, takes_same}
use Rattle.voice_store.proofs.Entries.{after_one, legal_one, acks_one, acks_later}
use Rattle.voice_store.proofs.Played.{playing_as_honest}

-- a history that is legal on a disk is on one as honest
pub as_honest : (first : State) (old new : Told) (s : Inside) → new.honest ≡ old.honest → LegalOn old.honest first (tapes_of s) s.history.items → LegalOn new.honest first (tapes_of s) s.history.items
as_honest first old new s alike legal = subst (λ (h : Bool). LegalOn h first (tapes_of s) s.history.items) (sym alike) legal

module _ (first : State) (t0 : ℕ) (old new : Told) (s s' : Inside) (e : Entry) (tapes : s'.tapes ≡ s.tapes) (items : s'.history.items ≡ s.history.items ++ e ∷ []) where
  abbrev last : State
  last = last_of first s

  abbrev next : State
  next = state_after last (tapes_of s) e

  same_tapes : tapes_of s' ≡ tapes_of s
  same_tapes = ap (λ t. tapes_of (record s { tapes = t })) tapes

  pub last_next : last_of first s' ≡ next
  last_next =
      ap (λ (ts : List (List ℕ)). after first ts s'.history.items) same_tapes
      ∙ ap (λ (l : List Entry). after first (tapes_of s) l) items ∙ after_one first (tapes_of s) s.history.items e

  -- what holds of tapes and entries, of those of the store
  here : (P : List (List ℕ) → List Entry → Type 0) → P (tapes_of s) (s.history.items ++ e ∷ []) → P (tapes_of s') s'.history.items
  here P p = subst (λ (ts : List (List ℕ)). P ts s'.history.items) (sym same_tapes) (subst (λ (l : List Entry). P (tapes_of s) l) (sym items) p)

  pub stood_pushed : (fill : Spot → Tagged) (b b' after' after'' : Rebuilt) (held : List (List Piece)) (takings : List ℕ) → Upright first t0 old s fill b after' → old.calls ≤ new.calls → new.honest ≡ old.honest → e.ack ≡ new.calls
      → IsAnswerOn new.honest last (tapes_of s) e → IsState next → IsHolding held takings s'.journal.shape.block next.lanes → Fills fill b' next → IsSeated s'.journal next
      → (IsTrue new.honest → IsHeld first (tapes_of s) t0 s'.journal new b' after'' (s.history.items ++ e ∷ []))
      → (IsTrue new.honest → HaveBytes fill s'.journal.shape new.bytes s'.parts.blocks.holders next)
      → IsSure held takings s' b' after'' next ⊎ IsUnsure fill held takings s' b' after'' next → Plays fill new.honest s' next → extent s'.journal.shape ≤ new.size
      → Stood first t0 new s'
  stood_pushed fill b b' after' after'' held takings up later alike now answers valid holding fills seated stands filled tables playing size = record {
    fill = fill;
    b = b';
    after = after'';
    held = held;
    takings = takings;
    holding = subst (λ (t : State). IsHolding held takings s'.journal.shape.block t.lanes) (sym last_next) holding;
    upright = record {
      legal = here (λ ts l. LegalOn new.honest first ts l) (legal_one new.honest first (tapes_of s) s.history.items e (as_honest first old new s alike up.legal) answers);
      valid = subst (λ (t : State). IsState t) (sym last_next) valid;
      fills = subst (λ (t : State). Fills fill b' t) (sym last_next) fills;
      seated = subst (λ (t : State). IsSeated s'.journal t) (sym last_next) seated;
      acks = here (λ ts l. AcksRise t0 l new.calls) (acks_one t0 s.history.items e new.calls (acks_later t0 s.history.items old.calls new.calls up.acks later) now);
      held = λ honest. here (λ ts l. IsHeld first ts t0 s'.journal new b' after'' l) (stands honest);
      bytes = λ honest. subst (λ (t : State). HaveBytes fill s'.journal.shape new.bytes s'.parts.blocks.holders t) (sym last_next) (filled honest);
    };
    tables = subst (λ (t : State). IsSure held takings s' b' after'' t ⊎ IsUnsure fill held takings s' b' after'' t) (sym last_next) tables;
    playing = subst (λ (t : State). Plays fill new.honest s' t) (sym last_next) playing;
    size = size;
  }

-- a store whose disk went on, with nothing new
pub stood_went_on : (first : State) (t0 : ℕ) (old new : Told) (s : Inside) (stood : Stood first t0 old s) → old.calls ≤ new.calls → new.size ≡ old.size → new.honest ≡ old.honest
    → (IsTrue new.honest → IsHeld first (tapes_of s) t0 s.journal new stood.b stood.after s.history.items) → (IsTrue old.honest → StaysBehind s.journal.shape old.bytes new.bytes) → Stood first t0 new s
stood_went_on first t0 old new s stood later size alike held behind = record {
  fill = stood.fill;
  b = stood.b;
  after = stood.after;
  held = stood.held;
  takings = stood.takings;
  holding = stood.holding;
  upright = record {
    legal = as_honest first old new s alike stood.upright.legal;
    valid = stood.upright.valid;
    fills = stood.upright.fills;
    seated = stood.upright.seated;
    acks = acks_later t0 s.history.items old.calls new.calls stood.upright.acks later;
    held = held;
    bytes = λ is. let was = subst (λ (h : Bool). IsTrue h) alike is in still_has stood.fill s.journal.shape old.bytes new.bytes s.parts.blocks.holders s.parts.blocks.holders (last_of first s) (last_of first s) (takes_same (last_of first s) (last_of first s) refl) (λ a holder had. had) (behind was) (stood.upright.bytes was);
  };
  tables = stood.tables;
  playing = playing_as_honest stood.fill old.honest new.honest s.journal.shape.block s.parts.ropes s.lanes s.made s.recordings (last_of first s) alike stood.playing;
  size = let is = stood.size in omega (arith, is, size);
}
