-- What a store keeps as it is opened, and over a turn.
use Rattle.std.proofs.Common.{◌≡◌, List, Some, sym, ap, subst, ◌∙◌, arith}
use Rattle.std.specs.Prelude.{IsTrue}
use Rattle.voice_outside.specs.Disk.{Told}
use Rattle.voice_model.specs.State.{State}
use Rattle.voice_model.specs.Heard.{LegalOn}
use Rattle.voice_model.specs.Image.{opened_from}
use Rattle.voice_model.specs.declared.calls.Entry.{Entry}
use Rattle.voice_store.specs.Facts.{Goes, GoesOn}
use Rattle.voice_store.specs.Shown.{Shown, Keeps, history_of, tapes_in, pool_of}
use Rattle.voice_store.proofs.Histories.{keeps_legal}
use Rattle.turnstile.specs.Passes.{made_with}
use Rattle.voice_server.specs.declared.born.Born.{Born}
use Rattle.voice_server.specs.declared.hall.Hall.{Hall}
use Rattle.voice_server.specs.declared.standing.Standing.{Standing}
use Rattle.voice_server.specs.Kept.{IsKept, origin_of}
use Rattle.voice_server.specs.Served.{IsLegalFrom, tapes_of}

goes_further : (a b c : Told) → GoesOn a b → GoesOn b c → GoesOn a c
goes_further a b c p q = record { size = q.size ∙ p.size; honest = q.honest ∙ p.honest; later = (let x = p.later in let y = q.later in omega arith); faults = (let x = p.faults in let y = q.faults in omega arith) }

-- a store that was just opened
pub opened_kept : {D : Type 0} (told : D → Told) (disk : D) (s : Shown D) → s.origin ≡ disk → (first : State) × Keeps told first s × (IsTrue (told disk).honest → opened_from (told disk).bytes ≡ Some first)
    → Goes 5 (told disk) (told s.disk) → IsKept told s
opened_kept told disk s origin state goes = record {
  first = state.0;
  keeps = state.1;
  opened = subst (λ d. IsTrue (told d).honest → opened_from (told d).bytes ≡ Some state.0) (sym origin) state.2;
  goes = subst (λ d. GoesOn (told d) (told s.disk)) (sym origin) (record { size = goes.size; honest = goes.honest; later = goes.later; faults = goes.faults });
}

module _ {D : Type 0} (told : D → Told) where
  pub kept_on : (old new : Shown D) → IsKept told old → ((first : State) → Keeps told first old → Keeps told first new)
      → GoesOn (told old.disk) (told new.disk) → new.origin ≡ old.origin → IsKept told new
  kept_on old new was on goes origin = record {
    first = was.first;
    keeps = on was.first was.keeps;
    opened = subst (λ d. IsTrue (told d).honest → opened_from (told d).bytes ≡ Some was.first) (sym origin) was.opened;
    goes = subst (λ d. GoesOn (told d) (told new.disk)) (sym origin) (goes_further (told old.origin) (told old.disk) (told new.disk) was.goes goes);
  }

  pub legal_from : (server : Hall (Standing D) (Born D)) (s : Shown D) (history : List Entry) → IsKept told s → origin_of (record { store = s }) ≡ origin_of (made_with server.turnstile) → history ≡ history_of s → IsLegalFrom told server history
  legal_from server s history k same is = (
    k.first,
    record { opened = subst (λ d. IsTrue (told d).honest → opened_from (told d).bytes ≡ Some k.first) (ap (λ (b : Born D). b.disk) same) k.opened },
    subst (λ d. LegalOn (told d).honest k.first (tapes_of server) history) (ap (λ (b : Born D). b.disk) same)
        (subst (λ t. LegalOn (told s.origin).honest k.first t history) (ap (λ (b : Born D). b.tapes) same) (subst (λ h. LegalOn (told s.origin).honest k.first (tapes_in s) h) (sym is) (keeps_legal told k.first s k.keeps))),
  )

pub same_origin : {D : Type 0} (old new : Shown D) → new.origin ≡ old.origin → tapes_in new ≡ tapes_in old → pool_of new ≡ pool_of old → origin_of (record { store = new }) ≡ origin_of (record { store = old })
same_origin old new origin tapes pool = λ i. record { disk = origin i; tapes = tapes i; pool = pool i }

module _ {D : Type 0} (told : D → Told) where
  -- nothing of the disk changed, nor of the history
  pub kept_still : (old new : Shown D) → ((first : State) → Keeps told first old → Keeps told first new) → new.disk ≡ old.disk → new.origin ≡ old.origin → IsKept told old → IsKept told new
  kept_still old new on disk origin was = record {
    first = was.first;
    keeps = on was.first was.keeps;
    opened = subst (λ d. IsTrue (told d).honest → opened_from (told d).bytes ≡ Some was.first) (sym origin) was.opened;
    goes = subst (λ d. GoesOn (told d) (told new.disk)) (sym origin) (subst (λ d. GoesOn (told old.origin) (told d)) (sym disk) was.goes);
  }
