-- What a store's history gained of one caller.
use Rattle.std.proofs.Common.{◌≡◌, ℕ, ◌<◌, inl, inr, false, cond, not, List, [], ◌∷◌, ◌++◌, length, drop, refl, sym, ap, ◌∙◌, subst, arith, append_assoc, append-nil}
use Rattle.std.proofs.lemmas.List.{drop_at}
use Rattle.std.proofs.lemmas.List.Elements.{filter-append}
use Rattle.voice_model.specs.declared.calls.Entry.{Entry}
use Rattle.voice_store.specs.Facts.{AddsLanding, landing_at}
use Rattle.turnstile.specs.Histories.{entries_of}
use Rattle.turnstile.specs.Passes.{IsAllOf}
use Rattle.turnstile.proofs.Views.{entries_append, entries_other}
use Rattle.voice_server.proofs.Adds.{own}
use Rattle.servings.specs.Asked.{is_landing, was_asked, asked_entries, AreBy}

-- what a history gained since the start: these entries of the caller, and landings
pub record Gained (start : List Entry) (by : ℕ) (now mine : List Entry) : Type 0 where
  pub gained : List Entry
  pub grown : now ≡ start ++ gained
  pub asked : asked_entries gained ≡ mine
  pub only : mine ≡ entries_of by gained
  pub each : AreBy by mine

pub none_gained : (start : List Entry) (by : ℕ) → Gained start by start []
none_gained start by = record { gained = []; grown = sym (append-nil start); asked = refl; only = refl; each = tt }

-- they are all that the history has of the caller since the start
pub all_own : (start : List Entry) (by : ℕ) (now mine : List Entry) → Gained start by now mine → IsAllOf start now by mine
all_own start by now mine g =
    ((g.gained, g.grown), g.only ∙ ap (entries_of by) (sym (drop_at start g.gained (length start) refl)) ∙ ap (λ l. entries_of by (drop (length start) l)) (sym g.grown))

each_more : (by : ℕ) (mine : List Entry) (e : Entry) → AreBy by mine → e.caller ≡ by → AreBy by (mine ++ e ∷ [])
each_more by [] e h is = (is, tt)
each_more by (x ∷ xs) e h is = (h.0, each_more by xs e h.1 is)

asked_alone : (e : Entry) → is_landing e.call ≡ false → asked_entries (e ∷ []) ≡ e ∷ []
asked_alone e h = ap (λ b. cond (not b) (e ∷ []) []) h

-- entries that nobody asked for
pub record AreOfNobody (by : ℕ) (between : List Entry) : Type 0 where
  pub asked : asked_entries between ≡ []
  pub only : entries_of by between ≡ []

pub nothing_between : (by : ℕ) → AreOfNobody by []
nothing_between by = record { asked = refl; only = refl }

-- a landing is no caller's
pub landing_between : (by a : ℕ) → 0 < by → AreOfNobody by (landing_at a ∷ [])
landing_between by a pos = record { asked = refl; only = entries_other by (landing_at a) [] (λ is. omega arith) }

gained_asked : (gained between mine : List Entry) (by : ℕ) (e : Entry) → asked_entries gained ≡ mine → AreOfNobody by between → is_landing e.call ≡ false → asked_entries (gained ++ (between ++ e ∷ [])) ≡ mine ++ e ∷ []
gained_asked gained between mine by e asked nobody asks =
    filter-append was_asked gained (between ++ e ∷ []) ∙ ap (λ l. l ++ asked_entries (between ++ e ∷ [])) asked
    ∙ ap (λ l. mine ++ l) (filter-append was_asked between (e ∷ []) ∙ ap (λ l. l ++ asked_entries (e ∷ [])) nobody.asked ∙ asked_alone e asks)

gained_only : (gained between mine : List Entry) (by : ℕ) (e : Entry) → mine ≡ entries_of by gained → AreOfNobody by between → e.caller ≡ by → mine ++ e ∷ [] ≡ entries_of by (gained ++ (between ++ e ∷ []))
gained_only gained between mine by e only nobody is =
    ap (λ l. l ++ e ∷ []) only
    ∙ sym
    (entries_append by gained (between ++ e ∷ [])
    ∙ ap (λ l. entries_of by gained ++ l) (entries_append by between (e ∷ []) ∙ ap (λ l. l ++ entries_of by (e ∷ [])) nobody.only ∙ own by e is))

-- an entry of the caller more, behind entries that nobody asked for
pub one_gained :
    (start : List Entry) (by : ℕ) (was now mine between : List Entry) (e : Entry) → Gained start by was mine → now ≡ (was ++ between) ++ e ∷ [] → AreOfNobody by between → e.caller ≡ by → is_landing e.call ≡ false
    → Gained start by now (mine ++ e ∷ [])
one_gained start by was now mine between e g is nobody caller asks = record {
  gained = g.gained ++ (between ++ e ∷ []);
  grown = is ∙ append_assoc was between (e ∷ []) ∙ ap (λ l. l ++ (between ++ e ∷ [])) g.grown ∙ append_assoc start g.gained (between ++ e ∷ []);
  asked = gained_asked g.gained between mine by e g.asked nobody asks;
  only = gained_only g.gained between mine by e g.only nobody caller;
  each = each_more by mine e g.each caller;
}

-- a landing
one_landed : (start : List Entry) (by a : ℕ) (was now mine : List Entry) → 0 < by → Gained start by was mine → now ≡ was ++ landing_at a ∷ [] → Gained start by now mine
one_landed start by a was now mine pos g is =
    let nobody = landing_between by a pos in
    record {
      gained = g.gained ++ landing_at a ∷ [];
      grown = is ∙ ap (λ l. l ++ landing_at a ∷ []) g.grown ∙ append_assoc start g.gained (landing_at a ∷ []);
      asked = filter-append was_asked g.gained (landing_at a ∷ []) ∙ append-nil (asked_entries g.gained) ∙ g.asked;
      only = g.only ∙ sym (entries_append by g.gained (landing_at a ∷ []) ∙ ap (λ l. entries_of by g.gained ++ l) nobody.only ∙ append-nil (entries_of by g.gained));
      each = g.each;
    }

pub perhaps_landed : (start : List Entry) (by : ℕ) (was now mine : List Entry) → 0 < by → Gained start by was mine → AddsLanding was now → Gained start by now mine
perhaps_landed start by was now mine pos g (inl same) = subst (λ l. Gained start by l mine) (sym same) g
perhaps_landed start by was now mine pos g (inr h) = one_landed start by h.0 was now mine pos g h.1
