-- The tables show what is rebuilt after the change.
use Rattle.std.proofs.Common.{◌≡◌, ℕ, true, [], length, Some, refl, sym, ◌∙◌, ap, subst}
use Rattle.voice_units.specs.Spots.{Spot}
use Rattle.voice_model.specs.State.{Durable, Effect}
use Rattle.voice_model.specs.State.Effect.{Retained, Forgotten, Counted, Swept, Advanced}
use Rattle.voice_model.specs.Changes.{changed}
use Rattle.voice_model.specs.Replay.{Rebuilt, brings, is_legal, acted, after_effect}
use Rattle.voice_model.specs.declared.changes.Change.{Change}
use Rattle.recovery.specs.declared.parts.Parts.{Parts}
use Rattle.recovery.specs.Shown.{Rebuilds, Shows}
use Rattle.recovery.specs.Placing.{in_use}
use Rattle.recovery.proofs.Rebuilding.{rebuilds_after}
use Rattle.recovery.proofs.PlacesFreed.{all_in_use, places_used, places_left}
use Rattle.ready_changes.specs.Ready.{Does, IsReady, after, AllInUse, FreesUnused}
use Rattle.ready_changes.specs.declared.Act.{Act}
use Rattle.ready_changes.specs.declared.Act.TheVariants as acts
use Rattle.ready_changes.specs.declared.ReadyChange.{ReadyChange}

-- a change that brings this effect and no places
pub record Brings (d : Durable Spot) (c : Change) : Type 0 where
  pub effect : Effect Spot
  pub same : (form : ℕ) → after form d (brings c) ≡ changed form d effect
  pub acts : (r : Rebuilt) → acted r c ≡ after_effect r [] (Some effect)

pub brought : (spare : ℕ) (d : Durable Spot) (act : Act) (c : Change) → Does spare d act c → Brings d c
brought spare d (acts.Retain row) c does = subst (Brings d) (sym does.is) (record { effect = Retained row; same = λ form. refl; acts = λ r. refl })
brought spare d (acts.Forget class key) c does = subst (Brings d) (sym does) (record { effect = Forgotten class key; same = λ form. refl; acts = λ r. refl })
brought spare d (acts.Count going) c does = subst (Brings d) (sym does.is) (record { effect = Counted does.keys; same = λ form. refl; acts = λ r. refl })
brought spare d (acts.Sweep going ids) c does = subst (Brings d) (sym does.is) (record { effect = Swept ids; same = λ form. refl; acts = λ r. refl })
brought spare d (acts.Advance moment) c does = subst (Brings d) (sym does) (record { effect = Advanced moment; same = λ form. refl; acts = λ r. refl })

-- nothing is held, and each address is that of a used block
all_used : (parts : Parts) (r : Rebuilt) → Rebuilds parts r → AllInUse parts
all_used parts r h a =
    ap (in_use parts.ropes) (h.places.each a)
    ∙ all_in_use parts.ropes r.places a (places_used r.kept parts.ropes parts.interests.rows parts.moment parts.next r.places h.kept h.used)
    ∙ sym (h.places.each a)

pub rebuilds_next : (spare : ℕ) (old new : Parts) (r : Rebuilt) (c : Change) (ready : ReadyChange) → Rebuilds old r → is_legal r c ≡ true → IsReady spare r.kept ready c
    → Shows [] new (after old.form r.kept (brings c)) → (AllInUse old → FreesUnused old new) → length new.blocks.holders ≡ length old.blocks.holders → new.form ≡ old.form → Rebuilds new (acted r c)
rebuilds_next spare old new r c ready h legal is shows frees size form =
    let b = brought spare r.kept ready.act c is.does in
    let d = changed r.form r.kept b.effect in
    let shown : Shows [] new d = subst (λ f. Shows [] new (changed f r.kept b.effect)) h.in_form (subst (Shows [] new) (b.same old.form) shows) in
    rebuilds_after old new r c [] b.effect h legal is.grammar (b.acts r) shown form
    (record {
      size = size ∙ h.places.size;
      each = λ a. frees (all_used old r h) a ∙ ap (in_use new.ropes) (h.places.each a) ∙ places_left d new.ropes new.interests.rows new.moment new.next r.places a shown h.placed.differ;
    })
