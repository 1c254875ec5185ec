-- Appends and switches.
use Rattle.std.proofs.Common.{◌≡◌, ℕ, ◌≤◌, ◌<◌, List, [], ◌∷◌, ◌++◌, map, true, None, is_some, refl, sym, ◌∙◌, subst}
use Rattle.voice_outside.specs.Disk.{Told}
use Rattle.disk_areas.specs.Areas.{Journal}
use Rattle.voice_units.specs.declared.shapes.Shape.{Shape}
use Rattle.voice_journal.specs.Readings.{with_payload, switched, formatted, records_of}
use Rattle.voice_journal.specs.Places.{JournalValue}
use Rattle.voice_model.specs.Samples.{Tagged}
use Rattle.voice_model.specs.State.{State, Effect}
use Rattle.voice_model.specs.Changes.{changed, frame_size, form_after_switch}
use Rattle.voice_model.specs.Step.{state_after, after}
use Rattle.voice_model.specs.Spelling.{spelling}
use Rattle.voice_model.specs.Image.{Replayed, replayed}
use Rattle.voice_model.specs.Replay.{Rebuilt, nothing_rebuilt, brings, acted, recovered}
use Rattle.voice_model.specs.Base.{base_of, in_order}
use Rattle.voice_model.specs.declared.calls.Entry.{Entry}
use Rattle.voice_model.specs.declared.changes.Change.{Change}
use Rattle.voice_model.specs.declared.changes.Change.TheVariants as changes
use Rattle.journal_readings.specs.Readings.{Rebuild}
use Rattle.crash_laws.specs.Standing.{StandsSure, IsLater, IsHeld}
use Rattle.crash_laws.specs.Calls.{Does, Doubts, StaysWithin, IsChange, IsBase, IsCommitted, IsInDoubt}
use Rattle.crash_laws.specs.Foundations.{Foundations}
use Rattle.crash_laws.specs.Laws.{AppendsCarry, SwitchesCarry, IsReadBack}
use Rattle.crash_laws.proofs.Landed.{doubt_kept, appended_form, switched_form}
use Rattle.crash_laws.proofs.Near.{shape_is}
use Rattle.crash_laws.proofs.Changing.{sure, done, doubted}

-- a change that has an effect keeps the form of the area
pub acted_form : (b : Rebuilt) (c : Change) → is_some (brings c) ≡ true → (acted b c).form ≡ b.form
acted_form b (changes.Recorded id len addresses) is = refl
acted_form b (changes.Wide id len addresses) is = refl
acted_form b (changes.Edited id pieces) is = refl
acted_form b (changes.Retained class key id note) is = refl
acted_form b (changes.Forgotten class key) is = refl
acted_form b (changes.Census keys) is = refl
acted_form b (changes.Swept ids) is = refl
acted_form b (changes.Advanced moment) is = refl
acted_form b (changes.Base now next) is = cc
acted_form b (changes.Base2 now next) is = cc
acted_form b (changes.File file pairs) is = cc
acted_form b (changes.File2 file pairs) is = cc
acted_form b (changes.Rope id idle pieces) is = cc
acted_form b (changes.Rope2 id idle last pieces) is = cc

-- what an area rebuilds does not depend on where it stands
in_any_area : (r : Journal) (shape : Shape) → r.shape ≡ shape → (ps : List (List ℕ)) (end : Rebuilt) → Rebuild (switched r ps) end → Rebuild (switched (formatted shape) ps) end
in_any_area r shape is ps end rebuilds = subst (λ (x : Shape). replayed (nothing_rebuilt x) (records_of 16 ps) ≡ Replayed.All end) is rebuilds

module _ (laws : Foundations) (old new : Told) (first : State) (tapes : List (List ℕ)) (t0 : ℕ) (journal journal' : JournalValue) (b after' : Rebuilt) (history : List Entry) (effect : Effect Tagged) (e : Entry)
    (is : IsLater old new) (held : IsHeld first tapes t0 journal old b after' history) (none : (after first tapes history).doubt ≡ None) (ack : e.ack ≡ new.calls) where
  abbrev last : State
  last = after first tapes history

  abbrev next : State
  next = state_after last tapes e

  abbrev u : StandsSure journal old b last
  u = sure laws first tapes t0 journal journal' old new b after' history e is held none ack

  abbrev r : Journal
  r = (u).reading

  module _ (payload : List ℕ) (c : Change) (change : IsChange old.bytes last effect b payload c) (stays : StaysWithin (λ r. with_payload r payload) journal old new) where
    rebuilds_more : Rebuild (with_payload r payload) (acted b c)
    rebuilds_more = laws.more.append r b payload c (u).gives.rebuilds change.spelled change.brings_it change.legal

    form_more : (acted b c).form ≡ last.form
    form_more = acted_form b c change.brings_it ∙ (u).gives.form

    appended : Does (λ r. with_payload r payload) journal journal' old new → IsCommitted last effect last.form next → IsHeld first tapes t0 journal' new (acted b c) (acted b c) (history ++ e ∷ [])
    appended does now =
        done laws first tapes t0 journal journal' old new b after' history e is held none ack (with_payload r payload) (acted b c) (changed last.form last.kept effect) rebuilds_more refl change.does
        (stays r (u).stands) (does r (u).stands).1 (does r (u).stands).0 now.kept now.doubt (form_more ∙ sym now.form)

    append_doubted : Doubts (λ r. with_payload r payload) journal journal' old new → frame_size last.form last.shape.block effect ≤ last.left → IsInDoubt last effect next
        → IsHeld first tapes t0 journal' new b (acted b c) (history ++ e ∷ [])
    append_doubted doubts fits now =
        doubted laws first tapes t0 journal journal' old new b after' history e is held none ack (with_payload r payload) (acted b c) (changed last.form last.kept effect) rebuilds_more refl change.does
        (stays r (u).stands) (doubts r (u).stands).1 (record { effect = effect; form = last.form }) (doubts r (u).stands).0 now.kept now.form now.doubt
        (doubt_kept last effect next now) (form_more ∙ sym (appended_form last effect next now fits))

  module _ (to : ℕ) (payloads : List (List ℕ)) (x : Rebuilt) (base : IsBase old.bytes last effect b to payloads x) (stays : StaysWithin (λ r. switched r payloads) journal old new) where
    abbrev Reached : Type 0
    Reached =
        (end : Rebuilt) × Rebuild (switched r (map spelling (base_of to x))) end × (end.kept ≡ x.kept) × (end.form ≡ to) × (end.places ≡ in_order x.places) × ((image : List ℕ) → recovered image end ≡ recovered image x)

    reached : Reached
    reached = laws.base.switch r to x base.valid base.placed base.used base.can (base.in_shape ∙ shape_is laws r b (u).gives.rebuilds)

    in_shape_of : x.shape ≡ r.shape
    in_shape_of = base.in_shape ∙ shape_is laws r b (u).gives.rebuilds

    rebuilds_base : Rebuild (switched r payloads) (reached).0
    rebuilds_base = subst (λ (ps : List (List ℕ)). Rebuild (switched r ps) (reached).0) (sym base.spelled) (reached).1

    fills_base : recovered old.bytes (reached).0 ≡ changed last.form last.kept effect
    fills_base = (reached).5 old.bytes ∙ base.does

    read_back : IsReadBack to x (reached).0
    read_back = record { rebuilds = in_any_area r x.shape (sym in_shape_of) (map spelling (base_of to x)) (reached).0 (reached).1; kept = (reached).2; places = (reached).4; form = (reached).3 }

    switched_over : Does (λ r. switched r payloads) journal journal' old new → IsCommitted last effect to next
        → (end : Rebuilt) × IsReadBack to x end × IsHeld first tapes t0 journal' new end end (history ++ e ∷ [])
    switched_over does now = (
      (reached).0,
      read_back,
      done laws first tapes t0 journal journal' old new b after' history e is held none ack (switched r payloads) (reached).0 (changed last.form last.kept effect) rebuilds_base refl fills_base
          (stays r (u).stands) (does r (u).stands).1 (does r (u).stands).0 now.kept now.doubt ((reached).3 ∙ sym now.form),
    )

    switch_doubted : Doubts (λ r. switched r payloads) journal journal' old new → last.left < frame_size last.form last.shape.block effect → to ≡ form_after_switch last.form (changed last.form last.kept effect) → IsInDoubt last effect next
        → (end : Rebuilt) × IsReadBack to x end × IsHeld first tapes t0 journal' new b end (history ++ e ∷ [])
    switch_doubted doubts long goes now = (
      (reached).0,
      read_back,
      doubted laws first tapes t0 journal journal' old new b after' history e is held none ack (switched r payloads) (reached).0 (changed last.form last.kept effect) rebuilds_base refl fills_base
          (stays r (u).stands) (doubts r (u).stands).1 (record { effect = effect; form = last.form }) (doubts r (u).stands).0 now.kept now.form now.doubt
          (doubt_kept last effect next now) ((reached).3 ∙ goes ∙ sym (switched_form last effect next now long)),
    )

pub appends_carry : Foundations → (old new : Told) → AppendsCarry old new
appends_carry laws old new = record {
  ok = λ first tapes t0 journal journal' b after' history effect payload c e is held none change does stays ack now.
      appended laws old new first tapes t0 journal journal' b after' history effect e is held none ack payload c change stays does now;
  doubt = λ first tapes t0 journal journal' b after' history effect payload c e is held none change doubts stays ack now.
      append_doubted laws old new first tapes t0 journal journal' b after' history effect e is held none ack payload c change stays doubts now.0 now.1;
}

pub switches_carry : Foundations → (old new : Told) → SwitchesCarry old new
switches_carry laws old new = record {
  ok = λ first tapes t0 journal journal' b after' history effect to payloads x e is held none base does stays ack now.
      switched_over laws old new first tapes t0 journal journal' b after' history effect e is held none ack to payloads x base stays does now;
  doubt = λ first tapes t0 journal journal' b after' history effect to payloads x e is held none base doubts stays ack now.
      switch_doubted laws old new first tapes t0 journal journal' b after' history effect e is held none ack to payloads x base stays doubts now.0 now.1 now.2;
}
