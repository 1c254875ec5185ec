-- Appends and switches.
use Rattle.std.proofs.Common.{◌≡◌, ℕ, ◌+◌, ◌^◌, ◌≤◌, ◌<◌, List, [], ◌∷◌, ◌++◌, length, map, Some, None, refl, sym, ◌∙◌, subst, arith}
use Rattle.voice_units.specs.declared.shapes.Shape.{Shape}
use Rattle.voice_outside.specs.Disk.{Told}
use Rattle.disk_areas.specs.Areas.{Journal}
use Rattle.voice_journal.specs.Readings.{with_payload, switched, formatted}
use Rattle.voice_journal.specs.Places.{JournalValue}
use Rattle.voice_model.specs.Samples.{Tagged}
use Rattle.voice_model.specs.State.{Durable, Effect}
use Rattle.voice_model.specs.Changes.{changed}
use Rattle.voice_model.specs.Spelling.{spelling}
use Rattle.voice_model.specs.Replay.{Rebuilt, acted, recovered}
use Rattle.voice_model.specs.Base.{base_of, in_order}
use Rattle.voice_model.specs.declared.changes.Change.{Change}
use Rattle.mirror_readings.specs.Readings.{NumberedRebuild}
use Rattle.mirror_readings.specs.Laws.{numbered_payload}
use Rattle.crash_laws.specs.Standing.{IsLater}
use Rattle.crash_laws.specs.Calls.{Does, Doubts, StaysWithin}
use Rattle.crash_laws.proofs.Commits.{acted_form}
use Rattle.mirror_laws.specs.Standing.{Took, taken_at, kept_after, effects_of, StandsSure, IsHeld}
use Rattle.mirror_laws.specs.Calls.{IsChange, IsBase}
use Rattle.mirror_laws.specs.Foundations.{MirrorFoundations}
use Rattle.mirror_laws.specs.Laws.{AppendsCarry, SwitchesCarry, IsReadBack}
use Rattle.mirror_laws.proofs.Near.{shape_is}
use Rattle.mirror_laws.proofs.Changing.{sure, done, doubted}

-- what an area rebuilds does not depend on where it stands
in_any_area : (r : Journal) (shape : Shape) → r.shape ≡ shape → (ps : List (List ℕ)) (end : Rebuilt) (n : ℕ) → NumberedRebuild (switched r ps) end n → NumberedRebuild (switched (formatted shape) ps) end n
in_any_area r shape is ps end n rebuilds = subst (λ (x : Shape). NumberedRebuild (switched (formatted x) ps) end n) is rebuilds

-- the next number of a position below 2^48 has room in 8 bytes
in_bytes : (n : ℕ) → n < 2 ^ 48 → n + 1 < 2 ^ 64
in_bytes n low = omega (arith, low)

in_bases : (n : ℕ) → n < 2 ^ 48 → n + 1 ≤ 2 ^ 48
in_bases n low = omega (arith, low)

module _ (laws : MirrorFoundations) (old new : Told) (first : Durable Tagged) (from t0 : ℕ) (journal journal' : JournalValue) (b after' : Rebuilt) (taken : List Took) (effect : Effect Tagged)
    (is : IsLater old new) (held : IsHeld first from t0 journal old b after' taken None) (low : from + length taken < 2 ^ 48) where
  abbrev n : ℕ
  n = from + length taken

  abbrev d : Durable Tagged
  d = kept_after first (effects_of taken)

  abbrev u : StandsSure journal old b n d
  u = sure laws first from t0 journal journal' old new b after' taken is held

  abbrev r : Journal
  r = (u).reading

  abbrev longer : List Took
  longer = taken ++ taken_at effect new.calls ∷ []

  module _ (payload : List ℕ) (c : Change) (change : IsChange old.bytes d effect b payload c) (stays : StaysWithin (λ r. with_payload r (numbered_payload (n + 1) payload)) journal old new) where
    abbrev next : Journal
    next = with_payload r (numbered_payload (n + 1) payload)

    rebuilds_more : NumberedRebuild next (acted b c) (n + 1)
    rebuilds_more = laws.more.append r b n payload c (u).gives.rebuilds change.spelled change.brings_it change.legal (in_bytes n low)

    form_more : (acted b c).form ≡ 2
    form_more = acted_form b c change.brings_it ∙ (u).gives.form

    appended : Does (λ r. with_payload r (numbered_payload (n + 1) payload)) journal journal' old new → IsHeld first from t0 journal' new (acted b c) (acted b c) longer None
    appended does =
        done laws first from t0 journal journal' old new b after' taken is held effect next (acted b c) form_more rebuilds_more refl change.does
        (stays r (u).stands) (does r (u).stands).1 (does r (u).stands).0

    append_doubted : Doubts (λ r. with_payload r (numbered_payload (n + 1) payload)) journal journal' old new → IsHeld first from t0 journal' new b (acted b c) taken (Some effect)
    append_doubted doubts =
        doubted laws first from t0 journal journal' old new b after' taken is held effect next (acted b c) form_more rebuilds_more refl change.does
        (stays r (u).stands) (doubts r (u).stands).1 (doubts r (u).stands).0

  module _ (payloads : List (List ℕ)) (x : Rebuilt) (base : IsBase old.bytes d effect b (n + 1) payloads x) (stays : StaysWithin (λ r. switched r payloads) journal old new) where
    abbrev plain : List (List ℕ)
    plain = map (numbered_payload (n + 1)) (map spelling (base_of 2 x))

    abbrev Reached : Type 0
    Reached = (end : Rebuilt) × NumberedRebuild (switched r plain) end (n + 1) × (end.kept ≡ x.kept) × (end.form ≡ 2) × (end.places ≡ in_order x.places) × ((image : List ℕ) → recovered image end ≡ recovered image x)

    in_shape : x.shape ≡ r.shape
    in_shape = base.in_shape ∙ shape_is laws r b n (u).gives.rebuilds

    reached : Reached
    reached = laws.base.switch r x (n + 1) base.valid base.placed base.used base.can in_shape (in_bases n low)

    rebuilds_base : NumberedRebuild (switched r payloads) (reached).0 (n + 1)
    rebuilds_base = subst (λ (ps : List (List ℕ)). NumberedRebuild (switched r ps) (reached).0 (n + 1)) (sym base.spelled) (reached).1

    fills_base : recovered old.bytes (reached).0 ≡ changed 2 d effect
    fills_base = (reached).5 old.bytes ∙ base.does

    read_back : IsReadBack (n + 1) x (reached).0
    read_back = record { rebuilds = in_any_area r x.shape (sym in_shape) plain (reached).0 (n + 1) (reached).1; kept = (reached).2; places = (reached).4; form = (reached).3 }

    switched_over : Does (λ r. switched r payloads) journal journal' old new → (end : Rebuilt) × IsReadBack (n + 1) x end × IsHeld first from t0 journal' new end end longer None
    switched_over does = (
      (reached).0,
      read_back,
      done laws first from t0 journal journal' old new b after' taken is held effect (switched r payloads) (reached).0 (reached).3 rebuilds_base refl fills_base
          (stays r (u).stands) (does r (u).stands).1 (does r (u).stands).0,
    )

    switch_doubted : Doubts (λ r. switched r payloads) journal journal' old new → (end : Rebuilt) × IsReadBack (n + 1) x end × IsHeld first from t0 journal' new b end taken (Some effect)
    switch_doubted doubts = (
      (reached).0,
      read_back,
      doubted laws first from t0 journal journal' old new b after' taken is held effect (switched r payloads) (reached).0 (reached).3 rebuilds_base refl fills_base
          (stays r (u).stands) (doubts r (u).stands).1 (doubts r (u).stands).0,
    )

pub appends_carry : MirrorFoundations → (old new : Told) → AppendsCarry old new
appends_carry laws old new = record {
  ok = λ first from t0 journal journal' b after' taken effect payload c is held low change does stays. appended laws old new first from t0 journal journal' b after' taken effect is held low payload c change stays does;
  doubt = λ first from t0 journal journal' b after' taken effect payload c is held low change doubts stays. append_doubted laws old new first from t0 journal journal' b after' taken effect is held low payload c change stays doubts;
}

pub switches_carry : MirrorFoundations → (old new : Told) → SwitchesCarry old new
switches_carry laws old new = record {
  ok = λ first from t0 journal journal' b after' taken effect payloads x is held low base does stays. switched_over laws old new first from t0 journal journal' b after' taken effect is held low payloads x base stays does;
  doubt = λ first from t0 journal journal' b after' taken effect payloads x is held low base doubts stays. switch_doubted laws old new first from t0 journal journal' b after' taken effect is held low payloads x base stays doubts;
}
