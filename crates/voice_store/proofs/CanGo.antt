-- A plan's bytes fit where they go.
use Rattle.std.proofs.Common.{◌≡◌, ◌≢◌, ◌⊎◌, inl, inr, ℕ, ◌+◌, ◌-◌, ◌≤◌, ◌<◌, ◌^◌, ◌==◌, ◌||◌, Bool, true, false, cond, length, refl, sym, ◌∙◌, ap, subst, arith, eq-eqb}
use Rattle.std.specs.Prelude.{nat_le}
use Rattle.std.proofs.lemmas.Bool.{leb-true, eqb-true}
use Rattle.voice_outside.specs.Disk.{Told}
use Rattle.voice_journal.specs.Readings.{framed_size}
use Rattle.voice_model.specs.Samples.{Tagged}
use Rattle.voice_model.specs.State.{State, Effect}
use Rattle.voice_model.specs.Changes.{base_size, changed}
use Rattle.voice_model.specs.Replay.{Rebuilt, acted}
use Rattle.voice_model.specs.Base.{base_of}
use Rattle.voice_model.specs.Base as changes
use Rattle.voice_model.specs.Places.{AllUsed}
use Rattle.voice_model.specs.declared.calls.Call.{Call}
use Rattle.voice_model.specs.declared.calls.Reply.{Reply}
use Rattle.voice_model.specs.declared.changes.Change.{Change}
use Rattle.voice_model.proofs.PlacesKept.{placed_next}
use Rattle.voice_model.proofs.BaseSize.{base_sized}
use Rattle.fillings.proofs.Acted.{used_acted}
use Rattle.crash_laws.proofs.Commits.{acted_form}
use Rattle.voice_store.specs.declared.going.Going.{Going}
use Rattle.voice_store.specs.Going.{payload_in}
use Rattle.voice_store.proofs.OnItsWay.{IsOnItsWay, on_its_way}
use Rattle.voice_store.specs.declared.inside.Inside.{Inside}
use Rattle.voice_store.specs.declared.committing.Base.{Base}
use Rattle.voice_store.specs.declared.committing.Plan.{Plan}
use Rattle.voice_store.specs.declared.committing.Plan.TheVariants as plans
use Rattle.voice_store.specs.Stood.{last_of}
use Rattle.voice_store.specs.Ways.{FitsBehind, FitsOther}
use Rattle.voice_store.specs.Trying.{Trying, IsPlan, IsBaseOf, CanGo, form_taken}
use Rattle.voice_store.proofs.Refused.{wrong}

module _ (first : State) (t0 : ℕ) (disk : Told) (s : Inside) (b : Rebuilt) (going : Going) (c : Change) (effect : Effect Tagged) (caller : ℕ) (call : Call) (reply : Reply)
    (h : Trying first t0 disk s b going c effect caller call reply) (most : s.journal.seat.epoch ≤ 2 ^ 48) where
  abbrev last : State
  last = last_of first s

  abbrev r : Rebuilt
  r = acted b c

  abbrev most_bytes : ℕ
  most_bytes = s.journal.shape.area - 17

  can_append : FitsBehind last effect → s.journal.seat.gate + 5 + length (payload_in going) < s.journal.shape.area
  can_append behind =
      let fits = behind.fits in
      let left = h.upright.seated.left in
      let size = h.frame in
      omega (arith, fits, left, size)

  abbrev gives : IsOnItsWay h.held h.takings s.parts b going c
  gives = on_its_way h.held h.takings h.more s.parts b going c h.ready

  sized : (form : ℕ) → changes.framed_size (base_of form r) ≡ base_size form (changed last.form last.kept effect)
  sized form =
      base_sized h.fill h.brings_it.spots form r (placed_next b c gives.runs.placed gives.legal gives.grammar) (subst (λ x. AllUsed (acted b x)) (sym h.change) (used_acted b b.form h.addresses effect))
      ∙ ap (base_size form) h.brings_it.kept

  same_form : r.form ≡ last.form
  same_form = acted_form b c gives.kind ∙ h.upright.fills.form

  some_bytes : (form : ℕ) → 1 ≤ changes.framed_size (base_of form r)
  some_bytes form = omega arith

  -- a base of the form of the area fits
  fits_same : FitsOther last effect → (form : ℕ) → last.form ≡ form → changes.framed_size (base_of form r) ≤ most_bytes
  fits_same other form is =
      let base : base_size last.form (changed last.form last.kept effect) ≤ most_bytes = subst (λ x. base_size last.form (changed last.form last.kept effect) ≤ x) (ap (λ shape. shape.area - 17) h.upright.seated.shape) other.base in
      let size = sized form ∙ ap (λ f. base_size f (changed last.form last.kept effect)) (sym is) in
      omega (arith, base, size)

  taken : FitsOther last effect → (x y : Bool) → (r.form == 2) ≡ x → nat_le (changes.framed_size (base_of 2 r)) most_bytes ≡ y → changes.framed_size (base_of (cond (x || y) 2 1) r) ≤ most_bytes
  taken other true y two fits = fits_same other 2 (sym same_form ∙ eqb-true r.form 2 two)
  taken other false true two fits = leb-true (changes.framed_size (base_of 2 r)) most_bytes fits
  taken other false false two fits = by h.upright.valid.forms
    where
      by : (last.form ≡ 1) ⊎ (last.form ≡ 2) → changes.framed_size (base_of 1 r) ≤ most_bytes
      by (inl one) = fits_same other 1 one
      by (inr is) = absurd (wrong (sym two ∙ eq-eqb r.form 2 (same_form ∙ is)))

  can_switch : (base : Base) → FitsOther last effect → IsBaseOf s.journal.shape r base → (framed_size base.payloads + 17 ≤ s.journal.shape.area) × (s.journal.seat.epoch < 2 ^ 48)
  can_switch base other is =
      let small = taken other (r.form == 2) (nat_le (changes.framed_size (base_of 2 r)) most_bytes) refl refl in
      let size : framed_size base.payloads ≡ changes.framed_size (base_of (form_taken s.journal.shape r) r) = is.size ∙ ap (λ f. changes.framed_size (base_of f r)) is.form in
      let some = some_bytes (form_taken s.journal.shape r) in
      (omega (arith, small, size, some), below s.journal.seat.epoch (2 ^ 48) most (λ e. other.epoch (h.upright.seated.epoch ∙ e)))
    where
      below : (x y : ℕ) → x ≤ y → x ≢ y → x < y
      below x y le ne = grind (arith, le, ne)

  pub can_go : (plan : Plan) → IsPlan s.journal last effect r plan → CanGo s.journal going plan
  can_go plans.Append is = can_append is
  can_go (plans.Switch base) is = can_switch base is.0 is.1
