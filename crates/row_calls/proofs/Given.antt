-- What the tables show of the state that what was rebuilt gives.
use Rattle.std.proofs.Common.{◌≡◌, inl, inr, ℕ, ◌==◌, Bool, true, false, List, [], ◌∷◌, map, Option, refl, sym, ◌∙◌, ap, subst, arith}
use Rattle.std.proofs.lemmas.Bool.{eqb-true, eqb-false}
use Rattle.voice_units.specs.declared.pieces.Piece.{Piece}
use Rattle.voice_units.specs.Spots.{Spot}
use Rattle.voice_units.specs.declared.shapes.Graces.{Graces}
use Rattle.voice_units.specs.declared.shapes.Shape.{Shape}
use Rattle.voice_units.specs.Layout.{IsOneGrace}
use Rattle.voice_model.specs.Samples.{Tagged, spot_of}
use Rattle.voice_model.specs.State.{State, Durable, Live, is_live, opened}
use Rattle.voice_model.specs.Replay.{Rebuilt, durable_by, live_by}
use Rattle.voice_model.specs.Spelling.{is_key}
use Rattle.voice_model.specs.Valid.{Every, Once, IsRow, IsRebuilt}
use Rattle.voice_model.specs.declared.calls.Row.{Row}
use Rattle.voice_model.specs.declared.calls.Call.TheVariants as calls
use Rattle.voice_model.specs.Changes.{effect_of}
use Rattle.voice_model.proofs.KeptByChanges.{every-imply}
use Rattle.voice_model.proofs.LegalInReplay.{live_filled}
use Rattle.recovery.specs.declared.parts.Parts.{Parts}
use Rattle.recovery.specs.Shown.{Shows, IsOrderly, plain_sample}
use Rattle.recovery.proofs.Rebuilding.{orderly_rebuilt}
use Rattle.edits.specs.Shown.{ShowsState}
use Rattle.collector.specs.Due.{AreEqual}
use Rattle.ready_changes.specs.Ready.{HasGraces, MayBeReady, sweep_change, change_for}
use Rattle.ready_changes.specs.Laws.{ChangesOfCalls}
use Rattle.ready_changes.specs.declared.ReadyChange.{ReadyChange}
use Rattle.row_calls.specs.Asked.{Gives, Tells}

spots_again : (fill : Spot → Tagged) → ((x : Spot) → spot_of (fill x) ≡ x) → (ss : List Spot) → map spot_of (map fill ss) ≡ ss
spots_again fill same [] = refl
spots_again fill same (s ∷ ss) = ap (λ x. x ∷ map spot_of (map fill ss)) (same s) ∙ ap (λ l. s ∷ l) (spots_again fill same ss)

ropes_again : (fill : Spot → Tagged) → ((x : Spot) → spot_of (fill x) ≡ x) → (ropes : List (Live Spot)) → map (live_by spot_of) (map (live_by fill) ropes) ≡ ropes
ropes_again fill same [] = refl
ropes_again fill same (r ∷ rs) =
    ap (λ (l : List Spot). record r { samples = l } ∷ map (live_by spot_of) (map (live_by fill) rs)) (spots_again fill same r.samples) ∙ ap (λ l. r ∷ l) (ropes_again fill same rs)

kept_again : (fill : Spot → Tagged) → ((x : Spot) → spot_of (fill x) ≡ x) → (d : Durable Spot) → durable_by spot_of (durable_by fill d) ≡ d
kept_again fill same d = ap (λ (l : List (Live Spot)). record d { ropes = l }) (ropes_again fill same d.ropes)

module _ (held : List (List Piece)) (fill : Spot → Tagged) (parts : Parts) (b : Rebuilt) (s : State) (g : Gives held fill parts b s) where
  pub state_shown : ShowsState held parts s
  state_shown = subst (λ d. Shows held parts d) (sym (kept_again fill g.spots b.kept) ∙ ap (durable_by spot_of) g.kept) g.shows.kept

  pub same_rows : b.kept.rows ≡ s.rows
  same_rows = ap (λ (d : Durable Tagged). d.rows) g.kept

  pub rows_shown : parts.interests.rows ≡ s.rows
  rows_shown = g.shows.kept.rows ∙ same_rows

  pub moment_shown : parts.moment ≡ s.moment
  moment_shown = g.shows.kept.moment ∙ ap (λ (d : Durable Tagged). d.moment) g.kept

  pub live_here : (id : ℕ) → is_live s.ropes id ≡ true → is_live b.kept.ropes id ≡ true
  live_here id e = sym (live_filled fill g.spots b.kept.ropes id) ∙ ap (λ (d : Durable Tagged). is_live d.ropes id) g.kept ∙ e

-- a state of what was rebuilt, with plain samples
abbrev pub state_of : Rebuilt → State
state_of b = opened (durable_by plain_sample b.kept) 0 1 b.form

pub rebuilt_shown : (held : List (List Piece)) (parts : Parts) (b : Rebuilt) → Tells held parts b → ShowsState held parts (state_of b)
rebuilt_shown held parts b h = subst (λ d. Shows held parts d) (sym (kept_again plain_sample (λ x. refl) b.kept)) h.kept

-- ---- rows of what was rebuilt

pub rebuilt_keys : (held : List (List Piece)) (parts : Parts) (b : Rebuilt) → Tells held parts b → Every (λ row. is_key row.key ≡ true) parts.interests.rows
rebuilt_keys held parts b h =
    subst (λ rows. Every (λ (row : Row). is_key row.key ≡ true) rows) (sym h.kept.rows)
    (every-imply (IsRow (map (live_by plain_sample) b.kept.ropes)) (λ (row : Row). is_key row.key ≡ true) (λ row k. k.key) b.kept.rows h.valid.kept.each_row)

pub rebuilt_once : (held : List (List Piece)) (parts : Parts) (b : Rebuilt) → Tells held parts b → Once parts.interests.rows
rebuilt_once held parts b h = subst Once (sym h.kept.rows) h.valid.kept.once

pub orderly_told : (held : List (List Piece)) (parts : Parts) (b : Rebuilt) → Tells held parts b → IsOrderly parts.form b.kept
orderly_told held parts b h = subst (λ form. IsOrderly form b.kept) (sym h.in_form) (orderly_rebuilt b h.valid)

-- ---- graces

equal : (graces : Graces) → IsOneGrace graces → AreEqual graces
equal graces h = record { held = h.held ∙ sym h.until; listed = h.listed ∙ sym h.until; common = sym h.until }

-- version 2 is in form 2, and version 1 has one grace alone
pub has_graces : (b : Rebuilt) → IsRebuilt plain_sample b → HasGraces b.form b.kept
has_graces b h = by (b.kept.shape.version == 2) refl
  where
    by : (t : Bool) → (b.kept.shape.version == 2) ≡ t → HasGraces b.form b.kept
    by true e = inl (h.newest (eqb-true b.kept.shape.version 2 e))
    by false e =
        let shape : Shape = b.kept.shape in
        let least = shape.conditions.some_version in
        let most = shape.conditions.version_limit in
        let other = eqb-false shape.version 2 e in
        inr (equal shape.graces (shape.conditions.one_grace (omega (arith, least, most, other))))

-- ---- a sweep

module _ (held : List (List Piece)) (fill : Spot → Tagged) (parts : Parts) (b : Rebuilt) (s : State) (g : Gives held fill parts b s) where
  pub graces_same : b.kept.shape.graces ≡ s.shape.graces
  graces_same = ap (λ (d : Durable Tagged). d.shape.graces) g.kept

  -- what is ready of a sweep of what was rebuilt is ready of that of the state
  pub sweep_made : (tapes : List (List ℕ)) (limit spare : ℕ) (ready : Option ReadyChange) → ChangesOfCalls → MayBeReady spare b.kept ready (sweep_change b.form b.kept limit) → MayBeReady spare b.kept ready (change_for (effect_of s tapes (calls.Sweep limit)))
  sweep_made tapes limit spare ready laws h =
      subst (MayBeReady spare b.kept ready) (sym (laws.sweep s tapes limit fill b.kept g.kept))
      (subst (λ (form : ℕ). MayBeReady spare b.kept ready (sweep_change form b.kept limit)) g.form h)

pub parts_graces : (held : List (List Piece)) (parts : Parts) (b : Rebuilt) → Tells held parts b → HasGraces parts.form b.kept
parts_graces held parts b h = subst (λ (form : ℕ). HasGraces form b.kept) (sym h.in_form) (has_graces b h.valid)
