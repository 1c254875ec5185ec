-- What a sender follows first.
use Rattle.std.proofs.Common.{◌≡◌, ◌⊎◌, inl, inr, ℕ, ◌+◌, ◌≤◌, ◌==◌, Bool, true, false, List, [], ◌∷◌, map, length, Option, Some, None, refl, sym, ◌∙◌, ap, subst, arith}
use Rattle.std.specs.Prelude.{unwrap_or}
use Rattle.std.proofs.lemmas.Bool.{eqb-true, eqb-false}
use Rattle.voice_units.specs.declared.pieces.Piece.{Piece}
use Rattle.voice_units.specs.declared.shapes.Shape.{Shape}
use Rattle.voice_units.specs.Layout.{IsOneGrace}
use Rattle.voice_units.specs.Spots.{Spot}
use Rattle.voice_model.specs.Samples.{Tagged, spot_of}
use Rattle.voice_model.specs.State.{State, Durable, Live, LaneState, lane_at, quiet_lane}
use Rattle.voice_model.specs.Changes.{taking_of}
use Rattle.voice_model.specs.Replay.{Rebuilt, live_by, durable_by}
use Rattle.voice_model.specs.Valid.{Every, IsKept, IsState}
use Rattle.voice_model.proofs.FitsOfCalls.{every_at}
use Rattle.recovery.specs.declared.parts.Parts.{Parts}
use Rattle.recovery.specs.Shown.{Shows, plain_sample}
use Rattle.row_calls.specs.Asked.{Tells}
use Rattle.mirror_sender.specs.declared.sender.Sender.{Sender}
use Rattle.mirror_sender.specs.Told.{IsTold, IsLike, plainly}
use Rattle.mirror_sender.specs.Abreast.{IsSoundBy, IsAbreastBy, Starts}

spots_again : (ss : List Spot) → map spot_of (map plain_sample ss) ≡ ss
spots_again [] = refl
spots_again (s ∷ ss) = ap (λ l. s ∷ l) (spots_again ss)

ropes_again : (ropes : List (Live Spot)) → map (live_by spot_of) (map (live_by plain_sample) ropes) ≡ ropes
ropes_again [] = refl
ropes_again (r ∷ rs) = ap (λ (l : List Spot). record r { samples = l } ∷ map (live_by spot_of) (map (live_by plain_sample) rs)) (spots_again r.samples) ∙ ap (λ l. r ∷ l) (ropes_again rs)

kept_again : (d : Durable Spot) → durable_by spot_of (durable_by plain_sample d) ≡ d
kept_again d = ap (λ (l : List (Live Spot)). record d { ropes = l }) (ropes_again d.ropes)

-- the tables tell what was rebuilt, with plain samples
pub told_rebuilt : (parts : Parts) (b : Rebuilt) → Tells [] parts b → IsTold (durable_by plain_sample b.kept) parts
told_rebuilt parts b h = record {
  shows = subst (λ d. Shows [] parts d) (sym (kept_again b.kept)) h.kept;
  valid = subst (λ f. IsKept f (durable_by plain_sample b.kept)) (sym h.in_form) h.valid.kept;
  forms = subst (λ (f : ℕ). (f ≡ 1) ⊎ (f ≡ 2)) (sym h.in_form) h.valid.forms;
  newest = λ two. h.in_form ∙ h.valid.newest two;
}

-- of version 2 the form is 2, and of version 1 there is one grace alone
like_itself : (ours : ℕ) (form : ℕ) (d : Durable Tagged) → ours ≡ form → (d.shape.version ≡ 2 → form ≡ 2) → IsLike ours d form d
like_itself ours form d same newest = by (d.shape.version == 2) refl
  where
    by : (t : Bool) → (d.shape.version == 2) ≡ t → IsLike ours d form d
    by true e = inl (record { kept = refl; forms = same; newer = newest (eqb-true d.shape.version 2 e) })
    by false e =
        let shape : Shape = d.shape in
        let least = shape.conditions.some_version in
        let most = shape.conditions.version_limit in
        let other = eqb-false shape.version 2 e in
        inr (record { grace = shape.conditions.one_grace (omega (arith, least, most, other)); kept = refl })

-- a lane that does not record has no bytes
no_taking : (lanes : List LaneState) (lane : LaneState) → lane.taking ≡ None → unwrap_or lane.taking [] ≡ []
no_taking lanes lane e = ap (λ o. unwrap_or o []) e

pub quiet_taking : (s : State) → Every (λ (lane : LaneState). lane.taking ≡ None) s.lanes → (lane : ℕ) → taking_of s lane ≡ []
quiet_taking s h lane = no_taking s.lanes (lane_at s lane) (every_at (λ (l : LaneState). l.taking ≡ None) s.lanes lane quiet_lane refl h)

pub told_started : (shape : Shape) (parts : Parts) (s : State) → Starts shape parts s → IsTold s.kept parts
told_started shape parts s h = record {
  shows = h.shows;
  valid = subst (λ f. IsKept f s.kept) (sym h.form) h.valid.kept;
  forms = subst (λ (f : ℕ). (f ≡ 1) ⊎ (f ≡ 2)) (sym h.form) h.valid.forms;
  newest = λ two. h.form ∙ h.valid.newest two;
}

pub like_started : (shape : Shape) (parts : Parts) (s : State) → Starts shape parts s → IsLike parts.form s.kept s.form s.kept
like_started shape parts s h = like_itself parts.form s.form s.kept h.form h.valid.newest
