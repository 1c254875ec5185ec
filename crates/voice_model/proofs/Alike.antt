-- What a change does is told by the places of samples alone: it commutes with putting one kind of sample in place of another.
use Rattle.std.proofs.Common.{◌≡◌, Bool, true, false, cond, not, ◌&&◌, ◌+◌, ◌==◌, ℕ, List, [], ◌∷◌, ◌++◌, map, refl, ◌∙◌, ap}
use Rattle.std.specs.Prelude.{filter}
use Rattle.voice_model.specs.State.{Live, Durable, Effect, settled, has_row, among, class_number}
use Rattle.voice_model.specs.State.Effect.{Recorded, Edited, Retained, Forgotten, Counted, Swept, Advanced}
use Rattle.voice_model.specs.Changes.{changed}
use Rattle.voice_model.specs.Replay.{live_by, durable_by, effect_by}
use Rattle.voice_model.specs.declared.calls.Row.{Row}

module _ {A B : Type 0} (f : A → B) where
  live_append : (xs ys : List (Live A)) → map (live_by f) (xs ++ ys) ≡ map (live_by f) xs ++ map (live_by f) ys
  live_append [] ys = refl
  live_append (x ∷ xs) ys = ap (λ l. live_by f x ∷ l) (live_append xs ys)

  settled_once : (form now class : ℕ) (b : Bool) (rope : Live A) → live_by f (cond b (record rope { idle = now; last = cond (form == 2) class rope.last }) rope) ≡ cond b (record (live_by f rope) { idle = now; last = cond (form == 2) class rope.last }) (live_by f rope)
  settled_once form now class true rope = refl
  settled_once form now class false rope = refl

  settled_all : (form now class : ℕ) (before after : List Row) (ropes : List (Live A)) → map (live_by f) (map (settled form now class before after) ropes) ≡ map (settled form now class before after) (map (live_by f) ropes)
  settled_all form now class before after [] = refl
  settled_all form now class before after (rope ∷ ropes) =
      ap (λ r. r ∷ map (live_by f) (map (settled form now class before after) ropes)) (settled_once form now class (has_row before rope.id && not (has_row after rope.id)) rope)
      ∙ ap (λ l. settled form now class before after (live_by f rope) ∷ l) (settled_all form now class before after ropes)

  kept_once : (b : Bool) (rope : Live A) (ropes : List (Live A)) → map (live_by f) (cond b (rope ∷ ropes) ropes) ≡ cond b (live_by f rope ∷ map (live_by f) ropes) (map (live_by f) ropes)
  kept_once true rope ropes = refl
  kept_once false rope ropes = refl

  kept_all : (gone : List ℕ) (ropes : List (Live A)) → map (live_by f) (filter (λ rope. not (among gone rope.id)) ropes) ≡ filter (λ rope. not (among gone rope.id)) (map (live_by f) ropes)
  kept_all gone [] = refl
  kept_all gone (rope ∷ ropes) =
      kept_once (not (among gone rope.id)) rope (filter (λ rope. not (among gone rope.id)) ropes)
      ∙ ap (λ l. cond (not (among gone rope.id)) (live_by f rope ∷ l) l) (kept_all gone ropes)

  abbrev with_ropes : Durable B → List (Live B) → Durable B
  with_ropes d ropes = record d { ropes = ropes }

  pub changed-by : (form : ℕ) (d : Durable A) (e : Effect A) → durable_by f (changed form d e) ≡ changed form (durable_by f d) (effect_by f e)
  changed-by form d (Recorded id samples) = ap (λ l. record (durable_by f d) { ropes = l; next = id + 1 }) (live_append d.ropes _)
  changed-by form d (Edited id samples) = ap (λ l. record (durable_by f d) { ropes = l; next = id + 1 }) (live_append d.ropes _)
  changed-by form d (Retained row) = refl
  changed-by form d (Forgotten class key) = ap (λ l. record (changed form (durable_by f d) (Forgotten class key)) { ropes = l }) (settled_all form d.moment (class_number class) d.rows _ d.ropes)
  changed-by form d (Counted keys) = ap (λ l. record (changed form (durable_by f d) (Counted keys)) { ropes = l }) (settled_all form d.moment 3 d.rows _ d.ropes)
  changed-by form d (Swept ids) =
      ap (λ l. record (changed form (durable_by f d) (Swept ids)) { ropes = l })
      (kept_all ids _ ∙ ap (λ l. filter (λ rope. not (among ids rope.id)) l) (settled_all form d.moment 2 d.rows _ d.ropes))
  changed-by form d (Advanced moment) = refl
