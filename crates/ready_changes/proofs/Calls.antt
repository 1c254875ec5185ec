-- The change of a Sweep does not look at the bytes of samples.
use Rattle.std.proofs.Common.{◌≡◌, ℕ, ◌+◌, ◌==◌, Bool, true, false, cond, not, ◌&&◌, nat_le, List, [], ◌∷◌, map, refl, sym, ◌∙◌, ap}
use Rattle.std.specs.Prelude.{filter, take}
use Rattle.voice_units.specs.Spots.{Spot}
use Rattle.voice_model.specs.Samples.{Tagged}
use Rattle.voice_model.specs.State.{State, Durable, Live, has_row, settled}
use Rattle.voice_model.specs.Changes.{is_expired, wait_of, expired_rows, swept_ropes, if_any, effect_of}
use Rattle.voice_model.specs.Replay.{live_by, durable_by}
use Rattle.voice_model.specs.declared.calls.Row.{Row}
use Rattle.voice_model.specs.declared.calls.Call.TheVariants as calls
use Rattle.ready_changes.specs.Ready.{change_for, sweep_change}

abbrev left_rows : ℕ → List Row → List Row
left_rows now rows = filter (λ row. not (is_expired now row)) rows

module _ (fill : Spot → Tagged) (form : ℕ) (d : Durable Spot) where
  abbrev step : {A : Type 0} → Live A → Live A
  step rope = settled form d.moment 2 d.rows (left_rows d.moment d.rows) rope

  abbrev due : {A : Type 0} → Live A → Bool
  due rope = not (has_row (left_rows d.moment d.rows) rope.id) && nat_le (rope.idle + wait_of d.shape.graces rope.last) d.moment

  abbrev bare : {A : Type 0} → Bool → Live A → Live A
  bare b rope = cond b (record rope { idle = d.moment; last = cond (form == 2) 2 rope.last }) rope

  abbrev number : {A : Type 0} → Live A → ℕ
  number rope = rope.id

  same_dues : (ropes : List (Live Spot)) → map number (filter due (map step (map (live_by fill) ropes))) ≡ map number (filter due (map step ropes))
  same_dues [] = refl
  same_dues (rope ∷ ropes) = by_test (has_row d.rows rope.id && not (has_row (left_rows d.moment d.rows) rope.id)) (same_dues ropes)
    where
      one : (t : Bool) (x : Live Tagged) (y : Live Spot) → x.id ≡ y.id → map number (filter due (map step (map (live_by fill) ropes))) ≡ map number (filter due (map step ropes))
          → map number (cond t (x ∷ filter due (map step (map (live_by fill) ropes))) (filter due (map step (map (live_by fill) ropes)))) ≡ map number (cond t (y ∷ filter due (map step ropes)) (filter due (map step ropes)))
      one true x y e rest = ap (λ n. n ∷ map number (filter due (map step (map (live_by fill) ropes)))) e ∙ ap (λ l. y.id ∷ l) rest
      one false x y e rest = rest

      by_test : (b : Bool) → map number (filter due (map step (map (live_by fill) ropes))) ≡ map number (filter due (map step ropes))
          → map number (cond (due (bare b (live_by fill rope))) (bare b (live_by fill rope) ∷ filter due (map step (map (live_by fill) ropes))) (filter due (map step (map (live_by fill) ropes))))
          ≡ map number (cond (due (bare b rope)) (bare b rope ∷ filter due (map step ropes)) (filter due (map step ropes)))
      by_test true rest = one (due (bare true rope)) (bare true (live_by fill rope)) (bare true rope) refl rest
      by_test false rest = one (due (bare false rope)) (bare false (live_by fill rope)) (bare false rope) refl rest

  same_swept : (limit : ℕ) → swept_ropes form (durable_by fill d) limit ≡ swept_ropes form d limit
  same_swept limit = ap (take limit) (same_dues d.ropes)

pub sweep_of_call : (s : State) (tapes : List (List ℕ)) (limit : ℕ) (fill : Spot → Tagged) (d : Durable Spot) → durable_by fill d ≡ s.kept → change_for (effect_of s tapes (calls.Sweep limit)) ≡ sweep_change s.form d limit
sweep_of_call s tapes limit fill d kept =
    ap (λ (k : Durable Tagged). change_for (if_any (expired_rows k) (swept_ropes s.form k limit))) (sym kept)
    ∙ ap (λ ids. change_for (if_any (expired_rows d) ids)) (same_swept fill s.form d limit)
