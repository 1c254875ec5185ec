use Rattle.std.proofs.Common.{◌≡◌, ℕ, Bool, true, false, arith, ◌&&◌, not, List, [], length, Result, Ok, Err, refl, sym, ◌∙◌, ap, subst}
use Rattle.std.specs.Prelude.{filter, is_some, IsErr}
use Rattle.std.specs.List.{list_all}
use Rattle.voice_units.specs.declared.shapes.Shape.{Shape}
use Rattle.voice_units.specs.declared.errors.NoMemory.{NoMemory}
use Rattle.voice_units.specs.Blocks.{has_pair, pairs_at}
use Rattle.voice_model.specs.State.{with_rows, has_row}
use Rattle.rope_table.specs.Table.{rope_of}
use Rattle.voice_model.specs.State.Effect.{Swept}
use Rattle.voice_model.specs.Changes.{changed, is_expired, without_expired}
use Rattle.voice_model.specs.Replay.{Placed, Rebuilt, may_go, used_pairs}
use Rattle.voice_model.specs.Valid.{Every}
use Rattle.voice_model.specs.declared.changes.Change.{Change}
use Rattle.voice_model.specs.declared.changes.Change.TheVariants as changes
use Rattle.voice_model.specs.declared.calls.Row.{Row}
use Rattle.voice_model.specs.declared.calls.Class.TheVariants.{Until}
use Rattle.voice_blocks.specs.Holders.{holder_at}
use Rattle.interest_table.specs.Table.{expired_keys}
use Rattle.recovery.specs.declared.parts.Parts.{Parts}
use Rattle.recovery.specs.Shown.{Rebuilds, Shows, IsApplied, rows_without, placed_at}
use Rattle.recovery.specs.Placing.{in_use}
use Rattle.recovery.proofs.Rebuilding.{orderly, same_samples, rebuilds_after}
use Rattle.recovery.proofs.Sweeping.{expired_are, may_go_shown, swept_shown}
use Rattle.recovery.proofs.PlacesFreed.{all_in_use, places_used, places_left, moved_shown}
use Rattle.recovery.proofs.parts.Parts.try_swept.Goals as goal

-- the rows without the keys of expired ones
left_rows : (old : Parts) (r : Rebuilt) (keys : List (List ℕ)) → Rebuilds old r → keys ≡ expired_keys old.moment old.interests.rows → rows_without Until keys r.rows ≡ filter (λ row. not (is_expired r.moment row)) r.rows
left_rows old r keys h e =
    ap (λ l. rows_without Until l r.rows) (e ∙ ap (λ m. expired_keys m old.interests.rows) h.kept.moment ∙ ap (expired_keys r.moment) h.kept.rows) ∙ expired_are r.moment r.rows h.valid.kept.once

-- whether a sweep is legal
legal_sweep : (old : Parts) (r : Rebuilt) (ids : List ℕ) → Rebuilds old r → list_all (λ id. is_some (rope_of old.ropes.ropes id) && not (has_row (filter (λ row. not (is_expired old.moment row)) old.interests.rows) id)) ids ≡ list_all (may_go (without_expired r.form r.kept)) ids
legal_sweep old r ids h =
    may_go_shown [] r.form r.kept old.ropes old.interests.rows (filter (λ row. not (is_expired old.moment row)) old.interests.rows) old.moment old.next ids h.kept
    (ap (λ now. filter (λ (row : Row). not (is_expired now row)) old.interests.rows) h.kept.moment ∙ ap (filter (λ (row : Row). not (is_expired r.moment row))) h.kept.rows)

pub returns-then-not-legal : goal.returns-then-not-legal
returns-then-not-legal c =
    let old = c.args.self.now in
    let test = c.if-not-legal.true in
    let answer : c.in_ok-legal.legal ≡ false = first_of (cc, grind arith) in
    record {
      legal = λ r h s. sym answer ∙ c.in_ok-legal.ensures ∙ legal_sweep old r c.args.ids.now h;
      done = λ r h s e. cc;
      same = λ r h s e. h;
    }

-- memory wants, and nothing has changed
untried : (shape : Shape) (old new : Parts) (change : Change) (result : Result Bool NoMemory) → IsErr result → new ≡ old → IsApplied shape old new change result
untried shape old new change (Ok done) wants e = cc
untried shape old new change (Err none) wants e = record {
  legal = λ r h s. tt;
  done = λ r h s k. cc;
  same = λ r h s k. subst (λ parts. Rebuilds parts r) (sym e) h;
}

pub returns-in_err-drop_rows : goal.returns-in_err-drop_rows
returns-in_err-drop_rows c =
    untried c.args.shape.now c.args.self.now c.drop_rows.new.self (changes.Swept c.args.ids.now) c.from_residual-in_err-drop_rows.result c.from_residual-in_err-drop_rows.ensures.0 c.in_err-drop_rows.ensures.same

pub returns : goal.returns
returns c =
    let old = c.args.self.now in
    let mid = c.drop_rows.new.self in
    let new = c.remove_ropes.new.self in
    let ids = c.args.ids.now in
    let keys = c.items.result.now in
    let test = c.if-not-legal.false in
    let answer : c.in_ok-legal.legal ≡ true = first_of (cc, grind arith) in
    let legal : (r : Rebuilt) → Rebuilds old r → true ≡ list_all (may_go (without_expired r.form r.kept)) ids =
    λ r h. sym answer ∙ c.in_ok-legal.ensures ∙ legal_sweep old r ids h in
    record {
      legal = λ r h s. legal r h;
      done = λ r h s e.
          let shown : Shows [] mid (without_expired r.form r.kept) =
          subst (λ form. Shows [] mid (without_expired form r.kept)) h.in_form
          (subst (λ rows. Shows [] mid (with_rows old.form 2 r.kept rows)) (left_rows old r keys h (c.items.ensures ∙ c.in_ok-expired.ensures))
          (c.in_ok-drop_rows.ensures.shows [] r.kept h.kept (orderly old r h) (ap (λ (shape : Shape). shape.graces) s))) in
          let d = changed r.form r.kept (Swept ids) in
          let swept = swept_shown [] r.form r.kept ids mid.ropes new.ropes mid.interests.rows mid.moment mid.next shown c.remove_ropes.ensures.ropes c.remove_ropes.ensures.block (c.remove_ropes.ensures.counts [] shown.uses) in
          let at : (a : ℕ) → holder_at mid.blocks.holders a ≡ placed_at r.places a = λ a. ap (λ b. holder_at b.holders a) c.drop_rows.ensures.blocks ∙ h.places.each a in
          let left = filter (λ (row : Row). not (is_expired r.moment row)) r.rows in
          let same : used_pairs r.kept ≡ used_pairs (without_expired r.form r.kept) = ap (pairs_at r.shape.block) (sym (same_samples r.form r.moment 2 r.rows left r.ropes)) in
          let used = subst (λ pairs. Every (λ (place : Placed). has_pair pairs place.pair ≡ true) r.places) same h.used in
          let before : (a : ℕ) → in_use mid.ropes (holder_at mid.blocks.holders a) ≡ holder_at mid.blocks.holders a =
          λ a. ap (in_use mid.ropes) (at a) ∙ all_in_use mid.ropes r.places a (places_used (without_expired r.form r.kept) mid.ropes mid.interests.rows mid.moment mid.next r.places shown used) ∙ sym (at a) in
          rebuilds_after old new r (changes.Swept ids) [] (Swept ids) h (sym (legal r h)) c.requires.grammar refl
          (moved_shown [] new.ropes mid.interests.rows new.interests.rows mid.moment new.moment mid.next new.next d swept (ap (λ t. t.rows) c.remove_ropes.ensures.interests) c.remove_ropes.ensures.moment c.remove_ropes.ensures.next)
          (c.remove_ropes.ensures.form ∙ c.drop_rows.ensures.form)
          (record {
            size = c.remove_ropes.ensures.size ∙ ap (λ b. length b.holders) c.drop_rows.ensures.blocks ∙ h.places.size;
            each = λ a.
                c.remove_ropes.ensures.holders before a ∙ ap (in_use new.ropes) (at a) ∙ places_left d new.ropes mid.interests.rows mid.moment mid.next r.places a swept h.placed.differ;
          });
      same = λ r h s e. absurd (e refl);
    }
