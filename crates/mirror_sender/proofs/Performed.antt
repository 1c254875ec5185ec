-- What the tables tell once a change is done.
use Rattle.std.proofs.Common.{◌≡◌, ◌⊎◌, inl, inr, ℕ, ◌+◌, ◌≤◌, ◌<◌, ◌^◌, Bool, true, false, List, [], ◌∷◌, length, Option, Some, None, refl, sym, ◌∙◌, ap, ap₂, subst, arith}
use Rattle.voice_units.specs.declared.pieces.Piece.{Piece}
use Rattle.voice_units.specs.declared.pieces.Take.{Take}
use Rattle.voice_units.specs.declared.shapes.Shape.{Shape}
use Rattle.voice_units.specs.Spots.{Spot, spots_of, spots_from, pieces_of, samples_in}
use Rattle.voice_units.specs.Blocks.{BlockPair, has_pair, pairs_at, blocks_for}
use Rattle.voice_model.specs.Samples.{Tagged, spot_of, spots_in_rope, recording, pieces_in}
use Rattle.voice_model.specs.State.{Durable, Effect}
use Rattle.voice_model.specs.State.Effect.{Recorded, Edited, Retained, Forgotten, Counted, Swept, Advanced}
use Rattle.voice_model.specs.Changes.{changed, with_rope}
use Rattle.voice_model.specs.Replay.{brings, durable_by, effect_by}
use Rattle.voice_model.specs.Base.{change_of, IsMade}
use Rattle.voice_model.specs.Valid.{IsKept, IsFit}
use Rattle.voice_model.specs.declared.changes.Change.{Change}
use Rattle.voice_model.proofs.Alike.{changed-by}
use Rattle.voice_model.proofs.KeptByChanges.{kept_changed}
use Rattle.voice_model.proofs.FitsOfCalls.{recorded_spots}
use Rattle.voice_model.proofs.ChangesOfEffects.{brings_again}
use Rattle.rope_table.specs.Table.{Table, rope_of, uses_at, new_pairs}
use Rattle.recovery.specs.declared.parts.Parts.{Parts}
use Rattle.recovery.specs.Shown.{Shows, IsOrderly}
use Rattle.recovery.proofs.Rebuilding.{orderly_rebuilt}
use Rattle.recovery.proofs.Showing.{fresh_shown}
use Rattle.ready_changes.specs.Ready.{IsReady, after}
use Rattle.ready_changes.specs.declared.ReadyChange.{ReadyChange}
use Rattle.mirror_packets.specs.Packets.{is_followed}
use Rattle.next_ropes.proofs.Performed.{none_new, few_new}
use Rattle.next_ropes.proofs.Readied.{uses_fit}
use Rattle.mirror_sender.specs.Told.{IsTold, rebuilt_by}
use Rattle.mirror_sender.specs.Coming.{IsEdit, IsVoice, FitsRope, CanBeDone, bytes_taken}
use Rattle.mirror_sender.specs.declared.coming.Next.{Next}
use Rattle.mirror_sender.specs.declared.coming.Next.TheVariants as nexts
use Rattle.mirror_sender.proofs.Likeness.{own_shape}
use Rattle.mirror_sender.proofs.Made.{tells}
use Rattle.mirror_sender.proofs.Bodies.{act_followed, voice_samples}

pub orderly : (own : Durable Tagged) (parts : Parts) → IsTold own parts → IsOrderly parts.form (durable_by spot_of own)
orderly own parts h = orderly_rebuilt (rebuilt_by own parts.form) (tells own parts h).valid

-- the tables show the durable part with the effect done
pub told_after : (own : Durable Tagged) (old new : Parts) (e : Effect Tagged) → IsTold own old → IsFit old.form own e → Shows [] new (changed old.form (durable_by spot_of own) (effect_by spot_of e)) → new.form ≡ old.form → IsTold (changed old.form own e) new
told_after own old new e h fit shows same = record {
  shows = subst (λ x. Shows [] new x) (sym (changed-by spot_of old.form own e)) shows;
  valid = subst (λ (f : ℕ). IsKept f (changed old.form own e)) (sym same) (kept_changed old.form own e h.valid fit);
  forms = subst (λ (f : ℕ). (f ≡ 1) ⊎ (f ≡ 2)) (sym same) h.forms;
  newest = λ two. same ∙ h.newest (ap (λ (shape : Shape). shape.version) (sym (own_shape old.form own e)) ∙ two);
}

module _ (own : Durable Tagged) (tapes : List (List ℕ)) (shape : Shape) (parts : Parts) (next : Next) (e : Effect Tagged) (can : CanBeDone own tapes shape parts next e) where
  abbrev here : Durable Spot
  here = durable_by spot_of own

  pub shown : Shows [] parts here
  shown = can.told.shows

  pub in_order : IsOrderly parts.form here
  in_order = orderly own parts can.told

  pub same_graces : own.shape.graces ≡ shape.graces
  same_graces = ap (λ (s : Shape). s.graces) can.in_shape

  pub common : shape.graces.common ≡ own.shape.graces.common
  common = sym (ap (λ (s : Shape). s.graces.common) can.in_shape)

  pub unknown : rope_of parts.ropes.ropes parts.next ≡ None
  unknown = let same = shown.next in fresh_shown [] parts.form here parts.ropes parts.interests.rows parts.moment parts.next parts.next shown in_order (omega (arith, same))

  pub above : own.next ≤ parts.next
  above = let same = shown.next in omega (arith, same)

  pub fits : (blocks : ℕ) → FitsRope parts blocks → (pair : BlockPair) → uses_at parts.ropes pair + 1 < 2 ^ 32
  fits blocks room pair = uses_fit [] parts here shown (omega arith) room.few pair

  pub edit_pairs : (pieces : List Piece) → IsEdit own pieces e → FitsRope parts 0 → new_pairs parts.ropes pieces ≤ parts.ropes.spare_pairs
  edit_pairs pieces h room = let none = none_new [] here parts parts.ropes pieces shown refl (λ pair. refl) h.used in omega (arith, none)

  pub voice_pairs : (pieces : List Piece) (takes : List Take) → IsVoice own tapes pieces takes e → FitsRope parts (blocks_for parts.ropes.block (samples_in pieces)) → new_pairs parts.ropes pieces ≤ parts.ropes.spare_pairs
  voice_pairs pieces takes h room =
      let block = shown.block in
      let some = own.shape.conditions.some_block in
      let most = few_new parts.ropes pieces own.next (length (bytes_taken tapes takes)) (omega (arith, block, some)) h.same in
      let pairs = subst (λ n. blocks_for parts.ropes.block n ≤ parts.ropes.spare_pairs) (voice_samples own tapes pieces takes e h) room.pairs in
      omega (arith, most, pairs)

-- ---- a rope that came

with_next : (held : List (List Piece)) (parts : Parts) (x : Durable Spot) (m n : ℕ) (ss : List Spot) → m ≡ n → Shows held parts (with_rope x m ss) → Shows held parts (with_rope x n ss)
with_next held parts x m n ss e h = subst (λ k. Shows held parts (with_rope x k ss)) e h

pub edit_shown : (own : Durable Tagged) (old new : Parts) (pieces : List Piece) (e : Effect Tagged) (h : IsEdit own pieces e) → old.next ≡ own.next → Shows [] new (with_rope (durable_by spot_of own) old.next (spots_in_rope h.samples)) → Shows [] new (changed old.form (durable_by spot_of own) (effect_by spot_of e))
edit_shown own old new pieces e h same shows =
    subst (λ (x : Effect Tagged). Shows [] new (changed old.form (durable_by spot_of own) (effect_by spot_of x))) (sym h.is) (with_next [] new (durable_by spot_of own) old.next own.next (spots_in_rope h.samples) same shows)

pub voice_shown : (own : Durable Tagged) (tapes : List (List ℕ)) (old new : Parts) (pieces : List Piece) (takes : List Take) (e : Effect Tagged) → IsVoice own tapes pieces takes e → old.next ≡ own.next → Shows [] new (with_rope (durable_by spot_of own) old.next (spots_from own.next 0 (length (bytes_taken tapes takes)))) → Shows [] new (changed old.form (durable_by spot_of own) (effect_by spot_of e))
voice_shown own tapes old new pieces takes e h same shows =
    subst (λ (x : Effect Tagged). Shows [] new (changed old.form (durable_by spot_of own) (effect_by spot_of x))) (sym h.is)
    (subst (λ ss. Shows [] new (with_rope (durable_by spot_of own) own.next ss)) (sym (recorded_spots own.next 0 (bytes_taken tapes takes)))
    (with_next [] new (durable_by spot_of own) old.next own.next (spots_from own.next 0 (length (bytes_taken tapes takes))) same shows))

-- ---- a change of rows, of the moment or a sweep

made_plain : (e : Effect Tagged) → is_followed (change_of 2 [] e) ≡ true → IsMade e
made_plain (Recorded id samples) h = cc
made_plain (Edited id samples) h = tt
made_plain (Retained row) h = tt
made_plain (Forgotten class key) h = tt
made_plain (Counted keys) h = tt
made_plain (Swept ids) h = tt
made_plain (Advanced moment) h = tt

pub other_shown : (own : Durable Tagged) (old new : Parts) (ready : ReadyChange) (e : Effect Tagged) → IsReady old.interests.spare (durable_by spot_of own) ready (change_of 2 [] e) → Shows [] new (after old.form (durable_by spot_of own) (brings (change_of 2 [] e))) → Shows [] new (changed old.form (durable_by spot_of own) (effect_by spot_of e))
other_shown own old new ready e h shows =
    subst (λ o. Shows [] new (after old.form (durable_by spot_of own) o)) (brings_again 2 [] e (made_plain e (act_followed old.interests.spare own ready.act (change_of 2 [] e) h.does))) shows
