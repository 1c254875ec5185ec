-- Changes of the kinds that packets bring: each brings an effect and no block, and two fillings alike fill it alike.
--     Followed change      what is known of such a change
use Rattle.std.proofs.Common.{◌≡◌, ℕ, ◌+◌, ◌*◌, ◌%◌, ◌≤◌, true, false, List, [], ◌∷◌, Some, refl, sym, ap, arith}
use Rattle.std.specs.Prelude.{nat_le}
use Rattle.std.specs.List.{list_all}
use Rattle.voice_units.specs.declared.pieces.Piece.{Piece}
use Rattle.voice_units.specs.Spots.{Spot, spots_of}
use Rattle.voice_units.specs.Blocks.{has_pair, pair_at, pairs_at}
use Rattle.voice_units.proofs.PiecesOfRopes.{both}
use Rattle.voice_model.specs.Samples.{Tagged}
use Rattle.voice_model.specs.State.{Effect}
use Rattle.voice_model.specs.State.Effect.{Edited, Retained, Forgotten, Counted, Swept, Advanced}
use Rattle.voice_model.specs.Replay.{Rebuilt, brings, is_legal, acted, after_effect, used_pairs, has_place, address_of, filled, effect_by}
use Rattle.voice_model.specs.Valid.{Every}
use Rattle.voice_model.specs.Places.{IsPlaced}
use Rattle.voice_model.specs.declared.changes.Change.{Change}
use Rattle.voice_model.specs.declared.changes.Change.TheVariants as changes
use Rattle.voice_model.specs.declared.calls.Class.{Class}
use Rattle.voice_model.proofs.PlacesKept.{used_placed}
use Rattle.fillings.specs.Laws.{SameInPlaces}
use Rattle.fillings.proofs.Filling.{map_same, address_there}
use Rattle.mirror_packets.specs.Packets.{is_followed}

-- ---- images that agree in blocks with a place

module _ (b : Rebuilt) (old new : List ℕ) (placed : IsPlaced b) (same : SameInPlaces b old new) where
  agree_held : (s : Spot) → has_place b.places (pair_at b.shape.block s) ≡ true → filled new b s ≡ filled old b s
  agree_held s held =
      let some : 8 ≤ b.shape.block = b.shape.conditions.some_block in
      let address = address_of b.places (pair_at b.shape.block s) in
      ap (λ (v : ℕ). let x : Tagged = record { byte = v; file = s.file; place = s.place } in x)
      (same.each address (64 + 2 * b.shape.area + address * b.shape.block + s.place % b.shape.block) (address_there b.places (pair_at b.shape.block s) held) (omega arith) (omega (arith, some)))

  -- samples in blocks that live ropes use
  agree_used : (ss : List Spot) → list_all (has_pair (used_pairs b.kept)) (pairs_at b.shape.block ss) ≡ true → Every (λ s. filled old b s ≡ filled new b s) ss
  agree_used [] h = tt
  agree_used (s ∷ ss) h =
      let tests = both (has_pair (used_pairs b.kept) (pair_at b.shape.block s)) (list_all (has_pair (used_pairs b.kept)) (pairs_at b.shape.block ss)) h in
      (sym (agree_held s (used_placed b.shape.block b.places b.ropes (pair_at b.shape.block s) placed.placed tests.0)), agree_used ss tests.1)

  edit_alike : (id : ℕ) (ss : List Spot) → (nat_le b.next id ≡ true) × (list_all (has_pair (used_pairs b.kept)) (pairs_at b.shape.block ss) ≡ true) → effect_by (filled old b) (Edited id ss) ≡ effect_by (filled new b) (Edited id ss)
  edit_alike id ss tests = ap (λ l. Edited id l) (map_same (filled old b) (filled new b) ss (agree_used ss tests.1))

-- ---- the kinds

-- it brings an effect without a block, which two fillings alike fill alike, and keeps the shape and the form
pub record Followed (change : Change) : Type 0 where
  pub made : Effect Spot
  pub is : brings change ≡ Some made
  pub acts : (b : Rebuilt) → acted b change ≡ after_effect b [] (Some made)
  pub alike : (b : Rebuilt) (old new : List ℕ) → IsPlaced b → SameInPlaces b old new → is_legal b change ≡ true → effect_by (filled old b) made ≡ effect_by (filled new b) made
  pub stays : (b : Rebuilt) → ((acted b change).shape ≡ b.shape) × ((acted b change).form ≡ b.form)

followed_edit : (id : ℕ) (pieces : List Piece) → Followed (changes.Edited id pieces)
followed_edit id pieces = record {
  made = Edited id (spots_of pieces);
  is = refl;
  acts = λ b. refl;
  alike = λ b old new placed same legal. edit_alike b old new placed same id (spots_of pieces) (both (nat_le b.next id) (list_all (has_pair (used_pairs b.kept)) (pairs_at b.shape.block (spots_of pieces))) legal);
  stays = λ b. (refl, refl);
}

followed_row : (class : Class) (key : List ℕ) (id : ℕ) (note : List ℕ) → Followed (changes.Retained class key id note)
followed_row class key id note = record { made = Retained (record { class = class; key = key; rope = id; note = note }); is = refl; acts = λ b. refl; alike = λ b old new placed same legal. refl; stays = λ b. (refl, refl) }

followed_loss : (class : Class) (key : List ℕ) → Followed (changes.Forgotten class key)
followed_loss class key = record { made = Forgotten class key; is = refl; acts = λ b. refl; alike = λ b old new placed same legal. refl; stays = λ b. (refl, refl) }

followed_census : (keys : List (List ℕ)) → Followed (changes.Census keys)
followed_census keys = record { made = Counted keys; is = refl; acts = λ b. refl; alike = λ b old new placed same legal. refl; stays = λ b. (refl, refl) }

followed_sweep : (ids : List ℕ) → Followed (changes.Swept ids)
followed_sweep ids = record { made = Swept ids; is = refl; acts = λ b. refl; alike = λ b old new placed same legal. refl; stays = λ b. (refl, refl) }

followed_moment : (moment : ℕ) → Followed (changes.Advanced moment)
followed_moment moment = record { made = Advanced moment; is = refl; acts = λ b. refl; alike = λ b old new placed same legal. refl; stays = λ b. (refl, refl) }

no_other : (change : Change) → false ≡ true → Followed change
no_other change h = cc

pub followed : (change : Change) → is_followed change ≡ true → Followed change
followed (changes.Recorded id len addresses) h = no_other (changes.Recorded id len addresses) h
followed (changes.Edited id pieces) h = followed_edit id pieces
followed (changes.Retained class key id note) h = followed_row class key id note
followed (changes.Forgotten class key) h = followed_loss class key
followed (changes.Census keys) h = followed_census keys
followed (changes.Swept ids) h = followed_sweep ids
followed (changes.Advanced moment) h = followed_moment moment
followed (changes.Base now next) h = no_other (changes.Base now next) h
followed (changes.File file pairs) h = no_other (changes.File file pairs) h
followed (changes.Rope id idle pieces) h = no_other (changes.Rope id idle pieces) h
followed (changes.Wide id len addresses) h = no_other (changes.Wide id len addresses) h
followed (changes.Base2 now next) h = no_other (changes.Base2 now next) h
followed (changes.File2 file pairs) h = no_other (changes.File2 file pairs) h
followed (changes.Rope2 id idle last pieces) h = no_other (changes.Rope2 id idle last pieces) h
