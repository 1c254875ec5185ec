-- Which blocks have a place, as the map of blocks tells it.
use Rattle.std.proofs.Common.{◌≡◌, ℕ, ◌==◌, Bool, true, false, cond, ◌||◌, List, [], ◌∷◌, Option, Some, None, refl, sym, ◌∙◌, ap}
use Rattle.std.specs.Prelude.{is_some}
use Rattle.std.proofs.lemmas.Bool.{eqb-true, eq-eqb}
use Rattle.voice_units.specs.Blocks.{BlockPair, same_pair}
use Rattle.voice_units.proofs.Distinct.{same_pair-true}
use Rattle.voice_model.specs.Replay.{Placed, has_place}
use Rattle.voice_model.specs.Places.{Pairwise, AtOtherAddress}
use Rattle.voice_model.proofs.PlacesKept.{same_itself}
use Rattle.voice_blocks.specs.Holders.{Holders, block_of, IsAddressOf}
use Rattle.voice_blocks.specs.declared.owner.Owner.{Owner}
use Rattle.voice_blocks.specs.declared.owner.Owner.TheVariants.{File, Taking}
use Rattle.voice_blocks.specs.declared.owner.Holder.{Holder}
use Rattle.rope_table.specs.Table.{pair_of}
use Rattle.recovery.specs.Shown.{placed_at}
use Rattle.recovery.specs.Placing.{HoldsPlaces}
use Rattle.recovery.proofs.PlacesFreed.{none_at}

abbrev block : BlockPair → Holder
block pair = block_of (File pair.file) pair.index

abbrev file_in : Owner → ℕ
file_in (File file) = file
file_in (Taking lane) = 0

abbrev pair_in : Holder → BlockPair
pair_in h = pair_of (file_in h.owner) h.index

same_block : (p q : BlockPair) → Some (block p) ≡ Some (block q) → p ≡ q
same_block p q e = let same : block p ≡ block q = cc in ap pair_in same

held_then : (places : List Placed) (a : ℕ) (pair : BlockPair) → placed_at places a ≡ Some (block pair) → has_place places pair ≡ true
held_then [] a pair e = cc
held_then (p ∷ places) a pair e = by_test (p.address == a) refl (held_then places a pair)
  where
    or_true : (b : Bool) → (b || true) ≡ true
    or_true true = refl
    or_true false = refl

    by_test : (b : Bool) → (p.address == a) ≡ b → (placed_at places a ≡ Some (block pair) → has_place places pair ≡ true) → has_place (p ∷ places) pair ≡ true
    by_test true k rest =
        let same = same_block p.pair pair (sym (ap (λ b. cond b (Some (block p.pair)) (placed_at places a)) k) ∙ e) in
        ap (λ b. b || has_place places pair) (ap (λ q. same_pair q pair) same ∙ same_itself pair)
    by_test false k rest =
        ap (λ b. same_pair p.pair pair || b) (rest (sym (ap (λ b. cond b (Some (block p.pair)) (placed_at places a)) k) ∙ e)) ∙ or_true (same_pair p.pair pair)

none_then : (places : List Placed) (pair : BlockPair) → Pairwise AtOtherAddress places → ((a : ℕ) → ¬ (placed_at places a ≡ Some (block pair))) → has_place places pair ≡ false
none_then [] pair h f = refl
none_then (p ∷ places) pair h f = by_test (same_pair p.pair pair) refl (none_then places pair h.1 behind)
  where
    behind : (a : ℕ) → ¬ (placed_at places a ≡ Some (block pair))
    behind a e = at (p.address == a) refl
      where
        at : (b : Bool) → (p.address == a) ≡ b → ⊥
        at true k = let none : None ≡ Some (block pair) = sym (none_at places p a (eqb-true p.address a k) h.0) ∙ e in cc
        at false k = f a (ap (λ b. cond b (Some (block p.pair)) (placed_at places a)) k ∙ e)

    by_test : (b : Bool) → same_pair p.pair pair ≡ b → has_place places pair ≡ false → has_place (p ∷ places) pair ≡ false
    by_test true k rest =
        absurd (f p.address (ap (λ b. cond b (Some (block p.pair)) (placed_at places p.address)) (eq-eqb p.address p.address refl) ∙ ap (λ q. Some (block q)) (same_pair-true p.pair pair k)))
    by_test false k rest = ap (λ b. b || has_place places pair) k ∙ rest

-- a block has a place where the map has its address
pub address_tells : (holders : Holders) (places : List Placed) (pair : BlockPair) (o : Option ℕ) → HoldsPlaces holders places → IsAddressOf (block_of (File pair.file) pair.index) holders o → has_place places pair ≡ is_some o
address_tells holders places pair None h is = none_then places pair h.differ (λ a e. is.absent a (h.each a ∙ e))
address_tells holders places pair (Some a) h is = held_then places a pair (sym (h.each a) ∙ is.found)
