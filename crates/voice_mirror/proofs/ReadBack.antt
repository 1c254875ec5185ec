-- What a base reads back as is shown by the tables that it was made of.
use Rattle.std.proofs.Common.{◌≡◌, ℕ, ◌==◌, Bool, true, false, cond, List, [], ◌∷◌, Option, Some, refl, sym, ◌∙◌, ap, subst}
use Rattle.std.proofs.lemmas.Bool.{eqb-true}
use Rattle.voice_model.specs.Replay.{Placed, Rebuilt}
use Rattle.voice_model.specs.State.{Durable}
use Rattle.voice_units.specs.Spots.{Spot}
use Rattle.voice_model.specs.Base.{comes_first, with_place, in_order}
use Rattle.voice_model.specs.Places.{IsPlaced, AllUsed, AtOtherAddress, Pairwise}
use Rattle.voice_model.specs.Valid.{Every, IsRebuilt}
use Rattle.voice_model.proofs.Order.{every_ordered}
use Rattle.voice_blocks.specs.Holders.{block_of}
use Rattle.voice_blocks.specs.declared.owner.Owner.TheVariants.{File}
use Rattle.voice_blocks.specs.declared.owner.Holder.{Holder}
use Rattle.recovery.specs.declared.parts.Parts.{Parts}
use Rattle.recovery.specs.Shown.{Rebuilds, Shows, placed_at, plain_sample}

-- two tests of which at most one holds may change places
swapped : (m n a : ℕ) (s t : Bool) → (m == a) ≡ s → (n == a) ≡ t → ¬ (m ≡ n) → {A : Type 0} (x y z : A) → cond t y (cond s x z) ≡ cond s x (cond t y z)
swapped m n a true true e f differ x y z = absurd (differ (eqb-true m a e ∙ sym (eqb-true n a f)))
swapped m n a true false e f differ x y z = refl
swapped m n a false true e f differ x y z = refl
swapped m n a false false e f differ x y z = refl

module _ (p : Placed) (a : ℕ) where
  by_first : (q : Placed) (qs : List Placed) → ¬ (p.address ≡ q.address) → placed_at (with_place p qs) a ≡ placed_at (p ∷ qs) a → (t : Bool) → placed_at (cond t (p ∷ q ∷ qs) (q ∷ with_place p qs)) a ≡ placed_at (p ∷ q ∷ qs) a
  by_first q qs differ later true = refl
  by_first q qs differ later false =
      ap (λ (o : Option Holder). cond (q.address == a) (Some (block_of (File q.pair.file) q.pair.index)) o) later
      ∙ swapped p.address q.address a (p.address == a) (q.address == a) refl refl differ (Some (block_of (File p.pair.file) p.pair.index)) (Some (block_of (File q.pair.file) q.pair.index)) (placed_at qs a)

  placed_with : (qs : List Placed) → Every (AtOtherAddress p) qs → placed_at (with_place p qs) a ≡ placed_at (p ∷ qs) a
  placed_with [] other = refl
  placed_with (q ∷ qs) other = by_first q qs other.0 (placed_with qs other.1) (comes_first p.pair q.pair)

-- the order of places tells nothing
pub ordered : (ps : List Placed) (a : ℕ) → Pairwise AtOtherAddress ps → placed_at (in_order ps) a ≡ placed_at ps a
ordered [] a differ = refl
ordered (p ∷ ps) a differ =
    placed_with p a (in_order ps) (every_ordered (AtOtherAddress p) ps differ.0)
    ∙ ap (λ (o : Option Holder). cond (p.address == a) (Some (block_of (File p.pair.file) p.pair.index)) o) (ordered ps a differ.1)

pub read_back : (tables : Parts) (x end : Rebuilt) → Rebuilds tables x → end.kept ≡ x.kept → end.places ≡ in_order x.places → end.form ≡ x.form → IsRebuilt plain_sample end → IsPlaced end → AllUsed end → Rebuilds tables end
read_back tables x end shows kept places form valid placed used = record {
  kept = subst (λ (d : Durable Spot). Shows [] tables d) (sym kept) shows.kept;
  places = record {
    size = shows.places.size ∙ ap (λ (d : Durable Spot). d.shape.blocks) (sym kept);
    each = λ a. shows.places.each a ∙ sym (ordered x.places a shows.placed.differ) ∙ ap (λ (ps : List Placed). placed_at ps a) (sym places);
  };
  in_form = shows.in_form ∙ sym form;
  valid = valid;
  placed = placed;
  used = used;
}
