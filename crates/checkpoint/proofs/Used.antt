-- The blocks that live ropes use are those that have places.
use Rattle.std.proofs.Common.{◌≡◌, ℕ, Bool, true, false, ◌||◌, List, [], ◌∷◌, flat_map, refl, sym, ◌∙◌, ap}
use Rattle.voice_units.specs.Spots.{Spot}
use Rattle.voice_units.specs.Blocks.{BlockPair, pair_at, pairs_at, has_pair, same_pair}
use Rattle.voice_units.proofs.Distinct.{same_pair-true}
use Rattle.voice_model.specs.State.{Live}
use Rattle.voice_model.specs.Replay.{Placed, Rebuilt, has_place, used_pairs}
use Rattle.voice_model.specs.Base.{in_order}
use Rattle.voice_model.specs.Valid.{Every}
use Rattle.voice_model.specs.Places.{IsPlace, EachPlaced, IsPlaced, AllUsed}
use Rattle.voice_model.proofs.KeptByChanges.{every-append}
use Rattle.voice_model.proofs.Order.{has_ordered}

either_way : (a b : Bool) → (a ≡ true → b ≡ true) → (b ≡ true → a ≡ true) → a ≡ b
either_way true true h k = refl
either_way true false h k = let e = h refl in cc
either_way false true h k = let e = k refl in cc
either_way false false h k = refl

of_or : {P : Type 0} (a b : Bool) → (a ≡ true → P) → (b ≡ true → P) → (a || b) ≡ true → P
of_or true b h k e = h refl
of_or false b h k e = k e

each_spot : (block : ℕ) (places : List Placed) (ropes : List (Live Spot)) → EachPlaced block places ropes → Every (IsPlace block places) (flat_map (λ rope. rope.samples) ropes)
each_spot block places [] h = tt
each_spot block places (rope ∷ ropes) h = every-append (IsPlace block places) rope.samples (flat_map (λ rope. rope.samples) ropes) h.0 (each_spot block places ropes h.1)

spot_held : (block : ℕ) (places : List Placed) (ss : List Spot) (q : BlockPair) → Every (IsPlace block places) ss → has_pair (pairs_at block ss) q ≡ true → has_place places q ≡ true
spot_held block places [] q h e = cc
spot_held block places (s ∷ ss) q h e =
    of_or (same_pair q (pair_at block s)) (has_pair (pairs_at block ss) q)
    (λ same. ap (has_place places) (same_pair-true q (pair_at block s) same) ∙ h.0.held)
    (spot_held block places ss q h.1) e

place_used : (pairs : List BlockPair) (places : List Placed) (q : BlockPair) → Every (λ (place : Placed). has_pair pairs place.pair ≡ true) places → has_place places q ≡ true → has_pair pairs q ≡ true
place_used pairs [] q h e = cc
place_used pairs (p ∷ ps) q h e =
    of_or (same_pair p.pair q) (has_place ps q)
    (λ same. ap (has_pair pairs) (sym (same_pair-true p.pair q same)) ∙ h.0)
    (place_used pairs ps q h.1) e

pub used_placed : (r : Rebuilt) (q : BlockPair) → IsPlaced r → AllUsed r → has_pair (used_pairs r.kept) q ≡ has_place (in_order r.places) q
used_placed r q placed used =
    either_way (has_pair (used_pairs r.kept) q) (has_place r.places q)
    (spot_held r.shape.block r.places (flat_map (λ rope. rope.samples) r.ropes) q (each_spot r.shape.block r.places r.ropes placed.placed))
    (place_used (used_pairs r.kept) r.places q used)
    ∙ sym (has_ordered r.places q)
