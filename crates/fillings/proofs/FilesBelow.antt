-- The files of what is rebuilt lie below the next number.
use Rattle.std.proofs.Common.{◌≡◌, ℕ, ◌<◌, ◌≤◌, true, List, [], ◌∷◌, subst, arith}
use Rattle.voice_units.specs.Spots.{Spot}
use Rattle.voice_units.specs.Blocks.{BlockPair, same_pair, pair_at}
use Rattle.voice_units.proofs.Distinct.{same_pair-true}
use Rattle.voice_model.specs.Samples.{Tagged}
use Rattle.voice_model.specs.State.{Live}
use Rattle.voice_model.specs.Replay.{Placed, Rebuilt, has_place, filled, live_by, recovered}
use Rattle.voice_model.specs.Valid.{Every}
use Rattle.voice_model.specs.Places.{IsPlace, IsInRange, IsPlaced}
use Rattle.voice_model.proofs.KeptByChanges.{every-map}
use Rattle.fillings.specs.Laws.{AreBelow}
use Rattle.voice_blocks.proofs.Apart.{either_way}

file_below : (next blocks : ℕ) (places : List Placed) (q : BlockPair) → Every (IsInRange next blocks) places → has_place places q ≡ true → q.file < next
file_below next blocks [] q h e = cc
file_below next blocks (place ∷ places) q h e =
    either_way (same_pair place.pair q) (has_place places q)
    (λ k. subst (λ (p : BlockPair). p.file < next) (same_pair-true place.pair q k) h.0.known)
    (λ k. file_below next blocks places q h.1 k) e

pub below_next : (image : List ℕ) (b : Rebuilt) (id : ℕ) → IsPlaced b → b.next ≤ id → AreBelow id (recovered image b).ropes
below_next image b id placed new =
    every-map (λ (rope : Live Spot). Every (IsPlace b.shape.block b.places) rope.samples) (λ (rope : Live Tagged). Every (λ (t : Tagged). t.file < id) rope.samples) (live_by (filled image b))
    (λ rope h. every-map (IsPlace b.shape.block b.places) (λ (t : Tagged). t.file < id) (filled image b)
    (λ s place. let known = file_below b.next b.shape.blocks b.places (pair_at b.shape.block s) placed.ranges place.held in omega (arith, known, new)) rope.samples h)
    b.ropes placed.placed
