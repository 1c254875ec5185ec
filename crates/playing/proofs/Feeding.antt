-- A lane is fed after its lease came back.
use Rattle.std.proofs.Common.{◌≡◌, ◌≢◌, ℕ, ◌⊎◌, inl, inr, true, false, List, sym, ◌∙◌, ap, Some}
use Rattle.std.specs.List.{list_any}
use Rattle.voice_units.specs.declared.pieces.Piece.{Piece}
use Rattle.playing.specs.declared.blocks.Block.{Block}
use Rattle.playing.specs.Frames.{FramesState, ChangesLaneAlone, resident_at, is_in}
use Rattle.playing.specs.Lanes.{IsSentTo}

pub sent_after : (block : ℕ) (w : List Piece) (lane : ℕ) (s0 s1 s2 : FramesState) → ChangesLaneAlone s0 s1 lane → IsSentTo block w lane s1 s2 → IsSentTo block w lane s0 s2
sent_after block w lane s0 s1 s2 k h = record {
  pool = h.pool ∙ k.keeper.pool;
  others = λ l ne. h.others l ne ∙ k.keeper.others l ne;
  came = λ f d at. elim (h.came f d at) as (λ x. (resident_at s0.resident f ≡ Some d) ⊎ (list_any (is_in block d) w ≡ true)) [ inl was ↦ inl (ap (λ r. resident_at r f) (sym k.resident) ∙ was) | inr wanted ↦ inr wanted ];
  left = λ f d at. left_by f d (h.left f d (ap (λ r. resident_at r f) k.resident ∙ at));
}
  where
    left_by : (f : ℕ) (d : Block) → (resident_at s2.resident f ≡ Some d) ⊎ ((e : Block) × (resident_at s2.resident f ≡ Some e) × ((g : ℕ) → resident_at s1.resident g ≢ Some e) × (list_any (is_in block d) w ≡ false)) → (resident_at s2.resident f ≡ Some d) ⊎ ((e : Block) × (resident_at s2.resident f ≡ Some e) × ((g : ℕ) → resident_at s0.resident g ≢ Some e) × (list_any (is_in block d) w ≡ false))
    left_by f d (inl is) = inl is
    left_by f d (inr (e, is, none, free)) = inr (e, is, (λ g there. none g (ap (λ r. resident_at r g) k.resident ∙ there)), free)
