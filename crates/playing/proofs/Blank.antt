-- What new frames keep.
use Rattle.std.proofs.Common.{◌≡◌, ℕ, zero, suc, ◌*◌, ◌%◌, ◌<◌, ◌≤◌, List, [], length, get_or, replicate, sym, ◌∙◌, ap, subst, arith, Option, Some, None, refl}
use Rattle.std.proofs.lemmas.List.{length-replicate}
use Rattle.frame_pool.specs.declared.views.Part.{Part}
use Rattle.frame_pool.specs.declared.views.LaneState.{LaneState}
use Rattle.frame_pool.specs.Rule.{idle_lane}
use Rattle.frame_pool.specs.Steps.{lane_at, parts_of}
use Rattle.frame_pool.specs.Pool.{KeeperState, lanes_of, block_of}
use Rattle.playing.specs.declared.blocks.Block.{Block}
use Rattle.playing.specs.Frames.{IsFrames, read_by, resident_at}

module _ {A : Type 0} where
  pub alike : (n i : ℕ) (x : A) → get_or (replicate n x) i x ≡ x
  alike zero i x = refl
  alike (suc n) zero x = refl
  alike (suc n) (suc i) x = alike n i x

  among : (n i : ℕ) (x d : A) → i < n → get_or (replicate n x) i d ≡ x
  among zero i x d low = absurd (omega arith)
  among (suc n) zero x d low = refl
  among (suc n) (suc i) x d low = among n i x d (omega arith)

pub frames_new : (k : KeeperState) (lanes block room : ℕ) (resident : List (Option Block)) (readers : List (List Part))
    → (1 ≤ lanes) × (lanes ≤ 16) → (block % 8 ≡ 0) × (8 ≤ block) × (block ≤ 8192) → (lanes_of k ≡ lanes) × (block_of k ≡ block)
    → k.frames ≡ replicate (4 * lanes) (replicate block 0) → ((l : ℕ) → lane_at k.view l ≡ idle_lane)
    → resident ≡ replicate (4 * lanes) None → readers ≡ replicate lanes [] → room ≡ block
    → IsFrames k resident readers room
frames_new k lanes block room resident readers some sized sizes frames idle none unread long = record {
  sized = record {
    some_lanes = omega (arith, sizes.0, some.0);
    few_lanes = omega (arith, sizes.0, some.1);
    whole_words = ap (λ n. n % 8) sizes.1 ∙ sized.0;
    some_block = omega (arith, sizes.1, sized.1);
    small_block = omega (arith, sizes.1, sized.2);
  };
  frames = count ∙ ap (λ n. 4 * n) (sym sizes.0);
  lanes = ap (λ l. length l) unread ∙ length-replicate lanes [] ∙ sym sizes.0;
  known = λ l low. ap (λ (d : LaneState). parts_of d.stage) (idle l) ∙ sym (unread_at l);
  few = λ l. subst (λ (ps : List Part). length ps ≤ 4) (sym (unread_at l)) (omega arith);
  low = λ l far. ap (λ (d : LaneState). d.stage) (idle l);
  unreserved = λ l ps e. let f = sym (ap (λ (d : LaneState). d.stage) (idle l)) ∙ e in cc;
  once = λ f g b p q. let e : None ≡ Some b = sym (alike (4 * lanes) f None) ∙ ap (λ l. resident_at l f) (sym none) ∙ p in absurd (cc);
  room_is = long ∙ sym sizes.1;
  whole = λ f low. ap (λ (l : List (List ℕ)). length (get_or l f [])) frames ∙ ap (λ l. length l) (among (4 * lanes) f (replicate block 0) [] (omega (arith, low, count))) ∙ length-replicate block 0 ∙ sym sizes.1;
}
  where
    count : length resident ≡ 4 * lanes
    count = ap (λ l. length l) none ∙ length-replicate (4 * lanes) None

    unread_at : (l : ℕ) → read_by readers l ≡ []
    unread_at l = ap (λ r. read_by r l) unread ∙ alike lanes l []
