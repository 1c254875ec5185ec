-- Blocks that nothing uses are forgotten.
use Rattle.std.proofs.Common.{◌≡◌, ℕ, zero, suc, ◌<◌, ◌≤◌, Bool, true, false, cond, List, [], ◌∷◌, length, map, refl, sym, ◌∙◌, ap, subst, arith, Option, Some, None}
use Rattle.std.specs.Prelude.{nat_lt}
use Rattle.std.proofs.lemmas.List.{length-map}
use Rattle.std.proofs.lemmas.Bool.{ltb-true}
use Rattle.frame_pool.specs.declared.views.Part.{Part}
use Rattle.frame_pool.specs.Pool.{KeeperState, frame_of}
use Rattle.playing.specs.declared.blocks.Block.{Block}
use Rattle.playing.specs.Frames.{FramesState, IsFrames, HoldsBytes, resident_at, if_used}

-- the first n are gone over
pub record IsHalfUsed (uses : ℕ → ℕ → ℕ) (n : ℕ) (old new : List (Option Block)) : Type 0 where
  pub long : length new ≡ length old
  pub done : (f : ℕ) → f < n → resident_at new f ≡ if_used uses (resident_at old f)
  pub left : (f : ℕ) → n ≤ f → resident_at new f ≡ resident_at old f

all_alike : (uses : ℕ → ℕ → ℕ) (old new : List (Option Block)) → length new ≡ length old → ((f : ℕ) → f < length old → resident_at new f ≡ if_used uses (resident_at old f)) → new ≡ map (if_used uses) old
all_alike uses [] [] long h = refl
all_alike uses [] (y ∷ new) long h = absurd (omega (arith, long))
all_alike uses (x ∷ old) [] long h = absurd (omega (arith, long))
all_alike uses (x ∷ old) (y ∷ new) long h =
    let first : y ≡ if_used uses x = h 0 (omega arith) in
    ap (λ z. z ∷ new) first ∙ ap (λ l. if_used uses x ∷ l) (all_alike uses old new (omega (arith, long)) (λ f lt. h (suc f) (omega arith)))

pub all_used : (uses : ℕ → ℕ → ℕ) (n : ℕ) (old new : List (Option Block)) → IsHalfUsed uses n old new → length new ≤ n → new ≡ map (if_used uses) old
all_used uses n old new h all = all_alike uses old new h.long (λ f lt. h.done f (omega (arith, h.long, all)))

kept_by : (uses : ℕ → ℕ → ℕ) (o : Option Block) (b : Block) → if_used uses o ≡ Some b → (o ≡ Some b) × (0 < uses b.file b.index)
kept_by uses None b e = cc
kept_by uses (Some d) b e = either (nat_lt 0 (uses d.file d.index)) refl e
  where
    either : (t : Bool) → nat_lt 0 (uses d.file d.index) ≡ t → cond t (Some d) None ≡ Some b → (Some d ≡ Some b) × (0 < uses b.file b.index)
    either true h k = let same : d ≡ b = cc in (k, subst (λ (x : Block). 0 < uses x.file x.index) same (ltb-true 0 (uses d.file d.index) h))
    either false h k = cc

pub get_map : (uses : ℕ → ℕ → ℕ) (xs : List (Option Block)) (f : ℕ) → resident_at (map (if_used uses) xs) f ≡ if_used uses (resident_at xs f)
get_map uses [] f = refl
get_map uses (x ∷ xs) zero = refl
get_map uses (x ∷ xs) (suc f) = get_map uses xs f

pub kept_at : (uses : ℕ → ℕ → ℕ) (xs ys : List (Option Block)) (f : ℕ) (b : Block) → ys ≡ map (if_used uses) xs → resident_at ys f ≡ Some b → (resident_at xs f ≡ Some b) × (0 < uses b.file b.index)
kept_at uses xs ys f b is at = kept_by uses (resident_at xs f) b (sym (get_map uses xs f) ∙ ap (λ l. resident_at l f) (sym is) ∙ at)

pub frames_forgot : (uses : ℕ → ℕ → ℕ) (k : KeeperState) (xs ys : List (Option Block)) (readers : List (List Part)) (room : ℕ) → IsFrames k xs readers room → ys ≡ map (if_used uses) xs → IsFrames k ys readers room
frames_forgot uses k xs ys readers room h is = record {
  sized = h.sized;
  frames = ap (λ l. length l) is ∙ length-map xs (if_used uses) ∙ h.frames;
  lanes = h.lanes;
  known = h.known;
  few = h.few;
  low = h.low;
  unreserved = h.unreserved;
  once = λ f g b p q. h.once f g b (kept_at uses xs ys f b is p).0 (kept_at uses xs ys g b is q).0;
  room_is = h.room_is;
  whole = λ f near. h.whole f (omega (arith, near, ap (λ l. length l) is, length-map xs (if_used uses)));
}

pub bytes_forgot : (uses : ℕ → ℕ → ℕ) (bytes : ℕ → ℕ → List ℕ) (inside self : FramesState) (ys : List (Option Block)) → inside ≡ self → ys ≡ map (if_used uses) inside.resident → HoldsBytes bytes self → (f : ℕ) (b : Block) → resident_at ys f ≡ Some b → frame_of inside.keeper f ≡ bytes b.file b.index
bytes_forgot uses bytes inside self ys same is was f b at = subst (HoldsBytes bytes) (sym same) was f b (kept_at uses inside.resident ys f b is at).0
