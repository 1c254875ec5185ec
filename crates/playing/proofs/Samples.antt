-- The samples of a lease are those of its window.
use Rattle.std.proofs.Common.{◌≡◌, ℕ, zero, suc, ◌+◌, ◌-◌, ◌*◌, ◌/◌, ◌%◌, ◌<◌, ◌≤◌, Bool, true, false, ◌&&◌, not, cond, ◌==◌, List, [], ◌∷◌, ◌++◌, length, map, take, drop, refl, sym, ◌∙◌, ap, ap₂, subst, arith, Option, Some, None, get_or}
use Rattle.std.proofs.lemmas.Bool.{eqb-true, eq-eqb}
use Rattle.std.specs.List.{flat_map, range_with_len}
use Rattle.std.proofs.lemmas.List.{length-map, map-append}
use Rattle.std.proofs.lemmas.List.Sums.{sum_by-cons}
use Rattle.std.proofs.Math.Seq.{drop-cons}
use Rattle.std.proofs.lemmas.List.FromFn.{length-range_with_len}
use Rattle.std.proofs.lemmas.Nat.{mod-mul-add, div-mul-add}
use Rattle.std.proofs.Math.Nat.{mod-add-div', mod-lt}
use Rattle.voice_units.specs.declared.pieces.Piece.{Piece}
use Rattle.voice_units.specs.Spots.{Spot, spots_from, spots_in, spots_of, samples_in, slice, in_front, lone, longer, comes_before, begins_block, stretches, window}
use Rattle.voice_units.proofs.PiecesOfRopes.{both, joins, length-spots_from, spots_of-runs}
use Rattle.frame_pool.specs.declared.views.Part.{Part}
use Rattle.frame_pool.specs.declared.views.Sizes.{Sizes}
use Rattle.frame_pool.specs.Words.{total}
use Rattle.frame_pool.specs.Pool.{KeeperState, AreParts, block_of, frame_of, stretch_of}
use Rattle.playing.specs.declared.blocks.Block.{Block}
use Rattle.playing.specs.Frames.{FramesState, HoldsBytes, resident_at, block_at}
use Rattle.playing.specs.Windows.{byte_in, IsStretch, AreStretches, IsPartOf, ArePartsOf}

-- ---- a stretch in its frame

run : (bytes : ℕ → ℕ → List ℕ) (block file q : ℕ) (bs : List ℕ) (n from a : ℕ) → bytes file q ≡ bs → from ≡ q * block + a → a + n ≤ block → length bs ≡ block → take n (drop a bs) ≡ map (byte_in bytes block) (spots_from file from n)
run bytes block file q bs zero from a is at fits long = refl
run bytes block file q bs (suc n) from a is at fits long =
    let low : a < block = omega arith in
    let here : from / block ≡ q = ap (λ m. m / block) at ∙ div-mul-add q block a low in
    let there : from % block ≡ a = ap (λ m. m % block) at ∙ mod-mul-add q block a low in
    let first : get_or bs a 0 ≡ byte_in bytes block (record { file = file; place = from }) =
    ap (λ l. get_or l a 0) (sym is) ∙ ap₂ (λ i k. get_or (bytes file i) k 0) (sym here) (sym there) in
    let later = run bytes block file q bs n (from + 1) (a + 1) is (omega (arith, at)) (omega arith) long in
    ap (take (suc n)) (drop-cons bs a 0 (omega arith))
    ∙ ap₂ (λ x l. x ∷ take n l) first (ap (λ k. drop k bs) (let e : suc a ≡ a + 1 = omega arith in e))
    ∙ ap (λ l. byte_in bytes block (record { file = file; place = from }) ∷ l) later

-- an entry that is there lies in its list
pub held_low : {A : Type 0} (xs : List (Option A)) (f : ℕ) (x : A) → get_or xs f None ≡ Some x → f < length xs
held_low [] f x at = cc
held_low (o ∷ xs) zero x at = omega arith
held_low (o ∷ xs) (suc f) x at = let low = held_low xs f x at in omega arith

-- each frame has the bytes of a block
abbrev pub AreWhole : FramesState → Type 0
AreWhole s = (f : ℕ) → f < length s.resident → length (frame_of s.keeper f) ≡ block_of s.keeper

pub stretch_samples : (bytes : ℕ → ℕ → List ℕ) (s : FramesState) (x : Piece) (p : Part) → AreWhole s → HoldsBytes bytes s → 0 < block_of s.keeper → IsStretch (block_of s.keeper) x → IsPartOf (block_of s.keeper) s.resident x p → stretch_of s.keeper p ≡ map (byte_in bytes (block_of s.keeper)) (spots_in x)
stretch_samples bytes s x p whole_frames holds some stretch part =
    let block = block_of s.keeper in
    let is : frame_of s.keeper p.frame ≡ bytes x.file (x.from / block) = holds p.frame (block_at block x) part.held in
    let whole : x.from ≡ x.from / block * block + x.from % block = sym (let e = mod-add-div' x.from block in let f : x.from / block * block + x.from % block ≡ x.from = omega (arith, e) in f) in
    ap₂ (λ a n. take (a + n - a) (drop a (frame_of s.keeper p.frame))) part.from part.len
    ∙ ap (λ n. take n (drop (x.from % block) (frame_of s.keeper p.frame))) (let e : x.from % block + x.len - x.from % block ≡ x.len = omega arith in e)
    ∙ run bytes block x.file (x.from / block) (frame_of s.keeper p.frame) x.len x.from (x.from % block) (sym is) whole stretch.inside (whole_frames p.frame (held_low s.resident p.frame (block_at block x) part.held))

-- the samples of the parts of a window
pub window_samples : (bytes : ℕ → ℕ → List ℕ) (s : FramesState) (xs : List Piece) (ps : List Part) → AreWhole s → HoldsBytes bytes s → 0 < block_of s.keeper → AreStretches (block_of s.keeper) xs → ArePartsOf (block_of s.keeper) s.resident xs ps → flat_map (stretch_of s.keeper) ps ≡ map (byte_in bytes (block_of s.keeper)) (spots_of xs)
window_samples bytes s [] [] whole holds some stretches parts = refl
window_samples bytes s [] (p ∷ ps) whole holds some stretches parts = absurd parts
window_samples bytes s (x ∷ xs) [] whole holds some stretches parts = absurd parts
window_samples bytes s (x ∷ xs) (p ∷ ps) whole holds some stretches parts =
    ap₂ (λ a b. a ++ b) (stretch_samples bytes s x p whole holds some stretches.0 parts.0) (window_samples bytes s xs ps whole holds some stretches.1 parts.1)
    ∙ sym (map-append (byte_in bytes (block_of s.keeper)) (spots_in x) (spots_of xs))

-- ---- the stretches of a window

-- the next place is in the same block unless a block begins there
next_place : (block place : ℕ) → 0 < block → begins_block block (place + 1) ≡ false → (place + 1) % block ≡ place % block + 1
next_place block place some free =
    let q = place / block in
    let r = place % block in
    let low : r < block = mod-lt place some in
    let whole : place ≡ q * block + r = sym (let e = mod-add-div' place block in let f : q * block + r ≡ place = omega (arith, e) in f) in
    let next : place + 1 ≡ q * block + (r + 1) = omega (arith, whole) in
    either (r + 1 == block) refl q r refl low next
  where
    no : {t : Bool} → t ≡ true → t ≡ false → ⊥
    no x y = cc

    either : (t : Bool) → (place % block + 1 == block) ≡ t → (q r : ℕ) → r ≡ place % block → r < block → place + 1 ≡ q * block + (r + 1) → (place + 1) % block ≡ place % block + 1
    either true e q r same low next =
        let full : place % block + 1 ≡ block = eqb-true (place % block + 1) block e in
        let at : place + 1 ≡ (q + 1) * block + 0 = next ∙ (let f : q * block + (r + 1) ≡ q * block + block = omega (arith, full, same) in f) ∙ (let f : q * block + block ≡ (q + 1) * block + 0 = omega arith in f) in
        let begins : (place + 1) % block ≡ 0 = ap (λ n. n % block) at ∙ mod-mul-add (q + 1) block 0 some in
        absurd (no (eq-eqb ((place + 1) % block) 0 begins) free)
    either false e q r same low next =
        let less : r + 1 < block = below (place % block + 1) block e (r + 1) (ap (λ n. n + 1) same) (omega arith) in
        ap (λ n. n % block) next ∙ mod-mul-add q block (r + 1) less ∙ ap (λ n. n + 1) same
      where
        below : (a b : ℕ) → (a == b) ≡ false → (c : ℕ) → c ≡ a → c ≤ b → c < b
        below a b e c same le = grind (arith, λ (k : a ≡ b). no (eq-eqb a b k) e)

in_front_stretch : (block : ℕ) (s : Spot) (ps : List Piece) → 0 < block → AreStretches block ps → AreStretches block (in_front (begins_block block) s ps)
in_front_stretch block s [] some h = (record { some = omega arith; inside = let low = mod-lt s.place some in omega (arith, low) }, tt)
in_front_stretch block s (p ∷ ps) some h = either (comes_before s p && not (begins_block block p.from)) refl
  where
    alone : IsStretch block (lone s)
    alone = record { some = omega arith; inside = let low = mod-lt s.place some in omega (arith, low) }

    no : (b : Bool) → not b ≡ true → b ≡ false
    no true e = cc
    no false e = refl

    either : (t : Bool) → (comes_before s p && not (begins_block block p.from)) ≡ t → AreStretches block (cond t (longer s p ∷ ps) (lone s ∷ p ∷ ps))
    either false e = (alone, h)
    either true e =
        let two = both (comes_before s p) (not (begins_block block p.from)) e in
        let goes : s.place + 1 ≡ p.from = (joins s p two.0).1 in
        let inside : begins_block block (s.place + 1) ≡ false = ap (begins_block block) goes ∙ no (begins_block block p.from) two.1 in
        let here = next_place block s.place some inside in
        let there : p.from % block ≡ s.place % block + 1 = ap (λ n. n % block) (sym goes) ∙ here in
        (record { some = omega arith; inside = omega (arith, there, h.0.inside) }, h.1)

pub stretches_are : (block : ℕ) (ss : List Spot) → 0 < block → AreStretches block (stretches block ss)
stretches_are block [] some = tt
stretches_are block (s ∷ ss) some = in_front_stretch block s (stretches block ss) some (stretches_are block ss some)

pub take_stretches : (block n : ℕ) (xs : List Piece) → AreStretches block xs → AreStretches block (take n xs)
take_stretches block zero xs h = tt
take_stretches block (suc n) [] h = tt
take_stretches block (suc n) (x ∷ xs) h = (h.0, take_stretches block n xs h.1)

take_length : {A : Type 0} (xs ys : List A) (n : ℕ) → take (length xs + n) (xs ++ ys) ≡ xs ++ take n ys
take_length [] ys n = ap (λ k. take k ys) (let e : 0 + n ≡ n = omega arith in e)
take_length (x ∷ xs) ys n = ap (λ k. take k (x ∷ (xs ++ ys))) (let e : suc (length xs) + n ≡ suc (length xs + n) = omega arith in e) ∙ ap (λ l. x ∷ l) (take_length xs ys n)

-- the places of the first pieces are the first places
pub first_spots : (k : ℕ) (xs : List Piece) → spots_of (take k xs) ≡ take (samples_in (take k xs)) (spots_of xs)
first_spots zero xs = refl
first_spots (suc k) [] = refl
first_spots (suc k) (x ∷ xs) =
    ap (λ l. spots_in x ++ l) (first_spots k xs)
    ∙ sym (take_length (spots_in x) (spots_of xs) (samples_in (take k xs)))
    ∙ ap (λ n. take (n + samples_in (take k xs)) (spots_in x ++ spots_of xs)) (length-spots_from x.file x.from x.len)

-- the places of a window's stretches are the next places of the passage
pub window_spots : (block heard : ℕ) (ss : List Spot) → spots_of (take 4 (stretches block (drop heard ss))) ≡ slice ss heard (window block ss heard)
window_spots block heard ss = first_spots 4 (stretches block (drop heard ss)) ∙ ap (take (window block ss heard)) (spots_of-runs (begins_block block) (drop heard ss))

-- ---- parts of frames

pub parts_more : (block : ℕ) (resident : List (Option Block)) (xs : List Piece) (ps : List Part) (x : Piece) (p : Part) → ArePartsOf block resident xs ps → IsPartOf block resident x p → ArePartsOf block resident (xs ++ x ∷ []) (ps ++ p ∷ [])
parts_more block resident [] [] x p h one = (one, tt)
parts_more block resident [] (q ∷ ps) x p h one = absurd h
parts_more block resident (y ∷ xs) [] x p h one = absurd h
parts_more block resident (y ∷ xs) (q ∷ ps) x p h one = (h.0, parts_more block resident xs ps x p h.1 one)

pub next_part : (block : ℕ) (resident : List (Option Block)) (window : List Piece) (n : ℕ) (ps : List Part) (x : Piece) (p : Part) → n < length window → x ≡ get_or window n x → ArePartsOf block resident (take n window) ps → IsPartOf block resident x p → ArePartsOf block resident (take (n + 1) window) (ps ++ p ∷ [])
next_part block resident window n ps x p low at h one = subst (λ (l : List Piece). ArePartsOf block resident l (ps ++ p ∷ [])) (sym (take_one window n x low at)) (parts_more block resident (take n window) ps x p h one)
  where
    take_one : (ys : List Piece) (n : ℕ) (x : Piece) → n < length ys → x ≡ get_or ys n x → take (n + 1) ys ≡ take n ys ++ x ∷ []
    take_one [] n x low at = absurd (omega arith)
    take_one (y ∷ ys) zero x low at = ap (λ z. z ∷ []) (sym at)
    take_one (y ∷ ys) (suc n) x low at = ap (λ k. take k (y ∷ ys)) (let e : suc n + 1 ≡ suc (n + 1) = omega arith in e) ∙ ap (λ l. y ∷ l) (take_one ys n x (omega arith) at)

pub parts_lie : (z : Sizes) (resident : List (Option Block)) (xs : List Piece) (ps : List Part) → length resident ≡ 4 * z.lanes → AreStretches z.block xs → ArePartsOf z.block resident xs ps → AreParts z ps
parts_lie z resident [] [] count stretches h = tt
parts_lie z resident [] (p ∷ ps) count stretches h = absurd h
parts_lie z resident (x ∷ xs) [] count stretches h = absurd h
parts_lie z resident (x ∷ xs) (p ∷ ps) count stretches h = (
  record {
    frame = let low = held_low resident p.frame (block_at z.block x) h.0.held in omega arith;
    filled = omega (arith, h.0.len, stretches.0.some);
    ends = omega (arith, h.0.from, h.0.len, stretches.0.inside);
  },
  parts_lie z resident xs ps count stretches.1 h.1,
)

pub parts_total : (block : ℕ) (resident : List (Option Block)) (xs : List Piece) (ps : List Part) → ArePartsOf block resident xs ps → (length ps ≡ length xs) × (total ps ≡ samples_in xs)
parts_total block resident [] [] h = (refl, refl)
parts_total block resident [] (p ∷ ps) h = absurd h
parts_total block resident (x ∷ xs) [] h = absurd h
parts_total block resident (x ∷ xs) (p ∷ ps) h =
    let rest = parts_total block resident xs ps h.1 in
    let sum = sum_by-cons (λ (p : Part). p.len) p ps in
    (omega (arith, rest.0), omega (arith, rest.1, h.0.len, sum))
