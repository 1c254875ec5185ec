-- What becomes of the blocks that frames hold, as a window comes and as those are forgotten that nothing uses; and which places the frames have then.
use Rattle.std.proofs.Common.{◌≡◌, ◌≢◌, ℕ, zero, suc, ◌+◌, ◌*◌, ◌/◌, ◌%◌, ◌<◌, ◌≤◌, ◌⊎◌, inl, inr, Bool, true, false, cond, List, [], ◌∷◌, ◌++◌, length, map, refl, sym, ◌∙◌, ap, ap₂, subst, arith, Option, Some, None}
use Rattle.std.specs.Prelude.{nat_lt, slice_get}
use Rattle.std.specs.List.{list_any}
use Rattle.std.proofs.lemmas.Bool.{lt-ltb}
use Rattle.std.proofs.lemmas.Nat.{div-mul-add}
use Rattle.std.proofs.Math.Nat.{mod-add-div'}
use Rattle.voice_units.specs.declared.pieces.Piece.{Piece}
use Rattle.voice_units.specs.Spots.{Spot, spots_from, spots_in, spots_of}
use Rattle.voice_model.specs.Valid.{Every}
use Rattle.playing.specs.declared.blocks.Block.{Block}
use Rattle.playing.specs.Frames.{FramesState, AreUsed, AreReady, IsReady, resident_at, is_resident, is_in, if_used, block_at}
use Rattle.playing.specs.Windows.{IsStretch, AreStretches}
use Rattle.playing.specs.Lanes.{IsSentTo}
use Rattle.playing.specs.Moved.{IsReplaced, Left, MovesBlocks}
use Rattle.playing.proofs.Bringing.{holder_found}
use Rattle.playing.proofs.Kept.{not_there}
use Rattle.playing.proofs.Forgotten.{kept_at, get_map}

-- ---- what came and what left

pub moves_same : (uses : ℕ → ℕ → ℕ) (block : ℕ) (window : List Piece) (s : List (Option Block)) → MovesBlocks uses block window s s
moves_same uses block window s = record { came = λ f d at. inl at; left = λ f d at. inl at }

-- a window came
pub moves_sent : (uses : ℕ → ℕ → ℕ) (block lane : ℕ) (window : List Piece) (old new : FramesState) → IsSentTo block window lane old new → MovesBlocks uses block window old.resident new.resident
moves_sent uses block lane window old new to = record { came = to.came; left = λ f d at. by f d (to.left f d at) }
  where
    by : (f : ℕ) (d : Block) → (resident_at new.resident f ≡ Some d) ⊎ ((e : Block) × (resident_at new.resident f ≡ Some e) × ((g : ℕ) → resident_at old.resident g ≢ Some e) × (list_any (is_in block d) window ≡ false)) → Left uses old.resident new.resident f d
    by f d (inl is) = inl is
    by f d (inr (e, is, none, free)) = inr (inl (e, is, not_there old.resident e none))

zero_of : (n : ℕ) → nat_lt 0 n ≡ false → n ≡ 0
zero_of zero e = refl
zero_of (suc n) e = let no : true ≡ false = sym (lt-ltb 0 (suc n) (omega arith)) ∙ e in cc

-- a block that is looked for once those are forgotten that nothing uses
used_or_not : (uses : ℕ → ℕ → ℕ) (d : Block) → (if_used uses (Some d) ≡ Some d) ⊎ (uses d.file d.index ≡ 0)
used_or_not uses d = by (nat_lt 0 (uses d.file d.index)) refl
  where
    by : (t : Bool) → nat_lt 0 (uses d.file d.index) ≡ t → (cond (nat_lt 0 (uses d.file d.index)) (Some d) None ≡ Some d) ⊎ (uses d.file d.index ≡ 0)
    by true e = inl (ap (λ t. cond t (Some d) None) e)
    by false e = inr (zero_of (uses d.file d.index) e)

pub still_at : (uses : ℕ → ℕ → ℕ) (old new : List (Option Block)) (f : ℕ) (d : Block) → new ≡ map (if_used uses) old → resident_at old f ≡ Some d → (resident_at new f ≡ Some d) ⊎ (uses d.file d.index ≡ 0)
still_at uses old new f d is at = by (used_or_not uses d)
  where
    by : (if_used uses (Some d) ≡ Some d) ⊎ (uses d.file d.index ≡ 0) → (resident_at new f ≡ Some d) ⊎ (uses d.file d.index ≡ 0)
    by (inl kept) = inl (ap (λ l. resident_at l f) is ∙ get_map uses old f ∙ ap (if_used uses) at ∙ kept)
    by (inr none) = inr none

-- those were forgotten that nothing uses
pub moves_forgot : (uses : ℕ → ℕ → ℕ) (block : ℕ) (window : List Piece) (old new : List (Option Block)) → new ≡ map (if_used uses) old → MovesBlocks uses block window old new
moves_forgot uses block window old new is = record {
  came = λ f d at. inl (kept_at uses old new f d is at).0;
  left = λ f d at. by f d (still_at uses old new f d is at);
}
  where
    by : (f : ℕ) (d : Block) → (resident_at new f ≡ Some d) ⊎ (uses d.file d.index ≡ 0) → Left uses old new f d
    by f d (inl there) = inl there
    by f d (inr none) = inr (inr none)

no_uses : (n : ℕ) → 0 < n → n ≡ 0 → ⊥
no_uses n some none = absurd (omega (arith, some, none))

-- a window came whose blocks are used, and then those were forgotten that nothing uses
pub moves_kept : (uses : ℕ → ℕ → ℕ) (block : ℕ) (window : List Piece) (old new : List (Option Block)) (mid : FramesState) → AreUsed uses mid → new ≡ map (if_used uses) mid.resident → MovesBlocks uses block window old mid.resident → MovesBlocks uses block window old new
moves_kept uses block window old new mid used is moves = record {
  came = λ f d at. moves.came f d (kept_at uses mid.resident new f d is at).0;
  left = λ f d at. by f d (moves.left f d at);
}
  where
    there : (f : ℕ) (d : Block) → resident_at mid.resident f ≡ Some d → (resident_at new f ≡ Some d) ⊎ (uses d.file d.index ≡ 0) → resident_at new f ≡ Some d
    there f d at (inl is_there) = is_there
    there f d at (inr none) = absurd (no_uses (uses d.file d.index) (used f d at) none)

    by : (f : ℕ) (d : Block) → Left uses old mid.resident f d → Left uses old new f d
    by f d (inl at) = inl (there f d at (still_at uses mid.resident new f d is at))
    by f d (inr (inl (e, at, free))) = inr (inl (e, there f e at (still_at uses mid.resident new f e is at), free))
    by f d (inr (inr none)) = inr (inr none)

-- ---- the places of a window

every_map : {A : Type 0} (P Q : A → Type 0) (xs : List A) → ((x : A) → P x → Q x) → Every P xs → Every Q xs
every_map P Q [] to h = tt
every_map P Q (x ∷ xs) to h = (to x h.0, every_map P Q xs to h.1)

every_append : {A : Type 0} (P : A → Type 0) (xs ys : List A) → Every P xs → Every P ys → Every P (xs ++ ys)
every_append P [] ys a b = b
every_append P (x ∷ xs) ys a b = (a.0, every_append P xs ys a.1 b)

-- places in one block
in_block : (block file q n from a : ℕ) → from ≡ q * block + a → a + n ≤ block → Every (λ (x : Spot). (x.file ≡ file) × (x.place / block ≡ q)) (spots_from file from n)
in_block block file q zero from a at fits = tt
in_block block file q (suc n) from a at fits =
    let low : a < block = omega (arith, fits) in
    ((refl, ap (λ m. m / block) at ∙ div-mul-add q block a low), in_block block file q n (from + 1) (a + 1) (omega (arith, at)) (omega (arith, fits)))

-- a frame holds the block of a place
abbrev pub IsHeldAt : ℕ → List (Option Block) → Spot → Type 0
IsHeldAt block resident x = is_resident resident x.file (x.place / block) ≡ true

held_stretch : (block : ℕ) (resident : List (Option Block)) (x : Piece) → IsStretch block x → IsReady block resident x → Every (IsHeldAt block resident) (spots_in x)
held_stretch block resident x stretch ready =
    let whole : x.from ≡ x.from / block * block + x.from % block = sym (let e = mod-add-div' x.from block in let f : x.from / block * block + x.from % block ≡ x.from = omega (arith, e) in f) in
    every_map (λ (s : Spot). (s.file ≡ x.file) × (s.place / block ≡ x.from / block)) (IsHeldAt block resident) (spots_in x)
    (λ s is. ap₂ (λ f i. is_resident resident f i) is.0 is.1 ∙ holder_found resident ready.0 (block_at block x) ready.1)
    (in_block block x.file (x.from / block) x.len x.from (x.from % block) whole stretch.inside)

-- frames hold the blocks of all places of a window that is ready
pub held_window : (block : ℕ) (resident : List (Option Block)) (window : List Piece) → AreStretches block window → AreReady block resident window (length window) → Every (IsHeldAt block resident) (spots_of window)
held_window block resident [] stretches ready = tt
held_window block resident (x ∷ window) stretches ready =
    every_append (IsHeldAt block resident) (spots_in x) (spots_of window) (held_stretch block resident x stretches.0 (ready 0 x (omega arith) refl))
    (held_window block resident window stretches.1 (λ j s less at. ready (suc j) s (omega (arith, less)) at))
