-- Lists as loops go over them.
use Rattle.std.proofs.Common.{◌≡◌, ℕ, zero, suc, ◌+◌, ◌<◌, Bool, true, false, ◌||◌, List, [], ◌∷◌, ◌++◌, map, length, take, get_or, Some, refl, sym, ◌∙◌, ap, subst, arith}
use Rattle.std.proofs.lemmas.List.{map-append}
use Rattle.std.specs.Prelude.{slice_get}
use Rattle.std.specs.List.{list_any}
use Rattle.std.specs.BTreeMap.{is_at}
use Rattle.std.specs.BTreeSet.{BTreeSet}
use Rattle.voice_units.specs.Spots.{spots_of}
use Rattle.voice_units.specs.Blocks.{BlockPair, pairs_at, has_pair}
use Rattle.voice_model.specs.Replay.{Placed}
use Rattle.voice_model.specs.Valid.{Every}
use Rattle.rope_table.specs.declared.ropes.Rope.{Rope}
use Rattle.rope_table.proofs.Blocks.{has_pair-append}
use Rattle.voice_blocks.specs.Holders.{Holders, holder_at, block_of}
use Rattle.voice_blocks.specs.declared.owner.Owner.TheVariants.{File}
use Rattle.checkpoint.specs.declared.blocks.BlockName.{BlockName}
use Rattle.checkpoint.specs.declared.files.PlacedBlock.{PlacedBlock}
use Rattle.checkpoint.specs.Blocks.{IsHeld, name_cmp, is_noted, name_of, names_of, place_of_block, spots_in_ropes}

-- ---- one element more

pub take_get : {A : Type 0} (xs : List A) (k : ℕ) (x : A) → slice_get xs k ≡ Some x → take (k + 1) xs ≡ take k xs ++ x ∷ []
take_get [] k x e = cc
take_get (y ∷ ys) zero x e = let same : y ≡ x = cc in ap (λ z. z ∷ []) same
take_get (y ∷ ys) (suc k) x e =
    let next : suc k + 1 ≡ suc (k + 1) = omega arith in
    ap (λ n. take n (y ∷ ys)) next ∙ ap (λ l. y ∷ l) (take_get ys k x e)

pub take_mapped : {A B : Type 0} (f : A → B) (xs : List A) (k : ℕ) (x : A) → slice_get xs k ≡ Some x → map f (take (k + 1) xs) ≡ map f (take k xs) ++ f x ∷ []
take_mapped f xs k x e = ap (map f) (take_get xs k x e) ∙ map-append f (take k xs) (x ∷ [])

pub every_get : {A B : Type 0} (P : B → Type 0) (f : A → B) (xs : List A) (k : ℕ) (x : A) → Every P (map f xs) → slice_get xs k ≡ Some x → P (f x)
every_get P f [] k x h e = cc
every_get P f (y ∷ ys) zero x h e = let same : y ≡ x = cc in subst (λ z. P (f z)) same h.0
every_get P f (y ∷ ys) (suc k) x h e = every_get P f ys k x h.1 e

pub every_here : {A : Type 0} (P : A → Type 0) (xs : List A) (k : ℕ) (x : A) → Every P xs → slice_get xs k ≡ Some x → P x
every_here P [] k x h e = cc
every_here P (y ∷ ys) zero x h e = let same : y ≡ x = cc in subst P same h.0
every_here P (y ∷ ys) (suc k) x h e = every_here P ys k x h.1 e

-- ---- the places of names

-- the place of a name
pub record IsPlaceOf (places : List Placed) (k : ℕ) (name : BlockName) : Type 0 where
  pub place : Placed
  pub at : slice_get places k ≡ Some place
  pub same : name ≡ name_of place.pair

pub place_named : (places : List Placed) (k : ℕ) (name : BlockName) → k < length (names_of places) → name ≡ get_or (names_of places) k name → IsPlaceOf places k name
place_named [] k name within e = absurd (omega (arith, within))
place_named (p ∷ ps) zero name within e = record { place = p; at = refl; same = e }
place_named (p ∷ ps) (suc k) name within e =
    let rest = place_named ps k name (omega (arith, within)) e in
    record { place = rest.place; at = rest.at; same = rest.same }

-- a name's address is that of its place
pub next_place : (holders : Holders) (places : List Placed) (names : List BlockName) (name : BlockName) (k a : ℕ) (done more : List PlacedBlock) → names ≡ names_of places → Every (IsHeld holders) places → k < length names → name ≡ get_or names k name
    → ((b : ℕ) → holder_at holders b ≡ Some (block_of (File name.file) name.index) → b ≡ a) → map place_of_block done ≡ take k places → more ≡ done ++ record { file = name.file; index = name.index; address = a } ∷ [] → map place_of_block more ≡ take (k + 1) places
next_place holders places names name k a done more same held within is only so_far pushed =
    let one = place_named places k name (subst (λ (l : List BlockName). k < length l) same within) (subst (λ (l : List BlockName). name ≡ get_or l k name) same is) in
    let file : name.file ≡ one.place.pair.file = ap (λ (n : BlockName). n.file) one.same in
    let index : name.index ≡ one.place.pair.index = ap (λ (n : BlockName). n.index) one.same in
    let here = every_here (IsHeld holders) places k one.place held one.at in
    let address : one.place.address ≡ a = only one.place.address (here ∙ ap (λ (n : BlockName). Some (block_of (File n.file) n.index)) (sym one.same)) in
    let made : place_of_block (record { file = name.file; index = name.index; address = a }) ≡ one.place = λ i. record { pair = record { file = file i; index = index i }; address = sym address i } in
    ap (map place_of_block) pushed
    ∙ map-append place_of_block done (record { file = name.file; index = name.index; address = a } ∷ [])
    ∙ ap (λ l. l ++ place_of_block (record { file = name.file; index = name.index; address = a }) ∷ []) so_far
    ∙ ap (λ p. take k places ++ p ∷ []) made
    ∙ sym (take_get places k one.place one.at)

-- a name of a place has an address
pub no_place : (holders : Holders) (places : List Placed) (names : List BlockName) (name : BlockName) (k : ℕ) → names ≡ names_of places → Every (IsHeld holders) places → k < length names → name ≡ get_or names k name → ((b : ℕ) → ¬ (holder_at holders b ≡ Some (block_of (File name.file) name.index))) → ⊥
no_place holders places names name k same held within is absent =
    let one = place_named places k name (subst (λ (l : List BlockName). k < length l) same within) (subst (λ (l : List BlockName). name ≡ get_or l k name) same is) in
    absent one.place.address (every_here (IsHeld holders) places k one.place held one.at ∙ ap (λ (n : BlockName). Some (block_of (File n.file) n.index)) (sym one.same))

-- ---- the blocks of ropes

or_assoc : (a b c : Bool) → ((a || b) || c) ≡ (a || (b || c))
or_assoc true b c = refl
or_assoc false b c = refl

pub or_none : (b : Bool) → b ≡ (b || false)
or_none true = refl
or_none false = refl

pub noted_more : (block : ℕ) (rope : Rope) (rest : List Rope) (q : BlockPair) (was is : Bool) → is ≡ (was || has_pair (pairs_at block (spots_of rope.pieces)) q) → (is || has_pair (pairs_at block (spots_in_ropes rest)) q) ≡ (was || has_pair (pairs_at block (spots_in_ropes (rope ∷ rest))) q)
noted_more block rope rest q was is e =
    ap (λ b. b || has_pair (pairs_at block (spots_in_ropes rest)) q) e
    ∙ or_assoc was (has_pair (pairs_at block (spots_of rope.pieces)) q) (has_pair (pairs_at block (spots_in_ropes rest)) q)
    ∙ ap (λ b. was || b) (sym (has_pair-append block (spots_of rope.pieces) (spots_in_ropes rest) q))

pub none_noted : (noted : BTreeSet BlockName) (q : BlockPair) → noted.keys ≡ [] → is_noted noted q ≡ false
none_noted noted q e = ap (λ (names : List BlockName). list_any (is_at (name_cmp (name_of q))) names) e
