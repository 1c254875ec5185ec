-- Addresses that are taken for a moment were free.
use Rattle.std.proofs.Common.{◌≡◌, ℕ, zero, suc, ◌+◌, ◌<◌, ◌==◌, Bool, true, false, cond, not, ◌&&◌, ◌||◌, nat_lt, List, [], ◌∷◌, ◌++◌, length, Option, Some, None, refl, sym, ◌∙◌, ap, arith}
use Rattle.std.specs.List.{list_all}
use Rattle.std.proofs.lemmas.Bool.{eqb-true, lt-ltb}
use Rattle.voice_units.specs.Blocks.{has_pair}
use Rattle.voice_model.specs.State.{among}
use Rattle.voice_model.specs.Valid.{Every}
use Rattle.voice_model.specs.Replay.{Placed, Rebuilt, all_differ, has_address, is_free_address, used_pairs}
use Rattle.voice_blocks.specs.declared.owner.Holder.{Holder}
use Rattle.voice_blocks.specs.declared.owner.Owner.TheVariants.{File}
use Rattle.voice_blocks.specs.Holders.{Holders, EachBecomes, holder_at, block_of, next_index, with_taken, without_owner}
use Rattle.voice_blocks.proofs.TakeLemmas.{next_index-le}
use Rattle.recovery.specs.declared.parts.Parts.{Parts}
use Rattle.recovery.specs.Shown.{Rebuilds, placed_at}
use Rattle.recovery.proofs.Rebuilding.{filter_all}
use Rattle.mirror_tables.specs.Beside.{AreFree}
use Rattle.mirror_tables.specs.Taken.{for_now, HoldsNone, AreHeld, IsOpen, AreOpen}

-- ---- the owner has no block before

placed_apart : (places : List Placed) (a : ℕ) → without_owner for_now (placed_at places a) ≡ placed_at places a
placed_apart [] a = refl
placed_apart (p ∷ places) a = by (p.address == a) (placed_at places a) (placed_apart places a)
  where
    by : (b : Bool) (v : Option Holder) → without_owner for_now v ≡ v → without_owner for_now (cond b (Some (block_of (File p.pair.file) p.pair.index)) v) ≡ cond b (Some (block_of (File p.pair.file) p.pair.index)) v
    by true v e = refl
    by false v e = e

-- parts that show something hold blocks of files alone
pub none_ours : (parts : Parts) (b : Rebuilt) → Rebuilds parts b → HoldsNone parts.blocks.holders
none_ours parts b h = λ a. ap (without_owner for_now) (h.places.each a) ∙ placed_apart b.places a ∙ sym (h.places.each a)

not_ours : (hs : Holders) → HoldsNone hs → (a index : ℕ) → ¬ (holder_at hs a ≡ Some (block_of for_now index))
not_ours hs none a index e = let bad : None ≡ Some (block_of for_now index) = sym (ap (without_owner for_now) e) ∙ none a ∙ e in cc

pub from_zero : (hs : Holders) → HoldsNone hs → next_index for_now hs ≡ 0
from_zero hs none = let least = next_index-le for_now hs 0 (λ a index e. absurd (not_ours hs none a index e)) in omega (arith, least)

-- ---- the owner takes some, and gives them back

pub taken_length : (from n : ℕ) (hs : Holders) → length (with_taken for_now from n hs) ≡ length hs
taken_length from zero hs = refl
taken_length from (suc n) [] = refl
taken_length from (suc n) (None ∷ hs) = ap suc (taken_length (suc from) n hs)
taken_length from (suc n) (Some h ∷ hs) = ap suc (taken_length from (suc n) hs)

pub taken_back : (from n : ℕ) (hs : Holders) → HoldsNone hs → (a : ℕ) → without_owner for_now (holder_at (with_taken for_now from n hs) a) ≡ holder_at hs a
taken_back from zero hs none a = none a
taken_back from (suc n) [] none a = refl
taken_back from (suc n) (None ∷ hs) none zero = refl
taken_back from (suc n) (None ∷ hs) none (suc a) = taken_back (suc from) n hs (λ b. none (suc b)) a
taken_back from (suc n) (Some h ∷ hs) none zero = none 0
taken_back from (suc n) (Some h ∷ hs) none (suc a) = taken_back from (suc n) hs (λ b. none (suc b)) a

taken_open : (from n : ℕ) (hs : Holders) → HoldsNone hs → (a index : ℕ) → holder_at (with_taken for_now from n hs) a ≡ Some (block_of for_now index) → IsOpen hs a
taken_open from zero hs none a index e = absurd (not_ours hs none a index e)
taken_open from (suc n) [] none a index e = cc
taken_open from (suc n) (None ∷ hs) none zero index e = record { within = omega arith; free = refl }
taken_open from (suc n) (None ∷ hs) none (suc a) index e = let rest = taken_open (suc from) n hs (λ b. none (suc b)) a index e in record { within = let w = rest.within in omega (arith, w); free = rest.free }
taken_open from (suc n) (Some h ∷ hs) none zero index e = absurd (not_ours (Some h ∷ hs) none 0 index e)
taken_open from (suc n) (Some h ∷ hs) none (suc a) index e = let rest = taken_open from (suc n) hs (λ b. none (suc b)) a index e in record { within = let w = rest.within in omega (arith, w); free = rest.free }

-- addresses that are taken and given back
module _ (old reserved taken : Holders) (n : ℕ) (none : HoldsNone old) (same : reserved ≡ old) (given : taken ≡ with_taken for_now (next_index for_now reserved) n reserved) where
  pub taken_is : taken ≡ with_taken for_now 0 n old
  taken_is = given ∙ ap (λ l. with_taken for_now (next_index for_now l) n l) same ∙ ap (λ k. with_taken for_now k n old) (from_zero old none)

  pub back_size : (back : Holders) → EachBecomes (without_owner for_now) taken back → length back ≡ length old
  back_size back each = each.count ∙ ap length (taken_is) ∙ taken_length 0 n old

  pub back_same : (back : Holders) → EachBecomes (without_owner for_now) taken back → (a : ℕ) → holder_at back a ≡ holder_at old a
  back_same back each a = each.each a ∙ ap (λ (l : Holders). without_owner for_now (holder_at l a)) (taken_is) ∙ taken_back 0 n old none a

-- ---- the addresses of its blocks

-- one address more
pub held_more : (from : ℕ) (hs : Holders) (xs : List ℕ) (a : ℕ) → AreHeld from hs xs → holder_at hs a ≡ Some (block_of for_now (from + length xs)) → AreHeld from hs (xs ++ a ∷ [])
held_more from hs [] a h e = (e ∙ ap (λ n. Some (block_of for_now n)) (let same : from + 0 ≡ from = omega arith in same), tt)
held_more from hs (x ∷ xs) a h e = (h.0, held_more (suc from) hs xs a h.1 (e ∙ ap (λ n. Some (block_of for_now n)) (let same : from + suc (length xs) ≡ suc from + length xs = omega arith in same)))

index_same : (i j : ℕ) → Some (block_of for_now i) ≡ Some (block_of for_now j) → i ≡ j
index_same i j e = let same : block_of for_now i ≡ block_of for_now j = cc in ap (λ (h : Holder). h.index) same

not_among : (from index : ℕ) (hs : Holders) (a : ℕ) (xs : List ℕ) → holder_at hs a ≡ Some (block_of for_now index) → index < from → AreHeld from hs xs → among xs a ≡ false
not_among from index hs a [] e less h = refl
not_among from index hs a (x ∷ xs) e less h = by (x == a) refl (not_among (suc from) index hs a xs e (omega (arith, less)) h.1)
  where
    by : (b : Bool) → (x == a) ≡ b → among xs a ≡ false → ((x == a) || among xs a) ≡ false
    by true k rest = let same = index_same from index (sym h.0 ∙ ap (holder_at hs) (eqb-true x a k) ∙ e) in absurd (omega (arith, same, less))
    by false k rest = ap (λ b. b || among xs a) k ∙ rest

held_differ : (from : ℕ) (hs : Holders) (xs : List ℕ) → AreHeld from hs xs → all_differ xs ≡ true
held_differ from hs [] h = refl
held_differ from hs (x ∷ xs) h = ap (λ b. not b && all_differ xs) (not_among (suc from) from hs x xs h.0 (omega arith) h.1) ∙ held_differ (suc from) hs xs h.1

held_open : (from n : ℕ) (hs : Holders) → HoldsNone hs → (at : ℕ) (xs : List ℕ) → AreHeld at (with_taken for_now from n hs) xs → Every (IsOpen hs) xs
held_open from n hs none at [] h = tt
held_open from n hs none at (x ∷ xs) h = (taken_open from n hs none x at h.0, held_open from n hs none (suc at) xs h.1)

pub are_open : (hs : Holders) (n : ℕ) (xs : List ℕ) → HoldsNone hs → length xs ≡ n → AreHeld 0 (with_taken for_now 0 n hs) xs → AreOpen hs n xs
are_open hs n xs none count held = record { count = count; differ = held_differ 0 (with_taken for_now 0 n hs) xs held; open_each = held_open 0 n hs none 0 xs held }

-- ---- addresses that nobody holds are free

no_address : (places : List Placed) (a : ℕ) → placed_at places a ≡ None → has_address places a ≡ false
no_address [] a e = refl
no_address (p ∷ places) a e = by (p.address == a) (no_address places a) e
  where
    by : (b : Bool) → (placed_at places a ≡ None → has_address places a ≡ false) → cond b (Some (block_of (File p.pair.file) p.pair.index)) (placed_at places a) ≡ None → (b || has_address places a) ≡ false
    by true rest k = cc
    by false rest k = rest k

module _ (parts : Parts) (b : Rebuilt) (h : Rebuilds parts b) where
  free_one : (a : ℕ) → IsOpen parts.blocks.holders a → is_free_address b a ≡ true
  free_one a is =
      let within = is.within in
      let size = h.places.size in
      let all = filter_all (λ (place : Placed). has_pair (used_pairs b.kept) place.pair) b.places h.used in
      let none : has_address b.places a ≡ false = no_address b.places a (sym (h.places.each a) ∙ is.free) in
      ap (λ l. nat_lt a b.shape.blocks && not (has_address l a)) all
      ∙ ap (λ t. nat_lt a b.shape.blocks && not t) none
      ∙ ap (λ t. t && true) (lt-ltb a b.shape.blocks (omega (arith, within, size)))

  free_all : (xs : List ℕ) → Every (IsOpen parts.blocks.holders) xs → list_all (is_free_address b) xs ≡ true
  free_all [] all = refl
  free_all (x ∷ xs) all = ap (λ t. t && list_all (is_free_address b) xs) (free_one x all.0) ∙ free_all xs all.1

  pub are_free : (n : ℕ) (xs : List ℕ) → AreOpen parts.blocks.holders n xs → AreFree b n xs
  are_free n xs open_ones = record { count = open_ones.count; differ = open_ones.differ; free = free_all xs open_ones.open_each }
