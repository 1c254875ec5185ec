-- The lowest free addresses are taken one by one, and an owner's next index.
use Rattle.std.proofs.Common.{◌≡◌, ⊎_elim, ℕ, zero, suc, ◌-◌, ◌<◌, ◌≤◌, List, [], ◌∷◌, length, true, false, cond, Option, Some, None, refl, ap, sym, ◌∙◌, subst, arith}
use Rattle.std.proofs.Math.ListN.{set}
use Rattle.std.proofs.lemmas.Bool.{eqb-true, eq-eqb, cases_eq}
use Rattle.std.proofs.lemmas.List.{get_or-set_same, get_or-set_other}
use Rattle.std.specs.Prelude.{is_some}
use Rattle.voice_blocks.specs.Bits.{bit_of}
use Rattle.voice_blocks.specs.Sound.{bit_for}
use Rattle.voice_blocks.specs.declared.owner.Owner.{Owner}
use Rattle.voice_blocks.specs.declared.owner.Owner.TheVariants.{File, Taking}
use Rattle.voice_blocks.specs.declared.owner.Holder.{Holder}
use Rattle.voice_blocks.specs.Holders.{Holders, holder_at, open_in, block_of, same_owner, end_at, next_index, with_taken, IsLowestFree, IsAddressOf}
use Rattle.voice_blocks.proofs.SoundLemmas.{by_eq}

abbrev index_in : Option Holder → ℕ
index_in None = 0
index_in (Some h) = h.index

-- the lowest free address is the first one that is given
pub with_taken-step : (owner : Owner) (from n : ℕ) (hs : Holders) (a : ℕ) → IsLowestFree hs a → with_taken owner from (suc n) hs ≡ with_taken owner (suc from) n (set hs a (Some (block_of owner from)))
with_taken-step owner from n [] a low = absurd (let w = low.within in omega (arith, w))
with_taken-step owner from zero (None ∷ hs) zero low = refl
with_taken-step owner from (suc n) (None ∷ hs) zero low = refl
with_taken-step owner from n (Some h ∷ hs) zero low = let f = low.free in cc
with_taken-step owner from n (None ∷ hs) (suc a) low = absurd (low.below 0 (omega arith) refl)
with_taken-step owner from zero (Some h ∷ hs) (suc a) low = ap (λ (l : Holders). Some h ∷ l) (with_taken-step owner from zero hs a (record { within = let w = low.within in omega (arith, w); free = low.free; below = λ b under. low.below (suc b) (omega arith) }))
with_taken-step owner from (suc n) (Some h ∷ hs) (suc a) low = ap (λ (l : Holders). Some h ∷ l) (with_taken-step owner from (suc n) hs a (record { within = let w = low.within in omega (arith, w); free = low.free; below = λ b under. low.below (suc b) (omega arith) }))

pub owner_is : (p q : Owner) → same_owner p q ≡ true → p ≡ q
owner_is (File a) (File b) h = ap File (eqb-true a b h)
owner_is (File a) (Taking b) h = cc
owner_is (Taking a) (File b) h = cc
owner_is (Taking a) (Taking b) h = ap Taking (eqb-true a b h)

pub owner_refl : (p : Owner) → same_owner p p ≡ true
owner_refl (File a) = eq-eqb a a refl
owner_refl (Taking a) = eq-eqb a a refl

end_at-le : (owner : Owner) (v : Option Holder) (e : ℕ) → ((index : ℕ) → v ≡ Some (block_of owner index) → index < e) → end_at owner v ≤ e
end_at-le owner None e bound = omega arith
end_at-le owner (Some h) e bound = by_eq (same_owner owner h.owner)
    (λ hit. let b = bound h.index (ap (λ o. Some (block_of o h.index)) (sym (owner_is owner h.owner hit))) in subst (λ t. cond t (suc h.index) 0 ≤ e) (sym hit) b)
    (λ miss. subst (λ t. cond t (suc h.index) 0 ≤ e) (sym miss) (omega arith))

-- a bound on an owner's indices is at least the next one
pub next_index-le : (owner : Owner) (hs : Holders) (e : ℕ) → ((a index : ℕ) → holder_at hs a ≡ Some (block_of owner index) → index < e) → next_index owner hs ≤ e
next_index-le owner [] e bound = omega arith
next_index-le owner (v ∷ hs) e bound =
    let head = end_at-le owner v e (λ index is. bound 0 index is) in
    let tail = next_index-le owner hs e (λ a index is. bound (suc a) index is) in
    omega (arith, head, tail)

-- each index of an owner is below its next one
pub next_index-above : (owner : Owner) (hs : Holders) (a index : ℕ) → holder_at hs a ≡ Some (block_of owner index) → index < next_index owner hs
next_index-above owner [] a index held = cc
next_index-above owner (v ∷ hs) zero index held =
    let end : end_at owner v ≡ suc index = ap (end_at owner) held ∙ ap (λ t. cond t (suc index) 0) (owner_refl owner) in
    omega (arith, end)
next_index-above owner (v ∷ hs) (suc a) index held = let i = next_index-above owner hs a index held in omega (arith, i)

pub none_open : (hs : Holders) → ((a : ℕ) → a < length hs → ¬ (holder_at hs a ≡ None)) → open_in hs ≡ 0
none_open [] all = refl
none_open (None ∷ hs) all = absurd (all 0 (omega arith) refl)
none_open (Some h ∷ hs) all = none_open hs (λ a under. all (suc a) (omega arith))

found_in : (v : Option Holder) → bit_for v ≡ 0 → v ≡ None
found_in None is = refl
found_in (Some h) is = absurd (omega (arith, is))

module _ (hs : Holders) (words : List ℕ) (bits : (a : ℕ) → a < length hs → bit_of words a ≡ bit_for (holder_at hs a)) where
  pub bit_free : (a : ℕ) → a < length hs → bit_of words a ≡ 1 → ¬ (holder_at hs a ≡ None)
  bit_free a within one = λ free. let b = bits a within in let z = ap bit_for free in absurd (omega (arith, b, z, one))

  pub all_in : (n : ℕ) → length hs ≤ n → ((k : ℕ) → k < n → bit_of words k ≡ 1) → open_in hs ≡ 0
  all_in n reach full = none_open hs (λ a within. bit_free a within (full a (omega arith)))

  pub lowest_is : (a : ℕ) → a < length hs → bit_of words a ≡ 0 → ((k : ℕ) → k < a → bit_of words k ≡ 1) → IsLowestFree hs a
  lowest_is a within out below = record {
    within = within;
    free = found_in (holder_at hs a) (sym (bits a within) ∙ out);
    below = λ b under. bit_free b (omega arith) (below b under);
  }

pub found_at : (block : Holder) (hs : Holders) (r : Option ℕ) → is_some r ≡ true → IsAddressOf block hs r → (a : ℕ) × (holder_at hs a ≡ Some block)
found_at block hs (Some a) is r = (a, r.found)
found_at block hs None is r = cc

pub absent_at : (block : Holder) (hs : Holders) (r : Option ℕ) → is_some r ≡ false → IsAddressOf block hs r → (a : ℕ) → ¬ (holder_at hs a ≡ Some block)
absent_at block hs (Some a) is r = cc
absent_at block hs None is r = r.absent

-- a bound at which no block is goes one down
pub lower_bound : (owner : Owner) (hs : Holders) (end : ℕ) → 0 < end → ((a index : ℕ) → holder_at hs a ≡ Some (block_of owner index) → index < end) → ((a : ℕ) → ¬ (holder_at hs a ≡ Some (block_of owner (end - 1))))
    → (a index : ℕ) → holder_at hs a ≡ Some (block_of owner index) → index < end - 1
lower_bound owner hs end some bound none a index held =
    let under = bound a index held in
    ⊎_elim (λ e. absurd (none a (held ∙ ap (λ i. Some (block_of owner i)) e))) (λ apart. omega (arith, under, apart)) (cases_eq index (end - 1))

-- the greatest index is found
pub next_is : (owner : Owner) (hs : Holders) (end a : ℕ) → 0 < end → ((a index : ℕ) → holder_at hs a ≡ Some (block_of owner index) → index < end) → holder_at hs a ≡ Some (block_of owner (end - 1)) → end ≡ next_index owner hs
next_is owner hs end a some bound held =
    let least = next_index-above owner hs a (end - 1) held in
    let most = next_index-le owner hs end bound in
    omega (arith, least, most, some)

-- after the lowest free address is given, an owner's indices are below one more
pub behind_more : (owner : Owner) (hs : Holders) (a from : ℕ) → a < length hs → ((b index : ℕ) → holder_at hs b ≡ Some (block_of owner index) → index < from)
    → (b index : ℕ) → holder_at (set hs a (Some (block_of owner from))) b ≡ Some (block_of owner index) → index < suc from
behind_more owner hs a from within behind b index held = ⊎_elim
    (λ e. let same : Some (block_of owner from) ≡ Some (block_of owner index) = sym (get_or-set_same hs a (Some (block_of owner from)) None within) ∙ ap (λ x. holder_at (set hs a (Some (block_of owner from))) x) (sym e) ∙ held in
    let is : from ≡ index = ap index_in same in omega (arith, is))
    (λ apart. let under = behind b index (sym (get_or-set_other hs a b (Some (block_of owner from)) None apart) ∙ held) in omega (arith, under))
    (cases_eq b a)
