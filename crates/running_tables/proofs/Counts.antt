-- How many addresses a map has given out.
use Rattle.std.proofs.Common.{◌≡◌, ℕ, zero, suc, Bool, true, false, cond, [], ◌∷◌, Option, Some, None, refl, sym, ◌∙◌, ap, arith}
use Rattle.voice_units.specs.Blocks.{BlockPair, same_pair, has_pair, distinct}
use Rattle.voice_units.proofs.Distinct.{same_pair-true}
use Rattle.voice_blocks.specs.Holders.{Holders, holder_at, block_of}
use Rattle.voice_blocks.specs.declared.owner.Owner.{Owner}
use Rattle.voice_blocks.specs.declared.owner.Owner.TheVariants.{File, Taking}
use Rattle.voice_blocks.specs.declared.owner.Holder.{Holder}
use Rattle.running_tables.specs.Running.{code_of, given}
use Rattle.voice_blocks.proofs.Apart.{either_way}

-- blocks of the same code are the same
pub code_same : (o p : Owner) (i j : ℕ) → code_of o i ≡ code_of p j → block_of o i ≡ block_of p j
code_same (File f) (File g) i j e =
    let m = ap (λ (x : BlockPair). x.file) e in
    let n : i ≡ j = ap (λ (x : BlockPair). x.index) e in
    let k : f ≡ g = omega (arith, m) in
    ap (λ x. block_of (File x) i) k ∙ ap (λ x. block_of (File g) x) n
code_same (Taking f) (Taking g) i j e =
    let m = ap (λ (x : BlockPair). x.file) e in
    let n : i ≡ j = ap (λ (x : BlockPair). x.index) e in
    let k : f ≡ g = omega (arith, m) in
    ap (λ x. block_of (Taking x) i) k ∙ ap (λ x. block_of (Taking g) x) n
code_same (File f) (Taking g) i j e = let m = ap (λ (x : BlockPair). x.file) e in absurd (omega (arith, m))
code_same (Taking f) (File g) i j e = let m = ap (λ (x : BlockPair). x.file) e in absurd (omega (arith, m))

-- a block that was given out has an address
pub given_at : (hs : Holders) (q : BlockPair) → has_pair (given hs) q ≡ true → (a : ℕ) × (h : Holder) × (holder_at hs a ≡ Some h) × (code_of h.owner h.index ≡ q)
given_at [] q e = cc
given_at (None ∷ hs) q e = let r = given_at hs q e in (suc r.0, r.1, r.2, r.3)
given_at (Some h ∷ hs) q e =
    either_way (same_pair q (code_of h.owner h.index)) (has_pair (given hs) q)
    (λ k. (zero, h, refl, sym (same_pair-true q (code_of h.owner h.index) k)))
    (λ k. let r = given_at hs q k in (suc r.0, r.1, r.2, r.3)) e

-- no block has two addresses
abbrev pub Single : Holders → Type 0
Single hs = (a c : ℕ) (h : Holder) → holder_at hs a ≡ Some h → holder_at hs c ≡ Some h → a ≡ c

pub later_single : (o : Option Holder) (hs : Holders) → Single (o ∷ hs) → Single hs
later_single o hs single a c h e k = let m = single (suc a) (suc c) h e k in omega (arith, m)

-- where each block has one address, each is given out once
pub each_once : (hs : Holders) → Single hs → distinct (given hs) ≡ given hs
each_once [] single = refl
each_once (None ∷ hs) single = each_once hs (later_single None hs single)
each_once (Some h ∷ hs) single =
    let rest = each_once hs (later_single (Some h) hs single) in
    ap (λ l. cond (has_pair l (code_of h.owner h.index)) l (code_of h.owner h.index ∷ l)) rest
    ∙ new (has_pair (given hs) (code_of h.owner h.index)) refl
  where
    new : (b : Bool) → has_pair (given hs) (code_of h.owner h.index) ≡ b → cond (has_pair (given hs) (code_of h.owner h.index)) (given hs) (code_of h.owner h.index ∷ given hs) ≡ code_of h.owner h.index ∷ given hs
    new false e = ap (λ b. cond b (given hs) (code_of h.owner h.index ∷ given hs)) e
    new true e =
        let r = given_at hs (code_of h.owner h.index) e in
        let same : r.1 ≡ h = code_same r.1.owner h.owner r.1.index h.index r.3 in
        let far = single zero (suc r.0) h refl (r.2 ∙ ap (λ x. Some x) same) in
        absurd (omega (arith, far))
