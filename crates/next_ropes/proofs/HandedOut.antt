-- Which blocks have which address once an owner's blocks are dropped, or addresses are taken for a file.
use Rattle.std.proofs.Common.{◌≡◌, ℕ, zero, suc, ◌⊎◌, inl, inr, Bool, true, false, cond, if◌then◌else◌, [], ◌∷◌, Option, Some, None, refl, sym, ◌∙◌, ap, subst}
use Rattle.voice_blocks.specs.Holders.{Holders, holder_at, block_of, same_owner, with_taken, without_owner, next_index, EachBecomes}
use Rattle.voice_blocks.specs.declared.owner.Owner.{Owner}
use Rattle.voice_blocks.specs.declared.owner.Owner.TheVariants.{File}
use Rattle.voice_blocks.specs.declared.owner.Holder.{Holder}
use Rattle.voice_blocks.proofs.TakeLemmas.{owner_refl}
use Rattle.next_ropes.specs.Addresses.{KeepsAddresses, HandsOut}

-- the holders are as they were
pub kept_all : (old new : Holders) → new ≡ old → KeepsAddresses old new
kept_all old new same a h e = sym (ap (λ (l : Holders). holder_at l a) same) ∙ e

-- one that may be dropped and is there was there before
pub stayed : (gone : Bool) (o : Option Holder) (h : Holder) → cond gone None o ≡ Some h → o ≡ Some h
stayed true o h e = cc
stayed false o h e = e

-- what an owner's blocks leave is another's
another : (owner : Owner) (o : Option Holder) (h : Holder) → without_owner owner o ≡ Some h → (o ≡ Some h) × (same_owner owner h.owner ≡ false)
another owner None h e = cc
another owner (Some g) h e = by (same_owner owner g.owner) refl
  where
    by : (t : Bool) → same_owner owner g.owner ≡ t → (Some g ≡ Some h) × (same_owner owner h.owner ≡ false)
    by true k = let none : None ≡ Some h = sym (ap (λ t. cond t None (Some g)) k) ∙ e in cc
    by false k =
        let same : Some g ≡ Some h = sym (ap (λ t. cond t None (Some g)) k) ∙ e in
        let one : g ≡ h = cc in
        (same, subst (λ (x : Holder). same_owner owner x.owner ≡ false) one k)

-- an owner's blocks are dropped
pub dropped_keeps : (owner : Owner) (old new : Holders) → EachBecomes (without_owner owner) old new → KeepsAddresses old new
dropped_keeps owner old new became a h e = (another owner (holder_at old a) h (sym (became.each a) ∙ e)).0

-- the lowest free addresses are taken for a file
taken_hands : (file from n : ℕ) (hs : Holders) → HandsOut file hs (with_taken (File file) from n hs)
taken_hands file from zero hs a h e = inl e
taken_hands file from (suc n) [] a h e = inl e
taken_hands file from (suc n) (None ∷ hs) zero h e = let one : block_of (File file) from ≡ h = cc in inr (sym (ap (λ (x : Holder). x.owner) one))
taken_hands file from (suc n) (None ∷ hs) (suc a) h e = taken_hands file (suc from) n hs a h e
taken_hands file from (suc n) (Some g ∷ hs) zero h e = inl e
taken_hands file from (suc n) (Some g ∷ hs) (suc a) h e = taken_hands file from (suc n) hs a h e

-- the same of a call that may fail
pub take_hands : (file n : ℕ) (done : Bool) (old room new : Holders) → room ≡ old → new ≡ (if done then with_taken (File file) (next_index (File file) room) n room else room) → HandsOut file old new
take_hands file n done old room new same is = subst (λ (l : Holders). HandsOut file l new) same (by done is)
  where
    by : (done : Bool) → new ≡ (if done then with_taken (File file) (next_index (File file) room) n room else room) → HandsOut file room new
    by true is = subst (HandsOut file room) (sym is) (taken_hands file (next_index (File file) room) n room)
    by false is = λ a h e. inl (kept_all room new is a h e)

-- what a file took is dropped again
pub taken_back : (file : ℕ) (old room new : Holders) → HandsOut file old room → EachBecomes (without_owner (File file)) room new → KeepsAddresses old new
taken_back file old room new hands became a h e = by (hands a h left.0)
  where
    left : (holder_at room a ≡ Some h) × (same_owner (File file) h.owner ≡ false)
    left = another (File file) (holder_at room a) h (sym (became.each a) ∙ e)

    by : (holder_at old a ≡ Some h) ⊎ (h.owner ≡ File file) → holder_at old a ≡ Some h
    by (inl before) = before
    by (inr own) = let bad : true ≡ false = sym (owner_refl (File file)) ∙ ap (same_owner (File file)) (sym own) ∙ left.1 in cc
