-- An owner's blocks are dropped one by one.
use Rattle.std.proofs.Common.{◌≡◌, ◌≢◌, ℕ, ◌+◌, ◌^◌, ◌<◌, ◌≤◌, List, Bool, true, false, cond, ◌&&◌, ◌||◌, ◌==◌, nat_lt, Option, Some, None, unwrap_or, refl, ap, sym, ◌∙◌, subst, arith}
use Rattle.std.proofs.lemmas.Bool.{le-ltb, lt-ltb}
use Rattle.std.proofs.lemmas.Bool.Decides.{nat_tests}
use Rattle.voice_blocks.specs.declared.owner.Owner.{Owner}
use Rattle.voice_blocks.specs.declared.owner.Holder.{Holder}
use Rattle.voice_blocks.specs.Holders.{Holders, EachBecomes, holder_at, block_of, same_owner, same_holder, without_owner, without_block}
use Rattle.voice_blocks.specs.Sound.{IsSound, owner_eq}
use Rattle.voice_blocks.proofs.SoundLemmas.{by_eq}
use Rattle.voice_blocks.proofs.SoundLemmas.{owner_is as same_is}
use Rattle.voice_blocks.proofs.TakeLemmas.{owner_is, owner_refl}

-- what becomes of an address as an owner's blocks below an index are dropped
abbrev pub without_below : Owner → ℕ → Option Holder → Option Holder
without_below owner i None = None
without_below owner i (Some h) = cond (same_owner owner h.owner && nat_lt h.index i) None (Some h)

one_more : (a i : ℕ) → nat_lt a (i + 1) ≡ (nat_lt a i || (i == a))
one_more a i = grind (arith, nat_tests)

block_dropped : (h block : Holder) (s l m e : Bool) → same_holder block h ≡ (s && e) → m ≡ (l || e) → without_block block (cond (s && l) None (Some h)) ≡ cond (s && m) None (Some h)
block_dropped h block false l m e same more = ap (λ t. cond t None (Some h)) same
block_dropped h block true true m e same more = ap (λ t. cond t None (Some h)) (sym more)
block_dropped h block true false m e same more = ap (λ t. cond t None (Some h)) (same ∙ sym more)

neither : (b : Bool) (a : ℕ) → (b && nat_lt a 0) ≡ false
neither true a = le-ltb a 0 (omega arith)
neither false a = refl

pub below-step : (owner : Owner) (i : ℕ) (v : Option Holder) → without_block (block_of owner i) (without_below owner i v) ≡ without_below owner (i + 1) v
below-step owner i None = refl
below-step owner i (Some h) = block_dropped h (block_of owner i) (same_owner owner h.owner) (nat_lt h.index i) (nat_lt h.index (i + 1)) (i == h.index) refl (one_more h.index i)

pub below-none : (owner : Owner) (v : Option Holder) → v ≡ without_below owner 0 v
below-none owner None = refl
below-none owner (Some h) = ap (λ t. cond t None (Some h)) (sym (neither (same_owner owner h.owner) h.index))

pub below-all : (owner : Owner) (end : ℕ) (v : Option Holder) → ((index : ℕ) → v ≡ Some (block_of owner index) → index < end) → without_below owner end v ≡ without_owner owner v
below-all owner end None bound = refl
below-all owner end (Some h) bound = all_below (same_owner owner h.owner) refl
  where
    all_below : (s : Bool) → same_owner owner h.owner ≡ s → cond (s && nat_lt h.index end) None (Some h) ≡ cond s None (Some h)
    all_below true hit = ap (λ t. cond t None (Some h)) (lt-ltb h.index end (bound h.index (ap (λ o. Some (block_of o h.index)) (sym (owner_is owner h.owner hit)))))
    all_below false miss = refl

-- no block of an owner is left
pub dropped-none : (owner : Owner) (index : ℕ) (v : Option Holder) → without_owner owner v ≢ Some (block_of owner index)
dropped-none owner index None is = cc
dropped-none owner index (Some h) is = by_eq (same_owner owner h.owner)
    (λ hit. let clash : None ≡ Some (block_of owner index) = ap (λ t. cond t None (Some h)) (sym hit) ∙ is in cc)
    (λ miss. let stays : Some h ≡ Some (block_of owner index) = ap (λ t. cond t None (Some h)) (sym miss) ∙ is in
    let one : h ≡ block_of owner index = cc in
    let clash : true ≡ false = sym (owner_refl owner) ∙ ap (λ x. same_owner owner x.owner) (sym one) ∙ miss in cc)

pub none_left : (owner : Owner) (end : ℕ) (old new : Holders) → EachBecomes (without_below owner end) old new → ((a index : ℕ) → holder_at old a ≡ Some (block_of owner index) → index < end) → (a index : ℕ) → holder_at new a ≢ Some (block_of owner index)
none_left owner end old new each bound a index held = dropped-none owner index (holder_at old a) (sym (below-all owner end (holder_at old a) (λ i is. bound a i is)) ∙ sym (each.each a) ∙ held)

spread : (b : Bool) (v : Option ℕ) → unwrap_or (cond b None v) 0 ≡ cond b 0 (unwrap_or v 0)
spread true v = refl
spread false v = refl

-- an owner's bound is gone
pub end_gone : (old new : Owner → Option ℕ) (owner o : Owner) → new o ≡ cond (owner_eq owner o) None (old o) → unwrap_or (new o) 0 ≡ cond (owner_eq owner o) 0 (unwrap_or (old o) 0)
end_gone old new owner o is = ap (λ (r : Option ℕ). unwrap_or r 0) is ∙ spread (owner_eq owner o) (old o)

-- an owner without a block needs no bound
pub forgotten : (hs : Holders) (words : List ℕ) (free takings room : ℕ) (place : Holder → Option ℕ) (end : Owner → ℕ) (sp se : ℕ) → IsSound hs words free takings room place end sp se
    → (owner : Owner) → ((a index : ℕ) → holder_at hs a ≢ Some (block_of owner index)) → (end' : Owner → ℕ) → ((o : Owner) → end' o ≡ cond (owner_eq owner o) 0 (end o)) → (se' : ℕ) → se ≤ se'
    → IsSound hs words free takings room place end' sp se'
forgotten hs words free takings room place end sp se s owner none end' ends se' more = record {
  bits = s.bits;
  few = s.few;
  words_reach = s.words_reach;
  free_is = s.free_is;
  takings_is = s.takings_is;
  placed = s.placed;
  only = s.only;
  ended = λ a h held. by_eq (owner_eq owner h.owner)
      (λ hit. absurd (none a h.index (held ∙ ap (λ o. Some (block_of o h.index)) (sym (same_is owner h.owner hit)))))
      (λ miss. subst (λ n. h.index < n) (sym (ends h.owner ∙ ap (λ t. cond t 0 (end h.owner)) miss)) (s.ended a h held));
  ends_fit = λ o. by_eq (owner_eq owner o)
      (λ hit. subst (λ n. n ≤ 2 ^ 32) (sym (ends o ∙ ap (λ t. cond t 0 (end o)) hit)) (omega arith))
      (λ miss. subst (λ n. n ≤ 2 ^ 32) (sym (ends o ∙ ap (λ t. cond t 0 (end o)) miss)) (s.ends_fit o));
  room_places = s.room_places;
  room_ends = let r = s.room_ends in omega (arith, r, more);
}
