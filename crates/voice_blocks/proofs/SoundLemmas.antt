-- One address is given or freed, and all parts of the map still tell of the same holders.
use Rattle.std.proofs.Common.{◌≡◌, ◌≢◌, ⊎_elim, ℕ, zero, suc, ◌+◌, ◌*◌, ◌^◌, ◌<◌, ◌≤◌, List, [], ◌∷◌, length, Bool, true, false, cond, ◌&&◌, Option, Some, None, unwrap_or, replicate, refl, ap, sym, ◌∙◌, subst, arith}
use Rattle.std.proofs.Math.ListN.{set}
use Rattle.std.proofs.lemmas.List.{get_or-set_same, get_or-set_other, length-set, length-replicate}
use Rattle.std.proofs.lemmas.Bool.{cases_eq, eqb-true, eq-eqb}
use Rattle.std.specs.Prelude.{Result, Ok, Err, IsOk, OnOk}
use Rattle.voice_blocks.specs.declared.owner.Owner.{Owner}
use Rattle.voice_blocks.specs.declared.owner.Owner.TheVariants.{File, Taking}
use Rattle.voice_blocks.specs.declared.owner.Holder.{Holder}
use Rattle.voice_blocks.specs.Bits.{bit_of}
use Rattle.voice_blocks.specs.Holders.{Holders, holder_at, open_in, block_of, of_owner}
use Rattle.voice_blocks.specs.Sound.{IsSound, holder_eq, owner_eq, bit_for, of_taking, takings_in}

front : (a b : Bool) → (a && b) ≡ true → a ≡ true
front true b h = refl
front false b h = h

rest : (a b : Bool) → (a && b) ≡ true → b ≡ true
rest true b h = h
rest false b h = cc

both : (a b : Bool) → a ≡ true → b ≡ true → (a && b) ≡ true
both true b h k = k
both false b h k = h

pub owner_is : (p q : Owner) → owner_eq p q ≡ true → p ≡ q
owner_is (File a) (File b) h = ap File (eqb-true a b h)
owner_is (File a) (Taking b) h = cc
owner_is (Taking a) (File b) h = cc
owner_is (Taking a) (Taking b) h = ap Taking (eqb-true a b h)

pub owner_eq_refl : (p : Owner) → owner_eq p p ≡ true
owner_eq_refl (File a) = eq-eqb a a refl
owner_eq_refl (Taking a) = eq-eqb a a refl

-- equal blocks are one
pub holder_is : (p q : Holder) → holder_eq p q ≡ true → p ≡ q
holder_is p q h = ap (λ o. block_of o p.index) (owner_is p.owner q.owner (front _ _ h)) ∙ ap (block_of q.owner) (eqb-true p.index q.index (rest _ _ h))

pub holder_eq_refl : (p : Holder) → holder_eq p p ≡ true
holder_eq_refl p = both _ _ (owner_eq_refl p.owner) (eq-eqb p.index p.index refl)

pub by_eq : {P : Type 0} (b : Bool) → (b ≡ true → P) → (b ≡ false → P) → P
by_eq {P} b is_true is_false = elim b as (λ t. b ≡ t → P) [ true ↦ is_true | false ↦ is_false ] refl

pub holder_at-replicate : (n a : ℕ) → holder_at (replicate n None) a ≡ None
holder_at-replicate zero a = refl
holder_at-replicate (suc n) zero = refl
holder_at-replicate (suc n) (suc a) = holder_at-replicate n a

pub open_in-replicate : (n : ℕ) → open_in (replicate n None) ≡ n
open_in-replicate zero = refl
open_in-replicate (suc n) = ap (λ k. suc k) (open_in-replicate n)

takings_in-replicate : (n : ℕ) → takings_in (replicate n None) ≡ 0
takings_in-replicate zero = refl
takings_in-replicate (suc n) = let i = takings_in-replicate n in omega (arith, i)

pub open_in-le : (hs : Holders) → open_in hs ≤ length hs
open_in-le [] = omega arith
open_in-le (None ∷ hs) = let i = open_in-le hs in omega (arith, i)
open_in-le (Some h ∷ hs) = let i = open_in-le hs in omega (arith, i)

pub taking-le : (hs : Holders) (a : ℕ) (h : Holder) → holder_at hs a ≡ Some h → of_taking (Some h) ≤ takings_in hs
taking-le [] a h held = cc
taking-le (k ∷ hs) zero h held = let e = ap of_taking held in omega (arith, e)
taking-le (k ∷ hs) (suc a) h held = let i = taking-le hs a h held in omega (arith, i)

pub owner_at_most : (o : Owner) → of_owner o ≤ 1
owner_at_most (File file) = omega arith
owner_at_most (Taking lane) = omega arith

pub takings_in-le : (hs : Holders) → takings_in hs ≤ length hs
takings_in-le [] = omega arith
takings_in-le (None ∷ hs) = let i = takings_in-le hs in omega (arith, i)
takings_in-le (Some h ∷ hs) = let i = takings_in-le hs in let o = owner_at_most h.owner in omega (arith, i, o)

pub ok_part : {T E P : Type 0} (r : Result T E) → IsOk r → OnOk r P → P
ok_part (Ok v) is p = p
ok_part (Err e) is p = cc

-- a bound that is raised is a bound
pub raised : (old new : Owner → Option ℕ) (owner o : Owner) (top index : ℕ) → new o ≡ cond (owner_eq owner o) (Some top) (old o) → (owner_eq owner o ≡ true → index < top) → index < unwrap_or (old o) 0 → index < unwrap_or (new o) 0
raised old new owner o top index is own before = by_eq (owner_eq owner o)
    (λ hit. subst (λ (v : Option ℕ). index < unwrap_or v 0) (sym (is ∙ ap (λ t. cond t (Some top) (old o)) hit)) (own hit))
    (λ miss. subst (λ (v : Option ℕ). index < unwrap_or v 0) (sym (is ∙ ap (λ t. cond t (Some top) (old o)) miss)) before)

pub raised_fits : (old new : Owner → Option ℕ) (owner o : Owner) (top : ℕ) → new o ≡ cond (owner_eq owner o) (Some top) (old o) → top ≤ 2 ^ 32 → unwrap_or (old o) 0 ≤ 2 ^ 32 → unwrap_or (new o) 0 ≤ 2 ^ 32
raised_fits old new owner o top is own before = by_eq (owner_eq owner o)
    (λ hit. subst (λ (v : Option ℕ). unwrap_or v 0 ≤ 2 ^ 32) (sym (is ∙ ap (λ t. cond t (Some top) (old o)) hit)) own)
    (λ miss. subst (λ (v : Option ℕ). unwrap_or v 0 ≤ 2 ^ 32) (sym (is ∙ ap (λ t. cond t (Some top) (old o)) miss)) before)

pub raised_own : (old new : Owner → Option ℕ) (owner : Owner) (top index : ℕ) → new owner ≡ cond (owner_eq owner owner) (Some top) (old owner) → index < top → index < unwrap_or (new owner) 0
raised_own old new owner top index is own = subst (λ (v : Option ℕ). index < unwrap_or v 0) (sym (is ∙ ap (λ t. cond t (Some top) (old owner)) (owner_eq_refl owner))) own

pub held-within : (hs : Holders) (a : ℕ) (h : Holder) → holder_at hs a ≡ Some h → a < length hs
held-within [] a h held = cc
held-within (k ∷ hs) zero h held = omega arith
held-within (k ∷ hs) (suc a) h held = let i = held-within hs a h held in omega (arith, i)

-- a map of free addresses
pub all_free : (blocks : ℕ) (hs : Holders) (words : List ℕ) (place : Holder → Option ℕ) (end : Owner → ℕ) (sp se : ℕ) → ((o : Owner) → end o ≤ 2 ^ 32) → hs ≡ replicate blocks None → blocks < 2 ^ 32 → blocks ≤ 64 * length words → ((k : ℕ) → bit_of words k ≡ 0) → ((h : Holder) → place h ≡ None) → IsSound hs words blocks 0 0 place end sp se
all_free blocks hs words place end sp se fit is fits reach empty nowhere = record {
  bits = λ a below. empty a ∙ ap bit_for (sym (free a));
  few = omega (arith, len, fits);
  words_reach = omega (arith, len, reach);
  free_is = sym (ap open_in is ∙ open_in-replicate blocks);
  takings_is = sym (ap takings_in is ∙ takings_in-replicate blocks);
  placed = λ a h held. let clash : None ≡ Some h = sym (free a) ∙ held in cc;
  only = λ a h at. let clash : None ≡ Some a = sym (nowhere h) ∙ at in cc;
  ended = λ a h held. let clash : None ≡ Some h = sym (free a) ∙ held in cc;
  ends_fit = fit;
  room_places = omega arith;
  room_ends = omega arith;
} where
  free : (a : ℕ) → holder_at hs a ≡ None
  free a = ap (λ l. holder_at l a) is ∙ holder_at-replicate blocks a

  len : length hs ≡ blocks
  len = ap length is ∙ length-replicate blocks None

-- a free address is given
pub open_in-set_some : (hs : Holders) (a : ℕ) (h : Holder) → a < length hs → holder_at hs a ≡ None → open_in hs ≡ suc (open_in (set hs a (Some h)))
open_in-set_some [] a h within free = absurd (omega arith)
open_in-set_some (None ∷ hs) zero h within free = refl
open_in-set_some (Some k ∷ hs) zero h within free = cc
open_in-set_some (None ∷ hs) (suc a) h within free = ap (λ n. suc n) (open_in-set_some hs a h (omega arith) free)
open_in-set_some (Some k ∷ hs) (suc a) h within free = open_in-set_some hs a h (omega arith) free

pub open_in-set_none : (hs : Holders) (a : ℕ) (h : Holder) → a < length hs → holder_at hs a ≡ Some h → open_in (set hs a None) ≡ suc (open_in hs)
open_in-set_none [] a h within held = absurd (omega arith)
open_in-set_none (None ∷ hs) zero h within held = cc
open_in-set_none (Some k ∷ hs) zero h within held = refl
open_in-set_none (None ∷ hs) (suc a) h within held = ap (λ n. suc n) (open_in-set_none hs a h (omega arith) held)
open_in-set_none (Some k ∷ hs) (suc a) h within held = open_in-set_none hs a h (omega arith) held

pub takings_in-set : (hs : Holders) (a : ℕ) (v : Option Holder) → a < length hs → takings_in (set hs a v) + of_taking (holder_at hs a) ≡ takings_in hs + of_taking v
takings_in-set [] a v within = absurd (omega arith)
takings_in-set (h ∷ hs) zero v within = omega arith
takings_in-set (h ∷ hs) (suc a) v within = let i = takings_in-set hs a v (omega arith) in omega (arith, i)

module _ (hs : Holders) (words : List ℕ) (free takings room : ℕ) (place : Holder → Option ℕ) (end : Owner → ℕ) (sp se : ℕ) (s : IsSound hs words free takings room place end sp se) where
  module _ (a : ℕ) (h : Holder) (within : a < length hs) (words' : List ℕ) (len : length words' ≡ length words) (others : (j : ℕ) → j ≢ a → bit_of words' j ≡ bit_of words j)
      (place' : Holder → Option ℕ) (end' : Owner → ℕ) (ended' : (b : ℕ) (q : Holder) → holder_at hs b ≡ Some q → q.index < end' q.owner) (fit' : (o : Owner) → end' o ≤ 2 ^ 32) (free' takings' room' sp' se' : ℕ) (rp : 2 * room' + takings' ≤ sp') (re : 2 * room' + takings' ≤ se') where
    pub entered : holder_at hs a ≡ None → ((b : ℕ) → holder_at hs b ≢ Some h) → bit_of words' a ≡ 1 → ((q : Holder) → place' q ≡ cond (holder_eq h q) (Some a) (place q)) → h.index < end' h.owner
        → suc free' ≡ free → takings' ≡ takings + of_taking (Some h) → IsSound (set hs a (Some h)) words' free' takings' room' place' end' sp' se'
    entered was_free new bit put ends f t = record {
      bits = λ b below. ⊎_elim (λ e. ap (bit_of words') e ∙ bit ∙ ap bit_for (sym (get_or-set_same hs a (Some h) None within) ∙ ap (λ x. holder_at (set hs a (Some h)) x) (sym e)))
          (λ apart. others b apart ∙ s.bits b (simp length-set at below) ∙ ap bit_for (sym (get_or-set_other hs a b (Some h) None apart))) (cases_eq b a);
      few = simp length-set s.few;
      words_reach = simp length-set (omega (arith, s.words_reach, len));
      free_is = let o = open_in-set_some hs a h within was_free in omega (arith, o, s.free_is, f);
      takings_is = let k = takings_in-set hs a (Some h) within in let n : of_taking (holder_at hs a) ≡ 0 = ap of_taking was_free in omega (arith, k, n, s.takings_is, t);
      placed = λ b q held. ⊎_elim
          (λ e. let same : Some h ≡ Some q = sym (get_or-set_same hs a (Some h) None within) ∙ ap (λ x. holder_at (set hs a (Some h)) x) (sym e) ∙ held in
          let is : h ≡ q = cc in
          put q ∙ ap (λ t. cond t (Some a) (place q)) (ap (λ x. holder_eq h x) (sym is) ∙ holder_eq_refl h) ∙ ap Some (sym e))
          (λ apart. let before : holder_at hs b ≡ Some q = sym (get_or-set_other hs a b (Some h) None apart) ∙ held in
          by_eq (holder_eq h q) (λ hit. absurd (new b (before ∙ ap Some (sym (holder_is h q hit))))) (λ miss. put q ∙ ap (λ t. cond t (Some a) (place q)) miss ∙ s.placed b q before))
          (cases_eq b a);
      only = λ b q is. by_eq (holder_eq h q)
          (λ hit. let at : Some a ≡ Some b = ap (λ t. cond t (Some a) (place q)) (sym hit) ∙ sym (put q) ∙ is in
          let e : a ≡ b = cc in
          ap (λ x. holder_at (set hs a (Some h)) x) (sym e) ∙ get_or-set_same hs a (Some h) None within ∙ ap Some (holder_is h q hit))
          (λ miss. let before : holder_at hs b ≡ Some q = s.only b q (ap (λ t. cond t (Some a) (place q)) (sym miss) ∙ sym (put q) ∙ is) in
          let apart : b ≢ a = λ e. let clash : None ≡ Some q = sym was_free ∙ ap (λ x. holder_at hs x) (sym e) ∙ before in cc in
          get_or-set_other hs a b (Some h) None apart ∙ before);
      ended = λ b q held. ⊎_elim
          (λ e. let same : Some h ≡ Some q = sym (get_or-set_same hs a (Some h) None within) ∙ ap (λ x. holder_at (set hs a (Some h)) x) (sym e) ∙ held in
          let is : h ≡ q = cc in
          subst (λ (x : Holder). x.index < end' x.owner) is ends)
          (λ apart. let before : holder_at hs b ≡ Some q = sym (get_or-set_other hs a b (Some h) None apart) ∙ held in
          ended' b q before)
          (cases_eq b a);
      ends_fit = fit';
      room_places = rp;
      room_ends = re;
    }

    pub left : holder_at hs a ≡ Some h → bit_of words' a ≡ 0 → ((q : Holder) → place' q ≡ cond (holder_eq h q) None (place q))
        → free' ≡ suc free → takings' + of_taking (Some h) ≡ takings → IsSound (set hs a None) words' free' takings' room' place' end' sp' se'
    left held_by bit put f t = record {
      bits = λ b below. ⊎_elim (λ e. ap (bit_of words') e ∙ bit ∙ ap bit_for (sym (get_or-set_same hs a None None within) ∙ ap (λ x. holder_at (set hs a None) x) (sym e)))
          (λ apart. others b apart ∙ s.bits b (simp length-set at below) ∙ ap bit_for (sym (get_or-set_other hs a b None None apart))) (cases_eq b a);
      few = simp length-set s.few;
      words_reach = simp length-set (omega (arith, s.words_reach, len));
      free_is = let o = open_in-set_none hs a h within held_by in omega (arith, o, s.free_is, f);
      takings_is = let k = takings_in-set hs a None within in let n : of_taking (holder_at hs a) ≡ of_taking (Some h) = ap of_taking held_by in omega (arith, k, n, s.takings_is, t);
      placed = λ b q held. ⊎_elim
          (λ e. let clash : None ≡ Some q = sym (get_or-set_same hs a None None within) ∙ ap (λ x. holder_at (set hs a None) x) (sym e) ∙ held in cc)
          (λ apart. let before : holder_at hs b ≡ Some q = sym (get_or-set_other hs a b None None apart) ∙ held in
          by_eq (holder_eq h q)
          (λ hit. let at : Some b ≡ Some a = sym (s.placed b q before) ∙ ap place (sym (holder_is h q hit)) ∙ s.placed a h held_by in let e : b ≡ a = cc in absurd (apart e))
          (λ miss. put q ∙ ap (λ t. cond t None (place q)) miss ∙ s.placed b q before))
          (cases_eq b a);
      only = λ b q is. by_eq (holder_eq h q)
          (λ hit. let clash : None ≡ Some b = ap (λ t. cond t None (place q)) (sym hit) ∙ sym (put q) ∙ is in cc)
          (λ miss. let before : holder_at hs b ≡ Some q = s.only b q (ap (λ t. cond t None (place q)) (sym miss) ∙ sym (put q) ∙ is) in
          let apart : b ≢ a = λ e. let same : Some h ≡ Some q = sym held_by ∙ ap (λ x. holder_at hs x) (sym e) ∙ before in let is_q : h ≡ q = cc in
          let both_ways : true ≡ false = sym (holder_eq_refl h) ∙ ap (λ x. holder_eq h x) is_q ∙ miss in cc in
          get_or-set_other hs a b None None apart ∙ before);
      ended = λ b q held. ⊎_elim
          (λ e. let clash : None ≡ Some q = sym (get_or-set_same hs a None None within) ∙ ap (λ x. holder_at (set hs a None) x) (sym e) ∙ held in cc)
          (λ apart. let before : holder_at hs b ≡ Some q = sym (get_or-set_other hs a b None None apart) ∙ held in
          ended' b q before)
          (cases_eq b a);
      ends_fit = fit';
      room_places = rp;
      room_ends = re;
    }

-- parts that tell the same are sound, with no block to spare
pub sound_copy : (hs : Holders) (words : List ℕ) (free takings room : ℕ) (place : Holder → Option ℕ) (end : Owner → ℕ) (sp se : ℕ) → IsSound hs words free takings room place end sp se
    → (place' : Holder → Option ℕ) (end' : Owner → ℕ) → ((h : Holder) → place' h ≡ place h) → ((o : Owner) → end' o ≡ end o) → (sp' se' : ℕ) → takings ≤ sp' → takings ≤ se'
    → IsSound hs words free takings 0 place' end' sp' se'
sound_copy hs words free takings room place end sp se s place' end' places ends sp' se' rp re = record {
  bits = s.bits;
  few = s.few;
  words_reach = s.words_reach;
  free_is = s.free_is;
  takings_is = s.takings_is;
  placed = λ a h held. places h ∙ s.placed a h held;
  only = λ a h is. s.only a h (sym (places h) ∙ is);
  ended = λ a h held. subst (λ n. h.index < n) (sym (ends h.owner)) (s.ended a h held);
  ends_fit = λ o. subst (λ n. n ≤ 2 ^ 32) (sym (ends o)) (s.ends_fit o);
  room_places = omega (arith, rp);
  room_ends = omega (arith, re);
}
