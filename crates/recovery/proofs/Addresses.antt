-- The blocks of a recording at their addresses.
use Rattle.std.proofs.Common.{◌≡◌, ℕ, ◌+◌, ◌≤◌, ◌<◌, ◌==◌, Bool, true, false, cond, not, ◌&&◌, ◌||◌, nat_lt, List, [], ◌∷◌, length, Option, Some, None, refl, sym, ◌∙◌, ap, arith, get_or-set_other, get_or-set_same}
use Rattle.std.proofs.Math.ListN.{length-set}
use Rattle.std.specs.Prelude.{slice_set, is_some}
use Rattle.std.specs.List.{list_all}
use Rattle.std.proofs.lemmas.Bool.{eq-eqb, ltb-true}
use Rattle.voice_model.specs.State.{among}
use Rattle.voice_model.specs.Replay.{all_differ}
use Rattle.voice_blocks.specs.Holders.{Holders, holder_at, block_of, without_owner}
use Rattle.voice_blocks.specs.declared.owner.Owner.TheVariants.{File}
use Rattle.voice_blocks.specs.declared.owner.Holder.{Holder}
use Rattle.recovery.specs.Placing.{or_else, is_open, may_place}
use Rattle.recovery.proofs.BlocksUsed.{same_or}
use Rattle.recovery.proofs.Ropes.{not_equal}

-- who holds an address after a block got one
pub holder_set : (hs : Holders) (x a : ℕ) (h : Option Holder) → x < length hs → holder_at (slice_set hs x h) a ≡ cond (a == x) h (holder_at hs a)
holder_set hs x a h less =
    same_or a x
    (λ same. ap (holder_at (slice_set hs x h)) same ∙ get_or-set_same hs x h None less ∙ sym (ap (λ b. cond b h (holder_at hs a)) (eq-eqb a x same)))
    (λ apart. get_or-set_other hs x a h None apart ∙ sym (ap (λ b. cond b h (holder_at hs a)) (not_equal a x apart)))

-- ---- whether all can be placed

open_set : (hs : Holders) (x a : ℕ) (h : Holder) → x < length hs → is_open (slice_set hs x (Some h)) a ≡ (not (a == x) && is_open hs a)
open_set hs x a h less =
    ap (λ n. nat_lt a n && not (is_some (holder_at (slice_set hs x (Some h)) a))) (length-set hs x (Some h))
    ∙ ap (λ o. nat_lt a (length hs) && not (is_some o)) (holder_set hs x a (Some h) less) ∙ by_test (a == x) (nat_lt a (length hs))
  where
    by_test : (b c : Bool) → (c && not (is_some (cond b (Some h) (holder_at hs a)))) ≡ (not b && (c && not (is_some (holder_at hs a))))
    by_test true true = refl
    by_test true false = refl
    by_test false c = refl

pub all_set : (hs : Holders) (x : ℕ) (h : Holder) (rest : List ℕ) → x < length hs → list_all (is_open (slice_set hs x (Some h))) rest ≡ (not (among rest x) && list_all (is_open hs) rest)
all_set hs x h [] less = refl
all_set hs x h (a ∷ rest) less =
    ap (λ b. b && list_all (is_open (slice_set hs x (Some h))) rest) (open_set hs x a h less) ∙ ap (λ b. (not (a == x) && is_open hs a) && b) (all_set hs x h rest less)
    ∙ joined (a == x) (is_open hs a) (among rest x) (list_all (is_open hs) rest)
  where
    joined : (p q r s : Bool) → ((not p && q) && (not r && s)) ≡ (not (p || r) && (q && s))
    joined true q r s = refl
    joined false true r s = refl
    joined false false true s = refl
    joined false false false s = refl

pub may_place_is : (hs : Holders) (file index : ℕ) (addresses : List ℕ) → may_place hs file index addresses ≡ (all_differ addresses && list_all (is_open hs) addresses)
may_place_is hs file index [] = refl
may_place_is hs file index (a ∷ rest) = by_test (is_open hs a) refl (may_place_is (slice_set hs a (Some (block_of (File file) index))) file (index + 1) rest)
  where
    next : Holders
    next = slice_set hs a (Some (block_of (File file) index))

    none : (p q : Bool) → (p && (false && q)) ≡ false
    none true q = refl
    none false q = refl

    swap : (p q s : Bool) → (p && (q && s)) ≡ ((q && p) && s)
    swap true true s = refl
    swap true false s = refl
    swap false true s = refl
    swap false false s = refl

    first : (p q : Bool) → (p && q) ≡ true → p ≡ true
    first true q e = refl
    first false q e = cc

    by_test : (b : Bool) → is_open hs a ≡ b → may_place next file (index + 1) rest ≡ (all_differ rest && list_all (is_open next) rest)
        → (is_open hs a && may_place next file (index + 1) rest) ≡ ((not (among rest a) && all_differ rest) && (is_open hs a && list_all (is_open hs) rest))
    by_test false e later = ap (λ b. b && may_place next file (index + 1) rest) e ∙ sym (ap (λ b. (not (among rest a) && all_differ rest) && (b && list_all (is_open hs) rest)) e ∙ none (not (among rest a) && all_differ rest) (list_all (is_open hs) rest))
    by_test true e later =
        let less = ltb-true a (length hs) (first (nat_lt a (length hs)) (not (is_some (holder_at hs a))) e) in
        ap (λ b. b && may_place next file (index + 1) rest) e ∙ later ∙ ap (λ b. all_differ rest && b) (all_set hs a (block_of (File file) index) rest less)
        ∙ swap (all_differ rest) (not (among rest a)) (list_all (is_open hs) rest)
        ∙ sym (ap (λ b. (not (among rest a) && all_differ rest) && (b && list_all (is_open hs) rest)) e)

-- ---- a step

module _ (hs : Holders) (file index x : ℕ) (less : x < length hs) (free : holder_at hs x ≡ None) where
  next_holders : Holders
  next_holders = slice_set hs x (Some (block_of (File file) index))

  -- the block comes before what else is placed
  pub placed_step : (later : Option Holder) (a : ℕ) → or_else (holder_at (slice_set hs x (Some (block_of (File file) index))) a) later ≡ or_else (holder_at hs a) (cond (x == a) (Some (block_of (File file) index)) later)
  placed_step later a =
      ap (λ o. or_else o later) (holder_set hs x a (Some (block_of (File file) index)) less)
      ∙ same_or a x
      (λ same. ap (λ b. or_else (cond b (Some (block_of (File file) index)) (holder_at hs a)) later) (eq-eqb a x same)
      ∙ sym (ap (λ o. or_else o (cond (x == a) (Some (block_of (File file) index)) later)) (ap (holder_at hs) same ∙ free) ∙ ap (λ b. cond b (Some (block_of (File file) index)) later) (eq-eqb x a (sym same))))
      (λ apart. ap (λ b. or_else (cond b (Some (block_of (File file) index)) (holder_at hs a)) later) (not_equal a x apart)
      ∙ sym (ap (λ b. or_else (holder_at hs a) (cond b (Some (block_of (File file) index)) later)) (not_equal x a (λ e. apart (sym e)))))

  pub without_step : (a : ℕ) → without_owner (File file) (holder_at (slice_set hs x (Some (block_of (File file) index))) a) ≡ without_owner (File file) (holder_at hs a)
  without_step a =
      ap (without_owner (File file)) (holder_set hs x a (Some (block_of (File file) index)) less)
      ∙ same_or a x
      (λ same. ap (λ b. without_owner (File file) (cond b (Some (block_of (File file) index)) (holder_at hs a))) (eq-eqb a x same) ∙ ap (λ b. cond b None (Some (block_of (File file) index))) (eq-eqb file file refl)
      ∙ sym (ap (without_owner (File file)) (ap (holder_at hs) same ∙ free)))
      (λ apart. ap (λ b. without_owner (File file) (cond b (Some (block_of (File file) index)) (holder_at hs a))) (not_equal a x apart))

  pub fresh_step : ((a j : ℕ) → index ≤ j → ¬ (holder_at hs a ≡ Some (block_of (File file) j))) → (a j : ℕ) → index + 1 ≤ j → ¬ (holder_at (slice_set hs x (Some (block_of (File file) index))) a ≡ Some (block_of (File file) j))
  fresh_step fresh a j later e =
      same_or a x
      (λ same. let is : Some (block_of (File file) index) ≡ Some (block_of (File file) j) = sym (holder_set hs x a (Some (block_of (File file) index)) less ∙ ap (λ b. cond b (Some (block_of (File file) index)) (holder_at hs a)) (eq-eqb a x same)) ∙ e in
      let k : index ≡ j = index_of _ _ is in absurd (omega (arith, k, later)))
      (λ apart. fresh a j (omega (arith, later)) (sym (holder_set hs x a (Some (block_of (File file) index)) less ∙ ap (λ b. cond b (Some (block_of (File file) index)) (holder_at hs a)) (not_equal a x apart)) ∙ e))
    where
      index_of : (h k : Holder) → Some h ≡ Some k → h.index ≡ k.index
      index_of h k e = let same : h ≡ k = cc in ap (λ (h : Holder). h.index) same

-- a map that has no block of a file
pub none_of_file : (hs : Holders) (file : ℕ) → ((a : ℕ) → without_owner (File file) (holder_at hs a) ≡ holder_at hs a) → (a j : ℕ) → ¬ (holder_at hs a ≡ Some (block_of (File file) j))
none_of_file hs file none a j e =
    let gone : without_owner (File file) (holder_at hs a) ≡ None = ap (without_owner (File file)) e ∙ ap (λ b. cond b None (Some (block_of (File file) j))) (eq-eqb file file refl) in
    let bad : Some (block_of (File file) j) ≡ None = sym e ∙ sym (none a) ∙ gone in cc

pub open_at : (hs : Holders) (a : ℕ) → a < length hs → holder_at hs a ≡ None → is_open hs a ≡ true
open_at hs a less free = ap (λ o. nat_lt a (length hs) && not (is_some o)) free ∙ ap (λ b. b && true) (below a (length hs) less)
  where
    below : (a n : ℕ) → a < n → nat_lt a n ≡ true
    below a n h = grind (arith, h)

pub is_open_both : (hs : Holders) (a : ℕ) → is_open hs a ≡ true → (a < length hs) × (holder_at hs a ≡ None)
is_open_both hs a h = both_by (nat_lt a (length hs)) (holder_at hs a) refl refl h
  where
    both_by : (b : Bool) (o : Option Holder) → nat_lt a (length hs) ≡ b → holder_at hs a ≡ o → (b && not (is_some o)) ≡ true → (a < length hs) × (holder_at hs a ≡ None)
    both_by true None e f h = (ltb-true a (length hs) e, f)
    both_by true (Some x) e f h = cc
    both_by false o e f h = cc
