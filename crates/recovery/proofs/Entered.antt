-- Blocks of a file of a base at their addresses.
use Rattle.std.proofs.Common.{◌≡◌, ℕ, ◌≤◌, ◌<◌, Bool, true, false, cond, not, ◌&&◌, nat_lt, List, [], ◌∷◌, map, length, Some, refl, sym, ◌∙◌, ap, arith}
use Rattle.std.specs.Prelude.{slice_set, is_some}
use Rattle.std.specs.List.{list_all}
use Rattle.std.proofs.lemmas.Bool.{eq-eqb, ltb-true}
use Rattle.voice_units.proofs.PiecesOfRopes.{both}
use Rattle.voice_model.specs.State.{among}
use Rattle.voice_model.specs.Spelling.{rise}
use Rattle.voice_model.specs.Replay.{all_differ}
use Rattle.voice_model.specs.Valid.{Every}
use Rattle.voice_model.specs.declared.lists.Pair.{Pair}
use Rattle.voice_blocks.specs.Holders.{Holders, holder_at, block_of}
use Rattle.voice_blocks.specs.declared.owner.Owner.TheVariants.{File}
use Rattle.voice_blocks.specs.declared.owner.Holder.{Holder}
use Rattle.recovery.specs.Placing.{is_open, may_enter}
use Rattle.recovery.proofs.Addresses.{all_set, holder_set}
use Rattle.recovery.proofs.BlocksUsed.{same_or}
use Rattle.recovery.proofs.Ropes.{not_equal}

-- ---- whether all can be entered

all_mapped : {A B : Type 0} (p : B → Bool) (f : A → B) (xs : List A) → list_all p (map f xs) ≡ list_all (λ x. p (f x)) xs
all_mapped p f [] = refl
all_mapped p f (x ∷ xs) = ap (λ b. p (f x) && b) (all_mapped p f xs)

abbrev all_open : Holders → List Pair → Bool
all_open hs pairs = list_all (λ pair. is_open hs pair.address) pairs

abbrev addresses_of : List Pair → List ℕ
addresses_of pairs = map (λ pair. pair.address) pairs

open_after : (hs : Holders) (x : ℕ) (h : Holder) (rest : List Pair) → x < length hs → all_open (slice_set hs x (Some h)) rest ≡ (not (among (addresses_of rest) x) && all_open hs rest)
open_after hs x h rest less =
    sym (all_mapped (is_open (slice_set hs x (Some h))) (λ (pair : Pair). pair.address) rest) ∙ all_set hs x h (addresses_of rest) less
    ∙ ap (λ b. not (among (addresses_of rest) x) && b) (all_mapped (is_open hs) (λ (pair : Pair). pair.address) rest)

pub may_enter_is : (hs : Holders) (file : ℕ) (pairs : List Pair) → may_enter hs file pairs ≡ (all_differ (map (λ (pair : Pair). pair.address) pairs) && list_all (λ (pair : Pair). is_open hs pair.address) pairs)
may_enter_is hs file [] = refl
may_enter_is hs file (pair ∷ rest) = by_test (is_open hs a) refl (may_enter_is next file rest)
  where
    a : ℕ
    a = pair.address

    next : Holders
    next = slice_set hs a (Some (block_of (File file) pair.index))

    others : List ℕ
    others = addresses_of rest

    none : (p q : Bool) → (p && (false && q)) ≡ false
    none true q = refl
    none false q = refl

    swap : (p q s : Bool) → (p && (q && s)) ≡ ((q && p) && s)
    swap true true s = refl
    swap true false s = refl
    swap false true s = refl
    swap false false s = refl

    by_test : (b : Bool) → is_open hs a ≡ b → may_enter next file rest ≡ (all_differ others && all_open next rest)
        → (is_open hs a && may_enter next file rest) ≡ ((not (among others a) && all_differ others) && (is_open hs a && all_open hs rest))
    by_test false e later = ap (λ b. b && may_enter next file rest) e ∙ sym (ap (λ b. (not (among others a) && all_differ others) && (b && all_open hs rest)) e ∙ none (not (among others a) && all_differ others) (all_open hs rest))
    by_test true e later =
        let less = ltb-true a (length hs) (both (nat_lt a (length hs)) (not (is_some (holder_at hs a))) e).0 in
        ap (λ b. b && may_enter next file rest) e ∙ later ∙ ap (λ b. all_differ others && b) (open_after hs a (block_of (File file) pair.index) rest less)
        ∙ swap (all_differ others) (not (among others a)) (all_open hs rest)
        ∙ sym (ap (λ b. (not (among others a) && all_differ others) && (b && all_open hs rest)) e)

-- ---- a step

-- no address holds one of these blocks of a file
abbrev pub AreFresh : Holders → ℕ → List Pair → Type 0
AreFresh hs file pairs = Every (λ (pair : Pair). (a : ℕ) → ¬ (holder_at hs a ≡ Some (block_of (File file) pair.index))) pairs

pub all_fresh : (hs : Holders) (file : ℕ) (pairs : List Pair) → ((a index : ℕ) → ¬ (holder_at hs a ≡ Some (block_of (File file) index))) → AreFresh hs file pairs
all_fresh hs file [] h = tt
all_fresh hs file (pair ∷ pairs) h = (λ a. h a pair.index, all_fresh hs file pairs h)

pub rise_rest : (a : ℕ) (rest : List ℕ) → rise (a ∷ rest) ≡ true → rise rest ≡ true
rise_rest a [] h = refl
rise_rest a (b ∷ rest) h = (both (nat_lt a b) (rise (b ∷ rest)) h).1

index_of : (h k : Holder) → Some h ≡ Some k → h.index ≡ k.index
index_of h k e = let same : h ≡ k = cc in ap (λ (h : Holder). h.index) same

-- a block of a file has its address, and those behind it have none
pub fresh_later : (hs : Holders) (file x index low : ℕ) (rest : List Pair) → x < length hs → index ≤ low → rise (low ∷ map (λ (pair : Pair). pair.index) rest) ≡ true → AreFresh hs file rest → AreFresh (slice_set hs x (Some (block_of (File file) index))) file rest
fresh_later hs file x index low [] less from up h = tt
fresh_later hs file x index low (pair ∷ rest) less from up h =
    let tests = both (nat_lt low pair.index) (rise (pair.index ∷ map (λ (pair : Pair). pair.index) rest)) up in
    let above = ltb-true low pair.index tests.0 in (
      λ a e.
          let is = holder_set hs x a (Some (block_of (File file) index)) less in
          same_or a x
          (λ same. let found : Some (block_of (File file) index) ≡ Some (block_of (File file) pair.index) = sym (is ∙ ap (λ b. cond b (Some (block_of (File file) index)) (holder_at hs a)) (eq-eqb a x same)) ∙ e in
          let k : index ≡ pair.index = index_of _ _ found in absurd (omega (arith, k, above, from)))
          (λ apart. h.0 a (sym (is ∙ ap (λ b. cond b (Some (block_of (File file) index)) (holder_at hs a)) (not_equal a x apart)) ∙ e)),
      fresh_later hs file x index pair.index rest less (omega (arith, from, above)) tests.1 h.1,
    )
