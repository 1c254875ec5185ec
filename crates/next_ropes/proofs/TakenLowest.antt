-- The lowest free addresses, as they are taken and read off again.
use Rattle.std.proofs.Common.{◌≡◌, ℕ, zero, suc, ◌+◌, ◌≤◌, ◌<◌, true, false, cond, not, ◌&&◌, ◌||◌, List, [], ◌∷◌, ◌++◌, length, take, Option, Some, None, refl, sym, ◌∙◌, ap, arith, eq-eqb}
use Rattle.std.specs.Prelude.{slice_get}
use Rattle.std.specs.List.{list_all}
use Rattle.voice_model.specs.State.{among}
use Rattle.voice_model.specs.Replay.{all_differ, placed_from}
use Rattle.voice_blocks.specs.Holders.{Holders, holder_at, block_of, open_in, with_taken, without_owner, next_index}
use Rattle.voice_blocks.specs.declared.owner.Owner.TheVariants.{File}
use Rattle.voice_blocks.specs.declared.owner.Holder.{Holder}
use Rattle.voice_blocks.proofs.TakeLemmas.{next_index-le}
use Rattle.recovery.specs.Shown.{placed_at}
use Rattle.recovery.specs.Placing.{or_else, is_open}
use Rattle.recovery.proofs.Ropes.{not_equal}
use Rattle.recovery.proofs.Addresses.{open_at, none_of_file}
use Rattle.next_ropes.specs.Lowest.{lowest_from, AreAt}

-- ---- lists

pub take_get : {A : Type 0} (xs : List A) (k : ℕ) (x : A) → slice_get xs k ≡ Some x → take (k + 1) xs ≡ take k xs ++ x ∷ []
take_get [] k x e = cc
take_get (y ∷ ys) zero x e = let same : y ≡ x = cc in ap (λ z. z ∷ []) same
take_get (y ∷ ys) (suc k) x e =
    let next : suc k + 1 ≡ suc (k + 1) = omega arith in
    ap (λ n. take n (y ∷ ys)) next ∙ ap (λ l. y ∷ l) (take_get ys k x e)

-- an address of a list, and its block
pub record HasAt (holders : Holders) (file index k : ℕ) (addresses : List ℕ) : Type 0 where
  pub address : ℕ
  pub at : slice_get addresses k ≡ Some address
  pub held : holder_at holders address ≡ Some (block_of (File file) index)

pub each_at : (hs : Holders) (file index k i : ℕ) (addresses : List ℕ) → i ≡ index + k → AreAt hs file index addresses → k < length addresses → HasAt hs file i k addresses
each_at hs file index k i [] e h less = absurd (omega (arith, less))
each_at hs file index zero i (a ∷ rest) e h less = record { address = a; at = refl; held = h.0 ∙ ap (λ j. Some (block_of (File file) j)) (let same : index ≡ i = omega (arith, e) in same) }
each_at hs file index (suc k) i (a ∷ rest) e h less =
    let later = each_at hs file (index + 1) k i rest (omega (arith, e)) h.1 (omega (arith, less)) in
    record { address = later.address; at = later.at; held = later.held }

-- ---- what becomes of the holders

or_none : (o : Option Holder) → o ≡ or_else o None
or_none None = refl
or_none (Some h) = refl

-- each address is held as before, or by the block that got it
pub taken_at : (file index i at n : ℕ) (hs : Holders) → i ≡ index → (a x : ℕ) → x ≡ at + a → holder_at (with_taken (File file) i n hs) a ≡ or_else (holder_at hs a) (placed_at (placed_from file index (lowest_from at n hs)) x)
taken_at file index i at zero hs same a x e = or_none (holder_at hs a)
taken_at file index i at (suc n) [] same a x e = or_none (holder_at [] a)
taken_at file index i at (suc n) (None ∷ hs) same zero x e =
    ap (λ k. Some (block_of (File file) k)) same
    ∙ sym (ap (λ b. cond b (Some (block_of (File file) index)) (placed_at (placed_from file (index + 1) (lowest_from (suc at) n hs)) x)) (eq-eqb at x (omega (arith, e))))
taken_at file index i at (suc n) (None ∷ hs) same (suc a) x e =
    taken_at file (index + 1) (suc i) (suc at) n hs (omega (arith, same)) a x (omega (arith, e))
    ∙ ap (or_else (holder_at hs a)) (sym (ap (λ b. cond b (Some (block_of (File file) index)) (placed_at (placed_from file (index + 1) (lowest_from (suc at) n hs)) x)) (not_equal at x (λ k. absurd (omega (arith, e, k))))))
taken_at file index i at (suc n) (Some h ∷ hs) same zero x e = refl
taken_at file index i at (suc n) (Some h ∷ hs) same (suc a) x e = taken_at file index i (suc at) (suc n) hs same a x (omega (arith, e))

pub taken_size : (file i n : ℕ) (hs : Holders) → length (with_taken (File file) i n hs) ≡ length hs
taken_size file i zero hs = refl
taken_size file i (suc n) [] = refl
taken_size file i (suc n) (None ∷ hs) = ap suc (taken_size file (suc i) n hs)
taken_size file i (suc n) (Some h ∷ hs) = ap suc (taken_size file i (suc n) hs)

-- ---- the addresses

pub lowest_many : (at n : ℕ) (hs : Holders) → n ≤ open_in hs → length (lowest_from at n hs) ≡ n
lowest_many at zero hs h = refl
lowest_many at (suc n) [] h = absurd (omega (arith, h))
lowest_many at (suc n) (None ∷ hs) h = ap suc (lowest_many (suc at) n hs (omega (arith, h)))
lowest_many at (suc n) (Some x ∷ hs) h = lowest_many (suc at) (suc n) hs h

-- they are read off the holders that they got
pub lowest_held : (all : Holders) (file index i at n : ℕ) (hs : Holders) → i ≡ index → ((a x : ℕ) → x ≡ at + a → holder_at all x ≡ holder_at (with_taken (File file) i n hs) a) → AreAt all file index (lowest_from at n hs)
lowest_held all file index i at zero hs same from = tt
lowest_held all file index i at (suc n) [] same from = tt
lowest_held all file index i at (suc n) (None ∷ hs) same from = (
  from 0 at (omega arith) ∙ ap (λ k. Some (block_of (File file) k)) same,
  lowest_held all file (index + 1) (suc i) (suc at) n hs (omega (arith, same)) (λ a x e. from (suc a) x (omega (arith, e))),
)
lowest_held all file index i at (suc n) (Some h ∷ hs) same from = lowest_held all file index i (suc at) (suc n) hs same (λ a x e. from (suc a) x (omega (arith, e)))

-- those behind an address differ from it
later_differ : (x at n : ℕ) (hs : Holders) → x < at → among (lowest_from at n hs) x ≡ false
later_differ x at zero hs less = refl
later_differ x at (suc n) [] less = refl
later_differ x at (suc n) (None ∷ hs) less = ap (λ b. b || among (lowest_from (suc at) n hs) x) (not_equal at x (λ e. absurd (omega (arith, less, e)))) ∙ later_differ x (suc at) n hs (omega (arith, less))
later_differ x at (suc n) (Some h ∷ hs) less = later_differ x (suc at) (suc n) hs (omega (arith, less))

pub lowest_differ : (at n : ℕ) (hs : Holders) → all_differ (lowest_from at n hs) ≡ true
lowest_differ at zero hs = refl
lowest_differ at (suc n) [] = refl
lowest_differ at (suc n) (None ∷ hs) = ap (λ b. not b && all_differ (lowest_from (suc at) n hs)) (later_differ at (suc at) n hs (omega arith)) ∙ lowest_differ (suc at) n hs
lowest_differ at (suc n) (Some h ∷ hs) = lowest_differ (suc at) (suc n) hs

-- all of them were free
pub lowest_free : (all : Holders) (at n : ℕ) (hs : Holders) → length all ≡ at + length hs → ((a x : ℕ) → x ≡ at + a → holder_at all x ≡ holder_at hs a) → list_all (is_open all) (lowest_from at n hs) ≡ true
lowest_free all at zero hs size from = refl
lowest_free all at (suc n) [] size from = refl
lowest_free all at (suc n) (None ∷ hs) size from =
    ap (λ b. b && list_all (is_open all) (lowest_from (suc at) n hs)) (open_at all at (omega (arith, size)) (from 0 at (omega arith)))
    ∙ lowest_free all (suc at) n hs (omega (arith, size)) (λ a x e. from (suc a) x (omega (arith, e)))
lowest_free all at (suc n) (Some h ∷ hs) size from = lowest_free all (suc at) (suc n) hs (omega (arith, size)) (λ a x e. from (suc a) x (omega (arith, e)))

-- ---- a file that has no block yet

pub first_index : (hs : Holders) (file : ℕ) → ((a : ℕ) → without_owner (File file) (holder_at hs a) ≡ holder_at hs a) → next_index (File file) hs ≡ 0
first_index hs file none =
    let least = next_index-le (File file) hs 0 (λ a index held. absurd (none_of_file hs file none a index held)) in
    omega (arith, least)
