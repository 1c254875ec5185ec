-- The addresses of blocks of an owner, listed in rising index.
use Rattle.std.proofs.Common.{◌≡◌, ℕ, zero, suc, ◌+◌, ◌≤◌, ◌<◌, true, false, not, ◌&&◌, ◌||◌, List, [], ◌∷◌, length, Some, None, refl, sym, ◌∙◌, ap, arith}
use Rattle.std.specs.Prelude.{slice_get}
use Rattle.voice_model.specs.State.{among}
use Rattle.voice_model.specs.Replay.{all_differ}
use Rattle.voice_blocks.specs.Holders.{Holders, holder_at, open_in, block_of, with_taken}
use Rattle.voice_blocks.specs.declared.owner.Owner.{Owner}
use Rattle.voice_blocks.specs.declared.owner.Holder.{Holder}
use Rattle.recovery.proofs.Ropes.{not_equal}
use Rattle.running_tables.specs.Running.{IsGiven}
use Rattle.next_ropes.specs.Lowest.{lowest_from}
use Rattle.next_ropes.proofs.TakenLowest.{lowest_many}
use Rattle.open_recordings.specs.Blocks.{AreAt, AreAddresses}
use Rattle.open_recordings.proofs.Counted.{index_in}

-- an address of a list, and its block
pub record HasAt (holders : Holders) (owner : Owner) (index k : ℕ) (addresses : List ℕ) : Type 0 where
  pub address : ℕ
  pub at : slice_get addresses k ≡ Some address
  pub held : holder_at holders address ≡ Some (block_of owner index)

pub each_at : (hs : Holders) (o : Owner) (index k i : ℕ) (addresses : List ℕ) → i ≡ index + k → AreAt hs o index addresses → k < length addresses → HasAt hs o i k addresses
each_at hs o index k i [] e h less = absurd (omega (arith, less))
each_at hs o index zero i (a ∷ rest) e h less = record { address = a; at = refl; held = h.0 ∙ ap (λ j. Some (block_of o j)) (let same : index ≡ i = omega (arith, e) in same) }
each_at hs o index (suc k) i (a ∷ rest) e h less =
    let later = each_at hs o (index + 1) k i rest (omega (arith, e)) h.1 (omega (arith, less)) in
    record { address = later.address; at = later.at; held = later.held }

-- blocks that have addresses are listed
pub given_listed : (hs : Holders) (o : Owner) (from n : ℕ) → ((k : ℕ) → from ≤ k → k < from + n → IsGiven hs (block_of o k)) → (addresses : List ℕ) × AreAddresses hs o from n addresses
given_listed hs o from zero given = ([], record { many = refl; each = tt })
given_listed hs o from (suc n) given =
    let at = given from (omega arith) (omega arith) in
    let rest = given_listed hs o (from + 1) n (λ k low high. given k (omega (arith, low)) (omega (arith, high))) in
    (at.0 ∷ rest.0, record { many = ap suc rest.1.many; each = (at.1, rest.1.each) })

-- the lowest free addresses are read off the holders that they got
lowest_held : (all : Holders) (o : Owner) (index i at n : ℕ) (hs : Holders) → i ≡ index → ((a x : ℕ) → x ≡ at + a → holder_at all x ≡ holder_at (with_taken o i n hs) a) → AreAt all o index (lowest_from at n hs)
lowest_held all o index i at zero hs same from = tt
lowest_held all o index i at (suc n) [] same from = tt
lowest_held all o index i at (suc n) (None ∷ hs) same from = (
  from 0 at (omega arith) ∙ ap (λ k. Some (block_of o k)) same,
  lowest_held all o (index + 1) (suc i) (suc at) n hs (omega (arith, same)) (λ a x e. from (suc a) x (omega (arith, e))),
)
lowest_held all o index i at (suc n) (Some h ∷ hs) same from = lowest_held all o index i (suc at) (suc n) hs same (λ a x e. from (suc a) x (omega (arith, e)))

pub lowest_listed : (hs : Holders) (o : Owner) (from n : ℕ) → n ≤ open_in hs → AreAddresses (with_taken o from n hs) o from n (lowest_from 0 n hs)
lowest_listed hs o from n enough = record {
  many = lowest_many 0 n hs enough;
  each = lowest_held (with_taken o from n hs) o from from 0 n hs refl (λ a x e. ap (holder_at (with_taken o from n hs)) (let same : x ≡ a = omega (arith, e) in same));
}

-- ---- no address stands twice

later_differ : (hs : Holders) (o : Owner) (index i a : ℕ) (addresses : List ℕ) → holder_at hs a ≡ Some (block_of o i) → i < index → AreAt hs o index addresses → among addresses a ≡ false
later_differ hs o index i a [] e less h = refl
later_differ hs o index i a (c ∷ rest) e less h =
    ap (λ b. b || among rest a) (not_equal c a (λ k. let same : index ≡ i = ap index_in (sym h.0 ∙ ap (holder_at hs) k ∙ e) in absurd (omega (arith, less, same))))
    ∙ later_differ hs o (index + 1) i a rest e (omega (arith, less)) h.1

pub held_differ : (hs : Holders) (o : Owner) (index : ℕ) (addresses : List ℕ) → AreAt hs o index addresses → all_differ addresses ≡ true
held_differ hs o index [] h = refl
held_differ hs o index (a ∷ rest) h = ap (λ b. not b && all_differ rest) (later_differ hs o (index + 1) index a rest h.0 (omega arith) h.1) ∙ held_differ hs o (index + 1) rest h.1

-- an address that somebody holds is one of the disk
pub held_below : (hs : Holders) (a : ℕ) (h : Holder) → holder_at hs a ≡ Some h → a < length hs
held_below [] a h e = cc
held_below (o ∷ hs) zero h e = omega arith
held_below (o ∷ hs) (suc a) h e = let less = held_below hs a h e in omega (arith, less)
