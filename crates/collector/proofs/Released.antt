-- What a release leaves, rope by rope and block by block.
use Rattle.std.proofs.Common.{◌≡◌, ℕ, suc, ◌+◌, ◌≤◌, List, [], ◌∷◌, ◌++◌, length, Bool, true, false, ◌&&◌, ◌||◌, ◌==◌, cond, Option, Some, None, refl, sym, ◌∙◌, ap, arith}
use Rattle.std.proofs.lemmas.Bool.{false≢true, eqb-true, eq-eqb, ne_eqb}
use Rattle.std.specs.Prelude.{option_to_list}
use Rattle.voice_units.specs.declared.Piece.{Piece}
use Rattle.voice_units.specs.Blocks.{BlockPair, same_pair}
use Rattle.voice_units.proofs.Distinct.{same_pair-true}
use Rattle.rope_table.specs.declared.Rope.{Rope}
use Rattle.rope_table.specs.Table.{Table, Counts, uses_at, uses_in, uses_by, pieces_at, pair_of, without_rope}
use Rattle.rope_table.proofs.InOrder.{split}
use Rattle.voice_blocks.specs.declared.Owner.{Owner}
use Rattle.voice_blocks.specs.declared.owner.Owner.TheVariants.{File, Taking}
use Rattle.voice_blocks.specs.declared.owner.Holder.{Holder}
use Rattle.voice_blocks.specs.Holders.{Holders, EachBecomes, holder_at, open_in, without_block, block_of}
use Rattle.collector.specs.Freed.{has_at, gone_has, freed, stretches_of, without_all, IsReleased}

-- ---- lists of numbers

without_all-append : (xs ys : List ℕ) (ropes : List Rope) → without_all (xs ++ ys) ropes ≡ without_all ys (without_all xs ropes)
without_all-append [] ys ropes = refl
without_all-append (x ∷ xs) ys ropes = without_all-append xs ys (without_rope x ropes)

or_assoc : (a b c : Bool) → ((a || b) || c) ≡ (a || (b || c))
or_assoc true b c = refl
or_assoc false b c = refl

gone_has-append : (block : ℕ) (xs ys : List ℕ) (ropes : List Rope) (q : BlockPair) → gone_has block ropes (xs ++ ys) q ≡ (gone_has block ropes xs q || gone_has block (without_all xs ropes) ys q)
gone_has-append block [] ys ropes q = refl
gone_has-append block (x ∷ xs) ys ropes q =
    ap (λ b. has_at block (pieces_at ropes x) q || b) (gone_has-append block xs ys (without_rope x ropes) q)
    ∙ sym (or_assoc (has_at block (pieces_at ropes x) q) (gone_has block (without_rope x ropes) xs q) (gone_has block (without_all xs (without_rope x ropes)) ys q))

pub stretches_of-append : (block : ℕ) (xs ys : List ℕ) (ropes : List Rope) → stretches_of block ropes (xs ++ ys) ≡ stretches_of block ropes xs + stretches_of block (without_all xs ropes) ys
stretches_of-append block [] ys ropes = omega arith
stretches_of-append block (x ∷ xs) ys ropes = let rest = stretches_of-append block xs ys (without_rope x ropes) in omega (arith, rest)

-- ---- what becomes of an address

abbrev if_not : Bool → Holder → Option Holder
if_not b h = cond b None (Some h)

still : (b : Bool) (m n : ℕ) (k : Holder) → (b ≡ false → n ≡ m) → (m == 0) ≡ false → if_not (b && (n == 0)) k ≡ if_not (n == 0) k
still true m n k others e = refl
still false m n k others e = sym (ap (λ t. if_not t k) (ap (λ x. x == 0) (others refl) ∙ e))

-- first some ropes go, and then others
goes_twice : (a b : Bool) (m n : ℕ) (k : Holder) (o : Option Holder → Option Holder) → n ≤ m → (b ≡ false → n ≡ m) → o None ≡ None → o (Some k) ≡ if_not (b && (n == 0)) k → o (if_not (a && (m == 0)) k) ≡ if_not ((a || b) && (n == 0)) k
goes_twice false b m n k o fewer others none some = some
goes_twice true b m n k o fewer others none some = split (m == 0)
    (λ e.
    let n0 : n ≡ 0 = omega (arith, fewer, eqb-true m 0 e) in
    ap (λ t. o (if_not t k)) e ∙ none ∙ sym (ap (λ t. if_not t k) (eq-eqb n 0 n0)))
    (λ e. ap (λ t. o (if_not t k)) e ∙ some ∙ still b m n k others e)

freed_twice_at : (has_1 has_2 : BlockPair → Bool) (uses_1 uses_2 : BlockPair → ℕ) (owner : Owner) (index : ℕ) → ((q : BlockPair) → uses_2 q ≤ uses_1 q) → ((q : BlockPair) → has_2 q ≡ false → uses_2 q ≡ uses_1 q)
    → freed has_2 uses_2 (freed has_1 uses_1 (Some (block_of owner index))) ≡ freed (λ q. has_1 q || has_2 q) uses_2 (Some (block_of owner index))
freed_twice_at has_1 has_2 uses_1 uses_2 (File file) index fewer others =
    let q = pair_of file index in
    goes_twice (has_1 q) (has_2 q) (uses_1 q) (uses_2 q) (block_of (File file) index) (freed has_2 uses_2) (fewer q) (others q) refl refl
freed_twice_at has_1 has_2 uses_1 uses_2 (Taking lane) index fewer others = refl

freed_twice : (has_1 has_2 : BlockPair → Bool) (uses_1 uses_2 : BlockPair → ℕ) (o : Option Holder) → ((q : BlockPair) → uses_2 q ≤ uses_1 q) → ((q : BlockPair) → has_2 q ≡ false → uses_2 q ≡ uses_1 q)
    → freed has_2 uses_2 (freed has_1 uses_1 o) ≡ freed (λ q. has_1 q || has_2 q) uses_2 o
freed_twice has_1 has_2 uses_1 uses_2 None fewer others = refl
freed_twice has_1 has_2 uses_1 uses_2 (Some h) fewer others = freed_twice_at has_1 has_2 uses_1 uses_2 h.owner h.index fewer others

pub same_freed : (has was : BlockPair → Bool) (uses : BlockPair → ℕ) (o : Option Holder) → ((q : BlockPair) → has q ≡ was q) → freed has uses o ≡ freed was uses o
same_freed has was uses o e = λ i. freed (λ q. e q i) uses o

none_freed_at : (has : BlockPair → Bool) (uses : BlockPair → ℕ) (owner : Owner) (index : ℕ) → ((q : BlockPair) → has q ≡ false) → freed has uses (Some (block_of owner index)) ≡ Some (block_of owner index)
none_freed_at has uses (File file) index none = ap (λ b. if_not (b && (uses (pair_of file index) == 0)) (block_of (File file) index)) (none (pair_of file index))
none_freed_at has uses (Taking lane) index none = refl

none_freed_of : (has : BlockPair → Bool) (uses : BlockPair → ℕ) (o : Option Holder) → ((q : BlockPair) → has q ≡ false) → freed has uses o ≡ o
none_freed_of has uses None none = refl
none_freed_of has uses (Some h) none = none_freed_at has uses h.owner h.index none

pub none_freed : (has : BlockPair → Bool) (uses : BlockPair → ℕ) (held : Holders) → ((q : BlockPair) → has q ≡ false) → EachBecomes (freed has uses) held held
none_freed has uses held none = record { count = refl; each = λ a. sym (none_freed_of has uses (holder_at held a) none) }

-- ---- releases one after another

or_false : (b : Bool) → (b || false) ≡ b
or_false true = refl
or_false false = refl

or_both : (a b : Bool) → (a || b) ≡ false → (a ≡ false) × (b ≡ false)
or_both true b e = cc
or_both false b e = (refl, e)

pub released_twice : (t_0 t_1 t_2 : Table) (h_0 h_1 h_2 : Holders) (xs ys : List ℕ) → IsReleased t_0 t_1 h_0 h_1 xs → IsReleased t_1 t_2 h_1 h_2 ys → IsReleased t_0 t_2 h_0 h_2 (xs ++ ys)
released_twice t_0 t_1 t_2 h_0 h_1 h_2 xs ys f s =
    let has = λ (q : BlockPair). sym (gone_has-append t_0.block xs ys t_0.ropes q ∙ ap (λ b. gone_has t_0.block t_0.ropes xs q || b) (sym (ap (λ n. gone_has n t_1.ropes ys q) f.block ∙ ap (λ l. gone_has t_0.block l ys q) f.ropes))) in
    record {
      ropes = s.ropes ∙ ap (without_all ys) f.ropes ∙ sym (without_all-append xs ys t_0.ropes);
      block = s.block ∙ f.block;
      fewer = λ q. let a = f.fewer q in let b = s.fewer q in omega (arith, a, b);
      others = λ q e. let parts = or_both (gone_has t_0.block t_0.ropes xs q) (gone_has t_1.block t_1.ropes ys q) (has q ∙ e) in s.others q parts.1 ∙ f.others q parts.0;
      counts = λ passages c. s.counts passages (f.counts passages c);
      holders = record {
        count = s.holders.count ∙ f.holders.count;
        each = λ a. s.holders.each a ∙ ap (freed (gone_has t_1.block t_1.ropes ys) (uses_at t_2)) (f.holders.each a)
            ∙ freed_twice (gone_has t_0.block t_0.ropes xs) (gone_has t_1.block t_1.ropes ys) (uses_at t_1) (uses_at t_2) (holder_at h_0 a) s.fewer s.others
            ∙ same_freed (λ q. gone_has t_0.block t_0.ropes xs q || gone_has t_1.block t_1.ropes ys q) (gone_has t_0.block t_0.ropes (xs ++ ys)) (uses_at t_2) (holder_at h_0 a) has;
      };
    }

pub none_released : (t : Table) (h : Holders) → IsReleased t t h h []
none_released t h = record { ropes = refl; block = refl; fewer = λ q. omega arith; others = λ q e. refl; counts = λ passages c. c; holders = none_freed (λ q. false) (uses_at t) h (λ q. refl) }

-- ---- one release

stays_used : (block : ℕ) (o : Option (List Piece)) (q : BlockPair) (m n : ℕ) → has_at block o q ≡ false → m + uses_in block (option_to_list o) q ≡ n → m ≡ n
stays_used block None q m n e uses = omega (arith, uses)
stays_used block (Some ps) q m n e uses = let none : uses_by block ps q ≡ 0 = ap (λ b. cond b 1 0) e in omega (arith, uses, none)

pub one_released : (old new : Table) (held left : Holders) (id : ℕ) (o : Option (List Piece)) → o ≡ pieces_at old.ropes id → new.ropes ≡ without_rope id old.ropes → new.block ≡ old.block
    → ((q : BlockPair) → uses_at new q + uses_in old.block (option_to_list o) q ≡ uses_at old q) → ((passages : List (List Piece)) → Counts old passages → Counts new passages)
    → EachBecomes (freed (has_at new.block o) (uses_at new)) held left → IsReleased old new held left (id ∷ [])
one_released old new held left id o is ropes block uses counts each =
    let has = λ (q : BlockPair). ap (λ n. has_at n o q) block ∙ ap (λ p. has_at old.block p q) is ∙ sym (or_false (has_at old.block (pieces_at old.ropes id) q)) in
    record {
      ropes = ropes;
      block = block;
      fewer = λ q. let u = uses q in omega (arith, u);
      others = λ q e. stays_used old.block o q (uses_at new q) (uses_at old q) (ap (λ p. has_at old.block p q) is ∙ sym (or_false (has_at old.block (pieces_at old.ropes id) q)) ∙ e) (uses q);
      counts = counts;
      holders = record { count = each.count; each = λ a. each.each a ∙ same_freed (has_at new.block o) (gone_has old.block old.ropes (id ∷ [])) (uses_at new) (holder_at held a) has };
    }

-- ---- blocks one after another

when_free : (a s : Bool) (k : Holder) (o : Option Holder → Option Holder) → o None ≡ None → o (Some k) ≡ if_not s k → o (if_not (a && true) k) ≡ if_not ((a || s) && true) k
when_free true s k o none some = none
when_free false true k o none some = some
when_free false false k o none some = some

no_match : (s : Bool) (m : ℕ) → (s ≡ true → m ≡ 0) → (m == 0) ≡ false → s ≡ false
no_match s m unused e = split s (λ t. absurd (false≢true (sym e ∙ eq-eqb m 0 (unused t)))) (λ t. t)

when_used : (a s : Bool) (k : Holder) (o : Option Holder → Option Holder) → s ≡ false → o (Some k) ≡ if_not s k → o (if_not (a && false) k) ≡ if_not ((a || s) && false) k
when_used true true k o e some = cc
when_used false true k o e some = cc
when_used true false k o e some = some
when_used false false k o e some = some

-- a block is met, which is dropped or has uses
pub block_dropped : (a s : Bool) (m : ℕ) (k : Holder) (o : Option Holder → Option Holder) → (s ≡ true → m ≡ 0) → o None ≡ None → o (Some k) ≡ if_not s k → o (if_not (a && (m == 0)) k) ≡ if_not ((a || s) && (m == 0)) k
block_dropped a s m k o unheld none some = split (m == 0)
    (λ e. ap (λ t. o (if_not (a && t) k)) e ∙ when_free a s k o none some ∙ sym (ap (λ t. if_not ((a || s) && t) k) e))
    (λ e. ap (λ t. o (if_not (a && t) k)) e ∙ when_used a s k o (no_match s m unheld e) some ∙ sym (ap (λ t. if_not ((a || s) && t) k) e))

dropped_at : (test : BlockPair → Bool) (uses : BlockPair → ℕ) (p : BlockPair) (owner : Owner) (index : ℕ) → uses p ≡ 0 → without_block (block_of (File p.file) p.index) (freed test uses (Some (block_of owner index))) ≡ freed (λ q. test q || same_pair p q) uses (Some (block_of owner index))
dropped_at test uses p (File file) index none =
    let q = pair_of file index in
    block_dropped (test q) (same_pair p q) (uses q) (block_of (File file) index) (without_block (block_of (File p.file) p.index)) (λ e. ap uses (sym (same_pair-true p q e)) ∙ none) refl refl
dropped_at test uses p (Taking lane) index none = refl

dropped_of : (test : BlockPair → Bool) (uses : BlockPair → ℕ) (p : BlockPair) (o : Option Holder) → uses p ≡ 0 → without_block (block_of (File p.file) p.index) (freed test uses o) ≡ freed (λ q. test q || same_pair p q) uses o
dropped_of test uses p None none = refl
dropped_of test uses p (Some h) none = dropped_at test uses p h.owner h.index none

-- a block without a use is dropped
pub dropped : (test next : BlockPair → Bool) (uses : BlockPair → ℕ) (p : BlockPair) (h_0 h_1 h_2 : Holders) → uses p ≡ 0 → ((q : BlockPair) → (test q || same_pair p q) ≡ next q) → EachBecomes (freed test uses) h_0 h_1 → EachBecomes (without_block (block_of (File p.file) p.index)) h_1 h_2 → EachBecomes (freed next uses) h_0 h_2
dropped test next uses p h_0 h_1 h_2 none step f s = record {
  count = s.count ∙ f.count;
  each = λ a. s.each a ∙ ap (without_block (block_of (File p.file) p.index)) (f.each a) ∙ dropped_of test uses p (holder_at h_0 a) none ∙ same_freed (λ q. test q || same_pair p q) next uses (holder_at h_0 a) step;
}

no_and : (a b : Bool) (k : Holder) → if_not (a && false) k ≡ if_not (b && false) k
no_and true true k = refl
no_and true false k = refl
no_and false true k = refl
no_and false false k = refl

still_used_at : (test : BlockPair → Bool) (uses : BlockPair → ℕ) (p : BlockPair) (owner : Owner) (index : ℕ) → (uses p ≡ 0 → ⊥) → freed test uses (Some (block_of owner index)) ≡ freed (λ q. test q || same_pair p q) uses (Some (block_of owner index))
still_used_at test uses p (File file) index some =
    let q = pair_of file index in
    split (same_pair p q)
    (λ e. let used : (uses q == 0) ≡ false = ne_eqb (uses q) 0 (λ z. some (ap uses (same_pair-true p q e) ∙ z)) in
    ap (λ b. if_not (test q && b) (block_of (File file) index)) used ∙ no_and (test q) (test q || same_pair p q) (block_of (File file) index) ∙ sym (ap (λ b. if_not ((test q || same_pair p q) && b) (block_of (File file) index)) used))
    (λ e. sym (ap (λ b. if_not ((test q || b) && (uses q == 0)) (block_of (File file) index)) e ∙ ap (λ b. if_not (b && (uses q == 0)) (block_of (File file) index)) (or_false (test q))))
still_used_at test uses p (Taking lane) index some = refl

still_used_of : (test : BlockPair → Bool) (uses : BlockPair → ℕ) (p : BlockPair) (o : Option Holder) → (uses p ≡ 0 → ⊥) → freed test uses o ≡ freed (λ q. test q || same_pair p q) uses o
still_used_of test uses p None some = refl
still_used_of test uses p (Some h) some = still_used_at test uses p h.owner h.index some

-- a block with a use stays
pub still_used : (test next : BlockPair → Bool) (uses : BlockPair → ℕ) (p : BlockPair) (h_0 h_1 : Holders) → (uses p ≡ 0 → ⊥) → ((q : BlockPair) → (test q || same_pair p q) ≡ next q) → EachBecomes (freed test uses) h_0 h_1 → EachBecomes (freed next uses) h_0 h_1
still_used test next uses p h_0 h_1 some step f = record {
  count = f.count;
  each = λ a. f.each a ∙ still_used_of test uses p (holder_at h_0 a) some ∙ same_freed (λ q. test q || same_pair p q) next uses (holder_at h_0 a) step;
}

pub same_becomes : (test next : BlockPair → Bool) (uses : BlockPair → ℕ) (h_0 h_1 : Holders) → ((q : BlockPair) → test q ≡ next q) → EachBecomes (freed test uses) h_0 h_1 → EachBecomes (freed next uses) h_0 h_1
same_becomes test next uses h_0 h_1 step f = record { count = f.count; each = λ a. f.each a ∙ same_freed test next uses (holder_at h_0 a) step }

freed_none : (test : BlockPair → Bool) (uses : BlockPair → ℕ) (h_0 h_1 : Holders) → EachBecomes (freed test uses) h_0 h_1 → (a : ℕ) → holder_at h_0 a ≡ None → holder_at h_1 a ≡ None
freed_none test uses h_0 h_1 f a e = f.each a ∙ ap (freed test uses) e

pub open_grows : (old new : Holders) → length new ≡ length old → ((a : ℕ) → holder_at old a ≡ None → holder_at new a ≡ None) → open_in old ≤ open_in new
open_grows [] new long none = omega arith
open_grows (h ∷ old) [] long none = absurd (omega (arith, long))
open_grows (None ∷ old) (None ∷ new) long none = let rest = open_grows old new (omega (arith, long)) (λ a. none (suc a)) in omega (arith, rest)
open_grows (None ∷ old) (Some k ∷ new) long none = cc (none 0 refl)
open_grows (Some h ∷ old) (None ∷ new) long none = let rest = open_grows old new (omega (arith, long)) (λ a. none (suc a)) in omega (arith, rest)
open_grows (Some h ∷ old) (Some k ∷ new) long none = let rest = open_grows old new (omega (arith, long)) (λ a. none (suc a)) in omega (arith, rest)

-- no address is taken as ropes go
pub more_open : (test : BlockPair → Bool) (uses : BlockPair → ℕ) (h_0 h_1 : Holders) → EachBecomes (freed test uses) h_0 h_1 → open_in h_0 ≤ open_in h_1
more_open test uses h_0 h_1 f = open_grows h_0 h_1 f.count (freed_none test uses h_0 h_1 f)

-- blocks that go one after another
pub both_freed : (test one next : BlockPair → Bool) (uses : BlockPair → ℕ) (h_0 h_1 h_2 : Holders) → ((q : BlockPair) → (test q || one q) ≡ next q) → EachBecomes (freed test uses) h_0 h_1 → EachBecomes (freed one uses) h_1 h_2 → EachBecomes (freed next uses) h_0 h_2
both_freed test one next uses h_0 h_1 h_2 step f s = record {
  count = s.count ∙ f.count;
  each = λ a. s.each a ∙ ap (freed one uses) (f.each a) ∙ freed_twice test one uses uses (holder_at h_0 a) (λ q. omega arith) (λ q e. refl) ∙ same_freed (λ q. test q || one q) next uses (holder_at h_0 a) step;
}
