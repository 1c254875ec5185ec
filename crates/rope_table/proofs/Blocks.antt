-- Which blocks pieces have.
use Rattle.std.proofs.Common.{◌≡◌, ℕ, zero, suc, ◌+◌, ◌-◌, ◌*◌, ◌^◌, ◌<◌, ◌≤◌, List, [], ◌∷◌, ◌++◌, length, filter, take, get_or, Bool, true, false, not, ◌&&◌, ◌||◌, ◌==◌, cond, nat_lt, nat_le, Some, refl, sym, ◌∙◌, ap, subst, arith}
use Rattle.std.proofs.Math.Nat.{le-mul_of_pos_right}
use Rattle.std.proofs.lemmas.List.{map-append, take_more, append_assoc, append-nil}
use Rattle.std.proofs.lemmas.List.Folds.{list_any-append}
use Rattle.std.proofs.lemmas.Bool.{cond_both, false≢true, eq-eqb}
use Rattle.std.proofs.lemmas.Bool.Decides.{nat_tests}
use Rattle.std.specs.Prelude.{slice_get}
use Rattle.std.specs.List.{list_all}
use Rattle.voice_units.specs.declared.Piece.{Piece}
use Rattle.voice_units.specs.Spots.{Spot, spots_of, spots_in, IsNormal}
use Rattle.voice_units.specs.Blocks.{BlockPair, pair_at, pairs_at, has_pair, same_pair, distinct, in_run}
use Rattle.voice_units.proofs.Distinct.{same_count, same_pair-true, has_pair-distinct}
use Rattle.rope_algebra.specs.Kept.{LieInFiles}
use Rattle.rope_table.proofs.InOrder.{split}

-- ---- blocks one behind another

-- no block yet
pub no_run : (file first : ℕ) (q : BlockPair) (b : Bool) → (b || in_run file first first q) ≡ b
no_run file first q b = grind (arith, nat_tests)

same_here : (q : BlockPair) (file index : ℕ) → same_pair (record { file = file; index = index }) q ≡ ((q.file == file) && (q.index == index))
same_here q file index = grind (arith, nat_tests)

run_step : (f : Bool) (i a n : ℕ) → a ≤ n → ((f && (nat_le a i && nat_lt i n)) || (f && (i == n))) ≡ (f && (nat_le a i && nat_lt i (n + 1)))
run_step true i a n h = grind (arith, nat_tests)
run_step false i a n h = refl

or_assoc : (a b c : Bool) → ((a || b) || c) ≡ (a || (b || c))
or_assoc true b c = refl
or_assoc false b c = refl

-- one block more
pub run_more : (file first index : ℕ) (q : BlockPair) (b : Bool) → first ≤ index → ((b || in_run file first index q) || same_pair (record { file = file; index = index }) q) ≡ (b || in_run file first (index + 1) q)
run_more file first index q b le =
    or_assoc b (in_run file first index q) (same_pair (record { file = file; index = index }) q)
    ∙ ap (λ t. b || (in_run file first index q || t)) (same_here q file index)
    ∙ ap (λ t. b || t) (run_step (q.file == file) q.index first index le)

-- ---- blocks of pieces

spots_of-append : (ps qs : List Piece) → spots_of (ps ++ qs) ≡ spots_of ps ++ spots_of qs
spots_of-append [] qs = refl
spots_of-append (p ∷ ps) qs = ap (λ l. spots_in p ++ l) (spots_of-append ps qs) ∙ sym (append_assoc (spots_in p) (spots_of ps) (spots_of qs))

pub has_pair-append : (block : ℕ) (ss ts : List Spot) (q : BlockPair) → has_pair (pairs_at block (ss ++ ts)) q ≡ (has_pair (pairs_at block ss) q || has_pair (pairs_at block ts) q)
has_pair-append block ss ts q = ap (λ l. has_pair l q) (map-append (pair_at block) ss ts) ∙ list_any-append (same_pair q) (pairs_at block ss) (pairs_at block ts)

pub front_more : (block k : ℕ) (ps : List Piece) (piece : Piece) (q : BlockPair) → k < length ps → piece ≡ get_or ps k piece → (has_pair (pairs_at block (spots_of (take k ps))) q || has_pair (pairs_at block (spots_in piece)) q) ≡ has_pair (pairs_at block (spots_of (take (k + 1) ps))) q
front_more block k ps piece q within is =
    sym (ap (λ l. has_pair (pairs_at block (spots_of l)) q) (take_more ps k piece within ∙ ap (λ p. take k ps ++ p ∷ []) (sym is))
    ∙ ap (λ l. has_pair (pairs_at block l) q) (spots_of-append (take k ps) (piece ∷ []) ∙ ap (λ l. spots_of (take k ps) ++ l) (append-nil (spots_in piece)))
    ∙ has_pair-append block (spots_of (take k ps)) (spots_in piece) q)

pub or_left : (a b : Bool) → a ≡ true → (a || b) ≡ true
or_left true b e = refl
or_left false b e = cc

pub or_right : (a b : Bool) → b ≡ true → (a || b) ≡ true
or_right true b e = refl
or_right false b e = e

pub block_of_piece : (block k : ℕ) (ps : List Piece) (piece : Piece) (q : BlockPair) → slice_get ps k ≡ Some piece → has_pair (pairs_at block (spots_in piece)) q ≡ true → has_pair (pairs_at block (spots_of ps)) q ≡ true
block_of_piece block k [] piece q at has = cc
block_of_piece block zero (p ∷ ps) piece q at has =
    let same : p ≡ piece = cc in
    has_pair-append block (spots_in p) (spots_of ps) q ∙ or_left _ _ (ap (λ r. has_pair (pairs_at block (spots_in r)) q) same ∙ has)
block_of_piece block (suc k) (p ∷ ps) piece q at has =
    has_pair-append block (spots_in p) (spots_of ps) q ∙ or_right _ _ (block_of_piece block k ps piece q at has)

pub in_its_run : (file first index end : ℕ) → first ≤ index → index < end → in_run file first end (record { file = file; index = index }) ≡ true
in_its_run file first index end h k = grind (arith, nat_tests)

-- ---- pieces of a rope

pub some_samples : (ps : List Piece) (k : ℕ) (piece : Piece) → IsNormal ps → slice_get ps k ≡ Some piece → 1 ≤ piece.len
some_samples [] k piece normal at = cc
some_samples (p ∷ []) zero piece normal at = let same : p ≡ piece = cc in subst (λ (r : Piece). 1 ≤ r.len) same normal
some_samples (p ∷ []) (suc k) piece normal at = cc
some_samples (p ∷ r ∷ ps) zero piece normal at = let same : p ≡ piece = cc in subst (λ (r : Piece). 1 ≤ r.len) same normal.0
some_samples (p ∷ r ∷ ps) (suc k) piece normal at = some_samples (r ∷ ps) k piece normal.2 at

pub ends_in_file : (ps : List Piece) (k : ℕ) (piece : Piece) → LieInFiles ps → slice_get ps k ≡ Some piece → piece.from + piece.len ≤ 2 ^ 30
ends_in_file [] k piece ends at = cc
ends_in_file (p ∷ ps) zero piece ends at = let same : p ≡ piece = cc in subst (λ (r : Piece). r.from + r.len ≤ 2 ^ 30) same ends.0
ends_in_file (p ∷ ps) (suc k) piece ends at = ends_in_file ps k piece ends.1 at

-- the indexes of a piece's blocks fit
pub blocks_fit : (block k : ℕ) (ps : List Piece) (piece : Piece) → 0 < block → LieInFiles ps → slice_get ps k ≡ Some piece → piece.from + piece.len ≤ (2 ^ 32 - 1) * block
blocks_fit block k ps piece some ends at =
    let end = ends_in_file ps k piece ends at in
    let most = le-mul_of_pos_right {m = block} (2 ^ 32 - 1) some in
    omega (arith, end, most)

pub at_get : {A : Type 0} (xs : List A) (k : ℕ) (x : A) → slice_get xs k ≡ Some x → x ≡ get_or xs k x
at_get [] k x at = cc
at_get (y ∷ ys) zero x at = cc
at_get (y ∷ ys) (suc k) x at = at_get ys k x at

-- a block that is met in a piece is one of the pieces'
pub meets : (block k index start end : ℕ) (ps : List Piece) (piece : Piece) → slice_get ps k ≡ Some piece → ((q : BlockPair) → has_pair (pairs_at block (spots_in piece)) q ≡ in_run piece.file start end q) → start ≤ index → index < end → has_pair (pairs_at block (spots_of ps)) (record { file = piece.file; index = index }) ≡ true
meets block k index start end ps piece at run low high =
    let p : BlockPair = record { file = piece.file; index = index } in
    block_of_piece block k ps piece p at (run p ∙ in_its_run piece.file start index end low high)

-- the pieces' blocks, with those of one more met to the end
pub piece_met : (block k start index end : ℕ) (ps : List Piece) (piece : Piece) (q : BlockPair) → k < length ps → slice_get ps k ≡ Some piece → ((q : BlockPair) → has_pair (pairs_at block (spots_in piece)) q ≡ in_run piece.file start end q) → index ≡ end → (has_pair (pairs_at block (spots_of (take k ps))) q || in_run piece.file start index q) ≡ has_pair (pairs_at block (spots_of (take (k + 1) ps))) q
piece_met block k start index end ps piece q within at run last =
    ap (λ n. has_pair (pairs_at block (spots_of (take k ps))) q || in_run piece.file start n q) last
    ∙ ap (λ b. has_pair (pairs_at block (spots_of (take k ps))) q || b) (sym (run q))
    ∙ front_more block k ps piece q within (at_get ps k piece at)

-- ---- how many blocks are missing

and_false : (a b : Bool) → b ≡ false → (a && b) ≡ false
and_false true b e = e
and_false false b e = refl

has_filter : (test : BlockPair → Bool) (ps : List BlockPair) (q : BlockPair) → has_pair (filter test ps) q ≡ (has_pair ps q && test q)
has_filter test [] q = refl
has_filter test (p ∷ ps) q =
    split (same_pair q p)
    (λ e. let one = same_pair-true q p e in
    split (test p)
    (λ t. ap (λ b. has_pair (cond b (p ∷ filter test ps) (filter test ps)) q) t ∙ ap (λ b. b || has_pair (filter test ps) q) e ∙ sym (ap (λ b. (b || has_pair ps q) && test q) e ∙ ap test one ∙ t))
    (λ t. ap (λ b. has_pair (cond b (p ∷ filter test ps) (filter test ps)) q) t ∙ has_filter test ps q ∙ and_false (has_pair ps q) (test q) (ap test one ∙ t) ∙ sym (ap (λ b. (b || has_pair ps q) && test q) e ∙ ap test one ∙ t)))
    (λ e. split (test p)
    (λ t. ap (λ b. has_pair (cond b (p ∷ filter test ps) (filter test ps)) q) t ∙ ap (λ b. b || has_pair (filter test ps) q) e ∙ has_filter test ps q ∙ sym (ap (λ b. (b || has_pair ps q) && test q) e))
    (λ t. ap (λ b. has_pair (cond b (p ∷ filter test ps) (filter test ps)) q) t ∙ has_filter test ps q ∙ sym (ap (λ b. (b || has_pair ps q) && test q) e)))

pub same_pair-refl : (p : BlockPair) → same_pair p p ≡ true
same_pair-refl p = ap (λ b. b && (p.index == p.index)) (eq-eqb p.file p.file refl) ∙ eq-eqb p.index p.index refl

same_swap : (p q : BlockPair) → same_pair p q ≡ same_pair q p
same_swap p q = grind (arith, nat_tests)

already : (p q : BlockPair) (was : BlockPair → Bool) → was p ≡ true → (same_pair p q || was q) ≡ was q
already p q was e = split (same_pair p q)
    (λ t. ap (λ b. b || was q) t ∙ sym (sym (ap was (same_pair-true p q t)) ∙ e))
    (λ t. ap (λ b. b || was q) t)

-- with a block in front, the missing ones are those that were
with_front : (ps : List BlockPair) (p q : BlockPair) (was is : BlockPair → Bool) → ((q : BlockPair) → is q ≡ (same_pair p q || was q)) → has_pair ps p ≡ true → was p ≡ false
    → has_pair (p ∷ filter (λ q. not (is q)) ps) q ≡ has_pair (filter (λ q. not (was q)) ps) q
with_front ps p q was is step has e =
    ap (λ b. same_pair q p || b) (has_filter (λ r. not (is r)) ps q)
    ∙ split (same_pair q p)
    (λ t. ap (λ b. b || (has_pair ps q && not (is q))) t ∙ sym (ap (λ (r : BlockPair). has_pair ps r && not (was r)) (same_pair-true q p t) ∙ ap (λ b. b && not (was p)) has ∙ ap not e))
    (λ t. ap (λ b. b || (has_pair ps q && not (is q))) t ∙ ap (λ b. has_pair ps q && not b) (step q ∙ ap (λ b. b || was q) (same_swap p q ∙ t)))
    ∙ sym (has_filter (λ r. not (was r)) ps q)

pub front_counts : (ps : List BlockPair) (p : BlockPair) → has_pair ps p ≡ false → length (distinct (p ∷ ps)) ≡ suc (length (distinct ps))
front_counts ps p e = ap (λ b. length (cond b (distinct ps) (p ∷ distinct ps))) (has_pair-distinct ps p ∙ e)

abbrev pub made : Bool → ℕ
made b = cond b 0 1

-- a block comes: one less is missing, if it was
pub one_comes : (ps : List BlockPair) (p : BlockPair) (was is : BlockPair → Bool) → ((q : BlockPair) → is q ≡ (same_pair p q || was q)) → has_pair ps p ≡ true
    → length (distinct (filter (λ q. not (is q)) ps)) + made (was p) ≤ length (distinct (filter (λ q. not (was q)) ps))
one_comes ps p was is step has =
    split (was p)
    (λ e.
    let same = same_count (filter (λ q. not (is q)) ps) (filter (λ q. not (was q)) ps) (λ q. has_filter (λ r. not (is r)) ps q ∙ ap (λ b. has_pair ps q && not b) (step q ∙ already p q was e) ∙ sym (has_filter (λ r. not (was r)) ps q)) in
    let none : made (was p) ≡ 0 = ap made e in
    omega (arith, same, none))
    (λ e.
    let same = same_count (p ∷ filter (λ q. not (is q)) ps) (filter (λ q. not (was q)) ps) (λ q. with_front ps p q was is step has e) in
    let there : has_pair (filter (λ q. not (is q)) ps) p ≡ false = has_filter (λ r. not (is r)) ps p ∙ and_false (has_pair ps p) (not (is p)) (ap not (step p ∙ ap (λ b. b || was p) (same_pair-refl p))) in
    let more = front_counts (filter (λ q. not (is q)) ps) p there in
    let one : made (was p) ≡ 1 = ap made e in
    omega (arith, same, more, one))

-- fewer are missing of the same blocks where more have come
pub no_more_missing : (ps : List BlockPair) (p : BlockPair) (was : BlockPair → Bool) → has_pair ps p ≡ true → was p ≡ false → 1 ≤ length (distinct (filter (λ q. not (was q)) ps))
no_more_missing ps p was has e =
    let h = one_comes ps p was (λ q. same_pair p q || was q) (λ q. refl) has in
    let one : made (was p) ≡ 1 = ap made e in
    omega (arith, h, one)

-- ---- more tests pass, more blocks

-- no block stands twice
abbrev Differ : List BlockPair → Type 0
Differ [] = Unit {0}
Differ (p ∷ ps) = (has_pair ps p ≡ false) × Differ ps

differ-distinct : (ps : List BlockPair) → Differ (distinct ps)
differ-distinct [] = tt
differ-distinct (p ∷ ps) = let rest = differ-distinct ps in cond_both (has_pair (distinct ps) p) (distinct ps) (p ∷ distinct ps) Differ (λ e. rest) (λ e. (e, rest))

not_same : (x q : BlockPair) (xs : List BlockPair) → has_pair xs x ≡ false → has_pair xs q ≡ true → same_pair x q ≡ false
not_same x q xs no_x has_q = split (same_pair x q) (λ e. absurd (false≢true (sym no_x ∙ ap (has_pair xs) (same_pair-true x q e) ∙ has_q))) (λ e. e)

many_in : (xs ys : List BlockPair) (was : BlockPair → Bool) → Differ xs → ((q : BlockPair) → has_pair xs q ≡ true → (has_pair ys q ≡ true) × (was q ≡ false)) → length xs ≤ length (distinct (filter (λ q. not (was q)) ys))
many_in [] ys was differ all = omega arith
many_in (x ∷ xs) ys was differ all =
    let here = all x (or_left (same_pair x x) (has_pair xs x) (same_pair-refl x)) in
    let rest = many_in xs ys (λ q. same_pair x q || was q) differ.1 (λ q has. let h = all q (or_right (same_pair q x) (has_pair xs q) has) in (h.0, ap (λ b. b || was q) (not_same x q xs differ.0 has) ∙ h.1)) in
    let step = one_comes ys x was (λ q. same_pair x q || was q) (λ q. refl) here.0 in
    let one : made (was x) ≡ 1 = ap made here.1 in
    omega (arith, rest, step, one)

and_parts : (a b : Bool) → (a && b) ≡ true → (a ≡ true) × (b ≡ true)
and_parts true b e = (refl, e)
and_parts false b e = cc

not_twice : (b : Bool) → not (not b) ≡ b
not_twice true = refl
not_twice false = refl

-- where a test passes more, no fewer blocks pass
pub fewer_pass : (f g : BlockPair → Bool) (ps : List BlockPair) → ((q : BlockPair) → f q ≡ true → g q ≡ true) → length (distinct (filter f ps)) ≤ length (distinct (filter g ps))
fewer_pass f g ps through =
    let all = many_in (distinct (filter f ps)) ps (λ q. not (g q)) (differ-distinct (filter f ps))
    (λ q has. let h = and_parts (has_pair ps q) (f q) (sym (has_filter f ps q) ∙ sym (has_pair-distinct (filter f ps) q) ∙ has) in (h.0, ap not (through q h.1))) in
    let same = same_count (filter (λ q. not (not (g q))) ps) (filter g ps) (λ q. has_filter (λ r. not (not (g r))) ps q ∙ ap (λ b. has_pair ps q && b) (not_twice (g q)) ∙ sym (has_filter g ps q)) in
    omega (arith, all, same)

-- ---- all blocks of a list pass

and_left : (a b : Bool) → (a && b) ≡ true → a ≡ true
and_left true b e = refl
and_left false b e = e

and_right : (a b : Bool) → (a && b) ≡ true → b ≡ true
and_right true b e = e
and_right false b e = absurd (false≢true e)

pub all_pass : (test : BlockPair → Bool) (ps : List BlockPair) → ((q : BlockPair) → has_pair ps q ≡ true → test q ≡ true) → list_all test ps ≡ true
all_pass test [] h = refl
all_pass test (p ∷ ps) h =
    ap (λ b. b && list_all test ps) (h p (or_left (same_pair p p) (has_pair ps p) (same_pair-refl p)))
    ∙ all_pass test ps (λ q has. h q (or_right (same_pair q p) (has_pair ps q) has))

pub each_passes : (test : BlockPair → Bool) (ps : List BlockPair) (q : BlockPair) → list_all test ps ≡ true → has_pair ps q ≡ true → test q ≡ true
each_passes test [] q all has = absurd (false≢true has)
each_passes test (p ∷ ps) q all has = split (same_pair q p)
    (λ e. ap test (same_pair-true q p e) ∙ and_left (test p) (list_all test ps) all)
    (λ e. each_passes test ps q (and_right (test p) (list_all test ps) all) (sym (ap (λ b. b || has_pair ps q) e) ∙ has))

pub one_fails : (test : BlockPair → Bool) (ps : List BlockPair) (q : BlockPair) → has_pair ps q ≡ true → test q ≡ false → list_all test ps ≡ false
one_fails test ps q has e = split (list_all test ps) (λ t. absurd (false≢true (sym e ∙ each_passes test ps q t has))) (λ f. f)

-- where there is but one block, it decides
pub only_one : (test : BlockPair → Bool) (ps : List BlockPair) (p : BlockPair) → ((q : BlockPair) → has_pair ps q ≡ same_pair p q) → test p ≡ list_all test ps
only_one test ps p only = split (test p)
    (λ t. t ∙ sym (all_pass test ps (λ q has. sym (ap test (same_pair-true p q (sym (only q) ∙ has))) ∙ t)))
    (λ f. f ∙ sym (one_fails test ps p (only p ∙ same_pair-refl p) f))

some_if : (n : ℕ) → nat_lt 0 n ≡ true → 1 ≤ n
some_if n e = grind (arith, nat_tests)

-- each block that all pass has a use
pub each_used : (uses : BlockPair → ℕ) (ps : List BlockPair) → list_all (λ q. nat_lt 0 (uses q)) ps ≡ true → (q : BlockPair) → has_pair ps q ≡ true → 1 ≤ uses q
each_used uses ps all q has = some_if (uses q) (each_passes (λ q. nat_lt 0 (uses q)) ps q all has)
