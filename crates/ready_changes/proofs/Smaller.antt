-- A base of fewer rows and ropes is no longer.
use Rattle.std.proofs.Common.{◌≡◌, ℕ, suc, ◌+◌, ◌*◌, ◌≤◌, ◌==◌, Bool, true, false, cond, not, ◌&&◌, ◌||◌, List, [], ◌∷◌, ◌++◌, map, length, refl, sym, ◌∙◌, ap, ap₂, arith}
use Rattle.std.specs.Prelude.{filter, flat_map, sum_by}
use Rattle.std.proofs.lemmas.Bool.{eqb-true, eq-eqb}
use Rattle.std.proofs.lemmas.List.Sums.{sum_by-cons}
use Rattle.std.proofs.lemmas.List.Folds.{list_any-append}
use Rattle.voice_units.specs.Blocks.{BlockPair, same_pair, has_pair, distinct}
use Rattle.voice_units.proofs.Distinct.{same_pair-true, has_pair-distinct, same_count}
use Rattle.voice_model.specs.Samples.{Tagged}
use Rattle.voice_model.specs.Room.{pairs_of, pair_of}
use Rattle.voice_model.specs.State.{Durable, Live, has_row, settled, among, with_rows}
use Rattle.voice_model.specs.Changes.{each_once, live_pairs, rope_size, base_size, address_size, without_ropes}
use Rattle.voice_model.specs.declared.calls.Row.{Row}

-- ---- sums

pub fewer_sum : {A : Type 0} (f : A → ℕ) (p : A → Bool) (xs : List A) → sum_by f (filter p xs) ≤ sum_by f xs
fewer_sum f p [] = omega arith
fewer_sum {A} f p (x ∷ xs) = by_test (p x) (fewer_sum f p xs)
  where
    by_test : (b : Bool) → sum_by f (filter p xs) ≤ sum_by f xs → sum_by f (cond b (x ∷ filter p xs) (filter p xs)) ≤ sum_by f (x ∷ xs)
    by_test true rest = let a = sum_by-cons f x (filter p xs) in let b = sum_by-cons f x xs in omega (arith, a, b, rest)
    by_test false rest = let b = sum_by-cons f x xs in omega (arith, b, rest)

pub last_sum : {A : Type 0} (f : A → ℕ) (xs : List A) (x : A) → sum_by f (xs ++ x ∷ []) ≡ sum_by f xs + f x
last_sum f [] x = let a = sum_by-cons f x [] in omega (arith, a)
last_sum f (y ∷ xs) x = let a = sum_by-cons f y (xs ++ x ∷ []) in let b = sum_by-cons f y xs in let rest = last_sum f xs x in omega (arith, a, b, rest)

-- ---- blocks, each once

or_left : (a b : Bool) → a ≡ true → (a || b) ≡ true
or_left true b e = refl
or_left false b e = cc

or_right : (a b : Bool) → b ≡ true → (a || b) ≡ true
or_right true b e = refl
or_right false b e = e

or_absorbed : (a b : Bool) → (b ≡ true → a ≡ true) → (a || b) ≡ a
or_absorbed true b h = refl
or_absorbed false true h = sym (h refl)
or_absorbed false false h = refl

longer_in_front : (xs ys : List BlockPair) → length (distinct ys) ≤ length (distinct (xs ++ ys))
longer_in_front [] ys = omega arith
longer_in_front (x ∷ xs) ys = by_test (has_pair (distinct (xs ++ ys)) x) (longer_in_front xs ys)
  where
    by_test : (b : Bool) → length (distinct ys) ≤ length (distinct (xs ++ ys)) → length (distinct ys) ≤ length (cond b (distinct (xs ++ ys)) (x ∷ distinct (xs ++ ys)))
    by_test true rest = rest
    by_test false rest = omega (arith, rest)

-- blocks that are among others are no more than those
pub fewer_pairs : (ps qs : List BlockPair) → ((q : BlockPair) → has_pair ps q ≡ true → has_pair qs q ≡ true) → length (distinct ps) ≤ length (distinct qs)
fewer_pairs ps qs within =
    let same = same_count (qs ++ ps) qs (λ q. list_any-append (same_pair q) qs ps ∙ or_absorbed (has_pair qs q) (has_pair ps q) (within q)) in
    let front = longer_in_front qs ps in omega (arith, same, front)

-- numbers as blocks of index 0
abbrev as_block : ℕ → BlockPair
as_block n = record { file = n; index = 0 }

and_true : (b : Bool) → (b && true) ≡ b
and_true true = refl
and_true false = refl

swapped : (m n : ℕ) → (m == n) ≡ (n == m)
swapped m n = by_test (m == n) (n == m) refl refl
  where
    by_test : (b c : Bool) → (m == n) ≡ b → (n == m) ≡ c → b ≡ c
    by_test true true e f = refl
    by_test false false e f = refl
    by_test true false e f = sym (eq-eqb n m (sym (eqb-true m n e))) ∙ f
    by_test false true e f = sym e ∙ eq-eqb m n (sym (eqb-true n m f))

has_number : (ns : List ℕ) (n : ℕ) → has_pair (map as_block ns) (as_block n) ≡ among ns n
has_number [] n = refl
has_number (m ∷ ns) n = ap₂ (λ a b. a || b) (and_true (n == m) ∙ swapped n m) (has_number ns n)

once_as_blocks : (ns : List ℕ) → distinct (map as_block ns) ≡ map as_block (each_once ns)
once_as_blocks [] = refl
once_as_blocks (n ∷ ns) =
    ap (λ l. cond (has_pair l (as_block n)) l (as_block n ∷ l)) (once_as_blocks ns)
    ∙ ap (λ b. cond b (map as_block (each_once ns)) (as_block n ∷ map as_block (each_once ns))) (has_number (each_once ns) n)
    ∙ by_test (among (each_once ns) n)
  where
    by_test : (b : Bool) → cond b (map as_block (each_once ns)) (as_block n ∷ map as_block (each_once ns)) ≡ map as_block (cond b (each_once ns) (n ∷ each_once ns))
    by_test true = refl
    by_test false = refl

map_length : (ns : List ℕ) → length (map as_block ns) ≡ length ns
map_length [] = refl
map_length (n ∷ ns) = ap suc (map_length ns)

once_length : (ns : List ℕ) → length (each_once ns) ≡ length (distinct (map as_block ns))
once_length ns = sym (ap length (once_as_blocks ns) ∙ map_length (each_once ns))

abbrev files : List BlockPair → List ℕ
files ps = map (λ pair. pair.file) ps

file_of_pair : (qs : List BlockPair) (p : BlockPair) (r : BlockPair) → same_pair r (as_block p.file) ≡ true → has_pair qs p ≡ true → has_pair (map as_block (files qs)) r ≡ true
file_of_pair [] p r e h = cc
file_of_pair (q ∷ qs) p r e h = by_test (same_pair p q) refl h (file_of_pair qs p r e)
  where
    by_test : (b : Bool) → same_pair p q ≡ b → (b || has_pair qs p) ≡ true → (has_pair qs p ≡ true → has_pair (map as_block (files qs)) r ≡ true) → (same_pair r (as_block q.file) || has_pair (map as_block (files qs)) r) ≡ true
    by_test true f k rest = or_left (same_pair r (as_block q.file)) (has_pair (map as_block (files qs)) r) (ap (λ (x : BlockPair). same_pair r (as_block x.file)) (sym (same_pair-true p q f)) ∙ e)
    by_test false f k rest = or_right (same_pair r (as_block q.file)) (has_pair (map as_block (files qs)) r) (rest k)

itself : (q : BlockPair) → same_pair q q ≡ true
itself q = ap₂ (λ a b. a && b) (eq-eqb q.file q.file refl) (eq-eqb q.index q.index refl)

files_within : (ps qs : List BlockPair) → ((q : BlockPair) → has_pair ps q ≡ true → has_pair qs q ≡ true) → (r : BlockPair) → has_pair (map as_block (files ps)) r ≡ true → has_pair (map as_block (files qs)) r ≡ true
files_within [] qs within r h = cc
files_within (p ∷ ps) qs within r h =
    by_test (same_pair r (as_block p.file)) refl h (files_within ps qs (λ q e. within q (or_right (same_pair q p) (has_pair ps q) e)) r)
  where
    by_test : (b : Bool) → same_pair r (as_block p.file) ≡ b → (b || has_pair (map as_block (files ps)) r) ≡ true → (has_pair (map as_block (files ps)) r ≡ true → has_pair (map as_block (files qs)) r ≡ true) → has_pair (map as_block (files qs)) r ≡ true
    by_test true e k rest = file_of_pair qs p r e (within p (or_left (same_pair p p) (has_pair ps p) (itself p)))
    by_test false e k rest = rest k

-- and so are their files
pub fewer_files : (ps qs : List BlockPair) → ((q : BlockPair) → has_pair ps q ≡ true → has_pair qs q ≡ true) → length (each_once (files ps)) ≤ length (each_once (files qs))
fewer_files ps qs within =
    let a = once_length (files ps) in let b = once_length (files qs) in
    let c = fewer_pairs (map as_block (files ps)) (map as_block (files qs)) (files_within ps qs within) in omega (arith, a, b, c)

-- ---- ropes

pairs-append : (block : ℕ) (xs ys : List Tagged) → pairs_of block (xs ++ ys) ≡ pairs_of block xs ++ pairs_of block ys
pairs-append block [] ys = refl
pairs-append block (x ∷ xs) ys = ap (λ l. pair_of block x ∷ l) (pairs-append block xs ys)

abbrev all_samples : List (Live Tagged) → List Tagged
all_samples ropes = flat_map (λ rope. rope.samples) ropes

has-append : (block : ℕ) (xs ys : List Tagged) (q : BlockPair) → has_pair (pairs_of block (xs ++ ys)) q ≡ (has_pair (pairs_of block xs) q || has_pair (pairs_of block ys) q)
has-append block xs ys q = ap (λ ps. has_pair ps q) (pairs-append block xs ys) ∙ list_any-append (same_pair q) (pairs_of block xs) (pairs_of block ys)

filtered_within : (block : ℕ) (p : Live Tagged → Bool) (ropes : List (Live Tagged)) (q : BlockPair) → has_pair (pairs_of block (all_samples (filter p ropes))) q ≡ true → has_pair (pairs_of block (all_samples ropes)) q ≡ true
filtered_within block p [] q h = h
filtered_within block p (rope ∷ ropes) q h = by_test (p rope) (filtered_within block p ropes q) h
  where
    either : (a b c : Bool) → (b ≡ true → c ≡ true) → (a || b) ≡ true → (a || c) ≡ true
    either true b c f e = refl
    either false b c f e = f e

    by_test : (b : Bool) → (has_pair (pairs_of block (all_samples (filter p ropes))) q ≡ true → has_pair (pairs_of block (all_samples ropes)) q ≡ true)
        → has_pair (pairs_of block (all_samples (cond b (rope ∷ filter p ropes) (filter p ropes)))) q ≡ true → has_pair (pairs_of block (all_samples (rope ∷ ropes))) q ≡ true
    by_test true rest k =
        has-append block rope.samples (all_samples ropes) q
        ∙ either (has_pair (pairs_of block rope.samples) q) (has_pair (pairs_of block (all_samples (filter p ropes))) q) (has_pair (pairs_of block (all_samples ropes)) q) rest (sym (has-append block rope.samples (all_samples (filter p ropes)) q) ∙ k)
    by_test false rest k = has-append block rope.samples (all_samples ropes) q ∙ or_right (has_pair (pairs_of block rope.samples) q) (has_pair (pairs_of block (all_samples ropes)) q) (rest k)

settled_samples : (form now class : ℕ) (before after : List Row) (ropes : List (Live Tagged)) → all_samples (map (settled form now class before after) ropes) ≡ all_samples ropes
settled_samples form now class before after [] = refl
settled_samples form now class before after (rope ∷ ropes) = ap₂ (λ a b. a ++ b) (one (has_row before rope.id && not (has_row after rope.id))) (settled_samples form now class before after ropes)
  where
    one : (b : Bool) → (cond b (record rope { idle = now; last = cond (form == 2) class rope.last }) rope).samples ≡ rope.samples
    one true = refl
    one false = refl

settled_sizes : (to form now class : ℕ) (before after : List Row) (ropes : List (Live Tagged)) → sum_by (rope_size to) (map (settled form now class before after) ropes) ≡ sum_by (rope_size to) ropes
settled_sizes to form now class before after [] = refl
settled_sizes to form now class before after (rope ∷ ropes) =
    sum_by-cons (rope_size to) (settled form now class before after rope) (map (settled form now class before after) ropes)
    ∙ ap₂ (λ a b. a + b) (one (has_row before rope.id && not (has_row after rope.id))) (settled_sizes to form now class before after ropes)
    ∙ sym (sum_by-cons (rope_size to) rope ropes)
  where
    one : (b : Bool) → rope_size to (cond b (record rope { idle = now; last = cond (form == 2) class rope.last }) rope) ≡ rope_size to rope
    one true = refl
    one false = refl

-- ---- the base

row_size : Row → ℕ
row_size row = 17 + length row.key + length row.note

product : (wide : Bool) (a b : ℕ) → a ≤ b → (4 + cond wide 4 2) * a ≤ (4 + cond wide 4 2) * b
product true a b h = omega (arith, h)
product false a b h = omega (arith, h)

-- rows go
pub fewer_rows : (to form class : ℕ) (d : Durable Tagged) (p : Row → Bool) → base_size to (with_rows form class d (filter p d.rows)) ≤ base_size to d
fewer_rows to form class d p =
    let samples = settled_samples form d.moment class d.rows (filter p d.rows) d.ropes in
    let pairs : live_pairs (with_rows form class d (filter p d.rows)) ≡ live_pairs d = ap (λ l. distinct (pairs_of d.shape.block l)) samples in
    let many = ap length pairs in
    let fs = ap (λ l. length (each_once (files l))) pairs in
    let sizes = settled_sizes to form d.moment class d.rows (filter p d.rows) d.ropes in
    let rows = fewer_sum (λ (row : Row). 17 + length row.key + length row.note) p d.rows in
    let products = ap (λ n. (4 + address_size to) * n) many in
    omega (arith, fs, products, sizes, rows)

-- ropes go
pub fewer_ropes : (to : ℕ) (d : Durable Tagged) (ids : List ℕ) → base_size to (without_ropes d ids) ≤ base_size to d
fewer_ropes to d ids =
    let block = d.shape.block in
    let keep = λ (rope : Live Tagged). not (among ids rope.id) in
    let within = filtered_within block keep d.ropes in
    let many = fewer_pairs (pairs_of block (all_samples (filter keep d.ropes))) (pairs_of block (all_samples d.ropes)) within in
    let fs = fewer_files (live_pairs (without_ropes d ids)) (live_pairs d) (λ q e. has_pair-distinct (pairs_of block (all_samples d.ropes)) q ∙ within q (sym (has_pair-distinct (pairs_of block (all_samples (filter keep d.ropes))) q) ∙ e)) in
    let sizes = fewer_sum (rope_size to) keep d.ropes in
    let products = product (to == 2) (length (live_pairs (without_ropes d ids))) (length (live_pairs d)) many in
    omega (arith, fs, products, sizes)
