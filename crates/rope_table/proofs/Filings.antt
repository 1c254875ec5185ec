-- How many files live ropes have, as the counts of files change.
use Rattle.std.proofs.Common.{◌≡◌, ℕ, suc, ◌+◌, ◌<◌, ◌≤◌, List, [], ◌∷◌, length, map, Bool, true, false, ◌&&◌, ◌||◌, ◌==◌, cond, nat_lt, Option, Some, None, unwrap_or, refl, sym, ◌∙◌, ap, subst, arith}
use Rattle.std.proofs.lemmas.Bool.{cond_both, eqb-true}
use Rattle.std.proofs.lemmas.Bool.Decides.{nat_tests}
use Rattle.std.proofs.lemmas.Map.Entries.{lookup_head, lookup_tail}
use Rattle.std.proofs.lemmas.List.Sums.{sum_by-cons}
use Rattle.std.specs.Prelude.{Result, IfOk, IsOk, OnOk, nat_eq, is_some}
use Rattle.std.specs.HashMap as hash
use Rattle.std.specs.HashMap.{HashMap, spare}
use Rattle.std.specs.List.{IsDistinct, AllByRecursion}
use Rattle.std.specs.List.Sorted.{IsPermutation}
use Rattle.std.specs.Map.{lookup, remove_entry, set_value, keys_of}
use Rattle.voice_units.specs.Blocks.{BlockPair, has_pair, distinct}
use Rattle.voice_units.proofs.Distinct.{same_count, has_pair-distinct}
use Rattle.rope_table.specs.Table.{has_file, files_of}
use Rattle.rope_table.specs.declared.files.FileCount.{FileCount}
use Rattle.rope_table.specs.Files.{no_file, file_of, is_filed, file_once, files_live}
use Rattle.rope_table.proofs.InOrder.{split}
use Rattle.rope_table.proofs.Blocks.{front_counts}
use Rattle.rope_table.proofs.Sums.{ok_on, weight, sum_taken, sum_changed, sum_entered}

pub same_number : (a b : ℕ) → nat_eq a b ≡ true → a ≡ b
same_number a b e = eqb-true a b e

abbrev pub weigh : ℕ × FileCount → ℕ
weigh e = file_once e.1

weight_of : (k : ℕ) (o : Option FileCount) → weight nat_eq same_number weigh k o ≡ file_once (unwrap_or o no_file)
weight_of k None = refl
weight_of k (Some count) = refl

pub filed_taken : (k : ℕ) (es fs : List (ℕ × FileCount)) (o : Option FileCount) → IsPermutation (remove_entry (nat_eq k) es) fs → o ≡ lookup (nat_eq k) es → files_live fs + file_once (file_of es k) ≡ files_live es
filed_taken k es fs o moved found =
    let all = sum_taken nat_eq same_number weigh k es fs o moved found in
    let one = ap (weight nat_eq same_number weigh k) found ∙ weight_of k (lookup (nat_eq k) es) in
    omega (arith, all, one)

pub filed_changed : (k : ℕ) (es fs : List (ℕ × FileCount)) (old new : FileCount) → fs ≡ set_value (nat_eq k) es new → Some old ≡ lookup (nat_eq k) es → files_live fs + file_once (file_of es k) ≡ files_live es + file_once new
filed_changed k es fs old new is found =
    let all = sum_changed nat_eq same_number weigh k es fs old new is found in
    let one : file_once (file_of es k) ≡ file_once old = ap (λ (o : Option FileCount). file_once (unwrap_or o no_file)) (sym found) in
    omega (arith, all, one)

pub filed_new : (k : ℕ) {S E : Type 0} (m back n : HashMap ℕ FileCount S) (count : FileCount) (r : Result (Option FileCount) E) → back ≡ m → None ≡ hash.get nat_eq m k → (is_filed m.entries k ≡ false → 0 < spare m) → (0 < spare back → IsOk r)
    → IfOk r (λ old. old ≡ hash.get nat_eq back k) → IfOk r (hash.PutsEntry nat_eq back n k count) → files_live n.entries + file_once (file_of m.entries k) ≡ files_live m.entries + file_once count
filed_new k m back n count r same absent room succeeds old puts =
    let all = sum_entered nat_eq same_number weigh k m back n count r same absent room succeeds old puts in
    let none : file_once (file_of m.entries k) ≡ 0 = ap (λ (o : Option FileCount). file_once (unwrap_or o no_file)) (sym absent) in
    omega (arith, all, none)

pub once_le : (count : FileCount) → file_once count ≤ 1
once_le count = cond_both (nat_lt 0 count.live) 1 0 (λ n. n ≤ 1) (λ e. omega arith) (λ e. omega arith)

pub filed_most : (es : List (ℕ × FileCount)) → files_live es ≤ length es
filed_most [] = omega arith
filed_most (e ∷ es) =
    let rest = filed_most es in
    let first = sum_by-cons weigh e es in
    let here = once_le e.1 in
    omega (arith, rest, first, here)

-- ---- what is found

pub filed_at : (k : ℕ) {S E : Type 0} (m back n : HashMap ℕ FileCount S) (count : FileCount) (r : Result (Option FileCount) E) → back ≡ m → None ≡ hash.get nat_eq m k → (is_filed m.entries k ≡ false → 0 < spare m) → (0 < spare back → IsOk r)
    → OnOk r (hash.Updates nat_eq back n k (Some count)) → (f : ℕ) → file_of n.entries f ≡ cond (k == f) count (file_of m.entries f)
filed_at k {S} m back n count r same absent room succeeds updates f =
    let some : 0 < spare back = subst (λ (m : HashMap ℕ FileCount S). 0 < spare m) (sym same) (room (ap is_some (sym absent))) in
    let now = (ok_on r (hash.Updates nat_eq back n k (Some count)) (succeeds some) updates).0 f in
    let was : file_of back.entries f ≡ file_of m.entries f = ap (λ (m : HashMap ℕ FileCount S). file_of m.entries f) same in
    ap (λ (o : Option FileCount). unwrap_or o no_file) now
    ∙ cond_both (nat_eq k f) (Some count) (hash.get nat_eq back f) (λ (o : Option FileCount). unwrap_or o no_file ≡ cond (k == f) count (file_of m.entries f))
    (λ t. sym (ap (λ b. cond b count (file_of m.entries f)) t)) (λ t. was ∙ sym (ap (λ b. cond b count (file_of m.entries f)) t))

-- ---- the files of these entries

abbrev pub alone : ℕ → BlockPair
alone f = record { file = f; index = 0 }

abbrev pub alone_of : BlockPair → BlockPair
alone_of p = alone p.file

abbrev file_pairs : List (ℕ × FileCount) → List BlockPair
file_pairs [] = []
file_pairs (e ∷ es) = cond (nat_lt 0 e.1.live) (alone e.0 ∷ file_pairs es) (file_pairs es)

length-file_pairs : (es : List (ℕ × FileCount)) → length (file_pairs es) ≡ files_live es
length-file_pairs [] = refl
length-file_pairs (e ∷ es) =
    let rest = length-file_pairs es in
    let first = sum_by-cons weigh e es in
    cond_both (nat_lt 0 e.1.live) (alone e.0 ∷ file_pairs es) (file_pairs es) (λ l. length l ≡ files_live (e ∷ es))
    (λ t. let one : file_once e.1 ≡ 1 = ap (λ b. cond b 1 0) t in omega (arith, rest, first, one))
    (λ t. let none : file_once e.1 ≡ 0 = ap (λ b. cond b 1 0) t in omega (arith, rest, first, none))

not_filed : (q : BlockPair) (es : List (ℕ × FileCount)) → AllByRecursion (λ y. nat_eq q.file y ≡ false) (keys_of es) → has_pair (file_pairs es) q ≡ false
not_filed q [] none = refl
not_filed q (e ∷ es) none =
    let rest = not_filed q es none.1 in
    cond_both (nat_lt 0 e.1.live) (alone e.0 ∷ file_pairs es) (file_pairs es) (λ l. has_pair l q ≡ false)
    (λ t. ap (λ b. (b && (q.index == 0)) || has_pair (file_pairs es) q) none.0 ∙ rest) (λ t. rest)

distinct_files : (es : List (ℕ × FileCount)) → IsDistinct nat_eq (keys_of es) → length (distinct (file_pairs es)) ≡ length (file_pairs es)
unfolding IsDistinct
distinct_files [] apart = refl
distinct_files (e ∷ es) apart =
    let rest = distinct_files es apart.1 in
    cond_both (nat_lt 0 e.1.live) (alone e.0 ∷ file_pairs es) (file_pairs es) (λ l. length (distinct l) ≡ length l)
    (λ t. front_counts (file_pairs es) (alone e.0) (not_filed (alone e.0) es apart.0) ∙ ap suc rest) (λ t. rest)

and_false : (a : Bool) → (a && false) ≡ false
and_false true = refl
and_false false = refl

and_true : (a : Bool) → (a && true) ≡ a
and_true true = refl
and_true false = refl

or_false : (a : Bool) → (a || false) ≡ a
or_false true = refl
or_false false = refl

files_has : (es : List (ℕ × FileCount)) → IsDistinct nat_eq (keys_of es) → (q : BlockPair) → has_pair (file_pairs es) q ≡ ((q.index == 0) && nat_lt 0 (file_of es q.file).live)
unfolding IsDistinct
files_has [] apart q = sym (and_false (q.index == 0))
files_has (e ∷ es) apart q =
    split (nat_eq q.file e.0)
    (λ t.
    let here : nat_lt 0 (file_of (e ∷ es) q.file).live ≡ nat_lt 0 e.1.live = ap (λ (o : Option FileCount). nat_lt 0 (unwrap_or o no_file).live) (lookup_head (nat_eq q.file) e es t) in
    let none : has_pair (file_pairs es) q ≡ false = not_filed q es (subst (λ k. AllByRecursion (λ y. nat_eq k y ≡ false) (keys_of es)) (sym (same_number q.file e.0 t)) apart.0) in
    cond_both (nat_lt 0 e.1.live) (alone e.0 ∷ file_pairs es) (file_pairs es) (λ l. has_pair l q ≡ ((q.index == 0) && nat_lt 0 (file_of (e ∷ es) q.file).live))
    (λ u. ap (λ b. (b && (q.index == 0)) || has_pair (file_pairs es) q) t ∙ ap (λ b. (q.index == 0) || b) none ∙ or_false (q.index == 0) ∙ sym (ap (λ b. (q.index == 0) && b) (here ∙ u) ∙ and_true (q.index == 0)))
    (λ u. none ∙ sym (ap (λ b. (q.index == 0) && b) (here ∙ u) ∙ and_false (q.index == 0))))
    (λ t.
    let here : nat_lt 0 (file_of (e ∷ es) q.file).live ≡ nat_lt 0 (file_of es q.file).live = ap (λ (o : Option FileCount). nat_lt 0 (unwrap_or o no_file).live) (lookup_tail (nat_eq q.file) e es t) in
    let rest = files_has es apart.1 q in
    cond_both (nat_lt 0 e.1.live) (alone e.0 ∷ file_pairs es) (file_pairs es) (λ l. has_pair l q ≡ ((q.index == 0) && nat_lt 0 (file_of (e ∷ es) q.file).live))
    (λ u. ap (λ b. (b && (q.index == 0)) || has_pair (file_pairs es) q) t ∙ rest ∙ sym (ap (λ b. (q.index == 0) && b) here)) (λ u. rest ∙ sym (ap (λ b. (q.index == 0) && b) here)))

-- ---- the files of blocks

eq_swap : (a b : ℕ) → (a == b) ≡ (b == a)
eq_swap a b = grind (arith, nat_tests)

in_front : (a b z r h : Bool) → a ≡ b → r ≡ (z && h) → ((a && z) || r) ≡ (z && (b || h))
in_front true b true r h e f = cc
in_front true b false r h e f = f
in_front false b true r h e f = f ∙ ap (λ c. c || h) e
in_front false b false r h e f = f

alone_has : (ps : List BlockPair) (q : BlockPair) → has_pair (map alone_of ps) q ≡ ((q.index == 0) && has_file ps q.file)
alone_has [] q = sym (and_false (q.index == 0))
alone_has (p ∷ ps) q = in_front (q.file == p.file) (p.file == q.file) (q.index == 0) (has_pair (map alone_of ps) q) (has_file ps q.file) (eq_swap q.file p.file) (alone_has ps q)

length-files_of : (ps : List BlockPair) → length (files_of ps) ≡ length (distinct (map alone_of ps))
length-files_of [] = refl
length-files_of (p ∷ ps) =
    let rest = length-files_of ps in
    let same : has_pair (distinct (map alone_of ps)) (alone p.file) ≡ has_file ps p.file = has_pair-distinct (map alone_of ps) (alone p.file) ∙ alone_has ps (alone p.file) in
    cond_both (has_file ps p.file) (files_of ps) (p.file ∷ files_of ps) (λ l. length l ≡ length (distinct (map alone_of (p ∷ ps))))
    (λ t. rest ∙ sym (ap (λ b. length (cond b (distinct (map alone_of ps)) (alone p.file ∷ distinct (map alone_of ps)))) (same ∙ t)))
    (λ t. ap suc rest ∙ sym (ap (λ b. length (cond b (distinct (map alone_of ps)) (alone p.file ∷ distinct (map alone_of ps)))) (same ∙ t)))

-- as many as the blocks have files
pub files_exact : (es : List (ℕ × FileCount)) → IsDistinct nat_eq (keys_of es) → (pairs : List BlockPair) → ((f : ℕ) → has_file pairs f ≡ nat_lt 0 (file_of es f).live) → files_live es ≡ length (files_of pairs)
files_exact es apart pairs h =
    sym (length-file_pairs es) ∙ sym (distinct_files es apart)
    ∙ same_count (file_pairs es) (map alone_of pairs) (λ q. files_has es apart q ∙ ap (λ b. (q.index == 0) && b) (sym (h q.file)) ∙ sym (alone_has pairs q))
    ∙ sym (length-files_of pairs)
