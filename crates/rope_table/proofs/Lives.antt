-- How many entries are of blocks that live ropes have.
use Rattle.std.proofs.Common.{◌≡◌, ℕ, suc, ◌+◌, ◌≤◌, List, [], ◌∷◌, length, Bool, true, false, not, ◌&&◌, ◌||◌, ◌==◌, cond, nat_lt, Option, Some, None, option_map, unwrap_or, refl, sym, ◌∙◌, ap, arith}
use Rattle.std.proofs.lemmas.Bool.{cond_both, eqb-true, eq-eqb, lt-ltb, false≢true}
use Rattle.std.proofs.lemmas.List.Sums.{sum_by-cons}
use Rattle.std.proofs.lemmas.Map.Entries.{lookup_head, lookup_tail}
use Rattle.std.specs.List.{sum_by, IsDistinct, AllByRecursion}
use Rattle.std.specs.Map.{lookup, keys_of}
use Rattle.std.specs.Prelude.{is_some, nat_eq}
use Rattle.voice_units.specs.Blocks.{BlockPair, has_pair, same_pair, distinct}
use Rattle.voice_units.proofs.Distinct.{same_count, same_pair-true}
use Rattle.rope_table.specs.declared.counts.BlockName.{BlockName}
use Rattle.rope_table.specs.declared.counts.Count.{Count}
use Rattle.rope_table.specs.Table.{name_eq, name_of, no_count, count_of, has_file}
use Rattle.rope_table.specs.declared.files.FileCount.{FileCount}
use mir.Val.{bool_byte}
use Rattle.std.specs.HashMap.{HashMap}
use Rattle.rope_table.specs.Files.{Filed, no_file, file_of, is_filed}
use Rattle.rope_table.specs.Inside.{pair_named, found_in, entered_in, weight_found, is_live, live_once, live_in, in_file, live_in_file, once, IsTallied, IsBehind, used_again}
use Rattle.rope_table.proofs.Sums.{sum_part}
use Rattle.rope_table.proofs.InOrder.{split}
use Rattle.rope_table.proofs.Blocks.{front_counts, or_left, or_right, same_pair-refl}

both : (a b : Bool) → (a && b) ≡ true → (a ≡ true) × (b ≡ true)
both true b e = (refl, e)
both false b e = cc

pub same_name : (a b : BlockName) → name_eq a b ≡ true → a ≡ b
same_name a b e =
    let parts = both (a.file == b.file) (a.index == b.index) e in
    let file = eqb-true a.file b.file parts.0 in
    let index = eqb-true a.index b.index parts.1 in
    λ i. record { file = file i; index = index i }

-- ---- how many there are at most

pub once_le : (b : Bool) → once b ≤ 1
once_le true = omega arith
once_le false = omega arith

-- no more than all of them
pub live_most : (es : List (BlockName × Count)) → live_in es ≤ length es
live_most [] = omega arith
live_most (e ∷ es) =
    let rest = live_most es in
    let first = sum_by-cons (λ e. live_once e.1) e es in
    let here = once_le (is_live e.1) in
    omega (arith, rest, first, here)

below_once : (weigh : BlockName × Count → Bool) → (es : List (BlockName × Count)) → sum_by (λ e. once (weigh e)) es ≤ length es
below_once weigh [] = omega arith
below_once weigh (e ∷ es) =
    let rest = below_once weigh es in
    let first = sum_by-cons (λ e. once (weigh e)) e es in
    let here = once_le (weigh e) in
    omega (arith, rest, first, here)

pub counted_most : (f : ℕ) (es : List (BlockName × Count)) → sum_by (in_file f) es ≤ length es
counted_most f es = below_once (λ e. e.0.file == f) es

pub lives_most : (f : ℕ) (es : List (BlockName × Count)) → sum_by (live_in_file f) es ≤ length es
lives_most f es = below_once (λ e. (e.0.file == f) && is_live e.1) es

fewer : (a b : Bool) → once (a && b) ≤ once a
fewer true b = once_le b
fewer false b = omega arith

-- no more are live than there are
pub lives_within : (f : ℕ) (es : List (BlockName × Count)) → sum_by (live_in_file f) es ≤ sum_by (in_file f) es
lives_within f [] = omega arith
lives_within f (e ∷ es) =
    let rest = lives_within f es in
    let left = sum_by-cons (live_in_file f) e es in
    let right = sum_by-cons (in_file f) e es in
    let here = fewer (e.0.file == f) (is_live e.1) in
    omega (arith, rest, left, right, here)

-- ---- the blocks of these entries

abbrev pub live_pairs : List (BlockName × Count) → List BlockPair
live_pairs [] = []
live_pairs (e ∷ es) = cond (is_live e.1) (pair_named e.0 ∷ live_pairs es) (live_pairs es)

length-live_pairs : (es : List (BlockName × Count)) → length (live_pairs es) ≡ live_in es
length-live_pairs [] = refl
length-live_pairs (e ∷ es) =
    let rest = length-live_pairs es in
    let first = sum_by-cons (λ e. live_once e.1) e es in
    cond_both (is_live e.1) (pair_named e.0 ∷ live_pairs es) (live_pairs es) (λ l. length l ≡ live_in (e ∷ es))
    (λ t. let one : live_once e.1 ≡ 1 = ap once t in omega (arith, rest, first, one))
    (λ t. let none : live_once e.1 ≡ 0 = ap once t in omega (arith, rest, first, none))

-- a block whose name none of them has
not_there : (k : BlockName) (es : List (BlockName × Count)) → AllByRecursion (λ y. name_eq k y ≡ false) (keys_of es) → has_pair (live_pairs es) (pair_named k) ≡ false
not_there k [] none = refl
not_there k (e ∷ es) none =
    let rest = not_there k es none.1 in
    cond_both (is_live e.1) (pair_named e.0 ∷ live_pairs es) (live_pairs es) (λ l. has_pair l (pair_named k) ≡ false)
    (λ t. ap (λ b. b || has_pair (live_pairs es) (pair_named k)) none.0 ∙ rest) (λ t. rest)

distinct_live : (es : List (BlockName × Count)) → IsDistinct name_eq (keys_of es) → length (distinct (live_pairs es)) ≡ length (live_pairs es)
unfolding IsDistinct
distinct_live [] apart = refl
distinct_live (e ∷ es) apart =
    let rest = distinct_live es apart.1 in
    cond_both (is_live e.1) (pair_named e.0 ∷ live_pairs es) (live_pairs es) (λ l. length (distinct l) ≡ length l)
    (λ t. front_counts (live_pairs es) (pair_named e.0) (not_there e.0 es apart.0) ∙ ap suc rest) (λ t. rest)

live_has : (es : List (BlockName × Count)) → IsDistinct name_eq (keys_of es) → (q : BlockPair) → has_pair (live_pairs es) q ≡ is_live (count_of es q)
unfolding IsDistinct
live_has [] apart q = refl
live_has (e ∷ es) apart q =
    split (same_pair q (pair_named e.0))
    (λ t.
    let here : is_live (count_of (e ∷ es) q) ≡ is_live e.1 = ap (λ (o : Option Count). is_live (unwrap_or o no_count)) (lookup_head (name_eq (name_of q)) e es t) in
    let none : has_pair (live_pairs es) q ≡ false = ap (has_pair (live_pairs es)) (same_pair-true q (pair_named e.0) t) ∙ not_there e.0 es apart.0 in
    cond_both (is_live e.1) (pair_named e.0 ∷ live_pairs es) (live_pairs es) (λ l. has_pair l q ≡ is_live (count_of (e ∷ es) q))
    (λ u. ap (λ b. b || has_pair (live_pairs es) q) t ∙ sym (here ∙ u)) (λ u. none ∙ sym (here ∙ u)))
    (λ t.
    let here : is_live (count_of (e ∷ es) q) ≡ is_live (count_of es q) = ap (λ (o : Option Count). is_live (unwrap_or o no_count)) (lookup_tail (name_eq (name_of q)) e es t) in
    let rest = live_has es apart.1 q in
    cond_both (is_live e.1) (pair_named e.0 ∷ live_pairs es) (live_pairs es) (λ l. has_pair l q ≡ is_live (count_of (e ∷ es) q))
    (λ u. ap (λ b. b || has_pair (live_pairs es) q) t ∙ rest ∙ sym here) (λ u. rest ∙ sym here))

-- as many as there are blocks that live ropes have
pub live_exact : (es : List (BlockName × Count)) → IsDistinct name_eq (keys_of es) → (pairs : List BlockPair) → ((q : BlockPair) → has_pair pairs q ≡ is_live (count_of es q)) → live_in es ≡ length (distinct pairs)
live_exact es apart pairs h = sym (length-live_pairs es) ∙ sym (distinct_live es apart) ∙ same_count (live_pairs es) pairs (λ q. live_has es apart q ∙ sym (h q))

-- ---- the files of these entries

member_file : (ps : List BlockPair) (p : BlockPair) (f : ℕ) → has_pair ps p ≡ true → (p.file == f) ≡ true → has_file ps f ≡ true
member_file [] p f has is = cc
member_file (q ∷ ps) p f has is = split (same_pair p q)
    (λ t. or_left (q.file == f) (has_file ps f) (ap (λ (r : BlockPair). r.file == f) (sym (same_pair-true p q t)) ∙ is))
    (λ t. or_right (q.file == f) (has_file ps f) (member_file ps p f (sym (ap (λ b. b || has_pair ps p) t) ∙ has) is))

files_through : (ps qs : List BlockPair) (f : ℕ) → ((q : BlockPair) → has_pair ps q ≡ true → has_pair qs q ≡ true) → has_file ps f ≡ true → has_file qs f ≡ true
files_through [] qs f all has = cc
files_through (p ∷ ps) qs f all has = split (p.file == f)
    (λ t. member_file qs p f (all p (or_left (same_pair p p) (has_pair ps p) (same_pair-refl p))) t)
    (λ t. files_through ps qs f (λ q h. all q (or_right (same_pair q p) (has_pair ps q) h)) (sym (ap (λ b. b || has_file ps f) t) ∙ has))

both_ways : (a b : Bool) → (a ≡ true → b ≡ true) → (b ≡ true → a ≡ true) → a ≡ b
both_ways true b to back = sym (to refl)
both_ways false true to back = back refl
both_ways false false to back = refl

same_files : (ps qs : List BlockPair) (f : ℕ) → ((q : BlockPair) → has_pair ps q ≡ has_pair qs q) → has_file ps f ≡ has_file qs f
same_files ps qs f same = both_ways (has_file ps f) (has_file qs f) (files_through ps qs f (λ q h. sym (same q) ∙ h)) (files_through qs ps f (λ q h. same q ∙ h))

no_once : (b : Bool) → once (b && false) ≡ 0
no_once true = refl
no_once false = refl

file_lives : (f : ℕ) (es : List (BlockName × Count)) → has_file (live_pairs es) f ≡ nat_lt 0 (sum_by (live_in_file f) es)
file_lives f [] = refl
file_lives f (e ∷ es) =
    let rest = file_lives f es in
    let first = sum_by-cons (live_in_file f) e es in
    cond_both (is_live e.1) (pair_named e.0 ∷ live_pairs es) (live_pairs es) (λ l. has_file l f ≡ nat_lt 0 (sum_by (live_in_file f) (e ∷ es)))
    (λ t. split (e.0.file == f)
    (λ u.
    let one : live_in_file f e ≡ 1 = ap (λ b. once (b && is_live e.1)) u ∙ ap once t in
    or_left (e.0.file == f) (has_file (live_pairs es) f) u ∙ sym (lt-ltb 0 (sum_by (live_in_file f) (e ∷ es)) (omega (arith, first, one))))
    (λ u.
    let none : live_in_file f e ≡ 0 = ap (λ b. once (b && is_live e.1)) u in
    ap (λ b. b || has_file (live_pairs es) f) u ∙ rest ∙ ap (nat_lt 0) (omega (arith, first, none))))
    (λ t.
    let none : live_in_file f e ≡ 0 = ap (λ b. once ((e.0.file == f) && b)) t ∙ no_once (e.0.file == f) in
    rest ∙ ap (nat_lt 0) (omega (arith, first, none)))

pub files_live_in : (es : List (BlockName × Count)) → IsDistinct name_eq (keys_of es) → (pairs : List BlockPair) → ((q : BlockPair) → has_pair pairs q ≡ is_live (count_of es q)) → (f : ℕ) → has_file pairs f ≡ nat_lt 0 (sum_by (live_in_file f) es)
files_live_in es apart pairs h f = same_files pairs (live_pairs es) f (λ q. h q ∙ sym (live_has es apart q)) ∙ file_lives f es

-- ---- a block's file

none_filed : (o : Option FileCount) → is_some o ≡ false → (unwrap_or o no_file).counted ≡ 0
none_filed None e = refl
none_filed (Some count) e = cc

weight_in : (name : BlockName) (o : Option Count) → is_some o ≡ true → weight_found (in_file name.file) name o ≡ 1
weight_in name None e = cc
weight_in name (Some count) e = ap once (eq-eqb name.file name.file refl)

weight_live : (name : BlockName) (o : Option Count) → weight_found (live_in_file name.file) name o ≡ once (is_live (unwrap_or o no_count))
weight_live name None = refl
weight_live name (Some count) = ap (λ b. once (b && is_live count)) (eq-eqb name.file name.file refl)

-- the file of a block that has a count has one
pub filed_where : (es : List (BlockName × Count)) (files : List (ℕ × FileCount)) (name : BlockName) → ((f : ℕ) → (file_of files f).counted ≡ sum_by (in_file f) es) → is_filed files name.file ≡ false → entered_in es (pair_named name) ≡ false
filed_where es files name counted none =
    split (entered_in es (pair_named name))
    (λ t.
    let part = sum_part name_eq same_name (in_file name.file) name es in
    let one = weight_in name (found_in es (pair_named name)) t in
    let all = counted name.file in
    let zero = none_filed (lookup (nat_eq name.file) files) none in
    absurd (omega (arith, part, one, all, zero)))
    (λ t. t)

pub less_room : (es : List (BlockName × Count)) (files : List (ℕ × FileCount)) (name : BlockName) → ((f : ℕ) → (file_of files f).counted ≡ sum_by (in_file f) es) → cond (is_filed files name.file) 0 1 ≤ cond (entered_in es (pair_named name)) 0 1
less_room es files name counted =
    cond_both (is_filed files name.file) 0 1 (λ n. n ≤ cond (entered_in es (pair_named name)) 0 1)
    (λ t. omega arith)
    (λ t. let none : cond (entered_in es (pair_named name)) 0 1 ≡ 1 = ap {B = ℕ} (λ b. cond b 0 1) (filed_where es files name counted t) in omega (arith, none))

pub there_live : (es : List (BlockName × Count)) (name : BlockName) (o : Option Count) → o ≡ found_in es (pair_named name) → once (is_live (unwrap_or o no_count)) ≤ sum_by (live_in_file name.file) es
there_live es name o found =
    let part = sum_part name_eq same_name (live_in_file name.file) name es in
    let one = weight_live name o in
    let same = ap (weight_found (live_in_file name.file) name) found in
    omega (arith, part, one, same)

-- the last block of a file that has a count is live where the file is
pub last_live : (es fs : List (BlockName × Count)) (name : BlockName) (o : Option Count) → is_some o ≡ true → ((weigh : BlockName × Count → ℕ) → sum_by weigh fs + weight_found weigh name o ≡ sum_by weigh es) → sum_by (in_file name.file) es ≡ 1 → sum_by (live_in_file name.file) es ≡ once (is_live (unwrap_or o no_count))
last_live es fs name o some sums single =
    let counted = sums (in_file name.file) in
    let lives = sums (live_in_file name.file) in
    let one = weight_in name o some in
    let live = weight_live name o in
    let within = lives_within name.file fs in
    omega (arith, counted, lives, one, live, within, single)

no_more : (a : Bool) → once a + cond a 0 0 ≡ once a
no_more true = refl
no_more false = refl

no_either : (a : Bool) (n : ℕ) → cond a n n ≡ n
no_either true n = refl
no_either false n = refl

pub byte_once : (b : Bool) → bool_byte b ≡ once b
byte_once true = refl
byte_once false = refl

pub as_once : (n : ℕ) (b : Bool) → n ≡ bool_byte b → n ≡ once b
as_once n b e = e ∙ byte_once b

weight_all : (name : BlockName) (o : Option Count) → weight_found (λ e. live_once e.1) name o ≡ once (is_live (unwrap_or o no_count))
weight_all name None = refl
weight_all name (Some count) = refl

weight_counted : (f : ℕ) (name : BlockName) (o : Option Count) → weight_found (in_file f) name o + cond (name.file == f) (cond (is_some o) 0 1) 0 ≡ once (name.file == f)
weight_counted f name None = omega arith
weight_counted f name (Some count) = no_more (name.file == f)

-- a block that had no count
pub fresh_once : (b fresh : Bool) → b ≡ not fresh → once fresh ≡ cond b 0 1
fresh_once b true e = sym (ap {B = ℕ} (λ x. cond x 0 1) e)
fresh_once b false e = sym (ap {B = ℕ} (λ x. cond x 0 1) e)

once_and : (a b : Bool) → once (a && b) ≡ cond a (once b) 0
once_and true b = refl
once_and false b = refl

weight_lives : (f : ℕ) (name : BlockName) (o : Option Count) → weight_found (live_in_file f) name o ≡ cond (name.file == f) (once (is_live (unwrap_or o no_count))) 0
weight_lives f name None = sym (no_either (name.file == f) 0)
weight_lives f name (Some count) = once_and (name.file == f) (is_live count)

-- the numbers before a block gets a count
pub behind_put : {S : Type 0} (m : HashMap BlockName Count S) (fs : List (BlockName × Count)) (files : Filed) (live : ℕ) (name : BlockName) (count : Count) (o : Option Count) → IsTallied m files live
    → ((weigh : BlockName × Count → ℕ) → sum_by weigh fs + weight_found weigh name o ≡ sum_by weigh m.entries + weigh (name, count)) → o ≡ found_in m.entries (pair_named name) → IsBehind fs files live name.file o (is_live count)
behind_put m fs files live name count o h sums found = record {
  total = let all = sums (λ e. live_once e.1) in let one = weight_all name o in let was = h.total in omega (arith, all, one, was);
  counted = λ f. let all = sums (in_file f) in let one = weight_counted f name o in let was = h.counted f in omega (arith, all, one, was);
  lives = λ f.
      let all = sums (live_in_file f) in
      let one = weight_lives f name o in
      let two = once_and (name.file == f) (is_live count) in
      let was = h.lives f in
      omega (arith, all, one, two, was);
  there = let least = there_live m.entries name o found in let was = h.lives name.file in omega (arith, least, was);
  within = let all = lives_within name.file m.entries in let lives = h.lives name.file in let counted = h.counted name.file in omega (arith, all, lives, counted);
}

pub live_take : (es fs : List (BlockName × Count)) (name : BlockName) (o : Option Count) (was : Bool) → ((weigh : BlockName × Count → ℕ) → sum_by weigh fs + weight_found weigh name o ≡ sum_by weigh es) → was ≡ is_live (unwrap_or o no_count) → live_in fs + once was ≡ live_in es
live_take es fs name o was sums before =
    let all = sums (λ e. live_once e.1) in
    let one = weight_all name o in
    let same = ap once before in
    omega (arith, all, one, same)

pub tallied_take : {S : Type 0} (m n : HashMap BlockName Count S) (files new : Filed) (live less : ℕ) (name : BlockName) (o : Option Count) (was : Bool) → IsTallied m files live
    → ((weigh : BlockName × Count → ℕ) → sum_by weigh n.entries + weight_found weigh name o ≡ sum_by weigh m.entries) → is_some o ≡ true → was ≡ is_live (unwrap_or o no_count)
    → ((f : ℕ) → (file_of new.files f).counted + cond (name.file == f) 1 0 ≡ (file_of files.files f).counted)
    → ((f : ℕ) → (file_of new.files f).live + cond (name.file == f) (once was) 0 ≡ (file_of files.files f).live)
    → less + once was ≡ live → IsTallied n new less
tallied_take m n files new live less name o was h sums known before counted lives total = record {
  total = let all = live_take m.entries n.entries name o was sums before in let was_all = h.total in omega (arith, all, was_all, total);
  counted = λ f. let all = sums (in_file f) in let one = weight_counted f name o in let had = ap {B = ℕ} (λ b. cond (name.file == f) (cond b 0 1) 0) known in let now = counted f in let then = h.counted f in let none = no_either (name.file == f) 0 in omega (arith, all, one, had, now, then, none);
  lives = λ f.
      let all = sums (live_in_file f) in
      let one = weight_lives f name o in
      let same : cond (name.file == f) (once was) 0 ≡ cond (name.file == f) (once (is_live (unwrap_or o no_count))) 0 = ap (λ b. cond (name.file == f) (once b) 0) before in
      let now = lives f in
      let then = h.lives f in
      omega (arith, all, one, same, now, then);
}

pub tallied_same : {S : Type 0} (m n : HashMap BlockName Count S) (files new : Filed) (live : ℕ) → IsTallied m files live → n.entries ≡ m.entries → ((f : ℕ) → file_of new.files f ≡ file_of files.files f) → IsTallied n new live
tallied_same m n files new live h is same = record {
  total = h.total ∙ ap live_in (sym is);
  counted = λ f. ap (λ (c : FileCount). c.counted) (same f) ∙ h.counted f ∙ ap (sum_by (in_file f)) (sym is);
  lives = λ f. ap (λ (c : FileCount). c.live) (same f) ∙ h.lives f ∙ ap (sum_by (live_in_file f)) (sym is);
}

-- ---- a block in use

-- a block that is used had a count, and that is told
pub used_there : (used none : Bool) (o r : Option Count) → r ≡ cond used o None → is_some r ≡ not none → none ≡ false → (r ≡ o) × (is_some r ≡ true)
used_there true none o r e is there = (e, is ∙ ap not there)
used_there false none o r e is there = absurd (false≢true (sym (ap is_some e) ∙ is ∙ ap not there))

pub weight_again : (weigh : BlockName × Count → ℕ) (name : BlockName) (live : Bool) (o : Option Count) → is_some o ≡ true → weight_found weigh name (option_map (used_again live) o) ≡ weigh (name, used_again live (unwrap_or o no_count))
weight_again weigh name live None some = absurd (false≢true some)
weight_again weigh name live (Some count) some = refl
