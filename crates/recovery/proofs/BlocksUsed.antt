-- The blocks of pieces, one after another.
use Rattle.std.proofs.Common.{◌≡◌, ℕ, zero, suc, ◌+◌, ◌/◌, ◌≤◌, ◌^◌, ◌==◌, nat_lt, Bool, true, false, not, nat_le, cond, ◌&&◌, ◌||◌, List, [], ◌∷◌, length, refl, sym, ◌∙◌, ap, subst, arith}
use Rattle.std.specs.List.{list_all}
use Rattle.std.proofs.lemmas.Bool.{eqb-true, eq-eqb, leb-true, false≢true}
use Rattle.voice_units.specs.Spots.{spots_from, spots_of}
use Rattle.std.specs.Prelude.{filter}
use Rattle.voice_units.specs.Blocks.{BlockPair, pairs_at, same_pair, has_pair, distinct, in_run}
use Rattle.voice_units.specs.declared.pieces.Piece.{Piece}
use Rattle.voice_units.proofs.Distinct.{has_pair-distinct, same_pair-true}
use Rattle.voice_units.proofs.PiecesOfRopes.{both}
use Rattle.voice_units.proofs.Runs.{div_grows}
use Rattle.voice_model.specs.Spelling.{is_piece, are_apart, are_pieces}
use Rattle.voice_model.proofs.PlacesKept.{same_itself}
use Rattle.voice_units.specs.Spots.{samples_in, IsContinued, IsNormal}
use Rattle.rope_algebra.specs.Kept.{LieInFiles, IsRope}
use Rattle.rope_table.specs.Table.{uses_in, pair_of}
use Rattle.rope_table.proofs.Blocks.{no_run, run_more}
use Rattle.rope_table.proofs.InOrder.{split}

-- no block has an index from one up to the same
pub none_in_run : (file first : ℕ) (q : BlockPair) → ¬ (in_run file first first q ≡ true)
none_in_run file first q e = absurd (false≢true (sym (no_run file first q false) ∙ e))

-- a block of a run with an index more is of the run, or has that index
pub in_longer_run : {P : Type 0} (file first index : ℕ) (q : BlockPair) → first ≤ index → in_run file first (index + 1) q ≡ true → (in_run file first index q ≡ true → P) → (pair_of file index ≡ q → P) → P
in_longer_run file first index q le e within last = split (in_run file first index q) within
    (λ f. last (same_pair-true (pair_of file index) q (sym (ap (λ b. b || same_pair (pair_of file index) q) f) ∙ run_more file first index q false le ∙ e)))

-- tests that agree pass the same lists
pub same_all : {A : Type 0} (p q : A → Bool) → ((x : A) → p x ≡ q x) → (xs : List A) → list_all p xs ≡ list_all q xs
same_all p q same [] = refl
same_all p q same (x ∷ xs) = ap (λ b. b && list_all p xs) (same x) ∙ ap (λ b. q x && b) (same_all p q same xs)

-- ---- how many blocks nothing uses yet

-- no block of a list of used ones
pub none_unused : (uses other : BlockPair → ℕ) → ((pair : BlockPair) → other pair ≡ uses pair) → (pairs : List BlockPair) → list_all (λ pair. nat_lt 0 (uses pair)) pairs ≡ true → filter (λ pair. other pair == 0) pairs ≡ []
none_unused uses other same [] h = refl
none_unused uses other same (pair ∷ pairs) h =
    let tests = both (nat_lt 0 (uses pair)) (list_all (λ pair. nat_lt 0 (uses pair)) pairs) h in
    ap (λ b. cond b (pair ∷ filter (λ pair. other pair == 0) pairs) (filter (λ pair. other pair == 0) pairs)) (ap (λ n. n == 0) (same pair) ∙ above (uses pair) tests.0) ∙ none_unused uses other same pairs tests.1
  where
    above : (n : ℕ) → nat_lt 0 n ≡ true → (n == 0) ≡ false
    above zero e = cc
    above (suc n) e = grind arith

one_more : (b : Bool) (p : BlockPair) (ps : List BlockPair) → length (cond b ps (p ∷ ps)) ≤ length ps + 1
one_more true p ps = omega arith
one_more false p ps = omega arith

kept_more : (b : Bool) (p : BlockPair) (ps : List BlockPair) → length (distinct (cond b (p ∷ ps) ps)) ≤ length (distinct ps) + 1
kept_more true p ps = one_more (has_pair (distinct ps) p) p (distinct ps)
kept_more false p ps = omega arith

there_already : (b : Bool) (p : BlockPair) (ps : List BlockPair) → (b ≡ true → has_pair ps p ≡ true) → length (distinct (cond b (p ∷ ps) ps)) ≤ length (distinct ps)
there_already true p ps h = let e : distinct (p ∷ ps) ≡ distinct ps = ap (λ b. cond b (distinct ps) (p ∷ distinct ps)) (has_pair-distinct ps p ∙ h refl) in let k = ap length e in omega (arith, k)
there_already false p ps h = omega arith

kept_first : (test : BlockPair → Bool) (p q : BlockPair) (ps : List BlockPair) → q ≡ p → test p ≡ true → has_pair (filter test (q ∷ ps)) p ≡ true
kept_first test p q ps e h =
    ap (λ b. has_pair (cond b (q ∷ filter test ps) (filter test ps)) p) (ap test e ∙ h) ∙ ap (λ x. same_pair p x || has_pair (filter test ps) p) e ∙ ap (λ b. b || has_pair (filter test ps) p) (same_itself p)

pub same_or : {P : Type 0} (x y : ℕ) → (x ≡ y → P) → (¬ (x ≡ y) → P) → P
same_or {P} x y f g = by_test (x == y) refl
  where
    by_test : (b : Bool) → (x == y) ≡ b → P
    by_test true e = f (eqb-true x y e)
    by_test false e = g (λ same. let bad : true ≡ false = sym (eq-eqb x y same) ∙ e in cc)

-- so many blocks at most lie between the first and the last place
pub few_blocks : (test : BlockPair → Bool) (block file from n top : ℕ) → 1 ≤ block → (from + n) / block ≤ top → length (distinct (filter test (pairs_at block (spots_from file from (suc n))))) + from / block ≤ top + 1
few_blocks test block file from zero top some high =
    let most = kept_more (test (record { file = file; index = from / block })) (record { file = file; index = from / block }) [] in
    let same : (from + 0) / block ≡ from / block = ap (λ x. x / block) (let e : from + 0 ≡ from = omega arith in e) in omega (arith, most, same, high)
few_blocks test block file from (suc n) top some high =
    let rest = pairs_at block (spots_from file (from + 1) (suc n)) in
    let first : BlockPair = record { file = file; index = from / block } in
    let next : (from + 1 + n) / block ≤ top = subst (λ x. x / block ≤ top) (let e : from + suc n ≡ from + 1 + n = omega arith in e) high in
    let later = few_blocks test block file (from + 1) n top some next in
    same_or ((from + 1) / block) (from / block)
    (λ same. let most = there_already (test first) first (filter test rest) (λ h. kept_first test first (record { file = file; index = (from + 1) / block }) (pairs_at block (spots_from file (from + 1 + 1) n)) (ap (λ i. let x : BlockPair = record { file = file; index = i } in x) same) h) in omega (arith, most, later, same))
    (λ apart.
    let most = kept_more (test first) first (filter test rest) in
    let grows = div_grows from (from + 1) block (omega (arith, some)) (omega arith) in
    omega (arith, most, later, apart, grows))

-- ---- limits

pub uses_few : (block : ℕ) (lists : List (List Piece)) (pair : BlockPair) → uses_in block lists pair ≤ length lists
uses_few block [] pair = omega arith
uses_few block (ps ∷ lists) pair =
    let rest = uses_few block lists pair in let one = at_most (has_pair (pairs_at block (spots_of ps)) pair) in omega (arith, rest, one)
  where
    at_most : (b : Bool) → cond {A = ℕ} b 1 0 ≤ 1
    at_most true = omega arith
    at_most false = omega arith

in_files : (ps : List Piece) → list_all is_piece ps ≡ true → LieInFiles ps
in_files [] h = tt
in_files (p ∷ ps) h = let tests = both (is_piece p) (list_all is_piece ps) h in (leb-true (p.from + p.len) (2 ^ 30) (both _ _ tests.0).1, in_files ps tests.1)

not_continued : (p q : Piece) → not ((p.file == q.file) && (p.from + p.len == q.from)) ≡ true → ¬ IsContinued p q
not_continued p q e = λ c.
    let joined : ((p.file == q.file) && (p.from + p.len == q.from)) ≡ true = ap (λ b. b && (p.from + p.len == q.from)) (eq-eqb p.file q.file c.0) ∙ eq-eqb (p.from + p.len) q.from c.1 in
    let never : true ≡ false = sym e ∙ ap not joined in
    cc

some_samples : (p : Piece) → is_piece p ≡ true → 1 ≤ p.len
some_samples p h = leb-true 1 p.len (both _ _ (both _ _ h).0).1

in_normal_form : (ps : List Piece) → list_all is_piece ps ≡ true → are_apart ps ≡ true → IsNormal ps
in_normal_form [] h apart = tt
in_normal_form (p ∷ []) h apart = some_samples p (both (is_piece p) true h).0
in_normal_form (p ∷ q ∷ ps) h apart =
    let tests = both (is_piece p) (list_all is_piece (q ∷ ps)) h in
    let ends = both (not ((p.file == q.file) && (p.from + p.len == q.from))) (are_apart (q ∷ ps)) apart in
    (some_samples p tests.0, not_continued p q ends.0, in_normal_form (q ∷ ps) tests.1 ends.1)

-- the pieces of a change are those of a rope
pub are_rope : (ps : List Piece) → are_pieces ps ≡ true → IsRope ps
are_rope ps h =
    let apart = both _ (are_apart ps) h in
    let few = both _ (nat_le (samples_in ps) (2 ^ 30)) apart.0 in
    let each = (both (nat_le (length ps) 4096) (list_all is_piece ps) few.0).1 in
    let most = leb-true (samples_in ps) (2 ^ 30) few.1 in
    record { normal = in_normal_form ps each apart.1; ends = in_files ps each; total = omega (arith, most) }
