-- How many distinct blocks lists have, by the numbers that stand for blocks of files and of lanes.
use Rattle.std.proofs.Common.{◌≡◌, ℕ, zero, suc, ◌+◌, ◌*◌, ◌<◌, ◌≤◌, ◌==◌, Bool, true, false, ◌&&◌, ◌||◌, cond, List, [], ◌∷◌, ◌++◌, map, length, refl, sym, ◌∙◌, ap, subst, arith}
use Rattle.std.proofs.lemmas.Bool.{eqb-true, eq-eqb}
use Rattle.std.proofs.lemmas.List.{length-map}
use Rattle.std.proofs.lemmas.List.Folds.{list_any-append}
use Rattle.voice_units.specs.Blocks.{BlockPair, same_pair, has_pair, distinct}
use Rattle.voice_units.proofs.Distinct.{same_pair-true, has_pair-distinct}
use Rattle.voice_model.proofs.KeptByChanges.{same_bool}
use Rattle.voice_model.proofs.PlacesKept.{same_itself}
use Rattle.voice_blocks.proofs.Apart.{either_way, or_left, or_right, length_once, has_append, apart_count}
use Rattle.running_tables.specs.Running.{taken}

-- ---- blocks of files

-- a block of a file by its number
abbrev pub even : BlockPair → BlockPair
even p = record { file = 2 * p.file; index = p.index }

double_same : (a b : ℕ) → (2 * a == 2 * b) ≡ (a == b)
double_same a b =
    same_bool (2 * a == 2 * b) (a == b)
    (λ e. let k = eqb-true (2 * a) (2 * b) e in eq-eqb a b (omega (arith, k)))
    (λ e. let k = eqb-true a b e in eq-eqb (2 * a) (2 * b) (omega (arith, k)))

even_same : (p q : BlockPair) → same_pair (even p) (even q) ≡ same_pair p q
even_same p q = ap (λ b. b && (p.index == q.index)) (double_same p.file q.file)

pub has_even : (ps : List BlockPair) (q : BlockPair) → has_pair (map even ps) (even q) ≡ has_pair ps q
has_even [] q = refl
has_even (p ∷ ps) q = ap (λ b. b || has_pair (map even ps) (even q)) (even_same q p) ∙ ap (λ b. same_pair q p || b) (has_even ps q)

-- a number among those of blocks of files is that of one of them
pub some_even : (ps : List BlockPair) (q : BlockPair) → has_pair (map even ps) q ≡ true → (p : BlockPair) × (has_pair ps p ≡ true) × (even p ≡ q)
some_even [] q e = cc
some_even (p ∷ ps) q e =
    either_way (same_pair q (even p)) (has_pair (map even ps) q)
    (λ k. (p, or_left (same_pair p p) (has_pair ps p) (same_itself p), sym (same_pair-true q (even p) k)))
    (λ k. let r = some_even ps q k in (r.0, or_right (same_pair r.0 p) (has_pair ps r.0) r.1, r.2)) e

even_by : (there : Bool) (p : BlockPair) (ps : List BlockPair) → map even (cond there ps (p ∷ ps)) ≡ cond there (map even ps) (even p ∷ map even ps)
even_by true p ps = refl
even_by false p ps = refl

even_once : (ps : List BlockPair) → map even (distinct ps) ≡ distinct (map even ps)
even_once [] = refl
even_once (p ∷ ps) =
    even_by (has_pair (distinct ps) p) p (distinct ps)
    ∙ ap (λ b. cond b (map even (distinct ps)) (even p ∷ map even (distinct ps))) (sym (has_even (distinct ps) p))
    ∙ ap (λ l. cond (has_pair l (even p)) l (even p ∷ l)) (even_once ps)

-- there are as many numbers as blocks
pub even_count : (ps : List BlockPair) → length (distinct (map even ps)) ≡ length (distinct ps)
even_count ps = ap length (sym (even_once ps)) ∙ length-map (distinct ps) even

-- ---- blocks of open recordings

-- n blocks of one number, from an index on
abbrev pub run_of : ℕ → ℕ → ℕ → List BlockPair
run_of file from zero = []
run_of file from (suc n) = record { file = file; index = from } ∷ run_of file (from + 1) n

-- the blocks of the open recordings of lanes, from a lane on, by their numbers
abbrev pub odds : ℕ → List ℕ → List BlockPair
odds lane [] = []
odds lane (n ∷ ns) = run_of (2 * lane + 1) 0 n ++ odds (lane + 1) ns

pub record IsOfRun (file from n : ℕ) (q : BlockPair) : Type 0 where
  pub of_file : q.file ≡ file
  pub low : from ≤ q.index
  pub high : q.index < from + n

in_run : (file from n : ℕ) (q : BlockPair) → has_pair (run_of file from n) q ≡ true → IsOfRun file from n q
in_run file from zero q e = cc
in_run file from (suc n) q e =
    either_way (same_pair q (record { file = file; index = from })) (has_pair (run_of file (from + 1) n) q)
    (λ k. let same = same_pair-true q (record { file = file; index = from }) k in
    let index : q.index ≡ from = ap (λ (x : BlockPair). x.index) same in
    record { of_file = ap (λ (x : BlockPair). x.file) same; low = omega (arith, index); high = omega (arith, index) })
    (λ k. let r = in_run file (from + 1) n q k in
    let low = r.low in
    let high = r.high in
    record { of_file = r.of_file; low = omega (arith, low); high = omega (arith, high) }) e

run_has : (file from n index : ℕ) → from ≤ index → index < from + n → has_pair (run_of file from n) (record { file = file; index = index }) ≡ true
run_has file from zero index low high = absurd (omega (arith, low, high))
run_has file from (suc n) index low high = by (index == from) refl (λ l. run_has file (from + 1) n index l (omega (arith, high)))
  where
    by : (b : Bool) → (index == from) ≡ b → (from + 1 ≤ index → has_pair (run_of file (from + 1) n) (record { file = file; index = index }) ≡ true) → has_pair (run_of file from (suc n)) (record { file = file; index = index }) ≡ true
    by true e later =
        or_left ((file == file) && (index == from)) (has_pair (run_of file (from + 1) n) (record { file = file; index = index }))
        (ap (λ b. b && (index == from)) (eq-eqb file file refl) ∙ e)
    by false e later =
        let other : ¬ (index ≡ from) = λ k. let t = eq-eqb index from k in cc in
        or_right ((file == file) && (index == from)) (has_pair (run_of file (from + 1) n) (record { file = file; index = index })) (later (omega (arith, low, other)))

never_true : (b : Bool) → ¬ (b ≡ true) → b ≡ false
never_true true n = absurd (n refl)
never_true false n = refl

abbrev first : ℕ → ℕ → BlockPair
first file index = record { file = file; index = index }

run_count : (file from n : ℕ) → length (distinct (run_of file from n)) ≡ n
run_count file from zero = refl
run_count file from (suc n) =
    let rest = run_count file (from + 1) n in
    length_once (has_pair (distinct (run_of file (from + 1) n)) (first file from)) (first file from) (distinct (run_of file (from + 1) n))
    ∙ ap (λ b. cond b 0 1 + length (distinct (run_of file (from + 1) n))) (has_pair-distinct (run_of file (from + 1) n) (first file from) ∙ never_true (has_pair (run_of file (from + 1) n) (first file from)) new)
    ∙ one_more rest
  where
    new : ¬ (has_pair (run_of file (from + 1) n) (record { file = file; index = from }) ≡ true)
    new e = let low = (in_run file (from + 1) n (record { file = file; index = from }) e).low in omega (arith, low)

    one_more : {m : ℕ} → m ≡ n → 1 + m ≡ suc n
    one_more e = omega (arith, e)

-- how many blocks open recordings have in all
abbrev pub total : List ℕ → ℕ
total [] = 0
total (n ∷ ns) = n + total ns

-- a block of an open recording by its number, in a lane of this many behind the first one
pub record IsOfLane (lane : ℕ) (ns : List ℕ) (q : BlockPair) : Type 0 where
  pub at : ℕ
  pub within : q.index < taken ns at
  pub of_lane : q.file ≡ 2 * (lane + at) + 1

pub in_odds : (lane : ℕ) (ns : List ℕ) (q : BlockPair) → has_pair (odds lane ns) q ≡ true → IsOfLane lane ns q
in_odds lane [] q e = cc
in_odds lane (n ∷ ns) q e =
    either_way (has_pair (run_of (2 * lane + 1) 0 n) q) (has_pair (odds (lane + 1) ns) q)
    (λ k. let r = in_run (2 * lane + 1) 0 n q k in
    let high = r.high in
    let file = r.of_file in
    record { at = zero; within = omega (arith, high); of_lane = omega (arith, file) })
    (λ k. let r = in_odds (lane + 1) ns q k in
    let file = r.of_lane in
    record { at = suc r.at; within = r.within; of_lane = omega (arith, file) })
    (sym (has_append (run_of (2 * lane + 1) 0 n) (odds (lane + 1) ns) q) ∙ e)

pub odds_have : (lane : ℕ) (ns : List ℕ) (at number index : ℕ) → number ≡ lane + at → index < taken ns at → has_pair (odds lane ns) (record { file = 2 * number + 1; index = index }) ≡ true
odds_have lane [] at number index same within = absurd (omega (arith, within))
odds_have lane (n ∷ ns) zero number index same within =
    has_append (run_of (2 * lane + 1) 0 n) (odds (lane + 1) ns) (first (2 * number + 1) index)
    ∙ or_left (has_pair (run_of (2 * lane + 1) 0 n) (first (2 * number + 1) index)) (has_pair (odds (lane + 1) ns) (first (2 * number + 1) index))
    (subst (λ f. has_pair (run_of (2 * lane + 1) 0 n) (first f index) ≡ true) (twice lane number same) (run_has (2 * lane + 1) 0 n index (omega arith) (omega (arith, within))))
  where
    twice : (l m : ℕ) → m ≡ l + 0 → 2 * l + 1 ≡ 2 * m + 1
    twice l m e = omega (arith, e)
odds_have lane (n ∷ ns) (suc at) number index same within =
    has_append (run_of (2 * lane + 1) 0 n) (odds (lane + 1) ns) (first (2 * number + 1) index)
    ∙ or_right (has_pair (run_of (2 * lane + 1) 0 n) (first (2 * number + 1) index)) (has_pair (odds (lane + 1) ns) (first (2 * number + 1) index))
    (odds_have (lane + 1) ns at number index (omega (arith, same)) within)

-- each lane's blocks are counted
pub odds_count : (lane : ℕ) (ns : List ℕ) → length (distinct (odds lane ns)) ≡ total ns
odds_count lane [] = refl
odds_count lane (n ∷ ns) =
    apart_count (run_of (2 * lane + 1) 0 n) (odds (lane + 1) ns) apart
    ∙ ap (λ m. m + length (distinct (odds (lane + 1) ns))) (run_count (2 * lane + 1) 0 n)
    ∙ ap (λ m. n + m) (odds_count (lane + 1) ns)
  where
    apart : (q : BlockPair) → has_pair (run_of (2 * lane + 1) 0 n) q ≡ true → has_pair (odds (lane + 1) ns) q ≡ false
    apart q h =
        never_true (has_pair (odds (lane + 1) ns) q)
        (λ k. let near = (in_run (2 * lane + 1) 0 n q h).of_file in
        let far = (in_odds (lane + 1) ns q k).of_lane in
        omega (arith, near, far))

-- blocks of files and of open recordings
pub all_count : (ps : List BlockPair) (ns : List ℕ) → length (distinct (map even ps ++ odds 0 ns)) ≡ length (distinct ps) + total ns
all_count ps ns =
    apart_count (map even ps) (odds 0 ns) apart
    ∙ ap (λ m. m + length (distinct (odds 0 ns))) (even_count ps)
    ∙ ap (λ m. length (distinct ps) + m) (odds_count 0 ns)
  where
    apart : (q : BlockPair) → has_pair (map even ps) q ≡ true → has_pair (odds 0 ns) q ≡ false
    apart q h =
        never_true (has_pair (odds 0 ns) q)
        (λ k. let file = ap (λ (x : BlockPair). x.file) (some_even ps q h).2 in
        let lane = (in_odds 0 ns q k).of_lane in
        omega (arith, file, lane))
