-- How many blocks, and files, a recording has.
use Rattle.std.proofs.Common.{◌≡◌, ◌≢◌, ◌⊎◌, inl, inr, ⊎_elim, ℕ, zero, suc, ◌+◌, ◌-◌, ◌*◌, ◌/◌, ◌<◌, ◌≤◌, ◌==◌, Bool, true, false, ◌||◌, cond, List, [], ◌∷◌, length, refl, sym, ◌∙◌, ap, subst, arith}
use Rattle.std.proofs.lemmas.Bool.{eqb-true, eq-eqb}
use Rattle.std.proofs.lemmas.Nat.{le-div, div_below}
use Rattle.std.proofs.Math.Nat.{div-mul-le_self, lt-div-mul-add, add-mul, one-mul}
use Rattle.voice_units.specs.Spots.{spots_from}
use Rattle.voice_units.specs.Blocks.{BlockPair, same_pair, has_pair, pairs_at, distinct, blocks_for}
use Rattle.voice_units.proofs.Distinct.{same_pair-true, has_pair-distinct}
use Rattle.voice_model.specs.State.{among}
use Rattle.voice_model.specs.Changes.{each_once}
use Rattle.voice_model.proofs.PlacesKept.{same_itself}
use Rattle.voice_blocks.proofs.Apart.{or_left}
use Rattle.fillings.proofs.Counting.{files_of}

abbrev block_in : ℕ → ℕ → BlockPair
block_in file index = record { file = file; index = index }

not_same : (p q : BlockPair) (same : Bool) → same_pair p q ≡ same → p ≢ q → same ≡ false
not_same p q true e differ = absurd (differ (same_pair-true p q e))
not_same p q false e differ = refl

-- ---- the block of the next place

next_multiple : (m block : ℕ) → (m + 1) * block ≡ m * block + block
next_multiple m block = add-mul m 1 block ∙ ap (λ n. m * block + n) (one-mul block)

not_lower : (from block : ℕ) → 1 ≤ block → from / block ≤ (from + 1) / block
not_lower from block some = let below : from / block * block ≤ from = div-mul-le_self from block in le-div (from / block) (from + 1) block (omega (arith, some)) (omega (arith, below))

at_most_next : (from block : ℕ) → 1 ≤ block → (from + 1) / block < from / block + 2
at_most_next from block some =
    let above : from < from / block * block + block = lt-div-mul-add (omega (arith, some)) in
    let once : (from / block + 1) * block ≡ from / block * block + block = next_multiple (from / block) block in
    let twice : (from / block + 1 + 1) * block ≡ (from / block + 1) * block + block = next_multiple (from / block + 1) block in
    let sum : from / block + 1 + 1 ≡ from / block + 2 = omega arith in
    let reach : from + 1 < (from / block + 1 + 1) * block = omega (arith, above, once, twice, some) in
    div_below (from + 1) block (from / block + 2) (omega (arith, some)) (subst (λ m. from + 1 < m * block) sum reach)

-- ---- distinct blocks

-- no place from one on is in an earlier block
no_earlier : (block id from n index : ℕ) → 1 ≤ block → index < from / block → has_pair (pairs_at block (spots_from id from n)) (block_in id index) ≡ false
no_earlier block id from zero index some less = refl
no_earlier block id from (suc n) index some less =
    let later = not_lower from block some in
    let differ : same_pair (block_in id index) (block_in id (from / block)) ≡ false =
    not_same (block_in id index) (block_in id (from / block)) _ refl (λ e. let same : index ≡ from / block = ap (λ (x : BlockPair). x.index) e in absurd (omega (arith, same, less))) in
    ap (λ b. b || has_pair (pairs_at block (spots_from id (from + 1) n)) (block_in id index)) differ
    ∙ no_earlier block id (from + 1) n index some (omega (arith, less, later))

once_more : (there : Bool) (x : BlockPair) (xs : List BlockPair) → length (cond there xs (x ∷ xs)) ≡ cond there 0 1 + length xs
once_more true x xs = omega arith
once_more false x xs = omega arith

-- the block of a place is that of the next one, or comes before it
first_is_new : (block id from n : ℕ) → 1 ≤ block → (next : ℕ) → (from + 1) / block ≡ next → (next ≡ from / block) ⊎ (next ≡ from / block + 1) → cond (has_pair (pairs_at block (spots_from id (from + 1) (suc n))) (block_in id (from / block))) 0 1 + from / block ≡ next
first_is_new block id from n some next e (inl same) =
    let there : has_pair (pairs_at block (spots_from id (from + 1) (suc n))) (block_in id (from / block)) ≡ true =
    or_left (same_pair (block_in id (from / block)) (block_in id ((from + 1) / block))) (has_pair (pairs_at block (spots_from id (from + 1 + 1) n)) (block_in id (from / block)))
    (ap (λ m. same_pair (block_in id (from / block)) (block_in id m)) (e ∙ same) ∙ same_itself (block_in id (from / block))) in
    ap (λ b. cond b 0 1 + from / block) there ∙ omega (arith, same)
first_is_new block id from n some next e (inr more) =
    let gone : has_pair (pairs_at block (spots_from id (from + 1) (suc n))) (block_in id (from / block)) ≡ false = no_earlier block id (from + 1) (suc n) (from / block) some (omega (arith, e, more)) in
    ap (λ b. cond b 0 1 + from / block) gone ∙ omega (arith, more)

one_or_next : (a b : ℕ) → a ≤ b → b < a + 2 → (b ≡ a) ⊎ (b ≡ a + 1)
one_or_next zero zero h k = inl refl
one_or_next zero (suc zero) h k = inr refl
one_or_next zero (suc (suc b)) h k = absurd (omega (arith, k))
one_or_next (suc a) zero h k = absurd (omega (arith, h))
one_or_next (suc a) (suc b) h k = ⊎_elim (λ e. inl (ap suc e)) (λ e. inr (omega (arith, e))) (one_or_next a b (omega (arith, h)) (omega (arith, k)))

blocks_from : (block id from n : ℕ) → 1 ≤ block → length (distinct (pairs_at block (spots_from id from (suc n)))) + from / block ≡ (from + n) / block + 1
blocks_from block id from zero some =
    let same : from + 0 ≡ from = omega arith in
    let quotient : (from + 0) / block ≡ from / block = ap (λ m. m / block) same in
    omega (arith, quotient)
blocks_from block id from (suc n) some =
    let rest = blocks_from block id (from + 1) n some in
    let later = distinct (pairs_at block (spots_from id (from + 1) (suc n))) in
    let p = block_in id (from / block) in
    let first = first_is_new block id from n some ((from + 1) / block) refl (one_or_next (from / block) ((from + 1) / block) (not_lower from block some) (at_most_next from block some)) in
    let there = has_pair-distinct (pairs_at block (spots_from id (from + 1) (suc n))) p in
    let whole : length (cond (has_pair later p) later (p ∷ later)) ≡ cond (has_pair (pairs_at block (spots_from id (from + 1) (suc n))) p) 0 1 + length later =
    once_more (has_pair later p) p later ∙ ap (λ b. cond b 0 1 + length later) there in
    let end : (from + 1 + n) / block ≡ (from + suc n) / block = ap (λ m. m / block) (omega arith) in
    added (length (cond (has_pair later p) later (p ∷ later))) (cond (has_pair (pairs_at block (spots_from id (from + 1) (suc n))) p) 0 1) (length later) (from / block) ((from + 1) / block) ((from + 1 + n) / block) ((from + suc n) / block) whole first rest end
  where
    added : (all front rest here next last end : ℕ) → all ≡ front + rest → front + here ≡ next → rest + next ≡ last + 1 → last ≡ end → all + here ≡ end + 1
    added all front rest here next last end a b c d = omega (arith, a, b, c, d)

-- a recording of n samples has the blocks that n samples take
pub recording_blocks : (block id n : ℕ) → 1 ≤ block → length (distinct (pairs_at block (spots_from id 0 n))) ≡ blocks_for block n
recording_blocks block id zero some =
    let below : (0 + (block - 1)) / block < 1 = div_below (0 + (block - 1)) block 1 (omega (arith, some)) (omega (arith, some, one-mul block)) in
    omega (arith, below)
recording_blocks block id (suc n) some =
    let whole = blocks_from block id 0 n some in
    let none : 0 / block < 1 = div_below 0 block 1 (omega (arith, some)) (omega (arith, some, one-mul block)) in
    let start : (0 + n) / block ≡ n / block = ap (λ m. m / block) (omega arith) in
    let last : blocks_for block (suc n) ≡ n / block + 1 = last_block block n some in
    omega (arith, whole, none, start, last)
  where
    last_block : (block n : ℕ) → 1 ≤ block → (suc n + (block - 1)) / block ≡ n / block + 1
    last_block block n some =
        let below : n / block * block ≤ n = div-mul-le_self n block in
        let above : n < n / block * block + block = lt-div-mul-add (omega (arith, some)) in
        let once : (n / block + 1) * block ≡ n / block * block + block = next_multiple (n / block) block in
        let twice : (n / block + 1 + 1) * block ≡ (n / block + 1) * block + block = next_multiple (n / block + 1) block in
        let least : n / block + 1 ≤ (suc n + (block - 1)) / block = le-div (n / block + 1) (suc n + (block - 1)) block (omega (arith, some)) (omega (arith, below, once, some)) in
        let most : (suc n + (block - 1)) / block < n / block + 1 + 1 = div_below (suc n + (block - 1)) block (n / block + 1 + 1) (omega (arith, some)) (omega (arith, above, once, twice, some)) in
        omega (arith, least, most)

-- ---- files

-- the blocks of a recording are of its file
pub recording_file : (block id from n : ℕ) (q : BlockPair) → has_pair (pairs_at block (spots_from id from n)) q ≡ true → q.file ≡ id
recording_file block id from zero q e = cc
recording_file block id from (suc n) q e = by (same_pair q (block_in id (from / block))) refl (recording_file block id (from + 1) n q) e
  where
    by : (same : Bool) → same_pair q (block_in id (from / block)) ≡ same → (has_pair (pairs_at block (spots_from id (from + 1) n)) q ≡ true → q.file ≡ id) → (same || has_pair (pairs_at block (spots_from id (from + 1) n)) q) ≡ true → q.file ≡ id
    by true e step h = ap (λ (x : BlockPair). x.file) (same_pair-true q (block_in id (from / block)) e)
    by false e step h = step h

pub recording_among : (block id from n m : ℕ) → among (files_of (pairs_at block (spots_from id from n))) m ≡ true → m ≡ id
recording_among block id from zero m e = cc
recording_among block id from (suc n) m e = by (id == m) refl (recording_among block id (from + 1) n m) e
  where
    by : (same : Bool) → (id == m) ≡ same → (among (files_of (pairs_at block (spots_from id (from + 1) n))) m ≡ true → m ≡ id) → (same || among (files_of (pairs_at block (spots_from id (from + 1) n))) m) ≡ true → m ≡ id
    by true e step h = sym (eqb-true id m e)
    by false e step h = step h

one_file : (block id from n : ℕ) → each_once (files_of (pairs_at block (spots_from id from (suc n)))) ≡ id ∷ []
one_file block id from zero = refl
one_file block id from (suc n) =
    ap (λ l. cond (among l id) l (id ∷ l)) (one_file block id (from + 1) n)
    ∙ ap (λ b. cond (b || false) (id ∷ []) (id ∷ id ∷ [])) (eq-eqb id id refl)

pub some_samples : (n : ℕ) → (suc n == 0) ≡ false
some_samples n = by (suc n == 0) refl
  where
    by : (b : Bool) → (suc n == 0) ≡ b → b ≡ false
    by true e = let none = eqb-true (suc n) 0 e in absurd (omega (arith, none))
    by false e = refl

-- a recording has one file, if it has samples
pub recording_files : (block id n : ℕ) → length (each_once (files_of (pairs_at block (spots_from id 0 n)))) ≡ cond (n == 0) 0 1
recording_files block id zero = refl
recording_files block id (suc n) = ap length (one_file block id 0 n) ∙ sym (ap (λ b. cond b 0 1) (some_samples n))
