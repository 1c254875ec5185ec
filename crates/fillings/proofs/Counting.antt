-- How many distinct blocks, and how many distinct files, lists have one after another.
use Rattle.std.proofs.Common.{◌≡◌, ℕ, ◌+◌, ◌==◌, Bool, true, false, ◌&&◌, ◌||◌, cond, List, [], ◌∷◌, ◌++◌, map, length, refl, sym, ◌∙◌, ap, subst}
use Rattle.std.proofs.lemmas.Bool.{eqb-true, eq-eqb}
use Rattle.std.proofs.lemmas.List.{length-map, map-append}
use Rattle.voice_units.specs.Blocks.{BlockPair, same_pair, has_pair, distinct}
use Rattle.voice_units.proofs.Distinct.{same_pair-true, same_count}
use Rattle.voice_model.specs.State.{among}
use Rattle.voice_model.specs.Changes.{each_once}
use Rattle.voice_model.proofs.KeptByChanges.{same_bool}
use Rattle.voice_model.proofs.PlacesKept.{same_itself}
use Rattle.voice_blocks.proofs.Apart.{either_way, or_left, or_right, has_append, apart_count}

-- ---- blocks

-- blocks that are there already
pub known_count : (ps qs : List BlockPair) → ((q : BlockPair) → has_pair qs q ≡ true → has_pair ps q ≡ true) → (q : BlockPair) → has_pair (ps ++ qs) q ≡ has_pair ps q
known_count ps qs known q = has_append ps qs q ∙ absorbed (has_pair ps q) (has_pair qs q) (known q)
  where
    absorbed : (a b : Bool) → (b ≡ true → a ≡ true) → (a || b) ≡ a
    absorbed true b h = refl
    absorbed false true h = sym (h refl)
    absorbed false false h = refl

-- ---- files

abbrev first_block : ℕ → BlockPair
first_block n = record { file = n; index = 0 }

swapped_number : (a b : ℕ) → (a == b) ≡ (b == a)
swapped_number a b = same_bool (a == b) (b == a) (λ e. eq-eqb b a (sym (eqb-true a b e))) (λ e. eq-eqb a b (sym (eqb-true b a e)))

-- a block is among the first ones of files where it is the first one of one of them
is_first : (ns : List ℕ) (q : BlockPair) → has_pair (map first_block ns) q ≡ (among ns q.file && (q.index == 0))
is_first [] q = refl
is_first (n ∷ ns) q =
    ap (λ b. ((q.file == n) && (q.index == 0)) || b) (is_first ns q)
    ∙ ap (λ b. (b && (q.index == 0)) || (among ns q.file && (q.index == 0))) (swapped_number q.file n)
    ∙ gathered (n == q.file) (among ns q.file) (q.index == 0)
  where
    gathered : (a b c : Bool) → ((a && c) || (b && c)) ≡ ((a || b) && c)
    gathered true true true = refl
    gathered true true false = refl
    gathered true false true = refl
    gathered true false false = refl
    gathered false b c = refl

once_by : (there : Bool) (n : ℕ) (ns : List ℕ) → map first_block (cond there ns (n ∷ ns)) ≡ cond there (map first_block ns) (first_block n ∷ map first_block ns)
once_by true n ns = refl
once_by false n ns = refl

among_first : (ns : List ℕ) (n : ℕ) → has_pair (map first_block ns) (first_block n) ≡ among ns n
among_first ns n = is_first ns (first_block n) ∙ and_true (among ns n)
  where
    and_true : (a : Bool) → (a && true) ≡ a
    and_true true = refl
    and_true false = refl

once_first : (ns : List ℕ) → map first_block (each_once ns) ≡ distinct (map first_block ns)
once_first [] = refl
once_first (n ∷ ns) =
    once_by (among (each_once ns) n) n (each_once ns)
    ∙ ap (λ b. cond b (map first_block (each_once ns)) (first_block n ∷ map first_block (each_once ns))) (sym (among_first (each_once ns) n))
    ∙ ap (λ l. cond (has_pair l (first_block n)) l (first_block n ∷ l)) (once_first ns)

once_length : (ns : List ℕ) → length (each_once ns) ≡ length (distinct (map first_block ns))
once_length ns = sym (length-map (each_once ns) first_block) ∙ ap length (once_first ns)

-- lists with the same numbers have as many distinct ones
same_numbers : (ms ns : List ℕ) → ((n : ℕ) → among ms n ≡ among ns n) → length (each_once ms) ≡ length (each_once ns)
same_numbers ms ns same =
    once_length ms
    ∙ same_count (map first_block ms) (map first_block ns) (λ q. is_first ms q ∙ ap (λ b. b && (q.index == 0)) (same q.file) ∙ sym (is_first ns q))
    ∙ sym (once_length ns)

-- lists without a common number
apart_numbers : (ms ns : List ℕ) → ((n : ℕ) → among ms n ≡ true → among ns n ≡ false) → length (each_once (ms ++ ns)) ≡ length (each_once ms) + length (each_once ns)
apart_numbers ms ns apart =
    once_length (ms ++ ns)
    ∙ ap (λ l. length (distinct l)) (map-append first_block ms ns)
    ∙ apart_count (map first_block ms) (map first_block ns) (λ q h. is_first ns q ∙ none (among ms q.file) (among ns q.file) (q.index == 0) (apart q.file) (sym (is_first ms q) ∙ h))
    ∙ ap (λ n. n + length (distinct (map first_block ns))) (sym (once_length ms))
    ∙ ap (λ n. length (each_once ms) + n) (sym (once_length ns))
  where
    none : (a b c : Bool) → (a ≡ true → b ≡ false) → (a && c) ≡ true → (b && c) ≡ false
    none true b c h e = ap (λ x. x && c) (h refl)
    none false b c h e = cc

-- ---- the files of blocks

abbrev pub files_of : List BlockPair → List ℕ
files_of ps = map (λ pair. pair.file) ps

-- a number among the files of blocks is that of one of the blocks
some_pair : (ps : List BlockPair) (n : ℕ) → among (files_of ps) n ≡ true → (p : BlockPair) × (has_pair ps p ≡ true) × (p.file ≡ n)
some_pair [] n e = cc
some_pair (p ∷ ps) n e =
    either_way (p.file == n) (among (files_of ps) n)
    (λ k. (p, or_left (same_pair p p) (has_pair ps p) (same_itself p), eqb-true p.file n k))
    (λ k. let found = some_pair ps n k in (found.0, or_right (same_pair found.0 p) (has_pair ps found.0) found.1, found.2)) e

pub file_of_pair : (ps : List BlockPair) (p : BlockPair) → has_pair ps p ≡ true → among (files_of ps) p.file ≡ true
file_of_pair [] p e = cc
file_of_pair (q ∷ ps) p e =
    either_way (same_pair p q) (has_pair ps p)
    (λ k. ap (λ b. b || among (files_of ps) p.file) (eq-eqb q.file p.file (ap (λ (x : BlockPair). x.file) (sym (same_pair-true p q k)))))
    (λ k. or_right (q.file == p.file) (among (files_of ps) p.file) (file_of_pair ps p k)) e

file_alike : (ps qs : List BlockPair) → ((q : BlockPair) → has_pair ps q ≡ has_pair qs q) → (n : ℕ) → among (files_of ps) n ≡ true → among (files_of qs) n ≡ true
file_alike ps qs alike n e =
    let found = some_pair ps n e in
    subst (λ m. among (files_of qs) m ≡ true) found.2 (file_of_pair qs found.0 (sym (alike found.0) ∙ found.1))

-- lists with the same blocks have as many distinct files
pub same_files : (ps qs : List BlockPair) → ((q : BlockPair) → has_pair ps q ≡ has_pair qs q) → length (each_once (files_of ps)) ≡ length (each_once (files_of qs))
same_files ps qs alike =
    same_numbers (files_of ps) (files_of qs)
    (λ n. same_bool (among (files_of ps) n) (among (files_of qs) n) (file_alike ps qs alike n) (file_alike qs ps (λ q. sym (alike q)) n))

pub apart_files : (ps qs : List BlockPair) → ((n : ℕ) → among (files_of ps) n ≡ true → among (files_of qs) n ≡ false) → length (each_once (files_of (ps ++ qs))) ≡ length (each_once (files_of ps)) + length (each_once (files_of qs))
apart_files ps qs apart = ap (λ l. length (each_once l)) (map-append (λ (pair : BlockPair). pair.file) ps qs) ∙ apart_numbers (files_of ps) (files_of qs) apart
