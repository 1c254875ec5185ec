-- There is always a frame that may be filled.
use Rattle.std.proofs.Common.{◌≡◌, ◌≢◌, ℕ, zero, suc, ◌+◌, ◌*◌, ◌/◌, ◌<◌, ◌≤◌, Bool, true, false, ◌||◌, cond, ◌==◌, List, [], ◌∷◌, length, refl, sym, ◌∙◌, ap, ap₂, arith, Option, Some, None}
use Rattle.std.proofs.lemmas.Bool.{eqb-true}
use Rattle.std.specs.List.{list_any}
use Rattle.voice_units.specs.declared.pieces.Piece.{Piece}
use Rattle.voice_units.proofs.PiecesOfRopes.{both}
use Rattle.frame_pool.specs.declared.views.Part.{Part}
use Rattle.playing.specs.declared.blocks.Block.{Block}
use Rattle.playing.specs.Frames.{has_frame, is_read, is_in, is_wanted, resident_at, read_by}

-- ---- how many numbers below n pass a test

abbrev pub one : Bool → ℕ
one b = cond b 1 0

pub count_below : (ℕ → Bool) → ℕ → ℕ
count_below p zero = 0
count_below p (suc n) = one (p n) + count_below p n

abbrev pub total : {A : Type 0} → (A → ℕ) → List A → ℕ
total bound [] = 0
total bound (x ∷ xs) = bound x + total bound xs

one-or : (a b : Bool) → one (a || b) ≤ one a + one b
one-or true b = omega arith
one-or false b = omega arith

pub not_true : (b : Bool) → (b ≡ true → ⊥) → b ≡ false
not_true true k = absurd (k refl)
not_true false k = refl

none_counted : (p : ℕ → Bool) (n : ℕ) → ((f : ℕ) → f < n → p f ≡ false) → count_below p n ≡ 0
unfolding count_below
none_counted p zero h = refl
none_counted p (suc n) h = let e = ap one (h n (omega arith)) in let rest = none_counted p n (λ f lt. h f (omega arith)) in omega (arith, e, rest)

all_counted : (p : ℕ → Bool) (n : ℕ) → ((f : ℕ) → f < n → p f ≡ true) → count_below p n ≡ n
unfolding count_below
all_counted p zero h = refl
all_counted p (suc n) h = let e = ap one (h n (omega arith)) in let rest = all_counted p n (λ f lt. h f (omega arith)) in omega (arith, e, rest)

either_counted : (p q : ℕ → Bool) (n : ℕ) → count_below (λ f. p f || q f) n ≤ count_below p n + count_below q n
unfolding count_below
either_counted p q zero = omega arith
either_counted p q (suc n) = let e = one-or (p n) (q n) in let rest = either_counted p q n in omega (arith, e, rest)

-- at most one number passes
once_counted : (p : ℕ → Bool) (n : ℕ) → ((f g : ℕ) → p f ≡ true → p g ≡ true → f ≡ g) → count_below p n ≤ 1
unfolding count_below
once_counted p zero h = omega arith
once_counted p (suc n) h = either (p n) refl (once_counted p n h)
  where
    either : (b : Bool) → p n ≡ b → count_below p n ≤ 1 → one (p n) + count_below p n ≤ 1
    either true e rest =
        let others = none_counted p n (λ f lt. not_true (p f) (λ t. let same : f ≡ n = h f n t e in absurd (omega arith))) in
        let here = ap one e in
        omega (arith, others, here)
    either false e rest = let here = ap one e in omega (arith, rest, here)

-- a test for each of a list
any_counted : {A : Type 0} (t : ℕ → A → Bool) (bound : A → ℕ) (xs : List A) (n : ℕ) → ((x : A) → count_below (λ f. t f x) n ≤ bound x) → count_below (λ f. list_any (t f) xs) n ≤ total bound xs
any_counted t bound [] n h = let e = none_counted (λ f. false) n (λ f lt. refl) in omega (arith, e)
any_counted t bound (x ∷ xs) n h =
    let all = either_counted (λ f. t f x) (λ f. list_any (t f) xs) n in
    let here = h x in
    let rest = any_counted t bound xs n h in
    omega (arith, all, here, rest)

-- ---- frames that lanes read

ones : {A : Type 0} (xs : List A) → total (λ x. 1) xs ≡ length xs
ones [] = refl
ones (x ∷ xs) = let e = ones xs in omega (arith, e)

parts_counted : (n : ℕ) (parts : List Part) → count_below (λ f. has_frame parts f) n ≤ length parts
parts_counted n parts =
    let all = any_counted (λ f (p : Part). p.frame == f) (λ p. 1) parts n (λ p. once_counted (λ f. p.frame == f) n (λ f g e h. sym (eqb-true p.frame f e) ∙ eqb-true p.frame g h)) in
    omega (arith, all, ones parts)

readers_counted : (n : ℕ) (readers : List (List Part)) → count_below (λ f. is_read readers f) n ≤ total (λ parts. length parts) readers
readers_counted n readers = any_counted (λ f (parts : List Part). has_frame parts f) (λ parts. length parts) readers n (parts_counted n)

-- each lane has at most four parts, and one has none
all_few : (readers : List (List Part)) → ((l : ℕ) → length (read_by readers l) ≤ 4) → total (λ parts. length parts) readers ≤ 4 * length readers
all_few [] h = omega arith
all_few (parts ∷ readers) h = let here = h 0 in let rest = all_few readers (λ l. h (suc l)) in omega (arith, here, rest)

one_free : (readers : List (List Part)) (l : ℕ) → ((l : ℕ) → length (read_by readers l) ≤ 4) → l < length readers → length (read_by readers l) ≡ 0 → total (λ parts. length parts) readers + 4 ≤ 4 * length readers
one_free [] l h low none = absurd (omega arith)
one_free (parts ∷ readers) zero h low none = let rest = all_few readers (λ l. h (suc l)) in omega (arith, none, rest)
one_free (parts ∷ readers) (suc l) h low none = let here = h 0 in let rest = one_free readers l (λ l. h (suc l)) (omega arith) none in omega (arith, here, rest)

-- ---- frames that hold a block of a window

abbrev lies_in : ℕ → Option Block → Piece → Bool
lies_in block None s = false
lies_in block (Some b) s = is_in block b s

wanted_is : (block : ℕ) (window : List Piece) (o : Option Block) → is_wanted block window o ≡ list_any (lies_in block o) window
wanted_is block [] None = refl
wanted_is block (s ∷ window) None = wanted_is block window None
wanted_is block window (Some b) = refl

pub block_is : ℕ → ℕ → Block
block_is file index = record { file = file; index = index }

pub same_name : (b d : Block) → b.file ≡ d.file → b.index ≡ d.index → b ≡ d
unfolding block_is
same_name b d e h = ap₂ block_is e h

-- two blocks of one stretch are one
same_block : (block : ℕ) (b d : Block) (s : Piece) → is_in block b s ≡ true → is_in block d s ≡ true → b ≡ d
same_block block b d s h k =
    let x = both (s.file == b.file) (s.from / block == b.index) h in
    let y = both (s.file == d.file) (s.from / block == d.index) k in
    let file : b.file ≡ d.file = sym (eqb-true s.file b.file x.0) ∙ eqb-true s.file d.file y.0 in
    let index : b.index ≡ d.index = sym (eqb-true (s.from / block) b.index x.1) ∙ eqb-true (s.from / block) d.index y.1 in
    same_name b d file index

lies_once : (block : ℕ) (resident : List (Option Block)) (s : Piece) → ((f g : ℕ) (b : Block) → resident_at resident f ≡ Some b → resident_at resident g ≡ Some b → f ≡ g) → (f g : ℕ) (x y : Option Block) → resident_at resident f ≡ x → resident_at resident g ≡ y → lies_in block x s ≡ true → lies_in block y s ≡ true → f ≡ g
lies_once block resident s once f g None y e h p q = cc
lies_once block resident s once f g (Some b) None e h p q = cc
lies_once block resident s once f g (Some b) (Some d) e h p q = once f g b e (h ∙ ap Some (sym (same_block block b d s p q)))

once_there : (block : ℕ) (resident : List (Option Block)) (s : Piece) (n : ℕ) → ((f g : ℕ) (b : Block) → resident_at resident f ≡ Some b → resident_at resident g ≡ Some b → f ≡ g) → count_below (λ f. lies_in block (resident_at resident f) s) n ≤ 1
once_there block resident s n once = once_counted (λ f. lies_in block (resident_at resident f) s) n (λ f g p q. lies_once block resident s once f g (resident_at resident f) (resident_at resident g) refl refl p q)

-- a stretch whose block is in no frame
never_there : (block : ℕ) (resident : List (Option Block)) (s : Piece) (n : ℕ) (b : Block) → is_in block b s ≡ true → ((f : ℕ) → resident_at resident f ≢ Some b) → count_below (λ f. lies_in block (resident_at resident f) s) n ≡ 0
never_there block resident s n b here none = none_counted (λ f. lies_in block (resident_at resident f) s) n (λ f lt. not_true (lies_in block (resident_at resident f) s) (λ t. is_there f (resident_at resident f) refl t))
  where
    is_there : (f : ℕ) (o : Option Block) → resident_at resident f ≡ o → lies_in block o s ≡ true → ⊥
    is_there f None e t = cc
    is_there f (Some d) e t = none f (e ∙ ap Some (same_block block d b s t here))

wanted_counted : (block : ℕ) (resident : List (Option Block)) (window : List Piece) (n : ℕ) → ((f g : ℕ) (b : Block) → resident_at resident f ≡ Some b → resident_at resident g ≡ Some b → f ≡ g) → count_below (λ f. list_any (lies_in block (resident_at resident f)) window) n ≤ length window
wanted_counted block resident window n once =
    let all = any_counted (λ f s. lies_in block (resident_at resident f) s) (λ s. 1) window n (λ s. once_there block resident s n once) in
    omega (arith, all, ones window)

fewer_wanted : (block : ℕ) (resident : List (Option Block)) (window : List Piece) (n : ℕ) (b : Block) → ((f g : ℕ) (b : Block) → resident_at resident f ≡ Some b → resident_at resident g ≡ Some b → f ≡ g) → list_any (is_in block b) window ≡ true → ((f : ℕ) → resident_at resident f ≢ Some b) → count_below (λ f. list_any (lies_in block (resident_at resident f)) window) n + 1 ≤ length window
fewer_wanted block resident [] n b once some none = cc
fewer_wanted block resident (s ∷ window) n b once some none = either (is_in block b s) refl some (λ k. fewer_wanted block resident window n b once k none)
  where
    both_counted : count_below (λ f. list_any (lies_in block (resident_at resident f)) (s ∷ window)) n ≤ count_below (λ f. lies_in block (resident_at resident f) s) n + count_below (λ f. list_any (lies_in block (resident_at resident f)) window) n
    both_counted = either_counted (λ f. lies_in block (resident_at resident f) s) (λ f. list_any (lies_in block (resident_at resident f)) window) n

    either : (t : Bool) → is_in block b s ≡ t → (t || list_any (is_in block b) window) ≡ true → (list_any (is_in block b) window ≡ true → count_below (λ f. list_any (lies_in block (resident_at resident f)) window) n + 1 ≤ length window) → count_below (λ f. list_any (lies_in block (resident_at resident f)) (s ∷ window)) n + 1 ≤ length (s ∷ window)
    either true e h rest =
        let here = never_there block resident s n b e none in
        let others = wanted_counted block resident window n once in
        omega (arith, both_counted, here, others)
    either false e h rest =
        let here = once_there block resident s n once in
        let others = rest h in
        omega (arith, both_counted, here, others)

-- what is known as each frame is read or wanted, which can't be
pub some_spare : (block : ℕ) (resident : List (Option Block)) (readers : List (List Part)) (window : List Piece) (l n : ℕ) (b : Block)
    → length resident ≡ 4 * n → length readers ≡ n → ((l : ℕ) → length (read_by readers l) ≤ 4) → l < n → length (read_by readers l) ≡ 0
    → ((f g : ℕ) (b : Block) → resident_at resident f ≡ Some b → resident_at resident g ≡ Some b → f ≡ g)
    → length window ≤ 4 → list_any (is_in block b) window ≡ true → ((f : ℕ) → resident_at resident f ≢ Some b)
    → ((f : ℕ) → f < length resident → (is_read readers f || is_wanted block window (resident_at resident f)) ≡ true) → ⊥
some_spare block resident readers window l n b frames lanes few low free once short some none all =
    let each = all_counted (λ f. is_read readers f || list_any (lies_in block (resident_at resident f)) window) (length resident) (λ f lt. ap (λ t. is_read readers f || t) (sym (wanted_is block window (resident_at resident f))) ∙ all f lt) in
    let both = either_counted (λ f. is_read readers f) (λ f. list_any (lies_in block (resident_at resident f)) window) (length resident) in
    let read = readers_counted (length resident) readers in
    let most = one_free readers l few (omega arith) free in
    let wanted = fewer_wanted block resident window (length resident) b once some none in
    omega (arith, each, both, read, most, wanted)
