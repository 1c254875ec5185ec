-- How many blocks of a window no frame holds, as they are brought in.
use Rattle.std.proofs.Common.{◌≡◌, ℕ, zero, suc, ◌+◌, ◌/◌, ◌<◌, ◌≤◌, Bool, true, false, ◌&&◌, ◌||◌, cond, ◌==◌, List, [], ◌∷◌, length, drop, refl, sym, ◌∙◌, ap, ap₂, subst, arith, Option, Some, None, get_or, set}
use Rattle.std.proofs.lemmas.Bool.{eqb-true, eq-eqb, ne_eqb}
use Rattle.std.specs.List.{list_any}
use Rattle.voice_units.specs.declared.pieces.Piece.{Piece}
use Rattle.voice_units.proofs.PiecesOfRopes.{both}
use Rattle.playing.specs.declared.blocks.Block.{Block}
use Rattle.playing.specs.Frames.{resident_at, block_at, holds, is_resident, is_in, is_wanted, missing}
use Rattle.playing.proofs.Pigeons.{same_name, not_true}

abbrev is_not : Bool → ℕ
is_not x = cond x 0 1

-- ---- one block more

-- each stretch is in its own block
pub own_block : (block : ℕ) (t : Piece) → is_in block (block_at block t) t ≡ true
own_block block t = ap₂ (λ a b. a && b) (eq-eqb t.file t.file refl) (eq-eqb (t.from / block) (t.from / block) refl)

-- the stretches are among those of a window
abbrev pub AreAmong : ℕ → List Piece → List Piece → Type 0
AreAmong block window [] = Unit {0}
AreAmong block window (t ∷ ts) = (list_any (is_in block (block_at block t)) window ≡ true) × AreAmong block window ts

or_true : (a b : Bool) → b ≡ true → (a || b) ≡ true
or_true true b h = refl
or_true false b h = h

true_or : (a b : Bool) → a ≡ true → (a || b) ≡ true
true_or true b h = refl
true_or false b h = cc

among_more : (block : ℕ) (w : Piece) (window ts : List Piece) → AreAmong block window ts → AreAmong block (w ∷ window) ts
among_more block w window [] h = tt
among_more block w window (t ∷ ts) h = (or_true (is_in block (block_at block t) w) _ h.0, among_more block w window ts h.1)

among_self : (block : ℕ) (window : List Piece) → AreAmong block window window
among_self block [] = tt
among_self block (w ∷ window) = (true_or (is_in block (block_at block w) w) _ (own_block block w), among_more block w window window (among_self block window))

among_drop : (block : ℕ) (window ts : List Piece) (n : ℕ) → AreAmong block window ts → AreAmong block window (drop n ts)
among_drop block window ts zero h = h
among_drop block window [] (suc n) h = h
among_drop block window (t ∷ ts) (suc n) h = among_drop block window ts n h.1

pub among_rest : (block : ℕ) (window : List Piece) (n : ℕ) → AreAmong block window (drop n window)
among_rest block window n = among_drop block window window n (among_self block window)

-- a write over an element that does not pass a test
any_set : {A : Type 0} (p : A → Bool) (xs : List A) (i : ℕ) (y d : A) → i < length xs → p (get_or xs i d) ≡ false → list_any p (set xs i y) ≡ (list_any p xs || p y)
any_set p [] i y d low h = absurd (omega arith)
any_set p (x ∷ xs) zero y d low h = swap (p x) (p y) (list_any p xs) h
  where
    swap : (a b c : Bool) → a ≡ false → (b || c) ≡ ((a || c) || b)
    swap true b c e = cc
    swap false true true e = refl
    swap false true false e = refl
    swap false false true e = refl
    swap false false false e = refl
any_set p (x ∷ xs) (suc i) y d low h = ap (λ t. p x || t) (any_set p xs i y d (omega arith) h) ∙ assoc (p x) (list_any p xs) (p y)
  where
    assoc : (a b c : Bool) → (a || (b || c)) ≡ ((a || b) || c)
    assoc true b c = refl
    assoc false b c = refl

eqb-sym : (a b : ℕ) (t : Bool) → (a == b) ≡ t → (b == a) ≡ t
eqb-sym a b true h = eq-eqb b a (sym (eqb-true a b h))
eqb-sym a b false h = ne_eqb b a (λ e. no (eq-eqb a b (sym e)) h)
  where
    no : {t : Bool} → t ≡ true → t ≡ false → ⊥
    no x y = cc

holds_is : (block : ℕ) (b : Block) (t : Piece) → holds t.file (t.from / block) (Some b) ≡ is_in block b t
holds_is block b t = ap₂ (λ x y. x && y) (eqb-sym t.file b.file (t.file == b.file) refl) (eqb-sym (t.from / block) b.index (t.from / block == b.index) refl)

-- a frame whose block no stretch of a window wants has not that of a stretch
unheld : (block : ℕ) (window : List Piece) (t : Piece) (o : Option Block) → list_any (is_in block (block_at block t)) window ≡ true → is_wanted block window o ≡ false → holds t.file (t.from / block) o ≡ false
unheld block window t None among h = refl
unheld block window t (Some d) among h = not_true _ (λ e.
    let two = both (d.file == t.file) (d.index == t.from / block) e in
    let same : d ≡ block_at block t = same_name d (block_at block t) (eqb-true d.file t.file two.0) (eqb-true d.index (t.from / block) two.1) in
    no (ap (λ b. list_any (is_in block b) window) same ∙ among) h)
  where
    no : {t : Bool} → t ≡ true → t ≡ false → ⊥
    no x y = cc

-- whether a frame holds the block of a stretch, once one more got into a frame
pub resident_set : (block : ℕ) (window : List Piece) (resident : List (Option Block)) (frame : ℕ) (b : Block) (t : Piece) → frame < length resident → is_wanted block window (resident_at resident frame) ≡ false → list_any (is_in block (block_at block t)) window ≡ true
    → is_resident (set resident frame (Some b)) t.file (t.from / block) ≡ (is_resident resident t.file (t.from / block) || is_in block b t)
resident_set block window resident frame b t low free among =
    any_set (holds t.file (t.from / block)) resident frame (Some b) None low (unheld block window t (resident_at resident frame) among free)
    ∙ ap (λ x. is_resident resident t.file (t.from / block) || x) (holds_is block b t)

-- ---- counting

-- a block that no frame holds is missing, where it is in a window
pub absent_counts : (block : ℕ) (resident : List (Option Block)) (b : Block) (ts : List Piece) → is_resident resident b.file b.index ≡ false → cond (list_any (is_in block b) ts) 1 0 ≤ missing block resident ts
absent_counts block resident b [] none = omega arith
absent_counts block resident b (t ∷ ts) none = either (is_in block b t) refl (absent_counts block resident b ts none)
  where
    by : (x y : Bool) (m : ℕ) → x ≡ false → cond y 1 0 ≤ m → 1 ≤ cond (x || y) 0 1 + m
    by true y m e h = cc
    by false true m e h = omega (arith, h)
    by false false m e h = omega arith

    either : (x : Bool) → is_in block b t ≡ x → cond (list_any (is_in block b) ts) 1 0 ≤ missing block resident ts → cond (x || list_any (is_in block b) ts) 1 0 ≤ cond (is_resident resident t.file (t.from / block) || list_any (is_in block (block_at block t)) ts) 0 1 + missing block resident ts
    either true e rest =
        let two = both (t.file == b.file) (t.from / block == b.index) e in
        let same : block_at block t ≡ b = same_name (block_at block t) b (eqb-true t.file b.file two.0) (eqb-true (t.from / block) b.index two.1) in
        by (is_resident resident t.file (t.from / block)) (list_any (is_in block (block_at block t)) ts) (missing block resident ts) (ap (λ (d : Block). is_resident resident d.file d.index) same ∙ none)
        (subst (λ (d : Block). cond (list_any (is_in block d) ts) 1 0 ≤ missing block resident ts) (sym same) rest)
    either false e rest = omega (arith, rest)

-- once it got into a frame, there is one fewer
pub one_fewer : (block : ℕ) (window : List Piece) (old new : List (Option Block)) (frame : ℕ) (b : Block) (ts : List Piece)
    → frame < length old → new ≡ set old frame (Some b) → is_wanted block window (resident_at old frame) ≡ false → is_resident old b.file b.index ≡ false → AreAmong block window ts
    → missing block new ts + cond (list_any (is_in block b) ts) 1 0 ≤ missing block old ts
one_fewer block window old new frame b [] low is free none among = omega arith
one_fewer block window old new frame b (t ∷ ts) low is free none among = either (is_in block b t) refl (one_fewer block window old new frame b ts low is free none among.1)
  where
    now : is_resident new t.file (t.from / block) ≡ (is_resident old t.file (t.from / block) || is_in block b t)
    now = ap (λ r. is_resident r t.file (t.from / block)) is ∙ resident_set block window old frame b t low free among.0

    by : (was is_now any : Bool) (m n : ℕ) → was ≡ false → is_now ≡ true → m + cond any 1 0 ≤ n → cond (is_now || any) 0 1 + m + 1 ≤ cond (was || any) 0 1 + n
    by true is_now any m n e f h = cc
    by false false any m n e f h = cc
    by false true true m n e f h = omega (arith, h)
    by false true false m n e f h = omega (arith, h)

    either : (x : Bool) → is_in block b t ≡ x → missing block new ts + cond (list_any (is_in block b) ts) 1 0 ≤ missing block old ts
        → cond (is_resident new t.file (t.from / block) || list_any (is_in block (block_at block t)) ts) 0 1 + missing block new ts + cond (x || list_any (is_in block b) ts) 1 0 ≤ cond (is_resident old t.file (t.from / block) || list_any (is_in block (block_at block t)) ts) 0 1 + missing block old ts
    either true e rest =
        let two = both (t.file == b.file) (t.from / block == b.index) e in
        let same : block_at block t ≡ b = same_name (block_at block t) b (eqb-true t.file b.file two.0) (eqb-true (t.from / block) b.index two.1) in
        by (is_resident old t.file (t.from / block)) (is_resident new t.file (t.from / block)) (list_any (is_in block (block_at block t)) ts) (missing block new ts) (missing block old ts)
        (ap (λ (d : Block). is_resident old d.file d.index) same ∙ none)
        (now ∙ or_true (is_resident old t.file (t.from / block)) (is_in block b t) e)
        (subst (λ (d : Block). missing block new ts + cond (list_any (is_in block d) ts) 1 0 ≤ missing block old ts) (sym same) rest)
    either false e rest =
        let kept : is_resident new t.file (t.from / block) ≡ is_resident old t.file (t.from / block) = now ∙ ap (λ x. is_resident old t.file (t.from / block) || x) e ∙ or_false (is_resident old t.file (t.from / block)) in
        let one = ap (λ x. is_not (x || list_any (is_in block (block_at block t)) ts)) kept in
        omega (arith, rest, one)
      where
        or_false : (a : Bool) → (a || false) ≡ a
        or_false true = refl
        or_false false = refl
