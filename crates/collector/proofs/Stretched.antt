-- The blocks of pieces in normal form, counted piece by piece, are their stretches.
use Rattle.std.proofs.Common.{◌≡◌, ℕ, zero, suc, ◌+◌, ◌-◌, ◌*◌, ◌/◌, ◌%◌, ◌<◌, ◌≤◌, List, [], ◌∷◌, ◌++◌, length, take, get_or, Bool, true, false, ◌&&◌, not, cond, ◌==◌, refl, sym, ◌∙◌, ap, subst, arith}
use Rattle.std.proofs.Math.Nat.{mod-add-div', mod-lt}
use Rattle.std.proofs.lemmas.Nat.{div-mul-add}
use Rattle.std.proofs.lemmas.Bool.{eqb-true, eqb-false, eq-eqb, ne_eqb}
use Rattle.std.proofs.lemmas.List.{take_more}
use Rattle.voice_units.specs.declared.Piece.{Piece}
use Rattle.voice_units.specs.Spots.{Spot, spots_from, spots_in, spots_of, comes_before, lone, longer, in_front, runs, begins_block, stretches, IsContinued, IsNormal}
use Rattle.voice_units.proofs.Runs.{div_grows}
use Rattle.rope_table.proofs.InOrder.{split}

-- how many blocks pieces have, counted piece by piece
abbrev pub spans : ℕ → List Piece → ℕ
spans block [] = 0
spans block (p ∷ ps) = ((p.from + p.len - 1) / block + 1 - p.from / block) + spans block ps

spans_last : (block : ℕ) (ps : List Piece) (p : Piece) → spans block (ps ++ p ∷ []) ≡ spans block ps + ((p.from + p.len - 1) / block + 1 - p.from / block)
spans_last block [] p = omega arith
spans_last block (r ∷ ps) p = let rest = spans_last block ps p in omega (arith, rest)

pub spans_more : (block : ℕ) (ps : List Piece) (k : ℕ) (piece : Piece) → k < length ps → piece ≡ get_or ps k piece → spans block (take (k + 1) ps) ≡ spans block (take k ps) + ((piece.from + piece.len - 1) / block + 1 - piece.from / block)
spans_more block ps k piece within is = ap (spans block) (take_more ps k piece within ∙ ap (λ p. take k ps ++ p ∷ []) (sym is)) ∙ spans_last block (take k ps) piece

-- ---- where the first run begins

-- the first run begins at this place
record Begins (s : Spot) (ps : List Piece) : Type 0 where
  first : Piece
  rest : List Piece
  whole : ps ≡ first ∷ rest
  file : first.file ≡ s.file
  from : first.from ≡ s.place

begins_either : (b : Bool) (s : Spot) (p : Piece) (ps : List Piece) → Begins s (cond b (longer s p ∷ ps) (lone s ∷ p ∷ ps))
begins_either true s p ps = record { first = longer s p; rest = ps; whole = refl; file = refl; from = refl }
begins_either false s p ps = record { first = lone s; rest = p ∷ ps; whole = refl; file = refl; from = refl }

begins : (cut : ℕ → Bool) (s : Spot) (ps : List Piece) → Begins s (in_front cut s ps)
begins cut s [] = record { first = lone s; rest = []; whole = refl; file = refl; from = refl }
begins cut s (p ∷ ps) = begins_either (comes_before s p && not (cut p.from)) s p ps

-- whether a place and the next one are of one run
abbrev is_joined : (ℕ → Bool) → Spot → Spot → Bool
is_joined cut x s = ((x.file == s.file) && (x.place + 1 == s.place)) && not (cut s.place)

count_either : (b : Bool) (x y p : Piece) (ps : List Piece) → length (cond b (x ∷ ps) (y ∷ p ∷ ps)) ≡ cond b 0 1 + suc (length ps)
count_either true x y p ps = omega arith
count_either false x y p ps = omega arith

same_join : (cut : ℕ → Bool) (x s : Spot) (p : Piece) → p.file ≡ s.file → p.from ≡ s.place → (comes_before x p && not (cut p.from)) ≡ is_joined cut x s
same_join cut x s p e f = ap (λ file. ((x.file == file) && (x.place + 1 == p.from)) && not (cut p.from)) e ∙ ap (λ from. ((x.file == s.file) && (x.place + 1 == from)) && not (cut from)) f

count_begun : (cut : ℕ → Bool) (x s : Spot) (ps : List Piece) → Begins s ps → length (in_front cut x ps) ≡ cond (is_joined cut x s) 0 1 + length ps
count_begun cut x s ps b =
    ap (λ l. length (in_front cut x l)) b.whole
    ∙ count_either (comes_before x b.first && not (cut b.first.from)) (longer x b.first) (lone x) b.first b.rest
    ∙ ap (λ j. cond j 0 1 + suc (length b.rest)) (same_join cut x s b.first b.file b.from)
    ∙ ap (λ l. cond (is_joined cut x s) 0 1 + length l) (sym b.whole)

count_two : (cut : ℕ → Bool) (x s : Spot) (ss : List Spot) → length (runs cut (x ∷ s ∷ ss)) ≡ cond (is_joined cut x s) 0 1 + length (runs cut (s ∷ ss))
count_two cut x s ss = count_begun cut x s (runs cut (s ∷ ss)) (begins cut s (runs cut ss))

-- ---- blocks

over_end : (r q b n : ℕ) → r + 1 ≡ b → r + q * b ≡ n → (q + 1) * b + 0 ≡ n + 1
over_end r q b n e f = omega (arith, e, f)

within : (r q b n : ℕ) → r + q * b ≡ n → q * b + (r + 1) ≡ n + 1
within r q b n f = omega (arith, f)

rest_is : (r q p b n k : ℕ) → r + q * b ≡ n → q ≡ p → p * b + k ≡ n → r ≡ k
rest_is r q p b n k e f g = let same = ap (λ m. m * b) f in omega (arith, e, same, g)

-- the next place is of the next block where a block begins there
next_block : (b n : ℕ) → 0 < b → (n + 1) / b ≡ n / b + cond ((n + 1) % b == 0) 1 0
next_block b n some =
    let whole = mod-add-div' n b in
    let also = mod-add-div' (n + 1) b in
    let less = mod-lt n some in
    split (n % b + 1 == b)
    (λ e.
    let is = over_end (n % b) (n / b) b n (eqb-true (n % b + 1) b e) whole in
    let over : (n + 1) / b ≡ n / b + 1 = ap (λ k. k / b) (sym is) ∙ div-mul-add (n / b + 1) b 0 some in
    let none = rest_is ((n + 1) % b) ((n + 1) / b) (n / b + 1) b (n + 1) 0 also over is in
    over ∙ ap (λ t. n / b + cond t 1 0) (sym (eq-eqb ((n + 1) % b) 0 none)))
    (λ e.
    let is = within (n % b) (n / b) b n whole in
    let no = eqb-false (n % b + 1) b e in
    let short : n % b + 1 < b = omega (arith, no, less) in
    let over : (n + 1) / b ≡ n / b = ap (λ k. k / b) (sym is) ∙ div-mul-add (n / b) b (n % b + 1) short in
    let left = rest_is ((n + 1) % b) ((n + 1) / b) (n / b) b (n + 1) (n % b + 1) also over is in
    let test : ((n + 1) % b == 0) ≡ false = ne_eqb ((n + 1) % b) 0 (λ z. omega (arith, z, left)) in
    let plain = ap (λ t. n / b + cond t 1 0) test in
    omega (arith, over, plain))

-- ---- one piece

-- a piece ends before these places
abbrev IsApart : ℕ → ℕ → List Spot → Type 0
IsApart file place [] = Unit {0}
IsApart file place (t ∷ ts) = ((file == t.file) && (place + 1 == t.place)) ≡ false

count_last : (block file place : ℕ) (rest : List Spot) → IsApart file place rest → length (stretches block (record { file = file; place = place } ∷ rest)) ≡ 1 + length (stretches block rest)
count_last block file place [] h = refl
count_last block file place (t ∷ ts) h =
    count_two (begins_block block) (record { file = file; place = place }) t ts
    ∙ ap (λ b. cond (b && not (begins_block block t.place)) 0 1 + length (stretches block (t ∷ ts))) h

joined_in_file : (block file place : ℕ) → ◌≡◌ {A = ℕ} (cond (is_joined (begins_block block) (record { file = file; place = place }) (record { file = file; place = place + 1 })) 0 1) (cond ((place + 1) % block == 0) 1 0)
joined_in_file block file place =
    ap (λ b. cond ((b && (place + 1 == place + 1)) && not (begins_block block (place + 1))) 0 1) (eq-eqb file file refl)
    ∙ ap (λ b. cond (b && not (begins_block block (place + 1))) 0 1) (eq-eqb (place + 1) (place + 1) refl)
    ∙ turned ((place + 1) % block == 0)
  where
    turned : (b : Bool) → ◌≡◌ {A = ℕ} (cond (not b) 0 1) (cond b 1 0)
    turned true = refl
    turned false = refl

count_run : (block file from m : ℕ) (rest : List Spot) → 0 < block → IsApart file (from + m) rest → length (stretches block (spots_from file from (suc m) ++ rest)) + from / block ≡ (from + m) / block + 1 + length (stretches block rest)
count_run block file from zero rest some apart =
    let same : from + 0 ≡ from = omega arith in
    let one = count_last block file from rest (subst (λ n. IsApart file n rest) same apart) in
    let end = ap (λ n. n / block) same in
    omega (arith, one, end)
count_run block file from (suc m) rest some apart =
    let same : from + suc m ≡ from + 1 + m = omega arith in
    let more = count_run block file (from + 1) m rest some (subst (λ n. IsApart file n rest) same apart) in
    let first = count_two (begins_block block) (record { file = file; place = from }) (record { file = file; place = from + 1 }) (spots_from file (from + 1 + 1) m ++ rest) in
    let joined = joined_in_file block file from in
    let next = next_block block from some in
    let end = ap (λ n. n / block) same in
    omega (arith, more, first, joined, next, end)

-- ---- pieces in normal form

not_both : (a b : Bool) → (a ≡ true → b ≡ true → ⊥) → (a && b) ≡ false
not_both true true h = absurd (h refl refl)
not_both true false h = refl
not_both false b h = refl

-- a piece is not continued by the next one
apart_from_next : (p q : Piece) (ps : List Piece) → 1 ≤ p.len → 1 ≤ q.len → ¬ IsContinued p q → IsApart p.file (p.from + (p.len - 1)) (spots_of (q ∷ ps))
apart_from_next p q ps some long not_continued =
    let one : suc (q.len - 1) ≡ q.len = omega (arith, long) in
    subst (λ n. IsApart p.file (p.from + (p.len - 1)) (spots_from q.file q.from n ++ spots_of ps)) one
    (not_both (p.file == q.file) (p.from + (p.len - 1) + 1 == q.from)
    (λ e f. not_continued (eqb-true p.file q.file e, let at = eqb-true (p.from + (p.len - 1) + 1) q.from f in omega (arith, at, some))))

count_piece : (block : ℕ) (p : Piece) (rest : List Spot) → 0 < block → 1 ≤ p.len → IsApart p.file (p.from + (p.len - 1)) rest → length (stretches block (spots_in p ++ rest)) ≡ ((p.from + p.len - 1) / block + 1 - p.from / block) + length (stretches block rest)
count_piece block p rest some long apart =
    let one : suc (p.len - 1) ≡ p.len = omega (arith, long) in
    let run = count_run block p.file p.from (p.len - 1) rest some apart in
    let whole = ap (λ n. length (stretches block (spots_from p.file p.from n ++ rest))) one in
    let same : p.from + (p.len - 1) ≡ p.from + p.len - 1 = omega (arith, long) in
    let end = ap (λ n. n / block) same in
    let grows = div_grows p.from (p.from + (p.len - 1)) block some (omega arith) in
    omega (arith, run, whole, end, grows)

first_long : (p : Piece) (ps : List Piece) → IsNormal (p ∷ ps) → 1 ≤ p.len
first_long p [] normal = normal
first_long p (q ∷ ps) normal = normal.0

pub spans_stretches : (block : ℕ) (ps : List Piece) → 0 < block → IsNormal ps → spans block ps ≡ length (stretches block (spots_of ps))
spans_stretches block [] some normal = refl
spans_stretches block (p ∷ []) some normal = let one = count_piece block p [] some normal tt in omega (arith, one)
spans_stretches block (p ∷ q ∷ ps) some normal =
    let rest = spans_stretches block (q ∷ ps) some normal.2 in
    let one = count_piece block p (spots_of (q ∷ ps)) some normal.0 (apart_from_next p q ps normal.0 (first_long q ps normal.2) normal.1) in
    omega (arith, rest, one)
