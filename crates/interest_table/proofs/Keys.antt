-- The keys of the rows that go.
use Rattle.std.proofs.Common.{◌≡◌, ℕ, ◌<◌, ◌≤◌, ◌+◌, ◌*◌, ◌-◌, ◌^◌, suc, zero, List, [], ◌∷◌, ◌++◌, map, take, drop, filter, length, fold, ap, ◌∙◌, sym, refl, subst, cond, Bool, true, false, nat_le, get_or, not, ◌&&◌, ◌==◌, Option, arith}
use Rattle.std.proofs.lemmas.List.{append_assoc, append-nil, take-append-drop, map-append, length-append, length-drop}
use Rattle.std.proofs.lemmas.Bool.{lt-leb}
use Rattle.std.proofs.lemmas.List.Sums.{fold-append, fold_more}
use Rattle.std.specs.Prelude.{bytes_eq, Result, Ok, Err, IfOk}
use Rattle.std.specs.List.{list_any}
use Rattle.std.specs.HashSet as bag
use Rattle.voice_model.specs.State.{class_number}
use Rattle.voice_model.specs.Changes.{unlisted_keys}
use Rattle.voice_model.specs.declared.calls.Row.{Row}
use Rattle.interest_table.specs.Inside.{first_keys, kept, entry_of, row_in, AllKept}

-- ---- the number that bytes spell

abbrev pub and_byte : ℕ → ℕ → ℕ
and_byte n b = n * 256 + b

fold_grows : (n : ℕ) (bytes : List ℕ) → n ≤ fold and_byte n bytes
fold_grows n [] = omega arith
fold_grows n (b ∷ bytes) = let rest = fold_grows (n * 256 + b) bytes in omega (arith, rest)

-- the bytes in front spell no more than all of them
spelled_front : (front back bytes : List ℕ) → front ++ back ≡ bytes → fold and_byte 0 front ≤ fold and_byte 0 bytes
spelled_front front back bytes e = subst (λ n. fold and_byte 0 front ≤ n) (sym (fold-append and_byte 0 front back) ∙ ap (fold and_byte 0) e) (fold_grows (fold and_byte 0 front) back)

-- where the number so far is above a limit, so is the whole
pub too_large : (bytes : List ℕ) (i number byte most : ℕ) → i < length bytes → number ≡ fold and_byte 0 (take i bytes) → byte ≡ get_or bytes i 0 → most < number * 256 + byte → false ≡ nat_le (fold and_byte 0 bytes) most
too_large bytes i number byte most within so_far here above =
    let step : fold and_byte 0 (take (i + 1) bytes) ≡ fold and_byte 0 (take i bytes) * 256 + get_or bytes i 0 = fold_more and_byte 0 bytes i 0 within in
    let front = spelled_front (take (i + 1) bytes) (drop (i + 1) bytes) bytes (take-append-drop (i + 1) bytes) in
    sym (lt-leb (fold and_byte 0 bytes) most (omega (arith, step, front, above, so_far, here)))

-- where the number so far has no room for a byte, the whole has 2^64 at least
pub too_long : (bytes : List ℕ) (i number : ℕ) → i < length bytes → number ≡ fold and_byte 0 (take i bytes) → 2 ^ 56 ≤ number → 2 ^ 64 ≤ fold and_byte 0 bytes
too_long bytes i number within so_far large =
    let step : fold and_byte 0 (take (i + 1) bytes) ≡ fold and_byte 0 (take i bytes) * 256 + get_or bytes i 0 = fold_more and_byte 0 bytes i 0 within in
    let front = spelled_front (take (i + 1) bytes) (drop (i + 1) bytes) bytes (take-append-drop (i + 1) bytes) in
    omega (arith, step, front, large, so_far)

-- ---- the rows of a test

taken_front : (row : Row) (rows : List Row) (n m : ℕ) → n ≡ suc m → map (λ (row : Row). row.key) (take n (row ∷ rows)) ≡ row.key ∷ map (λ (row : Row). row.key) (take m rows)
taken_front row rows n m e = ap (λ k. map (λ (row : Row). row.key) (take k (row ∷ rows))) e

push_front : (xs : List (List ℕ)) (x : List ℕ) (ys : List (List ℕ)) → (xs ++ x ∷ []) ++ ys ≡ xs ++ x ∷ ys
push_front xs x ys = append_assoc xs (x ∷ []) ys

-- a key that is put last was the first of those that are left
pub key_taken : (test : Row → Bool) (most : ℕ) (row : Row) (left before : List Row) (keys new : List (List ℕ)) (all : List (List ℕ)) → test row ≡ true → before ≡ row ∷ left → length keys < most → new ≡ keys ++ row.key ∷ [] → length new ≡ length keys + 1 → keys ++ first_keys test (most - length keys) before ≡ all → new ++ first_keys test (most - length new) left ≡ all
key_taken test most row left before keys new all passes is room pushed long so_far =
    let one : most - length keys ≡ suc (most - length new) = omega (arith, long, room) in
    let whole : first_keys test (most - length keys) before ≡ row.key ∷ first_keys test (most - length new) left =
    ap (first_keys test (most - length keys)) is
    ∙ ap (λ b. map (λ (row : Row). row.key) (take (most - length keys) (cond b (row ∷ filter test left) (filter test left)))) passes
    ∙ taken_front row (filter test left) (most - length keys) (most - length new) one in
    ap (λ l. l ++ first_keys test (most - length new) left) pushed
    ∙ push_front keys row.key (first_keys test (most - length new) left)
    ∙ ap (λ l. keys ++ l) (sym whole) ∙ so_far

take_none : {A : Type 0} (n : ℕ) → take {A = A} n [] ≡ []
take_none zero = refl
take_none (suc n) = refl

-- ---- the rows of stamps

pub drop_stamps : (at : ℕ → Option Row) (ss : List ℕ) (i j d : ℕ) (left : List Row) → j ≡ suc i → i < length ss → map (kept at) (drop i ss) ++ left ≡ kept at (get_or ss i d) ∷ (map (kept at) (drop j ss) ++ left)
drop_stamps at ss i j d left is within = from ss i within ∙ ap (λ n. kept at (get_or ss i d) ∷ (map (kept at) (drop n ss) ++ left)) (sym is)
  where
    from : (ss : List ℕ) (i : ℕ) → i < length ss → map (kept at) (drop i ss) ++ left ≡ kept at (get_or ss i d) ∷ (map (kept at) (drop (suc i) ss) ++ left)
    from [] i within = absurd (omega (arith, within))
    from (x ∷ xs) zero within = refl
    from (x ∷ xs) (suc i) within = from xs i (omega (arith, within))

kept_rest : (at : ℕ → Option Row) (ss : List ℕ) (k : ℕ) → AllKept at ss → AllKept at (drop k ss)
kept_rest at [] zero h = tt
kept_rest at [] (suc k) h = tt
kept_rest at (s ∷ ss) zero h = h
kept_rest at (s ∷ ss) (suc k) h = kept_rest at ss k h.1

kept_front : (at : ℕ → Option Row) (run rest : List ℕ) → AllKept at (run ++ rest) → AllKept at run
kept_front at [] rest h = tt
kept_front at (s ∷ ss) rest h = (h.0, kept_front at ss rest h.1)

-- the stamps of a run have rows
kept_run : (at : ℕ → Option Row) (ss run : List ℕ) (k : ℕ) → AllKept at ss → drop k ss ≡ run ++ drop (k + length run) ss → AllKept at run
kept_run at ss run k h is = kept_front at run (drop (k + length run) ss) (subst (AllKept at) is (kept_rest at ss k h))

-- the rows of a run come first
run_first : (at : ℕ → Option Row) (ss run : List ℕ) (k : ℕ) → drop k ss ≡ run ++ drop (k + length run) ss → map (kept at) (drop k ss) ≡ map (kept at) run ++ map (kept at) (drop (k + length run) ss)
run_first at ss run k is = ap (map (kept at)) is ∙ map-append (kept at) run (drop (k + length run) ss)

pub run_within : (ss run rest : List ℕ) (k : ℕ) → k ≤ length ss → drop k ss ≡ run ++ rest → k + length run ≤ length ss
run_within ss run rest k within is =
    let all = ap length is in
    let whole = length-drop k ss in
    let parts = length-append run rest in
    omega (arith, within, all, whole, parts)

pub rows_kept_all : (at : ℕ → Option Row) (ss : List ℕ) → map row_in (map (entry_of at) ss) ≡ map (kept at) ss
rows_kept_all at [] = refl
rows_kept_all at (s ∷ ss) = ap (λ l. kept at s ∷ l) (rows_kept_all at ss)

pub drop_all : (at : ℕ → Option Row) (xs : List ℕ) (k : ℕ) → length xs ≤ k → map (kept at) (drop k xs) ≡ []
drop_all at [] zero h = refl
drop_all at [] (suc k) h = refl
drop_all at (x ∷ xs) zero h = absurd (omega (arith, h))
drop_all at (x ∷ xs) (suc k) h = drop_all at xs k (omega (arith, h))

-- where no row is left, the keys so far are all
pub none_left : (test : Row → Bool) (n : ℕ) (left : List Row) (keys all : List (List ℕ)) → left ≡ [] → keys ++ first_keys test n left ≡ all → keys ≡ all
none_left test n left keys all e so_far = sym (append-nil keys) ∙ ap (λ l. keys ++ map (λ (row : Row). row.key) l) (sym (take_none n)) ∙ ap (λ l. keys ++ first_keys test n l) (sym e) ∙ so_far

-- where no more fit, the keys so far are all
pub none_fit : (test : Row → Bool) (n : ℕ) (left : List Row) (keys all : List (List ℕ)) → n ≡ 0 → keys ++ first_keys test n left ≡ all → keys ≡ all
none_fit test n left keys all e so_far = sym (append-nil keys) ∙ ap (λ k. keys ++ first_keys test k left) (sym e) ∙ so_far

-- the keys once those of a run were put behind them
pub run_taken : (test : Row → Bool) (at : ℕ → Option Row) (ss run : List ℕ) (k : ℕ) (keys new all : List (List ℕ)) → AllKept at ss → drop k ss ≡ run ++ drop (k + length run) ss
    → (AllKept at run → (left : List Row) → new ++ first_keys test (65535 - length new) left ≡ keys ++ first_keys test (65535 - length keys) (map (kept at) run ++ left))
    → keys ++ first_keys test (65535 - length keys) (map (kept at) (drop k ss)) ≡ all → new ++ first_keys test (65535 - length new) (map (kept at) (drop (k + length run) ss)) ≡ all
run_taken test at ss run k keys new all h is pushed so_far =
    pushed (kept_run at ss run k h is) (map (kept at) (drop (k + length run) ss))
    ∙ ap (λ l. keys ++ first_keys test (65535 - length keys) l) (sym (run_first at ss run k is)) ∙ so_far

-- ---- a census

-- a set that was collected from keys has them
pub named_by : {S E : Type 0} (r : Result (bag.HashSet (List ℕ) S) E) (keys : List (List ℕ)) → IfOk r (bag.IsFromIterResult bytes_eq keys) → IfOk r (λ named. (key : List ℕ) → list_any (bytes_eq key) named.keys ≡ list_any (bytes_eq key) keys)
named_by (Ok named) keys h = h.0
named_by (Err e) keys h = h

-- a census drops the same rows as another that names the same keys
pub same_unlisted : (named census : List (List ℕ)) (rows : List Row) → ((key : List ℕ) → list_any (bytes_eq key) named ≡ list_any (bytes_eq key) census) → unlisted_keys rows named ≡ unlisted_keys rows census
same_unlisted named census rows h = λ i. map (λ row. row.key) (take 65535 (filter (λ row. (class_number row.class == 3) && not (h row.key i)) rows))
