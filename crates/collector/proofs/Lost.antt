-- The steps by which ropes lose their last row.
use Rattle.std.proofs.Common.{◌≡◌, ℕ, zero, suc, ◌+◌, ◌-◌, ◌≤◌, ◌<◌, List, [], ◌∷◌, ◌++◌, length, get_or, drop, map, filter, Bool, true, false, ◌&&◌, ◌==◌, nat_lt, cond, Option, Some, refl, sym, ◌∙◌, ap, subst, arith}
use Rattle.std.specs.Prelude.{unwrap_or}
use Rattle.std.proofs.lemmas.List.{drop_all, drop_more}
use Rattle.std.proofs.lemmas.Bool.{eqb-true, eq-eqb, ne_eqb, lt-ltb}
use Rattle.voice_model.specs.declared.calls.Row.{Row}
use Rattle.voice_model.specs.State.{has_row}
use Rattle.interest_table.specs.Table.{rows_of, expired_owners}
use Rattle.rope_table.specs.declared.ropes.Rope.{Rope}
use Rattle.rope_table.specs.Table.{Every, IsInOrder, is_lower, index_of}
use Rattle.rope_table.proofs.InOrder.{split}
use Rattle.std.proofs.lemmas.Bool.{ltb-true}
use Rattle.collector.specs.Due.{once, copies, Rises, ids_by, rows_kept, is_kept, gone_ids, has_only_expired}
use Rattle.collector.proofs.Copies.{copies-append}
use Rattle.collector.proofs.Expired.{rows_split, none_left, gone_split, kept_once, kept_some, loses, ids_that}

-- ---- a row of a rope goes

pub put_left : (b : Bool) (after rest : ℕ) (o : Option ℕ) → (b ≡ true → after ≡ unwrap_or o rest - 1) → unwrap_or (cond b (Some after) o) rest ≡ unwrap_or o rest - once b
put_left true after rest o e = e refl
put_left false after rest o e = omega arith

-- ---- a rope comes last, or not

no_rope : (same kept last : Bool) → (kept && last) ≡ false → once (same && (kept && last)) ≡ 0
no_rope true kept last e = ap once e
no_rope false kept last e = refl

and_no : (b : Bool) → (b && false) ≡ false
and_no true = refl
and_no false = refl

pub none_pushed : (other rope left : ℕ) (kept : Bool) (xs : List ℕ) → 0 < left → copies other xs ≡ copies other xs + once ((rope == other) && (kept && (left == 0)))
none_pushed other rope left kept xs some =
    let none = no_rope (rope == other) kept (left == 0) (ap (λ b. kept && b) (ne_eqb left 0 (λ z. omega (arith, z, some))) ∙ and_no kept) in
    omega (arith, none)

pub not_pushed : (other rope left : ℕ) (kept : Bool) (xs : List ℕ) → kept ≡ false → copies other xs ≡ copies other xs + once ((rope == other) && (kept && (left == 0)))
not_pushed other rope left kept xs e =
    let none = no_rope (rope == other) kept (left == 0) (ap (λ b. b && (left == 0)) e) in
    omega (arith, none)

and_yes : (b : Bool) → (b && true) ≡ b
and_yes true = refl
and_yes false = refl

pub one_pushed : (other rope left : ℕ) (kept : Bool) (xs next : List ℕ) → left ≤ 0 → kept ≡ true → next ≡ xs ++ rope ∷ [] → copies other next ≡ copies other xs + once ((rope == other) && (kept && (left == 0)))
one_pushed other rope left kept xs next none e pushed =
    let all = ap (copies other) pushed ∙ copies-append other xs (rope ∷ []) in
    let same = ap (λ b. once ((rope == other) && (b && (left == 0)))) e ∙ ap (λ b. once ((rope == other) && b)) (eq-eqb left 0 (omega arith)) ∙ ap once (and_yes (rope == other)) in
    omega (arith, all, same)

-- a rope of which so many rows are left
pub same_rope : (rope other rest : ℕ) (kept : ℕ → Bool) (left : ℕ → ℕ) → rest ≡ left rope → once ((rope == other) && (kept rope && (rest == 0))) ≡ once ((rope == other) && (kept other && (left other == 0)))
same_rope rope other rest kept left is = split (rope == other)
    (λ same. ap (λ n. once ((rope == other) && (kept rope && (n == 0)))) is ∙ ap (λ n. once ((rope == other) && (kept n && (left n == 0)))) (eqb-true rope other same))
    (λ apart. ap (λ b. once (b && (kept rope && (rest == 0)))) apart ∙ sym (ap (λ b. once (b && (kept other && (left other == 0)))) apart))

-- ---- all expired rows, one after another

pub left_start : (now id left : ℕ) (rows : List Row) (xs : List ℕ) → left ≡ rows_of id rows → xs ≡ expired_owners now rows → left ≡ rows_of id (rows_kept now rows) + copies id xs
left_start now id left rows xs e is =
    let parts = rows_split now id rows in
    let same = ap (copies id) is in
    omega (arith, e, parts, same)

pub gone_start : (kept : Bool) (left all n : ℕ) → left ≡ all → n ≡ n + once (kept && (nat_lt 0 all && (left == 0)))
gone_start kept left all n e = split (all == 0)
    (λ z. let none = ap (λ m. once (kept && (nat_lt 0 m && (left == 0)))) (eqb-true all 0 z) ∙ ap once (and_no kept) in omega (arith, none))
    (λ some. let none = ap (λ m. once (kept && (nat_lt 0 all && (m == 0)))) e ∙ ap (λ b. once (kept && (nat_lt 0 all && b))) some ∙ ap (λ b. once (kept && b)) (and_no (nat_lt 0 all)) ∙ ap once (and_no kept) in omega (arith, none))

copies_next : (id k x : ℕ) (xs : List ℕ) → k < length xs → x ≡ get_or xs k x → copies id (drop k xs) ≡ once (x == id) + copies id (drop (k + 1) xs)
copies_next id k x xs within is = ap (copies id) (drop_more xs k x within ∙ ap (λ y. y ∷ drop (k + 1) xs) (sym is))

copies_behind : (id k : ℕ) (xs : List ℕ) → copies id (drop k xs) ≤ copies id xs
copies_behind id zero xs = omega arith
copies_behind id (suc k) [] = omega arith
copies_behind id (suc k) (x ∷ xs) = let rest = copies_behind id k xs in omega (arith, rest)

pub left_more : (id k x kept left next : ℕ) (xs : List ℕ) → k < length xs → x ≡ get_or xs k x → left ≡ kept + copies id (drop k xs) → next ≡ left - once (x == id) → next ≡ kept + copies id (drop (k + 1) xs)
left_more id k x kept left next xs within at was is =
    let more = copies_next id k x xs within at in
    omega (arith, more, was, is)

count_more : (kept : Bool) (met : Bool) (start was next left after all : ℕ) → after ≡ left - once met → once met ≤ left → left ≤ all → was ≡ start + once (kept && (nat_lt 0 all && (left == 0))) → next ≡ was + once (met && (kept && (after == 0))) → next ≡ start + once (kept && (nat_lt 0 all && (after == 0)))
count_more kept true start was next left after all is some most h more =
    let none = ap (λ b. once (kept && (nat_lt 0 all && b))) (ne_eqb left 0 (λ z. omega (arith, z, some))) ∙ ap (λ b. once (kept && b)) (and_no (nat_lt 0 all)) ∙ ap once (and_no kept) in
    let one = ap (λ b. once (kept && (b && (after == 0)))) (lt-ltb 0 all (omega (arith, some, most))) in
    omega (arith, h, more, none, one)
count_more kept false start was next left after all is some most h more =
    let same = ap (λ n. once (kept && (nat_lt 0 all && (n == 0)))) (let e : after ≡ left = omega (arith, is) in e) in
    omega (arith, h, more, same)

pub gone_more : (now id k x left after start was next : ℕ) (kept : Bool) (rows : List Row) (xs : List ℕ) → k < length xs → x ≡ get_or xs k x → xs ≡ expired_owners now rows → left ≡ rows_of id (rows_kept now rows) + copies id (drop k xs) → after ≡ left - once (x == id)
    → was ≡ start + once (kept && (nat_lt 0 (rows_of id rows) && (left == 0))) → next ≡ was + once ((x == id) && (kept && (after == 0))) → next ≡ start + once (kept && (nat_lt 0 (rows_of id rows) && (after == 0)))
gone_more now id k x left after start was next kept rows xs within at all before is h more =
    let one = copies_next id k x xs within at in
    let most = copies_behind id k xs in
    let parts = rows_split now id rows in
    let same = ap (copies id) all in
    count_more kept (x == id) start was next left after (rows_of id rows) is (omega (arith, one, before)) (omega (arith, most, parts, same, before)) h more

pub gone_all : (now id k left start was : ℕ) (kept : Bool) (rows : List Row) (xs : List ℕ) → length xs ≤ k → left ≡ rows_of id (rows_kept now rows) + copies id (drop k xs) → was ≡ start + once (kept && (nat_lt 0 (rows_of id rows) && (left == 0)))
    → was ≡ start + once (kept && (nat_lt 0 (rows_of id rows) && has_only_expired now rows id))
gone_all now id k left start was kept rows xs beyond all h =
    let none = ap (copies id) (drop_all k xs beyond) in
    h ∙ ap (λ b. start + once (kept && (nat_lt 0 (rows_of id rows) && b))) (none_left now id left rows (omega (arith, all, none)))

-- ---- the ropes that go, in rising number

ids_cons : (b : Bool) (x : Rope) (xs : List Rope) → map (λ (rope : Rope). rope.id) (cond b (x ∷ xs) xs) ≡ cond b (x.id ∷ map (λ (rope : Rope). rope.id) xs) (map (λ (rope : Rope). rope.id) xs)
ids_cons true x xs = refl
ids_cons false x xs = refl

ids_above : (m : ℕ) (test : Rope → Bool) (rope : Rope) (ropes : List Rope) → m ≤ rope.id → Every (λ other. is_lower rope other ≡ true) ropes → Every (λ y. m ≤ y) (ids_that test ropes)
ids_above m test rope [] le all = tt
ids_above m test rope (r ∷ ropes) le all =
    let rest = ids_above m test rope ropes le all.1 in
    let above = ltb-true rope.id r.id all.0 in
    subst (λ (l : List ℕ). Every (λ y. m ≤ y) l) (sym (ids_cons (test r) r (filter test ropes)))
    (split (test r)
    (λ e. subst (λ b. Every (λ y. m ≤ y) (cond b (r.id ∷ ids_that test ropes) (ids_that test ropes))) (sym e) (omega (arith, le, above), rest))
    (λ e. subst (λ b. Every (λ y. m ≤ y) (cond b (r.id ∷ ids_that test ropes) (ids_that test ropes))) (sym e) rest))

pub ids_rise : (test : Rope → Bool) (ropes : List Rope) → IsInOrder is_lower ropes → Rises (ids_that test ropes)
ids_rise test [] order = tt
ids_rise test (rope ∷ ropes) order =
    let rest = ids_rise test ropes order.1 in
    subst Rises (sym (ids_cons (test rope) rope (filter test ropes)))
    (split (test rope)
    (λ e. subst (λ b. Rises (cond b (rope.id ∷ ids_that test ropes) (ids_that test ropes))) (sym e) (ids_above rope.id test rope ropes (omega arith) order.0, rest))
    (λ e. subst (λ b. Rises (cond b (rope.id ∷ ids_that test ropes) (ids_that test ropes))) (sym e) rest))

-- ropes that are due, and where there is no wait those that lose their last row, are those that go
pub gone_with_lost : (now until : ℕ) (rows : List Row) (ropes : List Rope) (due gone : List ℕ) (id : ℕ) → IsInOrder is_lower ropes → Every (λ rope. rope.kept ≡ has_row rows rope.id) ropes → until ≡ 0 → due ≡ ids_by now (index_of ropes)
    → copies id gone ≡ copies id due + once (is_kept ropes id && (nat_lt 0 (rows_of id rows) && has_only_expired now rows id)) → copies id gone ≡ copies id (gone_ids now until rows ropes)
gone_with_lost now until rows ropes due gone id order kept none is more =
    let parts = gone_split id now until rows ropes in
    let free = ap (λ b. copies id (ids_that (loses b now rows) ropes)) (eq-eqb until 0 none) in
    let lost = kept_once id (has_only_expired now rows) ropes order in
    let some = kept_some id (has_only_expired now rows id) rows ropes kept in
    let first = ap (copies id) is in
    omega (arith, more, parts, free, lost, some, first)

none_lost : (id now : ℕ) (rows : List Row) (ropes : List Rope) → copies id (ids_that (loses false now rows) ropes) ≡ 0
none_lost id now rows [] = refl
none_lost id now rows (rope ∷ ropes) = ap (λ b. copies id (map (λ (r : Rope). r.id) (cond b (rope ∷ filter (loses false now rows) ropes) (filter (loses false now rows) ropes)))) (and_no rope.kept) ∙ none_lost id now rows ropes

pub gone_without : (now until : ℕ) (rows : List Row) (ropes : List Rope) (due : List ℕ) (id : ℕ) → (until ≡ 0 → ⊥) → due ≡ ids_by now (index_of ropes) → copies id due ≡ copies id (gone_ids now until rows ropes)
gone_without now until rows ropes due id some is =
    let parts = gone_split id now until rows ropes in
    let free = ap (λ b. copies id (ids_that (loses b now rows) ropes)) (ne_eqb until 0 some) in
    let lost = none_lost id now rows ropes in
    let first = ap (copies id) is in
    omega (arith, parts, free, lost, first)
