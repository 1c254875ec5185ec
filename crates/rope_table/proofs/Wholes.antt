-- The parts of the table still tell of the same ropes as one of them comes, goes or changes.
use Rattle.std.proofs.Common.{◌≡◌, ℕ, suc, ◌+◌, ◌%◌, ◌<◌, ◌≤◌, List, [], ◌∷◌, ◌++◌, length, map, filter, Bool, true, false, not, ◌||◌, ◌==◌, nat_lt, cond, Some, None, refl, sym, ◌∙◌, ap, subst, arith}
use Rattle.std.proofs.lemmas.Bool.{ne_eqb, lt-ltb}
use Rattle.std.proofs.lemmas.List.Folds.{list_any-append}
use mathlib.Core.Bool.{beq}
use Rattle.voice_units.specs.declared.Piece.{Piece}
use Rattle.voice_units.specs.Spots.{spots_of}
use Rattle.voice_units.specs.Blocks.{BlockPair, pairs_at, has_pair, same_pair, distinct}
use Rattle.rope_table.specs.declared.ropes.Rope.{Rope}
use Rattle.rope_table.specs.declared.dues.Due.{Due}
use Rattle.rope_table.specs.Table.{Counts, is_sooner, is_lower, Every, IsInOrder, rope_of, with_rope, without_rope, with_due, due_of, due_at, index_of, uses_by, uses_in, uses_counted, live_counted, unused, pieces_in, pairs_in}
use Rattle.rope_table.specs.Inside.{Ropes, Dues, Uses, IsWhole, seen}
use Rattle.rope_table.proofs.InOrder.{split, every_put, in_order-put, Apart}
use Rattle.rope_table.proofs.ById.{changed, gone, lower_through}
use Rattle.rope_table.proofs.Blocks.{or_left, or_right, same_pair-refl}
use Rattle.rope_table.proofs.Edited.{as_put, put_again, id_of, uses_with, index_with, index_of-with, length-with, apart_from, dues_apart, every_without, in_order-without}

-- the parts tell of these ropes
pub make_whole : (r : Ropes) (d : Dues) (u : Uses) (block : ℕ) (ropes : List Rope) → u.block ≡ block → r.ropes ≡ ropes → IsInOrder is_lower ropes → Every (λ rope. rope.last ≤ 3) ropes
    → ((q : BlockPair) → uses_in block (pieces_in ropes) q ≤ uses_counted u.counts q) → block % 8 ≡ 0 → 8 ≤ block → block ≤ 8192 → d.dues ≡ index_of ropes → length ropes ≤ d.room → ((q : BlockPair) → live_counted u.counts q ≡ uses_in block (pieces_in ropes) q) → IsWhole r d u
make_whole r d u block ropes same is order classes covers words least most ordered room live = record {
  table = record {
    rising = subst (λ (l : List Rope). IsInOrder is_lower l) (sym is) order;
    classes = subst (λ (l : List Rope). Every (λ rope. rope.last ≤ 3) l) (sym is) classes;
    covers = λ q. subst (λ n. uses_in n (pieces_in r.ropes) q ≤ uses_counted u.counts q) (sym same) (subst (λ (l : List Rope). uses_in block (pieces_in l) q ≤ uses_counted u.counts q) (sym is) (covers q));
    words = ap (λ n. n % 8) same ∙ words;
    least = subst (λ n. 8 ≤ n) (sym same) least;
    most = subst (λ n. n ≤ 8192) (sym same) most;
  };
  live = λ q. subst (λ n. live_counted u.counts q ≡ uses_in n (pieces_in r.ropes) q) (sym same) (subst (λ (l : List Rope). live_counted u.counts q ≡ uses_in block (pieces_in l) q) (sym is) (live q));
  ordered = ordered ∙ ap index_of (sym is);
  room = subst (λ (l : List Rope). length l ≤ d.room) (sym is) room;
}

pub apart_now : (due : Due) (ropes : List Rope) (dues : List Due) → dues ≡ index_of ropes → rope_of ropes due.id ≡ None → Apart is_sooner due dues
apart_now due ropes dues is none = subst (λ (l : List Due). Apart is_sooner due l) (sym is) (dues_apart due ropes none)

-- ---- a rope comes

pub whole_added : (r r' : Ropes) (d d' : Dues) (u u' : Uses) (rope : Rope) → IsWhole r d u → rope_of r.ropes rope.id ≡ None → rope.last ≤ 3 → rope.kept ≡ false
    → r'.ropes ≡ with_rope rope r.ropes → d'.dues ≡ with_due (due_of rope) d.dues → length r.ropes < d'.room → u'.block ≡ u.block
    → ((q : BlockPair) → uses_counted u'.counts q ≡ uses_counted u.counts q + uses_by u.block rope.pieces q) → ((q : BlockPair) → live_counted u'.counts q ≡ live_counted u.counts q + uses_by u.block rope.pieces q) → IsWhole r' d' u'
whole_added r r' d d' u u' rope h none class kept is dues room block uses live =
    make_whole r' d' u' u.block (with_rope rope r.ropes) block is
    (in_order-put is_lower lower_through rope r.ropes (apart_from rope r.ropes none) h.table.rising)
    (every_put (λ rope. rope.last ≤ 3) is_lower rope r.ropes class h.table.classes)
    (λ q. let all = uses_with u.block q rope r.ropes in let was = h.table.covers q in let now = uses q in omega (arith, all, was, now))
    h.table.words h.table.least h.table.most
    (dues ∙ ap (with_due (due_of rope)) h.ordered ∙ sym (ap (λ b. cond b (index_of r.ropes) (with_due (due_of rope) (index_of r.ropes))) kept) ∙ sym (index_of-with rope r.ropes none))
    (let more = length-with rope r.ropes in omega (arith, more, room))
    (λ q. let all = uses_with u.block q rope r.ropes in let was = h.live q in let now = live q in omega (arith, all, was, now))

-- ---- the rope of a number among the others

module _ (id : ℕ) (ropes : List Rope) (rope : Rope) (order : IsInOrder is_lower ropes) (found : rope_of ropes id ≡ Some rope) where
  pub not_among : rope_of (without_rope id ropes) rope.id ≡ None
  not_among = ap (rope_of (without_rope id ropes)) (id_of id ropes rope found) ∙ gone id ropes

  pub uses_split : (block : ℕ) (q : BlockPair) → uses_in block (pieces_in ropes) q ≡ uses_by block rope.pieces q + uses_in block (pieces_in (without_rope id ropes)) q
  uses_split block q = ap (λ l. uses_in block (pieces_in l) q) (as_put id ropes rope order found) ∙ uses_with block q rope (without_rope id ropes)

  pub index_split : index_of ropes ≡ index_with rope (index_of (without_rope id ropes))
  index_split = ap index_of (as_put id ropes rope order found) ∙ index_of-with rope (without_rope id ropes) not_among

  pub one_more : length ropes ≡ suc (length (without_rope id ropes))
  one_more = ap length (as_put id ropes rope order found) ∙ length-with rope (without_rope id ropes)

  pub index_of_kept : rope.kept ≡ true → index_of ropes ≡ index_of (without_rope id ropes)
  index_of_kept e = index_split ∙ ap (λ b. cond b (index_of (without_rope id ropes)) (with_due (due_of rope) (index_of (without_rope id ropes)))) e

  pub index_of_due : rope.kept ≡ false → index_of ropes ≡ with_due (due_of rope) (index_of (without_rope id ropes))
  index_of_due e = index_split ∙ ap (λ b. cond b (index_of (without_rope id ropes)) (with_due (due_of rope) (index_of (without_rope id ropes)))) e

pub class_of : (id : ℕ) (ropes : List Rope) (rope : Rope) → rope_of ropes id ≡ Some rope → Every (λ rope. rope.last ≤ 3) ropes → rope.last ≤ 3
class_of id [] rope found all = cc
class_of id (r ∷ ropes) rope found all = split (r.id == id)
    (λ e. let same : r ≡ rope = cc (ap (λ b. cond b (Some r) (rope_of ropes id)) e) in subst (λ (q : Rope). q.last ≤ 3) same all.0)
    (λ e. class_of id ropes rope (sym (ap (λ b. cond b (Some r) (rope_of ropes id)) e) ∙ found) all.1)

-- ---- a rope changes

pub whole_changed : (r r' : Ropes) (d d' : Dues) (u : Uses) (id : ℕ) (g : Rope → Rope) (rope : Rope) → IsWhole r d u → rope_of r.ropes id ≡ Some rope → (g rope).id ≡ id → (g rope).pieces ≡ rope.pieces → (g rope).last ≤ 3
    → r'.ropes ≡ map (changed id g) r.ropes → d'.dues ≡ index_with (g rope) (index_of (without_rope id r.ropes)) → d.room ≤ d'.room → IsWhole r' d' u
whole_changed r r' d d' u id g rope h found named same class is dues room =
    let rest = without_rope id r.ropes in
    let none : rope_of rest (g rope).id ≡ None = ap (rope_of rest) named ∙ gone id r.ropes in
    make_whole r' d' u u.block (with_rope (g rope) rest) refl (is ∙ put_again id g r.ropes rope h.table.rising found named)
    (in_order-put is_lower lower_through (g rope) rest (apart_from (g rope) rest none) (in_order-without id r.ropes h.table.rising))
    (every_put (λ rope. rope.last ≤ 3) is_lower (g rope) rest class (every_without (λ rope. rope.last ≤ 3) id r.ropes h.table.classes))
    (λ q. let all = uses_with u.block q (g rope) rest in let was = h.table.covers q in let parts = uses_split id r.ropes rope h.table.rising found u.block q in let one = ap (λ ps. uses_by u.block ps q) same in omega (arith, all, was, parts, one))
    h.table.words h.table.least h.table.most
    (dues ∙ sym (index_of-with (g rope) rest none))
    (let more = length-with (g rope) rest in let was = one_more id r.ropes rope h.table.rising found in omega (arith, more, was, h.room, room))
    (λ q. let all = uses_with u.block q (g rope) rest in let was = h.live q in let parts = uses_split id r.ropes rope h.table.rising found u.block q in let one = ap (λ ps. uses_by u.block ps q) same in omega (arith, all, was, parts, one))

-- the held passages are counted as before
pub counts_added : (r r' : Ropes) (d d' : Dues) (u u' : Uses) (rope : Rope) (held : List (List Piece)) → r'.ropes ≡ with_rope rope r.ropes → u'.block ≡ u.block
    → ((q : BlockPair) → uses_counted u'.counts q ≡ uses_counted u.counts q + uses_by u.block rope.pieces q) → Counts (seen r d u) held → Counts (seen r' d' u') held
counts_added r r' d d' u u' rope held is block uses h = λ q.
    let now = uses q in
    let was = h q in
    let live : uses_in u'.block (pieces_in r'.ropes) q ≡ uses_by u.block rope.pieces q + uses_in u.block (pieces_in r.ropes) q = ap (λ n. uses_in n (pieces_in r'.ropes) q) block ∙ ap (λ l. uses_in u.block (pieces_in l) q) is ∙ uses_with u.block q rope r.ropes in
    let rest : uses_in u'.block held q ≡ uses_in u.block held q = ap (λ n. uses_in n held q) block in
    omega (arith, now, was, live, rest)

-- ---- a rope goes

pub counts_without : (r r' : Ropes) (d d' : Dues) (u u' : Uses) (id : ℕ) (rope : Rope) (held : List (List Piece)) → IsInOrder is_lower r.ropes → rope_of r.ropes id ≡ Some rope → r'.ropes ≡ without_rope id r.ropes → u'.block ≡ u.block
    → ((q : BlockPair) → uses_counted u'.counts q + uses_by u.block rope.pieces q ≡ uses_counted u.counts q) → Counts (seen r d u) held → Counts (seen r' d' u') held
counts_without r r' d d' u u' id rope held order found is block uses h = λ q.
    let now = uses q in
    let was = h q in
    let live : uses_in u'.block (pieces_in r'.ropes) q ≡ uses_in u.block (pieces_in (without_rope id r.ropes)) q = ap (λ n. uses_in n (pieces_in r'.ropes) q) block ∙ ap (λ l. uses_in u.block (pieces_in l) q) is in
    let parts = uses_split id r.ropes rope order found u.block q in
    let rest : uses_in u'.block held q ≡ uses_in u.block held q = ap (λ n. uses_in n held q) block in
    omega (arith, now, was, live, rest, parts)

pub whole_without : (r r' : Ropes) (d d' : Dues) (u u' : Uses) (id : ℕ) (rope : Rope) → IsWhole r d u → rope_of r.ropes id ≡ Some rope
    → r'.ropes ≡ without_rope id r.ropes → d'.dues ≡ index_of (without_rope id r.ropes) → d.room ≤ d'.room → u'.block ≡ u.block
    → ((q : BlockPair) → uses_counted u'.counts q + uses_by u.block rope.pieces q ≡ uses_counted u.counts q) → ((q : BlockPair) → live_counted u'.counts q + uses_by u.block rope.pieces q ≡ live_counted u.counts q) → IsWhole r' d' u'
whole_without r r' d d' u u' id rope h found is dues room block uses live =
    make_whole r' d' u' u.block (without_rope id r.ropes) block is (in_order-without id r.ropes h.table.rising) (every_without (λ rope. rope.last ≤ 3) id r.ropes h.table.classes)
    (λ q. let was = h.table.covers q in let now = uses q in let parts = uses_split id r.ropes rope h.table.rising found u.block q in omega (arith, was, now, parts))
    h.table.words h.table.least h.table.most dues
    (let was = one_more id r.ropes rope h.table.rising found in omega (arith, was, h.room, room))
    (λ q. let was = h.live q in let now = live q in let parts = uses_split id r.ropes rope h.table.rising found u.block q in omega (arith, was, now, parts))

-- ---- passages

pub uses_in-append : (block : ℕ) (before after : List (List Piece)) (ps : List Piece) (q : BlockPair) → uses_in block (before ++ ps ∷ after) q ≡ uses_by block ps q + uses_in block (before ++ after) q
uses_in-append block [] after ps q = refl
uses_in-append block (b ∷ before) after ps q = let rest = uses_in-append block before after ps q in omega (arith, rest)

pub counts_released : (r : Ropes) (d : Dues) (u u' : Uses) (before after : List (List Piece)) (ps : List Piece) → u'.block ≡ u.block
    → ((q : BlockPair) → uses_counted u'.counts q + uses_by u.block ps q ≡ uses_counted u.counts q) → Counts (seen r d u) (before ++ ps ∷ after) → Counts (seen r d u') (before ++ after)
counts_released r d u u' before after ps block uses h = λ q.
    let now = uses q in
    let was = h q in
    let parts = uses_in-append u.block before after ps q in
    let live : uses_in u'.block (pieces_in r.ropes) q ≡ uses_in u.block (pieces_in r.ropes) q = ap (λ n. uses_in n (pieces_in r.ropes) q) block in
    let rest : uses_in u'.block (before ++ after) q ≡ uses_in u.block (before ++ after) q = ap (λ n. uses_in n (before ++ after) q) block in
    omega (arith, now, was, live, rest, parts)

no_uses : (uses : BlockPair → ℕ) (pairs : List BlockPair) → ((q : BlockPair) → has_pair pairs q ≡ true → 1 ≤ uses q) → filter (λ q. uses q == 0) pairs ≡ []
no_uses uses [] all = refl
no_uses uses (p ∷ pairs) all =
    let here : 1 ≤ uses p = all p (or_left (same_pair p p) (has_pair pairs p) (same_pair-refl p)) in
    ap (λ b. cond b (p ∷ filter (λ q. uses q == 0) pairs) (filter (λ q. uses q == 0) pairs)) (ne_eqb (uses p) 0 (λ e. omega (arith, e, here)))
    ∙ no_uses uses pairs (λ q has. all q (or_right (same_pair q p) (has_pair pairs q) has))

-- a passage whose blocks are all in use needs no room
pub none_unused : (uses : BlockPair → ℕ) (pairs : List BlockPair) → ((q : BlockPair) → has_pair pairs q ≡ true → 1 ≤ uses q) → unused uses pairs ≡ 0
none_unused uses pairs all = ap (λ ps. length (distinct ps)) (no_uses uses pairs all)

-- ---- steps of the calls

-- what is left as the rope of a number, which was due, leaves the order
pub left_due : (id : ℕ) (ropes : List Rope) (rope : Rope) (dues left : List Due) (due : Due) → IsInOrder is_lower ropes → rope_of ropes id ≡ Some rope → dues ≡ index_of ropes → due ≡ due_at id rope.idle rope.wait → rope.kept ≡ false
    → ((rest : List Due) → Apart is_sooner due rest → dues ≡ with_due due rest → left ≡ rest) → left ≡ index_of (without_rope id ropes)
left_due id ropes rope dues left due order found is named free leaves =
    let rest = without_rope id ropes in
    let same : due ≡ due_of rope = named ∙ ap (λ n. due_at n rope.idle rope.wait) (sym (id_of id ropes rope found)) in
    leaves (index_of rest) (subst (λ (d : Due). Apart is_sooner d (index_of rest)) (sym same) (dues_apart (due_of rope) rest (not_among id ropes rope order found)))
    (is ∙ index_of_due id ropes rope order found free ∙ sym (ap (λ d. with_due d (index_of rest)) same))

pub same_bool : (a b : Bool) → beq a b ≡ true → a ≡ b
same_bool true true e = refl
same_bool true false e = cc
same_bool false true e = cc
same_bool false false e = refl

pub other_bool : (a b : Bool) → beq a b ≡ false → a ≡ not b
other_bool true true e = cc
other_bool true false e = refl
other_bool false true e = refl
other_bool false false e = cc

-- the blocks of a live rope are in use
pub used_by_live : (r : Ropes) (d : Dues) (u : Uses) (id : ℕ) (rope : Rope) (q : BlockPair) → IsWhole r d u → rope_of r.ropes id ≡ Some rope → has_pair (pairs_at u.block (spots_of rope.pieces)) q ≡ true → 1 ≤ uses_counted u.counts q
used_by_live r d u id rope q h found has =
    let parts = uses_split id r.ropes rope h.table.rising found u.block q in
    let one : uses_by u.block rope.pieces q ≡ 1 = ap (λ b. cond b 1 0) has in
    let all = h.table.covers q in
    omega (arith, parts, one, all)

-- a live rope has no block that it does not use
pub live_least : (r : Ropes) (d : Dues) (u : Uses) (id : ℕ) (rope : Rope) (q : BlockPair) → IsWhole r d u → rope_of r.ropes id ≡ Some rope → has_pair (pairs_at u.block (spots_of rope.pieces)) q ≡ true → 1 ≤ live_counted u.counts q
live_least r d u id rope q h found has =
    let parts = uses_split id r.ropes rope h.table.rising found u.block q in
    let one : uses_by u.block rope.pieces q ≡ 1 = ap (λ b. cond b 1 0) has in
    let all = h.live q in
    omega (arith, parts, one, all)

-- no more live ropes than uses
pub live_within : (r : Ropes) (d : Dues) (u : Uses) (q : BlockPair) → IsWhole r d u → live_counted u.counts q ≤ uses_counted u.counts q
live_within r d u q h = let live = h.live q in let all = h.table.covers q in omega (arith, live, all)

-- a block is used exactly where it is among those of the lists
used_where : (block : ℕ) (lists : List (List Piece)) (q : BlockPair) → has_pair (pairs_in block lists) q ≡ nat_lt 0 (uses_in block lists q)
used_where block [] q = refl
used_where block (ps ∷ lists) q =
    let rest = used_where block lists q in
    list_any-append (same_pair q) (pairs_at block (spots_of ps)) (pairs_in block lists)
    ∙ split (has_pair (pairs_at block (spots_of ps)) q)
    (λ e. ap (λ b. b || has_pair (pairs_in block lists) q) e ∙ sym (ap (λ b. nat_lt 0 (cond b 1 0 + uses_in block lists q)) e ∙ lt-ltb 0 (1 + uses_in block lists q) (omega arith)))
    (λ e. ap (λ b. b || has_pair (pairs_in block lists) q) e ∙ rest ∙ sym (ap (λ b. nat_lt 0 (cond b 1 0 + uses_in block lists q)) e ∙ ap (nat_lt 0) (omega arith)))

pub live_where : (r : Ropes) (d : Dues) (u : Uses) (q : BlockPair) → IsWhole r d u → has_pair (pairs_in u.block (pieces_in r.ropes)) q ≡ nat_lt 0 (live_counted u.counts q)
live_where r d u q h = used_where u.block (pieces_in r.ropes) q ∙ sym (ap (nat_lt 0) (h.live q))

pub whole_same : (r r' : Ropes) (d : Dues) (u : Uses) → IsWhole r d u → r'.ropes ≡ r.ropes → IsWhole r' d u
whole_same r r' d u h is = make_whole r' d u u.block r.ropes refl is h.table.rising h.table.classes h.table.covers h.table.words h.table.least h.table.most h.ordered h.room h.live

pub counts_same : (r r' : Ropes) (d : Dues) (u : Uses) (held : List (List Piece)) → r'.ropes ≡ r.ropes → Counts (seen r d u) held → Counts (seen r' d u) held
counts_same r r' d u held is h = λ q. h q ∙ ap (λ l. uses_in u.block (pieces_in l) q + uses_in u.block held q) (sym is)
