-- Looking through the ropes in the order in which they are due.
use Rattle.std.proofs.Common.{◌≡◌, ℕ, zero, suc, ◌+◌, ◌≤◌, ◌<◌, List, [], ◌∷◌, ◌++◌, length, get_or, take, drop, map, filter, Bool, true, cond, Option, Some, None, refl, sym, ◌∙◌, ap, subst, arith}
use Rattle.std.specs.Prelude.{slice_get, option_map, unwrap_or}
use Rattle.std.proofs.lemmas.Bool.{le-leb, lt-leb}
use Rattle.std.proofs.lemmas.Bool.Decides.{nat_tests}
use Rattle.std.proofs.lemmas.List.{length-map, drop_all, drop_more, take_more}
use Rattle.rope_table.specs.declared.ropes.Rope.{Rope}
use Rattle.rope_table.specs.declared.dues.Due.{Due}
use Rattle.rope_table.specs.Table.{Every, IsInOrder, is_lower, is_sooner, index_of, with_due, due_of, as_pair}
use Rattle.rope_table.proofs.InOrder.{split, in_order-put}
use Rattle.rope_table.proofs.ById.{none_behind, sooner_through}
use Rattle.rope_table.proofs.Edited.{dues_apart}
use Rattle.collector.specs.Due.{is_by, ids_by}

-- ---- the order

pub index_in_order : (ropes : List Rope) → IsInOrder is_lower ropes → IsInOrder is_sooner (index_of ropes)
index_in_order [] order = tt
index_in_order (rope ∷ ropes) order =
    let rest = index_in_order ropes order.1 in
    split rope.kept
    (λ e. subst (λ b. IsInOrder is_sooner (cond b (index_of ropes) (with_due (due_of rope) (index_of ropes)))) (sym e) rest)
    (λ e. subst (λ b. IsInOrder is_sooner (cond b (index_of ropes) (with_due (due_of rope) (index_of ropes)))) (sym e)
    (in_order-put is_sooner sooner_through (due_of rope) (index_of ropes) (dues_apart (due_of rope) ropes (none_behind rope.id rope ropes (omega arith) order.0)) rest))

in_order-drop : {A : Type 0} (comes : A → A → Bool) (k : ℕ) (xs : List A) → IsInOrder comes xs → IsInOrder comes (drop k xs)
in_order-drop comes zero xs order = order
in_order-drop comes (suc k) [] order = tt
in_order-drop comes (suc k) (x ∷ xs) order = in_order-drop comes k xs order.1

not_sooner : (x y : Due) → is_sooner x y ≡ true → x.at ≤ y.at
not_sooner x y e = grind (arith, nat_tests)

-- what is due behind one that is due later than now is so too
none_by : (now : ℕ) (due : Due) (dues : List Due) → now < due.at → Every (λ y. is_sooner due y ≡ true) dues → filter (is_by now) dues ≡ []
none_by now due [] late all = refl
none_by now due (y ∷ dues) late all =
    let le = not_sooner due y all.0 in
    ap (λ b. cond b (y ∷ filter (is_by now) dues) (filter (is_by now) dues)) (lt-leb y.at now (omega (arith, le, late)))
    ∙ none_by now due dues late all.1

-- ---- as far as it was looked

-- the first k are due up to now
pub record IsLooked (now : ℕ) (dues : List Due) (k : ℕ) : Type 0 where
  pub front : filter (is_by now) dues ≡ take k dues ++ filter (is_by now) (drop k dues)
  pub within : k ≤ length dues

pub looked_none : (now : ℕ) (dues : List Due) → IsLooked now dues 0
looked_none now dues = record { front = refl; within = omega arith }

some_at : {A : Type 0} (xs : List A) (k : ℕ) (x : A) → slice_get xs k ≡ Some x → get_or xs k x ≡ x
some_at [] k x e = refl
some_at (y ∷ ys) zero x e = cc
some_at (y ∷ ys) (suc k) x e = some_at ys k x e

some_within : {A : Type 0} (xs : List A) (k : ℕ) (x : A) → slice_get xs k ≡ Some x → k < length xs
some_within [] k x e = cc
some_within (y ∷ ys) zero x e = omega arith
some_within (y ∷ ys) (suc k) x e = let rest = some_within ys k x e in omega (arith, rest)

drop_some : {A : Type 0} (xs : List A) (k : ℕ) (x : A) → slice_get xs k ≡ Some x → drop k xs ≡ x ∷ drop (k + 1) xs
drop_some xs k x e = drop_more xs k x (some_within xs k x e) ∙ ap (λ y. y ∷ drop (k + 1) xs) (some_at xs k x e)

pub take_some : {A : Type 0} (xs : List A) (k : ℕ) (x : A) → slice_get xs k ≡ Some x → take (k + 1) xs ≡ take k xs ++ x ∷ []
take_some xs k x e = take_more xs k x (some_within xs k x e) ∙ ap (λ y. take k xs ++ y ∷ []) (some_at xs k x e)

pub none_beyond : {A : Type 0} (xs : List A) (k : ℕ) → ◌≡◌ {A = Option A} (slice_get xs k) None → length xs ≤ k
none_beyond [] k e = omega arith
none_beyond (y ∷ ys) zero e = cc
none_beyond (y ∷ ys) (suc k) e = let rest = none_beyond ys k e in omega (arith, rest)

append_none : {A : Type 0} (xs : List A) → xs ++ [] ≡ xs
append_none [] = refl
append_none (x ∷ xs) = ap (λ l. x ∷ l) (append_none xs)

append_one : {A : Type 0} (xs : List A) (x : A) (ys : List A) → xs ++ (x ∷ ys) ≡ (xs ++ x ∷ []) ++ ys
append_one [] x ys = refl
append_one (z ∷ xs) x ys = ap (λ l. z ∷ l) (append_one xs x ys)

-- what `due` told
pub told : (o : Option Due) (at id : ℕ) → option_map as_pair o ≡ Some (at, id) → o ≡ Some (record { at = at; id = id })
told None at id e = cc
told (Some due) at id e = let first : due.at ≡ at = ap (λ (o : Option (ℕ × ℕ)). (unwrap_or o (0, 0)).0) e in let second : due.id ≡ id = ap (λ (o : Option (ℕ × ℕ)). (unwrap_or o (0, 0)).1) e in ap (λ (n : ℕ). Some (record { at = n; id = due.id })) first ∙ ap (λ (n : ℕ). Some (record { at = at; id = n })) second

pub told_none : (o : Option Due) → ◌≡◌ {A = Option (ℕ × ℕ)} (option_map as_pair o) None → ◌≡◌ {A = Option Due} o None
told_none None e = refl
told_none (Some due) e = cc

pub looked_end : (now : ℕ) (dues : List Due) (k : ℕ) → IsLooked now dues k → ◌≡◌ {A = Option Due} (slice_get dues k) None → ids_by now dues ≡ map (λ (due : Due). due.id) (take k dues)
looked_end now dues k h e =
    ap (map (λ (due : Due). due.id)) (h.front ∙ ap (λ l. take k dues ++ filter (is_by now) l) (drop_all k dues (none_beyond dues k e)) ∙ append_none (take k dues))

pub looked_past : (now : ℕ) (dues : List Due) (k : ℕ) (due : Due) → IsInOrder is_sooner dues → IsLooked now dues k → slice_get dues k ≡ Some due → now < due.at → ids_by now dues ≡ map (λ (due : Due). due.id) (take k dues)
looked_past now dues k due order h e late =
    let behind = subst (λ (l : List Due). IsInOrder is_sooner l) (drop_some dues k due e) (in_order-drop is_sooner k dues order) in
    ap (map (λ (due : Due). due.id)) (h.front ∙ ap (λ l. take k dues ++ filter (is_by now) l) (drop_some dues k due e)
    ∙ ap (λ b. take k dues ++ cond b (due ∷ filter (is_by now) (drop (k + 1) dues)) (filter (is_by now) (drop (k + 1) dues))) (lt-leb due.at now late)
    ∙ ap (λ l. take k dues ++ l) (none_by now due (drop (k + 1) dues) late behind.0) ∙ append_none (take k dues))

pub looked_more : (now : ℕ) (dues : List Due) (k : ℕ) (due : Due) → IsLooked now dues k → slice_get dues k ≡ Some due → due.at ≤ now → IsLooked now dues (k + 1)
looked_more now dues k due h e le = record {
  front = h.front ∙ ap (λ l. take k dues ++ filter (is_by now) l) (drop_some dues k due e)
      ∙ ap (λ b. take k dues ++ cond b (due ∷ filter (is_by now) (drop (k + 1) dues)) (filter (is_by now) (drop (k + 1) dues))) (le-leb due.at now le)
      ∙ append_one (take k dues) due (filter (is_by now) (drop (k + 1) dues))
      ∙ ap (λ l. l ++ filter (is_by now) (drop (k + 1) dues)) (sym (take_some dues k due e));
  within = let i = some_within dues k due e in omega (arith, i);
}

map_append : (xs : List Due) (y : Due) → map (λ (due : Due). due.id) (xs ++ y ∷ []) ≡ map (λ (due : Due). due.id) xs ++ y.id ∷ []
map_append [] y = refl
map_append (x ∷ xs) y = ap (λ l. x.id ∷ l) (map_append xs y)

taken_more : (dues : List Due) (k : ℕ) (due : Due) → slice_get dues k ≡ Some due → map (λ (due : Due). due.id) (take (k + 1) dues) ≡ map (λ (due : Due). due.id) (take k dues) ++ due.id ∷ []
taken_more dues k due e = ap (map (λ (due : Due). due.id)) (take_some dues k due e) ∙ map_append (take k dues) due

-- one more was looked at and put last
pub pushed_more : (dues : List Due) (k x : ℕ) (due : Due) (items next : List ℕ) → slice_get dues k ≡ Some due → items ≡ map (λ (due : Due). due.id) (take k dues) → next ≡ items ++ x ∷ [] → x ≡ due.id → next ≡ map (λ (due : Due). due.id) (take (k + 1) dues)
pushed_more dues k x due items next e was pushed is = pushed ∙ ap (λ l. l ++ x ∷ []) was ∙ ap (λ n. map (λ (due : Due). due.id) (take k dues) ++ n ∷ []) is ∙ sym (taken_more dues k due e)

length_front : (k : ℕ) (xs ys : List Due) → k ≤ length xs → k ≤ length (take k xs ++ ys)
length_front zero xs ys le = omega arith
length_front (suc k) [] ys le = absurd (omega arith)
length_front (suc k) (x ∷ xs) ys le = let rest = length_front k xs ys (omega arith) in omega (arith, rest)

pub looked_long : (now : ℕ) (dues : List Due) (k : ℕ) → IsLooked now dues k → k ≤ length (ids_by now dues)
looked_long now dues k h =
    let long = length_front k dues (filter (is_by now) (drop k dues)) h.within in
    let same = ap length h.front in
    let ids = length-map (filter (is_by now) dues) (λ (due : Due). due.id) in
    omega (arith, long, same, ids)
