-- What a sweep of the durable part removes is what the tables tell.
use Rattle.std.proofs.Common.{◌≡◌, ℕ, ◌+◌, ◌⊎◌, inl, inr, List, [], ◌∷◌, length, map, filter, Bool, true, false, not, ◌&&◌, ◌||◌, ◌==◌, nat_le, cond, refl, sym, ◌∙◌, ap, subst, arith}
use Rattle.std.specs.Prelude.{take}
use Rattle.std.proofs.lemmas.List.{length-map}
use Rattle.std.proofs.lemmas.Bool.{false≢true, eqb-true, eqb-false, eq-eqb, le-leb, lt-leb}
use Rattle.voice_units.specs.declared.shapes.Graces.{Graces}
use Rattle.voice_model.specs.declared.calls.Row.{Row}
use Rattle.voice_model.specs.State.{Durable, Live, has_row, settled}
use Rattle.voice_model.specs.Changes.{is_expired, is_due, without_expired, wait_of, swept_ropes}
use Rattle.rope_table.specs.declared.ropes.Rope.{Rope}
use Rattle.rope_table.specs.Table.{Table, Every}
use Rattle.rope_table.proofs.InOrder.{split}
use Rattle.collector.specs.Due.{rows_kept, is_gone, gone_ids, IsShown, AreShown, AreEqual, ShowsDue, due_count}

-- ---- waits

-- every class waits as long as class Until
pub wait_equal : (graces : Graces) (last : ℕ) → AreEqual graces → wait_of graces last ≡ graces.until
wait_equal graces last e = split (last == 1)
    (λ a. ap (λ b. cond b graces.held (cond (last == 2) graces.until (cond (last == 3) graces.listed graces.common))) a ∙ e.held)
    (λ a. ap (λ b. cond b graces.held (cond (last == 2) graces.until (cond (last == 3) graces.listed graces.common))) a
    ∙ split (last == 2)
    (λ b. ap (λ t. cond t graces.until (cond (last == 3) graces.listed graces.common)) b)
    (λ b. ap (λ t. cond t graces.until (cond (last == 3) graces.listed graces.common)) b
    ∙ split (last == 3)
    (λ h. ap (λ t. cond t graces.listed graces.common) h ∙ e.listed)
    (λ h. ap (λ t. cond t graces.listed graces.common) h ∙ e.common)))

-- a rope that loses its last row of class Until waits by that class, or all classes wait equally long
pub wait_now : (graces : Graces) (form last : ℕ) → (form ≡ 2) ⊎ AreEqual graces → wait_of graces (cond (form == 2) 2 last) ≡ graces.until
wait_now graces form last (inl two) = ap (λ b. wait_of graces (cond b 2 last)) (eq-eqb form 2 two)
wait_now graces form last (inr e) = wait_equal graces (cond (form == 2) 2 last) e

no_wait : (now wait : ℕ) → nat_le (now + wait) now ≡ (wait == 0)
no_wait now wait = split (wait == 0)
    (λ e. let z = eqb-true wait 0 e in le-leb (now + wait) now (omega (arith, z)) ∙ sym e)
    (λ e. let z = eqb-false wait 0 e in lt-leb (now + wait) now (omega (arith, z)) ∙ sym e)

-- ---- one rope

or_right : (a b : Bool) → b ≡ true → (a || b) ≡ true
or_right true b e = refl
or_right false b e = e

-- a row that is left was there
pub row_was : (now : ℕ) (rows : List Row) (id : ℕ) → has_row (rows_kept now rows) id ≡ true → has_row rows id ≡ true
row_was now [] id e = e
row_was now (row ∷ rows) id e = split (is_expired now row)
    (λ gone. or_right (row.rope == id) (has_row rows id) (row_was now rows id (sym (ap (λ b. has_row (cond (not b) (row ∷ rows_kept now rows) (rows_kept now rows)) id) gone) ∙ e)))
    (λ stays. let was : ((row.rope == id) || has_row (rows_kept now rows) id) ≡ true = sym (ap (λ b. has_row (cond (not b) (row ∷ rows_kept now rows) (rows_kept now rows)) id) stays) ∙ e in
    split (row.rope == id)
    (λ same. ap (λ b. b || has_row rows id) same)
    (λ other. or_right (row.rope == id) (has_row rows id) (row_was now rows id (sym (ap (λ b. b || has_row (rows_kept now rows) id) other) ∙ was))))

and_false : (a : Bool) → false ≡ (a && false)
and_false true = refl
and_false false = refl

and_true : (a : Bool) → a ≡ (a && true)
and_true true = refl
and_true false = refl

-- whether a rope is due that had a row before, or not, and has one after, or not
abbrev due_if : {A : Type 0} → Graces → ℕ → ℕ → Bool → Bool → Live A → Bool
due_if graces form now before after live =
    let left = cond (before && not after) (record live { idle = now; last = cond (form == 2) 2 live.last }) live in
    not after && nat_le (left.idle + wait_of graces left.last) now

one_gone : {A : Type 0} (graces : Graces) (form now until : ℕ) (before after : Bool) (rope : Rope) (live : Live A) → (form ≡ 2) ⊎ AreEqual graces → graces.until ≡ until → IsShown graces rope live → (after ≡ true → before ≡ true)
    → due_if graces form now before after live ≡ cond before ((until == 0) && not after) (nat_le (rope.idle + rope.wait) now)
one_gone graces form now until true true rope live which u s was = and_false (until == 0)
one_gone graces form now until true false rope live which u s was =
    ap (λ n. nat_le (now + n) now) (wait_now graces form live.last which ∙ u) ∙ no_wait now until ∙ and_true (until == 0)
one_gone graces form now until false true rope live which u s was = absurd (false≢true (was refl))
one_gone graces form now until false false rope live which u s was = sym (ap (λ n. nat_le (n + rope.wait) now) s.idle ∙ ap (λ n. nat_le (live.idle + n) now) s.wait)

-- ---- all ropes

-- whether the durable part lets a live rope go
abbrev goes : {A : Type 0} → Graces → ℕ → ℕ → List Row → Live A → Bool
goes graces form now rows live = due_if graces form now (has_row rows live.id) (has_row (rows_kept now rows) live.id) live

gone_alike : {A : Type 0} (graces : Graces) (form now until : ℕ) (rows : List Row) (rope : Rope) (live : Live A) → (form ≡ 2) ⊎ AreEqual graces → graces.until ≡ until → IsShown graces rope live → rope.kept ≡ has_row rows rope.id
    → goes graces form now rows live ≡ is_gone now until rows rope
gone_alike graces form now until rows rope live which u s kept =
    one_gone graces form now until (has_row rows live.id) (has_row (rows_kept now rows) live.id) rope live which u s (row_was now rows live.id)
    ∙ sym (ap (λ n. cond (has_row rows n) ((until == 0) && not (has_row (rows_kept now rows) n)) (nat_le (rope.idle + rope.wait) now)) s.id)
    ∙ sym (ap (λ b. cond b ((until == 0) && not (has_row (rows_kept now rows) rope.id)) (nat_le (rope.idle + rope.wait) now)) kept)

-- the live rope as it stands once the expired rows are gone
abbrev settle_if : {A : Type 0} → ℕ → ℕ → Bool → Live A → Live A
settle_if form now b live = cond b (record live { idle = now; last = cond (form == 2) 2 live.last }) live

same_id : {A : Type 0} (form now : ℕ) (b : Bool) (live : Live A) → (settle_if form now b live).id ≡ live.id
same_id form now true live = refl
same_id form now false live = refl

cons_live : {A : Type 0} (b : Bool) (x : Live A) (xs : List (Live A)) → map (λ (rope : Live A). rope.id) (cond b (x ∷ xs) xs) ≡ cond b (x.id ∷ map (λ (rope : Live A). rope.id) xs) (map (λ (rope : Live A). rope.id) xs)
cons_live true x xs = refl
cons_live false x xs = refl

cons_rope : (b : Bool) (x : Rope) (xs : List Rope) → map (λ (rope : Rope). rope.id) (cond b (x ∷ xs) xs) ≡ cond b (x.id ∷ map (λ (rope : Rope). rope.id) xs) (map (λ (rope : Rope). rope.id) xs)
cons_rope true x xs = refl
cons_rope false x xs = refl

all_gone : {A : Type 0} (graces : Graces) (form now until : ℕ) (rows : List Row) (ropes : List Rope) (lives : List (Live A)) (test : Live A → Bool) (made : Live A → Live A)
    → ((live : Live A) → test (made live) ≡ goes graces form now rows live) → ((live : Live A) → (made live).id ≡ live.id) → (form ≡ 2) ⊎ AreEqual graces → graces.until ≡ until
    → AreShown graces ropes lives → Every (λ rope. rope.kept ≡ has_row rows rope.id) ropes
    → map (λ (rope : Live A). rope.id) (filter test (map made lives)) ≡ map (λ (rope : Rope). rope.id) (filter (is_gone now until rows) ropes)
all_gone graces form now until rows [] [] test made tests ids which u shown kept = refl
all_gone graces form now until rows [] (live ∷ lives) test made tests ids which u shown kept = absurd shown
all_gone graces form now until rows (rope ∷ ropes) [] test made tests ids which u shown kept = absurd shown
all_gone {A} graces form now until rows (rope ∷ ropes) (live ∷ lives) test made tests ids which u shown kept =
    let rest = all_gone graces form now until rows ropes lives test made tests ids which u shown.1 kept.1 in
    let tail = map (λ (rope : Rope). rope.id) (filter (is_gone now until rows) ropes) in
    let left = map (λ (rope : Live A). rope.id) (filter test (map made lives)) in
    cons_live (test (made live)) (made live) (filter test (map made lives))
    ∙ ap (λ b. cond b ((made live).id ∷ left) left) (tests live ∙ gone_alike graces form now until rows rope live which u shown.0 kept.0)
    ∙ ap (λ n. cond (is_gone now until rows rope) (n ∷ left) left) (ids live ∙ sym (shown.0).id)
    ∙ ap (λ l. cond (is_gone now until rows rope) (rope.id ∷ l) l) rest
    ∙ sym (cons_rope (is_gone now until rows rope) rope (filter (is_gone now until rows) ropes))

module _ {A : Type 0} (form now until : ℕ) (table : Table) (rows : List Row) (d : Durable A) (h : ShowsDue table rows now until form d) (kept : Every (λ rope. rope.kept ≡ has_row rows rope.id) table.ropes) where
  due_left : (live : Live A) → is_due (without_expired form d) (settled form d.moment 2 d.rows (rows_kept d.moment d.rows) live) ≡ goes d.shape.graces form d.moment d.rows live
  due_left live =
      let b = has_row d.rows live.id && not (has_row (rows_kept d.moment d.rows) live.id) in
      let to = settle_if form d.moment b live in
      ap (λ n. not (has_row (rows_kept d.moment d.rows) n) && nat_le (to.idle + wait_of d.shape.graces to.last) d.moment) (same_id form d.moment b live)

  due_ids : map (λ (rope : Live A). rope.id) (filter (is_due (without_expired form d)) (without_expired form d).ropes) ≡ gone_ids d.moment until d.rows table.ropes
  due_ids = all_gone d.shape.graces form d.moment until d.rows table.ropes d.ropes (is_due (without_expired form d)) (settled form d.moment 2 d.rows (rows_kept d.moment d.rows))
      due_left (λ live. same_id form d.moment (has_row d.rows live.id && not (has_row (rows_kept d.moment d.rows) live.id)) live) h.graces h.until h.ropes
      (subst (λ (l : List Row). Every (λ rope. rope.kept ≡ has_row l rope.id) table.ropes) (sym h.rows) kept)

  all_ids : map (λ (rope : Live A). rope.id) (filter (is_due (without_expired form d)) (without_expired form d).ropes) ≡ gone_ids now until rows table.ropes
  all_ids = due_ids ∙ ap (λ n. gone_ids n until d.rows table.ropes) h.moment ∙ ap (λ (l : List Row). gone_ids now until l table.ropes) h.rows

  -- what a sweep removes is the front of what the tables let go
  pub swept_is : (limit : ℕ) → take limit (gone_ids now until rows table.ropes) ≡ swept_ropes form d limit
  swept_is limit = sym (ap (take limit) all_ids)

  pub due_count_is : length (gone_ids now until rows table.ropes) ≡ due_count form d
  due_count_is = sym (ap length all_ids) ∙ length-map (filter (is_due (without_expired form d)) (without_expired form d).ropes) (λ (rope : Live A). rope.id)
