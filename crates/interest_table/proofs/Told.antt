-- What a tally tells as rows come and go.
use Rattle.std.proofs.Common.{◌≡◌, ℕ, ◌<◌, ◌≤◌, ◌+◌, ◌-◌, ◌*◌, ◌^◌, List, [], ◌∷◌, ◌++◌, map, length, filter, not, ap, ap₂, ◌∙◌, sym, refl, cond, Bool, true, false, ◌==◌, Some, None, subst, arith}
use Rattle.std.specs.Prelude.{unwrap_or, nat_eq}
use Rattle.std.specs.Map.{lookup}
use Rattle.voice_model.specs.State.{is_row, row_at}
use Rattle.voice_model.specs.Valid.{Once}
use Rattle.voice_model.specs.declared.calls.Row.{Row}
use Rattle.voice_model.specs.declared.calls.Class.{Class}
use Rattle.interest_table.specs.declared.tally.Tally.{Tally}
use Rattle.interest_table.specs.Table.{rows_of, key_bytes_of, note_bytes_of}
use Rattle.interest_table.specs.Inside.{Listing, row_in, AreShort, IsTold, Lost, IsTable, rows_counted}
use Rattle.interest_table.proofs.Found.{is_that_row, once_after, others, all_stay}
use Rattle.interest_table.proofs.Added.{rows_push, once_push, length_push}

-- ---- sums over rows

abbrev pub total : (Row → ℕ) → List Row → ℕ
total f [] = 0
total f (row ∷ rows) = f row + total f rows

rows_of-total : (rope : ℕ) (rows : List Row) → rows_of rope rows ≡ total (λ row. cond (row.rope == rope) 1 0) rows
rows_of-total rope [] = refl
rows_of-total rope (row ∷ rows) = ap (λ n. cond (row.rope == rope) 1 0 + n) (rows_of-total rope rows)

key_bytes-total : (rows : List Row) → key_bytes_of rows ≡ total (λ row. length row.key) rows
key_bytes-total [] = refl
key_bytes-total (row ∷ rows) = ap (λ n. length row.key + n) (key_bytes-total rows)

note_bytes-total : (rows : List Row) → note_bytes_of rows ≡ total (λ row. length row.note) rows
note_bytes-total [] = refl
note_bytes-total (row ∷ rows) = ap (λ n. length row.note + n) (note_bytes-total rows)

-- rows are those that go and those that are left
abbrev pub AreParts : List Row → List Row → List Row → Type 0
AreParts rows gone left = (f : Row → ℕ) → total f rows ≡ total f gone + total f left

one_of_them : (f : Row → ℕ) (class : Class) (key : List ℕ) (r row : Row) (rows : List Row) (b : Bool) → is_row class key r ≡ b → cond b (Some r) (row_at rows class key) ≡ Some row → row_at rows r.class r.key ≡ None → (row_at rows class key ≡ Some row → total f rows ≡ total f (row ∷ []) + total f (others class key rows)) → f r + total f rows ≡ total f (row ∷ []) + total f (cond (not b) (r ∷ others class key rows) (others class key rows))
one_of_them f class key r row rows true is at none rest =
    let that = is_that_row class key r is in
    let same : r ≡ row = cc in
    let left : others class key rows ≡ rows = all_stay class key rows (sym (λ i. row_at rows (that.0 i) (that.1 i)) ∙ none) in
    let one = ap f same in
    let all = ap (total f) left in
    omega (arith, one, all)
one_of_them f class key r row rows false is at none rest = let more = rest at in omega (arith, more)

-- the row of a class and key, and the others
pub parts_of_row : (class : Class) (key : List ℕ) (row : Row) (rows : List Row) → row_at rows class key ≡ Some row → Once rows → AreParts rows (row ∷ []) (others class key rows)
parts_of_row class key row [] h once f = cc
parts_of_row class key row (r ∷ rows) h once f = one_of_them f class key r row rows (is_row class key r) refl h once.0 (λ at. parts_of_row class key row rows at once.1 f)

-- ---- what is told

lost_by : (n was all gone left : ℕ) → n ≡ was - gone → was ≡ all → all ≡ gone + left → n ≡ left
lost_by n was all gone left e f g = omega (arith, e, f, g)

pub told_after : (old new : Tally) (rows gone left : List Row) → IsTold old rows → Lost old new gone → AreParts rows gone left → IsTold new left
told_after old new rows gone left h l parts = record {
  counts = λ rope. lost_by _ _ (rows_of rope rows) (rows_of rope gone) (rows_of rope left) (l.counts rope) (h.counts rope)
      (rows_of-total rope rows ∙ parts (λ row. cond (row.rope == rope) 1 0) ∙ sym (ap₂ (λ a b. a + b) (rows_of-total rope gone) (rows_of-total rope left)));
  keys = lost_by _ _ (key_bytes_of rows) (key_bytes_of gone) (key_bytes_of left) l.keys h.keys
      (key_bytes-total rows ∙ parts (λ row. length row.key) ∙ sym (ap₂ (λ a b. a + b) (key_bytes-total gone) (key_bytes-total left)));
  notes = lost_by _ _ (note_bytes_of rows) (note_bytes_of gone) (note_bytes_of left) l.notes h.notes
      (note_bytes-total rows ∙ parts (λ row. length row.note) ∙ sym (ap₂ (λ a b. a + b) (note_bytes-total gone) (note_bytes-total left)));
}

-- ---- a row goes

kept_either : (P : List Row → Type 0) (b : Bool) (xs ys : List Row) → P xs → P ys → P (cond b xs ys)
kept_either P true xs ys p q = p
kept_either P false xs ys p q = q

short_kept : (test : Row → Bool) (rows : List Row) → AreShort rows → AreShort (filter test rows)
short_kept test [] h = tt
short_kept test (r ∷ rows) h = kept_either AreShort (test r) (r ∷ filter test rows) (filter test rows) (h.0, h.1, short_kept test rows h.2) (short_kept test rows h.2)

rows_either : (b : Bool) (e : ℕ × Row) (es : List (ℕ × Row)) → map row_in (cond b (e ∷ es) es) ≡ cond b (e.1 ∷ map row_in es) (map row_in es)
rows_either true e es = refl
rows_either false e es = refl

pub rows_kept : (test : Row → Bool) (es : List (ℕ × Row)) → map row_in (filter (λ e. test e.1) es) ≡ filter test (map row_in es)
rows_kept test [] = refl
rows_kept test (e ∷ es) = rows_either (test e.1) e (filter (λ e. test e.1) es) ∙ ap (λ l. cond (test e.1) (e.1 ∷ l) l) (rows_kept test es)

fewer_either : (b : Bool) (e : ℕ × Row) (left : List (ℕ × Row)) (n : ℕ) → length left ≤ n → length (cond b (e ∷ left) left) ≤ n + 1
fewer_either true e left n h = omega (arith, h)
fewer_either false e left n h = omega (arith, h)

fewer_kept : (test : Row → Bool) (es : List (ℕ × Row)) → length (filter (λ e. test e.1) es) ≤ length es
fewer_kept test [] = omega arith
fewer_kept test (e ∷ es) = let rest = fewer_kept test es in let here = fewer_either (test e.1) e (filter (λ e. test e.1) es) (length es) rest in omega (arith, here)

-- the table after a row went
pub one_row_gone : (old new : Listing) (tally tallied : Tally) (class : Class) (key : List ℕ) (row : Row) → IsTable old tally → new.entries ≡ filter (λ e. not (is_row class key e.1)) old.entries → row_at (map row_in old.entries) class key ≡ Some row → Lost tally tallied (row ∷ []) → IsTable new tallied
one_row_gone old new tally tallied class key row h is at lost =
    let stays = λ (row : Row). not (is_row class key row) in
    let left : map row_in new.entries ≡ others class key (map row_in old.entries) = ap (map row_in) is ∙ rows_kept stays old.entries in
    record {
      once = subst Once (sym left) (once_after class key (map row_in old.entries) h.once);
      told = subst (IsTold tallied) (sym left) (told_after tally tallied (map row_in old.entries) (row ∷ []) (others class key (map row_in old.entries)) h.told lost (parts_of_row class key row (map row_in old.entries) at h.once));
      short = subst AreShort (sym left) (short_kept stays (map row_in old.entries) h.short);
      few = let fewer = fewer_kept stays old.entries in let same = ap (λ es. length es) is in omega (arith, fewer, same, h.few);
    }

-- the table whose rows stay, and what its tally tells
pub still_table : (old new : Listing) (tally tallied : Tally) → IsTable old tally → new.entries ≡ old.entries → tallied.counts.entries ≡ tally.counts.entries → tallied.key_bytes ≡ tally.key_bytes → tallied.note_bytes ≡ tally.note_bytes → IsTable new tallied
still_table old new tally tallied h e f keys notes = record {
  once = subst (λ es. Once (map row_in es)) (sym e) h.once;
  told = record {
    counts = λ rope. ap (λ es. unwrap_or (lookup (nat_eq rope) es) 0) f ∙ h.told.counts rope ∙ ap (λ es. rows_of rope (map row_in es)) (sym e);
    keys = keys ∙ h.told.keys ∙ ap (λ es. key_bytes_of (map row_in es)) (sym e);
    notes = notes ∙ h.told.notes ∙ ap (λ es. note_bytes_of (map row_in es)) (sym e);
  };
  short = subst (λ es. AreShort (map row_in es)) (sym e) h.short;
  few = subst (λ es. length es < 2 ^ 32) (sym e) h.few;
}

-- ---- a row comes last

total_push : (f : Row → ℕ) (rows : List Row) (r : Row) → total f (rows ++ r ∷ []) ≡ total f rows + f r
total_push f [] r = omega arith
total_push f (row ∷ rows) r = let rest = total_push f rows r in omega (arith, rest)

short_push : (rows : List Row) (r : Row) → AreShort rows → length r.key ≤ 64 → length r.note ≤ 128 → AreShort (rows ++ r ∷ [])
short_push [] r h key note = (key, note, tt)
short_push (row ∷ rows) r h key note = (h.0, h.1, short_push rows r h.2 key note)

one_more : (b : Bool) (now was : ℕ) → now ≡ cond b (was + 1) was → now ≡ was + cond b 1 0
one_more true now was e = omega (arith, e)
one_more false now was e = omega (arith, e)

-- keys and notes are no longer than all rows can have
pub bytes_most : (rows : List Row) → AreShort rows → (key_bytes_of rows ≤ 64 * length rows) × (note_bytes_of rows ≤ 128 * length rows)
bytes_most [] h = (omega arith, omega arith)
bytes_most (row ∷ rows) h = let rest = bytes_most rows h.2 in (omega (arith, rest.0, h.0), omega (arith, rest.1, h.1))

-- what a tally tells once it gained a row
pub record Gained (old new : Tally) (row : Row) : Type 0 where
  pub counts : (other : ℕ) → rows_counted new.counts other ≡ cond (row.rope == other) (rows_counted old.counts other + 1) (rows_counted old.counts other)
  pub keys : new.key_bytes ≡ old.key_bytes + length row.key
  pub notes : new.note_bytes ≡ old.note_bytes + length row.note

told_push : (old new : Tally) (rows : List Row) (row : Row) → IsTold old rows → Gained old new row → IsTold new (rows ++ row ∷ [])
told_push old new rows row h g = record {
  counts = λ rope. one_more (row.rope == rope) _ _ (g.counts rope) ∙ ap (λ n. n + cond (row.rope == rope) 1 0) (h.counts rope ∙ rows_of-total rope rows)
      ∙ sym (rows_of-total rope (rows ++ row ∷ []) ∙ total_push (λ row. cond (row.rope == rope) 1 0) rows row);
  keys = g.keys ∙ ap (λ n. n + length row.key) (h.keys ∙ key_bytes-total rows) ∙ sym (key_bytes-total (rows ++ row ∷ []) ∙ total_push (λ row. length row.key) rows row);
  notes = g.notes ∙ ap (λ n. n + length row.note) (h.notes ∙ note_bytes-total rows) ∙ sym (note_bytes-total (rows ++ row ∷ []) ∙ total_push (λ row. length row.note) rows row);
}

-- the table after a row was put last
pub one_row_more : (old new : Listing) (tally tallied : Tally) (s : ℕ) (row : Row) → IsTable old tally → new.entries ≡ old.entries ++ (s, row) ∷ [] → row_at (map row_in old.entries) row.class row.key ≡ None → length old.entries + 1 < 2 ^ 32 → length row.key ≤ 64 → length row.note ≤ 128 → Gained tally tallied row → IsTable new tallied
one_row_more old new tally tallied s row h is none few key note g =
    let left : map row_in new.entries ≡ map row_in old.entries ++ row ∷ [] = ap (map row_in) is ∙ rows_push old.entries s row in
    record {
      once = subst Once (sym left) (once_push (map row_in old.entries) row h.once none);
      told = subst (IsTold tallied) (sym left) (told_push tally tallied (map row_in old.entries) row h.told g);
      short = subst AreShort (sym left) (short_push (map row_in old.entries) row h.short key note);
      few = let long = length_push old.entries (s, row) in let same = ap (λ es. length es) is in omega (arith, long, same, few);
    }
