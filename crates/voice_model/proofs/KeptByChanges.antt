-- A change that may be done leaves a durable part that calls can leave.
use Rattle.std.proofs.Common.{◌≡◌, ℕ, ◌+◌, ◌≤◌, ◌==◌, Bool, true, false, cond, not, ◌&&◌, ◌||◌, List, [], ◌∷◌, ◌++◌, map, Option, Some, None, refl, sym, ◌∙◌, ap, subst, arith}
use Rattle.std.proofs.lemmas.Bool.{eqb-true, eq-eqb}
use Rattle.std.specs.Prelude.{filter, is_some, bytes_eq}
use Rattle.voice_model.specs.Samples.{Tagged}
use Rattle.voice_model.specs.State.{Durable, Live, Effect, rope_at, is_live, row_at, is_row, has_row, among, settled, with_rows, class_number}
use Rattle.voice_model.specs.State.Effect.{Recorded, Edited, Retained, Forgotten, Counted, Swept, Advanced}
use Rattle.voice_model.specs.Changes.{changed, with_rope, without_ropes, without_expired}
use Rattle.voice_model.specs.Valid.{Every, Rising, IsRope, IsRow, Once, IsKept, IsNextRope, IsFit}
use Rattle.voice_model.specs.declared.calls.Row.{Row}
use Rattle.voice_model.specs.declared.calls.Class.{Class}
use Rattle.voice_model.specs.declared.calls.Class.TheVariants.{Held, Until, Listed}

-- ---- Every

pub every-append : {A : Type 0} (P : A → Type 0) (xs ys : List A) → Every P xs → Every P ys → Every P (xs ++ ys)
every-append P [] ys h k = k
every-append P (x ∷ xs) ys h k = (h.0, every-append P xs ys h.1 k)

pub every-map : {A B : Type 0} (P : A → Type 0) (Q : B → Type 0) (f : A → B) → ((x : A) → P x → Q (f x)) → (xs : List A) → Every P xs → Every Q (map f xs)
every-map P Q f step [] h = tt
every-map P Q f step (x ∷ xs) h = (step x h.0, every-map P Q f step xs h.1)

pub every-imply : {A : Type 0} (P Q : A → Type 0) → ((x : A) → P x → Q x) → (xs : List A) → Every P xs → Every Q xs
every-imply P Q step [] h = tt
every-imply P Q step (x ∷ xs) h = (step x h.0, every-imply P Q step xs h.1)

every_kept : {A : Type 0} (P : A → Type 0) (b : Bool) (x : A) (xs : List A) → P x → Every P xs → Every P (cond b (x ∷ xs) xs)
every_kept P true x xs h k = (h, k)
every_kept P false x xs h k = k

pub every-filter : {A : Type 0} (P : A → Type 0) (p : A → Bool) (xs : List A) → Every P xs → Every P (filter p xs)
every-filter P p [] h = tt
every-filter P p (x ∷ xs) h = every_kept P (p x) x (filter p xs) h.0 (every-filter P p xs h.1)

-- ---- numbers rise

rising_lower : (low lower : ℕ) (ropes : List (Live Tagged)) (next : ℕ) → lower ≤ low → Rising low ropes next → Rising lower ropes next
rising_lower low lower [] next e h = omega (arith, e, h)
rising_lower low lower (rope ∷ ropes) next e h = let first = h.0 in ((omega (arith, e, first)), h.1)

pub rising_append : (low : ℕ) (ropes : List (Live Tagged)) (next : ℕ) (rope : Live Tagged) → next ≤ rope.id → Rising low ropes next → Rising low (ropes ++ rope ∷ []) (rope.id + 1)
rising_append low [] next rope e h = (omega (arith, e, h), omega arith)
rising_append low (r ∷ ropes) next rope e h = (h.0, rising_append (r.id + 1) ropes next rope e h.1)

rising_map : (f : Live Tagged → Live Tagged) → ((rope : Live Tagged) → (f rope).id ≡ rope.id) → (low : ℕ) (ropes : List (Live Tagged)) (next : ℕ) → Rising low ropes next → Rising low (map f ropes) next
rising_map f same low [] next h = h
rising_map f same low (rope ∷ ropes) next h =
    let e = same rope in
    (subst (λ n. low ≤ n) (sym e) h.0, rising_map f same ((f rope).id + 1) ropes next (subst (λ n. Rising (n + 1) ropes next) (sym e) h.1))

rising_kept : (b : Bool) (low : ℕ) (rope : Live Tagged) (kept : List (Live Tagged)) (next : ℕ) → low ≤ rope.id → Rising (rope.id + 1) kept next → Rising low (cond b (rope ∷ kept) kept) next
rising_kept true low rope kept next e h = (e, h)
rising_kept false low rope kept next e h = rising_lower (rope.id + 1) low kept next (omega (arith, e)) h

rising_filter : (p : Live Tagged → Bool) (low : ℕ) (ropes : List (Live Tagged)) (next : ℕ) → Rising low ropes next → Rising low (filter p ropes) next
rising_filter p low [] next h = h
rising_filter p low (rope ∷ ropes) next h = rising_kept (p rope) low rope (filter p ropes) next h.0 (rising_filter p (rope.id + 1) ropes next h.1)

-- ---- live numbers

live_either : (b : Bool) (x y : Live Tagged) (o q : Option (Live Tagged)) → is_some o ≡ is_some q → is_some (cond b (Some x) o) ≡ is_some (cond b (Some y) q)
live_either true x y o q e = refl
live_either false x y o q e = e

live_map : (f : Live Tagged → Live Tagged) → ((rope : Live Tagged) → (f rope).id ≡ rope.id) → (ropes : List (Live Tagged)) (id : ℕ) → is_live (map f ropes) id ≡ is_live ropes id
live_map f same [] id = refl
live_map f same (rope ∷ ropes) id =
    ap (λ n. is_some (cond (n == id) (Some (f rope)) (rope_at (map f ropes) id))) (same rope)
    ∙ live_either (rope.id == id) (f rope) rope (rope_at (map f ropes) id) (rope_at ropes id) (live_map f same ropes id)

live_here : (b : Bool) (x : Live Tagged) (o q : Option (Live Tagged)) → (is_some o ≡ true → is_some q ≡ true) → is_some (cond b (Some x) o) ≡ true → is_some (cond b (Some x) q) ≡ true
live_here true x o q step h = refl
live_here false x o q step h = step h

pub live_append : (ropes more : List (Live Tagged)) (id : ℕ) → is_live ropes id ≡ true → is_live (ropes ++ more) id ≡ true
live_append [] more id h = cc
live_append (rope ∷ ropes) more id h = live_here (rope.id == id) rope (rope_at ropes id) (rope_at (ropes ++ more) id) (live_append ropes more id) h

-- ---- rows

pub rows_live : (ropes others : List (Live Tagged)) → ((id : ℕ) → is_live ropes id ≡ true → is_live others id ≡ true) → (row : Row) → IsRow ropes row → IsRow others row
rows_live ropes others step row h = record { key = h.key; note = h.note; live = step row.rope h.live }

no_row_kept : (p b : Bool) (row : Row) (o q : Option Row) → (o ≡ None → q ≡ None) → cond b (Some row) o ≡ None → cond b (Some row) q ≡ None
no_row_kept p true row o q step h = cc
no_row_kept p false row o q step h = step h

no_row_dropped : (b : Bool) (row : Row) (o q : Option Row) → (o ≡ None → q ≡ None) → cond b (Some row) o ≡ None → q ≡ None
no_row_dropped true row o q step h = cc
no_row_dropped false row o q step h = step h

no_row_either : (keep : Bool) (row : Row) (rows : List Row) (o : Option Row) (class : Class) (key : List ℕ) → (o ≡ None → row_at rows class key ≡ None) → cond (is_row class key row) (Some row) o ≡ None → row_at (cond keep (row ∷ rows) rows) class key ≡ None
no_row_either true row rows o class key step h = no_row_kept true (is_row class key row) row o (row_at rows class key) step h
no_row_either false row rows o class key step h = no_row_dropped (is_row class key row) row o (row_at rows class key) step h

no_row_filter : (p : Row → Bool) (rows : List Row) (class : Class) (key : List ℕ) → row_at rows class key ≡ None → row_at (filter p rows) class key ≡ None
no_row_filter p [] class key h = h
no_row_filter p (row ∷ rows) class key h = no_row_either (p row) row (filter p rows) (row_at rows class key) class key (no_row_filter p rows class key) h

once_kept : (b : Bool) (row : Row) (rows : List Row) → row_at rows row.class row.key ≡ None → Once rows → Once (cond b (row ∷ rows) rows)
once_kept true row rows h k = (h, k)
once_kept false row rows h k = k

pub once_filter : (p : Row → Bool) (rows : List Row) → Once rows → Once (filter p rows)
once_filter p [] h = tt
once_filter p (row ∷ rows) h = once_kept (p row) row (filter p rows) (no_row_filter p rows row.class row.key h.0) (once_filter p rows h.1)

-- ---- a rope that has lost its last row

settled_id : (form now class : ℕ) (b : Bool) (rope : Live Tagged) → (cond b (record rope { idle = now; last = cond (form == 2) class rope.last }) rope).id ≡ rope.id
settled_id form now class true rope = refl
settled_id form now class false rope = refl

last_small : (b : Bool) (class last : ℕ) → class ≤ 3 → last ≤ 3 → cond b class last ≤ 3
last_small true class last h k = h
last_small false class last h k = k

last_plain : (form class last : ℕ) → (form ≡ 1 → last ≡ 0) → form ≡ 1 → cond (form == 2) class last ≡ 0
last_plain form class last h e = subst (λ f. cond (f == 2) class last ≡ 0) (sym e) (h e)

settled_rope : (form now class : ℕ) → class ≤ 3 → (b : Bool) (rope : Live Tagged) → IsRope form now rope → IsRope form now (cond b (record rope { idle = now; last = cond (form == 2) class rope.last }) rope)
settled_rope form now class small true rope h = record {
  long = h.long;
  many = h.many;
  idle = omega arith;
  last = last_small (form == 2) class rope.last small h.last;
  plain = last_plain form class rope.last h.plain;
}
settled_rope form now class small false rope h = h

class_small : (class : Class) → class_number class ≤ 3
class_small Held = omega arith
class_small Until = omega arith
class_small Listed = omega arith

-- rows go
pub kept_with_rows : (form class : ℕ) (p : Row → Bool) (d : Durable Tagged) → class ≤ 3 → IsKept form d → IsKept form (with_rows form class d (filter p d.rows))
kept_with_rows form class p d small h =
    let f : Live Tagged → Live Tagged = settled form d.moment class d.rows (filter p d.rows) in
    let same : (rope : Live Tagged) → (f rope).id ≡ rope.id = λ rope. settled_id form d.moment class (has_row d.rows rope.id && not (has_row (filter p d.rows) rope.id)) rope in
    record {
      rising = rising_map f same 1 d.ropes d.next h.rising;
      next_limit = h.next_limit;
      moment_limit = h.moment_limit;
      each_rope = every-map (IsRope form d.moment) (IsRope form d.moment) f (λ rope. settled_rope form d.moment class small (has_row d.rows rope.id && not (has_row (filter p d.rows) rope.id)) rope) d.ropes h.each_rope;
      each_row = every-filter (IsRow (map f d.ropes)) p d.rows (every-imply (IsRow d.ropes) (IsRow (map f d.ropes)) (rows_live d.ropes (map f d.ropes) (λ id live. live_map f same d.ropes id ∙ live)) d.rows h.each_row);
      once = once_filter p d.rows h.once;
    }

-- ---- a rope comes

kept_rope : (form : ℕ) (d : Durable Tagged) (id : ℕ) (samples : List Tagged) → IsKept form d → IsNextRope d id samples → IsKept form (with_rope d id samples)
kept_rope form d id samples h fit =
    let rope : Live Tagged = record { id = id; samples = samples; idle = d.moment; last = 0 } in
    record {
      rising = rising_append 1 d.ropes d.next rope fit.next h.rising;
      next_limit = let limit = fit.number in omega (arith, limit);
      moment_limit = h.moment_limit;
      each_rope = every-append (IsRope form d.moment) d.ropes (rope ∷ []) h.each_rope (record { long = fit.long; many = fit.many; idle = omega arith; last = omega arith; plain = λ e. refl }, tt);
      each_row = every-imply (IsRow d.ropes) (IsRow (d.ropes ++ rope ∷ [])) (rows_live d.ropes (d.ropes ++ rope ∷ []) (λ id live. live_append d.ropes (rope ∷ []) id live)) d.rows h.each_row;
      once = h.once;
    }

-- ---- ropes go that no row names

none_left : (a b : Bool) → (a || b) ≡ false → (a ≡ false) × (b ≡ false)
none_left true b h = cc
none_left false b h = (refl, h)

neither : (a b : Bool) → a ≡ false → b ≡ false → (a || b) ≡ false
neither a b h k = ap (λ x. x || b) h ∙ k

pub same_bool : (a b : Bool) → (a ≡ true → b ≡ true) → (b ≡ true → a ≡ true) → a ≡ b
same_bool true b h k = sym (h refl)
same_bool false true h k = k refl
same_bool false false h k = refl

swapped_equal : (a b : ℕ) → (a == b) ≡ (b == a)
swapped_equal a b = same_bool (a == b) (b == a) (λ e. eq-eqb b a (sym (eqb-true a b e))) (λ e. eq-eqb a b (sym (eqb-true b a e)))

-- a rope that a row names is not among those that have no row
not_among : (row : Row) (rows : List Row) (gone : List ℕ) → Every (λ id. has_row (row ∷ rows) id ≡ false) gone → among gone row.rope ≡ false
not_among row rows [] h = refl
not_among row rows (id ∷ gone) h =
    neither (id == row.rope) (among gone row.rope)
    (swapped_equal id row.rope ∙ (none_left (row.rope == id) (has_row rows id) h.0).0)
    (not_among row rows gone h.1)

fewer_rows : (row : Row) (rows : List Row) (gone : List ℕ) → Every (λ id. has_row (row ∷ rows) id ≡ false) gone → Every (λ id. has_row rows id ≡ false) gone
fewer_rows row rows gone h = every-imply (λ id. has_row (row ∷ rows) id ≡ false) (λ id. has_row rows id ≡ false) (λ id e. (none_left (row.rope == id) (has_row rows id) e).1) gone h

rows_stay : (rows : List Row) (gone : List ℕ) → Every (λ id. has_row rows id ≡ false) gone → Every (λ row. among gone row.rope ≡ false) rows
rows_stay [] gone h = tt
rows_stay (row ∷ rows) gone h = (not_among row rows gone h, rows_stay rows gone (fewer_rows row rows gone h))

live_kept : (keep here : Bool) (rope : Live Tagged) (kept : List (Live Tagged)) (o : Option (Live Tagged)) (id : ℕ) → (rope.id == id) ≡ here → (here ≡ true → keep ≡ true) → (is_some o ≡ true → is_live kept id ≡ true) → is_some (cond here (Some rope) o) ≡ true → is_live (cond keep (rope ∷ kept) kept) id ≡ true
live_kept true true rope kept o id e both step h = ap (λ b. is_some (cond b (Some rope) (rope_at kept id))) e
live_kept true false rope kept o id e both step h = ap (λ b. is_some (cond b (Some rope) (rope_at kept id))) e ∙ step h
live_kept false true rope kept o id e both step h = let no = both refl in cc
live_kept false false rope kept o id e both step h = step h

-- a number that does not go stays live
live_filter : (gone : List ℕ) (ropes : List (Live Tagged)) (id : ℕ) → among gone id ≡ false → is_live ropes id ≡ true → is_live (filter (λ rope. not (among gone rope.id)) ropes) id ≡ true
live_filter gone [] id stays h = cc
live_filter gone (rope ∷ ropes) id stays h =
    live_kept (not (among gone rope.id)) (rope.id == id) rope (filter (λ rope. not (among gone rope.id)) ropes) (rope_at ropes id) id refl
    (λ e. ap not (ap (among gone) (eqb-true rope.id id e) ∙ stays)) (live_filter gone ropes id stays) h

rows_of_the_rest : (ropes : List (Live Tagged)) (gone : List ℕ) (rows : List Row) → Every (IsRow ropes) rows → Every (λ row. among gone row.rope ≡ false) rows → Every (IsRow (filter (λ rope. not (among gone rope.id)) ropes)) rows
rows_of_the_rest ropes gone [] h k = tt
rows_of_the_rest ropes gone (row ∷ rows) h k =
    (record { key = h.0.key; note = h.0.note; live = live_filter gone ropes row.rope k.0 h.0.live }, rows_of_the_rest ropes gone rows h.1 k.1)

kept_without : (form : ℕ) (d : Durable Tagged) (gone : List ℕ) → IsKept form d → Every (λ id. has_row d.rows id ≡ false) gone → IsKept form (without_ropes d gone)
kept_without form d gone h free = record {
  rising = rising_filter (λ rope. not (among gone rope.id)) 1 d.ropes d.next h.rising;
  next_limit = h.next_limit;
  moment_limit = h.moment_limit;
  each_rope = every-filter (IsRope form d.moment) (λ rope. not (among gone rope.id)) d.ropes h.each_rope;
  each_row = rows_of_the_rest d.ropes gone d.rows h.each_row (rows_stay d.rows gone free);
  once = h.once;
}

-- ---- a row comes

pub same_row : (row other : Row) → is_row row.class row.key other ≡ is_row other.class other.key row
same_row row other =
    same_bool _ _ (λ e. both (class_number row.class == class_number other.class) (bytes_eq row.key other.key) (swapped_equal (class_number row.class) (class_number other.class) ∙ first _ _ e) (swapped_bytes other.key row.key (second _ _ e)))
    (λ e. both (class_number other.class == class_number row.class) (bytes_eq other.key row.key) (swapped_equal (class_number other.class) (class_number row.class) ∙ first _ _ e) (swapped_bytes row.key other.key (second _ _ e)))
  where
    first : (a b : Bool) → (a && b) ≡ true → a ≡ true
    first true b e = refl
    first false b e = cc

    second : (a b : Bool) → (a && b) ≡ true → b ≡ true
    second true b e = e
    second false b e = cc

    both : (a b : Bool) → a ≡ true → b ≡ true → (a && b) ≡ true
    both a b e k = ap (λ x. x && b) e ∙ k

    swapped_bytes : (a b : List ℕ) → bytes_eq a b ≡ true → bytes_eq b a ≡ true
    swapped_bytes [] [] e = refl
    swapped_bytes [] (y ∷ ys) e = cc
    swapped_bytes (x ∷ xs) [] e = cc
    swapped_bytes (x ∷ xs) (y ∷ ys) e = both (y == x) (bytes_eq ys xs) (swapped_equal y x ∙ first _ _ e) (swapped_bytes xs ys (second (x == y) _ e))

absent_at_end : (b : Bool) (row : Row) (o : Option Row) → cond b (Some row) o ≡ None → (b ≡ false) × (o ≡ None)
absent_at_end true row o h = cc
absent_at_end false row o h = (refl, h)

still_absent : (here last : Bool) (row other : Row) (o q : Option Row) → (o ≡ None → last ≡ false → q ≡ None) → cond here (Some row) o ≡ None → last ≡ false → cond here (Some row) q ≡ None
still_absent true last row other o q step h e = cc
still_absent false last row other o q step h e = step h e

absent_append : (rows : List Row) (row : Row) (class : Class) (key : List ℕ) → row_at rows class key ≡ None → is_row class key row ≡ false → row_at (rows ++ row ∷ []) class key ≡ None
absent_append [] row class key h e = ap (λ b. cond b (Some row) None) e
absent_append (r ∷ rows) row class key h e = still_absent (is_row class key r) (is_row class key row) r row (row_at rows class key) (row_at (rows ++ row ∷ []) class key) (absent_append rows row class key) h e

once_append : (rows : List Row) (row : Row) → Once rows → row_at rows row.class row.key ≡ None → Once (rows ++ row ∷ [])
once_append [] row h e = (refl, tt)
once_append (r ∷ rows) row h e =
    let apart = absent_at_end (is_row row.class row.key r) r (row_at rows row.class row.key) e in
    (absent_append rows row r.class r.key h.0 (same_row r row ∙ apart.0), once_append rows row h.1 apart.1)

-- ---- a change

pub kept_changed : (form : ℕ) (d : Durable Tagged) (e : Effect Tagged) → IsKept form d → IsFit form d e → IsKept form (changed form d e)
kept_changed form d (Recorded id samples) h fit = kept_rope form d id samples h fit
kept_changed form d (Edited id samples) h fit = kept_rope form d id samples h fit
kept_changed form d (Retained row) h fit = record {
  rising = h.rising;
  next_limit = h.next_limit;
  moment_limit = h.moment_limit;
  each_rope = h.each_rope;
  each_row = every-append (IsRow d.ropes) d.rows (row ∷ []) h.each_row (fit.0, tt);
  once = once_append d.rows row h.once fit.1;
}
kept_changed form d (Forgotten class key) h fit = kept_with_rows form (class_number class) (λ row. not (is_row class key row)) d (class_small class) h
kept_changed form d (Counted keys) h fit = kept_with_rows form 3 _ d (omega arith) h
kept_changed form d (Swept ids) h fit = kept_without form (without_expired form d) ids (kept_with_rows form 2 _ d (omega arith) h) fit
kept_changed form d (Advanced moment) h fit = record {
  rising = h.rising;
  next_limit = h.next_limit;
  moment_limit = fit.1;
  each_rope = every-imply (IsRope form d.moment) (IsRope form moment) (λ rope k. let before = k.idle in let later = fit.0 in record { long = k.long; many = k.many; idle = omega (arith, before, later); last = k.last; plain = k.plain }) d.ropes h.each_rope;
  each_row = h.each_row;
  once = h.once;
}

-- a durable part of form 1 is one of form 2
pub kept_in_form_2 : (form : ℕ) (d : Durable Tagged) → IsKept form d → IsKept 2 d
kept_in_form_2 form d h = record {
  rising = h.rising;
  next_limit = h.next_limit;
  moment_limit = h.moment_limit;
  each_rope = every-imply (IsRope form d.moment) (IsRope 2 d.moment) (λ rope k. record { long = k.long; many = k.many; idle = k.idle; last = k.last; plain = λ e. absurd (omega (arith, e)) }) d.ropes h.each_rope;
  each_row = h.each_row;
  once = h.once;
}
