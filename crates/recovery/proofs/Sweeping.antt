-- What the tables show after a sweep.
use Rattle.std.proofs.Common.{◌≡◌, ℕ, ◌==◌, Bool, true, false, cond, not, ◌&&◌, ◌||◌, List, [], ◌∷◌, map, Option, Some, None, refl, sym, ◌∙◌, ap, subst}
use Rattle.std.specs.Prelude.{is_some, filter, bytes_eq}
use Rattle.std.specs.List.{list_any, list_all}
use Rattle.std.proofs.lemmas.Slice.Eq.{bytes_eq-Decides}
use Rattle.voice_units.specs.declared.pieces.Piece.{Piece}
use Rattle.voice_units.specs.declared.shapes.Graces.{Graces}
use Rattle.voice_units.specs.Spots.{Spot}
use Rattle.voice_model.specs.State.{Durable, Live, rope_at, is_live, row_at, is_row, has_row, class_number, among}
use Rattle.voice_model.specs.State.Effect.{Swept}
use Rattle.voice_model.specs.Changes.{changed, is_expired, without_expired}
use Rattle.voice_model.specs.Replay.{may_go}
use Rattle.voice_model.specs.Valid.{Every, Once}
use Rattle.voice_model.specs.declared.calls.Row.{Row}
use Rattle.voice_model.specs.declared.calls.Class.{Class}
use Rattle.voice_model.specs.declared.calls.Class.TheVariants.{Held, Until, Listed}
use Rattle.interest_table.specs.Table.{expired_keys}
use Rattle.rope_table.specs.declared.ropes.Rope.{Rope}
use Rattle.rope_table.specs.Table.{Table, Counts, rope_of}
use Rattle.recovery.specs.Shown.{shown_rope, ShowsKept, rows_without}
use Rattle.recovery.proofs.Ropes.{rope_of-shown, some_mapped}
use Rattle.recovery.proofs.BlocksUsed.{same_all}
use Rattle.recovery.proofs.RowsGone.{live_settled}

-- ---- expired rows by their keys

same_text : (x y : List ℕ) → bytes_eq x y ≡ true → x ≡ y
same_text x y e = (bytes_eq-Decides x y).0 e

same_itself : (x : List ℕ) → bytes_eq x x ≡ true
same_itself x = (bytes_eq-Decides x x).1 refl

and_left : (a b : Bool) → (a && b) ≡ true → a ≡ true
and_left true b e = refl
and_left false b e = cc

none_of : (a b : Bool) → (a || b) ≡ false → (a ≡ false) × (b ≡ false)
none_of true b e = cc
none_of false b e = (refl, e)

either_false : (a b : Bool) → a ≡ false → b ≡ false → (a || b) ≡ false
either_false a b e f = ap (λ x. x || b) e ∙ f

no_row : (b : Bool) (row : Row) (o : Option Row) → cond b (Some row) o ≡ None → (b ≡ false) × (o ≡ None)
no_row true row o e = cc
no_row false row o e = (refl, e)

-- a key of no row of class Until is not among those of expired rows
not_expired : (now : ℕ) (rows : List Row) (key : List ℕ) → row_at rows Until key ≡ None → list_any (bytes_eq key) (expired_keys now rows) ≡ false
not_expired now [] key h = refl
not_expired now (row ∷ rows) key h =
    let apart = no_row (is_row Until key row) row (row_at rows Until key) h in by_test (is_expired now row) refl apart.0 (not_expired now rows key apart.1)
  where
    until : (b : Bool) → is_expired now row ≡ true → bytes_eq key row.key ≡ b → is_row Until key row ≡ false → b ≡ false
    until true e f g =
        let class = and_left (class_number row.class == 2) _ e in
        let same : is_row Until key row ≡ true = ap (λ x. x && bytes_eq row.key key) class ∙ ap (λ (k : List ℕ). bytes_eq row.key k) (same_text key row.key f) ∙ same_itself row.key in
        let bad : true ≡ false = sym same ∙ g in cc
    until false e f g = refl

    by_test : (b : Bool) → is_expired now row ≡ b → is_row Until key row ≡ false → list_any (bytes_eq key) (expired_keys now rows) ≡ false → list_any (bytes_eq key) (expired_keys now (row ∷ rows)) ≡ false
    by_test true e f rest =
        ap (λ x. list_any (bytes_eq key) (map (λ (row : Row). row.key) (cond x (row ∷ filter (is_expired now) rows) (filter (is_expired now) rows)))) e
        ∙ either_false (bytes_eq key row.key) (list_any (bytes_eq key) (expired_keys now rows)) (until (bytes_eq key row.key) e refl f) rest
    by_test false e f rest = ap (λ x. list_any (bytes_eq key) (map (λ (row : Row). row.key) (cond x (row ∷ filter (is_expired now) rows) (filter (is_expired now) rows)))) e ∙ rest

-- an expired row's key is among those of expired rows, and no other row of class Until has it
abbrev NamesExpired : ℕ → List (List ℕ) → Row → Type 0
NamesExpired now keys row = ((class_number row.class == 2) && list_any (bytes_eq row.key) keys) ≡ is_expired now row

other_key : (now : ℕ) (key : List ℕ) (keys : List (List ℕ)) (rows : List Row) → row_at rows Until key ≡ None → Every (NamesExpired now keys) rows → Every (NamesExpired now (key ∷ keys)) rows
other_key now key keys [] h k = tt
other_key now key keys (row ∷ rows) h k =
    let apart = no_row (is_row Until key row) row (row_at rows Until key) h in
    (one (class_number row.class == 2) (bytes_eq row.key key) apart.0 k.0, other_key now key keys rows apart.1 k.1)
  where
    one : (a b : Bool) → (a && b) ≡ false → (a && list_any (bytes_eq row.key) keys) ≡ is_expired now row → (a && (b || list_any (bytes_eq row.key) keys)) ≡ is_expired now row
    one true true e f = cc
    one true false e f = f
    one false b e f = f

is_until : (class : Class) → (class_number class == 2) ≡ true → class ≡ Until
is_until Held e = cc
is_until Until e = refl
is_until Listed e = cc

each_named : (now : ℕ) (rows : List Row) → Once rows → Every (NamesExpired now (expired_keys now rows)) rows
each_named now [] h = tt
each_named now (row ∷ rows) h = by_test (is_expired now row) refl (each_named now rows h.1)
  where
    keys : List (List ℕ)
    keys = expired_keys now rows

    keys_by : (b : Bool) → is_expired now row ≡ b → expired_keys now (row ∷ rows) ≡ map (λ (row : Row). row.key) (cond b (row ∷ filter (is_expired now) rows) (filter (is_expired now) rows))
    keys_by b e = ap (λ x. map (λ (row : Row). row.key) (cond x (row ∷ filter (is_expired now) rows) (filter (is_expired now) rows))) e

    absent : (class_number row.class == 2) ≡ true → row_at rows Until row.key ≡ None
    absent e = ap (λ k. row_at rows k row.key) (sym (is_until row.class e)) ∙ h.0

    alone : (a : Bool) → (class_number row.class == 2) ≡ a → (a && list_any (bytes_eq row.key) keys) ≡ false
    alone true e = not_expired now rows row.key (absent e)
    alone false e = refl

    by_test : (b : Bool) → is_expired now row ≡ b → Every (NamesExpired now keys) rows → Every (NamesExpired now (expired_keys now (row ∷ rows))) (row ∷ rows)
    by_test true e rest =
        let class = and_left (class_number row.class == 2) _ e in
        subst (λ l. Every (NamesExpired now l) (row ∷ rows)) (sym (keys_by true e))
        (ap (λ a. a && (bytes_eq row.key row.key || list_any (bytes_eq row.key) keys)) class ∙ ap (λ b. b || list_any (bytes_eq row.key) keys) (same_itself row.key) ∙ sym e, other_key now row.key keys rows (absent class) rest)
    by_test false e rest =
        subst (λ l. Every (NamesExpired now l) (row ∷ rows)) (sym (keys_by false e)) (alone (class_number row.class == 2) refl ∙ sym e, rest)

filter_same : {A : Type 0} (p q : A → Bool) (xs : List A) → Every (λ x. p x ≡ q x) xs → filter (λ x. not (p x)) xs ≡ filter (λ x. not (q x)) xs
filter_same p q [] h = refl
filter_same p q (x ∷ xs) h = ap (λ b. cond (not b) (x ∷ filter (λ x. not (p x)) xs) (filter (λ x. not (p x)) xs)) h.0 ∙ ap (λ l. cond (not (q x)) (x ∷ l) l) (filter_same p q xs h.1)

-- the rows without the keys of expired ones are those that are not expired
pub expired_are : (now : ℕ) (rows : List Row) → Once rows → rows_without Until (expired_keys now rows) rows ≡ filter (λ row. not (is_expired now row)) rows
expired_are now rows h = filter_same (λ (row : Row). (class_number row.class == 2) && list_any (bytes_eq row.key) (expired_keys now rows)) (is_expired now) rows (each_named now rows h)

-- whether ropes may go, in terms of the tables
pub may_go_shown : (held : List (List Piece)) (form : ℕ) (d : Durable Spot) (old : Table) (rows left : List Row) (moment next : ℕ) (ids : List ℕ) → ShowsKept held old rows moment next d → left ≡ filter (λ row. not (is_expired d.moment row)) d.rows
    → list_all (λ id. is_some (rope_of old.ropes id) && not (has_row left id)) ids ≡ list_all (may_go (without_expired form d)) ids
may_go_shown held form d old rows left moment next ids h is =
    same_all (λ id. is_some (rope_of old.ropes id) && not (has_row left id)) (may_go (without_expired form d))
    (λ id.
    ap (λ b. b && not (has_row left id))
    (ap (λ l. is_some (rope_of l id)) h.ropes ∙ ap is_some (rope_of-shown d.shape.graces d.rows d.ropes id) ∙ some_mapped (shown_rope d.shape.graces d.rows) (rope_at d.ropes id)
    ∙ sym (live_settled form d.moment 2 d.rows (filter (λ row. not (is_expired d.moment row)) d.rows) d.ropes id))
    ∙ ap (λ l. is_live (without_expired form d).ropes id && not (has_row l id)) is) ids

-- ---- ropes go

filter_shown : (g : Graces) (rows : List Row) (gone : List ℕ) (ropes : List (Live Spot)) → filter (λ rope. not (among gone rope.id)) (map (shown_rope g rows) ropes) ≡ map (shown_rope g rows) (filter (λ rope. not (among gone rope.id)) ropes)
filter_shown g rows gone [] = refl
filter_shown g rows gone (rope ∷ ropes) = by_test (not (among gone rope.id)) (filter_shown g rows gone ropes)
  where
    by_test : (b : Bool) → filter (λ rope. not (among gone rope.id)) (map (shown_rope g rows) ropes) ≡ map (shown_rope g rows) (filter (λ rope. not (among gone rope.id)) ropes)
        → cond b (shown_rope g rows rope ∷ filter (λ rope. not (among gone rope.id)) (map (shown_rope g rows) ropes)) (filter (λ rope. not (among gone rope.id)) (map (shown_rope g rows) ropes)) ≡ map (shown_rope g rows) (cond b (rope ∷ filter (λ rope. not (among gone rope.id)) ropes) (filter (λ rope. not (among gone rope.id)) ropes))
    by_test true e = ap (λ l. shown_rope g rows rope ∷ l) e
    by_test false e = e

-- the ropes of a sweep went, after its rows
pub swept_shown : (held : List (List Piece)) (form : ℕ) (d : Durable Spot) (ids : List ℕ) (old new : Table) (rows : List Row) (moment next : ℕ) → ShowsKept held old rows moment next (without_expired form d)
    → new.ropes ≡ filter (λ rope. not (among ids rope.id)) old.ropes → new.block ≡ old.block → Counts new held → ShowsKept held new rows moment next (changed form d (Swept ids))
swept_shown held form d ids old new rows moment next h ropes block uses = record {
  block = block ∙ h.block;
  ropes = let left = without_expired form d in ropes ∙ ap (filter (λ (rope : Rope). not (among ids rope.id))) h.ropes ∙ filter_shown d.shape.graces left.rows ids left.ropes;
  uses = uses;
  rows = h.rows;
  moment = h.moment;
  next = h.next;
}
