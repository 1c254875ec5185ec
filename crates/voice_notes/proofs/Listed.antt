-- A `listed` row stays, and its rope stays live, as changes go by.
use Rattle.std.proofs.Common.{◌≡◌, ℕ, zero, suc, ◌==◌, Bool, true, false, cond, ◌||◌, ◌&&◌, List, [], ◌∷◌, ◌++◌, map, take, Option, Some, None, refl, sym, ◌∙◌, ap, subst, arith}
use Rattle.std.specs.Prelude.{not, filter, is_some, nat_lt, bytes_eq}
use Rattle.std.specs.List.{list_any}
use Rattle.std.proofs.lemmas.Slice.Eq.{bytes_eq-Decides}
use Rattle.std.proofs.lemmas.Bool.{eq-eqb}
use Rattle.voice_model.specs.Samples.{Tagged}
use Rattle.voice_model.specs.State.{State, Durable, Live, Effect, Pending, rope_at, is_live, among, is_row, row_at, has_row, settled, class_number}
use Rattle.voice_model.specs.Changes.{is_expired, is_unlisted, unlisted_keys, without_expired, is_due, swept_ropes, expired_rows, changed, unless_empty, if_any, effect_of}
use Rattle.voice_model.specs.Step.{brought_back, on_lanes, with_change, windows_home, recording_closed, asked_in, after_landing, landed, answered, after_reply, refusal, state_by, state_after, outcome_of, Outcome, after}
use Rattle.voice_model.specs.Valid.{Every}
use Rattle.voice_model.specs.declared.calls.Row.{Row}
use Rattle.voice_model.specs.declared.calls.Class.{Class}
use Rattle.voice_model.specs.declared.calls.Class.TheVariants.{Held, Until, Listed}
use Rattle.voice_model.specs.declared.calls.Call.{Call}
use Rattle.voice_model.specs.declared.calls.Call.TheVariants as calls
use Rattle.voice_model.specs.declared.calls.Why.{Why}
use Rattle.voice_model.specs.declared.calls.Entry.{Entry}
use Rattle.voice_notes.specs.Kept.{Drops, IsListed}

-- ---- tests over lists

none_take : {A : Type 0} (test : A → Bool) (n : ℕ) (xs : List A) → list_any test xs ≡ false → list_any test (take n xs) ≡ false
none_take test zero [] h = refl
none_take test (suc n) [] h = refl
none_take test zero (x ∷ xs) h = refl
none_take test (suc n) (x ∷ xs) h = by (test x) h (none_take test n xs)
  where
    by : (b : Bool) → (b || list_any test xs) ≡ false → (list_any test xs ≡ false → list_any test (take n xs) ≡ false) → (b || list_any test (take n xs)) ≡ false
    by true h rest = h
    by false h rest = rest h

none_filter : {A : Type 0} (test p : A → Bool) (xs : List A) → ((x : A) → p x ≡ true → test x ≡ false) → list_any test (filter p xs) ≡ false
none_filter test p [] h = refl
none_filter test p (x ∷ xs) h = by (p x) (h x) (none_filter test p xs h)
  where
    by : (b : Bool) → (b ≡ true → test x ≡ false) → list_any test (filter p xs) ≡ false → list_any test (cond b (x ∷ filter p xs) (filter p xs)) ≡ false
    by true k rest = subst (λ t. (t || list_any test (filter p xs)) ≡ false) (sym (k refl)) rest
    by false k rest = rest

any_map : {A B : Type 0} (test : B → Bool) (f : A → B) (xs : List A) → list_any test (map f xs) ≡ list_any (λ x. test (f x)) xs
any_map test f [] = refl
any_map test f (x ∷ xs) = ap (λ b. test (f x) || b) (any_map test f xs)

-- ---- the row

-- the row has the class and the key by which it is found
is_found : (rows : List Row) (class : Class) (key : List ℕ) (row : Row) → row_at rows class key ≡ Some row → is_row class key row ≡ true
is_found [] class key row h = cc
is_found (r ∷ rows) class key row h = by (is_row class key r) refl h (is_found rows class key row)
  where
    by : (b : Bool) → is_row class key r ≡ b → cond b (Some r) (row_at rows class key) ≡ Some row → (row_at rows class key ≡ Some row → is_row class key row ≡ true) → is_row class key row ≡ true
    by true e h rest = let same : r ≡ row = cc in subst (λ r. is_row class key r ≡ true) same e
    by false e h rest = rest h

found_filter : (p : Row → Bool) (rows : List Row) (class : Class) (key : List ℕ) (row : Row) → p row ≡ true → row_at rows class key ≡ Some row → row_at (filter p rows) class key ≡ Some row
found_filter p [] class key row k h = h
found_filter p (r ∷ rows) class key row k h = by (is_row class key r) (p r) refl refl h (found_filter p rows class key row k)
  where
    by : (b q : Bool) → is_row class key r ≡ b → p r ≡ q → cond b (Some r) (row_at rows class key) ≡ Some row → (row_at rows class key ≡ Some row → row_at (filter p rows) class key ≡ Some row)
        → row_at (cond q (r ∷ filter p rows) (filter p rows)) class key ≡ Some row
    by true true e f h rest = subst (λ b. cond b (Some r) (row_at (filter p rows) class key) ≡ Some row) (sym e) h
    by true false e f h rest = let same : r ≡ row = cc in let no : true ≡ false = sym k ∙ ap p (sym same) ∙ f in cc
    by false true e f h rest = subst (λ b. cond b (Some r) (row_at (filter p rows) class key) ≡ Some row) (sym e) (rest h)
    by false false e f h rest = rest h

found_append : (rows others : List Row) (class : Class) (key : List ℕ) (row : Row) → row_at rows class key ≡ Some row → row_at (rows ++ others) class key ≡ Some row
found_append [] others class key row h = cc
found_append (r ∷ rows) others class key row h = by (is_row class key r) h (found_append rows others class key row)
  where
    by : (b : Bool) → cond b (Some r) (row_at rows class key) ≡ Some row → (row_at rows class key ≡ Some row → row_at (rows ++ others) class key ≡ Some row) → cond b (Some r) (row_at (rows ++ others) class key) ≡ Some row
    by true h rest = h
    by false h rest = rest h

same_number : (n : ℕ) → (n == n) ≡ true
same_number n = eq-eqb n n refl

found_has : (rows : List Row) (class : Class) (key : List ℕ) (row : Row) → row_at rows class key ≡ Some row → has_row rows row.rope ≡ true
found_has [] class key row h = cc
found_has (r ∷ rows) class key row h = by (is_row class key r) h (found_has rows class key row)
  where
    any : (b : Bool) → has_row rows row.rope ≡ true → (b || has_row rows row.rope) ≡ true
    any true k = refl
    any false k = k

    by : (b : Bool) → cond b (Some r) (row_at rows class key) ≡ Some row → (row_at rows class key ≡ Some row → has_row rows row.rope ≡ true) → has_row (r ∷ rows) row.rope ≡ true
    by true h rest = let same : r ≡ row = cc in subst (λ q. ((r.rope == q.rope) || has_row rows q.rope) ≡ true) same (ap (λ b. b || has_row rows r.rope) (same_number r.rope))
    by false h rest = any (r.rope == row.rope) (rest h)

-- ---- the rope

live_append : {A : Type 0} (ropes others : List (Live A)) (id : ℕ) → is_live ropes id ≡ true → is_live (ropes ++ others) id ≡ true
live_append [] others id h = cc
live_append (rope ∷ ropes) others id h = by (rope.id == id) h (live_append ropes others id)
  where
    by : (b : Bool) → is_some (cond b (Some rope) (rope_at ropes id)) ≡ true → (is_live ropes id ≡ true → is_live (ropes ++ others) id ≡ true) → is_some (cond b (Some rope) (rope_at (ropes ++ others) id)) ≡ true
    by true h rest = refl
    by false h rest = rest h

live_map : {A : Type 0} (f : Live A → Live A) (ropes : List (Live A)) (id : ℕ) → ((rope : Live A) → (f rope).id ≡ rope.id) → is_live ropes id ≡ true → is_live (map f ropes) id ≡ true
live_map f [] id same h = h
live_map f (rope ∷ ropes) id same h = subst (λ n. is_some (cond (n == id) (Some (f rope)) (rope_at (map f ropes) id)) ≡ true) (sym (same rope)) (by (rope.id == id) h (live_map f ropes id same))
  where
    by : (b : Bool) → is_some (cond b (Some rope) (rope_at ropes id)) ≡ true → (is_live ropes id ≡ true → is_live (map f ropes) id ≡ true) → is_some (cond b (Some (f rope)) (rope_at (map f ropes) id)) ≡ true
    by true h rest = refl
    by false h rest = rest h

live_filter : {A : Type 0} (p : Live A → Bool) (ropes : List (Live A)) (id : ℕ) → ((rope : Live A) → (rope.id == id) ≡ true → p rope ≡ true) → is_live ropes id ≡ true → is_live (filter p ropes) id ≡ true
live_filter p [] id stays h = h
live_filter p (rope ∷ ropes) id stays h = by (rope.id == id) (p rope) refl (stays rope) h (live_filter p ropes id stays)
  where
    by : (b q : Bool) → (rope.id == id) ≡ b → ((rope.id == id) ≡ true → q ≡ true) → is_some (cond b (Some rope) (rope_at ropes id)) ≡ true → (is_live ropes id ≡ true → is_live (filter p ropes) id ≡ true)
        → is_live (cond q (rope ∷ filter p ropes) (filter p ropes)) id ≡ true
    by true true e f h rest = subst (λ b. is_some (cond b (Some rope) (rope_at (filter p ropes) id)) ≡ true) (sym e) refl
    by true false e f h rest = let no = f e in cc
    by false true e f h rest = subst (λ b. is_some (cond b (Some rope) (rope_at (filter p ropes) id)) ≡ true) (sym e) (rest h)
    by false false e f h rest = rest h

settled_id : {A : Type 0} (form now class : ℕ) (before after : List Row) (rope : Live A) → (settled form now class before after rope).id ≡ rope.id
settled_id form now class before after rope = by (has_row before rope.id && not (has_row after rope.id))
  where
    by : (b : Bool) → (cond b (record rope { idle = now; last = cond (form == 2) class rope.last }) rope).id ≡ rope.id
    by true = refl
    by false = refl

-- ---- changes

-- the row stands, and its rope is live
record Stands (key : List ℕ) (row : Row) (d : Durable Tagged) : Type 0 where
  row_stands : row_at d.rows Listed key ≡ Some row
  live : is_live d.ropes row.rope ≡ true

-- a change that leaves both, wherever it is done
abbrev IsHarmless : Row → Effect Tagged → Type 0
IsHarmless row (Effect.Forgotten class other) = is_row class other row ≡ false
IsHarmless row (Effect.Counted keys) = list_any (bytes_eq row.key) keys ≡ false
IsHarmless row (Effect.Swept ids) = among ids row.rope ≡ false
IsHarmless row _ = Unit {0}

abbrev MayHarmNot : Row → Option (Effect Tagged) → Type 0
MayHarmNot row None = Unit {0}
MayHarmNot row (Some effect) = IsHarmless row effect

abbrev IsCalm : Row → Option Pending → Type 0
IsCalm row None = Unit {0}
IsCalm row (Some pending) = IsHarmless row pending.effect

-- what a test of both parts says of each
both_parts : (a b : Bool) → (a && b) ≡ true → (a ≡ true) × (b ≡ true)
both_parts true b h = (refl, h)
both_parts false b h = cc

class_is : (n : ℕ) → (n == 3) ≡ true → (n == 2) ≡ false
class_is n h = grind arith

not_first : (a b : Bool) → a ≡ false → not (a && b) ≡ true
not_first true b h = cc
not_first false b h = refl

not_expired : (now : ℕ) (key : List ℕ) (row : Row) → is_row Listed key row ≡ true → not (is_expired now row) ≡ true
not_expired now key row h = not_first (class_number row.class == 2) _ (class_is (class_number row.class) (both_parts (class_number row.class == 3) (bytes_eq row.key key) h).0)

not_left : (a b : Bool) → b ≡ false → not (a && b) ≡ true
not_left true b h = ap not h
not_left false b h = refl

differs : (ids : List ℕ) (id other : ℕ) → among ids id ≡ false → (other == id) ≡ true → not (among ids other) ≡ true
differs ids id other h e = let same : other ≡ id = grind arith in ap not (ap (among ids) same ∙ h)

stands_changed : (form : ℕ) (key : List ℕ) (row : Row) (d : Durable Tagged) (effect : Effect Tagged) → Stands key row d → IsHarmless row effect → Stands key row (changed form d effect)
stands_changed form key row d (Effect.Recorded id samples) h k = record { row_stands = h.row_stands; live = live_append d.ropes _ row.rope h.live }
stands_changed form key row d (Effect.Edited id samples) h k = record { row_stands = h.row_stands; live = live_append d.ropes _ row.rope h.live }
stands_changed form key row d (Effect.Retained other) h k = record { row_stands = found_append d.rows _ Listed key row h.row_stands; live = h.live }
stands_changed form key row d (Effect.Forgotten class other) h k = record {
  row_stands = found_filter (λ r. not (is_row class other r)) d.rows Listed key row (ap not k) h.row_stands;
  live = live_map _ d.ropes row.rope (settled_id form d.moment (class_number class) d.rows _) h.live;
}
stands_changed form key row d (Effect.Counted keys) h k = record {
  row_stands = found_filter (λ r. not ((class_number r.class == 3) && list_any (bytes_eq r.key) keys)) d.rows Listed key row (not_left (class_number row.class == 3) _ k) h.row_stands;
  live = live_map _ d.ropes row.rope (settled_id form d.moment 3 d.rows _) h.live;
}
stands_changed form key row d (Effect.Swept ids) h k = record {
  row_stands = found_filter (λ r. not (is_expired d.moment r)) d.rows Listed key row (not_expired d.moment key row (is_found d.rows Listed key row h.row_stands)) h.row_stands;
  live = live_filter _ _ row.rope (λ rope e. differs ids row.rope rope.id k e) (live_map _ d.ropes row.rope (settled_id form d.moment 2 d.rows _) h.live);
}
stands_changed form key row d (Effect.Advanced moment) h k = record { row_stands = h.row_stands; live = h.live }

-- ---- the change of a call

-- a census that lists the key drops other keys alone
not_counted : (keys : List (List ℕ)) (key : List ℕ) (r : Row) → list_any (bytes_eq key) keys ≡ true → is_unlisted keys r ≡ true → bytes_eq key r.key ≡ false
not_counted keys key r listed gone = by (bytes_eq key r.key) refl
  where
    by : (b : Bool) → bytes_eq key r.key ≡ b → b ≡ false
    by false e = refl
    by true e =
        let same : key ≡ r.key = (bytes_eq-Decides key r.key).0 e in
        let there : list_any (bytes_eq r.key) keys ≡ true = subst (λ k. list_any (bytes_eq k) keys ≡ true) same listed in
        let out = (both_parts (class_number r.class == 3) (not (list_any (bytes_eq r.key) keys)) gone).1 in
        let no : not true ≡ true = subst (λ b. not b ≡ true) there out in cc

census_harmless : (rows : List Row) (keys : List (List ℕ)) (key : List ℕ) → list_any (bytes_eq key) keys ≡ true → list_any (bytes_eq key) (unlisted_keys rows keys) ≡ false
census_harmless rows keys key listed =
    any_map (bytes_eq key) (λ row. row.key) (take 65535 (filter (is_unlisted keys) rows))
    ∙ none_take (λ r. bytes_eq key r.key) 65535 (filter (is_unlisted keys) rows) (none_filter (λ r. bytes_eq key r.key) (is_unlisted keys) rows (λ r gone. not_counted keys key r listed gone))

-- a rope with a row is not due
not_due : (d : Durable Tagged) (id : ℕ) (rope : Live Tagged) → has_row d.rows id ≡ true → is_due d rope ≡ true → (rope.id == id) ≡ false
not_due d id rope has due = by (rope.id == id) refl
  where
    by : (b : Bool) → (rope.id == id) ≡ b → b ≡ false
    by false e = refl
    by true e =
        let same : rope.id ≡ id = grind arith in
        let none = (both_parts (not (has_row d.rows rope.id)) _ due).0 in
        let no : not true ≡ true = subst (λ b. not b ≡ true) (ap (has_row d.rows) same ∙ has) none in cc

sweep_harmless : (form : ℕ) (key : List ℕ) (row : Row) (d : Durable Tagged) (limit : ℕ) → Stands key row d → among (swept_ropes form d limit) row.rope ≡ false
sweep_harmless form key row d limit h =
    let left = without_expired form d in
    let stays = found_filter (λ r. not (is_expired d.moment r)) d.rows Listed key row (not_expired d.moment key row (is_found d.rows Listed key row h.row_stands)) h.row_stands in
    let has : has_row left.rows row.rope ≡ true = found_has left.rows Listed key row stays in
    none_take (λ other. other == row.rope) limit (map (λ rope. rope.id) (filter (is_due left) left.ropes))
    (any_map (λ other. other == row.rope) (λ rope. rope.id) (filter (is_due left) left.ropes)
    ∙ none_filter (λ rope. rope.id == row.rope) (is_due left) left.ropes (λ rope due. not_due left row.rope rope has due))

three : (class : Class) → (3 == class_number class) ≡ true → class ≡ Listed
three Held e = cc
three Until e = cc
three Listed e = refl

-- a Forget of another class or key
forget_harmless : (key : List ℕ) (row : Row) (class : Class) (other : List ℕ) → is_row Listed key row ≡ true → ¬ Drops key (calls.Forget class other) → is_row class other row ≡ false
forget_harmless key row class other h k = by (is_row class other row) refl
  where
    by : (b : Bool) → is_row class other row ≡ b → b ≡ false
    by false e = refl
    by true e =
        let own = both_parts (class_number row.class == 3) (bytes_eq row.key key) h in
        let its = both_parts (class_number row.class == class_number class) (bytes_eq row.key other) e in
        let number : class_number row.class ≡ 3 = grind (arith, own.0) in
        let listed : class ≡ Listed = three class (subst (λ n. (n == class_number class) ≡ true) number its.0) in
        let same : other ≡ key = sym ((bytes_eq-Decides row.key other).0 its.1) ∙ (bytes_eq-Decides row.key key).0 own.1 in
        absurd (k (listed, same))

key_of : (key : List ℕ) (row : Row) → is_row Listed key row ≡ true → row.key ≡ key
key_of key row h = (bytes_eq-Decides row.key key).0 (both_parts (class_number row.class == 3) (bytes_eq row.key key) h).1

unless_harmless : (row : Row) (gone : List (List ℕ)) → list_any (bytes_eq row.key) gone ≡ false → MayHarmNot row (unless_empty gone (Effect.Counted gone))
unless_harmless row [] h = tt
unless_harmless row (key ∷ gone) h = h

later_harmless : (row : Row) (b : Bool) (moment : ℕ) → MayHarmNot row (cond b (Some (Effect.Advanced moment)) None)
later_harmless row true moment = tt
later_harmless row false moment = tt

any_harmless : (row : Row) (rows : List Row) (ids : List ℕ) → among ids row.rope ≡ false → MayHarmNot row (if_any rows ids)
any_harmless row [] [] h = tt
any_harmless row [] (id ∷ ids) h = h
any_harmless row (r ∷ rows) ids h = h

listed_or : (b : Bool) → ¬ (b ≡ false) → b ≡ true
listed_or true k = refl
listed_or false k = absurd (k refl)

call_harmless : (s : State) (tapes : List (List ℕ)) (key : List ℕ) (row : Row) (call : Call) → Stands key row s.kept → ¬ Drops key call → MayHarmNot row (effect_of s tapes call)
call_harmless s tapes key row (calls.Forget class other) h k = forget_harmless key row class other (is_found s.rows Listed key row h.row_stands) k
call_harmless s tapes key row (calls.Census keys) h k =
    let same = key_of key row (is_found s.rows Listed key row h.row_stands) in
    unless_harmless row (unlisted_keys s.rows keys) (subst (λ own. list_any (bytes_eq own) (unlisted_keys s.rows keys) ≡ false) (sym same) (census_harmless s.rows keys key (listed_or (list_any (bytes_eq key) keys) k)))
call_harmless s tapes key row (calls.Sweep limit) h k = any_harmless row (expired_rows s.kept) (swept_ropes s.form s.kept limit) (sweep_harmless s.form key row s.kept limit h)
call_harmless s tapes key row (calls.Advance moment) h k = later_harmless row (nat_lt s.moment moment) moment
call_harmless s tapes key row (calls.Record take) h k = tt
call_harmless s tapes key row (calls.Concat ids) h k = tt
call_harmless s tapes key row (calls.Sub id start len) h k = tt
call_harmless s tapes key row (calls.Replace id start len with) h k = tt
call_harmless s tapes key row (calls.End lane) h k = tt
call_harmless s tapes key row (calls.Retain class other id note) h k = tt
call_harmless s tapes key row _ h k = tt

-- ---- entries

-- the row stands in a state, and no change in doubt would take it
record Keeps (key : List ℕ) (row : Row) (s : State) : Type 0 where
  stands : Stands key row s.kept
  calm : IsCalm row s.doubt

keeps_change : (s : State) (form : ℕ) (key : List ℕ) (row : Row) (o : Option (Effect Tagged)) → Keeps key row s → MayHarmNot row o → Keeps key row (with_change s form o)
keeps_change s form key row None h k = h
keeps_change s form key row (Some effect) h k = record { stands = stands_changed form key row s.kept effect h.stands k; calm = h.calm }

keeps_landing : (s : State) (key : List ℕ) (row : Row) (o : Option Pending) → Keeps key row s → IsCalm row o → Keeps key row (after_landing s o)
keeps_landing s key row None h k = h
keeps_landing s key row (Some pending) h k = record { stands = stands_changed pending.form key row s.kept pending.effect h.stands k; calm = h.calm }

keeps_landed : (s : State) (key : List ℕ) (row : Row) → Keeps key row s → Keeps key row (landed s)
keeps_landed s key row h = keeps_landing (record s { doubt = None }) key row s.doubt (record { stands = h.stands; calm = tt }) h.calm

keeps_brought : (s : State) (key : List ℕ) (row : Row) (lane : ℕ) (back : Option ℕ) → Keeps key row s → Keeps key row (brought_back s lane back)
keeps_brought s key row lane None h = h
keeps_brought s key row lane (Some m) h = record { stands = h.stands; calm = h.calm }

keeps_home : (s : State) (key : List ℕ) (row : Row) (call : Call) → Keeps key row s → Keeps key row (windows_home s call)
keeps_home s key row (calls.Feed lane back) h = keeps_brought s key row lane back h
keeps_home s key row _ h = h

keeps_lanes : (s : State) (tapes : List (List ℕ)) (key : List ℕ) (row : Row) (call : Call) → Keeps key row s → Keeps key row (on_lanes s tapes call)
keeps_lanes s tapes key row (calls.Play lane id start len) h = record { stands = h.stands; calm = h.calm }
keeps_lanes s tapes key row (calls.Feed lane back) h = let home = keeps_brought s key row lane back h in record { stands = home.stands; calm = home.calm }
keeps_lanes s tapes key row (calls.Stop lane) h = record { stands = h.stands; calm = h.calm }
keeps_lanes s tapes key row (calls.Begin lane) h = record { stands = h.stands; calm = h.calm }
keeps_lanes s tapes key row (calls.Add lane take) h = record { stands = h.stands; calm = h.calm }
keeps_lanes s tapes key row (calls.End lane) h = record { stands = h.stands; calm = h.calm }
keeps_lanes s tapes key row _ h = h

keeps_reply : (s : State) (tapes : List (List ℕ)) (key : List ℕ) (row : Row) (call : Call) (o : Option Why) → Keeps key row s → ¬ Drops key call → Keeps key row (after_reply s tapes call o)
keeps_reply s tapes key row call None h k = keeps_change (on_lanes s tapes call) s.form key row (effect_of s tapes call) (keeps_lanes s tapes key row call h) (call_harmless s tapes key row call h.stands k)
keeps_reply s tapes key row call (Some reason) h k = keeps_home s key row call h

keeps_answered : (s : State) (tapes : List (List ℕ)) (key : List ℕ) (row : Row) (call : Call) → Keeps key row s → ¬ Drops key call → Keeps key row (answered s tapes call)
keeps_answered s tapes key row calls.Landed h k = keeps_landed s key row h
keeps_answered s tapes key row call h k = keeps_reply s tapes key row call (refusal s tapes call) h k

calm_asked : (row : Row) (form : ℕ) (o : Option (Effect Tagged)) → MayHarmNot row o → IsCalm row (asked_in form o)
calm_asked row form None k = tt
calm_asked row form (Some effect) k = k

stands_closed : (s : State) (key : List ℕ) (row : Row) (call : Call) → Stands key row s.kept → Stands key row (recording_closed s call).kept
stands_closed s key row (calls.End lane) h = h
stands_closed s key row _ h = h

keeps_outcome : (o : Outcome) (s : State) (tapes : List (List ℕ)) (key : List ℕ) (row : Row) (call : Call) → Keeps key row s → ¬ Drops key call → Keeps key row (state_by o s tapes call)
keeps_outcome Outcome.Answered s tapes key row call h k = keeps_answered s tapes key row call h k
keeps_outcome Outcome.Faulted s tapes key row call h k = keeps_home s key row call h
keeps_outcome Outcome.Doubted s tapes key row call h k = record {
  stands = stands_closed s key row call h.stands;
  calm = calm_asked row s.form (effect_of s tapes call) (call_harmless s tapes key row call h.stands k);
}

keeps_history : (s : State) (tapes : List (List ℕ)) (key : List ℕ) (row : Row) (es : List Entry) → Keeps key row s → Every (λ e. ¬ Drops key e.call) es → (k : ℕ) → Keeps key row (after s tapes (take k es))
keeps_history s tapes key row [] h all zero = h
keeps_history s tapes key row [] h all (suc k) = h
keeps_history s tapes key row (e ∷ es) h all zero = h
keeps_history s tapes key row (e ∷ es) h all (suc k) =
    keeps_history (state_after s tapes e) tapes key row es (keeps_outcome (outcome_of e.reply) s tapes key row e.call h all.0) all.1 k

pub rope_kept : (s : State) (tapes : List (List ℕ)) (es : List Entry) (key : List ℕ) (rope : ℕ) → IsListed s key rope → Every (λ e. ¬ Drops key e.call) es → (k : ℕ) → is_live (after s tapes (take k es)).ropes rope ≡ true
rope_kept s tapes es key rope h all k =
    let first : Keeps key h.row s = record {
      stands = record { row_stands = h.stands; live = subst (λ id. is_live s.ropes id ≡ true) (sym h.of) h.live };
      calm = subst (λ o. IsCalm h.row o) (sym h.sure) tt;
    } in
    subst (λ id. is_live (after s tapes (take k es)).ropes id ≡ true) h.of (keeps_history s tapes key h.row es first all k).stands.live
