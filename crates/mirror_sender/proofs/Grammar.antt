-- The effects of calls have good packets.
use Rattle.std.proofs.Common.{◌≡◌, ℕ, zero, suc, ◌+◌, ◌-◌, ◌<◌, ◌≤◌, ◌^◌, ◌==◌, Bool, true, false, cond, not, ◌&&◌, nat_lt, nat_le, List, [], ◌∷◌, ◌++◌, map, length, take, drop, Some, None, refl, sym, ◌∙◌, ap, subst, arith}
use Rattle.std.specs.Prelude.{filter, is_some}
use Rattle.std.specs.List.{list_all}
use Rattle.std.proofs.lemmas.Bool.{le-leb, lt-ltb, ltb-true, eqb-true}
use Rattle.std.proofs.lemmas.Slice.Eq.{bytes_eq-Decides}
use Rattle.voice_units.specs.declared.pieces.Piece.{Piece}
use Rattle.voice_units.specs.Spots.{Spot, slice, replaced, spots_from, spots_of, pieces_of, nowhere, samples_in, IsNormal}
use Rattle.voice_units.proofs.PiecesOfRopes.{both, spots_of-runs, normal}
use Rattle.voice_units.proofs.Counts.{samples_in_runs}
use Rattle.voice_model.specs.Samples.{Tagged, spot_of, recorded_from, recording, spots_in_rope, pieces_in}
use Rattle.voice_model.specs.State.{State, Durable, Live, rope_at, is_live, samples_of, samples_or_none, joined, row_at, is_row, class_number}
use Rattle.voice_model.specs.State.Effect.{Recorded, Edited, Retained, Counted, Swept, Advanced}
use Rattle.voice_model.specs.Changes.{effect_of, taking_of, unless_empty, unlisted_keys, is_unlisted, if_any, expired_rows, swept_ropes, without_expired, is_due, is_expired}
use Rattle.voice_model.specs.Step.{refusal, conditions, if_missing}
use Rattle.voice_model.specs.Spelling.{keeps_grammar, is_id, is_piece, are_pieces, are_apart, is_key, is_note, is_moment, fits, rise}
use Rattle.voice_model.specs.Tapes.{taken}
use Rattle.voice_model.specs.Valid.{Every, Rising, IsKept, IsNextRope, IsRow, IsState, InRange}
use Rattle.voice_model.specs.declared.calls.Call.{Call}
use Rattle.voice_model.specs.declared.calls.Call.TheVariants as calls
use Rattle.voice_model.specs.declared.calls.Class.{Class}
use Rattle.voice_model.specs.declared.calls.Row.{Row}
use Rattle.voice_model.specs.declared.changes.Change.TheVariants as changes
use Rattle.voice_model.proofs.KeptByChanges.{every-append, every-map, every-imply, every-filter, kept_with_rows}
use Rattle.voice_model.proofs.Order.{every-split}
use Rattle.voice_model.proofs.FitsOfCalls.{all_none, fit_call, every_take, recorded_length}
use Rattle.mirror_sender.specs.Laws.{IsInFile, AreInFiles, HaveFiles, IsGoodEffect, MayBeGood, IsSmall}

-- ---- tests

pub join : (a b : Bool) → a ≡ true → b ≡ true → (a && b) ≡ true
join a b e f = ap (λ x. x && b) e ∙ f

pub id_test : (n : ℕ) → 1 ≤ n → n ≤ 2 ^ 48 → is_id n ≡ true
id_test n low high = join (nat_le 1 n) (nat_le n (2 ^ 48)) (le-leb 1 n low) (le-leb n (2 ^ 48) high)

-- ---- pieces of samples in files

last_place : (file from n : ℕ) → Every IsInFile (spots_from file from (suc n)) → from + suc n ≤ 2 ^ 30
last_place file from zero h = let most = h.0.place_limit in omega (arith, most)
last_place file from (suc n) h = let rest = last_place file (from + 1) n h.1 in omega (arith, rest)

piece_test : (file from len : ℕ) → 1 ≤ len → Every IsInFile (spots_from file from len) → is_piece (record { file = file; from = from; len = len }) ≡ true
piece_test file from zero some h = absurd (omega (arith, some))
piece_test file from (suc n) some h =
    join (is_id file && nat_le 1 (suc n)) (nat_le (from + suc n) (2 ^ 30))
    (join (is_id file) (nat_le 1 (suc n)) (id_test file h.0.some_file h.0.file_limit) (le-leb 1 (suc n) some))
    (le-leb (from + suc n) (2 ^ 30) (last_place file from n h))

each_piece : (ps : List Piece) → IsNormal ps → Every IsInFile (spots_of ps) → list_all is_piece ps ≡ true
each_piece [] h k = refl
each_piece (p ∷ []) h k = let own = every-split IsInFile (spots_from p.file p.from p.len) [] k in join (is_piece p) true (piece_test p.file p.from p.len h own.0) refl
each_piece (p ∷ q ∷ ps) h k =
    let own = every-split IsInFile (spots_from p.file p.from p.len) (spots_of (q ∷ ps)) k in
    join (is_piece p) (list_all is_piece (q ∷ ps)) (piece_test p.file p.from p.len h.0 own.0) (each_piece (q ∷ ps) h.2 own.1)

apart_test : (ps : List Piece) → IsNormal ps → are_apart ps ≡ true
apart_test [] h = refl
apart_test (p ∷ []) h = refl
apart_test (p ∷ q ∷ ps) h =
    join (not ((p.file == q.file) && (p.from + p.len == q.from))) (are_apart (q ∷ ps))
    (not_both (p.file == q.file) (p.from + p.len == q.from) (λ e f. h.1 (eqb-true p.file q.file e, eqb-true (p.from + p.len) q.from f)))
    (apart_test (q ∷ ps) h.2)
  where
    not_both : (a b : Bool) → (a ≡ true → b ≡ true → ⊥) → not (a && b) ≡ true
    not_both true true h = absurd (h refl refl)
    not_both true false h = refl
    not_both false b h = refl

pieces_test : (ss : List Spot) → length ss ≤ 2 ^ 30 → length (pieces_of ss) ≤ 4096 → Every IsInFile ss → are_pieces (pieces_of ss) ≡ true
pieces_test ss long many h =
    let ps = pieces_of ss in
    let count = samples_in_runs nowhere ss in
    join _ _
    (join _ _ (join (nat_le (length ps) 4096) (list_all is_piece ps) (le-leb (length ps) 4096 many) (each_piece ps (normal ss) (subst (Every IsInFile) (sym (spots_of-runs nowhere ss)) h)))
    (le-leb (samples_in ps) (2 ^ 30) (omega (arith, count, long))))
    (apart_test ps (normal ss))

as_many : {A B : Type 0} (f : A → B) (xs : List A) → length (map f xs) ≡ length xs
as_many f [] = refl
as_many f (x ∷ xs) = ap suc (as_many f xs)

take_few : {A : Type 0} (n : ℕ) (xs : List A) → length (take n xs) ≤ n
take_few zero xs = omega arith
take_few (suc n) [] = omega arith
take_few (suc n) (x ∷ xs) = let rest = take_few n xs in omega (arith, rest)

-- ---- numbers

rising_end : (low : ℕ) (ropes : List (Live Tagged)) (next : ℕ) → Rising low ropes next → low ≤ next
rising_end low [] next h = h
rising_end low (rope ∷ ropes) next h = let first = h.0 in let rest = rising_end (rope.id + 1) ropes next h.1 in omega (arith, first, rest)

-- a rope that may come next has a number
next_id : (form : ℕ) (d : Durable Tagged) (id : ℕ) (samples : List Tagged) → IsKept form d → IsNextRope d id samples → (1 ≤ id) × (id ≤ 2 ^ 48)
next_id form d id samples h fit = let low = rising_end 1 d.ropes d.next h.rising in let next = fit.next in (omega (arith, low, next), fit.number)

live_number : (low : ℕ) (ropes : List (Live Tagged)) (next id : ℕ) → Rising low ropes next → is_live ropes id ≡ true → (low ≤ id) × (id < next)
live_number low [] next id h e = cc
live_number low (rope ∷ ropes) next id h e = by_number (rope.id == id) refl (live_number (rope.id + 1) ropes next id h.1) e
  where
    by_number : (b : Bool) → (rope.id == id) ≡ b → (is_live ropes id ≡ true → (rope.id + 1 ≤ id) × (id < next)) → is_some (cond b (Some rope) (rope_at ropes id)) ≡ true → (low ≤ id) × (id < next)
    by_number true f later k = let first = h.0 in let rest = rising_end (rope.id + 1) ropes next h.1 in let same = eqb-true rope.id id f in (omega (arith, first, same), omega (arith, rest, same))
    by_number false f later k = let first = h.0 in let rest = later k in let low_rest = rest.0 in (omega (arith, first, low_rest), rest.1)

-- ---- samples in files

pub every_drop : {A : Type 0} (P : A → Type 0) (n : ℕ) (xs : List A) → Every P xs → Every P (drop n xs)
every_drop P zero xs h = h
every_drop P (suc n) [] h = tt
every_drop P (suc n) (x ∷ xs) h = every_drop P n xs h.1

abbrev InFile : Tagged → Type 0
InFile t = IsInFile (spot_of t)

recorded_files : (file place : ℕ) (bytes : List ℕ) → 1 ≤ file → file ≤ 2 ^ 48 → place + length bytes ≤ 2 ^ 30 → AreInFiles (recorded_from file place bytes)
recorded_files file place [] low high long = tt
recorded_files file place (b ∷ bytes) low high long = (record { some_file = low; file_limit = high; place_limit = omega (arith, long) }, recorded_files file (place + 1) bytes low high (omega (arith, long)))

rope_files : (ropes : List (Live Tagged)) (id : ℕ) → HaveFiles ropes → AreInFiles (samples_of ropes id)
rope_files [] id h = tt
rope_files (rope ∷ ropes) id h = here (rope.id == id) (rope_files ropes id h.1)
  where
    here : (b : Bool) → AreInFiles (samples_of ropes id) → AreInFiles (samples_or_none (cond b (Some rope) (rope_at ropes id)))
    here true later = h.0
    here false later = later

joined_files : (ropes : List (Live Tagged)) (ids : List ℕ) → HaveFiles ropes → AreInFiles (joined ropes ids)
joined_files ropes [] h = tt
joined_files ropes (id ∷ ids) h = every-append InFile (samples_of ropes id) (joined ropes ids) (rope_files ropes id h) (joined_files ropes ids h)

sliced_files : (xs : List Tagged) (start len : ℕ) → AreInFiles xs → AreInFiles (slice xs start len)
sliced_files xs start len h = every_take InFile len (drop start xs) (every_drop InFile start xs h)

replaced_files : (xs ys : List Tagged) (start len : ℕ) → AreInFiles xs → AreInFiles ys → AreInFiles (replaced xs start len ys)
replaced_files xs ys start len h k =
    every-append InFile (slice xs 0 start ++ ys) (drop (start + len) xs) (every-append InFile (slice xs 0 start) ys (sliced_files xs 0 start h) k) (every_drop InFile (start + len) xs h)

-- ---- ropes

recorded_good : (form : ℕ) (d : Durable Tagged) (bytes : List ℕ) → IsKept form d → IsNextRope d d.next (recording d.next bytes) → IsGoodEffect (Recorded d.next (recording d.next bytes))
recorded_good form d bytes h fit =
    let id = next_id form d d.next (recording d.next bytes) h fit in
    let long = fit.long in
    let same = recorded_length d.next 0 bytes in
    record {
      body = (id_test d.next id.0 id.1, subst (λ n. n ≤ 2 ^ 30) (sym (as_many (λ (t : Tagged). t.byte) (recording d.next bytes))) long);
      files = recorded_files d.next 0 bytes id.0 id.1 (omega (arith, long, same));
    }

edited_good : (form : ℕ) (d : Durable Tagged) (samples : List Tagged) → IsKept form d → IsNextRope d d.next samples → AreInFiles samples → IsGoodEffect (Edited d.next samples)
edited_good form d samples h fit files =
    let id = next_id form d d.next samples h fit in
    let long = subst (λ n. n ≤ 2 ^ 30) (sym (as_many spot_of samples)) fit.long in
    record {
      body = (refl, join (is_id d.next) (are_pieces (pieces_in samples)) (id_test d.next id.0 id.1) (pieces_test (spots_in_rope samples) long fit.many (every-map InFile IsInFile spot_of (λ t k. k) samples files)));
      files = files;
    }

-- ---- rows

retained_good : (form : ℕ) (d : Durable Tagged) (row : Row) → IsKept form d → IsRow d.ropes row → IsGoodEffect (Retained row)
retained_good form d row h k =
    let number = live_number 1 d.ropes d.next row.rope h.rising k.live in
    let below = number.1 in
    let limit = h.next_limit in
    record {
      body = (refl, join (is_key row.key && is_id row.rope) (is_note row.class row.note) (join (is_key row.key) (is_id row.rope) k.key (id_test row.rope number.0 (omega (arith, below, limit)))) k.note);
      files = tt;
    }

-- a key of a row
key_named : (ropes : List (Live Tagged)) (rows : List Row) (class : Class) (key : List ℕ) → Every (IsRow ropes) rows → if_missing (row_at rows class key) ≡ None → is_key key ≡ true
key_named ropes [] class key h e = cc
key_named ropes (row ∷ rows) class key h e = here (is_row class key row) refl (key_named ropes rows class key h.1) e
  where
    here : (b : Bool) → is_row class key row ≡ b → (if_missing (row_at rows class key) ≡ None → is_key key ≡ true) → if_missing (cond b (Some row) (row_at rows class key)) ≡ None → is_key key ≡ true
    here true f later k = subst (λ l. is_key l ≡ true) ((bytes_eq-Decides row.key key).0 (both (class_number row.class == class_number class) _ f).1) h.0.key
    here false f later k = later k

row_keys : (ropes : List (Live Tagged)) (rows : List Row) → Every (IsRow ropes) rows → Every (λ (row : Row). is_key row.key ≡ true) rows
row_keys ropes rows h = every-imply (IsRow ropes) (λ (row : Row). is_key row.key ≡ true) (λ row k. k.key) rows h

all_keys : (rows : List Row) → Every (λ (row : Row). is_key row.key ≡ true) rows → list_all is_key (map (λ row. row.key) rows) ≡ true
all_keys [] h = refl
all_keys (row ∷ rows) h = join (is_key row.key) (list_all is_key (map (λ row. row.key) rows)) h.0 (all_keys rows h.1)

counted_grammar : (rows : List Row) (census : List (List ℕ)) → Every (λ (row : Row). is_key row.key ≡ true) rows → 1 ≤ length (unlisted_keys rows census) → keeps_grammar (changes.Census (unlisted_keys rows census)) ≡ true
counted_grammar rows census h some =
    let gone = filter (is_unlisted census) rows in
    let keys = unlisted_keys rows census in
    let few = take_few 65535 gone in
    let same = as_many (λ (row : Row). row.key) (take 65535 gone) in
    join (nat_le 1 (length keys) && fits 2 (length keys)) (list_all is_key keys)
    (join (nat_le 1 (length keys)) (fits 2 (length keys)) (le-leb 1 (length keys) some) (lt-ltb (length keys) (2 ^ 16) (omega (arith, few, same))))
    (all_keys (take 65535 gone) (every_take (λ (row : Row). is_key row.key ≡ true) 65535 gone (every-filter (λ (row : Row). is_key row.key ≡ true) (is_unlisted census) rows h)))

counted_good : (gone all : List (List ℕ)) → (1 ≤ length gone → keeps_grammar (changes.Census all) ≡ true) → MayBeGood (unless_empty gone (Counted all))
counted_good [] all h = tt
counted_good (key ∷ keys) all h = record { body = (refl, h (omega arith)); files = tt }

-- ---- the moment

advanced_good : (now moment : ℕ) (b : Bool) → moment ≤ 2 ^ 40 → (b ≡ true → now < moment) → MayBeGood (cond b (Some (Advanced moment)) None)
advanced_good now moment false limit later = tt
advanced_good now moment true limit later =
    let less = later refl in
    record { body = (refl, join (nat_le 1 moment) (is_moment moment) (le-leb 1 moment (omega (arith, less))) (le-leb moment (2 ^ 40) limit)); files = tt }

-- ---- sweeps

-- numbers from one on, rising
abbrev From : ℕ → List ℕ → ℕ → Type 0
From low [] next = low ≤ next
From low (id ∷ ids) next = (low ≤ id) × From (id + 1) ids next

reaches : (low : ℕ) (ids : List ℕ) (next : ℕ) → From low ids next → low ≤ next
reaches low [] next h = h
reaches low (id ∷ ids) next h = let rest = reaches (id + 1) ids next h.1 in let first = h.0 in omega (arith, rest, first)

from_lower : (least low : ℕ) (ids : List ℕ) (next : ℕ) → least ≤ low → From low ids next → From least ids next
from_lower least low [] next le h = omega (arith, le, h)
from_lower least low (id ∷ ids) next le h = (let first = h.0 in omega (arith, le, first), h.1)

from_filter : (p : Live Tagged → Bool) (low : ℕ) (ropes : List (Live Tagged)) (next : ℕ) → Rising low ropes next → From low (map (λ rope. rope.id) (filter p ropes)) next
from_filter p low [] next h = h
from_filter p low (rope ∷ ropes) next h = by_test (p rope) (from_filter p (rope.id + 1) ropes next h.1)
  where
    by_test : (b : Bool) → From (rope.id + 1) (map (λ (rope : Live Tagged). rope.id) (filter p ropes)) next → From low (map (λ (rope : Live Tagged). rope.id) (cond b (rope ∷ filter p ropes) (filter p ropes))) next
    by_test true rest = (h.0, rest)
    by_test false rest = from_lower low (rope.id + 1) (map (λ (rope : Live Tagged). rope.id) (filter p ropes)) next (let first = h.0 in omega (arith, first)) rest

from_take : (n low : ℕ) (ids : List ℕ) (next : ℕ) → From low ids next → From low (take n ids) next
from_take zero low ids next h = reaches low ids next h
from_take (suc n) low [] next h = h
from_take (suc n) low (id ∷ ids) next h = (h.0, from_take n (id + 1) ids next h.1)

from_rises : (low : ℕ) (ids : List ℕ) (next : ℕ) → From low ids next → rise ids ≡ true
from_rises low [] next h = refl
from_rises low (a ∷ []) next h = refl
from_rises low (a ∷ b ∷ ids) next h = join (nat_lt a b) (rise (b ∷ ids)) (lt-ltb a b (let first = h.1.0 in omega (arith, first))) (from_rises (a + 1) (b ∷ ids) next h.1)

from_ids : (low : ℕ) (ids : List ℕ) (next : ℕ) → 1 ≤ low → next ≤ 2 ^ 48 + 1 → From low ids next → list_all is_id ids ≡ true
from_ids low [] next one most h = refl
from_ids low (id ∷ ids) next one most h =
    let above = reaches (id + 1) ids next h.1 in
    let first = h.0 in
    join (is_id id) (list_all is_id ids) (id_test id (omega (arith, one, first)) (omega (arith, above, most))) (from_ids (id + 1) ids next (omega arith) most h.1)

swept_grammar : (form : ℕ) (d : Durable Tagged) (limit : ℕ) → IsKept form d → limit < 2 ^ 16 → keeps_grammar (changes.Swept (swept_ropes form d limit)) ≡ true
swept_grammar form d limit h small =
    let left = without_expired form d in
    let kept = kept_with_rows form 2 (λ row. not (is_expired d.moment row)) d (omega arith) h in
    let due = map (λ (rope : Live Tagged). rope.id) (filter (is_due left) left.ropes) in
    let ids = swept_ropes form d limit in
    let from = from_take limit 1 due d.next (from_filter (is_due left) 1 left.ropes d.next kept.rising) in
    let few = take_few limit due in
    join (fits 2 (length ids) && list_all is_id ids) (rise ids)
    (join (fits 2 (length ids)) (list_all is_id ids) (lt-ltb (length ids) (2 ^ 16) (omega (arith, few, small))) (from_ids 1 ids d.next (omega arith) h.next_limit from))
    (from_rises 1 ids d.next from)

swept_good : (rows : List Row) (ids : List ℕ) → keeps_grammar (changes.Swept ids) ≡ true → MayBeGood (if_any rows ids)
swept_good [] [] h = tt
swept_good [] (id ∷ ids) h = record { body = (refl, h); files = tt }
swept_good (row ∷ rows) ids h = record { body = (refl, h); files = tt }

-- ---- calls

-- the change of a call that nothing refuses is good
pub made_good : (s : State) (tapes : List (List ℕ)) (call : Call) → IsState s → HaveFiles s.ropes → InRange call → IsSmall call → refusal s tapes call ≡ None → MayBeGood (effect_of s tapes call)
made_good s tapes (calls.Record take) h files range small free = recorded_good s.form s.kept (taken tapes take) h.kept (fit_call s tapes (calls.Record take) h range free)
made_good s tapes (calls.Concat ids) h files range small free = edited_good s.form s.kept (joined s.ropes ids) h.kept (fit_call s tapes (calls.Concat ids) h range free) (joined_files s.ropes ids files)
made_good s tapes (calls.Sub id start len) h files range small free =
    edited_good s.form s.kept (slice (samples_of s.ropes id) start len) h.kept (fit_call s tapes (calls.Sub id start len) h range free) (sliced_files (samples_of s.ropes id) start len (rope_files s.ropes id files))
made_good s tapes (calls.Replace id start len with) h files range small free =
    edited_good s.form s.kept (replaced (samples_of s.ropes id) start len (samples_of s.ropes with)) h.kept (fit_call s tapes (calls.Replace id start len with) h range free)
    (replaced_files (samples_of s.ropes id) (samples_of s.ropes with) start len (rope_files s.ropes id files) (rope_files s.ropes with files))
made_good s tapes (calls.End lane) h files range small free = recorded_good s.form s.kept (taking_of s lane) h.kept (fit_call s tapes (calls.End lane) h range free)
made_good s tapes (calls.Retain class key id note) h files range small free = retained_good s.form s.kept (record { class = class; key = key; rope = id; note = note }) h.kept (fit_call s tapes (calls.Retain class key id note) h range free).0
made_good s tapes (calls.Forget class key) h files range small free =
    let c = all_none (conditions s tapes (calls.Forget class key)) free in
    record { body = (refl, key_named s.ropes s.rows class key h.kept.each_row c.0); files = tt }
made_good s tapes (calls.Census keys) h files range small free = counted_good (unlisted_keys s.rows keys) (unlisted_keys s.rows keys) (counted_grammar s.rows keys (row_keys s.ropes s.rows h.kept.each_row))
made_good s tapes (calls.Advance moment) h files range small free = advanced_good s.moment moment (nat_lt s.moment moment) range (ltb-true s.moment moment)
made_good s tapes (calls.Sweep limit) h files range small free = swept_good (expired_rows s.kept) (swept_ropes s.form s.kept limit) (swept_grammar s.form s.kept limit h.kept small)
made_good s tapes (calls.Length id) h files range small free = tt
made_good s tapes (calls.Describe id) h files range small free = tt
made_good s tapes (calls.Levels id) h files range small free = tt
made_good s tapes (calls.Play lane id start len) h files range small free = tt
made_good s tapes (calls.Feed lane back) h files range small free = tt
made_good s tapes (calls.Stop lane) h files range small free = tt
made_good s tapes (calls.Lookup class key) h files range small free = tt
made_good s tapes calls.Landed h files range small free = tt
made_good s tapes (calls.Begin lane) h files range small free = tt
made_good s tapes (calls.Add lane take) h files range small free = tt
