-- The bytes of a change are read as that change, and as no other.
use Rattle.std.proofs.Common.{◌≡◌, ℕ, zero, suc, ◌+◌, ◌*◌, ◌/◌, ◌%◌, ◌^◌, ◌≤◌, ◌<◌, Bool, true, false, ◌&&◌, List, [], ◌∷◌, ◌++◌, map, length, take, drop, Option, Some, None, refl, sym, ◌∙◌, ap, subst, arith, length-append, append_assoc}
use Rattle.std.proofs.Math.Seq.{take-append_seam, drop-append_seam, drop-append-add}
use Rattle.std.proofs.Math.Arith.{mod-mul}
use Rattle.std.proofs.Math.Nat.{pow-succ', mod-eq_of_lt}
use Rattle.std.proofs.lemmas.Bool.{leb-true, ltb-true}
use Rattle.std.proofs.lemmas.Slice.Eq.{bytes_eq-Decides}
use Rattle.std.specs.Prelude.{flat_map, fold, bytes_eq, nat_le}
use Rattle.std.specs.List.{list_all}
use Rattle.voice_units.specs.declared.pieces.Piece.{Piece}
use Rattle.voice_units.specs.Spots.{slice}
use Rattle.voice_units.proofs.PiecesOfRopes.{both}
use Rattle.disk_areas.specs.Numbers.{spelled_number, number_at, number_bytes}
use Rattle.voice_model.specs.State.{class_number}
use Rattle.voice_model.specs.Talk.{parts}
use Rattle.voice_model.specs.Spelling.{spelling, keeps_grammar, Spells, change_in, if_spelled, spelled_again, at_kind, fields_by_kind, read_numbers, read_piece, read_pieces, read_pair, read_pairs, read_texts, read_retained, class_of, piece_bytes, pair_bytes, text_bytes, fits, is_id, is_moment, is_next, is_piece, are_pieces, is_key, is_note, is_recording, is_file, rise}
use Rattle.voice_model.proofs.ChangesOfEffects.{number_length}
use Rattle.voice_model.specs.declared.lists.Pair.{Pair}
use Rattle.voice_model.specs.declared.changes.Change.{Change}
use Rattle.voice_model.specs.declared.changes.Change.TheVariants as changes
use Rattle.voice_model.specs.declared.calls.Class.{Class}
use Rattle.voice_model.specs.declared.calls.Class.TheVariants.{Held, Until, Listed}

-- ---- what is read was spelled so

same_bytes : (a b : List ℕ) → bytes_eq a b ≡ true → b ≡ a
same_bytes a b e = sym ((bytes_eq-Decides a b).0 e)

only_spelled : (bytes : List ℕ) (o : Option Change) (c : Change) → spelled_again bytes o ≡ Some c → Spells bytes c
only_spelled bytes None c h = cc
only_spelled bytes (Some d) c h = by (bytes_eq (spelling d) bytes && keeps_grammar d) refl h
  where
    some_same : (a b : Change) → Some a ≡ Some b → a ≡ b
    some_same a b e = cc

    by : (b : Bool) → (bytes_eq (spelling d) bytes && keeps_grammar d) ≡ b → if_spelled b d ≡ Some c → Spells bytes c
    by true e k =
        let tests = both (bytes_eq (spelling d) bytes) (keeps_grammar d) e in
        subst (Spells bytes) (some_same d c k) (record { bytes_of = same_bytes (spelling d) bytes tests.0; grammar = tests.1 })
    by false e k = cc

pub read_is_spelled : (bytes : List ℕ) (c : Change) → change_in bytes ≡ Some c → Spells bytes c
read_is_spelled bytes c h = only_spelled bytes (at_kind (fields_by_kind bytes) (number_at 1 0 bytes)) c h

-- ---- numbers

pow_positive : (width : ℕ) → 0 < 256 ^ width
pow_positive zero = omega arith
pow_positive (suc width) = let less = pow_positive width in let whole = pow-succ' 256 width in omega (arith, less, whole)

shifted : (from q p r s : ℕ) → s ≡ 256 * p → (from * 256 + q) * p + r ≡ from * s + (q * p + r)
shifted from q p r s e = subst (λ x. (from * 256 + q) * p + r ≡ from * x + (q * p + r)) (sym e) (grind arith)

folded : (width n from : ℕ) → fold (λ m b. m * 256 + b) from (number_bytes width n) ≡ from * 256 ^ width + n % 256 ^ width
folded zero n from = omega arith
folded (suc width) n from =
    let p = 256 ^ width in
    let q = n / p % 256 in
    let whole = pow-succ' 256 width in
    folded width n (from * 256 + q)
    ∙ shifted from q p (n % p) (256 ^ suc width) whole
    ∙ ap (λ x. from * 256 ^ suc width + x) (sym (mod-mul n (omega arith) (pow_positive width)) ∙ ap (λ x. n % x) (sym whole))

pub read_number : (width n : ℕ) → n < 256 ^ width → spelled_number (number_bytes width n) ≡ n
read_number width n h = let whole = folded width n 0 in let small = mod-eq_of_lt h in omega (arith, whole, small)

-- ---- lists

front_part : {A : Type 0} (width most : ℕ) (front rest : List A) → length front ≡ suc width → parts (suc width) (suc most) (front ++ rest) ≡ front ∷ parts (suc width) most rest
front_part width most [] rest e = absurd (omega (arith, e))
front_part width most (x ∷ front) rest e =
    let n : length front ≡ width = omega (arith, e) in
    ap (λ k. take (suc k) (x ∷ front ++ rest) ∷ parts (suc width) most (drop (suc k) (x ∷ front ++ rest))) (sym n)
    ∙ ap (λ l. (x ∷ l) ∷ parts (suc width) most (drop (length front) (front ++ rest))) (take-append_seam front rest)
    ∙ ap (λ l. (x ∷ front) ∷ parts (suc width) most l) (drop-append_seam front rest)

parts_none : (width most : ℕ) → parts {A = ℕ} width most [] ≡ []
parts_none width zero = refl
parts_none width (suc most) = refl

pub parts_again : {A : Type 0} (f : A → List ℕ) (width : ℕ) → ((x : A) → length (f x) ≡ suc width) → (xs : List A) (most : ℕ) → length xs ≤ most → parts (suc width) most (flat_map f xs) ≡ map f xs
parts_again f width each [] most h = parts_none (suc width) most
parts_again f width each (x ∷ xs) zero h = absurd (omega (arith, h))
parts_again f width each (x ∷ xs) (suc most) h =
    front_part width most (f x) (flat_map f xs) (each x)
    ∙ ap (λ l. f x ∷ l) (parts_again f width each xs most (omega (arith, h)))

read_each : {A : Type 0} (read : List ℕ → A) (f : A → List ℕ) (good : A → Bool) → ((x : A) → good x ≡ true → read (f x) ≡ x) → (xs : List A) → list_all good xs ≡ true → map read (map f xs) ≡ xs
read_each read f good each [] h = refl
read_each read f good each (x ∷ xs) h =
    let tests = both (good x) (list_all good xs) h in
    ap (λ y. y ∷ map read (map f xs)) (each x tests.0) ∙ ap (λ l. x ∷ l) (read_each read f good each xs tests.1)

long_enough : {A : Type 0} (f : A → List ℕ) (width : ℕ) → ((x : A) → length (f x) ≡ suc width) → (xs : List A) → length xs ≤ length (flat_map f xs)
long_enough f width each [] = omega arith
long_enough f width each (x ∷ xs) =
    let first = each x in
    let rest = long_enough f width each xs in
    let whole = length-append (f x) (flat_map f xs) in
    omega (arith, first, rest, whole)

-- a list that is spelled behind `before` bytes is read again
pub read_list : {A : Type 0} (read : List ℕ → A) (f : A → List ℕ) (good : A → Bool) (width before : ℕ) → ((x : A) → length (f x) ≡ suc width) → ((x : A) → good x ≡ true → read (f x) ≡ x) → (xs : List A) → list_all good xs ≡ true → (size : ℕ) → size ≡ before + length (flat_map f xs) → map read (parts (suc width) size (flat_map f xs)) ≡ xs
read_list read f good width before each again xs h size e =
    let enough = long_enough f width each xs in
    ap (map read) (parts_again f width each xs size (omega (arith, enough, e))) ∙ read_each read f good again xs h

-- ---- fields

fits_number : (width n : ℕ) → fits width n ≡ true → spelled_number (number_bytes width n) ≡ n
fits_number width n h = read_number width n (ltb-true n (256 ^ width) h)

id_number : (n : ℕ) → is_id n ≡ true → spelled_number (number_bytes 8 n) ≡ n
id_number n h = let most = leb-true n (2 ^ 48) (both (nat_le 1 n) (nat_le n (2 ^ 48)) h).1 in read_number 8 n (omega (arith, most))

moment_number : (n : ℕ) → is_moment n ≡ true → spelled_number (number_bytes 8 n) ≡ n
moment_number n h = let most = leb-true n (2 ^ 40) h in read_number 8 n (omega (arith, most))

next_number : (n : ℕ) → is_next n ≡ true → spelled_number (number_bytes 8 n) ≡ n
next_number n h = let most = leb-true n (2 ^ 48 + 1) (both (nat_le 1 n) (nat_le n (2 ^ 48 + 1)) h).1 in read_number 8 n (omega (arith, most))

length_number : (n : ℕ) → nat_le n (2 ^ 30) ≡ true → spelled_number (number_bytes 4 n) ≡ n
length_number n h = let most = leb-true n (2 ^ 30) h in read_number 4 n (omega (arith, most))

piece_again : (p : Piece) → is_piece p ≡ true → read_piece (piece_bytes p) ≡ p
piece_again p h =
    let outer = both (is_id p.file && nat_le 1 p.len) (nat_le (p.from + p.len) (2 ^ 30)) h in
    let inner = both (is_id p.file) (nat_le 1 p.len) outer.0 in
    let most = leb-true (p.from + p.len) (2 ^ 30) outer.1 in
    ap (λ n. record { file = n; from = number_at 4 8 (piece_bytes p); len = number_at 4 12 (piece_bytes p) }) (id_number p.file inner.0)
    ∙ ap (λ n. record { file = p.file; from = n; len = number_at 4 12 (piece_bytes p) }) (read_number 4 p.from (omega (arith, most)))
    ∙ ap (λ n. record { file = p.file; from = p.from; len = n }) (read_number 4 p.len (omega (arith, most)))

one_of : (b : ℕ) → b < 256 → (b / 256 ^ 0) % 256 ≡ b
one_of b h = omega (arith, h)

class_again : (class : Class) → class_of (spelled_number (number_bytes 1 (class_number class))) ≡ class
class_again Held = refl
class_again Until = refl
class_again Listed = refl

abbrev read_of : Change → Option Change
read_of c = at_kind (fields_by_kind (spelling c)) (number_at 1 0 (spelling c))

pair_again_2 : (pair : Pair) → (fits 4 pair.index && fits 2 pair.address) ≡ true → read_pair 2 (pair_bytes 2 pair) ≡ pair
pair_again_2 pair h =
    let tests = both (fits 4 pair.index) (fits 2 pair.address) h in
    ap (λ n. record { index = n; address = number_at 2 4 (pair_bytes 2 pair) }) (fits_number 4 pair.index tests.0)
    ∙ ap (λ n. record { index = pair.index; address = n }) (fits_number 2 pair.address tests.1)

pair_again_4 : (pair : Pair) → (fits 4 pair.index && fits 4 pair.address) ≡ true → read_pair 4 (pair_bytes 4 pair) ≡ pair
pair_again_4 pair h =
    let tests = both (fits 4 pair.index) (fits 4 pair.address) h in
    ap (λ n. record { index = n; address = number_at 4 4 (pair_bytes 4 pair) }) (fits_number 4 pair.index tests.0)
    ∙ ap (λ n. record { index = pair.index; address = n }) (fits_number 4 pair.address tests.1)

recorded_2 : (id len : ℕ) (addresses : List ℕ) → is_recording 2 id len addresses ≡ true → read_of (changes.Recorded id len addresses) ≡ Some (changes.Recorded id len addresses)
recorded_2 id len addresses h =
    let bytes = spelling (changes.Recorded id len addresses) in
    let g = both _ _ h in
    let f = both _ _ g.0 in
    let e = both (is_id id) (nat_le len (2 ^ 30)) f.0 in
    ap (λ n. Some (changes.Recorded n (number_at 4 9 bytes) (read_numbers 2 17 bytes))) (id_number id e.0)
    ∙ ap (λ n. Some (changes.Recorded id n (read_numbers 2 17 bytes))) (length_number len e.1)
    ∙ ap (λ l. Some (changes.Recorded id len l)) (read_list spelled_number (number_bytes 2) (fits 2) 1 17 (number_length 2) (fits_number 2) addresses g.1 (length bytes) (omega arith))

recorded_4 : (id len : ℕ) (addresses : List ℕ) → is_recording 4 id len addresses ≡ true → read_of (changes.Wide id len addresses) ≡ Some (changes.Wide id len addresses)
recorded_4 id len addresses h =
    let bytes = spelling (changes.Wide id len addresses) in
    let g = both _ _ h in
    let f = both _ _ g.0 in
    let e = both (is_id id) (nat_le len (2 ^ 30)) f.0 in
    ap (λ n. Some (changes.Wide n (number_at 4 9 bytes) (read_numbers 4 17 bytes))) (id_number id e.0)
    ∙ ap (λ n. Some (changes.Wide id n (read_numbers 4 17 bytes))) (length_number len e.1)
    ∙ ap (λ l. Some (changes.Wide id len l)) (read_list spelled_number (number_bytes 4) (fits 4) 3 17 (number_length 4) (fits_number 4) addresses g.1 (length bytes) (omega arith))

filed_2 : (file : ℕ) (pairs : List Pair) → is_file 2 file pairs ≡ true → read_of (changes.File file pairs) ≡ Some (changes.File file pairs)
filed_2 file pairs h =
    let bytes = spelling (changes.File file pairs) in
    let g = both _ _ (both _ _ h).0 in
    let e = both (is_id file) (nat_le 1 (length pairs)) (both _ _ g.0).0 in
    ap (λ n. Some (changes.File n (read_pairs 2 13 bytes))) (id_number file e.0)
    ∙ ap (λ l. Some (changes.File file l)) (read_list (read_pair 2) (pair_bytes 2) (λ pair. fits 4 pair.index && fits 2 pair.address) 5 13 (λ pair. refl) (pair_again_2) pairs g.1 (length bytes) (omega arith))

filed_4 : (file : ℕ) (pairs : List Pair) → is_file 4 file pairs ≡ true → read_of (changes.File2 file pairs) ≡ Some (changes.File2 file pairs)
filed_4 file pairs h =
    let bytes = spelling (changes.File2 file pairs) in
    let g = both _ _ (both _ _ h).0 in
    let e = both (is_id file) (nat_le 1 (length pairs)) (both _ _ g.0).0 in
    ap (λ n. Some (changes.File2 n (read_pairs 4 13 bytes))) (id_number file e.0)
    ∙ ap (λ l. Some (changes.File2 file l)) (read_list (read_pair 4) (pair_bytes 4) (λ pair. fits 4 pair.index && fits 4 pair.address) 7 13 (λ pair. refl) (pair_again_4) pairs g.1 (length bytes) (omega arith))

pieces_again : (pieces : List Piece) (before size : ℕ) → are_pieces pieces ≡ true → size ≡ before + length (flat_map piece_bytes pieces) → map read_piece (parts 16 size (flat_map piece_bytes pieces)) ≡ pieces
pieces_again pieces before size h e =
    let g = both _ _ (both _ _ h).0 in
    let f = both (nat_le (length pieces) 4096) (list_all is_piece pieces) g.0 in
    read_list read_piece piece_bytes is_piece 15 before (λ p. refl) piece_again pieces f.1 size e

edited : (id : ℕ) (pieces : List Piece) → (is_id id && are_pieces pieces) ≡ true → read_of (changes.Edited id pieces) ≡ Some (changes.Edited id pieces)
edited id pieces h =
    let bytes = spelling (changes.Edited id pieces) in
    let g = both (is_id id) (are_pieces pieces) h in
    ap (λ n. Some (changes.Edited n (read_pieces 11 bytes))) (id_number id g.0)
    ∙ ap (λ l. Some (changes.Edited id l)) (pieces_again pieces 11 (length bytes) g.1 (omega arith))

roped : (id idle : ℕ) (pieces : List Piece) → (is_id id && is_moment idle && are_pieces pieces) ≡ true → read_of (changes.Rope id idle pieces) ≡ Some (changes.Rope id idle pieces)
roped id idle pieces h =
    let bytes = spelling (changes.Rope id idle pieces) in
    let g = both (is_id id && is_moment idle) (are_pieces pieces) h in
    let f = both (is_id id) (is_moment idle) g.0 in
    ap (λ n. Some (changes.Rope n (number_at 8 9 bytes) (read_pieces 19 bytes))) (id_number id f.0)
    ∙ ap (λ n. Some (changes.Rope id n (read_pieces 19 bytes))) (moment_number idle f.1)
    ∙ ap (λ l. Some (changes.Rope id idle l)) (pieces_again pieces 19 (length bytes) g.1 (omega arith))

roped_in_form_2 : (id idle last : ℕ) (pieces : List Piece) → (is_id id && is_moment idle && nat_le last 3 && are_pieces pieces) ≡ true → read_of (changes.Rope2 id idle last pieces) ≡ Some (changes.Rope2 id idle last pieces)
roped_in_form_2 id idle last pieces h =
    let bytes = spelling (changes.Rope2 id idle last pieces) in
    let g = both (is_id id && is_moment idle && nat_le last 3) (are_pieces pieces) h in
    let f = both (is_id id && is_moment idle) (nat_le last 3) g.0 in
    let e = both (is_id id) (is_moment idle) f.0 in
    let small = leb-true last 3 f.1 in
    ap (λ n. Some (changes.Rope2 n (number_at 8 9 bytes) (number_at 1 17 bytes) (read_pieces 20 bytes))) (id_number id e.0)
    ∙ ap (λ n. Some (changes.Rope2 id n (number_at 1 17 bytes) (read_pieces 20 bytes))) (moment_number idle e.1)
    ∙ ap (λ n. Some (changes.Rope2 id idle n (read_pieces 20 bytes))) (read_number 1 last (omega (arith, small)))
    ∙ ap (λ l. Some (changes.Rope2 id idle last l)) (pieces_again pieces 20 (length bytes) g.1 (omega arith))

-- ---- texts

key_length : (key : List ℕ) → is_key key ≡ true → length key < 256
key_length key h = let most = leb-true (length key) 64 (both (nat_le 1 (length key)) (nat_le (length key) 64) h).1 in omega (arith, most)

text_in_front : (most n : ℕ) (text rest : List ℕ) → n ≡ length text → read_texts (suc most) (n ∷ text ++ rest) ≡ text ∷ read_texts most rest
text_in_front most n text rest e =
    ap (λ k. take k (text ++ rest) ∷ read_texts most (drop k (text ++ rest))) e
    ∙ ap (λ l. l ∷ read_texts most (drop (length text) (text ++ rest))) (take-append_seam text rest)
    ∙ ap (λ l. text ∷ read_texts most l) (drop-append_seam text rest)

no_texts : (most : ℕ) → read_texts most [] ≡ []
no_texts zero = refl
no_texts (suc most) = refl

texts_again : (keys : List (List ℕ)) (most : ℕ) → list_all is_key keys ≡ true → length keys ≤ most → read_texts most (flat_map text_bytes keys) ≡ keys
texts_again [] most h e = no_texts most
texts_again (key ∷ keys) zero h e = absurd (omega (arith, e))
texts_again (key ∷ keys) (suc most) h e =
    let tests = both (is_key key) (list_all is_key keys) h in
    text_in_front most (length key / 256 ^ 0 % 256) key (flat_map text_bytes keys) (one_of (length key) (key_length key tests.0))
    ∙ ap (λ l. key ∷ l) (texts_again keys most tests.1 (omega (arith, e)))

texts_long : (keys : List (List ℕ)) → length keys ≤ length (flat_map text_bytes keys)
texts_long [] = omega arith
texts_long (key ∷ keys) =
    let rest = texts_long keys in
    let whole = length-append key (flat_map text_bytes keys) in
    omega (arith, rest, whole)

censused : (keys : List (List ℕ)) → (nat_le 1 (length keys) && fits 2 (length keys) && list_all is_key keys) ≡ true → read_of (changes.Census keys) ≡ Some (changes.Census keys)
censused keys h =
    let g = both (nat_le 1 (length keys) && fits 2 (length keys)) (list_all is_key keys) h in
    let long = texts_long keys in
    ap (λ l. Some (changes.Census l)) (texts_again keys (length (spelling (changes.Census keys))) g.1 (omega (arith, long)))

forgotten : (class : Class) (key : List ℕ) → read_of (changes.Forgotten class key) ≡ Some (changes.Forgotten class key)
forgotten class key = ap (λ c. Some (changes.Forgotten c key)) (class_again class)

sweeps : (ids : List ℕ) → (fits 2 (length ids) && list_all is_id ids && rise ids) ≡ true → read_of (changes.Swept ids) ≡ Some (changes.Swept ids)
sweeps ids h =
    let g = both _ _ (both _ _ h).0 in
    ap (λ l. Some (changes.Swept l)) (read_list spelled_number (number_bytes 8) is_id 7 3 (number_length 8) id_number ids g.1 (length (spelling (changes.Swept ids))) (omega arith))

retained : (class : Class) (key : List ℕ) (id : ℕ) (note : List ℕ) → (is_key key && is_id id && is_note class note) ≡ true → read_of (changes.Retained class key id note) ≡ Some (changes.Retained class key id note)
retained class key id note h =
    let bytes = spelling (changes.Retained class key id note) in
    let g = both (is_key key) (is_id id) (both (is_key key && is_id id) (is_note class note) h).0 in
    let behind = number_bytes 8 id ++ text_bytes note in
    let whole : (key ++ number_bytes 8 id ++ text_bytes note) ≡ key ++ behind = append_assoc key (number_bytes 8 id) (text_bytes note) in
    let three : 3 + length key ≡ suc (suc (suc (length key))) = omega arith in
    let twelve : 12 + length key ≡ suc (suc (suc (length key + 9))) = omega arith in
    let key_read : slice bytes 3 (length key) ≡ key = ap (take (length key)) whole ∙ take-append_seam key behind in
    let from_id : drop (3 + length key) bytes ≡ behind = ap (λ k. drop k bytes) three ∙ ap (drop (length key)) whole ∙ drop-append_seam key behind in
    let from_note : drop (12 + length key) bytes ≡ note = ap (λ k. drop k bytes) twelve ∙ ap (drop (length key + 9)) whole ∙ drop-append-add key behind 9 in
    ap (λ n. Some (read_retained n bytes)) (read_number 1 (length key) (key_length key g.0))
    ∙ ap (λ c. Some (changes.Retained c (slice bytes 3 (length key)) (number_at 8 (3 + length key) bytes) (drop (12 + length key) bytes))) (class_again class)
    ∙ ap (λ k. Some (changes.Retained class k (number_at 8 (3 + length key) bytes) (drop (12 + length key) bytes))) key_read
    ∙ ap (λ l. Some (changes.Retained class key (spelled_number (take 8 l)) (drop (12 + length key) bytes))) from_id
    ∙ ap (λ n. Some (changes.Retained class key n (drop (12 + length key) bytes))) (id_number id g.1)
    ∙ ap (λ l. Some (changes.Retained class key id l)) from_note

advanced : (moment : ℕ) → (nat_le 1 moment && is_moment moment) ≡ true → read_of (changes.Advanced moment) ≡ Some (changes.Advanced moment)
advanced moment h = ap (λ n. Some (changes.Advanced n)) (moment_number moment (both (nat_le 1 moment) (is_moment moment) h).1)

based : (now next : ℕ) → (is_moment now && is_next next) ≡ true → read_of (changes.Base now next) ≡ Some (changes.Base now next)
based now next h =
    let bytes = spelling (changes.Base now next) in
    let g = both (is_moment now) (is_next next) h in
    ap (λ n. Some (changes.Base n (number_at 8 9 bytes))) (moment_number now g.0) ∙ ap (λ n. Some (changes.Base now n)) (next_number next g.1)

based_in_form_2 : (now next : ℕ) → (is_moment now && is_next next) ≡ true → read_of (changes.Base2 now next) ≡ Some (changes.Base2 now next)
based_in_form_2 now next h =
    let bytes = spelling (changes.Base2 now next) in
    let g = both (is_moment now) (is_next next) h in
    ap (λ n. Some (changes.Base2 n (number_at 8 9 bytes))) (moment_number now g.0) ∙ ap (λ n. Some (changes.Base2 now n)) (next_number next g.1)

-- ---- what is spelled is read so

fields_again : (c : Change) → keeps_grammar c ≡ true → read_of c ≡ Some c
fields_again (changes.Recorded id len addresses) h = recorded_2 id len addresses h
fields_again (changes.Edited id pieces) h = edited id pieces h
fields_again (changes.Retained class key id note) h = retained class key id note h
fields_again (changes.Forgotten class key) h = forgotten class key
fields_again (changes.Census keys) h = censused keys h
fields_again (changes.Swept ids) h = sweeps ids h
fields_again (changes.Advanced moment) h = advanced moment h
fields_again (changes.Base now next) h = based now next h
fields_again (changes.File file pairs) h = filed_2 file pairs h
fields_again (changes.Rope id idle pieces) h = roped id idle pieces h
fields_again (changes.Wide id len addresses) h = recorded_4 id len addresses h
fields_again (changes.Base2 now next) h = based_in_form_2 now next h
fields_again (changes.File2 file pairs) h = filed_4 file pairs h
fields_again (changes.Rope2 id idle last pieces) h = roped_in_form_2 id idle last pieces h

spelled_so : (c : Change) → keeps_grammar c ≡ true → spelled_again (spelling c) (Some c) ≡ Some c
spelled_so c h =
    ap (λ b. if_spelled (b && keeps_grammar c) c) ((bytes_eq-Decides (spelling c) (spelling c)).1 refl)
    ∙ ap (λ b. if_spelled b c) h

pub spelled_is_read : (c : Change) → keeps_grammar c ≡ true → change_in (spelling c) ≡ Some c
spelled_is_read c h = ap (spelled_again (spelling c)) (fields_again c h) ∙ spelled_so c h

-- two changes with one spelling are equal
pub one_change : (c d : Change) → keeps_grammar c ≡ true → keeps_grammar d ≡ true → spelling c ≡ spelling d → c ≡ d
one_change c d h k e = only (sym (spelled_is_read c h) ∙ ap change_in e ∙ spelled_is_read d k)
  where
    only : Some c ≡ Some d → c ≡ d
    only f = cc
