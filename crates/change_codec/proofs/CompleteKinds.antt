-- Where a change is spelled, nothing is refused.
use Rattle.std.proofs.Common.{◌≡◌, ℕ, ◌+◌, ◌^◌, ◌≤◌, Bool, true, false, ◌&&◌, ◌||◌, not, ◌==◌, List, [], ◌∷◌, ◌++◌, map, length, take, drop, Option, Some, None, refl, ap, sym, ◌∙◌, arith, append_assoc}
use Rattle.std.specs.Prelude.{flat_map, nat_le}
use Rattle.std.specs.List.{list_all}
use Rattle.std.proofs.lemmas.Bool.{leb-true, ltb-true, eqb-true}
use Rattle.voice_units.specs.declared.pieces.Piece.{Piece}
use Rattle.voice_units.proofs.PiecesOfRopes.{both}
use Rattle.disk_areas.specs.Numbers.{spelled_number, number_at, number_bytes}
use Rattle.voice_model.specs.State.{class_number}
use Rattle.voice_model.specs.Spelling.{pieces_bytes, text_bytes, recorded_bytes, file_bytes, pair_bytes, spelling, keeps_grammar, Spells, change_in, class_of, fits, is_id, is_moment, is_next, are_pieces, is_key, is_note, is_recording, is_file, rise}
use Rattle.voice_model.specs.declared.lists.Pair.{Pair}
use Rattle.voice_model.specs.declared.calls.Class.{Class}
use Rattle.voice_model.specs.declared.calls.Class.TheVariants.{Held, Until, Listed}
use Rattle.voice_model.specs.declared.changes.Change.{Change}
use Rattle.voice_model.specs.declared.changes.Change.TheVariants as changes
use Rattle.voice_model.proofs.ReadAgain.{read_is_spelled}
use Rattle.change_codec.specs.Refused.{number, part, behind, addresses_place, ids_place, pairs_place, pieces_place, key_place, keys_place, note_place, recorded_place, edited_place, retained_place, forgotten_place, census_place, swept_place, advanced_place, base_place, file_place, rope_place, rope2_place, place_at, places_by_kind, refused}
use Rattle.change_codec.proofs.Numbers.{IsSeen, number_seen}
use Rattle.change_codec.proofs.Places.{part_whole, number_right}
use Rattle.change_codec.proofs.Complete.{number_taken, end_taken, first_all, is_small_id, id_taken, addresses_taken, ids_taken, pairs_taken, pieces_taken, text_seen, key_sizes, key_taken, keys_taken}

id_seen : (at n : ℕ) (bytes rest : List ℕ) → at ≤ length bytes → is_id n ≡ true → drop at bytes ≡ number_bytes 8 n ++ rest → IsSeen at 8 n bytes rest
id_seen at n bytes rest le good h = let hi = (is_small_id n good).1 in number_seen at 8 n bytes rest le (omega (arith, hi)) h

-- a moment
moment_taken : (at n : ℕ) (bytes rest : List ℕ) → at ≤ length bytes → is_moment n ≡ true → drop at bytes ≡ number_bytes 8 n ++ rest → (number at 8 0 (2 ^ 40) bytes ≡ None) × IsSeen at 8 n bytes rest
moment_taken at n bytes rest le good h =
    let hi = leb-true n (2 ^ 40) good in
    (number_taken at 8 0 (2 ^ 40) n bytes rest le (omega (arith, hi)) (omega arith) hi h, number_seen at 8 n bytes rest le (omega (arith, hi)) h)

recorded_taken : (width id len : ℕ) (xs bytes : List ℕ) → 1 ≤ length bytes → is_recording width id len xs ≡ true → drop 1 bytes ≡ recorded_bytes width id len xs → recorded_place width bytes ≡ None
recorded_taken width id len xs bytes le good h =
    let p = both (is_id id && nat_le len (2 ^ 30) && fits 4 (length xs)) (list_all (fits width) xs) good in
    let q = both (is_id id && nat_le len (2 ^ 30)) (fits 4 (length xs)) p.0 in
    let r = both (is_id id) (nat_le len (2 ^ 30)) q.0 in
    let hi = leb-true len (2 ^ 30) r.1 in
    let some = flat_map (number_bytes width) xs in
    let r2 = number_bytes 4 (length xs) ++ some in
    let r1 = number_bytes 4 len ++ r2 in
    let s1 = id_seen 1 id bytes r1 le r.0 h in
    let s2 = number_seen 9 4 len bytes r2 s1.within (omega (arith, hi)) s1.behind in
    let s3 = number_seen 13 4 (length xs) bytes some s2.within (ltb-true (length xs) (256 ^ 4) q.1) s2.behind in
    let a = number 1 8 1 (2 ^ 48) bytes in
    let b = number 9 4 0 (2 ^ 30) bytes in
    let c = part 13 4 bytes in
    let d = addresses_place width (number_at 4 13 bytes) 17 bytes in
    first_all a (b ∷ c ∷ d ∷ []) (id_taken 1 id bytes r1 le r.0 h)
    (first_all b (c ∷ d ∷ []) (number_taken 9 4 0 (2 ^ 30) len bytes r2 s1.within (omega (arith, hi)) (omega arith) hi s1.behind)
    (first_all c (d ∷ []) (part_whole 13 4 bytes s3.within)
    (first_all d [] (ap (λ n. addresses_place width n 17 bytes) s3.value ∙ addresses_taken width 17 bytes xs s3.within p.1 s3.behind) refl)))

file_taken : (width id : ℕ) (xs : List Pair) (bytes : List ℕ) → 1 ≤ length bytes → is_file width id xs ≡ true → drop 1 bytes ≡ file_bytes width id xs → file_place width bytes ≡ None
file_taken width id xs bytes le good h =
    let p = both (is_id id && nat_le 1 (length xs) && fits 4 (length xs) && list_all (λ pair. fits 4 pair.index && fits width pair.address) xs) (rise (map (λ pair. pair.index) xs)) good in
    let q = both (is_id id && nat_le 1 (length xs) && fits 4 (length xs)) (list_all (λ pair. fits 4 pair.index && fits width pair.address) xs) p.0 in
    let r = both (is_id id && nat_le 1 (length xs)) (fits 4 (length xs)) q.0 in
    let t = both (is_id id) (nat_le 1 (length xs)) r.0 in
    let small = ltb-true (length xs) (256 ^ 4) r.1 in
    let some = flat_map (pair_bytes width) xs in
    let r1 = number_bytes 4 (length xs) ++ some in
    let s1 = id_seen 1 id bytes r1 le t.0 h in
    let s2 = number_seen 9 4 (length xs) bytes some s1.within small s1.behind in
    let a = number 1 8 1 (2 ^ 48) bytes in
    let b = number 9 4 1 (2 ^ 32) bytes in
    let d = pairs_place width (number_at 4 9 bytes) 13 bytes in
    first_all a (b ∷ d ∷ []) (id_taken 1 id bytes r1 le t.0 h)
    (first_all b (d ∷ []) (number_taken 9 4 1 (2 ^ 32) (length xs) bytes some s1.within small (leb-true 1 (length xs) t.1) (omega (arith, small)) s1.behind)
    (first_all d [] (ap (λ n. pairs_place width n 13 bytes) s2.value ∙ pairs_taken width 13 bytes xs s2.within q.1 p.1 s2.behind) refl))

edited_taken : (id : ℕ) (ps : List Piece) (bytes : List ℕ) → 1 ≤ length bytes → (is_id id && are_pieces ps) ≡ true → drop 1 bytes ≡ number_bytes 8 id ++ pieces_bytes ps → edited_place bytes ≡ None
edited_taken id ps bytes le good h =
    let p = both (is_id id) (are_pieces ps) good in
    let s1 = id_seen 1 id bytes (pieces_bytes ps) le p.0 h in
    let a = number 1 8 1 (2 ^ 48) bytes in
    let d = pieces_place 9 bytes in
    first_all a (d ∷ []) (id_taken 1 id bytes (pieces_bytes ps) le p.0 h) (first_all d [] (pieces_taken 9 bytes ps s1.within p.1 s1.behind) refl)

rope_taken : (id idle : ℕ) (ps : List Piece) (bytes : List ℕ) → 1 ≤ length bytes → (is_id id && is_moment idle && are_pieces ps) ≡ true → drop 1 bytes ≡ number_bytes 8 id ++ (number_bytes 8 idle ++ pieces_bytes ps) → rope_place bytes ≡ None
rope_taken id idle ps bytes le good h =
    let p = both (is_id id && is_moment idle) (are_pieces ps) good in
    let q = both (is_id id) (is_moment idle) p.0 in
    let r1 = number_bytes 8 idle ++ pieces_bytes ps in
    let s1 = id_seen 1 id bytes r1 le q.0 h in
    let m = moment_taken 9 idle bytes (pieces_bytes ps) s1.within q.1 s1.behind in
    let a = number 1 8 1 (2 ^ 48) bytes in
    let b = number 9 8 0 (2 ^ 40) bytes in
    let d = pieces_place 17 bytes in
    first_all a (b ∷ d ∷ []) (id_taken 1 id bytes r1 le q.0 h)
    (first_all b (d ∷ []) m.0
    (first_all d [] (pieces_taken 17 bytes ps m.1.within p.1 m.1.behind) refl))

rope2_taken : (id idle last : ℕ) (ps : List Piece) (bytes : List ℕ) → 1 ≤ length bytes → (is_id id && is_moment idle && nat_le last 3 && are_pieces ps) ≡ true → drop 1 bytes ≡ number_bytes 8 id ++ (number_bytes 8 idle ++ (number_bytes 1 last ++ pieces_bytes ps)) → rope2_place bytes ≡ None
rope2_taken id idle last ps bytes le good h =
    let p = both (is_id id && is_moment idle && nat_le last 3) (are_pieces ps) good in
    let q = both (is_id id && is_moment idle) (nat_le last 3) p.0 in
    let r = both (is_id id) (is_moment idle) q.0 in
    let hi = leb-true last 3 q.1 in
    let r2 = number_bytes 1 last ++ pieces_bytes ps in
    let r1 = number_bytes 8 idle ++ r2 in
    let s1 = id_seen 1 id bytes r1 le r.0 h in
    let m = moment_taken 9 idle bytes r2 s1.within r.1 s1.behind in
    let s3 = number_seen 17 1 last bytes (pieces_bytes ps) m.1.within (omega (arith, hi)) m.1.behind in
    let a = number 1 8 1 (2 ^ 48) bytes in
    let b = number 9 8 0 (2 ^ 40) bytes in
    let c = number 17 1 0 3 bytes in
    let d = pieces_place 18 bytes in
    first_all a (b ∷ c ∷ d ∷ []) (id_taken 1 id bytes r1 le r.0 h)
    (first_all b (c ∷ d ∷ []) m.0
    (first_all c (d ∷ []) (number_taken 17 1 0 3 last bytes (pieces_bytes ps) m.1.within (omega (arith, hi)) (omega arith) hi m.1.behind)
    (first_all d [] (pieces_taken 18 bytes ps s3.within p.1 s3.behind) refl)))

nothing : (xs : List ℕ) → xs ≡ xs ++ []
nothing [] = refl
nothing (x ∷ xs) = ap (λ l. x ∷ l) (nothing xs)

base_taken : (now next : ℕ) (bytes : List ℕ) → 1 ≤ length bytes → (is_moment now && is_next next) ≡ true → drop 1 bytes ≡ number_bytes 8 now ++ number_bytes 8 next → base_place bytes ≡ None
base_taken now next bytes le good h =
    let p = both (is_moment now) (is_next next) good in
    let q = both (nat_le 1 next) (nat_le next (2 ^ 48 + 1)) p.1 in
    let hi = leb-true next (2 ^ 48 + 1) q.1 in
    let m = moment_taken 1 now bytes (number_bytes 8 next) le p.0 h in
    let s2 = number_seen 9 8 next bytes [] m.1.within (omega (arith, hi)) m.1.behind in
    let a = number 1 8 0 (2 ^ 40) bytes in
    let b = number 9 8 1 (2 ^ 48 + 1) bytes in
    let d = behind 17 bytes in
    first_all a (b ∷ d ∷ []) m.0
    (first_all b (d ∷ []) (number_taken 9 8 1 (2 ^ 48 + 1) next bytes [] m.1.within (omega (arith, hi)) (leb-true 1 next q.0) hi m.1.behind)
    (first_all d [] (end_taken 17 bytes s2.behind) refl))

advanced_taken : (n : ℕ) (bytes : List ℕ) → 1 ≤ length bytes → (nat_le 1 n && is_moment n) ≡ true → drop 1 bytes ≡ number_bytes 8 n → advanced_place bytes ≡ None
advanced_taken n bytes le good h =
    let p = both (nat_le 1 n) (is_moment n) good in
    let hi = leb-true n (2 ^ 40) p.1 in
    let s = number_seen 1 8 n bytes [] le (omega (arith, hi)) h in
    let a = number 1 8 1 (2 ^ 40) bytes in
    let d = behind 9 bytes in
    first_all a (d ∷ []) (number_taken 1 8 1 (2 ^ 40) n bytes [] le (omega (arith, hi)) (leb-true 1 n p.0) hi h) (first_all d [] (end_taken 9 bytes s.behind) refl)

swept_taken : (xs bytes : List ℕ) → 1 ≤ length bytes → (fits 2 (length xs) && list_all is_id xs && rise xs) ≡ true → drop 1 bytes ≡ number_bytes 2 (length xs) ++ flat_map (number_bytes 8) xs → swept_place bytes ≡ None
swept_taken xs bytes le good h =
    let p = both (fits 2 (length xs) && list_all is_id xs) (rise xs) good in
    let q = both (fits 2 (length xs)) (list_all is_id xs) p.0 in
    let s = number_seen 1 2 (length xs) bytes (flat_map (number_bytes 8) xs) le (ltb-true (length xs) (256 ^ 2) q.0) h in
    let d = ids_place (number_at 2 1 bytes) 3 bytes in
    first_all (part 1 2 bytes) (d ∷ []) (part_whole 1 2 bytes s.within)
    (first_all d [] (ap (λ n. ids_place n 3 bytes) s.value ∙ ids_taken 3 bytes xs s.within q.1 p.1 s.behind) refl)

census_taken : (xs : List (List ℕ)) (bytes : List ℕ) → 1 ≤ length bytes → (nat_le 1 (length xs) && fits 2 (length xs) && list_all is_key xs) ≡ true → drop 1 bytes ≡ number_bytes 2 (length xs) ++ flat_map text_bytes xs → census_place bytes ≡ None
census_taken xs bytes le good h =
    let p = both (nat_le 1 (length xs) && fits 2 (length xs)) (list_all is_key xs) good in
    let q = both (nat_le 1 (length xs)) (fits 2 (length xs)) p.0 in
    let small = ltb-true (length xs) (256 ^ 2) q.1 in
    let some = flat_map text_bytes xs in
    let s = number_seen 1 2 (length xs) bytes some le small h in
    let a = number 1 2 1 (2 ^ 16) bytes in
    let d = keys_place (number_at 2 1 bytes) 3 bytes in
    first_all a (d ∷ []) (number_taken 1 2 1 (2 ^ 16) (length xs) bytes some le small (leb-true 1 (length xs) q.0) (omega (arith, small)) h)
    (first_all d [] (ap (λ n. keys_place n 3 bytes) s.value ∙ keys_taken 3 bytes xs s.within p.1 s.behind) refl)

-- ---- interests

class_fits : (class : Class) → (1 ≤ class_number class) × (class_number class ≤ 3)
class_fits Held = (omega arith, omega arith)
class_fits Until = (omega arith, omega arith)
class_fits Listed = (omega arith, omega arith)

class_again : (class : Class) → class_of (class_number class) ≡ class
class_again Held = refl
class_again Until = refl
class_again Listed = refl

-- what is known behind a class and a key
record IsNamed (bytes key rest : List ℕ) (class : Class) : Type 0 where
  class_none : number 1 1 1 3 bytes ≡ None
  key_none : key_place bytes 2 ≡ None
  class_is : number_at 1 1 bytes ≡ class_number class
  within : 3 + number_at 1 2 bytes ≤ length bytes
  rest_is : drop (3 + number_at 1 2 bytes) bytes ≡ rest

named : (class : Class) (key bytes rest : List ℕ) → 1 ≤ length bytes → is_key key ≡ true → drop 1 bytes ≡ number_bytes 1 (class_number class) ++ (text_bytes key ++ rest) → IsNamed bytes key rest class
named class key bytes rest le good h =
    let c = class_fits class in
    let hi = c.1 in
    let most = (key_sizes key good).1 in
    let r1 = text_bytes key ++ rest in
    let s = number_seen 1 1 (class_number class) bytes r1 le (omega (arith, hi)) h in
    let t = text_seen 2 bytes key rest s.within (omega (arith, most)) s.behind in
    record {
      class_none = number_taken 1 1 1 3 (class_number class) bytes r1 le (omega (arith, hi)) c.0 hi h;
      key_none = key_taken 2 bytes key rest s.within good s.behind;
      class_is = s.value;
      within = t.whole;
      rest_is = t.rest_is;
    }

forgotten_taken : (class : Class) (key bytes : List ℕ) → 1 ≤ length bytes → is_key key ≡ true → drop 1 bytes ≡ number_bytes 1 (class_number class) ++ text_bytes key → forgotten_place bytes ≡ None
forgotten_taken class key bytes le good h =
    let n = named class key bytes [] le good (h ∙ ap (λ (l : List ℕ). number_bytes 1 (class_number class) ++ l) (nothing (text_bytes key))) in
    let d = behind (3 + number_at 1 2 bytes) bytes in
    first_all (number 1 1 1 3 bytes) (key_place bytes 2 ∷ d ∷ []) n.class_none
    (first_all (key_place bytes 2) (d ∷ []) n.key_none (first_all d [] (end_taken (3 + number_at 1 2 bytes) bytes n.rest_is) refl))

-- a note, for a class that is until or not
note_taken : (b : Bool) (at : ℕ) (note bytes : List ℕ) → at ≤ length bytes → length note ≤ 128 → (not b || ((length note == 8) && is_moment (spelled_number note))) ≡ true → drop at bytes ≡ text_bytes note → note_place b at bytes ≡ None
note_taken true at note bytes le most good h =
    let p = both (length note == 8) (is_moment (spelled_number note)) good in
    let eight = eqb-true (length note) 8 p.0 in
    let whole = h ∙ nothing (text_bytes note) in
    let t = text_seen at bytes note [] le (omega (arith, most)) whole in
    let size = t.size in
    let fits = t.whole in
    let n = number_at 1 at bytes in
    let same : number_at 8 (at + 1) bytes ≡ spelled_number note = ap (λ k. spelled_number (take k (drop (at + 1) bytes))) (sym (size ∙ eight)) ∙ ap spelled_number t.text_is in
    let hi = leb-true (spelled_number note) (2 ^ 40) p.1 in
    let a = number at 1 8 8 bytes in
    let m = number (at + 1) 8 0 (2 ^ 40) bytes in
    let d = behind (at + 1 + n) bytes in
    first_all a (m ∷ d ∷ []) (number_taken at 1 8 8 (length note) bytes (note ++ []) le (omega (arith, most)) (omega (arith, eight)) (omega (arith, eight)) whole)
    (first_all m (d ∷ []) (number_right (at + 1) 8 0 (2 ^ 40) bytes (omega (arith, fits, size, eight)) (omega arith) (omega (arith, same, hi)))
    (first_all d [] (end_taken (at + 1 + n) bytes t.rest_is) refl))
note_taken false at note bytes le most good h =
    let whole = h ∙ nothing (text_bytes note) in
    let t = text_seen at bytes note [] le (omega (arith, most)) whole in
    let n = number_at 1 at bytes in
    let a = number at 1 0 128 bytes in
    let m = part (at + 1) n bytes in
    let d = behind (at + 1 + n) bytes in
    first_all a (m ∷ d ∷ []) (number_taken at 1 0 128 (length note) bytes (note ++ []) le (omega (arith, most)) (omega arith) most whole)
    (first_all m (d ∷ []) (part_whole (at + 1) n bytes t.whole)
    (first_all d [] (end_taken (at + 1 + n) bytes t.rest_is) refl))

retained_taken : (class : Class) (key : List ℕ) (id : ℕ) (note bytes : List ℕ) → 1 ≤ length bytes → (is_key key && is_id id && is_note class note) ≡ true → drop 1 bytes ≡ number_bytes 1 (class_number class) ++ (text_bytes key ++ (number_bytes 8 id ++ text_bytes note)) → retained_place bytes ≡ None
retained_taken class key id note bytes le good h =
    let p = both (is_key key && is_id id) (is_note class note) good in
    let q = both (is_key key) (is_id id) p.0 in
    let r = both (nat_le (length note) 128) (not (class_number class == 2) || ((length note == 8) && is_moment (spelled_number note))) p.1 in
    let k = named class key bytes (number_bytes 8 id ++ text_bytes note) le q.0 h in
    let n = number_at 1 2 bytes in
    let s = id_seen (3 + n) id bytes (text_bytes note) k.within q.1 k.rest_is in
    let within = s.within in
    let eleven : 3 + n + 8 ≡ 11 + n = omega arith in
    let same : class_of (number_at 1 1 bytes) ≡ class = ap class_of k.class_is ∙ class_again class in
    let o1 = number 1 1 1 3 bytes in
    let o2 = key_place bytes 2 in
    let o3 = number (3 + n) 8 1 (2 ^ 48) bytes in
    let o4 = note_place (class_number (class_of (number_at 1 1 bytes)) == 2) (11 + n) bytes in
    let rest : drop (11 + n) bytes ≡ text_bytes note = ap (λ (m : ℕ). drop m bytes) (sym eleven) ∙ s.behind in
    let last = note_taken (class_number class == 2) (11 + n) note bytes (omega (arith, within)) (leb-true (length note) 128 r.0) r.1 rest in
    first_all o1 (o2 ∷ o3 ∷ o4 ∷ []) k.class_none
    (first_all o2 (o3 ∷ o4 ∷ []) k.key_none
    (first_all o3 (o4 ∷ []) (id_taken (3 + n) id bytes (text_bytes note) k.within q.1 k.rest_is)
    (first_all o4 [] (ap (λ (c : Class). note_place (class_number c == 2) (11 + n) bytes) same ∙ last) refl)))

-- ---- all kinds

by_kind : (kind : ℕ) (bytes rest : List ℕ) → bytes ≡ number_bytes 1 kind ++ rest → 1 ≤ kind → kind ≤ 14 → (1 ≤ length bytes → drop 1 bytes ≡ rest → place_at (places_by_kind bytes) kind ≡ None) → refused bytes ≡ None
unfolding refused
by_kind kind bytes rest e lo hi h =
    let s = number_seen 0 1 kind bytes rest (omega arith) (omega (arith, hi)) e in
    let o = place_at (places_by_kind bytes) (number_at 1 0 bytes) in
    first_all (number 0 1 1 14 bytes) (o ∷ []) (number_taken 0 1 1 14 kind bytes rest (omega arith) (omega (arith, hi)) lo hi e)
    (first_all o [] (ap (λ n. place_at (places_by_kind bytes) n) s.value ∙ h s.within s.behind) refl)

retained_rest : (class : Class) (key : List ℕ) (id : ℕ) (note : List ℕ) → spelling (changes.Retained class key id note) ≡ number_bytes 1 3 ++ (number_bytes 1 (class_number class) ++ (text_bytes key ++ (number_bytes 8 id ++ text_bytes note)))
retained_rest class key id note =
    let head = number_bytes 1 3 ++ number_bytes 1 (class_number class) in
    ap (λ (l : List ℕ). head ++ l) (ap (λ (l : List ℕ). number_bytes 1 (length key) ++ l) (append_assoc key (number_bytes 8 id) (text_bytes note)))

taken : (c : Change) (bytes : List ℕ) → bytes ≡ spelling c → keeps_grammar c ≡ true → refused bytes ≡ None
taken (changes.Recorded id len xs) bytes e g = by_kind 1 bytes (recorded_bytes 2 id len xs) e (omega arith) (omega arith) (λ le h. recorded_taken 2 id len xs bytes le g h)
taken (changes.Edited id ps) bytes e g = by_kind 2 bytes (number_bytes 8 id ++ pieces_bytes ps) e (omega arith) (omega arith) (λ le h. edited_taken id ps bytes le g h)
taken (changes.Retained class key id note) bytes e g =
    by_kind 3 bytes (number_bytes 1 (class_number class) ++ (text_bytes key ++ (number_bytes 8 id ++ text_bytes note))) (e ∙ retained_rest class key id note) (omega arith) (omega arith) (λ le h. retained_taken class key id note bytes le g h)
taken (changes.Forgotten class key) bytes e g = by_kind 4 bytes (number_bytes 1 (class_number class) ++ text_bytes key) e (omega arith) (omega arith) (λ le h. forgotten_taken class key bytes le g h)
taken (changes.Census keys) bytes e g = by_kind 5 bytes (number_bytes 2 (length keys) ++ flat_map text_bytes keys) e (omega arith) (omega arith) (λ le h. census_taken keys bytes le g h)
taken (changes.Swept ids) bytes e g = by_kind 6 bytes (number_bytes 2 (length ids) ++ flat_map (number_bytes 8) ids) e (omega arith) (omega arith) (λ le h. swept_taken ids bytes le g h)
taken (changes.Advanced n) bytes e g = by_kind 7 bytes (number_bytes 8 n) e (omega arith) (omega arith) (λ le h. advanced_taken n bytes le g h)
taken (changes.Base now next) bytes e g = by_kind 8 bytes (number_bytes 8 now ++ number_bytes 8 next) e (omega arith) (omega arith) (λ le h. base_taken now next bytes le g h)
taken (changes.File id xs) bytes e g = by_kind 9 bytes (file_bytes 2 id xs) e (omega arith) (omega arith) (λ le h. file_taken 2 id xs bytes le g h)
taken (changes.Rope id idle ps) bytes e g = by_kind 10 bytes (number_bytes 8 id ++ (number_bytes 8 idle ++ pieces_bytes ps)) e (omega arith) (omega arith) (λ le h. rope_taken id idle ps bytes le g h)
taken (changes.Wide id len xs) bytes e g = by_kind 11 bytes (recorded_bytes 4 id len xs) e (omega arith) (omega arith) (λ le h. recorded_taken 4 id len xs bytes le g h)
taken (changes.Base2 now next) bytes e g = by_kind 12 bytes (number_bytes 8 now ++ number_bytes 8 next) e (omega arith) (omega arith) (λ le h. base_taken now next bytes le g h)
taken (changes.File2 id xs) bytes e g = by_kind 13 bytes (file_bytes 4 id xs) e (omega arith) (omega arith) (λ le h. file_taken 4 id xs bytes le g h)
taken (changes.Rope2 id idle last ps) bytes e g = by_kind 14 bytes (number_bytes 8 id ++ (number_bytes 8 idle ++ (number_bytes 1 last ++ pieces_bytes ps))) e (omega arith) (omega arith) (λ le h. rope2_taken id idle last ps bytes le g h)

-- where bytes spell a change, nothing is refused
pub spelled_is_taken : (bytes : List ℕ) (c : Change) → Spells bytes c → refused bytes ≡ None
spelled_is_taken bytes c s = taken c bytes s.bytes_of s.grammar

not_both : (o : Option ℕ) (place : ℕ) → o ≡ Some place → o ≡ None → ⊥
not_both o place h k = cc

-- where something is refused, no change is in the bytes
pub refused_is_none : (bytes : List ℕ) (place : ℕ) → refused bytes ≡ Some place → change_in bytes ≡ None
refused_is_none bytes place h = by (change_in bytes) refl
  where
    by : (o : Option Change) → change_in bytes ≡ o → change_in bytes ≡ None
    by None e = e
    by (Some c) e = absurd (not_both (refused bytes) place h (spelled_is_taken bytes c (read_is_spelled bytes c e)))
