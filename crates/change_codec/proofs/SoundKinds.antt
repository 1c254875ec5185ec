-- Where nothing is refused, the bytes spell the change that they say.
use Rattle.std.proofs.Common.{◌≡◌, ℕ, zero, suc, ◌+◌, ◌^◌, ◌≤◌, Bool, true, false, ◌&&◌, ◌||◌, not, ◌==◌, cond, List, [], ◌∷◌, ◌++◌, map, length, drop, Some, None, refl, ap, sym, subst, ◌∙◌, arith, append_assoc}
use Rattle.std.specs.Prelude.{flat_map, nat_le}
use Rattle.std.specs.List.{list_all}
use Rattle.std.proofs.lemmas.Bool.{eq-eqb}
use Rattle.voice_units.specs.Spots.{slice}
use Rattle.disk_areas.specs.Numbers.{spelled_number, number_at, number_bytes}
use Rattle.voice_model.specs.State.{class_number}
use Rattle.voice_model.specs.Spelling.{pieces_bytes, text_bytes, recorded_bytes, file_bytes, pair_bytes, spelling, keeps_grammar, Spells, at_kind, class_of, fits, is_id, is_moment, is_next, are_pieces, is_key, is_note, is_recording, is_file, rise}
use Rattle.voice_model.specs.declared.changes.Change.{Change}
use Rattle.change_codec.specs.declared.appending.Width.TheVariants.{Narrow, Wide}
use Rattle.change_codec.specs.Refused.{number, part, behind, addresses_place, ids_place, pairs_place, next_pair, next_id, pieces_place, key_place, next_key, keys_place, note_place, recorded_place, edited_place, retained_place, forgotten_place, census_place, swept_place, advanced_place, base_place, file_place, rope_place, rope2_place, place_at, places_by_kind, refused}
use Rattle.change_codec.specs.Said.{address_values, id_values, pair_values, pair_in, piece_values, key_in, key_values, recorded_in, edited_in, retained_in, forgotten_in, census_in, swept_in, advanced_in, base_in, base2_in, file_in, rope_in, rope2_in, said_by_kind}
use Rattle.change_codec.proofs.Numbers.{AreBytes, length_part, number_front, number_fits, none_left}
use Rattle.change_codec.proofs.Places.{IsRight, number_holds, part_holds, behind_holds}
use Rattle.change_codec.proofs.Sound.{and_true, leb, ltb, first_split, lone, values_length, addresses_sound, addresses_good, ids_sound, ids_good, ids_rise, pairs_sound, pairs_good, pairs_rise, pieces_sound, pieces_good, text_is, key_sound, key_good, keys_sound, keys_good, id_is, right_front}

-- the bytes behind the kind, which keep a rule
record IsBehind (bytes spelled : List ℕ) (good : Bool) : Type 0 where
  fields : drop 1 bytes ≡ spelled
  grammar : good ≡ true

range_is : (at width most : ℕ) (bytes : List ℕ) → number at width 0 most bytes ≡ None → nat_le (number_at width at bytes) most ≡ true
range_is at width most bytes h = leb (number_at width at bytes) most (number_holds at width 0 most bytes h).most_is

recorded_behind : (width : ℕ) (bytes : List ℕ) → AreBytes bytes → recorded_place width bytes ≡ None
    → IsBehind bytes (recorded_bytes width (number_at 8 1 bytes) (number_at 4 9 bytes) (address_values width (number_at 4 13 bytes) 17 bytes)) (is_recording width (number_at 8 1 bytes) (number_at 4 9 bytes) (address_values width (number_at 4 13 bytes) 17 bytes))
recorded_behind width bytes h none =
    let id = number_at 8 1 bytes in
    let len = number_at 4 9 bytes in
    let count = number_at 4 13 bytes in
    let xs = address_values width count 17 bytes in
    let a = number 1 8 1 (2 ^ 48) bytes in
    let b = number 9 4 0 (2 ^ 30) bytes in
    let c = part 13 4 bytes in
    let d = addresses_place width count 17 bytes in
    let p = first_split a (b ∷ c ∷ d ∷ []) none in
    let q = first_split b (c ∷ d ∷ []) p.1 in
    let r = first_split c (d ∷ []) q.1 in
    let k = lone d r.1 in
    let within = part_holds 13 4 bytes r.0 in
    let size : length xs ≡ count = values_length (λ at. number_at width at bytes) (λ at. at + width) count 17 in
    record {
      fields =
          right_front 1 8 1 (2 ^ 48) bytes h p.0
          ∙ ap (λ (l : List ℕ). number_bytes 8 id ++ l) (right_front 9 4 0 (2 ^ 30) bytes h q.0)
          ∙ ap (λ (l : List ℕ). number_bytes 8 id ++ (number_bytes 4 len ++ l)) (number_front 13 4 bytes h within)
          ∙ ap (λ (l : List ℕ). number_bytes 8 id ++ (number_bytes 4 len ++ (number_bytes 4 count ++ l))) (addresses_sound width count 17 bytes h k)
          ∙ ap (λ m. number_bytes 8 id ++ (number_bytes 4 len ++ (number_bytes 4 m ++ flat_map (number_bytes width) xs))) (sym size);
      grammar =
          and_true (is_id id && nat_le len (2 ^ 30) && fits 4 (length xs)) (list_all (fits width) xs)
          (and_true (is_id id && nat_le len (2 ^ 30)) (fits 4 (length xs)) (and_true (is_id id) (nat_le len (2 ^ 30)) (id_is 1 bytes p.0) (range_is 9 4 (2 ^ 30) bytes q.0))
          (ap (fits 4) size ∙ ltb count (256 ^ 4) (number_fits 13 4 bytes h within)))
          (addresses_good width count 17 bytes h k);
    }

file_behind : (width : ℕ) (bytes : List ℕ) → AreBytes bytes → file_place width bytes ≡ None
    → IsBehind bytes (file_bytes width (number_at 8 1 bytes) (pair_values width (number_at 4 9 bytes) 13 bytes)) (is_file width (number_at 8 1 bytes) (pair_values width (number_at 4 9 bytes) 13 bytes))
file_behind width bytes h none =
    let id = number_at 8 1 bytes in
    let count = number_at 4 9 bytes in
    let xs = pair_values width count 13 bytes in
    let a = number 1 8 1 (2 ^ 48) bytes in
    let b = number 9 4 1 (2 ^ 32) bytes in
    let d = pairs_place width count 13 bytes in
    let p = first_split a (b ∷ d ∷ []) none in
    let q = first_split b (d ∷ []) p.1 in
    let k = lone d q.1 in
    let right = number_holds 9 4 1 (2 ^ 32) bytes q.0 in
    let size : length xs ≡ count = values_length (pair_in width bytes) (next_pair width bytes) count (record { at = 13; least = 0 }) in
    record {
      fields =
          right_front 1 8 1 (2 ^ 48) bytes h p.0
          ∙ ap (λ (l : List ℕ). number_bytes 8 id ++ l) (right_front 9 4 1 (2 ^ 32) bytes h q.0)
          ∙ ap (λ (l : List ℕ). number_bytes 8 id ++ (number_bytes 4 count ++ l)) (pairs_sound width count 13 bytes h k)
          ∙ ap (λ m. number_bytes 8 id ++ (number_bytes 4 m ++ flat_map (pair_bytes width) xs)) (sym size);
      grammar =
          and_true (is_id id && nat_le 1 (length xs) && fits 4 (length xs) && list_all (λ pair. fits 4 pair.index && fits width pair.address) xs) (rise (map (λ pair. pair.index) xs))
          (and_true (is_id id && nat_le 1 (length xs) && fits 4 (length xs)) (list_all (λ pair. fits 4 pair.index && fits width pair.address) xs)
          (and_true (is_id id && nat_le 1 (length xs)) (fits 4 (length xs))
          (and_true (is_id id) (nat_le 1 (length xs)) (id_is 1 bytes p.0) (ap (nat_le 1) size ∙ leb 1 count right.least_is))
          (ap (fits 4) size ∙ ltb count (256 ^ 4) (number_fits 9 4 bytes h right.within)))
          (pairs_good width count 13 bytes h k))
          (pairs_rise width count 13 bytes k);
    }

edited_behind : (bytes : List ℕ) → AreBytes bytes → edited_place bytes ≡ None → IsBehind bytes (number_bytes 8 (number_at 8 1 bytes) ++ pieces_bytes (piece_values 9 bytes)) (is_id (number_at 8 1 bytes) && are_pieces (piece_values 9 bytes))
edited_behind bytes h none =
    let id = number_at 8 1 bytes in
    let p = first_split (number 1 8 1 (2 ^ 48) bytes) (pieces_place 9 bytes ∷ []) none in
    let k = lone (pieces_place 9 bytes) p.1 in
    record {
      fields = right_front 1 8 1 (2 ^ 48) bytes h p.0 ∙ ap (λ (l : List ℕ). number_bytes 8 id ++ l) (pieces_sound 9 bytes h k);
      grammar = and_true (is_id id) (are_pieces (piece_values 9 bytes)) (id_is 1 bytes p.0) (pieces_good 9 bytes k);
    }

rope_behind : (bytes : List ℕ) → AreBytes bytes → rope_place bytes ≡ None
    → IsBehind bytes (number_bytes 8 (number_at 8 1 bytes) ++ number_bytes 8 (number_at 8 9 bytes) ++ pieces_bytes (piece_values 17 bytes)) (is_id (number_at 8 1 bytes) && is_moment (number_at 8 9 bytes) && are_pieces (piece_values 17 bytes))
rope_behind bytes h none =
    let id = number_at 8 1 bytes in
    let idle = number_at 8 9 bytes in
    let a = number 1 8 1 (2 ^ 48) bytes in
    let b = number 9 8 0 (2 ^ 40) bytes in
    let d = pieces_place 17 bytes in
    let p = first_split a (b ∷ d ∷ []) none in
    let q = first_split b (d ∷ []) p.1 in
    let k = lone d q.1 in
    record {
      fields =
          right_front 1 8 1 (2 ^ 48) bytes h p.0
          ∙ ap (λ (l : List ℕ). number_bytes 8 id ++ l) (right_front 9 8 0 (2 ^ 40) bytes h q.0)
          ∙ ap (λ (l : List ℕ). number_bytes 8 id ++ (number_bytes 8 idle ++ l)) (pieces_sound 17 bytes h k);
      grammar =
          and_true (is_id id && is_moment idle) (are_pieces (piece_values 17 bytes)) (and_true (is_id id) (is_moment idle) (id_is 1 bytes p.0) (range_is 9 8 (2 ^ 40) bytes q.0)) (pieces_good 17 bytes k);
    }

rope2_behind : (bytes : List ℕ) → AreBytes bytes → rope2_place bytes ≡ None
    → IsBehind bytes (number_bytes 8 (number_at 8 1 bytes) ++ number_bytes 8 (number_at 8 9 bytes) ++ number_bytes 1 (number_at 1 17 bytes) ++ pieces_bytes (piece_values 18 bytes)) (is_id (number_at 8 1 bytes) && is_moment (number_at 8 9 bytes) && nat_le (number_at 1 17 bytes) 3 && are_pieces (piece_values 18 bytes))
rope2_behind bytes h none =
    let id = number_at 8 1 bytes in
    let idle = number_at 8 9 bytes in
    let last = number_at 1 17 bytes in
    let a = number 1 8 1 (2 ^ 48) bytes in
    let b = number 9 8 0 (2 ^ 40) bytes in
    let c = number 17 1 0 3 bytes in
    let d = pieces_place 18 bytes in
    let p = first_split a (b ∷ c ∷ d ∷ []) none in
    let q = first_split b (c ∷ d ∷ []) p.1 in
    let r = first_split c (d ∷ []) q.1 in
    let k = lone d r.1 in
    record {
      fields =
          right_front 1 8 1 (2 ^ 48) bytes h p.0
          ∙ ap (λ (l : List ℕ). number_bytes 8 id ++ l) (right_front 9 8 0 (2 ^ 40) bytes h q.0)
          ∙ ap (λ (l : List ℕ). number_bytes 8 id ++ (number_bytes 8 idle ++ l)) (right_front 17 1 0 3 bytes h r.0)
          ∙ ap (λ (l : List ℕ). number_bytes 8 id ++ (number_bytes 8 idle ++ (number_bytes 1 last ++ l))) (pieces_sound 18 bytes h k);
      grammar =
          and_true (is_id id && is_moment idle && nat_le last 3) (are_pieces (piece_values 18 bytes))
          (and_true (is_id id && is_moment idle) (nat_le last 3) (and_true (is_id id) (is_moment idle) (id_is 1 bytes p.0) (range_is 9 8 (2 ^ 40) bytes q.0)) (range_is 17 1 3 bytes r.0))
          (pieces_good 18 bytes k);
    }

base_behind : (bytes : List ℕ) → AreBytes bytes → base_place bytes ≡ None → IsBehind bytes (number_bytes 8 (number_at 8 1 bytes) ++ number_bytes 8 (number_at 8 9 bytes)) (is_moment (number_at 8 1 bytes) && is_next (number_at 8 9 bytes))
base_behind bytes h none =
    let now = number_at 8 1 bytes in
    let next = number_at 8 9 bytes in
    let a = number 1 8 0 (2 ^ 40) bytes in
    let b = number 9 8 1 (2 ^ 48 + 1) bytes in
    let d = behind 17 bytes in
    let p = first_split a (b ∷ d ∷ []) none in
    let q = first_split b (d ∷ []) p.1 in
    let r = number_holds 9 8 1 (2 ^ 48 + 1) bytes q.0 in
    record {
      fields =
          right_front 1 8 0 (2 ^ 40) bytes h p.0
          ∙ ap (λ (l : List ℕ). number_bytes 8 now ++ l) (right_front 9 8 1 (2 ^ 48 + 1) bytes h q.0)
          ∙ ap (λ (l : List ℕ). number_bytes 8 now ++ (number_bytes 8 next ++ l)) (none_left 17 bytes (behind_holds 17 bytes (lone d q.1)));
      grammar = and_true (is_moment now) (is_next next) (range_is 1 8 (2 ^ 40) bytes p.0) (and_true (nat_le 1 next) (nat_le next (2 ^ 48 + 1)) (leb 1 next r.least_is) (leb next (2 ^ 48 + 1) r.most_is));
    }

advanced_behind : (bytes : List ℕ) → AreBytes bytes → advanced_place bytes ≡ None → IsBehind bytes (number_bytes 8 (number_at 8 1 bytes)) (nat_le 1 (number_at 8 1 bytes) && is_moment (number_at 8 1 bytes))
advanced_behind bytes h none =
    let n = number_at 8 1 bytes in
    let p = first_split (number 1 8 1 (2 ^ 40) bytes) (behind 9 bytes ∷ []) none in
    let r = number_holds 1 8 1 (2 ^ 40) bytes p.0 in
    record {
      fields = right_front 1 8 1 (2 ^ 40) bytes h p.0 ∙ ap (λ (l : List ℕ). number_bytes 8 n ++ l) (none_left 9 bytes (behind_holds 9 bytes (lone (behind 9 bytes) p.1)));
      grammar = and_true (nat_le 1 n) (is_moment n) (leb 1 n r.least_is) (leb n (2 ^ 40) r.most_is);
    }

swept_behind : (bytes : List ℕ) → AreBytes bytes → swept_place bytes ≡ None
    → IsBehind bytes (number_bytes 2 (length (id_values (number_at 2 1 bytes) 3 bytes)) ++ flat_map (number_bytes 8) (id_values (number_at 2 1 bytes) 3 bytes)) (fits 2 (length (id_values (number_at 2 1 bytes) 3 bytes)) && list_all is_id (id_values (number_at 2 1 bytes) 3 bytes) && rise (id_values (number_at 2 1 bytes) 3 bytes))
swept_behind bytes h none =
    let count = number_at 2 1 bytes in
    let xs = id_values count 3 bytes in
    let d = ids_place count 3 bytes in
    let p = first_split (part 1 2 bytes) (d ∷ []) none in
    let k = lone d p.1 in
    let within = part_holds 1 2 bytes p.0 in
    let size : length xs ≡ count = values_length (λ r. number_at 8 r.at bytes) (next_id bytes) count (record { at = 3; least = 1 }) in
    record {
      fields =
          number_front 1 2 bytes h within
          ∙ ap (λ (l : List ℕ). number_bytes 2 count ++ l) (ids_sound count 3 bytes h k)
          ∙ ap (λ m. number_bytes 2 m ++ flat_map (number_bytes 8) xs) (sym size);
      grammar =
          and_true (fits 2 (length xs) && list_all is_id xs) (rise xs)
          (and_true (fits 2 (length xs)) (list_all is_id xs) (ap (fits 2) size ∙ ltb count (256 ^ 2) (number_fits 1 2 bytes h within)) (ids_good count 3 bytes k))
          (ids_rise count 3 bytes k);
    }

census_behind : (bytes : List ℕ) → AreBytes bytes → census_place bytes ≡ None
    → IsBehind bytes (number_bytes 2 (length (key_values (number_at 2 1 bytes) 3 bytes)) ++ flat_map text_bytes (key_values (number_at 2 1 bytes) 3 bytes)) (nat_le 1 (length (key_values (number_at 2 1 bytes) 3 bytes)) && fits 2 (length (key_values (number_at 2 1 bytes) 3 bytes)) && list_all is_key (key_values (number_at 2 1 bytes) 3 bytes))
census_behind bytes h none =
    let count = number_at 2 1 bytes in
    let xs = key_values count 3 bytes in
    let d = keys_place count 3 bytes in
    let p = first_split (number 1 2 1 (2 ^ 16) bytes) (d ∷ []) none in
    let k = lone d p.1 in
    let right = number_holds 1 2 1 (2 ^ 16) bytes p.0 in
    let size : length xs ≡ count = values_length (key_in bytes) (next_key bytes) count 3 in
    record {
      fields =
          right_front 1 2 1 (2 ^ 16) bytes h p.0
          ∙ ap (λ (l : List ℕ). number_bytes 2 count ++ l) (keys_sound count 3 bytes h k)
          ∙ ap (λ m. number_bytes 2 m ++ flat_map text_bytes xs) (sym size);
      grammar =
          and_true (nat_le 1 (length xs) && fits 2 (length xs)) (list_all is_key xs)
          (and_true (nat_le 1 (length xs)) (fits 2 (length xs)) (ap (nat_le 1) size ∙ leb 1 count right.least_is) (ap (fits 2) size ∙ ltb count (256 ^ 2) (number_fits 1 2 bytes h right.within)))
          (keys_good count 3 bytes k);
    }

class_same : (n : ℕ) → 1 ≤ n → n ≤ 3 → class_number (class_of n) ≡ n
class_same zero lo hi = absurd (omega arith)
class_same (suc zero) lo hi = refl
class_same (suc (suc zero)) lo hi = refl
class_same (suc (suc (suc zero))) lo hi = refl
class_same (suc (suc (suc (suc n)))) lo hi = absurd (omega arith)

-- a class and a key
name_front : (bytes : List ℕ) → AreBytes bytes → number 1 1 1 3 bytes ≡ None → key_place bytes 2 ≡ None → drop 1 bytes ≡ number_bytes 1 (class_number (class_of (number_at 1 1 bytes))) ++ (text_bytes (key_in bytes 2) ++ drop (3 + number_at 1 2 bytes) bytes)
name_front bytes h none k =
    let r = number_holds 1 1 1 3 bytes none in
    right_front 1 1 1 3 bytes h none
    ∙ ap (λ m. number_bytes 1 m ++ drop 2 bytes) (sym (class_same (number_at 1 1 bytes) r.least_is r.most_is))
    ∙ ap (λ (l : List ℕ). number_bytes 1 (class_number (class_of (number_at 1 1 bytes))) ++ l) (key_sound 2 bytes h k)

nothing : (xs : List ℕ) → xs ++ [] ≡ xs
nothing [] = refl
nothing (x ∷ xs) = ap (λ l. x ∷ l) (nothing xs)

forgotten_behind : (bytes : List ℕ) → AreBytes bytes → forgotten_place bytes ≡ None → IsBehind bytes (number_bytes 1 (class_number (class_of (number_at 1 1 bytes))) ++ text_bytes (key_in bytes 2)) (is_key (key_in bytes 2))
forgotten_behind bytes h none =
    let a = number 1 1 1 3 bytes in
    let b = key_place bytes 2 in
    let d = behind (3 + number_at 1 2 bytes) bytes in
    let p = first_split a (b ∷ d ∷ []) none in
    let q = first_split b (d ∷ []) p.1 in
    let class = number_bytes 1 (class_number (class_of (number_at 1 1 bytes))) in
    record {
      fields =
          name_front bytes h p.0 q.0
          ∙ ap (λ (l : List ℕ). class ++ (text_bytes (key_in bytes 2) ++ l)) (none_left (3 + number_at 1 2 bytes) bytes (behind_holds (3 + number_at 1 2 bytes) bytes (lone d q.1)))
          ∙ ap (λ (l : List ℕ). class ++ l) (nothing (text_bytes (key_in bytes 2)));
      grammar = key_good 2 bytes q.0;
    }

-- what is known of a note
record IsNoteAt (class_is : Bool) (at : ℕ) (bytes : List ℕ) : Type 0 where
  size : IsRight at 1 (cond class_is 8 0) (cond class_is 8 128) bytes
  whole : at + 1 + number_at 1 at bytes ≤ length bytes
  ends : behind (at + 1 + number_at 1 at bytes) bytes ≡ None
  moment : (not class_is || ((number_at 1 at bytes == 8) && is_moment (spelled_number (key_in bytes at)))) ≡ true
  most : number_at 1 at bytes ≤ 128

note_at : (b : Bool) (at : ℕ) (bytes : List ℕ) → note_place b at bytes ≡ None → IsNoteAt b at bytes
note_at true at bytes none =
    let n = number_at 1 at bytes in
    let a = number at 1 8 8 bytes in
    let m = number (at + 1) 8 0 (2 ^ 40) bytes in
    let d = behind (at + 1 + n) bytes in
    let p = first_split a (m ∷ d ∷ []) none in
    let q = first_split m (d ∷ []) p.1 in
    let size = number_holds at 1 8 8 bytes p.0 in
    let right = number_holds (at + 1) 8 0 (2 ^ 40) bytes q.0 in
    let low = size.least_is in
    let high = size.most_is in
    let within = right.within in
    let eight : n ≡ 8 = omega (arith, low, high) in
    record {
      size = size;
      whole = omega (arith, within, eight);
      ends = lone d q.1;
      moment = and_true (n == 8) (is_moment (spelled_number (key_in bytes at))) (eq-eqb n 8 eight) (ap (λ k. is_moment (spelled_number (slice bytes (at + 1) k))) eight ∙ leb (number_at 8 (at + 1) bytes) (2 ^ 40) right.most_is);
      most = omega (arith, high);
    }
note_at false at bytes none =
    let n = number_at 1 at bytes in
    let a = number at 1 0 128 bytes in
    let m = part (at + 1) n bytes in
    let d = behind (at + 1 + n) bytes in
    let p = first_split a (m ∷ d ∷ []) none in
    let q = first_split m (d ∷ []) p.1 in
    let size = number_holds at 1 0 128 bytes p.0 in
    record { size = size; whole = part_holds (at + 1) n bytes q.0; ends = lone d q.1; moment = refl; most = size.most_is }

retained_behind : (bytes : List ℕ) → AreBytes bytes → retained_place bytes ≡ None
    → IsBehind bytes (number_bytes 1 (class_number (class_of (number_at 1 1 bytes))) ++ (text_bytes (key_in bytes 2) ++ (number_bytes 8 (number_at 8 (3 + number_at 1 2 bytes) bytes) ++ text_bytes (key_in bytes (11 + number_at 1 2 bytes)))))
    (is_key (key_in bytes 2) && is_id (number_at 8 (3 + number_at 1 2 bytes) bytes) && is_note (class_of (number_at 1 1 bytes)) (key_in bytes (11 + number_at 1 2 bytes)))
retained_behind bytes h none =
    let n = number_at 1 2 bytes in
    let class = class_of (number_at 1 1 bytes) in
    let b = class_number class == 2 in
    let o1 = number 1 1 1 3 bytes in
    let o2 = key_place bytes 2 in
    let o3 = number (3 + n) 8 1 (2 ^ 48) bytes in
    let o4 = note_place b (11 + n) bytes in
    let p = first_split o1 (o2 ∷ o3 ∷ o4 ∷ []) none in
    let q = first_split o2 (o3 ∷ o4 ∷ []) p.1 in
    let r = first_split o3 (o4 ∷ []) q.1 in
    let note = note_at b (11 + n) bytes (lone o4 r.1) in
    let key = key_in bytes 2 in
    let text = key_in bytes (11 + n) in
    let id = number_at 8 (3 + n) bytes in
    let head = number_bytes 1 (class_number class) in
    let eleven : 3 + n + 8 ≡ 11 + n = omega arith in
    let size : length text ≡ number_at 1 (11 + n) bytes = length_part (11 + n + 1) (number_at 1 (11 + n) bytes) bytes note.whole in
    let most = note.most in
    let last : drop (11 + n) bytes ≡ text_bytes text =
    text_is (11 + n) bytes h note.size.within note.whole
    ∙ ap (λ (l : List ℕ). text_bytes text ++ l) (none_left (11 + n + 1 + number_at 1 (11 + n) bytes) bytes (behind_holds (11 + n + 1 + number_at 1 (11 + n) bytes) bytes note.ends))
    ∙ nothing (text_bytes text) in
    record {
      fields =
          name_front bytes h p.0 q.0
          ∙ ap (λ (l : List ℕ). head ++ (text_bytes key ++ l)) (
          right_front (3 + n) 8 1 (2 ^ 48) bytes h r.0
          ∙ ap (λ (m : ℕ). number_bytes 8 id ++ drop m bytes) eleven
          ∙ ap (λ (l : List ℕ). number_bytes 8 id ++ l) last);
      grammar =
          and_true (is_key key && is_id id) (is_note class text)
          (and_true (is_key key) (is_id id) (key_good 2 bytes q.0) (id_is (3 + n) bytes r.0))
          (and_true (nat_le (length text) 128) (not b || ((length text == 8) && is_moment (spelled_number text))) (leb (length text) 128 (omega (arith, size, most)))
          (ap (λ m. not b || ((m == 8) && is_moment (spelled_number text))) size ∙ note.moment));
    }

retained_spelled : (bytes : List ℕ) → spelling (retained_in bytes)
    ≡ number_bytes 1 3 ++ (number_bytes 1 (class_number (class_of (number_at 1 1 bytes))) ++ (text_bytes (key_in bytes 2) ++ (number_bytes 8 (number_at 8 (3 + number_at 1 2 bytes) bytes) ++ text_bytes (key_in bytes (11 + number_at 1 2 bytes)))))
retained_spelled bytes =
    let n = number_at 1 2 bytes in
    let head = number_bytes 1 3 ++ number_bytes 1 (class_number (class_of (number_at 1 1 bytes))) in
    ap (λ (l : List ℕ). head ++ l) (ap (λ (l : List ℕ). number_bytes 1 (length (key_in bytes 2)) ++ l) (append_assoc (key_in bytes 2) (number_bytes 8 (number_at 8 (3 + n) bytes)) (text_bytes (key_in bytes (11 + n)))))

-- a change with its kind in front
spells : (bytes spelled : List ℕ) (good : Bool) (kind : ℕ) (c : Change) → AreBytes bytes → number 0 1 1 14 bytes ≡ None → number_at 1 0 bytes ≡ kind → IsBehind bytes spelled good → spelling c ≡ number_bytes 1 kind ++ spelled → keeps_grammar c ≡ good → Spells bytes c
spells bytes spelled good kind c h none is b e g = record {
  bytes_of =
      right_front 0 1 1 14 bytes h none
      ∙ ap (λ n. number_bytes 1 n ++ drop 1 bytes) is
      ∙ ap (λ (l : List ℕ). number_bytes 1 kind ++ l) b.fields
      ∙ sym e;
  grammar = g ∙ b.grammar;
}

some_same : (a b : Change) → Some a ≡ Some b → a ≡ b
some_same a b e = cc

of : (bytes : List ℕ) (a c : Change) → Some a ≡ Some c → Spells bytes a → Spells bytes c
of bytes a c e h = subst (λ x. Spells bytes x) (some_same a c e) h

by_kind : (bytes : List ℕ) (c : Change) → AreBytes bytes → number 0 1 1 14 bytes ≡ None → (kind : ℕ) → number_at 1 0 bytes ≡ kind → place_at (places_by_kind bytes) kind ≡ None → at_kind (said_by_kind bytes) kind ≡ Some c → Spells bytes c
by_kind bytes c h n zero is p e = cc
by_kind bytes c h n (suc zero) is p e = of bytes (recorded_in Narrow bytes) c e (spells bytes _ _ 1 (recorded_in Narrow bytes) h n is (recorded_behind 2 bytes h p) refl refl)
by_kind bytes c h n (suc (suc zero)) is p e = of bytes (edited_in bytes) c e (spells bytes _ _ 2 (edited_in bytes) h n is (edited_behind bytes h p) refl refl)
by_kind bytes c h n (suc (suc (suc zero))) is p e = of bytes (retained_in bytes) c e (spells bytes _ _ 3 (retained_in bytes) h n is (retained_behind bytes h p) (retained_spelled bytes) refl)
by_kind bytes c h n (suc (suc (suc (suc zero)))) is p e = of bytes (forgotten_in bytes) c e (spells bytes _ _ 4 (forgotten_in bytes) h n is (forgotten_behind bytes h p) refl refl)
by_kind bytes c h n (suc (suc (suc (suc (suc zero))))) is p e = of bytes (census_in bytes) c e (spells bytes _ _ 5 (census_in bytes) h n is (census_behind bytes h p) refl refl)
by_kind bytes c h n (suc (suc (suc (suc (suc (suc zero)))))) is p e = of bytes (swept_in bytes) c e (spells bytes _ _ 6 (swept_in bytes) h n is (swept_behind bytes h p) refl refl)
by_kind bytes c h n (suc (suc (suc (suc (suc (suc (suc zero))))))) is p e = of bytes (advanced_in bytes) c e (spells bytes _ _ 7 (advanced_in bytes) h n is (advanced_behind bytes h p) refl refl)
by_kind bytes c h n (suc (suc (suc (suc (suc (suc (suc (suc zero)))))))) is p e = of bytes (base_in bytes) c e (spells bytes _ _ 8 (base_in bytes) h n is (base_behind bytes h p) refl refl)
by_kind bytes c h n (suc (suc (suc (suc (suc (suc (suc (suc (suc zero))))))))) is p e = of bytes (file_in Narrow bytes) c e (spells bytes _ _ 9 (file_in Narrow bytes) h n is (file_behind 2 bytes h p) refl refl)
by_kind bytes c h n (suc (suc (suc (suc (suc (suc (suc (suc (suc (suc zero)))))))))) is p e = of bytes (rope_in bytes) c e (spells bytes _ _ 10 (rope_in bytes) h n is (rope_behind bytes h p) refl refl)
by_kind bytes c h n (suc (suc (suc (suc (suc (suc (suc (suc (suc (suc (suc zero))))))))))) is p e = of bytes (recorded_in Wide bytes) c e (spells bytes _ _ 11 (recorded_in Wide bytes) h n is (recorded_behind 4 bytes h p) refl refl)
by_kind bytes c h n (suc (suc (suc (suc (suc (suc (suc (suc (suc (suc (suc (suc zero)))))))))))) is p e = of bytes (base2_in bytes) c e (spells bytes _ _ 12 (base2_in bytes) h n is (base_behind bytes h p) refl refl)
by_kind bytes c h n (suc (suc (suc (suc (suc (suc (suc (suc (suc (suc (suc (suc (suc zero))))))))))))) is p e = of bytes (file_in Wide bytes) c e (spells bytes _ _ 13 (file_in Wide bytes) h n is (file_behind 4 bytes h p) refl refl)
by_kind bytes c h n (suc (suc (suc (suc (suc (suc (suc (suc (suc (suc (suc (suc (suc (suc zero)))))))))))))) is p e = of bytes (rope2_in bytes) c e (spells bytes _ _ 14 (rope2_in bytes) h n is (rope2_behind bytes h p) refl refl)
by_kind bytes c h n (suc (suc (suc (suc (suc (suc (suc (suc (suc (suc (suc (suc (suc (suc (suc kind))))))))))))))) is p e = cc

-- where nothing is refused, the bytes spell what they say
pub said_is_spelled : (bytes : List ℕ) (c : Change) → AreBytes bytes → refused bytes ≡ None → at_kind (said_by_kind bytes) (number_at 1 0 bytes) ≡ Some c → Spells bytes c
unfolding refused
said_is_spelled bytes c h none e =
    let o = place_at (places_by_kind bytes) (number_at 1 0 bytes) in
    let p = first_split (number 0 1 1 14 bytes) (o ∷ []) none in
    by_kind bytes c h p.0 (number_at 1 0 bytes) refl (lone o p.1) e
