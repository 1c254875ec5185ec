-- Where nothing is refused, the fields spell the bytes and keep the grammar.
use Rattle.std.proofs.Common.{◌≡◌, ℕ, zero, suc, ◌+◌, ◌-◌, ◌^◌, ◌<◌, ◌≤◌, max, Bool, true, false, ◌&&◌, not, cond, List, [], ◌∷◌, ◌++◌, map, length, drop, Option, Some, None, refl, ap, sym, ◌∙◌, arith, append_assoc}
use Rattle.std.specs.Prelude.{flat_map, nat_le, nat_lt}
use Rattle.std.specs.List.{list_all}
use Rattle.std.proofs.lemmas.Bool.Decides.{nat_tests}
use Rattle.voice_units.specs.Spots.{samples_in}
use Rattle.disk_areas.specs.Numbers.{number_at, number_bytes}
use Rattle.voice_model.specs.Spelling.{piece_bytes, pieces_bytes, text_bytes, pair_bytes, fits, is_id, is_piece, are_apart, are_pieces, is_key, rise}
use Rattle.change_codec.specs.declared.items.Rising.{Rising}
use Rattle.change_codec.specs.declared.items.Run.{Run}
use Rattle.change_codec.specs.Refused.{first, number, part, behind, each, addresses_place, next_id, ids_place, pair_place, next_pair, pairs_place, continues, piece_place, piece_in, next_piece, run_place, pieces_place, key_place, next_key, keys_place}
use Rattle.change_codec.specs.Said.{values, address_values, id_values, pair_in, pair_values, run_values, piece_values, key_in, key_values}
use Rattle.change_codec.proofs.Numbers.{AreBytes, text_front, length_part, number_front, number_fits, none_left}
use Rattle.change_codec.proofs.Places.{IsRight, number_holds, part_holds, behind_holds}
use Rattle.change_codec.proofs.Reading.{each_more, each_none, values_more, values_none}

-- ---- tests

pub and_true : (a b : Bool) → a ≡ true → b ≡ true → (a && b) ≡ true
and_true a b h k = ap (λ c. c && b) h ∙ k

pub leb : (m n : ℕ) → m ≤ n → nat_le m n ≡ true
leb m n h = grind (arith, nat_tests)

pub ltb : (m n : ℕ) → m < n → nat_lt m n ≡ true
ltb m n h = grind (arith, nat_tests)

-- the first place of a list is none where each is
pub first_split : (o : Option ℕ) (os : List (Option ℕ)) → first (o ∷ os) ≡ None → (o ≡ None) × (first os ≡ None)
first_split None os h = (refl, h)
first_split (Some place) os h = cc

-- the last of a list
pub lone : (o : Option ℕ) → first (o ∷ []) ≡ None → o ≡ None
lone o h = (first_split o [] h).0

-- ---- lists

pub each_split : {S : Type 0} (item : S → Option ℕ) (next : S → S) (stop : S → Option ℕ) (count : ℕ) (s : S) → each item next stop (suc count) s ≡ None → (item s ≡ None) × (each item next stop count (next s) ≡ None)
each_split item next stop count s h =
    let p = first_split (item s) (each item next stop count (next s) ∷ []) (sym (each_more item next stop count s) ∙ h) in
    (p.0, lone (each item next stop count (next s)) p.1)

pub each_sound : {S A : Type 0} (item : S → Option ℕ) (next : S → S) (stop : S → Option ℕ) (value : S → A) (f : A → List ℕ) (at : S → ℕ) (bytes : List ℕ)
    → ((s : S) → item s ≡ None → drop (at s) bytes ≡ f (value s) ++ drop (at (next s)) bytes)
    → ((s : S) → stop s ≡ None → drop (at s) bytes ≡ [])
    → (count : ℕ) (s : S) → each item next stop count s ≡ None → drop (at s) bytes ≡ flat_map f (values value next count s)
each_sound item next stop value f at bytes one end zero s h = end s (sym (each_none item next stop s) ∙ h) ∙ ap (λ l. flat_map f l) (sym (values_none value next s))
each_sound item next stop value f at bytes one end (suc count) s h =
    let p = each_split item next stop count s h in
    one s p.0 ∙ ap (λ (l : List ℕ). f (value s) ++ l) (each_sound item next stop value f at bytes one end count (next s) p.1) ∙ ap (λ l. flat_map f l) (sym (values_more value next count s))

pub each_good : {S A : Type 0} (item : S → Option ℕ) (next : S → S) (stop : S → Option ℕ) (value : S → A) (good : A → Bool)
    → ((s : S) → item s ≡ None → good (value s) ≡ true)
    → (count : ℕ) (s : S) → each item next stop count s ≡ None → list_all good (values value next count s) ≡ true
each_good item next stop value good one zero s h = ap (λ l. list_all good l) (values_none value next s)
each_good item next stop value good one (suc count) s h =
    let p = each_split item next stop count s h in
    ap (λ l. list_all good l) (values_more value next count s) ∙ and_true (good (value s)) (list_all good (values value next count (next s))) (one s p.0) (each_good item next stop value good one count (next s) p.1)

pub values_length : {S A : Type 0} (value : S → A) (next : S → S) (count : ℕ) (s : S) → length (values value next count s) ≡ count
values_length value next zero s = ap length (values_none value next s)
values_length value next (suc count) s = ap length (values_more value next count s) ∙ ap suc (values_length value next count (next s))

-- numbers rise where each is at least one more than the one before
pub each_rises : {S A : Type 0} (item : S → Option ℕ) (next : S → S) (stop : S → Option ℕ) (value : S → A) (number_of : A → ℕ) (least : S → ℕ)
    → ((s : S) → item s ≡ None → least s ≤ number_of (value s))
    → ((s : S) → least (next s) ≡ number_of (value s) + 1)
    → (count : ℕ) (s : S) → each item next stop count s ≡ None → rise (map number_of (values value next count s)) ≡ true
each_rises item next stop value number_of least low after zero s h = ap (λ l. rise (map number_of l)) (values_none value next s)
each_rises item next stop value number_of least low after (suc zero) s h =
    ap (λ l. rise (map number_of l)) (values_more value next 0 s ∙ ap (λ l. value s ∷ l) (values_none value next (next s)))
each_rises item next stop value number_of least low after (suc (suc count)) s h =
    let p = each_split item next stop (suc count) s h in
    let q = each_split item next stop count (next s) p.1 in
    let rest = each_rises item next stop value number_of least low after (suc count) (next s) p.1 in
    let here = low (next s) q.0 in
    let a = number_of (value s) in
    let b = number_of (value (next s)) in
    let lt : a < b = omega (arith, here, after s) in
    let more = values_more value next count (next s) in
    ap (λ l. rise (map number_of l)) (values_more value next (suc count) s ∙ ap (λ l. value s ∷ l) more)
    ∙ and_true (nat_lt a b) (rise (map number_of (value (next s) ∷ values value next count (next (next s))))) (ltb a b lt) (ap (λ l. rise (map number_of l)) (sym more) ∙ rest)

-- ---- addresses

end_of : (at : ℕ) (bytes : List ℕ) → behind at bytes ≡ None → drop at bytes ≡ []
end_of at bytes h = none_left at bytes (behind_holds at bytes h)

pub addresses_sound : (width count at : ℕ) (bytes : List ℕ) → AreBytes bytes → addresses_place width count at bytes ≡ None → drop at bytes ≡ flat_map (number_bytes width) (address_values width count at bytes)
addresses_sound width count at bytes h none =
    each_sound (λ at. part at width bytes) (λ at. at + width) (λ at. behind at bytes) (λ at. number_at width at bytes) (number_bytes width) (λ at. at) bytes
    (λ s k. number_front s width bytes h (part_holds s width bytes k)) (λ s k. end_of s bytes k) count at none

pub addresses_good : (width count at : ℕ) (bytes : List ℕ) → AreBytes bytes → addresses_place width count at bytes ≡ None → list_all (fits width) (address_values width count at bytes) ≡ true
addresses_good width count at bytes h none =
    each_good (λ at. part at width bytes) (λ at. at + width) (λ at. behind at bytes) (λ at. number_at width at bytes) (fits width)
    (λ s k. ltb (number_at width s bytes) (256 ^ width) (number_fits s width bytes h (part_holds s width bytes k))) count at none

-- ---- numbers of ropes

id_right : (n : ℕ) → 1 ≤ n → n ≤ 2 ^ 48 → is_id n ≡ true
id_right n lo hi = and_true (nat_le 1 n) (nat_le n (2 ^ 48)) (leb 1 n lo) (leb n (2 ^ 48) hi)

-- a number of a rope from a place on
pub id_is : (at : ℕ) (bytes : List ℕ) → number at 8 1 (2 ^ 48) bytes ≡ None → is_id (number_at 8 at bytes) ≡ true
id_is at bytes h = let r = number_holds at 8 1 (2 ^ 48) bytes h in id_right (number_at 8 at bytes) r.least_is r.most_is

-- a number in a range, and the rest
pub right_front : (at width least most : ℕ) (bytes : List ℕ) → AreBytes bytes → number at width least most bytes ≡ None → drop at bytes ≡ number_bytes width (number_at width at bytes) ++ drop (at + width) bytes
right_front at width least most bytes h none = number_front at width bytes h (number_holds at width least most bytes none).within

pub ids_sound : (count at : ℕ) (bytes : List ℕ) → AreBytes bytes → ids_place count at bytes ≡ None → drop at bytes ≡ flat_map (number_bytes 8) (id_values count at bytes)
ids_sound count at bytes h none =
    each_sound (λ r. number r.at 8 r.least (2 ^ 48) bytes) (next_id bytes) (λ r. behind r.at bytes) (λ r. number_at 8 r.at bytes) (number_bytes 8) (λ r. r.at) bytes
    (λ s k. right_front s.at 8 s.least (2 ^ 48) bytes h k) (λ s k. end_of s.at bytes k) count (record { at = at; least = 1 }) none

map_same : (xs : List ℕ) → map (λ n. n) xs ≡ xs
map_same [] = refl
map_same (x ∷ xs) = ap (λ l. x ∷ l) (map_same xs)

pub ids_rise : (count at : ℕ) (bytes : List ℕ) → ids_place count at bytes ≡ None → rise (id_values count at bytes) ≡ true
ids_rise count at bytes none =
    ap rise (sym (map_same (id_values count at bytes)))
    ∙ each_rises (λ r. number r.at 8 r.least (2 ^ 48) bytes) (next_id bytes) (λ r. behind r.at bytes) (λ r. number_at 8 r.at bytes) (λ n. n) (λ r. r.least)
    (λ s k. (number_holds s.at 8 s.least (2 ^ 48) bytes k).least_is) (λ s. refl) count (record { at = at; least = 1 }) none

ids_high : (bytes : List ℕ) (count : ℕ) (r : Rising) → 1 ≤ r.least → each (λ r. number r.at 8 r.least (2 ^ 48) bytes) (next_id bytes) (λ r. behind r.at bytes) count r ≡ None → list_all is_id (values (λ r. number_at 8 r.at bytes) (next_id bytes) count r) ≡ true
ids_high bytes zero r lo h = ap (λ l. list_all is_id l) (values_none (λ r. number_at 8 r.at bytes) (next_id bytes) r)
ids_high bytes (suc count) r lo h =
    let p = each_split (λ r. number r.at 8 r.least (2 ^ 48) bytes) (next_id bytes) (λ r. behind r.at bytes) count r h in
    let right = number_holds r.at 8 r.least (2 ^ 48) bytes p.0 in
    let least = right.least_is in
    let n = number_at 8 r.at bytes in
    ap (λ l. list_all is_id l) (values_more (λ r. number_at 8 r.at bytes) (next_id bytes) count r)
    ∙ and_true (is_id n) (list_all is_id (values (λ r. number_at 8 r.at bytes) (next_id bytes) count (next_id bytes r)))
    (id_right n (omega (arith, lo, least)) right.most_is) (ids_high bytes count (next_id bytes r) (omega arith) p.1)

pub ids_good : (count at : ℕ) (bytes : List ℕ) → ids_place count at bytes ≡ None → list_all is_id (id_values count at bytes) ≡ true
ids_good count at bytes none = ids_high bytes count (record { at = at; least = 1 }) (omega arith) none

-- ---- pairs

pair_front : (width : ℕ) (bytes : List ℕ) → AreBytes bytes → (s : Rising) → pair_place width bytes s ≡ None → drop s.at bytes ≡ pair_bytes width (pair_in width bytes s) ++ drop (next_pair width bytes s).at bytes
pair_front width bytes h s k =
    let p = first_split (number s.at 4 s.least (2 ^ 32) bytes) (part (s.at + 4) width bytes ∷ []) k in
    let q = lone (part (s.at + 4) width bytes) p.1 in
    right_front s.at 4 s.least (2 ^ 32) bytes h p.0
    ∙ ap (λ (l : List ℕ). number_bytes 4 (number_at 4 s.at bytes) ++ l) (number_front (s.at + 4) width bytes h (part_holds (s.at + 4) width bytes q))
    ∙ sym (append_assoc (number_bytes 4 (number_at 4 s.at bytes)) (number_bytes width (number_at width (s.at + 4) bytes)) (drop (s.at + 4 + width) bytes))

pub pairs_sound : (width count at : ℕ) (bytes : List ℕ) → AreBytes bytes → pairs_place width count at bytes ≡ None → drop at bytes ≡ flat_map (pair_bytes width) (pair_values width count at bytes)
pairs_sound width count at bytes h none =
    each_sound (pair_place width bytes) (next_pair width bytes) (λ r. behind r.at bytes) (pair_in width bytes) (pair_bytes width) (λ r. r.at) bytes
    (pair_front width bytes h) (λ s k. end_of s.at bytes k) count (record { at = at; least = 0 }) none

pub pairs_rise : (width count at : ℕ) (bytes : List ℕ) → pairs_place width count at bytes ≡ None → rise (map (λ pair. pair.index) (pair_values width count at bytes)) ≡ true
pairs_rise width count at bytes none =
    each_rises (pair_place width bytes) (next_pair width bytes) (λ r. behind r.at bytes) (pair_in width bytes) (λ pair. pair.index) (λ r. r.least)
    (λ s k. (number_holds s.at 4 s.least (2 ^ 32) bytes (first_split (number s.at 4 s.least (2 ^ 32) bytes) (part (s.at + 4) width bytes ∷ []) k).0).least_is) (λ s. refl) count (record { at = at; least = 0 }) none

pair_right : (width : ℕ) (bytes : List ℕ) → AreBytes bytes → (s : Rising) → pair_place width bytes s ≡ None → (fits 4 (pair_in width bytes s).index && fits width (pair_in width bytes s).address) ≡ true
pair_right width bytes h s k =
    let p = first_split (number s.at 4 s.least (2 ^ 32) bytes) (part (s.at + 4) width bytes ∷ []) k in
    let q = lone (part (s.at + 4) width bytes) p.1 in
    and_true (fits 4 (number_at 4 s.at bytes)) (fits width (number_at width (s.at + 4) bytes))
    (ltb (number_at 4 s.at bytes) (256 ^ 4) (number_fits s.at 4 bytes h (number_holds s.at 4 s.least (2 ^ 32) bytes p.0).within))
    (ltb (number_at width (s.at + 4) bytes) (256 ^ width) (number_fits (s.at + 4) width bytes h (part_holds (s.at + 4) width bytes q)))

pub pairs_good : (width count at : ℕ) (bytes : List ℕ) → AreBytes bytes → pairs_place width count at bytes ≡ None → list_all (λ pair. fits 4 pair.index && fits width pair.address) (pair_values width count at bytes) ≡ true
pairs_good width count at bytes h none =
    each_good (pair_place width bytes) (next_pair width bytes) (λ r. behind r.at bytes) (pair_in width bytes) (λ pair. fits 4 pair.index && fits width pair.address)
    (pair_right width bytes h) count (record { at = at; least = 0 }) none

-- ---- pieces

-- what is known of a piece at which nothing is refused
record IsPieceAt (bytes : List ℕ) (s : Run) : Type 0 where
  file : number s.at 8 1 (2 ^ 48) bytes ≡ None
  from : part (s.at + 8) 4 bytes ≡ None
  apart : continues bytes s ≡ false
  len : number (s.at + 12) 4 1 (2 ^ 30 - max (number_at 4 (s.at + 8) bytes) s.sum) bytes ≡ None

piece_at : (bytes : List ℕ) (s : Run) → piece_place bytes s ≡ None → IsPieceAt bytes s
piece_at bytes s k =
    let a = number s.at 8 1 (2 ^ 48) bytes in
    let b = part (s.at + 8) 4 bytes in
    let c = cond (continues bytes s) (Some (s.at + 8)) None in
    let d = number (s.at + 12) 4 1 (2 ^ 30 - max (number_at 4 (s.at + 8) bytes) s.sum) bytes in
    let p = first_split a (b ∷ c ∷ d ∷ []) k in
    let q = first_split b (c ∷ d ∷ []) p.1 in
    let r = first_split c (d ∷ []) q.1 in
    record { file = p.0; from = q.0; apart = by (continues bytes s) r.0; len = lone d r.1 }
  where
    by : (b : Bool) → cond b (Some (s.at + 8)) None ≡ None → b ≡ false
    by true h = cc
    by false h = refl

piece_front : (bytes : List ℕ) → AreBytes bytes → (s : Run) → piece_place bytes s ≡ None → drop s.at bytes ≡ piece_bytes (piece_in bytes s) ++ drop (next_piece bytes s).at bytes
piece_front bytes h s k =
    let p = piece_at bytes s k in
    let e : s.at + 8 + 4 ≡ s.at + 12 = omega arith in
    let g : s.at + 12 + 4 ≡ s.at + 16 = omega arith in
    right_front s.at 8 1 (2 ^ 48) bytes h p.file
    ∙ ap (λ (l : List ℕ). number_bytes 8 (number_at 8 s.at bytes) ++ l) (
    number_front (s.at + 8) 4 bytes h (part_holds (s.at + 8) 4 bytes p.from)
    ∙ ap (λ (n : ℕ). number_bytes 4 (number_at 4 (s.at + 8) bytes) ++ drop n bytes) e
    ∙ ap (λ (l : List ℕ). number_bytes 4 (number_at 4 (s.at + 8) bytes) ++ l) (
    right_front (s.at + 12) 4 1 (2 ^ 30 - max (number_at 4 (s.at + 8) bytes) s.sum) bytes h p.len
    ∙ ap (λ (n : ℕ). number_bytes 4 (number_at 4 (s.at + 12) bytes) ++ drop n bytes) g))

pub run_sound : (count at : ℕ) (bytes : List ℕ) → AreBytes bytes → run_place count at bytes ≡ None → drop at bytes ≡ flat_map piece_bytes (run_values count at bytes)
run_sound count at bytes h none =
    each_sound (piece_place bytes) (next_piece bytes) (λ r. behind r.at bytes) (piece_in bytes) piece_bytes (λ r. r.at) bytes
    (piece_front bytes h) (λ s k. end_of s.at bytes k) count (record { at = at; file = 0; last = 0; sum = 0 }) none

piece_right : (bytes : List ℕ) (s : Run) → piece_place bytes s ≡ None → is_piece (piece_in bytes s) ≡ true
piece_right bytes s k =
    let p = piece_at bytes s k in
    let r = number_holds (s.at + 12) 4 1 (2 ^ 30 - max (number_at 4 (s.at + 8) bytes) s.sum) bytes p.len in
    let least = r.least_is in
    let most = r.most_is in
    let from = number_at 4 (s.at + 8) bytes in
    let len = number_at 4 (s.at + 12) bytes in
    and_true (is_id (number_at 8 s.at bytes) && nat_le 1 len) (nat_le (from + len) (2 ^ 30))
    (and_true (is_id (number_at 8 s.at bytes)) (nat_le 1 len) (id_is s.at bytes p.file) (leb 1 len least))
    (leb (from + len) (2 ^ 30) (omega (arith, least, most)))

pub run_good : (count at : ℕ) (bytes : List ℕ) → run_place count at bytes ≡ None → list_all is_piece (run_values count at bytes) ≡ true
run_good count at bytes none =
    each_good (piece_place bytes) (next_piece bytes) (λ r. behind r.at bytes) (piece_in bytes) is_piece (piece_right bytes) count (record { at = at; file = 0; last = 0; sum = 0 }) none

sum_within : (bytes : List ℕ) (count : ℕ) (s : Run) → s.sum ≤ 2 ^ 30 → each (piece_place bytes) (next_piece bytes) (λ r. behind r.at bytes) count s ≡ None → s.sum + samples_in (values (piece_in bytes) (next_piece bytes) count s) ≤ 2 ^ 30
sum_within bytes zero s most h = let none = ap samples_in (values_none (piece_in bytes) (next_piece bytes) s) in omega (arith, none, most)
sum_within bytes (suc count) s most h =
    let p = each_split (piece_place bytes) (next_piece bytes) (λ r. behind r.at bytes) count s h in
    let q = piece_at bytes s p.0 in
    let r = number_holds (s.at + 12) 4 1 (2 ^ 30 - max (number_at 4 (s.at + 8) bytes) s.sum) bytes q.len in
    let least = r.least_is in
    let len = r.most_is in
    let rest = sum_within bytes count (next_piece bytes s) (omega (arith, least, len)) p.1 in
    let more = ap samples_in (values_more (piece_in bytes) (next_piece bytes) count s) in
    omega (arith, rest, more)

pub run_sum : (count at : ℕ) (bytes : List ℕ) → run_place count at bytes ≡ None → samples_in (run_values count at bytes) ≤ 2 ^ 30
run_sum count at bytes none = let within = sum_within bytes count (record { at = at; file = 0; last = 0; sum = 0 }) (omega arith) none in omega (arith, within)

apart_from : (bytes : List ℕ) (count : ℕ) (s : Run) → each (piece_place bytes) (next_piece bytes) (λ r. behind r.at bytes) count s ≡ None → are_apart (values (piece_in bytes) (next_piece bytes) count s) ≡ true
apart_from bytes zero s h = ap are_apart (values_none (piece_in bytes) (next_piece bytes) s)
apart_from bytes (suc zero) s h = ap are_apart (values_more (piece_in bytes) (next_piece bytes) 0 s ∙ ap (λ l. piece_in bytes s ∷ l) (values_none (piece_in bytes) (next_piece bytes) (next_piece bytes s)))
apart_from bytes (suc (suc count)) s h =
    let item = piece_place bytes in
    let next = next_piece bytes in
    let p = each_split item next (λ r. behind r.at bytes) (suc count) s h in
    let q = each_split item next (λ r. behind r.at bytes) count (next s) p.1 in
    let one = piece_at bytes (next s) q.0 in
    let rest = apart_from bytes (suc count) (next s) p.1 in
    let more = values_more (piece_in bytes) next count (next s) in
    ap are_apart (values_more (piece_in bytes) next (suc count) s ∙ ap (λ l. piece_in bytes s ∷ l) more)
    ∙ and_true (not (continues bytes (next s))) (are_apart (piece_in bytes (next s) ∷ values (piece_in bytes) next count (next (next s)))) (ap not one.apart) (ap are_apart (sym more) ∙ rest)

pub run_apart : (count at : ℕ) (bytes : List ℕ) → run_place count at bytes ≡ None → are_apart (run_values count at bytes) ≡ true
run_apart count at bytes none = apart_from bytes count (record { at = at; file = 0; last = 0; sum = 0 }) none

-- pieces with their count in front
pub pieces_sound : (at : ℕ) (bytes : List ℕ) → AreBytes bytes → pieces_place at bytes ≡ None → drop at bytes ≡ pieces_bytes (piece_values at bytes)
pieces_sound at bytes h none =
    let n = number_at 2 at bytes in
    let p = first_split (number at 2 0 4096 bytes) (run_place n (at + 2) bytes ∷ []) none in
    right_front at 2 0 4096 bytes h p.0
    ∙ ap (λ (l : List ℕ). number_bytes 2 n ++ l) (run_sound n (at + 2) bytes h (lone (run_place n (at + 2) bytes) p.1))
    ∙ ap (λ m. number_bytes 2 m ++ flat_map piece_bytes (piece_values at bytes)) (sym (values_length (piece_in bytes) (next_piece bytes) n (record { at = at + 2; file = 0; last = 0; sum = 0 })))

pub pieces_good : (at : ℕ) (bytes : List ℕ) → pieces_place at bytes ≡ None → are_pieces (piece_values at bytes) ≡ true
pieces_good at bytes none =
    let n = number_at 2 at bytes in
    let ps = piece_values at bytes in
    let p = first_split (number at 2 0 4096 bytes) (run_place n (at + 2) bytes ∷ []) none in
    let k = lone (run_place n (at + 2) bytes) p.1 in
    let size = values_length (piece_in bytes) (next_piece bytes) n (record { at = at + 2; file = 0; last = 0; sum = 0 }) in
    let few = (number_holds at 2 0 4096 bytes p.0).most_is in
    and_true (nat_le (length ps) 4096 && list_all is_piece ps && nat_le (samples_in ps) (2 ^ 30)) (are_apart ps)
    (and_true (nat_le (length ps) 4096 && list_all is_piece ps) (nat_le (samples_in ps) (2 ^ 30))
    (and_true (nat_le (length ps) 4096) (list_all is_piece ps) (leb (length ps) 4096 (omega (arith, size, few))) (run_good n (at + 2) bytes k))
    (leb (samples_in ps) (2 ^ 30) (run_sum n (at + 2) bytes k)))
    (run_apart n (at + 2) bytes k)

-- ---- keys

-- a text behind its length
pub text_is : (at : ℕ) (bytes : List ℕ) → AreBytes bytes → at + 1 ≤ length bytes → at + 1 + number_at 1 at bytes ≤ length bytes → drop at bytes ≡ text_bytes (key_in bytes at) ++ drop (next_key bytes at) bytes
text_is at bytes h one whole =
    let n = number_at 1 at bytes in
    let size = length_part (at + 1) n bytes whole in
    number_front at 1 bytes h one
    ∙ ap (λ m. number_bytes 1 m ++ drop (at + 1) bytes) (sym size)
    ∙ ap (λ (l : List ℕ). number_bytes 1 (length (key_in bytes at)) ++ l) (text_front (at + 1) n bytes)

pub key_parts : (at : ℕ) (bytes : List ℕ) → key_place bytes at ≡ None → IsRight at 1 1 64 bytes × (at + 1 + number_at 1 at bytes ≤ length bytes)
key_parts at bytes k =
    let p = first_split (number at 1 1 64 bytes) (part (at + 1) (number_at 1 at bytes) bytes ∷ []) k in
    (number_holds at 1 1 64 bytes p.0, part_holds (at + 1) (number_at 1 at bytes) bytes (lone (part (at + 1) (number_at 1 at bytes) bytes) p.1))

pub key_sound : (at : ℕ) (bytes : List ℕ) → AreBytes bytes → key_place bytes at ≡ None → drop at bytes ≡ text_bytes (key_in bytes at) ++ drop (next_key bytes at) bytes
key_sound at bytes h k = let p = key_parts at bytes k in text_is at bytes h p.0.within p.1

pub key_good : (at : ℕ) (bytes : List ℕ) → key_place bytes at ≡ None → is_key (key_in bytes at) ≡ true
key_good at bytes k =
    let p = key_parts at bytes k in
    let size = length_part (at + 1) (number_at 1 at bytes) bytes p.1 in
    let least = p.0.least_is in
    let most = p.0.most_is in
    let n = length (key_in bytes at) in
    and_true (nat_le 1 n) (nat_le n 64) (leb 1 n (omega (arith, size, least))) (leb n 64 (omega (arith, size, most)))

pub keys_sound : (count at : ℕ) (bytes : List ℕ) → AreBytes bytes → keys_place count at bytes ≡ None → drop at bytes ≡ flat_map text_bytes (key_values count at bytes)
keys_sound count at bytes h none =
    each_sound (key_place bytes) (next_key bytes) (λ at. behind at bytes) (key_in bytes) text_bytes (λ at. at) bytes (λ s k. key_sound s bytes h k) (λ s k. end_of s bytes k) count at none

pub keys_good : (count at : ℕ) (bytes : List ℕ) → keys_place count at bytes ≡ None → list_all is_key (key_values count at bytes) ≡ true
keys_good count at bytes none = each_good (key_place bytes) (next_key bytes) (λ at. behind at bytes) (key_in bytes) is_key (λ s k. key_good s bytes k) count at none
