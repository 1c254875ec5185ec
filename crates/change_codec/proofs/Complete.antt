-- Where a change is spelled, nothing is refused: its fields.
use Rattle.std.proofs.Common.{◌≡◌, ℕ, zero, suc, ◌+◌, ◌-◌, ◌^◌, ◌<◌, ◌≤◌, max, Bool, true, false, ◌&&◌, not, ◌==◌, cond, List, [], ◌∷◌, ◌++◌, map, length, take, drop, Option, Some, None, refl, ap, sym, subst, ◌∙◌, arith, append_assoc}
use Rattle.std.specs.Prelude.{flat_map, nat_le, nat_lt}
use Rattle.std.specs.List.{list_all}
use Rattle.std.proofs.lemmas.Bool.{leb-true, ltb-true, ne_eqb}
use Rattle.voice_units.specs.declared.pieces.Piece.{Piece}
use Rattle.voice_units.specs.Spots.{samples_in}
use Rattle.voice_units.proofs.PiecesOfRopes.{both}
use Rattle.voice_model.specs.declared.lists.Pair.{Pair}
use Rattle.disk_areas.specs.Numbers.{number_at, number_bytes}
use Rattle.voice_model.specs.Spelling.{piece_bytes, pieces_bytes, text_bytes, pair_bytes, fits, is_id, is_piece, are_apart, are_pieces, is_key, rise}
use Rattle.change_codec.specs.declared.items.Rising.{Rising}
use Rattle.change_codec.specs.declared.items.Run.{Run}
use Rattle.change_codec.specs.Refused.{first, number, part, behind, each, addresses_place, next_id, ids_place, pair_place, next_pair, pairs_place, continues, piece_place, piece_in, past, next_piece, run_place, pieces_place, key_place, next_key, keys_place}
use Rattle.change_codec.specs.Said.{key_in}
use Rattle.change_codec.proofs.Numbers.{number_seen, part_seen, part_behind, part_within}
use Rattle.change_codec.proofs.Places.{number_right, part_whole, nothing_behind}
use Rattle.change_codec.proofs.Reading.{each_more, each_none, first_none}

-- ---- fields

-- a number in its range is not refused
pub number_taken : (at width least most n : ℕ) (bytes rest : List ℕ) → at ≤ length bytes → n < 256 ^ width → least ≤ n → n ≤ most → drop at bytes ≡ number_bytes width n ++ rest → number at width least most bytes ≡ None
number_taken at width least most n bytes rest le small lo hi h =
    let s = number_seen at width n bytes rest le small h in
    let value = s.value in
    number_right at width least most bytes s.within (omega (arith, value, lo)) (omega (arith, value, hi))

drop_empty : (at : ℕ) (bytes : List ℕ) → drop at bytes ≡ [] → length bytes ≤ at
drop_empty zero [] h = omega arith
drop_empty zero (b ∷ bytes) h = cc
drop_empty (suc at) [] h = omega arith
drop_empty (suc at) (b ∷ bytes) h = let rest = drop_empty at bytes h in omega (arith, rest)

pub end_taken : (at : ℕ) (bytes : List ℕ) → drop at bytes ≡ [] → behind at bytes ≡ None
end_taken at bytes h = nothing_behind at bytes (drop_empty at bytes h)

-- the first place of a list is none where each is
pub first_all : (o : Option ℕ) (os : List (Option ℕ)) → o ≡ None → first os ≡ None → first (o ∷ os) ≡ None
first_all o os h k = first_none o os h ∙ k

pub is_small_id : (n : ℕ) → is_id n ≡ true → (1 ≤ n) × (n ≤ 2 ^ 48)
is_small_id n h = let p = both (nat_le 1 n) (nat_le n (2 ^ 48)) h in (leb-true 1 n p.0, leb-true n (2 ^ 48) p.1)

-- the number of a rope
pub id_taken : (at n : ℕ) (bytes rest : List ℕ) → at ≤ length bytes → is_id n ≡ true → drop at bytes ≡ number_bytes 8 n ++ rest → number at 8 1 (2 ^ 48) bytes ≡ None
id_taken at n bytes rest le good h =
    let r = is_small_id n good in
    let hi = r.1 in
    number_taken at 8 1 (2 ^ 48) n bytes rest le (omega (arith, hi)) r.0 hi h

-- ---- lists

-- what one item leaves for the next
pub record IsTaken {S A : Type 0} (item : S → Option ℕ) (next : S → S) (f : A → List ℕ) (at : S → ℕ) (bytes : List ℕ) (Good : S → List A → Type 0) (s : S) (xs : List A) : Type 0 where
  pub none : item s ≡ None
  pub within : at (next s) ≤ length bytes
  pub rest : drop (at (next s)) bytes ≡ flat_map f xs
  pub good : Good (next s) xs

pub each_taken : {S A : Type 0} (item : S → Option ℕ) (next : S → S) (stop : S → Option ℕ) (f : A → List ℕ) (at : S → ℕ) (bytes : List ℕ) (Good : S → List A → Type 0)
    → ((s : S) (x : A) (xs : List A) → at s ≤ length bytes → Good s (x ∷ xs) → drop (at s) bytes ≡ f x ++ flat_map f xs → IsTaken item next f at bytes Good s xs)
    → ((s : S) → drop (at s) bytes ≡ [] → stop s ≡ None)
    → (xs : List A) (s : S) → at s ≤ length bytes → Good s xs → drop (at s) bytes ≡ flat_map f xs → each item next stop (length xs) s ≡ None
each_taken item next stop f at bytes Good one end [] s le good h = each_none item next stop s ∙ end s h
each_taken item next stop f at bytes Good one end (x ∷ xs) s le good h =
    let t = one s x xs le good h in
    let later = each_taken item next stop f at bytes Good one end xs (next s) t.within t.good t.rest in
    each_more item next stop (length xs) s ∙ first_all (item s) (each item next stop (length xs) (next s) ∷ []) t.none (first_all (each item next stop (length xs) (next s)) [] later refl)

-- ---- addresses

address_taken : (width : ℕ) (bytes : List ℕ) (at x : ℕ) (xs : List ℕ) → at ≤ length bytes → list_all (fits width) (x ∷ xs) ≡ true → drop at bytes ≡ number_bytes width x ++ flat_map (number_bytes width) xs
    → IsTaken (λ at. part at width bytes) (λ at. at + width) (number_bytes width) (λ at. at) bytes (λ at xs. list_all (fits width) xs ≡ true) at xs
address_taken width bytes at x xs le good h =
    let p = both (fits width x) (list_all (fits width) xs) good in
    let s = number_seen at width x bytes (flat_map (number_bytes width) xs) le (ltb-true x (256 ^ width) p.0) h in
    record { none = part_whole at width bytes s.within; within = s.within; rest = s.behind; good = p.1 }

pub addresses_taken : (width at : ℕ) (bytes xs : List ℕ) → at ≤ length bytes → list_all (fits width) xs ≡ true → drop at bytes ≡ flat_map (number_bytes width) xs → addresses_place width (length xs) at bytes ≡ None
addresses_taken width at bytes xs le good h =
    each_taken (λ at. part at width bytes) (λ at. at + width) (λ at. behind at bytes) (number_bytes width) (λ at. at) bytes (λ at xs. list_all (fits width) xs ≡ true)
    (address_taken width bytes) (λ s k. end_taken s bytes k) xs at le good h

-- ---- rising numbers

-- the first number is at least so much
abbrev pub Above : ℕ → List ℕ → Type 0
Above least [] = Unit {0}
Above least (x ∷ xs) = least ≤ x

rise_above : (x : ℕ) (xs : List ℕ) → rise (x ∷ xs) ≡ true → Above (x + 1) xs × (rise xs ≡ true)
rise_above x [] h = (tt, refl)
rise_above x (y ∷ ys) h =
    let p = both (nat_lt x y) (rise (y ∷ ys)) h in
    let lt = ltb-true x y p.0 in
    (omega (arith, lt), p.1)

abbrev GoodIds : Rising → List ℕ → Type 0
GoodIds r xs = (list_all is_id xs ≡ true) × (rise xs ≡ true) × Above r.least xs

one_id : (bytes : List ℕ) (r : Rising) (x : ℕ) (xs : List ℕ) → r.at ≤ length bytes → GoodIds r (x ∷ xs) → drop r.at bytes ≡ number_bytes 8 x ++ flat_map (number_bytes 8) xs
    → IsTaken (λ r. number r.at 8 r.least (2 ^ 48) bytes) (next_id bytes) (number_bytes 8) (λ r. r.at) bytes GoodIds r xs
one_id bytes r x xs le good h =
    let p = both (is_id x) (list_all is_id xs) good.0 in
    let size = is_small_id x p.0 in
    let hi = size.1 in
    let s = number_seen r.at 8 x bytes (flat_map (number_bytes 8) xs) le (omega (arith, hi)) h in
    let later = rise_above x xs good.1 in
    record {
      none = number_taken r.at 8 r.least (2 ^ 48) x bytes (flat_map (number_bytes 8) xs) le (omega (arith, hi)) good.2 hi h;
      within = s.within;
      rest = s.behind;
      good = (p.1, later.1, subst (λ (n : ℕ). Above (n + 1) xs) (sym s.value) later.0);
    }

above_one : (xs : List ℕ) → list_all is_id xs ≡ true → Above 1 xs
above_one [] h = tt
above_one (x ∷ xs) h = (is_small_id x (both (is_id x) (list_all is_id xs) h).0).0

pub ids_taken : (at : ℕ) (bytes xs : List ℕ) → at ≤ length bytes → list_all is_id xs ≡ true → rise xs ≡ true → drop at bytes ≡ flat_map (number_bytes 8) xs → ids_place (length xs) at bytes ≡ None
ids_taken at bytes xs le good rises h =
    each_taken (λ r. number r.at 8 r.least (2 ^ 48) bytes) (next_id bytes) (λ r. behind r.at bytes) (number_bytes 8) (λ r. r.at) bytes GoodIds
    (one_id bytes) (λ r k. end_taken r.at bytes k) xs (record { at = at; least = 1 }) le (good, rises, above_one xs good) h

abbrev GoodPairs : ℕ → Rising → List Pair → Type 0
GoodPairs width r xs = (list_all (λ pair. fits 4 pair.index && fits width pair.address) xs ≡ true) × (rise (map (λ pair. pair.index) xs) ≡ true) × Above r.least (map (λ pair. pair.index) xs)

one_pair : (width : ℕ) (bytes : List ℕ) (r : Rising) (x : Pair) (xs : List Pair) → r.at ≤ length bytes → GoodPairs width r (x ∷ xs) → drop r.at bytes ≡ pair_bytes width x ++ flat_map (pair_bytes width) xs
    → IsTaken (pair_place width bytes) (next_pair width bytes) (pair_bytes width) (λ r. r.at) bytes (GoodPairs width) r xs
one_pair width bytes r x xs le good h =
    let rest = flat_map (pair_bytes width) xs in
    let p = both (fits 4 x.index && fits width x.address) (list_all (λ pair. fits 4 pair.index && fits width pair.address) xs) good.0 in
    let q = both (fits 4 x.index) (fits width x.address) p.0 in
    let small = ltb-true x.index (256 ^ 4) q.0 in
    let whole : drop r.at bytes ≡ number_bytes 4 x.index ++ (number_bytes width x.address ++ rest) = h ∙ append_assoc (number_bytes 4 x.index) (number_bytes width x.address) rest in
    let s = number_seen r.at 4 x.index bytes (number_bytes width x.address ++ rest) le small whole in
    let t = number_seen (r.at + 4) width x.address bytes rest s.within (ltb-true x.address (256 ^ width) q.1) s.behind in
    let later = rise_above x.index (map (λ pair. pair.index) xs) good.1 in
    record {
      none =
          first_all (number r.at 4 r.least (2 ^ 32) bytes) (part (r.at + 4) width bytes ∷ [])
          (number_taken r.at 4 r.least (2 ^ 32) x.index bytes (number_bytes width x.address ++ rest) le small good.2 (omega (arith, small)) whole)
          (first_all (part (r.at + 4) width bytes) [] (part_whole (r.at + 4) width bytes t.within) refl);
      within = t.within;
      rest = t.behind;
      good = (p.1, later.1, subst (λ (n : ℕ). Above (n + 1) (map (λ pair. pair.index) xs)) (sym s.value) later.0);
    }

above_zero : (xs : List ℕ) → Above 0 xs
above_zero [] = tt
above_zero (x ∷ xs) = omega arith

pub pairs_taken : (width at : ℕ) (bytes : List ℕ) (xs : List Pair) → at ≤ length bytes → list_all (λ pair. fits 4 pair.index && fits width pair.address) xs ≡ true → rise (map (λ pair. pair.index) xs) ≡ true → drop at bytes ≡ flat_map (pair_bytes width) xs → pairs_place width (length xs) at bytes ≡ None
pairs_taken width at bytes xs le good rises h =
    each_taken (pair_place width bytes) (next_pair width bytes) (λ r. behind r.at bytes) (pair_bytes width) (λ r. r.at) bytes (GoodPairs width)
    (one_pair width bytes) (λ r k. end_taken r.at bytes k) xs (record { at = at; least = 0 }) le (good, rises, above_zero (map (λ pair. pair.index) xs)) h

-- ---- pieces

-- the first piece does not go on where the one before it ended
abbrev pub ApartFrom : Run → List Piece → Type 0
ApartFrom r [] = Unit {0}
ApartFrom r (p ∷ ps) = ((r.file == p.file) && (r.last == p.from)) ≡ false

abbrev GoodPieces : Run → List Piece → Type 0
GoodPieces r ps = (list_all is_piece ps ≡ true) × (are_apart ps ≡ true) × ApartFrom r ps × (r.sum + samples_in ps ≤ 2 ^ 30)

not_true : (b : Bool) → not b ≡ true → b ≡ false
not_true true h = cc
not_true false h = refl

apart_next : (r : Run) (p : Piece) (ps : List Piece) → are_apart (p ∷ ps) ≡ true → (are_apart ps ≡ true) × ApartFrom (past r p) ps
apart_next r p [] h = (refl, tt)
apart_next r p (q ∷ ps) h =
    let t = both (not ((p.file == q.file) && (p.from + p.len == q.from))) (are_apart (q ∷ ps)) h in
    (t.1, not_true ((p.file == q.file) && (p.from + p.len == q.from)) t.0)

-- the bounds of a piece
record IsSized (p : Piece) : Type 0 where
  file : is_id p.file ≡ true
  least : 1 ≤ p.len
  most : p.from + p.len ≤ 2 ^ 30

sized : (p : Piece) → is_piece p ≡ true → IsSized p
sized p h =
    let a = both (is_id p.file && nat_le 1 p.len) (nat_le (p.from + p.len) (2 ^ 30)) h in
    let b = both (is_id p.file) (nat_le 1 p.len) a.0 in
    record { file = b.0; least = leb-true 1 p.len b.1; most = leb-true (p.from + p.len) (2 ^ 30) a.1 }

abbrev piece_of : ℕ → ℕ → ℕ → Piece
piece_of file from len = record { file = file; from = from; len = len }

piece_same : (a b c x y z : ℕ) → a ≡ x → b ≡ y → c ≡ z → piece_of a b c ≡ piece_of x y z
piece_same a b c x y z h k l = ap (λ n. piece_of n b c) h ∙ ap (λ n. piece_of x n c) k ∙ ap (λ n. piece_of x y n) l

one_piece : (bytes : List ℕ) (r : Run) (p : Piece) (ps : List Piece) → r.at ≤ length bytes → GoodPieces r (p ∷ ps) → drop r.at bytes ≡ piece_bytes p ++ flat_map piece_bytes ps
    → IsTaken (piece_place bytes) (next_piece bytes) piece_bytes (λ r. r.at) bytes GoodPieces r ps
one_piece bytes r p ps le good h =
    let rest = flat_map piece_bytes ps in
    let t = both (is_piece p) (list_all is_piece ps) good.0 in
    let size = sized p t.0 in
    let most = size.most in
    let least = size.least in
    let id = is_small_id p.file size.file in
    let high = id.1 in
    let sum = good.3 in
    let twelve : r.at + 8 + 4 ≡ r.at + 12 = omega arith in
    let sixteen : r.at + 12 + 4 ≡ r.at + 16 = omega arith in
    let s1 = number_seen r.at 8 p.file bytes (number_bytes 4 p.from ++ (number_bytes 4 p.len ++ rest)) le (omega (arith, high)) h in
    let s2 = number_seen (r.at + 8) 4 p.from bytes (number_bytes 4 p.len ++ rest) s1.within (omega (arith, most)) s1.behind in
    let w3 = s2.within in
    let from_len : drop (r.at + 12) bytes ≡ number_bytes 4 p.len ++ rest = ap (λ (n : ℕ). drop n bytes) (sym twelve) ∙ s2.behind in
    let s3 = number_seen (r.at + 12) 4 p.len bytes rest (omega (arith, w3)) (omega (arith, most)) from_len in
    let w4 = s3.within in
    let later = apart_next r p ps good.1 in
    let piece : piece_in bytes r ≡ p = piece_same (number_at 8 r.at bytes) (number_at 4 (r.at + 8) bytes) (number_at 4 (r.at + 12) bytes) p.file p.from p.len s1.value s2.value s3.value in
    let from = s2.value in
    let len = s3.value in
    let apart : continues bytes r ≡ false = ap (λ (q : Piece). (r.file == q.file) && (r.last == q.from)) piece ∙ good.2 in
    let a = number r.at 8 1 (2 ^ 48) bytes in
    let b = part (r.at + 8) 4 bytes in
    let c = cond (continues bytes r) (Some (r.at + 8)) None in
    let d = number (r.at + 12) 4 1 (2 ^ 30 - max (number_at 4 (r.at + 8) bytes) r.sum) bytes in
    record {
      none =
          first_all a (b ∷ c ∷ d ∷ []) (id_taken r.at p.file bytes (number_bytes 4 p.from ++ (number_bytes 4 p.len ++ rest)) le size.file h)
          (first_all b (c ∷ d ∷ []) (part_whole (r.at + 8) 4 bytes s2.within)
          (first_all c (d ∷ []) (ap (λ e. cond e (Some (r.at + 8)) None) apart)
          (first_all d [] (number_right (r.at + 12) 4 1 (2 ^ 30 - max (number_at 4 (r.at + 8) bytes) r.sum) bytes s3.within (omega (arith, len, least)) (omega (arith, len, from, most, sum))) refl)));
      within = omega (arith, w4);
      rest = ap (λ (n : ℕ). drop n bytes) (sym sixteen) ∙ s3.behind;
      good = subst (λ (q : Piece). GoodPieces (past r q) ps) (sym piece) (t.1, later.0, later.1, omega (arith, sum));
    }

apart_start : (at : ℕ) (ps : List Piece) → list_all is_piece ps ≡ true → ApartFrom (record { at = at; file = 0; last = 0; sum = 0 }) ps
apart_start at [] h = tt
apart_start at (p ∷ ps) h =
    let size = sized p (both (is_piece p) (list_all is_piece ps) h).0 in
    let least = (is_small_id p.file size.file).0 in
    let differ : (0 ≡ p.file → ⊥) = λ e. omega (arith, e, least) in
    ap (λ b. b && (0 == p.from)) (ne_eqb 0 p.file differ)

pub pieces_taken : (at : ℕ) (bytes : List ℕ) (ps : List Piece) → at ≤ length bytes → are_pieces ps ≡ true → drop at bytes ≡ pieces_bytes ps → pieces_place at bytes ≡ None
pieces_taken at bytes ps le good h =
    let a = both (nat_le (length ps) 4096 && list_all is_piece ps && nat_le (samples_in ps) (2 ^ 30)) (are_apart ps) good in
    let b = both (nat_le (length ps) 4096 && list_all is_piece ps) (nat_le (samples_in ps) (2 ^ 30)) a.0 in
    let c = both (nat_le (length ps) 4096) (list_all is_piece ps) b.0 in
    let few = leb-true (length ps) 4096 c.0 in
    let sum = leb-true (samples_in ps) (2 ^ 30) b.1 in
    let rest = flat_map piece_bytes ps in
    let s = number_seen at 2 (length ps) bytes rest le (omega (arith, few)) h in
    let start : Run = record { at = at + 2; file = 0; last = 0; sum = 0 } in
    let later = each_taken (piece_place bytes) (next_piece bytes) (λ r. behind r.at bytes) piece_bytes (λ r. r.at) bytes GoodPieces (one_piece bytes) (λ r k. end_taken r.at bytes k) ps start s.within
    (c.1, a.1, apart_start (at + 2) ps c.1, omega (arith, sum)) s.behind in
    let place = run_place (number_at 2 at bytes) (at + 2) bytes in
    first_all (number at 2 0 4096 bytes) (place ∷ []) (number_taken at 2 0 4096 (length ps) bytes rest le (omega (arith, few)) (omega arith) few h)
    (first_all place [] (ap (λ n. run_place n (at + 2) bytes) s.value ∙ later) refl)

-- ---- keys

-- a text behind its length
pub record IsText (at : ℕ) (bytes text rest : List ℕ) : Type 0 where
  pub size : number_at 1 at bytes ≡ length text
  pub one : at + 1 ≤ length bytes
  pub whole : at + 1 + number_at 1 at bytes ≤ length bytes
  pub rest_is : drop (next_key bytes at) bytes ≡ rest
  pub text_is : key_in bytes at ≡ text

pub text_seen : (at : ℕ) (bytes text rest : List ℕ) → at ≤ length bytes → length text < 256 → drop at bytes ≡ text_bytes text ++ rest → IsText at bytes text rest
text_seen at bytes text rest le short h =
    let s = number_seen at 1 (length text) bytes (text ++ rest) le short h in
    let size = s.value in
    let within = part_within (at + 1) bytes text rest s.within s.behind in
    record {
      size = size;
      one = s.within;
      whole = omega (arith, size, within);
      rest_is = ap (λ (n : ℕ). drop (at + 1 + n) bytes) size ∙ part_behind (at + 1) bytes text rest s.behind;
      text_is = ap (λ (n : ℕ). take n (drop (at + 1) bytes)) size ∙ part_seen (at + 1) bytes text rest s.behind;
    }

pub key_sizes : (key : List ℕ) → is_key key ≡ true → (1 ≤ length key) × (length key ≤ 64)
key_sizes key h = let p = both (nat_le 1 (length key)) (nat_le (length key) 64) h in (leb-true 1 (length key) p.0, leb-true (length key) 64 p.1)

pub key_taken : (at : ℕ) (bytes key rest : List ℕ) → at ≤ length bytes → is_key key ≡ true → drop at bytes ≡ text_bytes key ++ rest → key_place bytes at ≡ None
key_taken at bytes key rest le good h =
    let k = key_sizes key good in
    let hi = k.1 in
    let t = text_seen at bytes key rest le (omega (arith, hi)) h in
    first_all (number at 1 1 64 bytes) (part (at + 1) (number_at 1 at bytes) bytes ∷ [])
    (number_taken at 1 1 64 (length key) bytes (key ++ rest) le (omega (arith, hi)) k.0 hi h)
    (first_all (part (at + 1) (number_at 1 at bytes) bytes) [] (part_whole (at + 1) (number_at 1 at bytes) bytes t.whole) refl)

one_key : (bytes : List ℕ) (at : ℕ) (key : List ℕ) (keys : List (List ℕ)) → at ≤ length bytes → list_all is_key (key ∷ keys) ≡ true → drop at bytes ≡ text_bytes key ++ flat_map text_bytes keys
    → IsTaken (key_place bytes) (next_key bytes) text_bytes (λ at. at) bytes (λ at keys. list_all is_key keys ≡ true) at keys
one_key bytes at key keys le good h =
    let p = both (is_key key) (list_all is_key keys) good in
    let hi = (key_sizes key p.0).1 in
    let t = text_seen at bytes key (flat_map text_bytes keys) le (omega (arith, hi)) h in
    record { none = key_taken at bytes key (flat_map text_bytes keys) le p.0 h; within = t.whole; rest = t.rest_is; good = p.1 }

pub keys_taken : (at : ℕ) (bytes : List ℕ) (keys : List (List ℕ)) → at ≤ length bytes → list_all is_key keys ≡ true → drop at bytes ≡ flat_map text_bytes keys → keys_place (length keys) at bytes ≡ None
keys_taken at bytes keys le good h =
    each_taken (key_place bytes) (next_key bytes) (λ at. behind at bytes) text_bytes (λ at. at) bytes (λ at keys. list_all is_key keys ≡ true)
    (one_key bytes) (λ s k. end_taken s bytes k) keys at le good h
