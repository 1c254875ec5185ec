-- How long spellings are.
use Rattle.std.proofs.Common.{◌≡◌, ℕ, refl, ◌+◌, ◌*◌, ◌≤◌, List, [], ◌∷◌, length, ap, ◌∙◌, arith, length-append, true, ◌&&◌}
use Rattle.std.specs.Prelude.{flat_map, map, nat_le, ◌^◌, ◌<◌}
use Rattle.std.specs.List.{list_all}
use Rattle.std.proofs.lemmas.Bool.{ltb-true, leb-true}
use Rattle.voice_units.specs.declared.pieces.Piece.{Piece}
use Rattle.voice_units.proofs.PiecesOfRopes.{both}
use Rattle.voice_model.specs.declared.lists.Pair.{Pair}
use Rattle.disk_areas.specs.Numbers.{number_bytes}
use Rattle.voice_model.specs.Spelling.{piece_bytes, pieces_bytes, text_bytes, pair_bytes, recorded_bytes, file_bytes, is_key, is_file, is_id, fits, rise}
use Rattle.voice_model.proofs.ChangesOfEffects.{number_length, same_length, piece_length}

pub pair_length : (width : ℕ) (pair : Pair) → length (pair_bytes width pair) ≡ 4 + width
pair_length width pair = let rest = number_length width pair.address in omega (arith, rest)

pub recorded_length : (width id len : ℕ) (addresses : List ℕ) → length (recorded_bytes width id len addresses) ≡ 16 + width * length addresses
recorded_length width id len addresses = let each = same_length (number_bytes width) width (number_length width) addresses in omega (arith, each)

pub file_length : (width file : ℕ) (pairs : List Pair) → length (file_bytes width file pairs) ≡ 12 + (4 + width) * length pairs
file_length width file pairs = let each = same_length (pair_bytes width) (4 + width) (pair_length width) pairs in grind (arith, each)

pub pieces_length : (pieces : List Piece) → length (pieces_bytes pieces) ≡ 2 + 16 * length pieces
pieces_length pieces = let each = same_length piece_bytes 16 piece_length pieces in omega (arith, each)

pub ids_length : (ids : List ℕ) → length (flat_map (number_bytes 8) ids) ≡ 8 * length ids
ids_length ids = same_length (number_bytes 8) 8 (number_length 8) ids

-- the addresses of a file that keeps the grammar fit their width
pub addresses_fit : (width file : ℕ) (pairs : List Pair) → is_file width file pairs ≡ true → list_all (λ pair. fits width pair.address) pairs ≡ true
addresses_fit width file pairs h =
    let front = both (is_id file && nat_le 1 (length pairs) && fits 4 (length pairs) && list_all (λ pair. fits 4 pair.index && fits width pair.address) pairs) (rise (map (λ pair. pair.index) pairs)) h in
    let all = both (is_id file && nat_le 1 (length pairs) && fits 4 (length pairs)) (list_all (λ pair. fits 4 pair.index && fits width pair.address) pairs) front.0 in
    of_all pairs all.1
  where
    of_all : (ps : List Pair) → list_all (λ pair. fits 4 pair.index && fits width pair.address) ps ≡ true → list_all (λ pair. fits width pair.address) ps ≡ true
    of_all [] e = refl
    of_all (p ∷ ps) e =
        let tests = both (fits 4 p.index && fits width p.address) (list_all (λ pair. fits 4 pair.index && fits width pair.address) ps) e in
        let one = both (fits 4 p.index) (fits width p.address) tests.0 in
        ap (λ b. b && list_all (λ pair. fits width pair.address) ps) one.1 ∙ of_all ps tests.1

-- the keys of a census are fewer than 65536, and their bytes few
keys_within : (keys : List (List ℕ)) → list_all is_key keys ≡ true → length (flat_map text_bytes keys) ≤ 65 * length keys
keys_within [] h = omega arith
keys_within (key ∷ keys) h =
    let tests = both (is_key key) (list_all is_key keys) h in
    let most = leb-true (length key) 64 (both (nat_le 1 (length key)) (nat_le (length key) 64) tests.0).1 in
    let rest = keys_within keys tests.1 in
    let whole = length-append (text_bytes key) (flat_map text_bytes keys) in
    omega (arith, most, rest, whole)

pub keys_most : (keys : List (List ℕ)) → (nat_le 1 (length keys) && fits 2 (length keys) && list_all is_key keys) ≡ true → length (flat_map text_bytes keys) < 2 ^ 32
keys_most keys h =
    let tests = both (nat_le 1 (length keys) && fits 2 (length keys)) (list_all is_key keys) h in
    let few = ltb-true (length keys) 65536 (both (nat_le 1 (length keys)) (fits 2 (length keys)) tests.0).1 in
    let within = keys_within keys tests.1 in
    omega (arith, few, within)
