-- How long bodies are.
use Rattle.std.proofs.Common.{◌≡◌, ℕ, ◌+◌, ◌*◌, ◌≤◌, ◌<◌, ◌^◌, true, ◌&&◌, List, [], ◌∷◌, ◌++◌, length, arith, length-append}
use Rattle.std.specs.Prelude.{flat_map, nat_le}
use Rattle.std.specs.List.{list_all}
use Rattle.std.proofs.lemmas.Bool.{ltb-true, leb-true}
use Rattle.voice_units.specs.declared.pieces.Piece.{Piece}
use Rattle.voice_units.proofs.PiecesOfRopes.{both}
use Rattle.disk_areas.specs.Numbers.{number_bytes}
use Rattle.voice_model.specs.declared.changes.Change.{Change}
use Rattle.voice_model.specs.declared.changes.Change.TheVariants as changes
use Rattle.voice_model.specs.declared.calls.Class.{Class}
use Rattle.voice_model.specs.State.{class_number}
use Rattle.voice_model.specs.Spelling.{spelling, keeps_grammar, text_bytes, is_key, is_id, is_note, is_piece, are_pieces, fits, rise}
use Rattle.change_codec.proofs.Sizes.{pieces_length, ids_length}
use Rattle.mirror_packets.specs.Packets.{Body, body_spelling, IsGoodBody, is_followed}

edited_length : (id : ℕ) (pieces : List Piece) → (is_id id && are_pieces pieces) ≡ true → length (spelling (changes.Edited id pieces)) < 2 ^ 30
edited_length id pieces h =
    let g = both _ _ (both _ _ (both (is_id id) (are_pieces pieces) h).1).0 in
    let few = leb-true (length pieces) 4096 (both (nat_le (length pieces) 4096) (list_all is_piece pieces) g.0).0 in
    let each = pieces_length pieces in
    omega (arith, few, each)

key_most : (key : List ℕ) → is_key key ≡ true → length key ≤ 64
key_most key h = leb-true (length key) 64 (both (nat_le 1 (length key)) (nat_le (length key) 64) h).1

retained_length : (class : Class) (key : List ℕ) (id : ℕ) (note : List ℕ) → (is_key key && is_id id && is_note class note) ≡ true → length (spelling (changes.Retained class key id note)) < 2 ^ 30
retained_length class key id note h =
    let g = both (is_key key && is_id id) (is_note class note) h in
    let few = key_most key (both (is_key key) (is_id id) g.0).0 in
    let short = leb-true (length note) 128 (both _ _ g.1).0 in
    let middle = length-append (number_bytes 1 3 ++ number_bytes 1 (class_number class) ++ text_bytes key ++ number_bytes 8 id) (text_bytes note) in
    let front = length-append (number_bytes 1 3 ++ number_bytes 1 (class_number class) ++ text_bytes key) (number_bytes 8 id) in
    omega (arith, few, short, middle, front)

forgotten_length : (class : Class) (key : List ℕ) → is_key key ≡ true → length (spelling (changes.Forgotten class key)) < 2 ^ 30
forgotten_length class key h = let few = key_most key h in omega (arith, few)

keys_within : (keys : List (List ℕ)) → list_all is_key keys ≡ true → length (flat_map text_bytes keys) ≤ 65 * length keys
keys_within [] h = omega arith
keys_within (key ∷ keys) h =
    let tests = both (is_key key) (list_all is_key keys) h in
    let most = key_most key tests.0 in
    let rest = keys_within keys tests.1 in
    let whole = length-append (text_bytes key) (flat_map text_bytes keys) in
    omega (arith, most, rest, whole)

census_length : (keys : List (List ℕ)) → (nat_le 1 (length keys) && fits 2 (length keys) && list_all is_key keys) ≡ true → length (spelling (changes.Census keys)) < 2 ^ 30
census_length keys h =
    let g = both (nat_le 1 (length keys) && fits 2 (length keys)) (list_all is_key keys) h in
    let few = ltb-true (length keys) 65536 (both (nat_le 1 (length keys)) (fits 2 (length keys)) g.0).1 in
    let within = keys_within keys g.1 in
    omega (arith, few, within)

swept_length : (ids : List ℕ) → (fits 2 (length ids) && list_all is_id ids && rise ids) ≡ true → length (spelling (changes.Swept ids)) < 2 ^ 30
swept_length ids h =
    let g = both (fits 2 (length ids)) (list_all is_id ids) (both _ (rise ids) h).0 in
    let few = ltb-true (length ids) 65536 g.0 in
    let each = ids_length ids in
    omega (arith, few, each)

-- the changes that packets bring are short
pub change_length : (c : Change) → is_followed c ≡ true → keeps_grammar c ≡ true → length (spelling c) < 2 ^ 30
change_length (changes.Recorded id len addresses) f h = cc
change_length (changes.Edited id pieces) f h = edited_length id pieces h
change_length (changes.Retained class key id note) f h = retained_length class key id note h
change_length (changes.Forgotten class key) f h = forgotten_length class key h
change_length (changes.Census keys) f h = census_length keys h
change_length (changes.Swept ids) f h = swept_length ids h
change_length (changes.Advanced moment) f h = omega arith
change_length (changes.Base now next) f h = cc
change_length (changes.File file pairs) f h = cc
change_length (changes.Rope id idle pieces) f h = cc
change_length (changes.Wide id len addresses) f h = cc
change_length (changes.Base2 now next) f h = cc
change_length (changes.File2 file pairs) f h = cc
change_length (changes.Rope2 id idle last pieces) f h = cc

-- a good body is not longer than a voice file of 2^30 samples
pub body_length : (b : Body) → IsGoodBody b → length (body_spelling b) ≤ 9 + 2 ^ 30
body_length (Body.Voice id samples) h = let few = h.1 in omega (arith, few)
body_length (Body.Other c) h = let few = change_length c h.0 h.1 in omega (arith, few)
