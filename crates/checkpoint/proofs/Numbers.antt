-- The size of a base, by the numbers of what it spells.
use Rattle.std.proofs.Common.{◌≡◌, ℕ, suc, ◌≤◌, ◌&&◌, nat_le, map, ◌+◌, ◌*◌, ◌^◌, ◌<◌, ◌==◌, Bool, true, false, cond, List, [], ◌∷◌, length, refl, ap, arith}
use Rattle.std.proofs.lemmas.Bool.{leb-true}
use Rattle.std.proofs.lemmas.List.{length-map}
use Rattle.std.proofs.lemmas.List.Sums.{sum_by-cons}
use Rattle.std.specs.Prelude.{sum_by}
use Rattle.voice_model.specs.Samples.{Tagged, pieces_in}
use Rattle.voice_units.specs.Blocks.{BlockPair}
use Rattle.voice_model.specs.State.{Durable, Live, among}
use Rattle.voice_model.specs.Changes.{each_once, live_pairs, rope_size, base_size}
use Rattle.voice_model.specs.Valid.{Every, IsRope, IsRow, IsKept}
use Rattle.voice_model.specs.declared.calls.Row.{Row}
use Rattle.interest_table.specs.Table.{key_bytes_of, note_bytes_of}
use Rattle.checkpoint.specs.Size.{size_by_numbers, pieces_of_live, numbers_in, AreSmall}
use Rattle.checkpoint.specs.declared.sizes.BaseNumbers.{BaseNumbers}

-- ---- sums

ropes_by : (b : Bool) (form : ℕ) → (form == 2) ≡ b → (ropes : List (Live Tagged)) → sum_by (rope_size form) ropes ≡ (24 + cond b 1 0) * length ropes + 16 * pieces_of_live ropes
ropes_by true form e [] = refl
ropes_by true form e (rope ∷ ropes) =
    let whole = sum_by-cons (rope_size form) rope ropes in
    let one : rope_size form rope ≡ 25 + 16 * length (pieces_in rope.samples) = ap (λ b. 24 + cond b 1 0 + 16 * length (pieces_in rope.samples)) e in
    let rest = ropes_by true form e ropes in
    omega (arith, whole, one, rest)
ropes_by false form e [] = refl
ropes_by false form e (rope ∷ ropes) =
    let whole = sum_by-cons (rope_size form) rope ropes in
    let one : rope_size form rope ≡ 24 + 16 * length (pieces_in rope.samples) = ap (λ b. 24 + cond b 1 0 + 16 * length (pieces_in rope.samples)) e in
    let rest = ropes_by false form e ropes in
    omega (arith, whole, one, rest)

rows_by : (rows : List Row) → sum_by (λ row. 17 + length row.key + length row.note) rows ≡ 17 * length rows + key_bytes_of rows + note_bytes_of rows
rows_by [] = refl
rows_by (row ∷ rows) =
    let whole = sum_by-cons (λ (row : Row). 17 + length row.key + length row.note) row rows in
    let rest = rows_by rows in
    omega (arith, whole, rest)

-- the numbers of a durable part give the size of its base
pub by_numbers : (form : ℕ) (d : Durable Tagged) → base_size form d ≡ size_by_numbers form (numbers_in d)
by_numbers form d =
    let ropes = ropes_by (form == 2) form refl d.ropes in
    let rows = rows_by d.rows in
    omega (arith, ropes, rows)

-- ---- sizes that fit 64 bits

fits_by : (b : Bool) (n : BaseNumbers) → AreSmall n → 22 + (18 * n.files + (4 + cond b 4 2) * n.blocks) + ((24 + cond b 1 0) * n.ropes + 16 * n.pieces) + (17 * n.rows + n.key_bytes + n.note_bytes) < 2 ^ 64
fits_by true n h = omega (arith, h.files, h.blocks, h.ropes, h.pieces, h.rows, h.key_bytes, h.note_bytes)
fits_by false n h = omega (arith, h.files, h.blocks, h.ropes, h.pieces, h.rows, h.key_bytes, h.note_bytes)

pub size_fits : (form : ℕ) (n : BaseNumbers) → AreSmall n → size_by_numbers form n < 2 ^ 64
size_fits form n h = fits_by (form == 2) n h

-- ---- numbers of valid states

and_left : (a b : Bool) → (a && b) ≡ true → a ≡ true
and_left true b e = refl
and_left false b e = cc

and_right : (a b : Bool) → (a && b) ≡ true → b ≡ true
and_right true b e = e
and_right false b e = cc

cond_length : (b : Bool) (n : ℕ) (ns : List ℕ) → length (cond b ns (n ∷ ns)) ≤ suc (length ns)
cond_length true n ns = omega arith
cond_length false n ns = omega arith

once_shorter : (ns : List ℕ) → length (each_once ns) ≤ length ns
once_shorter [] = omega arith
once_shorter (n ∷ ns) =
    let rest = once_shorter ns in
    let here = cond_length (among (each_once ns) n) n (each_once ns) in
    omega (arith, rest, here)

few_pieces : (form now : ℕ) (ropes : List (Live Tagged)) → Every (IsRope form now) ropes → pieces_of_live ropes ≤ 4096 * length ropes
few_pieces form now [] h = omega arith
few_pieces form now (rope ∷ ropes) h =
    let most = h.0.many in
    let rest = few_pieces form now ropes h.1 in
    omega (arith, most, rest)

short_keys : (ropes : List (Live Tagged)) (rows : List Row) → Every (IsRow ropes) rows → key_bytes_of rows ≤ 64 * length rows
short_keys ropes [] h = omega arith
short_keys ropes (row ∷ rows) h =
    let most = leb-true (length row.key) 64 (and_right (nat_le 1 (length row.key)) (nat_le (length row.key) 64) h.0.key) in
    let rest = short_keys ropes rows h.1 in
    omega (arith, most, rest)

short_notes : (ropes : List (Live Tagged)) (rows : List Row) → Every (IsRow ropes) rows → note_bytes_of rows ≤ 128 * length rows
short_notes ropes [] h = omega arith
short_notes ropes (row ∷ rows) h =
    let most = leb-true (length row.note) 128 (and_left (nat_le (length row.note) 128) _ h.0.note) in
    let rest = short_notes ropes rows h.1 in
    omega (arith, most, rest)

-- the numbers of what states keep are small where there are fewer than 2^32 ropes, rows and blocks
pub small_in : (form : ℕ) (d : Durable Tagged) → IsKept form d → length d.ropes < 2 ^ 32 → length d.rows < 2 ^ 32 → length (live_pairs d) < 2 ^ 32 → AreSmall (numbers_in d)
small_in form d kept few_ropes few_rows few_blocks =
    let files = once_shorter (map (λ pair. pair.file) (live_pairs d)) in
    let count = length-map (live_pairs d) (λ (pair : BlockPair). pair.file) in
    record {
      files = omega (arith, files, count);
      blocks = few_blocks;
      ropes = few_ropes;
      pieces = few_pieces form d.moment d.ropes kept.each_rope;
      rows = few_rows;
      key_bytes = short_keys d.ropes d.rows kept.each_row;
      note_bytes = short_notes d.ropes d.rows kept.each_row;
    }
