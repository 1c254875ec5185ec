-- How large bases are.
use Rattle.std.proofs.Common.{◌≡◌, ℕ, zero, suc, ◌+◌, ◌*◌, ◌≤◌, ◌==◌, Bool, true, false, cond, List, [], ◌∷◌, ◌++◌, map, length, drop, Some, None, inl, refl, sym, ◌∙◌, ap, arith, length-append}
use Rattle.std.specs.Prelude.{sum_by, slice_get, Result, Ok, Err, IfOk}
use Rattle.std.proofs.lemmas.List.{length-map, append-nil}
use Rattle.std.proofs.lemmas.Option.{slice_get_within, get_or_from_slice_get}
use Rattle.std.proofs.Math.ListN.{drop_of_length-le}
use Rattle.std.proofs.lemmas.List.Sums.{sum_by-cons}
use Rattle.disk_areas.specs.Numbers.{number_bytes}
use Rattle.voice_units.specs.declared.errors.NoMemory.{NoMemory}
use Rattle.voice_units.specs.Spots.{Spot, pieces_of}
use Rattle.voice_model.specs.Samples.{Tagged, spot_of}
use Rattle.voice_model.specs.State.{Live}
use Rattle.voice_model.specs.State.Effect.{Retained}
use Rattle.voice_model.specs.Changes.{rope_size}
use Rattle.voice_model.specs.Spelling.{spelling, piece_bytes, pair_bytes}
use Rattle.voice_model.specs.Replay.{Rebuilt, place_of, live_by, durable_by}
use Rattle.voice_model.specs.Base.{FileBlocks, by_file, in_order, file_change, rope_change, row_change, base_of, framed_size}
use Rattle.voice_model.specs.Places.{IsPlaced, AllUsed}
use Rattle.voice_model.specs.declared.changes.Change.{Change}
use Rattle.voice_model.specs.declared.changes.Change.TheVariants as changes
use Rattle.voice_model.specs.declared.calls.Row.{Row}
use Rattle.voice_model.proofs.ChangesOfEffects.{same_length, piece_length, size_again}
use Rattle.voice_model.proofs.StatesOfReplay.{spots_again}
use Rattle.voice_model.proofs.BaseFiles.{places_in, flat}
use Rattle.voice_model.proofs.BaseSize.{base_sized}
use Rattle.voice_journal.specs.Readings as journal
use Rattle.recovery.specs.declared.parts.Parts.{Parts}
use Rattle.recovery.specs.Shown.{Rebuilds, plain_sample}
use Rattle.recovery.proofs.RowsGone.{drop_next}
use Rattle.checkpoint.specs.Size.{size_by_numbers, numbers_in}
use Rattle.checkpoint.proofs.Numbers.{by_numbers}
use Rattle.checkpoint.proofs.Shown.{numbers_shown, framed_shown}
use Rattle.checkpoint.proofs.Held.{can_compact_rebuilt}
use Rattle.checkpoint.proofs.Joined.{more_behind, same_size}
use Rattle.mirror_tables.specs.Numbered.{with_number, numbered_base_of, numbered_by_numbers, numbered_size, plain_size}

-- ---- without numbers

-- the bytes needed are those of the base
pub plain_is : (parts : Parts) (b : Rebuilt) → Rebuilds parts b → plain_size parts ≡ journal.framed_size (map spelling (base_of 2 b))
plain_is parts b shows =
    sym (framed_shown 2 parts.ropes parts.interests.rows parts.blocks.holders parts.moment parts.next b (can_compact_rebuilt 2 parts b shows (inl refl))) ∙ sym (same_size (base_of 2 b))

-- ---- how many records a base has

framed_append : (xs ys : List Change) → framed_size (xs ++ ys) ≡ framed_size xs + framed_size ys
framed_append [] ys = omega arith
framed_append (x ∷ xs) ys = let rest = framed_append xs ys in omega (arith, rest)

file_size : (b : Bool) (f : FileBlocks) → length (spelling (cond b (changes.File2 f.file f.pairs) (changes.File f.file f.pairs))) ≡ 13 + (4 + cond b 4 2) * length f.pairs
file_size true f = let each = same_length (pair_bytes 4) 8 (λ pair. refl) f.pairs in omega (arith, each)
file_size false f = let each = same_length (pair_bytes 2) 6 (λ pair. refl) f.pairs in omega (arith, each)

flat_length : (f : FileBlocks) (fs : List FileBlocks) → length (flat (f ∷ fs)) ≡ length f.pairs + length (flat fs)
flat_length f fs = length-append (places_in f) (flat fs) ∙ ap (λ n. n + length (flat fs)) (length-map f.pairs (place_of f.file))

files_one : (fs : List FileBlocks) → framed_size (map (file_change 1) fs) ≡ 18 * length fs + 6 * length (flat fs)
files_one [] = refl
files_one (f ∷ fs) = let one = file_size false f in let rest = files_one fs in let more = flat_length f fs in omega (arith, one, rest, more)

files_two : (fs : List FileBlocks) → framed_size (map (file_change 2) fs) ≡ 18 * length fs + 8 * length (flat fs)
files_two [] = refl
files_two (f ∷ fs) = let one = file_size true f in let rest = files_two fs in let more = flat_length f fs in omega (arith, one, rest, more)

rope_by : (b : Bool) (rope : Live Spot) → 5 + length (spelling (cond b (changes.Rope2 rope.id rope.idle rope.last (pieces_of rope.samples)) (changes.Rope rope.id rope.idle (pieces_of rope.samples)))) ≡ 24 + cond b 1 0 + 16 * length (pieces_of rope.samples)
rope_by true rope = let each = same_length piece_bytes 16 piece_length (pieces_of rope.samples) in omega (arith, each)
rope_by false rope = let each = same_length piece_bytes 16 piece_length (pieces_of rope.samples) in omega (arith, each)

ropes_size : (f : Spot → Tagged) → ((s : Spot) → spot_of (f s) ≡ s) → (form : ℕ) (ropes : List (Live Spot)) → framed_size (map (rope_change form) ropes) ≡ sum_by (rope_size form) (map (live_by f) ropes)
ropes_size f same form [] = refl
ropes_size f same form (rope ∷ ropes) =
    let one = rope_by (form == 2) rope in
    let pieces = ap (λ ss. 24 + cond (form == 2) 1 0 + 16 * length (pieces_of ss)) (spots_again f same rope.samples) in
    let rest = ropes_size f same form ropes in
    let whole = sum_by-cons (rope_size form) (live_by f rope) (map (live_by f) ropes) in
    omega (arith, one, pieces, rest, whole)

rows_size : (rows : List Row) → framed_size (map row_change rows) ≡ sum_by (λ row. 17 + length row.key + length row.note) rows
rows_size [] = refl
rows_size (row ∷ rows) =
    let one = size_again 1 0 [] (Retained row) tt in
    let rest = rows_size rows in
    let whole = sum_by-cons (λ (row : Row). 17 + length row.key + length row.note) row rows in
    omega (arith, one, rest, whole)

-- bases of both forms have so many files with so many blocks
counted : (files blocks files' blocks' ropes ropes' rows one two : ℕ)
    → one ≡ 22 + (18 * files' + 6 * blocks') + ropes + rows → two ≡ 22 + (18 * files' + 8 * blocks') + ropes' + rows
    → one ≡ 22 + (18 * files + 6 * blocks) + ropes + rows → two ≡ 22 + (18 * files + 8 * blocks) + ropes' + rows → files ≡ files'
counted files blocks files' blocks' ropes ropes' rows one two e f g h = omega (arith, e, f, g, h)

module _ (r : Rebuilt) (placed : IsPlaced r) (used : AllUsed r) where
  abbrev fs : List FileBlocks
  fs = by_file (in_order r.places)

  whole : (form n : ℕ) → 5 + length (spelling (cond (form == 2) (changes.Base2 r.moment r.next) (changes.Base r.moment r.next))) ≡ 22 → framed_size (map (file_change form) fs) ≡ n
      → framed_size (base_of form r) ≡ 22 + n + sum_by (rope_size form) (map (live_by plain_sample) r.ropes) + sum_by (λ row. 17 + length row.key + length row.note) r.rows
  whole form n head files =
      let first = framed_append (map (file_change form) fs ++ map (rope_change form) r.ropes) (map row_change r.rows) in
      let second = framed_append (map (file_change form) fs) (map (rope_change form) r.ropes) in
      let ropes = ropes_size plain_sample (λ s. refl) form r.ropes in
      let rows = rows_size r.rows in
      omega (arith, first, second, ropes, rows, head, files)

  file_count : length fs ≡ (numbers_in (durable_by plain_sample r.kept)).files
  file_count =
      counted (length fs) (length (flat fs)) _ _ _ _ _ (framed_size (base_of 1 r)) (framed_size (base_of 2 r))
      (base_sized plain_sample (λ s. refl) 1 r placed used) (base_sized plain_sample (λ s. refl) 2 r placed used)
      (whole 1 _ refl (files_one fs)) (whole 2 _ refl (files_two fs))

  record_count : length (base_of 2 r) ≡ 1 + (numbers_in (durable_by plain_sample r.kept)).files + (numbers_in (durable_by plain_sample r.kept)).ropes + (numbers_in (durable_by plain_sample r.kept)).rows
  record_count =
      let files = length-map fs (file_change 2) ∙ file_count in
      let ropes = length-map r.ropes (rope_change 2) in
      let live = length-map r.ropes (live_by plain_sample) in
      let rows = length-map r.rows row_change in
      let first = length-append (map (file_change 2) fs ++ map (rope_change 2) r.ropes) (map row_change r.rows) in
      let second = length-append (map (file_change 2) fs) (map (rope_change 2) r.ropes) in
      omega (arith, files, ropes, live, rows, first, second)

-- ---- with numbers

numbered_framed : (n : ℕ) (payloads : List (List ℕ)) → journal.framed_size (with_number n payloads) ≡ journal.framed_size payloads + 8 * length payloads
numbered_framed n [] = refl
numbered_framed n (payload ∷ payloads) =
    let rest = numbered_framed n payloads in
    let here = length-append (number_bytes 8 n) payload in
    let eight : length (number_bytes 8 n) ≡ 8 = refl in
    omega (arith, rest, here, eight)

numbered_sized : (n : ℕ) (r : Rebuilt) → IsPlaced r → AllUsed r → journal.framed_size (numbered_base_of n r) ≡ numbered_by_numbers (numbers_in (durable_by plain_sample r.kept))
numbered_sized n r placed used =
    let all = numbered_framed n (map spelling (base_of 2 r)) in
    let plain = same_size (base_of 2 r) ∙ base_sized plain_sample (λ s. refl) 2 r placed used ∙ by_numbers 2 (durable_by plain_sample r.kept) in
    let count = length-map (base_of 2 r) spelling ∙ record_count r placed used in
    all ∙ ap (λ k. k + 8 * length (map spelling (base_of 2 r))) plain ∙ ap (λ k. size_by_numbers 2 (numbers_in (durable_by plain_sample r.kept)) + 8 * k) count

-- in the numbers of the durable part
pub numbered_kept : (parts : Parts) (b : Rebuilt) → Rebuilds parts b → numbered_size parts ≡ numbered_by_numbers (numbers_in (durable_by plain_sample b.kept))
numbered_kept parts b shows = ap numbered_by_numbers (sym (numbers_shown plain_sample (λ s. refl) [] parts.ropes parts.interests.rows parts.moment parts.next b.kept shows.kept))

-- the bytes needed are those of the numbered base
pub numbered_is : (parts : Parts) (b : Rebuilt) (n : ℕ) → Rebuilds parts b → numbered_size parts ≡ journal.framed_size (numbered_base_of n b)
numbered_is parts b n shows = numbered_kept parts b shows ∙ sym (numbered_sized n b shows.placed shows.used)

-- ---- payload by payload

pub next_numbered : (n k : ℕ) (payloads numbered more : List (List ℕ)) (payload : List ℕ) → slice_get payloads k ≡ Some payload → more ≡ numbered ++ (number_bytes 8 n ++ payload) ∷ [] → more ++ with_number n (drop (k + 1) payloads) ≡ numbered ++ with_number n (drop k payloads)
next_numbered n k payloads numbered more payload found e =
    more_behind numbered more (number_bytes 8 n ++ payload) (with_number n (drop (k + 1) payloads)) e
    ∙ ap (λ l. numbered ++ with_number n l) (sym (drop_next payloads k payload (slice_get_within payloads k payload found) (sym (get_or_from_slice_get payloads k payload payload found))))

gone_past : (payloads : List (List ℕ)) (k : ℕ) → slice_get payloads k ≡ None → length payloads ≤ k
gone_past [] k e = omega arith
gone_past (p ∷ ps) zero e = cc
gone_past (p ∷ ps) (suc k) e = let rest = gone_past ps k e in omega (arith, rest)

pub all_numbered : (n k : ℕ) (payloads numbered : List (List ℕ)) → slice_get payloads k ≡ None → numbered ++ with_number n (drop k payloads) ≡ with_number n payloads → numbered ≡ with_number n payloads
all_numbered n k payloads numbered none e =
    sym (append-nil numbered) ∙ ap (λ l. numbered ++ with_number n l) (sym (drop_of_length-le payloads (gone_past payloads k none))) ∙ e

-- the payloads of a base, each behind a number
pub base_numbered : (n : ℕ) (b : Rebuilt) (base : List (List ℕ)) (result : Result (List (List ℕ)) NoMemory) → base ≡ map spelling (base_of 2 b) → IfOk result (λ numbered. numbered ≡ with_number n base) → IfOk result (λ numbered. numbered ≡ numbered_base_of n b)
base_numbered n b base (Ok numbered) e h = h ∙ ap (with_number n) e
base_numbered n b base (Err e') e h = tt

-- and their bytes
pub numbered_fits : (n : ℕ) (parts : Parts) (b : Rebuilt) (result : Result (List (List ℕ)) NoMemory) → Rebuilds parts b → IfOk result (λ numbered. numbered ≡ numbered_base_of n b) → IfOk result (λ numbered. journal.framed_size numbered ≡ numbered_size parts)
numbered_fits n parts b (Ok numbered) shows h = ap journal.framed_size h ∙ sym (numbered_is parts b n shows)
numbered_fits n parts b (Err e) shows h = tt
