-- What the tables tell is what the state tells that a disk opens as.
use Rattle.std.proofs.Common.{◌≡◌, ℕ, ◌+◌, ◌-◌, ◌<◌, ◌≤◌, Bool, true, false, cond, ◌==◌, nat_le, List, [], ◌∷◌, ◌++◌, map, filter, flat_map, length, refl, sym, ◌∙◌, ap, subst, arith}
use Rattle.std.specs.Prelude.{replicate}
use Rattle.std.proofs.lemmas.List.{length-map, length-replicate}
use Rattle.voice_units.specs.declared.shapes.Shape.{Shape}
use Rattle.voice_units.specs.declared.shapes.Graces.{Graces}
use Rattle.voice_units.specs.Spots.{Spot, pieces_of, nowhere, samples_in, spots_of}
use Rattle.voice_units.specs.Blocks.{BlockPair, pair_at, pairs_at, has_pair, distinct}
use Rattle.voice_units.proofs.PiecesOfRopes.{spots_of-runs}
use Rattle.voice_units.proofs.Counts.{samples_in_runs}
use Rattle.voice_model.specs.Samples.{Tagged, spot_of, pieces_in}
use Rattle.voice_model.specs.State.{State, Live, opened, quiet_lane}
use Rattle.voice_model.specs.Room.{pairs_of, used, free}
use Rattle.voice_model.specs.Replay.{Rebuilt, filled, recovered, live_by}
use Rattle.voice_model.specs.Valid.{Every}
use Rattle.voice_model.specs.declared.calls.Row.{Row}
use Rattle.voice_model.proofs.KeptByChanges.{every-map}
use Rattle.voice_model.proofs.BaseReadAgain.{ids_below}
use Rattle.voice_model.proofs.LegalInReplay.{used_filled}
use Rattle.voice_model.proofs.StatesOfReplay.{spots_again}
use Rattle.voice_blocks.specs.Holders.{open_in}
use Rattle.rope_table.specs.declared.ropes.Rope.{Rope}
use Rattle.rope_table.specs.Table.{uses_in, uses_at}
use Rattle.rope_table.specs.Table as table
use Rattle.interest_table.specs.Table.{rows_of}
use Rattle.recovery.specs.declared.parts.Parts.{Parts}
use Rattle.recovery.specs.Shown.{Rebuilds, shown_rope, plain_sample}
use Rattle.checkpoint.specs.Blocks.{spots_in_ropes}
use Rattle.checkpoint.proofs.Tables.{spots_shown}
use Rattle.running_tables.specs.Running.{RunsState}
use Rattle.running_tables.proofs.Begins.{divided}
use Rattle.running_tables.proofs.Quiet.{quiet}
use Rattle.running_tables.proofs.Free.{counts_used, counts_free}
use Rattle.voice_audit.specs.Audit.{shape_text, journal_text, moment_text, rope_text, row_text, blocks_text, row_count, users, shared, rope_line, text_of}
use Rattle.voice_audit.specs.Sharing.{is_shared, shared_in}
use Rattle.voice_audit.specs.Telling.{shown_line, parts_text}

-- ---- what the program asks of the tables

-- live numbers are at least 1
pub numbers_some : (parts : Parts) (b : Rebuilt) → Rebuilds parts b → Every (λ (rope : Rope). 1 ≤ rope.id) parts.ropes.ropes
numbers_some parts b shows =
    subst (Every (λ (rope : Rope). 1 ≤ rope.id)) (sym shows.kept.ropes)
    (every-map (λ (rope : Live Spot). (1 ≤ rope.id) × (rope.id < b.next)) (λ (rope : Rope). 1 ≤ rope.id) (shown_rope b.kept.shape.graces b.rows) (λ rope h. h.0) b.ropes (ids_below plain_sample b.ropes b.next shows.valid.kept.rising))

-- no more is free than there is
pub free_within : (parts : Parts) (b : Rebuilt) (shape : Shape) → Rebuilds parts b → b.shape ≡ shape → open_in parts.blocks.holders ≤ shape.blocks
free_within parts b shape shows same =
    let all = divided parts.blocks.holders in
    let size = shows.places.size in
    let blocks = ap (λ (s : Shape). s.blocks) same in
    omega (arith, all, size, blocks)

-- ---- rows

rows_counted : (id : ℕ) (rows : List Row) → rows_of id rows ≡ row_count rows id
rows_counted id [] = refl
rows_counted id (row ∷ rows) = by (row.rope == id) (rows_counted id rows)
  where
    by : (b : Bool) → rows_of id rows ≡ row_count rows id → cond b 1 0 + rows_of id rows ≡ length (cond b (row ∷ filter (λ r. r.rope == id) rows) (filter (λ r. r.rope == id) rows))
    by true rest = omega (arith, rest)
    by false rest = omega (arith, rest)

-- ---- what passes two tests that agree

filter_alike : {A : Type 0} (p q : A → Bool) → ((x : A) → p x ≡ q x) → (xs : List A) → filter p xs ≡ filter q xs
filter_alike p q same [] = refl
filter_alike p q same (x ∷ xs) = ap (λ b. cond b (x ∷ filter p xs) (filter p xs)) (same x) ∙ ap (λ l. cond (q x) (x ∷ l) l) (filter_alike p q same xs)

module _ (f : Spot → Tagged) (same : (x : Spot) → spot_of (f x) ≡ x) where
  -- ---- ropes

  line_shown : (graces : Graces) (rows : List Row) (rope : Live Spot) → shown_line rows (shown_rope graces rows rope) ≡ rope_line rows (live_by f rope)
  line_shown graces rows rope =
      let length_is : samples_in (pieces_of rope.samples) ≡ length (map f rope.samples) = samples_in_runs nowhere rope.samples ∙ sym (length-map rope.samples f) in
      let pieces_are : length (pieces_of rope.samples) ≡ length (pieces_in (map f rope.samples)) = ap (λ (ss : List Spot). length (pieces_of ss)) (sym (spots_again f same rope.samples)) in
      let rows_are = rows_counted rope.id rows in
      λ i. rope_text rope.id (length_is i) (pieces_are i) (rows_are i)

  lines_shown : (graces : Graces) (rows : List Row) (ropes : List (Live Spot)) → flat_map (shown_line rows) (map (shown_rope graces rows) ropes) ≡ flat_map (rope_line rows) (map (live_by f) ropes)
  lines_shown graces rows [] = refl
  lines_shown graces rows (rope ∷ ropes) =
      ap (λ l. l ++ flat_map (shown_line rows) (map (shown_rope graces rows) ropes)) (line_shown graces rows rope)
      ∙ ap (λ l. rope_line rows (live_by f rope) ++ l) (lines_shown graces rows ropes)

  -- ---- blocks

  pairs_filled : (block : ℕ) (ss : List Spot) → pairs_of block (map f ss) ≡ pairs_at block ss
  pairs_filled block [] = refl
  pairs_filled block (s ∷ ss) = ap (λ x. pair_at block x ∷ pairs_of block (map f ss)) (same s) ∙ ap (λ l. pair_at block s ∷ l) (pairs_filled block ss)

  users_counted : (block : ℕ) (graces : Graces) (rows : List Row) (q : BlockPair) (ropes : List (Live Spot))
      → uses_in block (table.pieces_in (map (shown_rope graces rows) ropes)) q ≡ length (filter (λ rope. has_pair (pairs_of block rope.samples) q) (map (live_by f) ropes))
  users_counted block graces rows q [] = refl
  users_counted block graces rows q (rope ∷ ropes) =
      let here : has_pair (pairs_at block (spots_of (pieces_of rope.samples))) q ≡ has_pair (pairs_of block (map f rope.samples)) q =
      ap (λ (ss : List Spot). has_pair (pairs_at block ss) q) (spots_of-runs nowhere rope.samples) ∙ ap (λ l. has_pair l q) (sym (pairs_filled block rope.samples)) in
      ap (λ b. cond b 1 0 + uses_in block (table.pieces_in (map (shown_rope graces rows) ropes)) q) here
      ∙ by (has_pair (pairs_of block (map f rope.samples)) q) (users_counted block graces rows q ropes)
    where
      by : (b : Bool) → uses_in block (table.pieces_in (map (shown_rope graces rows) ropes)) q ≡ length (filter (λ rope. has_pair (pairs_of block rope.samples) q) (map (live_by f) ropes))
          → cond b 1 0 + uses_in block (table.pieces_in (map (shown_rope graces rows) ropes)) q ≡ length (cond b (live_by f rope ∷ filter (λ rope. has_pair (pairs_of block rope.samples) q) (map (live_by f) ropes)) (filter (λ rope. has_pair (pairs_of block rope.samples) q) (map (live_by f) ropes)))
      by true rest = omega (arith, rest)
      by false rest = omega (arith, rest)

-- ---- the state that a disk opens as

module _ (image : List ℕ) (b : Rebuilt) (shape : Shape) (parts : Parts) (left epoch : ℕ) (shows : Rebuilds parts b) (in_shape : b.shape ≡ shape) where
  abbrev fill : Spot → Tagged
  fill = filled image b

  abbrev state : State
  state = opened (recovered image b) left epoch b.form

  runs : RunsState parts b state
  runs = quiet parts b state shows (ap (λ (n : ℕ). replicate n quiet_lane) (sym (length-replicate b.shape.lanes quiet_lane))) refl

  free_is : open_in parts.blocks.holders ≡ free state
  free_is = counts_free parts b state fill (λ x. refl) refl runs

  used_is : shape.blocks - open_in parts.blocks.holders ≡ used state
  used_is =
      let all = counts_used parts b state fill (λ x. refl) refl runs in
      let blocks = ap (λ (s : Shape). s.blocks) in_shape in
      omega (arith, all, blocks)

  ropes_are : flat_map (shown_line parts.interests.rows) parts.ropes.ropes ≡ flat_map (rope_line b.rows) state.ropes
  ropes_are =
      ap (λ (rows : List Row). flat_map (shown_line rows) parts.ropes.ropes) shows.kept.rows
      ∙ ap (λ (ropes : List Rope). flat_map (shown_line b.rows) ropes) shows.kept.ropes
      ∙ lines_shown fill (λ x. refl) b.kept.shape.graces b.rows b.ropes

  rows_are : flat_map row_text parts.interests.rows ≡ flat_map row_text b.rows
  rows_are = ap (λ (rows : List Row). flat_map row_text rows) shows.kept.rows

  -- the uses of a block are the live ropes that use it
  users_are : (q : BlockPair) → uses_at parts.ropes q ≡ users state q
  users_are q =
      let counted = shows.kept.uses q in
      let no_more : uses_at parts.ropes q ≡ uses_in parts.ropes.block (table.pieces_in parts.ropes.ropes) q = omega (arith, counted) in
      no_more
      ∙ ap (λ (n : ℕ). uses_in n (table.pieces_in parts.ropes.ropes) q) shows.kept.block
      ∙ ap (λ (ropes : List Rope). uses_in b.shape.block (table.pieces_in ropes) q) shows.kept.ropes
      ∙ users_counted fill (λ x. refl) b.shape.block b.kept.shape.graces b.rows q b.ropes

  pairs_are : pairs_at parts.ropes.block (spots_in_ropes parts.ropes.ropes) ≡ pairs_of b.shape.block (flat_map (λ rope. rope.samples) state.ropes)
  pairs_are =
      ap (λ (n : ℕ). pairs_at n (spots_in_ropes parts.ropes.ropes)) shows.kept.block
      ∙ ap (λ (ropes : List Rope). pairs_at b.shape.block (spots_in_ropes ropes)) shows.kept.ropes
      ∙ ap (pairs_at b.shape.block) (spots_shown b.kept.shape.graces b.rows b.ropes)
      ∙ sym (used_filled fill (λ x. refl) b)

  shared_is : shared_in parts.ropes ≡ shared state
  shared_is =
      ap (λ (l : List BlockPair). length (distinct l))
      (filter_alike (is_shared parts.ropes) (λ q. nat_le 2 (users state q)) (λ q. ap (nat_le 2) (users_are q)) (pairs_at parts.ropes.block (spots_in_ropes parts.ropes.ropes))
      ∙ ap (filter (λ q. nat_le 2 (users state q))) pairs_are)

  pub told_is : parts_text shape epoch left parts ≡ text_of state
  told_is =
      let form = shows.in_form in
      let moment = shows.kept.moment in
      let next = shows.kept.next in
      λ i. shape_text (sym in_shape i) (form i) ++ journal_text epoch left ++ moment_text (moment i) (next i) ++ ropes_are i ++ rows_are i ++ blocks_text (used_is i) (shared_is i) (free_is i)
