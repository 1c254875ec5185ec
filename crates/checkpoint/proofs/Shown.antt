-- The numbers that tables show are those of the durable part that they show.
use Rattle.std.proofs.Common.{◌≡◌, ℕ, ◌+◌, List, [], ◌∷◌, ◌++◌, map, length, refl, sym, ◌∙◌, ap}
use Rattle.std.proofs.lemmas.List.{length-map, map-append}
use Rattle.voice_units.specs.declared.pieces.Piece.{Piece}
use Rattle.voice_units.specs.declared.shapes.Graces.{Graces}
use Rattle.voice_units.specs.Spots.{Spot, pieces_of, spots_of}
use Rattle.voice_units.specs.Blocks.{BlockPair, pair_at, pairs_at, distinct}
use Rattle.voice_model.specs.Samples.{Tagged, spot_of}
use Rattle.voice_model.specs.State.{Durable, Live}
use Rattle.voice_model.specs.Changes.{each_once, live_pairs, base_size}
use Rattle.voice_model.specs.Replay.{Rebuilt, Phase, live_by, durable_by}
use Rattle.voice_model.specs.Base as changes
use Rattle.voice_model.specs.Base.{base_of}
use Rattle.voice_model.specs.declared.calls.Row.{Row}
use Rattle.voice_model.proofs.BaseSize.{base_sized}
use Rattle.voice_model.proofs.LegalInReplay.{used_filled}
use Rattle.voice_model.proofs.StatesOfReplay.{spots_again}
use Rattle.rope_table.specs.declared.ropes.Rope.{Rope}
use Rattle.rope_table.specs.Table.{Table, pieces_in, pairs_in, piece_count}
use Rattle.voice_blocks.specs.Holders.{Holders}
use Rattle.recovery.specs.Shown.{ShowsKept, shown_rope, plain_sample}
use Rattle.checkpoint.specs.Blocks.{spots_in_ropes}
use Rattle.checkpoint.specs.Compact.{CanCompact}
use Rattle.checkpoint.specs.Size.{live_blocks, live_files, numbers_of, size_by_numbers, pieces_of_live, numbers_in}
use Rattle.interest_table.specs.Table.{key_bytes_of, note_bytes_of}
use Rattle.checkpoint.proofs.FilesOnce.{files_once}
use Rattle.checkpoint.proofs.Numbers.{by_numbers}
use Rattle.checkpoint.proofs.Tables.{spots_shown}

-- the blocks rope by rope are those of all their samples
pub pairs_by_rope : (block : ℕ) (ropes : List Rope) → pairs_at block (spots_in_ropes ropes) ≡ pairs_in block (pieces_in ropes)
pairs_by_rope block [] = refl
pairs_by_rope block (rope ∷ ropes) =
    map-append (pair_at block) (spots_of rope.pieces) (spots_in_ropes ropes) ∙ ap (λ l. pairs_at block (spots_of rope.pieces) ++ l) (pairs_by_rope block ropes)

module _ (f : Spot → Tagged) (same : (s : Spot) → spot_of (f s) ≡ s) where
  pieces_shown : (graces : Graces) (rows : List Row) (ropes : List (Live Spot)) → pieces_of_live (map (live_by f) ropes) ≡ piece_count (map (shown_rope graces rows) ropes)
  pieces_shown graces rows [] = refl
  pieces_shown graces rows (rope ∷ ropes) =
      ap (λ ss. length (pieces_of ss) + pieces_of_live (map (live_by f) ropes)) (spots_again f same rope.samples)
      ∙ ap (λ n. length (pieces_of rope.samples) + n) (pieces_shown graces rows ropes)

  -- the durable part as one that was rebuilt
  lone_part : Durable Spot → Rebuilt
  lone_part d = record { kept = d; places = []; form = 1; phase = Phase.Later }

  -- tables that show a durable part show the numbers of its base
  pub numbers_shown : (held : List (List Piece)) (table : Table) (rows : List Row) (now next : ℕ) (d : Durable Spot) → ShowsKept held table rows now next d → numbers_in (durable_by f d) ≡ numbers_of table rows
  unfolding lone_part
  numbers_shown held table rows now next d shows =
      let blocks : live_pairs (durable_by f d) ≡ live_blocks table =
      ap distinct (used_filled f same (lone_part d)
      ∙ ap (pairs_at d.shape.block) (sym (spots_shown d.shape.graces d.rows d.ropes))
      ∙ ap (λ (l : List Rope). pairs_at d.shape.block (spots_in_ropes l)) (sym shows.ropes)
      ∙ ap (λ n. pairs_at n (spots_in_ropes table.ropes)) (sym shows.block)
      ∙ pairs_by_rope table.block table.ropes) in
      let files : length (each_once (map (λ pair. pair.file) (live_pairs (durable_by f d)))) ≡ length (live_files table) =
      ap (λ (l : List BlockPair). length (each_once (map (λ pair. pair.file) l))) blocks ∙ ap length (files_once (pairs_in table.block (pieces_in table.ropes))) in
      let count : length (map (live_by f) d.ropes) ≡ length table.ropes =
      length-map d.ropes (live_by f) ∙ sym (length-map d.ropes (shown_rope d.shape.graces d.rows)) ∙ ap length (sym shows.ropes) in
      let pieces : pieces_of_live (map (live_by f) d.ropes) ≡ piece_count table.ropes = pieces_shown d.shape.graces d.rows d.ropes ∙ ap piece_count (sym shows.ropes) in
      let same_rows : d.rows ≡ rows = sym shows.rows in
      λ i. record {
        files = files i;
        blocks = length (blocks i);
        ropes = count i;
        pieces = pieces i;
        rows = length (same_rows i);
        key_bytes = key_bytes_of (same_rows i);
        note_bytes = note_bytes_of (same_rows i);
      }

  -- so the size of its base comes of the tables
  pub size_shown : (form : ℕ) (held : List (List Piece)) (table : Table) (rows : List Row) (now next : ℕ) (d : Durable Spot) → ShowsKept held table rows now next d → base_size form (durable_by f d) ≡ size_by_numbers form (numbers_of table rows)
  size_shown form held table rows now next d shows = by_numbers form (durable_by f d) ∙ ap (size_by_numbers form) (numbers_shown held table rows now next d shows)

-- and so does the framed size of the base that spells them
pub framed_shown : (form : ℕ) (table : Table) (rows : List Row) (holders : Holders) (now next : ℕ) (r : Rebuilt) → CanCompact form table rows holders now next r → changes.framed_size (base_of form r) ≡ size_by_numbers form (numbers_of table rows)
framed_shown form table rows holders now next r can =
    base_sized plain_sample (λ s. refl) form r can.placed can.used
    ∙ size_shown plain_sample (λ s. refl) form can.held table rows now next r.kept can.shows
