-- What the tables show is what the base spells.
use Rattle.std.proofs.Common.{◌≡◌, ℕ, ◌≤◌, ◌<◌, true, List, [], ◌∷◌, ◌++◌, map, flat_map, refl, sym, ◌∙◌, ap, subst}
use Rattle.std.specs.BTreeSet.{BTreeSet, IsOrdered}
use Rattle.voice_units.specs.declared.shapes.Graces.{Graces}
use Rattle.voice_units.specs.Spots.{Spot, nowhere}
use Rattle.voice_units.specs.Blocks.{BlockPair, pairs_at, has_pair}
use Rattle.voice_units.proofs.PiecesOfRopes.{spots_of-runs}
use Rattle.voice_model.specs.State.{Live}
use Rattle.voice_model.specs.Spelling.{spelling, keeps_grammar}
use Rattle.voice_model.specs.Replay.{Placed, Rebuilt, has_place}
use Rattle.voice_model.specs.Base.{base_of, by_file, in_order, file_change, rope_change, row_change}
use Rattle.voice_model.specs.Valid.{Every}
use Rattle.voice_model.specs.Places.{Pairwise, ComesFirst, ReadsBack}
use Rattle.voice_model.specs.declared.calls.Row.{Row}
use Rattle.voice_model.proofs.Order.{sorted, every_ordered, every-split}
use Rattle.voice_model.proofs.KeptByChanges.{every-map}
use Rattle.voice_model.proofs.BaseReadAgain.{ids_below}
use Rattle.voice_model.proofs.BaseSpelled.{reads_back}
use Rattle.rope_table.specs.declared.ropes.Rope.{Rope}
use Rattle.rope_table.specs.Table.{Table}
use Rattle.voice_blocks.specs.Holders.{Holders}
use Rattle.checkpoint.specs.declared.blocks.BlockName.{BlockName}
use Rattle.checkpoint.specs.declared.files.PlacedBlock.{PlacedBlock}
use Rattle.checkpoint.specs.Blocks.{IsHeld, is_noted, name_cmp, names_of, place_of_block, spots_in_ropes, kept_change}
use Rattle.recovery.specs.Shown.{shown_rope, plain_sample}
use Rattle.checkpoint.specs.Compact.{CanCompact, head_change}
use Rattle.checkpoint.proofs.Names.{noted_names}
use Rattle.checkpoint.proofs.Used.{used_placed}
use Rattle.checkpoint.proofs.Joined.{parts_joined}

pub spots_shown : (graces : Graces) (rows : List Row) (ropes : List (Live Spot)) → spots_in_ropes (map (shown_rope graces rows) ropes) ≡ flat_map (λ rope. rope.samples) ropes
spots_shown graces rows [] = refl
spots_shown graces rows (rope ∷ ropes) =
    ap (λ l. l ++ spots_in_ropes (map (shown_rope graces rows) ropes)) (spots_of-runs nowhere rope.samples)
    ∙ ap (λ l. rope.samples ++ l) (spots_shown graces rows ropes)

changes_shown : (form : ℕ) (graces : Graces) (rows : List Row) (ropes : List (Live Spot)) → map (kept_change form) (map (shown_rope graces rows) ropes) ≡ map (rope_change form) ropes
changes_shown form graces rows [] = refl
changes_shown form graces rows (rope ∷ ropes) = ap (λ l. rope_change form rope ∷ l) (changes_shown form graces rows ropes)

module _ (form : ℕ) (table : Table) (interests : List Row) (holders : Holders) (now next : ℕ) (r : Rebuilt) (can : CanCompact form table interests holders now next r) where
  base : ReadsBack form r
  base = reads_back plain_sample (λ s. refl) form r can.valid can.placed can.used can.spelled

  -- ---- the blocks

  pub numbers : Every (λ (rope : Rope). 1 ≤ rope.id) table.ropes
  numbers =
      subst (Every (λ (rope : Rope). 1 ≤ rope.id)) (sym can.shows.ropes)
      (every-map (λ (rope : Live Spot). (1 ≤ rope.id) × (rope.id < r.kept.next)) (λ (rope : Rope). 1 ≤ rope.id) (shown_rope r.kept.shape.graces r.kept.rows) (λ rope h. h.0) r.kept.ropes (ids_below plain_sample r.kept.ropes r.kept.next can.valid.kept.rising))

  pub in_files : Pairwise ComesFirst (in_order r.places)
  in_files = sorted r.places can.placed.once

  pub all_held : Every (IsHeld holders) (in_order r.places)
  all_held = every_ordered (IsHeld holders) r.places can.addresses

  pub same_blocks : (q : BlockPair) → has_pair (pairs_at table.block (spots_in_ropes table.ropes)) q ≡ has_place (in_order r.places) q
  same_blocks q =
      ap (λ n. has_pair (pairs_at n (spots_in_ropes table.ropes)) q) can.shows.block
      ∙ ap (λ l. has_pair (pairs_at r.kept.shape.block (spots_in_ropes l)) q) can.shows.ropes
      ∙ ap (λ l. has_pair (pairs_at r.kept.shape.block l) q) (spots_shown r.kept.shape.graces r.kept.rows r.kept.ropes)
      ∙ used_placed r q can.placed can.used

  -- the noted blocks are those of the places in order
  pub names_are : (noted : BTreeSet BlockName) → IsOrdered name_cmp noted → ((q : BlockPair) → is_noted noted q ≡ has_pair (pairs_at table.block (spots_in_ropes table.ropes)) q) → noted.keys ≡ names_of (in_order r.places)
  names_are noted ordered same = noted_names noted (in_order r.places) ordered in_files (λ q. same q ∙ same_blocks q)

  -- and so are the blocks with their addresses
  pub placed_are : (noted : BTreeSet BlockName) (names : List BlockName) (placed : List PlacedBlock) → IsOrdered name_cmp noted → ((q : BlockPair) → is_noted noted q ≡ has_pair (pairs_at table.block (spots_in_ropes table.ropes)) q) → names ≡ noted.keys
      → ((places : List Placed) → Every (IsHeld holders) places → names ≡ names_of places → map place_of_block placed ≡ places) → map place_of_block placed ≡ in_order r.places
  placed_are noted names placed ordered same listed each = each (in_order r.places) all_held (listed ∙ names_are noted ordered same)

  -- ---- the parts

  head_is : head_change form now next ≡ head_change form r.kept.moment r.kept.next
  head_is = ap (λ n. head_change form n next) can.shows.moment ∙ ap (λ n. head_change form r.kept.moment n) can.shows.next

  ropes_are : map (kept_change form) table.ropes ≡ map (rope_change form) r.kept.ropes
  ropes_are = ap (map (kept_change form)) can.shows.ropes ∙ changes_shown form r.kept.shape.graces r.kept.rows r.kept.ropes

  rows_are : map row_change interests ≡ map row_change r.kept.rows
  rows_are = ap (map row_change) can.shows.rows

  pub head_fits : keeps_grammar (head_change form now next) ≡ true
  head_fits = ap keeps_grammar head_is ∙ base.grammar.0

  parts_fit : Every (λ change. keeps_grammar change ≡ true) (map (file_change form) (by_file (in_order r.places)) ++ map (rope_change form) r.kept.ropes) × Every (λ change. keeps_grammar change ≡ true) (map row_change r.kept.rows)
  parts_fit = every-split (λ change. keeps_grammar change ≡ true) (map (file_change form) (by_file (in_order r.places)) ++ map (rope_change form) r.kept.ropes) (map row_change r.kept.rows) base.grammar.1

  lists_fit : Every (λ change. keeps_grammar change ≡ true) (map (file_change form) (by_file (in_order r.places))) × Every (λ change. keeps_grammar change ≡ true) (map (rope_change form) r.kept.ropes)
  lists_fit = every-split (λ change. keeps_grammar change ≡ true) (map (file_change form) (by_file (in_order r.places))) (map (rope_change form) r.kept.ropes) parts_fit.0

  pub files_fit : (places : List Placed) → places ≡ in_order r.places → Every (λ change. keeps_grammar change ≡ true) (map (file_change form) (by_file places))
  files_fit places e = subst (λ l. Every (λ change. keeps_grammar change ≡ true) (map (file_change form) (by_file l))) (sym e) lists_fit.0

  pub ropes_fit : Every (λ change. keeps_grammar change ≡ true) (map (kept_change form) table.ropes)
  ropes_fit = subst (Every (λ change. keeps_grammar change ≡ true)) (sym ropes_are) lists_fit.1

  pub rows_fit : Every (λ change. keeps_grammar change ≡ true) (map row_change interests)
  rows_fit = subst (Every (λ change. keeps_grammar change ≡ true)) (sym rows_are) parts_fit.1

  -- ---- the whole

  pub whole : (places : List Placed) → places ≡ in_order r.places →
      ([] ++ spelling (head_change form now next) ∷ []) ++ map spelling (map (file_change form) (by_file places)) ++ map spelling (map (kept_change form) table.ropes) ++ map spelling (map row_change interests) ≡ map spelling (base_of form r)
  whole places e =
      parts_joined (spelling (head_change form now next)) (map (file_change form) (by_file places)) (map (kept_change form) table.ropes) (map row_change interests)
      ∙ ap (λ c. spelling c ∷ map spelling (map (file_change form) (by_file places) ++ map (kept_change form) table.ropes ++ map row_change interests)) head_is
      ∙ ap (λ l. spelling (head_change form r.kept.moment r.kept.next) ∷ map spelling (map (file_change form) (by_file l) ++ map (kept_change form) table.ropes ++ map row_change interests)) e
      ∙ ap (λ l. spelling (head_change form r.kept.moment r.kept.next) ∷ map spelling (map (file_change form) (by_file (in_order r.places)) ++ l ++ map row_change interests)) ropes_are
      ∙ ap (λ l. spelling (head_change form r.kept.moment r.kept.next) ∷ map spelling (map (file_change form) (by_file (in_order r.places)) ++ map (rope_change form) r.kept.ropes ++ l)) rows_are
