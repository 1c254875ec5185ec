-- The text of an audit, by the tables that a disk's changes rebuild.
--     shown_line rows rope      the line of a rope of the table
--     parts_text shape epoch left parts      all lines
use Rattle.std.specs.Prelude.{ℕ, ◌-◌, ◌++◌, List, flat_map, length}
use Rattle.voice_units.specs.declared.shapes.Shape.{Shape}
use Rattle.voice_units.specs.Spots.{samples_in}
use Rattle.voice_model.specs.declared.calls.Row.{Row}
use Rattle.voice_blocks.specs.Holders.{open_in}
use Rattle.rope_table.specs.declared.ropes.Rope.{Rope}
use Rattle.interest_table.specs.Table.{rows_of}
use Rattle.recovery.specs.declared.parts.Parts.{Parts}
use Rattle.voice_audit.specs.Audit.{shape_text, journal_text, moment_text, rope_text, row_text, blocks_text}
use Rattle.voice_audit.specs.Sharing.{shared_in}

-- the line of a rope of the table
abbrev pub shown_line : List Row → Rope → List ℕ
shown_line rows rope = rope_text rope.id (samples_in rope.pieces) (length rope.pieces) (rows_of rope.id rows)

-- all lines; what is not free is in use
abbrev pub parts_text : Shape → ℕ → ℕ → Parts → List ℕ
parts_text shape epoch left parts =
    shape_text shape parts.form ++ journal_text epoch left ++ moment_text parts.moment parts.next
    ++ flat_map (shown_line parts.interests.rows) parts.ropes.ropes ++ flat_map row_text parts.interests.rows
    ++ blocks_text (shape.blocks - open_in parts.blocks.holders) (shared_in parts.ropes) (open_in parts.blocks.holders)
