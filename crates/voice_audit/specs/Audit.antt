-- The text that tells what stands on a disk.
--     joined parts, line parts      parts one after another;  the same, and the end of a line
--     shape_text, journal_text, moment_text, rope_text, row_text, blocks_text      the lines, each by what it tells
--     users s pair, shared s      how many live ropes use a block;  how many blocks two live ropes use, or more
--     text_of s      all lines of a state that was opened
--     audit_of image      those of an image of the disk, none where it has damage
use Rattle.std.specs.Prelude.{ℕ, nat_le, ◌==◌, List, [], ◌∷◌, ◌++◌, filter, flat_map, length, Option, option_map, decimal, codes}
use Rattle.voice_units.specs.declared.shapes.Shape.{Shape}
use Rattle.voice_units.specs.Blocks.{BlockPair, has_pair, distinct}
use Rattle.voice_model.specs.Samples.{Tagged, pieces_in}
use Rattle.voice_model.specs.State.{State, Live}
use Rattle.voice_model.specs.Room.{pairs_of, used, free}
use Rattle.voice_model.specs.Text.{note_text}
use Rattle.voice_model.specs.Image.{opened_from}
use Rattle.voice_model.specs.declared.calls.Row.{Row}
use Rattle.voice_model.specs.declared.calls.Class.{Class}
use Rattle.voice_model.specs.declared.calls.Class.TheVariants.{Held, Until, Listed}

-- ---- the lines

-- parts one after another
abbrev pub joined : List (List ℕ) → List ℕ
joined [] = []
joined (part ∷ parts) = part ++ joined parts

-- parts one after another, and the end of a line
abbrev pub line : List (List ℕ) → List ℕ
line [] = 10 ∷ []
line (part ∷ parts) = part ++ line parts

-- the version of the disk, the form of its current area, and the sizes
abbrev pub sizes_text : Shape → ℕ → List ℕ
sizes_text shape form = joined (codes "version " ∷ decimal shape.version ∷ codes " form " ∷ decimal form ∷ codes " block " ∷ decimal shape.block ∷ codes " blocks " ∷ decimal shape.blocks ∷ codes " area " ∷ decimal shape.area ∷ [])

-- the graces, the common one first, and the lanes
abbrev pub graces_text : Shape → List ℕ
graces_text shape = line (
    codes " graces " ∷ decimal shape.graces.common ∷ codes " " ∷ decimal shape.graces.held ∷ codes " " ∷ decimal shape.graces.until ∷ codes " " ∷ decimal shape.graces.listed
    ∷ codes " lanes " ∷ decimal shape.lanes ∷ [])

-- both of them are one line
abbrev pub shape_text : Shape → ℕ → List ℕ
shape_text shape form = sizes_text shape form ++ graces_text shape

-- the epoch of the current area, and the bytes that are left there
abbrev pub journal_text : ℕ → ℕ → List ℕ
journal_text epoch left = line (codes "journal epoch " ∷ decimal epoch ∷ codes " left " ∷ decimal left ∷ [])

-- the moment, and the number of the next rope
abbrev pub moment_text : ℕ → ℕ → List ℕ
moment_text moment next = line (codes "now " ∷ decimal moment ∷ codes " next " ∷ decimal next ∷ [])

-- a rope: its number, and how many samples, pieces and rows it has
abbrev pub rope_text : ℕ → ℕ → ℕ → ℕ → List ℕ
rope_text id samples pieces rows = line (codes "rope " ∷ decimal id ∷ codes " length " ∷ decimal samples ∷ codes " pieces " ∷ decimal pieces ∷ codes " rows " ∷ decimal rows ∷ [])

abbrev pub class_word : Class → List ℕ
class_word Held = codes "held"
class_word Until = codes "until"
class_word Listed = codes "listed"

-- an interest: its class, its key, its rope and its note
abbrev pub row_text : Row → List ℕ
row_text row = line (codes "row " ∷ class_word row.class ∷ codes " " ∷ row.key ∷ codes " " ∷ decimal row.rope ∷ codes " " ∷ note_text row.note ∷ [])

-- how many blocks are in use, how many of them two live ropes use, or more, and how many are free
abbrev pub blocks_text : ℕ → ℕ → ℕ → List ℕ
blocks_text used shared free = line (codes "blocks used " ∷ decimal used ∷ codes " shared " ∷ decimal shared ∷ codes " free " ∷ decimal free ∷ [])

-- ---- what they tell

-- how many rows a rope has
abbrev pub row_count : List Row → ℕ → ℕ
row_count rows id = length (filter (λ row. row.rope == id) rows)

-- how many live ropes use a block
abbrev pub users : State → BlockPair → ℕ
users s pair = length (filter (λ rope. has_pair (pairs_of s.shape.block rope.samples) pair) s.ropes)

-- how many blocks two live ropes use, or more
abbrev pub shared : State → ℕ
shared s = length (distinct (filter (λ pair. nat_le 2 (users s pair)) (pairs_of s.shape.block (flat_map (λ rope. rope.samples) s.ropes))))

-- the line of a live rope
abbrev pub rope_line : List Row → Live Tagged → List ℕ
rope_line rows rope = rope_text rope.id (length rope.samples) (length (pieces_in rope.samples)) (row_count rows rope.id)

-- all lines of a state that was opened: ropes in rising number, rows in order of making
abbrev pub text_of : State → List ℕ
text_of s =
    shape_text s.shape s.form ++ journal_text s.epoch s.left ++ moment_text s.moment s.next
    ++ flat_map (rope_line s.rows) s.ropes ++ flat_map row_text s.rows ++ blocks_text (used s) (shared s) (free s)

-- the lines of an image of the disk, none where it has damage
abbrev pub audit_of : List ℕ → Option (List ℕ)
audit_of image = option_map text_of (opened_from image)
