-- How a change of the manager, and a whole durable part, are kept in the journal.
--     change_of form addresses effect      the change that keeps an effect; a recording has these addresses
--     base_of form r      the changes that spell what is rebuilt, in an area of its own
--     framed_size cs      how many bytes changes take with their gates and their lengths
use Rattle.std.specs.Prelude.{◌≡◌, ℕ, ◌+◌, Bool, ◌&&◌, ◌||◌, cond, ◌==◌, nat_lt, List, [], ◌∷◌, ◌++◌, map, length}
use Rattle.voice_units.specs.Spots.{Spot, pieces_of}
use Rattle.voice_units.specs.Blocks.{BlockPair, blocks_for}
use Rattle.voice_model.specs.Samples.{Tagged, recording, pieces_in}
use Rattle.voice_model.specs.State.{Live, Effect}
use Rattle.voice_model.specs.State.Effect.{Recorded, Edited, Retained, Forgotten, Counted, Swept, Advanced}
use Rattle.voice_model.specs.Spelling.{spelling}
use Rattle.voice_model.specs.Replay.{Placed, Rebuilt}
use Rattle.voice_model.specs.declared.lists.Pair.{Pair}
use Rattle.voice_model.specs.declared.changes.Change.{Change}
use Rattle.voice_model.specs.declared.changes.Change.TheVariants as changes
use Rattle.voice_model.specs.declared.calls.Row.{Row}

-- ---- one change

abbrev pub change_of : ℕ → List ℕ → Effect Tagged → Change
change_of form addresses (Recorded id samples) = cond (form == 2) (changes.Wide id (length samples) addresses) (changes.Recorded id (length samples) addresses)
change_of form addresses (Edited id samples) = changes.Edited id (pieces_in samples)
change_of form addresses (Retained row) = changes.Retained row.class row.key row.rope row.note
change_of form addresses (Forgotten class key) = changes.Forgotten class key
change_of form addresses (Counted keys) = changes.Census keys
change_of form addresses (Swept ids) = changes.Swept ids
change_of form addresses (Advanced moment) = changes.Advanced moment

-- ---- a base

-- blocks in rising number of their files, and of their indices there
abbrev pub comes_first : BlockPair → BlockPair → Bool
comes_first p q = nat_lt p.file q.file || ((p.file == q.file) && nat_lt p.index q.index)

abbrev pub with_place : Placed → List Placed → List Placed
with_place p [] = p ∷ []
with_place p (q ∷ qs) = cond (comes_first p.pair q.pair) (p ∷ q ∷ qs) (q ∷ with_place p qs)

abbrev pub in_order : List Placed → List Placed
in_order [] = []
in_order (p ∷ ps) = with_place p (in_order ps)

-- a file with some of its blocks
pub record FileBlocks : Type 0 where
  pub file : ℕ
  pub pairs : List Pair

abbrev pub pair_of_place : Placed → Pair
pair_of_place p = record { index = p.pair.index; address = p.address }

abbrev pub block_in_front : Placed → List FileBlocks → List FileBlocks
block_in_front p [] = record { file = p.pair.file; pairs = pair_of_place p ∷ [] } ∷ []
block_in_front p (f ∷ fs) =
    cond (p.pair.file == f.file)
    (record { file = f.file; pairs = pair_of_place p ∷ f.pairs } ∷ fs)
    (record { file = p.pair.file; pairs = pair_of_place p ∷ [] } ∷ f ∷ fs)

abbrev pub by_file : List Placed → List FileBlocks
by_file [] = []
by_file (p ∷ ps) = block_in_front p (by_file ps)

abbrev pub file_change : ℕ → FileBlocks → Change
file_change form f = cond (form == 2) (changes.File2 f.file f.pairs) (changes.File f.file f.pairs)

abbrev pub rope_change : ℕ → Live Spot → Change
rope_change form rope = cond (form == 2) (changes.Rope2 rope.id rope.idle rope.last (pieces_of rope.samples)) (changes.Rope rope.id rope.idle (pieces_of rope.samples))

abbrev pub row_change : Row → Change
row_change row = changes.Retained row.class row.key row.rope row.note

abbrev pub base_of : ℕ → Rebuilt → List Change
base_of form r =
    cond (form == 2) (changes.Base2 r.moment r.next) (changes.Base r.moment r.next)
    ∷ map (file_change form) (by_file (in_order r.places)) ++ map (rope_change form) r.ropes ++ map row_change r.rows

abbrev pub framed_size : List Change → ℕ
framed_size [] = 0
framed_size (c ∷ cs) = 5 + length (spelling c) + framed_size cs

-- a recording is the voice file of its own number
abbrev pub IsMade : Effect Tagged → Type 0
IsMade (Recorded id samples) = (bytes : List ℕ) × (samples ≡ recording id bytes)
IsMade _ = Unit {0}

-- a recording has an address for each of its blocks
abbrev pub HasAddresses : ℕ → List ℕ → Effect Tagged → Type 0
HasAddresses block addresses (Recorded id samples) = length addresses ≡ blocks_for block (length samples)
HasAddresses block addresses _ = Unit {0}
