-- The live ropes, how many use each block, and when each is due, as contracts see them.
--     Rope (of the program)      a live rope: its number, its pieces, since when it is idle, the class of the last row that it lost, how long it waits, and whether a row keeps it
--     Every P xs, IsInOrder comes xs, put_in comes x xs      each element has it;  each comes before all behind it;  an element put in front of the first one that it comes before
--     rope_of ropes id, number_above ropes id      the rope of a number;  the lowest number above one
--     with_rope rope ropes, without_rope id ropes      a rope put in by its number;  the ropes without that of a number
--     settled, idled, held_back      what becomes of a rope as that of a number loses its last row, is idle since another moment, or is kept or no longer kept
--     piece_count ropes      how many pieces ropes have in all
--     made_rope      the rope of these parts, which no row keeps
--     uses_by block ps pair, uses_in block lists pair      1 where pieces have a block, else 0;  how many lists of pieces have it
--     pairs_in block lists, block_count block ropes      the blocks that lists of pieces have;  how many blocks ropes have
--     files_of pairs, file_count block ropes      the files of blocks, each once;  how many voice files ropes have samples of
--     count_of counts pair      the count of a block, 0 and not marked where there is none
--     index_of ropes      when each rope that no row keeps is due, by moment and number
--     Table, uses_at table pair, Counts table held, new_pairs table ps      the whole;  how many use a block;  the uses are those of live ropes and held passages;  how many blocks of pieces nothing uses yet
--     IsTable table      what each table keeps
use Rattle.std.specs.Prelude.{◌≡◌, ℕ, ◌+◌, ◌%◌, ◌≤◌, Bool, true, false, ◌&&◌, ◌||◌, not, cond, ◌==◌, nat_lt, List, [], ◌∷◌, ◌++◌, map, filter, length, Option, Some, None, option_map, unwrap_or}
use Rattle.std.specs.List.{list_any}
use Rattle.std.specs.Map.{lookup}
use Rattle.voice_units.specs.declared.pieces.Piece.{Piece}
use Rattle.voice_units.specs.Spots.{spots_of}
use Rattle.voice_units.specs.Blocks.{BlockPair, pairs_at, has_pair, distinct}
pub use Rattle.rope_table.specs.declared.ropes.Rope.{Rope}
pub use Rattle.rope_table.specs.declared.dues.Due.{Due}
use Rattle.rope_table.specs.declared.counts.BlockName.{BlockName}
use Rattle.rope_table.specs.declared.counts.Count.{Count}
use Rattle.rope_table.specs.contracts.counts.BlockNamePartialEq.TheImpl as name_impl

-- ---- lists in order

-- each element has it
abbrev pub Every : {A : Type 0} → (A → Type 0) → List A → Type 0
Every P [] = Unit {0}
Every P (x ∷ xs) = P x × Every P xs

-- each element comes before all behind it
abbrev pub IsInOrder : {A : Type 0} → (A → A → Bool) → List A → Type 0
IsInOrder comes [] = Unit {0}
IsInOrder comes (x ∷ xs) = Every (λ y. comes x y ≡ true) xs × IsInOrder comes xs

-- an element in front of the first one that it comes before
abbrev pub put_in : {A : Type 0} → (A → A → Bool) → A → List A → List A
put_in comes x [] = x ∷ []
put_in comes x (y ∷ ys) = cond (comes x y) (x ∷ y ∷ ys) (y ∷ put_in comes x ys)

-- ---- ropes in rising number

-- the rope of a number
abbrev pub rope_of : List Rope → ℕ → Option Rope
rope_of [] id = None
rope_of (rope ∷ ropes) id = cond (rope.id == id) (Some rope) (rope_of ropes id)

-- the first number above one, which is the lowest
abbrev pub number_above : List Rope → ℕ → Option ℕ
number_above [] id = None
number_above (rope ∷ ropes) id = cond (nat_lt id rope.id) (Some rope.id) (number_above ropes id)

-- whether a rope has the lower number
abbrev pub is_lower : Rope → Rope → Bool
is_lower rope other = nat_lt rope.id other.id

-- a rope in front of the first one with a greater number
abbrev pub with_rope : Rope → List Rope → List Rope
with_rope rope ropes = put_in is_lower rope ropes

-- the ropes without that of a number
abbrev pub without_rope : ℕ → List Rope → List Rope
without_rope id ropes = filter (λ rope. not (rope.id == id)) ropes

-- the rope of a number has no row any more since this moment, lost one of this class last, and waits so long
abbrev pub settled : ℕ → ℕ → ℕ → ℕ → Rope → Rope
settled id idle last wait rope = cond (rope.id == id) (record rope { idle = idle; last = last; wait = wait; kept = false }) rope

-- the rope of a number is idle since this moment, lost a row of this class last, and waits so long
abbrev pub idled : ℕ → ℕ → ℕ → ℕ → Rope → Rope
idled id idle last wait rope = cond (rope.id == id) (record rope { idle = idle; last = last; wait = wait }) rope

-- the rope of a number is kept by a row, or no longer
abbrev pub held_back : ℕ → Bool → Rope → Rope
held_back id kept rope = cond (rope.id == id) (record rope { kept = kept }) rope

-- the rope of these parts, which no row keeps
abbrev pub made_rope : ℕ → List Piece → ℕ → ℕ → ℕ → Rope
made_rope id pieces idle last wait = record { id = id; pieces = pieces; idle = idle; last = last; wait = wait; kept = false }

-- how many pieces ropes have in all
abbrev pub piece_count : List Rope → ℕ
piece_count [] = 0
piece_count (rope ∷ ropes) = length rope.pieces + piece_count ropes

-- ---- the parts of the rope of a number

abbrev pub pieces_at : List Rope → ℕ → Option (List Piece)
pieces_at ropes id = option_map (λ rope. rope.pieces) (rope_of ropes id)

abbrev pub idle_at : List Rope → ℕ → Option ℕ
idle_at ropes id = option_map (λ rope. rope.idle) (rope_of ropes id)

abbrev pub last_at : List Rope → ℕ → Option ℕ
last_at ropes id = option_map (λ rope. rope.last) (rope_of ropes id)

abbrev pub wait_at : List Rope → ℕ → Option ℕ
wait_at ropes id = option_map (λ rope. rope.wait) (rope_of ropes id)

abbrev pub kept_at : List Rope → ℕ → Option Bool
kept_at ropes id = option_map (λ rope. rope.kept) (rope_of ropes id)

-- ---- uses of blocks

-- 1 where pieces have a block, else 0
abbrev pub uses_by : ℕ → List Piece → BlockPair → ℕ
uses_by block ps pair = cond (has_pair (pairs_at block (spots_of ps)) pair) 1 0

-- how many lists of pieces have a block
abbrev pub uses_in : ℕ → List (List Piece) → BlockPair → ℕ
uses_in block [] pair = 0
uses_in block (ps ∷ lists) pair = uses_by block ps pair + uses_in block lists pair

abbrev pub pieces_in : List Rope → List (List Piece)
pieces_in ropes = map (λ rope. rope.pieces) ropes

abbrev pub pair_of : ℕ → ℕ → BlockPair
pair_of file index = record { file = file; index = index }

-- the program's own test of blocks
abbrev pub name_eq : BlockName → BlockName → Bool
name_eq = (name_impl.ghosts).eq

abbrev pub name_of : BlockPair → BlockName
name_of pair = record { file = pair.file; index = pair.index }

abbrev pub no_count : Count
no_count = record { uses = 0; live = 0; marked = false }

-- a block's count, 0 and not marked where there is none
abbrev pub count_of : List (BlockName × Count) → BlockPair → Count
count_of counts pair = unwrap_or (lookup (name_eq (name_of pair)) counts) no_count

abbrev pub uses_counted : List (BlockName × Count) → BlockPair → ℕ
uses_counted counts pair = (count_of counts pair).uses

-- how many live ropes have a block, as its count tells
abbrev pub live_counted : List (BlockName × Count) → BlockPair → ℕ
live_counted counts pair = (count_of counts pair).live

-- the blocks that lists of pieces have
abbrev pub pairs_in : ℕ → List (List Piece) → List BlockPair
pairs_in block [] = []
pairs_in block (ps ∷ lists) = pairs_at block (spots_of ps) ++ pairs_in block lists

-- how many blocks ropes have
abbrev pub block_count : ℕ → List Rope → ℕ
block_count block ropes = length (distinct (pairs_in block (pieces_in ropes)))

-- whether a block of a file is in a list
abbrev pub has_file : List BlockPair → ℕ → Bool
has_file pairs f = list_any (λ p. p.file == f) pairs

-- the files of blocks, each once
abbrev pub files_of : List BlockPair → List ℕ
files_of [] = []
files_of (p ∷ ps) = cond (has_file ps p.file) (files_of ps) (p.file ∷ files_of ps)

-- how many voice files ropes have samples of
abbrev pub file_count : ℕ → List Rope → ℕ
file_count block ropes = length (files_of (pairs_in block (pieces_in ropes)))

-- ---- when ropes are due

-- whether one is due before another, ropes of one moment by number
abbrev pub is_sooner : Due → Due → Bool
is_sooner due other = nat_lt due.at other.at || ((due.at == other.at) && nat_lt due.id other.id)

-- in front of the first one that is due later
abbrev pub with_due : Due → List Due → List Due
with_due due dues = put_in is_sooner due dues

-- a rope is due once it was idle for its wait
abbrev pub due_at : ℕ → ℕ → ℕ → Due
due_at id idle wait = record { at = idle + wait; id = id }

abbrev pub due_of : Rope → Due
due_of rope = due_at rope.id rope.idle rope.wait

-- when each rope that no row keeps is due, by moment and number
abbrev pub index_of : List Rope → List Due
index_of [] = []
index_of (rope ∷ ropes) = cond rope.kept (index_of ropes) (with_due (due_of rope) (index_of ropes))

abbrev pub as_pair : Due → ℕ × ℕ
as_pair due = (due.at, due.id)

-- ---- the whole

-- the samples of a block; the live ropes in rising number; the blocks in use with their counts; how many more ropes, and how many more blocks, fit without memory
pub record Table : Type 0 where
  pub block : ℕ
  pub ropes : List Rope
  pub counts : List (BlockName × Count)
  pub spare_ropes : ℕ
  pub spare_pairs : ℕ

-- how many use a block
abbrev pub uses_at : Table → BlockPair → ℕ
uses_at t pair = uses_counted t.counts pair

-- the uses of a block are the live ropes and the held passages that have it
abbrev pub Counts : Table → List (List Piece) → Type 0
Counts t held = (pair : BlockPair) → uses_at t pair ≡ uses_in t.block (pieces_in t.ropes) pair + uses_in t.block held pair

-- how many blocks of a list have no use
abbrev pub unused : (BlockPair → ℕ) → List BlockPair → ℕ
unused uses pairs = length (distinct (filter (λ pair. uses pair == 0) pairs))

-- how many blocks of pieces nothing uses yet
abbrev pub new_pairs : Table → List Piece → ℕ
new_pairs t ps = unused (uses_at t) (pairs_at t.block (spots_of ps))

-- numbers rise strictly, each class is at most 3, the uses of a block are at least the live ropes that have it, and a block is of a size that a disk can have
pub record IsTable (t : Table) : Type 0 where
  pub rising : IsInOrder is_lower t.ropes
  pub classes : Every (λ rope. rope.last ≤ 3) t.ropes
  pub covers : (pair : BlockPair) → uses_in t.block (pieces_in t.ropes) pair ≤ uses_at t pair
  pub words : t.block % 8 ≡ 0
  pub least : 8 ≤ t.block
  pub most : t.block ≤ 8192
