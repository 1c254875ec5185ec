-- What the table holds.
--     Ropes, Dues, Uses      the ropes, the order in which they are due, and the uses of blocks, each with its room
--     place_of test xs, IsAt ropes id i      how many elements in front pass a test;  the rope of a number stands at this place
--     standing_of rope, standing_if id rope, standing_at ropes id      what a rope is besides its samples;  that of the rope, or of the rope among ropes, that has a number
--     rested      what becomes of a rope as that of a number is idle since another moment, and is still kept or no longer
--     AreLive ropes pieces      the ropes are in rising number, not too many, and have so many pieces
--     Tallied      the counts of blocks
--     found_in, entered_in entries pair; count_in, is_entered      a block's entry, if it has one;  a block's count, 0 and not marked where there is none, and whether it is entered
--     once, is_live, live_in entries      1 where it holds;  whether a live rope has the block of a count;  how many entries are of such blocks
--     touched live pass count; used_again, used_less live count      what a pass makes of the count of a block;  the count with one use more, or less
--     raises, lowers, goes_apart pass; is_met pass count      whether a pass gives one use more, one less, or marks no block;  whether it has met the block of a count
--     AreApart block pieces      no piece has a block of one in front of it
--     stands_behind last end file start, comes_below file index pair      an index of a file stands at or behind another;  a block stands in front of one
--     count_changed entered was is count      the count of a file of which a block gets a count
--     missing tally pairs      how many blocks have no count yet
--     in_file, live_in_file f e, weight_found weigh name count      1 for an entry of a file, or of one that is live;  what a found entry weighs
--     IsTallied counts files live      the numbers of such entries are kept
--     IsBehind counts files live file old is      they are those before a block of a file got a count
--     AreSettled tally      no block is marked
--     seen, IsWhole      the table of these parts;  the parts tell of the same ropes
use Rattle.std.specs.Prelude.{◌≡◌, ℕ, suc, ◌+◌, ◌-◌, ◌^◌, ◌≤◌, ◌<◌, min, nat_lt, nat_le, Bool, true, false, not, ◌&&◌, ◌||◌, ◌==◌, cond, List, [], ◌∷◌, length, filter, take, slice_get, Option, Some, None, option_map, unwrap_or, is_some, IsSome}
use Rattle.std.specs.HashMap.{HashMap}
use Rattle.std.specs.List.{sum_by}
use Rattle.std.specs.Map.{lookup}
use Rattle.voice_units.specs.declared.Piece.{Piece}
use Rattle.voice_units.specs.Spots.{spots_in, spots_of}
use Rattle.voice_units.specs.Blocks.{BlockPair, pairs_at, has_pair, distinct}
use Rattle.rope_table.specs.declared.ropes.Rope.{Rope}
use Rattle.rope_table.specs.declared.ropes.Standing.{Standing}
use Rattle.rope_table.specs.declared.dues.Due.{Due}
use Rattle.rope_table.specs.declared.counts.BlockName.{BlockName}
use Rattle.rope_table.specs.declared.counts.Count.{Count}
use Rattle.rope_table.specs.declared.counts.Pass.{Pass}
use Rattle.rope_table.specs.declared.counts.Pass.TheVariants.{Raise, Lower, Settle, RaiseApart, LowerApart}
use Rattle.rope_table.specs.declared.files.FileCount.{FileCount}
use Rattle.rope_table.specs.Files.{Filed, file_of}
use Rattle.rope_table.specs.Table.{Table, IsTable, Every, IsInOrder, is_lower, rope_of, piece_count, index_of, name_eq, name_of, no_count, count_of, live_counted, uses_in, pieces_in}

-- how many elements in front pass a test
abbrev pub place_of : {A : Type 0} → (A → Bool) → List A → ℕ
place_of test [] = 0
place_of test (x ∷ xs) = cond (test x) (suc (place_of test xs)) 0

-- whether a rope's number is below this one
abbrev pub lies_below : ℕ → Rope → Bool
lies_below id rope = nat_lt rope.id id

-- whether one is due before this moment and number
abbrev pub is_due_before : ℕ → ℕ → Due → Bool
is_due_before at id due = nat_lt due.at at || ((due.at == at) && nat_lt due.id id)

-- whether a rope's number is at most this one
abbrev pub is_within : ℕ → Rope → Bool
is_within id rope = nat_le rope.id id

-- what a rope is besides its samples
abbrev pub standing_of : Rope → Standing
standing_of rope = record { idle = rope.idle; wait = rope.wait; kept = rope.kept }

-- the same, if the rope has this number
abbrev pub standing_if : ℕ → Rope → Option Standing
standing_if id rope = cond (rope.id == id) (Some (standing_of rope)) None

-- and of the rope among ropes that has it
abbrev pub standing_at : List Rope → ℕ → Option Standing
standing_at ropes id = option_map standing_of (rope_of ropes id)

-- the rope of a number is idle since this moment, lost a row of this class last, and waits so long; a row that keeps it still does, or none
abbrev pub rested : ℕ → ℕ → ℕ → ℕ → Bool → Rope → Rope
rested id idle last wait still rope = cond (rope.id == id) (record rope { idle = idle; last = last; wait = wait; kept = still && rope.kept }) rope

-- the rope of a number stands at this place
pub record IsAt (ropes : List Rope) (id i : ℕ) : Type 0 where
  pub within : i < length ropes
  pub place : i ≡ place_of (lies_below id) ropes
  pub found : slice_get ropes i ≡ rope_of ropes id
  pub some : IsSome (rope_of ropes id)

-- ropes in rising number, not too many, each with no more pieces than a rope has, and so many of these in all
pub record AreLive (ropes : List Rope) (pieces : ℕ) : Type 0 where
  pub order : IsInOrder is_lower ropes
  pub few : length ropes ≤ 2 ^ 31
  pub short : Every (λ rope. length rope.pieces < 2 ^ 32) ropes
  pub total : pieces ≡ piece_count ropes

-- the ropes in rising number, and how many fit without memory
pub record Ropes : Type 0 where
  pub ropes : List Rope
  pub room : ℕ

-- when ropes are due, in order, and how many fit without memory
pub record Dues : Type 0 where
  pub dues : List Due
  pub room : ℕ

-- the samples of a block, the blocks in use with their counts, and how many more blocks fit without memory
pub record Uses : Type 0 where
  pub block : ℕ
  pub counts : List (BlockName × Count)
  pub spare : ℕ

abbrev pub pair_named : BlockName → BlockPair
pair_named name = record { file = name.file; index = name.index }

-- the counts of blocks, and how many more fit without memory
pub record Tallied : Type 0 where
  pub counts : List (BlockName × Count)
  pub spare : ℕ

-- the count of a block among entries
abbrev pub found_in : List (BlockName × Count) → BlockPair → Option Count
found_in counts pair = lookup (name_eq (name_of pair)) counts

-- whether a block has a count among entries
abbrev pub entered_in : List (BlockName × Count) → BlockPair → Bool
entered_in counts pair = is_some (found_in counts pair)

-- a block's count, 0 and not marked where there is none
abbrev pub count_in : Tallied → BlockPair → Count
count_in tally pair = count_of tally.counts pair

-- whether a block's count is entered
abbrev pub is_entered : Tallied → BlockPair → Bool
is_entered tally pair = entered_in tally.counts pair

-- 1 where it holds, else 0
abbrev pub once : Bool → ℕ
once b = cond b 1 0

-- whether a live rope has the block of a count
abbrev pub is_live : Count → Bool
is_live count = nat_lt 0 count.live

-- 1 for the count of a block that a live rope has, else 0
abbrev pub live_once : Count → ℕ
live_once count = once (is_live count)

-- how many entries are of blocks that live ropes have
abbrev pub live_in : List (BlockName × Count) → ℕ
live_in counts = sum_by (λ e. live_once e.1) counts

-- 1 for a block of a file, else 0
abbrev pub in_file : ℕ → BlockName × Count → ℕ
in_file f e = once (e.0.file == f)

-- 1 for a block of a file that live ropes have, else 0
abbrev pub live_in_file : ℕ → BlockName × Count → ℕ
live_in_file f e = once ((e.0.file == f) && is_live e.1)

-- what the entry of a block weighs, 0 where there is none
abbrev pub weight_found : (BlockName × Count → ℕ) → BlockName → Option Count → ℕ
weight_found weigh name count = unwrap_or (option_map (λ c. weigh (name, c)) count) 0

-- what a pass makes of the count of a block: one more or one less and marked, unless it was marked; or not marked
abbrev pub touched : Bool → Pass → Count → Count
touched live Raise count = record { uses = cond count.marked count.uses (count.uses + 1); live = cond count.marked count.live (count.live + once live); marked = true }
touched live Lower count = record { uses = cond count.marked count.uses (count.uses - 1); live = cond count.marked count.live (count.live - once live); marked = true }
touched live Settle count = record { uses = count.uses; live = count.live; marked = false }
touched live RaiseApart count = record { uses = count.uses + 1; live = count.live + once live; marked = false }
touched live LowerApart count = record { uses = count.uses - 1; live = count.live - once live; marked = false }

-- the count of a block with one more use, not marked
abbrev pub used_again : Bool → Count → Count
used_again live count = record { uses = count.uses + 1; live = count.live + once live; marked = false }

-- the count of a block with one use less, not marked
abbrev pub used_less : Bool → Count → Count
used_less live count = record { uses = count.uses - 1; live = count.live - once live; marked = false }

-- the count of a file of which a block gets a count, which the block had or not, and which a live rope had or has now
abbrev pub count_changed : Bool → Bool → Bool → FileCount → FileCount
count_changed entered was is count = record { counted = count.counted + once entered; live = count.live + once is - once was }

-- how many blocks have no count yet
abbrev pub missing : Tallied → List BlockPair → ℕ
missing tally pairs = length (distinct (filter (λ pair. not (is_entered tally pair)) pairs))

-- how many counts a pass enters
abbrev pub needed : Pass → Tallied → List BlockPair → ℕ
needed Raise tally pairs = missing tally pairs
needed Lower tally pairs = 0
needed Settle tally pairs = 0
needed RaiseApart tally pairs = missing tally pairs
needed LowerApart tally pairs = 0

-- how many entries a pass makes for a block, which is entered or not
abbrev pub entries_made : Pass → Bool → ℕ
entries_made Raise entered = cond entered 0 1
entries_made Lower entered = 0
entries_made Settle entered = 0
entries_made RaiseApart entered = cond entered 0 1
entries_made LowerApart entered = 0

-- whether a pass gives blocks one use more, or one less
abbrev pub raises : Pass → Bool
raises Raise = true
raises Lower = false
raises Settle = false
raises RaiseApart = true
raises LowerApart = false

abbrev pub lowers : Pass → Bool
lowers Raise = false
lowers Lower = true
lowers Settle = false
lowers RaiseApart = false
lowers LowerApart = true

-- whether a pass goes over blocks of which none comes twice, and marks none
abbrev pub goes_apart : Pass → Bool
goes_apart Raise = false
goes_apart Lower = false
goes_apart Settle = false
goes_apart RaiseApart = true
goes_apart LowerApart = true

-- whether a pass has met the block of a count, as far as its mark tells
abbrev pub is_met : Pass → Count → Bool
is_met pass count = cond (goes_apart pass) false count.marked

-- no piece has a block of one in front of it
abbrev pub AreApart : ℕ → List Piece → Type 0
AreApart block ps = (k : ℕ) (piece : Piece) (q : BlockPair) → slice_get ps k ≡ Some piece → has_pair (pairs_at block (spots_in piece)) q ≡ true → has_pair (pairs_at block (spots_of (take k ps))) q ≡ false

-- whether an index of a file stands at or behind another, by files and then by indexes
abbrev pub stands_behind : ℕ → ℕ → ℕ → ℕ → Bool
stands_behind last end file start = nat_lt last file || ((last == file) && nat_le end start)

-- whether a block stands in front of an index of a file
abbrev pub comes_below : ℕ → ℕ → BlockPair → Bool
comes_below file index q = nat_lt q.file file || ((q.file == file) && nat_lt q.index index)

-- the number of entries of blocks that live ropes have is kept, and in each file the number of entries and of those
pub record IsTallied {S : Type 0} (counts : HashMap BlockName Count S) (files : Filed) (live : ℕ) : Type 0 where
  pub total : live ≡ live_in counts.entries
  pub counted : (f : ℕ) → (file_of files.files f).counted ≡ sum_by (in_file f) counts.entries
  pub lives : (f : ℕ) → (file_of files.files f).live ≡ sum_by (live_in_file f) counts.entries

-- the numbers are those before a block of a file got a count, which live ropes have or not: it had this one, or none
pub record IsBehind (counts : List (BlockName × Count)) (files : Filed) (live file : ℕ) (old : Option Count) (is : Bool) : Type 0 where
  pub total : live + once is ≡ live_in counts + once (is_live (unwrap_or old no_count))
  pub counted : (f : ℕ) → (file_of files.files f).counted + cond (file == f) (cond (is_some old) 0 1) 0 ≡ sum_by (in_file f) counts
  pub lives : (f : ℕ) → (file_of files.files f).live + cond (file == f) (once is) 0 ≡ sum_by (live_in_file f) counts + cond (file == f) (once (is_live (unwrap_or old no_count))) 0
  pub there : once (is_live (unwrap_or old no_count)) ≤ (file_of files.files file).live
  pub within : (file_of files.files file).live ≤ (file_of files.files file).counted

-- no block is marked
abbrev pub AreSettled : Tallied → Type 0
AreSettled tally = (pair : BlockPair) → (count_in tally pair).marked ≡ false

-- the counts of blocks of a size that a disk can have
pub record AreCounts (block : ℕ) (tally : Tallied) : Type 0 where
  pub settled : AreSettled tally
  pub some : 0 < block

-- the table of these parts
abbrev pub seen : Ropes → Dues → Uses → Table
seen ropes dues counts = record {
  block = counts.block;
  ropes = ropes.ropes;
  counts = counts.counts;
  spare_ropes = min (ropes.room - length ropes.ropes) (dues.room - length ropes.ropes);
  spare_pairs = counts.spare;
}

-- the parts tell of the same ropes, and each of them has room to be due
pub record IsWhole (ropes : Ropes) (dues : Dues) (counts : Uses) : Type 0 where
  pub table : IsTable (seen ropes dues counts)
  pub live : (pair : BlockPair) → live_counted counts.counts pair ≡ uses_in counts.block (pieces_in ropes.ropes) pair
  pub ordered : dues.dues ≡ index_of ropes.ropes
  pub room : length ropes.ropes ≤ dues.room
