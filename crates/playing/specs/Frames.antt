-- Frames that hold blocks, and the lanes that read them.
--     FramesState      the pool's keeper, and which block each frame holds
--     resident_at resident f      the block that a frame holds
--     has_frame parts f, is_read readers f      whether a frame is in parts;  whether a lane reads it
--     is_in block b s, is_wanted block window resident      whether a stretch lies in a block;  whether a stretch of a window lies in the block that a frame holds
--     is_resident resident file index      whether a frame holds a block
--     IsFrames      what frames keep
use Rattle.std.specs.Prelude.{◌≡◌, ℕ, ◌+◌, ◌*◌, ◌/◌, ◌≤◌, ◌<◌, Bool, true, false, ◌&&◌, ◌||◌, ◌==◌, List, [], ◌∷◌, length, slice_index, slice_index_or, slice_set, Option, Some, None, ◌≢◌, ◌⊎◌, cond, slice_get, IsTrue, map, nat_lt}
use Rattle.std.specs.List.{list_any}
use Rattle.voice_units.specs.declared.pieces.Piece.{Piece}
use Rattle.frame_pool.specs.declared.views.Part.{Part}
use Rattle.frame_pool.specs.declared.views.Stage.TheVariants.{Free, Reserved}
use Rattle.frame_pool.specs.Steps.{parts_of, lane_at}
use Rattle.frame_pool.specs.Pool.{KeeperState, IsSized, ChangesLane, lanes_of, block_of, stage_of, frame_of}
use Rattle.voice_units.specs.declared.shapes.Shape.{Shape}
use Rattle.voice_outside.specs.Disk.{Told, Elapses, segment}
use Rattle.rope_table.specs.Table.{Table, uses_at, pair_of}
use Rattle.voice_blocks.specs.Holders.{Holders, holder_at}
use Rattle.voice_blocks.specs.Holders as holders
use Rattle.voice_blocks.specs.declared.owner.Owner.TheVariants.{File}
use Rattle.voice_blocks.specs.Place.{block_place}
use Rattle.playing.specs.declared.blocks.Block.{Block}

-- the pool's keeper, and which block each frame holds
pub record FramesState : Type 0 where
  pub keeper : KeeperState
  pub resident : List (Option Block)

-- the block that a frame holds
abbrev pub resident_at : List (Option Block) → ℕ → Option Block
resident_at resident f = slice_index_or resident f None

-- whether a frame is in parts
abbrev pub has_frame : List Part → ℕ → Bool
has_frame parts f = list_any (λ (p : Part). p.frame == f) parts

-- whether a lane reads a frame
abbrev pub is_read : List (List Part) → ℕ → Bool
is_read readers f = list_any (λ (parts : List Part). has_frame parts f) readers

-- whether a stretch lies in a block
abbrev pub is_in : ℕ → Block → Piece → Bool
is_in block b s = (s.file == b.file) && (s.from / block == b.index)

-- whether a stretch of a window lies in the block that a frame holds
abbrev pub is_wanted : ℕ → List Piece → Option Block → Bool
is_wanted block window None = false
is_wanted block window (Some b) = list_any (is_in block b) window

-- whether this is the block
abbrev pub holds : ℕ → ℕ → Option Block → Bool
holds file index None = false
holds file index (Some b) = (b.file == file) && (b.index == index)

-- whether one of the frames holds a block
abbrev pub is_resident : List (Option Block) → ℕ → ℕ → Bool
is_resident resident file index = list_any (holds file index) resident

-- the parts that a lane's lease reads
abbrev pub read_by : List (List Part) → ℕ → List Part
read_by readers l = slice_index_or readers l []

-- the frames of a pool, with the block that each holds, and what each lane reads
pub record IsFrames (k : KeeperState) (resident : List (Option Block)) (readers : List (List Part)) (room : ℕ) : Type 0 where
  pub sized : IsSized k.pool.sizes
  pub frames : length resident ≡ 4 * lanes_of k
  pub lanes : length readers ≡ lanes_of k
  pub known : (l : ℕ) → l < lanes_of k → parts_of (stage_of k l) ≡ read_by readers l
  pub few : (l : ℕ) → length (read_by readers l) ≤ 4
  pub low : (l : ℕ) → lanes_of k ≤ l → stage_of k l ≡ Free
  pub unreserved : (l : ℕ) (ps : List Part) → stage_of k l ≢ Reserved ps
  pub once : (f g : ℕ) (b : Block) → resident_at resident f ≡ Some b → resident_at resident g ≡ Some b → f ≡ g
  pub room_is : room ≡ block_of k
  pub whole : (f : ℕ) → f < length resident → length (frame_of k f) ≡ block_of k

-- the frames hold the bytes of their blocks
abbrev pub HoldsBytes : (ℕ → ℕ → List ℕ) → FramesState → Type 0
HoldsBytes bytes s = (f : ℕ) (b : Block) → resident_at s.resident f ≡ Some b → frame_of s.keeper f ≡ bytes b.file b.index

-- the addresses of blocks of voice files hold these bytes
abbrev pub AreOnDisk : (ℕ → ℕ → List ℕ) → Shape → List ℕ → Holders → Type 0
AreOnDisk bytes shape image held = (a file index : ℕ) → holder_at held a ≡ Some (holders.block_of (File file) index) → segment image (block_place shape a) shape.block ≡ bytes file index

-- the address of a block of a voice file
abbrev pub IsAddress : Holders → Block → ℕ → Type 0
IsAddress held b a = holder_at held a ≡ Some (holders.block_of (File b.file) b.index)

-- a block of a voice file has an address
abbrev pub HasAddress : Holders → Block → Type 0
HasAddress held b = (a : ℕ) × IsAddress held b a

-- reads alone were made
pub record OnlyReads (old new : Told) : Type 0 where
  pub bytes : new.bytes ≡ old.bytes
  pub now : (image : List ℕ) → new.may_leave new.calls image → old.may_leave old.calls image
  pub time : Elapses old new (λ image. old.may_leave old.calls image)

-- the block in which a stretch lies
abbrev pub block_at : ℕ → Piece → Block
block_at block s = record { file = s.file; index = s.from / block }

-- a block got into a frame that no lane reads and that holds no block of a window
pub record IsLoaded (block : ℕ) (window : List Piece) (b : Block) (frame : ℕ) (old new : FramesState) : Type 0 where
  pub pool : new.keeper.pool ≡ old.keeper.pool
  pub lanes : (l : ℕ) → lane_at new.keeper.view l ≡ lane_at old.keeper.view l
  pub low : frame < length old.resident
  pub resident : new.resident ≡ slice_set old.resident frame (Some b)
  pub absent : (f : ℕ) → resident_at old.resident f ≢ Some b
  pub unwanted : is_wanted block window (resident_at old.resident frame) ≡ false
  pub others : (f : ℕ) → f ≢ frame → frame_of new.keeper f ≡ frame_of old.keeper f

-- a block of a window is in a frame: it was, and nothing changed, or it got there
abbrev pub IsReadied : ℕ → List Piece → Block → FramesState → FramesState → Type 0
IsReadied block window b old new = (new ≡ old) ⊎ ((frame : ℕ) × IsLoaded block window b frame old new)

-- how many blocks of a window no frame holds
abbrev pub missing : ℕ → List (Option Block) → List Piece → ℕ
missing block resident [] = 0
missing block resident (s ∷ ss) = cond (is_resident resident s.file (s.from / block) || list_any (is_in block (block_at block s)) ss) 0 1 + missing block resident ss

-- a frame holds the block of a stretch
abbrev pub IsReady : ℕ → List (Option Block) → Piece → Type 0
IsReady block resident s = (f : ℕ) × (resident_at resident f ≡ Some (block_at block s))

-- each of the first n stretches of a window has its number
abbrev pub EachHas : (Piece → ℕ → Type 0) → List Piece → List ℕ → ℕ → Type 0
EachHas P window numbers n = (j : ℕ) (s : Piece) → j < n → slice_get window j ≡ Some s → P s (slice_index numbers j)

-- these frames hold the blocks of the first n stretches of a window
abbrev pub AreFound : ℕ → List (Option Block) → List Piece → List ℕ → ℕ → Type 0
AreFound block resident = EachHas (λ s f. resident_at resident f ≡ Some (block_at block s))

-- frames hold the blocks of the first n stretches of a window
abbrev pub AreReady : ℕ → List (Option Block) → List Piece → ℕ → Type 0
AreReady block resident window n = (j : ℕ) (s : Piece) → j < n → slice_get window j ≡ Some s → IsReady block resident s

-- the blocks of a window have addresses
abbrev pub HaveAddresses : ℕ → Holders → List Piece → Type 0
HaveAddresses block held window = (j : ℕ) (s : Piece) → slice_get window j ≡ Some s → HasAddress held (block_at block s)

-- these are the addresses of the blocks of the first n stretches of a window
abbrev pub AreAddresses : ℕ → Holders → List Piece → List ℕ → ℕ → Type 0
AreAddresses block held = EachHas (λ s a. IsAddress held (block_at block s) a)

-- blocks of a window got into frames that no lane reads
pub record IsBroughtIn (block : ℕ) (window : List Piece) (old new : FramesState) : Type 0 where
  pub pool : new.keeper.pool ≡ old.keeper.pool
  pub lanes : (l : ℕ) → lane_at new.keeper.view l ≡ lane_at old.keeper.view l
  pub came : (f : ℕ) (d : Block) → resident_at new.resident f ≡ Some d → (resident_at old.resident f ≡ Some d) ⊎ (list_any (is_in block d) window ≡ true)
  pub left : (f : ℕ) (d : Block) → resident_at old.resident f ≡ Some d → (resident_at new.resident f ≡ Some d) ⊎ ((e : Block) × (resident_at new.resident f ≡ Some e) × ((g : ℕ) → resident_at old.resident g ≢ Some e) × (list_any (is_in block d) window ≡ false))

-- what a disk counts after at most so many reads
pub record HasRead (most : ℕ) (old new : Told) : Type 0 where
  pub size : new.size ≡ old.size
  pub honest : new.honest ≡ old.honest
  pub later : old.calls ≤ new.calls
  pub calls : new.calls ≤ old.calls + most
  pub faults : old.faults ≤ new.faults
  pub reads : IsTrue old.honest → OnlyReads old new

-- the frames hold what they held, and all is as it was but for what is known of one lane
pub record ChangesLaneAlone (old new : FramesState) (l : ℕ) : Type 0 where
  pub keeper : ChangesLane old.keeper new.keeper l
  pub resident : new.resident ≡ old.resident
  pub bytes : (bytes : ℕ → ℕ → List ℕ) → HoldsBytes bytes old → HoldsBytes bytes new

-- a block that something uses
abbrev pub if_used : (ℕ → ℕ → ℕ) → Option Block → Option Block
if_used uses None = None
if_used uses (Some b) = cond (nat_lt 0 (uses b.file b.index)) (Some b) None

-- blocks that nothing uses are not known to be in a frame any longer; all else stays
pub record Forgets (uses : ℕ → ℕ → ℕ) (old new : FramesState) : Type 0 where
  pub keeper : new.keeper ≡ old.keeper
  pub resident : new.resident ≡ map (if_used uses) old.resident

-- how often the blocks are used that frames hold
abbrev pub AreUsed : (ℕ → ℕ → ℕ) → FramesState → Type 0
AreUsed uses s = (f : ℕ) (b : Block) → resident_at s.resident f ≡ Some b → 0 < uses b.file b.index

-- how often a block is used, by the table of ropes
abbrev pub uses_of : Table → ℕ → ℕ → ℕ
uses_of t file index = uses_at t (pair_of file index)
