-- What a list of changes rebuilds.
--     Rebuilt      the durable part, by the places of its samples, the addresses of blocks, and the form of the area
--     brings c      a change as an effect on the durable part
--     is_legal r c      whether the change may follow
--     acted r c      what is rebuilt after it
--     rebuilt r cs      what changes rebuild, none where one is not legal
--     filled image d      the durable part with each sample's byte from an image of the disk
use Rattle.std.specs.Prelude.{ℕ, ◌+◌, ◌*◌, ◌%◌, Bool, true, false, ◌&&◌, not, cond, ◌==◌, nat_lt, nat_le, List, [], ◌∷◌, ◌++◌, map, filter, length, flat_map, slice_index, Option, Some, None, is_some}
use Rattle.std.specs.List.{list_any, list_all}
use Rattle.voice_units.specs.declared.shapes.Shape.{Shape}
use Rattle.voice_units.specs.declared.pieces.Piece.{Piece}
use Rattle.voice_model.specs.declared.lists.Pair.{Pair}
use Rattle.voice_units.specs.Spots.{Spot, spots_from, spots_of}
use Rattle.voice_model.specs.Samples.{Tagged}
use Rattle.voice_model.specs.State.{Durable, Live, Effect, form_of, is_live, row_at, has_row, among}
use Rattle.voice_model.specs.State.Effect.{Recorded, Edited, Retained, Forgotten, Counted, Swept, Advanced}
use Rattle.voice_units.specs.Blocks.{BlockPair, has_pair, same_pair, pair_at, pairs_at, blocks_for}
use Rattle.voice_model.specs.Changes.{changed, without_expired, rows_left}
use Rattle.voice_model.specs.declared.changes.Change.{Change}
use Rattle.voice_model.specs.declared.changes.Change.TheVariants as changes
use Rattle.voice_model.specs.declared.calls.Row.{Row}
use Rattle.voice_model.specs.declared.calls.Class.TheVariants.{Listed}

-- a block of a file and its address
pub record Placed : Type 0 where
  pub pair : BlockPair
  pub address : ℕ

-- what a list of changes may go on with: anything; the files of a base; its ropes; no base any more
pub data Phase : Type 0 where
  Begun : Phase
  Files : Phase
  Ropes : Phase
  Later : Phase

pub record Rebuilt : Type 0 where
  pub kept : Durable Spot
  pub open kept use *
  pub places : List Placed
  pub form : ℕ
  pub phase : Phase

abbrev pub nothing_rebuilt : Shape → Rebuilt
nothing_rebuilt shape = record { kept = record { shape = shape; ropes = []; rows = []; moment = 0; next = 1 }; places = []; form = form_of shape.version; phase = Phase.Begun }

abbrev pub brings : Change → Option (Effect Spot)
brings (changes.Recorded id len addresses) = Some (Recorded id (spots_from id 0 len))
brings (changes.Wide id len addresses) = Some (Recorded id (spots_from id 0 len))
brings (changes.Edited id pieces) = Some (Edited id (spots_of pieces))
brings (changes.Retained class key id note) = Some (Retained (record { class = class; key = key; rope = id; note = note }))
brings (changes.Forgotten class key) = Some (Forgotten class key)
brings (changes.Census keys) = Some (Counted keys)
brings (changes.Swept ids) = Some (Swept ids)
brings (changes.Advanced moment) = Some (Advanced moment)
brings _ = None

abbrev pub used_pairs : Durable Spot → List BlockPair
used_pairs d = pairs_at d.shape.block (flat_map (λ rope. rope.samples) d.ropes)

-- no address stands twice
abbrev pub all_differ : List ℕ → Bool
all_differ [] = true
all_differ (a ∷ rest) = not (among rest a) && all_differ rest

-- the addresses of the blocks that live ropes use
abbrev pub still_used : Durable Spot → List Placed → List Placed
still_used d places = filter (λ place. has_pair (used_pairs d) place.pair) places

abbrev pub has_address : List Placed → ℕ → Bool
has_address places a = list_any (λ place. place.address == a) places

abbrev pub has_place : List Placed → BlockPair → Bool
has_place places pair = list_any (λ place. same_pair place.pair pair) places

abbrev pub is_free_address : Rebuilt → ℕ → Bool
is_free_address r a = nat_lt a r.shape.blocks && not (has_address (still_used r.kept r.places) a)

-- each key, in turn, has a row of class Listed
abbrev pub each_listed : List Row → List (List ℕ) → Bool
each_listed rows [] = true
each_listed rows (key ∷ keys) = is_some (row_at rows Listed key) && each_listed (rows_left rows (key ∷ [])) keys

abbrev pub may_go : Durable Spot → ℕ → Bool
may_go d id = is_live d.ropes id && not (has_row d.rows id)

-- a recording that names its addresses
abbrev pub may_be_recorded : Rebuilt → ℕ → ℕ → List ℕ → Bool
may_be_recorded r id len addresses =
    nat_le r.next id && (length addresses == blocks_for r.shape.block len) && all_differ addresses && list_all (is_free_address r) addresses

abbrev pub is_begun : Phase → Bool
is_begun Phase.Begun = true
is_begun _ = false

-- a base is begun, and all of it so far are files
abbrev pub takes_files : Phase → Bool
takes_files Phase.Files = true
takes_files _ = false

abbrev pub takes_ropes : Phase → Bool
takes_ropes Phase.Files = true
takes_ropes Phase.Ropes = true
takes_ropes _ = false

-- the blocks of a file in a base: files come in rising number, and no address stands twice
abbrev pub may_be_file : Rebuilt → ℕ → List Pair → Bool
may_be_file r file pairs =
    takes_files r.phase && list_all (λ place. nat_lt place.pair.file file) r.places && nat_lt file r.next
    && all_differ (map (λ pair. pair.address) pairs)
    && list_all (λ pair. nat_lt pair.address r.shape.blocks && not (has_address r.places pair.address)) pairs

-- a rope in a base: ropes come in rising number
abbrev pub may_be_rope : Rebuilt → ℕ → ℕ → List Piece → Bool
may_be_rope r id idle pieces =
    takes_ropes r.phase && list_all (λ rope. nat_lt rope.id id) r.ropes && nat_lt id r.next && nat_le idle r.moment
    && list_all (has_place r.places) (pairs_at r.shape.block (spots_of pieces))

-- whether a change may follow; the base of either form comes first, and what comes with addresses or with ropes keeps the form
abbrev pub is_legal : Rebuilt → Change → Bool
is_legal r (changes.Recorded id len addresses) = (r.form == 1) && may_be_recorded r id len addresses
is_legal r (changes.Wide id len addresses) = (r.form == 2) && may_be_recorded r id len addresses
is_legal r (changes.Edited id pieces) = nat_le r.next id && list_all (has_pair (used_pairs r.kept)) (pairs_at r.shape.block (spots_of pieces))
is_legal r (changes.Retained class key id note) = is_live r.ropes id && not (is_some (row_at r.rows class key))
is_legal r (changes.Forgotten class key) = is_some (row_at r.rows class key)
is_legal r (changes.Census keys) = each_listed r.rows keys
is_legal r (changes.Swept ids) = list_all (may_go (without_expired r.form r.kept)) ids
is_legal r (changes.Advanced moment) = nat_lt r.moment moment
is_legal r (changes.Base now next) = (r.form == 1) && is_begun r.phase
is_legal r (changes.Base2 now next) = is_begun r.phase
is_legal r (changes.File file pairs) = (r.form == 1) && may_be_file r file pairs
is_legal r (changes.File2 file pairs) = (r.form == 2) && may_be_file r file pairs
is_legal r (changes.Rope id idle pieces) = (r.form == 1) && may_be_rope r id idle pieces
is_legal r (changes.Rope2 id idle last pieces) = (r.form == 2) && may_be_rope r id idle pieces

-- the blocks of a file from an index on, at these addresses
abbrev pub placed_from : ℕ → ℕ → List ℕ → List Placed
placed_from file index [] = []
placed_from file index (a ∷ rest) = record { pair = record { file = file; index = index }; address = a } ∷ placed_from file (index + 1) rest

abbrev pub new_places : Change → List Placed
new_places (changes.Recorded id len addresses) = placed_from id 0 addresses
new_places (changes.Wide id len addresses) = placed_from id 0 addresses
new_places _ = []

abbrev pub after_effect : Rebuilt → List Placed → Option (Effect Spot) → Rebuilt
after_effect r places None = r
after_effect r places (Some effect) =
    record r { kept = changed r.form r.kept effect; places = still_used (changed r.form r.kept effect) (r.places ++ places); phase = Phase.Later }

abbrev pub begun : Rebuilt → ℕ → ℕ → ℕ → Rebuilt
begun r form now next = record r { kept = record r.kept { moment = now; next = next }; form = form; phase = Phase.Files }

abbrev pub place_of : ℕ → Pair → Placed
place_of file pair = record { pair = record { file = file; index = pair.index }; address = pair.address }

abbrev pub with_file : Rebuilt → ℕ → List Pair → Rebuilt
with_file r file pairs = record r { places = r.places ++ map (place_of file) pairs }

abbrev pub with_base_rope : Rebuilt → ℕ → ℕ → ℕ → List Piece → Rebuilt
with_base_rope r id idle last pieces =
    record r { kept = record r.kept { ropes = r.ropes ++ record { id = id; samples = spots_of pieces; idle = idle; last = last } ∷ [] }; phase = Phase.Ropes }

abbrev pub acted : Rebuilt → Change → Rebuilt
acted r (changes.Base now next) = begun r 1 now next
acted r (changes.Base2 now next) = begun r 2 now next
acted r (changes.File file pairs) = with_file r file pairs
acted r (changes.File2 file pairs) = with_file r file pairs
acted r (changes.Rope id idle pieces) = with_base_rope r id idle 0 pieces
acted r (changes.Rope2 id idle last pieces) = with_base_rope r id idle last pieces
acted r c = after_effect r (new_places c) (brings c)

-- at the end of the list the blocks that no rope uses are free
abbrev pub finished : Rebuilt → Rebuilt
finished r = record r { places = still_used r.kept r.places }

abbrev pub if_legal : Bool → Option Rebuilt → Option Rebuilt
if_legal true later = later
if_legal false later = None

abbrev pub rebuilt : Rebuilt → List Change → Option Rebuilt
rebuilt r [] = Some (finished r)
rebuilt r (c ∷ cs) = if_legal (is_legal r c) (rebuilt (acted r c) cs)

-- ---- an image gives the bytes

abbrev pub address_of : List Placed → BlockPair → ℕ
address_of [] pair = 0
address_of (place ∷ places) pair = cond (same_pair place.pair pair) place.address (address_of places pair)

abbrev pub filled : List ℕ → Rebuilt → Spot → Tagged
filled image r s = record {
  byte = slice_index image (64 + 2 * r.shape.area + address_of r.places (pair_at r.shape.block s) * r.shape.block + s.place % r.shape.block);
  file = s.file;
  place = s.place;
}

-- ---- one kind of samples in place of another

abbrev pub live_by : {A B : Type 0} → (A → B) → Live A → Live B
live_by f rope = record { id = rope.id; samples = map f rope.samples; idle = rope.idle; last = rope.last }

abbrev pub durable_by : {A B : Type 0} → (A → B) → Durable A → Durable B
durable_by f d = record { shape = d.shape; ropes = map (live_by f) d.ropes; rows = d.rows; moment = d.moment; next = d.next }

abbrev pub effect_by : {A B : Type 0} → (A → B) → Effect A → Effect B
effect_by f (Recorded id samples) = Recorded id (map f samples)
effect_by f (Edited id samples) = Edited id (map f samples)
effect_by f (Retained row) = Retained row
effect_by f (Forgotten class key) = Forgotten class key
effect_by f (Counted keys) = Counted keys
effect_by f (Swept ids) = Swept ids
effect_by f (Advanced moment) = Advanced moment

-- the durable part that an image gives, read as these changes
abbrev pub recovered : List ℕ → Rebuilt → Durable Tagged
recovered image r = durable_by (filled image r) r.kept
