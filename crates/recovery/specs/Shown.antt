-- What the tables of a manager show of the durable part that a journal rebuilds.
--     shown_rope graces rows rope      a live rope as the table of ropes keeps it
--     ShowsKept held table interests now number d      the tables of ropes and of interests, the moment and the next number show a durable part, while these passages are held
--     Shows held parts d      the same of parts
--     RowsGone ids before after      rows of the ropes of these numbers went, and no others
--     left_idle form graces now class rows ids rope      a rope of these numbers that has no row is idle since now
--     rows_without class keys rows      the rows without those of a class with these keys
--     IsOrderly form d      live numbers rise and lie below the next one, rows name live ropes, no class and key stands twice, and in form 1 no class of a lost row is kept
--     placed_at places a      who holds an address, by the places of blocks
--     ShowsPlaces holders places      the map of blocks holds just these places
--     plain_sample      a sample at a place, whose byte is not looked at
--     Rebuilds parts r      the parts show what was rebuilt
--     IsParts shape parts      the parts are as replay by this shape leaves them
--     IsApplied shape old new change result      a change was tried on parts, and done where it is legal
--     numbered k payloads      payloads as records that stand at their own numbers, from k on
use Rattle.std.specs.Prelude.{◌≡◌, ℕ, ◌+◌, true, false, not, ◌&&◌, ◌||◌, filter, bytes_eq, cond, ◌==◌, List, [], ◌∷◌, map, length, Bool, Option, Some, None, Result, Ok, IfOk}
use Rattle.voice_units.specs.declared.shapes.Shape.{Shape}
use Rattle.voice_units.specs.declared.shapes.Graces.{Graces}
use Rattle.voice_units.specs.Spots.{Spot, pieces_of}
use Rattle.voice_units.specs.declared.pieces.Piece.{Piece}
use Rattle.voice_model.specs.Samples.{Tagged}
use Rattle.voice_model.specs.State.{Durable, Live, has_row, is_live, class_number, among}
use Rattle.voice_model.specs.Changes.{wait_of}
use Rattle.disk_areas.specs.Areas.{Record}
use Rattle.voice_model.specs.Replay.{Placed, Rebuilt, is_legal, acted}
use Rattle.voice_model.specs.declared.changes.Change.{Change}
use Rattle.voice_units.specs.declared.errors.NoMemory.{NoMemory}
use Rattle.voice_model.specs.Places.{IsPlaced, AllUsed}
use Rattle.voice_model.specs.Valid.{Every, Rising, Once, IsRebuilt}
use Rattle.voice_model.specs.declared.calls.Row.{Row}
use Rattle.voice_model.specs.declared.calls.Class.{Class}
use Rattle.std.specs.List.{list_any}
use Rattle.rope_table.specs.declared.ropes.Rope.{Rope}
use Rattle.rope_table.specs.Table.{Table, Counts}
use Rattle.voice_blocks.specs.Holders.{Holders, holder_at, block_of}
use Rattle.voice_blocks.specs.declared.owner.Owner.TheVariants.{File}
use Rattle.voice_blocks.specs.declared.owner.Holder.{Holder}
use Rattle.recovery.specs.declared.parts.Parts.{Parts}

-- a live rope as the table of ropes keeps it
abbrev pub shown_rope : Graces → List Row → Live Spot → Rope
shown_rope graces rows rope = record {
  id = rope.id;
  pieces = pieces_of rope.samples;
  idle = rope.idle;
  last = rope.last;
  wait = wait_of graces rope.last;
  kept = has_row rows rope.id;
}

-- the tables of ropes and of interests, the moment and the next number show the durable part, while these passages are held
pub record ShowsKept (held : List (List Piece)) (table : Table) (interests : List Row) (now number : ℕ) (d : Durable Spot) : Type 0 where
  pub block : table.block ≡ d.shape.block
  pub ropes : table.ropes ≡ map (shown_rope d.shape.graces d.rows) d.ropes
  pub uses : Counts table held
  pub rows : interests ≡ d.rows
  pub moment : now ≡ d.moment
  pub next : number ≡ d.next

-- parts show the durable part, while these passages are held
abbrev pub Shows : List (List Piece) → Parts → Durable Spot → Type 0
Shows held parts d = ShowsKept held parts.ropes parts.interests.rows parts.moment parts.next d

-- rows of the ropes of these numbers went, at least one of each, and no others
abbrev pub RowsGone : List ℕ → List Row → List Row → Type 0
RowsGone ids before after = (id : ℕ) → has_row before id ≡ (among ids id || has_row after id)

-- a rope of these numbers that has no row is idle since now, is not kept, and waits by this class in form 2, by none in form 1
abbrev pub left_idle : ℕ → Graces → ℕ → ℕ → List Row → List ℕ → Rope → Rope
left_idle form graces now class rows ids rope =
    let last = cond (form == 2) class 0 in
    cond (among ids rope.id && not (has_row rows rope.id)) (record rope { idle = now; last = last; wait = wait_of graces last; kept = false }) rope

-- the rows without those of a class with these keys
abbrev pub rows_without : Class → List (List ℕ) → List Row → List Row
rows_without class keys rows = filter (λ row. not ((class_number row.class == class_number class) && list_any (bytes_eq row.key) keys)) rows

-- live numbers rise and lie below the next one, rows name live ropes, no class and key stands twice, and in form 1 no class of a lost row is kept
pub record IsOrderly (form : ℕ) (d : Durable Spot) : Type 0 where
  pub rising : Rising 1 d.ropes d.next
  pub rows_live : Every (λ row. is_live d.ropes row.rope ≡ true) d.rows
  pub once : Once d.rows
  pub lasts : (form == 2) ≡ false → Every (λ rope. rope.last ≡ 0) d.ropes

-- who holds an address, by the places of blocks
abbrev pub placed_at : List Placed → ℕ → Option Holder
placed_at [] a = None
placed_at (place ∷ places) a = cond (place.address == a) (Some (block_of (File place.pair.file) place.pair.index)) (placed_at places a)

-- the map of blocks has so many addresses and holds just these places
pub record ShowsPlaces (holders : Holders) (blocks : ℕ) (places : List Placed) : Type 0 where
  pub size : length holders ≡ blocks
  pub each : (a : ℕ) → holder_at holders a ≡ placed_at places a

-- a sample at a place, whose byte is not looked at
abbrev pub plain_sample : Spot → Tagged
plain_sample s = record { byte = 0; file = s.file; place = s.place }

-- the parts show what was rebuilt, with a place for just the blocks that live ropes use
pub record Rebuilds (parts : Parts) (r : Rebuilt) : Type 0 where
  pub kept : Shows [] parts r.kept
  pub places : ShowsPlaces parts.blocks.holders r.shape.blocks r.places
  pub in_form : parts.form ≡ r.form
  pub valid : IsRebuilt plain_sample r
  pub placed : IsPlaced r
  pub used : AllUsed r

-- the parts are as replay by this shape leaves them
pub record IsParts (shape : Shape) (parts : Parts) : Type 0 where
  pub what : Rebuilt
  pub shows : Rebuilds parts what
  pub in_shape : what.shape ≡ shape

-- a change was tried: the answer says whether it is legal; then it has acted, else the parts show what they did
pub record IsApplied (shape : Shape) (old new : Parts) (change : Change) (result : Result Bool NoMemory) : Type 0 where
  pub legal : (r : Rebuilt) → Rebuilds old r → r.shape ≡ shape → IfOk result (λ done. done ≡ is_legal r change)
  pub done : (r : Rebuilt) → Rebuilds old r → r.shape ≡ shape → result ≡ Ok true → Rebuilds new (acted r change)
  pub same : (r : Rebuilt) → Rebuilds old r → r.shape ≡ shape → ¬ (result ≡ Ok true) → Rebuilds new r

-- payloads as records that stand at their own numbers, from k on
abbrev pub numbered : ℕ → List (List ℕ) → List Record
numbered k [] = []
numbered k (payload ∷ payloads) = record { at = k; payload = payload } ∷ numbered (k + 1) payloads
