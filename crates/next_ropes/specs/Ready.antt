-- A rope that is ready to come.
--     recorded_change form id len addresses      the change of a recording, as the journal keeps it in an area of that form
--     next_change form next      its change, as the journal keeps it in an area of that form
--     new_samples c      the samples of the rope that a change brings
--     most_held      the most passages that may be held while a rope is made ready
--     AreLive parts pieces      the blocks of pieces are those of live ropes
--     IsReady held takings parts b next c      the tables show what was rebuilt while passages are held and recordings are open, and hold the blocks of the rope, whose change is legal
use Rattle.std.specs.Prelude.{◌≡◌, ℕ, ◌+◌, ◌≤◌, ◌<◌, ◌^◌, ◌==◌, true, cond, List, [], ◌∷◌, is_some}
use Rattle.voice_units.specs.declared.pieces.Piece.{Piece}
use Rattle.voice_units.specs.Spots.{Spot, spots_of, spots_from, samples_in, pieces_of}
use Rattle.voice_units.specs.Blocks.{BlockPair, pairs_at, has_pair}
use Rattle.voice_model.specs.Spelling.{spelling, keeps_grammar}
use Rattle.voice_model.specs.Replay.{Rebuilt, is_legal, brings, new_places}
use Rattle.voice_model.specs.Valid.{Every}
use Rattle.voice_model.specs.declared.changes.Change.{Change}
use Rattle.voice_model.specs.declared.changes.Change.TheVariants as changes
use Rattle.rope_table.specs.Table.{new_pairs, uses_at, uses_in, pieces_in}
use Rattle.checkpoint.specs.Blocks.{IsHeld}
use Rattle.recovery.specs.declared.parts.Parts.{Parts}
use Rattle.running_tables.specs.Running.{Runs}
use Rattle.next_ropes.specs.declared.NextRope.{NextRope}

-- the change of a recording, as the journal keeps it in an area of that form
abbrev pub recorded_change : ℕ → ℕ → ℕ → List ℕ → Change
recorded_change form id len addresses = cond (form == 2) (changes.Wide id len addresses) (changes.Recorded id len addresses)

-- its change, as the journal keeps it in an area of that form
abbrev pub next_change : ℕ → NextRope → Change
next_change form next = cond next.recorded (recorded_change form next.id (samples_in next.pieces) next.addresses.items) (changes.Edited next.id next.pieces)

-- the samples of the rope that a change brings
abbrev pub new_samples : Change → List Spot
new_samples (changes.Recorded id len addresses) = spots_from id 0 len
new_samples (changes.Wide id len addresses) = spots_from id 0 len
new_samples (changes.Edited id pieces) = spots_of pieces
new_samples _ = []

-- the most passages that may be held while a rope is made ready
abbrev pub most_held : ℕ
most_held = 2 ^ 16

-- the blocks of pieces are those of live ropes
abbrev pub AreLive : Parts → List Piece → Type 0
AreLive parts pieces = (pair : BlockPair) → has_pair (pairs_at parts.ropes.block (spots_of pieces)) pair ≡ true → 1 ≤ uses_in parts.ropes.block (pieces_in parts.ropes.ropes) pair

-- the tables show what was rebuilt while passages are held and recordings are open, and hold the blocks of the rope, whose change is legal; and there is room for it
pub record IsReady (held : List (List Piece)) (takings : List ℕ) (parts : Parts) (b : Rebuilt) (next : NextRope) (c : Change) : Type 0 where
  pub runs : Runs held (next.pieces ∷ []) takings parts b
  pub places : Every (IsHeld parts.blocks.holders) (new_places c)
  pub legal : is_legal b c ≡ true
  pub kind : is_some (brings c) ≡ true
  pub grammar : keeps_grammar c ≡ true
  pub change : c ≡ next_change b.form next
  pub number : next.id ≡ b.next
  pub pieces : next.pieces ≡ pieces_of (new_samples c)
  pub payload : next.payload.items ≡ spelling c
  pub room : 1 ≤ parts.ropes.spare_ropes
  pub pairs : new_pairs parts.ropes next.pieces ≤ parts.ropes.spare_pairs
  pub fits : (pair : BlockPair) → has_pair (pairs_at parts.ropes.block (spots_of next.pieces)) pair ≡ true → uses_at parts.ropes pair + 1 < 2 ^ 32
