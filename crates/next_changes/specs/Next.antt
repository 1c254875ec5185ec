-- A change of any kind that is ready.
--     IsOther held takings parts b ready c      a change that brings no rope is ready, and may follow what was rebuilt
--     IsNext held takings parts b next c      the same of a change of any kind; the tables may hold the blocks of a rope besides
--     IsNextIn shape parts next      a change is ready on tables of a disk of this shape
--     IsNextAtRest shape parts next      the same while no passage is held and no recording is open
--     payload_of next      the bytes that spell it
--     pledges next      the pieces of the rope that it brings
use Rattle.std.specs.Prelude.{◌≡◌, ℕ, true, List, [], ◌∷◌, is_some}
use Rattle.voice_units.specs.declared.shapes.Shape.{Shape}
use Rattle.voice_units.specs.declared.pieces.Piece.{Piece}
use Rattle.voice_model.specs.Replay.{Rebuilt, is_legal, brings}
use Rattle.voice_model.specs.declared.changes.Change.{Change}
use Rattle.recovery.specs.declared.parts.Parts.{Parts}
use Rattle.running_tables.specs.Running.{Runs}
use Rattle.next_ropes.specs.Ready as ropes
use Rattle.ready_changes.specs.Ready.{IsReady}
use Rattle.ready_changes.specs.declared.ReadyChange.{ReadyChange}
use Rattle.next_changes.specs.declared.NextChange.{NextChange}
use Rattle.next_changes.specs.declared.NextChange.TheVariants.{Rope, Other}

-- a change that brings no rope is ready, and may follow what was rebuilt, which the tables show while passages are held and recordings are open
pub record IsOther (held : List (List Piece)) (takings : List ℕ) (parts : Parts) (b : Rebuilt) (other : ReadyChange) (c : Change) : Type 0 where
  pub runs : Runs held [] takings parts b
  pub legal : is_legal b c ≡ true
  pub kind : is_some (brings c) ≡ true
  pub ready : IsReady parts.interests.spare b.kept other c

-- a change of any kind is ready, and may follow what was rebuilt
abbrev pub IsNext : List (List Piece) → List ℕ → Parts → Rebuilt → NextChange → Change → Type 0
IsNext held takings parts b (Rope rope) c = ropes.IsReady held takings parts b rope c
IsNext held takings parts b (Other other) c = IsOther held takings parts b other c

-- a change is ready on tables of a disk of this shape
pub record IsNextIn (shape : Shape) (parts : Parts) (change : NextChange) : Type 0 where
  pub held : List (List Piece)
  pub takings : List ℕ
  pub b : Rebuilt
  pub c : Change
  pub next : IsNext held takings parts b change c
  pub in_shape : b.shape ≡ shape

-- the same while no passage is held and no recording is open
pub record IsNextAtRest (shape : Shape) (parts : Parts) (change : NextChange) : Type 0 where
  pub b : Rebuilt
  pub c : Change
  pub next : IsNext [] [] parts b change c
  pub in_shape : b.shape ≡ shape

-- the bytes that spell the change
abbrev pub payload_of : NextChange → List ℕ
payload_of (Rope rope) = rope.payload.items
payload_of (Other other) = other.payload.items

-- the pieces of the rope that it brings
abbrev pub pledges : NextChange → List (List Piece)
pledges (Rope rope) = rope.pieces ∷ []
pledges (Other other) = []
