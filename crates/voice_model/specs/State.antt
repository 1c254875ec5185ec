-- The state of the voice manager, as plain lists of samples.
use Rattle.std.specs.Prelude.{ℕ, ◌+◌, ◌-◌, Bool, ◌&&◌, not, cond, ◌==◌, List, [], ◌∷◌, ◌++◌, map, slice_index_or, slice_set, Option, Some, None, is_some, replicate, bytes_eq}
use Rattle.std.specs.List.{list_any}
use Rattle.voice_units.specs.declared.shapes.Shape.{Shape}
use Rattle.voice_model.specs.Samples.{Tagged}
use Rattle.voice_model.specs.declared.calls.Row.{Row}
use Rattle.voice_model.specs.declared.calls.Class.{Class}
use Rattle.voice_model.specs.declared.calls.Class.TheVariants.{Held, Until, Listed}

-- a live rope: its number, its samples, the moment since which it is idle, and the class of the last row that it lost, as a number, or 0;
-- A is Tagged in a running server, and Spot where a journal is read
pub record Live (A : Type 0) : Type 0 where
  pub id : ℕ
  pub samples : List A
  pub idle : ℕ
  pub last : ℕ

-- a job of play: its passage, the samples that were heard, those that are out with its player, and whether it was stopped
pub record Job : Type 0 where
  pub number : ℕ
  pub passage : List Tagged
  pub heard : ℕ
  pub window : ℕ
  pub stopped : Bool

-- a lane: its jobs in order, and the bytes of its open recording
pub record LaneState : Type 0 where
  pub jobs : List Job
  pub taking : Option (List ℕ)

-- what outlives a crash; ropes stand in rising number, rows in order of making
pub record Durable (A : Type 0) : Type 0 where
  pub shape : Shape
  pub ropes : List (Live A)
  pub rows : List Row
  pub moment : ℕ
  pub next : ℕ

-- a change of the durable part, with all that it brings
--     Recorded id samples, Edited id samples      a rope of that number comes: a recording, or an edit
--     Retained row, Forgotten class key      a row comes, or goes
--     Counted keys      the rows of class Listed with these keys go
--     Swept ids      the rows that are expired go, and then these ropes
--     Advanced moment      the moment comes
pub data Effect (A : Type 0) : Type 0 where
  Recorded : ℕ → List A → Effect A
  Edited : ℕ → List A → Effect A
  Retained : Row → Effect A
  Forgotten : Class → List ℕ → Effect A
  Counted : List (List ℕ) → Effect A
  Swept : List ℕ → Effect A
  Advanced : ℕ → Effect A

-- a change in doubt, and the form of the area in which it was asked
pub record Pending : Type 0 where
  pub effect : Effect Tagged
  pub form : ℕ

-- the durable part; the number of jobs made so far; the lanes by their number; the change in doubt; the current area's rest, epoch and form
pub record State : Type 0 where
  pub kept : Durable Tagged
  pub open kept use *
  pub made : ℕ
  pub lanes : List LaneState
  pub doubt : Option Pending
  pub left : ℕ
  pub epoch : ℕ
  pub form : ℕ

abbrev pub quiet_lane : LaneState
quiet_lane = record { jobs = []; taking = None }

-- the state of a disk that was just opened: no job, no recording, no doubt
abbrev pub opened : Durable Tagged → ℕ → ℕ → ℕ → State
opened kept left epoch form = record { kept = kept; made = 0; lanes = replicate kept.shape.lanes quiet_lane; doubt = None; left = left; epoch = epoch; form = form }

-- the form in which a disk of a version is formatted
abbrev pub form_of : ℕ → ℕ
form_of version = cond (version == 2) 2 1

-- the state of a disk that was just formatted
abbrev pub formatted : Shape → State
formatted shape = opened (record { shape = shape; ropes = []; rows = []; moment = 0; next = 1 }) (shape.area - 17) 1 (form_of shape.version)

-- ---- ropes

-- the live rope of a number
abbrev pub rope_at : {A : Type 0} → List (Live A) → ℕ → Option (Live A)
rope_at [] id = None
rope_at (rope ∷ ropes) id = cond (rope.id == id) (Some rope) (rope_at ropes id)

abbrev pub is_live : {A : Type 0} → List (Live A) → ℕ → Bool
is_live ropes id = is_some (rope_at ropes id)

abbrev pub samples_or_none : {A : Type 0} → Option (Live A) → List A
samples_or_none None = []
samples_or_none (Some rope) = rope.samples

-- the samples of a rope, none where it is not live
abbrev pub samples_of : {A : Type 0} → List (Live A) → ℕ → List A
samples_of ropes id = samples_or_none (rope_at ropes id)

-- the samples of ropes, one after another
abbrev pub joined : {A : Type 0} → List (Live A) → List ℕ → List A
joined ropes [] = []
joined ropes (id ∷ ids) = samples_of ropes id ++ joined ropes ids

-- the first number that is not live
abbrev pub first_unknown : {A : Type 0} → List (Live A) → List ℕ → Option ℕ
first_unknown ropes [] = None
first_unknown ropes (id ∷ ids) = cond (is_live ropes id) (first_unknown ropes ids) (Some id)

-- whether a number is in a list
abbrev pub among : List ℕ → ℕ → Bool
among ids id = list_any (λ other. other == id) ids

-- ---- interests

abbrev pub class_number : Class → ℕ
class_number Held = 1
class_number Until = 2
class_number Listed = 3

-- the row of a class and a key
abbrev pub is_row : Class → List ℕ → Row → Bool
is_row class key row = (class_number row.class == class_number class) && bytes_eq row.key key

abbrev pub row_at : List Row → Class → List ℕ → Option Row
row_at [] class key = None
row_at (row ∷ rows) class key = cond (is_row class key row) (Some row) (row_at rows class key)

-- whether a rope has a row
abbrev pub has_row : List Row → ℕ → Bool
has_row rows id = list_any (λ row. row.rope == id) rows

-- a rope that has lost its last row, which was of this class, is idle since now; in form 2 it keeps the class
abbrev pub settled : {A : Type 0} → ℕ → ℕ → ℕ → List Row → List Row → Live A → Live A
settled form now class before after rope =
    cond (has_row before rope.id && not (has_row after rope.id)) (record rope { idle = now; last = cond (form == 2) class rope.last }) rope

-- the durable part with these rows in place of the old ones, where rows of this class went
abbrev pub with_rows : {A : Type 0} → ℕ → ℕ → Durable A → List Row → Durable A
with_rows form class d rows = record d { rows = rows; ropes = map (settled form d.moment class d.rows rows) d.ropes }

-- ---- lanes

abbrev pub lane_at : State → ℕ → LaneState
lane_at s lane = slice_index_or s.lanes lane quiet_lane

abbrev pub with_lane : State → ℕ → LaneState → State
with_lane s lane value = record s { lanes = slice_set s.lanes lane value }
