-- What every state keeps.
--     IsKept form d      the durable part is one that calls can leave in an area of this form
--     IsFit form d effect      a change that may be done there
--     IsLane, IsState      the same of a lane, and of a whole state
use Rattle.std.specs.Prelude.{◌≡◌, ℕ, ◌+◌, ◌-◌, ◌^◌, ◌≤◌, ◌<◌, ◌⊎◌, true, false, List, [], ◌∷◌, length, flat_map, is_some, Option, Some, None}
use Rattle.std.specs.List.{list_all}
use Rattle.voice_units.specs.Blocks.{BlockPair, has_pair, blocks_for}
use Rattle.voice_units.specs.Spots.{Spot}
use Rattle.voice_model.specs.Room.{pairs_of}
use Rattle.voice_model.specs.Replay.{Rebuilt, Phase, durable_by, each_listed, all_differ, is_free_address}
use Rattle.voice_model.specs.Samples.{Tagged, pieces_in}
use Rattle.voice_model.specs.State.{State, Durable, Live, Job, LaneState, Effect, Pending, is_live, row_at, has_row}
use Rattle.voice_model.specs.State.Effect.{Recorded, Edited, Retained, Forgotten, Counted, Swept, Advanced}
use Rattle.voice_model.specs.Changes.{without_expired}
use Rattle.voice_model.specs.Spelling.{is_key, is_note}
use Rattle.voice_model.specs.declared.calls.Row.{Row}
use Rattle.voice_model.specs.declared.calls.Call.{Call}
use Rattle.voice_model.specs.declared.calls.Call.TheVariants as calls

-- the blocks that live ropes use
abbrev pub live_pairs_of : Durable Tagged → List BlockPair
live_pairs_of d = pairs_of d.shape.block (flat_map (λ rope. rope.samples) d.ropes)

-- each element has it
abbrev pub Every : {A : Type 0} → (A → Type 0) → List A → Type 0
Every P [] = Unit {0}
Every P (x ∷ xs) = P x × Every P xs

-- numbers rise from `low` on, and are below `next`
abbrev pub Rising : {A : Type 0} → ℕ → List (Live A) → ℕ → Type 0
Rising low [] next = low ≤ next
Rising low (rope ∷ ropes) next = (low ≤ rope.id) × Rising (rope.id + 1) ropes next

pub record IsRope (form now : ℕ) (rope : Live Tagged) : Type 0 where
  pub long : length rope.samples ≤ 2 ^ 30
  pub many : length (pieces_in rope.samples) ≤ 4096
  pub idle : rope.idle ≤ now
  pub last : rope.last ≤ 3
  pub plain : form ≡ 1 → rope.last ≡ 0

-- a row of a live rope, with a key and a note in their ranges
pub record IsRow (ropes : List (Live Tagged)) (row : Row) : Type 0 where
  pub key : is_key row.key ≡ true
  pub note : is_note row.class row.note ≡ true
  pub live : is_live ropes row.rope ≡ true

-- no class and key twice
abbrev pub Once : List Row → Type 0
Once [] = Unit {0}
Once (row ∷ rows) = (row_at rows row.class row.key ≡ None) × Once rows

pub record IsKept (form : ℕ) (d : Durable Tagged) : Type 0 where
  pub rising : Rising 1 d.ropes d.next
  pub next_limit : d.next ≤ 2 ^ 48 + 1
  pub moment_limit : d.moment ≤ 2 ^ 40
  pub each_rope : Every (IsRope form d.moment) d.ropes
  pub each_row : Every (IsRow d.ropes) d.rows
  pub once : Once d.rows

-- a rope that may come next; a server gives it the number `next`
pub record IsNextRope (d : Durable Tagged) (id : ℕ) (samples : List Tagged) : Type 0 where
  pub next : d.next ≤ id
  pub number : id ≤ 2 ^ 48
  pub long : length samples ≤ 2 ^ 30
  pub many : length (pieces_in samples) ≤ 4096

abbrev pub IsFit : ℕ → Durable Tagged → Effect Tagged → Type 0
IsFit form d (Recorded id samples) = IsNextRope d id samples
IsFit form d (Edited id samples) = IsNextRope d id samples
IsFit form d (Retained row) = IsRow d.ropes row × (row_at d.rows row.class row.key ≡ None)
IsFit form d (Forgotten class key) = Unit {0}
IsFit form d (Counted keys) = Unit {0}
IsFit form d (Swept ids) = Every (λ id. has_row (without_expired form d).rows id ≡ false) ids
IsFit form d (Advanced moment) = (d.moment ≤ moment) × (moment ≤ 2 ^ 40)

-- a window that is out lies in the passage, and no job behind the first one has begun
abbrev pub HasBegun : List Job → Type 0
HasBegun [] = Unit {0}
HasBegun (job ∷ jobs) = (job.heard + job.window ≤ length job.passage) × Every (λ later. (later.heard ≡ 0) × (later.window ≡ 0)) jobs

abbrev pub IsTaking : Option (List ℕ) → List Job → Type 0
IsTaking None jobs = Unit {0}
IsTaking (Some bytes) jobs = (length bytes ≤ 2 ^ 30) × (jobs ≡ [])

pub record IsLane (lane : LaneState) : Type 0 where
  pub few : length lane.jobs ≤ 8
  pub begun : HasBegun lane.jobs
  pub taking : IsTaking lane.taking lane.jobs

-- a change in doubt was asked in the form of the area, and may be done
abbrev pub IsPending : State → Option Pending → Type 0
IsPending s None = Unit {0}
IsPending s (Some pending) = (pending.form ≡ s.form) × IsFit pending.form s.kept pending.effect

pub record IsState (s : State) : Type 0 where
  pub kept : IsKept s.form s.kept
  pub forms : (s.form ≡ 1) ⊎ (s.form ≡ 2)
  pub doubt : IsPending s s.doubt
  pub lanes : Every IsLane s.lanes
  pub lane_count : length s.lanes ≡ s.shape.lanes
  pub rest : s.left ≤ s.shape.area - 17
  pub newest : s.shape.version ≡ 2 → s.form ≡ 2

-- what the numbers and texts of a call keep
abbrev pub InRange : Call → Type 0
InRange (calls.Retain class key id note) = (is_key key ≡ true) × (length note ≤ 128)
InRange (calls.Advance moment) = moment ≤ 2 ^ 40
InRange _ = Unit {0}

-- a change, if there is one, may be done
abbrev pub MayFit : ℕ → Durable Tagged → Option (Effect Tagged) → Type 0
MayFit form d None = Unit {0}
MayFit form d (Some effect) = IsFit form d effect

-- a change that alters something, and that names only what is there
abbrev pub IsTimely : ℕ → Durable Tagged → Effect Tagged → Type 0
IsTimely form d (Recorded id samples) = Unit {0}
IsTimely form d (Edited id samples) = list_all (has_pair (live_pairs_of d)) (pairs_of d.shape.block samples) ≡ true
IsTimely form d (Retained row) = Unit {0}
IsTimely form d (Forgotten class key) = is_some (row_at d.rows class key) ≡ true
IsTimely form d (Counted keys) = each_listed d.rows keys ≡ true
IsTimely form d (Swept ids) = Every (λ id. is_live (without_expired form d).ropes id ≡ true) ids
IsTimely form d (Advanced moment) = d.moment < moment

abbrev pub MayBeTimely : ℕ → Durable Tagged → Option (Effect Tagged) → Type 0
MayBeTimely form d None = Unit {0}
MayBeTimely form d (Some effect) = IsTimely form d effect

-- a recording takes free addresses, one for each block
abbrev pub TakesFree : Rebuilt → List ℕ → Effect Tagged → Type 0
TakesFree r addresses (Recorded id samples) = (length addresses ≡ blocks_for r.shape.block (length samples)) × (all_differ addresses ≡ true) × (list_all (is_free_address r) addresses ≡ true)
TakesFree r addresses _ = Unit {0}

-- before the first change there is nothing
abbrev pub IsFresh : Phase → Durable Spot → Type 0
IsFresh Phase.Begun d = (d.ropes ≡ []) × (d.rows ≡ [])
IsFresh _ d = Unit {0}

-- what is rebuilt keeps what states keep, where its samples are filled in by f
pub record IsRebuilt (f : Spot → Tagged) (r : Rebuilt) : Type 0 where
  pub kept : IsKept r.form (durable_by f r.kept)
  pub forms : (r.form ≡ 1) ⊎ (r.form ≡ 2)
  pub newest : r.shape.version ≡ 2 → r.form ≡ 2
  pub fresh : IsFresh r.phase r.kept
