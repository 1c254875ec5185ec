-- A pool, its keeper and its leases, as contracts see them.
use Rattle.std.specs.Prelude.{◌≡◌, ◌≢◌, ℕ, ◌+◌, ◌*◌, ◌%◌, ◌≤◌, ◌<◌, List, [], ◌∷◌, ◌++◌, length, slice_index_or, Bool, true, false, if◌then◌else◌, Option, Some, None, All, slice_range}
use Rattle.std.specs.List.{flat_map}
use mathlib.Core.Option.{some}
use lib.ListN.{get_elem?}
use Rattle.atomic_table.specs.Seated.{TableId}
use Rattle.atomic_table.specs.declared.shared.Seat.{Seat}
use Rattle.frame_pool.specs.declared.views.Part.{Part}
use Rattle.frame_pool.specs.declared.views.Parts.{Parts}
use Rattle.frame_pool.specs.declared.views.Sizes.{Sizes}
use Rattle.frame_pool.specs.declared.views.Stage.{Stage}
use Rattle.frame_pool.specs.declared.views.LaneState.{LaneState}
use Rattle.frame_pool.specs.declared.views.KeeperView.{KeeperView}
use Rattle.frame_pool.specs.declared.views.LeaseView.{LeaseView}
use Rattle.frame_pool.specs.declared.views.View.{View}
use Rattle.frame_pool.specs.Words.{total}
use Rattle.frame_pool.specs.Steps.{lane_at, parts_of, keeper_view, lease_view, IsKeeper, IsLease}

-- which pool it is, and its sizes
pub record Identity : Type 0 where
  pub id : TableId
  pub sizes : Sizes

-- what a pool can be made with
pub record IsSized (z : Sizes) : Type 0 where
  pub some_lanes : 1 ≤ z.lanes
  pub few_lanes : z.lanes ≤ 16
  pub whole_words : z.block % 8 ≡ 0
  pub some_block : 8 ≤ z.block
  pub small_block : z.block ≤ 8192

-- the keeper: its pool, the bytes of each frame, and what it knows of the lanes
pub record KeeperState : Type 0 where
  pub pool : Identity
  pub frames : List (List ℕ)
  pub view : KeeperView

-- a lease; of one that was taken back only the pool, the lane and the length are kept
pub record LeaseState : Type 0 where
  pub pool : Identity
  pub lane : ℕ
  pub len : ℕ
  pub live : Bool
  pub taken : Bool
  pub parts : List Part
  pub samples : List ℕ
  pub hinted : Bool
  pub looks : List ℕ

-- how many lanes, and how many bytes a frame has
abbrev pub lanes_of : KeeperState → ℕ
lanes_of k = k.pool.sizes.lanes

abbrev pub block_of : KeeperState → ℕ
block_of k = k.pool.sizes.block

-- of a lane: what became of its parts, its hint word, whether the hint was on since its grant, and the lane words that `observe` loaded
abbrev pub stage_of : KeeperState → ℕ → Stage
stage_of k l = (lane_at k.view l).stage

abbrev pub hint_of : KeeperState → ℕ → ℕ
hint_of k l = (lane_at k.view l).hint

abbrev pub mark_of : KeeperState → ℕ → Bool
mark_of k l = (lane_at k.view l).mark

abbrev pub looks_of : KeeperState → ℕ → List ℕ
looks_of k l = (lane_at k.view l).looks

-- the bytes of a frame
abbrev pub frame_of : KeeperState → ℕ → List ℕ
frame_of k f = slice_index_or k.frames f []

-- a part's samples among frames
abbrev pub stretch_in : List (List ℕ) → Part → List ℕ
stretch_in frames p = slice_range (slice_index_or frames p.frame []) p.from (p.from + p.len)

-- a part lies within frames
abbrev pub IsWithin : List (List ℕ) → Part → Type 0
IsWithin frames p = (p.frame < length frames) × (p.from + p.len ≤ length (slice_index_or frames p.frame []))

-- a part's samples
abbrev pub stretch_of : KeeperState → Part → List ℕ
stretch_of k p = stretch_in k.frames p

-- the frame is in no lane's parts
abbrev pub IsSpare : KeeperState → ℕ → Type 0
IsSpare k f = (l : ℕ) → l < lanes_of k → All (λ (p : Part). p.frame ≢ f) (parts_of (stage_of k l))

-- a part with samples, inside a frame
pub record IsPart (z : Sizes) (p : Part) : Type 0 where
  pub frame : p.frame < 4 * z.lanes
  pub filled : 0 < p.len
  pub ends : p.from + p.len ≤ z.block

-- each part is one
abbrev pub AreParts : Sizes → List Part → Type 0
AreParts z [] = Unit {0}
AreParts z (p ∷ ps) = IsPart z p × AreParts z ps

-- all but what is known of one lane stays
pub record ChangesLane (old new : KeeperState) (l : ℕ) : Type 0 where
  pub pool : new.pool ≡ old.pool
  pub frames : new.frames ≡ old.frames
  pub others : (j : ℕ) → j ≢ l → lane_at new.view j ≡ lane_at old.view j

-- four frames a lane, each of a block
pub record AreFrames (z : Sizes) (frames : List (List ℕ)) : Type 0 where
  pub count : length frames ≡ 4 * z.lanes
  pub whole : (f : ℕ) → f < 4 * z.lanes → length (slice_index_or frames f []) ≡ z.block

-- the keeper's seat, at a pool
pub record KeeperIs (w : Identity) (s : Seat Parts View) : Type 0 where
  pub pool : s.table_id ≡ w.id
  pub seat : IsKeeper w.sizes s.id s.me
  pub counted : length (keeper_view s.me.0).lane_states ≡ w.sizes.lanes
  pub inside : (l : ℕ) (d : LaneState) → get_elem? (keeper_view s.me.0).lane_states l ≡ some d → AreParts w.sizes (parts_of d.stage)

-- what a lease knows, which is nothing once it was taken back
abbrev pub lease_view_in : Option (Seat Parts View) → LeaseView
lease_view_in (Some s) = lease_view s.me.0
lease_view_in None = record { sizes = record { lanes = 0; block = 0 }; lane = 0; parts = []; live = false; hinted = false; looks = [] }

-- a lease's seat, at a pool, and its samples
pub record LeaseIs (w : Identity) (lane len : ℕ) (live : Bool) (samples : List ℕ) (s : Seat Parts View) : Type 0 where
  pub pool : s.table_id ≡ w.id
  pub seat : IsLease w.sizes s.me
  pub lane_is : (lease_view s.me.0).lane ≡ lane
  pub low : lane < w.sizes.lanes
  pub len_is : len ≡ total (lease_view s.me.0).parts
  pub long : length samples ≡ len
  pub live_is : (lease_view s.me.0).live ≡ live

-- the seat and the samples of a lease, which one that was taken back has not
abbrev pub LeaseOf : Identity → ℕ → ℕ → Bool → List ℕ → Option (Seat Parts View) → Type 0
LeaseOf w lane len live samples (Some s) = LeaseIs w lane len live samples s
LeaseOf w lane len live samples None = (live ≡ false) × (samples ≡ [])

-- a lease of these parts, as it is handed out
abbrev pub granted : KeeperState → ℕ → List Part → LeaseState
granted k l ps = record { pool = k.pool; lane = l; len = total ps; live = true; taken = false; parts = ps; samples = flat_map (stretch_of k) ps; hinted = false; looks = [] }

-- the hint word that says so
abbrev pub word_of : Bool → ℕ
word_of b = if b then 1 else 0

-- the lease after it loaded this hint
abbrev pub with_look : LeaseState → Bool → LeaseState
with_look x b = record x { hinted = (if b then true else x.hinted); looks = x.looks ++ word_of b ∷ [] }

-- a lease that was taken back
abbrev pub spent : LeaseState → LeaseState
spent x = record { pool = x.pool; lane = x.lane; len = x.len; live = false; taken = true; parts = []; samples = []; hinted = false; looks = [] }

-- the lease's seat, which is not live any more, has what the lease had
pub record GivesUp (old : LeaseState) (s : Seat Parts View) : Type 0 where
  pub pool : s.table_id ≡ old.pool.id
  pub seat : IsLease old.pool.sizes s.me
  pub over : (lease_view s.me.0).live ≡ false
  pub lane : (lease_view s.me.0).lane ≡ old.lane
  pub low : old.lane < old.pool.sizes.lanes
  pub parts : (lease_view s.me.0).parts ≡ old.parts
  pub len : total old.parts ≡ old.len
  pub hinted : (lease_view s.me.0).hinted ≡ old.hinted
