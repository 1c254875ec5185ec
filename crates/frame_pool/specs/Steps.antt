-- What each step does to the view of its seat, and what it tells.
use Rattle.std.specs.Prelude.{◌≡◌, ◌==◌, ℕ, ◌+◌, ◌-◌, ◌≤◌, List, [], ◌∷◌, ◌++◌, slice_index_or, slice_set, Bool, true, false, if◌then◌else◌}
use mathlib.Core.Option.{some}
use Rattle.atomic_table.specs.Table.{Me, Step}
use Rattle.frame_pool.specs.declared.views.Part.{Part}
use Rattle.frame_pool.specs.declared.views.Parts.{Parts}
use Rattle.frame_pool.specs.declared.views.Stage.{Stage}
use Rattle.frame_pool.specs.declared.views.Stage.TheVariants.{Free, Reserved, Handed, Ended}
use Rattle.frame_pool.specs.declared.views.LaneState.{LaneState}
use Rattle.frame_pool.specs.declared.views.KeeperView.{KeeperView}
use Rattle.frame_pool.specs.declared.views.LeaseView.{LeaseView}
use Rattle.frame_pool.specs.declared.views.View.{View}
use Rattle.frame_pool.specs.declared.views.View.TheVariants.{Keeper, Lease, Spent}
use Rattle.frame_pool.specs.Words.{total}
use Rattle.frame_pool.specs.declared.views.Sizes.{Sizes}
use Rattle.frame_pool.specs.Rule.{idle_lane, untold, IsOut, opened}

-- a seat's view, and the slots that it has, which are none
abbrev pub Seated : Type 0
Seated = Me Parts View

-- what a step tells: of the step, the seat before, the word that was found or stored, and the seat after
abbrev pub Then : Type 1
Then = Step Parts → Seated → ℕ → Seated → Type 0

-- what the keeper knows of a lane
abbrev pub lane_at : KeeperView → ℕ → LaneState
lane_at k l = slice_index_or k.lane_states l idle_lane

-- the keeper's view with another state of a lane
abbrev pub with_lane : KeeperView → ℕ → LaneState → KeeperView
with_lane k l d = record k { lane_states = slice_set k.lane_states l d }

-- the parts that a lane has: none while it is free, and none once they were given back
abbrev pub parts_of : Stage → List Part
parts_of Free = []
parts_of (Reserved ps) = ps
parts_of (Handed ps) = ps
parts_of (Ended n) = []

-- a lane's word is stored: 1 reserves the lane for parts
abbrev pub reserved : KeeperView → ℕ → List Part → KeeperView
reserved k l ps = record (with_lane k l (record (lane_at k l) { stage = Reserved ps })) { latest = l }

-- the step that reserves a lane, whose word was 0
abbrev pub Reserves : Then
Reserves st m r n = (k : KeeperView) (ps : List Part) → m.0 ≡ Keeper k → st.said ≡ some ps → (r ≡ 0) × (n ≡ (Keeper (reserved k (st.word - 1) ps), m.1))

-- a lane's word is stored: 0 frees the lane
abbrev pub freed : KeeperView → ℕ → KeeperView
freed k l = with_lane k l (record (lane_at k l) { stage = Free })

-- it tells of the lease that was joined last: where it was hinted its lane had the mark on, and its parts were those that the lane had handed out
abbrev pub Tells : LaneState → Type 0
Tells d = (d.told.hinted ≡ true → d.mark ≡ true) × IsOut d.told.stage d.told.parts

-- the step that frees a lane
abbrev pub Frees : Then
Frees st m r n = (k : KeeperView) → m.0 ≡ Keeper k → (n ≡ (Keeper (freed k (st.word - 1)), m.1)) × Tells (lane_at k (st.word - 1))

-- whether a lane is free
abbrev pub is_free : Stage → Bool
is_free Free = true
is_free (Reserved ps) = false
is_free (Handed ps) = false
is_free (Ended n) = false

-- a hint word is stored: 1 puts the mark on, and 0 takes it off where the lane is free
abbrev pub hinted_lane : LaneState → ℕ → LaneState
hinted_lane d n = record d { hint = n; mark = (if n == 1 then true else (if is_free d.stage then false else d.mark)); told = (if is_free d.stage then untold else d.told) }

-- the keeper's view after it stored a hint word
abbrev pub hinted : KeeperView → ℕ → ℕ → KeeperView
hinted k l n = with_lane k l (hinted_lane (lane_at k l) n)

-- the step that stores a hint word
abbrev pub Hints : Then
Hints st m r n = (k : KeeperView) → m.0 ≡ Keeper k → n ≡ (Keeper (hinted k (st.word - (k.sizes.lanes + 1)) r), m.1)

-- a lane whose word was found to be 0: what was handed out has ended
abbrev pub ended : Stage → Stage
ended (Handed ps) = Ended (total ps)
ended Free = Free
ended (Reserved ps) = Reserved ps
ended (Ended n) = Ended n

-- a lane whose word was loaded as n
abbrev pub looked_lane : LaneState → ℕ → LaneState
looked_lane d n = record d { stage = (if n == 0 then ended d.stage else d.stage); looks = d.looks ++ n ∷ [] }

-- the keeper's view after it loaded a lane's word
abbrev pub looked : KeeperView → ℕ → ℕ → KeeperView
looked k l n = with_lane k l (looked_lane (lane_at k l) n)

-- the step in which the keeper loads a lane's word
abbrev pub Looks : Then
Looks st m r n = (k : KeeperView) → m.0 ≡ Keeper k → n ≡ (Keeper (looked k (st.word - 1) r), m.1)

-- a lease that loaded its lane's hint word as n: 1 makes it hinted
abbrev pub listened : LeaseView → ℕ → LeaseView
listened h n = record h { hinted = (if n == 1 then true else h.hinted); looks = h.looks ++ n ∷ [] }

-- the step in which a lease loads its lane's hint word
abbrev pub Listens : Then
Listens st m r n = (h : LeaseView) → m.0 ≡ Lease h → (r ≤ 1) × (n ≡ (Lease (listened h r), m.1))

-- a lease that swapped its lane's word to 0
abbrev pub dropped : LeaseView → LeaseView
dropped h = record h { live = false }

-- the step in which a lease ends
abbrev pub Drops : Then
Drops st m r n = (h : LeaseView) → m.0 ≡ Lease h → n ≡ (Lease (dropped h), m.1)

-- what was reserved is handed out
abbrev pub handed_stage : Stage → Stage
handed_stage (Reserved ps) = Handed ps
handed_stage Free = Free
handed_stage (Handed ps) = Handed ps
handed_stage (Ended n) = Ended n

-- the keeper's view after the lease of the lane that was reserved last is cut off
abbrev pub handed : KeeperView → KeeperView
handed k = with_lane k k.latest (record (lane_at k k.latest) { stage = handed_stage (lane_at k k.latest).stage })

-- the view of that lease
abbrev pub leased : KeeperView → LeaseView
leased k = record {
  sizes = k.sizes;
  lane = k.latest;
  parts = parts_of (lane_at k k.latest).stage;
  live = true;
  hinted = false;
  looks = [];
}

-- the split of the keeper's view
abbrev pub left_of : View → View
left_of (Keeper k) = Keeper (handed k)
left_of (Lease h) = Lease h
left_of Spent = Spent

-- what the split gives to the new seat
abbrev pub right_of : View → View
right_of (Keeper k) = Lease (leased k)
right_of (Lease h) = Spent
right_of Spent = Spent

-- a lease is joined: its lane is free, and the keeper has what was found
abbrev pub joined : KeeperView → LeaseView → KeeperView
joined k h = with_lane k h.lane (record (lane_at k h.lane) { stage = Free; told = (record { stage = (lane_at k h.lane).stage; parts = h.parts; hinted = h.hinted }) })

-- the join of the keeper's view and a lease's
abbrev pub both_of : View → View → View
both_of (Keeper k) (Lease h) = Keeper (joined k h)
both_of (Keeper k) (Keeper w) = Keeper k
both_of (Keeper k) Spent = Keeper k
both_of (Lease h) w = Lease h
both_of Spent w = Spent

-- the view of a seat that is known to be the keeper's
abbrev pub keeper_view : View → KeeperView
keeper_view (Keeper k) = k
keeper_view (Lease h) = opened h.sizes
keeper_view Spent = opened (record { lanes = 0; block = 0 })

-- the view of a seat that is known to be a lease's
abbrev pub lease_view : View → LeaseView
lease_view (Lease h) = h
lease_view (Keeper k) = leased k
lease_view Spent = leased (opened (record { lanes = 0; block = 0 }))

-- this is the keeper's seat
pub record IsKeeper (z : Sizes) (id : ℕ) (m : Seated) : Type 0 where
  pub first : id ≡ 0
  pub me : m ≡ (Keeper (keeper_view m.0), [])
  pub sizes : (keeper_view m.0).sizes ≡ z

-- this is a lease's seat
pub record IsLease (z : Sizes) (m : Seated) : Type 0 where
  pub me : m ≡ (Lease (lease_view m.0), [])
  pub sizes : (lease_view m.0).sizes ≡ z

-- the lane is reserved for its parts
abbrev pub IsReserved : Stage → Type 0
IsReserved st = st ≡ Reserved (parts_of st)
