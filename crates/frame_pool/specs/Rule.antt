-- The rule of a pool's table: what its words and the views of its seats have to do with one another.
use Rattle.std.specs.Prelude.{◌≡◌, ℕ, ◌≤◌, ◌⊎◌, List, [], length, slice_index, true, false, replicate}
use mathlib.Core.Option.{some}
use lib.ListN.{get_elem?}
use Rattle.atomic_table.specs.Table.{State}
use Rattle.frame_pool.specs.declared.views.Part.{Part}
use Rattle.frame_pool.specs.declared.views.Sizes.{Sizes}
use Rattle.frame_pool.specs.declared.views.Stage.{Stage}
use Rattle.frame_pool.specs.declared.views.Stage.TheVariants.{Free, Reserved, Handed, Ended}
use Rattle.frame_pool.specs.declared.views.Told.{Told}
use Rattle.frame_pool.specs.declared.views.LaneState.{LaneState}
use Rattle.frame_pool.specs.declared.views.KeeperView.{KeeperView}
use Rattle.frame_pool.specs.declared.views.LeaseView.{LeaseView}
use Rattle.frame_pool.specs.declared.views.View.{View}
use Rattle.frame_pool.specs.declared.views.View.TheVariants.{Keeper, Lease}
use Rattle.frame_pool.specs.Words.{lane_word, hint_word, word_count, total}

-- no lease was joined yet
abbrev pub untold : Told
untold = record { stage = Ended 0; parts = []; hinted = false }

-- a lane that nothing was done with
abbrev pub idle_lane : LaneState
idle_lane = record { stage = Free; hint = 0; mark = false; told = untold; looks = [] }

-- a lane that was handed out these parts, and may know of their end
abbrev pub IsOut : Stage → List Part → Type 0
IsOut st ps = (st ≡ Handed ps) ⊎ (st ≡ Ended (total ps))

-- what the keeper knows at the start: every lane is free
abbrev pub opened : Sizes → KeeperView
opened z = record { sizes = z; latest = 0; lane_states = replicate z.lanes idle_lane }

-- what is true of the two words of a lane, and of what the keeper knows of it
pub record Stands (words : List ℕ) (lanes l : ℕ) (d : LaneState) : Type 0 where
  pub hint : slice_index words (hint_word lanes l) ≡ d.hint
  pub bit : d.hint ≤ 1
  pub free : d.stage ≡ Free → slice_index words (lane_word l) ≡ 0
  pub reserved : (ps : List Part) → d.stage ≡ Reserved ps → slice_index words (lane_word l) ≡ 1
  pub ended : (n : ℕ) → d.stage ≡ Ended n → slice_index words (lane_word l) ≡ 0
  pub marked : d.hint ≡ 1 → (d.stage ≡ Free → ⊥) → d.mark ≡ true
  pub told : d.told.hinted ≡ true → d.mark ≡ true
  pub known : IsOut d.told.stage d.told.parts

-- what is true of a lease that is not joined
pub record Bound (words : List ℕ) (k : KeeperView) (h : LeaseView) : Type 0 where
  pub sizes : h.sizes ≡ k.sizes
  pub state : LaneState
  pub there : get_elem? k.lane_states h.lane ≡ some state
  pub out : IsOut state.stage h.parts
  pub word : h.live ≡ true → slice_index words (lane_word h.lane) ≡ 1
  pub handed : h.live ≡ true → state.stage ≡ Handed h.parts
  pub over : h.live ≡ false → slice_index words (lane_word h.lane) ≡ 0
  pub hinted : h.hinted ≡ true → state.mark ≡ true

-- the rule, of the keeper's view
pub record Kept (words : List ℕ) (views : List View) (k : KeeperView) : Type 0 where
  pub seated : get_elem? views 0 ≡ some (Keeper k)
  pub wide : length words ≡ word_count k.sizes.lanes
  pub counted : length k.lane_states ≡ k.sizes.lanes
  pub lanes : (l : ℕ) (d : LaneState) → get_elem? k.lane_states l ≡ some d → Stands words k.sizes.lanes l d
  pub leases : (id : ℕ) (h : LeaseView) → get_elem? views id ≡ some (Lease h) → Bound words k h
  pub once : (i j : ℕ) (h e : LeaseView) → get_elem? views i ≡ some (Lease h) → get_elem? views j ≡ some (Lease e) → h.lane ≡ e.lane → i ≡ j

-- the rule, of a table's words and views
abbrev pub Ruled : {S : Type 0} → State S View → Type 0
Ruled s = (k : KeeperView) × Kept s.words s.views k
