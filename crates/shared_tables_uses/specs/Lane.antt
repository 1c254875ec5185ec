-- What a store of one lane keeps true.
use Rattle.std.specs.Prelude.{◌≡◌, ◌≤◌, Bool, true, false}
use Rattle.frame_pool.specs.declared.views.Stage.TheVariants.{Free}
use Rattle.frame_pool.specs.Pool.{KeeperState, lanes_of, block_of, stage_of, mark_of}

-- a lane's keeper, whether its first job is stopped, and whether a window is out
pub record Shown : Type 0 where
  pub keeper : KeeperState
  pub stopped : Bool
  pub out : Bool

-- a mark on a lane with a window out says that its first job is stopped, and so does the hint
pub record StoreIs (k : KeeperState) (stopped out : Bool) : Type 0 where
  pub lanes : 1 ≤ lanes_of k
  pub block : block_of k ≡ 8
  pub free : out ≡ false → stage_of k 0 ≡ Free
  pub marked : out ≡ true → mark_of k 0 ≡ true → stopped ≡ true
