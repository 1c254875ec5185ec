-- A window copied behind what was heard.
--     IsToHear player      it has a window that is live, and of which nothing was copied
--     IsThrough at window      all of the window was copied, or less of it where the hint of a stop was seen
--     HasCopied old new before after      the player copied its window behind what was heard before
use Rattle.std.specs.Prelude.{◌≡◌, ◌<◌, ◌⊎◌, ℕ, true, false, List, ◌++◌, take, Option, Some, None}
use Rattle.frame_pool.specs.Pool.{LeaseState}
use Rattle.players.specs.Players.{PlayerState}

-- a player's window that is live and of which nothing was copied
pub record IsToHear (player : PlayerState) : Type 0 where
  pub window : LeaseState
  pub out : player.lease ≡ Some window
  pub live : window.live ≡ true
  pub none_yet : player.at ≡ 0

-- all of a window was copied, or less of it, and then the hint of a stop was seen before it came home
abbrev pub IsThrough : ℕ → Option LeaseState → Type 0
IsThrough at None = Unit {0}
IsThrough at (Some window) = (at ≡ window.len) ⊎ ((at < window.len) × (window.taken ≡ false) × (window.hinted ≡ true))

-- a player copied its window behind what was heard before: so many samples of it, from its beginning, and it has it still
pub record HasCopied (old new : PlayerState) (before after : List ℕ) : Type 0 where
  pub window : LeaseState
  pub had : old.lease ≡ Some window
  pub window_after : LeaseState
  pub has : new.lease ≡ Some window_after
  pub len : window_after.len ≡ window.len
  pub copied : after ≡ before ++ take new.at window.samples
  pub through : window.taken ≡ false → IsThrough new.at new.lease
