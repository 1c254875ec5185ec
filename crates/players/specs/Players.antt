-- Players, and what they get.
--     PlayerState      its lane, how many samples of its window it copied, and the lease of the window
--     IsPlayer lane at lease      the window is one of the lane, and no more of it was copied than it has
--     new_player lane, holding lane lease      a player without a window;  one that begins to hear a window
--     is_dry p      there is no live window, or all of it was copied
--     rest_of, samples_of p      how much of the window is left;  its samples
--     looked hint p, moved n p      the player after it loaded the hint;  after it copied n samples
--     hung_up, without_lease p      the player that hears its window no longer;  without its window
--     IsOfPool pool window      the window, if there is one, is of the pool
--     Gets old took before after new      what a player gets, what its room has then, and the player after it
use Rattle.std.specs.Prelude.{◌≡◌, ℕ, ◌+◌, ◌-◌, ◌≤◌, Bool, true, false, not, ◌||◌, ◌==◌, min, List, [], length, take, drop, slice_range, Option, Some, None}
use Rattle.frame_pool.specs.Pool.{Identity, LeaseState, with_look}
use Rattle.players.specs.declared.took.Took.{Took}
use Rattle.players.specs.declared.took.Took.TheVariants.{Samples, Dry, Hinted}

-- its lane, how many samples of its window it copied, and the lease of the window
pub record PlayerState : Type 0 where
  pub lane : ℕ
  pub at : ℕ
  pub lease : Option LeaseState

-- the window is one of the lane, and no more of it was copied than it has
abbrev pub IsPlayer : ℕ → ℕ → Option LeaseState → Type 0
IsPlayer lane at None = Unit {0}
IsPlayer lane at (Some lease) = (lease.lane ≡ lane) × (at ≤ lease.len)

-- a player without a window
abbrev pub new_player : ℕ → PlayerState
new_player lane = record { lane = lane; at = 0; lease = None }

-- a player that begins to hear a window
abbrev pub holding : ℕ → LeaseState → PlayerState
holding lane lease = record { lane = lane; at = 0; lease = Some lease }

-- there is no live window, or all of it was copied
abbrev pub is_over : ℕ → Option LeaseState → Bool
is_over at None = true
is_over at (Some lease) = not lease.live || (at == lease.len)

abbrev pub is_dry : PlayerState → Bool
is_dry p = is_over p.at p.lease

-- how much of the window is left
abbrev pub left_of : ℕ → Option LeaseState → ℕ
left_of at None = 0
left_of at (Some lease) = lease.len - at

abbrev pub rest_of : PlayerState → ℕ
rest_of p = left_of p.at p.lease

-- the samples of the window
abbrev pub samples_in : Option LeaseState → List ℕ
samples_in None = []
samples_in (Some lease) = lease.samples

abbrev pub samples_of : PlayerState → List ℕ
samples_of p = samples_in p.lease

-- the lease after it loaded the hint
abbrev pub seen : Bool → Option LeaseState → Option LeaseState
seen hint None = None
seen hint (Some lease) = Some (with_look lease hint)

-- the player after it loaded the hint
abbrev pub looked : Bool → PlayerState → PlayerState
looked hint p = record p { lease = seen hint p.lease }

-- the player after it copied n samples
abbrev pub moved : ℕ → PlayerState → PlayerState
moved n p = record p { at = p.at + n }

-- the lease that is live no longer
abbrev pub released : Option LeaseState → Option LeaseState
released None = None
released (Some lease) = Some (record lease { live = false })

-- the player that hears its window no longer
abbrev pub hung_up : PlayerState → PlayerState
hung_up p = record p { lease = released p.lease }

-- the player without its window
abbrev pub without_lease : PlayerState → PlayerState
without_lease p = record p { lease = None }

-- the window, if there is one, is of the pool
abbrev pub IsOfPool : Identity → Option LeaseState → Type 0
IsOfPool pool None = Unit {0}
IsOfPool pool (Some lease) = lease.pool ≡ pool

-- what a player gets, what its room has then, and the player after it
abbrev pub Gets : PlayerState → Took → List ℕ → List ℕ → PlayerState → Type 0
Gets old Dry before after new = (is_dry old ≡ true) × (new ≡ old) × (after ≡ before)
Gets old Hinted before after new = (is_dry old ≡ false) × (new ≡ looked true old) × (after ≡ before)
Gets old (Samples n) before after new =
    (is_dry old ≡ false) × (1 ≤ n) × (n ≡ min (length before) (rest_of old)) × (new ≡ moved n (looked false old))
    × (take n after ≡ slice_range (samples_of old) old.at (old.at + n)) × (drop n after ≡ drop n before)
