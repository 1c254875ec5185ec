-- Runs of consecutive addresses.
--     breaks before addresses      how many addresses don't follow on the one in front of them
--     runs addresses      how many longest runs of consecutive rising addresses there are
--     writes_for block addresses n      how many device calls n samples take: one a run of whole blocks, and one for a padded last block
--     IsRun addresses from n      the n addresses from an index on are consecutive
use Rattle.std.specs.Prelude.{◌≡◌, ℕ, suc, ◌+◌, ◌/◌, ◌%◌, ◌<◌, ◌==◌, cond, List, [], ◌∷◌, take, slice_index}

-- how many addresses don't follow on the one in front of them
abbrev pub breaks : ℕ → List ℕ → ℕ
breaks before [] = 0
breaks before (a ∷ rest) = cond (a == suc before) 0 1 + breaks a rest

-- how many longest runs of consecutive rising addresses there are
abbrev pub runs : List ℕ → ℕ
runs [] = 0
runs (a ∷ rest) = suc (breaks a rest)

-- how many device calls n samples take: one a run of whole blocks, and one for a padded last block
abbrev pub writes_for : ℕ → List ℕ → ℕ → ℕ
writes_for block addresses n = runs (take (n / block) addresses) + cond (n % block == 0) 0 1

-- the n addresses from an index on are consecutive
abbrev pub IsRun : List ℕ → ℕ → ℕ → Type 0
IsRun addresses from n = (k : ℕ) → k < n → slice_index addresses (from + k) ≡ slice_index addresses from + k
