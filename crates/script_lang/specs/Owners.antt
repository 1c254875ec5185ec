-- Which caller serves each lane.
--     no_owner      no lane is served
--     is_owned owners caller lane      another caller serves the lane
--     with_owner owners caller lane      the caller serves the lane
--     Owns owners lines      the owners are those of the lines
--     HaveOneOwner lines      no lane is served for two callers
use Rattle.std.specs.Prelude.{ℕ, ◌≡◌, ◌<◌, ◌==◌, ◌&&◌, Bool, false, not, List, length, replicate, slice_index, slice_set, Option, Some, None, All}
use Rattle.script_lang.specs.declared.scripts.Line.{Line}
use Rattle.script_lang.specs.Parts.{served, is_taken}

abbrev pub no_owner : List ℕ
no_owner = replicate 16 0

-- another caller serves the lane
abbrev pub is_owned : List ℕ → ℕ → Option ℕ → Bool
is_owned owners caller None = false
is_owned owners caller (Some lane) = not (slice_index owners lane == 0) && not (slice_index owners lane == caller)

-- the caller serves the lane
abbrev pub with_owner : List ℕ → ℕ → Option ℕ → List ℕ
with_owner owners caller None = owners
with_owner owners caller (Some lane) = slice_set owners lane caller

-- the owners are those of the lines
pub record Owns (owners : List ℕ) (lines : List Line) : Type 0 where
  pub lanes : length owners ≡ 16
  pub taken : (caller lane : ℕ) → lane < 16 → is_taken lines caller (Some lane) ≡ is_owned owners caller (Some lane)

-- no lane is served for two callers
abbrev pub HaveOneOwner : List Line → Type 0
HaveOneOwner lines = All (λ line. is_taken lines line.caller (served line.verb) ≡ false) lines
