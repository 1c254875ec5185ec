-- Calls that change nothing.
use Rattle.std.specs.Prelude.{◌≡◌, ◌+◌, ◌≤◌, ℕ, List, IsTrue}
use Rattle.voice_outside.specs.Disk.{Told, Leaves}

-- no byte is changed, and a crash leaves nothing new
pub record Still (old new : Told) : Type 0 where
  pub bytes : new.bytes ≡ old.bytes
  pub now : (image : List ℕ) → new.may_leave new.calls image → old.may_leave old.calls image
  pub crash : Leaves old new (λ image. old.may_leave old.calls image)

-- at most so many calls, none of which changes anything
pub record Looks (most : ℕ) (old new : Told) : Type 0 where
  pub size : new.size ≡ old.size
  pub honest : new.honest ≡ old.honest
  pub later : old.calls ≤ new.calls
  pub calls : new.calls ≤ old.calls + most
  pub faults : old.faults ≤ new.faults
  pub still : IsTrue old.honest → Still old new

-- what a crash since a moment may have left has P
abbrev pub Since : ℕ → Told → (List ℕ → Type 0) → Type 0
Since t disk P = (image : List ℕ) → disk.may_leave t image → P image
