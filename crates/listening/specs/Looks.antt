-- What reads do to a disk.
--     OnlyLooked old new      no byte is changed, and a crash leaves nothing new
--     Looked most old new      at most so many calls, which only looked where the disk is honest
use Rattle.std.specs.Prelude.{◌≡◌, ℕ, ◌+◌, ◌≤◌, IsTrue}
use Rattle.voice_outside.specs.Disk.{Told, Now, Leaves}

-- no byte is changed, and a crash leaves nothing new
pub record OnlyLooked (old new : Told) : Type 0 where
  pub bytes : new.bytes ≡ old.bytes
  pub now : Now new (λ image. old.may_leave old.calls image)
  pub crash : Leaves old new (λ image. old.may_leave old.calls image)

-- at most so many calls, which only looked where the disk is honest
pub record Looked (most : ℕ) (old new : Told) : Type 0 where
  pub size : new.size ≡ old.size
  pub honest : new.honest ≡ old.honest
  pub later : old.calls ≤ new.calls
  pub calls : new.calls ≤ old.calls + most
  pub faults : old.faults ≤ new.faults
  pub looks : IsTrue old.honest → OnlyLooked old new
