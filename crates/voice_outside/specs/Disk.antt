-- The disk model: what a disk tells, what its calls do, and what a crash may leave.
--     Told      what a disk tells
--     Counts, Rests      what every call does to the counts;  a disk that has made all its calls changes nothing more
--     ReadsAt, WritesAt, Syncs      what a call of an honest disk does to its bytes, and to what a crash may leave
--     Now, Leaves      what a crash may leave at this moment;  what it may have left since a call began
--     MakesAtMost, WroteSynced, IsSettled      words for the layers above
use Rattle.std.specs.Prelude.{◌≡◌, ◌⊎◌, ℕ, zero, suc, ◌+◌, ◌-◌, ◌^◌, ◌<◌, ◌≤◌, List, [], ◌∷◌, length, slice_index, Bool, Result, IsErr, OnOk}
use Rattle.voice_outside.specs.Counters.{next_count, HasRisen}

-- What a disk tells. A crash at some moment since moment t may have left an image where `may_leave t image`.
pub record Told : Type 1 where
  pub size : ℕ
  pub calls : ℕ
  pub faults : ℕ
  pub honest : Bool
  pub bytes : List ℕ
  pub may_leave : ℕ → List ℕ → Type 0

-- n bytes of an image, from an offset on
unfoldable pub segment : List ℕ → ℕ → ℕ → List ℕ
segment image from zero = []
segment image from (suc n) = slice_index image from ∷ segment image (suc from) n

-- equal but for n bytes from an offset on
pub record AgreesOutside (at n : ℕ) (old new : List ℕ) : Type 0 where
  pub same_length : length new ≡ length old
  pub before : (i : ℕ) → i < at → slice_index new i ≡ slice_index old i
  pub after : (i : ℕ) → at + n ≤ i → slice_index new i ≡ slice_index old i

-- what a crash may leave after, or in, a write of n bytes
abbrev pub IsTorn : ℕ → ℕ → Told → List ℕ → Type 0
IsTorn at n old image = (from : List ℕ) × old.may_leave old.calls from × AgreesOutside at n from image

-- what every call does to the counts
pub record Counts {T E : Type 0} (old new : Told) (result : Result T E) : Type 0 where
  pub size : new.size ≡ old.size
  pub calls : new.calls ≡ next_count old.calls
  pub later : old.calls ≤ new.calls
  pub honest : new.honest ≡ old.honest
  pub faults : old.faults ≤ new.faults
  pub cause : IsErr result → HasRisen old.faults new.faults
  pub spent : 2 ^ 64 - 1 ≤ old.calls → IsErr result

-- nothing changes any more
pub record Rests (old new : Told) : Type 0 where
  pub bytes : new.bytes ≡ old.bytes
  pub may_leave : (t : ℕ) (image : List ℕ) → new.may_leave t image → old.may_leave t image

-- Time goes on by a call: a crash since t might have left what it might have left before, or what the call gains.
pub record Elapses (old new : Told) (gains : List ℕ → Type 0) : Type 0 where
  pub since : (t : ℕ) (image : List ℕ) → t ≤ old.calls → new.may_leave t image → old.may_leave t image ⊎ gains image
  pub keeps : (t : ℕ) (image : List ℕ) → t ≤ old.calls → old.may_leave t image → new.may_leave t image

-- a read changes no byte, and adds no image
pub record ReadsAt {T E : Type 0} (at n : ℕ) (old new : Told) (into : List ℕ) (result : Result T E) : Type 0 where
  pub filled : OnOk result (into ≡ segment old.bytes at n)
  pub bytes : new.bytes ≡ old.bytes
  pub now : (image : List ℕ) → new.may_leave new.calls image → old.may_leave old.calls image
  pub time : Elapses old new (λ image. old.may_leave old.calls image)

-- a write that fails leaves its range open; a crash in it or after it may leave any bytes there
pub record WritesAt {T E : Type 0} (at : ℕ) (bytes : List ℕ) (old new : Told) (result : Result T E) : Type 0 where
  pub outside : AgreesOutside at (length bytes) old.bytes new.bytes
  pub written : OnOk result (segment new.bytes at (length bytes) ≡ bytes)
  pub now : (image : List ℕ) → new.may_leave new.calls image → IsTorn at (length bytes) old image
  pub time : Elapses old new (IsTorn at (length bytes) old)

-- after a sync that succeeds a crash leaves what a read gives; one that fails adds no image
pub record Syncs {T E : Type 0} (old new : Told) (result : Result T E) : Type 0 where
  pub bytes : new.bytes ≡ old.bytes
  pub settled : OnOk result ((image : List ℕ) → new.may_leave new.calls image → image ≡ old.bytes)
  pub now : (image : List ℕ) → new.may_leave new.calls image → old.may_leave old.calls image
  pub time : Elapses old new (λ image. old.may_leave old.calls image)

-- what a crash may leave at this moment has P
abbrev pub Now : Told → (List ℕ → Type 0) → Type 0
Now disk P = (image : List ℕ) → disk.may_leave disk.calls image → P image

-- from old on, a crash at any moment left what it might have left before, or what has P
abbrev pub Leaves : Told → Told → (List ℕ → Type 0) → Type 0
Leaves old new P = (t : ℕ) (image : List ℕ) → t ≤ old.calls → new.may_leave t image → old.may_leave t image ⊎ P image

-- what a call above the disk does to the counts, by so many calls of the disk at most
pub record MakesAtMost {T E : Type 0} (most : ℕ) (old new : Told) (result : Result T E) : Type 0 where
  pub size : new.size ≡ old.size
  pub honest : new.honest ≡ old.honest
  pub later : old.calls ≤ new.calls
  pub calls : new.calls ≤ old.calls + most
  pub faults : old.faults ≤ new.faults
  pub cause : IsErr result → HasRisen old.faults new.faults

-- a write and a sync, done or not
pub record WroteSynced (at : ℕ) (bytes : List ℕ) (old new : Told) : Type 0 where
  pub outside : AgreesOutside at (length bytes) old.bytes new.bytes
  pub torn : Now new (IsTorn at (length bytes) old)
  pub crash : Leaves old new (IsTorn at (length bytes) old)

-- bytes that were written are on the disk, and a crash leaves what a read gives
pub record IsSettled (at : ℕ) (bytes : List ℕ) (disk : Told) : Type 0 where
  pub written : segment disk.bytes at (length bytes) ≡ bytes
  pub settled : Now disk (λ image. image ≡ disk.bytes)
