-- What the numbered changes of a mirror's journal rebuild. A payload is a number of 8 bytes, the highest first, and behind it a change as the journal spells it.
--     number_in payload, without_number payload      its number, none of fewer than 8 bytes; what stands behind it
--     with_number course n begins continues      the rule of numbers: what the records say of the next number once n came, none where n may not come
--     numbered_replayed r records      what records rebuild, and the number of the last one; or the place of the first one that is refused
use Rattle.std.specs.Prelude.{ℕ, ◌+◌, ◌^◌, Bool, true, false, ◌&&◌, cond, ◌==◌, nat_le, List, [], ◌∷◌, length, drop, Option, Some, None}
use Rattle.disk_areas.specs.Numbers.{number_at}
use Rattle.disk_areas.specs.Areas.{Record}
use Rattle.voice_model.specs.Spelling.{change_in}
use Rattle.voice_model.specs.Replay.{Rebuilt, is_legal, acted, finished}
use Rattle.voice_model.specs.declared.changes.Change.{Change}
use Rattle.voice_model.specs.declared.changes.Change.TheVariants as changes
use Rattle.mirror_replay.specs.declared.courses.Course.{Course}
use Rattle.mirror_replay.specs.declared.courses.Course.TheVariants.{Begun, Base, Later}

-- ---- the parts of a payload

-- the number of a payload of at least 8 bytes
abbrev pub number_in : List ℕ → Option ℕ
number_in payload = cond (nat_le 8 (length payload)) (Some (number_at 8 0 payload)) None

-- what stands behind the number
abbrev pub without_number : List ℕ → List ℕ
without_number payload = drop 8 payload

-- ---- the rule of numbers

-- whether a change begins a base of form 2
abbrev pub begins_base : Change → Bool
begins_base (changes.Base2 now next) = true
begins_base _ = false

-- whether a change is of a kind that stands in a base of form 2 behind its first record
abbrev pub continues_base : Change → Bool
continues_base (changes.File2 file pairs) = true
continues_base (changes.Rope2 id idle last pieces) = true
continues_base (changes.Retained class key id note) = true
continues_base _ = false

-- the first number is 1, or at most 2^48 where it begins a base; a later one is the last one plus 1, or in a base that has one number so far the same again
abbrev pub with_number : Course → ℕ → Bool → Bool → Option Course
with_number Begun n true continues = cond (nat_le n (2 ^ 48)) (Some (Base n)) None
with_number Begun n false continues = cond (n == 1) (Some (Later n)) None
with_number (Base last) n begins continues = cond (n == last + 1) (Some (Later n)) (cond (continues && (n == last)) (Some (Base last)) None)
with_number (Later last) n begins continues = cond (n == last + 1) (Some (Later n)) None

-- the number of the last record, 0 where there is none
abbrev pub position_of : Course → ℕ
position_of Begun = 0
position_of (Base n) = n
position_of (Later n) = n

-- ---- what records rebuild

-- what records rebuild and the number of the last one, or the place of the first one that is refused
pub data Numbered : Type 0 where
  All : Rebuilt → ℕ → Numbered
  Refused : ℕ → Numbered

-- a record without this is refused
abbrev pub or_refused : {A : Type 0} → ℕ → Option A → (A → Numbered) → Numbered
or_refused at None later = Numbered.Refused at
or_refused at (Some a) later = later a

-- a record whose change is not legal is refused
abbrev pub if_allowed : Bool → ℕ → Numbered → Numbered
if_allowed true at later = later
if_allowed false at later = Numbered.Refused at

-- records go on from what was rebuilt: each has a number, a change behind it, the right number, and may act
abbrev pub numbered_from : Course → Rebuilt → List Record → Numbered
numbered_from course r [] = Numbered.All (finished r) (position_of course)
numbered_from course r (one ∷ rest) =
    or_refused one.at (number_in one.payload)
    (λ n. or_refused one.at (change_in (without_number one.payload))
    (λ c. or_refused one.at (with_number course n (begins_base c) (continues_base c))
    (λ next. if_allowed (is_legal r c) one.at (numbered_from next (acted r c) rest))))

-- records from the first on
abbrev pub numbered_replayed : Rebuilt → List Record → Numbered
numbered_replayed r records = numbered_from Begun r records
