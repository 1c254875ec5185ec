-- Payloads by their numbers and the kinds of their changes alone.
--     course_after course payload      the course behind a payload, none where its number may not come or nothing stands behind it
--     front_of course payloads      the payloads before the first such one, without their numbers
--     course_of course payloads      the course behind all of them, none where there is such a one
--     IsStripped payloads stripped      what was made of payloads
use Rattle.std.specs.Prelude.{◌≡◌, ℕ, ◌≤◌, Bool, ◌||◌, cond, ◌==◌, nat_le, List, [], ◌∷◌, length, Option, Some, None, slice_index}
use Rattle.disk_areas.specs.Numbers.{number_at}
use Rattle.disk_areas.specs.Areas.{Record}
use Rattle.recovery.specs.Replayed.{bytes_of}
use Rattle.mirror_replay.specs.declared.courses.Course.{Course}
use Rattle.mirror_replay.specs.declared.courses.Course.TheVariants.{Begun}
use Rattle.mirror_replay.specs.declared.stripping.Stripped.{Stripped}
use Rattle.mirror_replay.specs.Numbered.{without_number, with_number}

-- the kind of a change that bytes spell
abbrev pub kind_of : List ℕ → ℕ
kind_of bytes = slice_index bytes 0

-- the kind of a change that begins a base of form 2
abbrev pub is_first_kind : ℕ → Bool
is_first_kind kind = kind == 12

-- the kinds that stand behind it
abbrev pub is_later_kind : ℕ → Bool
is_later_kind kind = (kind == 3) || (kind == 13) || (kind == 14)

-- the course behind a payload
abbrev pub course_after : Course → List ℕ → Option Course
course_after course payload =
    cond (nat_le 9 (length payload))
    (with_number course (number_at 8 0 payload) (is_first_kind (kind_of (without_number payload))) (is_later_kind (kind_of (without_number payload)))) None

-- one payload, and what comes behind it
abbrev pub front_by : Option Course → List ℕ → (Course → List (List ℕ)) → List (List ℕ)
front_by None payload later = []
front_by (Some next) payload later = without_number payload ∷ later next

-- the payloads before the first one whose number may not come, without their numbers
abbrev pub front_of : Course → List (List ℕ) → List (List ℕ)
front_of course [] = []
front_of course (payload ∷ payloads) = front_by (course_after course payload) payload (λ next. front_of next payloads)

-- one course, and what comes behind it
abbrev pub course_by : Option Course → (Course → Option Course) → Option Course
course_by None later = None
course_by (Some next) later = later next

-- the course behind all payloads
abbrev pub course_of : Course → List (List ℕ) → Option Course
course_of course [] = Some course
course_of course (payload ∷ payloads) = course_by (course_after course payload) (λ next. course_of next payloads)

-- what was made of payloads
pub record IsStripped (payloads : List Record) (stripped : Stripped) : Type 0 where
  pub front : bytes_of stripped.list ≡ front_of Begun (bytes_of payloads)
  pub course : stripped.course ≡ course_of Begun (bytes_of payloads)
  pub most : length stripped.list ≤ length payloads
