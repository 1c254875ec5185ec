-- What numbered records rebuild, by their changes and by their numbers apart.
use Rattle.std.proofs.Common.{◌≡◌, ℕ, Bool, true, false, List, [], ◌∷◌, map, Option, Some, None, refl, sym, ◌∙◌, ap}
use Rattle.voice_model.specs.Spelling.{change_in}
use Rattle.voice_model.specs.Replay.{Rebuilt, is_legal, acted, finished}
use Rattle.voice_model.specs.Image.{Replayed, replayed}
use Rattle.voice_model.specs.declared.changes.Change.{Change}
use Rattle.disk_areas.specs.Areas.{Record}
use Rattle.voice_journal.specs.Readings.{record_at}
use Rattle.recovery.specs.Replayed.{bytes_of}
use Rattle.mirror_replay.specs.declared.courses.Course.{Course}
use Rattle.mirror_replay.specs.Numbered.{Numbered, number_in, without_number, with_number, begins_base, continues_base, position_of, or_refused, if_allowed, numbered_from}
use Rattle.mirror_replay.specs.Stripped.{course_after, course_by, course_of}
use Rattle.mirror_replay.proofs.KindsOfChanges.{is_change}
use Rattle.journal_readings.proofs.Replays as journals

-- a record without its number
abbrev pub stripped_one : Record → Record
stripped_one one = record_at one.at (without_number one.payload)

-- records without their numbers
abbrev pub stripped : List Record → List Record
stripped rs = map stripped_one rs

pub all_same : (a b : Rebuilt) (m n : ℕ) → Numbered.All a m ≡ Numbered.All b n → (a ≡ b) × (m ≡ n)
all_same a b m n e = (cc, cc)

pub course_same : (a b : Course) → Some a ≡ Some b → a ≡ b
course_same a b e = cc

-- ---- one record

-- a record by its number and its change
abbrev pub one_by : ℕ → Course → Rebuilt → Option ℕ → Option Change → (Course → Rebuilt → Numbered) → Numbered
one_by at course r number change later =
    or_refused at number (λ n. or_refused at change (λ c. or_refused at (with_number course n (begins_base c) (continues_base c)) (λ next. if_allowed (is_legal r c) at (later next (acted r c)))))

no_change : (at : ℕ) (course : Course) (r : Rebuilt) (number : Option ℕ) (later : Course → Rebuilt → Numbered) → one_by at course r number None later ≡ Numbered.Refused at
no_change at course r None later = refl
no_change at course r (Some n) later = refl

-- a record whose change is legal, by the course behind it
abbrev by_course : ℕ → Rebuilt → Change → (Course → Rebuilt → Numbered) → Option Course → Numbered
by_course at r c later o = or_refused at o (λ next. if_allowed (is_legal r c) at (later next (acted r c)))

one_as : (at : ℕ) (course : Course) (r : Rebuilt) (payload : List ℕ) (c : Change) (later : Course → Rebuilt → Numbered) → change_in (without_number payload) ≡ Some c
    → one_by at course r (number_in payload) (change_in (without_number payload)) later ≡ by_course at r c later (course_after course payload)
one_as at course r payload c later e =
    let is = is_change course payload c e in
    ap (λ o. one_by at course r (number_in payload) o later) e ∙ ap (λ n. one_by at course r n (Some c) later) is.number ∙ ap (by_course at r c later) (sym is.after)

-- a payload had the right number and a legal change, and the rest went on from there
pub record IsTaken (course : Course) (r : Rebuilt) (payload : List ℕ) (later : Course → Rebuilt → Numbered) (end : Rebuilt) (n : ℕ) : Type 0 where
  pub change : Change
  pub next : Course
  pub spelled : change_in (without_number payload) ≡ Some change
  pub after : course_after course payload ≡ Some next
  pub legal : is_legal r change ≡ true
  pub rest : later next (acted r change) ≡ Numbered.All end n

allowed : (b : Bool) (at : ℕ) (later : Numbered) (end : Rebuilt) (n : ℕ) → if_allowed b at later ≡ Numbered.All end n → (b ≡ true) × (later ≡ Numbered.All end n)
allowed true at later end n h = (refl, h)
allowed false at later end n h = cc

pub taken : (course : Course) (r : Rebuilt) (at : ℕ) (payload : List ℕ) (later : Course → Rebuilt → Numbered) (end : Rebuilt) (n : ℕ) → one_by at course r (number_in payload) (change_in (without_number payload)) later ≡ Numbered.All end n
    → IsTaken course r payload later end n
taken course r at payload later end n h = by_bytes (change_in (without_number payload)) refl
  where
    by_next : (c : Change) → change_in (without_number payload) ≡ Some c → (o : Option Course) → course_after course payload ≡ o → by_course at r c later o ≡ Numbered.All end n → IsTaken course r payload later end n
    by_next c e None after k = cc
    by_next c e (Some next) after k =
        let tests = allowed (is_legal r c) at (later next (acted r c)) end n k in
        record { change = c; next = next; spelled = e; after = after; legal = tests.0; rest = tests.1 }

    by_bytes : (o : Option Change) → change_in (without_number payload) ≡ o → IsTaken course r payload later end n
    by_bytes None e =
        let refused : Numbered.Refused at ≡ Numbered.All end n = sym (no_change at course r (number_in payload) later) ∙ ap (λ o. one_by at course r (number_in payload) o later) (sym e) ∙ h in
        cc
    by_bytes (Some c) e = by_next c e (course_after course payload) refl (sym (one_as at course r payload c later e) ∙ h)

pub taken_at : (course : Course) (r : Rebuilt) (at : ℕ) (payload : List ℕ) (c : Change) (next : Course) (later : Course → Rebuilt → Numbered)
    → change_in (without_number payload) ≡ Some c → course_after course payload ≡ Some next → is_legal r c ≡ true
    → one_by at course r (number_in payload) (change_in (without_number payload)) later ≡ later next (acted r c)
taken_at course r at payload c next later spelled after legal =
    one_as at course r payload c later spelled ∙ ap (by_course at r c later) after ∙ ap (λ b. if_allowed b at (later next (acted r c))) legal

-- ---- all records

-- the changes rebuild it, and the numbers end there
pub record Apart (course : Course) (r : Rebuilt) (rs : List Record) (b : Rebuilt) (n : ℕ) : Type 0 where
  pub changes : replayed r (stripped rs) ≡ Replayed.All b
  pub last : Course
  pub numbers : course_of course (bytes_of rs) ≡ Some last
  pub position : position_of last ≡ n

pub apart : (course : Course) (r : Rebuilt) (rs : List Record) (b : Rebuilt) (n : ℕ) → numbered_from course r rs ≡ Numbered.All b n → Apart course r rs b n
apart course r [] b n e =
    let same = all_same (finished r) b (position_of course) n e in
    record { changes = ap Replayed.All same.0; last = course; numbers = refl; position = same.1 }
apart course r (one ∷ rs) b n e =
    let t = taken course r one.at one.payload (λ next s. numbered_from next s rs) b n e in
    let rest = apart t.next (acted r t.change) rs b n t.rest in
    record {
      changes = journals.accepted_at r one.at (change_in (without_number one.payload)) t.change (λ s. replayed s (stripped rs)) t.spelled t.legal ∙ rest.changes;
      last = rest.last;
      numbers = ap (λ (o : Option Course). course_by o (λ next. course_of next (bytes_of rs))) t.after ∙ rest.numbers;
      position = rest.position;
    }

-- a course that goes on to an end
course_next : (o : Option Course) (later : Course → Option Course) (last : Course) → course_by o later ≡ Some last → (next : Course) × (o ≡ Some next) × (later next ≡ Some last)
course_next None later last e = cc
course_next (Some next) later last e = (next, refl, e)

pub together : (course : Course) (r : Rebuilt) (rs : List Record) (b : Rebuilt) (n : ℕ) → Apart course r rs b n → numbered_from course r rs ≡ Numbered.All b n
together course r [] b n a =
    let same = course_same course a.last a.numbers in
    ap (λ x. Numbered.All x (position_of course)) (journals.all_same (finished r) b a.changes) ∙ ap (λ (c : Course). Numbered.All b (position_of c)) same ∙ ap (Numbered.All b) a.position
together course r (one ∷ rs) b n a =
    let t = journals.accepted r one.at (change_in (without_number one.payload)) (λ s. replayed s (stripped rs)) b a.changes in
    let next = course_next (course_after course one.payload) (λ next. course_of next (bytes_of rs)) a.last a.numbers in
    taken_at course r one.at one.payload t.change next.0 (λ next s. numbered_from next s rs) t.spelled next.1 t.legal
    ∙ together next.0 (acted r t.change) rs b n (record { changes = t.rest; last = a.last; numbers = next.2; position = a.position })
