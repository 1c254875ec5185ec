-- What was made of the payloads so far.
use Rattle.std.proofs.Common.{◌≡◌, ℕ, zero, suc, ◌+◌, ◌-◌, ◌≤◌, List, [], ◌∷◌, ◌++◌, length, take, drop, Option, Some, None, refl, sym, ◌∙◌, ap, arith, length-append, length-drop}
use Rattle.std.specs.Prelude.{slice_get}
use Rattle.std.proofs.lemmas.Option.{slice_get_within, get_or_from_slice_get}
use Rattle.std.proofs.Math.ListN.{drop_of_length-le}
use Rattle.std.proofs.Math.Seq.{take-length}
use Rattle.disk_areas.specs.Areas.{Record}
use Rattle.voice_journal.specs.Readings.{record_at}
use Rattle.recovery.specs.Replayed.{bytes_of}
use Rattle.recovery.proofs.RowsGone.{drop_next}
use Rattle.mirror_replay.specs.declared.courses.Course.{Course}
use Rattle.mirror_replay.specs.declared.courses.Course.TheVariants.{Begun}
use Rattle.mirror_replay.specs.declared.stripping.Stripped.{Stripped}
use Rattle.mirror_replay.specs.Numbered.{without_number}
use Rattle.mirror_replay.specs.Stripped.{course_after, front_by, front_of, course_by, course_of, IsStripped}

-- the payloads before one of this index, without their numbers, and the course behind them
pub record IsSoFar (payloads list : List Record) (here : Course) (k : ℕ) : Type 0 where
  pub front : bytes_of list ++ front_of here (bytes_of (drop k payloads)) ≡ front_of Begun (bytes_of payloads)
  pub course : course_of here (bytes_of (drop k payloads)) ≡ course_of Begun (bytes_of payloads)
  pub count : length list ≡ k
  pub most : k ≤ length payloads

pub none_so_far : (payloads : List Record) → IsSoFar payloads [] Begun 0
none_so_far payloads = record { front = refl; course = refl; count = refl; most = omega arith }

next_record : (payloads : List Record) (k : ℕ) (one : Record) → slice_get payloads k ≡ Some one → drop k payloads ≡ one ∷ drop (k + 1) payloads
next_record payloads k one is = drop_next payloads k one (slice_get_within payloads k one is) (sym (get_or_from_slice_get payloads k one one is))

-- the front and the course by the next payload
front_next : (payloads : List Record) (course : Course) (k : ℕ) (one : Record) (o : Option Course) → slice_get payloads k ≡ Some one → o ≡ course_after course one.payload
    → front_of course (bytes_of (drop k payloads)) ≡ front_by o one.payload (λ next. front_of next (bytes_of (drop (k + 1) payloads)))
front_next payloads course k one o is e =
    ap (λ (l : List Record). front_of course (bytes_of l)) (next_record payloads k one is)
    ∙ ap (λ (o : Option Course). front_by o one.payload (λ next. front_of next (bytes_of (drop (k + 1) payloads)))) (sym e)

course_next : (payloads : List Record) (course : Course) (k : ℕ) (one : Record) (o : Option Course) → slice_get payloads k ≡ Some one → o ≡ course_after course one.payload
    → course_of course (bytes_of (drop k payloads)) ≡ course_by o (λ next. course_of next (bytes_of (drop (k + 1) payloads)))
course_next payloads course k one o is e =
    ap (λ (l : List Record). course_of course (bytes_of l)) (next_record payloads k one is)
    ∙ ap (λ (o : Option Course). course_by o (λ next. course_of next (bytes_of (drop (k + 1) payloads)))) (sym e)

bytes_behind : (list : List Record) (one : Record) (rest : List (List ℕ)) → bytes_of (list ++ one ∷ []) ++ rest ≡ bytes_of list ++ (one.payload ∷ rest)
bytes_behind [] one rest = refl
bytes_behind (r ∷ list) one rest = ap (λ (l : List (List ℕ)). r.payload ∷ l) (bytes_behind list one rest)

pub one_more : (payloads list new : List Record) (course next : Course) (k place : ℕ) (payload : List ℕ) (at : ℕ) → IsSoFar payloads list course k → slice_get payloads k ≡ Some (record_at place payload) → Some next ≡ course_after course payload
    → new ≡ list ++ record_at at (without_number payload) ∷ [] → IsSoFar payloads new next (k + 1)
one_more payloads list new course next k place payload at h is e new_is =
    let one = record_at place payload in
    let count = h.count in
    let size = ap length new_is ∙ length-append list (record_at at (without_number payload) ∷ []) in
    let within = slice_get_within payloads k one is in
    record {
      front =
          ap (λ (l : List Record). bytes_of l ++ front_of next (bytes_of (drop (k + 1) payloads))) new_is
          ∙ bytes_behind list (record_at at (without_number payload)) (front_of next (bytes_of (drop (k + 1) payloads)))
          ∙ ap (λ (l : List (List ℕ)). bytes_of list ++ l) (sym (front_next payloads course k one (Some next) is e))
          ∙ h.front;
      course = sym (course_next payloads course k one (Some next) is e) ∙ h.course;
      count = omega (arith, count, size);
      most = omega (arith, within);
    }

-- all behind the number
pub behind : (payload : List ℕ) → take (length payload - 8) (drop 8 payload) ≡ without_number payload
behind payload =
    let left = length-drop 8 payload in
    let size : length payload - 8 ≡ length (drop 8 payload) = omega (arith, left) in
    ap (λ n. take n (drop 8 payload)) size ∙ take-length (drop 8 payload)

append_none : (l : List (List ℕ)) → l ++ [] ≡ l
append_none [] = refl
append_none (x ∷ l) = ap (λ (r : List (List ℕ)). x ∷ r) (append_none l)

-- the number of the next payload may not come
pub stops : (payloads list : List Record) (course : Course) (k place : ℕ) (payload : List ℕ) (stripped : Stripped) → IsSoFar payloads list course k → slice_get payloads k ≡ Some (record_at place payload) → None ≡ course_after course payload
    → stripped.list ≡ list → stripped.course ≡ None → IsStripped payloads stripped
stops payloads list course k place payload stripped h is e list_is course_is =
    let one = record_at place payload in
    let count = ap length list_is ∙ h.count in
    let most = h.most in
    record {
      front =
          ap bytes_of list_is ∙ sym (append_none (bytes_of list)) ∙ ap (λ (l : List (List ℕ)). bytes_of list ++ l) (sym (front_next payloads course k one None is e))
          ∙ h.front;
      course = course_is ∙ sym (course_next payloads course k one None is e) ∙ h.course;
      most = omega (arith, count, most);
    }

past : (payloads : List Record) (k : ℕ) → slice_get payloads k ≡ None → length payloads ≤ k
past [] k is = omega arith
past (one ∷ payloads) zero is = cc
past (one ∷ payloads) (suc k) is = let rest = past payloads k is in omega (arith, rest)

gone_past : (payloads : List Record) (k : ℕ) → slice_get payloads k ≡ None → drop k payloads ≡ []
gone_past payloads k is = drop_of_length-le payloads (past payloads k is)

-- no payload is left
pub ends : (payloads list : List Record) (course : Course) (k : ℕ) (stripped : Stripped) → IsSoFar payloads list course k → slice_get payloads k ≡ None → stripped.list ≡ list → stripped.course ≡ Some course → IsStripped payloads stripped
ends payloads list course k stripped h is list_is course_is =
    let gone = gone_past payloads k is in
    let count = ap length list_is ∙ h.count in
    let most = h.most in
    record {
      front =
          ap bytes_of list_is ∙ sym (append_none (bytes_of list)) ∙ ap (λ (l : List Record). bytes_of list ++ front_of course (bytes_of l)) (sym gone)
          ∙ h.front;
      course = course_is ∙ ap (λ (l : List Record). course_of course (bytes_of l)) (sym gone) ∙ h.course;
      most = omega (arith, count, most);
    }
