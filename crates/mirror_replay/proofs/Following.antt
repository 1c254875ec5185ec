-- Records rebuild what they rebuild without their numbers, as far as these are right.
use Rattle.std.proofs.Common.{◌≡◌, ℕ, suc, ◌+◌, Bool, true, false, List, [], ◌∷◌, length, Option, Some, None, refl, ap, sym, ◌∙◌, arith}
use Rattle.std.proofs.lemmas.List.{length-map}
use Rattle.voice_model.specs.Spelling.{change_in}
use Rattle.voice_model.specs.Replay.{Rebuilt, is_legal, acted}
use Rattle.voice_model.specs.Image as image
use Rattle.voice_model.specs.Image.{Replayed, replayed, by_change}
use Rattle.voice_model.specs.declared.changes.Change.{Change}
use Rattle.disk_areas.specs.Areas.{Record}
use Rattle.recovery.specs.Shown.{numbered}
use Rattle.recovery.specs.Replayed.{bytes_of, records_of}
use Rattle.mirror_replay.specs.declared.courses.Course.{Course}
use Rattle.mirror_replay.specs.declared.courses.Course.TheVariants.{Begun}
use Rattle.mirror_replay.specs.declared.stripping.Stripped.{Stripped}
use Rattle.mirror_replay.specs.Numbered.{Numbered, number_in, without_number, with_number, begins_base, continues_base, position_of, or_refused, if_allowed, numbered_from, numbered_replayed}
use Rattle.mirror_replay.specs.Stripped.{course_after, front_by, front_of, course_by, course_of, IsStripped}
use Rattle.mirror_replay.proofs.KindsOfChanges.{is_change}

-- what a front rebuilds, and the course behind all payloads or the place of the first one behind the front
abbrev pub joined : Replayed → ℕ → Option Course → Numbered
joined (Replayed.Refused at) end course = Numbered.Refused at
joined (Replayed.All r) end None = Numbered.Refused end
joined (Replayed.All r) end (Some course) = Numbered.All r (position_of course)

-- a record, by its number and its change
abbrev one_by : ℕ → Course → Rebuilt → Option ℕ → Option Change → (Course → Rebuilt → Numbered) → Numbered
one_by at course r number change later =
    or_refused at number (λ n. or_refused at change (λ c. or_refused at (with_number course n (begins_base c) (continues_base c)) (λ next. if_allowed (is_legal r c) at (later next (acted r c)))))

no_change : (at : ℕ) (course : Course) (r : Rebuilt) (number : Option ℕ) (later : Course → Rebuilt → Numbered) → one_by at course r number None later ≡ Numbered.Refused at
no_change at course r None later = refl
no_change at course r (Some n) later = refl

-- the front with one payload more
abbrev more : (k : ℕ) (r : Rebuilt) (payload : List ℕ) (payloads : List (List ℕ)) → Option Course → Numbered
more k r payload payloads o =
    let front = front_by o payload (λ next. front_of next payloads) in
    joined (replayed r (numbered k front)) (k + length front) (course_by o (λ next. course_of next payloads))

same_end : (k n : ℕ) → (k + 1) + n ≡ k + suc n
same_end k n = omega arith

-- a payload that spells no change
none : (k : ℕ) (r : Rebuilt) (payload : List ℕ) (payloads : List (List ℕ)) (o : Option Course) → change_in (without_number payload) ≡ None → more k r payload payloads o ≡ Numbered.Refused k
none k r payload payloads None e = ap Numbered.Refused (omega arith)
none k r payload payloads (Some next) e =
    let front = front_of next payloads in
    ap (λ o. joined (by_change r k o (λ s. replayed s (numbered (k + 1) front))) (k + length (without_number payload ∷ front)) (course_of next payloads)) e

-- records behind one of these numbers
abbrev Goes : ℕ → List (List ℕ) → Type 0
Goes k payloads = (course : Course) (r : Rebuilt) → numbered_from course r (numbered k payloads) ≡ joined (replayed r (numbered k (front_of course payloads))) (k + length (front_of course payloads)) (course_of course payloads)

by_legal : (k : ℕ) (r : Rebuilt) (payload : List ℕ) (payloads : List (List ℕ)) (next : Course) (b : Bool) → Goes (k + 1) payloads → if_allowed b k (numbered_from next r (numbered (k + 1) payloads))
    ≡ joined (image.if_allowed b k (replayed r (numbered (k + 1) (front_of next payloads)))) (k + length (without_number payload ∷ front_of next payloads)) (course_of next payloads)
by_legal k r payload payloads next true h =
    let front = front_of next payloads in
    h next r ∙ ap (λ n. joined (replayed r (numbered (k + 1) front)) n (course_of next payloads)) (same_end k (length front))
by_legal k r payload payloads next false h = refl

-- a payload that spells a change
some : (k : ℕ) (r : Rebuilt) (payload : List ℕ) (payloads : List (List ℕ)) (c : Change) (o : Option Course) → change_in (without_number payload) ≡ Some c → Goes (k + 1) payloads
    → or_refused k o (λ next. if_allowed (is_legal r c) k (numbered_from next (acted r c) (numbered (k + 1) payloads))) ≡ more k r payload payloads o
some k r payload payloads c None e h = ap Numbered.Refused (omega arith)
some k r payload payloads c (Some next) e h =
    let front = front_of next payloads in
    by_legal k (acted r c) payload payloads next (is_legal r c) h
    ∙ ap (λ o. joined (by_change r k o (λ s. replayed s (numbered (k + 1) front))) (k + length (without_number payload ∷ front)) (course_of next payloads)) (sym e)

one : (k : ℕ) (course : Course) (r : Rebuilt) (payload : List ℕ) (payloads : List (List ℕ)) (o : Option Change) → change_in (without_number payload) ≡ o → Goes (k + 1) payloads
    → one_by k course r (number_in payload) (change_in (without_number payload)) (λ next s. numbered_from next s (numbered (k + 1) payloads)) ≡ more k r payload payloads (course_after course payload)
one k course r payload payloads None e h =
    let later : Course → Rebuilt → Numbered = λ next s. numbered_from next s (numbered (k + 1) payloads) in
    ap (λ o. one_by k course r (number_in payload) o later) e ∙ no_change k course r (number_in payload) later ∙ sym (none k r payload payloads (course_after course payload) e)
one k course r payload payloads (Some c) e h =
    let later : Course → Rebuilt → Numbered = λ next s. numbered_from next s (numbered (k + 1) payloads) in
    let is = is_change course payload c e in
    ap (λ o. one_by k course r (number_in payload) o later) e ∙ ap (λ n. one_by k course r n (Some c) later) is.number
    ∙ ap (λ o. or_refused k o (λ next. if_allowed (is_legal r c) k (later next (acted r c)))) (sym is.after)
    ∙ some k r payload payloads c (course_after course payload) e h

pub goes_on : (k : ℕ) (course : Course) (r : Rebuilt) (payloads : List (List ℕ)) → numbered_from course r (numbered k payloads) ≡ joined (replayed r (numbered k (front_of course payloads))) (k + length (front_of course payloads)) (course_of course payloads)
goes_on k course r [] = refl
goes_on k course r (payload ∷ payloads) = one k course r payload payloads (change_in (without_number payload)) refl (λ next s. goes_on (k + 1) next s payloads)

-- payloads rebuild what their front without numbers rebuilds, if the front is all of them
pub follows : (r : Rebuilt) (payloads : List Record) (stripped : Stripped) → IsStripped payloads stripped → numbered_replayed r (records_of payloads) ≡ joined (replayed r (records_of stripped.list)) (length stripped.list) stripped.course
follows r payloads stripped is =
    let course = course_of Begun (bytes_of payloads) in
    let same : length (bytes_of stripped.list) ≡ length stripped.list = length-map stripped.list (λ (one : Record). one.payload) in
    let size : 0 + length (bytes_of stripped.list) ≡ length stripped.list = omega (arith, same) in
    goes_on 0 Begun r (bytes_of payloads)
    ∙ ap (λ (l : List (List ℕ)). joined (replayed r (numbered 0 l)) (0 + length l) course) (sym is.front)
    ∙ ap (λ n. joined (replayed r (records_of stripped.list)) n course) size
    ∙ ap (λ (o : Option Course). joined (replayed r (records_of stripped.list)) (length stripped.list) o) (sym is.course)

pub front_refused : (r : Rebuilt) (payloads : List Record) (stripped : Stripped) (k : ℕ) → IsStripped payloads stripped → replayed r (records_of stripped.list) ≡ Replayed.Refused k → numbered_replayed r (records_of payloads) ≡ Numbered.Refused k
front_refused r payloads stripped k is e = follows r payloads stripped is ∙ ap (λ o. joined o (length stripped.list) stripped.course) e

none_end : (s : Rebuilt) (end : ℕ) (o : Option Course) → ((course : Course) → o ≡ Some course → ⊥) → joined (Replayed.All s) end o ≡ Numbered.Refused end
none_end s end None none = refl
none_end s end (Some course) none = absurd (none course refl)

pub number_refused : (r s : Rebuilt) (payloads : List Record) (stripped : Stripped) (k : ℕ) → IsStripped payloads stripped → replayed r (records_of stripped.list) ≡ Replayed.All s → ((course : Course) → stripped.course ≡ Some course → ⊥) → length stripped.list ≡ k
    → numbered_replayed r (records_of payloads) ≡ Numbered.Refused k
number_refused r s payloads stripped k is e none size =
    follows r payloads stripped is ∙ ap (λ o. joined o (length stripped.list) stripped.course) e ∙ none_end s (length stripped.list) stripped.course none ∙ ap Numbered.Refused size

pub all_followed : (r s : Rebuilt) (payloads : List Record) (stripped : Stripped) (course : Course) → IsStripped payloads stripped → replayed r (records_of stripped.list) ≡ Replayed.All s → stripped.course ≡ Some course
    → numbered_replayed r (records_of payloads) ≡ Numbered.All s (position_of course)
all_followed r s payloads stripped course is e course_is =
    follows r payloads stripped is ∙ ap (λ o. joined o (length stripped.list) stripped.course) e ∙ ap (λ (o : Option Course). joined (Replayed.All s) (length stripped.list) o) course_is
