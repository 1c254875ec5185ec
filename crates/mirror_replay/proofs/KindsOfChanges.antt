-- The kind byte of a spelled change says what the change is to a base.
use Rattle.std.proofs.Common.{◌≡◌, ℕ, ◌≤◌, List, length, Some, refl, ap, ◌∙◌, arith, length-drop, true, cond}
use Rattle.std.specs.Prelude.{nat_le, None}
use Rattle.std.proofs.lemmas.Bool.Decides.{nat_tests}
use Rattle.disk_areas.specs.Numbers.{number_at}
use Rattle.voice_model.specs.Spelling.{spelling, change_in}
use Rattle.voice_model.specs.declared.changes.Change.{Change}
use Rattle.voice_model.specs.declared.changes.Change.TheVariants as changes
use Rattle.voice_model.proofs.ReadAgain.{read_is_spelled}
use Rattle.mirror_replay.specs.declared.courses.Course.{Course}
use Rattle.mirror_replay.specs.Numbered.{number_in, without_number, begins_base, continues_base, with_number}
use Rattle.mirror_replay.specs.Stripped.{kind_of, is_first_kind, is_later_kind, course_after}

first_kind : (c : Change) → is_first_kind (kind_of (spelling c)) ≡ begins_base c
first_kind (changes.Recorded id len addresses) = refl
first_kind (changes.Edited id pieces) = refl
first_kind (changes.Retained class key id note) = refl
first_kind (changes.Forgotten class key) = refl
first_kind (changes.Census keys) = refl
first_kind (changes.Swept ids) = refl
first_kind (changes.Advanced moment) = refl
first_kind (changes.Base now next) = refl
first_kind (changes.File file pairs) = refl
first_kind (changes.Rope id idle pieces) = refl
first_kind (changes.Wide id len addresses) = refl
first_kind (changes.Base2 now next) = refl
first_kind (changes.File2 file pairs) = refl
first_kind (changes.Rope2 id idle last pieces) = refl

later_kind : (c : Change) → is_later_kind (kind_of (spelling c)) ≡ continues_base c
later_kind (changes.Recorded id len addresses) = refl
later_kind (changes.Edited id pieces) = refl
later_kind (changes.Retained class key id note) = refl
later_kind (changes.Forgotten class key) = refl
later_kind (changes.Census keys) = refl
later_kind (changes.Swept ids) = refl
later_kind (changes.Advanced moment) = refl
later_kind (changes.Base now next) = refl
later_kind (changes.File file pairs) = refl
later_kind (changes.Rope id idle pieces) = refl
later_kind (changes.Wide id len addresses) = refl
later_kind (changes.Base2 now next) = refl
later_kind (changes.File2 file pairs) = refl
later_kind (changes.Rope2 id idle last pieces) = refl

-- a spelling has its kind
kind_stands : (c : Change) → 1 ≤ length (spelling c)
kind_stands (changes.Recorded id len addresses) = omega arith
kind_stands (changes.Edited id pieces) = omega arith
kind_stands (changes.Retained class key id note) = omega arith
kind_stands (changes.Forgotten class key) = omega arith
kind_stands (changes.Census keys) = omega arith
kind_stands (changes.Swept ids) = omega arith
kind_stands (changes.Advanced moment) = omega arith
kind_stands (changes.Base now next) = omega arith
kind_stands (changes.File file pairs) = omega arith
kind_stands (changes.Rope id idle pieces) = omega arith
kind_stands (changes.Wide id len addresses) = omega arith
kind_stands (changes.Base2 now next) = omega arith
kind_stands (changes.File2 file pairs) = omega arith
kind_stands (changes.Rope2 id idle last pieces) = omega arith

leb : (m n : ℕ) → m ≤ n → nat_le m n ≡ true
leb m n h = grind (arith, nat_tests)

-- where a change stands behind a number, both readings of the payload agree
pub record IsChange (course : Course) (payload : List ℕ) (c : Change) : Type 0 where
  pub number : number_in payload ≡ Some (number_at 8 0 payload)
  pub after : course_after course payload ≡ with_number course (number_at 8 0 payload) (begins_base c) (continues_base c)

pub is_change : (course : Course) (payload : List ℕ) (c : Change) → change_in (without_number payload) ≡ Some c → IsChange course payload c
is_change course payload c h =
    let spelled = (read_is_spelled (without_number payload) c h).bytes_of in
    let long = kind_stands c in
    let size = ap length spelled in
    let left = length-drop 8 payload in
    let n = number_at 8 0 payload in
    record {
      number = ap (λ b. cond b (Some n) None) (leb 8 (length payload) (omega (arith, long, size, left)));
      after =
          ap (λ b. cond b (with_number course n (is_first_kind (kind_of (without_number payload))) (is_later_kind (kind_of (without_number payload)))) None) (leb 9 (length payload) (omega (arith, long, size, left)))
          ∙ ap (λ (l : List ℕ). with_number course n (is_first_kind (kind_of l)) (is_later_kind (kind_of l))) spelled
          ∙ ap (λ b. with_number course n b (is_later_kind (kind_of (spelling c)))) (first_kind c)
          ∙ ap (λ b. with_number course n (begins_base c) b) (later_kind c);
    }
