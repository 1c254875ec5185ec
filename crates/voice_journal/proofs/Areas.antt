-- What is read of an area is what the image says.
use Rattle.std.proofs.Common.{◌≡◌, ℕ, ◌+◌, ◌-◌, ◌*◌, ◌≤◌, List, length, get_or, take, drop, refl, ap, sym, ◌∙◌, subst, arith, Bool, true, false, Option, Some, cond}
use Rattle.std.specs.Prelude.{not, ◌==◌}
use Rattle.std.proofs.lemmas.Bool.{ne_eqb}
use Rattle.voice_units.specs.declared.shapes.Shape.{Shape}
use Rattle.voice_units.specs.Spots.{slice}
use Rattle.voice_outside.specs.Disk.{segment}
use Rattle.disk_areas.specs.Areas.{Head, Records, Journal, current_head, records_from, by_records, by_head, journal_in}
use Rattle.voice_journal.specs.Readings.{extent, other_start, OtherIs}
use Rattle.voice_journal.specs.Places.{area_start}
use Rattle.voice_journal.specs.Parsed.{head_of, IsOther}
use Rattle.voice_journal.proofs.Segments.{segment_shifted, get_or-segment}
use Rattle.voice_journal.proofs.Slices.{segment_is, length-segment}
use Rattle.disk_areas.proofs.Digits.{rest_is}

area_records : (image area : List ℕ) (start n : ℕ) → start + n ≤ length image → 16 ≤ n → area ≡ segment image start n → slice image (start + 16) (n - 16) ≡ drop 16 area
area_records image area start n fits low is =
    let size : length area ≡ n = ap length is ∙ length-segment image start n in
    let rest : n - 16 ≡ length area - 16 = ap (λ (m : ℕ). m - 16) (sym size) in
    segment_is image (start + 16) (n - 16) (omega arith)
    ∙ segment_shifted image area (start + 16) 16 (n - 16)
    (λ j lt. let place : start + 16 + j ≡ start + (16 + j) = omega arith in ap (λ (m : ℕ). get_or image m 0) place ∙ sym (get_or-segment image start n (16 + j) (omega arith)) ∙ ap (λ (l : List ℕ). get_or l (16 + j) 0) (sym is))
    ∙ sym (segment_is area 16 (n - 16) (omega (arith, size)))
    ∙ ap (λ (m : ℕ). take m (drop 16 area)) rest ∙ rest_is 16 area

pub area_within : (shape : Shape) (second : Bool) → area_start shape second + shape.area ≤ 64 + 2 * shape.area
area_within shape true = omega arith
area_within shape false = omega arith

-- what the heads of an image say of its areas, and the bytes of the current one
pub record IsArea (image area : List ℕ) (shape : Shape) (second is_closed : Bool) (epoch : ℕ) : Type 0 where
  pub fits : extent shape ≤ length image
  pub shape_is : journal_in image ≡ by_head shape image (current_head shape image)
  pub head : current_head shape image ≡ Some (head_of shape second epoch)
  pub other : IsOther is_closed (area_start shape (not second)) image epoch
  pub area_is : area ≡ segment image (area_start shape second) shape.area

pub reads_opened : (image area : List ℕ) (shape : Shape) (second is_closed : Bool) (epoch : ℕ) (rs : Records) → IsArea image area shape second is_closed epoch → records_from (length area) (length area) 16 (drop 16 area) ≡ rs
    → journal_in image ≡ by_records shape (head_of shape second epoch) rs
reads_opened image area shape second is_closed epoch rs is read =
    let h : Head = head_of shape second epoch in
    let within = area_within shape second in
    let fits = is.fits in
    let least = shape.conditions.area_least in
    let size : length area ≡ shape.area = ap length is.area_is ∙ length-segment image (area_start shape second) shape.area in
    is.shape_is ∙ ap (λ (o : Option Head). by_head shape image o) is.head
    ∙ ap (λ (l : List ℕ). by_records shape h (records_from shape.area shape.area 16 l)) (area_records image area (area_start shape second) shape.area (omega (arith, within, fits)) (omega (arith, least)) is.area_is)
    ∙ ap (λ (n : ℕ). by_records shape h (records_from n n 16 (drop 16 area))) (sym size)
    ∙ ap (λ (x : Records). by_records shape h x) read

other_place : (shape : Shape) (second : Bool) → cond (area_start shape second == 64) (64 + shape.area) 64 ≡ area_start shape (not second)
other_place shape false = refl
other_place shape true = ap (λ (t : Bool). cond t (64 + shape.area) 64) (ne_eqb (64 + shape.area) 64 (λ e. let least = shape.conditions.area_least in omega (arith, e, least)))

known : (closed : Bool) (r : Journal) (image : List ℕ) → IsOther closed (other_start r) image r.epoch → OtherIs closed r image
known true r image h = h
known false r image h = h

pub other_opened : (closed : Bool) (r : Journal) (second : Bool) (image : List ℕ) → r.start ≡ area_start r.shape second → IsOther closed (area_start r.shape (not second)) image r.epoch → OtherIs closed r image
other_opened closed r second image at h =
    known closed r image (subst (λ (n : ℕ). IsOther closed n image r.epoch) (sym (ap (λ (n : ℕ). cond (n == 64) (64 + r.shape.area) 64) at ∙ other_place r.shape second)) h)
