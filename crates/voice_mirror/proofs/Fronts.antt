-- The first 12 bytes of an image.
use Rattle.std.proofs.Common.{◌≡◌, ℕ, ◌+◌, ◌<◌, ◌≤◌, Bool, true, false, List, length, take, get_or, refl, sym, ◌∙◌, ap, arith}
use Rattle.std.specs.Prelude.{◌&&◌, ◌==◌, nat_le, bytes_eq}
use Rattle.std.proofs.lemmas.Bool.{leb-true, le-leb}
use Rattle.voice_units.specs.Spots.{slice}
use Rattle.voice_outside.specs.Disk.{segment}
use Rattle.disk_areas.specs.Numbers.{spelled_number, number_at}
use Rattle.disk_areas.specs.Areas.{magic}
use Rattle.voice_journal.proofs.Segments.{segment_same, get_or-segment}
use Rattle.voice_journal.proofs.Slices.{segment_is, length-segment}
use Rattle.mirror_readings.specs.Readings.{is_first_version}

-- an image that begins with these bytes is one of version 1 as they say
module _ (image front : List ℕ) (long : 64 ≤ length image) (is : segment image 0 12 ≡ front) where
  size_is : length front ≡ 12
  size_is = sym (ap length is) ∙ length-segment image 0 12

  byte : (j : ℕ) → j < 12 → get_or front j 0 ≡ get_or image j 0
  byte j lt = let z : 0 + j ≡ j = omega arith in ap (λ (l : List ℕ). get_or l j 0) (sym is) ∙ get_or-segment image 0 12 j lt ∙ ap (λ (i : ℕ). get_or image i 0) z

  part : (at n : ℕ) → at + n ≤ 12 → slice image at n ≡ slice front at n
  part at n fits = segment_is image at n (omega (arith, long)) ∙ segment_same image front at n (λ i lo hi. sym (byte i (omega arith))) ∙ sym (segment_is front at n (omega (arith, size_is)))

  pub first_seen : is_first_version image ≡ (bytes_eq (take 8 front) magic && (number_at 4 8 front == 1))
  unfolding is_first_version
  first_seen =
      ap (λ t. t && bytes_eq (take 8 image) magic && (number_at 4 8 image == 1)) (le-leb 64 (length image) long)
      ∙ ap (λ (l : List ℕ). bytes_eq l magic && (number_at 4 8 image == 1)) (part 0 8 (omega arith))
      ∙ ap (λ n. bytes_eq (take 8 front) magic && (n == 1)) (ap spelled_number (part 8 4 (omega arith)))

-- a short one is none
pub short_is_none : (image : List ℕ) → length image < 64 → is_first_version image ≡ false
unfolding is_first_version
short_is_none image short = ap (λ t. t && bytes_eq (take 8 image) magic && (number_at 4 8 image == 1)) (too_short (nat_le 64 (length image)) refl)
  where
    too_short : (t : Bool) → nat_le 64 (length image) ≡ t → t ≡ false
    too_short true e = absurd (let le = leb-true 64 (length image) e in omega (arith, le, short))
    too_short false e = refl
