-- The first 64 bytes of an image.
use Rattle.std.proofs.Common.{◌≡◌, ℕ, ◌+◌, ◌-◌, ◌<◌, ◌≤◌, List, length, take, get_or, refl, ap, ◌∙◌, subst, arith, Bool, true, false, Option, Some, None, cond}
use Rattle.std.specs.Prelude.{◌&&◌, ◌||◌, ◌==◌, nat_le, bytes_eq}
use Rattle.std.specs.List.{list_all}
use Rattle.std.proofs.lemmas.Bool.{leb-true}
use Rattle.voice_units.specs.declared.shapes.Shape.{Shape}
use Rattle.voice_units.specs.Spots.{slice}
use Rattle.disk_areas.specs.Numbers.{number_at}
use Rattle.disk_areas.specs.Areas.{graces_in, shape_in, if_fits, rest_is_zero, superblock_end, current_head, JournalReading, Journal, unless_damaged, by_shape, by_head, magic, journal_in}
use Rattle.voice_journal.specs.Readings.{extent, Reads}
use Rattle.voice_journal.proofs.Slices.{slice_same, number_same}

-- the first 64 bytes of an image spell a shape
pub record Front (image : List ℕ) (shape : Shape) : Type 0 where
  pub magic_is : (nat_le 64 (length image) && bytes_eq (take 8 image) magic) ≡ true
  pub version_is : ((number_at 4 8 image == 1) || (number_at 4 8 image == 2)) ≡ true
  pub shape_is : shape_in (number_at 4 8 image) image ≡ Some shape
  pub rest_is : rest_is_zero (number_at 4 8 image) image ≡ true

pub when_true : (b : Bool) (place : ℕ) (later : JournalReading) → b ≡ true → unless_damaged b place later ≡ later
when_true true place later h = refl
when_true false place later h = cc

pub when_false : (b : Bool) (place : ℕ) (later : JournalReading) → b ≡ false → unless_damaged b place later ≡ JournalReading.Damaged place
when_false true place later h = cc
when_false false place later h = refl

undamaged : (b : Bool) (place : ℕ) (later : JournalReading) (r : Journal) → unless_damaged b place later ≡ JournalReading.Stands r → (b ≡ true) × (later ≡ JournalReading.Stands r)
undamaged true place later r h = (refl, h)
undamaged false place later r h = cc

pub by_front : (image : List ℕ) (shape : Shape) → Front image shape → journal_in image ≡ by_head shape image (current_head shape image)
unfolding journal_in
by_front image shape f =
    when_true _ 0 _ f.magic_is ∙ when_true _ 8 _ f.version_is ∙ ap (λ (o : Option Shape). by_shape (number_at 4 8 image) image o) f.shape_is ∙ when_true _ (superblock_end (number_at 4 8 image)) _ f.rest_is

shaped : (version : ℕ) (image : List ℕ) (o : Option Shape) (r : Journal) → by_shape version image o ≡ JournalReading.Stands r
    → (shape : Shape) × (o ≡ Some shape) × (rest_is_zero version image ≡ true) × (by_head shape image (current_head shape image) ≡ JournalReading.Stands r)
shaped version image None r h = cc
shaped version image (Some shape) r h = let parts = undamaged (rest_is_zero version image) (superblock_end version) (by_head shape image (current_head shape image)) r h in (shape, refl, parts.0, parts.1)

-- an image that reads has a front, and then reads by its heads
pub front_of : (image : List ℕ) (r : Journal) → Reads image r → (shape : Shape) × Front image shape × (by_head shape image (current_head shape image) ≡ JournalReading.Stands r)
unfolding journal_in
front_of image r h =
    let version = number_at 4 8 image in
    let first = undamaged (nat_le 64 (length image) && bytes_eq (take 8 image) magic) 0 (unless_damaged ((version == 1) || (version == 2)) 8 (by_shape version image (shape_in version image))) r h in
    let second = undamaged ((version == 1) || (version == 2)) 8 (by_shape version image (shape_in version image)) r first.1 in
    let third = shaped version image (shape_in version image) r second.1 in
    (third.0, record { magic_is = first.0; version_is = second.0; shape_is = third.1; rest_is = third.2 }, third.3)

left_true : (a b : Bool) → (a && b) ≡ true → a ≡ true
left_true true b h = refl
left_true false b h = h

pub front_length : (image : List ℕ) (shape : Shape) → Front image shape → 64 ≤ length image
front_length image shape f = leb-true 64 (length image) (left_true _ _ f.magic_is)

fits_then : (size : ℕ) (o : Option Shape) (shape : Shape) → if_fits size o ≡ Some shape → extent shape ≤ size
fits_then size None shape h = cc
fits_then size (Some s) shape h = split (nat_le (extent s) size) refl h
  where
    split : (b : Bool) → nat_le (extent s) size ≡ b → cond b (Some s) None ≡ Some shape → extent shape ≤ size
    split true t e = let same : s ≡ shape = cc in subst (λ (x : Shape). extent x ≤ size) same (leb-true (extent s) size t)
    split false t e = cc

-- a shape that an image has fits its size
pub front_size : (image : List ℕ) (shape : Shape) → Front image shape → extent shape ≤ length image
unfolding shape_in
front_size image shape f = fits_then (length image) _ shape f.shape_is

module _ (a b : List ℕ) (long : 64 ≤ length a) (len : length b ≡ length a) (same : (i : ℕ) → i < 64 → get_or b i 0 ≡ get_or a i 0) where
  part : (at n : ℕ) → at + n ≤ 64 → slice b at n ≡ slice a at n
  part at n fits = slice_same b a at n len (omega arith) (λ i lo hi. same i (omega arith))

  number : (w at : ℕ) → at + w ≤ 64 → number_at w at b ≡ number_at w at a
  number w at fits = number_same b a at w len (omega arith) (λ i lo hi. same i (omega arith))

  graces_same : (version : ℕ) → graces_in version b ≡ graces_in version a
  unfolding graces_in
  graces_same version = rw (number 4 24 (omega arith), number 4 30 (omega arith), number 4 34 (omega arith), number 4 38 (omega arith)) refl

  shape_same : (version : ℕ) → shape_in version b ≡ shape_in version a
  unfolding shape_in
  shape_same version = rw (len, number 4 12 (omega arith), number 4 16 (omega arith), number 4 20 (omega arith), number 2 28 (omega arith), graces_same version) refl

  ends : (version : ℕ) → superblock_end version ≤ 64
  ends version = at_most (version == 1)
    where
      at_most : (t : Bool) → cond t 30 42 ≤ 64
      at_most true = omega arith
      at_most false = omega arith

  rest_same : (version : ℕ) → rest_is_zero version b ≡ rest_is_zero version a
  unfolding rest_is_zero
  rest_same version = ap (λ (l : List ℕ). list_all (λ x. x == 0) l) (part (superblock_end version) (64 - superblock_end version) (let e = ends version in omega arith))

  -- the front is the first 64 bytes and the length alone
  pub front_same : (shape : Shape) → Front a shape → Front b shape
  front_same shape f =
      let v : number_at 4 8 b ≡ number_at 4 8 a = number 4 8 (omega arith) in
      record {
        magic_is = ap (λ (n : ℕ). nat_le 64 n && bytes_eq (take 8 b) magic) len ∙ ap (λ (l : List ℕ). nat_le 64 (length a) && bytes_eq l magic) (part 0 8 (omega arith)) ∙ f.magic_is;
        version_is = ap (λ (n : ℕ). (n == 1) || (n == 2)) v ∙ f.version_is;
        shape_is = ap (λ (n : ℕ). shape_in n b) v ∙ shape_same (number_at 4 8 a) ∙ f.shape_is;
        rest_is = ap (λ (n : ℕ). rest_is_zero n b) v ∙ rest_same (number_at 4 8 a) ∙ f.rest_is;
      }
