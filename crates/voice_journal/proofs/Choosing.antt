-- The heads of two areas, read from their 16 bytes.
use Rattle.std.proofs.Common.{◌≡◌, ℕ, ◌+◌, ◌^◌, ◌<◌, ◌≤◌, List, length, get_or, refl, ap, sym, ◌∙◌, arith, Bool, true, false, Some, None, cond}
use Rattle.std.specs.Prelude.{not, nat_eq, ◌==◌, nat_lt}
use Rattle.std.proofs.lemmas.Bool.{eqb-true, eqb-false, eq-eqb}
use Rattle.voice_units.specs.declared.shapes.Shape.{Shape}
use Rattle.voice_outside.specs.Disk.{segment}
use Rattle.disk_areas.specs.Numbers.{spelled_number, number_at}
use Rattle.disk_areas.specs.Areas.{Head, is_head, head_at, newer, current_head}
use Rattle.voice_journal.specs.Places.{area_start}
use Rattle.voice_journal.specs.Parsed.{HasHeads, head_of, IsOther}
use Rattle.voice_journal.proofs.Segments.{segment_shifted, get_or-segment}
use Rattle.voice_journal.proofs.Slices.{number_segment, number_byte, length-segment}
use Rattle.voice_journal.proofs.Newer.{newer_first, newer_second}
use Rattle.voice_journal.proofs.Moves.{Counts, counts, is_counted}

abbrev head_with : ℕ → ℕ → Head
head_with s e = record { start = s; epoch = e }

pub not_counted : (image : List ℕ) (start : ℕ) → (Counts image start → ⊥) → is_head image start ≡ false
not_counted image start never = by (is_head image start) refl
  where
    by : (b : Bool) → is_head image start ≡ b → b ≡ false
    by true e = absurd (never (counts image start e))
    by false e = refl

-- a part of an image, seen by itself
module _ (image bytes : List ℕ) (start : ℕ) (is : segment image start 16 ≡ bytes) (within : start + 16 ≤ length image) where
  size : length bytes ≡ 16
  size = sym (ap length is) ∙ length-segment image start 16

  byte : (j : ℕ) → j < 16 → get_or bytes j 0 ≡ get_or image (start + j) 0
  byte j lt = ap (λ (l : List ℕ). get_or l j 0) (sym is) ∙ get_or-segment image start 16 j lt

  number : (w i : ℕ) → i + w ≤ 16 → number_at w (start + i) image ≡ number_at w i bytes
  number w i low =
      number_segment image (start + i) w (omega arith)
      ∙ ap spelled_number (segment_shifted image bytes (start + i) i w (λ j lt. let place : start + i + j ≡ start + (i + j) = omega arith in ap (λ (n : ℕ). get_or image n 0) place ∙ sym (byte (i + j) (omega arith))))
      ∙ sym (number_segment bytes i w (omega (arith, size)))

  pub gate_seen : get_or image start 0 ≡ get_or bytes 0 0
  gate_seen = let place : start ≡ start + 0 = omega arith in ap (λ (n : ℕ). get_or image n 0) place ∙ sym (byte 0 (omega arith))

  pub epoch_seen : number_at 8 (start + 8) image ≡ number_at 8 8 bytes
  epoch_seen = number 8 8 (omega arith)

  pub head_seen : is_head image start ≡ is_head bytes 0
  unfolding is_head
  head_seen =
      let place : start ≡ start + 0 = omega arith in
      let gate : number_at 1 start image ≡ number_at 1 0 bytes = ap (λ (n : ℕ). number_at 1 n image) place ∙ number 1 0 (omega arith) in
      rw (gate, epoch_seen) refl

module _ (shape : Shape) (first second image : List ℕ) (heads : HasHeads shape first second image) where
  low : 64 + 16 ≤ length image
  low = let w = heads.within in omega arith

  high : 64 + shape.area + 16 ≤ length image
  high = let w = heads.within in omega arith

  head_a : is_head image 64 ≡ is_head first 0
  head_a = head_seen image first 64 heads.first_is low

  head_b : is_head image (64 + shape.area) ≡ is_head second 0
  head_b = head_seen image second (64 + shape.area) heads.second_is high

  epoch_a : number_at 8 (64 + 8) image ≡ number_at 8 8 first
  epoch_a = epoch_seen image first 64 heads.first_is low

  epoch_b : number_at 8 (64 + shape.area + 8) image ≡ number_at 8 8 second
  epoch_b = epoch_seen image second (64 + shape.area) heads.second_is high

  same_head : (s e : ℕ) (h : Head) → h.start ≡ s → h.epoch ≡ e → h ≡ record { start = s; epoch = e }
  same_head s e h p q = ap (λ (n : ℕ). head_with n h.epoch) p ∙ ap (λ (n : ℕ). head_with s n) q

  pub first_wins : (t : Bool) (epoch : ℕ) → t ≡ false → is_head first 0 ≡ true → epoch ≡ number_at 8 8 first → (is_head second 0 ≡ true → number_at 8 8 second < epoch) → current_head shape image ≡ Some (head_of shape t epoch)
  unfolding current_head
  first_wins true epoch e h is wins = cc
  first_wins false epoch e h is wins =
      newer_first (is_head image 64) (is_head image (64 + shape.area)) (head_at image 64) (head_at image (64 + shape.area)) (head_a ∙ h) (λ k. let lt = wins (sym head_b ∙ k) in omega (arith, lt, is, epoch_a, epoch_b))
      ∙ ap (λ (x : Head). Some x) (same_head 64 epoch (head_at image 64) refl (epoch_a ∙ sym is))

  pub second_wins : (t : Bool) (epoch : ℕ) → t ≡ true → is_head second 0 ≡ true → epoch ≡ number_at 8 8 second → (is_head first 0 ≡ true → number_at 8 8 first < epoch) → current_head shape image ≡ Some (head_of shape t epoch)
  unfolding current_head
  second_wins false epoch e h is wins = cc
  second_wins true epoch e h is wins =
      newer_second (is_head image 64) (is_head image (64 + shape.area)) (head_at image 64) (head_at image (64 + shape.area)) (head_b ∙ h) (λ k. let lt = wins (sym head_a ∙ k) in omega (arith, lt, is, epoch_a, epoch_b))
      ∙ ap (λ (x : Head). Some x) (same_head (64 + shape.area) epoch (head_at image (64 + shape.area)) refl (epoch_b ∙ sym is))

  none_of : (a b : Bool) (x y : Head) → a ≡ false → b ≡ false → newer a b x y ≡ None
  none_of false false x y h k = refl
  none_of true b x y h k = cc
  none_of false true x y h k = cc

  none_of_equal : (a b e : Bool) (x y : Head) → a ≡ true → b ≡ true → (x.epoch == y.epoch) ≡ e → e ≡ true → newer a b x y ≡ None
  none_of_equal false b e x y h k i t = cc
  none_of_equal true false e x y h k i t = cc
  none_of_equal true true e x y h k i t = ap (λ (z : Bool). cond z None (Some (record { start = cond (nat_lt x.epoch y.epoch) y.start x.start; epoch = cond (nat_lt x.epoch y.epoch) y.epoch x.epoch }))) (i ∙ t)

  pub nobody : is_head first 0 ≡ false → is_head second 0 ≡ false → current_head shape image ≡ None
  unfolding current_head
  nobody h k = none_of (is_head image 64) (is_head image (64 + shape.area)) (head_at image 64) (head_at image (64 + shape.area)) (head_a ∙ h) (head_b ∙ k)

  pub equal_epochs : is_head first 0 ≡ true → is_head second 0 ≡ true → number_at 8 8 first ≡ number_at 8 8 second → current_head shape image ≡ None
  unfolding current_head
  equal_epochs h k e =
      none_of_equal (is_head image 64) (is_head image (64 + shape.area)) true (head_at image 64) (head_at image (64 + shape.area)) (head_a ∙ h) (head_b ∙ k)
      (eq-eqb _ _ (epoch_a ∙ e ∙ sym epoch_b)) refl

  pub second_older : (t : Bool) (epoch : ℕ) → t ≡ false → number_at 8 8 second < epoch → IsOther false (area_start shape (not t)) image epoch
  second_older true epoch e lt = cc
  second_older false epoch e lt = λ most. omega (arith, lt, epoch_b)

  pub first_older : (t : Bool) (epoch : ℕ) → t ≡ true → number_at 8 8 first < epoch → IsOther false (area_start shape (not t)) image epoch
  first_older false epoch e lt = cc
  first_older true epoch e lt = λ most. omega (arith, lt, epoch_a)

  -- a head that doesn't count is closed, or has an epoch out of range
  out_of_range : (bytes : List ℕ) (start epoch : ℕ) (b : Bool) → start + 16 ≤ length image → segment image start 16 ≡ bytes → is_head bytes 0 ≡ false → 1 ≤ epoch → nat_eq (get_or bytes 0 0) 1 ≡ b → IsOther (not b) start image epoch
  out_of_range bytes start epoch true within is unread some gate =
      let one : get_or bytes 0 0 ≡ 1 = eqb-true (get_or bytes 0 0) 1 gate in
      let n = epoch_seen image bytes start is within in
      let head = head_seen image bytes start is within in
      let open_gate : number_at 1 start image ≡ 1 = number_byte image start (omega arith) ∙ gate_seen image bytes start is within ∙ one in
      let never : 1 ≤ number_at 8 (start + 8) image → number_at 8 (start + 8) image ≤ 2 ^ 48 → ⊥ =
      λ from to. differ (sym (head ∙ unread) ∙ is_counted image start (record { gate = open_gate; some = from; limit = to })) in
      λ most. small (number_at 8 (start + 8) image) epoch some (λ from. never from most)
    where
      differ : false ≡ true → ⊥
      differ e = cc

      small : (n m : ℕ) → 1 ≤ m → (1 ≤ n → ⊥) → n < m
      small n m some not_one = omega (arith, not_one)
  out_of_range bytes start epoch false within is unread some gate = λ one. eqb-false (get_or bytes 0 0) 1 gate (sym (gate_seen image bytes start is within) ∙ one)

  pub second_other : (epoch : ℕ) → is_head second 0 ≡ false → 1 ≤ epoch → IsOther (not (nat_eq (get_or second 0 0) 1)) (64 + shape.area) image epoch
  second_other epoch unread some = out_of_range second (64 + shape.area) epoch (nat_eq (get_or second 0 0) 1) high heads.second_is unread some refl

  pub first_other : (epoch : ℕ) → is_head first 0 ≡ false → 1 ≤ epoch → IsOther (not (nat_eq (get_or first 0 0) 1)) 64 image epoch
  first_other epoch unread some = out_of_range first 64 epoch (nat_eq (get_or first 0 0) 1) low heads.first_is unread some refl

-- a head's epoch is at least 1
pub epoch_some : (bytes : List ℕ) (epoch : ℕ) → is_head bytes 0 ≡ true → epoch ≡ number_at 8 8 bytes → 1 ≤ epoch
epoch_some bytes epoch h is = let c = (counts bytes 0 h).some in omega (arith, c, is)
