-- What the tests of the program say of bytes.
use Rattle.std.proofs.Common.{◌≡◌, ◌≢◌, ℕ, ◌+◌, ◌-◌, ◌≤◌, ◌<◌, ◌^◌, Bool, true, false, ◌&&◌, cond, List, [], ◌∷◌, length, take, drop, get_or, Some, None, refl, ap, sym, ◌∙◌, arith}
use Rattle.std.specs.Prelude.{nat_le, ◌==◌}
use Rattle.std.proofs.lemmas.Bool.Decides.{nat_tests}
use Rattle.disk_areas.specs.Numbers.{number_at}
use Rattle.voice_model.specs.Spelling.{is_id, change_in}
use Rattle.disk_areas.proofs.Digits.{rest_is}
use Rattle.mirror_packets.specs.Packets.{Body, voice_in, brought, body_in, is_head, end_of}
use Rattle.mirror_packets.specs.Shown.{IsEnd}

leb : (m n : ℕ) → m ≤ n → nat_le m n ≡ true
leb m n h = grind (arith, nat_tests)

not_leb : (m n : ℕ) → n < m → nat_le m n ≡ false
not_leb m n h = grind (arith, nat_tests)

pub is_number : (n : ℕ) → 1 ≤ n → n ≤ 2 ^ 48 → is_id n ≡ true
is_number n lo hi = ap (λ b. b && nat_le n (2 ^ 48)) (leb 1 n lo) ∙ leb n (2 ^ 48) hi

low : (n : ℕ) → n < 1 → is_id n ≡ false
low n h = ap (λ b. b && nat_le n (2 ^ 48)) (not_leb 1 n h)

and_false : (b : Bool) → (b && false) ≡ false
and_false true = refl
and_false false = refl

high : (n : ℕ) → 2 ^ 48 < n → is_id n ≡ false
high n h = ap (λ b. nat_le 1 n && b) (not_leb n (2 ^ 48) h) ∙ and_false (nat_le 1 n)

-- one of three tests fails, or none
first_fails : (a b c : Bool) → a ≡ false → (a && b && c) ≡ false
first_fails a b c h = ap (λ x. x && b && c) h

second_fails : (a b c : Bool) → b ≡ false → (a && b && c) ≡ false
second_fails a b c h = ap (λ x. a && x && c) h ∙ ap (λ x. x && c) (and_false a)

third_fails : (a b c : Bool) → c ≡ false → (a && b && c) ≡ false
third_fails a b c h = ap (λ x. a && b && x) h ∙ and_false (a && b)

none_fails : (a b c : Bool) → a ≡ true → b ≡ true → c ≡ true → (a && b && c) ≡ true
none_fails a b c ha hb hc = ap (λ x. x && b && c) ha ∙ ap (λ x. x && c) hb ∙ hc

-- ---- the body of a voice file

voice_by : (bytes : List ℕ) (t : Bool) → (nat_le 9 (length bytes) && is_id (number_at 8 1 bytes) && nat_le (length bytes) (9 + 2 ^ 30)) ≡ t → voice_in bytes ≡ cond t (Some (Body.Voice (number_at 8 1 bytes) (drop 9 bytes))) None
unfolding voice_in
voice_by bytes t e = ap (λ b. cond b (Some (Body.Voice (number_at 8 1 bytes) (drop 9 bytes))) None) e

pub voice_short : (bytes : List ℕ) → length bytes < 9 → voice_in bytes ≡ None
voice_short bytes h = voice_by bytes false (first_fails _ (is_id (number_at 8 1 bytes)) (nat_le (length bytes) (9 + 2 ^ 30)) (not_leb 9 (length bytes) h))

pub voice_low : (bytes : List ℕ) (n : ℕ) → n ≡ number_at 8 1 bytes → n < 1 → voice_in bytes ≡ None
voice_low bytes n e h = voice_by bytes false (second_fails (nat_le 9 (length bytes)) _ (nat_le (length bytes) (9 + 2 ^ 30)) (ap is_id (sym e) ∙ low n h))

pub voice_high : (bytes : List ℕ) (n : ℕ) → n ≡ number_at 8 1 bytes → 2 ^ 48 < n → voice_in bytes ≡ None
voice_high bytes n e h = voice_by bytes false (second_fails (nat_le 9 (length bytes)) _ (nat_le (length bytes) (9 + 2 ^ 30)) (ap is_id (sym e) ∙ high n h))

pub voice_long : (bytes : List ℕ) → 9 + 2 ^ 30 < length bytes → voice_in bytes ≡ None
voice_long bytes h = voice_by bytes false (third_fails (nat_le 9 (length bytes)) (is_id (number_at 8 1 bytes)) _ (not_leb (length bytes) (9 + 2 ^ 30) h))

pub voice_right : (bytes : List ℕ) (n : ℕ) → n ≡ number_at 8 1 bytes → 9 ≤ length bytes → 1 ≤ n → n ≤ 2 ^ 48 → length bytes ≤ 9 + 2 ^ 30 → voice_in bytes ≡ Some (Body.Voice n (take (length bytes - 9) (drop 9 bytes)))
voice_right bytes n e h lo hi most =
    voice_by bytes true (none_fails _ _ _ (leb 9 (length bytes) h) (ap is_id (sym e) ∙ is_number n lo hi) (leb (length bytes) (9 + 2 ^ 30) most))
    ∙ ap (λ m. Some (Body.Voice m (drop 9 bytes))) (sym e)
    ∙ ap (λ l. Some (Body.Voice n l)) (sym (rest_is 9 bytes))

-- ---- any body

pub body_none : (bytes : List ℕ) → (length bytes == 0) ≡ true → body_in bytes ≡ None
unfolding body_in
body_none [] h = refl
body_none (b ∷ bytes) h = absurd (grind (arith, nat_tests))

body_by : (bytes : List ℕ) (t : Bool) → (number_at 1 0 bytes == 32) ≡ t → body_in bytes ≡ cond t (voice_in bytes) (brought (change_in bytes))
unfolding body_in
body_by bytes t e = ap (λ b. cond b (voice_in bytes) (brought (change_in bytes))) e

first_byte : (bytes : List ℕ) → number_at 1 0 bytes ≡ get_or bytes 0 0
first_byte [] = refl
first_byte (b ∷ bytes) = omega arith

pub body_voice : (bytes : List ℕ) → get_or bytes 0 0 ≡ 32 → body_in bytes ≡ voice_in bytes
body_voice bytes h = body_by bytes true (ap (λ n. n == 32) (first_byte bytes ∙ h))

pub body_change : (bytes : List ℕ) → get_or bytes 0 0 ≢ 32 → body_in bytes ≡ brought (change_in bytes)
body_change bytes h = let e : (get_or bytes 0 0 == 32) ≡ false = grind (arith, nat_tests) in body_by bytes false (ap (λ n. n == 32) (first_byte bytes) ∙ e)

-- ---- the head of a packet

head_by : (bytes : List ℕ) (t : Bool) → (nat_le 12 (length bytes) && is_id (number_at 8 0 bytes) && nat_le (end_of bytes) (length bytes)) ≡ t → is_head bytes ≡ t
unfolding is_head
head_by bytes t e = e

pub head_short : (bytes : List ℕ) → length bytes < 12 → is_head bytes ≡ false
head_short bytes h = head_by bytes false (first_fails _ (is_id (number_at 8 0 bytes)) (nat_le (end_of bytes) (length bytes)) (not_leb 12 (length bytes) h))

pub head_low : (bytes : List ℕ) (n : ℕ) → n ≡ number_at 8 0 bytes → n < 1 → is_head bytes ≡ false
head_low bytes n e h = head_by bytes false (second_fails (nat_le 12 (length bytes)) _ (nat_le (end_of bytes) (length bytes)) (ap is_id (sym e) ∙ low n h))

pub head_high : (bytes : List ℕ) (n : ℕ) → n ≡ number_at 8 0 bytes → 2 ^ 48 < n → is_head bytes ≡ false
head_high bytes n e h = head_by bytes false (second_fails (nat_le 12 (length bytes)) _ (nat_le (end_of bytes) (length bytes)) (ap is_id (sym e) ∙ high n h))

pub head_long : (bytes : List ℕ) (n : ℕ) → n ≡ number_at 4 8 bytes → length bytes < 12 + n → is_head bytes ≡ false
head_long bytes n e h =
    head_by bytes false (third_fails (nat_le 12 (length bytes)) (is_id (number_at 8 0 bytes)) _ (ap (λ m. nat_le (12 + m) (length bytes)) (sym e) ∙ not_leb (12 + n) (length bytes) h))

pub head_right : (bytes : List ℕ) (number n : ℕ) → number ≡ number_at 8 0 bytes → n ≡ number_at 4 8 bytes → 12 ≤ length bytes → 1 ≤ number → number ≤ 2 ^ 48 → 12 + n ≤ length bytes → IsEnd bytes (12 + n)
head_right bytes number n e f h lo hi most =
    record {
      head =
          head_by bytes true
          (none_fails _ _ _ (leb 12 (length bytes) h) (ap is_id (sym e) ∙ is_number number lo hi) (ap (λ m. nat_le (12 + m) (length bytes)) (sym f) ∙ leb (12 + n) (length bytes) most));
      value = ap (λ m. 12 + m) f;
      least = omega arith;
      most = most;
    }
