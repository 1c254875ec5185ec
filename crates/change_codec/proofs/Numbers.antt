-- Numbers among bytes.
use Rattle.std.proofs.Common.{◌≡◌, ℕ, zero, suc, ◌+◌, ◌*◌, ◌/◌, ◌%◌, ◌^◌, ◌<◌, ◌≤◌, List, [], ◌∷◌, ◌++◌, length, take, drop, refl, ap, sym, subst, ◌∙◌, arith, length-append, length-drop}
use Rattle.std.specs.Prelude.{fold}
use Rattle.std.proofs.Math.Nat.{pow-succ'}
use Rattle.std.proofs.Math.Seq.{take-append_seam, drop-append_seam}
use Rattle.std.proofs.lemmas.Nat.{div-mul-add, mod-mul-add}
use Rattle.std.proofs.lemmas.List.{take-append-drop, length-take-le}
use Rattle.disk_areas.specs.Numbers.{spelled_number, number_at, number_bytes}
use Rattle.voice_model.proofs.ChangesOfEffects.{number_length}
use Rattle.voice_model.proofs.ReadAgain.{read_number}

-- each is a byte
abbrev pub AreBytes : List ℕ → Type 0
AreBytes [] = Unit {0}
AreBytes (b ∷ bs) = (b < 256) × AreBytes bs

pub bytes_drop : (n : ℕ) (bs : List ℕ) → AreBytes bs → AreBytes (drop n bs)
bytes_drop zero bs h = h
bytes_drop (suc n) [] h = tt
bytes_drop (suc n) (b ∷ bs) h = bytes_drop n bs h.1

pub bytes_take : (n : ℕ) (bs : List ℕ) → AreBytes bs → AreBytes (take n bs)
bytes_take zero bs h = tt
bytes_take (suc n) [] h = tt
bytes_take (suc n) (b ∷ bs) h = (h.0, bytes_take n bs h.1)

pow_positive : (width : ℕ) → 0 < 256 ^ width
pow_positive zero = omega arith
pow_positive (suc width) = let less = pow_positive width in let whole = pow-succ' 256 width in omega (arith, less, whole)

-- a number that bytes spell behind another
record Folded (from width n : ℕ) : Type 0 where
  rest : ℕ
  small : rest < 256 ^ width
  whole : n ≡ from * 256 ^ width + rest

shifted : (from b p s rest n : ℕ) → s ≡ 256 * p → n ≡ (from * 256 + b) * p + rest → n ≡ from * s + (b * p + rest)
shifted from b p s rest n e h = h ∙ subst (λ x. (from * 256 + b) * p + rest ≡ from * x + (b * p + rest)) (sym e) (grind arith)

stays_small : (b p s rest : ℕ) → b < 256 → rest < p → s ≡ 256 * p → b * p + rest < s
stays_small b p s rest hb hr e =
    let most : b * p + p ≤ 256 * p = products b p hb in
    omega (arith, most, hr, e)
  where
    products : (b p : ℕ) → b < 256 → b * p + p ≤ 256 * p
    products b p h = grind arith

folded : (bs : List ℕ) (from : ℕ) → AreBytes bs → Folded from (length bs) (fold (λ n b. n * 256 + b) from bs)
folded [] from h = record { rest = 0; small = omega arith; whole = omega arith }
folded (b ∷ bs) from h =
    let later = folded bs (from * 256 + b) h.1 in
    let p = 256 ^ length bs in
    let s = pow-succ' 256 (length bs) in
    record {
      rest = b * p + later.rest;
      small = stays_small b p (256 ^ suc (length bs)) later.rest h.0 later.small s;
      whole = shifted from b p (256 ^ suc (length bs)) later.rest (fold (λ n b. n * 256 + b) (from * 256 + b) bs) s later.whole;
    }

again_from : (bs : List ℕ) (from : ℕ) → AreBytes bs → number_bytes (length bs) (fold (λ n b. n * 256 + b) from bs) ≡ bs
again_from [] from h = refl
again_from (b ∷ bs) from h =
    let n = fold (λ n b. n * 256 + b) (from * 256 + b) bs in
    let later = folded bs (from * 256 + b) h.1 in
    let high : n / 256 ^ length bs ≡ from * 256 + b = ap (λ m. m / 256 ^ length bs) later.whole ∙ div-mul-add (from * 256 + b) (256 ^ length bs) later.rest later.small in
    let low : n / 256 ^ length bs % 256 ≡ b = ap (λ m. m % 256) high ∙ mod-mul-add from 256 b h.0 in
    ap (λ m. m ∷ number_bytes (length bs) n) low ∙ ap (λ l. b ∷ l) (again_from bs (from * 256 + b) h.1)

drop_drop : (xs : List ℕ) (n m : ℕ) → drop m (drop n xs) ≡ drop (n + m) xs
drop_drop xs zero m = let z : 0 + m ≡ m = omega arith in ap (λ (k : ℕ). drop k xs) (sym z)
drop_drop [] (suc n) zero = let z : suc n + 0 ≡ suc n = omega arith in ap (λ (k : ℕ). drop {A = ℕ} k []) (sym z)
drop_drop [] (suc n) (suc m) = let z : suc n + suc m ≡ suc (n + suc m) = omega arith in ap (λ (k : ℕ). drop {A = ℕ} k []) (sym z)
drop_drop (x ∷ xs) (suc n) m = let z : suc n + m ≡ suc (n + m) = omega arith in drop_drop xs n m ∙ ap (λ (k : ℕ). drop k (x ∷ xs)) (sym z)

-- bytes from a place on, and the rest
pub text_front : (at n : ℕ) (bytes : List ℕ) → drop at bytes ≡ take n (drop at bytes) ++ drop (at + n) bytes
text_front at n bytes = sym (take-append-drop n (drop at bytes)) ∙ ap (λ (l : List ℕ). take n (drop at bytes) ++ l) (drop_drop bytes at n)

pub length_part : (at n : ℕ) (bytes : List ℕ) → at + n ≤ length bytes → length (take n (drop at bytes)) ≡ n
length_part at n bytes h = let size = length-drop at bytes in length-take-le n (drop at bytes) (omega (arith, size, h))

-- a number from a place on, and the rest
pub number_front : (at width : ℕ) (bytes : List ℕ) → AreBytes bytes → at + width ≤ length bytes → drop at bytes ≡ number_bytes width (number_at width at bytes) ++ drop (at + width) bytes
number_front at width bytes h fits =
    let part = take width (drop at bytes) in
    let size = length_part at width bytes fits in
    let same : number_bytes width (spelled_number part) ≡ part = ap (λ n. number_bytes n (spelled_number part)) (sym size) ∙ again_from part 0 (bytes_take width (drop at bytes) (bytes_drop at bytes h)) in
    text_front at width bytes ∙ ap (λ (l : List ℕ). l ++ drop (at + width) bytes) (sym same)

-- it fits its width
pub number_fits : (at width : ℕ) (bytes : List ℕ) → AreBytes bytes → at + width ≤ length bytes → number_at width at bytes < 256 ^ width
number_fits at width bytes h fits =
    let part = take width (drop at bytes) in
    let size = length_part at width bytes fits in
    let f = folded part 0 (bytes_take width (drop at bytes) (bytes_drop at bytes h)) in
    let whole = f.whole in
    let small = f.small in
    subst (λ n. number_at width at bytes < 256 ^ n) size (omega (arith, whole, small))

-- nothing is left behind the last byte
pub none_left : (at : ℕ) (bytes : List ℕ) → length bytes ≤ at → drop at bytes ≡ []
none_left zero [] h = refl
none_left (suc at) [] h = refl
none_left zero (b ∷ bytes) h = absurd (omega arith)
none_left (suc at) (b ∷ bytes) h = none_left at bytes (omega arith)

-- ---- a number that stands from a place on

-- what is behind a part that stands from a place on
pub record IsSeen (at width n : ℕ) (bytes rest : List ℕ) : Type 0 where
  pub value : number_at width at bytes ≡ n
  pub within : at + width ≤ length bytes
  pub behind : drop (at + width) bytes ≡ rest

pub part_behind : (at : ℕ) (bytes part rest : List ℕ) → drop at bytes ≡ part ++ rest → drop (at + length part) bytes ≡ rest
part_behind at bytes part rest h = sym (drop_drop bytes at (length part)) ∙ ap (λ (l : List ℕ). drop (length part) l) h ∙ drop-append_seam part rest

pub part_within : (at : ℕ) (bytes part rest : List ℕ) → at ≤ length bytes → drop at bytes ≡ part ++ rest → at + length part ≤ length bytes
part_within at bytes part rest le h =
    let size = length-drop at bytes in
    let same = ap length h ∙ length-append part rest in
    omega (arith, size, same, le)

pub part_seen : (at : ℕ) (bytes part rest : List ℕ) → drop at bytes ≡ part ++ rest → take (length part) (drop at bytes) ≡ part
part_seen at bytes part rest h = ap (λ (l : List ℕ). take (length part) l) h ∙ take-append_seam part rest

pub number_seen : (at width n : ℕ) (bytes rest : List ℕ) → at ≤ length bytes → n < 256 ^ width → drop at bytes ≡ number_bytes width n ++ rest → IsSeen at width n bytes rest
number_seen at width n bytes rest le small h =
    let part = number_bytes width n in
    let size = number_length width n in
    record {
      value = ap spelled_number (ap (λ (k : ℕ). take k (drop at bytes)) (sym size) ∙ part_seen at bytes part rest h) ∙ read_number width n small;
      within = let w = part_within at bytes part rest le h in omega (arith, w, size);
      behind = ap (λ (k : ℕ). drop (at + k) bytes) (sym size) ∙ part_behind at bytes part rest h;
    }
