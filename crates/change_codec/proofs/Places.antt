-- The place of one field.
use Rattle.std.proofs.Common.{◌≡◌, ◌⊎◌, inl, inr, ℕ, ◌+◌, ◌≤◌, ◌<◌, Bool, true, false, ◌&&◌, cond, List, length, Some, None, refl, ap, sym, subst, ◌∙◌, arith}
use Rattle.std.specs.Prelude.{nat_le, nat_lt}
use Rattle.std.proofs.lemmas.Bool.Decides.{nat_tests}
use Rattle.disk_areas.specs.Numbers.{number_at}
use Rattle.change_codec.specs.Refused.{number, part, behind, IsPlace}
use Rattle.change_codec.specs.declared.errors.GetError.{GetError}
use Rattle.change_codec.specs.declared.errors.GetError.TheVariants.{NotAChange, NoMemory}

leb : (m n : ℕ) → m ≤ n → nat_le m n ≡ true
leb m n h = grind (arith, nat_tests)

not_leb : (m n : ℕ) → n < m → nat_le m n ≡ false
not_leb m n h = grind (arith, nat_tests)

no_and : (b : Bool) → (b && false) ≡ false
no_and true = refl
no_and false = refl

pub part_whole : (at n : ℕ) (bytes : List ℕ) → at + n ≤ length bytes → part at n bytes ≡ None
unfolding part
part_whole at n bytes h = ap (λ b. cond b None (Some (length bytes))) (leb (at + n) (length bytes) h)

pub part_short : (at n : ℕ) (bytes : List ℕ) → length bytes < at + n → part at n bytes ≡ Some (length bytes)
unfolding part
part_short at n bytes h = ap (λ b. cond b None (Some (length bytes))) (not_leb (at + n) (length bytes) h)

pub part_holds : (at n : ℕ) (bytes : List ℕ) → part at n bytes ≡ None → at + n ≤ length bytes
unfolding part
part_holds at n bytes h = by (nat_le (at + n) (length bytes)) refl h
  where
    by : (b : Bool) → nat_le (at + n) (length bytes) ≡ b → cond b None (Some (length bytes)) ≡ None → at + n ≤ length bytes
    by true e k = grind (arith, nat_tests)
    by false e k = cc

pub nothing_behind : (at : ℕ) (bytes : List ℕ) → length bytes ≤ at → behind at bytes ≡ None
unfolding behind
nothing_behind at bytes h = let e : nat_lt at (length bytes) ≡ false = grind (arith, nat_tests) in ap (λ b. cond b (Some at) None) e

pub some_behind : (at : ℕ) (bytes : List ℕ) → at < length bytes → behind at bytes ≡ Some at
unfolding behind
some_behind at bytes h = let e : nat_lt at (length bytes) ≡ true = grind (arith, nat_tests) in ap (λ b. cond b (Some at) None) e

pub behind_holds : (at : ℕ) (bytes : List ℕ) → behind at bytes ≡ None → length bytes ≤ at
unfolding behind
behind_holds at bytes h = by (nat_lt at (length bytes)) refl h
  where
    by : (b : Bool) → nat_lt at (length bytes) ≡ b → cond b (Some at) None ≡ None → length bytes ≤ at
    by true e k = cc
    by false e k = grind (arith, nat_tests)

whole : (at width least most : ℕ) (bytes : List ℕ) (b : Bool) → at + width ≤ length bytes → (nat_le least (number_at width at bytes) && nat_le (number_at width at bytes) most) ≡ b → number at width least most bytes ≡ cond b None (Some at)
unfolding number
whole at width least most bytes b h e =
    let n = number_at width at bytes in
    ap (λ c. cond c (cond (nat_le least n && nat_le n most) None (Some at)) (Some (length bytes))) (leb (at + width) (length bytes) h)
    ∙ ap (λ c. cond c None (Some at)) e

pub number_right : (at width least most : ℕ) (bytes : List ℕ) → at + width ≤ length bytes → least ≤ number_at width at bytes → number_at width at bytes ≤ most → number at width least most bytes ≡ None
number_right at width least most bytes h lo hi =
    let n = number_at width at bytes in
    whole at width least most bytes true h (ap (λ b. b && nat_le n most) (leb least n lo) ∙ leb n most hi)

-- a number outside its range, of which an error tells the place
pub number_out : (at width least most : ℕ) (bytes : List ℕ) (e : GetError) → at + width ≤ length bytes → (number_at width at bytes < least) ⊎ (most < number_at width at bytes) → e ≡ NotAChange at → IsPlace (number at width least most bytes) e
number_out at width least most bytes e h out is = subst (λ (x : GetError). IsPlace (number at width least most bytes) x) (sym is) (whole at width least most bytes false h (by out))
  where
    n : ℕ
    n = number_at width at bytes

    by : (n < least) ⊎ (most < n) → (nat_le least n && nat_le n most) ≡ false
    by (inl lo) = ap (λ b. b && nat_le n most) (not_leb least n lo)
    by (inr hi) = ap (λ b. nat_le least n && b) (not_leb n most hi) ∙ no_and (nat_le least n)

-- a number that is not whole has the place of bytes that are not whole
pub number_part : (at width least most : ℕ) (bytes : List ℕ) (e : GetError) → IsPlace (part at width bytes) e → IsPlace (number at width least most bytes) e
unfolding part number
number_part at width least most bytes NoMemory h = tt
number_part at width least most bytes (NotAChange place) h = by (nat_le (at + width) (length bytes)) h
  where
    by : (b : Bool) → cond b None (Some (length bytes)) ≡ Some place → cond b (cond (nat_le least (number_at width at bytes) && nat_le (number_at width at bytes) most) None (Some at)) (Some (length bytes)) ≡ Some place
    by true k = cc
    by false k = k

-- what is known of a number that keeps its range
pub record IsRight (at width least most : ℕ) (bytes : List ℕ) : Type 0 where
  pub within : at + width ≤ length bytes
  pub least_is : least ≤ number_at width at bytes
  pub most_is : number_at width at bytes ≤ most

pub number_holds : (at width least most : ℕ) (bytes : List ℕ) → number at width least most bytes ≡ None → IsRight at width least most bytes
unfolding number
number_holds at width least most bytes h =
    let n = number_at width at bytes in
    by (nat_le (at + width) (length bytes)) (nat_le least n) (nat_le n most) refl refl refl h
  where
    by : (a b c : Bool) → nat_le (at + width) (length bytes) ≡ a → nat_le least (number_at width at bytes) ≡ b → nat_le (number_at width at bytes) most ≡ c → cond a (cond (b && c) None (Some at)) (Some (length bytes)) ≡ None → IsRight at width least most bytes
    by true true true e f g k = record { within = grind (arith, nat_tests); least_is = grind (arith, nat_tests); most_is = grind (arith, nat_tests) }
    by true true false e f g k = cc
    by true false c e f g k = cc
    by false b c e f g k = cc
