-- Names as keys of a map.
use Rattle.std.proofs.Common.{◌≡◌, ℕ, suc, ◌+◌, ◌≤◌, Bool, true, false, cond, ◌||◌, length-append, List, [], ◌∷◌, ◌++◌, length, sym, refl, ap, ◌∙◌, arith, Option, Some, None, ltb}
use Rattle.std.specs.Prelude.{not, option_map, is_some}
use Rattle.std.specs.Str.{bytes_eq}
use Rattle.std.specs.List.{position, position_or_len, list_any}
use Rattle.std.proofs.lemmas.Bool.Decides.{nat_tests}
use Rattle.script_lang.specs.Samples.{place_of}
use Rattle.script_lang.specs.Parts.{mention}
use Rattle.std.proofs.lemmas.Slice.Eq.{bytes_eq-Decides}

-- two tests that pass together are equal
alike : (p q : Bool) → (p ≡ true → q ≡ true) → (q ≡ true → p ≡ true) → p ≡ q
alike true q f g = sym (f refl)
alike false true f g = g refl
alike false false f g = refl

abbrev next : ℕ → ℕ
next k = k + 1

zero_lt : (n : ℕ) → ltb 0 (suc n) ≡ true
zero_lt n = grind (arith, nat_tests)

suc_lt : (p n : ℕ) → ltb (1 + p) (suc n) ≡ ltb p n
suc_lt p n = grind (arith, nat_tests)

one_on : (b : Bool) (p : ℕ) → cond b (Some (1 + p)) None ≡ option_map next (cond b (Some p) None)
one_on true p = let e : 1 + p ≡ p + 1 = omega arith in ap Some e
one_on false p = refl

first_place : (t : Bool) (p n : ℕ) → cond (ltb (cond (not t) (1 + p) 0) (suc n)) (Some (cond (not t) (1 + p) 0)) None ≡ cond t (Some 0) (option_map next (cond (ltb p n) (Some p) None))
first_place true p n = ap (λ t. cond t (Some 0) None) (zero_lt n)
first_place false p n = ap (λ t. cond t (Some (1 + p)) None) (suc_lt p n) ∙ one_on (ltb p n) p

pub turned : (name n : List ℕ) → bytes_eq name n ≡ bytes_eq n name
turned name n =
    alike (bytes_eq name n) (bytes_eq n name) (λ t. (bytes_eq-Decides n name).1 (sym ((bytes_eq-Decides name n).0 t))) (λ t. (bytes_eq-Decides name n).1 (sym ((bytes_eq-Decides n name).0 t)))

-- a place in the set is the place among the names
pub place_is : (names : List (List ℕ)) (name : List ℕ) → position (bytes_eq name) names ≡ place_of names name
place_is [] name = refl
place_is (n ∷ ns) name =
    first_place (bytes_eq name n) (position_or_len (bytes_eq name) ns) (length ns)
    ∙ ap (λ b. cond b (Some 0) (option_map next (position (bytes_eq name) ns))) (turned name n)
    ∙ ap (λ o. cond (bytes_eq n name) (Some 0) (option_map next o)) (place_is ns name)

has_place : (b : Bool) (o : Option ℕ) (any : Bool) → any ≡ is_some o → (b || any) ≡ is_some (cond b (Some 0) (option_map next o))
has_place true o any e = refl
has_place false None any e = e
has_place false (Some k) any e = e

-- a name is in the set where it has a place
pub any_is : (names : List (List ℕ)) (name : List ℕ) → list_any (bytes_eq name) names ≡ is_some (place_of names name)
any_is [] name = refl
any_is (n ∷ ns) name =
    ap (λ b. b || list_any (bytes_eq name) ns) (turned name n) ∙ has_place (bytes_eq n name) (place_of ns name) (list_any (bytes_eq name) ns) (any_is ns name)

pub mention_is : (names : List (List ℕ)) (name : List ℕ) → cond (list_any (bytes_eq name) names) names (names ++ name ∷ []) ≡ mention names (Some name)
mention_is names name = ap (λ b. cond b names (names ++ name ∷ [])) (any_is names name)

pub mention_grows : (names : List (List ℕ)) (name : Option (List ℕ)) → length (mention names name) ≤ length names + 1
mention_grows names None = omega arith
mention_grows names (Some name) = by (is_some (place_of names name))
  where
    by : (b : Bool) → length (cond b names (names ++ name ∷ [])) ≤ length names + 1
    by true = omega arith
    by false = let e : length (names ++ name ∷ []) ≡ length names + 1 = length-append names (name ∷ []) in omega (arith, e)
