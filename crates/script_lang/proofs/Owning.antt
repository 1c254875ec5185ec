-- The owners of the lanes are those of the lines.
use Rattle.std.proofs.Common.{◌≡◌, ℕ, ◌<◌, ◌≤◌, Bool, true, false, ◌&&◌, ◌||◌, eqb, List, [], ◌∷◌, ◌++◌, length, get_or, set, sym, refl, ap, ◌∙◌, arith, Option, Some, None}
use Rattle.std.specs.Prelude.{not, IfSome}
use Rattle.std.proofs.lemmas.Bool.Decides.{Decides-eqb, nat_tests}
use Rattle.std.proofs.lemmas.List.{get_or-set_same, get_or-set_other, get_or-replicate, length-set}
use Rattle.std.proofs.lemmas.List.Folds.{list_any-append}
use Rattle.script_lang.specs.declared.scripts.Line.{Line}
use Rattle.script_lang.specs.Parts.{served, serves, is_other, is_taken}
use Rattle.script_lang.specs.Owners.{no_owner, is_owned, with_owner, Owns}

pub owns_none : Owns no_owner []
owns_none = record {
  lanes = refl;
  taken = λ caller lane h. sym (ap (λ w. not (eqb w 0) && not (eqb w caller)) (get_or-replicate 16 lane 0 0 h));
}

or_false : (a : Bool) → (a || (false || false)) ≡ a
or_false true = refl
or_false false = refl

or_false_last : (a : Bool) → (not a || false) ≡ not a
or_false_last true = refl
or_false_last false = refl

or_twice : (a : Bool) → (a || (a || false)) ≡ a
or_twice true = refl
or_twice false = refl

caller_some : (caller : ℕ) → 1 ≤ caller → eqb caller 0 ≡ false
caller_some caller h = grind (arith, nat_tests)

not_both : true ≡ false → ⊥
not_both e = cc

-- where the lane is that of the new line: w served it before, caller serves it now
here : (w caller c : ℕ) → 1 ≤ caller → (not (eqb w 0) && not (eqb w caller)) ≡ false → ((not (eqb w 0) && not (eqb w c)) || ((true && not (eqb caller c)) || false)) ≡ (not (eqb caller 0) && not (eqb caller c))
here w caller c some free = by (eqb w 0) (eqb w caller) refl (caller_some caller some) free
  where
    by : (a b : Bool) → eqb w caller ≡ b → eqb caller 0 ≡ false → (not a && not b) ≡ false → ((not a && not (eqb w c)) || (not (eqb caller c) || false)) ≡ (not (eqb caller 0) && not (eqb caller c))
    by true b t z f = ap (λ x. x) (or_false_last (eqb caller c)) ∙ sym (ap (λ x. not x && not (eqb caller c)) z)
    by false true t z f =
        let same : w ≡ caller = (Decides-eqb w caller).0 t in
        ap (λ x. not (eqb x c) || (not (eqb caller c) || false)) same ∙ or_twice (not (eqb caller c)) ∙ sym (ap (λ x. not x && not (eqb caller c)) z)
    by false false t z f = cc

core : (o : Option ℕ) (owners : List ℕ) (caller c lane : ℕ) → length owners ≡ 16 → 1 ≤ caller → IfSome o (λ n. n < 16) → is_owned owners caller o ≡ false →
    (is_owned owners c (Some lane) || (is_other o lane caller c || false)) ≡ is_owned (with_owner owners caller o) c (Some lane)
core None owners caller c lane long some small free = or_false (is_owned owners c (Some lane))
core (Some n) owners caller c lane long some small free = by (eqb n lane) refl
  where
    by : (b : Bool) → eqb n lane ≡ b → (is_owned owners c (Some lane) || ((b && not (eqb caller c)) || false)) ≡ is_owned (set owners n caller) c (Some lane)
    by true t =
        let same : n ≡ lane = (Decides-eqb n lane).0 t in
        let at : get_or (set owners n caller) lane 0 ≡ caller = ap (λ k. get_or (set owners n caller) k 0) (sym same) ∙ get_or-set_same owners n caller 0 (omega (arith, small)) in
        let was : (not (eqb (get_or owners lane 0) 0) && not (eqb (get_or owners lane 0) caller)) ≡ false = ap (λ k. not (eqb (get_or owners k 0) 0) && not (eqb (get_or owners k 0) caller)) (sym same) ∙ free in
        here (get_or owners lane 0) caller c some was ∙ ap (λ w. not (eqb w 0) && not (eqb w c)) (sym at)
    by false t =
        let at : get_or (set owners n caller) lane 0 ≡ get_or owners lane 0 = get_or-set_other owners n lane caller 0 (λ e. not_both (sym ((Decides-eqb n lane).1 (sym e)) ∙ t)) in
        or_false (is_owned owners c (Some lane)) ∙ ap (λ w. not (eqb w 0) && not (eqb w c)) (sym at)

with_length : (o : Option ℕ) (owners : List ℕ) (caller : ℕ) → length owners ≡ 16 → length (with_owner owners caller o) ≡ 16
with_length None owners caller h = h
with_length (Some n) owners caller h = length-set owners n caller ∙ h

-- where another caller serves a lane
pub owned_of : (owners : List ℕ) (lines : List Line) (caller : ℕ) (o : Option ℕ) → Owns owners lines → IfSome o (λ n. n < 16) → is_taken lines caller o ≡ is_owned owners caller o
owned_of owners lines caller None h small = refl
owned_of owners lines caller (Some n) h small = h.taken caller n small

pub owns_more : (owners : List ℕ) (lines : List Line) (line : Line) → Owns owners lines → 1 ≤ line.caller → IfSome (served line.verb) (λ n. n < 16) → is_owned owners line.caller (served line.verb) ≡ false →
    Owns (with_owner owners line.caller (served line.verb)) (lines ++ line ∷ [])
owns_more owners lines line h some small free = record {
  lanes = with_length (served line.verb) owners line.caller h.lanes;
  taken = λ c lane within.
      list_any-append (serves c lane) lines (line ∷ [])
      ∙ ap (λ b. b || (is_other (served line.verb) lane line.caller c || false)) (h.taken c lane within)
      ∙ core (served line.verb) owners line.caller c lane h.lanes some small free;
}
