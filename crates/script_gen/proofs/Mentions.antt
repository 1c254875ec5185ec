-- Each number once, and one more.
use Rattle.std.proofs.Common.{◌≡◌, ℕ, Bool, true, false, cond, not, ◌||◌, List, [], ◌∷◌, ◌++◌, sym, refl, ap, ◌∙◌, arith, Option, Some, None, append-nil}
use Rattle.std.specs.Prelude.{◌==◌, filter, filter_map}
use Rattle.std.specs.List.{list_any, cons_option}
use Rattle.std.proofs.lemmas.Bool.Decides.{nat_tests}
use Rattle.std.proofs.lemmas.List.Elements.{filter-append, filter_map-append}
use Rattle.script_gen.specs.Scripts.{each_once, mention, files_of, file_of}
use Rattle.script_gen.specs.declared.lines.Line.{Line}

abbrev has : List ℕ → ℕ → Bool
has xs y = list_any (λ m. m == y) xs

abbrev without : ℕ → List ℕ → List ℕ
without x xs = filter (λ m. not (m == x)) xs

has-without_one : (z x y : ℕ) (zs : List ℕ) (t : Bool) → (x == y) ≡ false → (z == x) ≡ t → has (without x zs) y ≡ has zs y
    → has (cond (not t) (z ∷ without x zs) (without x zs)) y ≡ ((z == y) || has zs y)
has-without_one z x y zs true d e h =
    let n : (z == y) ≡ false = grind (arith, nat_tests) in
    h ∙ ap (λ b. b || has zs y) (sym n)
has-without_one z x y zs false d e h = ap (λ b. (z == y) || b) h

has-without : (x y : ℕ) (zs : List ℕ) → (x == y) ≡ false → has (without x zs) y ≡ has zs y
has-without x y [] d = refl
has-without x y (z ∷ zs) d = has-without_one z x y zs (z == x) d refl (has-without x y zs d)

turned : (x y : ℕ) (t : Bool) → (x == y) ≡ t → (y == x) ≡ t
turned x y true e = grind (arith, nat_tests)
turned x y false e = grind (arith, nat_tests)

without-last : (x y : ℕ) (ms : List ℕ) (t : Bool) → (x == y) ≡ t → without x (ms ++ y ∷ []) ≡ without x ms ++ cond (not t) (y ∷ []) []
without-last x y ms t e =
    filter-append (λ m. not (m == x)) ms (y ∷ []) ∙ ap (λ b. without x ms ++ cond (not b) (y ∷ []) []) (turned x y t e)

pushed : (x y : ℕ) (ms : List ℕ) (t b : Bool) → (x == y) ≡ t → has ms y ≡ b
    → x ∷ without x (cond b ms (ms ++ y ∷ [])) ≡ cond (t || has (without x ms) y) (x ∷ without x ms) (x ∷ without x ms ++ y ∷ [])
pushed x y ms true true e h = refl
pushed x y ms true false e h = ap (λ zs. x ∷ zs) (without-last x y ms true e ∙ append-nil (without x ms))
pushed x y ms false true e h =
    sym (ap (λ b. cond b (x ∷ without x ms) (x ∷ without x ms ++ y ∷ [])) (has-without x y ms e ∙ h))
pushed x y ms false false e h =
    ap (λ zs. x ∷ zs) (without-last x y ms false e)
    ∙ sym (ap (λ b. cond b (x ∷ without x ms) (x ∷ without x ms ++ y ∷ [])) (has-without x y ms e ∙ h))

pub each_once-push : (xs : List ℕ) (y : ℕ) → each_once (xs ++ y ∷ []) ≡ mention (each_once xs) (Some y)
each_once-push [] y = refl
each_once-push (x ∷ xs) y =
    ap (λ ms. x ∷ without x ms) (each_once-push xs y) ∙ pushed x y (each_once xs) (x == y) (has (each_once xs) y) refl refl

each_once-mention : (ns : List ℕ) (o : Option ℕ) → each_once (ns ++ cons_option o []) ≡ mention (each_once ns) o
each_once-mention ns None = ap each_once (append-nil ns)
each_once-mention ns (Some n) = each_once-push ns n

pub files_of-push : (ls : List Line) (l : Line) → files_of (ls ++ l ∷ []) ≡ mention (files_of ls) (file_of l.order)
files_of-push ls l =
    ap each_once (filter_map-append (λ m. file_of m.order) ls (l ∷ [])) ∙ each_once-mention (filter_map (λ m. file_of m.order) ls) (file_of l.order)
