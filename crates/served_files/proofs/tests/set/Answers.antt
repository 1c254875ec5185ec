use Rattle.std.proofs.Common.{◌≡◌, ◌≤◌, ◌+◌, ℕ, zero, suc, Bool, true, false, ◌&&◌, eqb, List, [], ◌∷◌, length, sym, ap, ap₂, subst, ◌∙◌, arith, Vec, Global}
use Rattle.std.specs.Prelude.{count_by}
use Rattle.std.proofs.lemmas.Bool.{ne_eqb}
use Rattle.voice_model.specs.declared.calls.Entry.{Entry}
use Rattle.served_files.specs.declared.heard.Heard.{Heard}
use Rattle.served_files.specs.Given.{ends_serving, gives_to}
use Rattle.served_files.specs.Files.{heard_of, AreEnough}
use Rattle.served_files.proofs.Servings.{as_count}
use Rattle.served_files.proofs.tests.set.Goals as goal

given : (c n : ℕ) (b : Bool) (e : Entry) → e.caller ≡ n → ends_serving e ≡ b → gives_to c e ≡ (b && eqb n c)
given c n b e by ends = ap₂ (λ x m. x && eqb m c) ends by

counted : (p : Entry → Bool) (e f g h : Entry) (a b c d : Bool) → p e ≡ a → p f ≡ b → p g ≡ c → p h ≡ d → count_by p (e ∷ f ∷ g ∷ h ∷ []) ≡ (((0 + as_count a) + as_count b) + as_count c) + as_count d
counted p e f g h a b c d ae bf cg dh = ap₂ (λ m n. m + n) (ap₂ (λ m n. m + n) (ap₂ (λ m n. m + n) (ap (λ x. 0 + as_count x) ae) (ap (λ x. as_count x) bf)) (ap (λ x. as_count x) cg)) (ap (λ x. as_count x) dh)

few : (c : ℕ) (v w : Vec Heard Global) → 1 ≤ c → length v.items ≡ 2 → length w.items ≡ 1
    → (((0 + as_count (true && eqb 1 c)) + as_count (false && eqb 2 c)) + as_count (true && eqb 2 c)) + as_count (true && eqb 1 c) ≤ length (heard_of (v ∷ w ∷ []) c)
few zero v w some two one = absurd (omega arith)
few (suc zero) v w some two one = omega (arith, two)
few (suc (suc zero)) v w some two one = omega (arith, one)
few (suc (suc (suc n))) v w some two one =
    let first : eqb 1 (suc (suc (suc n))) ≡ false = ne_eqb 1 (suc (suc (suc n))) (λ e. omega (arith, e)) in
    let second : eqb 2 (suc (suc (suc n))) ≡ false = ne_eqb 2 (suc (suc (suc n))) (λ e. omega (arith, e)) in
    subst (λ b. (((0 + as_count b) + as_count false) + as_count (eqb 2 (suc (suc (suc n))))) + as_count b ≤ 0) (sym first) (subst (λ b. (((0 + as_count false) + as_count false) + as_count b) + as_count false ≤ 0) (sym second) (omega arith))

-- caller 1 ends two servings and caller 2 one
enough : (e f g h : Entry) (v w : Vec Heard Global) → e.caller ≡ 1 → ends_serving e ≡ true → f.caller ≡ 2 → ends_serving f ≡ false → g.caller ≡ 2 → ends_serving g ≡ true → h.caller ≡ 1 → ends_serving h ≡ true
    → length v.items ≡ 2 → length w.items ≡ 1 → AreEnough (e ∷ f ∷ g ∷ h ∷ []) (v ∷ w ∷ [])
enough e f g h v w ec ee fc fe gc ge hc he two one = record {
  callers = ((λ ends. (omega (arith, ec), omega (arith, ec))), ((λ ends. (omega (arith, fc), omega (arith, fc))), ((λ ends. (omega (arith, gc), omega (arith, gc))), ((λ ends. (omega (arith, hc), omega (arith, hc))), tt))));
  files = λ c some.
      let count = counted (gives_to c) e f g h (true && eqb 1 c) (false && eqb 2 c) (true && eqb 2 c) (true && eqb 1 c) (given c 1 true e ec ee) (given c 2 false f fc fe) (given c 2 true g gc ge) (given c 1 true h hc he) in
      subst (λ n. n ≤ length (heard_of (v ∷ w ∷ []) c)) (sym count) (few c v w some two one);
}

pub set_files-requires-clause-enough : goal.set_files-requires-clause-enough
set_files-requires-clause-enough c =
    let own : Vec Heard Global = c.in_ok-own.own in
    let other : Vec Heard Global = c.in_ok-other.other in
    let lists : c.deref.result.now ≡ own ∷ other ∷ [] = c.deref.ensures.value ∙ c.in_ok-lists.ensures.items in
    subst (λ (l : List (Vec Heard Global)). AreEnough (c.fed.result ∷ c.fed-2.result ∷ c.fed-3.result ∷ c.fed-4.result ∷ []) l) (sym lists)
    (enough c.fed.result c.fed-2.result c.fed-3.result c.fed-4.result own other c.fed.ensures.by c.fed.ensures.ends c.fed-2.ensures.by c.fed-2.ensures.ends c.fed-3.ensures.by c.fed-3.ensures.ends c.fed-4.ensures.by c.fed-4.ensures.ends
    (ap length c.in_ok-own.ensures.items) (ap length c.in_ok-other.ensures.items))
