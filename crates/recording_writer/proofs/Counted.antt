-- Runs, index by index.
use Rattle.std.proofs.Common.{◌≡◌, ℕ, zero, suc, ◌+◌, ◌-◌, ◌<◌, ◌≤◌, List, [], ◌∷◌, length, get_or, drop, cond, refl, zero-add, add-one, ap, ⊎_elim, sym, ◌∙◌, arith, true, false, Bool}
use Rattle.std.specs.Prelude.{◌==◌}
use Rattle.std.proofs.lemmas.Bool.{eq-eqb, eqb-true, cases_lt}
use Rattle.recording_writer.specs.Runs.{breaks, runs, IsRun}

-- an address that follows on the one in front begins no run
pub run_goes_on : (xs : List ℕ) (i : ℕ) → suc i < length xs → get_or xs (suc i) 0 ≡ suc (get_or xs i 0) → runs (drop i xs) ≡ runs (drop (suc i) xs)
run_goes_on [] i lt e = absurd (omega arith)
run_goes_on (x ∷ []) i lt e = absurd (omega arith)
run_goes_on (x ∷ y ∷ xs) zero lt e =
    let is : (y == suc x) ≡ true = eq-eqb y (suc x) e in
    let step : Bool → ℕ = λ b. cond b 0 1 in
    ap (λ (b : Bool). suc (step b + breaks y xs)) is ∙ ap suc (zero-add (breaks y xs))
run_goes_on (x ∷ y ∷ xs) (suc i) lt e = run_goes_on (y ∷ xs) i (omega arith) e

one-add : (n : ℕ) → 1 + n ≡ suc n
one-add n = omega arith

is_other : (y x : ℕ) (b : Bool) → (y == suc x) ≡ b → ¬ (y ≡ suc x) → b ≡ false
is_other y x true is other = absurd (other (eqb-true y (suc x) is))
is_other y x false is other = refl

-- any other does
pub run_stops : (xs : List ℕ) (i : ℕ) → suc i < length xs → ¬ (get_or xs (suc i) 0 ≡ suc (get_or xs i 0)) → runs (drop i xs) ≡ suc (runs (drop (suc i) xs))
run_stops [] i lt other = absurd (omega arith)
run_stops (x ∷ []) i lt other = absurd (omega arith)
run_stops (x ∷ y ∷ xs) zero lt other =
    let step : Bool → ℕ = λ b. cond b 0 1 in
    ap (λ (b : Bool). suc (step b + breaks y xs)) (is_other y x (y == suc x) refl other) ∙ ap suc (one-add (breaks y xs))
run_stops (x ∷ y ∷ xs) (suc i) lt other = run_stops (y ∷ xs) i (omega arith) other

-- the last run ends with the list
pub run_ends : (xs : List ℕ) (i : ℕ) → suc i ≡ length xs → runs (drop i xs) ≡ suc (runs (drop (suc i) xs))
run_ends [] i e = absurd (omega arith)
run_ends (x ∷ []) zero e = refl
run_ends (x ∷ []) (suc i) e = absurd (omega arith)
run_ends (x ∷ y ∷ xs) zero e = absurd (omega arith)
run_ends (x ∷ y ∷ xs) (suc i) e = run_ends (y ∷ xs) i (omega arith)

at_most_one : (b : Bool) → let n : ℕ = cond b 0 1 in n ≤ 1
at_most_one true = omega arith
at_most_one false = omega arith

-- each run has an address
pub breaks_limit : (x : ℕ) (xs : List ℕ) → breaks x xs ≤ length xs
breaks_limit x [] = omega arith
breaks_limit x (y ∷ ys) =
    let later = breaks_limit y ys in
    omega (arith, later, at_most_one (y == suc x))

pub runs_limit : (xs : List ℕ) → runs xs ≤ length xs
runs_limit [] = omega arith
runs_limit (x ∷ xs) = let later = breaks_limit x xs in omega arith

pub no_runs : (xs : List ℕ) (n : ℕ) → length xs ≤ n → runs (drop n xs) ≡ 0
no_runs [] zero le = refl
no_runs [] (suc n) le = refl
no_runs (x ∷ xs) zero le = absurd (omega arith)
no_runs (x ∷ xs) (suc n) le = no_runs xs n (omega arith)

-- a run grows by an address
pub run_more : (xs : List ℕ) (from n : ℕ) → 0 < n → IsRun xs from n → get_or xs (from + n) 0 ≡ get_or xs (from + n - 1) 0 + 1 → IsRun xs from (n + 1)
run_more xs from n some run e k below =
    ⊎_elim (λ (h : k < n). run k h)
    (λ (h : n ≤ k).
    let is : from + k ≡ from + n = omega arith in
    let at_k : get_or xs (from + k) 0 ≡ get_or xs (from + n) 0 = ap (λ (m : ℕ). get_or xs m 0) is in
    let one_less : from + n - 1 ≡ from + (n - 1) = omega arith in
    let at_prior : get_or xs (from + n - 1) 0 ≡ get_or xs (from + (n - 1)) 0 = ap (λ (m : ℕ). get_or xs m 0) one_less in
    let prior = run (n - 1) (omega arith) in
    omega arith)
    (cases_lt k n)

-- one address is a run
pub run_of_one : (xs : List ℕ) (from : ℕ) → IsRun xs from 1
run_of_one xs from k below = let e : from + k ≡ from = omega arith in let here : get_or xs (from + k) 0 ≡ get_or xs from 0 = ap (λ (n : ℕ). get_or xs n 0) e in omega arith

pub run_longer : (xs : List ℕ) (from n : ℕ) → 0 < n → from + n < length xs → get_or xs (from + n) 0 ≡ get_or xs (from + n - 1) 0 + 1 → runs (drop (from + n - 1) xs) ≡ runs (drop (from + (n + 1) - 1) xs)
run_longer xs from n some within e =
    let i : ℕ = from + n - 1 in
    let is : from + n ≡ suc i = omega arith in
    let next : suc i ≡ from + (n + 1) - 1 = omega arith in
    let step : get_or xs (suc i) 0 ≡ suc (get_or xs i 0) = ap (λ (m : ℕ). get_or xs m 0) (sym is) ∙ e ∙ add-one (get_or xs i 0) in
    run_goes_on xs i (omega arith) step ∙ ap (λ (m : ℕ). runs (drop m xs)) next

pub run_cut : (xs : List ℕ) (from n : ℕ) → 0 < n → from + n < length xs → ¬ (get_or xs (from + n) 0 ≡ get_or xs (from + n - 1) 0 + 1) → runs (drop (from + n - 1) xs) ≡ suc (runs (drop (from + n) xs))
run_cut xs from n some within other =
    let i : ℕ = from + n - 1 in
    let is : from + n ≡ suc i = omega arith in
    run_stops xs i (omega arith) (λ step. other (ap (λ (m : ℕ). get_or xs m 0) is ∙ step ∙ sym (add-one (get_or xs i 0)))) ∙ ap (λ (m : ℕ). suc (runs (drop m xs))) (sym is)

pub run_whole : (xs : List ℕ) (from n m : ℕ) → 0 < n → n ≡ m → from + m ≡ length xs → runs (drop (from + n - 1) xs) ≡ suc (runs (drop (from + m) xs))
run_whole xs from n m some same whole =
    let i : ℕ = from + n - 1 in
    let is : from + m ≡ suc i = omega arith in
    run_ends xs i (omega arith) ∙ ap (λ (k : ℕ). suc (runs (drop k xs))) (sym is)
