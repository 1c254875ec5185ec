-- The words that run a script.
use Rattle.std.proofs.Common.{◌≡◌, ℕ, ◌<◌, ◌≤◌, ◌⊎◌, inl, inr, Bool, true, false, List, [], ◌∷◌, length, get_or, map, refl, sym, ap, ◌∙◌, arith}
use Rattle.std.specs.Prelude.{codes, IsTrue}
use Rattle.std.proofs.lemmas.Bool.{false≢true}
use Rattle.script_lang.specs.Forms.{is_file}
use Rattle.voice_main.specs.Words.{Says, run_command, IsNoRun}

pub two_items : {X : Type 0} (f : X → List ℕ) (xs : List X) (v n : X) → 2 ≤ length xs → length xs < 3 → v ≡ get_or xs 0 v → n ≡ get_or xs 1 n → map f xs ≡ f v ∷ f n ∷ []
two_items f [] v n low high first second = absurd (omega arith)
two_items f (a ∷ []) v n low high first second = absurd (omega arith)
two_items f (a ∷ b ∷ []) v n low high first second = ap (λ x. f x ∷ f b ∷ []) (sym first) ∙ ap (λ x. f v ∷ f x ∷ []) (sym second)
two_items f (a ∷ b ∷ c ∷ xs) v n low high first second = absurd (omega arith)

pub three_items : {X : Type 0} (f : X → List ℕ) (xs : List X) (v n m : X) → 3 ≤ length xs → length xs < 4 → v ≡ get_or xs 0 v → n ≡ get_or xs 1 n → m ≡ get_or xs 2 m → map f xs ≡ f v ∷ f n ∷ f m ∷ []
three_items f [] v n m low high first second third = absurd (omega arith)
three_items f (a ∷ []) v n m low high first second third = absurd (omega arith)
three_items f (a ∷ b ∷ []) v n m low high first second third = absurd (omega arith)
three_items f (a ∷ b ∷ c ∷ []) v n m low high first second third = ap (λ x. f x ∷ f b ∷ f c ∷ []) (sym first) ∙ ap (λ x. f v ∷ f x ∷ f c ∷ []) (sym second) ∙ ap (λ x. f v ∷ f n ∷ f x ∷ []) (sym third)
three_items f (a ∷ b ∷ c ∷ d ∷ xs) v n m low high first second third = absurd (omega arith)

pub four_items :
    {X : Type 0} (f : X → List ℕ) (xs : List X) (v n m k : X) → 4 ≤ length xs → length xs < 5 → v ≡ get_or xs 0 v → n ≡ get_or xs 1 n → m ≡ get_or xs 2 m → k ≡ get_or xs 3 k → map f xs ≡ f v ∷ f n ∷ f m ∷ f k ∷ []
four_items f [] v n m k low high first second third fourth = absurd (omega arith)
four_items f (a ∷ []) v n m k low high first second third fourth = absurd (omega arith)
four_items f (a ∷ b ∷ []) v n m k low high first second third fourth = absurd (omega arith)
four_items f (a ∷ b ∷ c ∷ []) v n m k low high first second third fourth = absurd (omega arith)
four_items f (a ∷ b ∷ c ∷ d ∷ []) v n m k low high first second third fourth =
    ap (λ x. f x ∷ f b ∷ f c ∷ f d ∷ []) (sym first) ∙ ap (λ x. f v ∷ f x ∷ f c ∷ f d ∷ []) (sym second) ∙ ap (λ x. f v ∷ f n ∷ f x ∷ f d ∷ []) (sym third) ∙ ap (λ x. f v ∷ f n ∷ f m ∷ f x ∷ []) (sym fourth)
four_items f (a ∷ b ∷ c ∷ d ∷ e ∷ xs) v n m k low high first second third fourth = absurd (omega arith)

no_file : (bytes name : List ℕ) → is_file bytes ≡ false → IsTrue (is_file name) → bytes ≡ name → ⊥
no_file bytes name none some same = false≢true (sym none ∙ ap is_file same ∙ some)

file_of : (threads : Bool) (words : List (List ℕ)) (name : List ℕ) → Says words (run_command threads name) → IsTrue (is_file name)
file_of false words name h = h.file
file_of true words name h = h.file

-- two words are the serial form alone
two_of : (threads : Bool) (verb bytes name : List ℕ) → Says (verb ∷ bytes ∷ []) (run_command threads name) → (verb ≡ codes "run") × (bytes ≡ name)
two_of false verb bytes name is = let h : verb ∷ bytes ∷ [] ≡ codes "run" ∷ name ∷ [] = is.form in let a : verb ≡ codes "run" = cc in let b : bytes ≡ name = cc in (a, b)
two_of true verb bytes name is = absurd (by is.form)
  where
    short : (a b : List ℕ) → verb ∷ bytes ∷ [] ≡ codes "run" ∷ a ∷ b ∷ [] → ⊥
    short a b h = cc

    by : (verb ∷ bytes ∷ [] ≡ codes "run" ∷ name ∷ codes "--threads" ∷ []) ⊎ (verb ∷ bytes ∷ [] ≡ codes "run" ∷ codes "--threads" ∷ name ∷ []) → ⊥
    by (inl h) = short name (codes "--threads") h
    by (inr h) = short (codes "--threads") name h

-- three words are the threaded form alone
three_of : (threads : Bool) (verb first second name : List ℕ) → Says (verb ∷ first ∷ second ∷ []) (run_command threads name) → (verb ≡ codes "run") × (((first ≡ name) × (second ≡ codes "--threads")) ⊎ ((first ≡ codes "--threads") × (second ≡ name)))
three_of false verb first second name is = absurd (by is.form)
  where
    by : verb ∷ first ∷ second ∷ [] ≡ codes "run" ∷ name ∷ [] → ⊥
    by h = cc
three_of true verb first second name is = by is.form
  where
    by : (verb ∷ first ∷ second ∷ [] ≡ codes "run" ∷ name ∷ codes "--threads" ∷ []) ⊎ (verb ∷ first ∷ second ∷ [] ≡ codes "run" ∷ codes "--threads" ∷ name ∷ []) → (verb ≡ codes "run") × (((first ≡ name) × (second ≡ codes "--threads")) ⊎ ((first ≡ codes "--threads") × (second ≡ name)))
    by (inl h) = let a : verb ≡ codes "run" = cc in let b : first ≡ name = cc in let c : second ≡ codes "--threads" = cc in (a, inl (b, c))
    by (inr h) = let a : verb ≡ codes "run" = cc in let b : first ≡ codes "--threads" = cc in let c : second ≡ name = cc in (a, inr (b, c))

pub no_two : (verb bytes : List ℕ) → ((verb ≡ codes "run" → ⊥) ⊎ (is_file bytes ≡ false)) → IsNoRun (verb ∷ bytes ∷ [])
no_two verb bytes (inl other) threads name is = other (two_of threads verb bytes name is).0
no_two verb bytes (inr none) threads name is = no_file bytes name none (file_of threads (verb ∷ bytes ∷ []) name is) (two_of threads verb bytes name is).1

pub run_two : (verb bytes name : List ℕ) → verb ≡ codes "run" → is_file bytes ≡ true → name ≡ bytes → Says (verb ∷ bytes ∷ []) (run_command false name)
run_two verb bytes name run file same = record { form = ap (λ v. v ∷ bytes ∷ []) run ∙ ap (λ b. codes "run" ∷ b ∷ []) (sym same); file = ap is_file same ∙ file }

threads_no_file : is_file (codes "--threads") ≡ false
threads_no_file = refl

-- why three words run nothing
pub no_three_verb : (verb first second : List ℕ) → (verb ≡ codes "run" → ⊥) → IsNoRun (verb ∷ first ∷ second ∷ [])
no_three_verb verb first second other threads name is = other (three_of threads verb first second name is).0

pub no_three_second : (verb first second : List ℕ) → first ≡ codes "--threads" → is_file second ≡ false → IsNoRun (verb ∷ first ∷ second ∷ [])
no_three_second verb first second flag none threads name is = by (three_of threads verb first second name is).1
  where
    by : ((first ≡ name) × (second ≡ codes "--threads")) ⊎ ((first ≡ codes "--threads") × (second ≡ name)) → ⊥
    by (inl h) = no_file (codes "--threads") name threads_no_file (file_of threads (verb ∷ first ∷ second ∷ []) name is) (sym flag ∙ h.0)
    by (inr h) = no_file second name none (file_of threads (verb ∷ first ∷ second ∷ []) name is) h.1

pub no_three_flag : (verb first second : List ℕ) → (first ≡ codes "--threads" → ⊥) → (second ≡ codes "--threads" → ⊥) → IsNoRun (verb ∷ first ∷ second ∷ [])
no_three_flag verb first second a b threads name is = by (three_of threads verb first second name is).1
  where
    by : ((first ≡ name) × (second ≡ codes "--threads")) ⊎ ((first ≡ codes "--threads") × (second ≡ name)) → ⊥
    by (inl h) = b h.1
    by (inr h) = a h.0

pub no_three_first : (verb first second : List ℕ) → (first ≡ codes "--threads" → ⊥) → is_file first ≡ false → IsNoRun (verb ∷ first ∷ second ∷ [])
no_three_first verb first second a none threads name is = by (three_of threads verb first second name is).1
  where
    by : ((first ≡ name) × (second ≡ codes "--threads")) ⊎ ((first ≡ codes "--threads") × (second ≡ name)) → ⊥
    by (inl h) = no_file first name none (file_of threads (verb ∷ first ∷ second ∷ []) name is) h.0
    by (inr h) = a h.0

pub run_three_front : (verb first second name : List ℕ) → verb ≡ codes "run" → first ≡ codes "--threads" → is_file second ≡ true → name ≡ second → Says (verb ∷ first ∷ second ∷ []) (run_command true name)
run_three_front verb first second name run flag file same =
    record { form = inr (ap (λ v. v ∷ first ∷ second ∷ []) run ∙ ap (λ f. codes "run" ∷ f ∷ second ∷ []) flag ∙ ap (λ b. codes "run" ∷ codes "--threads" ∷ b ∷ []) (sym same)); file = ap is_file same ∙ file }

pub run_three_back : (verb first second name : List ℕ) → verb ≡ codes "run" → second ≡ codes "--threads" → is_file first ≡ true → name ≡ first → Says (verb ∷ first ∷ second ∷ []) (run_command true name)
run_three_back verb first second name run flag file same =
    record { form = inl (ap (λ v. v ∷ first ∷ second ∷ []) run ∙ ap (λ f. codes "run" ∷ first ∷ f ∷ []) flag ∙ ap (λ b. codes "run" ∷ b ∷ codes "--threads" ∷ []) (sym same)); file = ap is_file same ∙ file }

pub none_other : (words : List (List ℕ)) → (length words ≡ 2 → ⊥) → (length words ≡ 3 → ⊥) → IsNoRun words
none_other words two three false name is = two (ap length is.form)
none_other words two three true name is = by is.form
  where
    by : (words ≡ codes "run" ∷ name ∷ codes "--threads" ∷ []) ⊎ (words ≡ codes "run" ∷ codes "--threads" ∷ name ∷ []) → ⊥
    by (inl e) = three (ap length e)
    by (inr e) = three (ap length e)

pub one_item : {X : Type 0} (f : X → List ℕ) (xs : List X) (v : X) → 1 ≤ length xs → length xs < 2 → v ≡ get_or xs 0 v → map f xs ≡ f v ∷ []
one_item f [] v low high first = absurd (omega arith)
one_item f (a ∷ []) v low high first = ap (λ x. f x ∷ []) (sym first)
one_item f (a ∷ b ∷ xs) v low high first = absurd (omega arith)
