-- Pairs of hex digits.
use Rattle.std.proofs.Common.{◌≡◌, ℕ, suc, zero, ◌+◌, ◌*◌, ◌%◌, ◌/◌, ◌<◌, ◌≤◌, List, [], ◌∷◌, ◌++◌, length, get_or, take, drop, set, sym, refl, ap, ◌∙◌, arith, Option, Some, None, append_assoc}
use Rattle.std.proofs.lemmas.List.{take_more_set}
use Rattle.script_lang.specs.Forms.{hex_value, hex_of, one_more}
use Rattle.script_lang.specs.Arguments.{with_front}

none_left : (x y : Option ℕ) → one_more x y None ≡ None
none_left None y = refl
none_left (Some x) None = refl
none_left (Some x) (Some y) = refl

none_low : (x : Option ℕ) (o : Option (List ℕ)) → one_more x None o ≡ None
none_low None o = refl
none_low (Some x) o = refl

odd_from : (n : ℕ) (word : List ℕ) → length word ≤ n → (length word % 2 ≡ 0 → ⊥) → hex_of word ≡ None
odd_from n [] h o = absurd (o refl)
odd_from n (a ∷ []) h o = refl
odd_from zero (a ∷ (b ∷ ds)) h o = absurd (omega arith)
odd_from (suc n) (a ∷ (b ∷ ds)) h o =
    ap (one_more (hex_value a) (hex_value b)) (odd_from n ds (omega arith) (λ e. o (omega arith))) ∙ none_left (hex_value a) (hex_value b)

pub odd : (word : List ℕ) → (length word % 2 ≡ 0 → ⊥) → None ≡ hex_of word
odd word o = sym (odd_from (length word) word (omega arith) o)

pair_at : (word : List ℕ) (k : ℕ) → suc k < length word →
    hex_of (drop k word) ≡ one_more (hex_value (get_or word k 0)) (hex_value (get_or word (suc k) 0)) (hex_of (drop (suc (suc k)) word))
pair_at [] k h = absurd (omega arith)
pair_at (a ∷ []) k h = absurd (omega arith)
pair_at (a ∷ (b ∷ ds)) zero h = refl
pair_at (a ∷ (b ∷ ds)) (suc k) h = pair_at (b ∷ ds) k (omega arith)

pub pair_is : (word : List ℕ) (i : ℕ) → 2 * i + 1 < length word →
    hex_of (drop (2 * i) word) ≡ one_more (hex_value (get_or word (2 * i) 0)) (hex_value (get_or word (2 * i + 1) 0)) (hex_of (drop (2 * (i + 1)) word))
pair_is word i h =
    let e : suc (2 * i) ≡ 2 * i + 1 = omega arith in
    let f : suc (suc (2 * i)) ≡ 2 * (i + 1) = omega arith in
    pair_at word (2 * i) (omega arith)
    ∙ ap (λ k. one_more (hex_value (get_or word (2 * i) 0)) (hex_value (get_or word k 0)) (hex_of (drop (suc (suc (2 * i))) word))) e
    ∙ ap (λ k. one_more (hex_value (get_or word (2 * i) 0)) (hex_value (get_or word (2 * i + 1) 0)) (hex_of (drop k word))) f

pub no_high : (word : List ℕ) (i : ℕ) (front : List ℕ) → 2 * i + 1 < length word → hex_of word ≡ with_front front (hex_of (drop (2 * i) word)) → None ≡ hex_value (get_or word (2 * i) 0) → None ≡ hex_of word
no_high word i front h e n =
    sym (e ∙ ap (with_front front) (pair_is word i h ∙ ap (λ x. one_more x (hex_value (get_or word (2 * i + 1) 0)) (hex_of (drop (2 * (i + 1)) word))) (sym n)))

pub no_low : (word : List ℕ) (i : ℕ) (front : List ℕ) → 2 * i + 1 < length word → hex_of word ≡ with_front front (hex_of (drop (2 * i) word)) → None ≡ hex_value (get_or word (2 * i + 1) 0) → None ≡ hex_of word
no_low word i front h e n =
    sym (e ∙ ap (with_front front) (pair_is word i h
    ∙ ap (λ x. one_more (hex_value (get_or word (2 * i) 0)) x (hex_of (drop (2 * (i + 1)) word))) (sym n)
    ∙ none_low (hex_value (get_or word (2 * i) 0)) (hex_of (drop (2 * (i + 1)) word))))

grown : (front : List ℕ) (high low : ℕ) (o : Option (List ℕ)) → with_front front (one_more (Some high) (Some low) o) ≡ with_front (front ++ (16 * high + low) ∷ []) o
grown front high low None = refl
grown front high low (Some rest) = ap Some (sym (append_assoc front ((16 * high + low) ∷ []) rest))

pub pair_more : (word bytes : List ℕ) (i high low : ℕ) → 2 * i + 1 < length word → i < length bytes → hex_of word ≡ with_front (take i bytes) (hex_of (drop (2 * i) word)) →
    Some high ≡ hex_value (get_or word (2 * i) 0) → Some low ≡ hex_value (get_or word (2 * i + 1) 0) →
    hex_of word ≡ with_front (take (i + 1) (set bytes i (16 * high + low))) (hex_of (drop (2 * (i + 1)) word))
pair_more word bytes i high low h b e p q =
    let rest = hex_of (drop (2 * (i + 1)) word) in
    e ∙ ap (with_front (take i bytes)) (pair_is word i h
    ∙ ap (λ x. one_more x (hex_value (get_or word (2 * i + 1) 0)) rest) (sym p) ∙ ap (λ x. one_more (Some high) x rest) (sym q))
    ∙ grown (take i bytes) high low rest
    ∙ ap (λ f. with_front f rest) (sym (take_more_set bytes i (16 * high + low) b))

all_gone : (word : List ℕ) (n : ℕ) → length word ≤ n → drop n word ≡ []
all_gone [] zero h = refl
all_gone [] (suc n) h = refl
all_gone (a ∷ w) zero h = absurd (omega arith)
all_gone (a ∷ w) (suc n) h = all_gone w n (omega arith)

append_none : (xs : List ℕ) → xs ++ [] ≡ xs
append_none [] = refl
append_none (x ∷ xs) = ap (λ t. x ∷ t) (append_none xs)

pub pairs_done : (word bytes : List ℕ) (i n : ℕ) → length word % 2 ≡ 0 → n ≡ length word / 2 → n ≤ i → i ≤ n → hex_of word ≡ with_front (take i bytes) (hex_of (drop (2 * i) word)) → (note : List ℕ) → note ≡ take n bytes → Some note ≡ hex_of word
pairs_done word bytes i n even half le ge e note is =
    let same : i ≡ n = omega arith in
    let gone : drop (2 * i) word ≡ [] = all_gone word (2 * i) (omega arith) in
    sym (e ∙ ap (λ d. with_front (take i bytes) (hex_of d)) gone ∙ ap Some (append_none (take i bytes) ∙ ap (λ k. take k bytes) same ∙ sym is))

pub with_none : (o : Option (List ℕ)) → o ≡ with_front [] o
with_none None = refl
with_none (Some bytes) = refl
