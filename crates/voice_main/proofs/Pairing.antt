-- Words that give the options of a `format`.
use Rattle.std.proofs.Common.{◌≡◌, ℕ, ◌+◌, ◌<◌, ◌≤◌, zero, suc, Bool, true, false, cond, List, [], ◌∷◌, length, get_or, drop, map, Option, Some, None, sym, refl, ap, subst, ◌∙◌, arith, lit<, length-drop}
use Rattle.std.specs.Prelude.{is_some}
use Rattle.std.specs.List.{find}
use Rattle.std.specs.Str.{bytes_eq}
use Rattle.std.proofs.lemmas.List.{drop_more}
use Rattle.std.proofs.lemmas.Slice.Eq.{bytes_eq-Decides}
use Rattle.script_lang.specs.Numbers.{number_at_most}
use Rattle.script_lang.proofs.Digits.{number-again, number-found}
use Rattle.voice_main.specs.declared.options.FormatOption.{FormatOption}
use Rattle.voice_main.specs.declared.options.FormatOption.TheVariants as options
use Rattle.voice_main.specs.declared.options.Given.{Given}
use Rattle.voice_main.specs.Options.{option_text, option_named, all_options, value_given, with_value, IsPair, Gives}

abbrev most : ℕ
most = 4294967295

pub some_is : {X : Type 0} (x y : X) → Some x ≡ Some y → x ≡ y
some_is x y e = cc

first_cond : (b : Bool) (x v : FormatOption) (o : Option FormatOption) (word : List ℕ) → (b ≡ true → word ≡ option_text x) → (o ≡ Some v → word ≡ option_text v) → cond b (Some x) o ≡ Some v → word ≡ option_text v
first_cond true x v o word p q e = p refl ∙ ap option_text (some_is x v e)
first_cond false x v o word p q e = q e

first_is : (vs : List FormatOption) (word : List ℕ) (v : FormatOption) → find (λ x. bytes_eq (option_text x) word) vs ≡ Some v → word ≡ option_text v
first_is [] word v e = cc
first_is (x ∷ vs) word v e =
    first_cond (bytes_eq (option_text x) word) x v (find (λ y. bytes_eq (option_text y) word) vs) word (λ t. sym ((bytes_eq-Decides (option_text x) word).0 t)) (first_is vs word v) e

pub named_again : (option : FormatOption) → option_named (option_text option) ≡ Some option
named_again options.Block = refl
named_again options.Blocks = refl
named_again options.Area = refl
named_again options.Grace = refl
named_again options.Held = refl
named_again options.Until = refl
named_again options.Listed = refl
named_again options.Lanes = refl

named_so : (given : Given) (word value : List ℕ) (option : FormatOption) (n : ℕ) → IsPair given word value option n → option_named word ≡ Some option
named_so given word value option n p = ap option_named p.named ∙ named_again option

numbered_so : (given : Given) (word value : List ℕ) (option : FormatOption) (n : ℕ) → IsPair given word value option n → number_at_most most value ≡ Some n
numbered_so given word value option n p = ap (number_at_most most) p.number ∙ number-again most n (lit< tt) p.few

not_given : (o : Option ℕ) → is_some o ≡ false → o ≡ None
not_given None e = refl
not_given (Some n) e = cc

-- a pair that is read
pub pair_is : (given : Given) (word value : List ℕ) (option : FormatOption) (n : ℕ) → option_named word ≡ Some option → number_at_most most value ≡ Some n → is_some (value_given option given) ≡ false → IsPair given word value option n
pair_is given word value option n named numbered fresh =
    let found = number-found most n value (lit< tt) numbered in
    record { named = first_is all_options word option named; number = found.0; few = found.1; first = not_given (value_given option given) fresh }

-- no pair is read
pub unnamed : (given : Given) (word value : List ℕ) → option_named word ≡ None → (option : FormatOption) (n : ℕ) → IsPair given word value option n → ⊥
unnamed given word value none option n p = let e : Some option ≡ None = sym (named_so given word value option n p) ∙ none in cc

pub unnumbered : (given : Given) (word value : List ℕ) → number_at_most most value ≡ None → (option : FormatOption) (n : ℕ) → IsPair given word value option n → ⊥
unnumbered given word value none option n p = let e : Some n ≡ None = sym (numbered_so given word value option n p) ∙ none in cc

pub given_twice : (given : Given) (word value : List ℕ) (known : FormatOption) → option_named word ≡ Some known → is_some (value_given known given) ≡ true → (option : FormatOption) (n : ℕ) → IsPair given word value option n → ⊥
given_twice given word value known named twice option n p =
    let same : known ≡ option = some_is known option (sym named ∙ named_so given word value option n p) in
    let e : false ≡ true = sym (ap is_some (ap (λ o. value_given o given) same ∙ p.first)) ∙ twice in cc

-- ---- the words from one on

-- what the words from here on give is what all give
abbrev pub Alike : List (List ℕ) → Given → Given → ℕ → Type 0
Alike words start given at = (end : Given) → (Gives start words end → Gives given (drop at words) end) × (Gives given (drop at words) end → Gives start words end)

pub item_of : {X : Type 0} (f : X → List ℕ) (xs : List X) (i : ℕ) (x : X) → i < length xs → x ≡ get_or xs i x → f x ≡ get_or (map f xs) i (f x)
item_of f [] i x within is = absurd (omega arith)
item_of f (y ∷ ys) zero x within is = ap f is
item_of f (y ∷ ys) (suc i) x within is = item_of f ys i x (omega arith) is

two_more : (words : List (List ℕ)) (at : ℕ) (word value : List ℕ) → at + 1 < length words → word ≡ get_or words at word → value ≡ get_or words (at + 1) value → drop at words ≡ word ∷ value ∷ drop (at + 2) words
two_more words at word value within first second =
    drop_more words at word (omega (arith, within)) ∙ ap (λ w. w ∷ drop (at + 1) words) (sym first)
    ∙ ap (λ l. word ∷ l) (drop_more words (at + 1) value within ∙ ap (λ w. w ∷ drop (at + 1 + 1) words) (sym second) ∙ ap (λ k. value ∷ drop k words) (omega arith))

forth : (given : Given) (word value : List ℕ) (words : List (List ℕ)) (option : FormatOption) (n : ℕ) (end : Given) → IsPair given word value option n → Gives given (word ∷ value ∷ words) end → Gives (with_value option n given) words end
forth given word value words option n end p h =
    let options_same : h.0 ≡ option = some_is h.0 option (sym (named_so given word value h.0 h.1 h.2) ∙ named_so given word value option n p) in
    let numbers_same : h.1 ≡ n = some_is h.1 n (sym (numbered_so given word value h.0 h.1 h.2) ∙ numbered_so given word value option n p) in
    subst (λ o. Gives (with_value o n given) words end) options_same (subst (λ k. Gives (with_value h.0 k given) words end) numbers_same h.3)

-- a pair further
pub alike_more : (words : List (List ℕ)) (start given more : Given) (at : ℕ) (word value : List ℕ) → at + 1 < length words → word ≡ get_or words at word → value ≡ get_or words (at + 1) value
    → (option : FormatOption) × (n : ℕ) × IsPair given word value option n × (more ≡ with_value option n given) → Alike words start given at → Alike words start more (at + 2)
alike_more words start given more at word value within first second pair h = λ end.
    let split = two_more words at word value within first second in
    let ws = drop (at + 2) words in (
      λ all. subst (λ g. Gives g ws end) (sym pair.3) (forth given word value ws pair.0 pair.1 end pair.2 (subst (λ l. Gives given l end) split ((h end).0 all))),
      λ rest. (h end).1 (subst (λ l. Gives given l end) (sym split) (pair.0, pair.1, pair.2, subst (λ g. Gives g ws end) pair.3 rest)),
    )

-- no pair comes next
pub none_more : (words : List (List ℕ)) (start given : Given) (at : ℕ) (word value : List ℕ) → at + 1 < length words → word ≡ get_or words at word → value ≡ get_or words (at + 1) value
    → ((option : FormatOption) (n : ℕ) → IsPair given word value option n → ⊥) → Alike words start given at → (end : Given) → Gives start words end → ⊥
none_more words start given at word value within first second refused h end all =
    let next = subst (λ l. Gives given l end) (two_more words at word value within first second) ((h end).0 all) in refused next.0 next.1 next.2

odd : (given end : Given) (words : List (List ℕ)) → length words ≡ 1 → Gives given words end → ⊥
odd given end [] one h = cc
odd given end (word ∷ []) one h = h
odd given end (word ∷ (value ∷ words)) one h = omega (arith, one)

-- one word is left
pub one_left : (words : List (List ℕ)) (start given : Given) (at : ℕ) → at + 1 ≡ length words → Alike words start given at → (end : Given) → Gives start words end → ⊥
one_left words start given at one h end all = odd given end (drop at words) (omega (arith, one, length-drop at words)) ((h end).0 all)

nothing_left : (words : List (List ℕ)) → length words ≡ 0 → words ≡ []
nothing_left [] none = refl
nothing_left (word ∷ words) none = absurd (omega (arith, none))

-- none is left
pub all_given : (words : List (List ℕ)) (start given : Given) (at : ℕ) → length words ≤ at → Alike words start given at → Gives start words given
all_given words start given at past h =
    let none : drop at words ≡ [] = nothing_left (drop at words) (omega (arith, past, length-drop at words)) in
    (h given).1 (subst (λ l. Gives given l given) (sym none) refl)

pub from_start : (words : List (List ℕ)) (start : Given) → Alike words start start 0
from_start words start = λ end. (λ h. h, λ h. h)

-- a word's bytes stand at its place
pub item_now : {X : Type 0} (f : X → List ℕ) (xs : List X) (i : ℕ) (x : X) (bytes : List ℕ) → i < length xs → x ≡ get_or xs i x → bytes ≡ f x → bytes ≡ get_or (map f xs) i bytes
item_now f xs i x bytes within is same = subst (λ b. b ≡ get_or (map f xs) i b) (sym same) (item_of f xs i x within is)

pub in_front : {X : Type 0} (f : X → List ℕ) (xs : List X) (x : X) → 1 ≤ length xs → x ≡ get_or xs 0 x → map f xs ≡ f x ∷ map f (drop 1 xs)
in_front f [] x some is = absurd (omega arith)
in_front f (y ∷ ys) x some is = ap (λ z. f z ∷ map f ys) (sym is)
