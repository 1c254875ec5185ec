-- Reading a word against its spelling.
use Rattle.std.proofs.Common.{◌≡◌, ℕ, ◌^◌, ◌<◌, ◌≤◌, ◌⊎◌, inl, inr, Bool, true, false, cond, ◌&&◌, List, [], ◌∷◌, get_or, map, sym, refl, ap, ◌∙◌, arith, Option, Some, None, lit<, subst}
use Rattle.std.specs.Prelude.{option_and_then, option_map, IsTrue, codes}
use Rattle.std.specs.Fmt.{decimal}
use Rattle.std.specs.Str.{bytes_eq}
use Rattle.std.proofs.lemmas.Bool.Decides.{nat_tests}
use Rattle.std.proofs.lemmas.Slice.Eq.{bytes_eq-Decides}
use Rattle.voice_model.specs.declared.calls.Class.{Class}
use Rattle.voice_model.specs.declared.calls.Class.TheVariants as classes
use Rattle.script_lang.specs.declared.scripts.RopeArg.{RopeArg}
use Rattle.script_lang.specs.declared.scripts.RopeArg.TheVariants as ropes
use Rattle.script_lang.specs.Numbers.{number_at_most}
use Rattle.script_lang.specs.Forms.{is_var, is_file, is_key, is_letter, is_short, is_word_byte, class_of}
use Rattle.std.specs.List.{list_all}
use Rattle.script_lang.specs.Arguments.{Rest, next, rope_of, rope_at, number_at, file_of, file_at, key_of, key_at, class_at, ropes_of, keys_of}
use Rattle.script_lang.specs.Grammar.{rope_text, IsRope, class_text, Every}
use Rattle.script_lang.proofs.Digits.{number-again, number-found, decimal_first}

pub bind_ok : {A B : Type 0} (o : Option A) (f : A → Option B) (y : B) → option_and_then f o ≡ Some y → (x : A) × (o ≡ Some x) × (f x ≡ Some y)
bind_ok None f y e = cc
bind_ok (Some x) f y e = (x, refl, e)

pub some_is : {A : Type 0} (x y : A) → Some x ≡ Some y → x ≡ y
some_is x y e = cc

-- a reader of one word
abbrev pub one_word : {X : Type 0} → (List ℕ → Option X) → Rest → Option (X × Rest)
one_word of words = option_and_then (λ w. option_and_then (λ x. Some (x, w.1)) (of w.0)) (next words)

pub word_found : {X : Type 0} (of : List ℕ → Option X) (words rest : Rest) (x : X) → one_word of words ≡ Some (x, rest) → (w : List ℕ) × (words ≡ w ∷ rest) × (of w ≡ Some x)
word_found of [] rest x e = cc
word_found of (w ∷ ws) rest x e =
    let b = bind_ok (of w) (λ y. Some (y, ws)) (x, rest) e in
    let p = some_is (b.0, ws) (x, rest) b.2 in
    (w, ap (λ q. w ∷ q.1) p, b.1 ∙ ap (λ q. Some (q.0)) p)

pub word_again : {X : Type 0} (of : List ℕ → Option X) (w : List ℕ) (rest : Rest) (x : X) → of w ≡ Some x → one_word of (w ∷ rest) ≡ Some (x, rest)
word_again of w rest x e = ap (option_and_then (λ y. Some (y, rest))) e

tested : {X : Type 0} (t : Bool) (x y : X) → cond t (Some x) None ≡ Some y → (t ≡ true) × (x ≡ y)
tested true x y e = (refl, cc)
tested false x y e = cc

-- numbers
pub number_found : (most n : ℕ) (words rest : Rest) → most < 10 ^ 15 → number_at most words ≡ Some (n, rest) → (words ≡ decimal n ∷ rest) × (n ≤ most)
unfolding number_at
number_found most n words rest few e =
    let w = word_found (number_at_most most) words rest n e in
    let p = number-found most n w.0 few w.2 in
    (w.1 ∙ ap (λ t. t ∷ rest) p.0, p.1)

pub number_again : (most n : ℕ) (rest : Rest) → most < 10 ^ 15 → n ≤ most → number_at most (decimal n ∷ rest) ≡ Some (n, rest)
unfolding number_at
number_again most n rest few h = word_again (number_at_most most) (decimal n) rest n (number-again most n few h)

-- files and keys
file_of_found : (w x : List ℕ) → file_of w ≡ Some x → (w ≡ x) × IsTrue (is_file x)
unfolding file_of
file_of_found w x e = let t = tested (is_file w) w x e in (t.1, ap is_file (sym t.1) ∙ t.0)

pub file_found : (words rest : Rest) (x : List ℕ) → file_at words ≡ Some (x, rest) → (words ≡ x ∷ rest) × IsTrue (is_file x)
unfolding file_at
file_found words rest x e =
    let w = word_found file_of words rest x e in
    let p = file_of_found w.0 x w.2 in
    (w.1 ∙ ap (λ t. t ∷ rest) p.0, p.1)

pub file_again : (x : List ℕ) (rest : Rest) → IsTrue (is_file x) → file_at (x ∷ rest) ≡ Some (x, rest)
unfolding file_at file_of
file_again x rest h = word_again file_of x rest x (ap (λ t. cond t (Some x) None) h)

key_of_found : (w x : List ℕ) → key_of w ≡ Some x → (w ≡ x) × IsTrue (is_key x)
unfolding key_of
key_of_found w x e = let t = tested (is_key w) w x e in (t.1, ap is_key (sym t.1) ∙ t.0)

key_of_again : (x : List ℕ) → IsTrue (is_key x) → key_of x ≡ Some x
unfolding key_of
key_of_again x h = ap (λ t. cond t (Some x) None) h

pub key_found : (words rest : Rest) (x : List ℕ) → key_at words ≡ Some (x, rest) → (words ≡ x ∷ rest) × IsTrue (is_key x)
unfolding key_at
key_found words rest x e =
    let w = word_found key_of words rest x e in
    let p = key_of_found w.0 x w.2 in
    (w.1 ∙ ap (λ t. t ∷ rest) p.0, p.1)

pub key_again : (x : List ℕ) (rest : Rest) → IsTrue (is_key x) → key_at (x ∷ rest) ≡ Some (x, rest)
unfolding key_at
key_again x rest h = word_again key_of x rest x (key_of_again x h)

-- ropes
either : (t : Bool) (w : List ℕ) (o : Option ℕ) (r : RopeArg) → cond t (Some (ropes.Var w)) (option_map ropes.Id o) ≡ Some r →
    ((t ≡ true) × (ropes.Var w ≡ r)) ⊎ ((n : ℕ) × (o ≡ Some n) × (ropes.Id n ≡ r))
either true w o r e = inl (refl, cc)
either false w None r e = cc
either false w (Some n) r e = inr (n, refl, cc)

rope_of_found : (w : List ℕ) (r : RopeArg) → rope_of w ≡ Some r → (w ≡ rope_text r) × IsRope r
unfolding rope_of
rope_of_found w r e =
    elim (either (is_var w) w (number_at_most (2 ^ 48) w) r e) [
      | inl v ↦ (ap rope_text v.1, subst IsRope v.1 v.0)
      | inr v ↦ let p = number-found (2 ^ 48) v.0 w (lit< tt) v.1 in (p.0 ∙ ap rope_text v.2, subst IsRope v.2 p.1)
    ]

digit_no_letter : (c : ℕ) → 48 ≤ c → c ≤ 57 → is_letter c ≡ false
digit_no_letter c low high = grind (arith, nat_tests)

last_false : (a b c : Bool) → b ≡ false → (a && b && c) ≡ false
last_false true true c e = cc
last_false true false c e = refl
last_false false b c e = refl

rope_of_again : (r : RopeArg) → IsRope r → rope_of (rope_text r) ≡ Some r
unfolding rope_of
rope_of_again (ropes.Id n) h =
    let f = decimal_first n (omega arith) in
    let no : is_var (decimal n) ≡ false = last_false (is_short (decimal n)) (is_letter (get_or (decimal n) 0 0)) (list_all is_word_byte (decimal n)) (digit_no_letter (get_or (decimal n) 0 0) f.0 f.1) in
    ap (λ t. cond t (Some (ropes.Var (decimal n))) (option_map ropes.Id (number_at_most (2 ^ 48) (decimal n)))) no
    ∙ ap (option_map ropes.Id) (number-again (2 ^ 48) n (lit< tt) h)
rope_of_again (ropes.Var name) h = ap (λ t. cond t (Some (ropes.Var name)) (option_map ropes.Id (number_at_most (2 ^ 48) name))) h

pub rope_found : (words rest : Rest) (r : RopeArg) → rope_at words ≡ Some (r, rest) → (words ≡ rope_text r ∷ rest) × IsRope r
unfolding rope_at
rope_found words rest r e =
    let w = word_found rope_of words rest r e in
    let p = rope_of_found w.0 r w.2 in
    (w.1 ∙ ap (λ t. t ∷ rest) p.0, p.1)

pub rope_again : (r : RopeArg) (rest : Rest) → IsRope r → rope_at (rope_text r ∷ rest) ≡ Some (r, rest)
unfolding rope_at
rope_again r rest h = word_again rope_of (rope_text r) rest r (rope_of_again r h)

-- classes
class_cases : (a b c : Bool) (w : List ℕ) (k : Class) → (a ≡ true → w ≡ codes "held") → (b ≡ true → w ≡ codes "until") → (c ≡ true → w ≡ codes "listed") →
    cond a (Some classes.Held) (cond b (Some classes.Until) (cond c (Some classes.Listed) None)) ≡ Some k → w ≡ class_text k
class_cases true b c w k p q r e = p refl ∙ ap class_text (some_is classes.Held k e)
class_cases false true c w k p q r e = q refl ∙ ap class_text (some_is classes.Until k e)
class_cases false false true w k p q r e = r refl ∙ ap class_text (some_is classes.Listed k e)
class_cases false false false w k p q r e = cc

class_of_found : (w : List ℕ) (k : Class) → class_of w ≡ Some k → w ≡ class_text k
unfolding class_of
class_of_found w k e = class_cases (bytes_eq w (codes "held")) (bytes_eq w (codes "until")) (bytes_eq w (codes "listed")) w k
    (λ t. (bytes_eq-Decides w (codes "held")).0 t) (λ t. (bytes_eq-Decides w (codes "until")).0 t) (λ t. (bytes_eq-Decides w (codes "listed")).0 t) e

pub class_again : (k : Class) (rest : Rest) → class_at (class_text k ∷ rest) ≡ Some (k, rest)
unfolding class_at class_of
class_again classes.Held rest = refl
class_again classes.Until rest = refl
class_again classes.Listed rest = refl

pub class_found : (words rest : Rest) (k : Class) → class_at words ≡ Some (k, rest) → words ≡ class_text k ∷ rest
unfolding class_at
class_found words rest k e = let w = word_found class_of words rest k e in w.1 ∙ ap (λ t. t ∷ rest) (class_of_found w.0 k w.2)

-- lists
map_ok : {A B : Type 0} (o : Option A) (f : A → B) (y : B) → option_map f o ≡ Some y → (x : A) × (o ≡ Some x) × (f x ≡ y)
map_ok None f y e = cc
map_ok (Some x) f y e = (x, refl, some_is (f x) y e)

pub ropes_found : (words : Rest) (rs : List RopeArg) → ropes_of words ≡ Some rs → (words ≡ map rope_text rs) × Every IsRope rs
ropes_found [] rs e = let s = some_is [] rs e in (ap (map rope_text) s, subst (Every IsRope) s tt)
ropes_found (w ∷ ws) rs e =
    let a = bind_ok (rope_of w) _ rs e in
    let b = map_ok (ropes_of ws) (λ l. a.0 ∷ l) rs a.2 in
    let p = rope_of_found w a.0 a.1 in
    let q = ropes_found ws b.0 b.1 in
    let whole : w ∷ ws ≡ map rope_text (a.0 ∷ b.0) = cc in
    let every : Every IsRope (a.0 ∷ b.0) = (p.1, q.1) in
    (whole ∙ ap (map rope_text) b.2, subst (Every IsRope) b.2 every)

pub ropes_again : (rs : List RopeArg) → Every IsRope rs → ropes_of (map rope_text rs) ≡ Some rs
ropes_again [] h = refl
ropes_again (r ∷ rs) h =
    ap (option_and_then (λ x. option_map (λ l. x ∷ l) (ropes_of (map rope_text rs)))) (rope_of_again r h.0) ∙ ap (option_map (λ l. r ∷ l)) (ropes_again rs h.1)

abbrev IsKey : List ℕ → Type 0
IsKey key = IsTrue (is_key key)

pub keys_found : (words rs : Rest) → keys_of words ≡ Some rs → (words ≡ rs) × Every (λ key. IsTrue (is_key key)) rs
keys_found [] rs e = let s = some_is [] rs e in (s, subst (Every IsKey) s tt)
keys_found (w ∷ ws) rs e =
    let a = bind_ok (key_of w) _ rs e in
    let b = map_ok (keys_of ws) (λ l. a.0 ∷ l) rs a.2 in
    let p = key_of_found w a.0 a.1 in
    let q = keys_found ws b.0 b.1 in
    let whole : w ∷ ws ≡ a.0 ∷ b.0 = cc in
    let every : Every IsKey (a.0 ∷ b.0) = (p.1, q.1) in
    (whole ∙ b.2, subst (Every IsKey) b.2 every)

pub keys_again : (rs : Rest) → Every (λ key. IsTrue (is_key key)) rs → keys_of rs ≡ Some rs
keys_again [] h = refl
keys_again (r ∷ rs) h = ap (option_and_then (λ x. option_map (λ l. x ∷ l) (keys_of rs))) (key_of_again r h.0) ∙ ap (option_map (λ l. r ∷ l)) (keys_again rs h.1)
