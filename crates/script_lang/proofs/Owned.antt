-- No lane is served for two callers.
use Rattle.std.proofs.Common.{◌≡◌, ℕ, zero, suc, Bool, true, false, true≢false, ◌&&◌, ◌||◌, not, eqb, All, List, [], ◌∷◌, ◌++◌, length, get_or, slice_get, sym, refl, ap, subst, ◌∙◌, arith, Option, Some, None, IsTrue}
use Rattle.std.specs.List.{list_any}
use Rattle.std.proofs.lemmas.Bool.{and_from, and_right, or_from, or_parts}
use Rattle.std.proofs.lemmas.Bool.Decides.{Decides-eqb, nat_tests}
use Rattle.std.proofs.lemmas.List.Elements.{All-push}
use Rattle.std.proofs.lemmas.List.Folds.{list_any-append}
use Rattle.std.proofs.lemmas.Option.{slice_get-get_or, slice_get_within, get_or_from_slice_get}
use Rattle.script_lang.specs.declared.scripts.Line.{Line}
use Rattle.script_lang.specs.Parts.{served, serves, is_other, is_taken}
use Rattle.script_lang.specs.Owners.{HaveOneOwner}

-- what holds of each element, and a test that none passes
all_some : {X : Type 0} (P : X → Type 0) (xs : List X) (k : ℕ) (x : X) → All P xs → slice_get xs k ≡ Some x → P x
all_some P xs k x h e = subst P (get_or_from_slice_get xs k x x e) (h k x (slice_get_within xs k x e))

none_some : {X : Type 0} (p : X → Bool) (xs : List X) (k : ℕ) (x : X) → list_any p xs ≡ false → slice_get xs k ≡ Some x → p x ≡ false
none_some p [] k x none e = cc
none_some p (y ∷ ys) zero x none e = let same : y ≡ x = cc in ap p (sym same) ∙ (or_parts (p y) (list_any p ys) none).0
none_some p (y ∷ ys) (suc k) x none e = none_some p ys k x (or_parts (p y) (list_any p ys) none).1 e

eqb_turned : (a b : ℕ) → eqb a b ≡ eqb b a
eqb_turned a b = grind (arith, nat_tests)

-- no line serves a lane for another caller than its own
own_lane : (o : Option ℕ) (lane caller : ℕ) → is_other o lane caller caller ≡ false
own_lane None lane caller = refl
own_lane (Some n) lane caller = and_right (eqb n lane) (not (eqb caller caller)) (ap not ((Decides-eqb caller caller).1 refl))

-- where the lane of one line isn't served by another for another caller, nor is the other's lane by the one
other_way : (o p : Option ℕ) (c e lane : ℕ) → ((n : ℕ) → p ≡ Some n → is_other o n c e ≡ false) → o ≡ Some lane → is_other p lane e c ≡ false
other_way None p c e lane free is = cc
other_way (Some m) None c e lane free is = refl
other_way (Some m) (Some n) c e lane free is =
    let same : m ≡ lane = cc in
    ap (λ k. eqb n k && not (eqb e c)) (sym same) ∙ ap (λ b. b && not (eqb e c)) (eqb_turned n m) ∙ ap (λ b. eqb m n && not b) (eqb_turned e c) ∙ free n refl

-- a lane that no other caller serves in the lines isn't served so by one of them
free_of : (lines : List Line) (k : ℕ) (line : Line) (caller : ℕ) (o : Option ℕ) → slice_get lines k ≡ Some line → is_taken lines caller o ≡ false → (lane : ℕ) → o ≡ Some lane → is_other (served line.verb) lane line.caller caller ≡ false
free_of lines k line caller None at free lane is = cc
free_of lines k line caller (Some n) at free lane is =
    let same : n ≡ lane = cc in
    ap (λ m. is_other (served line.verb) m line.caller caller) (sym same) ∙ none_some (serves caller n) lines k line free at

-- nor is it where one line more is put behind that doesn't serve it so
free_more : (lines : List Line) (line : Line) (caller : ℕ) (o : Option ℕ) → is_taken lines caller o ≡ false → ((lane : ℕ) → o ≡ Some lane → is_other (served line.verb) lane line.caller caller ≡ false) → is_taken (lines ++ line ∷ []) caller o ≡ false
free_more lines line caller None free none = refl
free_more lines line caller (Some lane) free none =
    list_any-append (serves caller lane) lines (line ∷ []) ∙ or_from (list_any (serves caller lane) lines) (serves caller lane line || false) free (or_from (serves caller lane line) false (none lane refl) refl)

pub one_owner_more : (lines : List Line) (line : Line) → HaveOneOwner lines → is_taken lines line.caller (served line.verb) ≡ false → HaveOneOwner (lines ++ line ∷ [])
one_owner_more lines line h free =
    let P : Line → Type 0 = λ l. is_taken (lines ++ line ∷ []) l.caller (served l.verb) ≡ false in
    All-push P lines line
    (λ k d within.
    let old : Line = get_or lines k d in
    free_more lines line old.caller (served old.verb) (h k d within)
    (λ lane is. other_way (served old.verb) (served line.verb) old.caller line.caller lane (free_of lines k old line.caller (served line.verb) (slice_get-get_or lines k d within) free) is))
    (free_more lines line line.caller (served line.verb) free (λ lane is. own_lane (served line.verb) lane line.caller))

same_caller : (lane a b : ℕ) → (eqb lane lane && not (eqb b a)) ≡ false → a ≡ b
same_caller lane a b e = by (eqb b a) refl
  where
    by : (t : Bool) → eqb b a ≡ t → a ≡ b
    by true t = sym ((Decides-eqb b a).0 t)
    by false t = absurd (true≢false (sym (and_from (eqb lane lane) (not (eqb b a)) ((Decides-eqb lane lane).1 refl) (ap not t)) ∙ e))

-- two lines that serve a lane have one caller
pub one_owner : (lines : List Line) → HaveOneOwner lines → (i j : ℕ) (a b : Line) (lane : ℕ) → slice_get lines i ≡ Some a → slice_get lines j ≡ Some b → served a.verb ≡ Some lane → served b.verb ≡ Some lane → a.caller ≡ b.caller
one_owner lines h i j a b lane at there first second =
    let P : Line → Type 0 = λ l. is_taken lines l.caller (served l.verb) ≡ false in
    let free : is_taken lines a.caller (served a.verb) ≡ false = all_some P lines i a h at in
    same_caller lane a.caller b.caller (ap (λ (o : Option ℕ). is_other o lane b.caller a.caller) (sym second) ∙ free_of lines j b a.caller (served a.verb) there free lane first)
