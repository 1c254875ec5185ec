-- What setting the files of one entry after the other comes to.
use Rattle.std.proofs.Common.{◌≡◌, ◌≤◌, ◌<◌, ◌+◌, ℕ, zero, suc, Bool, true, false, cond, ◌&&◌, eqb, ◌⊎◌, inl, inr, List, [], ◌∷◌, ◌++◌, length, get_or, set, take, drop, map, Option, Some, None, IfSome, is_some, refl, sym, ap, subst, ◌∙◌, arith, drop-drop, drop-cons, take-append-drop, length-set, Vec, Global}
use Rattle.std.specs.Prelude.{count_by}
use Rattle.std.specs.FinMap as map_of
use Rattle.std.proofs.lemmas.Bool.{and_left, and_from, and_right, eq-eqb, ne_eqb, cases_eq}
use Rattle.std.proofs.lemmas.List.{take_more, drop-map, get_or-set_other}
use Rattle.std.proofs.lemmas.List.Sums.{sum_by-cons, sum_by_push, sum_by-take-le}
use Rattle.std.proofs.lemmas.Grind.{get_or-set_at}
use Rattle.voice_outside.specs.Files.{Files, SameElsewhere}
use Rattle.voice_model.specs.Valid.{Every}
use Rattle.voice_model.specs.declared.calls.Entry.{Entry}
use Rattle.served_files.specs.declared.heard.Heard.{Heard}
use Rattle.served_files.specs.Given.{ends_serving, gives_to}
use Rattle.served_files.specs.Files.{GivenFile, Queues, given_of, heard_of, queues_of, first_set, one_done, queues_after, files_set, AreEnough, SetInto}

-- ---- files and queues

set_by : (b : Bool) (ys : List Entry) (q r : Queues) (early late whole end : Files) → whole ≡ files_set ys q early → end ≡ files_set ys r late → cond b whole end ≡ files_set ys (cond b q r) (cond b early late)
set_by true ys q r early late whole end one none = one
set_by false ys q r early late whole end one none = none

-- the files of the first entries are set, and then those of the later ones
pub set_on : (xs ys : List Entry) (queues : Queues) (files : Files) → files_set (xs ++ ys) queues files ≡ files_set ys (queues_after xs queues) (files_set xs queues files)
set_on [] ys queues files = refl
set_on (x ∷ xs) ys queues files =
    let later = one_done x.caller queues in
    let more = first_set (queues x.caller) files in
    set_by (ends_serving x) ys (queues_after xs later) (queues_after xs queues) (files_set xs later more) (files_set xs queues files) (files_set (xs ++ ys) later more) (files_set (xs ++ ys) queues files) (set_on xs ys later more) (set_on xs ys queues files)

left_by : (b t : Bool) (caller : ℕ) (later now : Queues) (old : List GivenFile) (n m : ℕ) → m ≡ cond (b && t) 1 0 + n → later caller ≡ drop n (cond t (drop 1 old) old) → now caller ≡ drop n old → cond b later now caller ≡ drop m old
left_by true true caller later now old n m count one none = one ∙ drop-drop n 1 old ∙ ap (λ k. drop k old) (sym count)
left_by true false caller later now old n m count one none = one ∙ ap (λ k. drop k old) (omega (arith, count))
left_by false t caller later now old n m count one none = none ∙ ap (λ k. drop k old) (omega (arith, count))

-- of each caller as many files are done as entries gave it one
pub left : (es : List Entry) (queues : Queues) (caller : ℕ) → queues_after es queues caller ≡ drop (count_by (gives_to caller) es) (queues caller)
left [] queues caller = refl
left (e ∷ es) queues caller =
    left_by (ends_serving e) (eqb e.caller caller) caller (queues_after es (one_done e.caller queues)) (queues_after es queues) (queues caller) (count_by (gives_to caller) es) (count_by (gives_to caller) (e ∷ es))
    (sum_by-cons (λ x. cond (gives_to caller x) 1 0) e es) (left es (one_done e.caller queues) caller) (left es queues caller)

-- the list of a caller
pub heard_at : (lists : List (Vec Heard Global)) (i : ℕ) (v : Vec Heard Global) → i < length lists → v ≡ get_or lists i v → heard_of lists (suc i) ≡ v.items
heard_at [] i v within is = absurd (omega arith)
heard_at (first ∷ lists) zero v within is = ap (λ (w : Vec Heard Global). w.items) (sym is)
heard_at (first ∷ lists) (suc i) v within is = heard_at lists i v (omega arith) is

-- what a caller's next file is
pub next_file : (done : List Entry) (lists : List (Vec Heard Global)) (e : Entry) (k n : ℕ) (v : Vec Heard Global) (h : Heard) → k + 1 ≡ e.caller → k < length lists → v ≡ get_or lists k v → n < length v.items → h ≡ get_or v.items n h
    → n ≡ count_by (gives_to (k + 1)) done → queues_after done (queues_of lists) e.caller ≡ given_of h ∷ map given_of (drop (n + 1) v.items)
next_file done lists e k n v h by within is short there count =
    let next : k + 1 ≡ suc k = omega arith in
    let own : queues_of lists (k + 1) ≡ map given_of v.items = ap (λ c. map given_of (heard_of lists c)) next ∙ ap (map given_of) (heard_at lists k v within is) in
    let after : suc n ≡ n + 1 = omega arith in
    let first : drop n v.items ≡ h ∷ drop (n + 1) v.items = drop-cons v.items n h short ∙ ap (λ x. x ∷ drop (suc n) v.items) (sym there) ∙ ap (λ m. h ∷ drop m v.items) after in
    ap (queues_after done (queues_of lists)) (sym by) ∙ left done (queues_of lists) (k + 1) ∙ ap (λ m. drop m (queues_of lists (k + 1))) (sym count) ∙ ap (drop n) own ∙ drop-map given_of n v.items ∙ ap (map given_of) first

-- ---- so far

-- what stands once the files of these entries are set: of each caller as many are done as entries gave it one
pub record IsSoFar (done : List Entry) (lists : List (Vec Heard Global)) (at : List ℕ) (start now : Option Files) (before after : ℕ) : Type 0 where
  pub places : length at ≡ 16
  pub counts : (k : ℕ) → k < 16 → get_or at k 0 ≡ count_by (gives_to (k + 1)) done
  pub files : IfSome start (λ files. now ≡ Some (files_set done (queues_of lists) files))
  pub tells : is_some now ≡ is_some start
  pub later : before ≤ after

if_some : {A : Type 0} (o : Option A) (P Q : A → Type 0) → ((x : A) → o ≡ Some x → P x → Q x) → IfSome o P → IfSome o Q
if_some None P Q f h = tt
if_some (Some x) P Q f h = f x refl h

count_push : (caller : ℕ) (done : List Entry) (e : Entry) → count_by (gives_to caller) (done ++ e ∷ []) ≡ count_by (gives_to caller) done + cond (gives_to caller e) 1 0
count_push caller done e = sum_by_push (λ x. cond (gives_to caller x) 1 0) done e

count_same : (caller : ℕ) (done : List Entry) (e : Entry) → gives_to caller e ≡ false → count_by (gives_to caller) (done ++ e ∷ []) ≡ count_by (gives_to caller) done
count_same caller done e none = count_push caller done e ∙ ap (λ b. count_by (gives_to caller) done + cond b 1 0) none ∙ omega arith

count_one : (caller : ℕ) (done : List Entry) (e : Entry) → gives_to caller e ≡ true → count_by (gives_to caller) (done ++ e ∷ []) ≡ count_by (gives_to caller) done + 1
count_one caller done e one = count_push caller done e ∙ ap (λ b. count_by (gives_to caller) done + cond b 1 0) one

-- an entry that gives no file
pub still : (done : List Entry) (e : Entry) (lists : List (Vec Heard Global)) (at : List ℕ) (start now : Option Files) (before after : ℕ) → ends_serving e ≡ false
    → IsSoFar done lists at start now before after → IsSoFar (done ++ e ∷ []) lists at start now before after
still done e lists at start now before after none h = record {
  places = h.places;
  counts = λ k within. h.counts k within ∙ sym (count_same (k + 1) done e (and_left (ends_serving e) (eqb e.caller (k + 1)) none));
  files = if_some start _ _ (λ files is was. was ∙ ap Some (sym (set_on done (e ∷ []) (queues_of lists) files ∙ ap (λ b. cond b (first_set (queues_after done (queues_of lists) e.caller) (files_set done (queues_of lists) files)) (files_set done (queues_of lists) files)) none))) h.files;
  tells = h.tells;
  later = h.later;
}

-- one that gives its caller's next file, which is set
pub set_one : (done : List Entry) (e : Entry) (lists : List (Vec Heard Global)) (at : List ℕ) (start now then : Option Files) (before after end : ℕ) (k n : ℕ) (v : Vec Heard Global) (h : Heard)
    → ends_serving e ≡ true → k + 1 ≡ e.caller → k < length lists → k < 16 → v ≡ get_or lists k v → n ≡ get_or at k 0 → n < length v.items → h ≡ get_or v.items n h → IsSoFar done lists at start now before after
    → IfSome now (λ files. then ≡ Some (map_of.insert files h.file h.bytes.items)) → is_some then ≡ is_some now → after ≤ end → IsSoFar (done ++ e ∷ []) lists (set at k (n + 1)) start then before end
set_one done e lists at start now then before after end k n v h ends by within few is from short there so_far put tells later = record {
  places = length-set at k (n + 1) ∙ so_far.places;
  counts = λ j small. counted j small (cases_eq j k);
  files = if_some start _ _ (λ files known was.
      let now_put : IfSome (Some (files_set done (queues_of lists) files)) (λ m. then ≡ Some (map_of.insert m h.file h.bytes.items)) = subst (λ o. IfSome o (λ m. then ≡ Some (map_of.insert m h.file h.bytes.items))) was put in
      now_put ∙ ap Some (sym (set_on done (e ∷ []) (queues_of lists) files ∙ ap (λ b. cond b (first_set (queues_after done (queues_of lists) e.caller) (files_set done (queues_of lists) files)) (files_set done (queues_of lists) files)) ends ∙ ap (λ q. first_set q (files_set done (queues_of lists) files)) (next_file done lists e k n v h by within is short there (from ∙ so_far.counts k few))))) so_far.files;
  tells = tells ∙ so_far.tells;
  later = omega (arith, so_far.later);
}
  where
    counted : (j : ℕ) → j < 16 → (j ≡ k) ⊎ (j ≡ k → ⊥) → get_or (set at k (n + 1)) j 0 ≡ count_by (gives_to (j + 1)) (done ++ e ∷ [])
    counted j small (inl same) =
        let gives : gives_to (j + 1) e ≡ true = and_from (ends_serving e) (eqb e.caller (j + 1)) ends (eq-eqb e.caller (j + 1) (omega (arith, by, same))) in
        let was : get_or at j 0 ≡ count_by (gives_to (j + 1)) done = so_far.counts j small in
        get_or-set_at at k j (n + 1) 0 same (omega (arith, so_far.places)) ∙ ap (λ m. m + 1) (from ∙ ap (λ m. get_or at m 0) (sym same) ∙ was) ∙ sym (count_one (j + 1) done e gives)
    counted j small (inr apart) =
        let other : gives_to (j + 1) e ≡ false = and_right (ends_serving e) (eqb e.caller (j + 1)) (ne_eqb e.caller (j + 1) (λ same. apart (omega (arith, by, same)))) in
        get_or-set_other at k j (n + 1) 0 apart ∙ so_far.counts j small ∙ sym (count_same (j + 1) done e other)

-- one whose file was not set
pub not_set : (history : List Entry) (i : ℕ) (e : Entry) (lists : List (Vec Heard Global)) (at : List ℕ) (start now then : Option Files) (before after : ℕ) (k n : ℕ) (v : Vec Heard Global) (h : Heard)
    → i < length history → e ≡ get_or history i e → ends_serving e ≡ true → k + 1 ≡ e.caller → k < length lists → k < 16 → v ≡ get_or lists k v → n ≡ get_or at k 0 → n < length v.items → h ≡ get_or v.items n h
    → IsSoFar (take i history) lists at start now before after → IfSome now (λ files. IfSome then (SameElsewhere h.file files)) → IfSome start (λ files. IfSome then (SetInto history (queues_of lists) files))
not_set history i e lists at start now then before after k n v h inside entry ends by within few is from short there so_far put = if_some start _ _
    (λ files known was.
    let after : suc i ≡ i + 1 = omega arith in
    let now_put : IfSome then (SameElsewhere h.file (files_set (take i history) (queues_of lists) files)) = subst (λ o. IfSome o (λ m. IfSome then (SameElsewhere h.file m))) was put in
    if_some then _ _ (λ new there_is same. record {
      front = take i history;
      entry = e;
      rest = drop (i + 1) history;
      split = sym (take-append-drop i history) ∙ ap (λ l. take i history ++ l) (drop-cons history i e inside ∙ ap (λ x. x ∷ drop (suc i) history) (sym entry) ∙ ap (λ m. e ∷ drop m history) after);
      ends = ends;
      file = given_of h;
      more = map given_of (drop (n + 1) v.items);
      next = next_file (take i history) lists e k n v h by within is short there (from ∙ so_far.counts k few);
      elsewhere = same;
    }) now_put) so_far.files

-- ---- there is a file

every_at : (P : Entry → Type 0) (es : List Entry) (i : ℕ) (e : Entry) → Every P es → i < length es → e ≡ get_or es i e → P e
every_at P [] i e h within is = absurd (omega arith)
every_at P (x ∷ xs) zero e h within is = subst P (sym is) h.0
every_at P (x ∷ xs) (suc i) e h within is = every_at P xs i e h.1 (omega arith) is

-- an entry that ends a serving is of a caller with a list
pub has_list : (history : List Entry) (lists : List (Vec Heard Global)) (i : ℕ) (e : Entry) → AreEnough history lists → i < length history → e ≡ get_or history i e → ends_serving e ≡ true → (1 ≤ e.caller) × (e.caller ≤ length lists)
has_list history lists i e h within is ends = every_at (λ x. ends_serving x ≡ true → (1 ≤ x.caller) × (x.caller ≤ length lists)) history i e h.callers within is ends

-- which has one file more
pub has_file : (history : List Entry) (lists : List (Vec Heard Global)) (i k n : ℕ) (e : Entry) (v : Vec Heard Global) (at : List ℕ) (start now : Option Files) (before after : ℕ) → AreEnough history lists → i < length history → e ≡ get_or history i e → ends_serving e ≡ true
    → k + 1 ≡ e.caller → k < length lists → k < 16 → v ≡ get_or lists k v → n ≡ get_or at k 0 → IsSoFar (take i history) lists at start now before after → n < length v.items
has_file history lists i k n e v at start now before after h inside entry ends by within few is from so_far =
    let p = gives_to (k + 1) in
    let gives : gives_to (k + 1) e ≡ true = and_from (ends_serving e) (eqb e.caller (k + 1)) ends (eq-eqb e.caller (k + 1) (sym by)) in
    let front : take (i + 1) history ≡ take i history ++ e ∷ [] = take_more history i e inside ∙ ap (λ x. take i history ++ x ∷ []) (sym entry) in
    let more : count_by p (take (i + 1) history) ≡ count_by p (take i history) + 1 = ap (count_by p) front ∙ count_one (k + 1) (take i history) e gives in
    let whole : count_by p (take (i + 1) history) ≤ count_by p history = sum_by-take-le (λ x. cond (p x) 1 0) history (i + 1) in
    let next : k + 1 ≡ suc k = omega arith in
    let own : length (heard_of lists (k + 1)) ≡ length v.items = ap (λ c. length (heard_of lists c)) next ∙ ap length (heard_at lists k v within is) in
    let enough : count_by p history ≤ length (heard_of lists (k + 1)) = h.files (k + 1) (omega arith) in
    omega (arith, from, so_far.counts k few, more, whole, own, enough)

-- the front of a history, one entry longer
pub front_more : (history : List Entry) (i : ℕ) (e : Entry) → i < length history → e ≡ get_or history i e → take i history ++ e ∷ [] ≡ take (i + 1) history
front_more history i e within is = ap (λ x. take i history ++ x ∷ []) is ∙ sym (take_more history i e within)

-- the same, by other names
pub same_so_far : (done all : List Entry) (lists : List (Vec Heard Global)) (at places : List ℕ) (start now new : Option Files) (before after end : ℕ) → done ≡ all → places ≡ at → new ≡ now → end ≡ after
    → IsSoFar done lists at start now before after → IsSoFar all lists places start new before end
same_so_far done all lists at places start now new before after end entries same files faults h =
    subst (λ l. IsSoFar l lists places start new before end) entries
    (subst (λ p. IsSoFar done lists p start new before end) (sym same)
    (subst (λ f. IsSoFar done lists at start f before end) (sym files)
    (subst (λ n. IsSoFar done lists at start now before n) (sym faults) h)))
