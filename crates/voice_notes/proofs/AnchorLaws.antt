-- What stands at the front of some bytes, in the words of the laws.
use Rattle.std.proofs.Common.{◌≡◌, ℕ, zero, suc, ◌+◌, ◌<◌, ◌≤◌, Bool, true, false, cond, ◌&&◌, List, [], ◌∷◌, ◌++◌, length, take, drop, refl, sym, ap, subst, ◌∙◌, arith, Option, Some, None, ltb, append_assoc}
use Rattle.std.specs.Prelude.{not, bytes_eq}
use Rattle.std.specs.List.{list_all}
use Rattle.std.proofs.lemmas.List.{take-append-drop}
use Rattle.std.proofs.lemmas.Bool.{ltb-true, ltb-false}
use Rattle.std.proofs.Math.Seq.{drop-append_seam, take-append_seam}
use Rattle.std.proofs.lemmas.Slice.Eq.{bytes_eq-Decides}
use Rattle.script_lang.specs.Forms.{is_name_byte, is_short, is_key}
use Rattle.voice_notes.specs.declared.front.Front.{Front}
use Rattle.voice_notes.specs.declared.front.Front.TheVariants as fronts
use Rattle.voice_notes.specs.Anchors.{opening, closing, Begins, IsAnchor, run, front_of, or_later, bad_from, bad_place}
use Rattle.voice_notes.specs.Laws.{IsBad, AnchorsStand, IsFirstBad, PlacesAreFirst}

both_parts : (a b : Bool) → (a && b) ≡ true → (a ≡ true) × (b ≡ true)
both_parts true b h = (refl, h)
both_parts false b h = cc

both : (a b : Bool) → a ≡ true → b ≡ true → (a && b) ≡ true
both true b e f = f
both false b e f = cc

same_bytes : (xs ys : List ℕ) → bytes_eq xs ys ≡ true → xs ≡ ys
same_bytes xs ys e = (bytes_eq-Decides xs ys).0 e

equal_bytes : (xs : List ℕ) → bytes_eq xs xs ≡ true
equal_bytes xs = (bytes_eq-Decides xs xs).1 refl

-- ---- a run of a key's bytes

run_named : (bytes : List ℕ) → list_all is_name_byte (take (run bytes) bytes) ≡ true
run_named [] = refl
run_named (b ∷ bytes) = by (is_name_byte b) refl (run_named bytes)
  where
    by : (named : Bool) → is_name_byte b ≡ named → list_all is_name_byte (take (run bytes) bytes) ≡ true → list_all is_name_byte (take (cond (not (not named)) (1 + run bytes) 0) (b ∷ bytes)) ≡ true
    by true e h =
        let n : 1 + run bytes ≡ suc (run bytes) = omega arith in
        subst (λ n. list_all is_name_byte (take n (b ∷ bytes)) ≡ true) (sym n) (both (is_name_byte b) (list_all is_name_byte (take (run bytes) bytes)) e h)
    by false e h = refl

run_of_key : (key rest : List ℕ) → list_all is_name_byte key ≡ true → run (key ++ closing ++ rest) ≡ length key
run_of_key [] rest h = refl
run_of_key (b ∷ key) rest h =
    let parts = both_parts (is_name_byte b) (list_all is_name_byte key) h in
    let n : 1 + length key ≡ suc (length key) = omega arith in
    ap (λ named. cond (not (not named)) (1 + run (key ++ closing ++ rest)) 0) parts.0 ∙ ap (λ n. 1 + n) (run_of_key key rest parts.1) ∙ n

-- ---- an anchor

-- whether `]]` and a short name make an anchor
abbrev closes : List ℕ → Bool
closes behind = bytes_eq closing (take 2 (drop (run behind) behind)) && is_short (take (run behind) behind)

whole_behind : (behind : List ℕ) → closes behind ≡ true → (is_key (take (run behind) behind) ≡ true) × (behind ≡ take (run behind) behind ++ (closing ++ drop 2 (drop (run behind) behind)))
whole_behind behind h =
    let parts = both_parts (bytes_eq closing (take 2 (drop (run behind) behind))) (is_short (take (run behind) behind)) h in
    let end : closing ≡ take 2 (drop (run behind) behind) = same_bytes closing (take 2 (drop (run behind) behind)) parts.0 in (
      both (is_short (take (run behind) behind)) (list_all is_name_byte (take (run behind) behind)) parts.1 (run_named behind),
      sym (take-append-drop (run behind) behind)
          ∙ ap (λ (rest : List ℕ). take (run behind) behind ++ rest) (sym (take-append-drop 2 (drop (run behind) behind)))
          ∙ ap (λ (front : List ℕ). take (run behind) behind ++ (front ++ drop 2 (drop (run behind) behind))) (sym end),
    )

-- the front, by whether `[[voice:` stands there and whether it is closed
front_by : (bytes : List ℕ) (opens closed : Bool) → bytes_eq (take 8 bytes) opening ≡ opens → closes (drop 8 bytes) ≡ closed
    → front_of bytes ≡ cond opens (cond closed (fronts.Anchor (take (run (drop 8 bytes)) (drop 8 bytes))) fronts.Bad) fronts.Other
front_by bytes opens closed e f =
    let key = take (run (drop 8 bytes)) (drop 8 bytes) in
    ap (λ b. cond b (cond (closes (drop 8 bytes)) (fronts.Anchor key) fronts.Bad) fronts.Other) e ∙ ap (λ b. cond opens (cond b (fronts.Anchor key) fronts.Bad) fronts.Other) f

opened : (bytes : List ℕ) → bytes_eq (take 8 bytes) opening ≡ true → bytes ≡ opening ++ drop 8 bytes
opened bytes e = sym (take-append-drop 8 bytes) ∙ ap (λ (front : List ℕ). front ++ drop 8 bytes) (same_bytes (take 8 bytes) opening e)

regroup : (key rest : List ℕ) → opening ++ (key ++ (closing ++ rest)) ≡ (opening ++ key ++ closing) ++ rest
regroup key rest = ap (λ (tail : List ℕ). opening ++ tail) (sym (append_assoc key closing rest)) ∙ sym (append_assoc opening (key ++ closing) rest) ∙ ap (λ (front : List ℕ). front ++ rest) (sym (append_assoc opening key closing))

-- what is an anchor is one by its form
is_anchor : (bytes : List ℕ) → bytes_eq (take 8 bytes) opening ≡ true → closes (drop 8 bytes) ≡ true → IsAnchor bytes (take (run (drop 8 bytes)) (drop 8 bytes))
is_anchor bytes e f =
    let whole = whole_behind (drop 8 bytes) f in
    let rest = drop 2 (drop (run (drop 8 bytes)) (drop 8 bytes)) in
    (whole.0, (rest, opened bytes e ∙ ap (λ (tail : List ℕ). opening ++ tail) whole.1 ∙ regroup (take (run (drop 8 bytes)) (drop 8 bytes)) rest))

anchor_of_front : (bytes key : List ℕ) → front_of bytes ≡ fronts.Anchor key → IsAnchor bytes key
anchor_of_front bytes key h = by (bytes_eq (take 8 bytes) opening) (closes (drop 8 bytes)) refl refl
  where
    by : (opens closed : Bool) → bytes_eq (take 8 bytes) opening ≡ opens → closes (drop 8 bytes) ≡ closed → IsAnchor bytes key
    by true true e f =
        let same : fronts.Anchor (take (run (drop 8 bytes)) (drop 8 bytes)) ≡ fronts.Anchor key = sym (front_by bytes true true e f) ∙ h in
        let own : take (run (drop 8 bytes)) (drop 8 bytes) ≡ key = cc in
        subst (IsAnchor bytes) own (is_anchor bytes e f)
    by true false e f = let no : fronts.Bad ≡ fronts.Anchor key = sym (front_by bytes true false e f) ∙ h in cc
    by false closed e f = let no : fronts.Other ≡ fronts.Anchor key = sym (front_by bytes false closed e f) ∙ h in cc

front_of_anchor : (bytes key : List ℕ) → IsAnchor bytes key → front_of bytes ≡ fronts.Anchor key
front_of_anchor bytes key h =
    let rest = h.1.0 in
    let form : bytes ≡ opening ++ (key ++ (closing ++ rest)) = h.1.1 ∙ sym (regroup key rest) in
    let parts = both_parts (is_short key) (list_all is_name_byte key) h.0 in
    let flat = append_assoc key closing rest in
    let n : run (key ++ (closing ++ rest)) ≡ length key = ap run (sym flat) ∙ run_of_key key rest parts.1 in
    let name : take (run (key ++ (closing ++ rest))) (key ++ (closing ++ rest)) ≡ key = ap (λ k. take k (key ++ (closing ++ rest))) n ∙ take-append_seam key (closing ++ rest) in
    let tail : drop (run (key ++ (closing ++ rest))) (key ++ (closing ++ rest)) ≡ closing ++ rest = ap (λ k. drop k (key ++ (closing ++ rest))) n ∙ drop-append_seam key (closing ++ rest) in
    let closed : closes (key ++ (closing ++ rest)) ≡ true = both (bytes_eq closing (take 2 (drop (run (key ++ (closing ++ rest))) (key ++ (closing ++ rest))))) (is_short (take (run (key ++ (closing ++ rest))) (key ++ (closing ++ rest)))) (ap (λ (t : List ℕ). bytes_eq closing (take 2 t)) tail ∙ equal_bytes closing) (ap is_short name ∙ parts.0) in
    ap front_of form ∙ front_by (opening ++ (key ++ (closing ++ rest))) true true (equal_bytes opening) closed ∙ ap fronts.Anchor name

bad_of_front : (bytes : List ℕ) → front_of bytes ≡ fronts.Bad → IsBad bytes
bad_of_front bytes h = (by (bytes_eq (take 8 bytes) opening) refl, λ key anchor. let no : fronts.Bad ≡ fronts.Anchor key = sym h ∙ front_of_anchor bytes key anchor in cc)
  where
    by : (opens : Bool) → bytes_eq (take 8 bytes) opening ≡ opens → Begins opening bytes
    by true e = (drop 8 bytes, opened bytes e)
    by false e = let no : fronts.Other ≡ fronts.Bad = sym (front_by bytes false (closes (drop 8 bytes)) e refl) ∙ h in cc

front_of_bad : (bytes : List ℕ) → IsBad bytes → front_of bytes ≡ fronts.Bad
front_of_bad bytes h = by (closes (drop 8 bytes)) refl
  where
    opens : bytes_eq (take 8 bytes) opening ≡ true
    opens = ap (λ (all : List ℕ). bytes_eq (take 8 all) opening) h.0.1 ∙ equal_bytes opening

    by : (closed : Bool) → closes (drop 8 bytes) ≡ closed → front_of bytes ≡ fronts.Bad
    by true f = absurd (h.1 (take (run (drop 8 bytes)) (drop 8 bytes)) (is_anchor bytes opens f))
    by false f = front_by bytes true false opens f

pub anchors_stand : AnchorsStand
anchors_stand = record {
  anchor = λ bytes key. (anchor_of_front bytes key, front_of_anchor bytes key);
  bad = λ bytes. (bad_of_front bytes, front_of_bad bytes);
}

-- ---- the first bad place

abbrev StandsBad : List ℕ → ℕ → Type 0
StandsBad bytes place = front_of (drop place bytes) ≡ fronts.Bad

none_bad : (bytes : List ℕ) (n : ℕ) → bad_from n bytes ≡ None → (place : ℕ) → ¬ StandsBad bytes place
none_bad [] n h zero = λ e. cc
none_bad [] n h (suc place) = λ e. cc
none_bad (b ∷ bytes) n h place = by (front_of (b ∷ bytes)) refl h (none_bad bytes (n + 1)) place
  where
    here : (f : Front) → front_of (b ∷ bytes) ≡ f → ¬ (f ≡ fronts.Bad) → ((later : ℕ) → ¬ StandsBad bytes later) → (place : ℕ) → ¬ StandsBad (b ∷ bytes) place
    here f e good rest zero = λ k. good (sym e ∙ k)
    here f e good rest (suc place) = rest place

    by : (f : Front) → front_of (b ∷ bytes) ≡ f → or_later f n (bad_from (n + 1) bytes) ≡ None → (bad_from (n + 1) bytes ≡ None → (later : ℕ) → ¬ StandsBad bytes later) → (place : ℕ) → ¬ StandsBad (b ∷ bytes) place
    by fronts.Bad e h rest place = cc
    by fronts.Other e h rest place = here fronts.Other e (λ k. cc) (rest h) place
    by (fronts.Anchor key) e h rest place = here (fronts.Anchor key) e (λ k. cc) (rest h) place

-- the number of the first bad place, counted from n
record IsBadFrom (bytes : List ℕ) (n k : ℕ) : Type 0 where
  at : ℕ
  number : k ≡ n + at
  stands : StandsBad bytes at
  first : (earlier : ℕ) → earlier < at → ¬ StandsBad bytes earlier

one_later : (b : ℕ) (bytes : List ℕ) (n k : ℕ) → ¬ (front_of (b ∷ bytes) ≡ fronts.Bad) → IsBadFrom bytes (n + 1) k → IsBadFrom (b ∷ bytes) n k
one_later b bytes n k good h = record {
  at = suc h.at;
  number = let e = h.number in omega (arith, e);
  stands = h.stands;
  first = first;
}
  where
    first : (earlier : ℕ) → earlier < suc h.at → ¬ StandsBad (b ∷ bytes) earlier
    first zero l = good
    first (suc earlier) l = h.first earlier (omega (arith, l))

is_bad_from : (bytes : List ℕ) (n k : ℕ) → bad_from n bytes ≡ Some k → IsBadFrom bytes n k
is_bad_from [] n k h = cc
is_bad_from (b ∷ bytes) n k h = by (front_of (b ∷ bytes)) refl h (is_bad_from bytes (n + 1) k)
  where
    by : (f : Front) → front_of (b ∷ bytes) ≡ f → or_later f n (bad_from (n + 1) bytes) ≡ Some k → (bad_from (n + 1) bytes ≡ Some k → IsBadFrom bytes (n + 1) k) → IsBadFrom (b ∷ bytes) n k
    by fronts.Bad e h rest = let own : n ≡ k = cc in record { at = 0; number = omega (arith, own); stands = e; first = λ earlier l. absurd (omega (arith, l)) }
    by fronts.Other e h rest = one_later b bytes n k (λ bad. let no : fronts.Other ≡ fronts.Bad = sym e ∙ bad in cc) (rest h)
    by (fronts.Anchor key) e h rest = one_later b bytes n k (λ bad. let no : fronts.Anchor key ≡ fronts.Bad = sym e ∙ bad in cc) (rest h)

first_of_place : (bytes : List ℕ) (place : ℕ) → bad_place bytes ≡ Some place → IsFirstBad bytes place
first_of_place bytes place h =
    let found = is_bad_from bytes 0 place h in
    let number = found.number in
    let same : found.at ≡ place = omega (arith, number) in
    record {
      bad = bad_of_front (drop place bytes) (subst (StandsBad bytes) same found.stands);
      first = λ earlier l bad. found.first earlier (omega (arith, l, same)) (front_of_bad (drop earlier bytes) bad);
    }

not_above : (m n : ℕ) → ¬ (n < m) → m ≤ n
not_above m n h = by (ltb n m) refl
  where
    by : (b : Bool) → ltb n m ≡ b → m ≤ n
    by true e = absurd (h (ltb-true n m e))
    by false e = ltb-false n m e

place_of_first : (bytes : List ℕ) (place : ℕ) → IsFirstBad bytes place → bad_place bytes ≡ Some place
place_of_first bytes place h = by (bad_place bytes) refl
  where
    by : (o : Option ℕ) → bad_place bytes ≡ o → bad_place bytes ≡ Some place
    by None e = absurd (none_bad bytes 0 e place (front_of_bad (drop place bytes) h.bad))
    by (Some k) e =
        let other = first_of_place bytes k e in
        let low : k ≤ place = not_above k place (λ l. other.first place l h.bad) in
        let high : place ≤ k = not_above place k (λ l. h.first k l other.bad) in
        let same : k ≡ place = omega (arith, low, high) in e ∙ ap Some same

pub places_are_first : PlacesAreFirst
places_are_first = record {
  found = λ bytes place. (first_of_place bytes place, place_of_first bytes place);
  none = λ bytes h place bad. none_bad bytes 0 h place (front_of_bad (drop place bytes) bad);
}
