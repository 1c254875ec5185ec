-- Pieces in normal form stay so while others are put behind them.
use Rattle.std.proofs.Common.{◌≡◌, ℕ, ◌+◌, ◌-◌, ◌<◌, ◌≤◌, ◌^◌, List, [], ◌∷◌, ◌++◌, length, drop, refl, sym, ◌∙◌, ap, ap₂, subst, arith, append_assoc}
use Rattle.std.proofs.lemmas.List.{append-nil, take_all, length-drop, length-append}
use Rattle.voice_units.specs.declared.pieces.Piece.{Piece}
use Rattle.voice_units.specs.Spots.{Spot, spots_from, spots_in, spots_of, samples_in, slice, replaced, IsContinued, IsNormal, pieces_of}
use Rattle.voice_units.proofs.PiecesOfRopes.{length-spots_from, spots_from-add, spots_of-append}
use Rattle.voice_units.proofs.PiecesOfRopes.{same_pieces}
use Rattle.rope_algebra.specs.Kept.{LieInFiles, IsKept, IsCounted, AddsSpots}
use Rattle.rope_algebra.proofs.Parts.{slice-append, slice-nil, slice_all, length-slice, length-spots_of}

-- the last piece may become another one from the same place on, with more behind it
normal_again : (xs : List Piece) (p q : Piece) (qs : List Piece) → q.file ≡ p.file → q.from ≡ p.from → IsNormal (xs ++ p ∷ []) → IsNormal (q ∷ qs) → IsNormal (xs ++ q ∷ qs)
normal_again [] p q qs file from h k = k
normal_again (x ∷ []) p q qs file from h k = (h.0, (λ c. h.1 (c.0 ∙ file, c.1 ∙ from)), k)
normal_again (x ∷ y ∷ xs) p q qs file from h k = (h.0, h.1, normal_again (y ∷ xs) p q qs file from h.2 k)

ends_again : (xs : List Piece) (p : Piece) (qs : List Piece) → LieInFiles (xs ++ p ∷ []) → LieInFiles qs → LieInFiles (xs ++ qs)
ends_again [] p qs h k = k
ends_again (x ∷ xs) p qs h k = (h.0, ends_again xs p qs h.1 k)

last_end : (xs : List Piece) (p : Piece) → LieInFiles (xs ++ p ∷ []) → p.from + p.len ≤ 2 ^ 30
last_end [] p h = h.0
last_end (x ∷ xs) p h = last_end xs p h.1

last_some : (xs : List Piece) (p : Piece) → IsNormal (xs ++ p ∷ []) → 1 ≤ p.len
last_some [] p h = h
last_some (x ∷ []) p h = h.2
last_some (x ∷ y ∷ xs) p h = last_some (y ∷ xs) p h.2

-- a piece that goes on where the next one begins has the places of both
longer_run : (p next : Piece) → IsContinued p next → spots_from p.file p.from (p.len + next.len) ≡ spots_in p ++ spots_in next
longer_run p next h =
    spots_from-add p.file p.from p.len next.len ∙ ap₂ (λ file from. spots_in p ++ spots_from file from next.len) h.0 h.1

abbrev with_next : Piece → Piece → Piece
with_next p next = record p { len = p.len + next.len }

pub longer_last : (old front new : List Piece) (p next : Piece) → IsKept old → old ≡ front ++ p ∷ [] → IsContinued p next → 1 ≤ next.len → next.from + next.len ≤ 2 ^ 30 → new ≡ front ++ with_next p next ∷ [] → AddsSpots old new (spots_in next)
longer_last old front new p next kept was goes some end is = record {
  normal = subst IsNormal (sym is) (normal_again front p (with_next p next) [] refl refl (subst IsNormal was kept.normal) (omega arith));
  ends = subst LieInFiles (sym is) (ends_again front p (with_next p next ∷ []) (subst LieInFiles was kept.ends) (let fits : p.from + (p.len + next.len) ≤ 2 ^ 30 = omega (arith, goes.1) in fits, tt));
  spots =
      ap spots_of is
      ∙ spots_of-append front (with_next p next ∷ [])
      ∙ ap (λ l. spots_of front ++ l) (append-nil (spots_in (with_next p next)) ∙ longer_run p next goes ∙ ap (λ l. l ++ spots_in next) (sym (append-nil (spots_in p))))
      ∙ sym (append_assoc (spots_of front) (spots_of (p ∷ [])) (spots_in next))
      ∙ ap (λ l. l ++ spots_in next) (sym (spots_of-append front (p ∷ [])) ∙ ap spots_of (sym was));
}

pub one_more : (old front new : List Piece) (p next : Piece) → IsKept old → old ≡ front ++ p ∷ [] → ¬ IsContinued p next → 1 ≤ next.len → next.from + next.len ≤ 2 ^ 30 → new ≡ (front ++ p ∷ []) ++ next ∷ [] → AddsSpots old new (spots_in next)
one_more old front new p next kept was apart some end is =
    let both : new ≡ front ++ p ∷ next ∷ [] = is ∙ append_assoc front (p ∷ []) (next ∷ []) in
    let normal : IsNormal (front ++ p ∷ []) = subst IsNormal was kept.normal in
    let ends : LieInFiles (front ++ p ∷ []) = subst LieInFiles was kept.ends in
    record {
      normal = subst IsNormal (sym both) (normal_again front p p (next ∷ []) refl refl normal (last_some front p normal, apart, some));
      ends = subst LieInFiles (sym both) (ends_again front p (p ∷ next ∷ []) ends (last_end front p ends, (end, tt)));
      spots =
          ap spots_of is
          ∙ spots_of-append (front ++ p ∷ []) (next ∷ [])
          ∙ ap₂ (λ a b. a ++ b) (ap spots_of (sym was)) (append-nil (spots_in next));
    }

-- how far a slice of others has come: these pieces name the places so far, and `rest`, `skip` and `left` say what is to come
pub record IsUnderway (old now others rest : List Piece) (start len skip left : ℕ) : Type 0 where
  pub normal : IsNormal now
  pub ends : LieInFiles now
  pub rest_ends : LieInFiles rest
  pub spots : spots_of now ++ slice (spots_of rest) skip left ≡ spots_of old ++ slice (spots_of others) start len

pub one_further : (old now next others rest : List Piece) (p part : Piece) (start len skip left : ℕ) → IsUnderway old now others (p ∷ rest) start len skip left → AddsSpots now next (spots_in part) → spots_in part ≡ slice (spots_in p) skip left → IsUnderway old next others rest start len (skip - p.len) (left - part.len)
one_further old now next others rest p part start len skip left h more is =
    let own : length (spots_in p) ≡ p.len = length-spots_from p.file p.from p.len in
    let taken : length (slice (spots_in p) skip left) ≡ part.len = ap length (sym is) ∙ length-spots_from part.file part.from part.len in
    record {
      normal = more.normal;
      ends = more.ends;
      rest_ends = h.rest_ends.1;
      spots =
          ap (λ l. l ++ slice (spots_of rest) (skip - p.len) (left - part.len)) more.spots
          ∙ append_assoc (spots_of now) (spots_in part) (slice (spots_of rest) (skip - p.len) (left - part.len))
          ∙ ap (λ l. spots_of now ++ l) (ap₂ (λ l k. l ++ slice (spots_of rest) (skip - k) (left - part.len)) is (sym own) ∙ ap (λ k. slice (spots_in p) skip left ++ slice (spots_of rest) (skip - length (spots_in p)) (left - k)) (sym taken) ∙ sym (slice-append (spots_in p) (spots_of rest) skip left))
          ∙ h.spots;
    }

pub nothing_left : (old now others rest : List Piece) (start len skip : ℕ) → IsUnderway old now others rest start len skip 0 → AddsSpots old now (slice (spots_of others) start len)
nothing_left old now others rest start len skip h = record { normal = h.normal; ends = h.ends; spots = sym (append-nil (spots_of now)) ∙ h.spots }

pub all_gone : (old now others : List Piece) (start len skip left : ℕ) → IsUnderway old now others [] start len skip left → AddsSpots old now (slice (spots_of others) start len)
all_gone old now others start len skip left h = record { normal = h.normal; ends = h.ends; spots = sym (append-nil (spots_of now)) ∙ ap (λ l. spots_of now ++ l) (sym (slice-nil skip left)) ∙ h.spots }

-- ---- pieces that name places

pub record Names (ps : List Piece) (ss : List Spot) : Type 0 where
  pub normal : IsNormal ps
  pub ends : LieInFiles ps
  pub spots : spots_of ps ≡ ss

pub from_nothing : (old new : List Piece) (ss : List Spot) → old ≡ [] → AddsSpots old new ss → Names new ss
from_nothing old new ss e h = record { normal = h.normal; ends = h.ends; spots = h.spots ∙ ap (λ ps. spots_of ps ++ ss) e }

pub then_more : (old new : List Piece) (ss ts : List Spot) → Names old ss → AddsSpots old new ts → Names new (ss ++ ts)
then_more old new ss ts was h = record { normal = h.normal; ends = h.ends; spots = h.spots ∙ ap (λ l. l ++ ts) was.spots }

pub are_pieces_of : (ps : List Piece) (ss : List Spot) → Names ps ss → ps ≡ pieces_of ss
are_pieces_of ps ss h = same_pieces ps ss h.normal h.spots

pub are_counted : (ps : List Piece) (ss : List Spot) (n : ℕ) → Names ps ss → n ≡ length ss → n < 2 ^ 32 → IsCounted ps n
are_counted ps ss n h e fits = record { normal = h.normal; ends = h.ends; total = e ∙ ap length (sym h.spots) ∙ length-spots_of ps; fits = fits }

pub whole_slice : (ps : List Piece) (n : ℕ) → n ≡ samples_in ps → slice (spots_of ps) 0 n ≡ spots_of ps
whole_slice ps n e = slice_all (spots_of ps) n (let within : length (spots_of ps) ≤ n = omega (arith, length-spots_of ps, e) in within)

-- ---- a list of any pieces

pub record IsGathered (now list rest : List Piece) (n : ℕ) : Type 0 where
  pub normal : IsNormal now
  pub ends : LieInFiles now
  pub rest_ends : LieInFiles rest
  pub spots : spots_of now ++ spots_of rest ≡ spots_of list
  pub total : n + samples_in rest ≡ samples_in list

pub one_gathered : (now next list rest : List Piece) (p : Piece) (n : ℕ) → IsGathered now list (p ∷ rest) n → AddsSpots now next (spots_in p) → IsGathered next list rest (n + p.len)
one_gathered now next list rest p n h more = record {
  normal = more.normal;
  ends = more.ends;
  rest_ends = h.rest_ends.1;
  spots = ap (λ l. l ++ spots_of rest) more.spots ∙ append_assoc (spots_of now) (spots_in p) (spots_of rest) ∙ h.spots;
  total = omega (arith, h.total);
}

pub all_gathered : (now list : List Piece) (n : ℕ) → IsGathered now list [] n → Names now (spots_of list)
all_gathered now list n h = record { normal = h.normal; ends = h.ends; spots = sym (append-nil (spots_of now)) ∙ h.spots }

-- ---- edits

pub first_part : (old new others ps : List Piece) (start len : ℕ) → old ≡ [] → others ≡ ps → AddsSpots old new (slice (spots_of others) start len) → Names new (slice (spots_of ps) start len)
first_part old new others ps start len none is h =
    subst (λ l. Names new (slice (spots_of l) start len)) is (from_nothing old new (slice (spots_of others) start len) none h)

pub next_part : (old new others ps : List Piece) (ss : List Spot) (start len : ℕ) → Names old ss → others ≡ ps → AddsSpots old new (slice (spots_of others) start len) → Names new (ss ++ slice (spots_of ps) start len)
next_part old new others ps ss start len was is h =
    subst (λ l. Names new (ss ++ slice (spots_of l) start len)) is (then_more old new ss (slice (spots_of others) start len) was h)

pub length_of_slice : (ps : List Piece) (start len : ℕ) → start + len ≤ samples_in ps → len ≡ length (slice (spots_of ps) start len)
length_of_slice ps start len within =
    let all = length-spots_of ps in
    let part = length-slice (spots_of ps) start len in
    omega (arith, all, part)

pub both_whole : (new ps qs : List Piece) (m n : ℕ) → m ≡ samples_in ps → n ≡ samples_in qs → Names new (slice (spots_of ps) 0 m ++ slice (spots_of qs) 0 n) → Names new (spots_of ps ++ spots_of qs)
both_whole new ps qs m n em en h = subst (Names new) (ap₂ (λ a b. a ++ b) (whole_slice ps m em) (whole_slice qs n en)) h

pub length_of_both : (ps qs : List Piece) (m n : ℕ) → m ≡ samples_in ps → n ≡ samples_in qs → m + n ≡ length (spots_of ps ++ spots_of qs)
length_of_both ps qs m n em en =
    let all = length-append (spots_of ps) (spots_of qs) in
    let first = length-spots_of ps in
    let second = length-spots_of qs in
    omega (arith, all, first, second)

rest_slice : (ps : List Piece) (n start : ℕ) → n ≡ samples_in ps → slice (spots_of ps) start (n - start) ≡ drop start (spots_of ps)
rest_slice ps n start e =
    take_all (n - start) (drop start (spots_of ps)) (let all = length-spots_of ps in let part = length-drop start (spots_of ps) in omega (arith, all, part, e))

pub as_replaced : (new ps qs : List Piece) (m n start len end : ℕ) → m ≡ samples_in ps → n ≡ samples_in qs → end ≡ start + len → Names new ((slice (spots_of ps) 0 start ++ slice (spots_of qs) 0 n) ++ slice (spots_of ps) end (m - end)) → Names new (replaced (spots_of ps) start len (spots_of qs))
as_replaced new ps qs m n start len end em en ee h =
    subst (Names new) (ap₂ (λ a b. (slice (spots_of ps) 0 start ++ a) ++ b) (whole_slice qs n en) (rest_slice ps m end em ∙ ap (λ k. drop k (spots_of ps)) ee)) h

pub length_of_replaced : (ps qs : List Piece) (m n start len : ℕ) → m ≡ samples_in ps → n ≡ samples_in qs → start + len ≤ m → m - len + n ≡ length (replaced (spots_of ps) start len (spots_of qs))
length_of_replaced ps qs m n start len em en within =
    let all = length-spots_of ps in
    let other = length-spots_of qs in
    let front = length-slice (spots_of ps) 0 start in
    let rest = length-drop (start + len) (spots_of ps) in
    let two = length-append (slice (spots_of ps) 0 start) (spots_of qs) in
    let three = length-append (slice (spots_of ps) 0 start ++ spots_of qs) (drop (start + len) (spots_of ps)) in
    omega (arith, all, other, front, rest, two, three)

pub gathered_all : (now list rest : List Piece) (n : ℕ) → rest ≡ [] → IsGathered now list rest n → Names now (spots_of list) × (n ≡ length (spots_of list))
gathered_all now list rest n none h =
    let whole : IsGathered now list [] n = subst (λ ps. IsGathered now list ps n) none h in
    let all = length-spots_of list in
    (all_gathered now list n whole, omega (arith, all, whole.total))
