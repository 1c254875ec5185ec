-- Counting the stretches of a run, and the samples of a window.
use Rattle.std.proofs.Common.{◌≡◌, ℕ, zero, suc, ◌+◌, ◌-◌, ◌%◌, ◌<◌, ◌≤◌, ◌↔◌, ◌⊎◌, inl, inr, cond, Bool, true, false, ◌&&◌, not, ◌==◌, min, List, [], ◌∷◌, ◌++◌, length, drop, take, get_or, refl, sym, ◌∙◌, ap, ap₂, subst, arith}
use Rattle.std.proofs.lemmas.Bool.{eqb-true}
use Rattle.std.proofs.lemmas.List.{take_all, length-drop}
use Rattle.voice_units.specs.declared.pieces.Piece.{Piece}
use Rattle.voice_units.specs.Spots.{Spot, spots_from, spots_in, spots_of, samples_in, slice, in_front, runs, lone, longer, IsContinued, IsNormal, comes_before, begins_block, stretches, window}
use Rattle.voice_units.proofs.PiecesOfRopes.{length-spots_from}
use Rattle.voice_units.proofs.Counts.{window_within}
use Rattle.rope_algebra.specs.Kept.{LieInFiles}
use Rattle.rope_algebra.proofs.Parts.{at_item, take-append, drop-append, samples_in-append, length-spots_of, take-nil, drop-nil}
use Rattle.rope_algebra.proofs.Blocks.{IsApart, IsLastApart, runs-append, last_of_run, first_apart, first_stretch}

-- ---- the stretches of one run

-- the stretches of the rest of a run, where `samples` of its samples are gone
abbrev left_of : ℕ → ℕ → ℕ → ℕ → ℕ → ℕ → List Piece
left_of block file from len samples most = take most (stretches block (spots_from file (from + samples) (len - samples)))

-- so far there are `count` stretches of `samples` samples
pub record IsStretched (block from len most count samples : ℕ) : Type 0 where
  pub few : count ≤ most
  pub within : samples ≤ len
  pub counted : (file : ℕ) → count + length (left_of block file from len samples (most - count)) ≡ length (take most (stretches block (spots_from file from len)))
  pub summed : (file : ℕ) → samples + samples_in (left_of block file from len samples (most - count)) ≡ samples_in (take most (stretches block (spots_from file from len)))

all_left : (block file from len most : ℕ) → left_of block file from len 0 (most - 0) ≡ take most (stretches block (spots_from file from len))
all_left block file from len most =
    ap (λ k. take k (stretches block (spots_from file (from + 0) (len - 0)))) (let e : most - 0 ≡ most = omega arith in e)
    ∙ ap₂ (λ f n. take most (stretches block (spots_from file f n))) (let e : from + 0 ≡ from = omega arith in e) (let e : len - 0 ≡ len = omega arith in e)

pub none_yet : (block from len most : ℕ) → IsStretched block from len most 0 0
none_yet block from len most = record {
  few = omega arith;
  within = omega arith;
  counted = λ file. let e = ap (λ ps. length ps) (all_left block file from len most) in omega (arith, e);
  summed = λ file. let e = ap samples_in (all_left block file from len most) in omega (arith, e);
}

one_stretch : (block file from len most count samples taken : ℕ) → 0 < block → count < most → samples < len → taken ≡ min (block - (from + samples) % block) (len - samples) → left_of block file from len samples (most - count) ≡ record { file = file; from = from + samples; len = taken } ∷ left_of block file from len (samples + taken) (most - (count + 1))
one_stretch block file from len most count samples taken some more left is =
    let n = len - samples - 1 in
    let next : Piece = record { file = file; from = from + samples; len = taken } in
    ap (λ k. take (most - count) (stretches block (spots_from file (from + samples) k))) (let e : len - samples ≡ suc n = omega arith in e)
    ∙ ap (take (most - count)) (first_stretch block file (from + samples) n taken some (is ∙ ap (min (block - (from + samples) % block)) (let e : len - samples ≡ suc n = omega arith in e)))
    ∙ ap (λ k. take k (next ∷ stretches block (spots_from file (from + samples + taken) (suc n - taken)))) (let e : most - count ≡ suc (most - (count + 1)) = omega arith in e)
    ∙ ap₂ (λ f k. next ∷ take (most - (count + 1)) (stretches block (spots_from file f k))) (let e : from + samples + taken ≡ from + (samples + taken) = omega arith in e) (let e : suc n - taken ≡ len - (samples + taken) = omega arith in e)

pub one_more : (block from len most count samples taken : ℕ) → 0 < block → count < most → samples < len → taken ≡ min (block - (from + samples) % block) (len - samples) → IsStretched block from len most count samples → IsStretched block from len most (count + 1) (samples + taken)
one_more block from len most count samples taken some more left is h = record {
  few = omega arith;
  within = omega (arith, is, h.within);
  counted = λ file. let e = ap (λ ps. length ps) (one_stretch block file from len most count samples taken some more left is) in let was = h.counted file in omega (arith, e, was);
  summed = λ file. let e = ap samples_in (one_stretch block file from len most count samples taken some more left is) in let was = h.summed file in omega (arith, e, was);
}

no_more : (block file from len most count samples : ℕ) → most ≤ count → left_of block file from len samples (most - count) ≡ []
no_more block file from len most count samples h = ap (λ k. take k (stretches block (spots_from file (from + samples) (len - samples)))) (let e : most - count ≡ 0 = omega arith in e)

run_ends : (block file from len most count samples : ℕ) → len ≤ samples → left_of block file from len samples (most - count) ≡ []
run_ends block file from len most count samples h =
    ap (λ k. take (most - count) (stretches block (spots_from file (from + samples) k))) (let e : len - samples ≡ 0 = omega arith in e) ∙ take-nil (most - count)

-- there are no more where there are enough, or where the run has ended
pub all_stretches : (block from len most count samples : ℕ) → (most ≤ count) ⊎ (len ≤ samples) → IsStretched block from len most count samples → (file : ℕ) → (count ≡ length (take most (stretches block (spots_from file from len)))) × (samples ≡ samples_in (take most (stretches block (spots_from file from len))))
all_stretches block from len most count samples (inl h) s file =
    let none = no_more block file from len most count samples h in
    let e = ap (λ ps. length ps) none in
    let f = ap samples_in none in
    let c = s.counted file in
    let d = s.summed file in
    (omega (arith, e, c), omega (arith, f, d))
all_stretches block from len most count samples (inr h) s file =
    let none = run_ends block file from len most count samples h in
    let e = ap (λ ps. length ps) none in
    let f = ap samples_in none in
    let c = s.counted file in
    let d = s.summed file in
    (omega (arith, e, c), omega (arith, f, d))

-- ---- pieces, of which none is continued by the next one

test_fails : (a b c d : ℕ) (x u v : Bool) → ((a ≡ b) × (c ≡ d) → ⊥) → (a == b) ≡ u → (c == d) ≡ v → (u && v && x) ≡ false
test_fails a b c d x true true h e f = absurd (h (eqb-true a b e, eqb-true c d f))
test_fails a b c d x true false h e f = refl
test_fails a b c d x false v h e f = refl

apart_from_next : (cut : ℕ → Bool) (p q : Piece) (n : ℕ) (ss : List Spot) (s : Spot) → q.len ≡ n → 1 ≤ n → (IsContinued p q → ⊥) → s.file ≡ p.file → s.place + 1 ≡ p.from + p.len → IsApart cut s (runs cut (spots_from q.file q.from n ++ ss))
apart_from_next cut p q zero ss s e some h file place = absurd (omega arith)
apart_from_next cut p q (suc n) ss s e some h file place =
    first_apart cut s (record { file = q.file; place = q.from }) (runs cut (spots_from q.file (q.from + 1) n ++ ss))
    (test_fails s.file q.file (s.place + 1) q.from (not (cut q.from)) (s.file == q.file) (s.place + 1 == q.from) (λ g. h (sym file ∙ g.0, sym place ∙ g.1)) refl refl)

-- the last place of a piece does not come before the pieces behind it
apart_from_rest : (cut : ℕ → Bool) (p : Piece) (rest : List Piece) (s : Spot) → IsNormal (p ∷ rest) → s.file ≡ p.file → s.place + 1 ≡ p.from + p.len → IsApart cut s (runs cut (spots_of rest))
apart_from_rest cut p [] s h file place = tt
apart_from_rest cut p (q ∷ []) s h file place = apart_from_next cut p q q.len [] s refl h.2 h.1 file place
apart_from_rest cut p (q ∷ r ∷ rest) s h file place = apart_from_next cut p q q.len (spots_of (r ∷ rest)) s refl h.2.0 h.1 file place

apart_behind : (cut : ℕ → Bool) (file from n : ℕ) (rs : List Piece) → ((m : ℕ) → n ≡ suc m → IsApart cut (record { file = file; place = from + m }) rs) → IsLastApart cut (spots_from file from n) rs
apart_behind cut file from zero rs h = tt
apart_behind cut file from (suc m) rs h = last_of_run cut file from m rs (h m refl)

-- ---- windows

-- so far `samples` samples are taken; `rest`, `skip` and `most` say what is to come
pub record IsPartWindow (block : ℕ) (ps rest : List Piece) (heard skip most samples : ℕ) : Type 0 where
  pub normal : IsNormal rest
  pub ends : LieInFiles rest
  pub sum : samples + samples_in (take most (stretches block (drop skip (spots_of rest)))) ≡ window block (spots_of ps) heard

pub at_piece : (block : ℕ) (ps items : List Piece) (i : ℕ) (p : Piece) (heard skip most samples : ℕ) → i < length items → p ≡ get_or items i p → IsPartWindow block ps (drop i items) heard skip most samples → IsPartWindow block ps (p ∷ drop (i + 1) items) heard skip most samples
at_piece block ps items i p heard skip most samples within is h = subst (λ l. IsPartWindow block ps l heard skip most samples) (at_item items i p within is) h

rest_normal : (p : Piece) (rest : List Piece) → IsNormal (p ∷ rest) → IsNormal rest
rest_normal p [] h = tt
rest_normal p (q ∷ rest) h = h.2

-- what is left of a piece, and what is behind it
pub stretches_of_rest : (block : ℕ) (p part : Piece) (rest : List Piece) (skip : ℕ) → IsNormal (p ∷ rest) → part.file ≡ p.file → part.from ≡ p.from + min skip p.len → part.len ≡ min (p.len - skip) p.len → spots_in part ≡ slice (spots_in p) skip p.len → stretches block (drop skip (spots_in p ++ spots_of rest)) ≡ stretches block (spots_in part) ++ stretches block (drop (skip - p.len) (spots_of rest))
stretches_of_rest block p part rest skip normal file from len is =
    let cut = begins_block block in
    let own = length-spots_from p.file p.from p.len in
    let whole : drop skip (spots_in p) ≡ spots_in part = sym (take_all p.len (drop skip (spots_in p)) (let d = length-drop skip (spots_in p) in omega (arith, d, own))) ∙ sym is in
    ap (stretches block) (drop-append skip (spots_in p) (spots_of rest) ∙ ap₂ (λ l k. l ++ drop (skip - k) (spots_of rest)) whole own)
    ∙ runs-append cut (spots_in part) (drop (skip - p.len) (spots_of rest))
    (apart_behind cut part.file part.from part.len (runs cut (drop (skip - p.len) (spots_of rest)))
    (λ m e. subst (λ k. IsApart cut (record { file = part.file; place = part.from + m }) (runs cut (drop k (spots_of rest)))) (let none : 0 ≡ skip - p.len = omega (arith, e, len) in none)
    (apart_from_rest cut p rest (record { file = part.file; place = part.from + m }) normal file (omega (arith, e, len, from)))))

pub one_further : (block : ℕ) (ps rest : List Piece) (p part : Piece) (heard skip most samples count taken : ℕ) → IsPartWindow block ps (p ∷ rest) heard skip most samples → part.file ≡ p.file → part.from ≡ p.from + min skip p.len → part.len ≡ min (p.len - skip) p.len → spots_in part ≡ slice (spots_in p) skip p.len → count ≡ length (take most (stretches block (spots_in part))) → taken ≡ samples_in (take most (stretches block (spots_in part))) → IsPartWindow block ps rest heard (skip - p.len) (most - count) (samples + taken)
one_further block ps rest p part heard skip most samples count taken h file from len is counted summed =
    let here = stretches block (spots_in part) in
    let behind = stretches block (drop (skip - p.len) (spots_of rest)) in
    let both : take most (stretches block (drop skip (spots_in p ++ spots_of rest))) ≡ take most here ++ take (most - count) behind = ap (take most) (stretches_of_rest block p part rest skip h.normal file from len is) ∙ take-append most here behind ∙ ap (λ k. take most here ++ take (most - k) behind) (sym counted) in
    let all = ap samples_in both ∙ samples_in-append (take most here) (take (most - count) behind) in
    record {
      normal = rest_normal p rest h.normal;
      ends = h.ends.1;
      sum = omega (arith, all, summed, h.sum);
    }

pub window_of_none : (block : ℕ) (ps rest : List Piece) (heard skip most samples : ℕ) → (most ≡ 0) ⊎ (rest ≡ []) → IsPartWindow block ps rest heard skip most samples → samples ≡ window block (spots_of ps) heard
window_of_none block ps rest heard skip most samples (inl e) h =
    let none = ap (λ k. samples_in (take k (stretches block (drop skip (spots_of rest))))) e in
    omega (arith, none, h.sum)
window_of_none block ps rest heard skip most samples (inr e) h =
    let none = ap (λ l. samples_in (take most (stretches block (drop skip (spots_of l))))) e ∙ ap (λ l. samples_in (take most (stretches block l))) (drop-nil {A = Spot} skip) ∙ ap samples_in (take-nil {A = Piece} most) in
    omega (arith, none, h.sum)

pub window_fits : (block : ℕ) (ps : List Piece) (heard : ℕ) → heard ≤ samples_in ps → heard + window block (spots_of ps) heard ≤ samples_in ps
window_fits block ps heard h = let all = length-spots_of ps in let within = window_within block (spots_of ps) heard (omega (arith, all, h)) in omega (arith, all, within)

some_front_by : (s : Spot) (p : Piece) (ps : List Piece) (b : Bool) → 1 ≤ samples_in (take 4 (cond b (longer s p ∷ ps) (lone s ∷ p ∷ ps)))
some_front_by s p ps true = omega arith
some_front_by s p ps false = omega arith

some_front : (cut : ℕ → Bool) (s : Spot) (rs : List Piece) → 1 ≤ samples_in (take 4 (in_front cut s rs))
some_front cut s [] = omega arith
some_front cut s (p ∷ ps) = some_front_by s p ps (comes_before s p && not (cut p.from))

none_taken : (block : ℕ) (ss : List Spot) → samples_in (take 4 (stretches block ss)) ≡ 0 → length ss ≡ 0
none_taken block [] h = refl
none_taken block (s ∷ ss) h = let some = some_front (begins_block block) s (stretches block ss) in absurd (omega (arith, h, some))

-- a window takes nothing exactly where all was heard
pub no_window : (block : ℕ) (ps : List Piece) (heard n : ℕ) → heard ≤ samples_in ps → n ≡ window block (spots_of ps) heard → (n ≡ 0) ↔ (heard ≡ samples_in ps)
no_window block ps heard n within is =
    let all = length-spots_of ps in
    let rest = length-drop heard (spots_of ps) in
    let fits = window_fits block ps heard within in
    (λ e. let none = none_taken block (drop heard (spots_of ps)) (sym is ∙ e) in omega (arith, none, all, rest, within), λ e. omega (arith, fits, is, e))
