-- A base is as long as the size of what it spells.
use Rattle.std.proofs.Common.{◌≡◌, ℕ, suc, ◌+◌, ◌*◌, ◌==◌, Bool, true, false, cond, ◌&&◌, ◌||◌, List, [], ◌∷◌, ◌++◌, map, length, refl, sym, ◌∙◌, ap, subst, arith, length-append}
use Rattle.std.proofs.lemmas.Bool.{eqb-true, eq-eqb}
use Rattle.std.proofs.lemmas.List.{length-map}
use Rattle.std.proofs.lemmas.List.Sums.{sum_by-cons}
use Rattle.std.specs.Prelude.{sum_by}
use Rattle.voice_units.specs.Spots.{Spot, pieces_of}
use Rattle.voice_units.specs.Blocks.{BlockPair, same_pair, has_pair, distinct}
use Rattle.voice_units.proofs.Distinct.{same_pair-true, has_pair-distinct, same_count}
use Rattle.voice_model.specs.Samples.{Tagged, spot_of}
use Rattle.voice_model.specs.State.{Live, among}
use Rattle.voice_model.specs.State.Effect.{Retained}
use Rattle.voice_model.specs.Changes.{address_size, each_once, live_pairs, rope_size, base_size}
use Rattle.voice_model.specs.Spelling.{spelling, piece_bytes, pair_bytes}
use Rattle.voice_model.specs.Replay.{Placed, Rebuilt, used_pairs, has_place, place_of, live_by, durable_by}
use Rattle.voice_model.specs.Base.{FileBlocks, pair_of_place, block_in_front, by_file, in_order, file_change, rope_change, row_change, base_of, framed_size}
use Rattle.voice_model.specs.Valid.{Every}
use Rattle.voice_model.specs.Places.{Pairwise, OfOtherBlock, IsPlaced, AllUsed}
use Rattle.voice_model.specs.declared.changes.Change.{Change}
use Rattle.voice_model.specs.declared.changes.Change.TheVariants as changes
use Rattle.voice_model.specs.declared.calls.Row.{Row}
use Rattle.voice_model.proofs.KeptByChanges.{every-map, same_bool}
use Rattle.voice_model.proofs.ChangesOfEffects.{same_length, piece_length, size_again}
use Rattle.voice_model.proofs.LegalInReplay.{used_filled}
use Rattle.voice_model.proofs.StatesOfReplay.{spots_again}
use Rattle.voice_model.proofs.Order.{sorted, has_ordered, length_ordered}
use Rattle.voice_model.proofs.PlacesKept.{used_placed}
use Rattle.voice_model.proofs.BaseFiles.{places_in, flat, flat_files, Lower, files_rise}

-- ---- lists of changes

framed_append : (xs ys : List Change) → framed_size (xs ++ ys) ≡ framed_size xs + framed_size ys
framed_append [] ys = omega arith
framed_append (x ∷ xs) ys = let rest = framed_append xs ys in omega (arith, rest)

head_size : (b : Bool) (moment next : ℕ) → length (spelling (cond b (changes.Base2 moment next) (changes.Base moment next))) ≡ 17
head_size true moment next = refl
head_size false moment next = refl

file_size : (b : Bool) (f : FileBlocks) → length (spelling (cond b (changes.File2 f.file f.pairs) (changes.File f.file f.pairs))) ≡ 13 + (4 + cond b 4 2) * length f.pairs
file_size true f = let each = same_length (pair_bytes 4) 8 (λ pair. refl) f.pairs in omega (arith, each)
file_size false f = let each = same_length (pair_bytes 2) 6 (λ pair. refl) f.pairs in omega (arith, each)

flat_length : (f : FileBlocks) (fs : List FileBlocks) → length (flat (f ∷ fs)) ≡ length f.pairs + length (flat fs)
flat_length f fs = length-append (places_in f) (flat fs) ∙ ap (λ n. n + length (flat fs)) (length-map f.pairs (place_of f.file))

files_by : (b : Bool) (one n m rest : ℕ) (count : ℕ) → rest ≡ 18 * count + (4 + cond b 4 2) * m → one ≡ 13 + (4 + cond b 4 2) * n → 5 + one + rest ≡ 18 * suc count + (4 + cond b 4 2) * (n + m)
files_by true one n m rest count e g = omega (arith, e, g)
files_by false one n m rest count e g = omega (arith, e, g)

files_size : (form : ℕ) (fs : List FileBlocks) → framed_size (map (file_change form) fs) ≡ 18 * length fs + (4 + address_size form) * length (flat fs)
files_size form [] = omega arith
files_size form (f ∷ fs) =
    files_by (form == 2) (length (spelling (file_change form f))) (length f.pairs) (length (flat fs)) (framed_size (map (file_change form) fs)) (length fs) (files_size form fs) (file_size (form == 2) f)
    ∙ ap (λ n. 18 * suc (length fs) + (4 + address_size form) * n) (sym (flat_length f fs))

rope_by : (b : Bool) (rope : Live Spot) → 5 + length (spelling (cond b (changes.Rope2 rope.id rope.idle rope.last (pieces_of rope.samples)) (changes.Rope rope.id rope.idle (pieces_of rope.samples)))) ≡ 24 + cond b 1 0 + 16 * length (pieces_of rope.samples)
rope_by true rope = let each = same_length piece_bytes 16 piece_length (pieces_of rope.samples) in omega (arith, each)
rope_by false rope = let each = same_length piece_bytes 16 piece_length (pieces_of rope.samples) in omega (arith, each)

ropes_size : (f : Spot → Tagged) → ((s : Spot) → spot_of (f s) ≡ s) → (form : ℕ) (ropes : List (Live Spot)) → framed_size (map (rope_change form) ropes) ≡ sum_by (rope_size form) (map (live_by f) ropes)
ropes_size f same form [] = refl
ropes_size f same form (rope ∷ ropes) =
    let one = rope_by (form == 2) rope in
    let pieces = ap (λ ss. 24 + cond (form == 2) 1 0 + 16 * length (pieces_of ss)) (spots_again f same rope.samples) in
    let rest = ropes_size f same form ropes in
    let whole = sum_by-cons (rope_size form) (live_by f rope) (map (live_by f) ropes) in
    omega (arith, one, pieces, rest, whole)

rows_size : (rows : List Row) → framed_size (map row_change rows) ≡ sum_by (λ row. 17 + length row.key + length row.note) rows
rows_size [] = refl
rows_size (row ∷ rows) =
    let one = size_again 1 0 [] (Retained row) tt in
    let rest = rows_size rows in
    let whole = sum_by-cons (λ (row : Row). 17 + length row.key + length row.note) row rows in
    omega (arith, one, rest, whole)

-- ---- how many blocks

swapped_number : (a b : ℕ) → (a == b) ≡ (b == a)
swapped_number a b = same_bool (a == b) (b == a) (λ e. eq-eqb b a (sym (eqb-true a b e))) (λ e. eq-eqb a b (sym (eqb-true b a e)))

swapped_pair : (p q : BlockPair) → same_pair p q ≡ same_pair q p
swapped_pair p q = ap (λ b. b && (p.index == q.index)) (swapped_number p.file q.file) ∙ ap (λ b. (q.file == p.file) && b) (swapped_number p.index q.index)

abbrev pairs_in : List Placed → List BlockPair
pairs_in places = map (λ place. place.pair) places

has_in : (places : List Placed) (q : BlockPair) → has_pair (pairs_in places) q ≡ has_place places q
has_in [] q = refl
has_in (place ∷ places) q = ap (λ b. b || has_pair (pairs_in places) q) (swapped_pair q place.pair) ∙ ap (λ b. same_pair place.pair q || b) (has_in places q)

pass_or : (a b : Bool) {P : Type 0} → (a ≡ true → P) → (b ≡ true → P) → (a || b) ≡ true → P
pass_or true b f g e = f refl
pass_or false b f g e = g e

place_used : (pairs : List BlockPair) (places : List Placed) (q : BlockPair) → Every (λ (place : Placed). has_pair pairs place.pair ≡ true) places → has_place places q ≡ true → has_pair pairs q ≡ true
place_used pairs [] q h e = cc
place_used pairs (place ∷ places) q h e =
    pass_or (same_pair place.pair q) (has_place places q) (λ k. ap (has_pair pairs) (sym (same_pair-true place.pair q k)) ∙ h.0) (λ k. place_used pairs places q h.1 k) e

used_alike : (r : Rebuilt) → IsPlaced r → AllUsed r → (q : BlockPair) → has_pair (used_pairs r.kept) q ≡ has_pair (pairs_in r.places) q
used_alike r h used q =
    same_bool (has_pair (used_pairs r.kept) q) (has_place r.places q) (used_placed r.shape.block r.places r.ropes q h.placed) (place_used (used_pairs r.kept) r.places q used)
    ∙ sym (has_in r.places q)

not_there : (p : BlockPair) (qs : List BlockPair) → Every (λ q. ¬ (p ≡ q)) qs → has_pair qs p ≡ false
not_there p [] h = refl
not_there p (q ∷ qs) h = ap (λ b. b || has_pair qs p) (by (same_pair p q) refl) ∙ not_there p qs h.1
  where
    by : (b : Bool) → same_pair p q ≡ b → same_pair p q ≡ false
    by true e = absurd (h.0 (same_pair-true p q e))
    by false e = e

-- pairs that differ are the distinct ones
distinct_same : (ps : List BlockPair) → Pairwise (λ p q. ¬ (p ≡ q)) ps → distinct ps ≡ ps
distinct_same [] h = refl
distinct_same (p ∷ ps) h = ap (λ l. cond (has_pair l p) l (p ∷ l)) (distinct_same ps h.1) ∙ ap (λ b. cond b ps (p ∷ ps)) (not_there p ps h.0)

pairs_differ : (places : List Placed) → Pairwise OfOtherBlock places → Pairwise (λ (p q : BlockPair). ¬ (p ≡ q)) (pairs_in places)
pairs_differ [] h = tt
pairs_differ (place ∷ places) h = (every-map (OfOtherBlock place) (λ (q : BlockPair). ¬ (place.pair ≡ q)) (λ (other : Placed). other.pair) (λ other k. k) places h.0, pairs_differ places h.1)

pair_count : (r : Rebuilt) → IsPlaced r → AllUsed r → length (distinct (used_pairs r.kept)) ≡ length r.places
pair_count r h used =
    same_count (used_pairs r.kept) (pairs_in r.places) (used_alike r h used)
    ∙ ap length (distinct_same (pairs_in r.places) (pairs_differ r.places h.once))
    ∙ length-map r.places (λ (place : Placed). place.pair)

-- ---- how many files

abbrev first_block : ℕ → BlockPair
first_block n = record { file = n; index = 0 }

among_first : (ns : List ℕ) (n : ℕ) → has_pair (map first_block ns) (first_block n) ≡ among ns n
among_first [] n = refl
among_first (m ∷ ns) n = ap (λ b. b || has_pair (map first_block ns) (first_block n)) (and_true (n == m) ∙ swapped_number n m) ∙ ap (λ b. (m == n) || b) (among_first ns n)
  where
    and_true : (a : Bool) → (a && true) ≡ a
    and_true true = refl
    and_true false = refl

once_by : (b : Bool) (n : ℕ) (ns : List ℕ) → map first_block (cond b ns (n ∷ ns)) ≡ cond b (map first_block ns) (first_block n ∷ map first_block ns)
once_by true n ns = refl
once_by false n ns = refl

once_first : (ns : List ℕ) → map first_block (each_once ns) ≡ distinct (map first_block ns)
once_first [] = refl
once_first (n ∷ ns) =
    once_by (among (each_once ns) n) n (each_once ns)
    ∙ ap (λ b. cond b (map first_block (each_once ns)) (first_block n ∷ map first_block (each_once ns))) (sym (among_first (each_once ns) n))
    ∙ ap (λ l. cond (has_pair l (first_block n)) l (first_block n ∷ l)) (once_first ns)

once_length : (ns : List ℕ) → length (each_once ns) ≡ length (distinct (map first_block ns))
once_length ns = sym (length-map (each_once ns) first_block) ∙ ap length (once_first ns)

-- a block of a file is among the blocks of these files where it is the first one of one of them
is_first : (ns : List ℕ) (q : BlockPair) → has_pair (map first_block ns) q ≡ (among ns q.file && (q.index == 0))
is_first [] q = refl
is_first (n ∷ ns) q =
    ap (λ b. ((q.file == n) && (q.index == 0)) || b) (is_first ns q)
    ∙ ap (λ b. (b && (q.index == 0)) || (among ns q.file && (q.index == 0))) (swapped_number q.file n)
    ∙ gathered (n == q.file) (among ns q.file) (q.index == 0)
  where
    gathered : (a b c : Bool) → ((a && c) || (b && c)) ≡ ((a || b) && c)
    gathered true true true = refl
    gathered true true false = refl
    gathered true false true = refl
    gathered true false false = refl
    gathered false b c = refl

abbrev files_of : List BlockPair → List ℕ
files_of ps = map (λ pair. pair.file) ps

-- a number among the files of pairs is that of one of the pairs
some_pair : (ps : List BlockPair) (n : ℕ) → among (files_of ps) n ≡ true → (p : BlockPair) × (has_pair ps p ≡ true) × (p.file ≡ n)
some_pair [] n e = cc
some_pair (p ∷ ps) n e =
    pass_or (p.file == n) (among (files_of ps) n)
    (λ k. (p, here p ps, eqb-true p.file n k))
    (λ k. let found = some_pair ps n k in (found.0, behind (same_pair found.0 p) (has_pair ps found.0) found.1, found.2)) e
  where
    behind : (a b : Bool) → b ≡ true → (a || b) ≡ true
    behind true b e = refl
    behind false b e = e

    here : (p : BlockPair) (ps : List BlockPair) → has_pair (p ∷ ps) p ≡ true
    here p ps = ap (λ b. (b && (p.index == p.index)) || has_pair ps p) (eq-eqb p.file p.file refl) ∙ ap (λ b. b || has_pair ps p) (eq-eqb p.index p.index refl)

file_of_pair : (ps : List BlockPair) (p : BlockPair) → has_pair ps p ≡ true → among (files_of ps) p.file ≡ true
file_of_pair [] p e = cc
file_of_pair (q ∷ ps) p e =
    pass_or (same_pair p q) (has_pair ps p)
    (λ k. ap (λ b. b || among (files_of ps) p.file) (eq-eqb q.file p.file (ap (λ (x : BlockPair). x.file) (sym (same_pair-true p q k)))))
    (λ k. behind (q.file == p.file) (among (files_of ps) p.file) (file_of_pair ps p k)) e
  where
    behind : (a b : Bool) → b ≡ true → (a || b) ≡ true
    behind true b e = refl
    behind false b e = e

same_files : (ps qs : List BlockPair) → ((q : BlockPair) → has_pair ps q ≡ has_pair qs q) → (n : ℕ) → among (files_of ps) n ≡ true → among (files_of qs) n ≡ true
same_files ps qs alike n e =
    let found = some_pair ps n e in
    subst (λ m. among (files_of qs) m ≡ true) found.2 (file_of_pair qs found.0 (sym (alike found.0) ∙ found.1))

abbrev numbers_of : List FileBlocks → List ℕ
numbers_of fs = map (λ f. f.file) fs

or_again : (a b : Bool) → (a || b) ≡ (a || (a || b))
or_again true b = refl
or_again false b = refl

front_among : (b : Bool) (p : Placed) (f : FileBlocks) (fs : List FileBlocks) (n : ℕ) → (p.pair.file == f.file) ≡ b → among (numbers_of (cond b (record { file = f.file; pairs = pair_of_place p ∷ f.pairs } ∷ fs) (record { file = p.pair.file; pairs = pair_of_place p ∷ [] } ∷ f ∷ fs))) n ≡ ((p.pair.file == n) || among (numbers_of (f ∷ fs)) n)
front_among true p f fs n e =
    or_again (f.file == n) (among (numbers_of fs) n)
    ∙ ap (λ m. (m == n) || among (numbers_of (f ∷ fs)) n) (sym (eqb-true p.pair.file f.file e))
front_among false p f fs n e = refl

numbers_front : (p : Placed) (fs : List FileBlocks) (n : ℕ) → among (numbers_of (block_in_front p fs)) n ≡ ((p.pair.file == n) || among (numbers_of fs) n)
numbers_front p [] n = refl
numbers_front p (f ∷ fs) n = front_among (p.pair.file == f.file) p f fs n refl

numbers_alike : (ps : List Placed) (n : ℕ) → among (numbers_of (by_file ps)) n ≡ among (files_of (pairs_in ps)) n
numbers_alike [] n = refl
numbers_alike (p ∷ ps) n = numbers_front p (by_file ps) n ∙ ap (λ b. (p.pair.file == n) || b) (numbers_alike ps n)

lower_differ : (f : FileBlocks) (gs : List FileBlocks) → Every (Lower f) gs → Every (λ (q : BlockPair). ¬ (first_block f.file ≡ q)) (map first_block (numbers_of gs))
lower_differ f [] h = tt
lower_differ f (g ∷ gs) h = (
  (λ e. let less = h.0 in let same : f.file ≡ g.file = ap (λ (b : BlockPair). b.file) e in absurd (omega (arith, less, same))),
  lower_differ f gs h.1,
)

numbers_differ : (fs : List FileBlocks) → Pairwise Lower fs → Pairwise (λ (p q : BlockPair). ¬ (p ≡ q)) (map first_block (numbers_of fs))
numbers_differ [] h = tt
numbers_differ (f ∷ fs) h = (lower_differ f fs h.0, numbers_differ fs h.1)

file_count : (r : Rebuilt) → IsPlaced r → AllUsed r → length (each_once (files_of (distinct (used_pairs r.kept)))) ≡ length (by_file (in_order r.places))
file_count r h used =
    let ps = distinct (used_pairs r.kept) in
    let places = in_order r.places in
    let fs = by_file places in
    let alike : (q : BlockPair) → has_pair ps q ≡ has_pair (pairs_in places) q =
    λ q. has_pair-distinct (used_pairs r.kept) q ∙ used_alike r h used q ∙ has_in r.places q ∙ sym (has_ordered r.places q) ∙ sym (has_in places q) in
    let same : (n : ℕ) → among (files_of ps) n ≡ among (numbers_of fs) n =
    λ n. same_bool (among (files_of ps) n) (among (files_of (pairs_in places)) n) (same_files ps (pairs_in places) alike n) (same_files (pairs_in places) ps (λ q. sym (alike q)) n) ∙ sym (numbers_alike places n) in
    once_length (files_of ps)
    ∙ same_count (map first_block (files_of ps)) (map first_block (numbers_of fs)) (λ q. is_first (files_of ps) q ∙ ap (λ b. b && (q.index == 0)) (same q.file) ∙ sym (is_first (numbers_of fs) q))
    ∙ ap length (distinct_same (map first_block (numbers_of fs)) (numbers_differ fs (files_rise places (sorted r.places h.once))))
    ∙ length-map (numbers_of fs) first_block
    ∙ length-map fs (λ (f : FileBlocks). f.file)

-- ---- all of it

summed : (head files ropes rows a b c whole : ℕ) → head ≡ 17 → files ≡ a → ropes ≡ b → rows ≡ c → whole ≡ files + ropes + rows → 5 + head + whole ≡ 22 + a + b + c
summed head files ropes rows a b c whole h k e g w = omega (arith, h, k, e, g, w)

pub base_sized : (f : Spot → Tagged) → ((s : Spot) → spot_of (f s) ≡ s) → (form : ℕ) (r : Rebuilt) → IsPlaced r → AllUsed r → framed_size (base_of form r) ≡ base_size form (durable_by f r.kept)
base_sized f same form r h used =
    let fs = by_file (in_order r.places) in
    let files = map (file_change form) fs in
    let ropes = map (rope_change form) r.ropes in
    let rows = map row_change r.rows in
    let pairs : live_pairs (durable_by f r.kept) ≡ distinct (used_pairs r.kept) = ap distinct (used_filled f same r) in
    let blocks : length (flat fs) ≡ length (live_pairs (durable_by f r.kept)) = ap length (flat_files (in_order r.places)) ∙ length_ordered r.places ∙ sym (pair_count r h used) ∙ ap length (sym pairs) in
    let count : length fs ≡ length (each_once (files_of (live_pairs (durable_by f r.kept)))) = sym (file_count r h used) ∙ ap (λ l. length (each_once (files_of l))) (sym pairs) in
    let filed : framed_size files ≡ 18 * length (each_once (files_of (live_pairs (durable_by f r.kept)))) + (4 + address_size form) * length (live_pairs (durable_by f r.kept)) =
    files_size form fs ∙ ap (λ n. 18 * n + (4 + address_size form) * length (flat fs)) count ∙ ap (λ n. 18 * length (each_once (files_of (live_pairs (durable_by f r.kept)))) + (4 + address_size form) * n) blocks in
    summed (length (spelling (cond (form == 2) (changes.Base2 r.moment r.next) (changes.Base r.moment r.next)))) (framed_size files) (framed_size ropes) (framed_size rows) _ _ _ (framed_size ((files ++ ropes) ++ rows))
    (head_size (form == 2) r.moment r.next) filed (ropes_size f same form r.ropes) (rows_size r.rows)
    (framed_append (files ++ ropes) rows ∙ ap (λ n. n + framed_size rows) (framed_append files ropes))
