-- A base is replayed as what it spells.
use Rattle.std.proofs.Common.{◌≡◌, ℕ, ◌+◌, ◌*◌, ◌%◌, ◌≤◌, ◌<◌, ◌⊎◌, inl, inr, ◌==◌, Bool, true, false, cond, not, ◌&&◌, ◌||◌, nat_lt, List, [], ◌∷◌, ◌++◌, map, flat_map, Option, Some, None, refl, sym, ◌∙◌, ap, subst, arith, append_assoc}
use Rattle.std.proofs.lemmas.Bool.{lt-ltb, le-leb, eqb-true, eq-eqb}
use Rattle.std.proofs.lemmas.List.{append-nil}
use Rattle.std.specs.Prelude.{filter, is_some, slice_index}
use Rattle.std.specs.List.{list_all}
use Rattle.voice_units.specs.declared.shapes.Shape.{Shape}
use Rattle.voice_units.specs.Spots.{Spot, spots_of, pieces_of, nowhere}
use Rattle.voice_units.specs.Blocks.{has_pair, pair_at, pairs_at}
use Rattle.voice_units.proofs.PiecesOfRopes.{spots_of-runs}
use Rattle.voice_model.specs.Samples.{Tagged, spot_of}
use Rattle.voice_model.specs.State.{Live, is_live, row_at, is_row, form_of, among}
use Rattle.voice_model.specs.Replay.{Placed, Rebuilt, Phase, nothing_rebuilt, rebuilt, if_legal, is_legal, acted, used_pairs, has_place, has_address, all_differ, takes_ropes, may_be_file, may_be_rope, place_of, filled, recovered, live_by, durable_by}
use Rattle.voice_model.specs.Base.{FileBlocks, by_file, in_order, file_change, rope_change, row_change, base_of}
use Rattle.voice_model.specs.Valid.{Every, Rising, IsRope, IsRow, Once, IsRebuilt}
use Rattle.voice_model.specs.Places.{Pairwise, OfOtherBlock, AtOtherAddress, IsPlace, EachPlaced, IsInRange, IsPlaced, AllUsed, CanBeSpelled}
use Rattle.voice_model.specs.declared.lists.Pair.{Pair}
use Rattle.voice_model.specs.declared.changes.Change.{Change}
use Rattle.voice_model.specs.declared.changes.Change.TheVariants as changes
use Rattle.voice_model.specs.declared.calls.Row.{Row}
use Rattle.voice_model.specs.declared.calls.Class.{Class}
use Rattle.voice_model.proofs.KeptByChanges.{every-append, every-imply, same_row}
use Rattle.voice_model.proofs.LegalInReplay.{live_filled}
use Rattle.voice_model.proofs.Order.{every-split, every-both, every-always, every_ordered, pairwise-split, pairwise_ordered, has_ordered, address_ordered, sorted}
use Rattle.voice_model.proofs.BaseFiles.{places_in, flat, flat_files, every_file, Lower, files_rise}

join : (a b : Bool) → a ≡ true → b ≡ true → (a && b) ≡ true
join a b h k = ap (λ x. x && b) h ∙ k

one_legal : (r next : Rebuilt) (c : Change) (cs : List Change) → is_legal r c ≡ true → acted r c ≡ next → rebuilt r (c ∷ cs) ≡ rebuilt next cs
one_legal r next c cs h e = ap (λ b. if_legal b (rebuilt (acted r c) cs)) h ∙ ap (λ q. rebuilt q cs) e

all_of_every : {A : Type 0} (p : A → Bool) (xs : List A) → Every (λ x. p x ≡ true) xs → list_all p xs ≡ true
all_of_every p [] h = refl
all_of_every p (x ∷ xs) h = join (p x) (list_all p xs) h.0 (all_of_every p xs h.1)

every-swap : {A B : Type 0} (R : A → B → Type 0) (xs : List A) (ys : List B) → Every (λ x. Every (R x) ys) xs → Every (λ y. Every (λ x. R x y) xs) ys
every-swap R [] ys h = every-always (λ y. Every (λ x. R x y) []) (λ y. tt) ys
every-swap R (x ∷ xs) ys h = every-both (R x) (λ y. Every (λ x. R x y) xs) ys h.0 (every-swap R xs ys h.1)

-- ---- files

abbrev filed : Shape → ℕ → ℕ → ℕ → List Placed → Rebuilt
filed shape form moment next places = record { kept = record { shape = shape; ropes = []; rows = []; moment = moment; next = next }; places = places; form = form; phase = Phase.Files }

not_same : (a b : ℕ) → ¬ (a ≡ b) → (a == b) ≡ false
not_same a b h = by (a == b) refl
  where
    by : (c : Bool) → (a == b) ≡ c → (a == b) ≡ false
    by true e = absurd (h (eqb-true a b e))
    by false e = e

no_address : (places : List Placed) (a : ℕ) → Every (λ (p : Placed). ¬ (p.address ≡ a)) places → has_address places a ≡ false
no_address [] a h = refl
no_address (p ∷ places) a h = ap (λ b. b || has_address places a) (not_same p.address a h.0) ∙ no_address places a h.1

among_none : (file : ℕ) (pair : Pair) (pairs : List Pair) → Every (AtOtherAddress (place_of file pair)) (map (place_of file) pairs) → not (among (map (λ pair. pair.address) pairs) pair.address) ≡ true
among_none file pair [] h = refl
among_none file pair (other ∷ pairs) h = ap (λ b. not (b || among (map (λ pair. pair.address) pairs) pair.address)) (not_same other.address pair.address (λ e. h.0 (sym e))) ∙ among_none file pair pairs h.1

differ_test : (file : ℕ) (pairs : List Pair) → Pairwise AtOtherAddress (map (place_of file) pairs) → all_differ (map (λ pair. pair.address) pairs) ≡ true
differ_test file [] h = refl
differ_test file (pair ∷ pairs) h = join (not (among (map (λ pair. pair.address) pairs) pair.address)) (all_differ (map (λ pair. pair.address) pairs)) (among_none file pair pairs h.0) (differ_test file pairs h.1)

free_test : (places : List Placed) (blocks next file : ℕ) (pairs : List Pair) → Every (λ (place : Placed). Every (AtOtherAddress place) (map (place_of file) pairs)) places → Every (IsInRange next blocks) (map (place_of file) pairs) → list_all (λ pair. nat_lt pair.address blocks && not (has_address places pair.address)) pairs ≡ true
free_test places blocks next file pairs h k = by pairs (every-swap AtOtherAddress places (map (place_of file) pairs) h) k
  where
    by : (pairs : List Pair) → Every (λ (q : Placed). Every (λ p. AtOtherAddress p q) places) (map (place_of file) pairs) → Every (IsInRange next blocks) (map (place_of file) pairs) → list_all (λ pair. nat_lt pair.address blocks && not (has_address places pair.address)) pairs ≡ true
    by [] h k = refl
    by (pair ∷ pairs) h k =
        join (nat_lt pair.address blocks && not (has_address places pair.address)) (list_all (λ pair. nat_lt pair.address blocks && not (has_address places pair.address)) pairs)
        (join (nat_lt pair.address blocks) (not (has_address places pair.address)) (lt-ltb pair.address blocks k.0.address) (ap not (no_address places pair.address h.0)))
        (by pairs h.1 k.1)

form_one : (form : ℕ) → (form ≡ 2) ⊎ (form ≡ 1) → (form == 2) ≡ false → (form == 1) ≡ true
form_one form (inl two) e = let yes = eq-eqb form 2 two in let bad : true ≡ false = sym yes ∙ e in cc
form_one form (inr one) e = eq-eqb form 1 one

file_legal : (b : Bool) (shape : Shape) (form moment next : ℕ) (places : List Placed) (f : FileBlocks) → (form == 2) ≡ b → (form ≡ 2) ⊎ (form ≡ 1) → may_be_file (filed shape form moment next places) f.file f.pairs ≡ true → is_legal (filed shape form moment next places) (cond b (changes.File2 f.file f.pairs) (changes.File f.file f.pairs)) ≡ true
file_legal true shape form moment next places f e forms h = join (form == 2) (may_be_file (filed shape form moment next places) f.file f.pairs) e h
file_legal false shape form moment next places f e forms h = join (form == 1) (may_be_file (filed shape form moment next places) f.file f.pairs) (form_one form forms e) h

file_acted : (b : Bool) (shape : Shape) (form moment next : ℕ) (places : List Placed) (f : FileBlocks) → acted (filed shape form moment next places) (cond b (changes.File2 f.file f.pairs) (changes.File f.file f.pairs)) ≡ filed shape form moment next (places ++ places_in f)
file_acted true shape form moment next places f = refl
file_acted false shape form moment next places f = refl

in_file : (file : ℕ) (pairs : List Pair) → Every (λ (p : Placed). p.pair.file ≡ file) (map (place_of file) pairs)
in_file file [] = tt
in_file file (pair ∷ pairs) = (refl, in_file file pairs)

files_read : (shape : Shape) (form moment next : ℕ) (places : List Placed) (fs : List FileBlocks) (rest : List Change) → (form ≡ 2) ⊎ (form ≡ 1) → Pairwise Lower fs → Every (λ (f : FileBlocks). Every (λ (p : Placed). p.pair.file < f.file) places) fs → Every (λ (f : FileBlocks). f.file < next) fs → Pairwise AtOtherAddress (places ++ flat fs) → Every (IsInRange next shape.blocks) (flat fs) →
    rebuilt (filed shape form moment next places) (map (file_change form) fs ++ rest) ≡ rebuilt (filed shape form moment next (places ++ flat fs)) rest
files_read shape form moment next places [] rest forms h k e differ ranges = ap (λ l. rebuilt (filed shape form moment next l) rest) (sym (append-nil places))
files_read shape form moment next places (f ∷ fs) rest forms h k e differ ranges =
    let here = filed shape form moment next places in
    let parts = pairwise-split AtOtherAddress places (places_in f ++ flat fs) differ in
    let own = pairwise-split AtOtherAddress (places_in f) (flat fs) parts.1 in
    let apart = every-imply (λ (p : Placed). Every (AtOtherAddress p) (places_in f ++ flat fs)) (λ (p : Placed). Every (AtOtherAddress p) (places_in f)) (λ p q. (every-split (AtOtherAddress p) (places_in f) (flat fs) q).0) places parts.2 in
    let within = every-split (IsInRange next shape.blocks) (places_in f) (flat fs) ranges in
    let legal : may_be_file here f.file f.pairs ≡ true =
    join _ _ (join _ _ (join _ _ (all_of_every (λ (place : Placed). nat_lt place.pair.file f.file) places (every-imply (λ (p : Placed). p.pair.file < f.file) (λ (p : Placed). nat_lt p.pair.file f.file ≡ true) (λ p less. lt-ltb p.pair.file f.file less) places k.0)) (lt-ltb f.file next e.0)) (differ_test f.file f.pairs own.0)) (free_test places shape.blocks next f.file f.pairs apart within.0) in
    one_legal here (filed shape form moment next (places ++ places_in f)) (file_change form f) (map (file_change form) fs ++ rest)
    (file_legal (form == 2) shape form moment next places f refl forms legal)
    (file_acted (form == 2) shape form moment next places f)
    ∙ files_read shape form moment next (places ++ places_in f) fs rest forms h.1
    (every-imply (λ (g : FileBlocks). Every (λ (p : Placed). p.pair.file < g.file) places × (f.file < g.file)) (λ (g : FileBlocks). Every (λ (p : Placed). p.pair.file < g.file) (places ++ places_in f))
    (λ g q. every-append (λ (p : Placed). p.pair.file < g.file) places (places_in f) q.0 (let more = q.1 in every-imply (λ (p : Placed). p.pair.file ≡ f.file) (λ (p : Placed). p.pair.file < g.file) (λ p same. omega (arith, same, more)) (places_in f) (in_file f.file f.pairs))) fs
    (every-both (λ (g : FileBlocks). Every (λ (p : Placed). p.pair.file < g.file) places) (Lower f) fs k.1 h.0))
    e.1
    (subst (Pairwise AtOtherAddress) (sym (append_assoc places (places_in f) (flat fs))) differ)
    within.1
    ∙ ap (λ l. rebuilt (filed shape form moment next l) rest) (append_assoc places (places_in f) (flat fs))

-- ---- ropes

abbrev roped : Shape → ℕ → ℕ → ℕ → List Placed → List (Live Spot) → Phase → Rebuilt
roped shape form moment next places ropes phase = record { kept = record { shape = shape; ropes = ropes; rows = []; moment = moment; next = next }; places = places; form = form; phase = phase }

abbrev phase_after : Phase → List (Live Spot) → Phase
phase_after phase [] = phase
phase_after phase (rope ∷ ropes) = phase_after Phase.Ropes ropes

pub record IsSpelled (form block moment next : ℕ) (places : List Placed) (rope : Live Spot) : Type 0 where
  pub below : rope.id < next
  pub idle : rope.idle ≤ moment
  pub held : Every (λ s. has_place places (pair_at block s) ≡ true) rope.samples
  pub plain : (form == 2) ≡ false → rope.last ≡ 0

abbrev pub Rises : Live Spot → Live Spot → Type 0
Rises a b = a.id < b.id

held_test : (places : List Placed) (block : ℕ) (ss : List Spot) → Every (λ s. has_place places (pair_at block s) ≡ true) ss → list_all (has_place places) (pairs_at block ss) ≡ true
held_test places block [] h = refl
held_test places block (s ∷ ss) h = join (has_place places (pair_at block s)) (list_all (has_place places) (pairs_at block ss)) h.0 (held_test places block ss h.1)

rope_legal : (b : Bool) (r : Rebuilt) (rope : Live Spot) → (r.form == 2) ≡ b → (r.form ≡ 2) ⊎ (r.form ≡ 1) → may_be_rope r rope.id rope.idle (pieces_of rope.samples) ≡ true → is_legal r (cond b (changes.Rope2 rope.id rope.idle rope.last (pieces_of rope.samples)) (changes.Rope rope.id rope.idle (pieces_of rope.samples))) ≡ true
rope_legal true r rope e forms h = join (r.form == 2) (may_be_rope r rope.id rope.idle (pieces_of rope.samples)) e h
rope_legal false r rope e forms h = join (r.form == 1) (may_be_rope r rope.id rope.idle (pieces_of rope.samples)) (form_one r.form forms e) h

same_rope : (rope : Live Spot) (last : ℕ) (ss : List Spot) → last ≡ rope.last → ss ≡ rope.samples → record { id = rope.id; samples = ss; idle = rope.idle; last = last } ≡ rope
same_rope rope last ss e f = λ i. record { id = rope.id; samples = f i; idle = rope.idle; last = e i }

rope_acted : (b : Bool) (shape : Shape) (form moment next : ℕ) (places : List Placed) (ropes : List (Live Spot)) (phase : Phase) (rope : Live Spot) → (b ≡ false → rope.last ≡ 0) → acted (roped shape form moment next places ropes phase) (cond b (changes.Rope2 rope.id rope.idle rope.last (pieces_of rope.samples)) (changes.Rope rope.id rope.idle (pieces_of rope.samples))) ≡ roped shape form moment next places (ropes ++ rope ∷ []) Phase.Ropes
rope_acted true shape form moment next places ropes phase rope plain = ap (λ x. roped shape form moment next places (ropes ++ x ∷ []) Phase.Ropes) (same_rope rope rope.last (spots_of (pieces_of rope.samples)) refl (spots_of-runs nowhere rope.samples))
rope_acted false shape form moment next places ropes phase rope plain = ap (λ x. roped shape form moment next places (ropes ++ x ∷ []) Phase.Ropes) (same_rope rope 0 (spots_of (pieces_of rope.samples)) (sym (plain refl)) (spots_of-runs nowhere rope.samples))

ropes_read : (shape : Shape) (form moment next : ℕ) (places : List Placed) (ropes more : List (Live Spot)) (phase : Phase) (rest : List Change) → (form ≡ 2) ⊎ (form ≡ 1) → takes_ropes phase ≡ true → Every (IsSpelled form shape.block moment next places) more → Pairwise Rises more → Every (λ (b : Live Spot). Every (λ (a : Live Spot). a.id < b.id) ropes) more →
    rebuilt (roped shape form moment next places ropes phase) (map (rope_change form) more ++ rest) ≡ rebuilt (roped shape form moment next places (ropes ++ more) (phase_after phase more)) rest
ropes_read shape form moment next places ropes [] phase rest forms t h k e = ap (λ l. rebuilt (roped shape form moment next places l phase) rest) (sym (append-nil ropes))
ropes_read shape form moment next places ropes (rope ∷ more) phase rest forms t h k e =
    let here = roped shape form moment next places ropes phase in
    let legal : may_be_rope here rope.id rope.idle (pieces_of rope.samples) ≡ true =
    join _ _ (join _ _ (join _ _ (join _ _ t (all_of_every (λ (other : Live Spot). nat_lt other.id rope.id) ropes (every-imply (λ (a : Live Spot). a.id < rope.id) (λ (a : Live Spot). nat_lt a.id rope.id ≡ true) (λ a less. lt-ltb a.id rope.id less) ropes e.0))) (lt-ltb rope.id next h.0.below)) (le-leb rope.idle moment h.0.idle))
    (ap (λ ss. list_all (has_place places) (pairs_at shape.block ss)) (spots_of-runs nowhere rope.samples) ∙ held_test places shape.block rope.samples h.0.held) in
    one_legal here (roped shape form moment next places (ropes ++ rope ∷ []) Phase.Ropes) (rope_change form rope) (map (rope_change form) more ++ rest)
    (rope_legal (form == 2) here rope refl forms legal)
    (rope_acted (form == 2) shape form moment next places ropes phase rope h.0.plain)
    ∙ ropes_read shape form moment next places (ropes ++ rope ∷ []) more Phase.Ropes rest forms refl h.1 k.1
    (every-imply (λ (b : Live Spot). Every (λ (a : Live Spot). a.id < b.id) ropes × (rope.id < b.id)) (λ (b : Live Spot). Every (λ (a : Live Spot). a.id < b.id) (ropes ++ rope ∷ []))
    (λ b q. every-append (λ (a : Live Spot). a.id < b.id) ropes (rope ∷ []) q.0 (q.1, tt)) more
    (every-both (λ (b : Live Spot). Every (λ (a : Live Spot). a.id < b.id) ropes) (Rises rope) more e.1 k.0))
    ∙ ap (λ l. rebuilt (roped shape form moment next places l (phase_after Phase.Ropes more)) rest) (append_assoc ropes (rope ∷ []) more)

-- ---- rows

abbrev rowed : Shape → ℕ → ℕ → ℕ → List Placed → List (Live Spot) → List Row → Phase → Rebuilt
rowed shape form moment next places ropes rows phase = record { kept = record { shape = shape; ropes = ropes; rows = rows; moment = moment; next = next }; places = places; form = form; phase = phase }

abbrev phase_then : Phase → List Row → Phase
phase_then phase [] = phase
phase_then phase (row ∷ rows) = phase_then Phase.Later rows

all_stay : {A : Type 0} (p : A → Bool) (xs : List A) → Every (λ x. p x ≡ true) xs → filter p xs ≡ xs
all_stay p [] h = refl
all_stay p (x ∷ xs) h = ap (λ b. cond b (x ∷ filter p xs) (filter p xs)) h.0 ∙ ap (λ l. x ∷ l) (all_stay p xs h.1)

absent : (b : Bool) (row : Row) (o : Option Row) → cond b (Some row) o ≡ None → (b ≡ false) × (o ≡ None)
absent true row o h = cc
absent false row o h = (refl, h)

absent_here : (rows more : List Row) (row : Row) (class : Class) (key : List ℕ) → row_at (rows ++ row ∷ more) class key ≡ None → is_row class key row ≡ false
absent_here [] more row class key h = (absent (is_row class key row) row (row_at more class key) h).0
absent_here (first ∷ rows) more row class key h = absent_here rows more row class key (absent (is_row class key first) first (row_at (rows ++ row ∷ more) class key) h).1

-- a row has another key than those before it
key_free : (rows more : List Row) (row : Row) → Once (rows ++ row ∷ more) → row_at rows row.class row.key ≡ None
key_free [] more row h = refl
key_free (first ∷ rows) more row h =
    ap (λ b. cond b (Some first) (row_at rows row.class row.key)) (same_row row first ∙ absent_here rows more row first.class first.key h.0) ∙ key_free rows more row h.1

row_legal : (ropes : List (Live Spot)) (rows : List Row) (row : Row) → is_live ropes row.rope ≡ true → row_at rows row.class row.key ≡ None → (is_live ropes row.rope && not (is_some (row_at rows row.class row.key))) ≡ true
row_legal ropes rows row h e = join (is_live ropes row.rope) (not (is_some (row_at rows row.class row.key))) h (ap (λ o. not (is_some o)) e)

rows_read : (shape : Shape) (form moment next : ℕ) (places : List Placed) (ropes : List (Live Spot)) (rows more : List Row) (phase : Phase) → Every (λ (row : Row). is_live ropes row.rope ≡ true) more → Once (rows ++ more) → Every (λ (place : Placed). has_pair (pairs_at shape.block (flat_map (λ rope. rope.samples) ropes)) place.pair ≡ true) places →
    rebuilt (rowed shape form moment next places ropes rows phase) (map row_change more) ≡ Some (rowed shape form moment next places ropes (rows ++ more) (phase_then phase more))
rows_read shape form moment next places ropes rows [] phase h once used =
    let stay = all_stay (λ (place : Placed). has_pair (pairs_at shape.block (flat_map (λ rope. rope.samples) ropes)) place.pair) places used in
    ap (λ l. Some (rowed shape form moment next l ropes rows phase)) stay ∙ ap (λ l. Some (rowed shape form moment next places ropes l phase)) (sym (append-nil rows))
rows_read shape form moment next places ropes rows (row ∷ more) phase h once used =
    let here = rowed shape form moment next places ropes rows phase in
    let keep : Placed → Bool = λ place. has_pair (pairs_at shape.block (flat_map (λ rope. rope.samples) ropes)) place.pair in
    let stay = ap (filter keep) (append-nil places) ∙ all_stay keep places used in
    one_legal here (rowed shape form moment next places ropes (rows ++ row ∷ []) Phase.Later) (row_change row) (map row_change more)
    (row_legal ropes rows row h.0 (key_free rows more row once))
    (ap (λ l. rowed shape form moment next l ropes (rows ++ row ∷ []) Phase.Later) stay)
    ∙ rows_read shape form moment next places ropes (rows ++ row ∷ []) more Phase.Later h.1 (subst Once (sym (append_assoc rows (row ∷ []) more)) once) used
    ∙ ap (λ l. Some (rowed shape form moment next places ropes l (phase_then Phase.Later more))) (append_assoc rows (row ∷ []) more)

-- ---- the head

abbrev base_change : ℕ → ℕ → ℕ → Change
base_change form moment next = cond (form == 2) (changes.Base2 moment next) (changes.Base moment next)

head_read : (shape : Shape) (form moment next : ℕ) (rest : List Change) → (form ≡ 2) ⊎ ((form ≡ 1) × (shape.version ≡ 1)) → rebuilt (nothing_rebuilt shape) (base_change form moment next ∷ rest) ≡ rebuilt (filed shape form moment next []) rest
head_read shape form moment next rest (inl two) = subst (λ n. rebuilt (nothing_rebuilt shape) (base_change n moment next ∷ rest) ≡ rebuilt (filed shape n moment next []) rest) (sym two) refl
head_read shape form moment next rest (inr one) =
    subst (λ n. rebuilt (nothing_rebuilt shape) (base_change n moment next ∷ rest) ≡ rebuilt (filed shape n moment next []) rest) (sym one.0)
    (ap (λ v. if_legal ((form_of v == 1) && true) (rebuilt (filed shape 1 moment next []) rest)) one.1)

-- ---- numbers of ropes

rising_ids : (f : Spot → Tagged) (low : ℕ) (ropes : List (Live Spot)) (next : ℕ) → Rising low (map (live_by f) ropes) next → Every (λ (rope : Live Spot). (low ≤ rope.id) × (rope.id < next)) ropes
rising_ids f low [] next h = tt
rising_ids f low (rope ∷ ropes) next h = (
  (h.0, let end = rising_end f (rope.id + 1) ropes next h.1 in omega (arith, end)),
  (let first = h.0 in every-imply (λ (other : Live Spot). (rope.id + 1 ≤ other.id) × (other.id < next)) (λ (other : Live Spot). (low ≤ other.id) × (other.id < next)) (λ other k. (let more = k.0 in omega (arith, more, first), k.1)) ropes (rising_ids f (rope.id + 1) ropes next h.1)),
)
  where
    rising_end : (f : Spot → Tagged) (low : ℕ) (ropes : List (Live Spot)) (next : ℕ) → Rising low (map (live_by f) ropes) next → low ≤ next
    rising_end f low [] next h = h
    rising_end f low (rope ∷ ropes) next h = let first = h.0 in let rest = rising_end f (rope.id + 1) ropes next h.1 in omega (arith, first, rest)

pub ids_rise : (f : Spot → Tagged) (low : ℕ) (ropes : List (Live Spot)) (next : ℕ) → Rising low (map (live_by f) ropes) next → Pairwise Rises ropes
ids_rise f low [] next h = tt
ids_rise f low (rope ∷ ropes) next h = (
  every-imply (λ (other : Live Spot). (rope.id + 1 ≤ other.id) × (other.id < next)) (Rises rope) (λ other k. let more = k.0 in omega (arith, more)) ropes (rising_ids f (rope.id + 1) ropes next h.1),
  ids_rise f (rope.id + 1) ropes next h.1,
)

pub ids_below : (f : Spot → Tagged) (ropes : List (Live Spot)) (next : ℕ) → Rising 1 (map (live_by f) ropes) next → Every (λ (rope : Live Spot). (1 ≤ rope.id) × (rope.id < next)) ropes
ids_below f ropes next h = rising_ids f 1 ropes next h

-- ---- all of it

abbrev pub end_of : ℕ → Rebuilt → Rebuilt
end_of form r = rowed r.shape form r.moment r.next (in_order r.places) r.ropes r.rows (phase_then (phase_after Phase.Files r.ropes) r.rows)

swap_block : (p q : Placed) → OfOtherBlock p q → OfOtherBlock q p
swap_block p q h = λ e. h (sym e)

swap_address : (p q : Placed) → AtOtherAddress p q → AtOtherAddress q p
swap_address p q h = λ e. h (sym e)

two_or_one : (form : ℕ) (r : Rebuilt) → CanBeSpelled form r → (form ≡ 2) ⊎ (form ≡ 1)
two_or_one form r (inl two) = inl two
two_or_one form r (inr one) = inr one.0

by_version : (form : ℕ) (r : Rebuilt) → CanBeSpelled form r → (form ≡ 2) ⊎ ((form ≡ 1) × (r.shape.version ≡ 1))
by_version form r (inl two) = inl two
by_version form r (inr one) = inr (one.0, one.1)

plain_lasts : (form : ℕ) (r : Rebuilt) → CanBeSpelled form r → Every (λ (rope : Live Spot). (form == 2) ≡ false → rope.last ≡ 0) r.ropes
plain_lasts form r (inl two) = every-always (λ (rope : Live Spot). (form == 2) ≡ false → rope.last ≡ 0) (λ rope e. let yes = eq-eqb form 2 two in let bad : true ≡ false = sym yes ∙ e in cc) r.ropes
plain_lasts form r (inr one) = every-imply (λ (rope : Live Spot). rope.last ≡ 0) (λ (rope : Live Spot). (form == 2) ≡ false → rope.last ≡ 0) (λ rope h e. h) r.ropes one.2

spelled_ropes : (form : ℕ) (r : Rebuilt) (f : Spot → Tagged) (ropes : List (Live Spot)) → Every (λ (rope : Live Spot). (1 ≤ rope.id) × (rope.id < r.next)) ropes → Every (IsRope r.form r.moment) (map (live_by f) ropes) → EachPlaced r.shape.block r.places ropes → Every (λ (rope : Live Spot). (form == 2) ≡ false → rope.last ≡ 0) ropes → Every (IsSpelled form r.shape.block r.moment r.next (in_order r.places)) ropes
spelled_ropes form r f [] h k e g = tt
spelled_ropes form r f (rope ∷ ropes) h k e g = (
  record {
    below = h.0.1;
    idle = k.0.idle;
    held = every-imply (IsPlace r.shape.block r.places) (λ s. has_place (in_order r.places) (pair_at r.shape.block s) ≡ true) (λ s p. has_ordered r.places (pair_at r.shape.block s) ∙ p.held) rope.samples e.0;
    plain = g.0;
  },
  spelled_ropes form r f ropes h.1 k.1 e.1 g.1,
)

pub rows_of : (f : Spot → Tagged) → ((s : Spot) → spot_of (f s) ≡ s) → (ropes : List (Live Spot)) (rows : List Row) → Every (IsRow (map (live_by f) ropes)) rows → Every (λ (row : Row). is_live ropes row.rope ≡ true) rows
rows_of f same ropes rows h = every-imply (IsRow (map (live_by f) ropes)) (λ (row : Row). is_live ropes row.rope ≡ true) (λ row k. sym (live_filled f same ropes row.rope) ∙ k.live) rows h

pub base_replayed : (f : Spot → Tagged) → ((s : Spot) → spot_of (f s) ≡ s) → (form : ℕ) (r : Rebuilt) → IsRebuilt f r → IsPlaced r → AllUsed r → CanBeSpelled form r → rebuilt (nothing_rebuilt r.shape) (base_of form r) ≡ Some (end_of form r)
base_replayed f same form r h placed used can =
    let forms = two_or_one form r can in
    let places = in_order r.places in
    let fs = by_file places in
    let files = map (file_change form) fs in
    let ropes = map (rope_change form) r.ropes in
    let rows = map row_change r.rows in
    let whole = flat_files places in
    let ranges = every_ordered (IsInRange r.next r.shape.blocks) r.places placed.ranges in
    let order = sorted r.places placed.once in
    head_read r.shape form r.moment r.next ((files ++ ropes) ++ rows) (by_version form r can)
    ∙ ap (λ l. rebuilt (filed r.shape form r.moment r.next []) l) (append_assoc files ropes rows)
    ∙ files_read r.shape form r.moment r.next [] fs (ropes ++ rows) forms (files_rise places order) (every-always (λ (f : FileBlocks). Every (λ (p : Placed). p.pair.file < f.file) []) (λ f. tt) fs)
    (every_file (λ n. n < r.next) places (every-imply (IsInRange r.next r.shape.blocks) (λ (p : Placed). p.pair.file < r.next) (λ p k. k.known) places ranges))
    (subst (Pairwise AtOtherAddress) (sym whole) (pairwise_ordered AtOtherAddress swap_address r.places placed.differ))
    (subst (Every (IsInRange r.next r.shape.blocks)) (sym whole) ranges)
    ∙ ap (λ l. rebuilt (filed r.shape form r.moment r.next l) (ropes ++ rows)) whole
    ∙ ropes_read r.shape form r.moment r.next places [] r.ropes Phase.Files rows forms refl
    (spelled_ropes form r f r.ropes (ids_below f r.ropes r.next h.kept.rising) h.kept.each_rope placed.placed (plain_lasts form r can))
    (ids_rise f 1 r.ropes r.next h.kept.rising)
    (every-always (λ (b : Live Spot). Every (λ (a : Live Spot). a.id < b.id) []) (λ b. tt) r.ropes)
    ∙ rows_read r.shape form r.moment r.next places r.ropes [] r.rows (phase_after Phase.Files r.ropes) (rows_of f same r.ropes r.rows h.kept.each_row) h.kept.once
    (every_ordered (λ (place : Placed). has_pair (used_pairs r.kept) place.pair ≡ true) r.places used)

-- ---- the same bytes

pub filled_again : (image : List ℕ) (form : ℕ) (r : Rebuilt) (s : Spot) → Pairwise OfOtherBlock r.places → filled image (end_of form r) s ≡ filled image r s
filled_again image form r s once =
    ap (λ a. record { byte = slice_index image (64 + 2 * r.shape.area + a * r.shape.block + s.place % r.shape.block); file = s.file; place = s.place }) (address_ordered r.places (pair_at r.shape.block s) once)

pub recovered_again : (image : List ℕ) (form : ℕ) (r : Rebuilt) → Pairwise OfOtherBlock r.places → recovered image (end_of form r) ≡ recovered image r
recovered_again image form r once =
    let same : filled image (end_of form r) ≡ filled image r = λ i. λ s. filled_again image form r s once i in
    ap (λ f. durable_by f r.kept) same
