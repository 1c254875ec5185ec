-- Replay keeps the places of blocks: each used block has one, and no block and no address stands twice.
use Rattle.std.proofs.Common.{◌≡◌, ℕ, zero, suc, ◌+◌, ◌-◌, ◌*◌, ◌/◌, ◌≤◌, ◌<◌, ◌^◌, ◌==◌, Bool, true, false, cond, not, ◌&&◌, ◌||◌, nat_lt, List, [], ◌∷◌, ◌++◌, map, length, flat_map, Option, Some, refl, sym, ◌∙◌, ap, subst, arith, append_assoc}
use Rattle.std.proofs.lemmas.Bool.{ltb-true, leb-true, eqb-true, eq-eqb}
use Rattle.std.proofs.lemmas.Nat.{le-div}
use Rattle.std.proofs.Math.Nat.{div-mul-le_self}
use Rattle.std.proofs.lemmas.List.{append-nil}
use Rattle.std.proofs.lemmas.List.Elements.{filter-append}
use Rattle.std.proofs.lemmas.List.Folds.{list_any-append}
use Rattle.std.specs.Prelude.{filter, nat_le}
use Rattle.std.specs.List.{list_all}
use Rattle.voice_units.specs.declared.shapes.Shape.{Shape}
use Rattle.voice_units.specs.declared.pieces.Piece.{Piece}
use Rattle.voice_units.specs.Spots.{Spot, spots_from, spots_of}
use Rattle.voice_units.specs.Blocks.{BlockPair, has_pair, same_pair, pair_at, pairs_at, blocks_for}
use Rattle.voice_units.proofs.PiecesOfRopes.{both}
use Rattle.voice_units.proofs.Distinct.{same_pair-true}
use Rattle.voice_model.specs.State.{Durable, Live, settled, has_row, among}
use Rattle.voice_model.specs.State.Effect.{Recorded}
use Rattle.voice_model.specs.Changes.{changed}
use Rattle.voice_model.specs.Spelling.{keeps_grammar, is_id, is_piece, are_pieces, is_moment, is_recording, is_file, rise}
use Rattle.voice_model.specs.Replay.{Placed, Rebuilt, Phase, nothing_rebuilt, rebuilt, if_legal, is_legal, acted, finished, used_pairs, still_used, has_place, has_address, all_differ, is_free_address, is_begun, takes_files, may_be_recorded, may_be_file, may_be_rope, placed_from, place_of, begun}
use Rattle.voice_model.specs.Valid.{Every}
use Rattle.voice_model.specs.Places.{Pairwise, OfOtherBlock, AtOtherAddress, IsPlace, EachPlaced, HasNoPlace, IsInRange, IsPlaced, AllUsed}
use Rattle.voice_model.specs.declared.lists.Pair.{Pair}
use Rattle.voice_model.specs.declared.changes.Change.{Change}
use Rattle.voice_model.specs.declared.changes.Change.TheVariants as changes
use Rattle.voice_model.specs.declared.calls.Row.{Row}
use Rattle.voice_model.proofs.KeptByChanges.{every-append, every-imply, every-filter, every-map}
use Rattle.voice_model.proofs.FitsOfCalls.{every_passed}
use Rattle.voice_model.proofs.Order.{every-both, every-always, pairwise-append, pairwise-filter}

-- ---- tests

or_left : (a b : Bool) → a ≡ true → (a || b) ≡ true
or_left a b e = ap (λ x. x || b) e

or_right : (a b : Bool) → b ≡ true → (a || b) ≡ true
or_right true b e = refl
or_right false b e = e

or_cases : (a b : Bool) {P : Type 0} → (a ≡ true → P) → (b ≡ true → P) → (a || b) ≡ true → P
or_cases true b f g e = f refl
or_cases false b f g e = g e

none_of : (a b : Bool) → not (a || b) ≡ true → (a ≡ false) × (not b ≡ true)
none_of true b e = cc
none_of false b e = (refl, e)

no : (a : Bool) → not a ≡ true → a ≡ false
no true e = cc
no false e = refl

pub same_itself : (p : BlockPair) → same_pair p p ≡ true
same_itself p = ap (λ b. b && (p.index == p.index)) (eq-eqb p.file p.file refl) ∙ eq-eqb p.index p.index refl

pub every_of_all : {A : Type 0} (p : A → Bool) (xs : List A) → list_all p xs ≡ true → Every (λ x. p x ≡ true) xs
every_of_all p [] h = tt
every_of_all p (x ∷ xs) h = let tests = both (p x) (list_all p xs) h in (tests.0, every_of_all p xs tests.1)

-- ---- blocks of samples

pairs_at-append : (block : ℕ) (xs ys : List Spot) → pairs_at block (xs ++ ys) ≡ pairs_at block xs ++ pairs_at block ys
pairs_at-append block [] ys = refl
pairs_at-append block (x ∷ xs) ys = ap (λ l. pair_at block x ∷ l) (pairs_at-append block xs ys)

pub has_pair-append : (block : ℕ) (xs ys : List Spot) (q : BlockPair) → has_pair (pairs_at block (xs ++ ys)) q ≡ (has_pair (pairs_at block xs) q || has_pair (pairs_at block ys) q)
has_pair-append block xs ys q = ap (λ ps. has_pair ps q) (pairs_at-append block xs ys) ∙ list_any-append (same_pair q) (pairs_at block xs) (pairs_at block ys)

abbrev pub all_samples : List (Live Spot) → List Spot
all_samples ropes = flat_map (λ rope. rope.samples) ropes

own_used : (block : ℕ) (ss more : List Spot) → Every (λ s. has_pair (pairs_at block (ss ++ more)) (pair_at block s) ≡ true) ss
own_used block [] more = tt
own_used block (s ∷ ss) more = (
  or_left (same_pair (pair_at block s) (pair_at block s)) (has_pair (pairs_at block (ss ++ more)) (pair_at block s)) (same_itself (pair_at block s)),
  every-imply (λ x. has_pair (pairs_at block (ss ++ more)) (pair_at block x) ≡ true) (λ x. has_pair (pairs_at block (s ∷ ss ++ more)) (pair_at block x) ≡ true)
      (λ x e. or_right (same_pair (pair_at block x) (pair_at block s)) (has_pair (pairs_at block (ss ++ more)) (pair_at block x)) e) ss (own_used block ss more),
)

abbrev EachUsed : ℕ → List Spot → List (Live Spot) → Type 0
EachUsed block all ropes = Every (λ rope. Every (λ s. has_pair (pairs_at block all) (pair_at block s) ≡ true) rope.samples) ropes

-- the block of each sample of a live rope is used
each_used : (block : ℕ) (ropes : List (Live Spot)) → EachUsed block (all_samples ropes) ropes
each_used block [] = tt
each_used block (rope ∷ ropes) = (
  own_used block rope.samples (all_samples ropes),
  every-imply (λ (other : Live Spot). Every (λ s. has_pair (pairs_at block (all_samples ropes)) (pair_at block s) ≡ true) other.samples) (λ (other : Live Spot). Every (λ s. has_pair (pairs_at block (rope.samples ++ all_samples ropes)) (pair_at block s) ≡ true) other.samples)
      (λ other h. every-imply (λ s. has_pair (pairs_at block (all_samples ropes)) (pair_at block s) ≡ true) (λ s. has_pair (pairs_at block (rope.samples ++ all_samples ropes)) (pair_at block s) ≡ true)
      (λ s e. has_pair-append block rope.samples (all_samples ropes) (pair_at block s) ∙ or_right (has_pair (pairs_at block rope.samples) (pair_at block s)) _ e) other.samples h) ropes (each_used block ropes),
)

-- ---- places of blocks

has_kept : (p : Placed → Bool) (b keep : Bool) (place : Placed) (rest : List Placed) (q : BlockPair) → same_pair place.pair q ≡ b → (b ≡ true → keep ≡ true) → (b ≡ false → has_place rest q ≡ true) → has_place (cond keep (place ∷ rest) rest) q ≡ true
has_kept p true true place rest q e keep step = ap (λ b. b || has_place rest q) e
has_kept p true false place rest q e keep step = let bad = keep refl in cc
has_kept p false true place rest q e keep step = or_right (same_pair place.pair q) (has_place rest q) (step refl)
has_kept p false false place rest q e keep step = step refl

-- a place stays where its block passes
pub stays : (pairs : List BlockPair) (places : List Placed) (q : BlockPair) → has_pair pairs q ≡ true → has_place places q ≡ true → has_place (filter (λ place. has_pair pairs place.pair) places) q ≡ true
stays pairs [] q h k = cc
stays pairs (place ∷ places) q h k =
    has_kept (λ place. has_pair pairs place.pair) (same_pair place.pair q) (has_pair pairs place.pair) place (filter (λ place. has_pair pairs place.pair) places) q refl
    (λ e. ap (has_pair pairs) (same_pair-true place.pair q e) ∙ h)
    (λ e. stays pairs places q h (sym (ap (λ b. b || has_place places q) e) ∙ k))

place_by : (block : ℕ) (places others : List Placed) (s : Spot) → IsPlace block places s → has_place others (pair_at block s) ≡ true → IsPlace block others s
place_by block places others s h e = record { some_file = h.some_file; file_limit = h.file_limit; place_limit = h.place_limit; held = e }

pub still_placed : (block : ℕ) (pairs : List BlockPair) (places : List Placed) (ropes : List (Live Spot)) → Every (λ rope. Every (λ s. has_pair pairs (pair_at block s) ≡ true) rope.samples) ropes → EachPlaced block places ropes → EachPlaced block (filter (λ place. has_pair pairs place.pair) places) ropes
still_placed block pairs places [] h k = tt
still_placed block pairs places (rope ∷ ropes) h k = (samples rope.samples h.0 k.0, still_placed block pairs places ropes h.1 k.1)
  where
    samples : (ss : List Spot) → Every (λ s. has_pair pairs (pair_at block s) ≡ true) ss → Every (IsPlace block places) ss → Every (IsPlace block (filter (λ place. has_pair pairs place.pair) places)) ss
    samples [] h k = tt
    samples (s ∷ ss) h k = (place_by block places _ s k.0 (stays pairs places (pair_at block s) h.0 k.0.held), samples ss h.1 k.1)

place_more : (block : ℕ) (places more : List Placed) (ropes : List (Live Spot)) → EachPlaced block places ropes → EachPlaced block (places ++ more) ropes
place_more block places more ropes h =
    every-imply (λ (rope : Live Spot). Every (IsPlace block places) rope.samples) (λ (rope : Live Spot). Every (IsPlace block (places ++ more)) rope.samples)
    (λ rope k. every-imply (IsPlace block places) (IsPlace block (places ++ more)) (λ s e. place_by block places (places ++ more) s e (list_any-append (λ (place : Placed). same_pair place.pair (pair_at block s)) places more ∙ or_left _ _ e.held)) rope.samples k)
    ropes h

-- a block that a live rope uses has its place
sample_placed : (block : ℕ) (places : List Placed) (ss : List Spot) (q : BlockPair) → Every (IsPlace block places) ss → has_pair (pairs_at block ss) q ≡ true → has_place places q ≡ true
sample_placed block places [] q h e = cc
sample_placed block places (s ∷ ss) q h e =
    or_cases (same_pair q (pair_at block s)) (has_pair (pairs_at block ss) q) (λ k. ap (has_place places) (same_pair-true q (pair_at block s) k) ∙ h.0.held) (λ k. sample_placed block places ss q h.1 k) e

pub used_placed : (block : ℕ) (places : List Placed) (ropes : List (Live Spot)) (q : BlockPair) → EachPlaced block places ropes → has_pair (pairs_at block (all_samples ropes)) q ≡ true → has_place places q ≡ true
used_placed block places [] q h e = cc
used_placed block places (rope ∷ ropes) q h e =
    or_cases (has_pair (pairs_at block rope.samples) q) (has_pair (pairs_at block (all_samples ropes)) q) (sample_placed block places rope.samples q h.0) (used_placed block places ropes q h.1)
    (sym (has_pair-append block rope.samples (all_samples ropes) q) ∙ e)

-- ---- the places of a piece

record IsRanged (s : Spot) : Type 0 where
  some_file : 1 ≤ s.file
  file_limit : s.file ≤ 2 ^ 48
  place_limit : s.place < 2 ^ 30

ranged_from : (file from n : ℕ) → 1 ≤ file → file ≤ 2 ^ 48 → from + n ≤ 2 ^ 30 → Every IsRanged (spots_from file from n)
ranged_from file from zero a b h = tt
ranged_from file from (suc n) a b h = (record { some_file = a; file_limit = b; place_limit = omega (arith, h) }, ranged_from file (from + 1) n a b (omega (arith, h)))

ranged_pieces : (ps : List Piece) → list_all is_piece ps ≡ true → Every IsRanged (spots_of ps)
ranged_pieces [] h = tt
ranged_pieces (p ∷ ps) h =
    let tests = both (is_piece p) (list_all is_piece ps) h in
    let outer = both (is_id p.file && nat_le 1 p.len) (nat_le (p.from + p.len) (2 ^ 30)) tests.0 in
    let inner = both (is_id p.file) (nat_le 1 p.len) outer.0 in
    let number = both (nat_le 1 p.file) (nat_le p.file (2 ^ 48)) inner.0 in
    every-append IsRanged (spots_from p.file p.from p.len) (spots_of ps)
    (ranged_from p.file p.from p.len (leb-true 1 p.file number.0) (leb-true p.file (2 ^ 48) number.1) (leb-true (p.from + p.len) (2 ^ 30) outer.1))
    (ranged_pieces ps tests.1)

some_pieces : (ps : List Piece) → are_pieces ps ≡ true → list_all is_piece ps ≡ true
some_pieces ps h = let g = both _ _ (both _ _ h).0 in (both (nat_le (length ps) 4096) (list_all is_piece ps) g.0).1

held_all : (p : BlockPair → Bool) (block : ℕ) (ss : List Spot) → list_all p (pairs_at block ss) ≡ true → Every (λ s. p (pair_at block s) ≡ true) ss
held_all p block [] h = tt
held_all p block (s ∷ ss) h = let tests = both (p (pair_at block s)) (list_all p (pairs_at block ss)) h in (tests.0, held_all p block ss tests.1)

ranged_placed : (block : ℕ) (places : List Placed) (ss : List Spot) → Every IsRanged ss → Every (λ s. has_place places (pair_at block s) ≡ true) ss → Every (IsPlace block places) ss
ranged_placed block places [] h k = tt
ranged_placed block places (s ∷ ss) h k = (record { some_file = h.0.some_file; file_limit = h.0.file_limit; place_limit = h.0.place_limit; held = k.0 }, ranged_placed block places ss h.1 k.1)

-- ---- what a change leaves

range_later : (next later blocks : ℕ) → next ≤ later → (places : List Placed) → Every (IsInRange next blocks) places → Every (IsInRange later blocks) places
range_later next later blocks e places h = every-imply (IsInRange next blocks) (IsInRange later blocks) (λ p k. record { known = let less = k.known in omega (arith, less); address = k.address }) places h

settle : (d : Durable Spot) (all : List Placed) (form : ℕ) → Every (IsInRange d.next d.shape.blocks) all → Pairwise OfOtherBlock all → Pairwise AtOtherAddress (still_used d all) → EachPlaced d.shape.block all d.ropes → IsPlaced (record { kept = d; places = still_used d all; form = form; phase = Phase.Later })
settle d all form ranges once differ placed = record {
  ranges = every-filter (IsInRange d.next d.shape.blocks) (λ place. has_pair (used_pairs d) place.pair) all ranges;
  once = pairwise-filter OfOtherBlock (λ place. has_pair (used_pairs d) place.pair) all once;
  differ = differ;
  placed = still_placed d.shape.block (used_pairs d) all d.ropes (each_used d.shape.block d.ropes) placed;
  fresh = tt;
}

-- a change that brings no place
settle_plain : (r : Rebuilt) (next : ℕ) (ropes : List (Live Spot)) (rows : List Row) (moment : ℕ) → IsPlaced r → r.next ≤ next → EachPlaced r.shape.block r.places ropes →
    let d : Durable Spot = record { shape = r.shape; ropes = ropes; rows = rows; moment = moment; next = next } in IsPlaced (record { kept = d; places = still_used d (r.places ++ []); form = r.form; phase = Phase.Later })
settle_plain r next ropes rows moment h e placed =
    let d : Durable Spot = record { shape = r.shape; ropes = ropes; rows = rows; moment = moment; next = next } in
    subst (λ all. IsPlaced (record { kept = d; places = still_used d all; form = r.form; phase = Phase.Later })) (sym (append-nil r.places))
    (settle d r.places r.form (range_later r.next next r.shape.blocks e r.places h.ranges) h.once (pairwise-filter AtOtherAddress (λ place. has_pair (used_pairs d) place.pair) r.places h.differ) placed)

settled_samples : (form now class : ℕ) (b : Bool) (rope : Live Spot) → (cond b (record rope { idle = now; last = cond (form == 2) class rope.last }) rope).samples ≡ rope.samples
settled_samples form now class true rope = refl
settled_samples form now class false rope = refl

settled_placed : (block : ℕ) (places : List Placed) (form now class : ℕ) (before after : List Row) (ropes : List (Live Spot)) → EachPlaced block places ropes → EachPlaced block places (map (settled form now class before after) ropes)
settled_placed block places form now class before after ropes h =
    every-map (λ (rope : Live Spot). Every (IsPlace block places) rope.samples) (λ (rope : Live Spot). Every (IsPlace block places) rope.samples) (settled form now class before after)
    (λ rope k. subst (Every (IsPlace block places)) (sym (settled_samples form now class (has_row before rope.id && not (has_row after rope.id)) rope)) k) ropes h

-- ---- a recording

from_file : (file index : ℕ) (addresses : List ℕ) → Every (λ place. (place.pair.file ≡ file) × (index ≤ place.pair.index)) (placed_from file index addresses)
from_file file index [] = tt
from_file file index (a ∷ rest) = (
  (refl, omega arith),
  every-imply (λ (place : Placed). (place.pair.file ≡ file) × (index + 1 ≤ place.pair.index)) (λ (place : Placed). (place.pair.file ≡ file) × (index ≤ place.pair.index)) (λ place h. let more = h.1 in (h.0, omega (arith, more))) (placed_from file (index + 1) rest) (from_file file (index + 1) rest),
)

index_differs : (p q : Placed) → p.pair.index < q.pair.index → OfOtherBlock p q
index_differs p q less = λ e. let same : p.pair.index ≡ q.pair.index = ap (λ (b : BlockPair). b.index) e in absurd (omega (arith, less, same))

once_from : (file index : ℕ) (addresses : List ℕ) → Pairwise OfOtherBlock (placed_from file index addresses)
once_from file index [] = tt
once_from file index (a ∷ rest) =
    let one : Placed = record { pair = record { file = file; index = index }; address = a } in (
      every-imply (λ (place : Placed). (place.pair.file ≡ file) × (index + 1 ≤ place.pair.index)) (OfOtherBlock one) (λ place h. index_differs one place (let more = h.1 in omega (arith, more))) (placed_from file (index + 1) rest) (from_file file (index + 1) rest),
      once_from file (index + 1) rest,
    )

not_equal : (a b : ℕ) → (a == b) ≡ false → ¬ (a ≡ b)
not_equal a b e = λ h. let yes = eq-eqb a b h in let bad : true ≡ false = sym yes ∙ e in cc

other_addresses : (file index : ℕ) (one : Placed) (rest : List ℕ) → not (among rest one.address) ≡ true → Every (AtOtherAddress one) (placed_from file index rest)
other_addresses file index one [] h = tt
other_addresses file index one (b ∷ rest) h =
    let n = none_of (b == one.address) (among rest one.address) h in
    ((λ e. not_equal b one.address n.0 (sym e)), other_addresses file (index + 1) one rest n.1)

differ_from : (file index : ℕ) (addresses : List ℕ) → all_differ addresses ≡ true → Pairwise AtOtherAddress (placed_from file index addresses)
differ_from file index [] h = tt
differ_from file index (a ∷ rest) h =
    let tests = both (not (among rest a)) (all_differ rest) h in
    (other_addresses file (index + 1) (record { pair = record { file = file; index = index }; address = a }) rest tests.0, differ_from file (index + 1) rest tests.1)

has_from : (file index k : ℕ) (addresses : List ℕ) → index ≤ k → k < index + length addresses → has_place (placed_from file index addresses) (record { file = file; index = k }) ≡ true
has_from file index k [] h e = absurd (omega (arith, h, e))
has_from file index k (a ∷ rest) h e =
    here_or (index == k) refl (λ apart. has_from file (index + 1) k rest (omega (arith, h, apart)) (omega (arith, e)))
  where
    here_or : (b : Bool) → (index == k) ≡ b → (¬ (index ≡ k) → has_place (placed_from file (index + 1) rest) (record { file = file; index = k }) ≡ true) → (((file == file) && (index == k)) || has_place (placed_from file (index + 1) rest) (record { file = file; index = k })) ≡ true
    here_or true f step = or_left ((file == file) && (index == k)) _ (ap (λ b. b && (index == k)) (eq-eqb file file refl) ∙ f)
    here_or false f step = or_right ((file == file) && (index == k)) _ (step (not_equal index k f))

one_more : (m b : ℕ) → (m + 1) * b ≡ m * b + b
one_more m b = grind arith

-- the block of a sample is among the blocks that the samples take
in_blocks : (block len x : ℕ) → 1 ≤ block → x < len → x / block < blocks_for block len
in_blocks block len x h e =
    let down = div-mul-le_self x block in
    let whole = one_more (x / block) block in
    let up = le-div (x / block + 1) (len + (block - 1)) block (omega (arith, h)) (omega (arith, down, whole, h, e)) in
    omega (arith, up)

held_from : (block : ℕ) (places : List Placed) (id from n len : ℕ) (addresses : List ℕ) → 1 ≤ block → length addresses ≡ blocks_for block len → from + n ≤ len → Every (λ s. has_place (places ++ placed_from id 0 addresses) (pair_at block s) ≡ true) (spots_from id from n)
held_from block places id from zero len addresses h e k = tt
held_from block places id from (suc n) len addresses h e k =
    let inside = in_blocks block len from h (omega (arith, k)) in (
      list_any-append (λ (place : Placed). same_pair place.pair (record { file = id; index = from / block })) places (placed_from id 0 addresses) ∙ or_right _ _ (has_from id 0 (from / block) addresses (omega arith) (omega (arith, inside, e))),
      held_from block places id (from + 1) n len addresses h e (omega (arith, k)),
    )

range_from : (next blocks id : ℕ) (free : ℕ → Bool) (index : ℕ) (addresses : List ℕ) → id < next → ((a : ℕ) → free a ≡ true → a < blocks) → list_all free addresses ≡ true → Every (IsInRange next blocks) (placed_from id index addresses)
range_from next blocks id free index [] less step h = tt
range_from next blocks id free index (a ∷ rest) less step h =
    let tests = both (free a) (list_all free rest) h in
    (record { known = less; address = step a tests.0 }, range_from next blocks id free (index + 1) rest less step tests.1)

-- the address of a place that stays is taken
address_here : (keep here : Bool) (place : Placed) (rest : List Placed) (a : ℕ) → (place.address == a) ≡ here → keep ≡ true → has_address (cond keep (place ∷ rest) rest) a ≡ (here || has_address rest a)
address_here true here place rest a e k = ap (λ b. b || has_address rest a) e
address_here false here place rest a e k = cc

address_behind : (keep : Bool) (place : Placed) (rest : List Placed) (a : ℕ) → has_address rest a ≡ true → has_address (cond keep (place ∷ rest) rest) a ≡ true
address_behind true place rest a e = or_right (place.address == a) (has_address rest a) e
address_behind false place rest a e = e

addresses_kept : (p : Placed → Bool) (places : List Placed) → Every (λ x. p x ≡ true → has_address (filter p places) x.address ≡ true) places
addresses_kept p [] = tt
addresses_kept p (place ∷ places) = (
  (λ k. address_here (p place) true place (filter p places) place.address (eq-eqb place.address place.address refl) k),
  every-imply (λ (x : Placed). p x ≡ true → has_address (filter p places) x.address ≡ true) (λ (x : Placed). p x ≡ true → has_address (filter p (place ∷ places)) x.address ≡ true) (λ x h k. address_behind (p place) place (filter p places) x.address (h k)) places (addresses_kept p places),
)

free_of : (places : List Placed) (x : Placed) (file index : ℕ) (free : ℕ → Bool) (addresses : List ℕ) → ((a : ℕ) → free a ≡ true → has_address places a ≡ false) → has_address places x.address ≡ true → list_all free addresses ≡ true → Every (AtOtherAddress x) (placed_from file index addresses)
free_of places x file index free [] step h k = tt
free_of places x file index free (a ∷ rest) step h k =
    let tests = both (free a) (list_all free rest) k in (
      (λ e. let taken = ap (has_address places) (sym e) ∙ h in let bad : true ≡ false = sym taken ∙ step a tests.0 in cc),
      free_of places x file (index + 1) free rest step h tests.1,
    )

not_of_file : (block id from n : ℕ) (q : BlockPair) → q.file < id → has_pair (pairs_at block (spots_from id from n)) q ≡ false
not_of_file block id from zero q h = refl
not_of_file block id from (suc n) q h = ap (λ b. b || has_pair (pairs_at block (spots_from id (from + 1) n)) q) (apart (q.file == id) refl) ∙ not_of_file block id (from + 1) n q h
  where
    apart : (b : Bool) → (q.file == id) ≡ b → ((q.file == id) && (q.index == from / block)) ≡ false
    apart true e = let same = eqb-true q.file id e in absurd (omega (arith, h, same))
    apart false e = ap (λ b. b && (q.index == from / block)) e

all_last : (ropes : List (Live Spot)) (rope : Live Spot) → all_samples (ropes ++ rope ∷ []) ≡ all_samples ropes ++ rope.samples
all_last [] rope = append-nil rope.samples
all_last (first ∷ ropes) rope = ap (λ l. first.samples ++ l) (all_last ropes rope) ∙ sym (append_assoc first.samples (all_samples ropes) rope.samples)

only_before : (a b : Bool) → (a || b) ≡ true → b ≡ false → a ≡ true
only_before true b h e = refl
only_before false b h e = sym (sym h ∙ e)

placed_recording : (r : Rebuilt) (width id len : ℕ) (addresses : List ℕ) → IsPlaced r → may_be_recorded r id len addresses ≡ true → is_recording width id len addresses ≡ true →
    let d = changed r.form r.kept (Recorded id (spots_from id 0 len)) in IsPlaced (record { kept = d; places = still_used d (r.places ++ placed_from id 0 addresses); form = r.form; phase = Phase.Later })
placed_recording r width id len addresses h legal grammar =
    let d = changed r.form r.kept (Recorded id (spots_from id 0 len)) in
    let fresh = placed_from id 0 addresses in
    let rope : Live Spot = record { id = id; samples = spots_from id 0 len; idle = r.moment; last = 0 } in
    let t3 = both _ (list_all (is_free_address r) addresses) legal in
    let t2 = both _ (all_differ addresses) t3.0 in
    let t1 = both (nat_le r.next id) (length addresses == blocks_for r.shape.block len) t2.0 in
    let later = leb-true r.next id t1.0 in
    let count = eqb-true (length addresses) (blocks_for r.shape.block len) t1.1 in
    let g = both (is_id id) (nat_le len (2 ^ 30)) (both _ _ (both _ _ grammar).0).0 in
    let number = both (nat_le 1 id) (nat_le id (2 ^ 48)) g.0 in
    let some = r.shape.conditions.some_block in
    let block_some : 1 ≤ r.shape.block = omega (arith, some) in
    let most = leb-true len (2 ^ 30) g.1 in
    let used : Placed → Bool = λ place. has_pair (used_pairs r.kept) place.pair in
    let used_now : Placed → Bool = λ place. has_pair (used_pairs d) place.pair in
    settle d (r.places ++ fresh) r.form
    (every-append (IsInRange (id + 1) r.shape.blocks) r.places fresh (range_later r.next (id + 1) r.shape.blocks (omega (arith, later)) r.places h.ranges)
    (range_from (id + 1) r.shape.blocks id (is_free_address r) 0 addresses (omega arith) (λ a e. ltb-true a r.shape.blocks (both (nat_lt a r.shape.blocks) (not (has_address (still_used r.kept r.places) a)) e).0) t3.1))
    (pairwise-append OfOtherBlock r.places fresh h.once (once_from id 0 addresses)
    (every-imply (IsInRange r.next r.shape.blocks) (λ p. Every (OfOtherBlock p) fresh)
    (λ p k. every-imply (λ (place : Placed). (place.pair.file ≡ id) × (0 ≤ place.pair.index)) (OfOtherBlock p) (λ q e. λ same. let known = k.known in let file : p.pair.file ≡ q.pair.file = ap (λ (b : BlockPair). b.file) same in let other = e.0 in absurd (omega (arith, known, file, other, later))) fresh (from_file id 0 addresses)) r.places h.ranges))
    (subst (Pairwise AtOtherAddress) (sym (filter-append used_now r.places fresh))
    (pairwise-append AtOtherAddress (filter used_now r.places) (filter used_now fresh) (pairwise-filter AtOtherAddress used_now r.places h.differ) (pairwise-filter AtOtherAddress used_now fresh (differ_from id 0 addresses t2.1))
    (apart_all r id len addresses later t3.1 (filter used_now r.places)
    (every-filter (IsInRange r.next r.shape.blocks) used_now r.places h.ranges)
    (every_passed used_now r.places)
    (every-filter (λ (x : Placed). used x ≡ true → has_address (still_used r.kept r.places) x.address ≡ true) used_now r.places (addresses_kept used r.places)))))
    (every-append (λ (rope : Live Spot). Every (IsPlace r.shape.block (r.places ++ fresh)) rope.samples) r.ropes (rope ∷ []) (place_more r.shape.block r.places fresh r.ropes h.placed)
    (ranged_placed r.shape.block (r.places ++ fresh) (spots_from id 0 len) (ranged_from id 0 len (leb-true 1 id number.0) (leb-true id (2 ^ 48) number.1) (omega (arith, most))) (held_from r.shape.block r.places id 0 len len addresses block_some count (omega arith)), tt))
  where
    apart_all : (r : Rebuilt) (id len : ℕ) (addresses : List ℕ) → r.next ≤ id → list_all (is_free_address r) addresses ≡ true → (xs : List Placed) → Every (IsInRange r.next r.shape.blocks) xs →
        Every (λ x. has_pair (used_pairs (changed r.form r.kept (Recorded id (spots_from id 0 len)))) x.pair ≡ true) xs →
        Every (λ x. has_pair (used_pairs r.kept) x.pair ≡ true → has_address (still_used r.kept r.places) x.address ≡ true) xs →
        Every (λ x. Every (AtOtherAddress x) (filter (λ place. has_pair (used_pairs (changed r.form r.kept (Recorded id (spots_from id 0 len)))) place.pair) (placed_from id 0 addresses))) xs
    apart_all r id len addresses later free [] h k e = tt
    apart_all r id len addresses later free (x ∷ xs) h k e =
        let known = h.0.known in
        let rope : Live Spot = record { id = id; samples = spots_from id 0 len; idle = r.moment; last = 0 } in
        let both_ways = sym (ap (λ l. has_pair (pairs_at r.shape.block l) x.pair) (all_last r.ropes rope) ∙ has_pair-append r.shape.block (all_samples r.ropes) (spots_from id 0 len) x.pair) ∙ k.0 in
        let used : has_pair (used_pairs r.kept) x.pair ≡ true = only_before (has_pair (used_pairs r.kept) x.pair) (has_pair (pairs_at r.shape.block (spots_from id 0 len)) x.pair) both_ways (not_of_file r.shape.block id 0 len x.pair (omega (arith, known, later))) in (
          every-filter (AtOtherAddress x) (λ place. has_pair (used_pairs (changed r.form r.kept (Recorded id (spots_from id 0 len)))) place.pair) (placed_from id 0 addresses)
              (free_of (still_used r.kept r.places) x id 0 (is_free_address r) addresses (λ a f. no (has_address (still_used r.kept r.places) a) (both (nat_lt a r.shape.blocks) (not (has_address (still_used r.kept r.places) a)) f).1) (e.0 used) free),
          apart_all r id len addresses later free xs h.1 k.1 e.1,
        )

-- ---- a file of a base

file_pairs : (file m : ℕ) (pairs : List Pair) → Every (λ (pair : Pair). m < pair.index) pairs → Every (λ (place : Placed). (place.pair.file ≡ file) × (m < place.pair.index)) (map (place_of file) pairs)
file_pairs file m pairs h = every-map (λ (pair : Pair). m < pair.index) (λ (place : Placed). (place.pair.file ≡ file) × (m < place.pair.index)) (place_of file) (λ pair k. (refl, k)) pairs h

rise_tail : (a : ℕ) (rest : List ℕ) → rise (a ∷ rest) ≡ true → rise rest ≡ true
rise_tail a [] h = refl
rise_tail a (b ∷ rest) h = (both (nat_lt a b) (rise (b ∷ rest)) h).1

risen : (low a : ℕ) (pairs : List Pair) → low ≤ a → rise (a ∷ map (λ pair. pair.index) pairs) ≡ true → Every (λ (pair : Pair). low < pair.index) pairs
risen low a [] e h = tt
risen low a (pair ∷ pairs) e h =
    let tests = both (nat_lt a pair.index) (rise (pair.index ∷ map (λ pair. pair.index) pairs)) h in
    let less = ltb-true a pair.index tests.0 in
    (omega (arith, e, less), risen low pair.index pairs (omega (arith, e, less)) tests.1)

once_file : (file : ℕ) (pairs : List Pair) → rise (map (λ pair. pair.index) pairs) ≡ true → Pairwise OfOtherBlock (map (place_of file) pairs)
once_file file [] h = tt
once_file file (pair ∷ pairs) h = (
  every-imply (λ (place : Placed). (place.pair.file ≡ file) × (pair.index < place.pair.index)) (OfOtherBlock (place_of file pair)) (λ place k. index_differs (place_of file pair) place k.1) (map (place_of file) pairs) (file_pairs file pair.index pairs (risen pair.index pair.index pairs (omega arith) h)),
  once_file file pairs (rise_tail pair.index (map (λ pair. pair.index) pairs) h),
)

other_in_file : (file : ℕ) (one : Placed) (pairs : List Pair) → not (among (map (λ pair. pair.address) pairs) one.address) ≡ true → Every (AtOtherAddress one) (map (place_of file) pairs)
other_in_file file one [] h = tt
other_in_file file one (pair ∷ pairs) h =
    let n = none_of (pair.address == one.address) (among (map (λ pair. pair.address) pairs) one.address) h in
    ((λ e. not_equal pair.address one.address n.0 (sym e)), other_in_file file one pairs n.1)

differ_file : (file : ℕ) (pairs : List Pair) → all_differ (map (λ pair. pair.address) pairs) ≡ true → Pairwise AtOtherAddress (map (place_of file) pairs)
differ_file file [] h = tt
differ_file file (pair ∷ pairs) h =
    let tests = both (not (among (map (λ pair. pair.address) pairs) pair.address)) (all_differ (map (λ pair. pair.address) pairs)) h in
    (other_in_file file (place_of file pair) pairs tests.0, differ_file file pairs tests.1)

-- an address that is not among those of places differs from each
apart_from : (places : List Placed) (a : ℕ) → has_address places a ≡ false → Every (λ place. ¬ (place.address ≡ a)) places
apart_from [] a h = tt
apart_from (place ∷ places) a h = let n = none_left (place.address == a) (has_address places a) h in (not_equal place.address a n.0, apart_from places a n.1)
  where
    none_left : (a b : Bool) → (a || b) ≡ false → (a ≡ false) × (b ≡ false)
    none_left true b e = cc
    none_left false b e = (refl, e)

swap_each : (places : List Placed) (file : ℕ) (pairs : List Pair) → Every (λ (pair : Pair). has_address places pair.address ≡ false) pairs → Every (λ place. Every (AtOtherAddress place) (map (place_of file) pairs)) places
swap_each places file [] h = every-always (λ place. Every (AtOtherAddress place) []) (λ place. tt) places
swap_each places file (pair ∷ pairs) h =
    every-both (λ (place : Placed). ¬ (place.address ≡ pair.address)) (λ place. Every (AtOtherAddress place) (map (place_of file) pairs)) places (apart_from places pair.address h.0) (swap_each places file pairs h.1)

files_phase : (p : Phase) (places : List Placed) → takes_files p ≡ true → HasNoPlace p places
files_phase Phase.Begun places h = cc
files_phase Phase.Files places h = tt
files_phase Phase.Ropes places h = tt
files_phase Phase.Later places h = tt

placed_file : (r : Rebuilt) (width file : ℕ) (pairs : List Pair) → IsPlaced r → may_be_file r file pairs ≡ true → is_file width file pairs ≡ true → IsPlaced (record { kept = r.kept; places = r.places ++ map (place_of file) pairs; form = r.form; phase = r.phase })
placed_file r width file pairs h legal grammar =
    let fresh = map (place_of file) pairs in
    let t4 = both _ (list_all (λ pair. nat_lt pair.address r.shape.blocks && not (has_address r.places pair.address)) pairs) legal in
    let t3 = both _ (all_differ (map (λ pair. pair.address) pairs)) t4.0 in
    let t2 = both _ (nat_lt file r.next) t3.0 in
    let t1 = both (takes_files r.phase) (list_all (λ place. nat_lt place.pair.file file) r.places) t2.0 in
    let rising = (both _ (rise (map (λ pair. pair.index) pairs)) grammar).1 in
    let less = ltb-true file r.next t2.1 in
    let each = every_of_all (λ (pair : Pair). nat_lt pair.address r.shape.blocks && not (has_address r.places pair.address)) pairs t4.1 in
    record {
      ranges = every-append (IsInRange r.next r.shape.blocks) r.places fresh h.ranges
          (every-map (λ (pair : Pair). (nat_lt pair.address r.shape.blocks && not (has_address r.places pair.address)) ≡ true) (IsInRange r.next r.shape.blocks) (place_of file) (λ pair e. record { known = less; address = ltb-true pair.address r.shape.blocks (both (nat_lt pair.address r.shape.blocks) (not (has_address r.places pair.address)) e).0 }) pairs each);
      once = pairwise-append OfOtherBlock r.places fresh h.once (once_file file pairs rising)
          (every-imply (λ (place : Placed). nat_lt place.pair.file file ≡ true) (λ p. Every (OfOtherBlock p) fresh)
          (λ p e. every-map (λ (pair : Pair). (nat_lt pair.address r.shape.blocks && not (has_address r.places pair.address)) ≡ true) (OfOtherBlock p) (place_of file) (λ pair k. λ same. let below = ltb-true p.pair.file file e in let equal : p.pair.file ≡ file = ap (λ (b : BlockPair). b.file) same in absurd (omega (arith, below, equal))) pairs each) r.places
          (every_of_all (λ (place : Placed). nat_lt place.pair.file file) r.places t1.1));
      differ = pairwise-append AtOtherAddress r.places fresh h.differ (differ_file file pairs t3.1)
          (swap_each r.places file pairs (every-imply (λ (pair : Pair). (nat_lt pair.address r.shape.blocks && not (has_address r.places pair.address)) ≡ true) (λ (pair : Pair). has_address r.places pair.address ≡ false) (λ pair e. no (has_address r.places pair.address) (both (nat_lt pair.address r.shape.blocks) (not (has_address r.places pair.address)) e).1) pairs each));
      placed = place_more r.shape.block r.places fresh r.ropes h.placed;
      fresh = files_phase r.phase (r.places ++ fresh) t1.0;
    }

-- ---- a rope of a base, and a base

placed_rope : (r : Rebuilt) (id idle last : ℕ) (pieces : List Piece) → IsPlaced r → may_be_rope r id idle pieces ≡ true → are_pieces pieces ≡ true → IsPlaced (acted r (changes.Rope2 id idle last pieces))
placed_rope r id idle last pieces h legal grammar =
    let rope : Live Spot = record { id = id; samples = spots_of pieces; idle = idle; last = last } in
    let tests = both _ (list_all (has_place r.places) (pairs_at r.shape.block (spots_of pieces))) legal in
    record {
      ranges = h.ranges;
      once = h.once;
      differ = h.differ;
      placed = every-append (λ (rope : Live Spot). Every (IsPlace r.shape.block r.places) rope.samples) r.ropes (rope ∷ []) h.placed
          (ranged_placed r.shape.block r.places (spots_of pieces) (ranged_pieces pieces (some_pieces pieces grammar)) (held_all (has_place r.places) r.shape.block (spots_of pieces) tests.1), tt);
      fresh = tt;
    }

no_place : (p : Phase) (places : List Placed) → is_begun p ≡ true → HasNoPlace p places → places ≡ []
no_place Phase.Begun places e h = h
no_place Phase.Files places e h = cc
no_place Phase.Ropes places e h = cc
no_place Phase.Later places e h = cc

placed_base : (r : Rebuilt) (form now next : ℕ) → IsPlaced r → is_begun r.phase ≡ true → IsPlaced (begun r form now next)
placed_base r form now next h e = record {
  ranges = subst (Every (IsInRange next r.shape.blocks)) (sym (no_place r.phase r.places e h.fresh)) tt;
  once = h.once;
  differ = h.differ;
  placed = h.placed;
  fresh = tt;
}

-- ---- a change

pub placed_next : (r : Rebuilt) (c : Change) → IsPlaced r → is_legal r c ≡ true → keeps_grammar c ≡ true → IsPlaced (acted r c)
placed_next r (changes.Recorded id len addresses) h k g = placed_recording r 2 id len addresses h (both (r.form == 1) (may_be_recorded r id len addresses) k).1 g
placed_next r (changes.Wide id len addresses) h k g = placed_recording r 4 id len addresses h (both (r.form == 2) (may_be_recorded r id len addresses) k).1 g
placed_next r (changes.Edited id pieces) h k g =
    let tests = both (nat_le r.next id) (list_all (has_pair (used_pairs r.kept)) (pairs_at r.shape.block (spots_of pieces))) k in
    let grammar = both (is_id id) (are_pieces pieces) g in
    let rope : Live Spot = record { id = id; samples = spots_of pieces; idle = r.moment; last = 0 } in
    let later = leb-true r.next id tests.0 in
    settle_plain r (id + 1) (r.ropes ++ rope ∷ []) r.rows r.moment h (omega (arith, later))
    (every-append (λ (rope : Live Spot). Every (IsPlace r.shape.block r.places) rope.samples) r.ropes (rope ∷ []) h.placed (
      ranged_placed r.shape.block r.places (spots_of pieces) (ranged_pieces pieces (some_pieces pieces grammar.1))
          (every-imply (λ s. has_pair (used_pairs r.kept) (pair_at r.shape.block s) ≡ true) (λ s. has_place r.places (pair_at r.shape.block s) ≡ true) (λ s e. used_placed r.shape.block r.places r.ropes (pair_at r.shape.block s) h.placed e) (spots_of pieces) (held_all (has_pair (used_pairs r.kept)) r.shape.block (spots_of pieces) tests.1)),
      tt,
    ))
placed_next r (changes.Retained class key id note) h k g = settle_plain r r.next r.ropes _ r.moment h (omega arith) h.placed
placed_next r (changes.Forgotten class key) h k g = settle_plain r r.next _ _ r.moment h (omega arith) (settled_placed r.shape.block r.places r.form r.moment _ r.rows _ r.ropes h.placed)
placed_next r (changes.Census keys) h k g = settle_plain r r.next _ _ r.moment h (omega arith) (settled_placed r.shape.block r.places r.form r.moment 3 r.rows _ r.ropes h.placed)
placed_next r (changes.Swept ids) h k g =
    settle_plain r r.next _ _ r.moment h (omega arith)
    (every-filter (λ (rope : Live Spot). Every (IsPlace r.shape.block r.places) rope.samples) (λ rope. not (among ids rope.id)) _ (settled_placed r.shape.block r.places r.form r.moment 2 r.rows _ r.ropes h.placed))
placed_next r (changes.Advanced moment) h k g = settle_plain r r.next r.ropes r.rows moment h (omega arith) h.placed
placed_next r (changes.Base now next) h k g = placed_base r 1 now next h (both (r.form == 1) (is_begun r.phase) k).1
placed_next r (changes.Base2 now next) h k g = placed_base r 2 now next h k
placed_next r (changes.File file pairs) h k g = placed_file r 2 file pairs h (both (r.form == 1) (may_be_file r file pairs) k).1 g
placed_next r (changes.File2 file pairs) h k g = placed_file r 4 file pairs h (both (r.form == 2) (may_be_file r file pairs) k).1 g
placed_next r (changes.Rope id idle pieces) h k g = placed_rope r id idle 0 pieces h (both (r.form == 1) (may_be_rope r id idle pieces) k).1 (both (is_id id && is_moment idle) (are_pieces pieces) g).1
placed_next r (changes.Rope2 id idle last pieces) h k g = placed_rope r id idle last pieces h (both (r.form == 2) (may_be_rope r id idle pieces) k).1 (both (is_id id && is_moment idle && nat_le last 3) (are_pieces pieces) g).1

-- ---- the end

fresh_filter : (p : Phase) (keep : Placed → Bool) (places : List Placed) → HasNoPlace p places → HasNoPlace p (filter keep places)
fresh_filter Phase.Begun keep places h = ap (filter keep) h
fresh_filter Phase.Files keep places h = tt
fresh_filter Phase.Ropes keep places h = tt
fresh_filter Phase.Later keep places h = tt

pub placed_end : (r : Rebuilt) → IsPlaced r → IsPlaced (finished r)
placed_end r h =
    let used : Placed → Bool = λ place. has_pair (used_pairs r.kept) place.pair in
    record {
      ranges = every-filter (IsInRange r.next r.shape.blocks) used r.places h.ranges;
      once = pairwise-filter OfOtherBlock used r.places h.once;
      differ = pairwise-filter AtOtherAddress used r.places h.differ;
      placed = still_placed r.shape.block (used_pairs r.kept) r.places r.ropes (each_used r.shape.block r.ropes) h.placed;
      fresh = fresh_filter r.phase used r.places h.fresh;
    }

pub used_end : (r : Rebuilt) → AllUsed (finished r)
used_end r = every_passed (λ (place : Placed). has_pair (used_pairs r.kept) place.pair) r.places

pub placed_first : (shape : Shape) → IsPlaced (nothing_rebuilt shape)
placed_first shape = record { ranges = tt; once = tt; differ = tt; placed = tt; fresh = refl }

legal_or : (b : Bool) (o : Option Rebuilt) (end : Rebuilt) → if_legal b o ≡ Some end → (b ≡ true) × (o ≡ Some end)
legal_or true o end h = (refl, h)
legal_or false o end h = cc

some_same : (a b : Rebuilt) → Some a ≡ Some b → a ≡ b
some_same a b e = cc

-- what changes rebuild
pub record Settled (r : Rebuilt) : Type 0 where
  pub placed : IsPlaced r
  pub used : AllUsed r

pub placed_all : (r : Rebuilt) (cs : List Change) (end : Rebuilt) → IsPlaced r → Every (λ c. keeps_grammar c ≡ true) cs → rebuilt r cs ≡ Some end → Settled end
placed_all r [] end h g e = subst Settled (some_same (finished r) end e) (record { placed = placed_end r h; used = used_end r })
placed_all r (c ∷ cs) end h g e =
    let k = legal_or (is_legal r c) (rebuilt (acted r c) cs) end e in
    placed_all (acted r c) cs end (placed_next r c h k.0 g.0) g.1 k.1
