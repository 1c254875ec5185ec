-- Each change of a base keeps the grammar, so that it is read again.
use Rattle.std.proofs.Common.{◌≡◌, ℕ, zero, suc, ◌+◌, ◌≤◌, ◌<◌, ◌^◌, inl, inr, ◌==◌, Bool, true, false, cond, not, ◌&&◌, ◌||◌, nat_lt, List, [], ◌∷◌, ◌++◌, map, length, Some, refl, sym, ◌∙◌, ap, subst, arith}
use Rattle.std.proofs.lemmas.Bool.{ltb-true, lt-ltb, le-leb, eqb-true, eq-eqb}
use Rattle.std.proofs.Math.Nat.{div-le_self}
use Rattle.std.specs.Prelude.{is_some, nat_le}
use Rattle.std.specs.List.{list_all}
use Rattle.voice_units.specs.declared.shapes.Shape.{Shape}
use Rattle.voice_units.specs.declared.pieces.Piece.{Piece}
use Rattle.voice_units.specs.Layout.{most_blocks}
use Rattle.voice_units.specs.Spots.{Spot, spots_from, spots_of, pieces_of, nowhere, samples_in, IsNormal}
use Rattle.voice_units.specs.Blocks.{BlockPair, has_pair, same_pair, pair_at, pairs_at}
use Rattle.voice_units.proofs.PiecesOfRopes.{both, spots_of-runs, normal}
use Rattle.voice_units.proofs.Counts.{samples_in_runs}
use Rattle.voice_units.proofs.Distinct.{same_pair-true}
use Rattle.voice_model.specs.Samples.{Tagged, spot_of}
use Rattle.voice_model.specs.State.{Live, is_live, rope_at}
use Rattle.voice_model.specs.Spelling.{keeps_grammar, is_id, is_moment, is_next, fits, is_piece, are_pieces, are_apart, is_file, is_key, is_note, rise}
use Rattle.voice_model.specs.Replay.{Placed, Rebuilt, used_pairs, live_by}
use Rattle.voice_model.specs.Base.{FileBlocks, by_file, in_order, file_change, rope_change, row_change, base_of}
use Rattle.voice_model.specs.Valid.{Every, Rising, IsRope, IsRow, IsRebuilt}
use Rattle.voice_model.specs.Places.{IsPlace, EachPlaced, IsInRange, IsPlaced, AllUsed, CanBeSpelled, ReadsBack}
use Rattle.voice_model.specs.declared.lists.Pair.{Pair}
use Rattle.voice_model.specs.declared.changes.Change.TheVariants as changes
use Rattle.voice_model.specs.declared.calls.Row.{Row}
use Rattle.voice_model.proofs.KeptByChanges.{every-append, every-imply, every-map}
use Rattle.voice_model.proofs.StatesOfReplay.{spots_again, map_length}
use Rattle.voice_model.proofs.Order.{every-split, every-both, every_ordered, address_ordered, sorted}
use Rattle.voice_model.proofs.PlacesKept.{all_samples, has_pair-append}
use Rattle.voice_model.proofs.BaseFiles.{every_file, every_pair, some_pairs, indices_rise}
use Rattle.voice_model.proofs.BaseReadAgain.{ids_below, rows_of, end_of, base_replayed, recovered_again}

join : (a b : Bool) → a ≡ true → b ≡ true → (a && b) ≡ true
join a b h k = ap (λ x. x && b) h ∙ k

or_cases : (a b : Bool) {P : Type 0} → (a ≡ true → P) → (b ≡ true → P) → (a || b) ≡ true → P
or_cases true b f g e = f refl
or_cases false b f g e = g e

id_test : (n : ℕ) → 1 ≤ n → n ≤ 2 ^ 48 → is_id n ≡ true
id_test n h k = join (nat_le 1 n) (nat_le n (2 ^ 48)) (le-leb 1 n h) (le-leb n (2 ^ 48) k)

-- ---- blocks that are used

record IsBlock (q : BlockPair) : Type 0 where
  some_file : 1 ≤ q.file
  file_limit : q.file ≤ 2 ^ 48
  index_limit : q.index < 2 ^ 30

block_of : (block : ℕ) (places : List Placed) (s : Spot) → IsPlace block places s → IsBlock (pair_at block s)
block_of block places s h = let down = div-le_self s.place block in let most = h.place_limit in record { some_file = h.some_file; file_limit = h.file_limit; index_limit = omega (arith, down, most) }

sample_block : (block : ℕ) (places : List Placed) (ss : List Spot) (q : BlockPair) → Every (IsPlace block places) ss → has_pair (pairs_at block ss) q ≡ true → IsBlock q
sample_block block places [] q h e = cc
sample_block block places (s ∷ ss) q h e =
    or_cases (same_pair q (pair_at block s)) (has_pair (pairs_at block ss) q) (λ k. subst IsBlock (sym (same_pair-true q (pair_at block s) k)) (block_of block places s h.0)) (λ k. sample_block block places ss q h.1 k) e

used_block : (block : ℕ) (places : List Placed) (ropes : List (Live Spot)) (q : BlockPair) → EachPlaced block places ropes → has_pair (pairs_at block (all_samples ropes)) q ≡ true → IsBlock q
used_block block places [] q h e = cc
used_block block places (rope ∷ ropes) q h e =
    or_cases (has_pair (pairs_at block rope.samples) q) (has_pair (pairs_at block (all_samples ropes)) q) (sample_block block places rope.samples q h.0) (used_block block places ropes q h.1)
    (sym (has_pair-append block rope.samples (all_samples ropes) q) ∙ e)

-- ---- files

rise_count : (most a : ℕ) (pairs : List Pair) → a < most → Every (λ (pair : Pair). pair.index < most) pairs → rise (a ∷ map (λ pair. pair.index) pairs) ≡ true → length pairs + a < most
rise_count most a [] h k e = omega (arith, h)
rise_count most a (pair ∷ pairs) h k e =
    let tests = both (nat_lt a pair.index) (rise (pair.index ∷ map (λ pair. pair.index) pairs)) e in
    let less = ltb-true a pair.index tests.0 in
    let rest = rise_count most pair.index pairs k.0 k.1 tests.1 in
    omega (arith, less, rest)

pair_count : (most : ℕ) (pairs : List Pair) → Every (λ (pair : Pair). pair.index < most) pairs → rise (map (λ pair. pair.index) pairs) ≡ true → length pairs ≤ most
pair_count most [] k e = omega arith
pair_count most (pair ∷ pairs) k e = let rest = rise_count most pair.index pairs k.0 k.1 e in omega (arith, rest)

pairs_test : (width : ℕ) (pairs : List Pair) → Every (λ (pair : Pair). pair.index < 2 ^ 30) pairs → Every (λ (pair : Pair). pair.address < 256 ^ width) pairs → list_all (λ pair. fits 4 pair.index && fits width pair.address) pairs ≡ true
pairs_test width [] h k = refl
pairs_test width (pair ∷ pairs) h k =
    let small = h.0 in
    join (fits 4 pair.index && fits width pair.address) (list_all (λ pair. fits 4 pair.index && fits width pair.address) pairs)
    (join (fits 4 pair.index) (fits width pair.address) (lt-ltb pair.index (256 ^ 4) (omega (arith, small))) (lt-ltb pair.address (256 ^ width) k.0))
    (pairs_test width pairs h.1 k.1)

record IsGoodFile (width : ℕ) (f : FileBlocks) : Type 0 where
  number : (1 ≤ f.file) × (f.file ≤ 2 ^ 48)
  some : 1 ≤ length f.pairs
  indices : Every (λ (pair : Pair). pair.index < 2 ^ 30) f.pairs
  addresses : Every (λ (pair : Pair). pair.address < 256 ^ width) f.pairs
  rises : rise (map (λ pair. pair.index) f.pairs) ≡ true

file_test : (width : ℕ) (f : FileBlocks) → IsGoodFile width f → is_file width f.file f.pairs ≡ true
file_test width f h =
    let count = pair_count (2 ^ 30) f.pairs h.indices h.rises in
    join _ _
    (join _ _ (join _ _ (join (is_id f.file) (nat_le 1 (length f.pairs)) (id_test f.file h.number.0 h.number.1) (le-leb 1 (length f.pairs) h.some)) (lt-ltb (length f.pairs) (256 ^ 4) (omega (arith, count)))) (pairs_test width f.pairs h.indices h.addresses))
    h.rises

file_keeps : (b : Bool) (f : FileBlocks) → IsGoodFile (cond b 4 2) f → keeps_grammar (cond b (changes.File2 f.file f.pairs) (changes.File f.file f.pairs)) ≡ true
file_keeps true f h = file_test 4 f h
file_keeps false f h = file_test 2 f h

most_by : (b : Bool) → cond {A = ℕ} b 65535 1048576 ≤ 1048576
most_by true = omega arith
most_by false = omega arith

small_wide : (shape : Shape) (a : ℕ) → a < shape.blocks → a < 256 ^ 4
small_wide shape a h = let limit = shape.conditions.blocks_limit in let most = most_by (shape.version == 1) in omega (arith, h, limit, most)

small_narrow : (shape : Shape) (a : ℕ) → shape.version ≡ 1 → a < shape.blocks → a < 256 ^ 2
small_narrow shape a e h = let limit = subst (λ v. shape.blocks ≤ most_blocks v) e shape.conditions.blocks_limit in omega (arith, h, limit)

address_small : (b : Bool) (form : ℕ) (r : Rebuilt) (a : ℕ) → (form == 2) ≡ b → CanBeSpelled form r → a < r.shape.blocks → a < 256 ^ cond {A = ℕ} b 4 2
address_small true form r a e can h = small_wide r.shape a h
address_small false form r a e (inl two) h = let yes = eq-eqb form 2 two in let bad : true ≡ false = sym yes ∙ e in cc
address_small false form r a e (inr one) h = small_narrow r.shape a one.1 h

good_files : (width : ℕ) (fs : List FileBlocks) → Every (λ (f : FileBlocks). (1 ≤ f.file) × (f.file ≤ 2 ^ 48)) fs → Every (λ (f : FileBlocks). 1 ≤ length f.pairs) fs → Every (λ (f : FileBlocks). Every (λ (pair : Pair). (pair.index < 2 ^ 30) × (pair.address < 256 ^ width)) f.pairs) fs → Every (λ (f : FileBlocks). rise (map (λ pair. pair.index) f.pairs) ≡ true) fs → Every (IsGoodFile width) fs
good_files width [] h k e g = tt
good_files width (f ∷ fs) h k e g = (
  record {
    number = h.0;
    some = k.0;
    indices = every-imply (λ (pair : Pair). (pair.index < 2 ^ 30) × (pair.address < 256 ^ width)) (λ (pair : Pair). pair.index < 2 ^ 30) (λ pair q. q.0) f.pairs e.0;
    addresses = every-imply (λ (pair : Pair). (pair.index < 2 ^ 30) × (pair.address < 256 ^ width)) (λ (pair : Pair). pair.address < 256 ^ width) (λ pair q. q.1) f.pairs e.0;
    rises = g.0;
  },
  good_files width fs h.1 k.1 e.1 g.1,
)

files_keep : (form : ℕ) (r : Rebuilt) → IsPlaced r → AllUsed r → CanBeSpelled form r → Every (λ c. keeps_grammar c ≡ true) (map (file_change form) (by_file (in_order r.places)))
files_keep form r placed used can =
    let places = in_order r.places in
    let width : ℕ = cond (form == 2) 4 2 in
    let blocks = every-imply (λ (p : Placed). has_pair (used_pairs r.kept) p.pair ≡ true) (λ (p : Placed). IsBlock p.pair) (λ p e. used_block r.shape.block r.places r.ropes p.pair placed.placed e) places (every_ordered (λ (p : Placed). has_pair (used_pairs r.kept) p.pair ≡ true) r.places used) in
    let ranges = every_ordered (IsInRange r.next r.shape.blocks) r.places placed.ranges in
    every-map (IsGoodFile width) (λ c. keeps_grammar c ≡ true) (file_change form) (λ f h. file_keeps (form == 2) f h) (by_file places)
    (good_files width (by_file places)
    (every_file (λ n. (1 ≤ n) × (n ≤ 2 ^ 48)) places (every-imply (λ (p : Placed). IsBlock p.pair) (λ (p : Placed). (1 ≤ p.pair.file) × (p.pair.file ≤ 2 ^ 48)) (λ p h. (h.some_file, h.file_limit)) places blocks))
    (some_pairs places)
    (every_pair (λ n pair. (pair.index < 2 ^ 30) × (pair.address < 256 ^ width)) places
    (every-imply (λ (p : Placed). IsBlock p.pair × IsInRange r.next r.shape.blocks p) (λ (p : Placed). (p.pair.index < 2 ^ 30) × (p.address < 256 ^ width)) (λ p h. (h.0.index_limit, address_small (form == 2) form r p.address refl can h.1.address)) places (every-both (λ (p : Placed). IsBlock p.pair) (IsInRange r.next r.shape.blocks) places blocks ranges)))
    (indices_rise places (sorted r.places placed.once)))

-- ---- ropes

record IsRanged (s : Spot) : Type 0 where
  some_file : 1 ≤ s.file
  file_limit : s.file ≤ 2 ^ 48
  place_limit : s.place < 2 ^ 30

last_ranged : (file from n : ℕ) → Every IsRanged (spots_from file from (suc n)) → from + suc n ≤ 2 ^ 30
last_ranged file from zero h = let most = h.0.place_limit in omega (arith, most)
last_ranged file from (suc n) h = let rest = last_ranged file (from + 1) n h.1 in omega (arith, rest)

piece_test : (file from len : ℕ) → 1 ≤ len → Every IsRanged (spots_from file from len) → is_piece (record { file = file; from = from; len = len }) ≡ true
piece_test file from zero some h = absurd (omega (arith, some))
piece_test file from (suc n) some h =
    join (is_id file && nat_le 1 (suc n)) (nat_le (from + suc n) (2 ^ 30))
    (join (is_id file) (nat_le 1 (suc n)) (id_test file h.0.some_file h.0.file_limit) (le-leb 1 (suc n) some))
    (le-leb (from + suc n) (2 ^ 30) (last_ranged file from n h))

each_piece : (ps : List Piece) → IsNormal ps → Every IsRanged (spots_of ps) → list_all is_piece ps ≡ true
each_piece [] h k = refl
each_piece (p ∷ []) h k = let own = every-split IsRanged (spots_from p.file p.from p.len) [] k in join (is_piece p) true (piece_test p.file p.from p.len h own.0) refl
each_piece (p ∷ q ∷ ps) h k =
    let own = every-split IsRanged (spots_from p.file p.from p.len) (spots_of (q ∷ ps)) k in
    join (is_piece p) (list_all is_piece (q ∷ ps)) (piece_test p.file p.from p.len h.0 own.0) (each_piece (q ∷ ps) h.2 own.1)

apart_test : (ps : List Piece) → IsNormal ps → are_apart ps ≡ true
apart_test [] h = refl
apart_test (p ∷ []) h = refl
apart_test (p ∷ q ∷ ps) h =
    join (not ((p.file == q.file) && (p.from + p.len == q.from))) (are_apart (q ∷ ps))
    (not_both (p.file == q.file) (p.from + p.len == q.from) (λ e f. h.1 (eqb-true p.file q.file e, eqb-true (p.from + p.len) q.from f)))
    (apart_test (q ∷ ps) h.2)
  where
    not_both : (a b : Bool) → (a ≡ true → b ≡ true → ⊥) → not (a && b) ≡ true
    not_both true true h = absurd (h refl refl)
    not_both true false h = refl
    not_both false b h = refl

pieces_test : (f : Spot → Tagged) → ((s : Spot) → spot_of (f s) ≡ s) → (form moment : ℕ) (rope : Live Spot) → IsRope form moment (live_by f rope) → Every IsRanged rope.samples → are_pieces (pieces_of rope.samples) ≡ true
pieces_test f same form moment rope h k =
    let ps = pieces_of rope.samples in
    let many = subst (λ ss. length (pieces_of ss) ≤ 4096) (spots_again f same rope.samples) h.many in
    let count = samples_in_runs nowhere rope.samples in
    let long = map_length f same rope.samples in
    let most = h.long in
    join _ _
    (join _ _ (join (nat_le (length ps) 4096) (list_all is_piece ps) (le-leb (length ps) 4096 many) (each_piece ps (normal rope.samples) (subst (Every IsRanged) (sym (spots_of-runs nowhere rope.samples)) k)))
    (le-leb (samples_in ps) (2 ^ 30) (omega (arith, count, long, most))))
    (apart_test ps (normal rope.samples))

rope_keeps : (b : Bool) (rope : Live Spot) → is_id rope.id ≡ true → is_moment rope.idle ≡ true → nat_le rope.last 3 ≡ true → are_pieces (pieces_of rope.samples) ≡ true → keeps_grammar (cond b (changes.Rope2 rope.id rope.idle rope.last (pieces_of rope.samples)) (changes.Rope rope.id rope.idle (pieces_of rope.samples))) ≡ true
rope_keeps true rope h k e g = join _ _ (join _ _ (join (is_id rope.id) (is_moment rope.idle) h k) e) g
rope_keeps false rope h k e g = join _ _ (join (is_id rope.id) (is_moment rope.idle) h k) g

ropes_keep : (f : Spot → Tagged) → ((s : Spot) → spot_of (f s) ≡ s) → (form : ℕ) (r : Rebuilt) (ropes : List (Live Spot)) → r.next ≤ 2 ^ 48 + 1 → r.moment ≤ 2 ^ 40 → Every (λ (rope : Live Spot). (1 ≤ rope.id) × (rope.id < r.next)) ropes → Every (IsRope r.form r.moment) (map (live_by f) ropes) → EachPlaced r.shape.block r.places ropes → Every (λ c. keeps_grammar c ≡ true) (map (rope_change form) ropes)
ropes_keep f same form r [] next moment h k e = tt
ropes_keep f same form r (rope ∷ ropes) next moment h k e =
    let low = h.0.0 in
    let high = h.0.1 in
    let idle = k.0.idle in (
      rope_keeps (form == 2) rope (id_test rope.id low (omega (arith, high, next))) (le-leb rope.idle (2 ^ 40) (omega (arith, idle, moment))) (le-leb rope.last 3 k.0.last)
          (pieces_test f same r.form r.moment rope k.0 (every-imply (IsPlace r.shape.block r.places) IsRanged (λ s p. record { some_file = p.some_file; file_limit = p.file_limit; place_limit = p.place_limit }) rope.samples e.0)),
      ropes_keep f same form r ropes next moment h.1 k.1 e.1,
    )

-- ---- rows

live_number : (next : ℕ) (ropes : List (Live Spot)) (id : ℕ) → Every (λ (rope : Live Spot). (1 ≤ rope.id) × (rope.id < next)) ropes → is_live ropes id ≡ true → (1 ≤ id) × (id < next)
live_number next [] id h e = cc
live_number next (rope ∷ ropes) id h e = by_number (rope.id == id) refl (live_number next ropes id h.1) e
  where
    by_number : (b : Bool) → (rope.id == id) ≡ b → (is_live ropes id ≡ true → (1 ≤ id) × (id < next)) → is_some (cond b (Some rope) (rope_at ropes id)) ≡ true → (1 ≤ id) × (id < next)
    by_number true f step k = subst (λ n. (1 ≤ n) × (n < next)) (eqb-true rope.id id f) h.0
    by_number false f step k = step k

rows_keep : (r : Rebuilt) (f : Spot → Tagged) (rows : List Row) → r.next ≤ 2 ^ 48 + 1 → Every (λ (rope : Live Spot). (1 ≤ rope.id) × (rope.id < r.next)) r.ropes → Every (IsRow (map (live_by f) r.ropes)) rows → Every (λ (row : Row). is_live r.ropes row.rope ≡ true) rows → Every (λ c. keeps_grammar c ≡ true) (map row_change rows)
rows_keep r f [] next h k e = tt
rows_keep r f (row ∷ rows) next h k e =
    let number = live_number r.next r.ropes row.rope h e.0 in
    let high = number.1 in (
      join (is_key row.key && is_id row.rope) (is_note row.class row.note) (join (is_key row.key) (is_id row.rope) k.0.key (id_test row.rope number.0 (omega (arith, high, next)))) k.0.note,
      rows_keep r f rows next h k.1 e.1,
    )

-- ---- all of it

rising_end : (f : Spot → Tagged) (low : ℕ) (ropes : List (Live Spot)) (next : ℕ) → Rising low (map (live_by f) ropes) next → low ≤ next
rising_end f low [] next h = h
rising_end f low (rope ∷ ropes) next h = let first = h.0 in let rest = rising_end f (rope.id + 1) ropes next h.1 in omega (arith, first, rest)

head_keeps : (b : Bool) (moment next : ℕ) → (is_moment moment && is_next next) ≡ true → keeps_grammar (cond b (changes.Base2 moment next) (changes.Base moment next)) ≡ true
head_keeps true moment next h = h
head_keeps false moment next h = h

pub base_keeps : (f : Spot → Tagged) → ((s : Spot) → spot_of (f s) ≡ s) → (form : ℕ) (r : Rebuilt) → IsRebuilt f r → IsPlaced r → AllUsed r → CanBeSpelled form r → Every (λ c. keeps_grammar c ≡ true) (base_of form r)
base_keeps f same form r h placed used can =
    let files = map (file_change form) (by_file (in_order r.places)) in
    let ropes = map (rope_change form) r.ropes in
    let rows = map row_change r.rows in
    let ids = ids_below f r.ropes r.next h.kept.rising in
    let moment = h.kept.moment_limit in
    let next = h.kept.next_limit in
    let least = rising_end f 1 r.ropes r.next h.kept.rising in (
      head_keeps (form == 2) r.moment r.next (join (is_moment r.moment) (is_next r.next) (le-leb r.moment (2 ^ 40) moment) (join (nat_le 1 r.next) (nat_le r.next (2 ^ 48 + 1)) (le-leb 1 r.next least) (le-leb r.next (2 ^ 48 + 1) next))),
      every-append (λ c. keeps_grammar c ≡ true) (files ++ ropes) rows
          (every-append (λ c. keeps_grammar c ≡ true) files ropes (files_keep form r placed used can) (ropes_keep f same form r r.ropes next moment ids h.kept.each_rope placed.placed))
          (rows_keep r f r.rows next ids h.kept.each_row (rows_of f same r.ropes r.rows h.kept.each_row)),
    )

pub reads_back : (f : Spot → Tagged) → ((s : Spot) → spot_of (f s) ≡ s) → (form : ℕ) (r : Rebuilt) → IsRebuilt f r → IsPlaced r → AllUsed r → CanBeSpelled form r → ReadsBack form r
reads_back f same form r h placed used can = record {
  end = end_of form r;
  reads = base_replayed f same form r h placed used can;
  grammar = base_keeps f same form r h placed used can;
  same = refl;
  in_form = refl;
  places = refl;
  addresses = λ pair. address_ordered r.places pair placed.once;
  recovers = λ image. recovered_again image form r placed.once;
}
