-- The changes of ropes that come next keep the grammar.
use Rattle.std.proofs.Common.{◌≡◌, ℕ, zero, suc, ◌+◌, ◌-◌, ◌*◌, ◌/◌, ◌≤◌, ◌<◌, ◌==◌, ◌^◌, Bool, true, false, cond, not, ◌&&◌, ◌||◌, nat_lt, List, [], ◌∷◌, ◌++◌, length, refl, sym, ◌∙◌, ap, subst, arith}
use Rattle.std.specs.Prelude.{nat_le}
use Rattle.std.specs.List.{list_all}
use Rattle.std.proofs.lemmas.Bool.{eqb-true, eq-eqb, le-leb, ltb-true}
use Rattle.std.proofs.Math.Nat.{div-mul-le_self}
use Rattle.voice_units.specs.declared.pieces.Piece.{Piece}
use Rattle.voice_units.specs.Layout.{most_blocks}
use Rattle.voice_units.specs.Spots.{Spot, spots_of, spots_in, samples_in, IsNormal}
use Rattle.voice_units.specs.Blocks.{BlockPair, has_pair, pairs_at, pair_at, same_pair, blocks_for}
use Rattle.voice_units.proofs.Distinct.{same_pair-true}
use Rattle.voice_units.proofs.PiecesOfRopes.{both}
use Rattle.voice_model.specs.State.{Live}
use Rattle.voice_model.specs.Replay.{Placed, Rebuilt, used_pairs}
use Rattle.voice_model.specs.Spelling.{keeps_grammar, is_id, is_piece, are_pieces, are_apart, is_recording, fits}
use Rattle.voice_model.specs.Valid.{Every, Rising, IsRebuilt}
use Rattle.voice_model.specs.Places.{IsPlace, IsPlaced, EachPlaced}
use Rattle.voice_model.specs.declared.changes.Change.TheVariants as changes
use Rattle.voice_model.proofs.PlacesKept.{all_samples, has_pair-append}
use Rattle.voice_blocks.specs.Holders.{Holders}
use Rattle.rope_algebra.specs.Kept.{LieInFiles, IsRope}
use Rattle.recovery.specs.Shown.{plain_sample}
use Rattle.recovery.specs.Placing.{is_open}
use Rattle.recovery.proofs.Rebuilding.{orderly_rebuilt, is_below}
use Rattle.next_ropes.specs.Ready.{recorded_change}

join : (a b : Bool) → a ≡ true → b ≡ true → (a && b) ≡ true
join a b e f = ap (λ x. x && b) e ∙ f

id_test : (n : ℕ) → 1 ≤ n → n ≤ 2 ^ 48 → is_id n ≡ true
id_test n low high = join (nat_le 1 n) (nat_le n (2 ^ 48)) (le-leb 1 n low) (le-leb n (2 ^ 48) high)

-- ---- numbers

rising_end : (low : ℕ) (ropes : List (Live Spot)) (next : ℕ) → Rising low ropes next → low ≤ next
rising_end low [] next h = h
rising_end low (rope ∷ ropes) next h = let first = h.0 in let rest = rising_end (rope.id + 1) ropes next h.1 in omega (arith, first, rest)

-- the next number is that of a rope
pub next_number : (b : Rebuilt) → IsRebuilt plain_sample b → b.next ≤ 2 ^ 48 → is_id b.next ≡ true
next_number b valid high = id_test b.next (rising_end 1 b.ropes b.next (orderly_rebuilt b valid).rising) high

-- ---- files of blocks in use

or_cases : (a b : Bool) {P : Type 0} → (a ≡ true → P) → (b ≡ true → P) → (a || b) ≡ true → P
or_cases true b f g e = f refl
or_cases false b f g e = g e

file_of_sample : (block : ℕ) (places : List Placed) (ss : List Spot) (q : BlockPair) → Every (IsPlace block places) ss → has_pair (pairs_at block ss) q ≡ true → is_id q.file ≡ true
file_of_sample block places [] q h e = cc
file_of_sample block places (s ∷ ss) q h e =
    or_cases (same_pair q (pair_at block s)) (has_pair (pairs_at block ss) q)
    (λ k. ap (λ (p : BlockPair). is_id p.file) (same_pair-true q (pair_at block s) k) ∙ id_test s.file h.0.some_file h.0.file_limit)
    (λ k. file_of_sample block places ss q h.1 k) e

file_of_rope : (block : ℕ) (places : List Placed) (ropes : List (Live Spot)) (q : BlockPair) → EachPlaced block places ropes → has_pair (pairs_at block (all_samples ropes)) q ≡ true → is_id q.file ≡ true
file_of_rope block places [] q h e = cc
file_of_rope block places (rope ∷ ropes) q h e =
    or_cases (has_pair (pairs_at block rope.samples) q) (has_pair (pairs_at block (all_samples ropes)) q) (λ k. file_of_sample block places rope.samples q h.0 k) (λ k. file_of_rope block places ropes q h.1 k)
    (sym (has_pair-append block rope.samples (all_samples ropes) q) ∙ e)

pub file_of_used : (b : Rebuilt) (q : BlockPair) → IsPlaced b → has_pair (used_pairs b.kept) q ≡ true → is_id q.file ≡ true
file_of_used b q h e = file_of_rope b.shape.block b.places b.ropes q h.placed e

-- ---- pieces of blocks in use

apart_test : (ps : List Piece) → IsNormal ps → are_apart ps ≡ true
apart_test [] h = refl
apart_test (p ∷ []) h = refl
apart_test (p ∷ q ∷ ps) h =
    join (not ((p.file == q.file) && (p.from + p.len == q.from))) (are_apart (q ∷ ps))
    (not_both (p.file == q.file) (p.from + p.len == q.from) (λ e f. h.1 (eqb-true p.file q.file e, eqb-true (p.from + p.len) q.from f)))
    (apart_test (q ∷ ps) h.2)
  where
    not_both : (a b : Bool) → (a ≡ true → b ≡ true → ⊥) → not (a && b) ≡ true
    not_both true true h = absurd (h refl refl)
    not_both true false h = refl
    not_both false b h = refl

module _ (block : ℕ) (used : List BlockPair) (files : (q : BlockPair) → has_pair used q ≡ true → is_id q.file ≡ true) where
  -- a piece that is not empty names a sample of its file
  first_file : (file from len : ℕ) (more : List Spot) → 1 ≤ len → ((q : BlockPair) → has_pair (pairs_at block (spots_in (record { file = file; from = from; len = len }) ++ more)) q ≡ true → has_pair used q ≡ true) → is_id file ≡ true
  first_file file from zero more some h = absurd (omega (arith, some))
  first_file file from (suc n) more some h = files (record { file = file; index = from / block }) (h (record { file = file; index = from / block }) (here file (from / block) _))
    where
      here : (file index : ℕ) (rest : Bool) → (((file == file) && (index == index)) || rest) ≡ true
      here file index rest = ap (λ b. (b && (index == index)) || rest) (eq-eqb file file refl) ∙ ap (λ b. b || rest) (eq-eqb index index refl)

  piece : (p : Piece) (more : List Spot) → 1 ≤ p.len → p.from + p.len ≤ 2 ^ 30 → ((q : BlockPair) → has_pair (pairs_at block (spots_in p ++ more)) q ≡ true → has_pair used q ≡ true) → is_piece p ≡ true
  piece p more some end h =
      join (is_id p.file && nat_le 1 p.len) (nat_le (p.from + p.len) (2 ^ 30))
      (join (is_id p.file) (nat_le 1 p.len) (first_file p.file p.from p.len more some h) (le-leb 1 p.len some))
      (le-leb (p.from + p.len) (2 ^ 30) end)

  each_piece : (ps : List Piece) → IsNormal ps → LieInFiles ps → ((q : BlockPair) → has_pair (pairs_at block (spots_of ps)) q ≡ true → has_pair used q ≡ true) → list_all is_piece ps ≡ true
  each_piece [] h ends k = refl
  each_piece (p ∷ []) h ends k = join (is_piece p) true (piece p [] h ends.0 k) refl
  each_piece (p ∷ q ∷ ps) h ends k =
      join (is_piece p) (list_all is_piece (q ∷ ps)) (piece p (spots_of (q ∷ ps)) h.0 ends.0 k)
      (each_piece (q ∷ ps) h.2 ends.1 (λ pair e. k pair (has_pair-append block (spots_in p) (spots_of (q ∷ ps)) pair ∙ or_right (has_pair (pairs_at block (spots_in p)) pair) _ e)))
    where
      or_right : (a b : Bool) → b ≡ true → (a || b) ≡ true
      or_right true b e = refl
      or_right false b e = e

-- pieces of blocks in use, as an edit makes them
pub edit_spelled : (b : Rebuilt) (ps : List Piece) → IsRebuilt plain_sample b → IsPlaced b → b.next ≤ 2 ^ 48 → IsRope ps → length ps ≤ 4096 → samples_in ps ≤ 2 ^ 30
    → ((q : BlockPair) → has_pair (pairs_at b.shape.block (spots_of ps)) q ≡ true → has_pair (used_pairs b.kept) q ≡ true) → keeps_grammar (changes.Edited b.next ps) ≡ true
edit_spelled b ps valid placed high rope many long used =
    join (is_id b.next) (are_pieces ps) (next_number b valid high)
    (join _ _
    (join _ _ (join (nat_le (length ps) 4096) (list_all is_piece ps) (le-leb (length ps) 4096 many) (each_piece b.shape.block (used_pairs b.kept) (λ q e. file_of_used b q placed e) ps rope.normal rope.ends used))
    (le-leb (samples_in ps) (2 ^ 30) long))
    (apart_test ps rope.normal))

-- ---- a recording

few_needed : (block len : ℕ) → 8 ≤ block → block ≤ 8192 → len ≤ 2 ^ 30 → blocks_for block len < 2 ^ 32
few_needed block len some most long =
    let down = div-mul-le_self (len + (block - 1)) block in
    let times : blocks_for block len ≤ blocks_for block len * block = grind (arith, some) in
    omega (arith, down, times, most, long)

each_fits : (width : ℕ) (hs : Holders) (addresses : List ℕ) → length hs ≤ 256 ^ width → list_all (is_open hs) addresses ≡ true → list_all (fits width) addresses ≡ true
each_fits width hs [] small h = refl
each_fits width hs (a ∷ rest) small h =
    let tests = both (is_open hs a) (list_all (is_open hs) rest) h in
    let less = ltb-true a (length hs) (both (nat_lt a (length hs)) _ tests.0).0 in
    join (fits width a) (list_all (fits width) rest) (is_below a (256 ^ width) (omega (arith, less, small))) (each_fits width hs rest small tests.1)

-- a disk of version 1 has narrow addresses
narrow : (b : Rebuilt) → IsRebuilt plain_sample b → (b.form == 2) ≡ false → b.shape.blocks ≤ 65536
narrow b valid e =
    let conditions = b.shape.conditions in
    let low = conditions.some_version in
    let high = conditions.version_limit in
    let not_two : ¬ (b.shape.version ≡ 2) = λ two. (let bad : true ≡ false = sym (eq-eqb b.form 2 (valid.newest two)) ∙ e in cc) in
    let one : b.shape.version ≡ 1 = omega (arith, low, high, not_two) in
    let most : b.shape.blocks ≤ 65535 = subst (λ n. b.shape.blocks ≤ most_blocks n) one conditions.blocks_limit in
    omega (arith, most)

any_version : (b : Rebuilt) → b.shape.blocks ≤ 1048576
any_version b = by_test (b.shape.version == 1) b.shape.conditions.blocks_limit
  where
    by_test : (t : Bool) → b.shape.blocks ≤ cond t 65535 1048576 → b.shape.blocks ≤ 1048576
    by_test true h = omega (arith, h)
    by_test false h = h

-- free addresses, one for each block
pub recording_spelled : (b : Rebuilt) (hs : Holders) (len : ℕ) (addresses : List ℕ) → IsRebuilt plain_sample b → b.next ≤ 2 ^ 48 → len ≤ 2 ^ 30 → length hs ≡ b.shape.blocks → length addresses ≡ blocks_for b.shape.block len
    → list_all (is_open hs) addresses ≡ true → keeps_grammar (recorded_change b.form b.next len addresses) ≡ true
recording_spelled b hs len addresses valid high long size count free = by_form (b.form == 2) refl
  where
    limit : fits 4 (length addresses) ≡ true
    limit = let conditions = b.shape.conditions in let few = few_needed b.shape.block len conditions.some_block conditions.block_limit long in is_below (length addresses) (2 ^ 32) (omega (arith, count, few))

    spelled : (width : ℕ) → length hs ≤ 256 ^ width → is_recording width b.next len addresses ≡ true
    spelled width small =
        join (is_id b.next && nat_le len (2 ^ 30) && fits 4 (length addresses)) (list_all (fits width) addresses)
        (join (is_id b.next && nat_le len (2 ^ 30)) (fits 4 (length addresses)) (join (is_id b.next) (nat_le len (2 ^ 30)) (next_number b valid high) (le-leb len (2 ^ 30) long)) limit)
        (each_fits width hs addresses small free)

    by_form : (w : Bool) → (b.form == 2) ≡ w → keeps_grammar (cond w (changes.Wide b.next len addresses) (changes.Recorded b.next len addresses)) ≡ true
    by_form true e = spelled 4 (let most = any_version b in omega (arith, size, most))
    by_form false e = spelled 2 (let most = narrow b valid e in omega (arith, size, most))
