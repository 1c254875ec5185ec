-- How many blocks a rope of a base may bring to the uses.
use Rattle.std.proofs.Common.{◌≡◌, ℕ, ◌+◌, ◌≤◌, ◌==◌, Bool, true, false, cond, ◌&&◌, ◌||◌, nat_lt, List, [], ◌∷◌, ◌++◌, map, length, refl, sym, ◌∙◌, ap, arith}
use Rattle.std.specs.Prelude.{filter}
use Rattle.std.specs.List.{list_all}
use Rattle.std.proofs.lemmas.Bool.{eqb-true}
use Rattle.std.proofs.lemmas.List.{length-map}
use Rattle.voice_units.specs.Spots.{Spot}
use Rattle.voice_units.specs.Blocks.{BlockPair, same_pair, has_pair, distinct}
use Rattle.voice_units.proofs.Distinct.{same_pair-true, same_count}
use Rattle.voice_units.proofs.PiecesOfRopes.{both}
use Rattle.voice_model.specs.State.{Durable}
use Rattle.voice_model.specs.Replay.{Placed, used_pairs, has_place}
use Rattle.voice_model.specs.Valid.{Every}
use Rattle.rope_table.specs.Table.{pair_of, unused}
use Rattle.recovery.specs.declared.building.Block.{Block}
use Rattle.recovery.specs.Building.{is_noted, is_known}
use Rattle.recovery.proofs.Ropes.{swapped}
use Rattle.recovery.proofs.Finished.{each_of}

-- ---- blocks of a list

either_way : (p q : BlockPair) → same_pair p q ≡ same_pair q p
either_way p q = ap (λ b. b && (p.index == q.index)) (swapped p.file q.file) ∙ ap (λ b. (q.file == p.file) && b) (swapped p.index q.index)

has_append : (qs ps : List BlockPair) (pair : BlockPair) → has_pair (qs ++ ps) pair ≡ (has_pair qs pair || has_pair ps pair)
has_append [] ps pair = refl
has_append (q ∷ qs) ps pair = by_test (same_pair pair q) (has_append qs ps pair)
  where
    by_test : (b : Bool) → has_pair (qs ++ ps) pair ≡ (has_pair qs pair || has_pair ps pair) → (b || has_pair (qs ++ ps) pair) ≡ ((b || has_pair qs pair) || has_pair ps pair)
    by_test true e = refl
    by_test false e = e

once_longer : (b : Bool) (p : BlockPair) (ps : List BlockPair) → length ps ≤ length (cond b ps (p ∷ ps))
once_longer true p ps = omega arith
once_longer false p ps = omega arith

front_longer : (qs ps : List BlockPair) → length (distinct ps) ≤ length (distinct (qs ++ ps))
front_longer [] ps = omega arith
front_longer (q ∷ qs) ps = let rest = front_longer qs ps in let once = once_longer (has_pair (distinct (qs ++ ps)) q) q (distinct (qs ++ ps)) in omega (arith, rest, once)

once_shorter : (b : Bool) (p : BlockPair) (ps : List BlockPair) → length (cond b ps (p ∷ ps)) ≤ length ps + 1
once_shorter true p ps = omega arith
once_shorter false p ps = omega arith

distinct_shorter : (qs : List BlockPair) → length (distinct qs) ≤ length qs
distinct_shorter [] = omega arith
distinct_shorter (q ∷ qs) = let rest = distinct_shorter qs in let once = once_shorter (has_pair (distinct qs) q) q (distinct qs) in omega (arith, rest, once)

-- blocks that all lie in a list are no more than it
few_among : (qs ps : List BlockPair) → list_all (has_pair qs) ps ≡ true → length (distinct ps) ≤ length qs
few_among qs ps h =
    let more = front_longer qs ps in
    let same = same_count (qs ++ ps) qs (λ pair. has_append qs ps pair ∙ by_test pair (has_pair qs pair) (has_pair ps pair) refl refl) in
    let most = distinct_shorter qs in
    omega (arith, more, same, most)
  where
    by_test : (pair : BlockPair) (a b : Bool) → has_pair qs pair ≡ a → has_pair ps pair ≡ b → (a || b) ≡ a
    by_test pair true b e f = refl
    by_test pair false true e f = let bad : true ≡ false = sym (each_of (has_pair qs) ps pair h f) ∙ e in cc
    by_test pair false false e f = refl

-- ---- noted blocks

abbrev pair_noted : Block → BlockPair
pair_noted block = pair_of block.file block.index

noted_is : (noted : List Block) (pair : BlockPair) → is_noted noted pair ≡ has_pair (map pair_noted noted) pair
noted_is [] pair = refl
noted_is (block ∷ noted) pair = ap (λ b. b || is_noted noted pair) (either_way (pair_noted block) pair) ∙ ap (λ b. same_pair pair (pair_noted block) || b) (noted_is noted pair)

-- a block with a place is known
known_placed : (noted : List Block) (d : Durable Spot) (places : List Placed) (pair : BlockPair) → Every (λ place. is_known noted d place.pair ≡ true) places → has_place places pair ≡ true → is_known noted d pair ≡ true
known_placed noted d [] pair h e = cc
known_placed noted d (place ∷ places) pair h e = by_test (same_pair place.pair pair) refl (known_placed noted d places pair h.1)
  where
    by_test : (b : Bool) → same_pair place.pair pair ≡ b → (has_place places pair ≡ true → is_known noted d pair ≡ true) → is_known noted d pair ≡ true
    by_test true k rest = ap (is_known noted d) (sym (same_pair-true place.pair pair k)) ∙ h.0
    by_test false k rest = rest (sym (ap (λ b. b || has_place places pair) k) ∙ e)

-- blocks with a place that nothing uses are noted
all_noted : (noted : List Block) (d : Durable Spot) (places : List Placed) (uses : BlockPair → ℕ) (pairs : List BlockPair) → ((pair : BlockPair) → nat_lt 0 (uses pair) ≡ has_pair (used_pairs d) pair)
    → Every (λ place. is_known noted d place.pair ≡ true) places → list_all (has_place places) pairs ≡ true → list_all (has_pair (map pair_noted noted)) (filter (λ pair. uses pair == 0) pairs) ≡ true
all_noted noted d places uses [] used known h = refl
all_noted noted d places uses (pair ∷ pairs) used known h =
    let tests = both (has_place places pair) (list_all (has_place places) pairs) h in
    by_test (uses pair == 0) refl (known_placed noted d places pair known tests.0) (all_noted noted d places uses pairs used known tests.1)
  where
    rest : List BlockPair
    rest = filter (λ pair. uses pair == 0) pairs

    left_over : (a b : Bool) → (a || b) ≡ true → a ≡ false → b ≡ true
    left_over true b e f = cc
    left_over false b e f = e

    by_test : (b : Bool) → (uses pair == 0) ≡ b → is_known noted d pair ≡ true → list_all (has_pair (map pair_noted noted)) rest ≡ true → list_all (has_pair (map pair_noted noted)) (cond b (pair ∷ rest) rest) ≡ true
    by_test true e k later =
        let none : has_pair (used_pairs d) pair ≡ false = sym (used pair) ∙ ap (nat_lt 0) (eqb-true (uses pair) 0 e) in
        ap (λ b. b && list_all (has_pair (map pair_noted noted)) rest) (sym (noted_is noted pair) ∙ left_over (has_pair (used_pairs d) pair) (is_noted noted pair) k none) ∙ later
    by_test false e k later = later

-- a rope of a base brings at most as many blocks as were noted
pub few_new : (noted : List Block) (d : Durable Spot) (places : List Placed) (uses : BlockPair → ℕ) (pairs : List BlockPair) → ((pair : BlockPair) → nat_lt 0 (uses pair) ≡ has_pair (used_pairs d) pair)
    → Every (λ place. is_known noted d place.pair ≡ true) places → list_all (has_place places) pairs ≡ true → unused uses pairs ≤ length noted
few_new noted d places uses pairs used known h =
    let few = few_among (map pair_noted noted) (filter (λ pair. uses pair == 0) pairs) (all_noted noted d places uses pairs used known h) in
    let count = length-map noted pair_noted in
    omega (arith, few, count)
