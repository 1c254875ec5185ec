-- A recording in the tables: its addresses, its blocks and its legality.
use Rattle.std.proofs.Common.{◌≡◌, ℕ, zero, suc, ◌+◌, ◌-◌, ◌*◌, ◌/◌, ◌≤◌, ◌<◌, ◌==◌, Bool, true, false, cond, not, ◌&&◌, ◌||◌, nat_lt, List, [], ◌∷◌, ◌++◌, length, Some, None, refl, sym, ◌∙◌, ap, subst, arith, Result, Ok}
use Rattle.std.specs.Prelude.{is_some, nat_le, filter, IfOk, Err}
use Rattle.voice_units.specs.declared.errors.NoMemory.{NoMemory}
use Rattle.voice_units.proofs.PiecesOfRopes.{both}
use Rattle.voice_model.specs.State.Effect.{Recorded}
use Rattle.voice_model.specs.Changes.{with_rope}
use Rattle.voice_model.specs.Spelling.{keeps_grammar}
use Rattle.voice_model.specs.declared.changes.Change.{Change}
use Rattle.std.specs.List.{list_all}
use Rattle.std.proofs.lemmas.Bool.{eqb-true, eq-eqb, le-leb}
use Rattle.std.proofs.lemmas.Nat.{le-div}
use Rattle.std.proofs.Math.Nat.{div-mul-le_self, div-eq_of_lt-le, mul-le-mul_right}
use Rattle.voice_units.specs.Spots.{Spot, spots_from}
use Rattle.voice_units.specs.Blocks.{BlockPair, has_pair, pairs_at, distinct, blocks_for, same_pair}
use Rattle.voice_model.specs.State.{Durable, Live}
use Rattle.voice_model.specs.Replay.{Placed, Rebuilt, may_be_recorded, is_free_address, has_address, still_used, placed_from, all_differ, used_pairs, is_legal, acted, after_effect}
use Rattle.voice_model.specs.Valid.{Every}
use Rattle.voice_model.specs.Places.{IsInRange, AllUsed}
use Rattle.voice_model.proofs.KeptByChanges.{every-append, every-imply}
use Rattle.voice_model.proofs.PlacesKept.{same_itself, all_samples, has_pair-append}
use Rattle.voice_blocks.specs.Holders.{Holders, holder_at, block_of, without_owner}
use Rattle.voice_blocks.specs.declared.owner.Owner.TheVariants.{File}
use Rattle.recovery.specs.declared.parts.Parts.{Parts}
use Rattle.recovery.specs.Shown.{Rebuilds, Shows, ShowsPlaces, placed_at}
use Rattle.recovery.specs.Placing.{or_else, is_open}
use Rattle.recovery.proofs.Ropes.{not_equal}
use Rattle.recovery.proofs.BlocksUsed.{same_all, same_or, few_blocks}
use Rattle.recovery.proofs.Rebuilding.{filter_all, last_samples, more_used, rebuilds_after, told}

-- ---- addresses

-- a file above all known ones holds nothing
pub not_known : (id next blocks : ℕ) (places : List Placed) → next ≤ id → Every (IsInRange next blocks) places → (a : ℕ) → without_owner (File id) (placed_at places a) ≡ placed_at places a
not_known id next blocks [] later h a = refl
not_known id next blocks (place ∷ places) later h a = by_test (place.address == a) (not_known id next blocks places later h.1 a)
  where
    by_test : (b : Bool) → without_owner (File id) (placed_at places a) ≡ placed_at places a
        → without_owner (File id) (cond b (Some (block_of (File place.pair.file) place.pair.index)) (placed_at places a)) ≡ cond b (Some (block_of (File place.pair.file) place.pair.index)) (placed_at places a)
    by_test true rest = ap (λ b. cond b None (Some (block_of (File place.pair.file) place.pair.index))) (not_equal id place.pair.file (λ same. let known = h.0.known in omega (arith, same, known, later)))
    by_test false rest = rest

pub some_address : (places : List Placed) (a : ℕ) → is_some (placed_at places a) ≡ has_address places a
some_address [] a = refl
some_address (place ∷ places) a = by_test (place.address == a) (some_address places a)
  where
    by_test : (b : Bool) → is_some (placed_at places a) ≡ has_address places a → is_some (cond b (Some (block_of (File place.pair.file) place.pair.index)) (placed_at places a)) ≡ (b || has_address places a)
    by_test true rest = refl
    by_test false rest = rest

pub placed_append : (places more : List Placed) (a : ℕ) → placed_at (places ++ more) a ≡ or_else (placed_at places a) (placed_at more a)
placed_append [] more a = refl
placed_append (place ∷ places) more a = by_test (place.address == a) (placed_append places more a)
  where
    by_test : (b : Bool) → placed_at (places ++ more) a ≡ or_else (placed_at places a) (placed_at more a)
        → cond b (Some (block_of (File place.pair.file) place.pair.index)) (placed_at (places ++ more) a) ≡ or_else (cond b (Some (block_of (File place.pair.file) place.pair.index)) (placed_at places a)) (placed_at more a)
    by_test true rest = refl
    by_test false rest = rest

-- an address is open where it is free
free_is_open : (r : Rebuilt) (holders : Holders) → AllUsed r → ShowsPlaces holders r.shape.blocks r.places → (a : ℕ) → is_open holders a ≡ is_free_address r a
free_is_open r holders used h a =
    ap (λ n. nat_lt a n && not (is_some (holder_at holders a))) h.size
    ∙ ap (λ b. nat_lt a r.shape.blocks && not b) (ap is_some (h.each a) ∙ some_address r.places a ∙ ap (λ l. has_address l a) (sym (filter_all (λ (place : Placed). has_pair (used_pairs r.kept) place.pair) r.places used)))

-- whether a recording is legal
pub legal_recording : (parts : Parts) (r : Rebuilt) (id len : ℕ) (addresses : List ℕ) (b : Bool) → Rebuilds parts r → parts.next ≤ id → length addresses ≡ blocks_for r.shape.block len
    → b ≡ (all_differ addresses && list_all (is_open parts.blocks.holders) addresses) → b ≡ may_be_recorded r id len addresses
legal_recording parts r id len addresses b h later count e =
    let next = h.kept.next in
    e ∙ ap (λ x. all_differ addresses && x) (same_all (is_open parts.blocks.holders) (is_free_address r) (free_is_open r parts.blocks.holders h.used h.places) addresses)
    ∙ joined (nat_le r.next id) (length addresses == blocks_for r.shape.block len) (all_differ addresses) (list_all (is_free_address r) addresses) (le-leb r.next id (omega (arith, later, next))) (eq-eqb (length addresses) (blocks_for r.shape.block len) count)
  where
    joined : (p q x y : Bool) → p ≡ true → q ≡ true → (x && y) ≡ (((p && q) && x) && y)
    joined true true x y e f = refl
    joined true false x y e f = cc
    joined false q x y e f = cc

-- ---- blocks

one_more : (m b : ℕ) → (m + 1) * b ≡ m * b + b
one_more m b = grind arith

-- a recording has at most so many blocks that nothing uses yet
pub few_fresh : (test : BlockPair → Bool) (block file len : ℕ) → 1 ≤ block → length (distinct (filter test (pairs_at block (spots_from file 0 len)))) ≤ blocks_for block len
few_fresh test block file zero some = omega arith
few_fresh test block file (suc n) some =
    let most = few_blocks test block file 0 n (n / block) some (let e : (0 + n) / block ≡ n / block = ap (λ x. x / block) (let z : 0 + n ≡ n = omega arith in z) in omega (arith, e)) in
    let down = div-mul-le_self n block in
    let whole = one_more (n / block) block in
    let up : n / block + 1 ≤ blocks_for block (suc n) = le-div (n / block + 1) (suc n + (block - 1)) block (omega (arith, some)) (omega (arith, down, whole, some)) in
    omega (arith, most, up)

-- the block of a place of a file
pub block_used : (block file from n k : ℕ) → 1 ≤ block → from ≤ k * block → k * block < from + n → has_pair (pairs_at block (spots_from file from n)) (record { file = file; index = k }) ≡ true
block_used block file from zero k some low high = absurd (omega (arith, low, high))
block_used block file from (suc n) k some low high =
    same_or from (k * block)
    (λ same. ap (λ b. b || has_pair (pairs_at block (spots_from file (from + 1) n)) pair) (ap (λ i. same_pair pair (record { file = file; index = i })) (ap (λ x. x / block) same ∙ exact) ∙ same_itself pair))
    (λ apart. or_right (same_pair pair (record { file = file; index = from / block })) (has_pair (pairs_at block (spots_from file (from + 1) n)) pair) (block_used block file (from + 1) n k some (omega (arith, low, apart)) (omega (arith, high))))
  where
    pair : BlockPair
    pair = record { file = file; index = k }

    or_right : (a b : Bool) → b ≡ true → (a || b) ≡ true
    or_right true b e = refl
    or_right false b e = e

    exact : k * block / block ≡ k
    exact = let whole = one_more k block in div-eq_of_lt-le block (omega arith) (omega (arith, whole, some))

-- each block of a recording has a sample
pub fresh_used : (block file index len : ℕ) (addresses : List ℕ) → 1 ≤ block → index + length addresses ≡ blocks_for block len → Every (λ place. has_pair (pairs_at block (spots_from file 0 len)) place.pair ≡ true) (placed_from file index addresses)
fresh_used block file index len [] some count = tt
fresh_used block file index len (a ∷ rest) some count = (
  (let below : index + 1 ≤ blocks_for block len = omega (arith, count) in
      let down = div-mul-le_self (len + (block - 1)) block in
      let up = mul-le-mul_right block below in
      let whole = one_more index block in
      block_used block file 0 len index some (omega arith) (omega (arith, down, up, whole, some))),
  fresh_used block file (index + 1) len rest some (omega (arith, count)),
)

-- all places stay as a recording comes
pub all_used_recorded : (r : Rebuilt) (d : Durable Spot) (id len : ℕ) (addresses : List ℕ) (rope : Live Spot) → AllUsed r → 1 ≤ r.shape.block → length addresses ≡ blocks_for r.shape.block len → rope.samples ≡ spots_from id 0 len
    → used_pairs d ≡ pairs_at r.shape.block (all_samples (r.ropes ++ rope ∷ [])) → still_used d (r.places ++ placed_from id 0 addresses) ≡ r.places ++ placed_from id 0 addresses
all_used_recorded r d id len addresses rope used some count samples is =
    filter_all (λ (place : Placed). has_pair (used_pairs d) place.pair) (r.places ++ placed_from id 0 addresses)
    (every-append (λ (place : Placed). has_pair (used_pairs d) place.pair ≡ true) r.places (placed_from id 0 addresses)
    (every-imply (λ (place : Placed). has_pair (used_pairs r.kept) place.pair ≡ true) (λ (place : Placed). has_pair (used_pairs d) place.pair ≡ true) (λ place e. ap (λ l. has_pair l place.pair) is ∙ more_used r.shape.block r.ropes rope place.pair e) r.places used)
    (every-imply (λ (place : Placed). has_pair (pairs_at r.shape.block (spots_from id 0 len)) place.pair ≡ true) (λ (place : Placed). has_pair (used_pairs d) place.pair ≡ true)
    (λ place e. ap (λ l. has_pair l place.pair) is ∙ ap (λ l. has_pair (pairs_at r.shape.block l) place.pair) (last_samples r.ropes rope) ∙ has_pair-append r.shape.block (all_samples r.ropes) rope.samples place.pair
    ∙ or_right (has_pair (pairs_at r.shape.block (all_samples r.ropes)) place.pair) (has_pair (pairs_at r.shape.block rope.samples) place.pair) (ap (λ l. has_pair (pairs_at r.shape.block l) place.pair) samples ∙ e))
    (placed_from id 0 addresses) (fresh_used r.shape.block id 0 len addresses some (let e : 0 + length addresses ≡ blocks_for r.shape.block len = omega (arith, count) in e))))
  where
    or_right : (a b : Bool) → b ≡ true → (a || b) ≡ true
    or_right true b e = refl
    or_right false b e = e

pub if_ok-legal : (result : Result Bool NoMemory) (legal here : Bool) → here ≡ true → IfOk result (λ done. done ≡ legal) → IfOk result (λ done. done ≡ (here && legal))
if_ok-legal (Ok done) legal here e h = h ∙ ap (λ b. b && legal) (sym e)
if_ok-legal (Err none) legal here e h = tt

-- the parts after a recording, in its form
pub recorded_after : (old new : Parts) (r : Rebuilt) (c : Change) (id len : ℕ) (addresses : List ℕ) (result : Result Bool NoMemory) (form : ℕ) → Rebuilds old r → r.form ≡ form → keeps_grammar c ≡ true
    → acted r c ≡ after_effect r (placed_from id 0 addresses) (Some (Recorded id (spots_from id 0 len))) → is_legal r c ≡ ((r.form == form) && may_be_recorded r id len addresses)
    → IfOk result (λ done. done ≡ may_be_recorded r id len addresses) → result ≡ Ok true
    → Shows [] new (with_rope r.kept id (spots_from id 0 len)) → ShowsPlaces new.blocks.holders r.shape.blocks (r.places ++ placed_from id 0 addresses) → new.form ≡ old.form → Rebuilds new (acted r c)
recorded_after old new r c id len addresses result form h is grammar acts legal told_by done shows shown same =
    let may = told true (may_be_recorded r id len addresses) result told_by done in
    let some = r.shape.conditions.some_block in
    let least : 1 ≤ r.shape.block = omega (arith, some) in
    let count : length addresses ≡ blocks_for r.shape.block len = eqb-true (length addresses) (blocks_for r.shape.block len) (both _ _ (both _ _ (both _ _ may).0).0).1 in
    let rope : Live Spot = record { id = id; samples = spots_from id 0 len; idle = r.moment; last = 0 } in
    rebuilds_after old new r c (placed_from id 0 addresses) (Recorded id (spots_from id 0 len)) h (legal ∙ ap (λ b. b && may_be_recorded r id len addresses) (eq-eqb r.form form is) ∙ may) grammar acts shows same
    (subst (ShowsPlaces new.blocks.holders r.shape.blocks) (sym (all_used_recorded r (with_rope r.kept id (spots_from id 0 len)) id len addresses rope h.used least count refl refl)) shown)
