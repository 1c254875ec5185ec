-- What is filled in, where two fillings agree on the samples of ropes.
use Rattle.std.proofs.Common.{◌≡◌, ℕ, ◌+◌, ◌*◌, ◌%◌, ◌==◌, Bool, true, false, ◌||◌, cond, List, [], ◌∷◌, ◌++◌, map, refl, sym, ◌∙◌, ap}
use Rattle.std.proofs.lemmas.Bool.{eq-eqb}
use Rattle.std.specs.Prelude.{filter, slice_index}
use Rattle.voice_units.specs.Spots.{Spot}
use Rattle.voice_units.specs.Blocks.{BlockPair, has_pair, same_pair, pair_at, pairs_at}
use Rattle.voice_units.proofs.Distinct.{same_pair-true}
use Rattle.voice_model.specs.Samples.{Tagged}
use Rattle.voice_model.specs.State.{Live, Durable}
use Rattle.voice_model.specs.Replay.{Placed, Rebuilt, has_place, has_address, address_of, live_by, durable_by}
use Rattle.voice_model.specs.Valid.{Every}
use Rattle.voice_model.proofs.KeptByChanges.{every-imply}
use Rattle.voice_model.proofs.PlacesKept.{same_itself, has_pair-append, all_samples}
use Rattle.voice_blocks.proofs.Apart.{or_left, or_right}

-- ---- samples one by one

abbrev pub EachSample : (Spot → Type 0) → List (Live Spot) → Type 0
EachSample P ropes = Every (λ rope. Every P rope.samples) ropes

pub each_imply : (P Q : Spot → Type 0) → ((s : Spot) → P s → Q s) → (ropes : List (Live Spot)) → EachSample P ropes → EachSample Q ropes
each_imply P Q step ropes h = every-imply (λ (rope : Live Spot). Every P rope.samples) (λ (rope : Live Spot). Every Q rope.samples) (λ rope k. every-imply P Q step rope.samples k) ropes h

pub map_same : (f g : Spot → Tagged) (ss : List Spot) → Every (λ s. f s ≡ g s) ss → map f ss ≡ map g ss
map_same f g [] h = refl
map_same f g (s ∷ ss) h = ap (λ x. x ∷ map f ss) h.0 ∙ ap (λ l. g s ∷ l) (map_same f g ss h.1)

ropes_same : (f g : Spot → Tagged) (ropes : List (Live Spot)) → EachSample (λ s. f s ≡ g s) ropes → map (live_by f) ropes ≡ map (live_by g) ropes
ropes_same f g [] h = refl
ropes_same f g (rope ∷ ropes) h =
    ap (λ l. record { id = rope.id; samples = l; idle = rope.idle; last = rope.last } ∷ map (live_by f) ropes) (map_same f g rope.samples h.0)
    ∙ ap (λ l. live_by g rope ∷ l) (ropes_same f g ropes h.1)

-- fillings that agree on the samples of ropes fill alike
pub same_filling : (f g : Spot → Tagged) (d : Durable Spot) → EachSample (λ s. f s ≡ g s) d.ropes → durable_by f d ≡ durable_by g d
same_filling f g d h = ap (λ (l : List (Live Tagged)). let x : Durable Tagged = record { shape = d.shape; ropes = l; rows = d.rows; moment = d.moment; next = d.next } in x) (ropes_same f g d.ropes h)

-- ---- the block of each sample of a live rope is used

own_used : (block : ℕ) (ss more : List Spot) → Every (λ s. has_pair (pairs_at block (ss ++ more)) (pair_at block s) ≡ true) ss
own_used block [] more = tt
own_used block (s ∷ ss) more = (
  or_left (same_pair (pair_at block s) (pair_at block s)) (has_pair (pairs_at block (ss ++ more)) (pair_at block s)) (same_itself (pair_at block s)),
  every-imply (λ x. has_pair (pairs_at block (ss ++ more)) (pair_at block x) ≡ true) (λ x. has_pair (pairs_at block (s ∷ ss ++ more)) (pair_at block x) ≡ true)
      (λ x e. or_right (same_pair (pair_at block x) (pair_at block s)) (has_pair (pairs_at block (ss ++ more)) (pair_at block x)) e) ss (own_used block ss more),
)

pub each_used : (block : ℕ) (ropes : List (Live Spot)) → EachSample (λ s. has_pair (pairs_at block (all_samples ropes)) (pair_at block s) ≡ true) ropes
each_used block [] = tt
each_used block (rope ∷ ropes) = (
  own_used block rope.samples (all_samples ropes),
  each_imply (λ s. has_pair (pairs_at block (all_samples ropes)) (pair_at block s) ≡ true) (λ s. has_pair (pairs_at block (rope.samples ++ all_samples ropes)) (pair_at block s) ≡ true)
      (λ s e. has_pair-append block rope.samples (all_samples ropes) (pair_at block s) ∙ or_right (has_pair (pairs_at block rope.samples) (pair_at block s)) _ e) ropes (each_used block ropes),
)

-- ---- addresses

-- a sample at an address of its block
abbrev pub sample_at : List ℕ → Rebuilt → Spot → ℕ → Tagged
sample_at image b s address = record { byte = slice_index image (64 + 2 * b.shape.area + address * b.shape.block + s.place % b.shape.block); file = s.file; place = s.place }

there_by : (place : Placed) (places : List Placed) (pair : BlockPair) (same : Bool) → same_pair place.pair pair ≡ same → (has_place places pair ≡ true → has_address places (address_of places pair) ≡ true) → (same || has_place places pair) ≡ true → has_address (place ∷ places) (cond (same_pair place.pair pair) place.address (address_of places pair)) ≡ true
there_by place places pair true e step h = ap (λ x. has_address (place ∷ places) (cond x place.address (address_of places pair))) e ∙ or_left (place.address == place.address) (has_address places place.address) (eq-eqb place.address place.address refl)
there_by place places pair false e step h = ap (λ x. has_address (place ∷ places) (cond x place.address (address_of places pair))) e ∙ or_right (place.address == address_of places pair) (has_address places (address_of places pair)) (step h)

-- a block with a place has the place's address
pub address_there : (places : List Placed) (pair : BlockPair) → has_place places pair ≡ true → has_address places (address_of places pair) ≡ true
address_there [] pair h = cc
address_there (place ∷ places) pair h = there_by place places pair (same_pair place.pair pair) refl (address_there places pair) h

-- one place more in front, which is kept or not
step_address : (used : List BlockPair) (place : Placed) (places kept : List Placed) (pair : BlockPair) (here same : Bool) → has_pair used place.pair ≡ here → same_pair place.pair pair ≡ same → has_pair used pair ≡ true → address_of kept pair ≡ address_of places pair → address_of (cond here (place ∷ kept) kept) pair ≡ cond same place.address (address_of places pair)
step_address used place places kept pair true true h s u rest = ap (λ b. cond b place.address (address_of kept pair)) s
step_address used place places kept pair true false h s u rest = ap (λ b. cond b place.address (address_of kept pair)) s ∙ rest
step_address used place places kept pair false false h s u rest = rest
step_address used place places kept pair false true h s u rest =
    let is : place.pair ≡ pair = same_pair-true place.pair pair s in
    let both : false ≡ true = sym h ∙ ap (λ (p : BlockPair). has_pair used p) is ∙ u in
    cc

-- a used block keeps its address where only the used ones stay
pub address-filter : (used : List BlockPair) (places : List Placed) (pair : BlockPair) → has_pair used pair ≡ true → address_of (filter (λ place. has_pair used place.pair) places) pair ≡ address_of places pair
address-filter used [] pair u = refl
address-filter used (place ∷ places) pair u =
    step_address used place places (filter (λ p. has_pair used p.pair) places) pair (has_pair used place.pair) (same_pair place.pair pair) refl refl u (address-filter used places pair u)

front_by : (place : Placed) (places more : List Placed) (pair : BlockPair) (same : Bool) → (has_place places pair ≡ true → address_of (places ++ more) pair ≡ address_of places pair) → (same || has_place places pair) ≡ true → cond same place.address (address_of (places ++ more) pair) ≡ cond same place.address (address_of places pair)
front_by place places more pair true step h = refl
front_by place places more pair false step h = step h

-- a block with a place keeps its address where places come behind
pub address-front : (places more : List Placed) (pair : BlockPair) → has_place places pair ≡ true → address_of (places ++ more) pair ≡ address_of places pair
address-front [] more pair h = cc
address-front (place ∷ places) more pair h = front_by place places more pair (same_pair place.pair pair) (address-front places more pair) h

behind_by : (place : Placed) (places more : List Placed) (pair : BlockPair) (same : Bool) → (has_place places pair ≡ false → address_of (places ++ more) pair ≡ address_of more pair) → (same || has_place places pair) ≡ false → cond same place.address (address_of (places ++ more) pair) ≡ address_of more pair
behind_by place places more pair true step h = cc
behind_by place places more pair false step h = step h

-- a block without a place has the address of a later one
pub address-behind : (places more : List Placed) (pair : BlockPair) → has_place places pair ≡ false → address_of (places ++ more) pair ≡ address_of more pair
address-behind [] more pair h = refl
address-behind (place ∷ places) more pair h = behind_by place places more pair (same_pair place.pair pair) (address-behind places more pair) h
