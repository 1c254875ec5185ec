-- What replay keeps of the places of blocks, and what a base reads back as.
--     Pairwise R xs      each element has R to all later ones
--     IsPlaced r      each used block has its place, and no block and no address stands twice
--     AllUsed r      each place is that of a used block
--     CanBeSpelled form r      what is rebuilt has a base of that form
--     ReadsBack form r      the base reads back as what it spells
use Rattle.std.specs.Prelude.{◌≡◌, ℕ, ◌^◌, ◌≤◌, ◌<◌, ◌⊎◌, true, List, [], ◌∷◌, length, Some}
use Rattle.voice_units.specs.Spots.{Spot}
use Rattle.voice_units.specs.Blocks.{BlockPair, has_pair, pair_at}
use Rattle.voice_model.specs.State.{Live}
use Rattle.voice_model.specs.Replay.{Placed, Rebuilt, Phase, nothing_rebuilt, rebuilt, used_pairs, has_place, address_of, recovered}
use Rattle.voice_model.specs.Spelling.{keeps_grammar}
use Rattle.voice_model.specs.Base.{base_of, comes_first, in_order}
use Rattle.voice_model.specs.Valid.{Every}

-- each element has R to all later ones
abbrev pub Pairwise : {A : Type 0} → (A → A → Type 0) → List A → Type 0
Pairwise R [] = Unit {0}
Pairwise R (x ∷ xs) = Every (R x) xs × Pairwise R xs

-- two places of different blocks
abbrev pub OfOtherBlock : Placed → Placed → Type 0
OfOtherBlock p q = ¬ (p.pair ≡ q.pair)

abbrev pub AtOtherAddress : Placed → Placed → Type 0
AtOtherAddress p q = ¬ (p.address ≡ q.address)

abbrev pub ComesFirst : Placed → Placed → Type 0
ComesFirst p q = comes_first p.pair q.pair ≡ true

-- a sample's place, in the range of a piece, in a block that has its place
pub record IsPlace (block : ℕ) (places : List Placed) (s : Spot) : Type 0 where
  pub some_file : 1 ≤ s.file
  pub file_limit : s.file ≤ 2 ^ 48
  pub place_limit : s.place < 2 ^ 30
  pub held : has_place places (pair_at block s) ≡ true

abbrev pub EachPlaced : ℕ → List Placed → List (Live Spot) → Type 0
EachPlaced block places ropes = Every (λ rope. Every (IsPlace block places) rope.samples) ropes

-- before the first change there is no place
abbrev pub HasNoPlace : Phase → List Placed → Type 0
HasNoPlace Phase.Begun places = places ≡ []
HasNoPlace _ places = Unit {0}

-- a place of a known file and an address that the disk has
pub record IsInRange (next blocks : ℕ) (p : Placed) : Type 0 where
  pub known : p.pair.file < next
  pub address : p.address < blocks

pub record IsPlaced (r : Rebuilt) : Type 0 where
  pub ranges : Every (IsInRange r.next r.shape.blocks) r.places
  pub once : Pairwise OfOtherBlock r.places
  pub differ : Pairwise AtOtherAddress r.places
  pub placed : EachPlaced r.shape.block r.places r.ropes
  pub fresh : HasNoPlace r.phase r.places

-- each place is that of a used block
abbrev pub AllUsed : Rebuilt → Type 0
AllUsed r = Every (λ place. has_pair (used_pairs r.kept) place.pair ≡ true) r.places

-- form 1 is the one of version 1, and has no last class
abbrev pub CanBeSpelled : ℕ → Rebuilt → Type 0
CanBeSpelled form r = (form ≡ 2) ⊎ ((form ≡ 1) × (r.shape.version ≡ 1) × Every (λ rope. rope.last ≡ 0) r.ropes)

-- the base of a form reads back as the durable part that it spells, at the same addresses
pub record ReadsBack (form : ℕ) (r : Rebuilt) : Type 0 where
  pub end : Rebuilt
  pub reads : rebuilt (nothing_rebuilt r.shape) (base_of form r) ≡ Some end
  pub grammar : Every (λ c. keeps_grammar c ≡ true) (base_of form r)
  pub same : end.kept ≡ r.kept
  pub in_form : end.form ≡ form
  pub places : end.places ≡ in_order r.places
  pub addresses : (pair : BlockPair) → address_of end.places pair ≡ address_of r.places pair
  pub recovers : (image : List ℕ) → recovered image end ≡ recovered image r

-- the places in order are the same ones
pub record IsOrdering (places : List Placed) : Type 0 where
  pub length : length (in_order places) ≡ length places
  pub sorted : Pairwise ComesFirst (in_order places)
  pub addresses : (pair : BlockPair) → address_of (in_order places) pair ≡ address_of places pair
