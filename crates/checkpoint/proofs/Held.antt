-- What the parts of a manager rebuild has a base.
use Rattle.std.proofs.Common.{◌≡◌, ℕ, inl, inr, ◌==◌, Bool, true, false, cond, List, [], ◌∷◌, map, Some, refl, sym, ◌∙◌, ap, subst, arith}
use Rattle.std.proofs.lemmas.Bool.{eq-eqb, eqb-true, false≢true}
use Rattle.voice_units.specs.declared.pieces.Piece.{Piece}
use Rattle.voice_units.specs.Spots.{Spot}
use Rattle.voice_units.specs.Blocks.{has_pair}
use Rattle.voice_model.specs.State.{Live}
use Rattle.voice_model.specs.Replay.{Placed, Rebuilt, used_pairs, finished, live_by}
use Rattle.voice_model.specs.Valid.{Every, IsRope, IsRebuilt}
use Rattle.voice_model.specs.Places.{Pairwise, AtOtherAddress, IsPlaced, CanBeSpelled}
use Rattle.voice_model.proofs.KeptByChanges.{every-filter, every-imply}
use Rattle.voice_model.proofs.PlacesKept.{placed_end, used_end}
use Rattle.voice_blocks.specs.Holders.{Holders, block_of}
use Rattle.voice_blocks.specs.declared.owner.Owner.TheVariants.{File}
use Rattle.recovery.specs.declared.parts.Parts.{Parts}
use Rattle.recovery.specs.Shown.{Shows, ShowsPlaces, Rebuilds, placed_at, plain_sample}
use Rattle.checkpoint.specs.Blocks.{IsHeld}
use Rattle.checkpoint.specs.Compact.{CanCompact, MayTake, ShowsUsed}

-- ---- each place holds its block

-- by these places an address holds the block of this one
abbrev IsThere : List Placed → Placed → Type 0
IsThere places p = placed_at places p.address ≡ Some (block_of (File p.pair.file) p.pair.index)

there_later : (p q : Placed) (ps : List Placed) (b : Bool) → (p.address == q.address) ≡ b → AtOtherAddress p q → IsThere ps q → IsThere (p ∷ ps) q
there_later p q ps true e other here = absurd (other (eqb-true p.address q.address e))
there_later p q ps false e other here = ap (λ b. cond b (Some (block_of (File p.pair.file) p.pair.index)) (placed_at ps q.address)) e ∙ here

all_later : (p : Placed) (ps qs : List Placed) → Every (AtOtherAddress p) qs → Every (IsThere ps) qs → Every (IsThere (p ∷ ps)) qs
all_later p ps [] others here = tt
all_later p ps (q ∷ qs) others here = (there_later p q ps (p.address == q.address) refl others.0 here.0, all_later p ps qs others.1 here.1)

all_there : (ps : List Placed) → Pairwise AtOtherAddress ps → Every (IsThere ps) ps
all_there [] h = tt
all_there (p ∷ ps) h = (
  ap (λ b. cond b (Some (block_of (File p.pair.file) p.pair.index)) (placed_at ps p.address)) (eq-eqb p.address p.address refl),
  all_later p ps ps h.0 (all_there ps h.1),
)

-- a map that shows places at different addresses holds each of them
pub all_held : (holders : Holders) (blocks : ℕ) (places : List Placed) → ShowsPlaces holders blocks places → Pairwise AtOtherAddress places → Every (IsHeld holders) places
all_held holders blocks places shows differ = every-imply (IsThere places) (IsHeld holders) (λ p there. shows.each p.address ∙ there) places (all_there places differ)

-- ---- the form

no_last : (now : ℕ) (ropes : List (Live Spot)) → Every (IsRope 1 now) (map (live_by plain_sample) ropes) → Every (λ rope. rope.last ≡ 0) ropes
no_last now [] h = tt
no_last now (rope ∷ ropes) h = (h.0.plain refl, no_last now ropes h.1)

not_two : (r : Rebuilt) → IsRebuilt plain_sample r → r.form ≡ 1 → r.shape.version ≡ 1
not_two r valid one = by (r.shape.version == 2) refl
  where
    by : (b : Bool) → (r.shape.version == 2) ≡ b → r.shape.version ≡ 1
    by true e = let two = valid.newest (eqb-true r.shape.version 2 e) in absurd (omega (arith, one, two))
    by false e =
        let low = r.shape.conditions.some_version in
        let high = r.shape.conditions.version_limit in
        let other : ¬ (r.shape.version ≡ 2) = λ two. false≢true (sym e ∙ eq-eqb r.shape.version 2 two) in
        omega (arith, low, high, other)

-- what is rebuilt in form 1 has bases of both forms, what is in form 2 one of that form
pub can_spell : (form : ℕ) (r : Rebuilt) → IsRebuilt plain_sample r → MayTake form r.form → CanBeSpelled form r
can_spell form r valid (inl two) = inl two
can_spell form r valid (inr one) =
    inr (one.0, not_two r valid one.1, no_last r.kept.moment r.kept.ropes (subst (λ n. Every (IsRope n r.kept.moment) (map (live_by plain_sample) r.kept.ropes)) one.1 valid.kept.each_rope))

-- ---- the whole

-- parts that show what was rebuilt, while nothing is held
pub used_alone : (parts : Parts) (r : Rebuilt) → Rebuilds parts r → ShowsUsed parts r
used_alone parts r shows = record {
  held = [];
  kept = shows.kept;
  addresses = all_held parts.blocks.holders r.shape.blocks r.places shows.places shows.placed.differ;
  in_form = shows.in_form;
  valid = shows.valid;
  placed = shows.placed;
  used = shows.used;
}

-- parts that show what was rebuilt, where some of its places are those of held passages alone
pub used_besides : (held : List (List Piece)) (parts : Parts) (r : Rebuilt) → Shows held parts r.kept → Every (IsHeld parts.blocks.holders) r.places → parts.form ≡ r.form → IsRebuilt plain_sample r → IsPlaced r → ShowsUsed parts (finished r)
used_besides held parts r shows addresses in_form valid placed = record {
  held = held;
  kept = shows;
  addresses = every-filter (IsHeld parts.blocks.holders) (λ place. has_pair (used_pairs r.kept) place.pair) r.places addresses;
  in_form = in_form;
  valid = record { kept = valid.kept; forms = valid.forms; newest = valid.newest; fresh = valid.fresh };
  placed = placed_end r placed;
  used = used_end r;
}

-- they can be spelled in a form that their area may take
pub can_compact : (form : ℕ) (parts : Parts) (r : Rebuilt) → ShowsUsed parts r → MayTake form parts.form → CanCompact form parts.ropes parts.interests.rows parts.blocks.holders parts.moment parts.next r
can_compact form parts r shows may = record {
  held = shows.held;
  shows = shows.kept;
  addresses = shows.addresses;
  valid = shows.valid;
  placed = shows.placed;
  used = shows.used;
  spelled = can_spell form r shows.valid (subst (MayTake form) shows.in_form may);
}

-- and so can parts while nothing is held
pub can_compact_rebuilt : (form : ℕ) (parts : Parts) (r : Rebuilt) → Rebuilds parts r → MayTake form parts.form → CanCompact form parts.ropes parts.interests.rows parts.blocks.holders parts.moment parts.next r
can_compact_rebuilt form parts r shows may = can_compact form parts r (used_alone parts r shows) may
