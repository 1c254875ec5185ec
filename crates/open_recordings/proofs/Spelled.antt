-- The change of an open recording that ends is legal and keeps the grammar.
use Rattle.std.proofs.Common.{◌≡◌, ◌⊎◌, inl, inr, ℕ, zero, suc, ◌+◌, ◌≤◌, ◌==◌, ◌^◌, Bool, true, false, not, ◌&&◌, ◌||◌, nat_lt, List, [], ◌∷◌, length, Option, Some, None, refl, sym, ◌∙◌, ap, arith, eq-eqb}
use Rattle.std.specs.Prelude.{is_some, nat_le}
use Rattle.std.specs.List.{list_all}
use Rattle.std.proofs.lemmas.Bool.{le-leb, eqb-true}
use Rattle.voice_units.specs.declared.pieces.Piece.{Piece}
use Rattle.voice_units.specs.Blocks.{has_pair, blocks_for}
use Rattle.voice_model.specs.Replay.{Placed, Rebuilt, is_legal, brings, used_pairs, may_be_recorded, all_differ, is_free_address, has_address}
use Rattle.voice_model.specs.Valid.{Every}
use Rattle.voice_model.specs.Spelling.{keeps_grammar}
use Rattle.voice_blocks.specs.Holders.{Holders, holder_at, block_of, of_owner}
use Rattle.voice_blocks.specs.declared.owner.Owner.TheVariants.{File, Taking}
use Rattle.voice_blocks.specs.declared.owner.Holder.{Holder}
use Rattle.checkpoint.specs.Blocks.{IsHeld}
use Rattle.recovery.specs.declared.parts.Parts.{Parts}
use Rattle.recovery.specs.Placing.{is_open}
use Rattle.recovery.proofs.Addresses.{open_at}
use Rattle.recovery.proofs.Rebuilding.{is_below, filter_all}
use Rattle.running_tables.specs.Running.{Runs}
use Rattle.next_ropes.specs.Ready.{recorded_change}
use Rattle.next_ropes.proofs.Spelled.{recording_spelled}
use Rattle.open_recordings.specs.Blocks.{AreAt, AreAddresses}
use Rattle.open_recordings.proofs.Listed.{held_differ, held_below}
use Rattle.open_recordings.proofs.Pledged.{either}

join : (a b : Bool) → a ≡ true → b ≡ true → (a && b) ≡ true
join a b e f = ap (λ x. x && b) e ∙ f

-- ---- the addresses are free for a file

abbrev kind_in : Option Holder → ℕ
kind_in None = 2
kind_in (Some h) = of_owner h.owner

-- no file has an address that a recording holds
not_placed : (hs : Holders) (places : List Placed) (lane index a : ℕ) → Every (IsHeld hs) places → holder_at hs a ≡ Some (block_of (Taking lane) index) → has_address places a ≡ false
not_placed hs [] lane index a held e = refl
not_placed hs (p ∷ places) lane index a held e = by (p.address == a) refl (not_placed hs places lane index a held.1 e)
  where
    by : (t : Bool) → (p.address == a) ≡ t → has_address places a ≡ false → (t || has_address places a) ≡ false
    by true i rest =
        let both : Some (block_of (File p.pair.file) p.pair.index) ≡ Some (block_of (Taking lane) index) = sym held.0 ∙ ap (holder_at hs) (eqb-true p.address a i) ∙ e in
        let kinds = ap kind_in both in
        absurd (omega (arith, kinds))
    by false i rest = rest

module _ (held pledged : List (List Piece)) (takings : List ℕ) (parts : Parts) (b : Rebuilt) (runs : Runs held pledged takings parts b) (lane : ℕ) where
  address_free : (a index : ℕ) → holder_at parts.blocks.holders a ≡ Some (block_of (Taking lane) index) → is_free_address b a ≡ true
  address_free a index e =
      let below = held_below parts.blocks.holders a (block_of (Taking lane) index) e in
      let size = runs.size in
      join (nat_lt a b.shape.blocks) _ (is_below a b.shape.blocks (omega (arith, below, size)))
      (ap (λ l. not (has_address l a)) (filter_all (λ (place : Placed). has_pair (used_pairs b.kept) place.pair) b.places runs.used)
      ∙ ap not (not_placed parts.blocks.holders b.places lane index a runs.addresses e))

  all_free : (index : ℕ) (addresses : List ℕ) → AreAt parts.blocks.holders (Taking lane) index addresses → list_all (is_free_address b) addresses ≡ true
  all_free index [] h = refl
  all_free index (a ∷ rest) h = join (is_free_address b a) _ (address_free a index h.0) (all_free (index + 1) rest h.1)

  pub may_end : (len : ℕ) (addresses : List ℕ) → AreAddresses parts.blocks.holders (Taking lane) 0 (blocks_for b.shape.block len) addresses → may_be_recorded b b.next len addresses ≡ true
  may_end len addresses h =
      join _ (list_all (is_free_address b) addresses)
      (join _ (all_differ addresses)
      (join (nat_le b.next b.next) _ (le-leb b.next b.next (omega arith)) (eq-eqb (length addresses) (blocks_for b.shape.block len) h.many))
      (held_differ parts.blocks.holders (Taking lane) 0 addresses h.each))
      (all_free 0 addresses h.each)

-- ---- its kind

pub kind_of : (w : Bool) (id len : ℕ) (addresses : List ℕ) → is_some (brings (either w id len addresses)) ≡ true
kind_of true id len addresses = refl
kind_of false id len addresses = refl

pub legal_of : (b : Rebuilt) (w : Bool) (id len : ℕ) (addresses : List ℕ) → (b.form == 2) ≡ w → (b.form ≡ 1) ⊎ (b.form ≡ 2) → may_be_recorded b id len addresses ≡ true → is_legal b (either w id len addresses) ≡ true
legal_of b true id len addresses e forms may = join (b.form == 2) _ e may
legal_of b false id len addresses e (inl one) may = join (b.form == 1) _ (eq-eqb b.form 1 one) may
legal_of b false id len addresses e (inr two) may = let bad : true ≡ false = sym (eq-eqb b.form 2 two) ∙ e in cc

-- ---- its grammar

-- a map of so many free addresses
abbrev nobody : ℕ → Holders
nobody zero = []
nobody (suc n) = None ∷ nobody n

size_of : (n : ℕ) → length (nobody n) ≡ n
size_of zero = refl
size_of (suc n) = ap suc (size_of n)

none_at : (n a : ℕ) → holder_at (nobody n) a ≡ None
none_at zero a = refl
none_at (suc n) zero = refl
none_at (suc n) (suc a) = none_at n a

-- the addresses are those of the disk
all_within : (hs : Holders) (lane index n : ℕ) (addresses : List ℕ) → length hs ≡ n → AreAt hs (Taking lane) index addresses → list_all (is_open (nobody n)) addresses ≡ true
all_within hs lane index n [] size h = refl
all_within hs lane index n (a ∷ rest) size h =
    let below = held_below hs a (block_of (Taking lane) index) h.0 in
    let all = size_of n in
    join (is_open (nobody n) a) _ (open_at (nobody n) a (omega (arith, below, size, all)) (none_at n a)) (all_within hs lane (index + 1) n rest size h.1)

pub end_grammar : (held pledged : List (List Piece)) (takings : List ℕ) (parts : Parts) (b : Rebuilt) (lane len : ℕ) (addresses : List ℕ) → Runs held pledged takings parts b → b.next ≤ 2 ^ 48 → len ≤ 2 ^ 30
    → AreAddresses parts.blocks.holders (Taking lane) 0 (blocks_for b.shape.block len) addresses → keeps_grammar (recorded_change b.form b.next len addresses) ≡ true
end_grammar held pledged takings parts b lane len addresses runs number long h =
    recording_spelled b (nobody b.shape.blocks) len addresses runs.valid number long (size_of b.shape.blocks) h.many (all_within parts.blocks.holders lane 0 b.shape.blocks addresses runs.size h.each)
