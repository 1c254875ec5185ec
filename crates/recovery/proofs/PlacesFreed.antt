-- The places that stay as blocks are freed.
use Rattle.std.proofs.Common.{◌≡◌, ℕ, zero, suc, ◌==◌, Bool, true, false, cond, not, nat_lt, List, [], ◌∷◌, ◌++◌, Some, None, refl, sym, ◌∙◌, ap, arith}
use Rattle.std.specs.Prelude.{filter}
use Rattle.std.proofs.lemmas.List.{append-nil}
use Rattle.std.proofs.lemmas.Bool.{eqb-true}
use Rattle.voice_units.specs.declared.pieces.Piece.{Piece}
use Rattle.voice_units.specs.Spots.{Spot}
use Rattle.voice_units.specs.Blocks.{has_pair}
use Rattle.voice_model.specs.State.{Durable}
use Rattle.voice_model.specs.Replay.{Placed, still_used, used_pairs}
use Rattle.voice_model.specs.Valid.{Every}
use Rattle.voice_model.specs.Places.{Pairwise, AtOtherAddress}
use Rattle.voice_model.specs.declared.calls.Row.{Row}
use Rattle.voice_model.proofs.KeptByChanges.{every-imply, every-filter}
use Rattle.voice_blocks.specs.Holders.{block_of}
use Rattle.voice_blocks.specs.declared.owner.Owner.TheVariants.{File}
use Rattle.voice_blocks.specs.declared.owner.Holder.{Holder}
use Rattle.rope_table.specs.Table.{Table, uses_at}
use Rattle.recovery.specs.Shown.{ShowsKept, placed_at}
use Rattle.recovery.specs.Placing.{in_use}
use Rattle.recovery.proofs.Ropes.{not_equal}
use Rattle.recovery.proofs.Showing.{used_shown}

holder_of : Placed → Holder
holder_of p = block_of (File p.pair.file) p.pair.index

-- nothing else lies at the address of a place
pub none_at : (places : List Placed) (p : Placed) (a : ℕ) → p.address ≡ a → Every (AtOtherAddress p) places → placed_at places a ≡ None
none_at [] p a e h = refl
none_at (q ∷ places) p a e h = ap (λ b. cond b (Some (block_of (File q.pair.file) q.pair.index)) (placed_at places a)) (not_equal q.address a (λ k. h.0 (e ∙ sym k))) ∙ none_at places p a e h.1

-- an address whose blocks are all in use
pub all_in_use : (t : Table) (places : List Placed) (a : ℕ) → Every (λ place. (uses_at t place.pair == 0) ≡ false) places → in_use t (placed_at places a) ≡ placed_at places a
all_in_use t [] a h = refl
all_in_use t (p ∷ places) a h = by_test (p.address == a) (all_in_use t places a h.1)
  where
    by_test : (b : Bool) → in_use t (placed_at places a) ≡ placed_at places a → in_use t (cond b (Some (block_of (File p.pair.file) p.pair.index)) (placed_at places a)) ≡ cond b (Some (block_of (File p.pair.file) p.pair.index)) (placed_at places a)
    by_test true rest = ap (λ b. cond b None (Some (block_of (File p.pair.file) p.pair.index))) h.0
    by_test false rest = rest

-- the places of blocks in use
pub places_in_use : (t : Table) (keep : Placed → Bool) → ((p : Placed) → keep p ≡ not (uses_at t p.pair == 0)) → (places : List Placed) (a : ℕ) → Pairwise AtOtherAddress places → in_use t (placed_at places a) ≡ placed_at (filter keep places) a
places_in_use t keep is [] a h = refl
places_in_use t keep is (p ∷ places) a h = by_test (p.address == a) refl (keep p) (uses_at t p.pair == 0) refl refl (is p) (places_in_use t keep is places a h.1)
  where
    block : Holder
    block = block_of (File p.pair.file) p.pair.index

    kept : (k b : Bool) → keep p ≡ k → (p.address == a) ≡ b → placed_at (filter keep (p ∷ places)) a ≡ placed_at (cond k (p ∷ filter keep places) (filter keep places)) a
    kept k b e f = ap (λ k. placed_at (cond k (p ∷ filter keep places) (filter keep places)) a) e

    by_test : (b : Bool) → (p.address == a) ≡ b → (k z : Bool) → keep p ≡ k → (uses_at t p.pair == 0) ≡ z → keep p ≡ not (uses_at t p.pair == 0) → in_use t (placed_at places a) ≡ placed_at (filter keep places) a
        → in_use t (placed_at (p ∷ places) a) ≡ placed_at (filter keep (p ∷ places)) a
    by_test true e true true f g both rest = let bad : true ≡ false = sym f ∙ both ∙ ap not g in cc
    by_test true e false false f g both rest = let bad : false ≡ true = sym f ∙ both ∙ ap not g in cc
    by_test true e true false f g both rest =
        ap (λ b. in_use t (cond b (Some block) (placed_at places a))) e ∙ ap (λ b. cond b None (Some block)) g
        ∙ sym (kept true true f e ∙ ap (λ b. cond b (Some block) (placed_at (filter keep places) a)) e)
    by_test true e false true f g both rest =
        ap (λ b. in_use t (cond b (Some block) (placed_at places a))) e ∙ ap (λ b. cond b None (Some block)) g
        ∙ sym (kept false true f e ∙ none_at (filter keep places) p a (eqb-true p.address a e) (every-filter (AtOtherAddress p) keep places h.0))
    by_test false e true z f g both rest =
        ap (λ b. in_use t (cond b (Some block) (placed_at places a))) e ∙ rest ∙ sym (kept true false f e ∙ ap (λ b. cond b (Some block) (placed_at (filter keep places) a)) e)
    by_test false e false z f g both rest = ap (λ b. in_use t (cond b (Some block) (placed_at places a))) e ∙ rest ∙ sym (kept false false f e)

some_uses : (n : ℕ) → not (n == 0) ≡ nat_lt 0 n
some_uses zero = refl
some_uses (suc n) = grind arith

no_zero : (n : ℕ) → nat_lt 0 n ≡ true → (n == 0) ≡ false
no_zero zero e = cc
no_zero (suc n) e = grind arith

-- blocks of live ropes are in use
pub places_used : (d : Durable Spot) (t : Table) (rows : List Row) (moment next : ℕ) (places : List Placed) → ShowsKept [] t rows moment next d → Every (λ place. has_pair (used_pairs d) place.pair ≡ true) places → Every (λ place. (uses_at t place.pair == 0) ≡ false) places
places_used d t rows moment next places h used =
    every-imply (λ (place : Placed). has_pair (used_pairs d) place.pair ≡ true) (λ (place : Placed). (uses_at t place.pair == 0) ≡ false)
    (λ place e. no_zero (uses_at t place.pair) (used_shown d t rows moment next h place.pair ∙ e)) places used

-- the places that a sweep leaves
pub places_left : (d : Durable Spot) (t : Table) (rows : List Row) (moment next : ℕ) (places : List Placed) (a : ℕ) → ShowsKept [] t rows moment next d → Pairwise AtOtherAddress places → in_use t (placed_at places a) ≡ placed_at (still_used d (places ++ [])) a
places_left d t rows moment next places a h apart =
    places_in_use t (λ place. has_pair (used_pairs d) place.pair) (λ place. sym (some_uses (uses_at t place.pair) ∙ used_shown d t rows moment next h place.pair)) places a apart
    ∙ ap (λ l. placed_at (still_used d l) a) (sym (append-nil places))

-- the rest is as before
pub moved_shown : (held : List (List Piece)) (t : Table) (rows others : List Row) (moment later next other : ℕ) (d : Durable Spot) → ShowsKept held t rows moment next d → others ≡ rows → later ≡ moment → other ≡ next → ShowsKept held t others later other d
moved_shown held t rows others moment later next other d h r m n = record { block = h.block; ropes = h.ropes; uses = h.uses; rows = r ∙ h.rows; moment = m ∙ h.moment; next = n ∙ h.next }
