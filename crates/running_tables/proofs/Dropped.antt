-- Blocks that were pledged, or of an open recording, get free.
use Rattle.std.proofs.Common.{◌≡◌, ℕ, ◌<◌, ◌≤◌, ◌==◌, Bool, true, false, ◌||◌, cond, List, [], ◌∷◌, ◌++◌, Option, Some, None, refl, sym, ◌∙◌, ap, subst, arith}
use Rattle.std.proofs.lemmas.Bool.{eqb-true, eq-eqb}
use Rattle.std.specs.Prelude.{nat_lt}
use Rattle.voice_units.specs.Spots.{spots_of}
use Rattle.voice_units.specs.Blocks.{BlockPair, pairs_at, has_pair}
use Rattle.voice_units.specs.declared.pieces.Piece.{Piece}
use Rattle.voice_model.specs.Replay.{Placed, Rebuilt, used_pairs}
use Rattle.voice_model.specs.Valid.{Every}
use Rattle.voice_model.specs.Places.{IsInRange}
use Rattle.voice_model.proofs.KeptByChanges.{every-imply}
use Rattle.voice_model.proofs.Order.{every-both}
use Rattle.voice_blocks.specs.Holders.{Holders, EachBecomes, holder_at, block_of, same_owner, without_owner}
use Rattle.voice_blocks.specs.declared.owner.Owner.{Owner}
use Rattle.voice_blocks.specs.declared.owner.Owner.TheVariants.{File, Taking}
use Rattle.voice_blocks.specs.declared.owner.Holder.{Holder}
use Rattle.rope_table.specs.Table.{pairs_in, pair_of}
use Rattle.recovery.specs.declared.parts.Parts.{Parts}
use Rattle.recovery.specs.Shown.{Shows}
use Rattle.checkpoint.specs.Blocks.{IsHeld}
use Rattle.running_tables.specs.Running.{taken, is_wanted, GivesJust, Runs}
use Rattle.running_tables.specs.Laws as laws
use Rattle.running_tables.proofs.Begins.{some_is}
use Rattle.voice_blocks.proofs.Apart.{either_way, or_left, or_right, has_append}
use Rattle.running_tables.proofs.Passages.{pairs_after}
use Rattle.running_tables.proofs.Ended.{with_pledge}
use Rattle.running_tables.proofs.Recounted.{one_has}

pub apart : (m n : ℕ) → ¬ (m ≡ n) → (m == n) ≡ false
apart m n differ = by (m == n) refl
  where
    by : (t : Bool) → (m == n) ≡ t → t ≡ false
    by true e = absurd (differ (eqb-true m n e))
    by false e = refl

-- what is held after it was held before, by another
was_of_other : (owner : Owner) (o : Option Holder) (h : Holder) → without_owner owner o ≡ Some h → (o ≡ Some h) × (same_owner owner h.owner ≡ false)
was_of_other owner None h e = cc
was_of_other owner (Some g) h e = by (same_owner owner g.owner) refl
  where
    by : (t : Bool) → same_owner owner g.owner ≡ t → (Some g ≡ Some h) × (same_owner owner h.owner ≡ false)
    by true k = let none : None ≡ Some h = sym (ap (λ t. cond t None (Some g)) k) ∙ e in cc
    by false k =
        let same : Some g ≡ Some h = sym (ap (λ t. cond t None (Some g)) k) ∙ e in
        (same, subst (λ (x : Holder). same_owner owner x.owner ≡ false) (some_is same) k)

-- and what another holds stays
stays_other : (owner : Owner) (o : Option Holder) (h : Holder) → o ≡ Some h → same_owner owner h.owner ≡ false → without_owner owner o ≡ Some h
stays_other owner o h e k = ap (without_owner owner) e ∙ ap (λ t. cond t None (Some h)) k

module _ (owner : Owner) (pairs others less : List BlockPair) (takings more : List ℕ) (old new : Holders)
    (becomes : EachBecomes (without_owner owner) old new)
    (still : (o : Owner) (index : ℕ) → is_wanted pairs others takings o index ≡ true → same_owner owner o ≡ false → is_wanted pairs less more o index ≡ true)
    (fewer : (q : BlockPair) → has_pair less q ≡ true → (has_pair others q ≡ true) × (same_owner owner (File q.file) ≡ false))
    (taking : (lane index : ℕ) → index < taken more lane → (index < taken takings lane) × (same_owner owner (Taking lane) ≡ false))
    (gives : GivesJust old pairs others takings) where
  was : (a : ℕ) (h : Holder) → holder_at new a ≡ Some h → (holder_at old a ≡ Some h) × (same_owner owner h.owner ≡ false)
  was a h e = was_of_other owner (holder_at old a) h (sym (becomes.each a) ∙ e)

  stays : (a : ℕ) (h : Holder) → holder_at old a ≡ Some h → same_owner owner h.owner ≡ false → holder_at new a ≡ Some h
  stays a h e k = becomes.each a ∙ stays_other owner (holder_at old a) h e k

  gives_without : GivesJust new pairs less more
  gives_without = record {
    only = λ a h e. let k = was a h e in still h.owner h.index (gives.only a h k.0) k.1;
    single = λ a c h e k. gives.single a c h (was a h e).0 (was c h k).0;
    passages = λ q e.
        let k = fewer q e in
        let at = gives.passages q k.0 in
        (at.0, stays at.0 (block_of (File q.file) q.index) at.1 k.1);
    recordings = λ lane index e.
        let k = taking lane index e in
        let at = gives.recordings lane index k.0 in
        (at.0, stays at.0 (block_of (Taking lane) index) at.1 k.1);
  }

  still_held : (places : List Placed) → Every (IsHeld old) places → Every (λ (p : Placed). same_owner owner (File p.pair.file) ≡ false) places → Every (IsHeld new) places
  still_held places held differ =
      every-imply (λ (p : Placed). IsHeld old p × (same_owner owner (File p.pair.file) ≡ false)) (IsHeld new)
      (λ p h. stays p.address (block_of (File p.pair.file) p.pair.index) h.0 h.1)
      places (every-both (IsHeld old) (λ (p : Placed). same_owner owner (File p.pair.file) ≡ false) places held differ)

-- ---- an open recording is given up

each_of_file : (lane : ℕ) (places : List Placed) → Every (λ (p : Placed). same_owner (Taking lane) (File p.pair.file) ≡ false) places
each_of_file lane [] = tt
each_of_file lane (p ∷ places) = (refl, each_of_file lane places)

pub given_up : laws.GivenUp
given_up held pledged takings more old new b lane runs shows form becomes ends =
    let pairs = used_pairs b.kept in
    let others = pairs_in b.shape.block (held ++ pledged) in
    record {
      kept = shows;
      size = becomes.count ∙ runs.size;
      addresses = still_held (Taking lane) pairs others others takings more old.blocks.holders new.blocks.holders becomes (still pairs others) (λ q e. (e, refl)) still_taking runs.given b.places runs.addresses (each_of_file lane b.places);
      given = gives_without (Taking lane) pairs others others takings more old.blocks.holders new.blocks.holders becomes (still pairs others) (λ q e. (e, refl)) still_taking runs.given;
      below = runs.below;
      in_form = form ∙ runs.in_form;
      valid = runs.valid;
      placed = runs.placed;
      used = runs.used;
    }
  where
    still : (pairs others : List BlockPair) (o : Owner) (index : ℕ) → is_wanted pairs others takings o index ≡ true → same_owner (Taking lane) o ≡ false → is_wanted pairs others more o index ≡ true
    still pairs others (File f) index e other = e
    still pairs others (Taking l) index e other = ap (nat_lt index) (ends.elsewhere l (λ i. let t = eq-eqb lane l (sym i) in cc)) ∙ e

    still_taking : (other index : ℕ) → index < taken more other → (index < taken takings other) × ((lane == other) ≡ false)
    still_taking other index less = by (lane == other) refl
      where
        by : (t : Bool) → (lane == other) ≡ t → (index < taken takings other) × ((lane == other) ≡ false)
        by true k =
            let none : index < taken more lane = subst (λ l. index < taken more l) (sym (eqb-true lane other k)) less in
            let here = ends.here in
            absurd (omega (arith, none, here))
        by false k =
            let same = ends.elsewhere other (λ i. let t = eq-eqb lane other (sym i) in cc) in
            (omega (arith, less, same), k)

-- ---- a recording is given back

not_of_file : (next file blocks : ℕ) (places : List Placed) → next ≤ file → Every (IsInRange next blocks) places → Every (λ (p : Placed). (file == p.pair.file) ≡ false) places
not_of_file next file blocks [] le h = tt
not_of_file next file blocks (p ∷ places) le h = (apart file p.pair.file (λ e. let below = h.0.known in absurd (omega (arith, le, below, e))), not_of_file next file blocks places le h.1)

module _ (held pledged : List (List Piece)) (takings : List ℕ) (old : Parts) (b : Rebuilt) (file : ℕ) (pieces : List Piece)
    (runs : Runs held (pieces ∷ pledged) takings old b) (is_new : laws.IsNewFile b.next b.shape.block file pieces pledged) where
  abbrev pairs : List BlockPair
  pairs = used_pairs b.kept

  abbrev mine : List BlockPair
  mine = pairs_at b.shape.block (spots_of pieces)

  abbrev others : List BlockPair
  others = pairs_in b.shape.block (held ++ pieces ∷ pledged)

  abbrev less : List BlockPair
  less = pairs_in b.shape.block (held ++ pledged)

  still : (o : Owner) (index : ℕ) → is_wanted pairs others takings o index ≡ true → same_owner (File file) o ≡ false → is_wanted pairs less takings o index ≡ true
  still (File f) index e other =
      either_way (has_pair pairs (pair_of f index)) (has_pair others (pair_of f index))
      (λ k. or_left (has_pair pairs (pair_of f index)) (has_pair less (pair_of f index)) k)
      (λ k. or_right (has_pair pairs (pair_of f index)) (has_pair less (pair_of f index))
      (either_way (has_pair mine (pair_of f index)) (has_pair less (pair_of f index))
      (λ i. let same = is_new.of_file (pair_of f index) i in let t = eq-eqb file f (sym same) in cc)
      (λ i. i)
      (sym (with_pledge b.shape.block held pledged pieces (pair_of f index)) ∙ k))) e
  still (Taking lane) index e other = e

  fewer : (q : BlockPair) → has_pair less q ≡ true → (has_pair others q ≡ true) × ((file == q.file) ≡ false)
  fewer q e = (
    with_pledge b.shape.block held pledged pieces q ∙ or_right (has_pair mine q) (has_pair less q) e,
    apart file q.file (λ same. either_way (has_pair (pairs_in b.shape.block held) q) (has_pair (pairs_in b.shape.block pledged) q)
        (λ k. let below = one_has (λ pair. pair.file < b.next) (pairs_in b.shape.block held) q runs.below k in let above = is_new.above in absurd (omega (arith, below, above, same)))
        (λ k. absurd (is_new.alone q k (sym same)))
        (sym (ap (λ l. has_pair l q) (pairs_after b.shape.block held pledged) ∙ has_append (pairs_in b.shape.block held) (pairs_in b.shape.block pledged) q) ∙ e)),
  )

  back : (new : Parts) → Shows held new b.kept → new.form ≡ old.form → EachBecomes (without_owner (File file)) old.blocks.holders new.blocks.holders → Runs held pledged takings new b
  back new shows form becomes = record {
    kept = shows;
    size = becomes.count ∙ runs.size;
    addresses = still_held (File file) pairs others less takings takings old.blocks.holders new.blocks.holders becomes still fewer (λ lane index e. (e, refl)) runs.given b.places runs.addresses (not_of_file b.next file b.shape.blocks b.places is_new.above runs.placed.ranges);
    given = gives_without (File file) pairs others less takings takings old.blocks.holders new.blocks.holders becomes still fewer (λ lane index e. (e, refl)) runs.given;
    below = runs.below;
    in_form = form ∙ runs.in_form;
    valid = runs.valid;
    placed = runs.placed;
    used = runs.used;
  }

pub given_back : laws.GivenBack
given_back held pledged takings old new b file pieces runs is_new shows form becomes = back held pledged takings old b file pieces runs is_new new shows form becomes

-- ---- of pledged pieces it matters only which blocks they have

pub repledged : laws.Repledged
repledged held pledged others takings parts b alike runs = record {
  kept = runs.kept;
  size = runs.size;
  addresses = runs.addresses;
  given = record {
    only = λ a h e. wanted h.owner h.index (runs.given.only a h e);
    single = runs.given.single;
    passages = λ q e. runs.given.passages q (sym (same q) ∙ e);
    recordings = runs.given.recordings;
  };
  below = runs.below;
  in_form = runs.in_form;
  valid = runs.valid;
  placed = runs.placed;
  used = runs.used;
}
  where
    same : (q : BlockPair) → has_pair (pairs_in b.shape.block (held ++ others)) q ≡ has_pair (pairs_in b.shape.block (held ++ pledged)) q
    same q =
        ap (λ l. has_pair l q) (pairs_after b.shape.block held others)
        ∙ has_append (pairs_in b.shape.block held) (pairs_in b.shape.block others) q
        ∙ ap (λ t. has_pair (pairs_in b.shape.block held) q || t) (alike q)
        ∙ sym (ap (λ l. has_pair l q) (pairs_after b.shape.block held pledged) ∙ has_append (pairs_in b.shape.block held) (pairs_in b.shape.block pledged) q)

    wanted : (o : Owner) (index : ℕ) → is_wanted (used_pairs b.kept) (pairs_in b.shape.block (held ++ pledged)) takings o index ≡ true → is_wanted (used_pairs b.kept) (pairs_in b.shape.block (held ++ others)) takings o index ≡ true
    wanted (File f) index e = ap (λ t. has_pair (used_pairs b.kept) (pair_of f index) || t) (same (pair_of f index)) ∙ e
    wanted (Taking lane) index e = e
