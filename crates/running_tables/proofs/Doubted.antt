-- States in which a change in doubt alone is held.
use Rattle.std.proofs.Common.{◌≡◌, ℕ, ◌==◌, true, ◌||◌, List, [], ◌∷◌, ◌++◌, map, flat_map, length, refl, sym, ◌∙◌, ap, subst, arith}
use Rattle.std.proofs.lemmas.Bool.{eqb-true}
use Rattle.std.proofs.lemmas.List.{append-nil, append_assoc}
use Rattle.voice_units.specs.Spots.{Spot, pieces_of, spots_of, spots_from, nowhere}
use Rattle.voice_units.specs.Blocks.{BlockPair, pairs_at, has_pair, blocks_for}
use Rattle.voice_units.proofs.PiecesOfRopes.{both, spots_of-runs}
use Rattle.voice_model.specs.Samples.{spot_of}
use Rattle.voice_model.specs.Changes.{with_rope}
use Rattle.voice_model.specs.Replay.{Placed, Phase, Rebuilt, used_pairs, still_used, new_places, placed_from, has_place, acted, may_be_recorded}
use Rattle.voice_model.specs.State.{Durable, Live}
use Rattle.voice_model.specs.Room.{held_by_doubt}
use Rattle.voice_model.specs.Valid.{Every}
use Rattle.voice_model.specs.Places.{Pairwise, OfOtherBlock, AtOtherAddress, IsPlaced}
use Rattle.voice_model.specs.declared.changes.Change.{Change}
use Rattle.voice_model.specs.declared.changes.Change.TheVariants as changes
use Rattle.voice_model.proofs.FitsOfCalls.{every_passed}
use Rattle.voice_model.proofs.Order.{every-split}
use Rattle.voice_model.proofs.PlacesKept.{placed_next, used_placed, has_pair-append}
use Rattle.voice_blocks.specs.declared.owner.Holder.{Holder}
use Rattle.rope_table.specs.Table.{pairs_in}
use Rattle.recovery.specs.declared.parts.Parts.{Parts}
use Rattle.recovery.proofs.Rebuilding.{all_stay_used, more_used}
use Rattle.recovery.proofs.Recordings.{all_used_recorded}
use Rattle.checkpoint.specs.Blocks.{IsHeld}
use Rattle.checkpoint.proofs.Held.{all_held}
use Rattle.running_tables.specs.Running.{is_wanted, Runs}
use Rattle.running_tables.specs.Laws as laws
use Rattle.running_tables.proofs.Begins.{some_is, one_of, one_address}
use Rattle.running_tables.proofs.Free.{place_given}
use Rattle.voice_blocks.proofs.Apart.{or_right}
use Rattle.running_tables.proofs.Quiet.{alone}

all_samples_with : (ropes : List (Live Spot)) (rope : Live Spot) → flat_map (λ (x : Live Spot). x.samples) (ropes ++ rope ∷ []) ≡ flat_map (λ (x : Live Spot). x.samples) ropes ++ rope.samples
all_samples_with [] rope = append-nil rope.samples
all_samples_with (x ∷ ropes) rope = ap (λ l. x.samples ++ l) (all_samples_with ropes rope) ∙ sym (append_assoc x.samples (flat_map (λ (y : Live Spot). y.samples) ropes) rope.samples)

-- the blocks that are used once a rope has come
pub used_with : (d : Durable Spot) (id : ℕ) (samples : List Spot) (q : BlockPair) → has_pair (used_pairs (with_rope d id samples)) q ≡ (has_pair (used_pairs d) q || has_pair (pairs_at d.shape.block samples) q)
used_with d id samples q =
    ap (λ l. has_pair (pairs_at d.shape.block l) q) (all_samples_with d.ropes (record { id = id; samples = samples; idle = d.moment; last = 0 }))
    ∙ has_pair-append d.shape.block (flat_map (λ (x : Live Spot). x.samples) d.ropes) samples q

-- the block of a change in doubt is that of its one rope
pledged_pairs : (block : ℕ) (samples : List Spot) → pairs_in block (pieces_of samples ∷ []) ≡ pairs_at block samples
pledged_pairs block samples = append-nil (pairs_at block (spots_of (pieces_of samples))) ∙ ap (pairs_at block) (spots_of-runs nowhere samples)

-- the places of a rope that may come stay, and the tables show what was rebuilt before it
pledged : (parts : Parts) (b : Rebuilt) (c : Change) (id : ℕ) (samples : List Spot) → laws.IsDoubted parts b c samples → (phase : Phase)
    → acted b c ≡ record b { kept = with_rope b.kept id samples; places = still_used (with_rope b.kept id samples) (b.places ++ new_places c); phase = phase }
    → still_used (with_rope b.kept id samples) (b.places ++ new_places c) ≡ b.places ++ new_places c
    → Runs [] (pieces_of samples ∷ []) [] parts b
pledged parts b c id samples h phase is stay =
    let after = with_rope b.kept id samples in
    let all = b.places ++ new_places c in
    let end : Rebuilt = record b { kept = with_rope b.kept id samples; places = still_used (with_rope b.kept id samples) (b.places ++ new_places c); phase = phase } in
    let next : IsPlaced end = subst IsPlaced is (placed_next b c h.placed h.legal h.grammar) in
    let once : Pairwise OfOtherBlock all = subst (Pairwise OfOtherBlock) stay next.once in
    let differ : Pairwise AtOtherAddress all = subst (Pairwise AtOtherAddress) stay next.differ in
    let used_all : Every (λ (p : Placed). has_pair (used_pairs after) p.pair ≡ true) all = subst (Every (λ (p : Placed). has_pair (used_pairs after) p.pair ≡ true)) stay (every_passed (λ (p : Placed). has_pair (used_pairs after) p.pair) all) in
    let held : Every (IsHeld parts.blocks.holders) all = all_held parts.blocks.holders b.shape.blocks all h.places differ in
    record {
      kept = h.shows;
      size = h.places.size;
      addresses = (every-split (IsHeld parts.blocks.holders) b.places (new_places c) held).0;
      given = record {
        only = λ a k e. let one = one_of (λ (p : Placed). has_pair (used_pairs after) p.pair ≡ true) all a k used_all (sym (h.places.each a) ∙ e) in
            subst (λ (x : Holder). is_wanted (used_pairs b.kept) (pairs_in b.shape.block (pieces_of samples ∷ [])) [] x.owner x.index ≡ true) one.2
            (ap (λ l. has_pair (used_pairs b.kept) one.0.pair || has_pair l one.0.pair) (pledged_pairs b.shape.block samples) ∙ sym (used_with b.kept id samples one.0.pair) ∙ one.1);
        single = λ a k x e f. one_address all a k x once (sym (h.places.each a) ∙ e) (sym (h.places.each k) ∙ f);
        passages = λ pair e.
            let come = ap (λ l. has_pair l pair) (sym (pledged_pairs b.shape.block samples)) ∙ e in
            let there = used_placed b.shape.block end.places end.ropes pair next.placed (used_with b.kept id samples pair ∙ or_right (has_pair (used_pairs b.kept) pair) (has_pair (pairs_at b.shape.block samples) pair) come) in
            place_given parts.blocks.holders all pair held (subst (λ l. has_place l pair ≡ true) stay there);
        recordings = λ lane index e. absurd (omega (arith, e));
      };
      below = tt;
      in_form = h.in_form;
      valid = h.valid;
      placed = h.placed;
      used = h.used;
    }

-- a recording has an address for each of its blocks
addresses_for : (b : Rebuilt) (id len : ℕ) (addresses : List ℕ) → may_be_recorded b id len addresses ≡ true → length addresses ≡ blocks_for b.shape.block len
addresses_for b id len addresses may = eqb-true (length addresses) (blocks_for b.shape.block len) (both _ _ (both _ _ (both _ _ may).0).0).1

recorded_stay : (parts : Parts) (b : Rebuilt) (c : Change) (samples : List Spot) → laws.IsDoubted parts b c samples → (id len : ℕ) (addresses : List ℕ) → may_be_recorded b id len addresses ≡ true → still_used (with_rope b.kept id (spots_from id 0 len)) (b.places ++ placed_from id 0 addresses) ≡ b.places ++ placed_from id 0 addresses
recorded_stay parts b c samples h id len addresses may =
    let some = b.shape.conditions.some_block in
    all_used_recorded b (with_rope b.kept id (spots_from id 0 len)) id len addresses (record { id = id; samples = spots_from id 0 len; idle = b.moment; last = 0 }) h.used (omega (arith, some)) (addresses_for b id len addresses may) refl refl

shown : (parts : Parts) (b : Rebuilt) (c : Change) (samples : List Spot) → laws.IsDoubted parts b c samples → Runs [] (pieces_of samples ∷ []) [] parts b
shown parts b (changes.Recorded id len addresses) samples h =
    let same : spots_from id 0 len ≡ samples = some_is h.rope in
    subst (λ l. Runs [] (pieces_of l ∷ []) [] parts b) same
    (pledged parts b (changes.Recorded id len addresses) id (spots_from id 0 len) (subst (laws.IsDoubted parts b (changes.Recorded id len addresses)) (sym same) h) Phase.Later refl
    (recorded_stay parts b (changes.Recorded id len addresses) samples h id len addresses (both (b.form == 1) (may_be_recorded b id len addresses) h.legal).1))
shown parts b (changes.Wide id len addresses) samples h =
    let same : spots_from id 0 len ≡ samples = some_is h.rope in
    subst (λ l. Runs [] (pieces_of l ∷ []) [] parts b) same
    (pledged parts b (changes.Wide id len addresses) id (spots_from id 0 len) (subst (laws.IsDoubted parts b (changes.Wide id len addresses)) (sym same) h) Phase.Later refl
    (recorded_stay parts b (changes.Wide id len addresses) samples h id len addresses (both (b.form == 2) (may_be_recorded b id len addresses) h.legal).1))
shown parts b (changes.Edited id pieces) samples h =
    let same : spots_of pieces ≡ samples = some_is h.rope in
    subst (λ l. Runs [] (pieces_of l ∷ []) [] parts b) same
    (pledged parts b (changes.Edited id pieces) id (spots_of pieces) (subst (laws.IsDoubted parts b (changes.Edited id pieces)) (sym same) h) Phase.Later refl
    (all_stay_used b (with_rope b.kept id (spots_of pieces)) h.used (λ pair k. more_used b.shape.block b.ropes (record { id = id; samples = spots_of pieces; idle = b.moment; last = 0 }) pair k) ∙ sym (append-nil b.places)))
shown parts b (changes.Retained class key id note) samples h = let e = h.rope in cc
shown parts b (changes.Forgotten class key) samples h = let e = h.rope in cc
shown parts b (changes.Census keys) samples h = let e = h.rope in cc
shown parts b (changes.Swept ids) samples h = let e = h.rope in cc
shown parts b (changes.Advanced moment) samples h = let e = h.rope in cc
shown parts b (changes.Base now next) samples h = let e = h.rope in cc
shown parts b (changes.Base2 now next) samples h = let e = h.rope in cc
shown parts b (changes.File file pairs) samples h = let e = h.rope in cc
shown parts b (changes.File2 file pairs) samples h = let e = h.rope in cc
shown parts b (changes.Rope id idle pieces) samples h = let e = h.rope in cc
shown parts b (changes.Rope2 id idle last pieces) samples h = let e = h.rope in cc

pub doubted : laws.Doubted
doubted parts b s c still h = alone parts b s still (shown parts b c (map spot_of (held_by_doubt s.doubt)) h)
