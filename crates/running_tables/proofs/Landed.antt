-- A change acts: its rope becomes live, or rows or the moment change.
use Rattle.std.proofs.Common.{◌≡◌, ℕ, ◌+◌, ◌<◌, ◌≤◌, ◌==◌, Bool, true, false, ◌||◌, List, [], length, ◌∷◌, ◌++◌, refl, sym, ◌∙◌, ap, subst, arith}
use Rattle.std.proofs.lemmas.Bool.{leb-true}
use Rattle.voice_units.specs.Spots.{Spot, pieces_of, spots_of, spots_from, nowhere}
use Rattle.voice_units.specs.Blocks.{BlockPair, pairs_at, has_pair}
use Rattle.voice_units.specs.declared.pieces.Piece.{Piece}
use Rattle.voice_units.specs.declared.shapes.Shape.{Shape}
use Rattle.voice_units.proofs.PiecesOfRopes.{both, spots_of-runs}
use Rattle.voice_model.specs.Changes.{with_rope}
use Rattle.voice_model.specs.State.{Durable, class_number, with_rows}
use Rattle.voice_model.specs.declared.calls.Row.{Row}
use Rattle.voice_model.specs.Spelling.{keeps_grammar}
use Rattle.voice_model.specs.Replay.{Placed, Phase, Rebuilt, used_pairs, still_used, new_places, acted, is_legal, may_be_recorded}
use Rattle.voice_model.specs.Valid.{Every, IsRebuilt}
use Rattle.voice_model.specs.Places.{IsPlaced}
use Rattle.voice_model.specs.declared.changes.Change.{Change}
use Rattle.voice_model.specs.declared.changes.Change.TheVariants as changes
use Rattle.voice_model.proofs.KeptByChanges.{every-append, every-filter, every-imply}
use Rattle.voice_model.proofs.FitsOfCalls.{every_passed}
use Rattle.voice_model.proofs.PlacesKept.{placed_next}
use Rattle.voice_model.proofs.StatesOfReplay.{rebuilt_next}
use Rattle.voice_blocks.specs.declared.owner.Owner.{Owner}
use Rattle.voice_blocks.specs.declared.owner.Owner.TheVariants.{File, Taking}
use Rattle.rope_table.specs.Table.{pairs_in, pair_of}
use Rattle.recovery.specs.declared.parts.Parts.{Parts}
use Rattle.recovery.specs.Shown.{Shows, plain_sample}
use Rattle.recovery.proofs.Rebuilding.{same_samples, all_stay_used}
use Rattle.checkpoint.specs.Blocks.{IsHeld}
use Rattle.running_tables.specs.Running.{is_wanted, GivesJust, Runs}
use Rattle.running_tables.specs.Laws as laws
use Rattle.running_tables.proofs.Begins.{some_is}
use Rattle.voice_blocks.proofs.Apart.{or_right}
use Rattle.running_tables.proofs.Ended.{with_pledge}
use Rattle.running_tables.proofs.Doubted.{used_with}

-- a rope has just the blocks of its samples
piece_blocks : (block : ℕ) (samples : List Spot) (q : BlockPair) → has_pair (pairs_at block (spots_of (pieces_of samples))) q ≡ has_pair (pairs_at block samples) q
piece_blocks block samples q = ap (λ l. has_pair (pairs_at block l) q) (spots_of-runs nowhere samples)

together : (used mine others : Bool) → (used || (mine || others)) ≡ true → ((used || mine) || others) ≡ true
together true mine others e = refl
together false mine others e = e

-- ---- a rope becomes live

module _ (held pledged : List (List Piece)) (takings : List ℕ) (old new : Parts) (b : Rebuilt) (c : Change) (id : ℕ) (samples : List Spot)
    (runs : Runs held (pieces_of samples ∷ pledged) takings old b) (legal : is_legal b c ≡ true) (grammar : keeps_grammar c ≡ true)
    (own : Every (IsHeld old.blocks.holders) (new_places c)) (form : new.form ≡ old.form) (map : new.blocks.holders ≡ old.blocks.holders) (above : b.next ≤ id) where
  abbrev after : Durable Spot
  after = with_rope b.kept id samples

  abbrev end : Rebuilt
  end = record b { kept = with_rope b.kept id samples; places = still_used (with_rope b.kept id samples) (b.places ++ new_places c); phase = Phase.Later }

  abbrev others : List BlockPair
  others = pairs_in b.shape.block (held ++ pieces_of samples ∷ pledged)

  abbrev less : List BlockPair
  less = pairs_in b.shape.block (held ++ pledged)

  alike : (q : BlockPair) → has_pair others q ≡ (has_pair (pairs_at b.shape.block samples) q || has_pair less q)
  alike q = with_pledge b.shape.block held pledged (pieces_of samples) q ∙ ap (λ t. t || has_pair less q) (piece_blocks b.shape.block samples q)

  still : (o : Owner) (index : ℕ) → is_wanted (used_pairs b.kept) others takings o index ≡ true → is_wanted (used_pairs after) less takings o index ≡ true
  still (File f) index e =
      ap (λ t. t || has_pair less (pair_of f index)) (used_with b.kept id samples (pair_of f index))
      ∙ together (has_pair (used_pairs b.kept) (pair_of f index)) (has_pair (pairs_at b.shape.block samples) (pair_of f index)) (has_pair less (pair_of f index))
      (sym (ap (λ t. has_pair (used_pairs b.kept) (pair_of f index) || t) (alike (pair_of f index))) ∙ e)
  still (Taking lane) index e = e

  becomes_live : acted b c ≡ end → Shows held new after → Runs held pledged takings new (acted b c)
  becomes_live is shows =
      let valid : IsRebuilt plain_sample end = subst (IsRebuilt plain_sample) is (rebuilt_next plain_sample (λ s. refl) b c runs.valid legal grammar) in
      let placed : IsPlaced end = subst IsPlaced is (placed_next b c runs.placed legal grammar) in
      let held_all : Every (IsHeld old.blocks.holders) (b.places ++ new_places c) = every-append (IsHeld old.blocks.holders) b.places (new_places c) runs.addresses own in
      subst (Runs held pledged takings new) (sym is)
      (record {
        kept = shows;
        size = ap length map ∙ runs.size;
        addresses = subst (λ hs. Every (IsHeld hs) end.places) (sym map)
            (every-filter (IsHeld old.blocks.holders) (λ (p : Placed). has_pair (used_pairs after) p.pair) (b.places ++ new_places c) held_all);
        given = subst (λ hs. GivesJust hs (used_pairs after) less takings) (sym map)
            (record {
              only = λ a h e. still h.owner h.index (runs.given.only a h e);
              single = runs.given.single;
              passages = λ q e. runs.given.passages q (alike q ∙ or_right (has_pair (pairs_at b.shape.block samples) q) (has_pair less q) e);
              recordings = runs.given.recordings;
            });
        below = every-imply (λ (pair : BlockPair). pair.file < b.next) (λ (pair : BlockPair). pair.file < id + 1) (λ pair k. omega (arith, k, above)) (pairs_in b.shape.block held) runs.below;
        in_form = form ∙ runs.in_form;
        valid = valid;
        placed = placed;
        used = every_passed (λ (p : Placed). has_pair (used_pairs after) p.pair) (b.places ++ new_places c);
      })

-- a recording comes next
comes_next : (b : Rebuilt) (id len : ℕ) (addresses : List ℕ) → may_be_recorded b id len addresses ≡ true → b.next ≤ id
comes_next b id len addresses may = leb-true b.next id (both _ _ (both _ _ (both _ _ may).0).0).0

pub landed : laws.Landed
landed held pledged takings old new b (changes.Recorded id len addresses) samples runs legal grammar rope own shows form map =
    let same : spots_from id 0 len ≡ samples = some_is rope in
    becomes_live held pledged takings old new b (changes.Recorded id len addresses) id (spots_from id 0 len) (subst (λ l. Runs held (pieces_of l ∷ pledged) takings old b) (sym same) runs) legal grammar own form map
    (comes_next b id len addresses (both (b.form == 1) (may_be_recorded b id len addresses) legal).1) refl shows
landed held pledged takings old new b (changes.Wide id len addresses) samples runs legal grammar rope own shows form map =
    let same : spots_from id 0 len ≡ samples = some_is rope in
    becomes_live held pledged takings old new b (changes.Wide id len addresses) id (spots_from id 0 len) (subst (λ l. Runs held (pieces_of l ∷ pledged) takings old b) (sym same) runs) legal grammar own form map
    (comes_next b id len addresses (both (b.form == 2) (may_be_recorded b id len addresses) legal).1) refl shows
landed held pledged takings old new b (changes.Edited id pieces) samples runs legal grammar rope own shows form map =
    let same : spots_of pieces ≡ samples = some_is rope in
    becomes_live held pledged takings old new b (changes.Edited id pieces) id (spots_of pieces) (subst (λ l. Runs held (pieces_of l ∷ pledged) takings old b) (sym same) runs) legal grammar own form map
    (leb-true b.next id (both _ _ legal).0) refl shows
landed held pledged takings old new b (changes.Retained class key id note) samples runs legal grammar rope own shows form map = cc
landed held pledged takings old new b (changes.Forgotten class key) samples runs legal grammar rope own shows form map = cc
landed held pledged takings old new b (changes.Census keys) samples runs legal grammar rope own shows form map = cc
landed held pledged takings old new b (changes.Swept ids) samples runs legal grammar rope own shows form map = cc
landed held pledged takings old new b (changes.Advanced moment) samples runs legal grammar rope own shows form map = cc
landed held pledged takings old new b (changes.Base now next) samples runs legal grammar rope own shows form map = cc
landed held pledged takings old new b (changes.Base2 now next) samples runs legal grammar rope own shows form map = cc
landed held pledged takings old new b (changes.File file pairs) samples runs legal grammar rope own shows form map = cc
landed held pledged takings old new b (changes.File2 file pairs) samples runs legal grammar rope own shows form map = cc
landed held pledged takings old new b (changes.Rope id idle pieces) samples runs legal grammar rope own shows form map = cc
landed held pledged takings old new b (changes.Rope2 id idle last pieces) samples runs legal grammar rope own shows form map = cc

-- ---- rows or the moment change

-- the same blocks are used, and each has its place
same_uses : (held pledged : List (List Piece)) (takings : List ℕ) (old new : Parts) (b : Rebuilt) (c : Change) (d : Durable Spot) → Runs held pledged takings old b
    → is_legal b c ≡ true → keeps_grammar c ≡ true → d.shape ≡ b.shape → d.next ≡ b.next → used_pairs d ≡ used_pairs b.kept
    → acted b c ≡ record b { kept = d; places = still_used d (b.places ++ []); phase = Phase.Later }
    → Shows held new d → new.form ≡ old.form → new.blocks.holders ≡ old.blocks.holders → Runs held pledged takings new (acted b c)
same_uses held pledged takings old new b c d runs legal grammar shape next pairs is shows form map =
    let end : Rebuilt = record b { kept = d; places = still_used d (b.places ++ []); phase = Phase.Later } in
    let valid : IsRebuilt plain_sample end = subst (IsRebuilt plain_sample) is (rebuilt_next plain_sample (λ s. refl) b c runs.valid legal grammar) in
    let placed : IsPlaced end = subst IsPlaced is (placed_next b c runs.placed legal grammar) in
    let stay : end.places ≡ b.places = all_stay_used b d runs.used (λ pair e. ap (λ l. has_pair l pair) pairs ∙ e) in
    subst (Runs held pledged takings new) (sym is)
    (record {
      kept = shows;
      size = ap length map ∙ runs.size ∙ ap (λ (s : Shape). s.blocks) (sym shape);
      addresses = subst (λ hs. Every (IsHeld hs) end.places) (sym map) (subst (Every (IsHeld old.blocks.holders)) (sym stay) runs.addresses);
      given = subst (λ hs. GivesJust hs (used_pairs d) (pairs_in d.shape.block (held ++ pledged)) takings) (sym map)
          (subst (λ ps. GivesJust old.blocks.holders ps (pairs_in d.shape.block (held ++ pledged)) takings) (sym pairs)
          (subst (λ (s : Shape). GivesJust old.blocks.holders (used_pairs b.kept) (pairs_in s.block (held ++ pledged)) takings) (sym shape) runs.given));
      below = subst (λ n. Every (λ (pair : BlockPair). pair.file < n) (pairs_in d.shape.block held)) (sym next)
          (subst (λ (s : Shape). Every (λ (pair : BlockPair). pair.file < b.next) (pairs_in s.block held)) (sym shape) runs.below);
      in_form = form ∙ runs.in_form;
      valid = valid;
      placed = placed;
      used = every_passed (λ (p : Placed). has_pair (used_pairs d) p.pair) (b.places ++ []);
    })

-- rows that go leave the blocks of ropes as they are
rows_go : (b : Rebuilt) (class : ℕ) (rows : List Row) → used_pairs (with_rows b.form class b.kept rows) ≡ used_pairs b.kept
rows_go b class rows = ap (pairs_at b.shape.block) (same_samples b.form b.moment class b.rows rows b.ropes)

pub altered : laws.Altered
altered held pledged takings old new b (changes.Retained class key id note) runs legal grammar kind shows form map =
    same_uses held pledged takings old new b (changes.Retained class key id note) (acted b (changes.Retained class key id note)).kept runs legal grammar refl refl refl refl shows form map
altered held pledged takings old new b (changes.Forgotten class key) runs legal grammar kind shows form map =
    same_uses held pledged takings old new b (changes.Forgotten class key) (acted b (changes.Forgotten class key)).kept runs legal grammar refl refl (rows_go b (class_number class) (acted b (changes.Forgotten class key)).rows) refl shows form map
altered held pledged takings old new b (changes.Census keys) runs legal grammar kind shows form map =
    same_uses held pledged takings old new b (changes.Census keys) (acted b (changes.Census keys)).kept runs legal grammar refl refl (rows_go b 3 (acted b (changes.Census keys)).rows) refl shows form map
altered held pledged takings old new b (changes.Advanced moment) runs legal grammar kind shows form map =
    same_uses held pledged takings old new b (changes.Advanced moment) (acted b (changes.Advanced moment)).kept runs legal grammar refl refl refl refl shows form map
altered held pledged takings old new b (changes.Recorded id len addresses) runs legal grammar kind shows form map = cc
altered held pledged takings old new b (changes.Wide id len addresses) runs legal grammar kind shows form map = cc
altered held pledged takings old new b (changes.Edited id pieces) runs legal grammar kind shows form map = cc
altered held pledged takings old new b (changes.Swept ids) runs legal grammar kind shows form map = cc
altered held pledged takings old new b (changes.Base now next) runs legal grammar kind shows form map = cc
altered held pledged takings old new b (changes.Base2 now next) runs legal grammar kind shows form map = cc
altered held pledged takings old new b (changes.File file pairs) runs legal grammar kind shows form map = cc
altered held pledged takings old new b (changes.File2 file pairs) runs legal grammar kind shows form map = cc
altered held pledged takings old new b (changes.Rope id idle pieces) runs legal grammar kind shows form map = cc
altered held pledged takings old new b (changes.Rope2 id idle last pieces) runs legal grammar kind shows form map = cc
