-- A change in doubt stays ready as passages are held and let go.
use Rattle.std.proofs.Common.{◌≡◌, ◌⊎◌, inl, inr, ⊎_elim, ℕ, ◌+◌, ◌<◌, ◌≤◌, ◌^◌, ◌==◌, Bool, true, false, cond, List, [], ◌∷◌, ◌++◌, append-nil, length, Some, refl, sym, ◌∙◌, ap, subst, arith, eq-eqb}
use Rattle.std.specs.Prelude.{nat_le}
use Rattle.std.specs.List.{list_all}
use Rattle.std.proofs.lemmas.Bool.{lt-ltb, eqb-true}
use Rattle.voice_units.specs.declared.pieces.Piece.{Piece}
use Rattle.voice_units.specs.Spots.{spots_of, spots_from, samples_in, pieces_of}
use Rattle.voice_units.specs.Blocks.{BlockPair, has_pair, pairs_at, distinct, blocks_for}
use Rattle.voice_units.proofs.PiecesOfRopes.{both}
use Rattle.voice_model.specs.Replay.{Placed, Rebuilt, is_legal, used_pairs, new_places, placed_from, may_be_recorded}
use Rattle.voice_model.specs.Valid.{Every}
use Rattle.voice_model.specs.declared.changes.Change.{Change}
use Rattle.voice_model.specs.declared.changes.Change.TheVariants as changes
use Rattle.voice_blocks.specs.Holders.{holder_at, block_of}
use Rattle.voice_blocks.specs.declared.owner.Owner.TheVariants.{File}
use Rattle.checkpoint.specs.Blocks.{IsHeld}
use Rattle.rope_table.specs.Table.{uses_at, pairs_in, pair_of, new_pairs, unused}
use Rattle.recovery.specs.declared.parts.Parts.{Parts}
use Rattle.recovery.proofs.Rebuilding.{filter_all}
use Rattle.running_tables.specs.Running.{Runs}
use Rattle.running_tables.specs.Laws.{HasFirst}
use Rattle.voice_blocks.proofs.Apart.{or_right}
use Rattle.running_tables.proofs.Recounted.{all_have}
use Rattle.running_tables.proofs.Taken.{first_blocks}
use Rattle.lane_calls.specs.Lanes.{ArePledged}
use Rattle.lane_calls.proofs.LetGo.{has_both}
use Rattle.ready_changes.specs.Ready.{Does}
use Rattle.next_ropes.specs.Addresses.{KeepsAddresses}
use Rattle.next_ropes.specs.Ready.{IsReady, new_samples}
use Rattle.next_ropes.specs.declared.NextRope.{NextRope}
use Rattle.next_ropes.proofs.Performed.{none_new}
use Rattle.next_changes.specs.Next.{IsNext, pledges}
use Rattle.next_changes.specs.declared.NextChange.{NextChange}
use Rattle.next_changes.specs.declared.NextChange.TheVariants.{Rope, Other}
use Rattle.voice_store.proofs.Kept.{each_had}
use Rattle.voice_store.proofs.Played.{used_below}

-- ---- where the pieces of a new rope lie

-- an edit has blocks in use, and takes no address
pub record IsOld (b : Rebuilt) (pieces : List Piece) (places : List Placed) : Type 0 where
  pub all : list_all (has_pair (used_pairs b.kept)) (pairs_at b.shape.block (spots_of pieces)) ≡ true
  pub none : places ≡ []

-- a recording has the first blocks of its file, at its addresses
pub record IsFresh (b : Rebuilt) (id : ℕ) (addresses : List ℕ) (pieces : List Piece) (places : List Placed) : Type 0 where
  pub first : HasFirst b.shape.block id (length addresses) pieces
  pub placed : places ≡ placed_from id 0 addresses

abbrev a_change : Bool → Bool → ℕ → ℕ → List ℕ → List Piece → Change
a_change r w id len addresses pieces = cond r (cond w (changes.Wide id len addresses) (changes.Recorded id len addresses)) (changes.Edited id pieces)

addresses_for : (b : Rebuilt) (id len : ℕ) (addresses : List ℕ) → may_be_recorded b id len addresses ≡ true → length addresses ≡ blocks_for b.shape.block len
addresses_for b id len addresses may = eqb-true (length addresses) (blocks_for b.shape.block len) (both _ _ (both _ _ (both _ _ may).0).0).1

fresh_blocks : (b : Rebuilt) (id len : ℕ) (addresses : List ℕ) (pieces : List Piece) → may_be_recorded b id len addresses ≡ true → pieces ≡ pieces_of (spots_from id 0 len) → HasFirst b.shape.block id (length addresses) pieces
fresh_blocks b id len addresses pieces may is =
    let least = b.shape.conditions.some_block in
    subst (λ (l : List Piece). HasFirst b.shape.block id (length addresses) l) (sym is)
    (subst (λ n. HasFirst b.shape.block id n (pieces_of (spots_from id 0 len))) (sym (addresses_for b id len addresses may)) (first_blocks b.shape.block id len (omega (arith, least))))

new_blocks : (b : Rebuilt) (r w : Bool) (id len : ℕ) (addresses : List ℕ) (pieces : List Piece) → is_legal b (a_change r w id len addresses pieces) ≡ true → pieces ≡ pieces_of (new_samples (a_change r w id len addresses pieces))
    → IsOld b pieces (new_places (a_change r w id len addresses pieces)) ⊎ IsFresh b id addresses pieces (new_places (a_change r w id len addresses pieces))
new_blocks b true true id len addresses pieces legal is = inr (record { first = fresh_blocks b id len addresses pieces (both _ _ legal).1 is; placed = refl })
new_blocks b true false id len addresses pieces legal is = inr (record { first = fresh_blocks b id len addresses pieces (both _ _ legal).1 is; placed = refl })
new_blocks b false w id len addresses pieces legal is = inl (record { all = (both (nat_le b.next id) (list_all (has_pair (used_pairs b.kept)) (pairs_at b.shape.block (spots_of pieces))) legal).1; none = refl })

-- pairs that nothing uses count once each
all_unused : (uses : BlockPair → ℕ) (pairs : List BlockPair) → ((q : BlockPair) → has_pair pairs q ≡ true → uses q ≡ 0) → unused uses pairs ≡ length (distinct pairs)
all_unused uses pairs none = ap (λ l. length (distinct l)) (filter_all (λ pair. uses pair == 0) pairs (all_have (λ pair. (uses pair == 0) ≡ true) pairs (λ q e. eq-eqb (uses q) 0 (none q e))))

module _ (held : List (List Piece)) (takings : List ℕ) (parts : Parts) (b : Rebuilt) (next : NextRope) (c : Change) (h : IsReady held takings parts b next c) where
  where_new : IsOld b next.pieces (new_places c) ⊎ IsFresh b next.id next.addresses.items next.pieces (new_places c)
  where_new =
      subst (λ (places : List Placed). IsOld b next.pieces places ⊎ IsFresh b next.id next.addresses.items next.pieces places) (ap new_places (sym h.change))
      (new_blocks b next.recorded (b.form == 2) next.id (samples_in next.pieces) next.addresses.items next.pieces (ap (is_legal b) (sym h.change) ∙ h.legal) (h.pieces ∙ ap (λ x. pieces_of (new_samples x)) h.change))

  -- they are blocks of live ropes, or of a file from the next number on
  rope_pledged : ArePledged b (next.pieces ∷ [])
  rope_pledged q e =
      let mine : has_pair (pairs_at b.shape.block (spots_of next.pieces)) q ≡ true = ap (λ l. has_pair l q) (sym (append-nil (pairs_at b.shape.block (spots_of next.pieces)))) ∙ e in
      ⊎_elim
      (λ old. inl (each_had (used_pairs b.kept) (pairs_at b.shape.block (spots_of next.pieces)) old.all q mine))
      (λ fresh. let file = fresh.first.of_file q mine in let number = h.number in inr (omega (arith, file, number)))
      where_new

  module _ (now : List (List Piece)) (new : Parts) (runs : Runs now (next.pieces ∷ []) takings new b) (keeps : KeepsAddresses parts.blocks.holders new.blocks.holders)
      (room : new.ropes.spare_ropes ≡ parts.ropes.spare_ropes) (pairs : parts.ropes.spare_pairs ≤ new.ropes.spare_pairs) (uses : (q : BlockPair) → (uses_at new.ropes q + 1 < 2 ^ 32) ⊎ (uses_at new.ropes q ≤ uses_at parts.ropes q)) where
    block : ℕ
    block = b.shape.block

    -- a block that is pledged has the address that it had
    stays_placed : (p : Placed) → has_pair (pairs_at b.shape.block (spots_of next.pieces)) p.pair ≡ true → IsHeld parts.blocks.holders p → IsHeld new.blocks.holders p
    stays_placed p mine was =
        let q : BlockPair = pair_of p.pair.file p.pair.index in
        let pledged : has_pair (pairs_in b.shape.block (now ++ next.pieces ∷ [])) q ≡ true =
        has_both b.shape.block now (next.pieces ∷ []) q ∙ or_right (has_pair (pairs_in b.shape.block now) q) (has_pair (pairs_in b.shape.block (next.pieces ∷ [])) q)
        (ap (λ l. has_pair l q) (append-nil (pairs_at b.shape.block (spots_of next.pieces))) ∙ mine) in
        let at = runs.given.passages q pledged in
        let same : at.0 ≡ p.address = h.runs.given.single at.0 p.address (block_of (File p.pair.file) p.pair.index) (keeps at.0 (block_of (File p.pair.file) p.pair.index) at.1) was in
        subst (λ a. holder_at new.blocks.holders a ≡ Some (block_of (File p.pair.file) p.pair.index)) same at.1

    stay_placed : (places : List Placed) → Every (λ (p : Placed). has_pair (pairs_at b.shape.block (spots_of next.pieces)) p.pair ≡ true) places → Every (IsHeld parts.blocks.holders) places → Every (IsHeld new.blocks.holders) places
    stay_placed [] mine was = tt
    stay_placed (p ∷ places) mine was = (stays_placed p mine.0 was.0, stay_placed places mine.1 was.1)

    -- the places of a recording are of its pieces
    have_pairs : (from : ℕ) (rest : List ℕ) → HasFirst b.shape.block next.id (length next.addresses.items) next.pieces → from + length rest ≡ length next.addresses.items
        → Every (λ (p : Placed). has_pair (pairs_at b.shape.block (spots_of next.pieces)) p.pair ≡ true) (placed_from next.id from rest)
    have_pairs from [] first many = tt
    have_pairs from (a ∷ rest) first many = (
      first.each from ∙ lt-ltb from (length next.addresses.items) (omega (arith, many)),
      have_pairs (from + 1) rest first (omega (arith, many)),
    )

    no_use : (q : BlockPair) → b.next ≤ q.file → (now : List (List Piece)) (p : Parts) → Runs now (next.pieces ∷ []) takings p b → uses_at p.ropes q ≡ 0
    no_use q high now p runs = by (uses_at p.ropes q) (used_below now (next.pieces ∷ []) takings p b runs q)
      where
        by : (n : ℕ) → (0 < n → q.file < b.next) → n ≡ 0
        by n below = grind (arith, high, below)

    table_block : new.ropes.block ≡ b.shape.block
    table_block = runs.kept.block

    -- it needs no more room than before
    new_few : new_pairs new.ropes next.pieces ≤ parts.ropes.spare_pairs
    new_few =
        ⊎_elim
        (λ old. let none = none_new now b.kept new new.ropes next.pieces runs.kept refl (λ pair. refl) old.all in omega (arith, none))
        (λ fresh.
        let high : (q : BlockPair) → has_pair (pairs_at b.shape.block (spots_of next.pieces)) q ≡ true → b.next ≤ q.file = λ q e. let file = fresh.first.of_file q e in let number = h.number in omega (arith, file, number) in
        let after = ap (λ n. unused (uses_at new.ropes) (pairs_at n (spots_of next.pieces))) table_block ∙ all_unused (uses_at new.ropes) (pairs_at b.shape.block (spots_of next.pieces)) (λ q e. no_use q (high q e) now new runs) in
        let before = ap (λ n. unused (uses_at parts.ropes) (pairs_at n (spots_of next.pieces))) h.runs.kept.block ∙ all_unused (uses_at parts.ropes) (pairs_at b.shape.block (spots_of next.pieces)) (λ q e. no_use q (high q e) held parts h.runs) in
        let most = h.pairs in
        omega (arith, after, before, most))
        where_new

    pub rope_still_ready : IsReady now takings new b next c
    rope_still_ready = record {
      runs = runs;
      places = ⊎_elim
          (λ old. subst (λ (places : List Placed). Every (IsHeld new.blocks.holders) places) (sym old.none) tt)
          (λ fresh. stay_placed (new_places c) (subst (λ (places : List Placed). Every (λ (p : Placed). has_pair (pairs_at b.shape.block (spots_of next.pieces)) p.pair ≡ true) places) (sym fresh.placed) (have_pairs 0 next.addresses.items fresh.first (omega arith))) h.places)
          where_new;
      legal = h.legal;
      kind = h.kind;
      grammar = h.grammar;
      change = h.change;
      number = h.number;
      pieces = h.pieces;
      payload = h.payload;
      room = let was = h.room in omega (arith, was, room);
      pairs = let few = new_few in omega (arith, few, pairs);
      fits = λ q e. ⊎_elim (λ less. less) (λ fewer. let was = h.fits q (ap (λ n. has_pair (pairs_at n (spots_of next.pieces)) q) (h.runs.kept.block ∙ sym runs.kept.block) ∙ e) in omega (arith, was, fewer)) (uses q);
    }

-- ---- a change of any kind

-- what it pledges are blocks of live ropes, or of files from the next number on
pub next_pledged : (held : List (List Piece)) (takings : List ℕ) (parts : Parts) (b : Rebuilt) (next : NextChange) (c : Change) → IsNext held takings parts b next c → ArePledged b (pledges next)
next_pledged held takings parts b (Rope rope) c h = rope_pledged held takings parts b rope c h
next_pledged held takings parts b (Other other) c h = λ pair e. absurd (no_pair pair e)
  where
    no_pair : (q : BlockPair) → ¬ (has_pair [] q ≡ true)
    no_pair q e = cc

pub still_ready : (held now : List (List Piece)) (takings : List ℕ) (old new : Parts) (b : Rebuilt) (next : NextChange) (c : Change) → IsNext held takings old b next c → Runs now (pledges next) takings new b → KeepsAddresses old.blocks.holders new.blocks.holders
    → new.ropes.spare_ropes ≡ old.ropes.spare_ropes → old.ropes.spare_pairs ≤ new.ropes.spare_pairs → ((q : BlockPair) → (uses_at new.ropes q + 1 < 2 ^ 32) ⊎ (uses_at new.ropes q ≤ uses_at old.ropes q)) → new.interests.spare ≡ old.interests.spare
    → IsNext now takings new b next c
still_ready held now takings old new b (Rope rope) c h runs keeps room pairs uses spare = rope_still_ready held takings old b rope c h now new runs keeps room pairs uses
still_ready held now takings old new b (Other other) c h runs keeps room pairs uses spare =
    record { runs = runs; legal = h.legal; kind = h.kind; ready = record { does = subst (λ n. Does n b.kept other.act c) (sym spare) h.ready.does; payload = h.ready.payload; grammar = h.ready.grammar } }
