-- What the tables show once a rope has come.
use Rattle.std.proofs.Common.{◌≡◌, ℕ, ◌≤◌, ◌<◌, ◌==◌, ◌^◌, ◌&&◌, Bool, true, false, cond, nat_lt, List, [], ◌∷◌, length, Some, None, refl, sym, ◌∙◌, ap, subst, arith}
use Rattle.std.specs.Prelude.{nat_le}
use Rattle.std.specs.List.{list_all}
use Rattle.std.proofs.lemmas.Bool.{eqb-true, ltb-true, lt-ltb}
use Rattle.voice_units.specs.declared.pieces.Piece.{Piece}
use Rattle.voice_units.specs.Spots.{Spot, spots_of, spots_from, samples_in, pieces_of, nowhere}
use Rattle.voice_units.specs.Blocks.{BlockPair, has_pair, pairs_at, distinct, blocks_for}
use Rattle.voice_units.proofs.PiecesOfRopes.{both, spots_of-runs}
use Rattle.voice_model.specs.State.{Durable}
use Rattle.voice_model.specs.Changes.{with_rope}
use Rattle.voice_model.specs.Replay.{Rebuilt, brings, is_legal, acted, used_pairs, new_places, may_be_recorded}
use Rattle.voice_model.specs.Spelling.{keeps_grammar}
use Rattle.voice_model.specs.Valid.{Every}
use Rattle.voice_model.specs.declared.changes.Change.{Change}
use Rattle.voice_model.specs.declared.changes.Change.TheVariants as changes
use Rattle.voice_model.proofs.PlacesKept.{all_samples}
use Rattle.voice_blocks.specs.Holders.{Holders}
use Rattle.rope_table.specs.Table.{Table, rope_of, uses_at, uses_in, pieces_in, unused, new_pairs}
use Rattle.recovery.specs.declared.parts.Parts.{Parts}
use Rattle.recovery.specs.Shown.{Shows}
use Rattle.recovery.proofs.BlocksUsed.{none_unused}
use Rattle.recovery.proofs.Ropes.{uses_shown}
use Rattle.recovery.proofs.Showing.{fresh_shown, reserved_shown}
use Rattle.recovery.proofs.Rebuilding.{orderly_rebuilt}
use Rattle.recovery.proofs.Recordings.{few_fresh}
use Rattle.checkpoint.specs.Blocks.{IsHeld}
use Rattle.running_tables.specs.Running.{Runs}
use Rattle.running_tables.specs.Laws.{rope_brought}
use Rattle.running_tables.proofs.Taken.{reshown}
use Rattle.running_tables.proofs.Landed.{landed}
use Rattle.next_ropes.specs.declared.NextRope.{NextRope}
use Rattle.next_ropes.specs.Ready.{IsReady, new_samples}
use Rattle.next_ropes.specs.Copies.{IsAlike}

-- a recording has an address for each of its blocks
addresses_for : (b : Rebuilt) (id len : ℕ) (addresses : List ℕ) → may_be_recorded b id len addresses ≡ true → length addresses ≡ blocks_for b.shape.block len
addresses_for b id len addresses may = eqb-true (length addresses) (blocks_for b.shape.block len) (both _ _ (both _ _ (both _ _ may).0).0).1

-- a change of the kinds that make a rope ready: its rope is brought, and is what comes
pub record BringsRope (b : Rebuilt) (id : ℕ) (c : Change) : Type 0 where
  pub brought : rope_brought (brings c) ≡ Some (new_samples c)
  pub after : (acted b c).kept ≡ with_rope b.kept id (new_samples c)

rope_comes : (b : Rebuilt) (r w : Bool) (id len : ℕ) (addresses : List ℕ) (pieces : List Piece) → BringsRope b id (cond r (cond w (changes.Wide id len addresses) (changes.Recorded id len addresses)) (changes.Edited id pieces))
rope_comes b true true id len addresses pieces = record { brought = refl; after = refl }
rope_comes b true false id len addresses pieces = record { brought = refl; after = refl }
rope_comes b false w id len addresses pieces = record { brought = refl; after = refl }

-- the change of a rope that is ready brings it
pub brings_ready : (held : List (List Piece)) (takings : List ℕ) (old : Parts) (b : Rebuilt) (next : NextRope) (c : Change) → IsReady held takings old b next c → BringsRope b next.id c
brings_ready held takings old b next c h = subst (BringsRope b next.id) (sym h.change) (rope_comes b next.recorded (b.form == 2) next.id (samples_in next.pieces) next.addresses.items next.pieces)

-- the tables show what is rebuilt after its change
pub came : (held : List (List Piece)) (takings : List ℕ) (old copy new : Parts) (b : Rebuilt) (next : NextRope) (c : Change) → IsReady held takings old b next c → Shows held copy b.kept → copy.form ≡ old.form → copy.blocks.holders ≡ old.blocks.holders
    → new.form ≡ copy.form → new.blocks.holders ≡ copy.blocks.holders → Shows held new (with_rope b.kept next.id (new_samples c)) → Runs held [] takings new (acted b c)
came held takings old copy new b next c h same copied map form stays shows =
    let brings = brings_ready held takings old b next c h in
    let runs : Runs held (pieces_of (new_samples c) ∷ []) takings copy b = subst (λ l. Runs held (l ∷ []) takings copy b) h.pieces (reshown held (next.pieces ∷ []) takings old copy b h.runs same copied map) in
    landed held [] takings copy new b c (new_samples c) runs h.legal h.grammar brings.brought (subst (λ (l : Holders). Every (IsHeld l) (new_places c)) (sym map) h.places)
    (subst (λ d. Shows held new d) (sym brings.after) shows) form stays

-- its number is not live
pub unknown : (held : List (List Piece)) (takings : List ℕ) (old : Parts) (b : Rebuilt) (next : NextRope) (c : Change) → IsReady held takings old b next c → rope_of old.ropes.ropes next.id ≡ None
unknown held takings old b next c h =
    let number = h.number in
    fresh_shown held b.form b.kept old.ropes old.interests.rows old.moment old.next next.id h.runs.kept (orderly_rebuilt b h.runs.valid) (omega (arith, number))

-- ---- how many blocks it brings

-- a block that a live rope has is used by the table
pub used_at : (held : List (List Piece)) (d : Durable Spot) (old : Parts) → Shows held old d → (q : BlockPair) → has_pair (used_pairs d) q ≡ true → nat_lt 0 (uses_at old.ropes q) ≡ true
used_at held d old h q e =
    let some = ltb-true 0 (uses_in old.ropes.block (pieces_in old.ropes.ropes) q) (ap (λ l. nat_lt 0 (uses_in old.ropes.block (pieces_in l) q)) h.ropes ∙ uses_shown d.shape.graces d.rows old.ropes.block d.ropes q ∙ ap (λ n. has_pair (pairs_at n (all_samples d.ropes)) q) h.block ∙ e) in
    let all = h.uses q in
    lt-ltb 0 (uses_at old.ropes q) (omega (arith, some, all))

all_imply : (p q : BlockPair → Bool) → ((x : BlockPair) → p x ≡ true → q x ≡ true) → (xs : List BlockPair) → list_all p xs ≡ true → list_all q xs ≡ true
all_imply p q f [] h = refl
all_imply p q f (x ∷ xs) h = let tests = both (p x) (list_all p xs) h in ap (λ t. t && list_all q xs) (f x tests.0) ∙ all_imply p q f xs tests.1

-- a rope of blocks in use brings none
pub none_new : (held : List (List Piece)) (d : Durable Spot) (old : Parts) (t : Table) (ps : List Piece) → Shows held old d → t.block ≡ old.ropes.block → ((pair : BlockPair) → uses_at t pair ≡ uses_at old.ropes pair)
    → list_all (has_pair (used_pairs d)) (pairs_at d.shape.block (spots_of ps)) ≡ true → new_pairs t ps ≡ 0
none_new held d old t ps h block same all =
    let used : list_all (λ pair. nat_lt 0 (uses_at old.ropes pair)) (pairs_at d.shape.block (spots_of ps)) ≡ true = all_imply (has_pair (used_pairs d)) (λ pair. nat_lt 0 (uses_at old.ropes pair)) (used_at held d old h) (pairs_at d.shape.block (spots_of ps)) all in
    ap (λ n. unused (uses_at t) (pairs_at n (spots_of ps))) (block ∙ h.block) ∙ ap (λ l. length (distinct l)) (none_unused (uses_at old.ropes) (uses_at t) same (pairs_at d.shape.block (spots_of ps)) used)

-- a recording brings at most its own
pub few_new : (t : Table) (ps : List Piece) (id len : ℕ) → 1 ≤ t.block → ps ≡ pieces_of (spots_from id 0 len) → new_pairs t ps ≤ blocks_for t.block len
few_new t ps id len some is =
    let spots : spots_of ps ≡ spots_from id 0 len = ap spots_of is ∙ spots_of-runs nowhere (spots_from id 0 len) in
    let same : new_pairs t ps ≡ unused (uses_at t) (pairs_at t.block (spots_from id 0 len)) = ap (λ ss. unused (uses_at t) (pairs_at t.block ss)) spots in
    let most = few_fresh (λ pair. uses_at t pair == 0) t.block id len some in
    omega (arith, same, most)

module _ (held : List (List Piece)) (takings : List ℕ) (parts : Parts) (t : Table) (b : Rebuilt) (shows : Shows held parts b.kept) (block : t.block ≡ parts.ropes.block) (same : (pair : BlockPair) → uses_at t pair ≡ uses_at parts.ropes pair) where
  few_recorded : (id len : ℕ) (addresses : List ℕ) (pieces : List Piece) → may_be_recorded b id len addresses ≡ true → pieces ≡ pieces_of (spots_from id 0 len) → new_pairs t pieces ≤ length addresses
  few_recorded id len addresses pieces may is =
      let is_block : t.block ≡ b.shape.block = block ∙ shows.block in
      let some = b.shape.conditions.some_block in
      let most = few_new t pieces id len (omega (arith, is_block, some)) is in
      let count : length addresses ≡ blocks_for t.block len = addresses_for b id len addresses may ∙ ap (λ n. blocks_for n len) (sym is_block) in
      omega (arith, most, count)

  few : (r w : Bool) (id len : ℕ) (addresses : List ℕ) (pieces : List Piece) → is_legal b (cond r (cond w (changes.Wide id len addresses) (changes.Recorded id len addresses)) (changes.Edited id pieces)) ≡ true
      → pieces ≡ pieces_of (new_samples (cond r (cond w (changes.Wide id len addresses) (changes.Recorded id len addresses)) (changes.Edited id pieces))) → new_pairs t pieces ≤ cond r (length addresses) 0
  few true true id len addresses pieces legal is = few_recorded id len addresses pieces (both _ _ legal).1 is
  few true false id len addresses pieces legal is = few_recorded id len addresses pieces (both _ _ legal).1 is
  few false w id len addresses pieces legal is = let none : new_pairs t pieces ≡ 0 = none_new held b.kept parts t pieces shows block same (both (nat_le b.next id) (list_all (has_pair (used_pairs b.kept)) (pairs_at b.shape.block (spots_of pieces))) legal).1 in omega (arith, none)

  -- a rope that is ready brings no more blocks than it has addresses
  pub blocks_few : (next : NextRope) (c : Change) → IsReady held takings parts b next c → new_pairs t next.pieces ≤ cond next.recorded (length next.addresses.items) 0
  blocks_few next c h =
      few next.recorded (b.form == 2) next.id (samples_in next.pieces) next.addresses.items next.pieces
      (ap (is_legal b) (sym h.change) ∙ h.legal)
      (h.pieces ∙ ap (λ c. pieces_of (new_samples c)) h.change)

fit : (w : Bool) (id len : ℕ) (addresses : List ℕ) → keeps_grammar (cond w (changes.Wide id len addresses) (changes.Recorded id len addresses)) ≡ true → length addresses < 2 ^ 32
fit true id len addresses h = ltb-true (length addresses) (2 ^ 32) (both _ _ (both _ _ h).0).1
fit false id len addresses h = ltb-true (length addresses) (2 ^ 32) (both _ _ (both _ _ h).0).1

fits_by : (r w : Bool) (id len : ℕ) (addresses : List ℕ) (pieces : List Piece) → r ≡ true → keeps_grammar (cond r (cond w (changes.Wide id len addresses) (changes.Recorded id len addresses)) (changes.Edited id pieces)) ≡ true → length addresses < 2 ^ 32
fits_by true w id len addresses pieces e h = fit w id len addresses h
fits_by false w id len addresses pieces e h = cc

-- the addresses of a recording that is ready are few
pub addresses_few : (held : List (List Piece)) (takings : List ℕ) (parts : Parts) (b : Rebuilt) (next : NextRope) (c : Change) → IsReady held takings parts b next c → next.recorded ≡ true → length next.addresses.items < 2 ^ 32
addresses_few held takings parts b next c h e = fits_by next.recorded (b.form == 2) next.id (samples_in next.pieces) next.addresses.items next.pieces e (ap keeps_grammar (sym h.change) ∙ h.grammar)

-- ---- copies

pub alike_shows : (held : List (List Piece)) (d : Durable Spot) (old new : Parts) → IsAlike old new → Shows held old d → Shows held new d
alike_shows held d old new same h =
    let table = reserved_shown held d old.ropes new.ropes old.interests.rows old.moment old.next h same.ropes same.block same.uses in
    record { block = table.block; ropes = table.ropes; uses = table.uses; rows = same.rows ∙ h.rows; moment = same.moment ∙ h.moment; next = same.next ∙ h.next }
