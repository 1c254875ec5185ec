-- What an edit and a recording add to the size of a base.
use Rattle.std.proofs.Common.{◌≡◌, ℕ, zero, suc, ◌+◌, ◌*◌, ◌<◌, ◌≤◌, ◌==◌, Bool, true, false, cond, List, [], ◌∷◌, ◌++◌, length, flat_map, refl, sym, ◌∙◌, ap, arith}
use Rattle.std.proofs.Math.Nat.{mul-add}
use Rattle.std.proofs.lemmas.Bool.{eqb-true}
use Rattle.std.proofs.lemmas.Grind.{flat_map-append}
use Rattle.std.proofs.lemmas.List.{append-nil, map-append}
use Rattle.std.proofs.lemmas.List.Sums.{sum_by_push}
use Rattle.std.specs.Prelude.{sum_by}
use Rattle.std.specs.List.{list_all}
use Rattle.voice_units.specs.Spots.{spots_from}
use Rattle.voice_units.specs.Blocks.{BlockPair, same_pair, has_pair, pair_at, pairs_at, distinct, blocks_for}
use Rattle.voice_units.proofs.Distinct.{same_pair-true, has_pair-distinct, same_count}
use Rattle.voice_units.proofs.PiecesOfRopes.{both}
use Rattle.voice_model.specs.Samples.{Tagged, recording, recorded_from}
use Rattle.voice_model.specs.State.{Durable, Live, among}
use Rattle.voice_model.specs.State.Effect.{Recorded, Edited}
use Rattle.voice_model.specs.Room.{pair_of, pairs_of}
use Rattle.voice_model.specs.Changes.{changed, address_size, each_once, rope_size, base_size}
use Rattle.voice_model.specs.Valid.{Every, IsTimely, live_pairs_of}
use Rattle.voice_model.specs.declared.calls.Row.{Row}
use Rattle.fillings.specs.Laws.{AreBelow, new_rope, blocks_size}
use Rattle.voice_model.proofs.PlacesKept.{same_itself}
use Rattle.fillings.proofs.Counting.{known_count, files_of, same_files, apart_files}
use Rattle.voice_blocks.proofs.Apart.{either_way, has_append, apart_count, or_left, or_right}
use Rattle.fillings.proofs.RecordedBlocks.{recording_blocks, recording_file, recording_among, recording_files, some_samples}

-- ---- the blocks of a base

-- what the files and the blocks of a base take
abbrev pairs_size : ℕ → List BlockPair → ℕ
pairs_size form ps = 18 * length (each_once (files_of (distinct ps))) + (4 + address_size form) * length (distinct ps)

abbrev rows_size : List Row → ℕ
rows_size rows = sum_by (λ row. 17 + length row.key + length row.note) rows

pairs_with : (d : Durable Tagged) (rope : Live Tagged) → pairs_of d.shape.block (flat_map (λ (r : Live Tagged). r.samples) (d.ropes ++ rope ∷ [])) ≡ live_pairs_of d ++ pairs_of d.shape.block rope.samples
pairs_with d rope =
    ap (pairs_of d.shape.block) (flat_map-append (λ (r : Live Tagged). r.samples) d.ropes (rope ∷ []))
    ∙ map-append (pair_of d.shape.block) (flat_map (λ (r : Live Tagged). r.samples) d.ropes) (rope.samples ++ [])
    ∙ ap (λ l. live_pairs_of d ++ pairs_of d.shape.block l) (append-nil rope.samples)

-- the size with a rope more, by what its blocks add
size_with : (form : ℕ) (d : Durable Tagged) (rope : Live Tagged) (more : ℕ) → pairs_size form (live_pairs_of d ++ pairs_of d.shape.block rope.samples) ≡ pairs_size form (live_pairs_of d) + more → 22 + pairs_size form (pairs_of d.shape.block (flat_map (λ (r : Live Tagged). r.samples) (d.ropes ++ rope ∷ []))) + sum_by (rope_size form) (d.ropes ++ rope ∷ []) + rows_size d.rows ≡ base_size form d + rope_size form rope + more
size_with form d rope more e =
    let pairs = ap (pairs_size form) (pairs_with d rope) ∙ e in
    let ropes = sum_by_push (rope_size form) d.ropes rope in
    added _ _ _ _ _ _ (rows_size d.rows) pairs ropes
  where
    added : (all old more ropes before rope rows : ℕ) → all ≡ old + more → ropes ≡ before + rope → 22 + all + ropes + rows ≡ 22 + old + before + rows + rope + more
    added all old more ropes before rope rows h k = omega (arith, h, k)

-- ---- an edit

each_known : (ps qs : List BlockPair) → list_all (has_pair ps) qs ≡ true → (q : BlockPair) → has_pair qs q ≡ true → has_pair ps q ≡ true
each_known ps [] h q e = cc
each_known ps (p ∷ qs) h q e =
    let parts = both (has_pair ps p) (list_all (has_pair ps) qs) h in
    either_way (same_pair q p) (has_pair qs q) (λ k. ap (has_pair ps) (same_pair-true q p k) ∙ parts.0) (λ k. each_known ps qs parts.1 q k) e

known_size : (form : ℕ) (ps qs : List BlockPair) → list_all (has_pair ps) qs ≡ true → pairs_size form (ps ++ qs) ≡ pairs_size form ps + 0
known_size form ps qs h =
    let same : (q : BlockPair) → has_pair (ps ++ qs) q ≡ has_pair ps q = known_count ps qs (each_known ps qs h) in
    let alike : (q : BlockPair) → has_pair (distinct (ps ++ qs)) q ≡ has_pair (distinct ps) q = λ q. has_pair-distinct (ps ++ qs) q ∙ same q ∙ sym (has_pair-distinct ps q) in
    ap (λ n. 18 * n + (4 + address_size form) * length (distinct (ps ++ qs))) (same_files (distinct (ps ++ qs)) (distinct ps) alike)
    ∙ ap (λ n. 18 * length (each_once (files_of (distinct ps))) + (4 + address_size form) * n) (same_count (ps ++ qs) ps same)
    ∙ omega arith

pub edited_size : (form : ℕ) (d : Durable Tagged) (id : ℕ) (samples : List Tagged) → IsTimely form d (Edited id samples) → base_size form (changed form d (Edited id samples)) ≡ base_size form d + rope_size form (new_rope d id samples)
edited_size form d id samples timely = size_with form d (new_rope d id samples) 0 (known_size form (live_pairs_of d) (pairs_of d.shape.block samples) timely) ∙ omega arith

-- ---- a recording

pairs_recorded : (block id from : ℕ) (bytes : List ℕ) → pairs_of block (recorded_from id from bytes) ≡ pairs_at block (spots_from id from (length bytes))
pairs_recorded block id from [] = refl
pairs_recorded block id from (byte ∷ bytes) = ap (λ l. pair_at block (record { file = id; place = from }) ∷ l) (pairs_recorded block id (from + 1) bytes)

below_samples : (block id : ℕ) (samples : List Tagged) (q : BlockPair) → Every (λ (t : Tagged). t.file < id) samples → has_pair (pairs_of block samples) q ≡ true → q.file < id
below_samples block id [] q h e = cc
below_samples block id (t ∷ samples) q h e =
    either_way (same_pair q (pair_of block t)) (has_pair (pairs_of block samples) q)
    (λ k. let file : q.file ≡ t.file = ap (λ (x : BlockPair). x.file) (same_pair-true q (pair_of block t) k) in let less = h.0 in omega (arith, file, less))
    (λ k. below_samples block id samples q h.1 k) e

below_ropes : (block id : ℕ) (ropes : List (Live Tagged)) (q : BlockPair) → AreBelow id ropes → has_pair (pairs_of block (flat_map (λ rope. rope.samples) ropes)) q ≡ true → q.file < id
below_ropes block id [] q h e = cc
below_ropes block id (rope ∷ ropes) q h e =
    either_way (has_pair (pairs_of block rope.samples) q) (has_pair (pairs_of block (flat_map (λ rope. rope.samples) ropes)) q)
    (below_samples block id rope.samples q h.0) (below_ropes block id ropes q h.1)
    (sym (ap (λ ps. has_pair ps q) (map-append (pair_of block) rope.samples (flat_map (λ rope. rope.samples) ropes)) ∙ has_append (pairs_of block rope.samples) (pairs_of block (flat_map (λ rope. rope.samples) ropes)) q) ∙ e)

not_true : (b : Bool) → ¬ (b ≡ true) → b ≡ false
not_true true h = absurd (h refl)
not_true false h = refl

below_files : (id : ℕ) (ps : List BlockPair) → ((q : BlockPair) → has_pair ps q ≡ true → q.file < id) → (n : ℕ) → among (files_of ps) n ≡ true → n < id
below_files id [] below n e = cc
below_files id (p ∷ ps) below n e =
    either_way (p.file == n) (among (files_of ps) n)
    (λ k. let file = eqb-true p.file n k in let less = below p (or_left (same_pair p p) (has_pair ps p) (same_itself p)) in omega (arith, file, less))
    (λ k. below_files id ps (λ q h. below q (or_right (same_pair q p) (has_pair ps q) h)) n k) e

-- a file of a number above all files
recorded_pairs : (form block id n : ℕ) (ps : List BlockPair) → 1 ≤ block → ((q : BlockPair) → has_pair ps q ≡ true → q.file < id) → pairs_size form (ps ++ pairs_at block (spots_from id 0 n)) ≡ pairs_size form ps + (18 * cond (n == 0) 0 1 + (4 + address_size form) * blocks_for block n)
recorded_pairs form block id n ps some below =
    let qs = pairs_at block (spots_from id 0 n) in
    let blocks : length (distinct (ps ++ qs)) ≡ length (distinct ps) + blocks_for block n =
    apart_count ps qs (λ q h. not_true (has_pair qs q) (λ k. let less = below q h in let file = recording_file block id 0 n q k in absurd (omega (arith, less, file))))
    ∙ ap (λ m. length (distinct ps) + m) (recording_blocks block id n some) in
    let files : length (each_once (files_of (distinct (ps ++ qs)))) ≡ length (each_once (files_of (distinct ps))) + cond (n == 0) 0 1 =
    same_files (distinct (ps ++ qs)) (ps ++ qs) (has_pair-distinct (ps ++ qs))
    ∙ apart_files ps qs (λ m h. not_true (among (files_of qs) m) (λ k. let less = below_files id ps below m h in let file = recording_among block id 0 n m k in absurd (omega (arith, less, file))))
    ∙ ap (λ m. length (each_once (files_of ps)) + m) (recording_files block id n)
    ∙ ap (λ m. m + cond (n == 0) 0 1) (sym (same_files (distinct ps) ps (has_pair-distinct ps))) in
    ap (λ m. 18 * m + (4 + address_size form) * length (distinct (ps ++ qs))) files
    ∙ ap (λ m. 18 * (length (each_once (files_of (distinct ps))) + cond (n == 0) 0 1) + (4 + address_size form) * m) blocks
    ∙ spread (length (each_once (files_of (distinct ps)))) (cond (n == 0) 0 1) (4 + address_size form) (length (distinct ps)) (blocks_for block n)
  where
    spread : (a b w m k : ℕ) → 18 * (a + b) + w * (m + k) ≡ 18 * a + w * m + (18 * b + w * k)
    spread a b w m k = let product = mul-add w m k in omega (arith, product)

-- no sample takes no block
blocks_by : (form block n : ℕ) → 1 ≤ block → 18 * cond (n == 0) 0 1 + (4 + address_size form) * blocks_for block n ≡ cond (n == 0) 0 (18 + (4 + address_size form) * blocks_for block n)
blocks_by form block zero some =
    let none : blocks_for block 0 ≡ 0 = sym (recording_blocks block 0 0 some) in
    ap (λ m. 18 * 0 + (4 + address_size form) * m) none ∙ omega arith
blocks_by form block (suc n) some =
    let there = some_samples n in
    ap (λ b. 18 * cond b 0 1 + (4 + address_size form) * blocks_for block (suc n)) there
    ∙ omega arith
    ∙ sym (ap (λ b. cond b 0 (18 + (4 + address_size form) * blocks_for block (suc n))) there)

pub recorded_size : (form : ℕ) (d : Durable Tagged) (id : ℕ) (bytes : List ℕ) → AreBelow id d.ropes → base_size form (changed form d (Recorded id (recording id bytes))) ≡ base_size form d + rope_size form (new_rope d id (recording id bytes)) + blocks_size form d.shape (length bytes)
recorded_size form d id bytes below =
    let least : 8 ≤ d.shape.block = d.shape.conditions.some_block in
    let some : 1 ≤ d.shape.block = omega (arith, least) in
    let pairs : pairs_of d.shape.block (recording id bytes) ≡ pairs_at d.shape.block (spots_from id 0 (length bytes)) = pairs_recorded d.shape.block id 0 bytes in
    size_with form d (new_rope d id (recording id bytes)) (blocks_size form d.shape (length bytes))
    (ap (λ qs. pairs_size form (live_pairs_of d ++ qs)) pairs
    ∙ recorded_pairs form d.shape.block id (length bytes) (live_pairs_of d) some (λ q h. below_ropes d.shape.block id d.ropes q below h)
    ∙ ap (λ m. pairs_size form (live_pairs_of d) + m) (blocks_by form d.shape.block (length bytes) some))
