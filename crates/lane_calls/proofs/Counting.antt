-- How often blocks are used, by live ropes and by the passages of lanes.
use Rattle.std.proofs.Common.{◌≡◌, ℕ, zero, suc, ◌+◌, ◌==◌, ◌<◌, ◌≤◌, ◌^◌, Bool, true, false, ◌||◌, cond, List, [], ◌∷◌, ◌++◌, length, take, drop, set, Option, Some, sym, ◌∙◌, ap, subst, arith}
use Rattle.std.proofs.lemmas.Bool.{lt-ltb, ltb-true}
use Rattle.std.proofs.lemmas.List.{length-map}
use Rattle.voice_units.specs.declared.pieces.Piece.{Piece}
use Rattle.voice_units.specs.Spots.{Spot, spots_of, pieces_of, samples_in, slice, nowhere}
use Rattle.voice_units.proofs.PiecesOfRopes.{spots_of-runs}
use Rattle.voice_units.specs.Blocks.{BlockPair, same_pair, pair_at, pairs_at, has_pair}
use Rattle.voice_model.specs.State.{Live, Durable, rope_at, samples_of, samples_or_none}
use Rattle.voice_model.specs.Replay.{Rebuilt, used_pairs, durable_by}
use Rattle.voice_model.specs.Valid.{IsRebuilt}
use Rattle.voice_model.proofs.FitsOfCalls.{rope_limits}
use Rattle.voice_model.proofs.PlacesKept.{has_pair-append, all_samples}
use Rattle.rope_table.specs.declared.ropes.Rope.{Rope}
use Rattle.rope_table.specs.Table.{Table, Counts, uses_at, uses_in, pieces_in}
use Rattle.recovery.specs.declared.parts.Parts.{Parts}
use Rattle.recovery.specs.Shown.{Shows, plain_sample}
use Rattle.recovery.proofs.Ropes.{uses_shown}
use Rattle.edits.specs.Tables.{pieces_here}
use Rattle.rope_algebra.proofs.Parts.{length-spots_of}
use Rattle.voice_blocks.proofs.Apart.{or_left, or_right, either_way}
use Rattle.play_queue.specs.declared.jobs.Job.{Job}
use Rattle.play_queue.specs.Queued.{lane_of}
use Rattle.playing.specs.Held.{held_in, held_by}
use Rattle.playing.proofs.Letting.{uses_in-append}
use Rattle.lane_calls.proofs.Showing.{samples_filled, spots_here}

-- ---- live ropes

-- a block that a live rope has is used
pub live_uses : (held : List (List Piece)) (parts : Parts) (d : Durable Spot) → Shows held parts d → (q : BlockPair) → has_pair (used_pairs d) q ≡ true → 1 ≤ uses_in parts.ropes.block (pieces_in parts.ropes.ropes) q
live_uses held parts d h q e =
    subst (λ n. 1 ≤ uses_in n (pieces_in parts.ropes.ropes) q) (sym h.block)
    (subst (λ (l : List Rope). 1 ≤ uses_in d.shape.block (pieces_in l) q) (sym h.ropes)
    (ltb-true 0 _ (uses_shown d.shape.graces d.rows d.shape.block d.ropes q ∙ e)))

-- and the other way round
pub uses_live : (held : List (List Piece)) (parts : Parts) (d : Durable Spot) → Shows held parts d → (q : BlockPair) → 1 ≤ uses_in parts.ropes.block (pieces_in parts.ropes.ropes) q → has_pair (used_pairs d) q ≡ true
uses_live held parts d h q e =
    sym (uses_shown d.shape.graces d.rows d.shape.block d.ropes q)
    ∙ lt-ltb 0 _ (subst (λ (l : List Rope). 1 ≤ uses_in d.shape.block (pieces_in l) q) h.ropes (subst (λ n. 1 ≤ uses_in n (pieces_in parts.ropes.ropes) q) h.block e))

-- a part of a rope has blocks of the rope alone
pub has_taken : (block n : ℕ) (ss : List Spot) (q : BlockPair) → has_pair (pairs_at block (take n ss)) q ≡ true → has_pair (pairs_at block ss) q ≡ true
has_taken block zero ss q e = cc
has_taken block (suc n) [] q e = e
has_taken block (suc n) (s ∷ ss) q e =
    either_way (same_pair q (pair_at block s)) (has_pair (pairs_at block (take n ss)) q)
    (λ k. or_left (same_pair q (pair_at block s)) (has_pair (pairs_at block ss) q) k)
    (λ k. or_right (same_pair q (pair_at block s)) (has_pair (pairs_at block ss) q) (has_taken block n ss q k)) e

pub has_dropped : (block n : ℕ) (ss : List Spot) (q : BlockPair) → has_pair (pairs_at block (drop n ss)) q ≡ true → has_pair (pairs_at block ss) q ≡ true
has_dropped block zero ss q e = e
has_dropped block (suc n) [] q e = e
has_dropped block (suc n) (s ∷ ss) q e = or_right (same_pair q (pair_at block s)) (has_pair (pairs_at block ss) q) (has_dropped block n ss q e)

-- a live rope has blocks in use alone
has_live : (block : ℕ) (ropes : List (Live Spot)) (id : ℕ) (q : BlockPair) → has_pair (pairs_at block (samples_of ropes id)) q ≡ true → has_pair (pairs_at block (all_samples ropes)) q ≡ true
has_live block [] id q e = cc
has_live block (rope ∷ ropes) id q e =
    has_pair-append block rope.samples (all_samples ropes) q
    ∙ by (rope.id == id) (rope_at ropes id) (has_live block ropes id q) e
  where
    by : (t : Bool) (o : Option (Live Spot)) → (has_pair (pairs_at block (samples_or_none o)) q ≡ true → has_pair (pairs_at block (all_samples ropes)) q ≡ true) → has_pair (pairs_at block (samples_or_none (cond t (Some rope) o))) q ≡ true
        → (has_pair (pairs_at block rope.samples) q || has_pair (pairs_at block (all_samples ropes)) q) ≡ true
    by true o later k = or_left (has_pair (pairs_at block rope.samples) q) (has_pair (pairs_at block (all_samples ropes)) q) k
    by false o later k = or_right (has_pair (pairs_at block rope.samples) q) (has_pair (pairs_at block (all_samples ropes)) q) (later k)

-- the blocks of a part of a live rope are in use
pub part_used : (d : Durable Spot) (id start len : ℕ) (q : BlockPair) → has_pair (pairs_at d.shape.block (slice (samples_of d.ropes id) start len)) q ≡ true → has_pair (used_pairs d) q ≡ true
part_used d id start len q e = has_live d.shape.block d.ropes id q (has_dropped d.shape.block start (samples_of d.ropes id) q (has_taken d.shape.block len (drop start (samples_of d.ropes id)) q e))

-- ---- how many uses there are at most

uses_most : (block : ℕ) (lists : List (List Piece)) (q : BlockPair) → uses_in block lists q ≤ length lists
uses_most block [] q = omega arith
uses_most block (x ∷ lists) q = let rest = uses_most block lists q in by (has_pair (pairs_at block (spots_of x)) q) (uses_in block lists q) rest
  where
    by : (t : Bool) (n : ℕ) → n ≤ length lists → cond t 1 0 + n ≤ suc (length lists)
    by true n h = omega (arith, h)
    by false n h = omega (arith, h)

-- one more passage may be held
pub may_hold : (t : Table) (held : List (List Piece)) (q : BlockPair) → Counts t held → length held ≤ 2 ^ 16 → length t.ropes ≤ 4294901757 → uses_at t q + 1 < 2 ^ 32
may_hold t held q counts few some =
    let all = counts q in
    let live = uses_most t.block (pieces_in t.ropes) q in
    let long = length-map t.ropes (λ (rope : Rope). rope.pieces) in
    let passages = uses_most t.block held q in
    omega (arith, all, live, long, passages, few, some)

-- ---- the jobs of a lane change

pub uses_set : (block : ℕ) (queues : List (List Job)) (lane : ℕ) (jobs : List Job) (q : BlockPair) → lane < length queues
    → uses_in block (held_by (set queues lane jobs)) q + uses_in block (held_in (lane_of queues lane)) q ≡ uses_in block (held_by queues) q + uses_in block (held_in jobs) q
uses_set block [] lane jobs q low = absurd (omega (arith, low))
uses_set block (x ∷ queues) zero jobs q low =
    let a = uses_in-append block (held_in jobs) (held_by queues) q in
    let b = uses_in-append block (held_in x) (held_by queues) q in
    omega (arith, a, b)
uses_set block (x ∷ queues) (suc lane) jobs q low =
    let a = uses_in-append block (held_in x) (held_by (set queues lane jobs)) q in
    let b = uses_in-append block (held_in x) (held_by queues) q in
    let rest = uses_set block queues lane jobs q (omega (arith, low)) in
    omega (arith, a, b, rest)

-- where a lane's jobs hold some passages besides those that its new jobs hold
pub uses_left : (block : ℕ) (queues : List (List Job)) (lane : ℕ) (jobs : List Job) (gone : List (List Piece)) → lane < length queues
    → ((q : BlockPair) → uses_in block (held_in (lane_of queues lane)) q ≡ uses_in block gone q + uses_in block (held_in jobs) q)
    → (q : BlockPair) → uses_in block (gone ++ held_by (set queues lane jobs)) q ≡ uses_in block (held_by queues) q
uses_left block queues lane jobs gone low h q =
    let a = uses_set block queues lane jobs q low in
    let b = h q in
    let e = uses_in-append block gone (held_by (set queues lane jobs)) q in
    omega (arith, a, b, e)

-- ---- a passage may be held

-- each block of a part of a live rope is used
pub hold_used : (held : List (List Piece)) (parts : Parts) (d : Durable Spot) (id start len : ℕ) (passage : List Piece) → Shows held parts d → passage ≡ pieces_of (slice (spots_of (pieces_here parts.ropes.ropes id)) start len)
    → (q : BlockPair) → has_pair (pairs_at parts.ropes.block (spots_of passage)) q ≡ true → 1 ≤ uses_at parts.ropes q
hold_used held parts d id start len passage shows is q e =
    let places = ap spots_of is ∙ spots_of-runs nowhere (slice (spots_of (pieces_here parts.ropes.ropes id)) start len) ∙ ap (λ ss. slice ss start len) (spots_here held parts d shows id) in
    let live = live_uses held parts d shows q (part_used d id start len q (subst (λ ss. has_pair (pairs_at d.shape.block ss) q ≡ true) places (subst (λ n. has_pair (pairs_at n (spots_of passage)) q ≡ true) shows.block e))) in
    let sum = shows.uses q in
    omega (arith, live, sum)

-- a part of a live rope is no longer than a rope may be
pub part_fits : (held : List (List Piece)) (parts : Parts) (b : Rebuilt) (id start len : ℕ) → Shows held parts b.kept → IsRebuilt plain_sample b → start + len ≤ samples_in (pieces_here parts.ropes.ropes id) → len ≤ 2 ^ 30
part_fits held parts b id start len shows valid inside =
    let most = (rope_limits b.form (durable_by plain_sample b.kept) id valid.kept).0 in
    let long = ap (λ l. length l) (samples_filled plain_sample b.kept.ropes id) ∙ length-map (samples_of b.kept.ropes id) plain_sample in
    let here = ap (λ l. length l) (spots_here held parts b.kept shows id) in
    let count = length-spots_of (pieces_here parts.ropes.ropes id) in
    omega (arith, most, long, here, count, inside)
