-- The blocks of a window that comes next are used, and have addresses.
use Rattle.std.proofs.Common.{◌≡◌, ℕ, zero, suc, ◌+◌, ◌/◌, ◌<◌, ◌≤◌, true, false, cond, List, [], ◌∷◌, ◌++◌, take, drop, Some, refl, sym, ◌∙◌, ap, subst, arith}
use Rattle.std.specs.Prelude.{slice_get}
use Rattle.voice_units.specs.declared.pieces.Piece.{Piece}
use Rattle.voice_units.specs.Spots.{Spot, spots_in, spots_from, spots_of, stretches, window}
use Rattle.voice_units.specs.Blocks.{BlockPair, same_pair, pairs_at, has_pair}
use Rattle.voice_model.specs.Replay.{Rebuilt}
use Rattle.voice_model.proofs.PlacesKept.{same_itself, has_pair-append}
use Rattle.rope_table.specs.Table.{Table, Counts, Every, uses_in, pairs_in, pair_of}
use Rattle.recovery.specs.declared.parts.Parts.{Parts}
use Rattle.running_tables.specs.Running.{Runs}
use Rattle.voice_blocks.proofs.Apart.{or_left, or_right, has_append}
use Rattle.running_tables.proofs.Recounted.{used_once}
use Rattle.play_queue.specs.declared.jobs.Job.{Job}
use Rattle.play_queue.specs.Queued.{lane_of}
use Rattle.playing.specs.Frames.{HaveAddresses, uses_of}
use Rattle.playing.specs.Held.{held_in, held_by}
use Rattle.playing.specs.Lanes.{stopped_at, next_window}
use Rattle.playing.specs.Windows.{AreStretches}
use Rattle.playing.proofs.Samples.{stretches_are, take_stretches, window_spots}
use Rattle.lane_calls.proofs.Counting.{has_taken, has_dropped}
use Rattle.lane_calls.proofs.LetGo.{has_both}

-- the block of a stretch is among those of its places
first_has : (block n file from : ℕ) → 0 < n → has_pair (pairs_at block (spots_from file from n)) (pair_of file (from / block)) ≡ true
first_has block zero file from some = absurd (omega (arith, some))
first_has block (suc n) file from some = or_left (same_pair (pair_of file (from / block)) (pair_of file (from / block))) (has_pair (pairs_at block (spots_from file (from + 1) n)) (pair_of file (from / block))) (same_itself (pair_of file (from / block)))

stretch_has : (block : ℕ) (ws : List Piece) (j : ℕ) (s : Piece) → AreStretches block ws → slice_get ws j ≡ Some s → has_pair (pairs_at block (spots_of ws)) (pair_of s.file (s.from / block)) ≡ true
stretch_has block [] j s h at = cc
stretch_has block (w ∷ ws) zero s h at =
    let same : w ≡ s = cc in
    has_pair-append block (spots_in w) (spots_of ws) (pair_of s.file (s.from / block))
    ∙ or_left (has_pair (pairs_at block (spots_in w)) (pair_of s.file (s.from / block))) (has_pair (pairs_at block (spots_of ws)) (pair_of s.file (s.from / block)))
    (subst (λ (p : Piece). has_pair (pairs_at block (spots_in w)) (pair_of p.file (p.from / block)) ≡ true) same (first_has block w.len w.file w.from h.0.some))
stretch_has block (w ∷ ws) (suc j) s h at =
    has_pair-append block (spots_in w) (spots_of ws) (pair_of s.file (s.from / block))
    ∙ or_right (has_pair (pairs_at block (spots_in w)) (pair_of s.file (s.from / block))) (has_pair (pairs_at block (spots_of ws)) (pair_of s.file (s.from / block))) (stretch_has block ws j s h.1 at)

-- the block of a stretch of a window is one of the passage
window_has : (block at : ℕ) (ss : List Spot) (j : ℕ) (s : Piece) → 0 < block → slice_get (take 4 (stretches block (drop at ss))) j ≡ Some s → has_pair (pairs_at block ss) (pair_of s.file (s.from / block)) ≡ true
window_has block at ss j s some e =
    let q = pair_of s.file (s.from / block) in
    let w = take 4 (stretches block (drop at ss)) in
    let are = take_stretches block 4 (stretches block (drop at ss)) (stretches_are block (drop at ss) some) in
    has_dropped block at ss q
    (has_taken block (window block ss at) (drop at ss) q
    (subst (λ (l : List Spot). has_pair (pairs_at block l) q ≡ true) (window_spots block at ss) (stretch_has block w j s are e)))

-- a block of a lane's passages is one of all lanes'
lane_has : (block : ℕ) (queues : List (List Job)) (lane : ℕ) (q : BlockPair) → has_pair (pairs_in block (held_in (lane_of queues lane))) q ≡ true → has_pair (pairs_in block (held_by queues)) q ≡ true
lane_has block [] lane q e = cc
lane_has block (x ∷ queues) zero q e = has_both block (held_in x) (held_by queues) q ∙ or_left (has_pair (pairs_in block (held_in x)) q) (has_pair (pairs_in block (held_by queues)) q) e
lane_has block (x ∷ queues) (suc lane) q e = has_both block (held_in x) (held_by queues) q ∙ or_right (has_pair (pairs_in block (held_in x)) q) (has_pair (pairs_in block (held_by queues)) q) (lane_has block queues lane q e)

first_held : (block : ℕ) (job : Job) (jobs : List Job) (q : BlockPair) → job.stopped ≡ false → has_pair (pairs_at block (spots_of job.passage)) q ≡ true → has_pair (pairs_in block (held_in (job ∷ jobs))) q ≡ true
first_held block job jobs q goes e =
    ap (λ t. has_pair (pairs_in block (cond t [] (job.passage ∷ []) ++ held_in jobs)) q) goes
    ∙ has_append (pairs_at block (spots_of job.passage)) (pairs_in block (held_in jobs)) q
    ∙ or_left (has_pair (pairs_at block (spots_of job.passage)) q) (has_pair (pairs_in block (held_in jobs)) q) e

-- the block of a stretch of the next window of a job that goes on is one of a held passage
pub next_held : (block more : ℕ) (queues : List (List Job)) (lane j : ℕ) (s : Piece) → 0 < block → stopped_at (lane_of queues lane) ≡ false → slice_get (next_window block more (lane_of queues lane)) j ≡ Some s
    → has_pair (pairs_in block (held_by queues)) (pair_of s.file (s.from / block)) ≡ true
next_held block more queues lane j s some goes at = lane_has block queues lane (pair_of s.file (s.from / block)) (by (lane_of queues lane) goes at)
  where
    by : (jobs : List Job) → stopped_at jobs ≡ false → slice_get (next_window block more jobs) j ≡ Some s → has_pair (pairs_in block (held_in jobs)) (pair_of s.file (s.from / block)) ≡ true
    by [] g e = cc
    by (job ∷ jobs) g e = first_held block job jobs (pair_of s.file (s.from / block)) g (window_has block (job.heard + more) (spots_of job.passage) j s some e)

-- it has an address
pub next_addresses : (pledged : List (List Piece)) (takings : List ℕ) (parts : Parts) (b : Rebuilt) (block more : ℕ) (queues : List (List Job)) (lane : ℕ) → Runs (held_by queues) pledged takings parts b → b.shape.block ≡ block → 0 < block
    → stopped_at (lane_of queues lane) ≡ false → HaveAddresses block parts.blocks.holders (next_window block more (lane_of queues lane))
next_addresses pledged takings parts b block more queues lane runs same some goes j s at =
    let q = pair_of s.file (s.from / block) in
    runs.given.passages q
    (has_both b.shape.block (held_by queues) pledged q
    ∙ or_left (has_pair (pairs_in b.shape.block (held_by queues)) q) (has_pair (pairs_in b.shape.block pledged) q)
    (subst (λ n. has_pair (pairs_in n (held_by queues)) q ≡ true) (sym same) (next_held block more queues lane j s some goes at)))

each_at : (P : Piece → Type 0) (ws : List Piece) → ((j : ℕ) (s : Piece) → slice_get ws j ≡ Some s → P s) → Every P ws
each_at P [] h = tt
each_at P (w ∷ ws) h = (h 0 w refl, each_at P ws (λ j s e. h (suc j) s e))

-- and is used
pub next_used : (t : Table) (block more : ℕ) (queues : List (List Job)) (lane : ℕ) → Counts t (held_by queues) → t.block ≡ block → 0 < block → stopped_at (lane_of queues lane) ≡ false
    → Every (λ (s : Piece). 0 < uses_of t s.file (s.from / block)) (next_window block more (lane_of queues lane))
next_used t block more queues lane counts same some goes =
    each_at (λ (s : Piece). 0 < uses_of t s.file (s.from / block)) (next_window block more (lane_of queues lane))
    (λ j s at.
    let q = pair_of s.file (s.from / block) in
    let one = subst (λ n. 1 ≤ uses_in n (held_by queues) q) (sym same) (used_once block (held_by queues) q (next_held block more queues lane j s some goes at)) in
    let sum = counts q in
    omega (arith, one, sum))
