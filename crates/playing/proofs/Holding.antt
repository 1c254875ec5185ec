-- The held passages, as the lanes' jobs change.
use Rattle.std.proofs.Common.{◌≡◌, ℕ, zero, suc, ◌+◌, ◌/◌, ◌<◌, ◌⊎◌, inl, inr, Bool, true, false, ◌||◌, cond, ◌==◌, List, [], ◌∷◌, ◌++◌, length, map, drop, set, refl, sym, ap, subst, arith, Some}
use Rattle.std.proofs.lemmas.Bool.{eqb-true}
use Rattle.std.specs.List.{list_any}
use Rattle.voice_units.specs.declared.pieces.Piece.{Piece}
use Rattle.voice_units.specs.Blocks.{BlockPair}
use Rattle.voice_units.proofs.PiecesOfRopes.{both}
use Rattle.rope_table.specs.Table.{Every, Table, Counts, uses_in}
use Rattle.play_queue.specs.declared.jobs.Job.{Job}
use Rattle.play_queue.specs.Queued.{lane_of, stopped_job}
use Rattle.playing.specs.declared.blocks.Block.{Block}
use Rattle.playing.specs.Frames.{FramesState, AreUsed, resident_at, is_in}
use Rattle.playing.specs.Lanes.{new_job, stopped_at, home_with, sent, IsSentTo}
use Rattle.playing.specs.Held.{held_in, held_by}
use Rattle.playing.proofs.Letting.{uses_in-append, held-append}

pub same_counts : (t : Table) (xs ys : List (List Piece)) → ((q : BlockPair) → uses_in t.block xs q ≡ uses_in t.block ys q) → Counts t xs → Counts t ys
same_counts t xs ys same c q = let n = c q in let e = same q in omega (arith, n, e)

-- ---- one lane and the others

uses_lane : (block : ℕ) (queues : List (List Job)) (lane : ℕ) (jobs : List Job) (q : BlockPair) → lane < length queues → uses_in block (held_by (set queues lane jobs)) q ≡ uses_in block (held_in jobs) q + uses_in block (held_by (set queues lane [])) q
uses_lane block [] lane jobs q low = absurd (omega arith)
uses_lane block (x ∷ queues) zero jobs q low = uses_in-append block (held_in jobs) (held_by queues) q
uses_lane block (x ∷ queues) (suc lane) jobs q low =
    let a = uses_in-append block (held_in x) (held_by (set queues lane jobs)) q in
    let b = uses_in-append block (held_in x) (held_by (set queues lane [])) q in
    let rest = uses_lane block queues lane jobs q (omega arith) in
    omega (arith, a, b, rest)

same_lane : (queues : List (List Job)) (lane : ℕ) → lane < length queues → set queues lane (lane_of queues lane) ≡ queues
same_lane [] lane low = absurd (omega arith)
same_lane (x ∷ queues) zero low = refl
same_lane (x ∷ queues) (suc lane) low = ap (λ l. x ∷ l) (same_lane queues lane (omega arith))

pub put_lane : (t : Table) (queues : List (List Job)) (lane : ℕ) (jobs : List Job) (rest : List (List Piece)) → lane < length queues → Counts t (held_in jobs ++ (held_by (set queues lane []) ++ rest)) → Counts t (held_by (set queues lane jobs) ++ rest)
put_lane t queues lane jobs rest low = same_counts t _ _ (λ q.
    let a = uses_lane t.block queues lane jobs q low in
    let b = uses_in-append t.block (held_in jobs) (held_by (set queues lane []) ++ rest) q in
    let c = uses_in-append t.block (held_by (set queues lane [])) rest q in
    let d = uses_in-append t.block (held_by (set queues lane jobs)) rest q in
    omega (arith, a, b, c, d))

pub split_lane : (t : Table) (queues : List (List Job)) (lane : ℕ) (rest : List (List Piece)) → lane < length queues → Counts t (held_by queues ++ rest) → Counts t (held_in (lane_of queues lane) ++ (held_by (set queues lane []) ++ rest))
split_lane t queues lane rest low = same_counts t _ _ (λ q.
    let a = uses_lane t.block queues lane (lane_of queues lane) q low in
    let e = ap (λ x. uses_in t.block (held_by x) q) (same_lane queues lane low) in
    let b = uses_in-append t.block (held_in (lane_of queues lane)) (held_by (set queues lane []) ++ rest) q in
    let c = uses_in-append t.block (held_by (set queues lane [])) rest q in
    let d = uses_in-append t.block (held_by queues) rest q in
    omega (arith, a, b, c, d, e))

-- ---- jobs

pub stopped_none : (jobs : List Job) → held_in (map stopped_job jobs) ≡ []
stopped_none [] = refl
stopped_none (j ∷ jobs) = stopped_none jobs

pub pushed_last : (t : Table) (jobs : List Job) (id : ℕ) (passage : List Piece) (rest : List (List Piece)) → Counts t (passage ∷ (held_in jobs ++ rest)) → Counts t (held_in (jobs ++ new_job id passage ∷ []) ++ rest)
pushed_last t jobs id passage rest = same_counts t (passage ∷ (held_in jobs ++ rest)) (held_in (jobs ++ new_job id passage ∷ []) ++ rest) (λ q.
    let a = ap (λ x. uses_in t.block (x ++ rest) q) (held-append jobs (new_job id passage ∷ [])) in
    let b = uses_in-append t.block (held_in jobs ++ (passage ∷ [])) rest q in
    let c = uses_in-append t.block (held_in jobs) (passage ∷ []) q in
    let d = uses_in-append t.block (held_in jobs) rest q in
    omega (arith, a, b, c, d))

pub sent_same : (jobs : List Job) (more n : ℕ) → held_in (sent more n jobs) ≡ held_in jobs
sent_same [] more n = refl
sent_same (j ∷ jobs) more n = refl

pub home_same : (jobs : List Job) (more : ℕ) → held_in (home_with more jobs) ≡ held_in jobs
home_same [] more = refl
home_same (j ∷ jobs) more = refl

pub stopped_left : (jobs : List Job) → stopped_at jobs ≡ true → held_in (drop 1 jobs) ≡ held_in jobs
stopped_left [] e = refl
stopped_left (j ∷ jobs) e = ap (λ b. cond b [] (j.passage ∷ []) ++ held_in jobs) (sym e)

pub first_left : (job : Job) (jobs : List Job) → job.stopped ≡ false → held_in (job ∷ jobs) ≡ job.passage ∷ held_in jobs
first_left job jobs e = ap (λ b. cond b [] (job.passage ∷ []) ++ held_in jobs) e

-- ---- blocks of frames

used_in : (uses : ℕ → ℕ → ℕ) (block : ℕ) (window : List Piece) (b : Block) → list_any (is_in block b) window ≡ true → Every (λ (s : Piece). 0 < uses s.file (s.from / block)) window → 0 < uses b.file b.index
used_in uses block [] b e h = cc
used_in uses block (s ∷ window) b e h = either (is_in block b s) refl e (λ k. used_in uses block window b k h.1)
  where
    either : (t : Bool) → is_in block b s ≡ t → (t || list_any (is_in block b) window) ≡ true → (list_any (is_in block b) window ≡ true → 0 < uses b.file b.index) → 0 < uses b.file b.index
    either true k e rest =
        let two = both (s.file == b.file) (s.from / block == b.index) k in
        subst (λ (n : ℕ). 0 < uses n b.index) (eqb-true s.file b.file two.0) (subst (λ (n : ℕ). 0 < uses s.file n) (eqb-true (s.from / block) b.index two.1) h.0)
    either false k e rest = rest e

pub still_used : (uses : ℕ → ℕ → ℕ) (block : ℕ) (window : List Piece) (lane : ℕ) (old new : FramesState) → IsSentTo block window lane old new → AreUsed uses old → Every (λ (s : Piece). 0 < uses s.file (s.from / block)) window → AreUsed uses new
still_used uses block window lane old new sent was h f b at = by (sent.came f b at)
  where
    by : (resident_at old.resident f ≡ Some b) ⊎ (list_any (is_in block b) window ≡ true) → 0 < uses b.file b.index
    by (inl there) = was f b there
    by (inr wanted) = used_in uses block window b wanted h
