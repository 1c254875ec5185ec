-- The passages of a state's jobs, as the lanes of the program hold them.
use Rattle.std.proofs.Common.{◌≡◌, ℕ, suc, ◌*◌, ◌<◌, ◌≤◌, Bool, true, false, not, cond, List, [], ◌∷◌, ◌++◌, map, filter, length, get_or, refl, ◌∙◌, ap, arith}
use Rattle.std.proofs.lemmas.List.{length-map, length-append}
use Rattle.voice_units.specs.declared.pieces.Piece.{Piece}
use Rattle.voice_units.specs.Spots.{Spot, spots_of, pieces_of, nowhere}
use Rattle.voice_units.specs.Blocks.{BlockPair, pairs_at, has_pair}
use Rattle.voice_units.proofs.PiecesOfRopes.{spots_of-runs}
use Rattle.voice_model.specs.Samples.{Tagged, spot_of}
use Rattle.voice_model.specs.State.{LaneState, quiet_lane}
use Rattle.voice_model.specs.State as model
use Rattle.voice_model.specs.Valid.{Every, IsLane}
use Rattle.rope_table.specs.Table.{uses_by, uses_in}
use Rattle.running_tables.specs.Running.{passages_of}
use Rattle.running_tables.proofs.Passages.{job_passages}
use Rattle.play_queue.specs.declared.jobs.Job.{Job}
use Rattle.play_queue.specs.Queued.{lane_of}
use Rattle.playing.specs.Held.{held_one, held_in, held_by}
use Rattle.playing.specs.Shown.{shown_job}
use Rattle.playing.proofs.Letting.{uses_in-append}
use Rattle.lane_calls.specs.Laws as laws
use Rattle.lane_calls.proofs.Showing.{spots_again}

-- the pieces of a job's samples have the blocks of its passage
again : (fill : Spot → Tagged) → ((x : Spot) → spot_of (fill x) ≡ x) → (block : ℕ) (ps : List Piece) (q : BlockPair) → uses_by block (pieces_of (map spot_of (map fill (spots_of ps)))) q ≡ uses_by block ps q
again fill same block ps q =
    ap (λ (ss : List Spot). cond (has_pair (pairs_at block ss) q) 1 0) (spots_of-runs nowhere (map spot_of (map fill (spots_of ps))) ∙ spots_again fill same (spots_of ps))

jobs_held : (fill : Spot → Tagged) → ((x : Spot) → spot_of (fill x) ≡ x) → (block : ℕ) (jobs : List Job) (q : BlockPair) → uses_in block (job_passages (map (shown_job fill) jobs)) q ≡ uses_in block (held_in jobs) q
jobs_held fill same block [] q = refl
jobs_held fill same block (job ∷ jobs) q = by job.stopped (again fill same block job.passage q) (jobs_held fill same block jobs q)
  where
    first : model.Job
    first = shown_job fill job

    rest : List model.Job
    rest = filter (λ (j : model.Job). not j.stopped) (map (shown_job fill) jobs)

    by : (stopped : Bool) → uses_by block (pieces_of (map spot_of first.passage)) q ≡ uses_by block job.passage q → uses_in block (map (λ (j : model.Job). pieces_of (map spot_of j.passage)) rest) q ≡ uses_in block (held_in jobs) q
        → uses_in block (map (λ (j : model.Job). pieces_of (map spot_of j.passage)) (cond (not stopped) (first ∷ rest) rest)) q ≡ uses_in block (cond stopped [] (job.passage ∷ []) ++ held_in jobs) q
    by true one later = later
    by false one later = omega (arith, one, later)

lanes_held : (fill : Spot → Tagged) → ((x : Spot) → spot_of (fill x) ≡ x) → (block : ℕ) (lanes : List LaneState) (queues : List (List Job)) (q : BlockPair) → length lanes ≡ length queues
    → ((l : ℕ) → l < length lanes → (get_or lanes l quiet_lane).jobs ≡ map (shown_job fill) (lane_of queues l)) → uses_in block (passages_of lanes) q ≡ uses_in block (held_by queues) q
lanes_held fill same block [] [] q many jobs = refl
lanes_held fill same block [] (x ∷ queues) q many jobs = absurd (omega (arith, many))
lanes_held fill same block (lane ∷ lanes) [] q many jobs = absurd (omega (arith, many))
lanes_held fill same block (lane ∷ lanes) (x ∷ queues) q many jobs =
    let here = ap (λ (js : List model.Job). uses_in block (job_passages js) q) (jobs 0 (omega arith)) in
    let first = jobs_held fill same block x q in
    let later = lanes_held fill same block lanes queues q (omega (arith, many)) (λ l lt. jobs (suc l) (omega (arith, lt))) in
    let a = uses_in-append block (job_passages lane.jobs) (passages_of lanes) q in
    let c = uses_in-append block (held_in x) (held_by queues) q in
    omega (arith, here, first, later, a, c)

pub passages_held : laws.PassagesHeld
passages_held fill lanes made s shows block q = lanes_held fill shows.spots block s.lanes lanes.queues q shows.many shows.jobs

-- ---- how many there are

one_held : (job : Job) → length (held_one job) ≤ 1
one_held job = by job.stopped
  where
    by : (stopped : Bool) → length (cond stopped [] (job.passage ∷ [])) ≤ 1
    by true = omega arith
    by false = omega arith

few_in : (jobs : List Job) → length (held_in jobs) ≤ length jobs
few_in [] = omega arith
few_in (job ∷ jobs) =
    let first = one_held job in
    let later = few_in jobs in
    let all = length-append (held_one job) (held_in jobs) in
    omega (arith, first, later, all)

few_by : (fill : Spot → Tagged) (lanes : List LaneState) (queues : List (List Job)) → length lanes ≡ length queues → ((l : ℕ) → l < length lanes → (get_or lanes l quiet_lane).jobs ≡ map (shown_job fill) (lane_of queues l))
    → Every IsLane lanes → length (held_by queues) ≤ 8 * length queues
few_by fill [] [] many jobs are = omega arith
few_by fill [] (x ∷ queues) many jobs are = absurd (omega (arith, many))
few_by fill (lane ∷ lanes) [] many jobs are = absurd (omega (arith, many))
few_by fill (lane ∷ lanes) (x ∷ queues) many jobs are =
    let here = ap (λ (js : List model.Job). length js) (jobs 0 (omega arith)) in
    let same = length-map x (shown_job fill) in
    let most = are.0.few in
    let first = few_in x in
    let later = few_by fill lanes queues (omega (arith, many)) (λ l lt. jobs (suc l) (omega (arith, lt))) are.1 in
    let all = length-append (held_in x) (held_by queues) in
    omega (arith, here, same, most, first, later, all)

pub few_held : laws.FewHeld
few_held fill lanes made s shows valid =
    let few = few_by fill s.lanes lanes.queues shows.many shows.jobs valid.lanes in
    let shape = shows.shape in
    let most = s.shape.conditions.lanes_limit in
    omega (arith, few, shape, most)
