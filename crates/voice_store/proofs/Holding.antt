-- What the lanes of a valid state hold.
use Rattle.std.proofs.Common.{ℕ, ◌*◌, ◌≤◌, Bool, true, false, not, cond, List, [], ◌∷◌, map, filter, length, ap, arith}
use Rattle.std.proofs.lemmas.List.{length-append}
use Rattle.voice_units.specs.declared.pieces.Piece.{Piece}
use Rattle.voice_units.specs.Spots.{pieces_of}
use Rattle.voice_model.specs.Samples.{spot_of}
use Rattle.voice_model.specs.State.{State, Job, LaneState}
use Rattle.voice_model.specs.Valid.{Every, IsLane, IsState}
use Rattle.running_tables.specs.Running.{passages_of}
use Rattle.next_ropes.specs.Ready.{most_held}
use Rattle.voice_store.specs.Stood.{IsHolding}

-- the passages of one lane's jobs
abbrev pub of_jobs : List Job → List (List Piece)
of_jobs jobs = map (λ (job : Job). pieces_of (map spot_of job.passage)) (filter (λ (job : Job). not job.stopped) jobs)

few_jobs : (jobs : List Job) → length (of_jobs jobs) ≤ length jobs
few_jobs [] = omega arith
few_jobs (job ∷ jobs) = by job.stopped (few_jobs jobs)
  where
    by : (b : Bool) → length (of_jobs jobs) ≤ length jobs
        → length (map (λ (j : Job). pieces_of (map spot_of j.passage)) (cond (not b) (job ∷ filter (λ (j : Job). not j.stopped) jobs) (filter (λ (j : Job). not j.stopped) jobs))) ≤ length (job ∷ jobs)
    by true rest = omega (arith, rest)
    by false rest = omega (arith, rest)

few_passages : (lanes : List LaneState) → Every IsLane lanes → length (passages_of lanes) ≤ 8 * length lanes
few_passages [] h = omega arith
few_passages (lane ∷ lanes) h =
    let both = length-append (of_jobs lane.jobs) (passages_of lanes) in
    let one = few_jobs lane.jobs in
    let most = h.0.few in
    let rest = few_passages lanes h.1 in
    omega (arith, both, one, most, rest)

-- few passages are held
pub few_held : (held : List (List Piece)) (takings : List ℕ) (block : ℕ) (s : State) → IsHolding held takings block s.lanes → IsState s → length held ≤ most_held
few_held held takings block s holding valid =
    let all = few_passages s.lanes valid.lanes in
    let count = valid.lane_count in
    let limit = s.shape.conditions.lanes_limit in
    let same = ap length holding.passages in
    omega (arith, all, count, limit, same)
