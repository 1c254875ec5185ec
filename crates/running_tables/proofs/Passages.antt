-- The blocks that a state uses, as its tables tell them.
use Rattle.std.proofs.Common.{◌≡◌, ℕ, ◌+◌, Bool, true, false, not, ◌||◌, cond, List, [], ◌∷◌, ◌++◌, map, filter, flat_map, refl, sym, ◌∙◌, ap}
use Rattle.std.specs.Prelude.{sum_by}
use Rattle.std.proofs.lemmas.List.{append-nil, append_assoc, map-append}
use Rattle.std.proofs.lemmas.List.Sums.{sum_by-cons}
use Rattle.voice_units.specs.Spots.{Spot, pieces_of, spots_of, nowhere}
use Rattle.voice_units.specs.Blocks.{BlockPair, pairs_at, has_pair}
use Rattle.voice_units.specs.declared.pieces.Piece.{Piece}
use Rattle.voice_units.proofs.PiecesOfRopes.{spots_of-runs}
use Rattle.voice_model.specs.Samples.{Tagged, spot_of}
use Rattle.voice_model.specs.State.{State, Job, LaneState, Durable}
use Rattle.voice_model.specs.Room.{pair_of, pairs_of, held_by_job, held_by_lane, held_by_doubt, samples_in_use, taking_blocks}
use Rattle.voice_model.specs.Replay.{Rebuilt, used_pairs, durable_by}
use Rattle.voice_model.specs.Valid.{live_pairs_of}
use Rattle.voice_model.proofs.LegalInReplay.{used_filled}
use Rattle.rope_table.specs.Table.{pairs_in}
use Rattle.running_tables.specs.Running.{held_in, pledged_in}
use Rattle.running_tables.proofs.Codes.{total}
use Rattle.voice_blocks.proofs.Apart.{has_append}

pub pairs_after : (block : ℕ) (xs ys : List (List Piece)) → pairs_in block (xs ++ ys) ≡ pairs_in block xs ++ pairs_in block ys
pairs_after block [] ys = refl
pairs_after block (x ∷ xs) ys =
    ap (λ l. pairs_at block (spots_of x) ++ l) (pairs_after block xs ys) ∙ sym (append_assoc (pairs_at block (spots_of x)) (pairs_in block xs) (pairs_in block ys))

spots_pairs : (block : ℕ) (samples : List Tagged) → pairs_at block (map spot_of samples) ≡ pairs_of block samples
spots_pairs block [] = refl
spots_pairs block (t ∷ samples) = ap (λ l. pair_of block t ∷ l) (spots_pairs block samples)

-- the blocks of the pieces of samples are those of the samples
piece_pairs : (block : ℕ) (samples : List Tagged) → pairs_at block (spots_of (pieces_of (map spot_of samples))) ≡ pairs_of block samples
piece_pairs block samples = ap (pairs_at block) (spots_of-runs nowhere (map spot_of samples)) ∙ spots_pairs block samples

pairs_joined : (block : ℕ) (xs ys : List Tagged) → pairs_of block (xs ++ ys) ≡ pairs_of block xs ++ pairs_of block ys
pairs_joined block xs ys = map-append (pair_of block) xs ys

-- the passages of jobs that are not stopped
abbrev pub job_passages : List Job → List (List Piece)
job_passages jobs = map (λ (job : Job). pieces_of (map spot_of job.passage)) (filter (λ (job : Job). not job.stopped) jobs)

job_pairs : (block : ℕ) (jobs : List Job) → pairs_in block (job_passages jobs) ≡ pairs_of block (flat_map held_by_job jobs)
job_pairs block [] = refl
job_pairs block (job ∷ jobs) =
    by job.stopped job.passage (filter (λ (j : Job). not j.stopped) jobs) (job_pairs block jobs) job refl refl
    ∙ sym (pairs_joined block (held_by_job job) (flat_map held_by_job jobs))
  where
    by : (stopped : Bool) (passage : List Tagged) (rest : List Job) → pairs_in block (map (λ (j : Job). pieces_of (map spot_of j.passage)) rest) ≡ pairs_of block (flat_map held_by_job jobs) → (j : Job) → j.stopped ≡ stopped → j.passage ≡ passage → pairs_in block (map (λ (i : Job). pieces_of (map spot_of i.passage)) (cond (not j.stopped) (j ∷ rest) rest)) ≡ pairs_of block (cond j.stopped [] j.passage) ++ pairs_of block (flat_map held_by_job jobs)
    by true passage rest later j e k =
        ap (λ b. pairs_in block (map (λ (i : Job). pieces_of (map spot_of i.passage)) (cond (not b) (j ∷ rest) rest))) e
        ∙ later
        ∙ sym (ap (λ b. pairs_of block (cond b [] j.passage) ++ pairs_of block (flat_map held_by_job jobs)) e)
    by false passage rest later j e k =
        ap (λ b. pairs_in block (map (λ (i : Job). pieces_of (map spot_of i.passage)) (cond (not b) (j ∷ rest) rest))) e
        ∙ ap (λ l. pairs_at block (spots_of (pieces_of (map spot_of j.passage))) ++ l) later
        ∙ ap (λ l. l ++ pairs_of block (flat_map held_by_job jobs)) (piece_pairs block j.passage)
        ∙ sym (ap (λ b. pairs_of block (cond b [] j.passage) ++ pairs_of block (flat_map held_by_job jobs)) e)

lane_pairs : (block : ℕ) (lanes : List LaneState) → pairs_in block (flat_map (λ (lane : LaneState). job_passages lane.jobs) lanes) ≡ pairs_of block (flat_map held_by_lane lanes)
lane_pairs block [] = refl
lane_pairs block (lane ∷ lanes) =
    pairs_after block (job_passages lane.jobs) (flat_map (λ (l : LaneState). job_passages l.jobs) lanes)
    ∙ ap (λ l. l ++ pairs_in block (flat_map (λ (m : LaneState). job_passages m.jobs) lanes)) (job_pairs block lane.jobs)
    ∙ ap (λ l. pairs_of block (held_by_lane lane) ++ l) (lane_pairs block lanes)
    ∙ sym (pairs_joined block (held_by_lane lane) (flat_map held_by_lane lanes))

-- the blocks of held passages and of the change in doubt
pub other_pairs : (block : ℕ) (s : State) → pairs_in block (held_in s ++ pledged_in s) ≡ pairs_of block (flat_map held_by_lane s.lanes) ++ pairs_of block (held_by_doubt s.doubt)
other_pairs block s =
    pairs_after block (held_in s) (pledged_in s)
    ∙ ap (λ l. l ++ pairs_in block (pledged_in s)) (lane_pairs block s.lanes)
    ∙ ap (λ l. pairs_of block (flat_map held_by_lane s.lanes) ++ l) (append-nil (pairs_at block (spots_of (pieces_of (map spot_of (held_by_doubt s.doubt))))) ∙ piece_pairs block (held_by_doubt s.doubt))

-- a block is used by a state just if a live rope has it, or a held passage or the change in doubt
pub used_by_state : (b : Rebuilt) (s : State) (fill : Spot → Tagged) → ((x : Spot) → spot_of (fill x) ≡ x) → durable_by fill b.kept ≡ s.kept → (q : BlockPair) →
    has_pair (pairs_of s.shape.block (samples_in_use s)) q ≡ (has_pair (used_pairs b.kept) q || has_pair (pairs_in b.shape.block (held_in s ++ pledged_in s)) q)
used_by_state b s fill same kept q =
    ap (λ l. has_pair l q) lists
    ∙ has_append (live_pairs_of s.kept) (pairs_in s.shape.block (held_in s ++ pledged_in s)) q
    ∙ ap (λ (d : Durable Tagged). has_pair (live_pairs_of d) q || has_pair (pairs_in d.shape.block (held_in s ++ pledged_in s)) q) (sym kept)
    ∙ ap (λ l. has_pair l q || has_pair (pairs_in b.shape.block (held_in s ++ pledged_in s)) q) (used_filled fill same b)
  where
    lists : pairs_of s.shape.block (samples_in_use s) ≡ live_pairs_of s.kept ++ pairs_in s.shape.block (held_in s ++ pledged_in s)
    lists =
        pairs_joined s.shape.block (flat_map (λ rope. rope.samples) s.ropes ++ flat_map held_by_lane s.lanes) (held_by_doubt s.doubt)
        ∙ ap (λ l. l ++ pairs_of s.shape.block (held_by_doubt s.doubt)) (pairs_joined s.shape.block (flat_map (λ rope. rope.samples) s.ropes) (flat_map held_by_lane s.lanes))
        ∙ append_assoc (live_pairs_of s.kept) (pairs_of s.shape.block (flat_map held_by_lane s.lanes)) (pairs_of s.shape.block (held_by_doubt s.doubt))
        ∙ ap (λ l. live_pairs_of s.kept ++ l) (sym (other_pairs s.shape.block s))

-- the blocks that open recordings have taken
pub total_taken : (block : ℕ) (lanes : List LaneState) → total (map (λ (lane : LaneState). taking_blocks block lane.taking) lanes) ≡ sum_by (λ (lane : LaneState). taking_blocks block lane.taking) lanes
total_taken block [] = refl
total_taken block (lane ∷ lanes) =
    ap (λ n. taking_blocks block lane.taking + n) (total_taken block lanes) ∙ sym (sum_by-cons (λ (l : LaneState). taking_blocks block l.taking) lane lanes)
