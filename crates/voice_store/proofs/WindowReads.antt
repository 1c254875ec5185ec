-- A window has at least as many blocks as a Feed reads.
use Rattle.std.proofs.Common.{◌≡◌, ℕ, zero, suc, ◌+◌, ◌/◌, ◌<◌, ◌≤◌, ◌==◌, ◌⊎◌, inl, inr, Bool, true, false, cond, not, filter, ◌||◌, ◌&&◌, List, [], ◌∷◌, ◌++◌, map, length, take, drop, Option, Some, None, refl, sym, ◌∙◌, ap, ap₂, subst, arith}
use Rattle.std.specs.List.{list_any}
use Rattle.std.proofs.lemmas.Bool.{eqb-true, eq-eqb}
use Rattle.std.proofs.lemmas.List.{map-append, get_or_past}
use Rattle.std.proofs.lemmas.List.Folds.{list_any-append}
use Rattle.voice_units.specs.declared.pieces.Piece.{Piece}
use Rattle.voice_units.specs.Spots.{Spot, comes_before, lone, longer, in_front, runs, spots_from, spots_in, spots_of}
use Rattle.voice_units.specs.Blocks.{BlockPair, same_pair, has_pair, pair_at, pairs_at, distinct}
use Rattle.voice_units.proofs.Distinct.{has_pair-distinct, same_count, same_pair-true}
use Rattle.voice_units.specs.Spots.{begins_block, stretches, slice, window}
use Rattle.voice_model.specs.Samples.{Tagged, spot_of, spots_in_rope}
use Rattle.voice_model.specs.Room.{pairs_of}
use Rattle.voice_model.specs.State.{State, Job, lane_at}
use Rattle.voice_model.specs.Step.{brought_back, first_job}
use Rattle.voice_units.specs.declared.shapes.Shape.{Shape}
use Rattle.play_queue.specs.declared.jobs.Job as queue
use Rattle.play_queue.specs.Queued.{lane_of}
use Rattle.playing.specs.declared.blocks.Block.{Block}
use Rattle.playing.specs.Frames.{HasRead, missing, is_resident, is_in, block_at}
use Rattle.playing.specs.Lanes.{LanesState, next_window, stopped_at}
use Rattle.playing.specs.Shown.{shown_job, more_of}
use Rattle.playing.proofs.Samples.{window_spots}
use Rattle.lane_calls.specs.Lanes.{ShowsLanes}
use Rattle.voice_outside.specs.Disk.{Told}
use Rattle.voice_store.specs.declared.inside.Inside.{Inside}
use Rattle.voice_store.specs.Stood.{Stood, last_of}
use Rattle.voice_store.specs.Turns.{next_pairs, blocks_of_next, unread_of_next, window_blocks, unread_blocks}
use Rattle.voice_store.proofs.Refused.{spots_again}
use Rattle.voice_store.proofs.Windowed.{heard_of, slice_filled}
use Rattle.voice_store.proofs.Served.{home_jobs}

-- ---- more blocks

more_by : (b : Bool) (x : BlockPair) (xs : List BlockPair) → length xs ≤ length (cond b xs (x ∷ xs))
more_by true x xs = omega arith
more_by false x xs = omega arith

front_more : (ps qs : List BlockPair) → length (distinct qs) ≤ length (distinct (ps ++ qs))
front_more [] qs = omega arith
front_more (p ∷ ps) qs =
    let rest = front_more ps qs in
    let more = more_by (has_pair (distinct (ps ++ qs)) p) p (distinct (ps ++ qs)) in
    omega (arith, rest, more)

-- a list whose blocks are all in another one has no more of them
fewer : (ps qs : List BlockPair) → ((q : BlockPair) → has_pair ps q ≡ true → has_pair qs q ≡ true) → length (distinct ps) ≤ length (distinct qs)
fewer ps qs all =
    let more = front_more qs ps in
    let same = same_count (qs ++ ps) qs (λ q. list_any-append (same_pair q) qs ps ∙ within (has_pair qs q) (has_pair ps q) (all q)) in
    omega (arith, more, same)
  where
    within : (a b : Bool) → (b ≡ true → a ≡ true) → (a || b) ≡ a
    within true b h = refl
    within false true h = sym (h refl)
    within false false h = refl

-- ---- the blocks in which stretches begin

abbrev first_pair : ℕ → Piece → BlockPair
first_pair block s = record { file = s.file; index = s.from / block }

abbrev first_pairs : ℕ → List Piece → List BlockPair
first_pairs block ss = map (first_pair block) ss

same_number : (a b : ℕ) → (a == b) ≡ (b == a)
same_number a b = by (a == b) (b == a) refl refl
  where
    by : (x y : Bool) → (a == b) ≡ x → (b == a) ≡ y → x ≡ y
    by true true d e = refl
    by true false d e = sym (sym e ∙ eq-eqb b a (sym (eqb-true a b d)))
    by false true d e = sym d ∙ eq-eqb a b (sym (eqb-true b a e))
    by false false d e = refl

later_begins : (block : ℕ) (s : Piece) (ss : List Piece) → list_any (is_in block (block_at block s)) ss ≡ has_pair (first_pairs block ss) (first_pair block s)
later_begins block s [] = refl
later_begins block s (t ∷ ts) = ap₂ (λ a b. a || b) (ap₂ (λ a b. a && b) (same_number t.file s.file) (same_number (t.from / block) (s.from / block))) (later_begins block s ts)

-- ---- blocks that no frame holds

abbrev is_unread : List (Option Block) → BlockPair → Bool
is_unread resident q = not (is_resident resident q.file q.index)

and_false : (a : Bool) → (a && false) ≡ false
and_false true = refl
and_false false = refl

filter_has : (P : BlockPair → Bool) (ps : List BlockPair) (q : BlockPair) → has_pair (filter P ps) q ≡ (has_pair ps q && P q)
filter_has P [] q = refl
filter_has P (x ∷ ps) q = by (P x) (same_pair q x) refl refl (filter_has P ps q)
  where
    by : (t s : Bool) → P x ≡ t → same_pair q x ≡ s → has_pair (filter P ps) q ≡ (has_pair ps q && P q) → has_pair (cond (P x) (x ∷ filter P ps) (filter P ps)) q ≡ ((same_pair q x || has_pair ps q) && P q)
    by true true e k rest =
        let is : P q ≡ true = ap P (same_pair-true q x k) ∙ e in
        ap (λ b. has_pair (cond b (x ∷ filter P ps) (filter P ps)) q) e
        ∙ ap (λ b. b || has_pair (filter P ps) q) k
        ∙ sym (ap₂ (λ a b. (a || has_pair ps q) && b) k is)
    by true false e k rest =
        ap (λ b. has_pair (cond b (x ∷ filter P ps) (filter P ps)) q) e
        ∙ ap (λ b. b || has_pair (filter P ps) q) k
        ∙ rest
        ∙ sym (ap (λ a. (a || has_pair ps q) && P q) k)
    by false true e k rest =
        let is : P q ≡ false = ap P (same_pair-true q x k) ∙ e in
        ap (λ b. has_pair (cond b (x ∷ filter P ps) (filter P ps)) q) e
        ∙ rest
        ∙ ap (λ b. has_pair ps q && b) is
        ∙ and_false (has_pair ps q)
        ∙ sym (ap₂ (λ a b. (a || has_pair ps q) && b) k is)
    by false false e k rest =
        ap (λ b. has_pair (cond b (x ∷ filter P ps) (filter P ps)) q) e
        ∙ rest
        ∙ sym (ap (λ a. (a || has_pair ps q) && P q) k)

-- what is true of both
both_true : (a b : Bool) → (a && b) ≡ true → (a ≡ true) × (b ≡ true)
both_true true b e = (refl, e)
both_true false b e = cc

and_true : (a b : Bool) → a ≡ true → b ≡ true → (a && b) ≡ true
and_true true b e k = k
and_true false b e k = cc

-- of those that are left no list has more
left_fewer : (P : BlockPair → Bool) (ps qs : List BlockPair) → ((q : BlockPair) → has_pair ps q ≡ true → has_pair qs q ≡ true) → length (distinct (filter P ps)) ≤ length (distinct (filter P qs))
left_fewer P ps qs all =
    fewer (filter P ps) (filter P qs)
    (λ q e. let is = both_true (has_pair ps q) (P q) (sym (filter_has P ps q) ∙ e) in filter_has P qs q ∙ and_true (has_pair qs q) (P q) (all q is.0) is.1)

-- and no more than all
left_few : (P : BlockPair → Bool) (ps : List BlockPair) → length (distinct (filter P ps)) ≤ length (distinct ps)
left_few P ps = fewer (filter P ps) ps (λ q e. (both_true (has_pair ps q) (P q) (sym (filter_has P ps q) ∙ e)).0)

-- one stretch more is missing or not, and its block is one more or not
abbrev StepWithin : Bool → ℕ → BlockPair → List BlockPair → Bool → Type 0
StepWithin later m p left r = cond (r || later) 0 1 + m ≤ length (distinct (cond (not r) (p ∷ left) left))

step_by : (later there : Bool) (m : ℕ) (p : BlockPair) (left : List BlockPair) → later ≡ there → m ≤ length left → cond later 0 1 + m ≤ length (cond there left (p ∷ left))
step_by true true m p left e rest = omega (arith, rest)
step_by false false m p left e rest = omega (arith, rest)
step_by true false m p left e rest = cc
step_by false true m p left e rest = cc

step_within : (r later : Bool) (m : ℕ) (p : BlockPair) (left : List BlockPair) → (r ≡ false → has_pair (distinct left) p ≡ later) → m ≤ length (distinct left) → StepWithin later m p left r
step_within true later m p left same rest = omega (arith, rest)
step_within false later m p left same rest = step_by later (has_pair (distinct left) p) m p (distinct left) (sym (same refl)) rest

and_last : (a : Bool) → (a && true) ≡ a
and_last true = refl
and_last false = refl

-- no more of them are missing than no frame holds
missing_within : (block : ℕ) (resident : List (Option Block)) (ss : List Piece) → missing block resident ss ≤ length (distinct (filter (is_unread resident) (first_pairs block ss)))
missing_within block resident [] = omega arith
missing_within block resident (s ∷ ss) =
    let p = first_pair block s in
    let later = list_any (is_in block (block_at block s)) ss in
    let left = filter (is_unread resident) (first_pairs block ss) in
    step_within (is_resident resident s.file (s.from / block)) later (missing block resident ss) p left
    (λ e. has_pair-distinct left p ∙ filter_has (is_unread resident) (first_pairs block ss) p ∙ ap₂ (λ a b. a && not b) (sym (later_begins block s ss)) e ∙ and_last later)
    (missing_within block resident ss)

-- ---- stretches that have samples

abbrev AreSome : List Piece → Type 0
AreSome [] = Unit {0}
AreSome (p ∷ ps) = (1 ≤ p.len) × AreSome ps

some_runs : (cut : ℕ → Bool) (ss : List Spot) → AreSome (runs cut ss)
some_runs cut [] = tt
some_runs cut (s ∷ ss) = front (runs cut ss) (some_runs cut ss)
  where
    by : (b : Bool) (p : Piece) (ps : List Piece) → AreSome (p ∷ ps) → AreSome (cond b (longer s p ∷ ps) (lone s ∷ p ∷ ps))
    by true p ps h = (omega arith, h.1)
    by false p ps h = (omega arith, h)

    front : (ps : List Piece) → AreSome ps → AreSome (in_front cut s ps)
    front [] h = (omega arith, tt)
    front (p ∷ ps) h = by _ p ps h

some_first : (n : ℕ) (ps : List Piece) → AreSome ps → AreSome (take n ps)
some_first zero ps h = tt
some_first (suc n) [] h = tt
some_first (suc n) (p ∷ ps) h = (h.0, some_first n ps h.1)

either_way : (a b : Bool) {P : Type 0} → (a ≡ true → P) → (b ≡ true → P) → (a || b) ≡ true → P
either_way true b f g e = f refl
either_way false b f g e = g e

or_left : (a b : Bool) → a ≡ true → (a || b) ≡ true
or_left true b e = refl
or_left false b e = cc

or_right : (a b : Bool) → b ≡ true → (a || b) ≡ true
or_right true b e = refl
or_right false b e = e

-- the block in which a stretch begins is that of its first sample
first_there : (block : ℕ) (ps : List Piece) → AreSome ps → (q : BlockPair) → has_pair (first_pairs block ps) q ≡ true → has_pair (pairs_at block (spots_of ps)) q ≡ true
first_there block [] h q e = e
first_there block (p ∷ ps) h q e = by (first_there block ps h.1 q) p.len h.0
  where
    by : (has_pair (first_pairs block ps) q ≡ true → has_pair (pairs_at block (spots_of ps)) q ≡ true) → (n : ℕ) → 1 ≤ n → has_pair (pairs_at block (spots_from p.file p.from n ++ spots_of ps)) q ≡ true
    by rest zero some = absurd (omega (arith, some))
    by rest (suc n) some =
        either_way (same_pair q (first_pair block p)) (has_pair (first_pairs block ps) q)
        (λ here. or_left (same_pair q (first_pair block p)) (has_pair (pairs_at block (spots_from p.file (p.from + 1) n ++ spots_of ps)) q) here)
        (λ later. or_right (same_pair q (first_pair block p)) (has_pair (pairs_at block (spots_from p.file (p.from + 1) n ++ spots_of ps)) q)
        (ap (λ l. has_pair l q) (map-append (pair_at block) (spots_from p.file (p.from + 1) n) (spots_of ps))
        ∙ list_any-append (same_pair q) (pairs_at block (spots_from p.file (p.from + 1) n)) (pairs_at block (spots_of ps))
        ∙ or_right (has_pair (pairs_at block (spots_from p.file (p.from + 1) n)) q) (has_pair (pairs_at block (spots_of ps)) q) (rest later)))
        e

-- no more blocks of the first stretches are missing than their samples have that no frame holds
few_missing : (block n : ℕ) (resident : List (Option Block)) (cut : ℕ → Bool) (ss : List Spot) → missing block resident (take n (runs cut ss)) ≤ length (distinct (filter (is_unread resident) (pairs_at block (spots_of (take n (runs cut ss))))))
few_missing block n resident cut ss =
    let stretches = take n (runs cut ss) in
    let few = missing_within block resident stretches in
    let all = left_fewer (is_unread resident) (first_pairs block stretches) (pairs_at block (spots_of stretches)) (first_there block stretches (some_first n (runs cut ss) (some_runs cut ss))) in
    omega (arith, few, all)

-- ---- the window of a lane

pairs_filled : (fill : Spot → Tagged) → ((x : Spot) → spot_of (fill x) ≡ x) → (block : ℕ) (ss : List Spot) → pairs_of block (map fill ss) ≡ pairs_at block ss
pairs_filled fill spots block [] = refl
pairs_filled fill spots block (x ∷ ss) = ap₂ (λ p ps. p ∷ ps) (ap (pair_at block) (spots x)) (pairs_filled fill spots block ss)

-- the blocks of the samples that come next in a passage
window_pairs : (fill : Spot → Tagged) → ((x : Spot) → spot_of (fill x) ≡ x) → (block heard : ℕ) (ss : List Spot)
    → pairs_at block (spots_of (take 4 (stretches block (drop heard ss)))) ≡ pairs_of block (slice (map fill ss) heard (window block (spots_in_rope (map fill ss)) heard))
window_pairs fill spots block heard ss =
    ap (pairs_at block) (window_spots block heard ss)
    ∙ sym (pairs_filled fill spots block (slice ss heard (window block ss heard)))
    ∙ ap (pairs_of block) (slice_filled fill ss heard (window block ss heard))
    ∙ ap (λ l. pairs_of block (slice (map fill ss) heard (window block l heard))) (sym (spots_again fill spots ss))

-- the blocks of a passage from a place on that no frame holds
abbrev unread_from : ℕ → List (Option Block) → List Tagged → ℕ → ℕ
unread_from block resident passage at = length (distinct (filter (is_unread resident) (pairs_of block (slice passage at (window block (spots_in_rope passage) at)))))

job_within : (fill : Spot → Tagged) → ((x : Spot) → spot_of (fill x) ≡ x) → (block more : ℕ) (resident : List (Option Block)) (job : queue.Job) (jobs : List queue.Job) (at : ℕ) → at ≡ job.heard + more
    → missing block resident (next_window block more (job ∷ jobs)) ≤ unread_from block resident (map fill (spots_of job.passage)) at
job_within fill spots block more resident job jobs at is =
    let few = few_missing block 4 resident (begins_block block) (drop (job.heard + more) (spots_of job.passage)) in
    let same = ap (λ l. length (distinct (filter (is_unread resident) l))) (window_pairs fill spots block (job.heard + more) (spots_of job.passage)) in
    let here = ap (unread_from block resident (map fill (spots_of job.passage))) is in
    omega (arith, few, same, here)

-- a job that goes on
goes_within : (stopped : Bool) (n m : ℕ) → stopped ≡ false → n ≤ m → n ≤ cond stopped 0 m
goes_within false n m e le = le
goes_within true n m e le = cc

-- the jobs of a lane of the state, as those of the program show them
jobs_within : (fill : Spot → Tagged) → ((x : Spot) → spot_of (fill x) ≡ x) → (block : ℕ) (resident : List (Option Block)) (jobs : List queue.Job) (back : Option ℕ) → stopped_at jobs ≡ false
    → missing block resident (next_window block (more_of back) jobs) ≤ unread_of_next block resident (first_job (heard_of back (map (shown_job fill) jobs)))
jobs_within fill spots block resident [] back goes = omega arith
jobs_within fill spots block resident (job ∷ jobs) None goes =
    goes_within job.stopped _ _ goes (job_within fill spots block 0 resident job jobs job.heard (omega arith))
jobs_within fill spots block resident (job ∷ jobs) (Some m) goes =
    goes_within job.stopped _ _ goes (job_within fill spots block m resident job jobs (job.heard + m) refl)

-- a Feed of a job that goes on reads no more blocks than its window has that no frame holds
unread_within : (fill : Spot → Tagged) (lanes : LanesState) (made : ℕ) (s : State) (lane : ℕ) (back : Option ℕ) → ShowsLanes fill lanes made s → stopped_at (lane_of lanes.queues lane) ≡ false
    → missing s.shape.block lanes.frames.resident (next_window s.shape.block (more_of back) (lane_of lanes.queues lane)) ≤ unread_blocks s lane back lanes.frames.resident
unfolding unread_blocks
unread_within fill lanes made s lane back shows goes = by (split lane (length s.lanes))
  where
    split : (m n : ℕ) → (m < n) ⊎ (n ≤ m)
    split m n = grind arith

    none : (jobs : List queue.Job) → jobs ≡ [] → (n : ℕ) → missing s.shape.block lanes.frames.resident (next_window s.shape.block (more_of back) jobs) ≤ n
    none [] e n = omega arith
    none (j ∷ js) e n = cc

    by : (lane < length s.lanes) ⊎ (length s.lanes ≤ lane)
        → missing s.shape.block lanes.frames.resident (next_window s.shape.block (more_of back) (lane_of lanes.queues lane)) ≤ unread_of_next s.shape.block lanes.frames.resident (first_job (lane_at (brought_back s lane back) lane).jobs)
    by (inl low) =
        let few = jobs_within fill shows.spots s.shape.block lanes.frames.resident (lane_of lanes.queues lane) back goes in
        let same = ap (λ (l : List Job). unread_of_next s.shape.block lanes.frames.resident (first_job l)) (home_jobs s lane back low) in
        let are = ap (λ (l : List Job). unread_of_next s.shape.block lanes.frames.resident (first_job (heard_of back l))) (shows.jobs lane low) in
        omega (arith, few, same, are)
    by (inr high) = let many = shows.many in none (lane_of lanes.queues lane) (get_or_past lanes.queues lane [] (omega (arith, high, many))) (unread_of_next s.shape.block lanes.frames.resident (first_job (lane_at (brought_back s lane back) lane).jobs))

-- those that no frame holds are no more than all
unread_few : (s : State) (lane : ℕ) (back : Option ℕ) (resident : List (Option Block)) → unread_blocks s lane back resident ≤ window_blocks s lane back
unfolding unread_blocks window_blocks
unread_few s lane back resident = by (first_job (lane_at (brought_back s lane back) lane).jobs)
  where
    either : (stopped : Bool) (n m : ℕ) → n ≤ m → cond stopped 0 n ≤ cond stopped 0 m
    either true n m le = omega arith
    either false n m le = le

    by : (job : Option Job) → unread_of_next s.shape.block resident job ≤ blocks_of_next s.shape.block job
    by None = omega arith
    by (Some job) = either job.stopped _ _ (left_few (is_unread resident) (next_pairs s.shape.block job))

-- so its device calls are no more
pub fed_reads : (first : State) (t0 : ℕ) (disk : Told) (s : Inside) (lane : ℕ) (back : Option ℕ) (new : Told) → Stood first t0 disk s
    → HasRead (missing s.journal.shape.block s.lanes.frames.resident (next_window s.journal.shape.block (more_of back) (lane_of s.lanes.queues lane))) disk new
    → (stopped_at (lane_of s.lanes.queues lane) ≡ true → new ≡ disk)
    → new.calls ≤ disk.calls + unread_blocks (last_of first s) lane back s.lanes.frames.resident
fed_reads first t0 disk s lane back new stood read still = by (stopped_at (lane_of s.lanes.queues lane)) refl
  where
    by : (t : Bool) → stopped_at (lane_of s.lanes.queues lane) ≡ t → new.calls ≤ disk.calls + unread_blocks (last_of first s) lane back s.lanes.frames.resident
    by true e = let same = ap (λ (x : Told). x.calls) (still e) in omega (arith, same)
    by false e =
        let few = unread_within stood.fill s.lanes s.made (last_of first s) lane back stood.playing.shows e in
        let same = ap (λ (x : Shape). missing x.block s.lanes.frames.resident (next_window x.block (more_of back) (lane_of s.lanes.queues lane))) stood.upright.seated.shape in
        let calls = read.calls in
        omega (arith, few, same, calls)

pub fed_within : (first : State) (s : Inside) (lane : ℕ) (back : Option ℕ) (old new : ℕ) → new ≤ old + unread_blocks (last_of first s) lane back s.lanes.frames.resident → new ≤ old + window_blocks (last_of first s) lane back
fed_within first s lane back old new le = let few = unread_few (last_of first s) lane back s.lanes.frames.resident in omega (arith, le, few)
