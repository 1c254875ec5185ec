-- The lanes of a store, as its tables, its bytes and its state change.
use Rattle.std.proofs.Common.{◌≡◌, ℕ, zero, suc, ◌+◌, ◌*◌, ◌<◌, ◌≤◌, ◌⊎◌, inl, inr, ⊎_elim, Bool, List, [], ◌∷◌, map, length, replicate, Option, Some, None, refl, sym, ◌∙◌, ap, subst, arith}
use Rattle.std.specs.Prelude.{slice_index_or}
use Rattle.std.proofs.lemmas.List.{length-replicate}
use Rattle.voice_units.specs.declared.pieces.Piece.{Piece}
use Rattle.voice_units.specs.declared.shapes.Shape.{Shape}
use Rattle.voice_units.specs.Spots.{Spot, spots_of, spots_from}
use Rattle.voice_units.specs.Blocks.{BlockPair}
use Rattle.voice_model.specs.Samples.{Tagged, spot_of}
use Rattle.voice_model.specs.State.{State, Durable, LaneState, Effect, Pending, quiet_lane, lane_at}
use Rattle.voice_model.specs.State as model
use Rattle.voice_model.specs.State.Effect.{Recorded, Edited, Retained, Forgotten, Counted, Swept, Advanced}
use Rattle.voice_model.specs.Changes.{changed, committed}
use Rattle.voice_model.specs.Step.{after_landing, landed}
use Rattle.voice_model.specs.Replay.{Rebuilt}
use Rattle.voice_model.specs.Valid.{Every, IsFit, IsState, IsPending}
use Rattle.voice_model.proofs.KeptByChanges.{every-imply}
use Rattle.voice_model.proofs.FitsOfCalls.{every_at}
use Rattle.voice_model.proofs.PlacesKept.{used_placed}
use Rattle.rope_table.specs.declared.ropes.Rope.{Rope}
use Rattle.rope_table.specs.Table.{Table, uses_at, uses_in, pieces_in, pairs_in, pair_of}
use Rattle.recovery.specs.declared.parts.Parts.{Parts}
use Rattle.recovery.specs.Shown.{Shows}
use Rattle.running_tables.specs.Running.{Runs}
use Rattle.running_tables.proofs.Recounted.{once_used, one_has}
use Rattle.running_tables.proofs.Steps.{file_below}
use Rattle.frame_pool.specs.Pool.{KeeperState, block_of}
use Rattle.play_queue.specs.declared.jobs.Job.{Job}
use Rattle.play_queue.specs.Queued.{lane_of}
use Rattle.playing.specs.declared.blocks.Block.{Block}
use Rattle.playing.specs.Frames.{HoldsBytes, resident_at}
use Rattle.playing.specs.Lanes.{LanesState}
use Rattle.playing.specs.Shown.{shown_job}
use Rattle.lane_calls.specs.Lanes.{ShowsLanes}
use Rattle.lane_calls.specs.Answers.{HaveForgotten}
use Rattle.lane_calls.proofs.Counting.{uses_live}
use Rattle.voice_store.specs.declared.inside.Inside.{Inside}
use Rattle.voice_store.specs.Stood.{Plays}
use Rattle.record_job.specs.Recording.{Recording}
use Rattle.recording_calls.specs.Shown.{kept_of, ShowsRecordings}
use Rattle.voice_store.specs.Playing.{bytes_by, PassagesBelow, jobs_of, KeepsJobs, IsPlaying}
use Rattle.voice_store.proofs.Taking.{later_fill, later_spots, later_other, as_before}

-- ---- tables that show the same

module _ (held : List (List Piece)) (old new : Parts) (d : Durable Spot) (was : Shows held old d) (is : Shows held new d) where
  same_uses : (q : BlockPair) → uses_at new.ropes q ≡ uses_at old.ropes q
  same_uses q =
      is.uses q
      ∙ ap (λ n. uses_in n (pieces_in new.ropes.ropes) q + uses_in n held q) (is.block ∙ sym was.block)
      ∙ ap (λ (l : List Rope). uses_in old.ropes.block (pieces_in l) q + uses_in old.ropes.block held q) (is.ropes ∙ sym was.ropes)
      ∙ sym (was.uses q)

  -- the lanes play on
  pub playing_by : (fill : Spot → Tagged) (honest : Bool) (block : ℕ) (lanes : LanesState) (made : ℕ) (recordings : List (Option Recording)) (last : State) → IsPlaying fill honest block old.ropes lanes made recordings last → IsPlaying fill honest block new.ropes lanes made recordings last
  playing_by fill honest block lanes made recordings last p = record {
    shows = p.shows;
    used = λ f b at. subst (λ n. 0 < n) (sym (same_uses (pair_of b.file b.index))) (p.used f b at);
    bytes = p.bytes;
    below = p.below;
    recorded = p.recorded;
  }

-- ---- states with the same lanes

-- a change keeps the shape
pub changed_shape : (form : ℕ) (d : Durable Tagged) (e : Effect Tagged) → (changed form d e).shape ≡ d.shape
changed_shape form d (Recorded id samples) = refl
changed_shape form d (Edited id samples) = refl
changed_shape form d (Retained row) = refl
changed_shape form d (Forgotten class key) = refl
changed_shape form d (Counted keys) = refl
changed_shape form d (Swept ids) = refl
changed_shape form d (Advanced moment) = refl

pub keeps_itself : (s : State) → KeepsJobs s s
keeps_itself s = record { jobs = refl; made = refl; shape = refl; next = omega arith }

-- the next number does not fall as a change that fits is done
changed_next : (form : ℕ) (d : Durable Tagged) (effect : Effect Tagged) → IsFit form d effect → d.next ≤ (changed form d effect).next
changed_next form d (Recorded id samples) fit = let next = fit.next in omega (arith, next)
changed_next form d (Edited id samples) fit = let next = fit.next in omega (arith, next)
changed_next form d (Retained row) fit = omega arith
changed_next form d (Forgotten class key) fit = omega arith
changed_next form d (Counted keys) fit = omega arith
changed_next form d (Swept ids) fit = omega arith
changed_next form d (Advanced moment) fit = omega arith

pub keeps_committed : (s : State) (form : ℕ) (effect : Effect Tagged) → IsFit form s.kept effect → KeepsJobs s (committed s form effect)
keeps_committed s form effect fit = record { jobs = refl; made = refl; shape = changed_shape form s.kept effect; next = changed_next form s.kept effect fit }

pub keeps_landed : (s : State) → IsState s → KeepsJobs s (landed s)
keeps_landed s valid = by s.doubt valid.doubt
  where
    by : (o : Option Pending) → IsPending s o → KeepsJobs s (after_landing (record s { doubt = None }) o)
    by None fits = record { jobs = refl; made = refl; shape = refl; next = omega arith }
    by (Some pending) fits = record { jobs = refl; made = refl; shape = changed_shape pending.form s.kept pending.effect; next = changed_next pending.form s.kept pending.effect fits.1 }

below_more : (low high : ℕ) → low ≤ high → (lanes : List LaneState) → PassagesBelow low lanes → PassagesBelow high lanes
below_more low high le =
    every-imply (λ (lane : LaneState). Every (λ job. Every (λ sample. sample.file < low) job.passage) lane.jobs) (λ (lane : LaneState). Every (λ job. Every (λ sample. sample.file < high) job.passage) lane.jobs)
    (λ lane. every-imply (λ (job : model.Job). Every (λ sample. sample.file < low) job.passage) (λ (job : model.Job). Every (λ sample. sample.file < high) job.passage)
    (λ job. every-imply (λ (sample : Tagged). sample.file < low) (λ (sample : Tagged). sample.file < high) (λ sample less. omega (arith, less, le)) job.passage) lane.jobs)

-- lanes with the same jobs
pub same_many : (old new : List LaneState) → jobs_of new ≡ jobs_of old → length new ≡ length old
same_many [] [] e = refl
same_many [] (y ∷ ys) e = let no : y.jobs ∷ jobs_of ys ≡ [] = e in cc
same_many (x ∷ xs) [] e = let no : [] ≡ x.jobs ∷ jobs_of xs = e in cc
same_many (x ∷ xs) (y ∷ ys) e =
    let both : y.jobs ∷ jobs_of ys ≡ x.jobs ∷ jobs_of xs = e in
    let rest : jobs_of ys ≡ jobs_of xs = cc in
    ap suc (same_many xs ys rest)

pub same_jobs : (old new : List LaneState) (l : ℕ) → jobs_of new ≡ jobs_of old → (slice_index_or new l quiet_lane).jobs ≡ (slice_index_or old l quiet_lane).jobs
same_jobs [] [] l e = refl
same_jobs [] (y ∷ ys) l e = let no : y.jobs ∷ jobs_of ys ≡ [] = e in cc
same_jobs (x ∷ xs) [] l e = let no : [] ≡ x.jobs ∷ jobs_of xs = e in cc
same_jobs (x ∷ xs) (y ∷ ys) zero e = let both : y.jobs ∷ jobs_of ys ≡ x.jobs ∷ jobs_of xs = e in let one : y.jobs ≡ x.jobs = cc in one
same_jobs (x ∷ xs) (y ∷ ys) (suc l) e =
    let both : y.jobs ∷ jobs_of ys ≡ x.jobs ∷ jobs_of xs = e in
    let rest : jobs_of ys ≡ jobs_of xs = cc in
    same_jobs xs ys l rest

same_below : (next : ℕ) (old new : List LaneState) → jobs_of new ≡ jobs_of old → PassagesBelow next old → PassagesBelow next new
same_below next [] [] e h = tt
same_below next [] (y ∷ ys) e h = let no : y.jobs ∷ jobs_of ys ≡ [] = e in cc
same_below next (x ∷ xs) [] e h = tt
same_below next (x ∷ xs) (y ∷ ys) e h =
    let both : y.jobs ∷ jobs_of ys ≡ x.jobs ∷ jobs_of xs = e in
    let one : x.jobs ≡ y.jobs = cc in
    let rest : jobs_of ys ≡ jobs_of xs = cc in
    (subst (λ (jobs : List model.Job). Every (λ job. Every (λ sample. sample.file < next) job.passage) jobs) one h.0, same_below next xs ys rest h.1)

below_kept : (old new : State) → KeepsJobs old new → PassagesBelow old.next old.lanes → PassagesBelow new.next new.lanes
below_kept old new keeps below = same_below new.next old.lanes new.lanes keeps.jobs (below_more old.next new.next keeps.next old.lanes below)

shows_kept : (fill : Spot → Tagged) (lanes after : LanesState) (made : ℕ) (old new : State) → KeepsJobs old new → after.queues ≡ lanes.queues → after.frames.keeper ≡ lanes.frames.keeper → ShowsLanes fill lanes made old → ShowsLanes fill after made new
shows_kept fill lanes after made old new keeps queues keeper h = record {
  spots = h.spots;
  many = same_many old.lanes new.lanes keeps.jobs ∙ h.many ∙ ap (λ (qs : List (List Job)). length qs) (sym queues);
  shape = ap (λ (x : Shape). x.lanes) keeps.shape ∙ h.shape ∙ ap (λ (qs : List (List Job)). length qs) (sym queues);
  block = ap (λ (k : KeeperState). block_of k) keeper ∙ h.block ∙ ap (λ (x : Shape). x.block) (sym keeps.shape);
  jobs = λ l low.
      same_jobs old.lanes new.lanes l keeps.jobs
      ∙ h.jobs l (subst (λ n. l < n) (same_many old.lanes new.lanes keeps.jobs) low)
      ∙ ap (λ (qs : List (List Job)). map (shown_job fill) (lane_of qs l)) (sym queues);
  number = keeps.made ∙ h.number;
}

-- open recordings are those of each state with the same ones
pub recorded_as : (recordings : List (Option Recording)) (old new : State) → new.shape.block ≡ old.shape.block → length new.lanes ≡ length old.lanes → ((l : ℕ) → (lane_at new l).taking ≡ (lane_at old l).taking)
    → ShowsRecordings recordings old → ShowsRecordings recordings new
recorded_as recordings old new block many takings h = record {
  many = h.many ∙ sym many;
  each = λ l low. h.each l (subst (λ n. l < n) many low) ∙ ap (λ n. kept_of n l (lane_at old l).taking) (sym block) ∙ ap (λ (o : Option (List ℕ)). kept_of new.shape.block l o) (sym (takings l));
}

-- also where all lanes are the same
pub recorded_by_lanes : (recordings : List (Option Recording)) (old new : State) → new.shape ≡ old.shape → new.lanes ≡ old.lanes → ShowsRecordings recordings old → ShowsRecordings recordings new
recorded_by_lanes recordings old new shape lanes h =
    recorded_as recordings old new (ap (λ (x : Shape). x.block) shape) (ap (λ (ls : List LaneState). length ls) lanes) (λ l. ap (λ (ls : List LaneState). (slice_index_or ls l quiet_lane).taking) lanes) h

-- and where the program's are the same
pub recorded_still : (s s' : Inside) (last : State) → s'.recordings ≡ s.recordings → ShowsRecordings s.recordings last → ShowsRecordings s'.recordings last
recorded_still s s' last same h = subst (λ (r : List (Option Recording)). ShowsRecordings r last) (sym same) h

-- the lanes play on in such a state
pub playing_kept : (fill : Spot → Tagged) (honest : Bool) (block : ℕ) (ropes : Table) (lanes : LanesState) (made : ℕ) (before recordings : List (Option Recording)) (old new : State) → KeepsJobs old new → ShowsRecordings recordings new
    → IsPlaying fill honest block ropes lanes made before old → IsPlaying fill honest block ropes lanes made recordings new
playing_kept fill honest block ropes lanes made before recordings old new keeps recorded p = record {
  shows = shows_kept fill lanes lanes made old new keeps refl refl p.shows;
  used = p.used;
  bytes = p.bytes;
  below = below_kept old new keeps p.below;
  recorded = recorded;
}

-- and once their frames forgot the blocks that other tables don't use
pub playing_forgot : (fill : Spot → Tagged) (honest : Bool) (block : ℕ) (before ropes : Table) (lanes after : LanesState) (made : ℕ) (had recordings : List (Option Recording)) (old new : State) → KeepsJobs old new → ShowsRecordings recordings new → HaveForgotten ropes lanes after
    → ((bytes : ℕ → ℕ → List ℕ) → HoldsBytes bytes lanes.frames → HoldsBytes bytes after.frames) → IsPlaying fill honest block before lanes made had old → IsPlaying fill honest block ropes after made recordings new
playing_forgot fill honest block before ropes lanes after made had recordings old new keeps recorded forgot bytes p = record {
  shows = shows_kept fill lanes after made old new keeps forgot.queues forgot.forgets.keeper p.shows;
  used = forgot.used;
  bytes = λ h. bytes (bytes_by fill block) (p.bytes h);
  below = below_kept old new keeps p.below;
  recorded = recorded;
}

-- on a disk as honest
pub playing_as_honest : (fill : Spot → Tagged) (honest other : Bool) (block : ℕ) (ropes : Table) (lanes : LanesState) (made : ℕ) (recordings : List (Option Recording)) (last : State) → other ≡ honest → IsPlaying fill honest block ropes lanes made recordings last → IsPlaying fill other block ropes lanes made recordings last
playing_as_honest fill honest other block ropes lanes made recordings last same p = subst (λ (h : Bool). IsPlaying fill h block ropes lanes made recordings last) (sym same) p

-- ---- the bytes of a recording

-- a block in use is of a known file
pub used_below : (held pledged : List (List Piece)) (takings : List ℕ) (parts : Parts) (b : Rebuilt) → Runs held pledged takings parts b → (q : BlockPair) → 0 < uses_at parts.ropes q → q.file < b.next
used_below held pledged takings parts b runs q used =
    ⊎_elim
    (λ live. file_below b.next b.shape.blocks b.places q runs.placed.ranges (used_placed b.shape.block b.places b.ropes q runs.placed.placed (uses_live held parts b.kept runs.kept q live)))
    (λ is. one_has (λ pair. pair.file < b.next) (pairs_in b.shape.block held) q runs.below (once_used b.shape.block held q (subst (λ n. 1 ≤ uses_in n held q) runs.kept.block is)))
    (either (uses_in parts.ropes.block (pieces_in parts.ropes.ropes) q) (uses_in parts.ropes.block held q) (subst (λ n. 0 < n) (runs.kept.uses q) used))
  where
    either : (m n : ℕ) → 0 < m + n → (1 ≤ m) ⊎ (1 ≤ n)
    either zero n more = inr (omega (arith, more))
    either (suc m) n more = inl (omega arith)

module _ (fill : Spot → Tagged) (same : (x : Spot) → spot_of (fill x) ≡ x) (id : ℕ) (bytes : List ℕ) where
  abbrev later : Spot → Tagged
  later = later_fill fill id bytes

  -- the bytes of another file stay
  bytes_stay : (file : ℕ) → ¬ (file ≡ id) → (from n : ℕ) → map (λ x. (later x).byte) (spots_from file from n) ≡ map (λ x. (fill x).byte) (spots_from file from n)
  bytes_stay file other from zero = refl
  bytes_stay file other from (suc n) =
      ap (λ (v : ℕ). v ∷ map (λ x. (later x).byte) (spots_from file (from + 1) n)) (later_other fill same id bytes (record { file = file; place = from }) other)
      ∙ ap (λ (l : List ℕ). (fill (record { file = file; place = from })).byte ∷ l) (bytes_stay file other (from + 1) n)

  passage_stays : (ss : List Spot) → Every (λ (t : Tagged). t.file < id) (map fill ss) → map fill ss ≡ map later ss
  passage_stays [] h = refl
  passage_stays (x ∷ ss) h =
      let less : x.file < id = subst (λ (y : Spot). y.file < id) (same x) h.0 in
      ap (λ (t : Tagged). t ∷ map fill ss) (sym (as_before fill same id bytes x less)) ∙ ap (λ (l : List Tagged). later x ∷ l) (passage_stays ss h.1)

  jobs_stay : (jobs : List Job) → Every (λ (job : model.Job). Every (λ t. t.file < id) job.passage) (map (shown_job fill) jobs) → map (shown_job fill) jobs ≡ map (shown_job later) jobs
  jobs_stay [] h = refl
  jobs_stay (job ∷ jobs) h =
      ap (λ (l : List Tagged). let shown : model.Job = record { number = job.id; passage = l; heard = job.heard; window = job.window; stopped = job.stopped } in shown ∷ map (shown_job fill) jobs) (passage_stays (spots_of job.passage) h.0)
      ∙ ap (λ (l : List model.Job). shown_job later job ∷ l) (jobs_stay jobs h.1)

  -- the lanes play on as a recording of the next number is filled in
  pub playing_later : (honest : Bool) (block : ℕ) (held pledged : List (List Piece)) (takings : List ℕ) (parts : Parts) (b : Rebuilt) (lanes : LanesState) (made : ℕ) (recordings : List (Option Recording)) (last : State) → Runs held pledged takings parts b → b.next ≡ id → last.next ≡ id
      → IsPlaying fill honest block parts.ropes lanes made recordings last → IsPlaying later honest block parts.ropes lanes made recordings last
  playing_later honest block held pledged takings parts b lanes made recordings last runs number next p = record {
    shows = record {
      spots = later_spots fill same id bytes;
      many = p.shows.many;
      shape = p.shows.shape;
      block = p.shows.block;
      jobs = λ l low.
          p.shows.jobs l low
          ∙ jobs_stay (lane_of lanes.queues l)
          (subst (λ (jobs : List model.Job). Every (λ job. Every (λ t. t.file < id) job.passage) jobs) (p.shows.jobs l low)
          (subst (λ n. Every (λ (job : model.Job). Every (λ t. t.file < n) job.passage) (lane_at last l).jobs) next
          (every_at (λ (lane : LaneState). Every (λ job. Every (λ t. t.file < last.next) job.passage) lane.jobs) last.lanes l quiet_lane tt p.below)));
      number = p.shows.number;
    };
    used = p.used;
    bytes = λ h f b at.
        let known = used_below held pledged takings parts _ runs (pair_of b.file b.index) (p.used f b at) in
        p.bytes h f b at ∙ sym (bytes_stay b.file (λ e. absurd (omega (arith, known, number, e))) (b.index * block) block);
    below = p.below;
    recorded = p.recorded;
  }

-- ---- a disk that was opened

no_block : (n f : ℕ) (b : Block) → ¬ (resident_at (replicate n None) f ≡ Some b)
no_block zero f b e = cc
no_block (suc n) zero b e = cc
no_block (suc n) (suc f) b e = no_block n f b e

-- a lane without a job
abbrev empty_queue : List Job
empty_queue = []

quiet_here : (fill : Spot → Tagged) (n l : ℕ) → map (shown_job fill) (lane_of (replicate n empty_queue) l) ≡ []
quiet_here fill zero l = refl
quiet_here fill (suc n) zero = refl
quiet_here fill (suc n) (suc l) = quiet_here fill n l

quiet_there : (n l : ℕ) → (slice_index_or (replicate n quiet_lane) l quiet_lane).jobs ≡ []
quiet_there zero l = refl
quiet_there (suc n) zero = refl
quiet_there (suc n) (suc l) = quiet_there n l

quiet_below : (next n : ℕ) → PassagesBelow next (replicate n quiet_lane)
quiet_below next zero = tt
quiet_below next (suc n) = (tt, quiet_below next n)

-- lanes of a disk of this shape that have no job, and frames that hold no block
pub record IsEmptyOf (shape : Shape) (lanes : LanesState) : Type 0 where
  pub queues : lanes.queues ≡ replicate shape.lanes empty_queue
  pub block : block_of lanes.frames.keeper ≡ shape.block
  pub resident : lanes.frames.resident ≡ replicate (4 * shape.lanes) None

pub empty_at : (shape there : Shape) (lanes : LanesState) → there ≡ shape → lanes.queues ≡ replicate shape.lanes empty_queue → block_of lanes.frames.keeper ≡ shape.block → lanes.frames.resident ≡ replicate (4 * shape.lanes) None → IsEmptyOf there lanes
empty_at shape there lanes same queues block resident = subst (λ (x : Shape). IsEmptyOf x lanes) (sym same) (record { queues = queues; block = block; resident = resident })

-- lanes without a job and with empty frames play in a state that was just opened
pub playing_first : (fill : Spot → Tagged) (spots : (x : Spot) → spot_of (fill x) ≡ x) (honest : Bool) (block n : ℕ) (ropes : Table) (lanes : LanesState) (recordings : List (Option Recording)) (begin : State)
    → begin.lanes ≡ replicate n quiet_lane → begin.shape.lanes ≡ n → begin.made ≡ 0 → lanes.queues ≡ replicate n empty_queue → block_of lanes.frames.keeper ≡ begin.shape.block → lanes.frames.resident ≡ replicate (4 * n) None
    → ShowsRecordings recordings begin → IsPlaying fill honest block ropes lanes 0 recordings begin
playing_first fill spots honest block n ropes lanes recordings begin quiet many none queues size empty recorded = record {
  shows = record {
    spots = spots;
    many = ap (λ (ls : List LaneState). length ls) quiet ∙ length-replicate n quiet_lane ∙ sym (length-replicate n empty_queue) ∙ ap (λ (qs : List (List Job)). length qs) (sym queues);
    shape = many ∙ sym (length-replicate n empty_queue) ∙ ap (λ (qs : List (List Job)). length qs) (sym queues);
    block = size;
    jobs = λ l low.
        ap (λ (ls : List LaneState). (slice_index_or ls l quiet_lane).jobs) quiet ∙ quiet_there n l
        ∙ sym (quiet_here fill n l) ∙ ap (λ (qs : List (List Job)). map (shown_job fill) (lane_of qs l)) (sym queues);
    number = none;
  };
  used = λ f b at. absurd (no_block (4 * n) f b (ap (λ (l : List (Option Block)). resident_at l f) (sym empty) ∙ at));
  bytes = λ h f b at. absurd (no_block (4 * n) f b (ap (λ (l : List (Option Block)). resident_at l f) (sym empty) ∙ at));
  below = subst (λ (ls : List LaneState). PassagesBelow begin.next ls) (sym quiet) (quiet_below begin.next n);
  recorded = recorded;
}

-- ---- a store after a step

-- frames forgot the blocks that these tables don't use, and hold what they held; no job was made
pub record Forgot (s s' : Inside) : Type 0 where
  pub forgot : HaveForgotten s'.parts.ropes s.lanes s'.lanes
  pub bytes : (bytes : ℕ → ℕ → List ℕ) → HoldsBytes bytes s.lanes.frames → HoldsBytes bytes s'.lanes.frames
  pub made : s'.made ≡ s.made

-- the lanes are as they were
pub record Unmoved (s s' : Inside) : Type 0 where
  pub lanes : s'.lanes ≡ s.lanes
  pub made : s'.made ≡ s.made

module _ (fill : Spot → Tagged) (honest other : Bool) (s s' : Inside) (last then : State) (alike : other ≡ honest) (shape : s'.journal.shape ≡ s.journal.shape) (keeps : KeepsJobs last then) (recorded : ShowsRecordings s'.recordings then) (p : Plays fill honest s last) where
  abbrev block : ℕ
  block = s.journal.shape.block

  at_shape : (lanes : LanesState) (made : ℕ) (ropes : Table) → IsPlaying fill honest block ropes lanes made s'.recordings then → IsPlaying fill other s'.journal.shape.block ropes lanes made s'.recordings then
  at_shape lanes made ropes q =
      subst (λ (x : Shape). IsPlaying fill other x.block ropes lanes made s'.recordings then) (sym shape) (subst (λ (h : Bool). IsPlaying fill h block ropes lanes made s'.recordings then) (sym alike) q)

  pub plays_forgot : Forgot s s' → Plays fill other s' then
  plays_forgot f =
      at_shape s'.lanes s'.made s'.parts.ropes
      (subst (λ n. IsPlaying fill honest block s'.parts.ropes s'.lanes n s'.recordings then) (sym f.made)
      (playing_forgot fill honest block s.parts.ropes s'.parts.ropes s.lanes s'.lanes s.made s.recordings s'.recordings last then keeps recorded f.forgot f.bytes p))

  pub plays_unmoved : Unmoved s s' → (held : List (List Piece)) (d : Durable Spot) → Shows held s.parts d → Shows held s'.parts d → Plays fill other s' then
  plays_unmoved u held d was is =
      at_shape s'.lanes s'.made s'.parts.ropes
      (subst (λ (l : LanesState). IsPlaying fill honest block s'.parts.ropes l s'.made s'.recordings then) (sym u.lanes)
      (subst (λ n. IsPlaying fill honest block s'.parts.ropes s.lanes n s'.recordings then) (sym u.made)
      (playing_kept fill honest block s'.parts.ropes s.lanes s.made s.recordings s'.recordings last then keeps recorded
      (playing_by held s.parts s'.parts d was is fill honest block s.lanes s.made s.recordings last p))))
