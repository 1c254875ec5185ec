-- The definitions' Play, Stop and Feed, on the jobs of the program.
use Rattle.std.proofs.Common.{◌≡◌, ℕ, zero, suc, ◌+◌, ◌<◌, true, false, ◌&&◌, ◌||◌, cond, ◌==◌, not, List, [], ◌∷◌, ◌++◌, length, map, get_or, set, drop, refl, sym, ◌∙◌, ap, ap₂, arith, Option, Some, None}
use Rattle.std.specs.Prelude.{count_by, nat_lt}
use Rattle.std.proofs.lemmas.Bool.{eq-eqb, ne_eqb}
use Rattle.std.proofs.lemmas.List.Folds.{fold-map}
use Rattle.std.proofs.lemmas.List.{map-append, length-map, get_or-set_same}
use Rattle.voice_units.specs.declared.pieces.Piece.{Piece}
use Rattle.voice_units.specs.Spots.{Spot, spots_of, samples_in, slice, window}
use Rattle.rope_algebra.proofs.Parts.{length-spots_of}
use Rattle.voice_model.specs.Samples.{Tagged, spot_of, spots_in_rope}
use Rattle.voice_model.specs.State.{State, LaneState, lane_at, with_lane, samples_of, quiet_lane}
use Rattle.voice_model.specs.State as model
use Rattle.voice_model.specs.Step.{Outcome, with_jobs, reply_of, on_lanes, reaches_device, state_by, has_more, served, played_on, heard_more, brought_back, first_job, reply_of_feed}
use Rattle.voice_model.specs.Step as step
use Rattle.voice_model.specs.declared.calls.Call.TheVariants as calls
use Rattle.voice_model.specs.declared.calls.Reply.{Reply}
use Rattle.voice_model.specs.declared.calls.Reply.TheVariants as replies
use Rattle.play_queue.specs.declared.jobs.Job.{Job}
use Rattle.play_queue.specs.Queued.{stopped_job}
use Rattle.playing.specs.Lanes.{new_job, window_at, stopped_at, home_with, sent, next_window, next_start, passage_length}
use Rattle.playing.specs.Shown.{shown_job, ShowsLane, more_of, state_with, FeedIs, IsFed, number_at}

-- ---- Play and Stop

pub plays : (fill : Spot → Tagged) (s : State) (tapes : List (List ℕ)) (lane id start len : ℕ) (jobs : List Job) (passage : List Piece) → ShowsLane fill jobs (lane_at s lane) → map fill (spots_of passage) ≡ slice (samples_of s.ropes id) start len
    → on_lanes s tapes (calls.Play lane id start len) ≡ record (state_with fill s lane (jobs ++ new_job (s.made + 1) passage ∷ [])) { made = s.made + 1 }
plays fill s tapes lane id start len jobs passage shows is =
    ap (λ (xs : List model.Job). with_made (with_lane s lane (with_jobs (lane_at s lane) xs)))
    (ap₂ (λ (xs : List model.Job) (samples : List Tagged). xs ++ asked samples ∷ []) shows (sym is) ∙ sym (map-append (shown_job fill) jobs (new_job (s.made + 1) passage ∷ [])))
  where
    with_made : State → State
    with_made t = record t { made = s.made + 1 }

    asked : List Tagged → model.Job
    asked samples = record { number = s.made + 1; passage = samples; heard = 0; window = 0; stopped = false }

stop_map : (fill : Spot → Tagged) (jobs : List Job) → map step.stopped_job (map (shown_job fill) jobs) ≡ map (shown_job fill) (map stopped_job jobs)
stop_map fill [] = refl
stop_map fill (j ∷ jobs) = ap (λ l. shown_job fill (stopped_job j) ∷ l) (stop_map fill jobs)

pub stops : (fill : Spot → Tagged) (s : State) (tapes : List (List ℕ)) (lane : ℕ) (jobs : List Job) → ShowsLane fill jobs (lane_at s lane) → on_lanes s tapes (calls.Stop lane) ≡ state_with fill s lane (map stopped_job jobs)
stops fill s tapes lane jobs shows = ap (λ (xs : List model.Job). with_lane s lane (with_jobs (lane_at s lane) xs)) (ap (map step.stopped_job) shows ∙ stop_map fill jobs)

-- ---- Feed

-- the passage's places
spots_back : (fill : Spot → Tagged) (ss : List Spot) → ((x : Spot) → spot_of (fill x) ≡ x) → spots_in_rope (map fill ss) ≡ ss
spots_back fill [] h = refl
spots_back fill (x ∷ ss) h = ap₂ (λ y l. y ∷ l) (h x) (spots_back fill ss h)

shown_length : (fill : Spot → Tagged) (j : Job) → length (shown_job fill j).passage ≡ samples_in j.passage
shown_length fill j = length-map (spots_of j.passage) fill ∙ length-spots_of j.passage

set-set : {A : Type 0} (xs : List A) (i : ℕ) (x y : A) → set (set xs i x) i y ≡ set xs i y
set-set [] i x y = refl
set-set (z ∷ xs) zero x y = refl
set-set (z ∷ xs) (suc i) x y = ap (λ l. z ∷ l) (set-set xs i x y)

-- ---- a window comes back

home_none : (js : List Job) → window_at js ≡ 0 → js ≡ home_with 0 js
home_none [] e = refl
home_none (j ∷ js) e = ap₂ (λ h w. heard_as j h w ∷ js) (let same : j.heard ≡ j.heard + 0 = omega arith in same) e
  where
    heard_as : Job → ℕ → ℕ → Job
    heard_as j h w = record j { heard = h; window = w }

home_map : (fill : Spot → Tagged) (js : List Job) (m : ℕ) → heard_more m (map (shown_job fill) js) ≡ map (shown_job fill) (home_with m js)
home_map fill [] m = refl
home_map fill (j ∷ js) m = refl

home_jobs : (fill : Spot → Tagged) (s : State) (lane : ℕ) (back : Option ℕ) (js : List Job) → IsFed fill s lane back js → (lane_at (brought_back s lane back) lane).jobs ≡ map (shown_job fill) (home_with (more_of back) js)
home_jobs fill s lane None js h = h.shows ∙ ap (map (shown_job fill)) (home_none js (h.home refl))
home_jobs fill s lane (Some m) js h =
    ap (λ (l : LaneState). l.jobs) (get_or-set_same s.lanes lane (with_jobs (lane_at s lane) (heard_more m (lane_at s lane).jobs)) quiet_lane h.low)
    ∙ ap (heard_more m) h.shows
    ∙ home_map fill js m

home_state : (fill : Spot → Tagged) (s : State) (lane : ℕ) (back : Option ℕ) (js : List Job) (xs : List model.Job) → IsFed fill s lane back js → with_lane (brought_back s lane back) lane (with_jobs (lane_at (brought_back s lane back) lane) xs) ≡ with_lane s lane (with_jobs (lane_at s lane) xs)
home_state fill s lane None js xs h = refl
home_state fill s lane (Some m) js xs h =
    let v = with_jobs (lane_at s lane) (heard_more m (lane_at s lane).jobs) in
    ap (λ (l : LaneState). with_lanes s (set (set s.lanes lane v) lane (with_jobs l xs))) (get_or-set_same s.lanes lane v quiet_lane h.low)
    ∙ ap (with_lanes s) (set-set s.lanes lane v (with_jobs v xs))
  where
    with_lanes : State → List LaneState → State
    with_lanes s lanes = record s { lanes = lanes }

fed : (fill : Spot → Tagged) (s : State) (tapes : List (List ℕ)) (lane : ℕ) (back : Option ℕ) (js js' : List Job) (reply : Reply) → IsFed fill s lane back js → served s.shape.block (map (shown_job fill) (home_with (more_of back) js)) ≡ map (shown_job fill) js' → reply_of_feed s.shape.block (first_job (map (shown_job fill) (home_with (more_of back) js))) ≡ reply → FeedIs fill s tapes lane back js' reply
fed fill s tapes lane back js js' reply h is says = record {
  replies = ap (λ (xs : List model.Job). reply_of_feed s.shape.block (first_job xs)) (home_jobs fill s lane back js h) ∙ says;
  leaves =
      ap (λ (xs : List model.Job). with_lane (brought_back s lane back) lane (with_jobs (lane_at (brought_back s lane back) lane) (served s.shape.block xs))) (home_jobs fill s lane back js h)
      ∙ ap (λ (xs : List model.Job). with_lane (brought_back s lane back) lane (with_jobs (lane_at (brought_back s lane back) lane) xs)) is
      ∙ home_state fill s lane back js (map (shown_job fill) js') h;
}

-- ---- what is served

pub fed_stopped : (fill : Spot → Tagged) (s : State) (tapes : List (List ℕ)) (lane : ℕ) (back : Option ℕ) (js : List Job) → IsFed fill s lane back js → stopped_at js ≡ true → FeedIs fill s tapes lane back (drop 1 js) (replies.Stopped (number_at js) (next_start (more_of back) js))
fed_stopped fill s tapes lane back [] h stop = absurd (omega (arith, h.some))
fed_stopped fill s tapes lane back (j ∷ js) h stop =
    let m = more_of back in
    let x = shown_job fill (record j { heard = j.heard + m; window = 0 }) in
    fed fill s tapes lane back (j ∷ js) js (replies.Stopped j.id (j.heard + m)) h
    (ap (λ t. cond (t || (j.heard + m == length x.passage)) (map (shown_job fill) js) (record x { window = window s.shape.block (spots_in_rope x.passage) x.heard } ∷ map (shown_job fill) js)) stop)
    (ap (λ t. cond t (replies.Stopped j.id (j.heard + m)) (cond (j.heard + m == length x.passage) (replies.Ended j.id (j.heard + m)) (replies.Window (j.heard + m) (window s.shape.block (spots_in_rope x.passage) (j.heard + m))))) stop)

pub fed_ended : (fill : Spot → Tagged) (s : State) (tapes : List (List ℕ)) (lane : ℕ) (back : Option ℕ) (js : List Job) → IsFed fill s lane back js → stopped_at js ≡ false → next_start (more_of back) js ≡ passage_length js → FeedIs fill s tapes lane back (drop 1 js) (replies.Ended (number_at js) (next_start (more_of back) js))
fed_ended fill s tapes lane back [] h goes end = absurd (omega (arith, h.some))
fed_ended fill s tapes lane back (j ∷ js) h goes end =
    let m = more_of back in
    let x = shown_job fill (record j { heard = j.heard + m; window = 0 }) in
    let over : (j.heard + m == length x.passage) ≡ true = eq-eqb (j.heard + m) (length x.passage) (end ∙ sym (shown_length fill j)) in
    fed fill s tapes lane back (j ∷ js) js (replies.Ended j.id (j.heard + m)) h
    (ap₂ (λ t u. cond (t || u) (map (shown_job fill) js) (record x { window = window s.shape.block (spots_in_rope x.passage) x.heard } ∷ map (shown_job fill) js)) goes over)
    (ap₂ (λ t u. cond t (replies.Stopped j.id (j.heard + m)) (cond u (replies.Ended j.id (j.heard + m)) (replies.Window (j.heard + m) (window s.shape.block (spots_in_rope x.passage) (j.heard + m))))) goes over)

pub fed_window : (fill : Spot → Tagged) (s : State) (tapes : List (List ℕ)) (lane : ℕ) (back : Option ℕ) (js : List Job) → IsFed fill s lane back js → stopped_at js ≡ false → next_start (more_of back) js < passage_length js → FeedIs fill s tapes lane back (sent (more_of back) (samples_in (next_window s.shape.block (more_of back) js)) js) (replies.Window (next_start (more_of back) js) (samples_in (next_window s.shape.block (more_of back) js)))
fed_window fill s tapes lane back [] h goes left = absurd (omega (arith, h.some))
fed_window fill s tapes lane back (j ∷ js) h goes left =
    let m = more_of back in
    let x = shown_job fill (record j { heard = j.heard + m; window = 0 }) in
    let more : (j.heard + m == length x.passage) ≡ false = ne_eqb (j.heard + m) (length x.passage) (λ e. let long = shown_length fill j in omega (arith, e, long, left)) in
    let same : spots_in_rope x.passage ≡ spots_of j.passage = spots_back fill (spots_of j.passage) h.spots in
    fed fill s tapes lane back (j ∷ js) (sent m (samples_in (next_window s.shape.block m (j ∷ js))) (j ∷ js)) (replies.Window (j.heard + m) (samples_in (next_window s.shape.block m (j ∷ js)))) h
    (ap₂ (λ t u. cond (t || u) (map (shown_job fill) js) (record x { window = window s.shape.block (spots_in_rope x.passage) x.heard } ∷ map (shown_job fill) js)) goes more
    ∙ ap (λ (ss : List Spot). windowed x (window s.shape.block ss (j.heard + m)) ∷ map (shown_job fill) js) same)
    (ap₂ (λ t u. cond t (replies.Stopped j.id (j.heard + m)) (cond u (replies.Ended j.id (j.heard + m)) (replies.Window (j.heard + m) (window s.shape.block (spots_in_rope x.passage) (j.heard + m))))) goes more
    ∙ ap (λ (ss : List Spot). replies.Window (j.heard + m) (window s.shape.block ss (j.heard + m))) same)
  where
    windowed : model.Job → ℕ → model.Job
    windowed x n = record x { window = n }

pub newly : (fill : Spot → Tagged) (s : State) (tapes : List (List ℕ)) (lane : ℕ) (jobs : List Job) → ShowsLane fill jobs (lane_at s lane) → reply_of s tapes (calls.Stop lane) ≡ replies.Number (count_by (λ job. not job.stopped) jobs)
newly fill s tapes lane jobs shows =
    ap (λ (xs : List model.Job). replies.Number (count_by (λ job. not job.stopped) xs)) shows
    ∙ ap replies.Number (fold-map (λ a (x : model.Job). a + cond (not x.stopped) 1 0) (shown_job fill) 0 jobs)

-- ---- whether a device is reached, and what a fault leaves

pub fed_reaches : (fill : Spot → Tagged) (s : State) (tapes : List (List ℕ)) (lane : ℕ) (back : Option ℕ) (js : List Job) → IsFed fill s lane back js → reaches_device s tapes (calls.Feed lane back) ≡ (not (stopped_at js) && nat_lt (next_start (more_of back) js) (passage_length js))
fed_reaches fill s tapes lane back [] h = absurd (omega (arith, h.some))
fed_reaches fill s tapes lane back (j ∷ js) h =
    ap (λ (xs : List model.Job). has_more (first_job xs)) (home_jobs fill s lane back (j ∷ js) h)
    ∙ ap (λ n. not j.stopped && nat_lt (j.heard + more_of back) n) (shown_length fill j)

set-own : {A : Type 0} (xs : List A) (i : ℕ) (d : A) → xs ≡ set xs i (get_or xs i d)
set-own [] i d = refl
set-own (x ∷ xs) zero d = refl
set-own (x ∷ xs) (suc i) d = ap (λ l. x ∷ l) (set-own xs i d)

pub fed_faulted : (fill : Spot → Tagged) (s : State) (tapes : List (List ℕ)) (lane : ℕ) (back : Option ℕ) (js : List Job) → IsFed fill s lane back js → state_by Outcome.Faulted s tapes (calls.Feed lane back) ≡ state_with fill s lane (home_with (more_of back) js)
fed_faulted fill s tapes lane None js h =
    ap (λ (lanes : List LaneState). record s { lanes = lanes }) (set-own s.lanes lane quiet_lane)
    ∙ ap (λ (xs : List model.Job). with_lane s lane (with_jobs (lane_at s lane) xs)) (home_jobs fill s lane None js h)
fed_faulted fill s tapes lane (Some m) js h =
    ap (λ (xs : List model.Job). with_lane s lane (with_jobs (lane_at s lane) xs)) (ap (heard_more m) h.shows ∙ home_map fill js m)
