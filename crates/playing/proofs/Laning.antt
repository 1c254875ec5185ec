-- What lanes keep is kept as one lane changes.
use Rattle.std.proofs.Common.{◌≡◌, ◌≢◌, ℕ, zero, suc, ◌<◌, ◌⊎◌, inl, inr, Bool, true, false, ◌==◌, List, [], ◌∷◌, ◌++◌, length, map, get_or, set, replicate, refl, sym, ◌∙◌, ap, subst, arith}
use Rattle.std.proofs.lemmas.Bool.{eqb-true, eq-eqb}
use Rattle.std.proofs.Common.{Result, Ok, Err, OnOk}
use Rattle.std.specs.Prelude.{IsOk, if◌then◌else◌}
use Rattle.std.proofs.lemmas.List.{length-set, length-replicate, get_or-set_same, get_or-set_other}
use Rattle.frame_pool.specs.declared.views.Part.{Part}
use Rattle.frame_pool.specs.declared.views.LaneState.{LaneState}
use Rattle.frame_pool.specs.declared.views.Stage.{Stage}
use Rattle.frame_pool.specs.declared.views.Stage.TheVariants.{Free, Reserved, Handed, Ended}
use Rattle.frame_pool.specs.Words.{total}
use Rattle.frame_pool.specs.Rule.{idle_lane}
use Rattle.frame_pool.specs.Steps.{lane_at, ended}
use Rattle.frame_pool.specs.Pool.{Identity, lanes_of, stage_of, hint_of, mark_of, word_of}
use Rattle.rope_table.specs.Table.{Every}
use Rattle.play_queue.specs.declared.jobs.Job.{Job}
use Rattle.play_queue.specs.Queued.{lane_of, heard_more, stopped_job, first_job}
use Rattle.playing.specs.Frames.{FramesState, ChangesLaneAlone}
use Rattle.playing.specs.Windows.{IsOut}
use Rattle.playing.specs.Lanes.{AreLanes, LaneStands, HasBegun, IsWaiting, window_at, stopped_at, taken_at, home_with}

-- all but one lane stay
pub record OneLane (q q' : List (List Job)) (s s' : FramesState) (taken taken' : List Bool) (lane : ℕ) : Type 0 where
  pub count : length q' ≡ length q
  pub takens : length taken' ≡ length taken
  pub lanes : lanes_of s'.keeper ≡ lanes_of s.keeper
  pub jobs : (l : ℕ) → l ≢ lane → lane_of q' l ≡ lane_of q l
  pub known : (l : ℕ) → l ≢ lane → lane_at s'.keeper.view l ≡ lane_at s.keeper.view l
  pub marks : (l : ℕ) → l ≢ lane → taken_at taken' l ≡ taken_at taken l

abbrev pub Stands : List (List Job) → FramesState → List Bool → ℕ → Type 0
Stands q s taken l = LaneStands (window_at (lane_of q l)) (stopped_at (lane_of q l)) (lane_at s.keeper.view l) (taken_at taken l)

pub lanes_one : (q q' : List (List Job)) (s s' : FramesState) (taken taken' : List Bool) (lane : ℕ) → AreLanes q s taken → OneLane q q' s s' taken taken' lane → HasBegun (lane_of q' lane) → Stands q' s' taken' lane → AreLanes q' s' taken'
lanes_one q q' s s' taken taken' lane h one begun stands = record {
  lanes = one.count ∙ h.lanes ∙ sym one.lanes;
  takens = one.takens ∙ h.takens ∙ sym one.lanes;
  begun = λ l. begun_by l (l == lane) refl;
  stands = λ l. stands_by l (l == lane) refl;
}
  where
    no : {t : Bool} → t ≡ true → t ≡ false → ⊥
    no x y = cc

    other : (l : ℕ) → (l == lane) ≡ false → l ≢ lane
    other l e same = no (eq-eqb l lane same) e

    begun_by : (l : ℕ) (t : Bool) → (l == lane) ≡ t → HasBegun (lane_of q' l)
    begun_by l true e = subst (λ (k : ℕ). HasBegun (lane_of q' k)) (sym (eqb-true l lane e)) begun
    begun_by l false e = subst HasBegun (sym (one.jobs l (other l e))) (h.begun l)

    stands_by : (l : ℕ) (t : Bool) → (l == lane) ≡ t → Stands q' s' taken' l
    stands_by l true e = subst (λ (k : ℕ). Stands q' s' taken' k) (sym (eqb-true l lane e)) stands
    stands_by l false e =
        let ne = other l e in
        subst (λ (js : List Job). LaneStands (window_at js) (stopped_at js) (lane_at s'.keeper.view l) (taken_at taken' l)) (sym (one.jobs l ne))
        (subst (λ (d : LaneState). LaneStands (window_at (lane_of q l)) (stopped_at (lane_of q l)) d (taken_at taken' l)) (sym (one.known l ne))
        (subst (λ (b : Bool). LaneStands (window_at (lane_of q l)) (stopped_at (lane_of q l)) (lane_at s.keeper.view l) b) (sym (one.marks l ne)) (h.stands l)))

-- other jobs of a lane
pub new_jobs : (q q' : List (List Job)) (s s' : FramesState) (taken taken' : List Bool) (lane : ℕ) (jobs : List Job) → q' ≡ set q lane jobs → ChangesLaneAlone s s' lane → length taken' ≡ length taken → ((l : ℕ) → l ≢ lane → taken_at taken' l ≡ taken_at taken l) → OneLane q q' s s' taken taken' lane
new_jobs q q' s s' taken taken' lane jobs is changes long marks = record {
  count = ap (λ l. length l) is ∙ length-set q lane jobs;
  takens = long;
  lanes = ap (λ (p : Identity). p.sizes.lanes) changes.keeper.pool;
  jobs = λ l ne. ap (λ x. lane_of x l) is ∙ get_or-set_other q lane l jobs [] ne;
  known = λ l ne. changes.keeper.others l ne;
  marks = marks;
}

pub same_frames : (s : FramesState) (lane : ℕ) → ChangesLaneAlone s s lane
same_frames s lane = record { keeper = record { pool = refl; frames = refl; others = λ j ne. refl }; resident = refl; bytes = λ bytes h. h }

pub jobs_are : (q q' : List (List Job)) (lane : ℕ) (jobs : List Job) → q' ≡ set q lane jobs → lane < length q → lane_of q' lane ≡ jobs
jobs_are q q' lane jobs is low = ap (λ x. lane_of x lane) is ∙ get_or-set_same q lane jobs [] low

pub marked_one : (taken : List Bool) (i lane : ℕ) (b : Bool) → i ≡ lane → (l : ℕ) → l ≢ lane → taken_at (set taken i b) l ≡ taken_at taken l
marked_one taken i lane b is l ne = get_or-set_other taken i l b false (λ e. ne (e ∙ is))

pub marked_at : (taken : List Bool) (i lane : ℕ) (b : Bool) → i ≡ lane → i < length taken → taken_at (set taken i b) lane ≡ b
marked_at taken i lane b is low = ap (λ k. taken_at (set taken i b) k) (sym is) ∙ get_or-set_same taken i b false low

-- ---- a job comes last

every_last : (js : List Job) (j : Job) → Every IsWaiting js → IsWaiting j → Every IsWaiting (js ++ j ∷ [])
every_last [] j h k = (k, tt)
every_last (x ∷ js) j h k = (h.0, every_last js j h.1 k)

pub begun_last : (js : List Job) (j : Job) → HasBegun js → IsWaiting j → HasBegun (js ++ j ∷ [])
begun_last [] j h k = tt
begun_last (x ∷ js) j h k = every_last js j h k

pub stands_last : (js : List Job) (j : Job) (d : LaneState) (t : Bool) → j.window ≡ 0 → LaneStands (window_at js) (stopped_at js) d t → LaneStands (window_at (js ++ j ∷ [])) (stopped_at (js ++ j ∷ [])) d t
stands_last [] j d t none h = record { home = λ e. h.home refl; out = λ some. absurd (omega (arith, none, some)); back = h.back; hint = λ some. absurd (omega (arith, none, some)); mark = λ some. absurd (omega (arith, none, some)) }
stands_last (x ∷ js) j d t none h = h

-- ---- all jobs are stopped

every_stopped : (js : List Job) → Every IsWaiting js → Every IsWaiting (map stopped_job js)
every_stopped [] h = tt
every_stopped (x ∷ js) h = (record { heard = h.0.heard; window = h.0.window }, every_stopped js h.1)

pub begun_stopped : (js : List Job) → HasBegun js → HasBegun (map stopped_job js)
begun_stopped [] h = tt
begun_stopped (x ∷ js) h = every_stopped js h

pub stands_stopped : (js : List Job) (d d' : LaneState) (t : Bool) → d'.stage ≡ d.stage → d'.hint ≡ word_of true → d'.mark ≡ true → LaneStands (window_at js) (stopped_at js) d t → LaneStands (window_at (map stopped_job js)) (stopped_at (map stopped_job js)) d' t
stands_stopped [] d d' t stage hint mark h = record { home = λ e. (stage ∙ (h.home refl).0, (h.home refl).1); out = λ some. absurd (omega (arith, some)); back = λ e. stage ∙ h.back e; hint = λ some. absurd (omega (arith, some)); mark = λ some. absurd (omega (arith, some)) }
stands_stopped (x ∷ js) d d' t stage hint mark h = record { home = λ e. (stage ∙ (h.home e).0, (h.home e).1); out = λ some fresh. subst (IsOut x.window) (sym stage) (h.out some fresh); back = λ e. stage ∙ h.back e; hint = λ some. hint; mark = λ some. mark }

-- ---- a lease comes back

out_some : (w n : ℕ) (st : Stage) → IsOut n st → (w ≡ 0 → st ≡ Free) → 0 < w
out_some zero n st (inl (ps, is, sum)) home = absurd (apart (sym is ∙ home refl))
  where
    apart : {ps : List Part} → Handed ps ≡ Free → ⊥
    apart e = cc
out_some zero n st (inr is) home = absurd (apart (sym is ∙ home refl))
  where
    apart : {n : ℕ} → Ended n ≡ Free → ⊥
    apart e = cc
out_some (suc w) n st out home = omega arith

pub stands_back : (w n : ℕ) (stopped : Bool) (d d' : LaneState) (t t' : Bool) → LaneStands w stopped d t → IsOut n d.stage → d'.stage ≡ Free → d'.hint ≡ d.hint → d'.mark ≡ d.mark → t' ≡ true → LaneStands w stopped d' t'
stands_back w n stopped d d' t t' h out free hint mark is =
    let some = out_some w n d.stage out (λ e. (h.home e).0) in
    record { home = λ e. absurd (omega (arith, some, e)); out = λ s e. absurd (apart (sym is ∙ e)); back = λ e. free; hint = λ s. hint ∙ h.hint s; mark = λ s. mark ∙ h.mark s }
  where
    apart : true ≡ false → ⊥
    apart e = cc

-- ---- a window is back

pub stands_home : (js : List Job) (more : ℕ) (d : LaneState) (t : Bool) → d.stage ≡ Free → t ≡ false → LaneStands (window_at (home_with more js)) (stopped_at (home_with more js)) d t
stands_home [] more d t free is = record { home = λ e. (free, is); out = λ some. absurd (omega (arith, some)); back = λ e. free; hint = λ some. absurd (omega (arith, some)); mark = λ some. absurd (omega (arith, some)) }
stands_home (x ∷ js) more d t free is = record { home = λ e. (free, is); out = λ some. absurd (omega (arith, some)); back = λ e. free; hint = λ some. absurd (omega (arith, some)); mark = λ some. absurd (omega (arith, some)) }

pub begun_home : (js : List Job) (more : ℕ) → HasBegun js → HasBegun (home_with more js)
begun_home [] more h = tt
begun_home (x ∷ js) more h = h

pub a_job : (js : List Job) → 0 < length js → Job
a_job [] h = absurd (omega arith)
a_job (x ∷ js) h = x

pub heard_home : (js : List Job) (more : ℕ) (d : Job) → 0 < length js → set js 0 (heard_more more (get_or js 0 d)) ≡ home_with more js
heard_home [] more d h = absurd (omega arith)
heard_home (x ∷ js) more d h = refl

-- ---- the steps

pub of_ok : {T E P : Type 0} (r : Result T E) → IsOk r → OnOk r P → P
of_ok (Ok x) is p = p
of_ok (Err e) is p = cc

-- the new jobs of a lane, and what is known of it
stands_at : (q' : List (List Job)) (s' : FramesState) (taken' : List Bool) (lane : ℕ) (jobs : List Job) (t : Bool) → lane_of q' lane ≡ jobs → taken_at taken' lane ≡ t → LaneStands (window_at jobs) (stopped_at jobs) (lane_at s'.keeper.view lane) t → Stands q' s' taken' lane
stands_at q' s' taken' lane jobs t is mark h =
    subst (λ (js : List Job). LaneStands (window_at js) (stopped_at js) (lane_at s'.keeper.view lane) (taken_at taken' lane)) (sym is)
    (subst (λ (b : Bool). LaneStands (window_at jobs) (stopped_at jobs) (lane_at s'.keeper.view lane) b) (sym mark) h)

pub push_lanes : (q q' : List (List Job)) (s : FramesState) (taken : List Bool) (lane : ℕ) (j : Job) → AreLanes q s taken → lane < length q → q' ≡ set q lane (lane_of q lane ++ j ∷ []) → IsWaiting j → AreLanes q' s taken
push_lanes q q' s taken lane j h low is waits =
    let jobs = lane_of q lane ++ j ∷ [] in
    let there = jobs_are q q' lane jobs is low in
    lanes_one q q' s s taken taken lane h (new_jobs q q' s s taken taken lane jobs is (same_frames s lane) refl (λ l ne. refl))
    (subst HasBegun (sym there) (begun_last (lane_of q lane) j (h.begun lane) waits))
    (stands_at q' s taken lane jobs (taken_at taken lane) there refl (stands_last (lane_of q lane) j (lane_at s.keeper.view lane) (taken_at taken lane) waits.window (h.stands lane)))

pub stop_lanes : (q q' : List (List Job)) (s s' : FramesState) (taken : List Bool) (lane : ℕ) → AreLanes q s taken → lane < length q → q' ≡ set q lane (map stopped_job (lane_of q lane)) → ChangesLaneAlone s s' lane → stage_of s'.keeper lane ≡ stage_of s.keeper lane → hint_of s'.keeper lane ≡ word_of true → mark_of s'.keeper lane ≡ true → AreLanes q' s' taken
stop_lanes q q' s s' taken lane h low is changes stage hint mark =
    let jobs = map stopped_job (lane_of q lane) in
    let there = jobs_are q q' lane jobs is low in
    lanes_one q q' s s' taken taken lane h (new_jobs q q' s s' taken taken lane jobs is changes refl (λ l ne. refl))
    (subst HasBegun (sym there) (begun_stopped (lane_of q lane) (h.begun lane)))
    (stands_at q' s' taken lane jobs (taken_at taken lane) there refl (stands_stopped (lane_of q lane) (lane_at s.keeper.view lane) (lane_at s'.keeper.view lane) (taken_at taken lane) stage hint mark (h.stands lane)))

pub back_lanes : (q : List (List Job)) (s s' : FramesState) (taken : List Bool) (lane i n : ℕ) → AreLanes q s taken → lane < lanes_of s.keeper → i ≡ lane → ChangesLaneAlone s s' lane → IsOut n (stage_of s.keeper lane) → stage_of s'.keeper lane ≡ Free → hint_of s'.keeper lane ≡ hint_of s.keeper lane → mark_of s'.keeper lane ≡ mark_of s.keeper lane → AreLanes q s' (set taken i true)
back_lanes q s s' taken lane i n h low is changes out free hint mark =
    let within : i < length taken = omega (arith, is, low, h.takens) in
    lanes_one q q s s' taken (set taken i true) lane h
    (record { count = refl; takens = length-set taken i true; lanes = ap (λ (p : Identity). p.sizes.lanes) changes.keeper.pool; jobs = λ l ne. refl; known = λ l ne. changes.keeper.others l ne; marks = marked_one taken i lane true is })
    (h.begun lane)
    (stands_back (window_at (lane_of q lane)) n (stopped_at (lane_of q lane)) (lane_at s.keeper.view lane) (lane_at s'.keeper.view lane) (taken_at taken lane) (taken_at (set taken i true) lane) (h.stands lane) out free hint mark (marked_at taken i lane true is within))

pub hear_lanes : (q q' : List (List Job)) (s : FramesState) (taken : List Bool) (lane i more : ℕ) → AreLanes q s taken → lane < length q → q' ≡ set q lane (home_with more (lane_of q lane)) → i ≡ lane → stage_of s.keeper lane ≡ Free → AreLanes q' s (set taken i false)
hear_lanes q q' s taken lane i more h low is same free =
    let jobs = home_with more (lane_of q lane) in
    let there = jobs_are q q' lane jobs is low in
    let within : i < length taken = omega (arith, same, low, h.takens, h.lanes) in
    lanes_one q q' s s taken (set taken i false) lane h
    (new_jobs q q' s s taken (set taken i false) lane jobs is (same_frames s lane) (length-set taken i false) (marked_one taken i lane false same))
    (subst HasBegun (sym there) (begun_home (lane_of q lane) more (h.begun lane)))
    (stands_at q' s (set taken i false) lane jobs false there (marked_at taken i lane false same within) (stands_home (lane_of q lane) more (lane_at s.keeper.view lane) false free refl))

pub heard_is : (q q' : List (List Job)) (lane more : ℕ) → 0 < length (lane_of q lane) → ((d : Job) → q' ≡ set q lane (set (lane_of q lane) 0 (heard_more more (first_job q lane d)))) → q' ≡ set q lane (home_with more (lane_of q lane))
heard_is q q' lane more some h = let d = a_job (lane_of q lane) some in h d ∙ ap (λ js. set q lane js) (heard_home (lane_of q lane) more d some)

-- ---- a look at a lane

out_ended : (n : ℕ) (st : Stage) → IsOut n st → IsOut n (ended st)
out_ended n Free (inl (ps, is, sum)) = absurd (apart is)
  where
    apart : {ps : List Part} → Free ≡ Handed ps → ⊥
    apart e = cc
out_ended n Free (inr is) = absurd (apart is)
  where
    apart : {n : ℕ} → Free ≡ Ended n → ⊥
    apart e = cc
out_ended n (Reserved ps) h = h
out_ended n (Handed ps) (inl (qs, is, sum)) = inr (ap (λ (l : List Part). Ended (total l)) (same is) ∙ ap Ended sum)
  where
    same : {ps qs : List Part} → Handed ps ≡ Handed qs → ps ≡ qs
    same e = cc
out_ended n (Handed ps) (inr is) = absurd (apart is)
  where
    apart : {ps : List Part} {n : ℕ} → Handed ps ≡ Ended n → ⊥
    apart e = cc
out_ended n (Ended m) h = h

free_ended : (st : Stage) → st ≡ Free → ended st ≡ Free
free_ended st is = ap ended is

stands_looked : (w : ℕ) (stopped : Bool) (d d' : LaneState) (t : Bool) → (d'.stage ≡ d.stage) ⊎ (d'.stage ≡ ended d.stage) → d'.hint ≡ d.hint → d'.mark ≡ d.mark → LaneStands w stopped d t → LaneStands w stopped d' t
stands_looked w stopped d d' t (inl stage) hint mark h = record { home = λ e. (stage ∙ (h.home e).0, (h.home e).1); out = λ some fresh. subst (IsOut w) (sym stage) (h.out some fresh); back = λ e. stage ∙ h.back e; hint = λ some. hint ∙ h.hint some; mark = λ some. mark ∙ h.mark some }
stands_looked w stopped d d' t (inr stage) hint mark h = record { home = λ e. (stage ∙ free_ended d.stage (h.home e).0, (h.home e).1); out = λ some fresh. subst (IsOut w) (sym stage) (out_ended w d.stage (h.out some fresh)); back = λ e. stage ∙ free_ended d.stage (h.back e); hint = λ some. hint ∙ h.hint some; mark = λ some. mark ∙ h.mark some }

pub look_lanes : (q : List (List Job)) (s s' : FramesState) (taken : List Bool) (lane : ℕ) → AreLanes q s taken → ChangesLaneAlone s s' lane → (stage_of s'.keeper lane ≡ stage_of s.keeper lane) ⊎ (stage_of s'.keeper lane ≡ ended (stage_of s.keeper lane)) → hint_of s'.keeper lane ≡ hint_of s.keeper lane → mark_of s'.keeper lane ≡ mark_of s.keeper lane → AreLanes q s' taken
look_lanes q s s' taken lane h changes stage hint mark =
    lanes_one q q s s' taken taken lane h
    (record { count = refl; takens = refl; lanes = ap (λ (p : Identity). p.sizes.lanes) changes.keeper.pool; jobs = λ l ne. refl; known = λ l ne. changes.keeper.others l ne; marks = λ l ne. refl })
    (h.begun lane)
    (stands_looked (window_at (lane_of q lane)) (stopped_at (lane_of q lane)) (lane_at s.keeper.view lane) (lane_at s'.keeper.view lane) (taken_at taken lane) stage hint mark (h.stands lane))

look_either : (b : Bool) (now old : Stage) → now ≡ (if b then ended old else old) → (now ≡ old) ⊎ (now ≡ ended old)
look_either true now old is = inr is
look_either false now old is = inl is

pub looked_lanes : (q : List (List Job)) (s s' : FramesState) (taken : List Bool) (lane : ℕ) (b : Bool) → AreLanes q s taken → ChangesLaneAlone s s' lane → stage_of s'.keeper lane ≡ (if b then ended (stage_of s.keeper lane) else stage_of s.keeper lane) → hint_of s'.keeper lane ≡ hint_of s.keeper lane → mark_of s'.keeper lane ≡ mark_of s.keeper lane → AreLanes q s' taken
looked_lanes q s s' taken lane b h changes stage hint mark = look_lanes q s s' taken lane h changes (look_either b (stage_of s'.keeper lane) (stage_of s.keeper lane) stage) hint mark

-- ---- a lease that was taken back before

-- a lane that is free though a window of it is out: its lease was taken back
pub taken_back : (w : ℕ) (stopped : Bool) (d : LaneState) (t : Bool) → LaneStands w stopped d t → 0 < w → d.stage ≡ Free → t ≡ true
taken_back w stopped d true h some free = refl
taken_back w stopped d false h some free = absurd (still_out (h.out some refl) free)
  where
    still_out : {n : ℕ} {st : Stage} → IsOut n st → st ≡ Free → ⊥
    still_out (inl (ps, is, sum)) e = apart (sym is ∙ e)
      where
        apart : {ps : List Part} → Handed ps ≡ Free → ⊥
        apart e = cc
    still_out (inr is) e = apart (sym is ∙ e)
      where
        apart : {n : ℕ} → Ended n ≡ Free → ⊥
        apart e = cc

-- ---- lanes without jobs

nothing_at : (n l : ℕ) → lane_of (replicate n []) l ≡ []
nothing_at zero l = refl
nothing_at (suc n) zero = refl
nothing_at (suc n) (suc l) = nothing_at n l

none_taken : (n l : ℕ) → taken_at (replicate n false) l ≡ false
none_taken zero l = refl
none_taken (suc n) zero = refl
none_taken (suc n) (suc l) = none_taken n l

pub new_lanes : (n : ℕ) (q : List (List Job)) (s : FramesState) (taken : List Bool) → q ≡ replicate n [] → taken ≡ replicate n false → lanes_of s.keeper ≡ n → ((l : ℕ) → lane_at s.keeper.view l ≡ idle_lane) → AreLanes q s taken
new_lanes n q s taken is none count idle = record {
  lanes = ap (λ l. length l) is ∙ length-replicate n [] ∙ sym count;
  takens = ap (λ l. length l) none ∙ length-replicate n false ∙ sym count;
  begun = λ l. subst HasBegun (sym (ap (λ x. lane_of x l) is ∙ nothing_at n l)) tt;
  stands = λ l.
      subst (λ (js : List Job). LaneStands (window_at js) (stopped_at js) (lane_at s.keeper.view l) (taken_at taken l)) (sym (ap (λ x. lane_of x l) is ∙ nothing_at n l))
      (record { home = λ e. (ap (λ (d : LaneState). d.stage) (idle l), ap (λ x. taken_at x l) none ∙ none_taken n l); out = λ some. absurd (omega (arith, some)); back = λ e. ap (λ (d : LaneState). d.stage) (idle l); hint = λ some. absurd (omega (arith, some)); mark = λ some. absurd (omega (arith, some)) });
}
