-- What a call does to one lane's queue, it does to the list of lanes.
use Rattle.std.proofs.Common.{◌≡◌, ℕ, ◌+◌, ◌<◌, ◌≤◌, ◌^◌, List, [], ◌∷◌, ◌++◌, length, map, get_or, set, take, drop, replicate, sym, ◌∙◌, ap, ap₂, subst, arith, refl, zero, suc, OnOk, Result, Ok, Err, Option, Some, None, Bor}
use Rattle.std.proofs.lemmas.List.{map-set, get_or-map, length-map}
use Rattle.std.specs.Prelude.{slice_get, option_copied, IfSome, IfErr}
use Rattle.circular_buffer.specs.Buffer.{Buffer, buffer}
use Rattle.voice_units.specs.Spots.{samples_in}
use Rattle.play_queue.specs.declared.jobs.Job.{Job}
use Rattle.play_queue.specs.Queued.{items_of, lane_of, IsJob, AreJobs, IsQueue, AreQueues, heard_more, with_window, stopped_job}

pub in_lanes : (xs : List (Buffer Job)) (i : ℕ) (self : List (List Job)) (lane : ℕ) → i ≡ lane → map items_of xs ≡ self → lane < length self → i < length xs
in_lanes xs i self lane same e lt = let all = sym (length-map xs items_of) ∙ ap (λ l. length l) e in omega (arith, all, same, lt)

-- a lane's jobs are the items of its queue
pub lane_is : (xs : List (Buffer Job)) (i : ℕ) (b : Buffer Job) (self : List (List Job)) (lane : ℕ) → i ≡ lane → map items_of xs ≡ self → lane < length self → b ≡ get_or xs i b → lane_of self lane ≡ b.items
lane_is xs i b self lane same e lt at =
    let lt2 : i < length xs = in_lanes xs i self lane same e lt in
    ap (λ k. get_or self k []) (sym same) ∙ ap (λ l. get_or l i []) (sym e) ∙ get_or-map items_of xs i b [] lt2 ∙ ap items_of (sym at)

-- a write of a queue is a write of the lane's jobs
pub written : (xs : List (Buffer Job)) (i : ℕ) (w : Buffer Job) (ys : List Job) (self : List (List Job)) (lane : ℕ) → i ≡ lane → map items_of xs ≡ self → w.items ≡ ys → map items_of (set xs i w) ≡ set self lane ys
written xs i w ys self lane same e at = map-set items_of xs i w ∙ ap (λ l. set l i w.items) e ∙ ap₂ (λ k y. set self k y) same at

pub on_ok : {T E P Q : Type 0} (r : Result T E) → (P → Q) → OnOk r P → OnOk r Q
on_ok (Ok x) f p = f p
on_ok (Err e) f p = tt

pub empties : (n : ℕ) → map items_of (replicate n (buffer [] 8)) ≡ replicate n []
empties zero = refl
empties (suc n) = ap (λ l. [] ∷ l) (empties n)

-- ---- what queues keep

pub all_empty : (n : ℕ) → AreQueues (replicate n (buffer [] 8))
all_empty zero = tt
all_empty (suc n) = (record { eight = refl; jobs = tt }, all_empty n)

pub queue_at : (qs : List (Buffer Job)) (i : ℕ) (q : Buffer Job) → AreQueues qs → i < length qs → q ≡ get_or qs i q → IsQueue q
queue_at [] i q h lt at = absurd (omega arith)
queue_at (x ∷ qs) zero q h lt at = subst IsQueue (sym at) h.0
queue_at (x ∷ qs) (suc i) q h lt at = queue_at qs i q h.1 (omega arith) at

pub queue_set : (qs : List (Buffer Job)) (i : ℕ) (q : Buffer Job) → AreQueues qs → IsQueue q → AreQueues (set qs i q)
queue_set [] i q h k = tt
queue_set (x ∷ qs) zero q h k = (k, h.1)
queue_set (x ∷ qs) (suc i) q h k = (h.0, queue_set qs i q h.1 k)

pub job_at : (js : List Job) (k : ℕ) (j : Job) → AreJobs js → slice_get js k ≡ Some j → IsJob j
job_at [] k j h at = cc
job_at (x ∷ js) zero j h at = let e : x ≡ j = cc in subst IsJob e h.0
job_at (x ∷ js) (suc k) j h at = job_at js k j h.1 at

pub job_set : (js : List Job) (k : ℕ) (j : Job) → AreJobs js → IsJob j → AreJobs (set js k j)
job_set [] k j h g = tt
job_set (x ∷ js) zero j h g = (g, h.1)
job_set (x ∷ js) (suc k) j h g = (h.0, job_set js k j h.1 g)

pub job_last : (js : List Job) (j : Job) → AreJobs js → IsJob j → AreJobs (js ++ j ∷ [])
job_last [] j h g = (g, tt)
job_last (x ∷ js) j h g = (h.0, job_last js j h.1 g)

pub jobs_behind : (js : List Job) → AreJobs js → AreJobs (drop 1 js)
jobs_behind [] h = tt
jobs_behind (x ∷ js) h = h.1

pub all_stopped : (js : List Job) → AreJobs js → AreJobs (map stopped_job js)
all_stopped [] h = tt
all_stopped (x ∷ js) h = (record { within = h.0.within; fits = h.0.fits }, all_stopped js h.1)

pub still_queue : (q new : Buffer Job) (js : List Job) → IsQueue q → new ≡ buffer js q.capacity → AreJobs js → IsQueue new
still_queue q new js h is jobs = subst IsQueue (sym is) (record { eight = h.eight; jobs = jobs })

-- ---- the first job

abbrev first_of : List Job → Job → Job
first_of js d = get_or js 0 d

first_is_job : (js : List Job) (d : Job) → AreJobs js → 0 < length js → IsJob (get_or js 0 d)
first_is_job [] d h some = absurd (omega arith)
first_is_job (x ∷ js) d h some = h.0

pub heard_jobs : (js : List Job) (more : ℕ) (d : Job) → AreJobs js → 0 < length js → more ≤ (get_or js 0 d).window → AreJobs (set js 0 (heard_more more (get_or js 0 d)))
heard_jobs js more d h some few =
    let j = first_is_job js d h some in
    job_set js 0 (heard_more more (get_or js 0 d)) h (record { within = omega (arith, j.within, few); fits = j.fits })

pub windowed_jobs : (js : List Job) (n : ℕ) (d : Job) → AreJobs js → 0 < length js → (get_or js 0 d).heard + n ≤ samples_in (get_or js 0 d).passage → AreJobs (set js 0 (with_window n (get_or js 0 d)))
windowed_jobs js n d h some within =
    let j = first_is_job js d h some in
    job_set js 0 (with_window n (get_or js 0 d)) h (record { within = within; fits = j.fits })

pub heard_fits : (js : List Job) (more : ℕ) (d : Job) → AreJobs js → 0 < length js → more ≤ (get_or js 0 d).window → (get_or js 0 d).heard + more < 2 ^ 32
heard_fits js more d h some few = let j = first_is_job js d h some in omega (arith, j.within, j.fits, few)

pub some_job : (r : Option (Bor Job)) (js : List Job) (k : ℕ) → AreJobs js → option_copied r ≡ slice_get js k → IfSome r (λ job. IsJob job.now)
some_job None js k h e = tt
some_job (Some b) js k h e = job_at js k b.now h (sym e)

-- some job of a queue that has one
pub a_job : (js : List Job) → 0 < length js → Job
a_job [] h = absurd (omega arith)
a_job (x ∷ js) h = x

pub eight_of : {R : Type 0} (q : Buffer Job) (lane : List Job) → lane ≡ q.items → q.capacity ≡ 8 → ((R → length q.items < q.capacity) × (length q.items < q.capacity → R)) → (R → length lane < 8) × (length lane < 8 → R)
eight_of q lane is eight h =
    let same = ap (λ l. length l) is in
    (λ r. let k = h.0 r in omega (arith, k, same, eight), λ k. h.1 (omega (arith, k, same, eight)))

-- the queue after a push, whichever way it went
pub pushed : {A : Type 0} (r : Result A Job) (b new : Buffer Job) (job : Job) → IsQueue b → IsJob job → OnOk r (new ≡ buffer (b.items ++ job ∷ []) b.capacity) → IfErr r (λ back. (back ≡ job) × (new ≡ b)) → IsQueue new
pushed (Ok x) b new job q j ok err = still_queue b new (b.items ++ job ∷ []) q ok (job_last b.items job q.jobs j)
pushed (Err x) b new job q j ok err = subst IsQueue (sym err.1) q

-- ---- stopping jobs one after another

-- the first k jobs stopped, and the others
abbrev pub half_stopped : ℕ → List Job → List Job
half_stopped k js = map stopped_job (take k js) ++ drop k js

pub one_stopped : (js : List Job) (k : ℕ) (d : Job) → k < length js → set (half_stopped k js) k (stopped_job (get_or (half_stopped k js) k d)) ≡ half_stopped (suc k) js
one_stopped [] k d h = absurd (omega arith)
one_stopped (j ∷ js) zero d h = refl
one_stopped (j ∷ js) (suc k) d h = ap (λ l. stopped_job j ∷ l) (one_stopped js k d (omega arith))

pub not_stopped_yet : (js : List Job) (k : ℕ) (d : Job) → k < length js → get_or (half_stopped k js) k d ≡ get_or js k d
not_stopped_yet [] k d h = absurd (omega arith)
not_stopped_yet (j ∷ js) zero d h = refl
not_stopped_yet (j ∷ js) (suc k) d h = not_stopped_yet js k d (omega arith)
