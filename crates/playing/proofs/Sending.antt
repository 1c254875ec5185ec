-- A window is handed out.
use Rattle.std.proofs.Common.{◌≡◌, ◌≢◌, ℕ, zero, suc, ◌+◌, ◌<◌, ◌≤◌, ◌⊎◌, inl, inr, Bool, true, false, List, [], ◌∷◌, length, map, get_or, set, drop, take, refl, sym, ◌∙◌, ap, ap₂, subst, arith, Some}
use Rattle.std.specs.List.{list_any}
use Rattle.std.proofs.lemmas.List.{length-set, length-take, get_or-set_other}
use Rattle.voice_units.specs.declared.pieces.Piece.{Piece}
use Rattle.voice_units.specs.Spots.{spots_of, samples_in, stretches}
use Rattle.rope_algebra.proofs.Stretched.{no_window, window_fits}
use Rattle.frame_pool.specs.declared.views.LaneState.{LaneState}
use Rattle.frame_pool.specs.Steps.{lane_at}
use Rattle.frame_pool.specs.Pool.{Identity, LeaseState, block_of, stage_of, hint_of, mark_of, word_of}
use Rattle.play_queue.specs.declared.jobs.Job.{Job}
use Rattle.play_queue.specs.Queued.{lane_of, with_window, first_job}
use Rattle.playing.specs.declared.blocks.Block.{Block}
use Rattle.playing.specs.Frames.{FramesState, ChangesLaneAlone, IsBroughtIn, HoldsBytes, resident_at, is_in}
use Rattle.playing.specs.Windows.{AreStretches, IsOut, IsLeaseOf, byte_in}
use Rattle.playing.specs.Lanes.{LanesState, AreLanes, LaneStands, HasBegun, window_at, stopped_at, taken_at, home_with, sent, next_window, next_start, passage_length, IsSentTo}
use Rattle.playing.proofs.Samples.{stretches_are, take_stretches}
use Rattle.playing.proofs.Laning.{lanes_one, jobs_are, marked_one, marked_at, a_job}

-- ---- the window

pub record IsWindow (block : ℕ) (w : List Piece) (start len : ℕ) : Type 0 where
  pub stretches : AreStretches block w
  pub least : 1 ≤ length w
  pub few : length w ≤ 4
  pub within : start + samples_in w ≤ len
  pub some : 0 < samples_in w

some_piece : (w : List Piece) → 0 < samples_in w → 1 ≤ length w
some_piece [] h = absurd (omega arith)
some_piece (p ∷ w) h = omega arith

pub window_is : (block more : ℕ) (js : List Job) → 0 < block → 0 < length js → next_start more js < passage_length js → IsWindow block (next_window block more js) (next_start more js) (passage_length js)
window_is block more [] some job left = absurd (omega arith)
window_is block more (j ∷ js) some job left =
    let at = j.heard + more in
    let w = take 4 (stretches block (drop at (spots_of j.passage))) in
    let within = window_fits block j.passage at (omega (arith, left)) in
    let none = no_window block j.passage at (samples_in w) (omega (arith, left)) refl in
    let full : 0 < samples_in w = positive (samples_in w) (λ e. let end = none.0 e in omega (arith, end, left)) in
    record {
      stretches = take_stretches block 4 (stretches block (drop at (spots_of j.passage))) (stretches_are block (drop at (spots_of j.passage)) some);
      least = some_piece w full;
      few = let n = length-take 4 (stretches block (drop at (spots_of j.passage))) in omega (arith, n);
      within = within;
      some = full;
    }
  where
    positive : (n : ℕ) → (n ≡ 0 → ⊥) → 0 < n
    positive zero h = absurd (h refl)
    positive (suc n) h = omega arith

-- ---- the frames

pub sent_to : (block : ℕ) (w : List Piece) (lane : ℕ) (s0 s1 s2 : FramesState) → IsBroughtIn block w s0 s1 → ChangesLaneAlone s1 s2 lane → IsSentTo block w lane s0 s2
sent_to block w lane s0 s1 s2 h k = record {
  pool = k.keeper.pool ∙ h.pool;
  others = λ l ne. k.keeper.others l ne ∙ h.lanes l;
  came = λ f d at. h.came f d (ap (λ r. resident_at r f) (sym k.resident) ∙ at);
  left = λ f d at. elim (h.left f d at) as (λ x. (resident_at s2.resident f ≡ Some d) ⊎ ((e : Block) × (resident_at s2.resident f ≡ Some e) × ((g : ℕ) → resident_at s0.resident g ≢ Some e) × (list_any (is_in block d) w ≡ false))) [
    | inl is ↦ inl (ap (λ r. resident_at r f) k.resident ∙ is)
    | inr other ↦ inr (other.0, ap (λ r. resident_at r f) k.resident ∙ other.1, other.2, other.3)
  ];
}

-- ---- the jobs

set-set : {A : Type 0} (xs : List A) (i : ℕ) (x y : A) → set (set xs i x) i y ≡ set xs i y
set-set [] i x y = refl
set-set (z ∷ xs) zero x y = refl
set-set (z ∷ xs) (suc i) x y = ap (λ l. z ∷ l) (set-set xs i x y)

windowed : (js : List Job) (more n : ℕ) (d : Job) → 0 < length js → set (home_with more js) 0 (with_window n (get_or (home_with more js) 0 d)) ≡ sent more n js
windowed [] more n d h = absurd (omega arith)
windowed (j ∷ js) more n d h = refl

pub sent_is : (q q1 q2 : List (List Job)) (lane more n : ℕ) → lane < length q → 0 < length (lane_of q lane) → q1 ≡ set q lane (home_with more (lane_of q lane)) → ((d : Job) → q2 ≡ set q1 lane (set (lane_of q1 lane) 0 (with_window n (first_job q1 lane d)))) → q2 ≡ set q lane (sent more n (lane_of q lane))
sent_is q q1 q2 lane more n low some is h =
    let js = lane_of q lane in
    let d = a_job js some in
    let there = jobs_are q q1 lane (home_with more js) is low in
    h d
    ∙ ap₂ (λ x (l : List Job). set x lane (set l 0 (with_window n (get_or l 0 d)))) is there
    ∙ set-set q lane (home_with more js) _
    ∙ ap (λ l. set q lane l) (windowed js more n d some)

begun_sent : (js : List Job) (more n : ℕ) → HasBegun js → HasBegun (sent more n js)
begun_sent [] more n h = tt
begun_sent (j ∷ js) more n h = h

stands_sent : (js : List Job) (more n : ℕ) (d : LaneState) → 0 < length js → 0 < n → stopped_at js ≡ false → IsOut n d.stage → d.hint ≡ 0 → d.mark ≡ false → LaneStands (window_at (sent more n js)) (stopped_at (sent more n js)) d false
stands_sent [] more n d job some goes out hint mark = absurd (omega arith)
stands_sent (j ∷ js) more n d job some goes out hint mark = record {
  home = λ e. absurd (omega (arith, some, e));
  out = λ s e. out;
  back = λ e. absurd (apart e);
  hint = λ s. hint ∙ ap word_of (sym goes);
  mark = λ s. mark ∙ sym goes;
}
  where
    apart : false ≡ true → ⊥
    apart e = cc

pub send_lanes : (q q2 : List (List Job)) (s0 s2 : FramesState) (taken : List Bool) (block : ℕ) (w : List Piece) (lane i more n : ℕ) → AreLanes q s0 taken → lane < length q → 0 < length (lane_of q lane) → i ≡ lane → 0 < n → stopped_at (lane_of q lane) ≡ false
    → q2 ≡ set q lane (sent more n (lane_of q lane)) → IsSentTo block w lane s0 s2 → IsOut n (stage_of s2.keeper lane) → hint_of s2.keeper lane ≡ 0 → mark_of s2.keeper lane ≡ false → AreLanes q2 s2 (set taken i false)
send_lanes q q2 s0 s2 taken block w lane i more n h low job same some goes is frames out hint mark =
    let jobs = sent more n (lane_of q lane) in
    let there = jobs_are q q2 lane jobs is low in
    let within : i < length taken = omega (arith, same, low, h.takens, h.lanes) in
    lanes_one q q2 s0 s2 taken (set taken i false) lane h
    (record {
      count = ap (λ l. length l) is ∙ length-set q lane jobs;
      takens = length-set taken i false;
      lanes = ap (λ (p : Identity). p.sizes.lanes) frames.pool;
      jobs = λ l ne. ap (λ x. lane_of x l) is ∙ get_or-set_other q lane l jobs [] ne;
      known = frames.others;
      marks = marked_one taken i lane false same;
    })
    (subst HasBegun (sym there) (begun_sent (lane_of q lane) more n (h.begun lane)))
    (subst (λ (js : List Job). LaneStands (window_at js) (stopped_at js) (lane_at s2.keeper.view lane) (taken_at (set taken i false) lane)) (sym there)
    (subst (λ (b : Bool). LaneStands (window_at jobs) (stopped_at jobs) (lane_at s2.keeper.view lane) b) (sym (marked_at taken i lane false same within))
    (stands_sent (lane_of q lane) more n (lane_at s2.keeper.view lane) job some goes out hint mark)))

pub fits_in : (q q1 : List (List Job)) (lane more n : ℕ) (d : Job) → lane < length q → 0 < length (lane_of q lane) → q1 ≡ set q lane (home_with more (lane_of q lane)) → next_start more (lane_of q lane) + n ≤ passage_length (lane_of q lane) → (first_job q1 lane d).heard + n ≤ samples_in (first_job q1 lane d).passage
fits_in q q1 lane more n d low some is within =
    let there = jobs_are q q1 lane (home_with more (lane_of q lane)) is low in
    subst (λ (l : List Job). (get_or l 0 d).heard + n ≤ samples_in (get_or l 0 d).passage) (sym there) (fits (lane_of q lane) some within)
  where
    fits : (js : List Job) → 0 < length js → next_start more js + n ≤ passage_length js → (get_or (home_with more js) 0 d).heard + n ≤ samples_in (get_or (home_with more js) 0 d).passage
    fits [] some within = absurd (omega arith)
    fits (j ∷ js) some within = within

pub count_home : (js : List Job) (more : ℕ) → length (home_with more js) ≡ length js
count_home [] more = refl
count_home (j ∷ js) more = refl

-- what is known as a window is handed out, in terms of the fields
pub record CanSend (block more : ℕ) (self inside : LanesState) (lane : ℕ) : Type 0 where
  pub low : lane < length inside.queues
  pub some : 0 < length (lane_of inside.queues lane)
  pub goes : stopped_at (lane_of inside.queues lane) ≡ false
  pub window : IsWindow block (next_window block more (lane_of self.queues lane)) (next_start more (lane_of inside.queues lane)) (passage_length (lane_of inside.queues lane))

pub can_send : (block more : ℕ) (self inside : LanesState) (lane : ℕ) → inside ≡ self → 8 ≤ block → lane < length self.queues → 0 < length (lane_of self.queues lane) → stopped_at (lane_of self.queues lane) ≡ false → next_start more (lane_of self.queues lane) < passage_length (lane_of self.queues lane) → CanSend block more self inside lane
can_send block more self inside lane same least low some goes left = subst (λ (s : LanesState). CanSend block more self s lane) (sym same) (record {
  low = low;
  some = some;
  goes = goes;
  window = window_is block more (lane_of self.queues lane) (omega arith) some left;
})

-- the jobs once more of the first was heard
pub advanced_low : (q q1 : List (List Job)) (lane more : ℕ) → lane < length q → q1 ≡ set q lane (home_with more (lane_of q lane)) → lane < length q1
advanced_low q q1 lane more low is = let long = ap (λ l. length l) is ∙ length-set q lane (home_with more (lane_of q lane)) in omega (arith, long, low)

pub advanced_some : (q q1 : List (List Job)) (lane more : ℕ) → lane < length q → 0 < length (lane_of q lane) → q1 ≡ set q lane (home_with more (lane_of q lane)) → 0 < length (lane_of q1 lane)
advanced_some q q1 lane more low some is = let n = ap (λ l. length l) (jobs_are q q1 lane (home_with more (lane_of q lane)) is low) in omega (arith, n, count_home (lane_of q lane) more, some)

pub sent_to_seen : (block : ℕ) (w v : List Piece) (lane : ℕ) (self inside : LanesState) (s1 s2 : FramesState) → inside ≡ self → v ≡ w → IsBroughtIn block v inside.frames s1 → ChangesLaneAlone s1 s2 lane → IsSentTo block w lane self.frames s2
sent_to_seen block w v lane self inside s1 s2 same is h k =
    subst (λ (s : LanesState). IsSentTo block w lane s.frames s2) same (subst (λ (l : List Piece). IsSentTo block l lane inside.frames s2) is (sent_to block v lane inside.frames s1 s2 h k))

pub leased_samples : (bytes : ℕ → ℕ → List ℕ) (block : ℕ) (w v : List Piece) (lane : ℕ) (self inside : LanesState) (s1 : FramesState) (lease : LeaseState) → inside ≡ self → v ≡ w → block ≡ block_of self.frames.keeper → s1.keeper.pool ≡ inside.frames.keeper.pool → IsLeaseOf s1 lane v lease → HoldsBytes bytes s1 → lease.samples ≡ map (byte_in bytes block) (spots_of w)
leased_samples bytes block w v lane self inside s1 lease same is size pool h holds =
    let here : block_of s1.keeper ≡ block = ap (λ (p : Identity). p.sizes.block) pool ∙ ap (λ (s : LanesState). block_of s.frames.keeper) same ∙ sym size in
    h.samples bytes holds ∙ ap₂ (λ b (l : List Piece). map (byte_in bytes b) (spots_of l)) here is

pub sent_queues : (self inside : LanesState) (q2 : List (List Job)) (lane more n m : ℕ) → inside ≡ self → n ≡ m → q2 ≡ set inside.queues lane (sent more n (lane_of inside.queues lane)) → q2 ≡ set self.queues lane (sent more m (lane_of self.queues lane))
sent_queues self inside q2 lane more n m same is h = h ∙ ap₂ (λ (s : LanesState) k. set s.queues lane (sent more k (lane_of s.queues lane))) same is

drop_home : (js : List Job) (more : ℕ) → drop 1 (home_with more js) ≡ drop 1 js
drop_home [] more = refl
drop_home (j ∷ js) more = refl

-- the first job leaves, once more of it was heard
pub finished : (q q1 q2 : List (List Job)) (lane more : ℕ) → lane < length q → q1 ≡ set q lane (home_with more (lane_of q lane)) → q2 ≡ set q1 lane (drop 1 (lane_of q1 lane)) → q2 ≡ set q lane (drop 1 (lane_of q lane))
finished q q1 q2 lane more low is h =
    let js = lane_of q lane in
    h
    ∙ ap₂ (λ x (l : List Job). set x lane (drop 1 l)) is (jobs_are q q1 lane (home_with more js) is low)
    ∙ set-set q lane (home_with more js) (drop 1 (home_with more js))
    ∙ ap (λ l. set q lane l) (drop_home js more)
