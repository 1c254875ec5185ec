-- What is known of a lane's first job between the turns that serve it.
use Rattle.std.proofs.Common.{◌≡◌, ℕ, ◌+◌, ◌⊎◌, inl, inr, List, [], take, Option, Some, None, refl, sym, ap, ◌∙◌, subst, arith}
use Rattle.frame_pool.specs.Pool.{LeaseState}
use Rattle.voice_model.specs.Samples.{Tagged, bytes_of}
use Rattle.voice_model.specs.State.{State, Job, lane_at}
use Rattle.voice_model.specs.Step.{first_job, IsAnswer, state_after, after}
use Rattle.voice_model.specs.Follows.{passage_bytes}
use Rattle.voice_model.specs.Valid.{IsState}
use Rattle.voice_model.specs.declared.calls.Call.{Call}
use Rattle.voice_model.specs.declared.calls.Call.TheVariants as calls
use Rattle.voice_model.specs.declared.calls.Reply.{Reply}
use Rattle.voice_model.specs.declared.calls.Reply.TheVariants as replies
use Rattle.voice_model.specs.declared.calls.Why.{Why}
use Rattle.voice_model.specs.declared.calls.Why.TheVariants as why
use Rattle.voice_model.specs.declared.calls.Entry.{Entry}
use Rattle.serving_laws.specs.Lanes.{Feeds, FeedsNot, Hears, IsAtRest, HasNotBegun, IsOver, GoesOn, Begins, BeginsNot, first_of_lane, a_job}
use Rattle.serving_laws.proofs.Others.{hears_after, rests_after}
use Rattle.serving_laws.proofs.Served.{comes_back, known_goes_on, begins, rests_when_over}

-- the lane's first job, with this window out: what was heard is its passage up to n samples into the window
pub record IsHeard (s : State) (lane window n : ℕ) (heard : List ℕ) : Type 0 where
  pub number : ℕ
  pub passage : List Tagged
  pub from : ℕ
  pub hears : Hears s lane number passage from window
  pub bytes : heard ≡ take (from + n) (bytes_of passage)

-- what is known before a turn: of a player without a window, that nothing was heard yet of a job at rest, or all so far of one that met a fault
abbrev pub Known : State → ℕ → ℕ → Option LeaseState → List ℕ → Type 0
Known s lane at None heard = (IsAtRest s lane × (heard ≡ [])) ⊎ IsHeard s lane 0 0 heard
Known s lane at (Some window) heard = IsHeard s lane window.len at heard

-- it stays known while the lane isn't fed
heard_lasts : (s : State) (tapes : List (List ℕ)) (es : List Entry) (lane window n : ℕ) (heard : List ℕ) → FeedsNot lane es → IsHeard s lane window n heard → IsHeard (after s tapes es) lane window n heard
heard_lasts s tapes es lane window n heard apart h = record {
  number = h.number;
  passage = h.passage;
  from = h.from;
  hears = hears_after s tapes es lane h.number h.passage h.from window apart h.hears;
  bytes = h.bytes;
}

pub known_lasts : (s : State) (tapes : List (List ℕ)) (es : List Entry) (lane at : ℕ) (lease : Option LeaseState) (heard : List ℕ) → FeedsNot lane es → Known s lane at lease heard → Known (after s tapes es) lane at lease heard
known_lasts s tapes es lane at None heard apart (inl h) = inl (rests_after s tapes es lane apart h.0, h.1)
known_lasts s tapes es lane at None heard apart (inr h) = inr (heard_lasts s tapes es lane 0 0 heard apart h)
known_lasts s tapes es lane at (Some window) heard apart h = heard_lasts s tapes es lane window.len at heard apart h

pub fault_lasts : (s : State) (tapes : List (List ℕ)) (es : List Entry) (lane : ℕ) (heard : List ℕ) → FeedsNot lane es → IsHeard s lane 0 0 heard → IsHeard (after s tapes es) lane 0 0 heard
fault_lasts s tapes es lane heard apart h = heard_lasts s tapes es lane 0 0 heard apart h

-- ---- what a feed tells

-- a job that is over: what was heard is as much of its passage
abbrev pub IsOverAt : State → State → ℕ → ℕ → List ℕ → Type 0
IsOverAt s t lane n heard = (heard ≡ take n (passage_bytes (first_of_lane s lane))) × IsAtRest t lane

abbrev pub ToldNo : State → ℕ → Why → List ℕ → Type 0
ToldNo t lane why.DiskFault heard = IsHeard t lane 0 0 heard
ToldNo t lane _ heard = (heard ≡ []) × IsAtRest t lane

-- what a feed's reply tells of what was heard before it, and of the state t after it
abbrev pub Told : State → State → ℕ → Reply → List ℕ → Type 0
Told s t lane (replies.Window at n) heard = (job : Job) × (first_of_lane s lane ≡ Some job) × Hears t lane job.number job.passage at n × (heard ≡ take at (bytes_of job.passage))
Told s t lane (replies.Ended job n) heard = IsOverAt s t lane n heard
Told s t lane (replies.Stopped job n) heard = IsOverAt s t lane n heard
Told s t lane (replies.No reason) heard = ToldNo t lane reason heard
Told s t lane _ heard = ⊥

-- where a job is over, its lane is at rest then
abbrev Rests : State → ℕ → Reply → Type 0
Rests t lane reply = IsOver reply → IsAtRest t lane

-- what was heard of a known job, told by what goes on
of_job : (s : State) (lane number : ℕ) (passage : List Tagged) (from window total n : ℕ) (heard : List ℕ) → Hears s lane number passage from window → heard ≡ take total (bytes_of passage) → n ≡ total → heard ≡ take n (passage_bytes (first_of_lane s lane))
of_job s lane number passage from window total n heard known e f =
    e ∙ ap (λ k. take k (bytes_of passage)) (sym f) ∙ ap (λ o. take n (passage_bytes o)) (sym known.first)

told_on :
    (s t : State) (lane number : ℕ) (passage : List Tagged) (from window total : ℕ) (heard : List ℕ) (reply : Reply) → Hears s lane number passage from window
    → heard ≡ take total (bytes_of passage) → Rests t lane reply → GoesOn t lane number passage total reply → Told s t lane reply heard
told_on s t lane number passage from window total heard (replies.Window at n) known e rests h =
    (a_job number passage from window known.stopped, known.first, h.1, e ∙ ap (λ k. take k (bytes_of passage)) (sym h.0))
told_on s t lane number passage from window total heard (replies.Ended job n) known e rests h = (of_job s lane number passage from window total n heard known e h.1, rests tt)
told_on s t lane number passage from window total heard (replies.Stopped job n) known e rests h = (of_job s lane number passage from window total n heard known e h.1, rests tt)
told_on s t lane number passage from window total heard (replies.No why.DiskFault) known e rests h =
    let all : total ≡ total + 0 = omega arith in
    record { number = number; passage = passage; from = total; hears = h; bytes = e ∙ ap (λ k. take k (bytes_of passage)) all }
told_on s t lane number passage from window total heard _ known e rests h = absurd h

-- a job at rest
not_begun : (s : State) (lane : ℕ) (job : Job) → IsAtRest s lane → first_of_lane s lane ≡ Some job → job.heard ≡ 0
not_begun s lane job rest e = let h : HasNotBegun (Some job) = subst HasNotBegun e rest in h.0

nothing : (bytes heard : List ℕ) (n : ℕ) → heard ≡ [] → n ≡ 0 → heard ≡ take n bytes
nothing bytes heard n e f = e ∙ ap (λ k. take k bytes) (sym f)

stays_at_rest : (s t : State) (lane : ℕ) → IsAtRest s lane → (lane_at t lane).jobs ≡ (lane_at s lane).jobs → IsAtRest t lane
stays_at_rest s t lane rest e = subst (λ jobs. HasNotBegun (first_job jobs)) (sym e) rest

told_none : (s t : State) (lane : ℕ) (reason : Why) (heard : List ℕ) → IsAtRest s lane → heard ≡ [] → BeginsNot s t lane reason → ToldNo t lane reason heard
told_none s t lane why.DiskFault heard rest e h = record {
  number = h.0.number;
  passage = h.0.passage;
  from = h.0.heard;
  hears = h.3;
  bytes = nothing (bytes_of h.0.passage) heard (h.0.heard + 0) e (omega (arith, not_begun s lane h.0 rest h.1));
}
told_none s t lane _ heard rest e h = (e, stays_at_rest s t lane rest h)

told_first : (s t : State) (lane : ℕ) (reply : Reply) (heard : List ℕ) → IsAtRest s lane → heard ≡ [] → Rests t lane reply → Begins s t lane reply → Told s t lane reply heard
told_first s t lane (replies.Window at n) heard rest e over h = (h.0, h.1, h.3, nothing (bytes_of h.0.passage) heard at e (h.2 ∙ not_begun s lane h.0 rest h.1))
told_first s t lane (replies.Ended number n) heard rest e over h = (nothing (passage_bytes (first_of_lane s lane)) heard n e (h.3 ∙ not_begun s lane h.0 rest h.1), over tt)
told_first s t lane (replies.Stopped number n) heard rest e over h = (nothing (passage_bytes (first_of_lane s lane)) heard n e (h.3 ∙ not_begun s lane h.0 rest h.1), over tt)
told_first s t lane (replies.No reason) heard rest e over h = told_none s t lane reason heard rest e h
told_first s t lane _ heard rest e over h = absurd h

-- how much of its window a player brings back
abbrev pub back_of : ℕ → Option LeaseState → Option ℕ
back_of at None = None
back_of at (Some window) = Some at

feeds_lane : (lane : ℕ) (call : Call) (back : Option ℕ) → call ≡ calls.Feed lane back → Feeds lane call
feeds_lane lane call back e = subst (Feeds lane) (sym e) refl

-- what a feed tells of what was known before it
pub feed_tells :
    (s : State) (tapes : List (List ℕ)) (e : Entry) (lane at : ℕ) (lease : Option LeaseState) (heard : List ℕ) → IsState s → Known s lane at lease heard → IsAnswer s tapes e
    → e.call ≡ calls.Feed lane (back_of at lease) → Told s (state_after s tapes e) lane e.reply heard
feed_tells s tapes e lane at None heard valid (inl h) k c =
    told_first s (state_after s tapes e) lane e.reply heard h.0 h.1 (rests_when_over s tapes e lane valid k (feeds_lane lane e.call None c)) (begins s tapes e lane k c)
feed_tells s tapes e lane at None heard valid (inr h) k c =
    let all : h.from + 0 ≡ h.from = omega arith in
    told_on s (state_after s tapes e) lane h.number h.passage h.from 0 h.from heard e.reply h.hears (h.bytes ∙ ap (λ k. take k (bytes_of h.passage)) all) (rests_when_over s tapes e lane valid k (feeds_lane lane e.call None c))
    (known_goes_on s tapes e lane h.number h.passage h.from valid h.hears k c)
feed_tells s tapes e lane at (Some window) heard valid h k c =
    told_on s (state_after s tapes e) lane h.number h.passage h.from window.len (h.from + at) heard e.reply h.hears h.bytes (rests_when_over s tapes e lane valid k (feeds_lane lane e.call (Some at) c))
    (comes_back s tapes e lane h.number h.passage h.from window.len at valid h.hears k c)
