-- The turns that serve a lane's first job.
use Rattle.std.proofs.Common.{◌≡◌, ℕ, ◌≤◌, inl, inr, true, false, List, [], ◌∷◌, ◌++◌, map, take, Option, Some, None, refl, sym, ap, ◌∙◌, subst, arith, append_assoc, append-nil}
use Rattle.voice_units.specs.Spots.{slice}
use Rattle.frame_pool.specs.Pool.{LeaseState}
use Rattle.players.specs.Players.{PlayerState}
use Rattle.voice_model.specs.Samples.{bytes_of}
use Rattle.voice_model.specs.State.{State, Job}
use Rattle.voice_model.specs.Step.{IsAnswer, state_after, after}
use Rattle.voice_model.specs.Follows.{Awaited, IsStopped, IsAwaited, after_feed, Goes_on, Serving, passage_bytes, heard_bytes}
use Rattle.voice_model.specs.Valid.{IsState}
use Rattle.voice_model.specs.declared.calls.Call.{Call}
use Rattle.voice_model.specs.declared.calls.Call.TheVariants as calls
use Rattle.voice_model.specs.declared.calls.Reply.{Reply}
use Rattle.voice_model.specs.declared.calls.Reply.TheVariants as replies
use Rattle.voice_model.specs.declared.calls.Why.{Why}
use Rattle.voice_model.specs.declared.calls.Why.TheVariants as why
use Rattle.voice_model.specs.declared.calls.Entry.{Entry}
use Rattle.turnstile.specs.Passes.{IsAllOf}
use Rattle.serving_laws.specs.Lanes.{Feeds, FeedsNot, FedBy, Hears, IsAtRest, first_of_lane}
use Rattle.serving_laws.proofs.TakenIn.{taken_in}
use Rattle.servings.specs.Copied.{IsThrough, HasCopied}
use Rattle.servings.specs.Servings.{IsWhatWasHeard}
use Rattle.servings.proofs.Between.{fed_front, after_front, feeds_not, feeds_not_more}
use Rattle.servings.proofs.Known.{IsHeard, Known, Told, ToldNo, back_of, known_lasts, fault_lasts, feed_tells}

-- what is awaited of a player with this window
abbrev pub awaited_by : Option LeaseState → Awaited
awaited_by None = Awaited.First
awaited_by (Some window) = Awaited.Back window.len

-- what holds of a lane that one caller feeds, that was at rest at the start, before anything was heard, where K is what is known of the state that the history begins from
abbrev pub Under : (State → Type 0) → List (List ℕ) → ℕ → ℕ → List Entry → List ℕ → List Entry → (State → Type 0) → Type 0
Under K tapes by lane start before now P = (first : State) → K first → FedBy by lane now → IsAtRest (after first tapes start) lane → before ≡ [] → P first

-- between turns: the caller's own entries so far, what is awaited now, and what is known
pub record Goes (K : State → Type 0) (tapes : List (List ℕ)) (by lane : ℕ) (start mine_start : List Entry) (before : List ℕ) (now mine_now : List Entry) (at : ℕ) (lease : Option LeaseState) (heard : List ℕ) : Type 0 where
  pub own : List Entry
  pub gained : mine_now ≡ mine_start ++ own
  pub opens : (rest : List Entry) → Serving lane (awaited_by lease) rest → Serving lane Awaited.First (own ++ rest)
  pub through : IsThrough at lease
  pub knows : Under K tapes by lane start before now (λ first. Known (after first tapes now) lane at lease heard)

-- a feed was answered
pub record Turned (K : State → Type 0) (tapes : List (List ℕ)) (by lane : ℕ) (start mine_start : List Entry) (before : List ℕ) (reply : Reply) (earlier now mine_now : List Entry) (heard : List ℕ) : Type 0 where
  pub own : List Entry
  pub gained : mine_now ≡ mine_start ++ own
  pub opens : (rest : List Entry) → Goes_on (after_feed reply) (λ next. Serving lane next rest) (rest ≡ []) → Serving lane Awaited.First (own ++ rest)
  pub front : List Entry
  pub final : Entry
  pub ends : own ≡ front ++ final ∷ []
  pub reply_is : final.reply ≡ reply
  pub told : now ≡ earlier ++ final ∷ []
  pub knows : Under K tapes by lane start before now (λ first. Told (after first tapes earlier) (after first tapes now) lane reply heard)

-- ---- the start

pub starts :
    (K : State → Type 0) (tapes : List (List ℕ)) (by lane : ℕ) (start mine_start : List Entry) (heard : List ℕ) (at : ℕ) (lease : Option LeaseState) → lease ≡ None
    → Goes K tapes by lane start mine_start heard start mine_start at lease heard
starts K tapes by lane start mine_start heard at None e = record {
  own = [];
  gained = sym (append-nil mine_start);
  opens = λ rest h. h;
  through = tt;
  knows = λ first known fed rest none. inl (rest, none);
}
starts K tapes by lane start mine_start heard at (Some window) e = cc

-- ---- a feed

-- the seen hint of a window that comes home tells of a stop
abbrev pub StopsIfHinted : Option LeaseState → Reply → Type 0
StopsIfHinted None reply = Unit {0}
StopsIfHinted (Some window) reply = window.taken ≡ false → window.hinted ≡ true → IsStopped reply

awaits : (lane at : ℕ) (lease : Option LeaseState) (e : Entry) → e.call ≡ calls.Feed lane (back_of at lease) → IsThrough at lease → StopsIfHinted lease e.reply → IsAwaited lane (awaited_by lease) e.call e.reply
awaits lane at None e c through stops = c
awaits lane at (Some window) e c (inl all) stops = (at, c, inl all)
awaits lane at (Some window) e c (inr less) stops = (at, c, inr (less.0, stops less.1 less.2))

then_goes : (lane at : ℕ) (lease : Option LeaseState) (e : Entry) (rest : List Entry) → IsAwaited lane (awaited_by lease) e.call e.reply → Goes_on (after_feed e.reply) (λ next. Serving lane next rest) (rest ≡ []) → Serving lane (awaited_by lease) (e ∷ rest)
then_goes lane at None e rest h k = (h, k)
then_goes lane at (Some window) e rest h k = (h, k)

one_more : (lane : ℕ) (own : List Entry) (e : Entry) (rest : List Entry) → Serving lane Awaited.First (own ++ e ∷ rest) → Serving lane Awaited.First ((own ++ e ∷ []) ++ rest)
one_more lane own e rest h = subst (Serving lane Awaited.First) (sym (append_assoc own (e ∷ []) rest)) h

-- the state after one entry more
pub state_next : (first : State) (tapes : List (List ℕ)) (earlier now : List Entry) (e : Entry) → now ≡ earlier ++ e ∷ [] → after first tapes now ≡ state_after (after first tapes earlier) tapes e
state_next first tapes earlier now e is = ap (after first tapes) is ∙ after_front first tapes earlier (e ∷ [])

-- what the turn found: the history that the pass had seen, what others did since, and the entry
pub record Adds (was earlier now : List Entry) (by : ℕ) (mine_was mine_now : List Entry) (e : Entry) : Type 0 where
  pub between : List Entry
  pub grown : earlier ≡ was ++ between
  pub last : now ≡ earlier ++ e ∷ []
  pub caller : e.caller ≡ by
  pub gained : mine_now ≡ mine_was ++ e ∷ []

whole : (was earlier now : List Entry) (by : ℕ) (mine_was mine_now : List Entry) (e : Entry) (h : Adds was earlier now by mine_was mine_now e) → now ≡ (was ++ h.between) ++ e ∷ []
whole was earlier now by mine_was mine_now e h = h.last ∙ ap (λ l. l ++ e ∷ []) h.grown

-- what others did since doesn't feed the lane
apart : (made was earlier now : List Entry) (by lane : ℕ) (mine_was mine_now : List Entry) (e : Entry) (h : Adds was earlier now by mine_was mine_now e) → IsAllOf made was by mine_was → IsAllOf made now by mine_now → FedBy by lane now → FeedsNot lane h.between
apart made was earlier now by lane mine_was mine_now e h k l fed =
    let is = whole was earlier now by mine_was mine_now e h in
    feeds_not made was h.between e by lane mine_was mine_now k (subst (λ x. IsAllOf made x by mine_now) is l) h.gained h.caller (subst (FedBy by lane) is fed)

fed_was : (was earlier now : List Entry) (by lane : ℕ) (mine_was mine_now : List Entry) (e : Entry) (h : Adds was earlier now by mine_was mine_now e) → FedBy by lane now → FedBy by lane was
fed_was was earlier now by lane mine_was mine_now e h fed =
    fed_front by lane was h.between (fed_front by lane (was ++ h.between) (e ∷ []) (subst (FedBy by lane) (whole was earlier now by mine_was mine_now e h) fed))

state_was : (first : State) (tapes : List (List ℕ)) (was earlier between : List Entry) → earlier ≡ was ++ between → after (after first tapes was) tapes between ≡ after first tapes earlier
state_was first tapes was earlier between is = sym (ap (after first tapes) is ∙ after_front first tapes was between)

pub turn :
    (K : State → Type 0) (tapes : List (List ℕ)) (by lane : ℕ) (start mine_start : List Entry) (before : List ℕ) (was mine_was : List Entry) (at : ℕ) (lease : Option LeaseState) (heard : List ℕ)
    → Goes K tapes by lane start mine_start before was mine_was at lease heard
    → (made earlier now mine_now : List Entry) (e : Entry) (reply : Reply) → Adds was earlier now by mine_was mine_now e → IsAllOf made was by mine_was → IsAllOf made now by mine_now
    → e.call ≡ calls.Feed lane (back_of at lease) → e.reply ≡ reply → StopsIfHinted lease reply
    → ((first : State) → K first → IsAnswer (after first tapes earlier) tapes e)
    → ((first : State) → K first → IsState (after first tapes earlier))
    → Turned K tapes by lane start mine_start before reply earlier now mine_now heard
turn K tapes by lane start mine_start before was mine_was at lease heard g made earlier now mine_now e reply adds all_was all_now c r stops answers valid =
    let awaited = awaits lane at lease e c g.through (subst (StopsIfHinted lease) (sym r) stops) in
    record {
      own = g.own ++ e ∷ [];
      gained = adds.gained ∙ ap (λ l. l ++ e ∷ []) g.gained ∙ append_assoc mine_start g.own (e ∷ []);
      opens = λ rest k. one_more lane g.own e rest (g.opens (e ∷ rest) (then_goes lane at lease e rest awaited (subst (λ y. Goes_on (after_feed y) (λ next. Serving lane next rest) (rest ≡ [])) (sym r) k)));
      front = g.own;
      final = e;
      ends = refl;
      reply_is = r;
      told = adds.last;
      knows = λ first known fed rest none.
          let was_known = g.knows first known (fed_was was earlier now by lane mine_was mine_now e adds fed) rest none in
          let later = known_lasts (after first tapes was) tapes adds.between lane at lease heard (apart made was earlier now by lane mine_was mine_now e adds all_was all_now fed) was_known in
          let here = subst (λ s. Known s lane at lease heard) (state_was first tapes was earlier adds.between adds.grown) later in
          let tells = feed_tells (after first tapes earlier) tapes e lane at lease heard (valid first known) here (answers first known) c in
          subst (λ t. Told (after first tapes earlier) t lane reply heard) (sym (state_next first tapes earlier now e adds.last))
          (subst (λ y. Told (after first tapes earlier) (state_after (after first tapes earlier) tapes e) lane y heard) r tells);
    }

-- ---- a window was copied

most_of : (at : ℕ) (window : LeaseState) → IsThrough at (Some window) → at ≤ window.len
most_of at window (inl all) = omega (arith, all)
most_of at window (inr less) = omega (arith, less.0)

took_in :
    (t : State) (lane from n : ℕ) (job : Job) (samples : List ℕ) (window : LeaseState) (at : ℕ) (heard after_it : List ℕ) → Hears t lane job.number job.passage from n → heard ≡ take from (bytes_of job.passage)
    → samples ≡ map (λ y. y.byte) (slice job.passage from n) → window.len ≡ n → IsThrough at (Some window) → after_it ≡ heard ++ take at samples → IsHeard t lane window.len at after_it
took_in t lane from n job samples window at heard after_it hears bytes f len through copied = record {
  number = job.number;
  passage = job.passage;
  from = from;
  hears = subst (λ k. Hears t lane job.number job.passage from k) (sym len) hears;
  bytes = copied ∙ taken_in job.passage heard (take at samples) from n at bytes (ap (take at) f) (let most = most_of at window through in omega (arith, most, len));
}

pub window_heard :
    (K : State → Type 0) (tapes : List (List ℕ)) (by lane : ℕ) (start mine_start : List Entry) (before : List ℕ) (from n : ℕ) (earlier now mine_now : List Entry) (heard : List ℕ)
    → Turned K tapes by lane start mine_start before (replies.Window from n) earlier now mine_now heard
    → (fresh old : PlayerState) (after_it : List ℕ) (h : HasCopied fresh old heard after_it) → h.window.len ≡ n → h.window.taken ≡ false
    → ((first : State) → K first → (job : Job) → first_of_lane (after first tapes earlier) lane ≡ Some job → h.window.samples ≡ map (λ y. y.byte) (slice job.passage from n))
    → Goes K tapes by lane start mine_start before now mine_now old.at old.lease after_it
window_heard K tapes by lane start mine_start before from n earlier now mine_now heard g fresh old after_it h len free samples =
    let through = h.through free in
    let still = h.len ∙ len in
    record {
      own = g.own;
      gained = g.gained;
      opens = λ rest k. g.opens rest (subst (λ a. Serving lane a rest) (ap awaited_by h.has ∙ ap Awaited.Back still) k);
      through = through;
      knows = λ first known fed rest none.
          let told = g.knows first known fed rest none in
          subst (λ o. Known (after first tapes now) lane old.at o after_it) (sym h.has)
          (took_in (after first tapes now) lane from n told.0 h.window.samples h.window_after old.at heard after_it told.2 told.3 (samples first known told.0 told.1) still (subst (IsThrough old.at) h.has through) h.copied);
    }

-- ---- a fault, and the stop behind it

stops_not : (lane : ℕ) (call : Call) → call ≡ calls.Stop lane → ¬ Feeds lane call
stops_not lane call e h = subst (Feeds lane) e h

halts : (lane : ℕ) (e : Entry) (rest : List Entry) → e.call ≡ calls.Stop lane → Serving lane Awaited.First rest → Serving lane Awaited.Halt (e ∷ rest)
halts lane e rest c h = (c, h)

pub fault_stopped :
    (K : State → Type 0) (tapes : List (List ℕ)) (by lane : ℕ) (start mine_start : List Entry) (before : List ℕ) (sooner was mine_was : List Entry) (heard : List ℕ)
    → Turned K tapes by lane start mine_start before (replies.No why.DiskFault) sooner was mine_was heard
    → (made earlier now mine_now : List Entry) (e : Entry) → Adds was earlier now by mine_was mine_now e → IsAllOf made was by mine_was → IsAllOf made now by mine_now → e.call ≡ calls.Stop lane
    → (at : ℕ) (lease : Option LeaseState) → lease ≡ None → Goes K tapes by lane start mine_start before now mine_now at lease heard
fault_stopped K tapes by lane start mine_start before sooner was mine_was heard g made earlier now mine_now e adds all_was all_now c at (Some window) none = cc
fault_stopped K tapes by lane start mine_start before sooner was mine_was heard g made earlier now mine_now e adds all_was all_now c at None none =
    record {
      own = g.own ++ e ∷ [];
      gained = adds.gained ∙ ap (λ l. l ++ e ∷ []) g.gained ∙ append_assoc mine_start g.own (e ∷ []);
      opens = λ rest k. one_more lane g.own e rest (g.opens (e ∷ rest) (halts lane e rest c k));
      through = tt;
      knows = λ first known fed rest none.
          let told = g.knows first known (fed_was was earlier now by lane mine_was mine_now e adds fed) rest none in
          let others = feeds_not_more lane adds.between e (apart made was earlier now by lane mine_was mine_now e adds all_was all_now fed) (stops_not lane e.call c) in
          let later = fault_lasts (after first tapes was) tapes (adds.between ++ e ∷ []) lane heard others told in
          let is : now ≡ was ++ (adds.between ++ e ∷ []) = whole was earlier now by mine_was mine_now e adds ∙ append_assoc was adds.between (e ∷ []) in
          inr (subst (λ s. IsHeard s lane 0 0 heard) (state_was first tapes was now (adds.between ++ e ∷ []) is) later);
    }

-- ---- what could follow

-- a call that could be made, with some reply
abbrev an_entry : Call → Entry
an_entry call = record { caller = 1; call = call; reply = replies.Done; ack = 0 }

pub some_more : (lane : ℕ) (awaited : Awaited) → (more : List Entry) × Serving lane awaited more
some_more lane Awaited.First = (an_entry (calls.Feed lane None) ∷ [], (refl, refl))
some_more lane (Awaited.Back n) = (an_entry (calls.Feed lane (Some n)) ∷ [], ((n, refl, inl refl), refl))
some_more lane Awaited.Halt = (an_entry (calls.Stop lane) ∷ an_entry (calls.Feed lane None) ∷ [], (refl, (refl, refl)))

pub some_next : (lane : ℕ) (o : Option Awaited) → (more : List Entry) × Goes_on o (λ next. Serving lane next more) (more ≡ [])
some_next lane None = ([], refl)
some_next lane (Some awaited) = some_more lane awaited

-- ---- the end

-- the reply is the last one of a serving
abbrev pub IsLast : Reply → Type 0
IsLast reply = after_feed reply ≡ None

-- what is left of a serving
abbrev Left : ℕ → List Entry → Option Awaited → Type 0
Left lane rest o = Goes_on o (λ next. Serving lane next rest) (rest ≡ [])

pub last_serves : (lane : ℕ) (own : List Entry) (reply : Reply) → ((rest : List Entry) → Goes_on (after_feed reply) (λ next. Serving lane next rest) (rest ≡ []) → Serving lane Awaited.First (own ++ rest)) → IsLast reply → Serving lane Awaited.First own
last_serves lane own reply opens last =
    let none : Left lane [] None = refl in
    subst (Serving lane Awaited.First) (append-nil own) (opens [] (subst (Left lane []) (sym last) none))

refused_heard : (t : State) (lane : ℕ) (reason : Why) (heard : List ℕ) → after_feed (replies.No reason) ≡ None → ToldNo t lane reason heard → (heard ≡ []) × IsAtRest t lane
refused_heard t lane why.DiskFault heard last h = cc
refused_heard t lane _ heard last h = h

pub last_heard :
    (s t : State) (lane : ℕ) (reply : Reply) (heard : List ℕ) → IsLast reply → Told s t lane reply heard
    → IsWhatWasHeard (heard_bytes reply (passage_bytes (first_of_lane s lane))) heard × IsAtRest t lane
last_heard s t lane (replies.Window at n) heard last h = cc
last_heard s t lane (replies.Ended job n) heard last h = (h.0, h.1)
last_heard s t lane (replies.Stopped job n) heard last h = (h.0, h.1)
last_heard s t lane (replies.No reason) heard last h = refused_heard t lane reason heard last h
last_heard s t lane _ heard last h = absurd h
