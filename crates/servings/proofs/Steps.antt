-- The turns of a server that serve a lane's first job.
use Rattle.std.proofs.Common.{◌≡◌, ℕ, Bool, true, false, List, [], ◌∷◌, ◌++◌, map, Option, Some, None, refl, sym, ap, ◌∙◌, subst}
use Rattle.std.proofs.lemmas.Bool.{false≢true}
use Rattle.std.specs.Prelude.{IsTrue, Result, Ok, Err, OnErr}
use Rattle.voice_units.specs.Spots.{slice}
use Rattle.voice_outside.specs.Disk.{Told as Disk}
use Rattle.frame_pool.specs.Pool.{LeaseState}
use Rattle.players.specs.Players.{PlayerState, samples_in}
use Rattle.voice_model.specs.Image.{opened_from}
use Rattle.voice_model.specs.State.{State, Job, lane_at}
use Rattle.voice_model.specs.Step.{Legal, IsAnswer, after}
use Rattle.voice_model.specs.Heard.{LegalOn}
use Rattle.voice_model.specs.Follows.{IsStopped}
use Rattle.voice_model.specs.declared.calls.Call.{Call}
use Rattle.voice_model.specs.declared.calls.Call.TheVariants as calls
use Rattle.voice_model.specs.declared.calls.Reply.{Reply}
use Rattle.voice_model.specs.declared.calls.Reply.TheVariants as replies
use Rattle.voice_model.specs.declared.calls.Why.{Why}
use Rattle.voice_model.specs.declared.calls.Why.TheVariants as why
use Rattle.voice_model.specs.declared.calls.Entry.{Entry}
use Rattle.turnstile.specs.declared.parts.Pass.{Pass}
use Rattle.turnstile.specs.Passes.{seen, mine, IsAllOf}
use Rattle.voice_store.specs.Feeding.{passage_at, first_passage}
use Rattle.voice_server.specs.declared.born.Born.{Born}
use Rattle.voice_server.specs.declared.standing.Standing.{Standing}
use Rattle.voice_server.specs.declared.hall.Hall.{Hall}
use Rattle.voice_server.specs.Served.{AddsEntry, AddsFeed, IsLegalFrom, HasWindow, IsNewWindow, IsHinted, TellsStop, feed_of, heard_of, store_of, tapes_of}
use Rattle.serving_laws.specs.Lanes.{first_of_lane}
use Rattle.serving_laws.proofs.Others.{jobs_behind}
use Rattle.servings.specs.Copied.{IsToHear}
use Rattle.servings.specs.Turns.{WentOn, WentOnRefused, HasHalted, Stays, TookIn}
use Rattle.servings.proofs.Between.{legal_last}
use Rattle.servings.proofs.Known.{back_of}
use Rattle.servings.proofs.Turned.{Goes, Turned, Adds, StopsIfHinted, IsLast, turn, window_heard, fault_stopped}

-- ---- what a turn found

adds_of : {D : Type 0} (call : Call) (reply : Reply) (p q : Pass (Standing D) (Born D)) (by : ℕ) → p.caller ≡ by → (h : AddsEntry call reply p q) → Adds (seen p) h.before (seen q) by (mine p) (mine q) h.entry
adds_of call reply p q by is h = record {
  between = h.grown.0;
  grown = h.grown.1;
  last = h.last;
  caller = h.caller ∙ is;
  gained = h.gained;
}

pub legal_on : (b : Bool) (s : State) (tapes : List (List ℕ)) (es : List Entry) → IsTrue b → LegalOn b s tapes es → Legal s tapes es
legal_on true s tapes es honest h = h
legal_on false s tapes es honest h = absurd (false≢true honest)

-- the state that there is
abbrev state_in : State → Option State → State
state_in default None = default
state_in default (Some s) = s

same_state : (s t : State) → Some s ≡ Some t → s ≡ t
same_state s t e = ap (state_in s) e

-- the state is what an honest disk was opened as
abbrev pub opened_as : Disk → State → Type 0
opened_as disk first = IsTrue disk.honest × (opened_from disk.bytes ≡ Some first)

-- an entry that was legal from what the disk was opened as answers
answers :
    {D : Type 0} (told : D → Disk) (s : Hall (Standing D) (Born D)) (history before : List Entry) (e : Entry) → IsLegalFrom told s history → history ≡ before ++ e ∷ []
    → IsTrue (told (store_of s).origin).honest → (first : State) → opened_from (told (store_of s).origin).bytes ≡ Some first → IsAnswer (after first (tapes_of s) before) (tapes_of s) e
answers told s history before e legal is honest first opened =
    let same : legal.0 ≡ first = same_state legal.0 first (sym (legal.1.opened honest) ∙ opened) in
    let whole = legal_on (told (store_of s).origin).honest legal.0 (tapes_of s) history honest legal.2 in
    legal_last first (tapes_of s) before e (subst (λ f. Legal f (tapes_of s) (before ++ e ∷ [])) same (subst (Legal legal.0 (tapes_of s)) is whole))

tells_stop : (reply : Reply) → TellsStop reply → IsStopped reply
tells_stop (replies.Stopped job n) h = tt
tells_stop _ h = absurd h

pub stops_if : (lease : Option LeaseState) (reply : Reply) → (IsHinted lease → TellsStop reply) → StopsIfHinted lease reply
stops_if None reply h = tt
stops_if (Some window) reply h = λ taken hinted. tells_stop reply (h (taken, hinted))

heard_back : (at : ℕ) (lease : Option LeaseState) → heard_of at lease ≡ back_of at lease
heard_back at None = refl
heard_back at (Some window) = refl

pub feeds : (player : PlayerState) (lane : ℕ) → player.lane ≡ lane → feed_of player ≡ calls.Feed lane (back_of player.at player.lease)
feeds player lane is = ap (λ l. calls.Feed l (heard_of player.at player.lease)) is ∙ ap (calls.Feed lane) (heard_back player.at player.lease)

pub fed :
    {D : Type 0} (told : D → Disk) (s : Hall (Standing D) (Born D)) (start p q : Pass (Standing D) (Born D)) (lane : ℕ) (player new : PlayerState) (before heard : List ℕ) (made : List Entry) (reply : Reply)
    → p.caller ≡ start.caller → q.caller ≡ p.caller → player.lane ≡ lane
    → Goes (opened_as (told (store_of s).origin)) (tapes_of s) start.caller lane (seen start) (mine start) before (seen p) (mine p) player.at player.lease heard
    → IsAllOf made (seen p) p.caller (mine p) → IsAllOf made (seen q) q.caller (mine q) → IsLegalFrom told s (seen q) → (h : AddsFeed told s player reply p q new)
    → Turned (opened_as (told (store_of s).origin)) (tapes_of s) start.caller lane (seen start) (mine start) before reply h.adds.before (seen q) (mine q) heard
fed told s start p q lane player new before heard made reply by same is g all_p all_q legal h =
    turn (opened_as (told (store_of s).origin)) (tapes_of s) start.caller lane (seen start) (mine start) before (seen p) (mine p) player.at player.lease heard g
    made h.adds.before (seen q) (mine q) h.adds.entry reply (adds_of (feed_of player) reply p q start.caller by h.adds)
    (subst (λ c. IsAllOf made (seen p) c (mine p)) by all_p) (subst (λ c. IsAllOf made (seen q) c (mine q)) (same ∙ by) all_q)
    (h.adds.call_is ∙ feeds player lane is) h.adds.reply_is (stops_if player.lease reply h.hinted)
    (λ first k. answers told s (seen q) h.adds.before h.adds.entry legal h.adds.last k.0 first k.1) (λ first k. h.valid k.0 first k.1)

-- ---- what follows

pub passage_is : (s : State) (lane : ℕ) (job : Job) → first_of_lane s lane ≡ Some job → passage_at s lane ≡ job.passage
passage_is s lane job e = ap first_passage (jobs_behind (lane_at s lane).jobs job e).1

pub new_window : (n : ℕ) (lease : Option LeaseState) (window : LeaseState) → lease ≡ Some window → IsNewWindow n lease → IsNewWindow n (Some window)
new_window n lease window e h = subst (IsNewWindow n) e h

after_window :
    {D : Type 0} (told : D → Disk) (s : Hall (Standing D) (Born D)) (start p q r : Pass (Standing D) (Born D)) (lane : ℕ) (player new later : PlayerState) (before heard after_it : List ℕ) (from n : ℕ)
    → new.lane ≡ lane → (h : AddsFeed told s player (replies.Window from n) p q new)
    → Turned (opened_as (told (store_of s).origin)) (tapes_of s) start.caller lane (seen start) (mine start) before (replies.Window from n) h.adds.before (seen q) (mine q) heard
    → TookIn q r new later heard after_it
    → Goes (opened_as (told (store_of s).origin)) (tapes_of s) start.caller lane (seen start) (mine start) before (seen r) (mine r) later.at later.lease after_it
after_window {D} told s start p q r lane player new later before heard after_it from n is h g took =
    let K = opened_as (told (store_of s).origin) in
    let tapes = tapes_of s in
    let fresh = new_window n new.lease took.copied.window took.copied.had h.window.1 in
    subst (λ (x : Pass (Standing D) (Born D)). Goes K tapes start.caller lane (seen start) (mine start) before (seen x) (mine x) later.at later.lease after_it) (sym took.same_pass)
    (window_heard K tapes start.caller lane (seen start) (mine start) before from n h.adds.before (seen q) (mine q) heard g new later after_it took.copied fresh.0 fresh.2
    (λ first k job there.
    sym (ap samples_in took.copied.had) ∙ h.samples k.0 first k.1
    ∙ ap (λ l. map (λ y. y.byte) (slice (passage_at (after first tapes h.adds.before) l) from n)) is
    ∙ ap (λ passage. map (λ y. y.byte) (slice passage from n)) (passage_is (after first tapes h.adds.before) lane job there)))

after_fault :
    {D : Type 0} (K : State → Type 0) (tapes : List (List ℕ)) (start q r : Pass (Standing D) (Born D)) (lane : ℕ) (new later : PlayerState) (before heard after_it : List ℕ) (made earlier : List Entry)
    → q.caller ≡ start.caller → r.caller ≡ q.caller → new.lane ≡ lane → new.lease ≡ None
    → Turned K tapes start.caller lane (seen start) (mine start) before (replies.No why.DiskFault) earlier (seen q) (mine q) heard
    → IsAllOf made (seen q) q.caller (mine q) → IsAllOf made (seen r) r.caller (mine r) → HasHalted q r new later heard after_it
    → Goes K tapes start.caller lane (seen start) (mine start) before (seen r) (mine r) later.at later.lease after_it
after_fault K tapes start q r lane new later before heard after_it made earlier by same is none g all_q all_r h =
    subst (Goes K tapes start.caller lane (seen start) (mine start) before (seen r) (mine r) later.at later.lease) (sym h.same_heard)
    (fault_stopped K tapes start.caller lane (seen start) (mine start) before earlier (seen q) (mine q) heard g
    made h.adds.before (seen r) (mine r) h.adds.entry (adds_of (calls.Stop new.lane) h.reply q r start.caller by h.adds)
    (subst (λ c. IsAllOf made (seen q) c (mine q)) by all_q) (subst (λ c. IsAllOf made (seen r) c (mine r)) (same ∙ by) all_r)
    (h.adds.call_is ∙ ap calls.Stop is) later.at later.lease (ap (λ (p : PlayerState). p.lease) h.same_player ∙ none))

-- another feed follows
pub went_on :
    {D : Type 0} (told : D → Disk) (s : Hall (Standing D) (Born D)) (start p q r : Pass (Standing D) (Born D)) (lane : ℕ) (player new later : PlayerState) (before heard after_it : List ℕ) (made : List Entry) (reply : Reply) (on : Bool)
    → q.caller ≡ start.caller → r.caller ≡ q.caller → new.lane ≡ lane → (h : AddsFeed told s player reply p q new)
    → Turned (opened_as (told (store_of s).origin)) (tapes_of s) start.caller lane (seen start) (mine start) before reply h.adds.before (seen q) (mine q) heard
    → IsAllOf made (seen q) q.caller (mine q) → IsAllOf made (seen r) r.caller (mine r) → on ≡ true → WentOn reply on q r new later heard after_it
    → Goes (opened_as (told (store_of s).origin)) (tapes_of s) start.caller lane (seen start) (mine start) before (seen r) (mine r) later.at later.lease after_it
went_on told s start p q r lane player new later before heard after_it made (replies.Window from n) on by same is h g all_q all_r e w =
    after_window told s start p q r lane player new later before heard after_it from n is h g w.1
went_on told s start p q r lane player new later before heard after_it made (replies.No why.DiskFault) on by same is h g all_q all_r e w =
    after_fault (opened_as (told (store_of s).origin)) (tapes_of s) start q r lane new later before heard after_it made h.adds.before by same is h.window g all_q all_r w.1
went_on told s start p q r lane player new later before heard after_it made _ on by same is h g all_q all_r e w = absurd (false≢true (sym w.0 ∙ e))

-- ---- no other feed follows

abbrev pub IsOver : {D : Type 0} → Reply → Pass (Standing D) (Born D) → Pass (Standing D) (Born D) → PlayerState → PlayerState → List ℕ → List ℕ → Type 0
IsOver reply q r new later heard after_it = IsLast reply × Stays q r new later heard after_it

over_refused : {D : Type 0} (reason : Why) (on : Bool) (q r : Pass (Standing D) (Born D)) (new later : PlayerState) (heard after_it : List ℕ) → on ≡ false → WentOnRefused reason on q r new later heard after_it → IsOver (replies.No reason) q r new later heard after_it
over_refused why.DiskFault on q r new later heard after_it e w = absurd (false≢true (sym e ∙ w.0))
over_refused _ on q r new later heard after_it e w = (refl, w.1)

pub over : {D : Type 0} (reply : Reply) (on : Bool) (q r : Pass (Standing D) (Born D)) (new later : PlayerState) (heard after_it : List ℕ) → on ≡ false → WentOn reply on q r new later heard after_it → IsOver reply q r new later heard after_it
over (replies.Window at n) on q r new later heard after_it e w = absurd (false≢true (sym e ∙ w.0))
over (replies.No reason) on q r new later heard after_it e w = over_refused reason on q r new later heard after_it e w
over _ on q r new later heard after_it e w = (refl, w.1)

-- the player has no window then
pub none_left : (reply : Reply) (new : PlayerState) → IsLast reply → HasWindow reply new → new.lease ≡ None
none_left (replies.Window at n) new last h = cc
none_left _ new last h = h

-- ---- what a reply asked for

pub stays_put : {D : Type 0} (reply : Reply) (q : Pass (Standing D) (Born D)) (new : PlayerState) (heard : List ℕ) → ((at n : ℕ) → reply ≡ replies.Window at n → ⊥) → (reply ≡ replies.No why.DiskFault → ⊥) → WentOn reply false q q new new heard heard
stays_put (replies.Window at n) q new heard no_window no_fault = absurd (no_window at n refl)
stays_put (replies.No why.DiskFault) q new heard no_window no_fault = absurd (no_fault refl)
stays_put _ q new heard no_window no_fault = (refl, record { same_pass = refl; same_player = refl; same_heard = refl })

-- a window that was just handed out is to be heard
pub to_hear : (at n : ℕ) (player : PlayerState) (lease : Option LeaseState) → player.lease ≡ lease → player.at ≡ 0 → IsNewWindow n lease → IsToHear player
to_hear at n player None e none h = absurd h
to_hear at n player (Some window) e none h = record { window = window; out = e; live = h.1; none_yet = none }

-- what holds where memory was wanting
pub in_error : {T E : Type 0} (r : Result T E) (P : Type 0) → P → OnErr r P
in_error (Ok x) P h = tt
in_error (Err e) P h = h
