-- The turns of a store that serve a lane's first job for one caller.
use Rattle.std.proofs.Common.{◌≡◌, ℕ, ◌<◌, Bool, true, false, List, [], ◌∷◌, ◌++◌, map, Some, None, refl, sym, ap, ◌∙◌, subst, arith}
use Rattle.std.proofs.lemmas.Bool.{false≢true}
use Rattle.std.specs.Prelude.{IsTrue}
use Rattle.voice_units.specs.Spots.{slice}
use Rattle.voice_outside.specs.Disk.{Told as Disk}
use Rattle.frame_pool.specs.Pool.{Identity}
use Rattle.players.specs.Players.{PlayerState, IsOfPool, new_player, samples_in}
use Rattle.voice_model.specs.Image.{opened_from}
use Rattle.voice_model.specs.State.{State}
use Rattle.voice_model.specs.Step.{Legal, IsAnswer, after}
use Rattle.voice_model.specs.Valid.{IsState}
use Rattle.voice_model.specs.declared.calls.Call.TheVariants as calls
use Rattle.voice_model.specs.declared.calls.Reply.{Reply}
use Rattle.voice_model.specs.declared.calls.Reply.TheVariants as replies
use Rattle.voice_model.specs.declared.calls.Why.{Why}
use Rattle.voice_model.specs.declared.calls.Why.TheVariants as why
use Rattle.voice_model.specs.declared.calls.Entry.{Entry}
use Rattle.voice_store.specs.Facts.{GoesOn, entry_of}
use Rattle.voice_store.specs.Feeding.{passage_at}
use Rattle.voice_store.specs.Shown.{Shown, Keeps, history_of, tapes_in, state_of}
use Rattle.voice_store.proofs.Histories.{keeps_legal}
use Rattle.voice_server.specs.Served.{HasWindow, HearsPassage, IsHinted, TellsStop, feed_of}
use Rattle.servings.specs.AloneTurns.{WentOnAlone, WentOnRefusedAlone, HasHaltedAlone, StaysAlone, TookInAlone}
use Rattle.servings.proofs.Between.{legal_last}
use Rattle.servings.proofs.Turned.{IsLast, window_heard}
use Rattle.servings.proofs.ByOne.{GoesAlone, TurnedAlone, fed_alone, stopped_alone}
use Rattle.servings.proofs.Steps.{legal_on, stops_if, feeds, new_window, passage_is}

-- ---- what lasts

-- what a store keeps of the one at the start
pub record Lasts {D : Type 0} (told : D → Disk) (start now : Shown D) : Type 0 where
  pub stands : (first : State) → Keeps told first start → Keeps told first now
  pub goes : GoesOn (told start.disk) (told now.disk)
  pub origin : now.origin ≡ start.origin
  pub tapes : tapes_in now ≡ tapes_in start

pub goes_still : (a : Disk) → GoesOn a a
goes_still a = record { size = refl; honest = refl; later = omega arith; faults = omega arith }

goes_further : (a b c : Disk) → GoesOn a b → GoesOn b c → GoesOn a c
goes_further a b c p q = record {
  size = q.size ∙ p.size;
  honest = q.honest ∙ p.honest;
  later = (let x = p.later in let y = q.later in omega arith);
  faults = (let x = p.faults in let y = q.faults in omega arith);
}

pub lasts_still : {D : Type 0} (told : D → Disk) (s : Shown D) → Lasts told s s
lasts_still told s = record { stands = λ first k. k; goes = goes_still (told s.disk); origin = refl; tapes = refl }

pub lasts_on :
    {D : Type 0} (told : D → Disk) (start was now : Shown D) → Lasts told start was → ((first : State) → Keeps told first was → Keeps told first now) → GoesOn (told was.disk) (told now.disk)
    → now.origin ≡ was.origin → tapes_in now ≡ tapes_in was → Lasts told start now
lasts_on told start was now l stands goes origin tapes = record {
  stands = λ first k. stands first (l.stands first k);
  goes = goes_further (told start.disk) (told was.disk) (told now.disk) l.goes goes;
  origin = origin ∙ l.origin;
  tapes = tapes ∙ l.tapes;
}

-- ---- a feed

-- the state is what an honest disk was opened as, and the store's history began from it
abbrev pub kept_as : {D : Type 0} → (D → Disk) → Shown D → State → Type 0
kept_as told s first = IsTrue (told s.origin).honest × (opened_from (told s.origin).bytes ≡ Some first) × Keeps told first s

answers_alone :
    {D : Type 0} (told : D → Disk) (start now : Shown D) (history : List Entry) (e : Entry) → Lasts told start now → history_of now ≡ history ++ e ∷ []
    → (first : State) → kept_as told start first → IsAnswer (after first (tapes_in start) history) (tapes_in start) e
answers_alone told start now history e l is first k =
    let honest : IsTrue (told now.origin).honest = subst (λ d. IsTrue (told d).honest) (sym l.origin) k.0 in
    let legal = legal_on (told now.origin).honest first (tapes_in now) (history_of now) honest (keeps_legal told first now (l.stands first k.2)) in
    legal_last first (tapes_in start) history e (subst (λ t. Legal first t (history ++ e ∷ [])) l.tapes (subst (Legal first (tapes_in now)) is legal))

valid_alone : {D : Type 0} (told : D → Disk) (start was : Shown D) → Lasts told start was → (first : State) → kept_as told start first → IsState (after first (tapes_in start) (history_of was))
valid_alone told start was l first k = subst (λ t. IsState (after first t (history_of was))) l.tapes (l.stands first k.2).stood.upright.valid

pub samples_alone :
    {D : Type 0} (told : D → Disk) (start was : Shown D) (reply : Reply) (player : PlayerState) → Lasts told start was
    → (IsTrue (told was.disk).honest → (first : State) → Keeps told first was → HearsPassage (state_of first was) reply player)
    → (first : State) → kept_as told start first → HearsPassage (after first (tapes_in start) (history_of was)) reply player
samples_alone told start was reply player l samples first k =
    let keeps = l.stands first k.2 in
    let opened : IsTrue (told was.origin).honest = subst (λ d. IsTrue (told d).honest) (sym l.origin) k.0 in
    let honest : IsTrue (told was.disk).honest = subst (λ (b : Bool). IsTrue b) (sym keeps.honest) opened in
    subst (λ t. HearsPassage (after first t (history_of was)) reply player) l.tapes (samples honest first keeps)

pub fed_one :
    {D : Type 0} (told : D → Disk) (start was now : Shown D) (by lane ack : ℕ) (player : PlayerState) (before heard : List ℕ) (reply : Reply) → Lasts told start was → Lasts told start now
    → GoesAlone (kept_as told start) (tapes_in start) by lane (history_of start) before (history_of was) player.at player.lease heard → player.lane ≡ lane
    → history_of now ≡ history_of was ++ entry_of by (feed_of player) reply ack ∷ [] → (IsHinted player.lease → TellsStop reply)
    → TurnedAlone (kept_as told start) (tapes_in start) by lane (history_of start) before reply (history_of was) (history_of now) heard
fed_one told start was now by lane ack player before heard reply l m g same is hinted =
    fed_alone (kept_as told start) (tapes_in start) by lane (history_of start) before (history_of was) player.at player.lease heard (history_of now) (feed_of player) reply ack
    g is (feeds player lane same) (stops_if player.lease reply hinted)
    (answers_alone told start now (history_of was) (entry_of by (feed_of player) reply ack) m is) (valid_alone told start was l)

-- ---- what follows

window_goes :
    (K : State → Type 0) (tapes : List (List ℕ)) (by lane : ℕ) (start : List Entry) (before : List ℕ) (earlier was now : List Entry) (fresh later : PlayerState) (heard after_it : List ℕ) (from n : ℕ)
    → fresh.lane ≡ lane → HasWindow (replies.Window from n) fresh → ((first : State) → K first → HearsPassage (after first tapes earlier) (replies.Window from n) fresh)
    → TurnedAlone K tapes by lane start before (replies.Window from n) earlier was heard → TookInAlone was now fresh later heard after_it
    → GoesAlone K tapes by lane start before was later.at later.lease after_it
window_goes K tapes by lane start before earlier was now fresh later heard after_it from n same window samples g took =
    let new = new_window n fresh.lease took.copied.window took.copied.had window.1 in
    record {
      mine = g.mine;
      gains = g.gains;
      goes =
          window_heard K tapes by lane start [] before from n earlier was g.mine heard g.turned fresh later after_it took.copied new.0 new.2
          (λ first k job there.
          sym (ap samples_in took.copied.had) ∙ samples first k
          ∙ ap (λ l. map (λ y. y.byte) (slice (passage_at (after first tapes earlier) l) from n)) same
          ∙ ap (λ passage. map (λ y. y.byte) (slice passage from n)) (passage_is (after first tapes earlier) lane job there));
    }

after_window_alone :
    (K : State → Type 0) (tapes : List (List ℕ)) (by lane : ℕ) (start : List Entry) (before : List ℕ) (earlier was now : List Entry) (fresh later : PlayerState) (heard after_it : List ℕ) (from n : ℕ)
    → fresh.lane ≡ lane → HasWindow (replies.Window from n) fresh → ((first : State) → K first → HearsPassage (after first tapes earlier) (replies.Window from n) fresh)
    → TurnedAlone K tapes by lane start before (replies.Window from n) earlier was heard → TookInAlone was now fresh later heard after_it
    → GoesAlone K tapes by lane start before now later.at later.lease after_it
after_window_alone K tapes by lane start before earlier was now fresh later heard after_it from n same window samples g took =
    subst (λ x. GoesAlone K tapes by lane start before x later.at later.lease after_it) (sym took.same_history)
    (window_goes K tapes by lane start before earlier was now fresh later heard after_it from n same window samples g took)

after_fault_alone :
    (K : State → Type 0) (tapes : List (List ℕ)) (by lane : ℕ) (start : List Entry) (before : List ℕ) (earlier was now : List Entry) (fresh later : PlayerState) (heard after_it : List ℕ) → 0 < by
    → fresh.lane ≡ lane → fresh.lease ≡ None → TurnedAlone K tapes by lane start before (replies.No why.DiskFault) earlier was heard → HasHaltedAlone by was now fresh later heard after_it
    → GoesAlone K tapes by lane start before now later.at later.lease after_it
after_fault_alone K tapes by lane start before earlier was now fresh later heard after_it pos same none g h =
    subst (GoesAlone K tapes by lane start before now later.at later.lease) (sym h.same_heard)
    (stopped_alone K tapes by lane start before earlier was now heard (calls.Stop fresh.lane) h.reply h.ack later.at later.lease pos g h.adds (ap calls.Stop same) (ap (λ (p : PlayerState). p.lease) h.same_player ∙ none))

-- another feed follows
pub went_on_alone :
    (K : State → Type 0) (tapes : List (List ℕ)) (by lane : ℕ) (start : List Entry) (before : List ℕ) (earlier was now : List Entry) (fresh later : PlayerState) (heard after_it : List ℕ) (reply : Reply) (on : Bool) → 0 < by
    → fresh.lane ≡ lane → HasWindow reply fresh → ((first : State) → K first → HearsPassage (after first tapes earlier) reply fresh)
    → TurnedAlone K tapes by lane start before reply earlier was heard → on ≡ true → WentOnAlone reply on by was now fresh later heard after_it
    → GoesAlone K tapes by lane start before now later.at later.lease after_it
went_on_alone K tapes by lane start before earlier was now fresh later heard after_it (replies.Window from n) on pos same window samples g e w =
    after_window_alone K tapes by lane start before earlier was now fresh later heard after_it from n same window samples g w.1
went_on_alone K tapes by lane start before earlier was now fresh later heard after_it (replies.No why.DiskFault) on pos same window samples g e w =
    after_fault_alone K tapes by lane start before earlier was now fresh later heard after_it pos same window g w.1
went_on_alone K tapes by lane start before earlier was now fresh later heard after_it _ on pos same window samples g e w = absurd (false≢true (sym w.0 ∙ e))

-- ---- no other feed follows

abbrev pub IsOverAlone : Reply → List Entry → List Entry → PlayerState → PlayerState → List ℕ → List ℕ → Type 0
IsOverAlone reply was now old new before after = IsLast reply × StaysAlone was now old new before after

over_refused_alone : (reason : Why) (on : Bool) (by : ℕ) (was now : List Entry) (old new : PlayerState) (before after : List ℕ) → on ≡ false → WentOnRefusedAlone reason on by was now old new before after → IsOverAlone (replies.No reason) was now old new before after
over_refused_alone why.DiskFault on by was now old new before after e w = absurd (false≢true (sym e ∙ w.0))
over_refused_alone _ on by was now old new before after e w = (refl, w.1)

pub over_alone : (reply : Reply) (on : Bool) (by : ℕ) (was now : List Entry) (old new : PlayerState) (before after : List ℕ) → on ≡ false → WentOnAlone reply on by was now old new before after → IsOverAlone reply was now old new before after
over_alone (replies.Window at n) on by was now old new before after e w = absurd (false≢true (sym e ∙ w.0))
over_alone (replies.No reason) on by was now old new before after e w = over_refused_alone reason on by was now old new before after e w
over_alone _ on by was now old new before after e w = (refl, w.1)

pub stays_alone : (reply : Reply) (by : ℕ) (history : List Entry) (player : PlayerState) (heard : List ℕ) → ((at n : ℕ) → reply ≡ replies.Window at n → ⊥) → (reply ≡ replies.No why.DiskFault → ⊥) → WentOnAlone reply false by history history player player heard heard
stays_alone (replies.Window at n) by history player heard no_window no_fault = absurd (no_window at n refl)
stays_alone (replies.No why.DiskFault) by history player heard no_window no_fault = absurd (no_fault refl)
stays_alone _ by history player heard no_window no_fault = (refl, record { same_history = refl; same_player = refl; same_heard = refl })

-- ---- the pool of the player's window

pub same_pool : (old new : Identity) (player : PlayerState) → new ≡ old → IsOfPool old player.lease → IsOfPool new player.lease
same_pool old new player same of = subst (λ (pool : Identity). IsOfPool pool player.lease) (sym same) of

pub no_pool : (pool : Identity) (player : PlayerState) (lane : ℕ) → player ≡ new_player lane → IsOfPool pool player.lease
no_pool pool player lane is = let none : player.lease ≡ None = ap (λ (p : PlayerState). p.lease) is in subst (IsOfPool pool) (sym none) tt
