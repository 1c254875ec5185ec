-- The turns of one caller that serve a lane's first job, with no turns of others between.
use Rattle.std.proofs.Common.{◌≡◌, ℕ, ◌<◌, inl, inr, false, List, [], ◌∷◌, ◌++◌, Option, None, refl, sym, ap, ◌∙◌, subst, append_assoc, append-nil}
use Rattle.frame_pool.specs.Pool.{LeaseState}
use Rattle.voice_model.specs.State.{State}
use Rattle.voice_model.specs.Step.{IsAnswer, after}
use Rattle.voice_model.specs.Follows.{after_feed}
use Rattle.voice_model.specs.Valid.{IsState}
use Rattle.voice_model.specs.declared.calls.Call.{Call}
use Rattle.voice_model.specs.declared.calls.Call.TheVariants as calls
use Rattle.voice_model.specs.declared.calls.Reply.{Reply}
use Rattle.voice_model.specs.declared.calls.Reply.TheVariants as replies
use Rattle.voice_model.specs.declared.calls.Why.TheVariants as why
use Rattle.voice_model.specs.declared.calls.Entry.{Entry}
use Rattle.voice_store.specs.Facts.{Adds as StoreAdds, AddsLanding, entry_of, landing_at}
use Rattle.serving_laws.specs.Lanes.{FedBy, IsAtRest}
use Rattle.servings.specs.Asked.{is_landing, AreBy}
use Rattle.servings.specs.Alone.{HasServedAlone, HasServedAloneInto}
use Rattle.servings.specs.Servings.{HasHeard}
use Rattle.servings.proofs.Known.{back_of}
use Rattle.servings.proofs.Turned.{Goes, Turned, Adds, StopsIfHinted, IsLast, awaited_by, some_more, some_next, starts, turn, fault_stopped, last_serves, last_heard}
use Rattle.servings.proofs.Gains.{Gained, AreOfNobody, none_gained, all_own, nothing_between, landing_between, one_gained, perhaps_landed}

-- between turns: the caller's entries so far, and what they serve
pub record GoesAlone (K : State → Type 0) (tapes : List (List ℕ)) (by lane : ℕ) (start : List Entry) (before : List ℕ) (now : List Entry) (at : ℕ) (lease : Option LeaseState) (heard : List ℕ) : Type 0 where
  pub mine : List Entry
  pub gains : Gained start by now mine
  pub goes : Goes K tapes by lane start [] before now mine at lease heard

-- a feed was answered
pub record TurnedAlone (K : State → Type 0) (tapes : List (List ℕ)) (by lane : ℕ) (start : List Entry) (before : List ℕ) (reply : Reply) (earlier now : List Entry) (heard : List ℕ) : Type 0 where
  pub mine : List Entry
  pub gains : Gained start by now mine
  pub turned : Turned K tapes by lane start [] before reply earlier now mine heard

pub starts_alone :
    (K : State → Type 0) (tapes : List (List ℕ)) (by lane : ℕ) (start : List Entry) (heard : List ℕ) (at : ℕ) (lease : Option LeaseState) → lease ≡ None
    → GoesAlone K tapes by lane start heard start at lease heard
starts_alone K tapes by lane start heard at lease none = record {
  mine = [];
  gains = none_gained start by;
  goes = starts K tapes by lane start [] heard at lease none;
}

-- what a turn adds behind entries that nobody asked for
adds_behind : (was between now mine : List Entry) (by : ℕ) (e : Entry) → now ≡ (was ++ between) ++ e ∷ [] → e.caller ≡ by → Adds was (was ++ between) now by mine (mine ++ e ∷ []) e
adds_behind was between now mine by e is caller = record { between = between; grown = refl; last = is; caller = caller; gained = refl }

-- and with nothing between
adds_next : (was now mine : List Entry) (by : ℕ) (e : Entry) → now ≡ was ++ e ∷ [] → e.caller ≡ by → Adds was was now by mine (mine ++ e ∷ []) e
adds_next was now mine by e is caller = record { between = []; grown = sym (append-nil was); last = is; caller = caller; gained = refl }

next_is : (was now : List Entry) (e : Entry) → now ≡ was ++ e ∷ [] → now ≡ (was ++ []) ++ e ∷ []
next_is was now e is = is ∙ ap (λ l. l ++ e ∷ []) (sym (append-nil was))

pub fed_alone :
    (K : State → Type 0) (tapes : List (List ℕ)) (by lane : ℕ) (start : List Entry) (before : List ℕ) (was : List Entry) (at : ℕ) (lease : Option LeaseState) (heard : List ℕ) (now : List Entry) (call : Call) (reply : Reply) (ack : ℕ)
    → GoesAlone K tapes by lane start before was at lease heard → now ≡ was ++ entry_of by call reply ack ∷ [] → call ≡ calls.Feed lane (back_of at lease) → StopsIfHinted lease reply
    → ((first : State) → K first → IsAnswer (after first tapes was) tapes (entry_of by call reply ack)) → ((first : State) → K first → IsState (after first tapes was))
    → TurnedAlone K tapes by lane start before reply was now heard
fed_alone K tapes by lane start before was at lease heard now call reply ack g is c stops answers valid =
    let e = entry_of by call reply ack in
    let asks : is_landing call ≡ false = ap is_landing c in
    let gains = one_gained start by was now g.mine [] e g.gains (next_is was now e is) (nothing_between by) refl asks in
    record {
      mine = g.mine ++ e ∷ [];
      gains = gains;
      turned =
          turn K tapes by lane start [] before was g.mine at lease heard g.goes start was now (g.mine ++ e ∷ []) e reply (adds_next was now g.mine by e is refl)
          (all_own start by was g.mine g.gains) (all_own start by now (g.mine ++ e ∷ []) gains) c refl stops answers valid;
    }

-- ---- a stop behind a fault

stopped_behind :
    (K : State → Type 0) (tapes : List (List ℕ)) (by lane : ℕ) (start : List Entry) (before : List ℕ) (sooner was now between : List Entry) (heard : List ℕ) (e : Entry) (at : ℕ) (lease : Option LeaseState)
    → TurnedAlone K tapes by lane start before (replies.No why.DiskFault) sooner was heard → now ≡ (was ++ between) ++ e ∷ [] → AreOfNobody by between → e.caller ≡ by → e.call ≡ calls.Stop lane → lease ≡ None
    → GoesAlone K tapes by lane start before now at lease heard
stopped_behind K tapes by lane start before sooner was now between heard e at lease g is nobody caller c none =
    let asks : is_landing e.call ≡ false = ap is_landing c in
    let gains = one_gained start by was now g.mine between e g.gains is nobody caller asks in
    record {
      mine = g.mine ++ e ∷ [];
      gains = gains;
      goes =
          fault_stopped K tapes by lane start [] before sooner was g.mine heard g.turned start (was ++ between) now (g.mine ++ e ∷ []) e (adds_behind was between now g.mine by e is caller)
          (all_own start by was g.mine g.gains) (all_own start by now (g.mine ++ e ∷ []) gains) c at lease none;
    }

pub stopped_alone :
    (K : State → Type 0) (tapes : List (List ℕ)) (by lane : ℕ) (start : List Entry) (before : List ℕ) (sooner was now : List Entry) (heard : List ℕ) (call : Call) (reply : Reply) (ack at : ℕ) (lease : Option LeaseState) → 0 < by
    → TurnedAlone K tapes by lane start before (replies.No why.DiskFault) sooner was heard → StoreAdds by call reply ack was now → call ≡ calls.Stop lane → lease ≡ None
    → GoesAlone K tapes by lane start before now at lease heard
stopped_alone K tapes by lane start before sooner was now heard call reply ack at lease pos g (inl is) c none =
    stopped_behind K tapes by lane start before sooner was now [] heard (entry_of by call reply ack) at lease g (next_is was now (entry_of by call reply ack) is) (nothing_between by) refl c none
stopped_alone K tapes by lane start before sooner was now heard call reply ack at lease pos g (inr h) c none =
    let e = entry_of by call reply ack in
    stopped_behind K tapes by lane start before sooner was now (landing_at h.0 ∷ []) heard e at lease g (h.1 ∙ sym (append_assoc was (landing_at h.0 ∷ []) (e ∷ []))) (landing_between by h.0 pos) refl c none

-- ---- the end

pub served_alone :
    (K : State → Type 0) (tapes : List (List ℕ)) (by lane : ℕ) (start : List Entry) (before : List ℕ) (reply : Reply) (earlier was now : List Entry) (heard : List ℕ)
    → TurnedAlone K tapes by lane start before reply earlier was heard → IsLast reply → now ≡ was → HasServedAlone by lane reply start now
served_alone K tapes by lane start before reply earlier was now heard g last e = subst (HasServedAlone by lane reply start) (sym e) (record {
  gained = g.gains.gained;
  own = g.turned.own;
  grown = g.gains.grown;
  asked = g.gains.asked ∙ g.turned.gained;
  by = subst (AreBy by) g.turned.gained g.gains.each;
  serves = last_serves lane g.turned.own reply g.turned.opens last;
  front = g.turned.front;
  final = g.turned.final;
  ends = g.turned.ends;
  reply_is = g.turned.reply_is;
  before = earlier;
  told = g.turned.told;
})

-- memory was wanting at a feed
pub so_far_alone :
    (K : State → Type 0) (tapes : List (List ℕ)) (by lane : ℕ) (start : List Entry) (before : List ℕ) (was now : List Entry) (at : ℕ) (lease : Option LeaseState) (heard : List ℕ) → 0 < by
    → GoesAlone K tapes by lane start before was at lease heard → AddsLanding was now → HasServedAloneInto by lane start now
so_far_alone K tapes by lane start before was now at lease heard pos g landed =
    let next = some_more lane (awaited_by lease) in
    let gains = perhaps_landed start by was now g.mine pos g.gains landed in
    record {
      gained = gains.gained;
      own = g.goes.own;
      more = next.0;
      grown = gains.grown;
      asked = gains.asked ∙ g.goes.gained;
      by = subst (AreBy by) g.goes.gained gains.each;
      serves = g.goes.opens next.0 next.1;
    }

-- and behind a feed
pub this_far_alone :
    (K : State → Type 0) (tapes : List (List ℕ)) (by lane : ℕ) (start : List Entry) (before : List ℕ) (reply : Reply) (earlier was now : List Entry) (heard : List ℕ) → 0 < by
    → TurnedAlone K tapes by lane start before reply earlier was heard → AddsLanding was now → HasServedAloneInto by lane start now
this_far_alone K tapes by lane start before reply earlier was now heard pos g landed =
    let next = some_next lane (after_feed reply) in
    let gains = perhaps_landed start by was now g.mine pos g.gains landed in
    record {
      gained = gains.gained;
      own = g.turned.own;
      more = next.0;
      grown = gains.grown;
      asked = gains.asked ∙ g.turned.gained;
      by = subst (AreBy by) g.turned.gained gains.each;
      serves = g.turned.opens next.0 next.1;
    }

-- all of the job was heard that its last reply tells of
pub heard_alone :
    (K : State → Type 0) (tapes : List (List ℕ)) (by lane : ℕ) (start : List Entry) (before : List ℕ) (reply : Reply) (earlier was now : List Entry) (heard heard_after : List ℕ)
    → TurnedAlone K tapes by lane start before reply earlier was heard → IsLast reply → now ≡ was → heard_after ≡ heard
    → (first : State) → K first → FedBy by lane now → IsAtRest (after first tapes start) lane → before ≡ [] → HasHeard first tapes now lane reply heard_after
heard_alone K tapes by lane start before reply earlier was now heard heard_after g last e f first known fed rest none =
    let same = subst (FedBy by lane) e fed in
    let over = last_heard (after first tapes earlier) (after first tapes was) lane reply heard last (g.turned.knows first known same rest none) in
    subst (HasHeard first tapes now lane reply) (sym f)
    (subst (λ x. HasHeard first tapes x lane reply heard) (sym e)
    (record { before = earlier; final = g.turned.final; ends = g.turned.told; reply_is = g.turned.reply_is; bytes = over.0; rests = over.1 }))
