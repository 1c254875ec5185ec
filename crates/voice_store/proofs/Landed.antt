-- A call after a landing.
use Rattle.std.proofs.Common.{◌≡◌, ◌⊎◌, inl, inr, ℕ, ◌+◌, ◌≤◌, Bool, true, ◌&&◌, List, [], ◌∷◌, ◌++◌, None, IsTrue, is_some, sym, ◌∙◌, ap, subst, arith}
use Rattle.std.specs.Prelude.{Result, Ok, Err, IfOk, OnErr, Vec}
use Rattle.std.specs.declared.alloc.Global.{Global}
use Rattle.std.proofs.lemmas.List.{append_assoc}
use Rattle.voice_outside.specs.Disk.{Told}
use Rattle.voice_outside.specs.Counters.{HasRisen}
use Rattle.voice_model.specs.State.{State}
use Rattle.voice_model.specs.Changes.{is_changing}
use Rattle.voice_model.specs.Step.{landing_failed, after}
use Rattle.voice_model.specs.Heard.{LegalOn}
use Rattle.voice_model.specs.Valid.{IsState}
use Rattle.crash_laws.specs.Standing.{IsHeld}
use Rattle.voice_model.specs.declared.calls.Call.{Call}
use Rattle.voice_model.specs.declared.calls.Reply.{Reply}
use Rattle.voice_model.specs.declared.calls.Entry.{Entry}
use Rattle.voice_store.specs.declared.inside.Inside.{Inside}
use Rattle.voice_store.specs.Stood.{last_of, tapes_of, Stood, Fills, Brings, IsSeated, AcksRise, IsHolding, IsSure, IsUnsure, Lands, Plays}
use Rattle.voice_store.specs.Filled.{HaveBytes}
use Rattle.voice_store.specs.Shown.{FaultsCover, Stands}
use Rattle.voice_store.specs.Turns.{ShortTurns}
use Rattle.voice_store.specs.Facts.{Adds, AddsLanding, entry_of, landing_at}

pub risen_later : (old mid new : ℕ) → old ≤ mid → HasRisen mid new → HasRisen old new
risen_later old mid new le rise = λ high. let up = rise high in omega (arith, le, up)

pub adds_after : (caller : ℕ) (call : Call) (reply : Reply) (ack : ℕ) (old mid new : List Entry) → AddsLanding old mid → new ≡ mid ++ entry_of caller call reply ack ∷ [] → Adds caller call reply ack old new
adds_after caller call reply ack old mid new (inl same) is = inl (is ∙ ap (λ l. l ++ entry_of caller call reply ack ∷ []) same)
adds_after caller call reply ack old mid new (inr landed) is =
    inr (landed.0, is ∙ ap (λ l. l ++ entry_of caller call reply ack ∷ []) landed.1 ∙ append_assoc old (landing_at landed.0 ∷ []) (entry_of caller call reply ack ∷ []))

pub landing_same : (old mid new : List Entry) → AddsLanding old mid → new ≡ mid → AddsLanding old new
landing_same old mid new (inl same) is = inl (is ∙ same)
landing_same old mid new (inr landed) is = inr (landed.0, is ∙ landed.1)

-- what was in doubt still is, where the history and the tapes are the same
pub still_in_doubt : (first : State) (t0 : ℕ) (disk : Told) (s s' : Inside) → Stood first t0 disk s → ¬ (s.doubt ≡ None) → s'.tapes ≡ s.tapes → s'.history.items ≡ s.history.items → IsTrue (is_some (last_of first s').doubt)
still_in_doubt first t0 disk s s' stood some tapes items = ap (λ (t : State). is_some t.doubt) same ∙ by stood.tables
  where
    same : last_of first s' ≡ last_of first s
    same = ap (λ t. after first (tapes_of (record s { tapes = t })) s'.history.items) tapes ∙ ap (λ l. after first (tapes_of s) l) items

    by : IsSure stood.held stood.takings s stood.b stood.after (last_of first s) ⊎ IsUnsure stood.fill stood.held stood.takings s stood.b stood.after (last_of first s) → is_some (last_of first s).doubt ≡ true
    by (inl sure) = absurd (some sure.sure)
    by (inr unsure) = ap is_some unsure.in_state

pub failed_landing : (s : State) (call : Call) → IsTrue (is_changing call) → IsTrue (is_some s.doubt) → IsTrue (landing_failed s call)
failed_landing s call changing some = ap (λ x. x && is_some s.doubt) changing ∙ some

-- ---- results

pub if_ok : {A E : Type 0} (P Q : A → Type 0) → ((x : A) → P x → Q x) → (r : Result A E) → IfOk r P → IfOk r Q
if_ok P Q f (Ok x) h = f x h
if_ok P Q f (Err e) h = h

pub on_error : {A E : Type 0} (P Q : Type 0) → (P → Q) → (r : Result A E) → OnErr r P → OnErr r Q
on_error P Q f (Ok x) h = h
on_error P Q f (Err e) h = f h

-- no device call was made
pub none_made : {A E : Type 0} (calls most : ℕ) → (r : Result A E) → OnErr r (calls ≤ calls + most)
none_made calls most (Ok x) = tt
none_made calls most (Err e) = omega arith

-- ---- room for more entries

module _ (first : State) (t0 : ℕ) (disk : Told) (s : Inside) (history : Vec Entry Global) (is : history.items ≡ s.history.items) where
  abbrev roomy : Inside
  roomy = record s { history = history }

  last : last_of first roomy ≡ last_of first s
  last = ap (λ l. after first (tapes_of s) l) is

  stood_roomy : Stood first t0 disk s → Stood first t0 disk roomy
  stood_roomy stood = let up = stood.upright in record {
    fill = stood.fill;
    b = stood.b;
    after = stood.after;
    held = stood.held;
    takings = stood.takings;
    holding = subst (λ (t : State). IsHolding stood.held stood.takings s.journal.shape.block t.lanes) (sym last) stood.holding;
    upright = record {
      legal = subst (λ l. LegalOn disk.honest first (tapes_of s) l) (sym is) up.legal;
      valid = subst (λ (t : State). IsState t) (sym last) up.valid;
      fills = subst (λ (t : State). Fills stood.fill stood.b t) (sym last) up.fills;
      seated = subst (λ (t : State). IsSeated s.journal t) (sym last) up.seated;
      acks = subst (λ l. AcksRise t0 l disk.calls) (sym is) up.acks;
      held = λ h. subst (λ l. IsHeld first (tapes_of s) t0 s.journal disk stood.b stood.after l) (sym is) (up.held h);
      bytes = λ h. subst (λ (t : State). HaveBytes stood.fill s.journal.shape disk.bytes s.parts.blocks.holders t) (sym last) (up.bytes h);
    };
    tables = by stood.tables;
    playing = subst (λ (t : State). Plays stood.fill disk.honest s t) (sym last) stood.playing;
    size = stood.size;
  }
    where
      by : IsSure stood.held stood.takings s stood.b stood.after (last_of first s) ⊎ IsUnsure stood.fill stood.held stood.takings s stood.b stood.after (last_of first s) → IsSure stood.held stood.takings roomy stood.b stood.after (last_of first roomy) ⊎ IsUnsure stood.fill stood.held stood.takings roomy stood.b stood.after (last_of first roomy)
      by (inl sure) = inl (record { sure = sure.sure; in_journal = sure.in_journal; in_state = ap (λ (t : State). t.doubt) last ∙ sure.in_state; tables = sure.tables; same = sure.same })
      by (inr unsure) = inr (record {
        doubted = unsure.doubted;
        unsure = unsure.unsure;
        pending = unsure.pending;
        in_state = ap (λ (t : State). t.doubt) last ∙ unsure.in_state;
        doubt = unsure.doubt;
        in_journal = unsure.in_journal;
        change = unsure.change;
        ready = unsure.ready;
        addresses = unsure.addresses;
        spelled = unsure.spelled;
        brings_it = subst (λ (t : State). Brings stood.fill stood.b unsure.change t unsure.pending.effect) (sym last) unsure.brings_it;
        lands = subst (λ (t : State). Lands stood.fill s.journal unsure.doubted stood.b stood.after t unsure.change unsure.doubt) (sym last) unsure.lands;
      })

pub stood_reserved : (first : State) (t0 : ℕ) (disk : Told) (s s' : Inside) → s' ≡ record s { history = s'.history } → s'.history.items ≡ s.history.items → Stood first t0 disk s → Stood first t0 disk s'
stood_reserved first t0 disk s s' rest items stood = subst (λ (x : Inside). Stood first t0 disk x) (sym rest) (stood_roomy first t0 disk s s'.history items stood)

pub stands_reserved : (first : State) (origin disk : Told) (s s' : Inside) (wanted : Bool) → s' ≡ record s { history = s'.history } → s'.history.items ≡ s.history.items → Stands first origin disk s wanted → Stands first origin disk s' wanted
stands_reserved first origin disk s s' wanted rest items stands = record {
  stood = stood_reserved first (origin.calls + 1) disk s s' rest items stands.stood;
  faults = subst (λ l. FaultsCover origin.faults l disk.faults) (sym items) stands.faults;
  size = stands.size;
  honest = stands.honest;
  turns = λ none. subst (λ t. ShortTurns first t (origin.calls + 5) s'.history.items disk.calls) (sym (ap (λ (x : Inside). tapes_of x) rest))
      (subst (λ l. ShortTurns first (tapes_of s) (origin.calls + 5) l disk.calls) (sym items) (stands.turns none));
}
