-- A history with one entry more.
use Rattle.std.proofs.Common.{◌≡◌, ◌⊎◌, inl, inr, ℕ, ◌≤◌, Bool, List, [], ◌∷◌, ◌++◌, IsTrue, sym, ◌∙◌, ap, subst, arith}
use Rattle.std.specs.Prelude.{Vec}
use Rattle.std.specs.declared.alloc.Global.{Global}
use Rattle.voice_outside.specs.Disk.{Told}
use Rattle.voice_units.specs.Spots.{Spot}
use Rattle.voice_model.specs.Samples.{Tagged}
use Rattle.voice_model.specs.State.{State}
use Rattle.voice_model.specs.Step.{state_after, after}
use Rattle.voice_model.specs.Heard.{IsAnswerOn, LegalOn}
use Rattle.voice_model.specs.Replay.{Rebuilt}
use Rattle.voice_model.specs.Valid.{IsState}
use Rattle.voice_model.specs.declared.calls.Entry.{Entry}
use Rattle.voice_model.proofs.Determined.{after-append}
use Rattle.voice_model.proofs.Heard.{legal_on-append, legal_on-one}
use Rattle.crash_laws.specs.Standing.{IsHeld, IsHonest}
use Rattle.crash_laws.specs.Calls.{KeepsDurable}
use Rattle.crash_laws.specs.Laws.{EntriesCount}
use Rattle.voice_store.specs.declared.inside.Inside.{Inside}
use Rattle.voice_store.specs.Filled.{HaveBytes}
use Rattle.voice_store.specs.Stood.{last_state, tapes_of, last_of, Fills, Brings, IsSeated, AcksRise, IsHolding, Upright, IsSure, Lands, IsUnsure, Plays, Stood}

pub after_one : (s : State) (tapes : List (List ℕ)) (es : List Entry) (e : Entry) → after s tapes (es ++ e ∷ []) ≡ state_after (after s tapes es) tapes e
after_one s tapes es e = after-append s tapes es (e ∷ [])

pub legal_one : (honest : Bool) (s : State) (tapes : List (List ℕ)) (es : List Entry) (e : Entry) → LegalOn honest s tapes es → IsAnswerOn honest (after s tapes es) tapes e → LegalOn honest s tapes (es ++ e ∷ [])
legal_one honest s tapes es e legal answer = legal_on-append honest s tapes es (e ∷ []) legal (legal_on-one honest (after s tapes es) tapes e answer)

pub acks_one : (low : ℕ) (es : List Entry) (e : Entry) (high : ℕ) → AcksRise low es high → e.ack ≡ high → AcksRise low (es ++ e ∷ []) high
acks_one low [] e high rise is = (omega (arith, rise, is), omega (arith, is))
acks_one low (x ∷ es) e high rise is = (rise.0, acks_one x.ack es e high rise.1 is)

pub acks_later : (low : ℕ) (es : List Entry) (high higher : ℕ) → AcksRise low es high → high ≤ higher → AcksRise low es higher
acks_later low [] high higher rise le = omega (arith, rise, le)
acks_later low (x ∷ es) high higher rise le = (rise.0, acks_later x.ack es high higher rise.1 le)

-- a state that stays is kept in all that outlives a crash
keeps_same : (s t : State) → t ≡ s → KeepsDurable s t
keeps_same s t is = record { kept = ap (λ (x : State). x.kept) is; doubt = ap (λ (x : State). x.doubt) is; form = ap (λ (x : State). x.form) is; left = ap (λ (x : State). x.left) is }

-- the last state, after an entry that leaves it
last_stays : (first : State) (s s' : Inside) (e : Entry) → s'.tapes ≡ s.tapes → s'.history.items ≡ s.history.items ++ e ∷ [] → state_after (last_of first s) (tapes_of s) e ≡ last_of first s → last_of first s' ≡ last_of first s
last_stays first s s' e tapes items stays =
    ap (λ t. after first (tapes_of (record s { tapes = t })) s'.history.items) tapes ∙ ap (λ l. after first (tapes_of s) l) items ∙ after_one first (tapes_of s) s.history.items e ∙ stays

module _ (first : State) (t0 : ℕ) (disk : Told) (s : Inside) (items : List Entry) (e : Entry) (is : items ≡ s.history.items ++ e ∷ []) (now : e.ack ≡ disk.calls)
    (answers : IsAnswerOn disk.honest (last_of first s) (tapes_of s) e) (stays : state_after (last_of first s) (tapes_of s) e ≡ last_of first s)
    (honest : IsTrue disk.honest → IsHonest disk) (counts : EntriesCount disk) where
  abbrev tapes : List (List ℕ)
  tapes = tapes_of s

  abbrev longer : List Entry
  longer = s.history.items ++ e ∷ []

  same : last_state first tapes longer ≡ last_of first s
  same = after_one first tapes s.history.items e ∙ stays

  -- what holds of the history with the entry, whatever else is kept
  pub record Noted (fill : Spot → Tagged) (b after' : Rebuilt) : Type 0 where
    pub legal : LegalOn disk.honest first tapes items
    pub last : last_state first tapes items ≡ last_of first s
    pub acks : AcksRise t0 items disk.calls
    pub held : IsTrue disk.honest → IsHeld first tapes t0 s.journal disk b after' items

  pub noted : (fill : Spot → Tagged) (b after' : Rebuilt) → Upright first t0 disk s fill b after' → Noted fill b after'
  noted fill b after' up = record {
    legal = subst (λ l. LegalOn disk.honest first tapes l) (sym is) (legal_one disk.honest first tapes s.history.items e up.legal answers);
    last = ap (λ l. last_state first tapes l) is ∙ same;
    acks = subst (λ l. AcksRise t0 l disk.calls) (sym is) (acks_one t0 s.history.items e disk.calls up.acks now);
    held = λ h. subst (λ l. IsHeld first tapes t0 s.journal disk b after' l) (sym is)
        (counts.noted first tapes t0 s.journal b after' s.history.items e (honest h) (up.held h) now (keeps_same (last_of first s) (state_after (last_of first s) tapes e) stays));
  }

-- ---- a store with the entry

module _ (first : State) (t0 : ℕ) (disk : Told) (s : Inside) (history : Vec Entry Global) (e : Entry) (is : history.items ≡ s.history.items ++ e ∷ []) (now : e.ack ≡ disk.calls)
    (answers : IsAnswerOn disk.honest (last_of first s) (tapes_of s) e) (stays : state_after (last_of first s) (tapes_of s) e ≡ last_of first s)
    (honest : IsTrue disk.honest → IsHonest disk) (counts : EntriesCount disk) where
  abbrev entered : Inside
  entered = record s { history = history }

  pub stood_noted : Stood first t0 disk s → Stood first t0 disk entered
  stood_noted stood =
      let more = noted first t0 disk s history.items e is now answers stays honest counts stood.fill stood.b stood.after stood.upright in
      record {
        fill = stood.fill;
        b = stood.b;
        after = stood.after;
        held = stood.held;
        takings = stood.takings;
        holding = subst (λ (t : State). IsHolding stood.held stood.takings s.journal.shape.block t.lanes) (sym more.last) stood.holding;
        upright = record {
          legal = more.legal;
          valid = subst (λ (t : State). IsState t) (sym more.last) stood.upright.valid;
          fills = subst (λ (t : State). Fills stood.fill stood.b t) (sym more.last) stood.upright.fills;
          seated = subst (λ (t : State). IsSeated s.journal t) (sym more.last) stood.upright.seated;
          acks = more.acks;
          held = more.held;
          bytes = λ h. subst (λ (t : State). HaveBytes stood.fill s.journal.shape disk.bytes s.parts.blocks.holders t) (sym more.last) (stood.upright.bytes h);
        };
        tables = tables_noted stood.tables more.last;
        playing = subst (λ (t : State). Plays stood.fill disk.honest s t) (sym more.last) stood.playing;
        size = stood.size;
      }
    where
      tables_noted : IsSure stood.held stood.takings s stood.b stood.after (last_of first s) ⊎ IsUnsure stood.fill stood.held stood.takings s stood.b stood.after (last_of first s) → last_of first entered ≡ last_of first s
          → IsSure stood.held stood.takings entered stood.b stood.after (last_of first entered) ⊎ IsUnsure stood.fill stood.held stood.takings entered stood.b stood.after (last_of first entered)
      tables_noted (inl sure) last = inl (record { sure = sure.sure; in_journal = sure.in_journal; in_state = ap (λ (t : State). t.doubt) last ∙ sure.in_state; tables = sure.tables; same = sure.same })
      tables_noted (inr unsure) last = inr (record {
        doubted = unsure.doubted;
        unsure = unsure.unsure;
        pending = unsure.pending;
        in_state = ap (λ (t : State). t.doubt) last ∙ unsure.in_state;
        doubt = unsure.doubt;
        in_journal = unsure.in_journal;
        change = unsure.change;
        ready = unsure.ready;
        addresses = unsure.addresses;
        spelled = unsure.spelled;
        brings_it = subst (λ (t : State). Brings stood.fill stood.b unsure.change t unsure.pending.effect) (sym last) unsure.brings_it;
        lands = subst (λ (t : State). Lands stood.fill s.journal unsure.doubted stood.b stood.after t unsure.change unsure.doubt) (sym last) unsure.lands;
      })
