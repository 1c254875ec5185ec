-- The landing of what is in doubt.
use Rattle.std.proofs.Common.{◌≡◌, ℕ, ◌+◌, ◌<◌, ◌≤◌, ◌^◌, List, true, false, Option, Some, None, refl, sym, ◌∙◌, ap, subst, arith}
use Rattle.std.specs.Prelude.{IsSome, is_some}
use Rattle.std.specs.Option.{ForSome}
use Rattle.voice_units.specs.declared.shapes.Shape.{Shape}
use Rattle.voice_outside.specs.Disk.{Told}
use Rattle.voice_model.specs.Samples.{Tagged}
use Rattle.voice_model.specs.State.{Durable, Effect}
use Rattle.voice_model.specs.Replay.{acted}
use Rattle.voice_journal.specs.Places.{JournalValue, landed, closed_after}
use Rattle.voice_journal.specs.Readings.{extent}
use Rattle.voice_journal.specs.declared.seats.Doubt.{Doubt}
use Rattle.recovery.specs.declared.parts.Parts.{Parts}
use Rattle.recovery.specs.Shown.{IsParts}
use Rattle.recovery.proofs.Rebuilding.{acted_shape}
use Rattle.crash_laws.specs.Standing.{IsLater}
use Rattle.crash_laws.specs.Calls.{Lands, StaysInDoubt, LandsWithin}
use Rattle.mirror_laws.specs.Standing.{Took, taken_at}
use Rattle.mirror_laws.specs.Foundations.{MirrorFoundations}
use Rattle.mirror_laws.proofs.Histories.{length_push}
use Rattle.mirror_laws.proofs.Landing.{landings_carry}
use Rattle.mirror_tables.specs.Beside.{IsBehind}
use Rattle.mirror_tables.specs.declared.beside.Beside.TheVariants.{Behind}
use Rattle.voice_mirror.specs.declared.inside.Pending.{Pending}
use Rattle.voice_mirror.specs.declared.inside.Inside.{Inside}
use Rattle.voice_mirror.specs.Shown.{MirrorState, IsWaiting, Waits, IsUpright, ShowsNext, Keeps, IsStanding, state_of}
use Rattle.voice_mirror.specs.Taking.{journal_by, settled_by, with_landed}

pub none_there : (o : Option Pending) → is_some o ≡ false → o ≡ None
none_there None e = refl
none_there (Some p) e = cc

-- something is there
pub some_there : (o : Option Pending) → is_some o ≡ true → (p : Pending) × (o ≡ Some p)
some_there None e = cc
some_there (Some p) e = (p, refl)

-- what waits, where something is in doubt
pub waiting : (o : Option Pending) (p : Pending) (journal : JournalValue) (parts : Parts) (position : ℕ) → o ≡ Some p → Waits o journal parts position → IsWaiting journal parts position p
waiting o p journal parts position is waits = subst (λ (x : Option Pending). Waits x journal parts position) is waits

pub quiet : (o : Option Pending) (journal : JournalValue) (parts : Parts) (position : ℕ) → o ≡ None → Waits o journal parts position → journal.doubt ≡ None
quiet o journal parts position is waits = subst (λ (x : Option Pending). Waits x journal parts position) is waits

by_shape : (o : Option Doubt) (journal : JournalValue) → (journal_by o journal).shape ≡ journal.shape
by_shape None journal = refl
by_shape (Some doubt) journal = refl

by_sure : (o : Option Doubt) (journal : JournalValue) → IsSome o → (journal_by o journal).doubt ≡ None
by_sure None journal some = cc
by_sure (Some doubt) journal some = refl

-- the journal that a landing leaves
pub by_landing : (o : Option Doubt) (journal after : JournalValue) → IsSome o
    → ForSome o (λ doubt. after ≡ record journal { seat = landed journal.seat doubt; doubt = None; is_closed = closed_after journal.is_closed doubt }) → after ≡ journal_by o journal
by_landing None journal after some is = cc
by_landing (Some doubt) journal after some is = is doubt refl

-- the tables ahead are of the journal's shape
pub ahead : (shape : Shape) (parts : Parts) (p : Pending) → IsBehind shape p.tables parts p.change → IsParts shape p.tables
ahead shape parts p behind = record { what = acted behind.was p.change; shows = behind.acted; in_shape = acted_shape behind.was p.change ∙ behind.in_shape }

module _ (size : ℕ) (s : MirrorState) (p : Pending) (upright : IsUpright size s) (is : s.pending ≡ Some p) where
  abbrev waits : IsWaiting s.journal s.parts s.position p
  waits = waiting s.pending p s.journal s.parts s.position is upright.waits

  pub unsure : IsSome s.journal.doubt
  unsure = (waits).unsure

  pub low : s.position < 2 ^ 48
  low = (waits).next

  abbrev after : JournalValue
  after = journal_by s.journal.doubt s.journal

  pub shape_kept : (after).shape ≡ s.journal.shape
  shape_kept = by_shape s.journal.doubt s.journal

  pub sure_then : (after).doubt ≡ None
  sure_then = by_sure s.journal.doubt s.journal (unsure)

  pub behind_then : IsBehind (after).shape p.tables s.parts p.change
  behind_then = subst (λ (shape : Shape). IsBehind shape p.tables s.parts p.change) (sym (shape_kept)) (waits).behind

  pub upright_then : IsUpright size (settled_by (Some p) s)
  upright_then = record {
    fits = subst (λ (shape : Shape). extent shape ≤ size) (sym (shape_kept)) upright.fits;
    newest = ap (λ (shape : Shape). shape.version) (shape_kept) ∙ upright.newest;
    tables = ahead (after).shape s.parts p (behind_then);
    waits = sure_then;
  }

-- a landing leaves the shape
pub shape_by : (doubt : Option Doubt) (journal : JournalValue) → (journal_by doubt journal).shape ≡ journal.shape
shape_by None journal = refl
shape_by (Some doubt) journal = refl

-- the same with the tables beside
pub standing_landed : (size : ℕ) (s : Inside) (p : Pending) (journal' : JournalValue) → IsStanding size s → s.pending ≡ Some p → journal' ≡ journal_by s.journal.doubt s.journal
    → IsStanding size (record s { journal = journal'; parts = p.tables; beside = Behind s.parts p.change; position = s.position + 1; pending = None })
standing_landed size s p journal' standing is same =
    subst (λ (j : JournalValue). IsStanding size (record s { journal = j; parts = p.tables; beside = Behind s.parts p.change; position = s.position + 1; pending = None })) (sym same)
    (record { upright = upright_then size (state_of s) p standing.upright is; beside = behind_then size (state_of s) p standing.upright is })

-- ---- on an honest disk

module _ (laws : MirrorFoundations) (old new : Told) (is : IsLater old new) (first : Durable Tagged) (from t0 : ℕ) (taken : List Took) (s : MirrorState) (p : Pending) (pends : s.pending ≡ Some p) where
  -- what is in doubt is a change
  by_doubt : (P : Option (Effect Tagged) → Type 0) → ((effect : Effect Tagged) → Keeps first from t0 taken (Some effect) old s → P (Some effect)) → (doubt : Option (Effect Tagged)) → Keeps first from t0 taken doubt old s → P doubt
  by_doubt P some None keeps = absurd (subst (λ (o : Option Pending). ShowsNext o None keeps.next) pends keeps.shows_next)
  by_doubt P some (Some effect) keeps = some effect keeps

  module _ (journal' : JournalValue) (lands : Lands s.journal journal' old new) (within : LandsWithin s.journal old new) where
    abbrev then_state : MirrorState
    then_state = record { journal = journal'; parts = p.tables; position = s.position + 1; pending = None }

    keeps_landed : (effect : Effect Tagged) → Keeps first from t0 taken (Some effect) old s → Keeps first from t0 (with_landed (Some effect) new.calls taken) None new (then_state)
    keeps_landed effect keeps = record {
      now = keeps.next;
      next = keeps.next;
      held = (landings_carry laws old new).ok first from t0 s.journal journal' keeps.now keeps.next taken effect is keeps.held lands within;
      shows = subst (λ (o : Option Pending). ShowsNext o (Some effect) keeps.next) pends keeps.shows_next;
      shows_next = tt;
      position = let more = length_push taken (taken_at effect new.calls) in let at = keeps.position in omega (arith, more, at);
    }

    pub landed_keeps : (doubt : Option (Effect Tagged)) → Keeps first from t0 taken doubt old s → Keeps first from t0 (with_landed doubt new.calls taken) None new (then_state)
    landed_keeps doubt keeps = by_doubt (λ (o : Option (Effect Tagged)). Keeps first from t0 (with_landed o new.calls taken) None new (then_state)) keeps_landed doubt keeps

  module _ (stays : StaysInDoubt s.journal s.journal old new) (within : LandsWithin s.journal old new) where
    keeps_stuck : (effect : Effect Tagged) → Keeps first from t0 taken (Some effect) old s → Keeps first from t0 taken (Some effect) new s
    keeps_stuck effect keeps = record {
      now = keeps.now;
      next = keeps.next;
      held = (landings_carry laws old new).failed first from t0 s.journal s.journal keeps.now keeps.next taken effect is keeps.held stays within;
      shows = keeps.shows;
      shows_next = keeps.shows_next;
      position = keeps.position;
    }

    pub stuck_keeps : (doubt : Option (Effect Tagged)) → Keeps first from t0 taken doubt old s → Keeps first from t0 taken doubt new s
    stuck_keeps doubt keeps = by_doubt (λ (o : Option (Effect Tagged)). Keeps first from t0 taken o new s) keeps_stuck doubt keeps

-- nothing was in doubt, and nothing was done
pub quiet_keeps : (first : Durable Tagged) (from t0 : ℕ) (taken : List Took) (doubt : Option (Effect Tagged)) (disk : Told) (s : MirrorState) (ack : ℕ) → s.pending ≡ None → Keeps first from t0 taken doubt disk s → Keeps first from t0 (with_landed doubt ack taken) None disk s
quiet_keeps first from t0 taken None disk s ack pends keeps = keeps
quiet_keeps first from t0 taken (Some effect) disk s ack pends keeps = absurd (subst (λ (o : Option Pending). ShowsNext o (Some effect) keeps.next) pends keeps.shows_next)
