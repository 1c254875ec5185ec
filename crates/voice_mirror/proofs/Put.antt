-- What a mirror keeps on any disk behind a change that was put.
use Rattle.std.proofs.Common.{◌≡◌, inl, inr, ℕ, ◌+◌, ◌≤◌, Option, Some, None, Result, Ok, Err, OnOk, OnErr, IsErr, IsErrOf, refl, sym, ◌∙◌, ap, subst}
use Rattle.std.specs.Prelude.{IsSome}
use Rattle.voice_units.specs.declared.shapes.Shape.{Shape}
use Rattle.voice_model.specs.Replay.{Rebuilt, acted}
use Rattle.voice_journal.specs.Places.{JournalValue}
use Rattle.voice_journal.specs.Readings.{extent}
use Rattle.voice_journal.specs.declared.errors.Fault.{Fault}
use Rattle.voice_journal.specs.declared.errors.Fault.TheVariants.{Before, Doubt}
use Rattle.recovery.specs.Shown.{IsParts}
use Rattle.recovery.proofs.Rebuilding.{acted_shape}
use Rattle.mirror_tables.specs.Beside.{IsBehind, IsBeside}
use Rattle.mirror_tables.specs.declared.beside.Beside.TheVariants.{Behind}
use Rattle.voice_mirror.specs.declared.answers.Taken.{Taken}
use Rattle.voice_mirror.specs.declared.answers.Taken.TheVariants.{Done, DiskFault, InDoubt}
use Rattle.voice_mirror.specs.declared.inside.Inside.{Inside}
use Rattle.voice_mirror.specs.declared.ready.Ready.{Ready}
use Rattle.voice_mirror.specs.Shown.{IsStanding, Waits, state_of}
use Rattle.voice_mirror.specs.Ready.{IsReady, MayCommit, IsOfDevice}

module _ (size : ℕ) (s : Inside) (standing : IsStanding size s) (number : ℕ) (ready : Ready) (may : MayCommit (state_of s) number ready) (journal' : JournalValue) (kept : journal'.shape ≡ s.journal.shape) where
  abbrev what : Rebuilt
  what = standing.upright.tables.what

  pub is_ready : IsReady s.journal number ready.change (what) ready
  is_ready = may.each (what) standing.upright.tables.shows standing.upright.tables.in_shape

  behind : IsBehind s.journal.shape ready.tables s.parts ready.change
  behind = record {
    was = what;
    shows = standing.upright.tables.shows;
    in_shape = standing.upright.tables.in_shape;
    grammar = may.grammar;
    kind = may.kind;
    legal = (is_ready).legal;
    acted = (is_ready).tables;
  }

  behind_then : IsBehind journal'.shape ready.tables s.parts ready.change
  behind_then = subst (λ (shape : Shape). IsBehind shape ready.tables s.parts ready.change) (sym kept) behind

  fits_then : extent journal'.shape ≤ size
  fits_then = subst (λ (shape : Shape). extent shape ≤ size) (sym kept) standing.upright.fits

  newest_then : journal'.shape.version ≡ 2
  newest_then = ap (λ (shape : Shape). shape.version) kept ∙ standing.upright.newest

  tables_then : IsParts journal'.shape s.parts
  tables_then = subst (λ (shape : Shape). IsParts shape s.parts) (sym kept) standing.upright.tables

  pub done_standing : journal'.doubt ≡ None → IsStanding size (record s { journal = journal'; parts = ready.tables; beside = Behind s.parts ready.change; position = s.position + 1 })
  done_standing sure = record {
    upright = record {
      fits = fits_then;
      newest = newest_then;
      tables = record { what = acted (what) ready.change; shows = (is_ready).tables; in_shape = acted_shape (what) ready.change ∙ standing.upright.tables.in_shape ∙ sym kept };
      waits = subst (λ (o : Option _). Waits o journal' ready.tables (s.position + 1)) (sym may.sure) sure;
    };
    beside = behind_then;
  }

  pub undone_standing : journal'.doubt ≡ None → IsStanding size (record s { journal = journal' })
  undone_standing sure = record {
    upright = record { fits = fits_then; newest = newest_then; tables = tables_then; waits = subst (λ (o : Option _). Waits o journal' s.parts s.position) (sym may.sure) sure };
    beside = subst (λ (shape : Shape). IsBeside shape s.parts s.beside) (sym kept) standing.beside;
  }

  pub doubt_standing : IsSome journal'.doubt → IsStanding size (record s { journal = journal'; pending = Some (record { tables = ready.tables; change = ready.change }) })
  doubt_standing unsure = record {
    upright = record { fits = fits_then; newest = newest_then; tables = tables_then; waits = record { unsure = unsure; behind = behind_then; next = may.low } };
    beside = subst (λ (shape : Shape). IsBeside shape s.parts s.beside) (sym kept) standing.beside;
  }

-- ---- by how it went

module _ {T : Type 0} (s t done undone doubted : Inside) (answer : Taken) where
  module _ (put : Result T Fault) (ok : OnOk put ((answer ≡ Done) × (t ≡ done))) (before : IsErrOf put Before → (answer ≡ DiskFault) × (t ≡ undone)) (unsure : IsErrOf put Doubt → (answer ≡ InDoubt) × (t ≡ doubted)) where
    pub by_put : (P : Taken → Inside → Type 0) → (OnOk put (P Done done)) → (IsErrOf put Before → P DiskFault undone) → (IsErrOf put Doubt → P InDoubt doubted) → P answer t
    by_put P a b c = by put ok before unsure a b c
      where
        by : (r : Result T Fault) → OnOk r ((answer ≡ Done) × (t ≡ done)) → (IsErrOf r Before → (answer ≡ DiskFault) × (t ≡ undone)) → (IsErrOf r Doubt → (answer ≡ InDoubt) × (t ≡ doubted)) → OnOk r (P Done done) → (IsErrOf r Before → P DiskFault undone) → (IsErrOf r Doubt → P InDoubt doubted) → P answer t
        by (Ok x) is b c p q r = subst (λ (a : Taken). P a t) (sym is.0) (subst (λ (i : Inside). P Done i) (sym is.1) p)
        by (Err Before) a is c p q r = let e = is refl in subst (λ (a : Taken). P a t) (sym e.0) (subst (λ (i : Inside). P DiskFault i) (sym e.1) (q refl))
        by (Err Doubt) a b is p q r = let e = is refl in subst (λ (a : Taken). P a t) (sym e.0) (subst (λ (i : Inside). P InDoubt i) (sym e.1) (r refl))

-- what holds of an answer that is Ok
pub on_ok : {T E : Type 0} (r : Result T E) {P : Type 0} → P → OnOk r P
on_ok (Ok x) p = p
on_ok (Err e) p = tt

pub on_err : {T E : Type 0} (r : Result T E) {P : Type 0} → P → OnErr r P
on_err (Ok x) p = tt
on_err (Err e) p = p

pub on_ok_then : {T E : Type 0} (r : Result T E) {P Q : Type 0} → (P → Q) → OnOk r P → OnOk r Q
on_ok_then (Ok x) f p = f p
on_ok_then (Err e) f p = tt

-- an answer of the device comes where a call failed
pub failed_by : {T E : Type 0} (r : Result T E) {P : Type 0} (e : E) → (IsErr r → P) → IsErrOf r e → P
failed_by (Ok x) e risen is = cc
failed_by (Err x) e risen is = risen refl

pub not_done : {P : Type 0} → IsOfDevice Done → P
not_done (inl is) = cc
not_done (inr is) = cc
