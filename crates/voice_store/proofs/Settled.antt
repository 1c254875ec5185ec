-- What was in doubt has landed.
use Rattle.std.proofs.Common.{rules, ◌≡◌, ◌⊎◌, inl, inr, ℕ, ◌≤◌, List, [], ◌∷◌, ◌++◌, Bool, true, false, Option, Some, None, is_some, IsTrue, refl, sym, ◌∙◌, ap, subst, arith}
use Rattle.std.specs.Prelude.{is_none}
use Rattle.voice_units.specs.declared.pieces.Piece.{Piece}
use Rattle.voice_outside.specs.Disk.{Told}
use Rattle.voice_units.specs.declared.shapes.Shape.{Shape}
use Rattle.voice_journal.specs.Places.{JournalValue, closed_after, landed as landed_seat}
use Rattle.voice_journal.specs.Readings.{extent, SameElsewhere}
use Rattle.next_ropes.specs.Addresses.{KeepsAddresses}
use Rattle.recording_calls.specs.Shown.{ShowsRecordings}
use Rattle.voice_store.specs.Filled.{HaveBytes}
use Rattle.voice_store.proofs.Filled.{still_has, takes_same, stays_elsewhere}
use Rattle.voice_journal.specs.declared.seats.Doubt.{Doubt}
use Rattle.voice_units.specs.Spots.{Spot}
use Rattle.voice_model.specs.Samples.{Tagged}
use Rattle.voice_model.specs.State.{State, Durable, LaneState, Pending}
use Rattle.voice_model.specs.Step.{landed, after_landing, state_after}
use Rattle.voice_model.specs.Replay.{Rebuilt, acted}
use Rattle.voice_model.proofs.Heard.{answer_on}
use Rattle.running_tables.specs.Running.{Runs}
use Rattle.recovery.specs.declared.parts.Parts.{Parts}
use Rattle.next_changes.specs.Next.{IsNext}
use Rattle.next_changes.specs.declared.NextChange.{NextChange}
use Rattle.crash_laws.specs.Standing.{IsLater}
use Rattle.crash_laws.specs.Calls.{Lands, StaysInDoubt, LandsWithin}
use Rattle.crash_laws.specs.Laws.{LandingsCarry}
use Rattle.voice_store.specs.declared.inside.Inside.{Inside}
use Rattle.voice_store.specs.declared.inside.Doubted.{Doubted}
use Rattle.voice_store.specs.Stood.{tapes_of, last_of, in_form, IsSeated, IsSure, IsUnsure, Stood}
use Rattle.voice_store.specs.Stood as stood
use Rattle.voice_store.specs.Trying.{IsReadyIn}
use Rattle.voice_store.specs.Facts.{landing_at}
use Rattle.voice_store.proofs.Played.{Forgot, keeps_landed, recorded_by_lanes, plays_forgot}
use Rattle.voice_store.proofs.Pushed.{stood_pushed, stood_went_on}

landed_lanes : (s : State) (o : Option Pending) → (after_landing (record s { doubt = None }) o).lanes ≡ s.lanes
landed_lanes s None = refl
landed_lanes s (Some pending) = refl

landed_doubt : (s : State) (o : Option Pending) → (after_landing (record s { doubt = None }) o).doubt ≡ None
landed_doubt s None = refl
landed_doubt s (Some pending) = refl

pub none_some : {A : Type 0} (x : A) → None ≡ Some x → ⊥
none_some x e = cc

true_false : true ≡ false → ⊥
true_false e = cc

-- only where a change is in doubt is one ready
pub unsure_of : (fill : Spot → Tagged) (held : List (List Piece)) (takings : List ℕ) (s : Inside) (b after' : Rebuilt) (last : State) (doubted : Doubted) → s.doubt ≡ Some doubted → IsSure held takings s b after' last ⊎ IsUnsure fill held takings s b after' last → IsUnsure fill held takings s b after' last
unsure_of fill held takings s b after' last doubted is (inl sure) = absurd (none_some doubted (sym sure.sure ∙ is))
unsure_of fill held takings s b after' last doubted is (inr unsure) = unsure

pub sure_of : (fill : Spot → Tagged) (held : List (List Piece)) (takings : List ℕ) (s : Inside) (b after' : Rebuilt) (last : State) → s.doubt ≡ None → IsSure held takings s b after' last ⊎ IsUnsure fill held takings s b after' last → IsSure held takings s b after' last
sure_of fill held takings s b after' last is (inl sure) = sure
sure_of fill held takings s b after' last is (inr unsure) = absurd (none_some unsure.doubted (sym is ∙ unsure.unsure))

pub unsure_by : (fill : Spot → Tagged) (held : List (List Piece)) (takings : List ℕ) (s : Inside) (b after' : Rebuilt) (last : State) → is_none s.doubt ≡ false → IsSure held takings s b after' last ⊎ IsUnsure fill held takings s b after' last → IsUnsure fill held takings s b after' last
unsure_by fill held takings s b after' last is (inl sure) = absurd (true_false (sym (ap (λ (o : Option Doubted). is_none o) sure.sure) ∙ is))
unsure_by fill held takings s b after' last is (inr unsure) = unsure

pub same_doubted : (s : Inside) (x y : Doubted) → s.doubt ≡ Some x → s.doubt ≡ Some y → x ≡ y
same_doubted s x y p q = let both : Some x ≡ Some y = sym p ∙ q in cc

pub is_true : IsTrue true
is_true = search rules

-- the journal that a landing leaves
abbrev pub landed_journal : JournalValue → Doubt → JournalValue
landed_journal journal doubt = record journal { seat = landed_seat journal.seat doubt; doubt = None; is_closed = closed_after journal.is_closed doubt }

module _ (first : State) (t0 : ℕ) (old new : Told) (s s' : Inside) (was : Stood first t0 old s) (unsure : IsUnsure was.fill was.held was.takings s was.b was.after (last_of first s))
    (later : old.calls ≤ new.calls) (sizes : new.size ≡ old.size) (alike : new.honest ≡ old.honest) (moments : IsTrue old.honest → IsLater old new) (carry : LandingsCarry old new) where
  abbrev last : State
  last = last_of first s

  honest : IsTrue new.honest → IsTrue old.honest
  honest h = subst (λ (b : Bool). IsTrue b) alike h

  pub stood_landed : s'.tapes ≡ s.tapes → s'.history.items ≡ s.history.items ++ landing_at new.calls ∷ [] → (IsTrue old.honest → SameElsewhere s.journal.shape old.bytes new.bytes) → KeepsAddresses s.parts.blocks.holders s'.parts.blocks.holders → s'.journal ≡ landed_journal s.journal unsure.doubt
      → ShowsRecordings s'.recordings last → Forgot s s' → s'.doubt ≡ None → s'.parts.form ≡ unsure.doubted.form → Runs was.held [] was.takings (in_form was.b.form s'.parts) (acted was.b unsure.change)
      → (IsTrue old.honest → Lands s.journal s'.journal old new × LandsWithin s.journal old new)
      → Stood first t0 new s'
  stood_landed tapes items elsewhere keeps journal recorded forgot doubt form tables does =
      let lands = unsure.lands in
      let e = landing_at new.calls in
      let next_is : state_after last (tapes_of s) e ≡ landed last = refl in
      let shown : Runs was.held [] was.takings (in_form unsure.doubted.form s'.parts) was.after = lands.tables was.held was.takings (in_form was.b.form s'.parts) tables in
      let shows : Runs was.held [] was.takings s'.parts was.after = subst (λ (f : ℕ). Runs was.held [] was.takings (in_form f s'.parts) was.after) (sym form) shown in
      let none : (landed last).doubt ≡ None = landed_doubt last last.doubt in
      let seated : IsSeated s'.journal (landed last) =
      subst (λ (j : JournalValue). IsSeated j (landed last)) (sym journal) (record { shape = lands.seated.shape; left = lands.seated.left; epoch = lands.seated.epoch }) in
      stood_pushed first t0 old new s s' e tapes items was.fill was.b was.after was.after was.after was.held was.takings was.upright later alike refl
      (answer_on new.honest last (tapes_of s) e (refl, refl, subst (λ (o : Option Pending). IsTrue (is_some o)) (sym unsure.in_state) is_true))
      lands.valid
      (subst (λ (l : List LaneState). stood.IsHolding was.held was.takings s'.journal.shape.block l) (sym (landed_lanes last last.doubt))
      (subst (λ (j : JournalValue). stood.IsHolding was.held was.takings j.shape.block last.lanes) (sym journal) was.holding))
      lands.fills seated
      (λ h. let d = does (honest h) in carry.ok first (tapes_of s) t0 s.journal s'.journal was.b was.after s.history.items unsure.pending (moments (honest h)) (was.upright.held (honest h)) unsure.in_state d.0 d.1)
      (λ h. subst (λ (j : JournalValue). HaveBytes was.fill j.shape new.bytes s'.parts.blocks.holders (landed last)) (sym journal)
      (still_has was.fill s.journal.shape old.bytes new.bytes s.parts.blocks.holders s'.parts.blocks.holders last (landed last) (takes_same last (landed last) (landed_lanes last last.doubt)) keeps (stays_elsewhere s.journal.shape old.bytes new.bytes (elsewhere (honest h))) (was.upright.bytes (honest h))))
      (inl (record { sure = doubt; in_journal = ap (λ (j : JournalValue). j.doubt) journal; in_state = none; tables = shows; same = refl }))
      (let keeps_on = keeps_landed last was.upright.valid in
      plays_forgot was.fill old.honest new.honest s s' last (landed last) alike (ap (λ (j : JournalValue). j.shape) journal) keeps_on
      (recorded_by_lanes s'.recordings last (landed last) keeps_on.shape (landed_lanes last last.doubt) recorded) was.playing forgot)
      (let is = was.size in let shape : s'.journal.shape ≡ s.journal.shape = ap (λ (j : JournalValue). j.shape) journal in
      subst (λ (x : Shape). extent x ≤ new.size) (sym shape) (omega (arith, is, sizes)))

  pub stood_not_landed : (journal : JournalValue) → journal ≡ s.journal → (IsTrue old.honest → SameElsewhere s.journal.shape old.bytes new.bytes) → (IsTrue old.honest → StaysInDoubt s.journal journal old new × LandsWithin s.journal old new) → Stood first t0 new (record s { journal = journal })
  stood_not_landed journal same elsewhere stays =
      subst (λ (j : JournalValue). Stood first t0 new (record s { journal = j })) (sym same)
      (stood_went_on first t0 old new s was later sizes alike
      (λ h. let d = stays (honest h) in
      carry.failed first (tapes_of s) t0 s.journal s.journal was.b was.after s.history.items unsure.pending (moments (honest h)) (was.upright.held (honest h)) unsure.in_state
      (subst (λ (j : JournalValue). StaysInDoubt s.journal j old new) same d.0) d.1)
      (λ h. stays_elsewhere s.journal.shape old.bytes new.bytes (elsewhere h)))

-- ---- what is ready

-- what is rebuilt has the shape of the journal
pub shape_of : (first : State) (t0 : ℕ) (disk : Told) (s : Inside) (was : Stood first t0 disk s) → was.b.shape ≡ s.journal.shape
shape_of first t0 disk s was = ap (λ (d : Durable Tagged). d.shape) was.upright.fills.kept ∙ was.upright.seated.shape

pub ready_in : (first : State) (t0 : ℕ) (disk : Told) (s : Inside) (was : Stood first t0 disk s) (unsure : IsUnsure was.fill was.held was.takings s was.b was.after (last_of first s)) (doubted : Doubted) (s' : Inside)
    → unsure.doubted ≡ doubted → s'.parts ≡ s.parts → s'.journal.shape ≡ s.journal.shape → IsReadyIn s' doubted.next
ready_in first t0 disk s was unsure doubted s' same parts shape = record {
  held = was.held;
  takings = was.takings;
  b = was.b;
  c = unsure.change;
  ready = subst (λ (p : Parts). IsNext was.held was.takings p was.b doubted.next unsure.change) (sym parts) (subst (λ (d : Doubted). IsNext was.held was.takings s.parts was.b d.next unsure.change) same unsure.ready);
  in_shape = shape_of first t0 disk s was ∙ sym shape;
}

pub ready_again : (s s' : Inside) (next : NextChange) → s'.parts ≡ s.parts → s'.journal.shape ≡ s.journal.shape → IsReadyIn s next → IsReadyIn s' next
ready_again s s' next parts shape ready = record { held = ready.held; takings = ready.takings; b = ready.b; c = ready.c; ready = subst (λ (p : Parts). IsNext ready.held ready.takings p ready.b next ready.c) (sym parts) ready.ready; in_shape = ready.in_shape ∙ sym shape }
