-- A change that went to the journal: it is done, it failed before it counted, or it is in doubt.
use Rattle.std.proofs.Common.{◌≡◌, inl, inr, ℕ, ◌≤◌, Bool, List, [], ◌∷◌, ◌++◌, Option, Some, None, IsTrue, refl, sym, ◌∙◌, ap, subst, arith}
use Rattle.std.specs.Prelude.{Vec}
use Rattle.std.specs.declared.alloc.Global.{Global}
use Rattle.voice_units.specs.declared.pieces.Piece.{Piece}
use Rattle.voice_outside.specs.Disk.{Told}
use Rattle.voice_units.specs.declared.shapes.Shape.{Shape}
use Rattle.voice_journal.specs.Places.{JournalValue, landed as landed_seat}
use Rattle.voice_journal.specs.Readings.{extent, SameElsewhere}
use Rattle.voice_journal.specs.declared.seats.Seat.{Seat}
use Rattle.voice_model.specs.Samples.{Tagged}
use Rattle.voice_model.specs.State.{State, Pending, Effect}
use Rattle.voice_model.specs.Changes.{committed}
use Rattle.voice_model.specs.Step.{landed, state_after, IsAnswer, IsReply}
use Rattle.voice_model.specs.Replay.{Rebuilt, acted}
use Rattle.voice_model.specs.Valid.{IsState}
use Rattle.voice_model.specs.declared.calls.Call.{Call}
use Rattle.voice_model.specs.declared.calls.Reply.{Reply}
use Rattle.voice_model.specs.declared.calls.Reply.TheVariants as replies
use Rattle.voice_model.specs.declared.calls.Why.TheVariants as why
use Rattle.voice_model.specs.declared.calls.Entry.{Entry}
use Rattle.voice_model.specs.declared.changes.Change.{Change}
use Rattle.voice_model.proofs.Heard.{answer_on}
use Rattle.voice_model.proofs.StatesKept.{state_kept}
use Rattle.running_tables.specs.Running.{Runs}
use Rattle.recovery.specs.declared.parts.Parts.{Parts}
use Rattle.voice_blocks.specs.Holders.{Holders}
use Rattle.next_ropes.specs.Addresses.{KeepsAddresses}
use Rattle.next_changes.specs.Next.{IsNext}
use Rattle.next_changes.proofs.Given.{given}
use Rattle.recovery.specs.Shown.{Shows}
use Rattle.crash_laws.specs.Foundations.{Foundations}
use Rattle.crash_laws.specs.Laws.{DisksAreHonest}
use Rattle.crash_laws.specs.Standing.{IsLater}
use Rattle.crash_laws.specs.Calls.{Does, Undoes, Doubts, StaysWithin}
use Rattle.crash_laws.proofs.Changing.{failures_carry}
use Rattle.voice_store.specs.declared.inside.Inside.{Inside}
use Rattle.voice_store.specs.declared.inside.Doubted.{Doubted}
use Rattle.voice_store.specs.declared.committing.Plan.{Plan}
use Rattle.playing.specs.Lanes.{LanesState}
use Rattle.voice_store.specs.Stood.{tapes_of, last_of, in_form, Fills, Brings, IsSeated, IsHolding, Plays, Stood, Lands}
use Rattle.voice_store.specs.Facts.{landing_at}
use Rattle.recording_calls.specs.Shown.{ShowsRecordings}
use Rattle.voice_store.specs.Filled.{HaveBytes}
use Rattle.record_job.specs.Recording.{Recording}
use Rattle.voice_store.specs.declared.going.Going.{Going}
use Rattle.voice_store.specs.Going.{counted_as, IsCounted, closed_in}
use Rattle.voice_store.specs.Trying.{Trying, place_of, records_after, form_after}
use Rattle.voice_store.proofs.OnItsWay.{counted_has}
use Rattle.voice_store.proofs.Filled.{still_has, takes_same, stays_elsewhere}
use Rattle.voice_store.specs.Playing.{KeepsJobs, KeepsTakings}
use Rattle.voice_store.proofs.Planned.{Planned, known, closed, done, waiting, said, next_done}
use Rattle.voice_store.proofs.Played.{Forgot, Unmoved, keeps_itself, keeps_committed, recorded_by_lanes, plays_forgot, plays_unmoved}
use Rattle.voice_store.proofs.Pushed.{stood_pushed}
use Rattle.voice_store.proofs.Settled.{is_true}

-- a place in the journal that another value of it has too
seated_as : (j j' : JournalValue) (s : State) → j'.shape ≡ j.shape → j'.seat ≡ j.seat → IsSeated j s → IsSeated j' s
seated_as j j' s shape seat is =
    let area : j'.shape.area ≡ j.shape.area = ap (λ (x : Shape). x.area) shape in
    let gate : j'.seat.gate ≡ j.seat.gate = ap (λ (x : Seat). x.gate) seat in
    let left = is.left in
    record { shape = is.shape ∙ sym shape; left = omega (arith, left, gate, area); epoch = is.epoch ∙ sym (ap (λ (x : Seat). x.epoch) seat) }

-- the disk went on, and wrote to the areas alone
pub record Went (shape : Shape) (old new : Told) : Type 0 where
  pub later : old.calls ≤ new.calls
  pub size : new.size ≡ old.size
  pub alike : new.honest ≡ old.honest
  pub moments : IsTrue old.honest → IsLater old new
  pub elsewhere : IsTrue old.honest → SameElsewhere shape old.bytes new.bytes

-- by what a call of the journal tells
pub went_on : (shape : Shape) (old new : Told) → old.calls ≤ new.calls → new.size ≡ old.size → new.honest ≡ old.honest → DisksAreHonest old → DisksAreHonest new → (IsTrue old.honest → SameElsewhere shape old.bytes new.bytes) → Went shape old new
went_on shape old new later size alike was is elsewhere = record {
  later = later;
  size = size;
  alike = alike;
  moments = λ h. record { later = later; was = was h; is = is (subst (λ (x : Bool). IsTrue x) (sym alike) h) };
  elsewhere = elsewhere;
}

module _ {first : State} {t0 : ℕ} {old : Told} {s : Inside} {b : Rebuilt} {going : Going} {c : Change} {effect : Effect Tagged} {caller : ℕ} {call : Call} {reply : Reply}
    (tr : Trying first t0 old s b going c effect caller call reply) where
  abbrev last : State
  last = last_of first s

  valid_waits : IsState (waiting tr)
  valid_waits = subst (λ (t : State). IsState t) (tr.may.waits 0) (state_kept last (tapes_of s) (said tr (replies.No why.InDoubt) 0) tr.upright.valid tr.in_range tr.may.doubts)

  -- the change fits, so the next number does not fall
  keeps_done : KeepsJobs last (done tr)
  keeps_done = let on = keeps_committed (closed tr) last.form effect valid_waits.doubt.1 in record { jobs = tr.jobs; made = refl; shape = on.shape; next = on.next }

  answers_done : (calls : ℕ) → IsAnswer last (tapes_of s) (said tr reply calls)
  answers_done calls = subst (λ (r : Reply). IsReply last (tapes_of s) caller call r) tr.replies tr.may.answers

  -- once it lands, the state is the one with the change
  lands_then : landed (waiting tr) ≡ done tr
  lands_then = ap (λ (o : Option Pending). committed (record (closed tr) { doubt = o }) last.form effect) (sym tr.may.sure)

  valid_landed : IsState (landed (waiting tr))
  valid_landed = state_kept (waiting tr) (tapes_of s) (landing_at 0) valid_waits tt (refl, refl, is_true)

  module _ {new : Told} (went : Went s.journal.shape old new) (laws : Foundations) where
    was_honest : IsTrue new.honest → IsTrue old.honest
    was_honest h = subst (λ (x : Bool). IsTrue x) went.alike h

    shape_fits : (shape : Shape) → shape ≡ s.journal.shape → extent shape ≤ new.size
    shape_fits shape same = let is = tr.size in let size = went.size in subst (λ (x : Shape). extent x ≤ new.size) (sym same) (omega (arith, is, size))

    -- the lanes hold what they held
    still_holding : (shape : Shape) → shape ≡ s.journal.shape → IsHolding tr.held tr.takings shape.block last.lanes
    still_holding shape same = subst (λ (x : Shape). IsHolding tr.held tr.takings x.block last.lanes) (sym same) tr.holding

    -- or what they hold once it counts
    then_holding : (shape : Shape) → shape ≡ s.journal.shape → IsHolding tr.held tr.more shape.block tr.lanes
    then_holding shape same = subst (λ (x : Shape). IsHolding tr.held tr.more x.block tr.lanes) (sym same) tr.holding_then

    -- the blocks have their bytes still
    still : (shape : Shape) → shape ≡ s.journal.shape → (holders : Holders) → KeepsAddresses s.parts.blocks.holders holders → IsTrue new.honest → HaveBytes tr.fill shape new.bytes holders last
    still shape same holders keeps is =
        let was = was_honest is in
        subst (λ (x : Shape). HaveBytes tr.fill x new.bytes holders last) (sym same)
        (still_has tr.fill s.journal.shape old.bytes new.bytes s.parts.blocks.holders holders last last (takes_same last last refl) keeps (stays_elsewhere s.journal.shape old.bytes new.bytes (went.elsewhere was)) (tr.upright.bytes was))

    -- also as it counts
    then_has : (shape : Shape) → shape ≡ s.journal.shape → (counted holders : Holders) → IsCounted going s.parts.blocks.holders counted → KeepsAddresses counted holders
        → (then : State) → KeepsTakings (closed tr) then → IsTrue new.honest → HaveBytes tr.fill shape new.bytes holders then
    then_has shape same counted holders counts keeps then takes is =
        let was = was_honest is in
        subst (λ (x : Shape). HaveBytes tr.fill x new.bytes holders then) (sym same)
        (still_has tr.fill s.journal.shape old.bytes new.bytes counted holders (closed tr) then takes keeps (stays_elsewhere s.journal.shape old.bytes new.bytes (went.elsewhere was))
        (counted_has tr.fill s.journal.shape old.bytes going s.parts.blocks.holders counted last tr.lanes tr.takes counts (tr.will_have was) (tr.upright.bytes was)))

    -- the lanes play on while the change is in doubt, or was given back
    plays_on : (s' : Inside) (then : State) → KeepsJobs last then → ShowsRecordings s'.recordings then → s'.journal.shape ≡ s.journal.shape → Unmoved s s' → Shows tr.held s'.parts b.kept → Plays tr.fill new.honest s' then
    plays_on s' then keeps recorded shape unmoved shows = plays_unmoved tr.fill old.honest new.honest s s' last then went.alike shape keeps recorded tr.playing unmoved tr.held b.kept (known tr).runs.kept shows

    -- open recordings once it counts
    records : (recordings : List (Option Recording)) → recordings ≡ closed_in going s.recordings → ShowsRecordings recordings (closed tr)
    records recordings same = subst (λ (r : List (Option Recording)). ShowsRecordings r (closed tr)) (sym same) tr.recorded

    -- it failed before it counted, in whatever way it went
    pub stood_failed : (journal : JournalValue) (parts : Parts) (history : Vec Entry Global) → journal ≡ record s.journal { is_closed = journal.is_closed }
        → history.items ≡ s.history.items ++ said tr (replies.No why.DiskFault) new.calls ∷ [] → KeepsAddresses s.parts.blocks.holders parts.blocks.holders → Runs tr.held [] tr.takings parts b
        → (IsTrue old.honest → Undoes s.journal journal old new)
        → Stood first t0 new (record s { journal = journal; parts = parts; history = history })
    stood_failed journal parts history at items keeps tables undoes =
        let s' : Inside = record s { journal = journal; parts = parts; history = history } in
        let e = said tr (replies.No why.DiskFault) new.calls in
        let next : state_after last (tapes_of s) e ≡ last = tr.may.faults.stays new.calls in
        let to : (P : State → Type 0) → P last → P (state_after last (tapes_of s) e) = λ P p. subst P (sym next) p in
        let shape : journal.shape ≡ s.journal.shape = ap (λ (j : JournalValue). j.shape) at in
        stood_pushed first t0 old new s s' e refl items tr.fill b b b b tr.held tr.takings tr.upright went.later went.alike refl (answer_on new.honest last (tapes_of s) e tr.may.faults.answers)
        (to (λ t. IsState t) tr.upright.valid)
        (to (λ t. IsHolding tr.held tr.takings journal.shape.block t.lanes) (still_holding journal.shape shape))
        (to (λ t. Fills tr.fill b t) tr.upright.fills)
        (to (λ t. IsSeated journal t) (seated_as s.journal journal last shape (ap (λ (j : JournalValue). j.seat) at) tr.upright.seated))
        (λ h. let h' = was_honest h in
        (failures_carry laws old new).before first (tapes_of s) t0 s.journal journal b b s.history.items e (went.moments h') (tr.upright.held h') tr.may.sure (undoes h') refl
        (record { kept = ap (λ (t : State). t.kept) next; doubt = ap (λ (t : State). t.doubt) next; form = ap (λ (t : State). t.form) next; left = ap (λ (t : State). t.left) next }))
        (λ h. to (λ t. HaveBytes tr.fill journal.shape new.bytes parts.blocks.holders t) (still journal.shape shape parts.blocks.holders keeps h))
        (inl (record { sure = tr.sure; in_journal = ap (λ (j : JournalValue). j.doubt) at ∙ tr.in_journal; in_state = to (λ t. t.doubt ≡ None) tr.may.sure; tables = tables; same = refl }))
        (to (λ t. Plays tr.fill new.honest s' t) (plays_on s' last (keeps_itself last) tr.playing.recorded shape (record { lanes = refl; made = refl }) tables.kept))
        (shape_fits journal.shape shape)

    module _ {plan : Plan} (planned : Planned tr plan) where
      in_form_then : (form : ℕ) → form ≡ form_after plan s.parts.form → (held : List (List Piece)) (takings : List ℕ) (parts : Parts) → Runs held [] takings parts (acted b c) → Runs held [] takings (in_form form parts) planned.after
      in_form_then form is held takings parts shows = subst (λ (f : ℕ). Runs held [] takings (in_form f parts) planned.after) (sym is) (planned.tables held takings parts shows)

      -- it is done
      pub stood_done : (journal : JournalValue) (form : ℕ) (parts : Parts) (lanes : LanesState) (recordings : List (Option Recording)) (history : Vec Entry Global)
          → journal ≡ record s.journal { seat = landed_seat s.journal.seat (place_of going plan); is_closed = journal.is_closed } → form ≡ form_after plan s.parts.form
          → history.items ≡ s.history.items ++ said tr reply new.calls ∷ [] → (counted : Holders) → IsCounted going s.parts.blocks.holders counted → KeepsAddresses counted parts.blocks.holders
          → recordings ≡ closed_in going s.recordings → Forgot s (record s { parts = parts; lanes = lanes }) → Runs tr.held [] tr.more parts (acted b c)
          → (IsTrue old.honest → Does (records_after going plan) s.journal journal old new × StaysWithin (records_after going plan) s.journal old new)
          → Stood first t0 new (record s { journal = journal; parts = in_form form parts; lanes = lanes; recordings = recordings; history = history })
      stood_done journal form parts lanes recordings history at is_form items counted counts keeps closes forgot tables does =
          let s' : Inside = record s { journal = journal; parts = in_form form parts; lanes = lanes; recordings = recordings; history = history } in
          let e = said tr reply new.calls in
          let to : (P : State → Type 0) → P (done tr) → P (state_after last (tapes_of s) e) = λ P p. subst P (sym (next_done tr new.calls)) p in
          let shape : journal.shape ≡ s.journal.shape = ap (λ (j : JournalValue). j.shape) at in
          let seat : JournalValue = record s.journal { seat = landed_seat s.journal.seat (place_of going plan) } in
          stood_pushed first t0 old new s s' e refl items tr.fill b planned.after b planned.after tr.held tr.more tr.upright went.later went.alike refl (answer_on new.honest last (tapes_of s) e (answers_done new.calls))
          (state_kept last (tapes_of s) e tr.upright.valid tr.in_range (answers_done new.calls))
          (to (λ t. IsHolding tr.held tr.more journal.shape.block t.lanes) (then_holding journal.shape shape))
          (to (λ t. Fills tr.fill planned.after t) planned.fills)
          (to (λ t. IsSeated journal t) (seated_as seat journal (done tr) shape (ap (λ (j : JournalValue). j.seat) at) planned.seated))
          (λ h. let h' = was_honest h in let d = does h' in planned.held_done new journal h' (went.moments h') d.0 d.1)
          (λ h. to (λ t. HaveBytes tr.fill journal.shape new.bytes parts.blocks.holders t) (then_has journal.shape shape counted parts.blocks.holders counts keeps (done tr) (takes_same (closed tr) (done tr) refl) h))
          (inl (record {
            sure = tr.sure;
            in_journal = ap (λ (j : JournalValue). j.doubt) at ∙ tr.in_journal;
            in_state = to (λ t. t.doubt ≡ None) tr.may.sure;
            tables = in_form_then form is_form tr.held tr.more parts tables;
            same = refl;
          }))
          (to (λ t. Plays tr.fill new.honest s' t)
          (plays_forgot tr.fill old.honest new.honest s s' last (done tr) went.alike shape keeps_done
          (recorded_by_lanes recordings (closed tr) (done tr) keeps_done.shape refl (records recordings closes)) tr.playing
          (record { forgot = forgot.forgot; bytes = forgot.bytes; made = refl })))
          (shape_fits journal.shape shape)

      -- it is in doubt
      pub stood_waits : (journal : JournalValue) (form : ℕ) (parts : Parts) (recordings : List (Option Recording)) (history : Vec Entry Global)
          → journal ≡ record s.journal { doubt = Some (place_of going plan); is_closed = journal.is_closed } → form ≡ form_after plan s.parts.form
          → history.items ≡ s.history.items ++ said tr (replies.No why.InDoubt) new.calls ∷ []
          → IsNext tr.held tr.more parts b (counted_as going) c → IsCounted going s.parts.blocks.holders parts.blocks.holders → recordings ≡ closed_in going s.recordings
          → (IsTrue old.honest → Doubts (records_after going plan) s.journal journal old new × StaysWithin (records_after going plan) s.journal old new)
          → Stood first t0 new (record s { journal = journal; parts = parts; recordings = recordings; doubt = Some (record { next = counted_as going; form = form }); history = history })
      stood_waits journal form parts recordings history at is_form items ready counts closes doubts =
          let doubted : Doubted = record { next = counted_as going; form = form } in
          let s' : Inside = record s { journal = journal; parts = parts; recordings = recordings; doubt = Some doubted; history = history } in
          let e = said tr (replies.No why.InDoubt) new.calls in
          let to : (P : State → Type 0) → P (waiting tr) → P (state_after last (tapes_of s) e) = λ P p. subst P (sym (tr.may.waits new.calls)) p in
          let there : (P : State → Type 0) → P (done tr) → P (landed (waiting tr)) = λ P p. subst P (sym lands_then) p in
          let shape : journal.shape ≡ s.journal.shape = ap (λ (j : JournalValue). j.shape) at in
          let seat : journal.seat ≡ s.journal.seat = ap (λ (j : JournalValue). j.seat) at in
          let before : JournalValue = record s.journal { seat = landed_seat s.journal.seat (place_of going plan) } in
          let after' : JournalValue = record journal { seat = landed_seat journal.seat (place_of going plan) } in
          stood_pushed first t0 old new s s' e refl items tr.fill b b b planned.after tr.held tr.more tr.upright went.later went.alike refl (answer_on new.honest last (tapes_of s) e tr.may.doubts)
          (to (λ t. IsState t) valid_waits)
          (to (λ t. IsHolding tr.held tr.more journal.shape.block t.lanes) (then_holding journal.shape shape))
          (to (λ t. Fills tr.fill b t) (record { spots = tr.upright.fills.spots; kept = tr.upright.fills.kept; form = tr.upright.fills.form }))
          (to (λ t. IsSeated journal t)
          (seated_as s.journal journal (waiting tr) shape seat (record { shape = tr.upright.seated.shape; left = tr.upright.seated.left; epoch = tr.upright.seated.epoch })))
          (λ h. let h' = was_honest h in let d = doubts h' in planned.held_waits new journal h' (went.moments h') d.0 d.1)
          (λ h. to (λ t. HaveBytes tr.fill journal.shape new.bytes parts.blocks.holders t)
          (then_has journal.shape shape parts.blocks.holders parts.blocks.holders counts (λ a holder had. had) (waiting tr) (takes_same (closed tr) (waiting tr) refl) h))
          (inr (record {
            doubted = doubted;
            unsure = refl;
            pending = record { effect = effect; form = last.form };
            in_state = to (λ t. t.doubt ≡ Some (record { effect = effect; form = last.form })) refl;
            doubt = place_of going plan;
            in_journal = ap (λ (j : JournalValue). j.doubt) at;
            change = c;
            ready = ready;
            addresses = tr.addresses;
            spelled = tr.change;
            brings_it = to (λ t. Brings tr.fill b c t effect) (record { spots = tr.brings_it.spots; kept = tr.brings_it.kept });
            lands = to (λ t. Lands tr.fill journal doubted b planned.after t c (place_of going plan)) (record {
              tables = in_form_then form is_form;
              places = planned.places;
              fills = there (λ t. Fills tr.fill planned.after t) planned.fills;
              seated = there (λ t. IsSeated after' t) (seated_as before after' (done tr) shape (ap (λ (x : Seat). landed_seat x (place_of going plan)) seat) planned.seated);
              valid = valid_landed;
            });
          }))
          (to (λ t. Plays tr.fill new.honest s' t)
          (plays_on s' (waiting tr) (record { jobs = tr.jobs; made = refl; shape = refl; next = omega arith })
          (recorded_by_lanes recordings (closed tr) (waiting tr) refl refl (records recordings closes)) shape (record { lanes = refl; made = refl })
          (given tr.held tr.more parts b (counted_as going) c ready).runs.kept))
          (shape_fits journal.shape shape)
